-- What a single step is as reductions.
use Rattle.std.specs.Prelude.{List, ◌++◌}
use Rattle.wasm_model.specs.declared.ends.End.{End}
use Rattle.wasm_model.specs.Hosts.{Meaning}
use Rattle.wasm_model.specs.Machines.{Conf, ProgramForm, Turn}
use Rattle.wasm_model.specs.Runs.{TakenAs, OverBy}
use Rattle.wasm_model.specs.Reductions.{IsReduced, EndsIn}

-- A step is reductions that count one step, whatever was written before. An end is reductions too.
abbrev pub IsStepReduced : {H O : Type 0} → Meaning H O → ProgramForm → Turn → Conf → H → Type 0
IsStepReduced {H} {O} M m t c h =
    ((out more : List O) (c' : Conf) (h' : H) → TakenAs M t h c.memory more c' h' → IsReduced M m 1 c h out c' h' (out ++ more))
    × ((out more : List O) (e : End) (h' : H) → OverBy M t h c.memory more e h' → EndsIn M m 0 c h out e h' (out ++ more))
