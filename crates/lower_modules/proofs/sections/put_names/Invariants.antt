use Rattle.std.proofs.Common.{◌≡◌, ◌++◌, map, drop}
use Rattle.mid_program.specs.declared.program.Declared.{Declared}
use Rattle.lower_model.specs.Places.{memory_of}
use Rattle.lower_modules.proofs.sections.put_names.Given as goal

abbrev pub invariant-loop-declared : goal.invariant-loop-declared
invariant-loop-declared l =
    l.bytes.items ++ memory_of (map (λ (d : Declared). d.name.items) (drop l.declared-index l.globals)) ≡ l.fn.bytes.items ++ memory_of (map (λ (d : Declared). d.name.items) l.globals)
