use Rattle.std.proofs.Common.{sym, ap, ◌∙◌}
use Rattle.std.specs.declared.vec.Vec.{Vec}
use Rattle.std.specs.declared.alloc.Global.{Global}
use Rattle.wasm_types.specs.Syntax.{Done}
use Rattle.wasm_types.specs.View.{views}
use Rattle.wasm_types.specs.declared.instr.Instr.{Instr}
use Rattle.lower_pieces.proofs.Appended.{followed_end}
use Rattle.lower_pieces.proofs.emission.enclosed.Goals as goal

pub returns : goal.returns
returns c = λ whole h.
    ap (λ (v : Vec Instr Global). views v.items) c.in_ok-new.ensures.ok ∙ ap views c.trimmed-code.ensures ∙ sym (followed_end _) ∙ c.in_ok-all.ensures Done whole h
