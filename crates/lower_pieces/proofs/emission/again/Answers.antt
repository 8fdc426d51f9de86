use Rattle.std.proofs.Common.{None, ap, ◌∙◌}
use Rattle.wasm_types.specs.Syntax.{Loop, Then}
use Rattle.wasm_types.proofs.Views.{view_loop}
use Rattle.lower_pieces.proofs.Appended.{reads_by}
use Rattle.lower_pieces.proofs.emission.again.Goals as goal

pub returns-in-Ok : goal.returns-in-Ok
returns-in-Ok c = λ inside p k w h. c.put.ensures k w (reads_by (ap (λ i. Then i k) (view_loop None c.in-Ok.code ∙ ap (Loop None) (c.in-Ok.ensures inside p))) h)

pub returns-in-Err : goal.returns-in-Err
returns-in-Err c = λ inside p k w h. c.refuse.ensures k w
