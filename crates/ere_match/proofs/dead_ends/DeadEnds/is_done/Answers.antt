use Rattle.std.proofs.Common.{sym, ◌∙◌, Result, Ok, Err}
use Rattle.std.specs.Prelude.{IfOk}
use Rattle.ere_match.proofs.Hastes.{not_some}
use Rattle.ere_match.proofs.dead_ends.DeadEnds.is_done.Goals as goal

always : {X E : Type 0} (r : Result X E) (P : X → Type 0) → ((x : X) → P x) → IfOk r P
always (Ok x) P h = h x
always (Err e) P h = tt

pub returns-clause-none : goal.returns-clause-none
returns-clause-none c = always c.note.result _ (λ over is. not_some c.args.row.now.inside (sym c.is_some.ensures ∙ c.if-is_some.false))

pub returns-clause-over : goal.returns-clause-over
returns-clause-over c = λ all text end less known t. c.note.ensures.over all text end less t
