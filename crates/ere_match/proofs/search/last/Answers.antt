use Rattle.std.proofs.Common.{sym, ◌∙◌, subst}
use Rattle.ere_match.specs.declared.dead_ends.DeadEnds.{DeadEnds}
use Rattle.ere_match.specs.Ends.{AreDead}
use Rattle.ere_match.proofs.Ends.{end_dead}
use Rattle.ere_match.proofs.Hastes.{not_some}
use Rattle.ere_match.proofs.search.last.Goals as goal
use Rattle.ere_match.proofs.search.last.Goals.{then-is_some, else-is_some}

pub returns-clause-ends : goal.returns-clause-ends
returns-clause-ends c = λ all text on known is_first e t. elim c.if-is_some.branch [
  | then-is_some w ↦ subst (λ (x : DeadEnds). AreDead all text x) (sym w.ends-is) (w.forget.ensures.dead all text c.args.end on c.args.row.now t)
  | else-is_some w ↦ subst (λ (x : DeadEnds). AreDead all text x) (sym w.ends-is)
      (end_dead all text c.args.end c.args.end on c.args.row.now c.args.ends.now known is_first e (not_some c.args.row.now.at_end (sym c.is_some.ensures ∙ w.if-is_some.false)) t)
]
