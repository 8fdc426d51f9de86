use Rattle.std.proofs.Common.{subst, sym}
use Rattle.mid_program.specs.Mid.{Program}
use Rattle.mid_program.specs.Sorted.{IsSorted}
use Rattle.mid_program.specs.View.{view_mid}
use Rattle.mid_program.specs.SameRuns.{SameRuns}
use Rattle.folding.specs.Folding.{fold}
use Rattle.folding.specs.Left.{NoneLeft}
use Rattle.folding.proofs.Folds.{folds}
use Rattle.folding.proofs.Left.{none_left}
use Rattle.folding.proofs.Sorted.{fold_sorted}
use Rattle.folding.proofs.program.fold.Goals as goal

pub returns-clause-code : goal.returns-clause-code
returns-clause-code c = λ i. record (fold (view_mid c.args.mid)) {
  routines = c.fold_routines.ensures i;
  begin = c.fold_steps.ensures i;
  items = c.fold_steps-2.ensures i;
  end = c.fold_steps-3.ensures i;
}

pub returns-clause-same_meaning : goal.returns-clause-same_meaning
returns-clause-same_meaning c = subst (λ (p : Program). SameRuns p (view_mid c.args.mid)) (sym (returns-clause-code c)) (folds (view_mid c.args.mid))

pub returns-clause-none_left : goal.returns-clause-none_left
returns-clause-none_left c = subst NoneLeft (sym (returns-clause-code c)) (none_left (view_mid c.args.mid))

pub returns-clause-sorted : goal.returns-clause-sorted
returns-clause-sorted c = λ h. subst IsSorted (sym (returns-clause-code c)) (fold_sorted (view_mid c.args.mid) h)
