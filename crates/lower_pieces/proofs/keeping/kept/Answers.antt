use Rattle.std.proofs.Common.{sym, subst}
use Rattle.sem_primitives.specs.declared.sorts.Answer.{Answer}
use Rattle.lower_model.specs.Small.{kept}
use Rattle.lower_pieces.specs.Emits.{Emits}
use Rattle.lower_pieces.proofs.keeping.kept.Goals as goal

pub returns-in-Done : goal.returns-in-Done
returns-in-Done c = subst (λ (a : Answer). Emits c.args.out.now c.kept_done.new.out (kept c.args.bases.now c.args.faults a c.args.temporary c.args.exit)) (sym c.in-Done.is) (c.kept_done.ensures c.args.bases.now)
