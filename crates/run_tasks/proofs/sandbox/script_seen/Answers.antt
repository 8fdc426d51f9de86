use Rattle.std.proofs.Common.{ap, inr, refl}
use Rattle.task_pages.specs.Jobs.{files_of_task}
use Rattle.run_tasks.proofs.Outlets.{none_out, text_out}
use Rattle.run_tasks.proofs.Unknown.{any_text}
use Rattle.run_tasks.proofs.sandbox.script_seen.Goals as goal

pub returns-in-Ok-clause-answers : goal.returns-in-Ok-clause-answers
returns-in-Ok-clause-answers g c = any_text _ c.args.task.now c.args.task.now.subject.now _ _ _ c.script_seen_behind-end.ensures.answers

pub returns-in-Ok-clause-gave : goal.returns-in-Ok-clause-gave
returns-in-Ok-clause-gave g c = text_out _ c.in-Ok.world.inner c.script_seen_behind-end.result.2.inner (λ w. w.inner) (λ w. w.streams.items) (λ w. w.named)
    (λ w. g.O.Write.contents w.output) (λ w. g.E.Write.contents w.errors) _ _ _ c.in-Ok.ensures.streams c.in-Ok.ensures.named
    (ap g.O.Write.contents c.in-Ok.ensures.output) (ap g.E.Write.contents c.in-Ok.ensures.errors) c.args.task.now c.args.task.now.subject.now _ _ _ c.script_seen_behind-end.ensures.answers

pub returns-in-Ok-clause-seen : goal.returns-in-Ok-clause-seen
returns-in-Ok-clause-seen g c = c.script_seen_behind-end.ensures.seen

-- nothing is run for want of memory
pub returns-in-Err-clause-answers : goal.returns-in-Err-clause-answers
returns-in-Err-clause-answers g c = record { after = files_of_task c.args.task.now; answers = inr (refl, tt) }

pub returns-in-Err-clause-gave : goal.returns-in-Err-clause-gave
returns-in-Err-clause-gave g c = record { after = files_of_task c.args.task.now; answers = inr (refl, none_out _ _ _ _) }
