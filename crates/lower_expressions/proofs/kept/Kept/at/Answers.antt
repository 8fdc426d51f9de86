use Rattle.std.proofs.Common.{arith}
use Rattle.lower_expressions.proofs.Keepings.{form_from_end, form_past_end, temporary_from_end, temporary_past_end}
use Rattle.lower_expressions.proofs.kept.Kept.at.Goals as goal

pub returns-clause-form : goal.returns-clause-form
returns-clause-form c = form_from_end c.self.inside.entries.items c.args.after _ c.index.result.now c.args.self.now c.self.view_is (omega arith) (omega arith) c.index.ensures

pub returns-clause-temporary : goal.returns-clause-temporary
returns-clause-temporary c = temporary_from_end c.self.inside.entries.items c.args.after _ c.index.result.now c.args.self.now c.self.view_is (omega arith) (omega arith) c.index.ensures

pub returns-then-count-after-clause-form : goal.returns-then-count-after-clause-form
returns-then-count-after-clause-form c = form_past_end c.self.inside.entries.items c.args.after c.args.self.now c.self.view_is (omega arith)

pub returns-then-count-after-clause-temporary : goal.returns-then-count-after-clause-temporary
returns-then-count-after-clause-temporary c = temporary_past_end c.self.inside.entries.items c.args.after c.args.self.now c.self.view_is (omega arith)
