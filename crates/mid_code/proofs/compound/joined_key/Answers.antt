use Rattle.std.proofs.Common.{ap, ◌∙◌}
use Rattle.sem_primitives.specs.declared.table.Primitive.TheVariants as row
use Rattle.mid_program.specs.Mid.{Code}
use Rattle.mid_program.specs.Translation.{host, two}
use Rattle.mid_program.specs.ViewCode.{view}
use Rattle.mid_program.proofs.Views.{view_joined}
use Rattle.mid_code.proofs.Keys.{last_joined}
use Rattle.mid_code.proofs.compound.joined_key.Goals as goal

pub returns : goal.returns
returns c =
    view_joined c.args.first c.pop.new.self c.in_ok-last.last
    ∙ ap (λ (k : Code). host row.Join (two (view c.args.first.value) k)) (last_joined c.args.others.items _ c.pop.result _ c.pop.ensures.items
    (rw (c.args.others.ok.0, c.pop.new.self.ok.0) at c.pop.ensures.cases) (c.in_ok-last.ensures ∙ c.unwrap_or-last.ensures))
