use Rattle.std.proofs.Common.{ap, ◌∙◌, ℕ}
use Rattle.world_core.specs.Calls.{Kind}
use Rattle.test_parts.proofs.worlds.replaces.Goals as goal

pub returns-in_err-add : goal.returns-in_err-add
returns-in_err-add c = ap (λ (f : ℕ → Kind). f c.args.id) c.in_err-add.ensures.kinds ∙ c.requires

pub returns : goal.returns
returns c = ap (λ (f : ℕ → Kind). f c.args.id) c.in_ok-add.ensures.kinds ∙ c.requires
