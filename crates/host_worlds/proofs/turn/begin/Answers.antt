use Rattle.std.proofs.Common.{pos, ap, ◌∙◌}
use Rattle.awk_values.specs.declared.value.Value.TheVariants.{Num}
use Rattle.sem_primitives.specs.SharedState.{with_special}
use Rattle.sem_primitives.specs.declared.constants.Special.TheVariants.{Fnr}
use Rattle.host_worlds.proofs.turn.begin.Goals as goal

pub returns : goal.returns
returns c = λ inner. c.give-2.ensures inner ∙ ap (with_special Fnr (Num (pos 0))) (c.give.ensures inner)
