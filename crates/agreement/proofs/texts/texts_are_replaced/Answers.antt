use Rattle.std.proofs.Common.{refl, sym, subst}
use Rattle.sem_primitives.specs.TextMeaning.{places_of}
use Rattle.agreement.specs.Texts.Substitutions.{StandsFor, Becomes}
use Rattle.agreement.proofs.TextsLemmas.Replaced.{stands_for, stands_value, becomes_replaced, becomes_value}
use Rattle.agreement.proofs.texts.texts_are_replaced.Goals as goal

pub returns-clause-replacement : goal.returns-clause-replacement
returns-clause-replacement c = λ matched by new. (λ d. stands_value d, λ e. subst (StandsFor matched by) (sym e) (stands_for matched by))

pub returns-clause-text : goal.returns-clause-text
returns-clause-text c = λ t text by new all. (λ d. becomes_value text d refl, λ e. subst (Becomes by 0 (places_of t text all) text) (sym e) (becomes_replaced t text by all))
