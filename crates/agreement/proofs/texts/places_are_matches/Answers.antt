use Rattle.std.proofs.Common.{false, None, sym, subst}
use Rattle.sem_primitives.specs.TextMeaning.{places_of}
use Rattle.agreement.specs.Texts.Substitutions.{ArePlaces, IsPlace}
use Rattle.agreement.proofs.TextsLemmas.Places.{all_places, same_places, the_place, same_place}
use Rattle.agreement.proofs.texts.places_are_matches.Goals as goal

pub returns-clause-all : goal.returns-clause-all
returns-clause-all c = λ t text ps. (λ d. same_places d (all_places t text), λ e. subst (ArePlaces t text None) (sym e) (all_places t text))

pub returns-clause-one : goal.returns-clause-one
returns-clause-one c = λ t text ps. (λ d. same_place t text ps (places_of t text false) d (the_place t text), λ e. subst (IsPlace t text) (sym e) (the_place t text))
