use Rattle.std.proofs.Common.{◌≡◌, ◌<◌, ◌+◌, ◌++◌, ◌∷◌, [], ℕ, List, Vec, Global, drop, get_or, length, length-append, sym, ap, subst, ◌∙◌, append_assoc, arith}
use Rattle.std.proofs.lemmas.Option.{get_or_from_slice_get, slice_get-get_or}
use Rattle.host_imports.specs.Imports.{imports}
use Rattle.lower_model.specs.Modules.{chosen}
use Rattle.host_imports.specs.declared.import.Import.{Import}
use Rattle.host_imports.specs.declared.import.Import.TheVariants.{Drop}
use Rattle.lower_modules.proofs.StepsLemmas.{chosen_in, chosen_out}
use Rattle.lower_modules.proofs.called_imports.chosen.Goals as goal
use Rattle.lower_modules.proofs.called_imports.chosen.Goals.{then-called-place+in-Some+in_ok-push, then-called-place+in_default, else-called-place}

pub loop-place-preserved : goal.loop-place-preserved
loop-place-preserved c =
    let i = c.loop-place.place in
    let bs = c.args.called.now in
    let old = c.loop-place.used.items in
    let rest = chosen (drop (i + 1) bs) (drop (i + 1) imports) in
    let inside : i < length bs = subst (λ (n : ℕ). i < n) (sym c.requires) c.loop-place-test.true in
    let few = c.loop-place.invariant.few in
    elim c.if-called-place.branch [
      | then-called-place+in-Some+in_ok-push w ↦
          let import = w.in-Some.import in
          let same : get_or imports i import ≡ import = get_or_from_slice_get imports i import import (sym w.of_number.ensures ∙ w.in-Some.is) in
          let long = ap (λ (v : Vec Import Global). length v.items) w.used-is ∙ ap length w.in_ok-push.ensures.items ∙ length-append old (import ∷ []) in
          record {
            chosen = ap (λ (v : Vec Import Global). v.items ++ rest) w.used-is ∙ ap (λ (is : List Import). is ++ rest) w.in_ok-push.ensures.items
                ∙ append_assoc old (import ∷ []) rest ∙ ap (λ (x : Import). old ++ (x ∷ rest)) (sym same)
                ∙ ap (λ (is : List Import). old ++ is) (sym (chosen_in bs imports i import inside c.loop-place-test.true w.if-called-place.true))
                ∙ c.loop-place.invariant.chosen;
            few = omega (arith, long, few);
          }
      | then-called-place+in_default w ↦ absurd (w.in_default.not-Some (get_or imports i Drop) (w.of_number.ensures ∙ slice_get-get_or imports i Drop c.loop-place-test.true))
      | else-called-place w ↦
          let long = ap (λ (v : Vec Import Global). length v.items) w.used-is in
          record {
            chosen = ap (λ (v : Vec Import Global). v.items ++ rest) w.used-is
                ∙ ap (λ (is : List Import). old ++ is) (sym (chosen_out bs imports i Drop inside c.loop-place-test.true w.if-called-place.false))
                ∙ c.loop-place.invariant.chosen;
            few = omega (arith, long, few);
          }
    ]
