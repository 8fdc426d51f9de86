use Rattle.std.proofs.Common.{◌≡◌, ◌++◌, ◌∷◌, ◌∙◌, ◌<◌, ℕ, zero, suc, List, [], Option, None, Some, true, false, ap, arith, refl, sym}
use Rattle.std.specs.Prelude.{◌==◌, ◌&&◌, ◌≤◌, not, if◌then◌else◌}
use Rattle.std.proofs.lemmas.Bool.{lt-ltb}
use Rattle.sem_primitives.specs.Formats.{Conversion, has_flag, octal_mark, zeros}
use Rattle.host_bytes.specs.Conversions.{begins_with_zero, body_text, conversion_is, places_text}
use Rattle.host_bytes.proofs.converted.marked_octal.Goals as goal
use Rattle.host_bytes.proofs.converted.marked_octal.Goals.{then-parts-gt0, else-parts-gt0, else-has-via-then-has+else-not-has_zero, else-has-via-else-has}

marked : (d : Conversion) (z : ℕ) (rest : List ℕ) → has_flag 35 d ≡ true → begins_with_zero (zeros z ++ rest) ≡ false → 48 ∷ rest ≡ octal_mark d (zeros z ++ rest)
marked d zero [] flag none = sym (ap (λ b. if b then 48 ∷ [] else []) flag)
marked d zero (c ∷ cs) flag none = sym (ap (λ b. if b && not (c == 48) then 48 ∷ (c ∷ cs) else c ∷ cs) flag ∙ ap (λ b. if not b then 48 ∷ (c ∷ cs) else c ∷ cs) none)
marked d (suc z) rest flag none = absurd (cc none)

unmarked : (d : Conversion) (body : List ℕ) → has_flag 35 d ≡ false → body ≡ octal_mark d body
unmarked d [] none = sym (ap (λ b. if b then 48 ∷ [] else []) none)
unmarked d (c ∷ cs) none = sym (ap (λ b. if b && not (c == 48) then 48 ∷ (c ∷ cs) else c ∷ cs) none)

stays : (d : Conversion) (body : List ℕ) → has_flag 35 d ≡ true → begins_with_zero body ≡ true → body ≡ octal_mark d body
stays d [] flag first = absurd (cc first)
stays d (c ∷ cs) flag first = sym (ap (λ b. if b && not (c == 48) then 48 ∷ (c ∷ cs) else c ∷ cs) flag ∙ ap (λ b. if not b then 48 ∷ (c ∷ cs) else c ∷ cs) first)

some_zeros : (z : ℕ) (rest : List ℕ) → 0 < z → begins_with_zero (zeros z ++ rest) ≡ true
some_zeros zero rest some = absurd (omega arith)
some_zeros (suc z) rest some = refl

no_zeros : (z : ℕ) (digits : List ℕ) (places : Option ℕ) → z ≤ 0 → begins_with_zero (zeros z ++ (digits ++ places_text places)) ≡ begins_with_zero digits
no_zeros zero [] None none = refl
no_zeros zero [] (Some n) none = refl
no_zeros zero (c ∷ cs) places none = refl
no_zeros (suc z) digits places none = absurd (omega arith)

pub returns-then-not-has_zero-clause-body : goal.returns-then-not-has_zero-clause-body
returns-then-not-has_zero-clause-body c =
    let parts = c.args.parts in
    let rest = parts.digits.now ++ places_text parts.places in
    let is : c.if-parts-gt0.has_zero ≡ begins_with_zero (body_text parts) = elim c.if-parts-gt0.branch [
      | then-parts-gt0 w ↦ w.has_zero-is ∙ lt-ltb 0 parts.zeros w.if-parts-gt0.true ∙ sym (some_zeros parts.zeros rest w.if-parts-gt0.true)
      | else-parts-gt0 w ↦ w.has_zero-is ∙ w.begins_with_zero-has_zero.ensures ∙ sym (no_zeros parts.zeros parts.digits.now parts.places w.if-parts-gt0.false)
    ] in
    marked (conversion_is c.args.conversion) parts.zeros rest (sym c.has.ensures ∙ c.if-has.true) (sym is ∙ c.if-not-has_zero.true)

pub returns-else-has-clause-body : goal.returns-else-has-clause-body
returns-else-has-clause-body c =
    let parts = c.args.parts in
    let d = conversion_is c.args.conversion in
    let rest = parts.digits.now ++ places_text parts.places in
    let is : c.if-parts-gt0.has_zero ≡ begins_with_zero (body_text parts) = elim c.if-parts-gt0.branch [
      | then-parts-gt0 w ↦ w.has_zero-is ∙ lt-ltb 0 parts.zeros w.if-parts-gt0.true ∙ sym (some_zeros parts.zeros rest w.if-parts-gt0.true)
      | else-parts-gt0 w ↦ w.has_zero-is ∙ w.begins_with_zero-has_zero.ensures ∙ sym (no_zeros parts.zeros parts.digits.now parts.places w.if-parts-gt0.false)
    ] in
    elim c.else-has.branch [
      | else-has-via-then-has+else-not-has_zero w ↦ stays d (body_text parts) (sym c.has.ensures ∙ w.if-has.true) (sym is ∙ w.if-not-has_zero.false)
      | else-has-via-else-has w ↦ unmarked d (body_text parts) (sym c.has.ensures ∙ w.if-has.false)
    ]
