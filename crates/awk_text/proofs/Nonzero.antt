-- Whether a digit of the mantissa is not 0.
use Rattle.std.proofs.Common.{◌≡◌, ℕ, ◌+◌, ◌-◌, ◌*◌, Bool, true, false, Option, Some, None, List, [], ◌∷◌, ◌++◌, refl, sym, ap, arith, subst, ◌∙◌, inl, inr}
use Rattle.std.specs.Prelude.{◌==◌, not, ◌↔◌, IsTrue}
use Rattle.std.proofs.lemmas.Bool.{eqb-true, eq-eqb, ne_eqb, not-true, true≢false}
use Rattle.awk_text.specs.Reading.{AllPass, AreDigits, Numeral, numeral_at}
use Rattle.awk_text.specs.Number.{value_after, mantissa, has_nonzero_mantissa, is_nonzero_text}
use Rattle.awk_text.specs.NumberText.{IsFraction, IsNumberText, IsNonzero, is_zero}
use Rattle.awk_text.proofs.Values.{value_zero, digits_append}
use Rattle.awk_text.proofs.Longest.{numeral_some}
use Rattle.awk_text.proofs.Meaning.{front_kept, longest_read, read_longest}

zeros_have_no_value : (ds : List ℕ) → AllPass is_zero ds → value_after 0 ds ≡ 0
zeros_have_no_value [] h = refl
zeros_have_no_value (d ∷ ds) h = ap (λ (n : ℕ). value_after (0 * 10 + (n - 48)) ds) (eqb-true d 48 h.0) ∙ zeros_have_no_value ds h.1

no_value_has_zeros : (ds : List ℕ) → AreDigits ds → value_after 0 ds ≡ 0 → AllPass is_zero ds
no_value_has_zeros [] h e = tt
no_value_has_zeros (d ∷ ds) h e =
    let first : d ≡ 48 = value_zero (d ∷ ds) h e 0 (omega arith) in
    (eq-eqb d 48 first, no_value_has_zeros ds h.1 (sym (ap (λ (n : ℕ). value_after (0 * 10 + (n - 48)) ds) first) ∙ e))

fraction_digits : (point fraction : List ℕ) → IsFraction point fraction → AreDigits fraction
fraction_digits point fraction (inl none) = subst AreDigits (sym none.1) tt
fraction_digits point fraction (inr some) = some.1

mantissa_digits : (text : List ℕ) (n : Numeral) → IsNumberText text n → AreDigits (n.whole ++ n.fraction)
mantissa_digits text n t = digits_append n.whole n.fraction t.whole (fraction_digits t.point n.fraction t.fraction)

nonzero_some : (text : List ℕ) (read : Option (Numeral × List ℕ)) → numeral_at text ≡ read → has_nonzero_mantissa read ≡ true → IsNonzero text
nonzero_some text None e h = absurd (true≢false (sym h))
nonzero_some text (Some (n, rest)) e h = record {
  numeral = n;
  rest = rest;
  longest = read_longest text n rest e;
  other = λ z. true≢false (sym (eq-eqb (mantissa n) 0 (zeros_have_no_value (n.whole ++ n.fraction) z)) ∙ not-true (mantissa n == 0) h);
}

nonzero_read : (text : List ℕ) (read : Option (Numeral × List ℕ)) → numeral_at text ≡ read → IsNonzero text → has_nonzero_mantissa read ≡ true
nonzero_read text None e l = let f = l.longest.front in absurd (numeral_some f.front l.numeral l.rest f.is (front_kept text f.front l.rest None f.parted e))
nonzero_read text (Some (n, rest)) e l =
    let f = l.longest.front in
    let other : mantissa l.numeral == 0 ≡ false = ne_eqb (mantissa l.numeral) 0 (λ z. l.other (no_value_has_zeros (l.numeral.whole ++ l.numeral.fraction) (mantissa_digits f.front l.numeral f.is) z)) in
    ap (λ (m : Numeral). not (mantissa m == 0)) (sym (longest_read text l.numeral n l.rest rest l.longest e)) ∙ ap not other

pub nonzero_meant : (text : List ℕ) (b : Bool) → b ≡ is_nonzero_text text → IsTrue b ↔ IsNonzero text
nonzero_meant text b e = (λ yes. nonzero_some text (numeral_at text) refl (sym e ∙ yes), λ l. e ∙ nonzero_read text (numeral_at text) refl l)
