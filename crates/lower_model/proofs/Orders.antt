-- Words of numbers stand in the order of the numbers.
use Rattle.std.proofs.Common.{◌≡◌, ⊎_elim, ℕ, ◌<◌, ◌≤◌, Bool, true, false, ℤ, pos, negsuc, w64, refl, sym, ap, ap₂, ◌∙◌, true≢false, arith}
use Rattle.std.specs.Prelude.{nat_eq, nat_lt, nat_le, not, cond, int_lt, int_le}
use Rattle.std.specs.Int.{cast_signed, cast_unsigned}
use Rattle.std.specs.Ordering.{int_cmp, is_eq, is_ne, is_lt, is_gt, is_le, is_ge}
use Rattle.std.specs.declared.cmp.Ordering.TheVariants.{Less, Equal, Greater}
use Rattle.std.proofs.lemmas.Bool.{lt-ltb, le-ltb, lt-leb, le-leb, ltb-true, ltb-false, ne_eqb, eq-eqb, cases_lt}
use Rattle.std.proofs.lemmas.Int.{to_z-of_z}
use Rattle.awk_values.specs.Comparison.{holds}
use Rattle.awk_values.specs.declared.comparison.CompareOp.{CompareOp}
use Rattle.awk_values.specs.declared.comparison.CompareOp.TheVariants as op
use Rattle.sem_primitives.specs.Numbers.{Number, number_word}
use Rattle.sem_primitives.proofs.Words.{small, fits}
use Rattle.wasm_store.specs.Integers.{compare_at}
use Rattle.lower_model.specs.Arithmetic.{relation}

nat_le_not : (a b : ℕ) → nat_le a b ≡ not (nat_lt b a)
nat_le_not a b = ⊎_elim (λ l. lt-leb a b l ∙ sym (ap not (lt-ltb b a l))) (λ g. le-leb a b g ∙ sym (ap not (le-ltb b a g))) (cases_lt b a)

nat_not_both : (a b : ℕ) → nat_lt a b ≡ true → nat_lt b a ≡ false
nat_not_both a b e = let l : a < b = ltb-true a b e in le-ltb b a (omega (arith, l))

nat_neither : (a b : ℕ) → nat_lt a b ≡ false → nat_lt b a ≡ false → a ≡ b
nat_neither a b e e1 = let x : b ≤ a = ltb-false a b e in let y : a ≤ b = ltb-false b a e1 in omega (arith, x, y)

le_not : (a b : ℤ) → int_le a b ≡ not (int_lt b a)
le_not (pos a) (pos b) = nat_le_not a b
le_not (pos a) (negsuc b) = refl
le_not (negsuc a) (pos b) = refl
le_not (negsuc a) (negsuc b) = nat_le_not b a

not_both : (a b : ℤ) → int_lt a b ≡ true → int_lt b a ≡ false
not_both (pos a) (pos b) e = nat_not_both a b e
not_both (pos a) (negsuc b) e = cc
not_both (negsuc a) (pos b) e = refl
not_both (negsuc a) (negsuc b) e = nat_not_both b a e

neither : (a b : ℤ) → int_lt a b ≡ false → int_lt b a ≡ false → a ≡ b
neither (pos a) (pos b) e e1 = ap pos (nat_neither a b e e1)
neither (pos a) (negsuc b) e e1 = cc
neither (negsuc a) (pos b) e e1 = cc
neither (negsuc a) (negsuc b) e e1 = ap negsuc (nat_neither a b e1 e)

same_not : (a b : ℤ) → int_lt a b ≡ true → a ≡ b → ⊥
same_not a b e q = true≢false (sym e ∙ (ap (λ z. int_lt z b) q ∙ (ap (int_lt b) (sym q) ∙ not_both a b e)))

-- what the order says, by its two tests
less_is : (p q : Bool) → p ≡ is_lt (cond p Less (cond q Greater Equal))
less_is true q = refl
less_is false true = refl
less_is false false = refl

greater_is : (p q : Bool) → (p ≡ true → q ≡ false) → q ≡ is_gt (cond p Less (cond q Greater Equal))
greater_is true q h = h refl
greater_is false true h = refl
greater_is false false h = refl

at_most_is : (p q : Bool) → (p ≡ true → q ≡ false) → not q ≡ is_le (cond p Less (cond q Greater Equal))
at_most_is true q h = ap not (h refl)
at_most_is false true h = refl
at_most_is false false h = refl

at_least_is : (p q : Bool) → not p ≡ is_ge (cond p Less (cond q Greater Equal))
at_least_is true q = refl
at_least_is false true = refl
at_least_is false false = refl

unequal_is : (p q : Bool) → not (is_eq (cond p Less (cond q Greater Equal))) ≡ is_ne (cond p Less (cond q Greater Equal))
unequal_is true q = refl
unequal_is false true = refl
unequal_is false false = refl

module _ (m n : Number) where
  abbrev a : ℤ
  a = m.number

  abbrev b : ℤ
  b = n.number

  signed_left : cast_signed w64 (number_word m) ≡ a
  signed_left = to_z-of_z w64 a (fits a (small m))

  signed_right : cast_signed w64 (number_word n) ≡ b
  signed_right = to_z-of_z w64 b (fits b (small n))

  same_signed : number_word m ≡ number_word n → a ≡ b
  same_signed e = sym signed_left ∙ (ap (cast_signed w64) e ∙ signed_right)

  equal_is : nat_eq (number_word m) (number_word n) ≡ is_eq (int_cmp a b)
  equal_is = by (int_lt a b) (int_lt b a) refl refl
    where
      by : (p q : Bool) → int_lt a b ≡ p → int_lt b a ≡ q → nat_eq (number_word m) (number_word n) ≡ is_eq (cond p Less (cond q Greater Equal))
      by true q e e1 = ne_eqb (number_word m) (number_word n) (λ z. same_not a b e (same_signed z))
      by false true e e1 = ne_eqb (number_word m) (number_word n) (λ z. same_not b a e1 (sym (same_signed z)))
      by false false e e1 = eq-eqb (number_word m) (number_word n) (ap (cast_unsigned w64) (neither a b e e1))

  pub words_compared : (c : CompareOp) → compare_at w64 (relation c) (number_word m) (number_word n) ≡ holds c (int_cmp a b)
  words_compared op.Less = ap₂ int_lt signed_left signed_right ∙ less_is (int_lt a b) (int_lt b a)
  words_compared op.LessOrEqual = ap₂ int_le signed_left signed_right ∙ (le_not a b ∙ at_most_is (int_lt a b) (int_lt b a) (not_both a b))
  words_compared op.Equal = equal_is
  words_compared op.NotEqual = ap not equal_is ∙ unequal_is (int_lt a b) (int_lt b a)
  words_compared op.Greater = ap₂ int_lt signed_right signed_left ∙ greater_is (int_lt a b) (int_lt b a) (not_both a b)
  words_compared op.GreaterOrEqual = ap₂ int_le signed_right signed_left ∙ (le_not b a ∙ at_least_is (int_lt a b) (int_lt b a))
