-- The bytes at chosen places are a range.
use Rattle.std.proofs.Common.{◌≡◌, ℕ, zero, suc, ◌+◌, ◌-◌, ◌<◌, ◌≤◌, Bool, true, false, List, [], ◌∷◌, length, take, drop, refl, ap, ◌∙◌, arith, sym, subst}
use Rattle.std.proofs.Math.Seq.{take-nil}
use Rattle.std.specs.Prelude.{◌&&◌, not, negsuc, nat_le, Option, Some, None, ℤ, pos, int_le, int_lt, max}
use Rattle.std.proofs.lemmas.Bool.{false≢true}
use Rattle.std.proofs.lemmas.Bool.Decides.{nat_tests}
use Rattle.host_bytes.specs.Parts.{is_before_end, is_in_part, part}
use Rattle.sem_primitives.specs.TextMeaning.{chosen, kept_if}

-- a test that passes exactly from a on and before b, where places are counted from p on
pub record TellsRange (test : ℕ → Bool) (p a b n : ℕ) : Type 0 where
  pub inside : (i : ℕ) → i < n → a ≤ i → i < b → test (p + i) ≡ true
  pub before : (i : ℕ) → i < n → i < a → test (p + i) ≡ false
  pub behind : (i : ℕ) → i < n → b ≤ i → test (p + i) ≡ false

at_next : (test : ℕ → Bool) (p i : ℕ) (x : Bool) → test (p + suc i) ≡ x → test (p + 1 + i) ≡ x
at_next test p i x e = let q : p + suc i ≡ p + 1 + i = omega arith in subst (λ k. test k ≡ x) q e

at_first : (test : ℕ → Bool) (p : ℕ) (x : Bool) → test (p + 0) ≡ x → test p ≡ x
at_first test p x e = let q : p + 0 ≡ p = omega arith in subst (λ k. test k ≡ x) q e

narrowed : (test : ℕ → Bool) (p a b n : ℕ) → TellsRange test p a b (suc n) → TellsRange test (p + 1) (a - 1) (b - 1) n
narrowed test p a b n t = record {
  inside = λ i low from to. at_next test p i true (t.inside (suc i) (omega arith) (omega arith) (omega arith));
  before = λ i low from. at_next test p i false (t.before (suc i) (omega arith) (omega arith));
  behind = λ i low from. at_next test p i false (t.behind (suc i) (omega arith) (omega arith));
}

kept : (b : Bool) (c : ℕ) (cs ds : List ℕ) → b ≡ true → cs ≡ ds → kept_if b c cs ≡ c ∷ ds
kept b c cs ds e f = ap (λ x. kept_if x c cs) e ∙ ap (λ x. c ∷ x) f

left_out : (b : Bool) (c : ℕ) (cs ds : List ℕ) → b ≡ false → cs ≡ ds → kept_if b c cs ≡ ds
left_out b c cs ds e f = ap (λ x. kept_if x c cs) e ∙ f

one_less : (a b : ℕ) → b - suc a ≡ (b - 1) - a
one_less a b = omega arith

pub chosen_range : (test : ℕ → Bool) (p a b : ℕ) (xs : List ℕ) → TellsRange test p a b (length xs) → chosen test p xs ≡ take (b - a) (drop a xs)
chosen_range test p zero b [] t = sym (take-nil (b - 0))
chosen_range test p (suc a) b [] t = sym (take-nil (b - suc a))
chosen_range test p zero zero (c ∷ cs) t =
    left_out (test p) c (chosen test (p + 1) cs) [] (at_first test p false (t.behind 0 (omega arith) (omega arith))) (chosen_range test (p + 1) 0 0 cs (narrowed test p 0 0 (length cs) t))
chosen_range test p zero (suc b) (c ∷ cs) t =
    let less : suc b - 1 ≡ b = omega arith in
    let same : b - 0 ≡ b = omega arith in
    let whole : suc b - 0 ≡ suc b = omega arith in
    let t' = subst (λ n. TellsRange test (p + 1) 0 n (length cs)) less (narrowed test p 0 (suc b) (length cs) t) in
    kept (test p) c (chosen test (p + 1) cs) (take b cs) (at_first test p true (t.inside 0 (omega arith) (omega arith) (omega arith))) (chosen_range test (p + 1) 0 b cs t' ∙ ap (λ n. take n cs) same) ∙ ap (λ n. take n (c ∷ cs)) (sym whole)
chosen_range test p (suc a) b (c ∷ cs) t =
    let less : suc a - 1 ≡ a = omega arith in
    let t' = subst (λ n. TellsRange test (p + 1) n (b - 1) (length cs)) less (narrowed test p (suc a) b (length cs) t) in
    left_out (test p) c (chosen test (p + 1) cs) (take (b - suc a) (drop a cs)) (at_first test p false (t.before 0 (omega arith) (omega arith)))
    (chosen_range test (p + 1) a (b - 1) cs t' ∙ ap (λ n. take n (drop a cs)) (sym (one_less a b)))

-- Whether a place is of a part, by the two ends.

within : (k n : ℕ) → k ≤ n → nat_le k n ≡ true
within k n le = grind (arith, nat_tests)

beyond : (k n : ℕ) → n < k → nat_le k n ≡ false
beyond k n lt = grind (arith, nat_tests)

not_before : (m : ℤ) (p : ℕ) (b : Bool) → int_lt (pos p) m ≡ b → int_le m (pos p) ≡ not b
not_before (pos m) p true e = grind (arith, nat_tests)
not_before (pos m) p false e = grind (arith, nat_tests)
not_before (negsuc m) p true e = absurd (false≢true e)
not_before (negsuc m) p false e = refl

and_false : (b c : Bool) → c ≡ false → (b && c) ≡ false
and_false true c e = e
and_false false c e = refl

and_true : (b c : Bool) → b ≡ true → c ≡ true → (b && c) ≡ true
and_true b c e f = ap (λ x. x && c) e ∙ f

and_first : (b c : Bool) → b ≡ false → (b && c) ≡ false
and_first b c e = ap (λ x. x && c) e

in_part : (m : ℤ) (n : Option ℤ) (p : ℕ) → int_le m (pos p) ≡ true → is_before_end m n p ≡ true → is_in_part m n p ≡ true
in_part m None p e f = e
in_part m (Some n) p e f = and_true (int_le m (pos p)) (is_before_end m (Some n) p) e f

below_part : (m : ℤ) (n : Option ℤ) (p : ℕ) → int_le m (pos p) ≡ false → is_in_part m n p ≡ false
below_part m None p e = e
below_part m (Some n) p e = and_first (int_le m (pos p)) (is_before_end m (Some n) p) e

behind_part : (m : ℤ) (n : Option ℤ) (p : ℕ) → is_before_end m n p ≡ false → is_in_part m n p ≡ false
behind_part m None p e = absurd (false≢true (sym e))
behind_part m (Some n) p e = and_false (int_le m (pos p)) (is_before_end m (Some n) p) e

-- the places from 1 on that lie before a part, and before its end
pub part_is : (text : List ℕ) (m : ℤ) (n : Option ℤ) (first end : ℕ) → ((k : ℕ) → k ≤ length text → 1 ≤ k → nat_le k first ≡ int_lt (pos k) m) → ((k : ℕ) → k ≤ length text → 1 ≤ k → nat_le k end ≡ is_before_end m n k) → take (max end first - first) (drop first text) ≡ part text m n
part_is text m n first end before upto =
    let told : TellsRange (λ p. is_in_part m n p) 1 first (max end first) (length text) = record {
      inside = λ i low from to.
          in_part m n (1 + i)
          (not_before m (1 + i) false (sym (before (1 + i) (omega arith) (omega arith)) ∙ beyond (1 + i) first (omega arith)))
          (sym (upto (1 + i) (omega arith) (omega arith)) ∙ within (1 + i) end (omega arith));
      before = λ i low from.
          below_part m n (1 + i) (not_before m (1 + i) true (sym (before (1 + i) (omega arith) (omega arith)) ∙ within (1 + i) first (omega arith)));
      behind = λ i low from.
          behind_part m n (1 + i) (sym (upto (1 + i) (omega arith) (omega arith)) ∙ beyond (1 + i) end (omega arith));
    } in
    sym (chosen_range (λ p. is_in_part m n p) 1 first (max end first) text told)
