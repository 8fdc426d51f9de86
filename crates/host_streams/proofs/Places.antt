-- The first place in a list that passes a test.
use Rattle.std.proofs.Common.{◌≡◌, ℕ, zero, suc, ◌+◌, List, [], ◌∷◌, ◌++◌, length, set, get_or, Option, Some, None, cond, Bool, true, false, refl, sym, ap, ◌∙◌, arith, position}
use Rattle.std.specs.List.{position_from}
use Rattle.std.proofs.lemmas.Iterator.Adapters.{position_from-zero}
use Rattle.std.specs.Option.{option_map, unwrap_or}
use Rattle.std.proofs.lemmas.Option.{none-some}

pub set_middle : {A : Type 0} (front : List A) (x y : A) (back : List A) → set (front ++ x ∷ back) (length front) y ≡ front ++ y ∷ back
set_middle [] x y back = refl
set_middle (z ∷ zs) x y back = ap (λ xs. z ∷ xs) (set_middle zs x y back)

pub get_middle : {A : Type 0} (front : List A) (x d : A) (back : List A) → get_or (front ++ x ∷ back) (length front) d ≡ x
get_middle [] x d back = refl
get_middle (z ∷ zs) x d back = get_middle zs x d back

module _ {A : Type 0} (test : A → Bool) where
  -- item by item
  abbrev pub found : List A → Option ℕ
  found [] = None
  found (x ∷ xs) = cond (test x) (Some 0) (option_map suc (found xs))

  shifted : (n : ℕ) (o : Option ℕ) → option_map (λ k. n + 1 + k) o ≡ option_map (λ k. n + k) (option_map suc o)
  shifted n None = refl
  shifted n (Some k) = ap (λ m. Some m) (let same : n + 1 + k ≡ n + suc k = omega arith in same)

  from_by : (n : ℕ) (p o : Option ℕ) → p ≡ option_map (λ k. n + 1 + k) o → (b : Bool) → cond b (Some n) p ≡ option_map (λ k. n + k) (cond b (Some 0) (option_map suc o))
  from_by n p o rest true = ap (λ m. Some m) (let same : n ≡ n + 0 = omega arith in same)
  from_by n p o rest false = rest ∙ shifted n o

  found_from : (xs : List A) (n : ℕ) → position_from test n xs ≡ option_map (λ k. n + k) (found xs)
  found_from [] n = refl
  found_from (x ∷ xs) n = from_by n (position_from test (n + 1) xs) (found xs) (found_from xs (n + 1)) (test x)

  plain : (o : Option ℕ) → option_map (λ k. 0 + k) o ≡ o
  plain None = refl
  plain (Some k) = ap (λ m. Some m) (let same : 0 + k ≡ k = omega arith in same)

  pub found_is : (xs : List A) → position test xs ≡ found xs
  found_is xs = position_from-zero test xs ∙ found_from xs 0 ∙ plain (found xs)

  -- none passes
  abbrev pub AllFail : List A → Type 0
  AllFail [] = Unit {0}
  AllFail (x ∷ xs) = (test x ≡ false) × AllFail xs

  -- the first that passes, and what stands before and after it
  pub record First (at : ℕ) (xs : List A) : Type 0 where
    pub front : List A
    pub item : A
    pub back : List A
    pub is : xs ≡ front ++ item ∷ back
    pub place : length front ≡ at
    pub none : AllFail front
    pub passes : test item ≡ true

  smaller : (o : Option ℕ) (at : ℕ) → option_map suc o ≡ Some (suc at) → o ≡ Some at
  smaller None at e = absurd (none-some (suc at) e)
  smaller (Some k) at e = ap (λ n. Some n) (let same : suc k ≡ suc at = ap (λ (p : Option ℕ). unwrap_or p 0) e in omega (arith, same))

  not_zero : (o : Option ℕ) → option_map suc o ≡ Some zero → ⊥
  not_zero None e = none-some zero e
  not_zero (Some k) e = let same : suc k ≡ zero = ap (λ (p : Option ℕ). unwrap_or p 0) e in omega (arith, same)

  first_by : (x : A) (xs : List A) (o : Option ℕ) → ((k : ℕ) → o ≡ Some k → First k xs) → (b : Bool) → test x ≡ b → (at : ℕ) → cond b (Some 0) (option_map suc o) ≡ Some at → First at (x ∷ xs)
  first_by x xs o later true is zero e = record { front = []; item = x; back = xs; is = refl; place = refl; none = tt; passes = is }
  first_by x xs o later true is (suc at) e = absurd (let same : zero ≡ suc at = ap (λ (p : Option ℕ). unwrap_or p 0) e in omega (arith, same))
  first_by x xs o later false is zero e = absurd (not_zero o e)
  first_by x xs o later false is (suc at) e =
      let rest : First at xs = later at (smaller o at e) in
      record { front = x ∷ rest.front; item = rest.item; back = rest.back; is = ap (λ ys. x ∷ ys) rest.is; place = ap suc rest.place; none = (is, rest.none); passes = rest.passes }

  first_found : (xs : List A) (at : ℕ) → found xs ≡ Some at → First at xs
  first_found [] at e = absurd (none-some at e)
  first_found (x ∷ xs) at e = first_by x xs (found xs) (first_found xs) (test x) refl at e

  pub first : (xs : List A) (at : ℕ) → position test xs ≡ Some at → First at xs
  first xs at e = first_found xs at (sym (found_is xs) ∙ e)

  fail_by : (x : A) (xs : List A) (o : Option ℕ) → (o ≡ None → AllFail xs) → (b : Bool) → test x ≡ b → cond b (Some 0) (option_map suc o) ≡ None → AllFail (x ∷ xs)
  fail_by x xs o later true is e = absurd (none-some 0 (sym e))
  fail_by x xs None later false is e = (is, later refl)
  fail_by x xs (Some k) later false is e = absurd (none-some (suc k) (sym e))

  fail_found : (xs : List A) → found xs ≡ None → AllFail xs
  fail_found [] e = tt
  fail_found (x ∷ xs) e = fail_by x xs (found xs) (fail_found xs) (test x) refl e

  pub all_fail : (xs : List A) → position test xs ≡ None → AllFail xs
  all_fail xs e = fail_found xs (sym (found_is xs) ∙ e)

  found_last : (xs : List A) (x : A) → AllFail xs → test x ≡ true → found (xs ++ x ∷ []) ≡ Some (length xs)
  found_last [] x none is = ap (λ b. cond b (Some 0) None) is
  found_last (y ∷ ys) x none is = ap (λ b. cond b (Some 0) (option_map suc (found (ys ++ x ∷ [])))) none.0 ∙ ap (option_map suc) (found_last ys x none.1 is)

  -- what is put last is found there, if it is not found before
  pub last_place : (xs : List A) (x : A) → AllFail xs → test x ≡ true → position test (xs ++ x ∷ []) ≡ Some (length xs)
  last_place xs x none is = found_is (xs ++ x ∷ []) ∙ found_last xs x none is

  pub first_item : (xs : List A) (at : ℕ) (s : First at xs) (d : A) → get_or xs at d ≡ s.item
  first_item xs at s d = ap (λ ys. get_or ys at d) s.is ∙ ap (λ k. get_or (s.front ++ s.item ∷ s.back) k d) (sym s.place) ∙ get_middle s.front s.item d s.back

  pub first_set : (xs : List A) (at : ℕ) (s : First at xs) (y : A) → set xs at y ≡ s.front ++ y ∷ s.back
  first_set xs at s y = ap (λ ys. set ys at y) s.is ∙ ap (λ k. set (s.front ++ s.item ∷ s.back) k y) (sym s.place) ∙ set_middle s.front s.item y s.back
