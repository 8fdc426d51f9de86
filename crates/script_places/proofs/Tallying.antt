-- Tables with one more step counted.
use Rattle.std.proofs.Common.{◌≡◌, ℕ, zero, suc, ◌+◌, ◌-◌, ◌^◌, ◌<◌, ◌≤◌, ◌&&◌, Bool, true, false, cond, List, [], ◌∷◌, ◌++◌, Option, Some, None, length, get_or, set, refl, sym, ap, ◌∙◌, subst, arith}
use Rattle.std.specs.Prelude.{IfSome, if◌then◌else◌, nat_eq, option_map, replicate, slice_get}
use Rattle.std.specs.List.{count_by}
use Rattle.std.specs.declared.vec.Vec.{Vec}
use Rattle.std.specs.declared.alloc.Global.{Global}
use Rattle.std.proofs.lemmas.Bool.{eq-eqb, eqb-false, eqb-true, ne_eqb}
use Rattle.std.proofs.lemmas.List.Sums.{count_by-le-length, sum_by-cons}
use Rattle.script_places.specs.Passes.{Moment, entry, stood}
use Rattle.script_places.specs.Tallies.{AreTallied, more_at, more_in, one_more, rows_of}

pub count_set : (ns : List ℕ) (i x d : ℕ) → i < length ns → x ≡ one_more (get_or ns i d) → set ns i x ≡ more_at ns i
count_set [] i x d lt e = absurd (omega arith)
count_set (n ∷ ns) zero x d lt e = ap (λ (y : ℕ). y ∷ ns) e
count_set (n ∷ ns) (suc i) x d lt e = ap (λ (ys : List ℕ). n ∷ ys) (count_set ns i x d (omega arith) e)

pub count_past : (ns : List ℕ) (i : ℕ) → length ns ≤ i → ns ≡ more_at ns i
count_past [] i le = refl
count_past (n ∷ ns) zero le = absurd (omega arith)
count_past (n ∷ ns) (suc i) le = ap (λ (ys : List ℕ). n ∷ ys) (count_past ns i (omega arith))

pub count_in_set : (vs : List (Vec ℕ Global)) (f i : ℕ) (x d : Vec ℕ Global) → f < length vs → x.items ≡ more_at (get_or vs f d).items i →
    rows_of (set vs f x) ≡ more_in (rows_of vs) f i
count_in_set [] f i x d lt e = absurd (omega arith)
count_in_set (v ∷ vs) zero i x d lt e = ap (λ (ns : List ℕ). ns ∷ rows_of vs) e
count_in_set (v ∷ vs) (suc f) i x d lt e = ap (λ (nss : List (List ℕ)). v.items ∷ nss) (count_in_set vs f i x d (omega arith) e)

pub count_in_past : (vs : List (Vec ℕ Global)) (f i : ℕ) → length vs ≤ f → rows_of vs ≡ more_in (rows_of vs) f i
count_in_past [] f i le = refl
count_in_past (v ∷ vs) zero i le = absurd (omega arith)
count_in_past (v ∷ vs) (suc f) i le = ap (λ (nss : List (List ℕ)). v.items ∷ nss) (count_in_past vs f i (omega arith))

-- What a table has after one more.

abbrev more_where : Bool → ℕ → ℕ
more_where b n = if b then one_more n else n

same : (o : Option ℕ) → o ≡ option_map (more_where false) o
same None = refl
same (Some n) = refl

zero_suc : (i : ℕ) → nat_eq 0 (suc i) ≡ false
zero_suc i = ne_eqb 0 (suc i) (λ e. omega (arith, e))

suc_zero : (i : ℕ) → nat_eq (suc i) 0 ≡ false
suc_zero i = ne_eqb (suc i) 0 (λ e. omega (arith, e))

suc_suc : (a b : ℕ) → nat_eq (suc a) (suc b) ≡ nat_eq a b
suc_suc a b = by (nat_eq a b) refl
  where
    by : (t : Bool) → nat_eq a b ≡ t → nat_eq (suc a) (suc b) ≡ t
    by true e = eq-eqb (suc a) (suc b) (ap suc (eqb-true a b e))
    by false e = ne_eqb (suc a) (suc b) (λ q. eqb-false a b e (omega (arith, q)))

nothing : (i : ℕ) → slice_get {X = ℕ} [] i ≡ None
nothing zero = refl
nothing (suc i) = refl

get_more : (ns : List ℕ) (at i : ℕ) → slice_get (more_at ns at) i ≡ option_map (more_where (nat_eq at i)) (slice_get ns i)
get_more [] at i = nothing i ∙ ap (option_map (more_where (nat_eq at i))) (sym (nothing i))
get_more (n ∷ ns) zero zero = refl
get_more (n ∷ ns) zero (suc i) = same (slice_get ns i) ∙ ap (λ (b : Bool). option_map (more_where b) (slice_get ns i)) (sym (zero_suc i))
get_more (n ∷ ns) (suc at) zero = ap (λ (b : Bool). Some (more_where b n)) (sym (suc_zero at))
get_more (n ∷ ns) (suc at) (suc i) = get_more ns at i ∙ ap (λ (b : Bool). option_map (more_where b) (slice_get ns i)) (sym (suc_suc at i))

no_row : (g i : ℕ) → entry [] g i ≡ None
no_row zero i = refl
no_row (suc g) i = refl

entry_more : (rows : List (List ℕ)) (f at g i : ℕ) → entry (more_in rows f at) g i ≡ option_map (more_where (nat_eq f g && nat_eq at i)) (entry rows g i)
entry_more [] f at g i = no_row g i ∙ ap (option_map (more_where (nat_eq f g && nat_eq at i))) (sym (no_row g i))
entry_more (row ∷ rows) zero at zero i = get_more row at i
entry_more (row ∷ rows) zero at (suc g) i = same (entry rows g i) ∙ ap (λ (b : Bool). option_map (more_where (b && nat_eq at i)) (entry rows g i)) (sym (zero_suc g))
entry_more (row ∷ rows) (suc f) at zero i = same (slice_get row i) ∙ ap (λ (b : Bool). option_map (more_where (b && nat_eq at i)) (slice_get row i)) (sym (suc_zero f))
entry_more (row ∷ rows) (suc f) at (suc g) i = entry_more rows f at g i ∙ ap (λ (b : Bool). option_map (more_where (b && nat_eq at i)) (entry rows g i)) (sym (suc_suc f g))

counted : (p : Moment → Bool) (x : Moment) (xs : List Moment) (n : ℕ) → length xs + 1 < 2 ^ 64 → n ≡ count_by p xs → more_where (p x) n ≡ count_by p (x ∷ xs)
counted p x xs n short e =
    let most = count_by-le-length p xs in
    let more = sum_by-cons (λ (y : Moment). cond (p y) 1 0) x xs in
    step (p x) (count_by p (x ∷ xs)) most more
  where
    step : (b : Bool) (after : ℕ) → count_by p xs ≤ length xs → after ≡ cond b 1 0 + count_by p xs → more_where b n ≡ after
    step true after most more = omega (arith, most, more, short, e)
    step false after most more = omega (arith, more, e)

of_entry : (p : Moment → Bool) (x : Moment) (xs : List Moment) (o : Option ℕ) → length xs + 1 < 2 ^ 64 → IfSome o (λ n. n ≡ count_by p xs)
    → IfSome (option_map (more_where (p x)) o) (λ n. n ≡ count_by p (x ∷ xs))
of_entry p x xs None short h = tt
of_entry p x xs (Some n) short h = counted p x xs n short h

-- one more step is counted at its place
pub tallied_more : (xs : List Moment) (x : Moment) (rows : List (List ℕ)) → length xs + 1 < 2 ^ 64 → AreTallied xs rows → AreTallied (x ∷ xs) (more_in rows x.place.function x.place.at)
tallied_more xs x rows short are = λ f at.
    subst (λ (o : Option ℕ). IfSome o (λ n. n ≡ count_by (stood f at) (x ∷ xs))) (sym (entry_more rows x.place.function x.place.at f at))
    (of_entry (stood f at) x xs (entry rows f at) short (are f at))

-- Of no step: each number is 0.

zeros : (n i : ℕ) → IfSome {T = ℕ} (slice_get (replicate n 0) i) (λ m. m ≡ 0)
zeros zero i = subst (λ (o : Option ℕ). IfSome {T = ℕ} o (λ m. m ≡ 0)) (sym (nothing i)) tt
zeros (suc n) zero = refl
zeros (suc n) (suc i) = zeros n i

pub no_rows : AreTallied [] []
no_rows f at = subst (λ (o : Option ℕ). IfSome {T = ℕ} o (λ m. m ≡ 0)) (sym (no_row f at)) tt

pub one_row_more : (rows : List (List ℕ)) (n : ℕ) → AreTallied [] rows → AreTallied [] (rows ++ replicate n 0 ∷ [])
one_row_more [] n are zero at = zeros n at
one_row_more [] n are (suc f) at = no_rows f at
one_row_more (row ∷ rows) n are zero at = are zero at
one_row_more (row ∷ rows) n are (suc f) at = one_row_more rows n (λ g i. are (suc g) i) f at
