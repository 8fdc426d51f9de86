-- What is boxed stays boxed, and what is unboxed is a scalar.
use Rattle.std.proofs.Common.{◌≡◌, ℕ, zero, suc, true, List, [], ◌∷◌, map, refl}
use Rattle.mid_program.specs.Mid.{Kind, Boxed, Unboxed, ArrayKind, parameters_at}
use Rattle.value_kinds.specs.Applied.{is_unboxed}
use Rattle.value_kinds.specs.Found.{is_scalar}
use Rattle.value_kinds.specs.Lanes.{close_at, close_in, closed, opened}
use Rattle.value_kinds.proofs.Forms.{clash}

closed_boxed : (k : Kind) (ks : List Kind) → is_unboxed (closed k ∷ ks) zero ≡ true → ⊥
closed_boxed ArrayKind ks h = clash h
closed_boxed Boxed ks h = clash h
closed_boxed Unboxed ks h = clash h

pub close_below : (ks : List Kind) (j i : ℕ) → is_unboxed (close_at ks j) i ≡ true → is_unboxed ks i ≡ true
close_below [] j i h = h
close_below (k ∷ ks) zero zero h = absurd (closed_boxed k ks h)
close_below (k ∷ ks) zero (suc i) h = h
close_below (k ∷ ks) (suc j) zero h = h
close_below (k ∷ ks) (suc j) (suc i) h = close_below ks j i h

pub close_in_below : (kss : List (List Kind)) (g j f i : ℕ) → is_unboxed (parameters_at (close_in kss g j) f) i ≡ true → is_unboxed (parameters_at kss f) i ≡ true
close_in_below [] g j f i h = h
close_in_below (ks ∷ kss) zero j zero i h = close_below ks j i h
close_in_below (ks ∷ kss) zero j (suc f) i h = h
close_in_below (ks ∷ kss) (suc g) j zero i h = h
close_in_below (ks ∷ kss) (suc g) j (suc f) i h = close_in_below kss g j f i h

pub at_closed : (ks : List Kind) (i : ℕ) → is_unboxed (close_at ks i) i ≡ true → ⊥
at_closed [] i h = clash h
at_closed (k ∷ ks) zero h = closed_boxed k ks h
at_closed (k ∷ ks) (suc i) h = at_closed ks i h

pub at_closed_in : (kss : List (List Kind)) (f i : ℕ) → is_unboxed (parameters_at (close_in kss f i) f) i ≡ true → ⊥
at_closed_in [] f i h = clash h
at_closed_in (ks ∷ kss) zero i h = at_closed ks i h
at_closed_in (ks ∷ kss) (suc f) i h = at_closed_in kss f i h

pub opened_scalar : (ks : List Kind) (i : ℕ) → is_unboxed (map opened ks) i ≡ true → is_scalar ks i ≡ true
opened_scalar [] i h = clash h
opened_scalar (ArrayKind ∷ ks) zero h = clash h
opened_scalar (Boxed ∷ ks) zero h = refl
opened_scalar (Unboxed ∷ ks) zero h = refl
opened_scalar (ArrayKind ∷ ks) (suc i) h = opened_scalar ks i h
opened_scalar (Boxed ∷ ks) (suc i) h = opened_scalar ks i h
opened_scalar (Unboxed ∷ ks) (suc i) h = opened_scalar ks i h

pub opened_scalar_in : (kss : List (List Kind)) (f i : ℕ) → is_unboxed (parameters_at (map (map opened) kss) f) i ≡ true → is_scalar (parameters_at kss f) i ≡ true
opened_scalar_in [] f i h = clash h
opened_scalar_in (ks ∷ kss) zero i h = opened_scalar ks i h
opened_scalar_in (ks ∷ kss) (suc f) i h = opened_scalar_in kss f i h
