-- Names that are boxed in their places, and what is kept, by its place.
use Rattle.std.proofs.Common.{◌≡◌, ℕ, zero, suc, ◌-◌, ◌<◌, ◌≤◌, List, [], ◌∷◌, length, map, get_or, set, refl, ap, arith}
use Rattle.std.specs.declared.vec.Vec.{Vec}
use Rattle.std.specs.declared.alloc.Global.{Global}
use Rattle.mid_program.specs.Mid as plain
use Rattle.mid_program.specs.Mid.{form_at}
use Rattle.mid_program.specs.View.{view_kind}
use Rattle.mid_program.specs.declared.program.Kind.{Kind}
use Rattle.value_kinds.specs.Lanes.{close_at, close_in, closed}
use Rattle.value_kinds.specs.View.{view_kinds}

pub close_set : (ks : List Kind) (i : ℕ) (x d : Kind) → i < length ks → view_kind x ≡ closed (view_kind (get_or ks i d)) → map view_kind (set ks i x) ≡ close_at (map view_kind ks) i
close_set [] i x d lt e = absurd (omega arith)
close_set (k ∷ ks) zero x d lt e = ap (λ (y : plain.Kind). y ∷ map view_kind ks) e
close_set (k ∷ ks) (suc i) x d lt e = ap (λ (ys : List plain.Kind). view_kind k ∷ ys) (close_set ks i x d (omega arith) e)

pub close_past : (ks : List Kind) (i : ℕ) → length ks ≤ i → map view_kind ks ≡ close_at (map view_kind ks) i
close_past [] i le = refl
close_past (k ∷ ks) zero le = absurd (omega arith)
close_past (k ∷ ks) (suc i) le = ap (λ (ys : List plain.Kind). view_kind k ∷ ys) (close_past ks i (omega arith))

pub close_in_set : (vs : List (Vec Kind Global)) (f i : ℕ) (x d : Vec Kind Global) → f < length vs → view_kinds x ≡ close_at (view_kinds (get_or vs f d)) i →
    map view_kinds (set vs f x) ≡ close_in (map view_kinds vs) f i
close_in_set [] f i x d lt e = absurd (omega arith)
close_in_set (v ∷ vs) zero i x d lt e = ap (λ (ks : List plain.Kind). ks ∷ map view_kinds vs) e
close_in_set (v ∷ vs) (suc f) i x d lt e = ap (λ (kss : List (List plain.Kind)). view_kinds v ∷ kss) (close_in_set vs f i x d (omega arith) e)

pub close_in_past : (vs : List (Vec Kind Global)) (f i : ℕ) → length vs ≤ f → map view_kinds vs ≡ close_in (map view_kinds vs) f i
close_in_past [] f i le = refl
close_in_past (v ∷ vs) zero i le = absurd (omega arith)
close_in_past (v ∷ vs) (suc f) i le = ap (λ (kss : List (List plain.Kind)). view_kinds v ∷ kss) (close_in_past vs f i (omega arith))

-- what was kept before the last one
pub form_before : (f : plain.Form) (fs : List plain.Form) (i : ℕ) → 0 < i → form_at fs (i - 1) ≡ form_at (f ∷ fs) i
form_before f fs zero lt = absurd (omega arith)
form_before f fs (suc i) lt = ap (form_at fs) (omega arith)
