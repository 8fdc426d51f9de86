-- The computed set is the least one.
use Rattle.std.proofs.Common.{◌≡◌, Bool, true, false, ◌||◌, ◌&&◌, IsTrue, List, [], ◌∷◌, All, refl, sym, subst, ◌⊎◌, inl, inr, true≢false, get_or}
use Rattle.std.specs.List.{list_any}
use Rattle.std.proofs.lemmas.List.Elements.{All-nil, All-cons, All-head, All-tail, All-weaker}
use Rattle.std.proofs.lemmas.List.Folds.{list_any_at}
use Rattle.awk_grammar.specs.Least.{IsClosed, IsLeast}
use Rattle.awk_grammar.specs.LeastSets.{leads, least}

or_cases : (a b : Bool) → (a || b) ≡ true → (a ≡ true) ⊎ (b ≡ true)
or_cases true b h = inl refl
or_cases false b h = inr h

or_left : (a b : Bool) → a ≡ true → (a || b) ≡ true
or_left true b h = refl
or_left false b h = absurd (true≢false (sym h))

or_right : (a b : Bool) → b ≡ true → (a || b) ≡ true
or_right true b h = refl
or_right false b h = h

and_cases : (a b : Bool) → (a && b) ≡ true → (a ≡ true) × (b ≡ true)
and_cases true b h = (refl, h)
and_cases false b h = absurd (true≢false (sym h))

and_both : (a b : Bool) → a ≡ true → b ≡ true → (a && b) ≡ true
and_both true b h k = k
and_both false b h k = absurd (true≢false (sym h))

module _ {A : Type 0} (same : A → A → Bool) (same_sound : (x y : A) → same x y ≡ true → x ≡ y) (same_refl : (x : A) → same x x ≡ true) where
  leads_refl : (ps : List (A × A)) (x : A) → leads same ps x x ≡ true
  leads_refl [] x = same_refl x
  leads_refl (p ∷ ps) x = or_left (leads same ps x x) (leads same ps x p.0 && leads same ps p.1 x) (leads_refl ps x)

  leads_trans : (ps : List (A × A)) (x y z : A) → leads same ps x y ≡ true → leads same ps y z ≡ true → leads same ps x z ≡ true
  leads_trans [] x y z h k = subst (λ (u : A). same u z ≡ true) (sym (same_sound x y h)) k
  leads_trans (p ∷ ps) x y z h k = by (or_cases (leads same ps x y) (leads same ps x p.0 && leads same ps p.1 y) h) (or_cases (leads same ps y z) (leads same ps y p.0 && leads same ps p.1 z) k) (leads_trans ps)
    where
      by : (leads same ps x y ≡ true) ⊎ ((leads same ps x p.0 && leads same ps p.1 y) ≡ true) → (leads same ps y z ≡ true) ⊎ ((leads same ps y p.0 && leads same ps p.1 z) ≡ true)
          → ((x y z : A) → leads same ps x y ≡ true → leads same ps y z ≡ true → leads same ps x z ≡ true) → (leads same ps x z || (leads same ps x p.0 && leads same ps p.1 z)) ≡ true
      by (inl i) (inl j) t = or_left (leads same ps x z) (leads same ps x p.0 && leads same ps p.1 z) (t x y z i j)
      by (inl i) (inr j) t = let c = and_cases (leads same ps y p.0) (leads same ps p.1 z) j in or_right (leads same ps x z) (leads same ps x p.0 && leads same ps p.1 z) (and_both (leads same ps x p.0) (leads same ps p.1 z) (t x y p.0 i c.0) c.1)
      by (inr i) (inl j) t = let c = and_cases (leads same ps x p.0) (leads same ps p.1 y) i in or_right (leads same ps x z) (leads same ps x p.0 && leads same ps p.1 z) (and_both (leads same ps x p.0) (leads same ps p.1 z) c.0 (t p.1 y z c.1 j))
      by (inr i) (inr j) t = let c = and_cases (leads same ps x p.0) (leads same ps p.1 y) i in let d = and_cases (leads same ps y p.0) (leads same ps p.1 z) j in or_right (leads same ps x z) (leads same ps x p.0 && leads same ps p.1 z) (and_both (leads same ps x p.0) (leads same ps p.1 z) c.0 d.1)

  -- a way of fewer pairs is one of more
  leads_more : (p : A × A) (ps : List (A × A)) (x y : A) → leads same ps x y ≡ true → leads same (p ∷ ps) x y ≡ true
  leads_more p ps x y h = or_left (leads same ps x y) (leads same ps x p.0 && leads same ps p.1 y) h

  leads_pair : (p : A × A) (ps : List (A × A)) → leads same (p ∷ ps) p.0 p.1 ≡ true
  leads_pair p ps = or_right (leads same ps p.0 p.1) (leads same ps p.0 p.0 && leads same ps p.1 p.1) (and_both (leads same ps p.0 p.0) (leads same ps p.1 p.1) (leads_refl ps p.0) (leads_refl ps p.1))

  -- each of some pairs is a way of them all
  abbrev AreWays : List (A × A) → List (A × A) → Type 0
  AreWays all ps = All (λ p. leads same all p.0 p.1 ≡ true) ps

  ways : (ps : List (A × A)) → AreWays ps ps
  ways [] = All-nil (λ p. leads same [] p.0 p.1 ≡ true)
  ways (p ∷ ps) = All-cons (λ q. leads same (p ∷ ps) q.0 q.1 ≡ true) p ps (leads_pair p ps) (All-weaker (λ q. leads same ps q.0 q.1 ≡ true) (λ q. leads same (p ∷ ps) q.0 q.1 ≡ true) (λ q h. leads_more p ps q.0 q.1 h) ps (ways ps))

  any_weaker : (f g : A → Bool) → ((x : A) → f x ≡ true → g x ≡ true) → (xs : List A) → list_any f xs ≡ true → list_any g xs ≡ true
  any_weaker f g w [] h = h
  any_weaker f g w (x ∷ xs) h = by (or_cases (f x) (list_any f xs) h) (any_weaker f g w xs)
    where
      by : (f x ≡ true) ⊎ (list_any f xs ≡ true) → (list_any f xs ≡ true → list_any g xs ≡ true) → (g x || list_any g xs) ≡ true
      by (inl i) k = or_left (g x) (list_any g xs) (w x i)
      by (inr i) k = or_right (g x) (list_any g xs) (k i)

  pub least_closed : (members : List A) (ps : List (A × A)) → IsClosed (least same members ps) members ps
  least_closed members ps = record {
    has = λ k d lt. list_any_at (leads same ps (get_or members k d)) members k d lt (leads_refl ps (get_or members k d));
    follows = All-weaker (λ p. leads same ps p.0 p.1 ≡ true) (λ p. IsTrue (least same members ps p.1) → IsTrue (least same members ps p.0)) (λ p h i. any_weaker (leads same ps p.1) (leads same ps p.0) (λ x j. leads_trans ps p.0 p.1 x h j) members i) ps (ways ps);
  }

  module _ (other : A → Bool) where
    way_within : (ps : List (A × A)) → All (λ p. IsTrue (other p.1) → IsTrue (other p.0)) ps → (x y : A) → leads same ps x y ≡ true → IsTrue (other y) → IsTrue (other x)
    way_within [] follows x y h there = subst (λ (u : A). IsTrue (other u)) (sym (same_sound x y h)) there
    way_within (p ∷ ps) follows x y h there = by (or_cases (leads same ps x y) (leads same ps x p.0 && leads same ps p.1 y) h) (way_within ps (All-tail (λ q. IsTrue (other q.1) → IsTrue (other q.0)) p ps follows))
      where
        by : (leads same ps x y ≡ true) ⊎ ((leads same ps x p.0 && leads same ps p.1 y) ≡ true) → ((x y : A) → leads same ps x y ≡ true → IsTrue (other y) → IsTrue (other x)) → IsTrue (other x)
        by (inl i) w = w x y i there
        by (inr i) w = let c = and_cases (leads same ps x p.0) (leads same ps p.1 y) i in w x p.0 c.0 (All-head (λ q. IsTrue (other q.1) → IsTrue (other q.0)) p ps follows (w p.1 y c.1 there))

    any_within : (ps : List (A × A)) → All (λ p. IsTrue (other p.1) → IsTrue (other p.0)) ps → (members : List A) → All (λ x. IsTrue (other x)) members → (x : A) → list_any (leads same ps x) members ≡ true → IsTrue (other x)
    any_within ps follows [] has x h = absurd (true≢false (sym h))
    any_within ps follows (m ∷ ms) has x h = by (or_cases (leads same ps x m) (list_any (leads same ps x) ms) h) (any_within ps follows ms (All-tail (λ x. IsTrue (other x)) m ms has) x)
      where
        by : (leads same ps x m ≡ true) ⊎ (list_any (leads same ps x) ms ≡ true) → (list_any (leads same ps x) ms ≡ true → IsTrue (other x)) → IsTrue (other x)
        by (inl i) k = way_within ps follows x m i (All-head (λ x. IsTrue (other x)) m ms has)
        by (inr i) k = k i

  pub least_is : (members : List A) (ps : List (A × A)) → IsLeast (least same members ps) members ps
  least_is members ps = record {
    closed = least_closed members ps;
    within = λ other closed x h. any_within other ps closed.follows members closed.has x h;
  }
