-- Tables of the numbers of names.
use Rattle.std.proofs.Common.{◌≡◌, ℕ, suc, ◌<◌, length, get_or, Bool, true, false, List, [], ◌∷◌, ◌++◌, Option, Some, None, refl, ap, sym, subst, ◌∙◌, cond, if◌then◌else◌, is_some, true≢false, arith}
use Rattle.std.specs.Borrow.{Bor}
use Rattle.awk_grammar.specs.ViewStmt.{view_names}
use Rattle.awk_grammar.specs.Kinds.{or_else, parameters_of, same_name}
use Rattle.awk_resolve.specs.ViewNames.{head_names, view_heads}
use Rattle.awk_resolve.specs.declared.scopes.Head.{Head}
use Rattle.awk_resolve.specs.Places.{next_place, number_in, place_of, ArePlaces}
use Rattle.awk_resolve.proofs.Names.{same_sound, same_refl}

abbrev pub Entry : Type 0
Entry = Bor (List ℕ) × ℕ

same_by : (a b : List ℕ) (p q : Bool) → same_name a b ≡ p → same_name b a ≡ q → p ≡ q
same_by a b true true e f = refl
same_by a b false false e f = refl
same_by a b true false e f = absurd (true≢false (sym (subst (λ (u : List ℕ). same_name u a ≡ true) (same_sound a b e) (same_refl a)) ∙ f))
same_by a b false true e f = absurd (true≢false (sym (subst (λ (u : List ℕ). same_name u b ≡ true) (same_sound b a f) (same_refl b)) ∙ e))

same_turned : (a b : List ℕ) → same_name a b ≡ same_name b a
same_turned a b = same_by a b (same_name a b) (same_name b a) refl refl

next_or : (o : Option ℕ) (c : Bool) (n : ℕ) → next_place (or_else o (if c then Some n else None)) ≡ or_else (next_place o) (if c then Some (suc n) else None)
next_or (Some k) c n = refl
next_or None true n = refl
next_or None false n = refl

place_more : (ns : List (List ℕ)) (n x : List ℕ) → place_of (ns ++ n ∷ []) x ≡ or_else (place_of ns x) (if same_name n x then Some (length ns) else None)
place_more [] n x = refl
place_more (m ∷ ns) n x = by (same_name m x) (same_name n x) (place_more ns n x)
  where
    by : (b c : Bool) → place_of (ns ++ n ∷ []) x ≡ or_else (place_of ns x) (if c then Some (length ns) else None)
        → (if b then Some 0 else next_place (place_of (ns ++ n ∷ []) x)) ≡ or_else (if b then Some 0 else next_place (place_of ns x)) (if c then Some (suc (length ns)) else None)
    by true c h = refl
    by false c h = ap next_place h ∙ next_or (place_of ns x) c (length ns)

lookup_push : (es : List Entry) (e : Entry) (x : List ℕ) → number_in (es ++ e ∷ []) x ≡ or_else (number_in es x) (if same_name x e.0.now then Some e.1 else None)
lookup_push [] e x = refl
lookup_push (d ∷ es) e x = by (same_name x d.0.now) (lookup_push es e x)
  where
    by : (b : Bool) → number_in (es ++ e ∷ []) x ≡ or_else (number_in es x) (if same_name x e.0.now then Some e.1 else None) → cond b (Some d.1) (number_in (es ++ e ∷ []) x) ≡ or_else (cond b (Some d.1) (number_in es x)) (if same_name x e.0.now then Some e.1 else None)
    by true h = refl
    by false h = h

known_by : (o : Option ℕ) (c : Bool) (i : ℕ) → (c ≡ true → is_some o ≡ true) → o ≡ or_else o (if c then Some i else None)
known_by (Some k) c i h = refl
known_by None true i h = absurd (true≢false (sym (h refl)))
known_by None false i h = refl

-- the table with a name that is there already, and with one that is new
pub known_place : (es : List Entry) (ns : List (List ℕ)) (n : List ℕ) → is_some (number_in es n) ≡ true → ArePlaces es (place_of ns) → ArePlaces es (place_of (ns ++ n ∷ []))
known_place es ns n there h x =
    h x ∙ known_by (place_of ns x) (same_name n x) (length ns) (λ e. subst (λ (u : List ℕ). is_some (place_of ns u) ≡ true) (same_sound n x e) (ap is_some (sym (h n)) ∙ there))
    ∙ sym (place_more ns n x)

pub new_place : (es : List Entry) (ns : List (List ℕ)) (n : Bor (List ℕ)) (i : ℕ) → length ns ≡ i → ArePlaces es (place_of ns) → ArePlaces (es ++ (n, i) ∷ []) (place_of (ns ++ n.now ∷ []))
new_place es ns n i e h x =
    lookup_push es (n, i) x
    ∙ (λ j. or_else (h x j) (if same_turned x n.now j then Some (sym e j) else None))
    ∙ sym (place_more ns n.now x)

-- a place is below the length
pub place_small : (ns : List (List ℕ)) (x : List ℕ) (i : ℕ) → place_of ns x ≡ Some i → i < length ns
place_small [] x i h = absurd (cc)
place_small (n ∷ ns) x i h = by (same_name n x) (place_of ns x) (λ k e. place_small ns x k e) h
  where
    by : (b : Bool) (o : Option ℕ) → ((k : ℕ) → o ≡ Some k → k < length ns) → (if b then Some 0 else next_place o) ≡ Some i → i < suc (length ns)
    by true o e g = let z : 0 ≡ i = cc in omega (arith, z)
    by false None e g = absurd (cc)
    by false (Some k) e g = let z : suc k ≡ i = cc in let s = e k refl in omega (arith, z, s)

-- The parameters of a function by its place.

pub parameters_at : (hs : List Head) (f : List ℕ) (i : ℕ) (d : Head) → place_of (head_names (view_heads hs)) f ≡ Some i → parameters_of (view_heads hs) f ≡ Some (view_names (get_or hs i d).parameters.now)
parameters_at [] f i d e = absurd (cc)
parameters_at (h ∷ hs) f i d e = by (same_name h.name.now f) (same_name f h.name.now) (same_turned h.name.now f) (place_of (head_names (view_heads hs)) f) (λ k g. parameters_at hs f k d g) i e
  where
    by : (b c : Bool) → b ≡ c → (o : Option ℕ) → ((k : ℕ) → o ≡ Some k → parameters_of (view_heads hs) f ≡ Some (view_names (get_or hs k d).parameters.now)) → (i : ℕ) → (if b then Some 0 else next_place o) ≡ Some i
        → (if c then Some (view_names h.parameters.now) else parameters_of (view_heads hs) f) ≡ Some (view_names (get_or (h ∷ hs) i d).parameters.now)
    by true true e o next i g = let z : 0 ≡ i = cc in subst (λ (j : ℕ). Some (view_names h.parameters.now) ≡ Some (view_names (get_or (h ∷ hs) j d).parameters.now)) z refl
    by true false e o next i g = absurd (true≢false e)
    by false true e o next i g = absurd (true≢false (sym e))
    by false false e None next i g = absurd (cc)
    by false false e (Some k) next i g = let z : suc k ≡ i = cc in subst (λ (j : ℕ). parameters_of (view_heads hs) f ≡ Some (view_names (get_or (h ∷ hs) j d).parameters.now)) z (next k refl)

pub no_parameters : (hs : List Head) (f : List ℕ) → place_of (head_names (view_heads hs)) f ≡ None → parameters_of (view_heads hs) f ≡ None
no_parameters [] f e = refl
no_parameters (h ∷ hs) f e = by (same_name h.name.now f) (same_name f h.name.now) (same_turned h.name.now f) (place_of (head_names (view_heads hs)) f) (λ g. no_parameters hs f g) e
  where
    by : (b c : Bool) → b ≡ c → (o : Option ℕ) → (o ≡ None → parameters_of (view_heads hs) f ≡ None) → (if b then Some 0 else next_place o) ≡ None → (if c then Some (view_names h.parameters.now) else parameters_of (view_heads hs) f) ≡ None
    by true c e o next g = absurd (cc)
    by false true e o next g = absurd (true≢false (sym e))
    by false false e None next g = next refl
    by false false e (Some k) next g = absurd (cc)
