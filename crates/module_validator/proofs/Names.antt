-- A set of the names so far tells whether the next one is new.
use Rattle.std.proofs.Common.{◌≡◌, ℕ, ◌+◌, ◌<◌, Bool, true, false, cond, List, [], ◌∷◌, length, take, get_or, refl, sym, ◌∙◌, ap, subst}
use Rattle.std.specs.Prelude.{Contains, ◌||◌, not}
use Rattle.std.specs.List.{list_any}
use Rattle.std.specs.Str.{bytes_eq}
use Rattle.std.specs.HashSet.{HashSet, contains_by, Updates}
use Rattle.std.proofs.lemmas.Bool.{not-true, not-false}
use Rattle.std.proofs.lemmas.Cmp.{nat_list_eq_equiv}
use Rattle.std.proofs.lemmas.List.{take_more}
use Rattle.std.proofs.lemmas.List.Folds.{list_any-append}
use Rattle.std.proofs.lemmas.Map.Views.{list_any-from_Contains, Contains-from_any}
use Rattle.std.proofs.lemmas.Slice.Eq.{bytes_eq-Decides}
use Rattle.wasm_types.specs.Typing.{AreDistinct}
use denote.Bor.{Bor}

-- a set of names as the test of each name
abbrev pub has : {S : Type 0} → HashSet (Bor (List ℕ)) S → List ℕ → Bool
has names q = contains_by (λ k. bytes_eq q k.now) names

abbrev text : List ℕ → Bor (List ℕ)
text bytes = record { ref_ptr = (0, 0); now = bytes }

either : (a b x : Bool) → a ≡ b → cond a true x ≡ (x || (b || false))
either true true true e = refl
either true true false e = refl
either false false true e = refl
either false false false e = refl
either true false x e = cc
either false true x e = cc

module _ {S : Type 0} (names : List (List ℕ)) (i : ℕ) (key : Bor (List ℕ)) (old new : HashSet (Bor (List ℕ)) S) where
  pub known_more : i < length names → key.now ≡ get_or names i [] → Updates (λ x y. bytes_eq x.now y.now) old new key true →
      ((q : List ℕ) → has old q ≡ list_any (bytes_eq q) (take i names)) → (q : List ℕ) → has new q ≡ list_any (bytes_eq q) (take (i + 1) names)
  known_more h e updates known q =
      let name : List ℕ = get_or names i [] in
      let now : has new q ≡ cond (bytes_eq key.now q) true (has old q) = updates.0 (text q) in
      now ∙ ap (λ (b : Bool). cond (bytes_eq key.now q) true b) (known q)
      ∙ either (bytes_eq key.now q) (bytes_eq q name) _ (nat_list_eq_equiv.symm key.now q ∙ ap (bytes_eq q) e)
      ∙ sym (ap (list_any (bytes_eq q)) (take_more names i [] h) ∙ list_any-append (bytes_eq q) (take i names) (name ∷ []))

  pub new_name : key.now ≡ get_or names i [] → true ≡ not (has old key.now) → ((q : List ℕ) → has old q ≡ list_any (bytes_eq q) (take i names)) →
      Contains (take i names) (get_or names i []) → ⊥
  new_name e added known there =
      let absent : list_any (bytes_eq key.now) (take i names) ≡ false = sym (known key.now) ∙ not-true (has old key.now) (sym added) in
      let present : list_any (bytes_eq key.now) (take i names) ≡ true = list_any-from_Contains nat_list_eq_equiv key.now (take i names) (subst (Contains (take i names)) (sym e) there) in
      let clash : false ≡ true = sym absent ∙ present in cc

  pub old_name : i < length names → key.now ≡ get_or names i [] → false ≡ not (has old key.now) → ((q : List ℕ) → has old q ≡ list_any (bytes_eq q) (take i names)) → AreDistinct names → ⊥
  old_name h e added known distinct =
      let present : list_any (bytes_eq key.now) (take i names) ≡ true = sym (known key.now) ∙ not-false (has old key.now) (sym added) in
      let same : (x y : List ℕ) → bytes_eq x y ≡ true → x ≡ y = λ x y q. (bytes_eq-Decides x y).0 q in
      distinct i h (subst (Contains (take i names)) e (Contains-from_any same key.now (take i names) present))
