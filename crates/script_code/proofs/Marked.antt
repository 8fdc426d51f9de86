-- What holds of each mark of a script that awk_resolve does not refuse.
use Rattle.std.proofs.Common.{◌≡◌, ℕ, Bool, true, false, ◌||◌, ◌⊎◌, inl, inr, List, [], ◌∷◌, ◌++◌, All, Option, Some, None, is_some, refl, sym, ap, subst, ◌∙◌, true≢false}
use Rattle.std.proofs.lemmas.Bool.{or_cases, or_left, or_right}
use Rattle.std.proofs.lemmas.List.Elements.{All-head, All-tail}
use Rattle.std.proofs.lemmas.List.Folds.{list_any-append}
use Rattle.std.specs.Prelude.{if◌then◌else◌, map, IsTrue}
use Rattle.std.specs.List.{list_all, list_any}
use Rattle.std.specs.Option.{option_map}
use Rattle.awk_grammar.specs.Marks.{Kind, Array, Scalar, Mark, Defined, Parameter, Used, Called, Computed, Given}
use Rattle.awk_grammar.specs.Kinds.{Key, Whole, Head, same_name, has_name, same_key, same_kind, key_in, parameter_at, specials_of, used, members, pair_of, pairs, is_used_as, only_if, or_else, first}
use Rattle.awk_grammar.specs.Least.{IsClosed}
use Rattle.awk_resolve.proofs.Names.{key_sound, key_refl}
use Rattle.awk_resolve.proofs.Least.{least_closed}

abbrev pub In : Mark → List Mark → Type 0
In m [] = ⊥
In m (n ∷ ms) = (n ≡ m) ⊎ In m ms

pub each_in : (p : Mark → Bool) (ms : List Mark) → ((m : Mark) → In m ms → p m ≡ true) → list_all p ms ≡ true
each_in p [] h = refl
each_in p (m ∷ ms) h = rw (h m (inl refl), each_in p ms (λ n i. h n (inr i))) refl

-- What is refused nowhere.

some_not_none : {A : Type 0} (x : A) → Some x ≡ None → ⊥
some_not_none x e = true≢false (ap is_some e)

pub neither : {A : Type 0} (a b : Option A) → or_else a b ≡ None → (a ≡ None) × (b ≡ None)
neither (Some x) b e = absurd (some_not_none x e)
neither None b e = (refl, e)

pub unmapped : {A B : Type 0} (f : A → B) (o : Option A) → option_map f o ≡ None → o ≡ None
unmapped f (Some x) e = absurd (some_not_none (f x) e)
unmapped f None e = refl

pub not_refused : (b : Bool) (x : List ℕ) → only_if b x ≡ None → b ≡ false
not_refused true x e = absurd (some_not_none x e)
not_refused false x e = refl

pub first_none : (p : Mark → Option (List ℕ)) (ms : List Mark) → first p ms ≡ None → (m : Mark) → In m ms → p m ≡ None
first_none p [] e m i = absurd i
first_none p (n ∷ ms) e m (inl q) = subst (λ k. p k ≡ None) q (neither (p n) (first p ms) e).0
first_none p (n ∷ ms) e m (inr i) = first_none p ms (neither (p n) (first p ms) e).1 m i

-- Names used as arrays and as scalars.

member_all : (P : Key → Type 0) (ks : List Key) → All P ks → (k : Key) → list_any (same_key k) ks ≡ true → P k
member_all P [] all k e = absurd (true≢false (sym e))
member_all P (l ∷ ks) all k e = by (or_cases (same_key k l) (list_any (same_key k) ks) e) (member_all P ks (All-tail P l ks all) k)
  where
    by : (same_key k l ≡ true) ⊎ (list_any (same_key k) ks ≡ true) → (list_any (same_key k) ks ≡ true → P k) → P k
    by (inl q) h = subst P (sym (key_sound k l q)) (All-head P l ks all)
    by (inr q) h = h q

kind_refl : (kind : Kind) → same_kind kind kind ≡ true
kind_refl Array = refl
kind_refl Scalar = refl

pub whole_any : (x : List ℕ) (ns : List (List ℕ)) → list_any (same_key (Whole x)) (map Whole ns) ≡ has_name ns x
whole_any x [] = refl
whole_any x (n ∷ ns) = ap (λ b. same_name x n || b) (whole_any x ns)

module _ (hs : List Head) where
  head_used : (kind : Kind) (place : Option (List ℕ)) (x : List ℕ) (rest : List Mark) (b : Bool) → b ≡ true → list_any (same_key (key_in hs place x)) (if b then key_in hs place x ∷ used kind hs rest else used kind hs rest) ≡ true
  head_used kind place x rest true e = rw (key_refl (key_in hs place x)) refl
  head_used kind place x rest false e = absurd (true≢false (sym e))

  more_by : (p : Key → Bool) (k : Key) (ks : List Key) (b : Bool) → list_any p ks ≡ true → list_any p (if b then k ∷ ks else ks) ≡ true
  more_by p k ks true h = or_right (p k) (list_any p ks) h
  more_by p k ks false h = h

  more_used : (p : Key → Bool) (kind : Kind) (m : Mark) (ms : List Mark) → list_any p (used kind hs ms) ≡ true → list_any p (used kind hs (m ∷ ms)) ≡ true
  more_used p kind (Used k place x) ms h = more_by p (key_in hs place x) (used kind hs ms) (same_kind kind k) h
  more_used p kind (Defined f) ms h = h
  more_used p kind (Parameter f x) ms h = h
  more_used p kind (Called f n) ms h = h
  more_used p kind (Computed f i) ms h = h
  more_used p kind (Given f i place x) ms h = h

  used_in : (kind : Kind) (place : Option (List ℕ)) (x : List ℕ) (ms : List Mark) → In (Used kind place x) ms → list_any (same_key (key_in hs place x)) (used kind hs ms) ≡ true
  used_in kind place x [] i = absurd i
  used_in kind place x (m ∷ ms) (inl e) = subst (λ n. list_any (same_key (key_in hs place x)) (used kind hs (n ∷ ms)) ≡ true) (sym e) (head_used kind place x ms (same_kind kind kind) (kind_refl kind))
  used_in kind place x (m ∷ ms) (inr i) = more_used (same_key (key_in hs place x)) kind m ms (used_in kind place x ms i)

  module _ (ms : List Mark) where
    closed : (kind : Kind) → IsClosed (is_used_as kind hs ms) (members kind hs ms) (pairs hs ms)
    closed kind = least_closed same_key key_sound key_refl (members kind hs ms) (pairs hs ms)

    member_used : (kind : Kind) (k : Key) → (list_any (same_key k) (map Whole (specials_of kind)) || list_any (same_key k) (used kind hs ms)) ≡ true → is_used_as kind hs ms k ≡ true
    member_used kind k e = member_all (λ l. IsTrue (is_used_as kind hs ms l)) (members kind hs ms) (closed kind).has k (list_any-append (same_key k) (map Whole (specials_of kind)) (used kind hs ms) ∙ e)

    -- a name that is used so somewhere
    pub is_used : (kind : Kind) (place : Option (List ℕ)) (x : List ℕ) → In (Used kind place x) ms → is_used_as kind hs ms (key_in hs place x) ≡ true
    is_used kind place x i = let k = key_in hs place x in member_used kind k (or_right (list_any (same_key k) (map Whole (specials_of kind))) (list_any (same_key k) (used kind hs ms)) (used_in kind place x ms i))

    pub special_used : (kind : Kind) (x : List ℕ) → has_name (specials_of kind) x ≡ true → is_used_as kind hs ms (Whole x) ≡ true
    special_used kind x e = member_used kind (Whole x) (or_left (list_any (same_key (Whole x)) (map Whole (specials_of kind))) (list_any (same_key (Whole x)) (used kind hs ms)) (whole_any x (specials_of kind) ∙ e))

  module _ (Q : Key × Key → Type 0) where
    rest_pairs : (m : Mark) (ms : List Mark) → All Q (pairs hs (m ∷ ms)) → All Q (pairs hs ms)
    rest_pairs (Given f i place x) ms all = by (parameter_at hs f i) all
      where
        by : (o : Option Key) → All Q (pair_of (key_in hs place x) o ++ pairs hs ms) → All Q (pairs hs ms)
        by None h = h
        by (Some p) h = All-tail Q (key_in hs place x, p) (pairs hs ms) h
    rest_pairs (Defined f) ms all = all
    rest_pairs (Parameter f x) ms all = all
    rest_pairs (Used k place x) ms all = all
    rest_pairs (Called f n) ms all = all
    rest_pairs (Computed f i) ms all = all

    given_pair : (f : List ℕ) (i : ℕ) (place : Option (List ℕ)) (x : List ℕ) (p : Key) → parameter_at hs f i ≡ Some p → (ms : List Mark) → In (Given f i place x) ms → All Q (pairs hs ms) → Q (key_in hs place x, p)
    given_pair f i place x p e [] n all = absurd n
    given_pair f i place x p e (m ∷ ms) (inl q) all =
        let k = key_in hs place x in
        let here : All Q (pair_of k (parameter_at hs f i) ++ pairs hs ms) = subst (λ n. All Q (pairs hs (n ∷ ms))) q all in
        let there : All Q ((k, p) ∷ pairs hs ms) = subst (λ o. All Q (pair_of k o ++ pairs hs ms)) e here in
        All-head Q (k, p) (pairs hs ms) there
    given_pair f i place x p e (m ∷ ms) (inr n) all = given_pair f i place x p e ms n (rest_pairs m ms all)

  -- a bare name given for an array is an array
  pub given_array : (ms : List Mark) (f : List ℕ) (i : ℕ) (place : Option (List ℕ)) (x : List ℕ) (p : Key) → In (Given f i place x) ms → parameter_at hs f i ≡ Some p → is_used_as Array hs ms p ≡ true → is_used_as Array hs ms (key_in hs place x) ≡ true
  given_array ms f i place x p n e h = given_pair (λ q. IsTrue (is_used_as Array hs ms q.1) → IsTrue (is_used_as Array hs ms q.0)) f i place x p e ms n (closed ms Array).follows h
