-- The variables that awk_resolve lists: each that a mark names, each once, and none that is a function's name.
use Rattle.std.proofs.Common.{◌≡◌, ℕ, Bool, true, false, ◌||◌, ◌⊎◌, inl, inr, List, [], ◌∷◌, ◌++◌, Option, Some, None, refl, sym, ap, subst, ◌∙◌, true≢false}
use Rattle.std.proofs.lemmas.Bool.{or_cases, or_parts, or_from, or_left, or_right, false_from_ne_true}
use Rattle.std.proofs.lemmas.List.Folds.{list_any-append}
use Rattle.std.specs.Prelude.{if◌then◌else◌, map}
use Rattle.std.specs.List.{list_any}
use Rattle.std.specs.Option.{option_map}
use Rattle.awk_grammar.specs.Marks.{Mark, Defined, Parameter, Used, Called, Computed, Given}
use Rattle.awk_grammar.specs.Kinds.{Key, Whole, Inside, Head, has_name, specials, same_key, parameters_of, is_function, parameter_name, head_keys, parameter_keys, key_in, parameter_at, defined, declared, duplicate, first_duplicate, with_key, with_maybe, with_mark, with_marks, with_keys, variables}
use Rattle.awk_resolve.proofs.Names.{same_sound, key_sound, key_refl, any_with_key, any_with_keys}
use Rattle.script_code.proofs.Marked.{In, neither, not_refused, whole_any}

abbrev pub Has : List Key → Key → Type 0
Has ks k = list_any (same_key k) ks ≡ true

kept_key : (k l : Key) (ks : List Key) → Has ks k → Has (with_key ks l) k
kept_key k l ks h = any_with_key k ks l ∙ or_left (list_any (same_key k) ks) (same_key k l) h

new_key : (k : Key) (ks : List Key) → Has (with_key ks k) k
new_key k ks = any_with_key k ks k ∙ or_right (list_any (same_key k) ks) (same_key k k) (key_refl k)

kept_maybe : (k : Key) (o : Option Key) (ks : List Key) → Has ks k → Has (with_maybe ks o) k
kept_maybe k None ks h = h
kept_maybe k (Some l) ks h = kept_key k l ks h

-- parameters are no variables of the whole script

no_whole : (x f : List ℕ) (ys : List (List ℕ)) → list_any (same_key (Whole x)) (head_keys f ys) ≡ false
no_whole x f [] = refl
no_whole x f (y ∷ ys) = no_whole x f ys

none_whole : (x : List ℕ) (hs : List Head) → list_any (same_key (Whole x)) (parameter_keys hs) ≡ false
none_whole x [] = refl
none_whole x (h ∷ hs) = list_any-append (same_key (Whole x)) (head_keys h.name h.parameters) (parameter_keys hs) ∙ or_from (list_any (same_key (Whole x)) (head_keys h.name h.parameters)) (list_any (same_key (Whole x)) (parameter_keys hs)) (no_whole x h.name h.parameters) (none_whole x hs)

module _ (hs : List Head) where
  kept_mark : (k : Key) (m : Mark) (ks : List Key) → Has ks k → Has (with_mark hs ks m) k
  kept_mark k (Used kind place x) ks h = kept_key k (key_in hs place x) ks h
  kept_mark k (Given f i place x) ks h = kept_maybe k (parameter_at hs f i) (with_key ks (key_in hs place x)) (kept_key k (key_in hs place x) ks h)
  kept_mark k (Defined f) ks h = h
  kept_mark k (Parameter f x) ks h = h
  kept_mark k (Called f n) ks h = h
  kept_mark k (Computed f i) ks h = h

  kept_marks : (k : Key) (ms : List Mark) (ks : List Key) → Has ks k → Has (with_marks hs ks ms) k
  kept_marks k [] ks h = h
  kept_marks k (m ∷ ms) ks h = kept_marks k ms (with_mark hs ks m) (kept_mark k m ks h)

  -- the variable of a mark that names one
  abbrev pub Names : Mark → Key → Type 0
  Names (Used kind place x) k = key_in hs place x ≡ k
  Names (Given f i place x) k = key_in hs place x ≡ k
  Names m k = ⊥

  marked : (m : Mark) (k : Key) (ks : List Key) → Names m k → Has (with_mark hs ks m) k
  marked (Used kind place x) k ks e = subst (λ l. Has (with_key ks l) k) (sym e) (new_key k ks)
  marked (Given f i place x) k ks e = kept_maybe k (parameter_at hs f i) (with_key ks (key_in hs place x)) (subst (λ l. Has (with_key ks l) k) (sym e) (new_key k ks))
  marked (Defined f) k ks e = absurd e
  marked (Parameter f x) k ks e = absurd e
  marked (Called f n) k ks e = absurd e
  marked (Computed f i) k ks e = absurd e

  listed_from : (m : Mark) (k : Key) → Names m k → (ms : List Mark) (ks : List Key) → In m ms → Has (with_marks hs ks ms) k
  listed_from m k e [] ks i = absurd i
  listed_from m k e (n ∷ ms) ks (inl q) = kept_marks k ms (with_mark hs ks n) (subst (λ l. Has (with_mark hs ks l) k) (sym q) (marked m k ks e))
  listed_from m k e (n ∷ ms) ks (inr i) = listed_from m k e ms (with_mark hs ks n) i

  pub listed : (m : Mark) (k : Key) (ms : List Mark) → Names m k → In m ms → Has (variables hs ms) k
  listed m k ms e i = listed_from m k e ms (with_keys (with_keys [] (parameter_keys hs)) (map Whole specials)) i

  -- Each is listed once.

  abbrev pub Distinct : List Key → Type 0
  Distinct [] = Unit {0}
  Distinct (k ∷ ks) = (list_any (same_key k) ks ≡ false) × Distinct ks

  apart_keys : (k l : Key) → same_key k l ≡ false → same_key l k ≡ false
  apart_keys k l e = false_from_ne_true (same_key l k) (λ h. true≢false (sym (key_refl k) ∙ (ap (same_key k) (sym (key_sound l k h)) ∙ e)))

  one_more : (ks : List Key) (k : Key) → list_any (same_key k) ks ≡ false → Distinct ks → Distinct (ks ++ k ∷ [])
  one_more [] k e d = (refl, tt)
  one_more (l ∷ ks) k e d =
      let p = or_parts (same_key k l) (list_any (same_key k) ks) e in
      (list_any-append (same_key l) ks (k ∷ []) ∙ or_from (list_any (same_key l) ks) (same_key l k || false) d.0 (or_from (same_key l k) false (apart_keys k l p.0) refl), one_more ks k p.1 d.1)

  once_by : (b : Bool) (ks : List Key) (k : Key) → list_any (same_key k) ks ≡ b → Distinct ks → Distinct (if b then ks else ks ++ k ∷ [])
  once_by true ks k e d = d
  once_by false ks k e d = one_more ks k e d

  once : (ks : List Key) (k : Key) → Distinct ks → Distinct (with_key ks k)
  once ks k d = once_by (list_any (same_key k) ks) ks k refl d

  once_maybe : (ks : List Key) (o : Option Key) → Distinct ks → Distinct (with_maybe ks o)
  once_maybe ks None d = d
  once_maybe ks (Some k) d = once ks k d

  once_keys : (ks ls : List Key) → Distinct ks → Distinct (with_keys ks ls)
  once_keys ks [] d = d
  once_keys ks (l ∷ ls) d = once_keys (with_key ks l) ls (once ks l d)

  once_marks : (ms : List Mark) (ks : List Key) → Distinct ks → Distinct (with_marks hs ks ms)
  once_marks [] ks d = d
  once_marks (Used kind place x ∷ ms) ks d = once_marks ms (with_key ks (key_in hs place x)) (once ks (key_in hs place x) d)
  once_marks (Given f i place x ∷ ms) ks d = once_marks ms (with_maybe (with_key ks (key_in hs place x)) (parameter_at hs f i)) (once_maybe (with_key ks (key_in hs place x)) (parameter_at hs f i) (once ks (key_in hs place x) d))
  once_marks (Defined f ∷ ms) ks d = once_marks ms ks d
  once_marks (Parameter f x ∷ ms) ks d = once_marks ms ks d
  once_marks (Called f n ∷ ms) ks d = once_marks ms ks d
  once_marks (Computed f i ∷ ms) ks d = once_marks ms ks d

  pub variables_distinct : (ms : List Mark) → Distinct (variables hs ms)
  variables_distinct ms = once_marks ms (with_keys (with_keys [] (parameter_keys hs)) (map Whole specials)) (once_keys (with_keys [] (parameter_keys hs)) (map Whole specials) (once_keys [] (parameter_keys hs) tt))

  -- A variable of the whole script is special, or no function's name.

  abbrev pub NotFunction : Mark → Type 0
  NotFunction (Used kind place x) = is_function hs x ≡ false
  NotFunction (Given f i place x) = is_function hs x ≡ false
  NotFunction m = Unit {0}

  not_function : (m : Mark) (fs : List (List ℕ)) (ps : List Key) → duplicate hs fs ps m ≡ None → NotFunction m
  not_function (Used kind place x) fs ps e = not_refused (is_function hs x) x e
  not_function (Given f i place x) fs ps e = not_refused (is_function hs x) x e
  not_function (Defined f) fs ps e = tt
  not_function (Parameter f x) fs ps e = tt
  not_function (Called f n) fs ps e = tt
  not_function (Computed f i) fs ps e = tt

  pub no_functions : (before ms : List Mark) → first_duplicate hs before ms ≡ None → (m : Mark) → In m ms → NotFunction m
  no_functions before [] e m i = absurd i
  no_functions before (n ∷ ms) e m (inl q) = subst NotFunction q (not_function n (defined before) (declared before) (neither (duplicate hs (defined before) (declared before) n) (first_duplicate hs (before ++ n ∷ []) ms) e).0)
  no_functions before (n ∷ ms) e m (inr i) = no_functions (before ++ n ∷ []) ms (neither (duplicate hs (defined before) (declared before) n) (first_duplicate hs (before ++ n ∷ []) ms) e).1 m i

  abbrev pub Origin : List ℕ → Type 0
  Origin x = (has_name specials x ≡ true) ⊎ (is_function hs x ≡ false)

  abbrev AllOrigin : List Key → Type 0
  AllOrigin ks = (x : List ℕ) → Has ks (Whole x) → Origin x

  key_origin : (ks : List Key) (l : Key) → AllOrigin ks → ((x : List ℕ) → same_key (Whole x) l ≡ true → Origin x) → AllOrigin (with_key ks l)
  key_origin ks l all h x e = by (or_cases (list_any (same_key (Whole x)) ks) (same_key (Whole x) l) (sym (any_with_key (Whole x) ks l) ∙ e))
    where
      by : (list_any (same_key (Whole x)) ks ≡ true) ⊎ (same_key (Whole x) l ≡ true) → Origin x
      by (inl q) = all x q
      by (inr q) = h x q

  inside_origin : (f y x : List ℕ) → same_key (Whole x) (Inside f y) ≡ true → Origin x
  inside_origin f y x e = absurd (true≢false (sym e))

  place_origin : (place : Option (List ℕ)) (y x : List ℕ) → is_function hs y ≡ false → same_key (Whole x) (key_in hs place y) ≡ true → Origin x
  place_origin None y x n e = inr (subst (λ z. is_function hs z ≡ false) (sym (same_sound x y e)) n)
  place_origin (Some f) y x n e = by (list_any (same_key (Inside f y)) (parameter_keys hs)) e
    where
      by : (b : Bool) → same_key (Whole x) (if b then Inside f y else Whole y) ≡ true → Origin x
      by true q = inside_origin f y x q
      by false q = inr (subst (λ z. is_function hs z ≡ false) (sym (same_sound x y q)) n)

  parameter_origin : (ks : List Key) (f : List ℕ) (o : Option (List ℕ)) → AllOrigin ks → AllOrigin (with_maybe ks (option_map (Inside f) o))
  parameter_origin ks f None all = all
  parameter_origin ks f (Some y) all = key_origin ks (Inside f y) all (inside_origin f y)

  marks_origin : (ms : List Mark) (ks : List Key) → ((m : Mark) → In m ms → NotFunction m) → AllOrigin ks → AllOrigin (with_marks hs ks ms)
  marks_origin [] ks n all = all
  marks_origin (Used kind place y ∷ ms) ks n all = marks_origin ms (with_key ks (key_in hs place y)) (λ m i. n m (inr i)) (key_origin ks (key_in hs place y) all (λ x. place_origin place y x (n (Used kind place y) (inl refl))))
  marks_origin (Given f i place y ∷ ms) ks n all =
      let ls = with_key ks (key_in hs place y) in
      marks_origin ms (with_maybe ls (parameter_at hs f i)) (λ m q. n m (inr q))
      (parameter_origin ls f (parameter_name (parameters_of hs f) i) (key_origin ks (key_in hs place y) all (λ x. place_origin place y x (n (Given f i place y) (inl refl)))))
  marks_origin (Defined f ∷ ms) ks n all = marks_origin ms ks (λ m i. n m (inr i)) all
  marks_origin (Parameter f x ∷ ms) ks n all = marks_origin ms ks (λ m i. n m (inr i)) all
  marks_origin (Called f c ∷ ms) ks n all = marks_origin ms ks (λ m i. n m (inr i)) all
  marks_origin (Computed f i ∷ ms) ks n all = marks_origin ms ks (λ m q. n m (inr q)) all

  start_origin : AllOrigin (with_keys (with_keys [] (parameter_keys hs)) (map Whole specials))
  start_origin x e = by (or_cases (list_any (same_key (Whole x)) (with_keys [] (parameter_keys hs))) (list_any (same_key (Whole x)) (map Whole specials)) (sym (any_with_keys (Whole x) (with_keys [] (parameter_keys hs)) (map Whole specials)) ∙ e))
    where
      by : (list_any (same_key (Whole x)) (with_keys [] (parameter_keys hs)) ≡ true) ⊎ (list_any (same_key (Whole x)) (map Whole specials) ≡ true) → Origin x
      by (inl q) = absurd (true≢false (sym q ∙ (any_with_keys (Whole x) [] (parameter_keys hs) ∙ none_whole x hs)))
      by (inr q) = inl (sym (whole_any x specials) ∙ q)

  pub variables_origin : (ms : List Mark) → first_duplicate hs [] ms ≡ None → AllOrigin (variables hs ms)
  variables_origin ms e = marks_origin ms (with_keys (with_keys [] (parameter_keys hs)) (map Whole specials)) (no_functions [] ms e) start_origin
