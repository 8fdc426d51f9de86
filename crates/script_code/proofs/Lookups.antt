-- What names are in the lists of awk_resolve's answer.
use Rattle.std.proofs.Common.{◌≡◌, ℕ, zero, suc, Bool, true, false, not, ◌&&◌, ◌||◌, ◌⊎◌, inl, inr, cond, List, [], ◌∷◌, Option, Some, None, is_some, refl, sym, ap, subst, ◌∙◌, true≢false}
use Rattle.std.proofs.lemmas.Bool.{or_cases, or_parts, or_from, or_left, or_right, and_left, and_parts, not-true}
use Rattle.std.proofs.lemmas.List.Folds.{list_any-append}
use Rattle.std.specs.Prelude.{if◌then◌else◌, map, slice_get}
use Rattle.std.specs.List.{list_any, filter}
use Rattle.std.specs.Option.{option_map}
use Rattle.awk_grammar.specs.Trees.{Stmts, NoStmt}
use Rattle.awk_grammar.specs.Kinds.{Key, Whole, Inside, Head, same_name, has_name, specials, same_key, name_of, parameters_of, parameter_name, head_keys, parameter_keys, named as with_kind, functions_by, is_global}
use Rattle.awk_resolve.proofs.Names.{same_sound, same_refl, key_sound, key_refl}
use Rattle.sem_scripts.specs.Names.{Name, Function, next_place, place_in, function_in, kind_at}
use Rattle.mid_program.specs.Sorted.{is_named, all_differ}
use Rattle.script_code.specs.Fits.{scalar_at, function_names}
use Rattle.sem_scripts.specs.Kinds.{with_bodies}
use Rattle.script_code.proofs.Names.{differs, named, first_by, later_by}
use Rattle.script_code.proofs.Keys.{Has}

abbrev pub head_names : List Head → List (List ℕ)
head_names hs = map (λ (h : Head). h.name) hs

-- the parameters of a function as keys
abbrev pub keys_of : List ℕ → Option (List (List ℕ)) → List Key
keys_of f None = []
keys_of f (Some xs) = head_keys f xs

-- among the keys of a list no other has the name of a key
abbrev pub OnlyKey : Key → List Key → Type 0
OnlyKey k [] = Unit {0}
OnlyKey k (l ∷ ls) = (same_name (name_of l) (name_of k) ≡ true → l ≡ k) × OnlyKey k ls

pub only_inside : (f x : List ℕ) (xs : List (List ℕ)) → OnlyKey (Inside f x) (head_keys f xs)
only_inside f x [] = tt
only_inside f x (y ∷ ys) = (λ e. ap (Inside f) (same_sound y x e), only_inside f x ys)

pub only_of : (f x : List ℕ) (o : Option (List (List ℕ))) → OnlyKey (Inside f x) (keys_of f o)
only_of f x None = tt
only_of f x (Some xs) = only_inside f x xs

pub only_global : (x : List ℕ) (ks : List Key) → OnlyKey (Whole x) (filter is_global ks)
only_global x [] = tt
only_global x (Inside f y ∷ ks) = only_global x ks
only_global x (Whole y ∷ ks) = by (not (has_name specials y)) (only_global x ks)
  where
    by : (b : Bool) → OnlyKey (Whole x) (filter is_global ks) → OnlyKey (Whole x) (cond b (Whole y ∷ filter is_global ks) (filter is_global ks))
    by true h = (λ e. ap Whole (same_sound y x e), h)
    by false h = h

pub has_global : (x : List ℕ) (ks : List Key) → has_name specials x ≡ false → Has ks (Whole x) → Has (filter is_global ks) (Whole x)
has_global x [] n h = h
has_global x (Inside f y ∷ ks) n h = has_global x ks n h
has_global x (Whole y ∷ ks) n h = by (or_cases (same_name x y) (list_any (same_key (Whole x)) ks) h) (not (has_name specials y)) refl (has_global x ks n)
  where
    by : (same_name x y ≡ true) ⊎ (list_any (same_key (Whole x)) ks ≡ true) → (b : Bool) → not (has_name specials y) ≡ b → (Has ks (Whole x) → Has (filter is_global ks) (Whole x)) → Has (cond b (Whole y ∷ filter is_global ks) (filter is_global ks)) (Whole x)
    by (inl e) true q g = or_left (same_name x y) (list_any (same_key (Whole x)) (filter is_global ks)) e
    by (inr e) true q g = or_right (same_name x y) (list_any (same_key (Whole x)) (filter is_global ks)) (g e)
    by (inl e) false q g = absurd (true≢false (ap not (sym n) ∙ (ap (λ z. not (has_name specials z)) (same_sound x y e) ∙ q)))
    by (inr e) false q g = g e

or_false : (b : Bool) → (b || false) ≡ b
or_false true = refl
or_false false = refl

-- Functions.

other_keys : (f g x : List ℕ) (ys : List (List ℕ)) → same_name f g ≡ false → list_any (same_key (Inside f x)) (head_keys g ys) ≡ false
other_keys f g x [] e = refl
other_keys f g x (y ∷ ys) e = or_from (same_name f g && same_name x y) (list_any (same_key (Inside f x)) (head_keys g ys)) (and_left (same_name f g) (same_name x y) e) (other_keys f g x ys e)

none_inside : (f x : List ℕ) (hs : List Head) → is_named (head_names hs) f ≡ false → list_any (same_key (Inside f x)) (parameter_keys hs) ≡ false
none_inside f x [] e = refl
none_inside f x (h ∷ hs) e =
    let p = or_parts (same_name h.name f) (is_named (head_names hs) f) e in
    list_any-append (same_key (Inside f x)) (head_keys h.name h.parameters) (parameter_keys hs)
    ∙ or_from (list_any (same_key (Inside f x)) (head_keys h.name h.parameters)) (list_any (same_key (Inside f x)) (parameter_keys hs)) (other_keys f h.name x h.parameters (differs h.name f p.0)) (none_inside f x hs p.1)

-- a parameter is one of the function's own
pub own_keys : (hs : List Head) → all_differ (head_names hs) ≡ true → (f x : List ℕ) → list_any (same_key (Inside f x)) (parameter_keys hs) ≡ list_any (same_key (Inside f x)) (keys_of f (parameters_of hs f))
own_keys [] d f x = refl
own_keys (h ∷ hs) d f x =
    let p = and_parts (not (is_named (head_names hs) h.name)) (all_differ (head_names hs)) d in
    list_any-append (same_key (Inside f x)) (head_keys h.name h.parameters) (parameter_keys hs) ∙ by (same_name f h.name) refl (not-true (is_named (head_names hs) h.name) p.0) (own_keys hs p.1 f x)
  where
    by : (b : Bool) → same_name f h.name ≡ b → is_named (head_names hs) h.name ≡ false → list_any (same_key (Inside f x)) (parameter_keys hs) ≡ list_any (same_key (Inside f x)) (keys_of f (parameters_of hs f)) →
        (list_any (same_key (Inside f x)) (head_keys h.name h.parameters) || list_any (same_key (Inside f x)) (parameter_keys hs)) ≡ list_any (same_key (Inside f x)) (keys_of f (if b then Some h.parameters else parameters_of hs f))
    by true e n i =
        let q : h.name ≡ f = sym (same_sound f h.name e) in
        rw (none_inside f x hs (subst (λ g. is_named (head_names hs) g ≡ false) q n), q) (or_false (list_any (same_key (Inside f x)) (head_keys f h.parameters)))
    by false e n i = rw (other_keys f h.name x h.parameters e) i

module _ (arrays : Key → Bool) where
  abbrev pub names_of : List Key → List Name
  names_of ks = map (with_kind arrays) ks

  -- a place of a list where a name has the kind of a key
  abbrev pub Found : Key → List Name → Option ℕ → Type 0
  Found k ns (Some i) = (kind_at ns i ≡ arrays k) × (scalar_at ns i ≡ not (arrays k))
  Found k ns None = ⊥

  next_found : (k : Key) (n : Name) (ns : List Name) (o : Option ℕ) → Found k ns o → Found k (n ∷ ns) (next_place o)
  next_found k n ns (Some i) h = h
  next_found k n ns None h = h

  pub found : (k : Key) (ks : List Key) → OnlyKey k ks → Has ks k → Found k (names_of ks) (place_in (names_of ks) (name_of k))
  found k [] o h = absurd (true≢false (sym h))
  found k (l ∷ ks) o h = by (same_name (name_of l) (name_of k)) refl (or_cases (same_key k l) (list_any (same_key k) ks) h) (found k ks o.1)
    where
      by : (b : Bool) → same_name (name_of l) (name_of k) ≡ b → (same_key k l ≡ true) ⊎ (Has ks k) → (Has ks k → Found k (names_of ks) (place_in (names_of ks) (name_of k))) →
          Found k (names_of (l ∷ ks)) (if b then Some 0 else next_place (place_in (names_of ks) (name_of k)))
      by true e w g = let q = ap arrays (o.0 e) in (q, ap not q)
      by false e (inl w) g = absurd (true≢false (sym (same_refl (name_of k)) ∙ (ap (λ m. same_name (name_of m) (name_of k)) (key_sound k l w) ∙ e)))
      by false e (inr w) g = next_found k (with_kind arrays l) (names_of ks) (place_in (names_of ks) (name_of k)) (g w)

  pub absent : (k : Key) (ks : List Key) → OnlyKey k ks → list_any (same_key k) ks ≡ false → place_in (names_of ks) (name_of k) ≡ None
  absent k [] o h = refl
  absent k (l ∷ ks) o h = let p = or_parts (same_key k l) (list_any (same_key k) ks) h in by (same_name (name_of l) (name_of k)) refl p.0 (absent k ks o.1 p.1)
    where
      by : (b : Bool) → same_name (name_of l) (name_of k) ≡ b → same_key k l ≡ false → place_in (names_of ks) (name_of k) ≡ None → (if b then Some 0 else next_place (place_in (names_of ks) (name_of k))) ≡ None
      by true e n i = absurd (true≢false (sym (key_refl k) ∙ (ap (same_key k) (sym (o.0 e)) ∙ n)))
      by false e n i = ap next_place i

  -- whether the parameter in a place is an array
  abbrev pub at_key : Option Key → Bool
  at_key None = false
  at_key (Some p) = arrays p

  pub kind_taken : (f : List ℕ) (o : Option (List (List ℕ))) (i : ℕ) → kind_at (names_of (keys_of f o)) i ≡ at_key (option_map (Inside f) (parameter_name o i))
  kind_taken f None i = refl
  kind_taken f (Some xs) i = by xs i
    where
      by : (xs : List (List ℕ)) (i : ℕ) → kind_at (names_of (head_keys f xs)) i ≡ at_key (option_map (Inside f) (slice_get xs i))
      by [] i = refl
      by (x ∷ xs) zero = refl
      by (x ∷ xs) (suc i) = by xs i

  abbrev pub functions_from : List Head → List Stmts → List Function
  functions_from hs bs = with_bodies (functions_by arrays hs) bs

  pub names_from : (hs : List Head) (bs : List Stmts) → function_names (functions_from hs bs) ≡ head_names hs
  names_from [] bs = refl
  names_from (h ∷ hs) [] = ap (λ ns. h.name ∷ ns) (names_from hs [])
  names_from (h ∷ hs) (b ∷ bs) = ap (λ ns. h.name ∷ ns) (names_from hs bs)

  some_next : (o : Option ℕ) → is_some (next_place o) ≡ is_some o
  some_next None = refl
  some_next (Some i) = refl

  there_by : (b : Bool) (h : Head) (fs : List Function) (f : List ℕ) (o : Option (List (List ℕ))) → same_name f h.name ≡ b → is_some (function_in fs f) ≡ is_some o →
      is_some (if same_name h.name f then Some 0 else next_place (function_in fs f)) ≡ is_some (if b then Some h.parameters else o)
  there_by true h fs f o e i = rw (subst (λ g. same_name g f ≡ true) (same_sound f h.name e) (same_refl f)) refl
  there_by false h fs f o e i = rw (differs f h.name e) (some_next (function_in fs f) ∙ i)

  pub is_there : (hs : List Head) (bs : List Stmts) (f : List ℕ) → is_some (function_in (functions_from hs bs) f) ≡ is_some (parameters_of hs f)
  is_there [] bs f = refl
  is_there (h ∷ hs) [] f = there_by (same_name f h.name) h (functions_from hs []) f (parameters_of hs f) refl (is_there hs [] f)
  is_there (h ∷ hs) (b ∷ bs) f = there_by (same_name f h.name) h (functions_from hs bs) f (parameters_of hs f) refl (is_there hs bs f)

  abbrev with_body : Head → Stmts → Function
  with_body h s = record { name = h.name; parameters = names_of (head_keys h.name h.parameters); body = s }

  parameters_by : (b : Bool) (h : Head) (s : Stmts) (fs : List Function) (f : List ℕ) (o : Option (List (List ℕ))) → same_name f h.name ≡ b → (named fs f).parameters ≡ names_of (keys_of f o) →
      (named (with_body h s ∷ fs) f).parameters ≡ names_of (keys_of f (if b then Some h.parameters else o))
  parameters_by true h s fs f o e i =
      let q = same_sound f h.name e in
      let g = with_body h s in
      ap (λ (k : Function). k.parameters) (first_by (same_name h.name f) g fs (next_place (function_in fs f)) (subst (λ k. same_name k f ≡ true) q (same_refl f))) ∙ ap (λ k. names_of (head_keys k h.parameters)) (sym q)
  parameters_by false h s fs f o e i =
      let g = with_body h s in
      ap (λ (k : Function). k.parameters) (later_by (same_name h.name f) g fs (function_in fs f) (differs f h.name e)) ∙ i

  pub parameters_are : (hs : List Head) (bs : List Stmts) (f : List ℕ) → (named (functions_from hs bs) f).parameters ≡ names_of (keys_of f (parameters_of hs f))
  parameters_are [] bs f = refl
  parameters_are (h ∷ hs) [] f = parameters_by (same_name f h.name) h NoStmt (functions_from hs []) f (parameters_of hs f) refl (parameters_are hs [] f)
  parameters_are (h ∷ hs) (b ∷ bs) f = parameters_by (same_name f h.name) h b (functions_from hs bs) f (parameters_of hs f) refl (parameters_are hs bs f)
