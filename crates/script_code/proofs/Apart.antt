-- The names that a script announces differ, where awk_resolve refuses none.
use Rattle.std.proofs.Common.{◌≡◌, ℕ, Bool, true, false, not, ◌||◌, ⊎_elim, cond, List, [], ◌∷◌, ◌++◌, append_assoc, append-nil, Some, None, is_some, refl, sym, ap, subst, ◌∙◌, true≢false}
use Rattle.std.proofs.lemmas.Bool.{or_cases, or_parts, or_from, or_left, or_right, and_from, false_from_ne_true, not_from_false}
use Rattle.std.proofs.lemmas.List.Folds.{list_any-append}
use Rattle.std.specs.Prelude.{if◌then◌else◌, map}
use Rattle.std.specs.List.{list_any, filter}
use Rattle.awk_grammar.specs.Trees.{Item, Function as FunctionItem}
use Rattle.awk_grammar.specs.Marks.{Mark, Defined, parameter_marks, stmts_marks, item_marks, script_marks}
use Rattle.awk_grammar.specs.Kinds.{Key, Whole, Inside, Head, heads, same_name, has_name, specials, same_key, parameters_of, is_function, defined, declared, duplicate, first_duplicate, is_global}
use Rattle.awk_resolve.proofs.Names.{same_sound, same_refl}
use Rattle.awk_resolve.proofs.Marks.{defined_append}
use Rattle.sem_scripts.specs.Names.{Name}
use Rattle.mid_program.specs.Sorted.{is_named, all_differ}
use Rattle.script_code.proofs.Names.{differs}
use Rattle.script_code.proofs.Marked.{neither, not_refused}
use Rattle.script_code.proofs.Keys.{Has, Distinct}
use Rattle.script_code.proofs.Lookups.{head_names, names_of}

-- Functions.

skip : (hs : List Head) (before xs ys : List Mark) → first_duplicate hs before (xs ++ ys) ≡ None → first_duplicate hs (before ++ xs) ys ≡ None
skip hs before [] ys e = subst (λ bs. first_duplicate hs bs ys ≡ None) (sym (append-nil before)) e
skip hs before (x ∷ xs) ys e =
    let p = neither (duplicate hs (defined before) (declared before) x) (first_duplicate hs (before ++ x ∷ []) (xs ++ ys)) e in
    subst (λ bs. first_duplicate hs bs ys ≡ None) (append_assoc before (x ∷ []) xs) (skip hs (before ++ x ∷ []) xs ys p.1)

still_defined : (before xs : List Mark) (f : List ℕ) → has_name (defined before) f ≡ true → has_name (defined (before ++ xs)) f ≡ true
still_defined before xs f h =
    ap (λ ns. has_name ns f) (defined_append before xs) ∙ (list_any-append (same_name f) (defined before) (defined xs) ∙ or_left (has_name (defined before) f) (has_name (defined xs) f) h)

just_defined : (before : List Mark) (f : List ℕ) → has_name (defined (before ++ Defined f ∷ [])) f ≡ true
just_defined before f =
    ap (λ ns. has_name ns f) (defined_append before (Defined f ∷ []))
    ∙ (list_any-append (same_name f) (defined before) (f ∷ []) ∙ or_right (has_name (defined before) f) (same_name f f || false) (or_left (same_name f f) false (same_refl f)))

-- names that differ, and are none of those before
pub record NewNames (before : List Mark) (names : List (List ℕ)) : Type 0 where
  pub apart : all_differ names ≡ true
  pub new : (f : List ℕ) → has_name (defined before) f ≡ true → is_named names f ≡ false

-- what is apart from more is apart from less
fewer : (before xs : List Mark) (names : List (List ℕ)) → NewNames (before ++ xs) names → NewNames before names
fewer before xs names h = record { apart = h.apart; new = λ f e. h.new f (still_defined before xs f e) }

one_head : (before rest : List Mark) (f : List ℕ) (names : List (List ℕ)) → has_name (defined before) f ≡ false → (g : List ℕ) → has_name (defined before) g ≡ true → is_named names g ≡ false → (same_name f g || is_named names g) ≡ false
one_head before rest f names n g e h = or_from (same_name f g) (is_named names g) (false_from_ne_true (same_name f g) (λ q. true≢false (sym e ∙ (ap (has_name (defined before)) (sym (same_sound f g q)) ∙ n)))) h

pub heads_apart : (hs : List Head) (before : List Mark) (items : List Item) → first_duplicate hs before (script_marks items) ≡ None → NewNames before (head_names (heads items))
heads_apart hs before [] e = record { apart = refl; new = λ f h. refl }
heads_apart hs before (FunctionItem f xs ss ∷ is) e =
    let rest = parameter_marks f xs ++ stmts_marks (Some f) ss in
    let with_f = before ++ Defined f ∷ [] in
    let p = neither (duplicate hs (defined before) (declared before) (Defined f)) (first_duplicate hs with_f (rest ++ script_marks is)) e in
    let n = or_parts (has_name specials f) (has_name (defined before) f) (not_refused (has_name specials f || has_name (defined before) f) f p.0) in
    let h = heads_apart hs (with_f ++ rest) is (skip hs with_f rest (script_marks is) p.1) in
    let names = head_names (heads is) in
    record {
      apart = and_from (not (is_named names f)) (all_differ names) (not_from_false (is_named names f) (h.new f (still_defined with_f rest f (just_defined before f)))) h.apart;
      new = λ g q. one_head before rest f names n.1 g q (h.new g (still_defined with_f rest g (still_defined before (Defined f ∷ []) g q)));
    }
heads_apart hs before (i ∷ is) e = let ms = item_marks i in fewer before ms (head_names (heads is)) (heads_apart hs (before ++ ms) is (skip hs before ms (script_marks is) e))

pub not_named : (hs : List Head) (x : List ℕ) → is_function hs x ≡ false → is_named (head_names hs) x ≡ false
not_named [] x e = refl
not_named (h ∷ hs) x e = by (same_name x h.name) refl e (not_named hs x)
  where
    by : (b : Bool) → same_name x h.name ≡ b → is_some (if b then Some h.parameters else parameters_of hs x) ≡ false → (is_function hs x ≡ false → is_named (head_names hs) x ≡ false) → (same_name h.name x || is_named (head_names hs) x) ≡ false
    by true q n g = absurd (true≢false n)
    by false q n g = or_from (same_name h.name x) (is_named (head_names hs) x) (differs x h.name q) (g n)

-- Globals.

abbrev pub global_names : (Key → Bool) → List Key → List (List ℕ)
global_names arrays ks = map (λ (n : Name). n.name) (names_of arrays ks)

named_append : (xs ys : List (List ℕ)) (x : List ℕ) → is_named (xs ++ ys) x ≡ (is_named xs x || is_named ys x)
named_append [] ys x = refl
named_append (n ∷ xs) ys x = by (same_name n x) (named_append xs ys x)
  where
    by : (b : Bool) → is_named (xs ++ ys) x ≡ (is_named xs x || is_named ys x) → (b || is_named (xs ++ ys) x) ≡ ((b || is_named xs x) || is_named ys x)
    by true e = refl
    by false e = e

module _ (arrays : Key → Bool) where
  unlisted : (y : List ℕ) (ks : List Key) → list_any (same_key (Whole y)) ks ≡ false → is_named (global_names arrays (filter is_global ks)) y ≡ false
  unlisted y [] e = refl
  unlisted y (Inside f x ∷ ks) e = unlisted y ks e
  unlisted y (Whole x ∷ ks) e = let p = or_parts (same_name y x) (list_any (same_key (Whole y)) ks) e in by (not (has_name specials x)) p.0 (unlisted y ks p.1)
    where
      by : (b : Bool) → same_name y x ≡ false → is_named (global_names arrays (filter is_global ks)) y ≡ false → is_named (global_names arrays (cond b (Whole x ∷ filter is_global ks) (filter is_global ks))) y ≡ false
      by true n h = or_from (same_name x y) (is_named (global_names arrays (filter is_global ks)) y) (differs y x n) h
      by false n h = h

  -- names that are none of others, each listed once
  pub all_apart : (hs : List Head) (others : List (List ℕ)) → all_differ others ≡ true → (ks : List Key) → Distinct hs ks → ((x : List ℕ) → Has (filter is_global ks) (Whole x) → is_named others x ≡ false) →
      all_differ (global_names arrays (filter is_global ks) ++ others) ≡ true
  all_apart hs others a [] d n = a
  all_apart hs others a (Inside f x ∷ ks) d n = all_apart hs others a ks d.1 n
  all_apart hs others a (Whole x ∷ ks) d n = by (not (has_name specials x)) n (all_apart hs others a ks d.1)
    where
      by : (b : Bool) → ((y : List ℕ) → Has (cond b (Whole x ∷ filter is_global ks) (filter is_global ks)) (Whole y) → is_named others y ≡ false) →
          (((y : List ℕ) → Has (filter is_global ks) (Whole y) → is_named others y ≡ false) → all_differ (global_names arrays (filter is_global ks) ++ others) ≡ true) →
          all_differ (global_names arrays (cond b (Whole x ∷ filter is_global ks) (filter is_global ks)) ++ others) ≡ true
      by true m h =
          let xs = global_names arrays (filter is_global ks) in
          let fresh : is_named (xs ++ others) x ≡ false = named_append xs others x ∙ or_from (is_named xs x) (is_named others x) (unlisted x ks d.0) (m x (or_left (same_name x x) (list_any (same_key (Whole x)) (filter is_global ks)) (same_refl x))) in
          and_from (not (is_named (xs ++ others) x)) (all_differ (xs ++ others)) (not_from_false (is_named (xs ++ others) x) fresh)
          (h (λ y q. m y (or_right (same_name y x) (list_any (same_key (Whole y)) (filter is_global ks)) q)))
      by false m h = h m

pub from_globals : (x : List ℕ) (ks : List Key) → Has (filter is_global ks) (Whole x) → Has ks (Whole x) × (has_name specials x ≡ false)
from_globals x [] e = absurd (true≢false (sym e))
from_globals x (Inside f y ∷ ks) e = from_globals x ks e
from_globals x (Whole y ∷ ks) e = by (has_name specials y) refl e (from_globals x ks)
  where
    later : Has ks (Whole x) × (has_name specials x ≡ false) → Has (Whole y ∷ ks) (Whole x) × (has_name specials x ≡ false)
    later p = (or_right (same_name x y) (list_any (same_key (Whole x)) ks) p.0, p.1)

    here : has_name specials y ≡ false → same_name x y ≡ true → Has (Whole y ∷ ks) (Whole x) × (has_name specials x ≡ false)
    here n q = (or_left (same_name x y) (list_any (same_key (Whole x)) ks) q, ap (has_name specials) (same_sound x y q) ∙ n)

    by : (b : Bool) → has_name specials y ≡ b → Has (cond (not b) (Whole y ∷ filter is_global ks) (filter is_global ks)) (Whole x) → (Has (filter is_global ks) (Whole x) → Has ks (Whole x) × (has_name specials x ≡ false)) →
        Has (Whole y ∷ ks) (Whole x) × (has_name specials x ≡ false)
    by true n h g = later (g h)
    by false n h g = ⊎_elim (here n) (λ q. later (g q)) (or_cases (same_name x y) (list_any (same_key (Whole x)) (filter is_global ks)) h)
