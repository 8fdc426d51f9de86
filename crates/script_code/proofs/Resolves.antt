-- A script that awk_resolve does not refuse fits.
use Rattle.std.proofs.Common.{◌≡◌, ℕ, Bool, true, false, not, ◌&&◌, ◌||◌, List, [], ◌∷◌, ◌++◌, Option, Some, None, is_some, refl, sym, ap, subst, ◌∙◌, ⊎_elim, true≢false}
use Rattle.std.proofs.lemmas.Bool.{and_parts, and_from, or_from, or_left, or_right, not-false, not_from_false, false_from_ne_true, true_from_ne_false}
use Rattle.std.specs.Prelude.{if◌then◌else◌, map, codes}
use Rattle.std.specs.List.{list_all, list_any, filter}
use Rattle.std.specs.Option.{option_map}
use Rattle.sem_primitives.specs.declared.constants.Special.{Special}
use Rattle.awk_grammar.specs.Trees.{Stmts, Item, Begin, End, Always, When, Lone, Nothing, Function as FunctionItem}
use Rattle.awk_grammar.specs.Item.{IsItem, IsScript}
use Rattle.awk_grammar.specs.Marks.{Kind, Array, Scalar, Mark, Defined, Parameter as ParameterMark, Used, Called, Computed, Given, pattern_marks, stmts_marks, parameter_marks, item_marks, script_marks}
use Rattle.awk_grammar.specs.Kinds.{Key, Whole, Inside, Head, heads, same_name, has_name, special_arrays, special_scalars, specials, same_key, name_of, key_in, parameters_of, parameter_at, parameter_keys, is_function as is_defined, is_used_as, TooMany, DuplicateName, UnknownFunction, ArgCount, KindClash, or_else, first, too_many, first_duplicate, unknown, excess, needing, clash, name_refusal, refusal, variables, is_global}
use Rattle.awk_resolve.proofs.Names.{special_is}
use Rattle.sem_scripts.specs.Names.{Name, Resolved, Scope, place_in, or_past, names_length, special_names, special_in, special_named, special_array, is_special_array, variable_by, global_or_special, kind_at, variable_is_array, is_array}
use Rattle.mid_program.specs.Sorted.{is_named, all_differ}
use Rattle.script_code.specs.Fits.{scalar_at, is_scalar_variable, is_scalar, takes_array, scope_at, is_passed, is_met, AreMet, ItemFits, ItemsFit, FunctionsFit, function_names, all_names, Fits}
use Rattle.sem_scripts.specs.Kinds.{bodies, resolved}
use Rattle.script_code.specs.Placed.{item_placed, ArePlaced}
use Rattle.script_code.proofs.Names.{differs}
use Rattle.script_code.proofs.Sound.{parts}
use Rattle.script_code.proofs.Marked.{In, each_in, neither, unmapped, not_refused, first_none, is_used, special_used, given_array}
use Rattle.script_code.proofs.Keys.{Has, listed, variables_distinct, variables_origin}
use Rattle.script_code.proofs.Lookups.{head_names, keys_of, only_of, only_global, has_global, own_keys, names_of, Found, found, absent, at_key, kind_taken, functions_from, names_from, is_there, parameters_are}
use Rattle.script_code.proofs.Apart.{heads_apart, not_named, all_apart, from_globals}

-- Special variables.

same_both : (a b : List ℕ) → same_name a b ≡ same_name b a
same_both a b = by (same_name a b) refl
  where
    by : (s : Bool) → same_name a b ≡ s → same_name a b ≡ same_name b a
    by true e = e ∙ sym (true_from_ne_false (same_name b a) (λ f. true≢false (sym e ∙ differs b a f)))
    by false e = e ∙ sym (differs a b e)

special_found : (entries : List (List ℕ × Special)) (x : List ℕ) → is_some (special_in entries x) ≡ has_name (map (λ (e : List ℕ × Special). e.0) entries) x
special_found [] x = refl
special_found (e ∷ es) x = by (same_name e.0 x) (same_both x e.0) (special_found es x)
  where
    by : (b : Bool) → same_name x e.0 ≡ b → is_some (special_in es x) ≡ has_name (map (λ (e : List ℕ × Special). e.0) es) x → is_some (if b then Some e.1 else special_in es x) ≡ (same_name x e.0 || has_name (map (λ (e : List ℕ × Special). e.0) es) x)
    by true q h = rw q refl
    by false q h = rw (q) h

scalars_are : (x : List ℕ) → is_some (special_named x) ≡ has_name special_scalars x
unfolding special_scalars
scalars_are x = special_found special_names x

arrays_are : (x : List ℕ) → is_special_array (special_array x) ≡ has_name special_arrays x
unfolding special_arrays
arrays_are x = by (same_name (codes "ARGV") x) (same_name (codes "ENVIRON") x) (same_both x (codes "ARGV")) (same_both x (codes "ENVIRON"))
  where
    by : (b d : Bool) → same_name x (codes "ARGV") ≡ b → same_name x (codes "ENVIRON") ≡ d → is_special_array (if b then Some 0 else (if d then Some 1 else None)) ≡ (same_name x (codes "ARGV") || (same_name x (codes "ENVIRON") || false))
    by true d p q = rw p refl
    by false true p q = rw (p, q) refl
    by false false p q = rw (p, q) refl

not_both : (a b : Bool) → (a && b) ≡ false → b ≡ true → a ≡ false
not_both true b e h = absurd (true≢false (sym h ∙ e))
not_both false b e h = refl

-- What a name is in its scope, by its key.
abbrev AsKey : (Key → Bool) → Scope → List ℕ → Key → Type 0
AsKey arrays scope x k = (arrays k ≡ true → is_array scope x ≡ true) × (arrays k ≡ false → is_scalar scope x ≡ true)

module _ (hs : List Head) (ms : List Mark) (bs : List Stmts) (items : List Item) where
  abbrev arrays : Key → Bool
  arrays = is_used_as Array hs ms

  abbrev scalars : Key → Bool
  scalars = is_used_as Scalar hs ms

  abbrev globals : List Name
  globals = names_of arrays (filter is_global (variables hs ms))

  abbrev script : Resolved
  script = record { globals = globals; functions = functions_from arrays hs bs; items = items }

  -- a variable of the script, of one kind
  record Known (k : Key) : Type 0 where
    there : Has (variables hs ms) k
    one_kind : (arrays k && scalars k) ≡ false

  found_kind : (k : Key) (ns : List Name) (n : ℕ) (o : Option ℕ) → Found arrays k ns o → (kind_at ns (or_past n o) ≡ arrays k) × (scalar_at ns (or_past n o) ≡ not (arrays k))
  found_kind k ns n None h = absurd h
  found_kind k ns n (Some i) h = h

  global_found : (x : List ℕ) → has_name specials x ≡ false → Has (variables hs ms) (Whole x) → Found arrays (Whole x) globals (place_in globals x)
  global_found x n h = found arrays (Whole x) (filter is_global (variables hs ms)) (only_global x (variables hs ms)) (has_global x (variables hs ms) n h)

  module _ (parameters : List Name) (x : List ℕ) where
    abbrev scope : Scope
    scope = record { script = script; parameters = parameters }

    not_special : has_name special_arrays x ≡ false → has_name special_scalars x ≡ false → has_name specials x ≡ false
    not_special p q = special_is x ∙ or_from (has_name special_arrays x) (has_name special_scalars x) p q

    special_array_key : Known (Whole x) → has_name special_arrays x ≡ true → arrays (Whole x) ≡ true
    special_array_key k e = special_used hs ms Array x e

    as_whole : Known (Whole x) → (s : Option Special) → is_some s ≡ has_name special_scalars x → (b : Bool) → is_special_array (special_array x) ≡ b →
        (arrays (Whole x) ≡ true → variable_is_array scope x (global_or_special globals x s) ≡ true) × (arrays (Whole x) ≡ false → is_scalar_variable scope (global_or_special globals x s) ≡ true)
    as_whole k (Some s) e b q = (λ h. absurd (true≢false (sym h ∙ not_both (arrays (Whole x)) (scalars (Whole x)) k.one_kind (special_used hs ms Scalar x (sym e)))), λ h. refl)
    as_whole k None e true q =
        let at = or_past (names_length globals) (place_in globals x) in
        (λ h. or_right (kind_at globals at) (is_special_array (special_array x)) q, λ h. absurd (true≢false (sym (special_used hs ms Array x (sym (arrays_are x) ∙ q)) ∙ h)))
    as_whole k None e false q =
        let at = or_past (names_length globals) (place_in globals x) in
        let f = found_kind (Whole x) globals (names_length globals) (place_in globals x) (global_found x (not_special (sym (arrays_are x) ∙ q) (sym e)) k.there) in
        (λ h. or_left (kind_at globals at) (is_special_array (special_array x)) (f.0 ∙ h), λ h. f.1 ∙ not_from_false (arrays (Whole x)) h)

    whole_name : Known (Whole x) → place_in parameters x ≡ None → AsKey arrays scope x (Whole x)
    whole_name k e =
        let w = as_whole k (special_named x) (scalars_are x) (is_special_array (special_array x)) refl in
        (λ h. rw e (w.0 h), λ h. rw e (w.1 h))

    as_parameter : (k : Key) (o : Option ℕ) → Found arrays k parameters o →
        (arrays k ≡ true → variable_is_array scope x (variable_by scope x o) ≡ true) × (arrays k ≡ false → is_scalar_variable scope (variable_by scope x o) ≡ true)
    as_parameter k None f = absurd f
    as_parameter k (Some i) f = (λ h. f.0 ∙ h, λ h. f.1 ∙ not_from_false (arrays k) h)

  module _ (apart : all_differ (head_names hs) ≡ true) where
    inside_name : (f x : List ℕ) (b : Bool) → list_any (same_key (Inside f x)) (parameter_keys hs) ≡ b → Known (if b then Inside f x else Whole x) →
        AsKey arrays (record { script = script; parameters = names_of arrays (keys_of f (parameters_of hs f)) }) x (if b then Inside f x else Whole x)
    inside_name f x true e k =
        let ks = keys_of f (parameters_of hs f) in
        as_parameter (names_of arrays ks) x (Inside f x) (place_in (names_of arrays ks) x) (found arrays (Inside f x) ks (only_of f x (parameters_of hs f)) (sym (own_keys hs apart f x) ∙ e))
    inside_name f x false e k =
        let ks = keys_of f (parameters_of hs f) in
        whole_name (names_of arrays ks) x k (absent arrays (Inside f x) ks (only_of f x (parameters_of hs f)) (sym (own_keys hs apart f x) ∙ e))

    name_as_key : (place : Option (List ℕ)) (x : List ℕ) → Known (key_in hs place x) → AsKey arrays (scope_at script place) x (key_in hs place x)
    name_as_key None x k = whole_name [] x k refl
    name_as_key (Some f) x k =
        subst (λ ps. AsKey arrays (record { script = script; parameters = ps }) x (key_in hs (Some f) x)) (sym (parameters_are arrays hs bs f)) (inside_name f x (list_any (same_key (Inside f x)) (parameter_keys hs)) refl k)

    module _ (no_duplicates : first_duplicate hs [] ms ≡ None) (no_unknown : first (unknown hs) ms ≡ None) (no_clash : first (clash arrays scalars hs) ms ≡ None) where
      clash_none : (m : Mark) → In m ms → clash arrays scalars hs m ≡ None
      clash_none m i = first_none (clash arrays scalars hs) ms no_clash m i

      used_known : (kind : Kind) (place : Option (List ℕ)) (x : List ℕ) → In (Used kind place x) ms → Known (key_in hs place x)
      used_known kind place x i = let k = key_in hs place x in record { there = listed hs (Used kind place x) k ms refl i; one_kind = not_refused (arrays k && scalars k) (name_of k) (clash_none (Used kind place x) i) }

      given_known : (f : List ℕ) (n : ℕ) (place : Option (List ℕ)) (x : List ℕ) → In (Given f n place x) ms → Known (key_in hs place x)
      given_known f n place x i = let k = key_in hs place x in record { there = listed hs (Given f n place x) k ms refl i; one_kind = not_refused (arrays k && scalars k) (name_of k) (clash_none (Given f n place x) i) }

      -- whether a function takes an array
      taken : (f : List ℕ) (n : ℕ) → takes_array script f n ≡ at_key arrays (parameter_at hs f n)
      taken f n = ap (λ ps. kind_at ps n) (parameters_are arrays hs bs f) ∙ kind_taken arrays f (parameters_of hs f) n

      needs_none : (o : Option Key) → needing arrays o ≡ None → at_key arrays o ≡ false
      needs_none None e = refl
      needs_none (Some p) e = not_refused (arrays p) (name_of p) e

      scalar_given : (f : List ℕ) (n : ℕ) (place : Option (List ℕ)) (x : List ℕ) → In (Given f n place x) ms → arrays (key_in hs place x) ≡ false → (o : Option Key) → parameter_at hs f n ≡ o → at_key arrays o ≡ false
      scalar_given f n place x i e None q = refl
      scalar_given f n place x i e (Some p) q = false_from_ne_true (arrays p) (λ h. true≢false (sym (given_array hs ms f n place x p i q h) ∙ e))

      passed : (f : List ℕ) (n : ℕ) (place : Option (List ℕ)) (x : List ℕ) → In (Given f n place x) ms → (b : Bool) → arrays (key_in hs place x) ≡ b → is_passed (scope_at script place) (takes_array script f n) x ≡ true
      passed f n place x i true e =
          let s = scope_at script place in
          or_left (is_array s x) (not (takes_array script f n) && is_scalar s x) ((name_as_key place x (given_known f n place x i)).0 e)
      passed f n place x i false e =
          let s = scope_at script place in
          let none = taken f n ∙ scalar_given f n place x i e (parameter_at hs f n) refl in
          or_right (is_array s x) (not (takes_array script f n) && is_scalar s x)
          (and_from (not (takes_array script f n)) (is_scalar s x) (not_from_false (takes_array script f n) none) ((name_as_key place x (given_known f n place x i)).1 e))

      met : (m : Mark) → In m ms → is_met script m ≡ true
      met (Defined f) i = refl
      met (ParameterMark f x) i = refl
      met (Used Array place x) i = (name_as_key place x (used_known Array place x i)).0 (is_used hs ms Array place x i)
      met (Used Scalar place x) i =
          let k = key_in hs place x in
          let known = used_known Scalar place x i in
          (name_as_key place x known).1 (not_both (arrays k) (scalars k) known.one_kind (is_used hs ms Scalar place x i))
      met (Called f n) i = is_there arrays hs bs f ∙ not-false (is_defined hs f) (not_refused (not (is_defined hs f)) f (first_none (unknown hs) ms no_unknown (Called f n) i))
      met (Computed f n) i = not_from_false (takes_array script f n) (taken f n ∙ needs_none (parameter_at hs f n) (clash_none (Computed f n) i))
      met (Given f n place x) i = passed f n place x i (arrays (key_in hs place x)) refl

      pub all_met : AreMet script ms
      all_met = each_in (is_met script) ms met

      global_differs : (x : List ℕ) → Has (filter is_global (variables hs ms)) (Whole x) → is_named (function_names script.functions) x ≡ false
      global_differs x h =
          let p = from_globals x (variables hs ms) h in
          let n : is_defined hs x ≡ false = ⊎_elim (λ s. absurd (true≢false (sym s ∙ p.1))) (λ q. q) (variables_origin hs ms no_duplicates x p.0) in
          ap (λ ns. is_named ns x) (names_from arrays hs bs) ∙ not_named hs x n

      pub all_names_differ : all_differ (all_names script) ≡ true
      all_names_differ = all_apart arrays hs (function_names script.functions) (ap all_differ (names_from arrays hs bs) ∙ apart) (variables hs ms) (variables_distinct hs ms) global_differs

-- Items and functions.

module _ (script : Resolved) where
  met_parts : (xs ys : List Mark) → AreMet script (xs ++ ys) → AreMet script xs × AreMet script ys
  met_parts xs ys h = parts (is_met script) xs ys h

  items_fit : (is : List Item) → IsScript is → ArePlaced is → AreMet script (script_marks is) → ItemsFit script is
  items_fit [] w p m = tt
  items_fit (i ∷ is) w p m =
      let q = and_parts (item_placed i) (list_all item_placed is) p in
      let h = met_parts (item_marks i) (script_marks is) m in
      (by i w.0 q.0 h.0, items_fit is w.1 q.1 h.1)
    where
      by : (i : Item) → IsItem i → item_placed i ≡ true → AreMet script (item_marks i) → ItemFits script i
      by (FunctionItem f xs ss) w p m = tt
      by (Begin ss) w p m = record { formed = w; placed = p; met = m }
      by (End ss) w p m = record { formed = w; placed = p; met = m }
      by (Always ss) w p m = record { formed = w; placed = p; met = m }
      by (When t ss) w p m = let h = met_parts (pattern_marks None t) (stmts_marks None ss) m in (record { formed = w.0; met = h.0 }, record { formed = w.1; placed = p; met = h.1 })
      by (Lone t) w p m = record { formed = w; met = m }
      by Nothing w p m = tt

  functions_fit : (arrays : Key → Bool) (is : List Item) → IsScript is → ArePlaced is → AreMet script (script_marks is) → FunctionsFit script (functions_from arrays (heads is) (bodies is))
  functions_fit arrays [] w p m = tt
  functions_fit arrays (FunctionItem f xs ss ∷ is) w p m =
      let q = and_parts (item_placed (FunctionItem f xs ss)) (list_all item_placed is) p in
      let h = met_parts (item_marks (FunctionItem f xs ss)) (script_marks is) m in
      let k = met_parts (Defined f ∷ parameter_marks f xs) (stmts_marks (Some f) ss) h.0 in
      (record { formed = w.0; placed = q.0; met = k.1 }, functions_fit arrays is w.1 q.1 h.1)
  functions_fit arrays (i ∷ is) w p m = functions_fit arrays is w.1 (and_parts (item_placed i) (list_all item_placed is) p).1 (met_parts (item_marks i) (script_marks is) m).1

pub script_fits : (items : List Item) → IsScript items → ArePlaced items → refusal items ≡ None → Fits (resolved items)
script_fits items w p e =
    let hs = heads items in
    let ms = script_marks items in
    let script = resolved items in
    let clash_part = option_map KindClash (first (clash (is_used_as Array hs ms) (is_used_as Scalar hs ms) hs) ms) in
    let counts = option_map ArgCount (first (excess hs) ms) in
    let unknowns = or_else (option_map UnknownFunction (first (unknown hs) ms)) counts in
    let duplicates = or_else (option_map DuplicateName (first_duplicate hs [] ms)) unknowns in
    let e0 = neither (name_refusal hs ms) clash_part e in
    let e1 = neither (option_map TooMany (too_many 0 hs)) duplicates e0.0 in
    let e2 = neither (option_map DuplicateName (first_duplicate hs [] ms)) unknowns e1.1 in
    let e3 = neither (option_map UnknownFunction (first (unknown hs) ms)) counts e2.1 in
    let no_duplicates = unmapped DuplicateName (first_duplicate hs [] ms) e2.0 in
    let no_unknown = unmapped UnknownFunction (first (unknown hs) ms) e3.0 in
    let no_clash = unmapped KindClash (first (clash (is_used_as Array hs ms) (is_used_as Scalar hs ms) hs) ms) e0.1 in
    let apart = (heads_apart hs [] items no_duplicates).apart in
    let m = all_met hs ms (bodies items) items apart no_duplicates no_unknown no_clash in
    record {
      named_apart = all_names_differ hs ms (bodies items) items apart no_duplicates no_unknown no_clash;
      items = items_fit script items w p m;
      functions = functions_fit script (is_used_as Array hs ms) items w p m;
    }
