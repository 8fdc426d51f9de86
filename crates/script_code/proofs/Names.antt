-- Names that differ, and the functions that they name.
use Rattle.std.proofs.Common.{◌≡◌, ℕ, suc, Bool, true, false, not, List, [], ◌∷◌, ◌++◌, Option, Some, None, refl, sym, ap, ◌∙◌, true≢false}
use Rattle.std.proofs.lemmas.Bool.{and_parts, or_parts, not-true, false_from_ne_true}
use Rattle.std.specs.Prelude.{if◌then◌else◌}
use Rattle.awk_resolve.proofs.Names.{same_sound, same_refl}
use Rattle.sem_scripts.specs.Names.{Function, same_name, next_place, function_in, or_past, functions_length, function_at}
use Rattle.mid_program.specs.Sorted.{is_named, all_differ}
use Rattle.script_code.specs.Fits.{function_names}

pub differs : (a b : List ℕ) → same_name a b ≡ false → same_name b a ≡ false
differs a b e = false_from_ne_true (same_name b a) (λ h. true≢false (sym (same_refl a) ∙ (ap (same_name a) (sym (same_sound b a h)) ∙ e)))

pub later_differ : (xs ys : List (List ℕ)) → all_differ (xs ++ ys) ≡ true → all_differ ys ≡ true
later_differ [] ys h = h
later_differ (x ∷ xs) ys h = later_differ xs ys (and_parts (not (is_named (xs ++ ys) x)) (all_differ (xs ++ ys)) h).1

-- the function with a name
abbrev pub named : List Function → List ℕ → Function
named fs x = function_at fs (or_past (functions_length fs) (function_in fs x))

pub first_by : (b : Bool) (g : Function) (fs : List Function) (o : Option ℕ) → b ≡ true → function_at (g ∷ fs) (or_past (suc (functions_length fs)) (if b then Some 0 else o)) ≡ g
first_by true g fs o e = refl
first_by false g fs o e = absurd (true≢false (sym e))

next_at : (g : Function) (fs : List Function) (n : ℕ) (o : Option ℕ) → function_at (g ∷ fs) (or_past (suc n) (next_place o)) ≡ function_at fs (or_past n o)
next_at g fs n (Some i) = refl
next_at g fs n None = refl

pub later_by : (b : Bool) (g : Function) (fs : List Function) (o : Option ℕ) → b ≡ false → function_at (g ∷ fs) (or_past (suc (functions_length fs)) (if b then Some 0 else next_place o)) ≡ function_at fs (or_past (functions_length fs) o)
later_by true g fs o e = absurd (true≢false e)
later_by false g fs o e = next_at g fs (functions_length fs) o

-- each function is the one with its name
abbrev pub AllNamed : List Function → List Function → Type 0
AllNamed all [] = Unit {0}
AllNamed all (f ∷ fs) = (named all f.name ≡ f) × AllNamed all fs

still_named : (g : Function) (all fs : List Function) → is_named (function_names fs) g.name ≡ false → AllNamed all fs → AllNamed (g ∷ all) fs
still_named g all [] e h = tt
still_named g all (f ∷ fs) e h =
    let p = or_parts (same_name f.name g.name) (is_named (function_names fs) g.name) e in
    (later_by (same_name g.name f.name) g all (function_in all f.name) (differs f.name g.name p.0) ∙ h.0, still_named g all fs p.1 h.1)

pub all_named : (fs : List Function) → all_differ (function_names fs) ≡ true → AllNamed fs fs
all_named [] e = tt
all_named (f ∷ fs) e =
    let p = and_parts (not (is_named (function_names fs) f.name)) (all_differ (function_names fs)) e in
    (first_by (same_name f.name f.name) f fs (next_place (function_in fs f.name)) (same_refl f.name), still_named f fs fs (not-true (is_named (function_names fs) f.name) p.0) (all_named fs p.1))
