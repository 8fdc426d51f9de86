-- A function of a script whose names are not refused has at most 100 parameters, and so has its routine.
use Rattle.std.proofs.Common.{◌≡◌, ℕ, ◌+◌, ◌≤◌, Bool, true, false, ◌||◌, nat_le, nat_lt, List, [], ◌∷◌, length, map, Option, Some, None, refl, arith}
use Rattle.std.specs.List.{All, AllByRecursion as ByRecursion}
use Rattle.std.specs.Option.{option_map}
use Rattle.std.specs.Prelude.{if◌then◌else◌}
use Rattle.std.proofs.lemmas.Bool.{ltb-false}
use Rattle.std.proofs.lemmas.List.{length-map}
use Rattle.std.proofs.lemmas.List.Elements.{All-from_recursion}
use Rattle.awk_grammar.specs.Trees.{Item, Stmts}
use Rattle.awk_grammar.specs.Kinds.{Function as Typed, Head, Key, Refusal, TooMany, functions_by, head_keys, heads, is_used_as, named, or_else, refusal, too_many}
use Rattle.awk_grammar.specs.Marks.{Array, script_marks}
use Rattle.sem_scripts.specs.Kinds.{bodies, resolved, with_bodies}
use Rattle.mid_program.specs.Mid.{Routine}
use Rattle.sem_scripts.specs.Names.{Function as Defined, Resolved}
use Rattle.mid_program.specs.Texts.{texts_of_script}
use Rattle.mid_program.specs.Translation.{kind_of, program_of, routine_code}

few_heads : (n : ℕ) (hs : List Head) → too_many n hs ≡ None → ByRecursion (λ (h : Head). length h.parameters ≤ 100) hs
few_heads n [] e = tt
few_heads n (h ∷ hs) e = by (nat_le 1000 n) (nat_lt 100 (length h.parameters)) refl e (few_heads (n + 1) hs)
  where
    by : (a b : Bool) → nat_lt 100 (length h.parameters) ≡ b → or_else (if a || b then Some h.name else None) (too_many (n + 1) hs) ≡ None →
        (too_many (n + 1) hs ≡ None → ByRecursion (λ (h : Head). length h.parameters ≤ 100) hs) → ByRecursion (λ (h : Head). length h.parameters ≤ 100) (h ∷ hs)
    by true b f d later = cc
    by false true f d later = cc
    by false false f d later = let l = ltb-false 100 (length h.parameters) f in (omega (arith, l), later d)

none_refused : (o : Option (List ℕ)) (x y : Option Refusal) → or_else (or_else (option_map TooMany o) x) y ≡ None → o ≡ None
none_refused None x y e = refl
none_refused (Some v) x y e = cc

keys_length : (f : List ℕ) (xs : List (List ℕ)) → length (head_keys f xs) ≡ length xs
keys_length f [] = refl
keys_length f (x ∷ xs) = let r = keys_length f xs in omega (arith, r)

few_typed : (arrays : Key → Bool) (hs : List Head) → ByRecursion (λ (h : Head). length h.parameters ≤ 100) hs → ByRecursion (λ (f : Typed). length f.parameters ≤ 100) (functions_by arrays hs)
few_typed arrays [] h = tt
few_typed arrays (x ∷ hs) h =
    let a = length-map (head_keys x.name x.parameters) (named arrays) in
    let b = keys_length x.name x.parameters in
    let c = h.0 in
    (omega (arith, a, b, c), few_typed arrays hs h.1)

few_defined : (fs : List Typed) (bs : List Stmts) → ByRecursion (λ (f : Typed). length f.parameters ≤ 100) fs → ByRecursion (λ (f : Defined). length f.parameters ≤ 100) (with_bodies fs bs)
few_defined [] bs h = tt
few_defined (f ∷ fs) [] h = (h.0, few_defined fs [] h.1)
few_defined (f ∷ fs) (b ∷ bs) h = (h.0, few_defined fs bs h.1)

few_routines : (texts : List (List ℕ)) (script : Resolved) (fs : List Defined) → ByRecursion (λ (f : Defined). length f.parameters ≤ 100) fs →
    ByRecursion (λ (r : Routine). length r.parameters ≤ 100) (map (routine_code texts script) fs)
few_routines texts script [] h = tt
few_routines texts script (f ∷ fs) h = let a = length-map f.parameters kind_of in let b = h.0 in (omega (arith, a, b), few_routines texts script fs h.1)

-- A SCRIPT'S FUNCTIONS have few parameters
pub few_parameters : (items : List Item) → refusal items ≡ None → All (λ (r : Routine). length r.parameters ≤ 100) (program_of (resolved items)).routines
few_parameters items e =
    let hs = heads items in
    let ms = script_marks items in
    let none = none_refused (too_many 0 hs) _ _ e in
    let typed = few_typed (is_used_as Array hs ms) hs (few_heads 0 hs none) in
    All-from_recursion (λ (r : Routine). length r.parameters ≤ 100) (program_of (resolved items)).routines
    (few_routines (texts_of_script (resolved items)) (resolved items) (resolved items).functions (few_defined (functions_by (is_used_as Array hs ms) hs) (bodies items) typed))
