-- The productions of scripts derive the well-formed ones, and nothing else.
use Rattle.std.proofs.Common.{◌≡◌, ℕ, true, List, [], ◌∷◌, ◌++◌, refl, ap}
use Rattle.awk_grammar.specs.Token.{Token, Name, Comma, Semicolon}
use Rattle.awk_grammar.specs.Item.{print_params, print_pattern, print_item, print_script, IsPattern, IsItem, IsScript}
use Rattle.awk_grammar.specs.Trees.{Pattern, One, Between, Item, Function, Begin, End, Always, When, Lone, Nothing}
use Rattle.awk_tree.specs.Scripts.{PatternOf, one, range, NamesOf, last_name, more_names, ParametersOf, no_names, names, ItemOf, function, begin, end, always, when, lone, nothing, ScriptOf, no_item, item}
use Rattle.awk_tree.proofs.Derived.{derived}
use Rattle.awk_tree.proofs.Deriving.{deriving_of}
use Rattle.awk_tree.proofs.Statements.{Is, blocked, block_of}

pattern_fine : {p : Pattern} {ts : List Token} → PatternOf p ts → Is print_pattern IsPattern p ts
pattern_fine (one d) = let x = derived d in record { parts = x.parts; fine = x.fine }
pattern_fine (range d e) =
    let x = derived d in
    let y = derived e in
    record { parts = rw (x.parts, y.parts) refl; fine = (x.fine, y.fine) }

names_fine : {ns : List (List ℕ)} {ts : List Token} → NamesOf ns ts → print_params ns ≡ ts
names_fine last_name = refl
names_fine (more_names {n} l) = by l (names_fine l)
  where
    by : {ns : List (List ℕ)} {ts : List Token} → NamesOf ns ts → print_params ns ≡ ts → print_params (n ∷ ns) ≡ Name n ∷ (Comma ∷ ts)
    by last_name e = refl
    by (more_names l) e = rw e refl

params_fine : {ns : List (List ℕ)} {ts : List Token} → ParametersOf ns ts → print_params ns ≡ ts
params_fine no_names = refl
params_fine (names l) = names_fine l

item_fine : {i : Item} {ts : List Token} → ItemOf i ts → Is print_item IsItem i ts
item_fine (function p b) =
    let e = params_fine p in
    let y = blocked b in
    record { parts = rw (e, y.parts) refl; fine = y.fine }
item_fine (begin b) = let y = blocked b in record { parts = rw y.parts refl; fine = y.fine }
item_fine (end b) = let y = blocked b in record { parts = rw y.parts refl; fine = y.fine }
item_fine (always b) = let y = blocked b in record { parts = y.parts; fine = y.fine }
item_fine (when p b) =
    let x = pattern_fine p in
    let y = blocked b in
    record { parts = rw (x.parts, y.parts) refl; fine = (x.fine, y.fine) }
item_fine (lone p) = let x = pattern_fine p in record { parts = ap (◌++ (Semicolon ∷ [])) x.parts; fine = x.fine }
item_fine nothing = record { parts = refl; fine = tt }

pub script_fine : {is : List Item} {ts : List Token} → ScriptOf is ts → Is print_script IsScript is ts
script_fine no_item = record { parts = refl; fine = tt }
script_fine (item d l) =
    let x = item_fine d in
    let y = script_fine l in
    record { parts = rw (x.parts, y.parts) refl; fine = (x.fine, y.fine) }

pattern_of : (p : Pattern) → IsPattern p → PatternOf p (print_pattern p)
pattern_of (One t) h = one (deriving_of true t h)
pattern_of (Between t u) h = range (deriving_of true t h.0) (deriving_of true u h.1)

names_of : (n : List ℕ) (ns : List (List ℕ)) → NamesOf (n ∷ ns) (print_params (n ∷ ns))
names_of n [] = last_name
names_of n (m ∷ ms) = more_names (names_of m ms)

params_of : (ns : List (List ℕ)) → ParametersOf ns (print_params ns)
params_of [] = no_names
params_of (n ∷ ns) = names (names_of n ns)

item_of : (i : Item) → IsItem i → ItemOf i (print_item i)
item_of (Function f ps ss) h = function (params_of ps) (block_of ss h)
item_of (Begin ss) h = begin (block_of ss h)
item_of (End ss) h = end (block_of ss h)
item_of (Always ss) h = always (block_of ss h)
item_of (When p ss) h = when (pattern_of p h.0) (block_of ss h.1)
item_of (Lone p) h = lone (pattern_of p h)
item_of Nothing h = nothing

pub script_of : (is : List Item) → IsScript is → ScriptOf is (print_script is)
script_of [] h = no_item
script_of (i ∷ is) h = item (item_of i h.0) (script_of is h.1)
