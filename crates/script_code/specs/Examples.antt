-- Worked rows, computed from the definitions.
use Rattle.std.specs.Prelude.{◌≡◌, ℕ, Bool, true, false, codes, List, [], ◌∷◌, Some, None, refl}
use Rattle.std.specs.List.{list_all}
use Rattle.awk_grammar.specs.Token.{Number, Set, Assign}
use Rattle.awk_grammar.specs.Trees.{Tree, Leaf, Var, Index, Call, Bin, Other, NoTree, Then, Eval, Simple, While, Jumping, Break, Leave, Return, Stmt, Stmts, NoStmt, And, Item, Function, Begin}
use Rattle.awk_grammar.specs.Marks.{script_marks}
use Rattle.awk_grammar.specs.Kinds.{special_arrays, special_scalars}
use Rattle.mid_program.specs.Sorted.{all_differ}
use Rattle.script_code.specs.Fits.{is_met, all_names}
use Rattle.sem_scripts.specs.Kinds.{resolved}
use Rattle.script_code.specs.Placed.{item_placed}

-- whether all that a script says of names is so
abbrev are_met : List Item → Bool
are_met items = list_all (is_met (resolved items)) (script_marks items)

abbrev are_apart : List Item → Bool
are_apart items = all_differ (all_names (resolved items))

abbrev one : Tree
one = Leaf (Number (codes "1"))

abbrev call : Tree → Tree
call t = Call (codes "f") (Then t NoTree)

abbrev does : Tree → Stmt
does t = Simple (Eval t)

abbrev alone : Stmt → Stmts
alone s = And s NoStmt

-- a[1] = 1
abbrev set_element : List ℕ → Stmt
set_element a = does (Bin (Other (Assign Set)) (Index a (Then one NoTree)) one)

-- function f(a) { BODY } BEGIN { ACTION }
abbrev script : Stmts → Stmts → List Item
script body action = Function (codes "f") (codes "a" ∷ []) body ∷ Begin action ∷ []

-- function f(a) { a[1] = 1; return 1 } BEGIN { f(b); while (1) break }
abbrev filled : List Item
filled = script (And (set_element (codes "a")) (alone (Leave Return (Some one)))) (And (does (call (Var (codes "b")))) (alone (While one (Jumping Break))))

filled_is_met : are_met filled ≡ true
unfolding special_arrays special_scalars
filled_is_met = refl

filled_is_placed : list_all item_placed filled ≡ true
filled_is_placed = refl

filled_is_apart : are_apart filled ≡ true
unfolding special_arrays special_scalars
filled_is_apart = refl

-- function f(a) { a[1] = 1 } BEGIN { f(1) }: a number is given for an array
number_for_an_array : are_met (script (alone (set_element (codes "a"))) (alone (does (call one)))) ≡ false
unfolding special_arrays special_scalars
number_for_an_array = refl

-- function f(a) { a[1] = 1 } BEGIN { x; f(x) }: a name of both kinds
both_kinds : are_met (script (alone (set_element (codes "a"))) (And (does (Var (codes "x"))) (alone (does (call (Var (codes "x"))))))) ≡ false
unfolding special_arrays special_scalars
both_kinds = refl

-- function f(a) { } BEGIN { b[1] = 1; f(b) }: an array for a parameter of which no use is made
array_for_nothing : are_met (script NoStmt (And (set_element (codes "b")) (alone (does (call (Var (codes "b"))))))) ≡ true
unfolding special_arrays special_scalars
array_for_nothing = refl

-- BEGIN { f(1) }
no_such_function : are_met (Begin (alone (does (call one))) ∷ []) ≡ false
unfolding special_arrays special_scalars
no_such_function = refl

-- function f(a) { f }: a function's name as a variable
function_as_variable : are_apart (script (alone (does (Var (codes "f")))) NoStmt) ≡ false
unfolding special_arrays special_scalars
function_as_variable = refl

-- BEGIN { break }, and BEGIN { return }
break_in_no_loop : list_all item_placed (Begin (alone (Jumping Break)) ∷ []) ≡ false
break_in_no_loop = refl

return_in_no_function : list_all item_placed (Begin (alone (Leave Return None)) ∷ []) ≡ false
return_in_no_function = refl
