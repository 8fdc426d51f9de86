-- Worked rows, computed from the definition.
use Rattle.std.specs.Prelude.{◌≡◌, ℕ, zero, suc, true, false, codes, List, [], ◌∷◌, Some, None, refl}
use Rattle.awk_tokens.specs.declared.reserved_words.Builtin.TheVariants.{Split}
use Rattle.awk_grammar.specs.Token.{Number, Set, Assign}
use Rattle.awk_grammar.specs.Trees.{Tree, Leaf, Var, Index, Group, Call, Apply, Bin, Other, Has, Trees, NoTree, Then, Eval, Simple, Stmt, Stmts, NoStmt, And, Item, Function, Begin}
use Rattle.awk_grammar.specs.Kinds.{TooMany, DuplicateName, UnknownFunction, ArgCount, KindClash, Name, special_arrays, special_scalars, refusal, resolved}

-- Scripts.

abbrev one : Tree
one = Leaf (Number (codes "1"))

abbrev list1 : Tree → Trees
list1 t = Then t NoTree

abbrev list2 : Tree → Tree → Trees
list2 t u = Then t (Then u NoTree)

abbrev name : List ℕ → Tree
name x = Var x

-- x[1]
abbrev element : List ℕ → Tree
element x = Index x (list1 one)

-- x = 1
abbrev set : List ℕ → Tree
set x = Bin (Other (Assign Set)) (Var x) one

abbrev does : Tree → Stmt
does t = Simple (Eval t)

abbrev body1 : Tree → Stmts
body1 t = And (does t) NoStmt

abbrev body2 : Tree → Tree → Stmts
body2 t u = And (does t) (And (does u) NoStmt)

abbrev a : List ℕ
a = codes "a"

abbrev f : List ℕ
f = codes "f"

abbrev g : List ℕ
g = codes "g"

abbrev p : List ℕ
p = codes "p"

abbrev q : List ℕ
q = codes "q"

abbrev x : List ℕ
x = codes "x"

abbrev array : List ℕ → Name
array n = record { name = n; is_array = true }

abbrev scalar : List ℕ → Name
scalar n = record { name = n; is_array = false }

-- Kinds.

-- BEGIN { a[1]; x = 1 }
pub used_at_once : resolved (Begin (body2 (element a) (set x)) ∷ []) ≡ record { functions = []; globals = array a ∷ scalar x ∷ [] }
unfolding special_arrays special_scalars
used_at_once = refl

-- Two functions away: function f(p) { g(p) } function g(q) { q[1] } BEGIN { f(a); x = 1 }
abbrev two_away : List Item
two_away =
    Function f (p ∷ []) (body1 (Call g (list1 (name p))))
    ∷ Function g (q ∷ []) (body1 (element q))
    ∷ Begin (body2 (Call f (list1 (name a))) (set x))
    ∷ []

pub two_away_is_fine : refusal two_away ≡ None
unfolding special_arrays special_scalars
two_away_is_fine = refl

pub array_through_two_calls : resolved two_away ≡ record {
  functions = record { name = f; parameters = array p ∷ [] } ∷ record { name = g; parameters = array q ∷ [] } ∷ [];
  globals = array a ∷ scalar x ∷ [];
}
unfolding special_arrays special_scalars
array_through_two_calls = refl

-- function f(p, x) { f(p, x); p[x] } BEGIN { f(a) }
abbrev recursion : List Item
recursion = Function f (p ∷ x ∷ []) (body2 (Call f (list2 (name p) (name x))) (Index p (list1 (name x)))) ∷ Begin (body1 (Call f (list1 (name a)))) ∷ []

pub recursion_is_fine : refusal recursion ≡ None
unfolding special_arrays special_scalars
recursion_is_fine = refl

pub kinds_through_recursion : resolved recursion ≡ record { functions = record { name = f; parameters = array p ∷ scalar x ∷ [] } ∷ []; globals = array a ∷ [] }
unfolding special_arrays special_scalars
kinds_through_recursion = refl

-- function f(p) { f(p) } BEGIN { f(x) }
pub recursion_without_a_use : resolved (Function f (p ∷ []) (body1 (Call f (list1 (name p)))) ∷ Begin (body1 (Call f (list1 (name x)))) ∷ [])
    ≡ record { functions = record { name = f; parameters = scalar p ∷ [] } ∷ []; globals = scalar x ∷ [] }
unfolding special_arrays special_scalars
recursion_without_a_use = refl

-- function f(p) { split(x, p) } BEGIN { f(a) }
abbrev split_into_a_parameter : List Item
split_into_a_parameter = Function f (p ∷ []) (body1 (Apply Split (list2 (name x) (name p)))) ∷ Begin (body1 (Call f (list1 (name a)))) ∷ []

pub split_is_fine : refusal split_into_a_parameter ≡ None
unfolding special_arrays special_scalars
split_is_fine = refl

pub split_makes_arrays : resolved split_into_a_parameter
    ≡ record { functions = record { name = f; parameters = array p ∷ [] } ∷ []; globals = scalar x ∷ array a ∷ [] }
unfolding special_arrays special_scalars
split_makes_arrays = refl

-- An array for a parameter without a use passes nothing: function f(p) { } BEGIN { a[1]; f(a) }
abbrev nothing_passed : List Item
nothing_passed = Function f (p ∷ []) NoStmt ∷ Begin (body2 (element a) (Call f (list1 (name a)))) ∷ []

pub nothing_passed_is_fine : refusal nothing_passed ≡ None
unfolding special_arrays special_scalars
nothing_passed_is_fine = refl

pub unused_parameter_is_a_scalar : resolved nothing_passed ≡ record { functions = record { name = f; parameters = scalar p ∷ [] } ∷ []; globals = array a ∷ [] }
unfolding special_arrays special_scalars
unused_parameter_is_a_scalar = refl

-- A parameter hides a global of its name: function f(a) { a = 1 } BEGIN { a[1] }
pub parameter_hides_a_global : resolved (Function f (a ∷ []) (body1 (set a)) ∷ Begin (body1 (element a)) ∷ [])
    ≡ record { functions = record { name = f; parameters = scalar a ∷ [] } ∷ []; globals = array a ∷ [] }
unfolding special_arrays special_scalars
parameter_hides_a_global = refl

-- Special variables are no globals: BEGIN { NR = 1; x in ENVIRON }
pub specials_are_no_globals : resolved (Begin (body2 (set (codes "NR")) (Has (name x) (codes "ENVIRON"))) ∷ [])
    ≡ record { functions = []; globals = scalar x ∷ [] }
unfolding special_arrays special_scalars
specials_are_no_globals = refl

-- Clashes.

-- BEGIN { a = 1; a[1] }
pub one_name_of_two_kinds : refusal (Begin (body2 (set a) (element a)) ∷ []) ≡ Some (KindClash a)
unfolding special_arrays special_scalars
one_name_of_two_kinds = refl

-- BEGIN { ARGV = 1 }
pub argv_is_no_scalar : refusal (Begin (body1 (set (codes "ARGV"))) ∷ []) ≡ Some (KindClash (codes "ARGV"))
unfolding special_arrays special_scalars
argv_is_no_scalar = refl

-- BEGIN { NR[1] }
pub nr_is_no_array : refusal (Begin (body1 (element (codes "NR"))) ∷ []) ≡ Some (KindClash (codes "NR"))
unfolding special_arrays special_scalars
nr_is_no_array = refl

-- function f(p) { p[1] } BEGIN { f(1) }
pub expression_for_an_array : refusal (Function f (p ∷ []) (body1 (element p)) ∷ Begin (body1 (Call f (list1 one))) ∷ []) ≡ Some (KindClash p)
unfolding special_arrays special_scalars
expression_for_an_array = refl

-- function f(p) { p[1] } BEGIN { f((a)) }
pub name_in_parentheses_for_an_array : refusal (Function f (p ∷ []) (body1 (element p)) ∷ Begin (body1 (Call f (list1 (Group (name a))))) ∷ [])
    ≡ Some (KindClash p)
unfolding special_arrays special_scalars
name_in_parentheses_for_an_array = refl

-- function f(p) { p[1] } BEGIN { f(x); x = 1 }
pub clash_through_a_call : refusal (Function f (p ∷ []) (body1 (element p)) ∷ Begin (body2 (Call f (list1 (name x))) (set x)) ∷ []) ≡ Some (KindClash x)
unfolding special_arrays special_scalars
clash_through_a_call = refl

-- The parameter is used as a scalar: function f(p) { p = 1 } BEGIN { a[1]; f(a) }
pub array_for_a_scalar : refusal (Function f (p ∷ []) (body1 (set p)) ∷ Begin (body2 (element a) (Call f (list1 (name a)))) ∷ []) ≡ Some (KindClash a)
unfolding special_arrays special_scalars
array_for_a_scalar = refl

-- The call's name stands before its arguments: function f(p, q) { q[1]; p[1] } BEGIN { f(x, 1); x = 1 }
pub call_before_its_arguments : refusal (Function f (p ∷ q ∷ []) (body2 (element q) (element p)) ∷ Begin (body2 (Call f (list2 (name x) one)) (set x))
    ∷ []) ≡ Some (KindClash q)
unfolding special_arrays special_scalars
call_before_its_arguments = refl

-- The other refusals.

-- BEGIN { f(1) }
pub unknown_function : refusal (Begin (body1 (Call f (list1 one))) ∷ []) ≡ Some (UnknownFunction f)
unfolding special_arrays special_scalars
unknown_function = refl

-- function f(p) { } BEGIN { f(1, 1) }
pub too_many_arguments : refusal (Function f (p ∷ []) NoStmt ∷ Begin (body1 (Call f (list2 one one))) ∷ []) ≡ Some (ArgCount f)
unfolding special_arrays special_scalars
too_many_arguments = refl

-- function f(p, p) { }
pub parameter_twice : refusal (Function f (p ∷ p ∷ []) NoStmt ∷ []) ≡ Some (DuplicateName p)
unfolding special_arrays special_scalars
parameter_twice = refl

-- function f() { } function f() { }
pub function_twice : refusal (Function f [] NoStmt ∷ Function f [] NoStmt ∷ []) ≡ Some (DuplicateName f)
unfolding special_arrays special_scalars
function_twice = refl

-- function f(NR) { }
pub parameter_of_a_special_name : refusal (Function f (codes "NR" ∷ []) NoStmt ∷ []) ≡ Some (DuplicateName (codes "NR"))
unfolding special_arrays special_scalars
parameter_of_a_special_name = refl

-- A function's name as a variable, at its first place: BEGIN { f = 1 } function g() { } function g() { } function f() { }
pub function_as_a_variable : refusal (Begin (body1 (set f)) ∷ Function g [] NoStmt ∷ Function g [] NoStmt ∷ Function f [] NoStmt ∷ []) ≡ Some (DuplicateName f)
unfolding special_arrays special_scalars
function_as_a_variable = refl

abbrev same_names : ℕ → List (List ℕ)
same_names zero = []
same_names (suc n) = p ∷ same_names n

-- a function of 101 parameters, though two have one name
pub parameters_are_too_many : refusal (Function f (same_names 101) NoStmt ∷ []) ≡ Some (TooMany f)
unfolding special_arrays special_scalars
parameters_are_too_many = refl

abbrev same_functions : ℕ → List Item
same_functions zero = []
same_functions (suc n) = Function g [] NoStmt ∷ same_functions n

-- the function after 1,000 others
pub functions_are_too_many : refusal (Function f [] NoStmt ∷ same_functions 1000) ≡ Some (TooMany g)
unfolding special_arrays special_scalars
functions_are_too_many = refl
