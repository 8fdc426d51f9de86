-- What the names of a script stand for, as the code keeps them.
use Rattle.std.specs.Prelude.{ℕ, suc, ◌+◌, if◌then◌else◌, List, [], ◌∷◌, map, Option, Some, None}
use Rattle.std.specs.Borrow.{Bor}
use Rattle.std.specs.Map.{lookup}
use Rattle.sem_primitives.specs.declared.constants.Special.{Special}
use Rattle.awk_grammar.specs.Trees.{Stmts}
use Rattle.awk_grammar.specs.ViewStmt.{view_script, view_stmts}
use Rattle.awk_grammar.specs.declared.tree.Stmt.{Stmt}
use Rattle.awk_grammar.specs.Kinds.{Function}
use Rattle.awk_resolve.specs.ViewResolved.{view_resolved}
use Rattle.awk_resolve.specs.declared.resolved.Resolved.{Resolved as Answer}
use Rattle.sem_scripts.specs.Kinds.{scripted}
use Rattle.sem_scripts.specs.Names.{Name, Resolved, same_name, next_place, or_past, names_length, place_in}
use Rattle.sem_scripts.specs.Names as names
use Rattle.mid_code.specs.declared.names.Variable.{Variable}
use Rattle.mid_code.specs.declared.names.Variable.TheVariants.{Global, Parameter, Reserved}

-- the script with the kinds of its names
abbrev pub script_of : Answer → Resolved
script_of r = scripted (view_resolved r) (view_script r.script.now)

abbrev pub view_variable : Variable → names.Variable
view_variable (Global i) = names.Global i
view_variable (Parameter i) = names.Parameter i
view_variable (Reserved s) = names.Reserved s

abbrev pub plain_special : Bor (List ℕ) × Special → List ℕ × Special
plain_special e = (e.0.now, e.1)

-- the number that stands with a name
abbrev pub place_found : List (Bor (List ℕ) × ℕ) → List ℕ → Option ℕ
place_found entries x = lookup (λ k. same_name x k.now) entries

abbrev pub place_of_function : List Function → List ℕ → Option ℕ
place_of_function [] x = None
place_of_function (f ∷ fs) x = if same_name f.name x then Some 0 else next_place (place_of_function fs x)

-- the same, where so many stand before

abbrev pub place_from : ℕ → List Name → List ℕ → Option ℕ
place_from n [] x = None
place_from n (m ∷ ms) x = if same_name m.name x then Some n else place_from (n + 1) ms x

abbrev pub function_from : ℕ → List Function → List ℕ → Option ℕ
function_from n [] x = None
function_from n (f ∷ fs) x = if same_name f.name x then Some n else function_from (n + 1) fs x

abbrev pub global_number : Resolved → List ℕ → ℕ
global_number script x = or_past (names_length script.globals) (place_in script.globals x)

-- for each name the number that it has if it is an array's, and what comes after all
abbrev pub array_numbers : ℕ → List Name → List ℕ
array_numbers n [] = n ∷ []
array_numbers n (x ∷ xs) = n ∷ array_numbers (if x.is_array then suc n else n) xs

-- the bodies of functions
abbrev pub view_bodies : List (Bor (List Stmt)) → List Stmts
view_bodies bs = map (λ b. view_stmts b.now) bs
