-- A script with the kinds of its names, and what a name stands for where it is used.
use Rattle.std.specs.Prelude.{ℕ, zero, suc, ◌+◌, Bool, true, false, ◌||◌, if◌then◌else◌, List, [], ◌∷◌, map, codes, Option, Some, None}
use Rattle.sem_primitives.specs.declared.constants.Special.{Special}
use Rattle.sem_primitives.specs.Assignments.{special_name}
use Rattle.sem_primitives.specs.Constants.{specials}
use Rattle.awk_grammar.specs.Trees.{Stmts, NoStmt, Item}
pub use Rattle.awk_grammar.specs.Kinds.{Name, same_name}

pub record Function : Type 0 where
  pub name : List ℕ
  pub parameters : List Name
  pub body : Stmts

-- The names that are neither special nor parameters, in the order of their first places, and the functions. The number of a name is its place.
pub record Resolved : Type 0 where
  pub globals : List Name
  pub functions : List Function
  pub items : List Item

-- where an expression stands: in a script, in a function with these parameters or in none
pub record Scope : Type 0 where
  pub script : Resolved
  pub parameters : List Name

abbrev pub next_place : Option ℕ → Option ℕ
next_place (Some i) = Some (suc i)
next_place None = None

-- the place of a name
abbrev pub place_in : List Name → List ℕ → Option ℕ
place_in [] x = None
place_in (n ∷ ns) x = if same_name n.name x then Some 0 else next_place (place_in ns x)

abbrev pub function_in : List Function → List ℕ → Option ℕ
function_in [] x = None
function_in (f ∷ fs) x = if same_name f.name x then Some 0 else next_place (function_in fs x)

-- of a name that is not there: past the end
abbrev pub or_past : ℕ → Option ℕ → ℕ
or_past past (Some i) = i
or_past past None = past

abbrev pub names_length : List Name → ℕ
names_length [] = 0
names_length (n ∷ ns) = suc (names_length ns)

abbrev pub functions_length : List Function → ℕ
functions_length [] = 0
functions_length (f ∷ fs) = suc (functions_length fs)

abbrev pub function_number : Resolved → List ℕ → ℕ
function_number script f = or_past (functions_length script.functions) (function_in script.functions f)

abbrev pub no_function : Function
no_function = record { name = []; parameters = []; body = NoStmt }

abbrev pub function_at : List Function → ℕ → Function
function_at [] i = no_function
function_at (f ∷ fs) zero = f
function_at (f ∷ fs) (suc i) = function_at fs i

-- The special variables (POSIX.1-2017 awk, "Variables and Special Variables").

abbrev pub special_names : List (List ℕ × Special)
special_names = map (λ s. (special_name s, s)) specials

abbrev pub special_in : List (List ℕ × Special) → List ℕ → Option Special
special_in [] x = None
special_in (entry ∷ rest) x = if same_name entry.0 x then Some entry.1 else special_in rest x

abbrev pub special_named : List ℕ → Option Special
special_named x = special_in special_names x

-- ARGV is array 0, ENVIRON array 1, and the script's own follow in the order of their names
abbrev pub special_array : List ℕ → Option ℕ
special_array x = if same_name (codes "ARGV") x then Some 0 else if same_name (codes "ENVIRON") x then Some 1 else None

abbrev pub is_special_array : Option ℕ → Bool
is_special_array (Some i) = true
is_special_array None = false

-- what a name stands for that is used as a scalar
pub data Variable : Type 0 where
  Global Parameter : ℕ → Variable
  Reserved : Special → Variable

-- one that is used as an array: an array by its number, or by a parameter
pub data ArrayName : Type 0 where
  Numbered Given : ℕ → ArrayName

abbrev pub global_or_special : List Name → List ℕ → Option Special → Variable
global_or_special globals x (Some special) = Reserved special
global_or_special globals x None = Global (or_past (names_length globals) (place_in globals x))

abbrev pub variable_by : Scope → List ℕ → Option ℕ → Variable
variable_by scope x (Some i) = Parameter i
variable_by scope x None = global_or_special scope.script.globals x (special_named x)

abbrev pub variable_of : Scope → List ℕ → Variable
variable_of scope x = variable_by scope x (place_in scope.parameters x)

-- how many arrays stand before a name
abbrev pub arrays_before : List Name → List ℕ → ℕ
arrays_before [] x = 0
arrays_before (n ∷ ns) x = if same_name n.name x then 0 else if n.is_array then suc (arrays_before ns x) else arrays_before ns x

abbrev pub own_or_special : List Name → List ℕ → Option ℕ → ArrayName
own_or_special globals x (Some i) = Numbered i
own_or_special globals x None = Numbered (2 + arrays_before globals x)

abbrev pub array_by : Scope → List ℕ → Option ℕ → ArrayName
array_by scope x (Some i) = Given i
array_by scope x None = own_or_special scope.script.globals x (special_array x)

abbrev pub array_of : Scope → List ℕ → ArrayName
array_of scope x = array_by scope x (place_in scope.parameters x)

-- whether a name is an array's

abbrev pub kind_at : List Name → ℕ → Bool
kind_at [] i = false
kind_at (n ∷ ns) zero = n.is_array
kind_at (n ∷ ns) (suc i) = kind_at ns i

abbrev pub variable_is_array : Scope → List ℕ → Variable → Bool
variable_is_array scope x (Parameter i) = kind_at scope.parameters i
variable_is_array scope x (Global i) = kind_at scope.script.globals i || is_special_array (special_array x)
variable_is_array scope x (Reserved special) = false

abbrev pub is_array : Scope → List ℕ → Bool
is_array scope x = variable_is_array scope x (variable_of scope x)
