-- The kinds of a script's names, and why a script is refused for its names (POSIX.1-2017 awk, "Variables and Special Variables" and "User-Defined Functions").
use Rattle.std.specs.Prelude.{ℕ, ◌+◌, ◌==◌, nat_le, Bool, true, false, not, ◌||◌, ◌&&◌, if◌then◌else◌, nat_lt, codes, List, [], ◌∷◌, ◌++◌, length, map, filter, Option, Some, None}
use Rattle.std.specs.Cmp.Lexicographic.{pointwise}
use Rattle.std.specs.List.{list_any, slice_get}
use Rattle.std.specs.Option.{option_map, is_some}
use Rattle.awk_grammar.specs.Trees.{Item, Function as FunctionItem}
use Rattle.awk_grammar.specs.Marks.{Kind, Array, Scalar, Mark, Defined, Parameter, Used, Called, Computed, Given, script_marks}
use Rattle.awk_grammar.specs.LeastSets.{least}

-- Names.

abbrev pub same_name : List ℕ → List ℕ → Bool
same_name a b = pointwise ◌==◌ a b

abbrev pub has_name : List (List ℕ) → List ℕ → Bool
has_name ns x = list_any (same_name x) ns

unfoldable pub special_arrays : List (List ℕ)
special_arrays = codes "ARGV" ∷ codes "ENVIRON" ∷ []

unfoldable pub special_scalars : List (List ℕ)
special_scalars =
    codes "ARGC" ∷ codes "CONVFMT" ∷ codes "FILENAME" ∷ codes "FNR" ∷ codes "FS" ∷ codes "NF" ∷ codes "NR" ∷ codes "OFMT" ∷ codes "OFS" ∷ codes "ORS"
    ∷ codes "RLENGTH" ∷ codes "RS" ∷ codes "RSTART" ∷ codes "SUBSEP" ∷ []

abbrev pub specials : List (List ℕ)
specials = special_arrays ++ special_scalars

-- a variable: one of the whole script, or a parameter of a function
pub data Key : Type 0 where
  Whole : (name : List ℕ) → Key
  Inside : (function : List ℕ) → (name : List ℕ) → Key

abbrev pub same_key : Key → Key → Bool
same_key (Whole x) (Whole y) = same_name x y
same_key (Inside f x) (Inside g y) = same_name f g && same_name x y
same_key _ _ = false

abbrev pub name_of : Key → List ℕ
name_of (Whole x) = x
name_of (Inside f x) = x

-- Functions.

-- a function's name and parameters
pub record Head : Type 0 where
  pub name : List ℕ
  pub parameters : List (List ℕ)

abbrev pub heads : List Item → List Head
heads [] = []
heads (FunctionItem f xs ss ∷ is) = record { name = f; parameters = xs } ∷ heads is
heads (_ ∷ is) = heads is

abbrev pub parameters_of : List Head → List ℕ → Option (List (List ℕ))
parameters_of [] f = None
parameters_of (h ∷ hs) f = if same_name f h.name then Some h.parameters else parameters_of hs f

abbrev pub is_function : List Head → List ℕ → Bool
is_function hs f = is_some (parameters_of hs f)

abbrev pub head_keys : List ℕ → List (List ℕ) → List Key
head_keys f [] = []
head_keys f (x ∷ xs) = Inside f x ∷ head_keys f xs

-- the parameters of all functions
abbrev pub parameter_keys : List Head → List Key
parameter_keys [] = []
parameter_keys (h ∷ hs) = head_keys h.name h.parameters ++ parameter_keys hs

-- the variable that a name stands for in a place
abbrev pub key_in : List Head → Option (List ℕ) → List ℕ → Key
key_in hs None x = Whole x
key_in hs (Some f) x = if list_any (same_key (Inside f x)) (parameter_keys hs) then Inside f x else Whole x

-- the parameter for which an argument is given, if there is one
abbrev pub parameter_name : Option (List (List ℕ)) → ℕ → Option (List ℕ)
parameter_name None i = None
parameter_name (Some xs) i = slice_get xs i

abbrev pub parameter_at : List Head → List ℕ → ℕ → Option Key
parameter_at hs f i = option_map (Inside f) (parameter_name (parameters_of hs f) i)

-- The two sets: names used as arrays and names used as scalars.

abbrev pub same_kind : Kind → Kind → Bool
same_kind Array Array = true
same_kind Scalar Scalar = true
same_kind _ _ = false

-- of the special variables, ARGV and ENVIRON count as used as arrays, the others as scalars
abbrev pub specials_of : Kind → List (List ℕ)
specials_of Array = special_arrays
specials_of Scalar = special_scalars

-- the variables that are used so where they stand
abbrev pub used : Kind → List Head → List Mark → List Key
used kind hs [] = []
used kind hs (Used k place x ∷ ms) = if same_kind kind k then key_in hs place x ∷ used kind hs ms else used kind hs ms
used kind hs (_ ∷ ms) = used kind hs ms

abbrev pub members : Kind → List Head → List Mark → List Key
members kind hs ms = map Whole (specials_of kind) ++ used kind hs ms

-- a bare name and the parameter for which it is given
abbrev pub pair_of : Key → Option Key → List (Key × Key)
pair_of k None = []
pair_of k (Some p) = (k, p) ∷ []

abbrev pub pairs : List Head → List Mark → List (Key × Key)
pairs hs [] = []
pairs hs (Given f i place x ∷ ms) = pair_of (key_in hs place x) (parameter_at hs f i) ++ pairs hs ms
pairs hs (_ ∷ ms) = pairs hs ms

-- whether a variable is used so, at once or as what is given for a parameter that is
abbrev pub is_used_as : Kind → List Head → List Mark → Key → Bool
is_used_as kind hs ms = least same_key (members kind hs ms) (pairs hs ms)

-- Refusals, each for the first place in the script.

pub data Refusal : Type 0 where
  TooMany : (function : List ℕ) → Refusal
  DuplicateName : (name : List ℕ) → Refusal
  UnknownFunction ArgCount : (function : List ℕ) → Refusal
  KindClash : (name : List ℕ) → Refusal

abbrev pub or_else : {A : Type 0} → Option A → Option A → Option A
or_else (Some x) o = Some x
or_else None o = o

abbrev pub only_if : Bool → List ℕ → Option (List ℕ)
only_if b x = if b then Some x else None

-- the first that a mark gives
abbrev pub first : (Mark → Option (List ℕ)) → List Mark → Option (List ℕ)
first p [] = None
first p (m ∷ ms) = or_else (p m) (first p ms)

-- so many functions a script has at most, and so many parameters a function
abbrev pub most_functions : ℕ
most_functions = 1000

abbrev pub most_parameters : ℕ
most_parameters = 100

-- a function after the most there may be, or one of too many parameters; so many stand before
abbrev pub too_many : (before : ℕ) → List Head → Option (List ℕ)
too_many n [] = None
too_many n (h ∷ hs) = or_else (only_if (nat_le most_functions n || nat_lt most_parameters (length h.parameters)) h.name) (too_many (n + 1) hs)

-- A name stands for two things: two functions, two parameters of a function, a special variable and a function or parameter, or a function and a
-- parameter or variable.

-- the functions that marks define
abbrev pub defined : List Mark → List (List ℕ)
defined [] = []
defined (Defined f ∷ ms) = f ∷ defined ms
defined (_ ∷ ms) = defined ms

-- the parameters that they name
abbrev pub declared : List Mark → List Key
declared [] = []
declared (Parameter f x ∷ ms) = Inside f x ∷ declared ms
declared (_ ∷ ms) = declared ms

-- `functions` and `parameters` are those before
abbrev pub duplicate : List Head → (functions : List (List ℕ)) → (parameters : List Key) → Mark → Option (List ℕ)
duplicate hs functions parameters (Defined f) = only_if (has_name specials f || has_name functions f) f
duplicate hs functions parameters (Parameter f x) = only_if (has_name specials x || (is_function hs x || list_any (same_key (Inside f x)) parameters)) x
duplicate hs functions parameters (Used kind place x) = only_if (is_function hs x) x
duplicate hs functions parameters (Given f i place x) = only_if (is_function hs x) x
duplicate hs functions parameters _ = None

abbrev pub first_duplicate : List Head → (before : List Mark) → List Mark → Option (List ℕ)
first_duplicate hs before [] = None
first_duplicate hs before (m ∷ ms) = or_else (duplicate hs (defined before) (declared before) m) (first_duplicate hs (before ++ m ∷ []) ms)

-- a call of a function that the script lacks
abbrev pub unknown : List Head → Mark → Option (List ℕ)
unknown hs (Called f n) = only_if (not (is_function hs f)) f
unknown hs _ = None

abbrev pub takes_fewer : Option (List (List ℕ)) → ℕ → Bool
takes_fewer None n = false
takes_fewer (Some xs) n = nat_lt (length xs) n

-- a call with more arguments than the function has parameters
abbrev pub excess : List Head → Mark → Option (List ℕ)
excess hs (Called f n) = only_if (takes_fewer (parameters_of hs f) n) f
excess hs _ = None

-- a variable of both kinds
abbrev pub clashing : (arrays scalars : Key → Bool) → Key → Option (List ℕ)
clashing arrays scalars k = only_if (arrays k && scalars k) (name_of k)

-- a parameter that is an array, where the argument is no bare name
abbrev pub needing : (arrays : Key → Bool) → Option Key → Option (List ℕ)
needing arrays None = None
needing arrays (Some p) = only_if (arrays p) (name_of p)

abbrev pub clash : (arrays scalars : Key → Bool) → List Head → Mark → Option (List ℕ)
clash arrays scalars hs (Parameter f x) = clashing arrays scalars (Inside f x)
clash arrays scalars hs (Used kind place x) = clashing arrays scalars (key_in hs place x)
clash arrays scalars hs (Computed f i) = needing arrays (parameter_at hs f i)
clash arrays scalars hs (Given f i place x) = clashing arrays scalars (key_in hs place x)
clash arrays scalars hs _ = None

-- kinds aside
abbrev pub name_refusal : List Head → List Mark → Option Refusal
name_refusal hs ms =
    or_else (option_map TooMany (too_many 0 hs))
    (or_else (option_map DuplicateName (first_duplicate hs [] ms))
    (or_else (option_map UnknownFunction (first (unknown hs) ms))
    (option_map ArgCount (first (excess hs) ms))))

abbrev pub refusal_by : List Head → List Mark → Option Refusal
refusal_by hs ms = or_else (name_refusal hs ms) (option_map KindClash (first (clash (is_used_as Array hs ms) (is_used_as Scalar hs ms) hs) ms))

-- why a script is refused, if it is
abbrev pub refusal : List Item → Option Refusal
refusal is = refusal_by (heads is) (script_marks is)

-- What is known of the names of a script that is not refused.

-- a list with a key at its end, unless it has it
abbrev pub with_key : List Key → Key → List Key
with_key ks k = if list_any (same_key k) ks then ks else ks ++ k ∷ []

abbrev pub with_maybe : List Key → Option Key → List Key
with_maybe ks None = ks
with_maybe ks (Some k) = with_key ks k

-- the variables that a mark names: what a name stands for, and the parameter for which it is given
abbrev pub with_mark : List Head → List Key → Mark → List Key
with_mark hs ks (Used kind place x) = with_key ks (key_in hs place x)
with_mark hs ks (Given f i place x) = with_maybe (with_key ks (key_in hs place x)) (parameter_at hs f i)
with_mark hs ks _ = ks

abbrev pub with_marks : List Head → List Key → List Mark → List Key
with_marks hs ks [] = ks
with_marks hs ks (m ∷ ms) = with_marks hs (with_mark hs ks m) ms

abbrev pub with_keys : List Key → List Key → List Key
with_keys ks [] = ks
with_keys ks (l ∷ ls) = with_keys (with_key ks l) ls

-- the parameters of all functions, the special variables, and the other variables of the script in the order of their first places
abbrev pub variables : List Head → List Mark → List Key
variables hs ms = with_marks hs (with_keys (with_keys [] (parameter_keys hs)) (map Whole specials)) ms

pub record Name : Type 0 where
  pub name : List ℕ
  pub is_array : Bool

pub record Function : Type 0 where
  pub name : List ℕ
  pub parameters : List Name

-- The functions in the order of the script, and the globals in the order of their first places. The number of a function, a global or a parameter is
-- its place in its list.
pub record Resolved : Type 0 where
  pub functions : List Function
  pub globals : List Name

abbrev pub named : (arrays : Key → Bool) → Key → Name
named arrays k = record { name = name_of k; is_array = arrays k }

abbrev pub functions_by : (arrays : Key → Bool) → List Head → List Function
functions_by arrays [] = []
functions_by arrays (h ∷ hs) = record { name = h.name; parameters = map (named arrays) (head_keys h.name h.parameters) } ∷ functions_by arrays hs

-- variables that are neither special nor parameters
abbrev pub is_global : Key → Bool
is_global (Whole x) = not (has_name specials x)
is_global (Inside f x) = false

abbrev pub globals_by : (arrays : Key → Bool) → List Key → List Name
globals_by arrays ks = map (named arrays) (filter is_global ks)

abbrev pub resolved_by : List Head → List Mark → Resolved
resolved_by hs ms = record { functions = functions_by (is_used_as Array hs ms) hs; globals = globals_by (is_used_as Array hs ms) (variables hs ms) }

abbrev pub resolved : List Item → Resolved
resolved is = resolved_by (heads is) (script_marks is)
