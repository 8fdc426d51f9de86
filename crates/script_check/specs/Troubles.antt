-- What is found in a script that is refused for its names: the uses that the refusal means.
use Rattle.std.specs.Prelude.{ℕ, ◌+◌, Bool, true, false, not, ◌&&◌, ◌||◌, if◌then◌else◌, List, [], ◌∷◌, ◌++◌, Option, Some, None, is_some, option_to_list, slice_get}
use Rattle.awk_grammar.specs.Trees.{Item}
use Rattle.awk_grammar.specs.Kinds.{Refusal, TooMany, DuplicateName, UnknownFunction, ArgCount, KindClash, has_name, heads, is_function, or_else, same_name, specials}
use Rattle.script_check.specs.declared.matter.Trouble.{Trouble}
use Rattle.script_check.specs.declared.matter.Trouble.TheVariants as trouble
use Rattle.script_check.specs.declared.uses.Deed.{Deed}
use Rattle.script_check.specs.declared.uses.Deed.TheVariants.{Defines, Takes, Calls, Reads, Sets, Changes, Joins, Gives, ReadsArray, SetsArray, ChangesArray, Clears, Assigns, Divides}
use Rattle.script_check.specs.Layout.{Layout, use_found}
use Rattle.script_check.specs.Matters.{is_local}
use Rattle.script_check.specs.Remarks.{Found, trouble_remark}
use Rattle.script_check.specs.Uses.{Told}

-- ---- uses

-- it asks for an array, or for a scalar
abbrev pub is_kind : (array : Bool) → Deed → Bool
is_kind array ReadsArray = array
is_kind array SetsArray = array
is_kind array ChangesArray = array
is_kind array Clears = array
is_kind array Reads = not array
is_kind array Sets = not array
is_kind array Changes = not array
is_kind array Joins = not array
is_kind array _ = false

abbrev pub is_variable : Deed → Bool
is_variable Gives = true
is_variable d = is_kind true d || is_kind false d

abbrev pub is_definition : Deed → Bool
is_definition Defines = true
is_definition _ = false

abbrev pub is_parameter : Deed → Bool
is_parameter Takes = true
is_parameter _ = false

-- both define a function, or both name a parameter
abbrev pub same_naming : Deed → Deed → Bool
same_naming Defines Defines = true
same_naming Takes Takes = true
same_naming _ _ = false

abbrev pub same_place : Option (List ℕ) → Option (List ℕ) → Bool
same_place None None = true
same_place (Some f) (Some g) = same_name f g
same_place _ _ = false

-- it names what the other names already: a function, or a parameter of the same function
abbrev pub names_again : (used other : Told) → Bool
names_again u v = same_naming v.deed u.deed && (same_name v.name u.name && same_place v.place u.place)

abbrev pub is_named : (before : List Told) → Told → Bool
is_named [] u = false
is_named (v ∷ vs) u = names_again u v || is_named vs u

-- the number of the first at which it holds, from a number on
abbrev pub first_from : (Told → Bool) → ℕ → List Told → Option ℕ
first_from p i [] = None
first_from p i (u ∷ us) = if p u then Some i else first_from p (i + 1) us

-- the definition of the function of this name
abbrev pub defines : (name : List ℕ) → Told → Bool
defines x u = is_definition u.deed && same_name u.name x

abbrev pub definition : (name : List ℕ) → List Told → Option ℕ
definition x us = first_from (defines x) 0 us

-- a use of a variable, or parameter, of this name
abbrev pub names_variable : (name : List ℕ) → Told → Bool
names_variable x u = same_name u.name x && (is_variable u.deed || is_parameter u.deed)

module _ (items : List Item) where
  -- the function whose parameter the name is
  abbrev pub owner : Told → Option (List ℕ)
  owner u = if is_local items u.place u.name then u.place else None

  abbrev pub same_variable : Told → Told → Bool
  same_variable u v = same_name u.name v.name && same_place (owner u) (owner v)

  -- the name stands for two things at a use
  abbrev pub is_taken_by : (before : List Told) → Told → Deed → Bool
  is_taken_by before u Defines = has_name specials u.name || is_named before u
  is_taken_by before u Takes = has_name specials u.name || (is_function (heads items) u.name || is_named before u)
  is_taken_by before u deed = is_variable deed && is_function (heads items) u.name

  abbrev pub is_taken : (before : List Told) → Told → Bool
  is_taken before u = is_taken_by before u u.deed

  -- the first use of this name at which it stands for two things, from a number on
  abbrev pub taken_from : (name : List ℕ) → (before : List Told) → ℕ → List Told → Option ℕ
  taken_from x before i [] = None
  taken_from x before i (u ∷ us) = if same_name u.name x && is_taken before u then Some i else taken_from x (before ++ u ∷ []) (i + 1) us

  -- the first use of the same variable as an array, or as a scalar
  abbrev pub uses_as : (array : Bool) → Told → Told → Bool
  uses_as array u v = is_kind array v.deed && same_variable v u

  abbrev pub first_as : (array : Bool) → Told → List Told → Option ℕ
  first_as array u us = first_from (uses_as array u) 0 us

  -- a use of this name of a variable that is used both ways
  abbrev pub is_clash : (name : List ℕ) → (all : List Told) → Told → Bool
  is_clash x all u = names_variable x u && (is_some (first_as true u all) && is_some (first_as false u all))

  -- the first such use; if there is none, the first of a variable of this name
  abbrev pub first_clash : (name : List ℕ) → List Told → Option ℕ
  first_clash x us = or_else (first_from (is_clash x us) 0 us) (first_from (names_variable x) 0 us)

-- ---- findings

module _ (lay : Layout) where
  abbrev pub trouble_found : Trouble → Option ℕ → List Found
  trouble_found t None = []
  trouble_found t (Some i) = option_to_list (use_found lay i (trouble_remark t))

  -- a variable of both kinds: the first place, and the first of each kind
  abbrev pub kinds_found : List Item → List Told → ℕ → Option Told → List Found
  kinds_found items us i None = []
  kinds_found items us i (Some u) =
      trouble_found trouble.KindClash (Some i) ++ (trouble_found trouble.AsArray (first_as items true u us) ++ trouble_found trouble.AsScalar (first_as items false u us))

  abbrev pub clash_found : List Item → List Told → Option ℕ → List Found
  clash_found items us None = []
  clash_found items us (Some i) = kinds_found items us i (slice_get us i)

  -- what a refusal means; calls tell of themselves
  abbrev pub refusal_found : List Item → List Told → Option Refusal → List Found
  refusal_found items us (Some (TooMany f)) = trouble_found trouble.TooMany (definition f us)
  refusal_found items us (Some (DuplicateName x)) = trouble_found trouble.DuplicateName (taken_from items x [] 0 us)
  refusal_found items us (Some (KindClash x)) = clash_found items us (first_clash items x us)
  refusal_found items us _ = []
