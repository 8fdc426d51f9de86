-- What is to be said of each use of a script.
use Rattle.std.specs.Prelude.{ℕ, zero, suc, Bool, true, false, not, ◌&&◌, ◌||◌, if◌then◌else◌, Option, Some, None, List, [], ◌∷◌, ◌++◌, take, length, slice_get}
use Rattle.std.specs.List.{list_any}
use Rattle.std.specs.Option.{option_map, is_some}
use Rattle.awk_grammar.specs.Trees.{Item}
use Rattle.awk_grammar.specs.Kinds.{Name, heads, has_name, parameters_of, same_name, takes_fewer}
use Rattle.script_check.specs.declared.uses.Deed.{Deed}
use Rattle.script_check.specs.declared.uses.Deed.TheVariants.{Defines, Takes, Calls, Reads, Sets, Changes, Joins, Gives, ReadsArray, SetsArray, ChangesArray, Clears, Assigns, Divides}
use Rattle.script_check.specs.declared.uses.Use.{Use}
use Rattle.script_check.specs.declared.matter.Matter.{Matter}
use Rattle.script_check.specs.declared.matter.Matter.TheVariants.{UnknownFunction, ArgCount, NeverCalled, NeverAssigned, NeverRead, OnlyJoins, AssignedCondition, UnevenQuotient}
use Rattle.script_check.specs.declared.matter.Aspect.{Aspect}
use Rattle.script_check.specs.declared.matter.Aspect.TheVariants.{Calling, Asking, Setting}
use Rattle.script_check.specs.Uses.{Told}
use Rattle.script_check.specs.View.{view_use, view_uses}

abbrev pub asks : Deed → Bool
asks Reads = true
asks Joins = true
asks Changes = true
asks Gives = true
asks ReadsArray = true
asks ChangesArray = true
asks _ = false

abbrev pub sets : Deed → Bool
sets Sets = true
sets Changes = true
sets SetsArray = true
sets ChangesArray = true
sets _ = false

abbrev pub calls : Deed → Bool
calls (Calls n) = true
calls _ = false

abbrev pub shows : Aspect → Deed → Bool
shows Calling d = calls d
shows Asking d = asks d
shows Setting d = sets d

-- a matter, if it is so
abbrev pub only_if : Bool → Matter → Option Matter
only_if b m = if b then Some m else None

-- the kind of a variable of the whole script, if there is one of this name: whether it is an array
abbrev pub kind_of : List Name → List ℕ → Option Bool
kind_of [] x = None
kind_of (g ∷ gs) x = if same_name x g.name then Some g.is_array else kind_of gs x

abbrev pub has_maybe : Option (List (List ℕ)) → List ℕ → Bool
has_maybe None x = false
has_maybe (Some xs) x = has_name xs x

module _ (items : List Item) where
  -- the name is a parameter's in this place
  abbrev pub is_local : Option (List ℕ) → List ℕ → Bool
  is_local None x = false
  is_local (Some f) x = has_maybe (parameters_of (heads items) f) x

  -- a use of the whole script's variable, or function, of this name
  abbrev pub is_whole : Aspect → List ℕ → Told → Bool
  is_whole aspect x u = shows aspect u.deed && (same_name x u.name && not (is_local u.place u.name))

  -- there is such a use
  abbrev pub has_whole : Aspect → List ℕ → List Told → Bool
  has_whole aspect x us = list_any (is_whole aspect x) us

  -- a call
  abbrev pub call_matter : List ℕ → ℕ → Option Matter
  call_matter f n =
      if not (is_some (parameters_of (heads items) f)) then Some UnknownFunction
      else only_if (takes_fewer (parameters_of (heads items) f) n) ArgCount

  -- a use of a variable, behind these and among all
  abbrev pub never_assigned : (before all : List Told) → Told → Bool
  never_assigned before all u =
      is_whole Asking u.name u && (not (has_whole Setting u.name all) && not (has_whole Asking u.name before))

  abbrev pub never_read : (before all : List Told) → Told → Bool
  never_read before all u =
      is_whole Setting u.name u && (not (has_whole Asking u.name all) && not (has_whole Setting u.name before))

  abbrev pub global_matter : (before all : List Told) → Told → Option Bool → Option Matter
  global_matter before all u None = None
  global_matter before all u (Some array) =
      if not array && never_assigned before all u then Some NeverAssigned else only_if (never_read before all u) NeverRead

  abbrev pub matter_by : List Name → (before all : List Told) → Told → Deed → Option Matter
  matter_by globals before all u (Calls n) = call_matter u.name n
  matter_by globals before all u Defines = only_if (not (has_whole Calling u.name all)) NeverCalled
  matter_by globals before all u Joins = Some OnlyJoins
  matter_by globals before all u (Assigns whole) = only_if whole AssignedCondition
  matter_by globals before all u (Divides uneven) = only_if uneven UnevenQuotient
  matter_by globals before all u _ = global_matter before all u (kind_of globals u.name)

  -- what is to be said of a use, behind these and among all
  abbrev pub matter : List Name → (before all : List Told) → Told → Option Matter
  matter globals before all u = matter_by globals before all u u.deed

  abbrev pub matter_maybe : List Name → (before all : List Told) → Option Told → Option Matter
  matter_maybe globals before all None = None
  matter_maybe globals before all (Some u) = matter globals before all u

  abbrev pub matter_at : List Name → List Use → ℕ → Option Matter
  matter_at globals us i = matter_maybe globals (view_uses (take i us)) (view_uses us) (option_map view_use (slice_get us i))

  -- of the first so many uses
  abbrev pub matters : List Name → List Use → ℕ → List (Option Matter)
  matters globals us zero = []
  matters globals us (suc i) = matters globals us i ++ matter_at globals us i ∷ []
