-- What numbered variables and their uses stand for.
use Rattle.std.specs.Prelude.{◌≡◌, false, List, [], ◌∷◌, ◌++◌, Option}
use Rattle.awk_grammar.specs.Marks.{Kind, Array, Scalar, Mark}
use Rattle.awk_grammar.specs.Kinds.{Key, Head, same_kind, with_keys, with_key, with_maybe, pair_of, variables, members, pairs}
use Rattle.awk_resolve.specs.ViewNames.{view_variables}
use Rattle.awk_resolve.specs.Numbered.{AreNumbers, ArePairs, all_if}
use Rattle.awk_resolve.specs.declared.uses.Uses.{Uses}

-- the variables that have numbers, in their order
abbrev pub numbered : Uses → List Key
numbered uses = view_variables uses.variables.found.keys

-- the numbers are those of these variables in their order, of those used as arrays, of those used as scalars, and of names with their parameters
pub record Stand (uses : Uses) (keys used_arrays used_scalars : List Key) (given : List (Key × Key)) : Type 0 where
  pub variables : numbered uses ≡ keys
  pub arrays : AreNumbers keys uses.arrays.items.items used_arrays
  pub scalars : AreNumbers keys uses.scalars.items.items used_scalars
  pub pairs : ArePairs keys uses.pairs.items.items given

-- memory was wanting for none of them
pub record IsWhole (uses : Uses) : Type 0 where
  pub variables : uses.variables.is_refused ≡ false
  pub arrays : uses.arrays.out_of_memory ≡ false
  pub scalars : uses.scalars.out_of_memory ≡ false
  pub pairs : uses.pairs.out_of_memory ≡ false

-- they stand for these, unless memory was wanting
pub record Notes (uses : Uses) (keys arrays scalars : List Key) (given : List (Key × Key)) : Type 0 where
  pub notes : IsWhole uses → Stand uses keys arrays scalars given

-- these variables more are used so
pub record NotesUses (old new : Uses) (kind : Kind) (more : List Key) : Type 0 where
  pub uses : (keys arrays scalars : List Key) (given : List (Key × Key)) → Notes old keys arrays scalars given
      → Notes new (with_keys keys more) (arrays ++ all_if (same_kind Array kind) more) (scalars ++ all_if (same_kind Scalar kind) more) given

-- a name more is given for a parameter, if there is one
pub record NotesGiven (old new : Uses) (name : Key) (parameter : Option Key) : Type 0 where
  pub given : (keys arrays scalars : List Key) (given : List (Key × Key)) → Notes old keys arrays scalars given
      → Notes new (with_maybe (with_key keys name) parameter) arrays scalars (given ++ pair_of name parameter)

-- they are those of these marks
pub record AreUses (hs : List Head) (uses : Uses) (ms : List Mark) : Type 0 where
  pub all : Notes uses (variables hs ms) (members Array hs ms) (members Scalar hs ms) (pairs hs ms)

-- what one mark more says is noted
pub record NotesMark (hs : List Head) (old new : Uses) (m : Mark) : Type 0 where
  pub next : (ms : List Mark) → AreUses hs old ms → AreUses hs new (ms ++ m ∷ [])
