-- The outside as a script sees it: what names hold, the streams that are open, and what output does to the names.
use Rattle.std.specs.Prelude.{ℕ, ◌-◌, ◌==◌, List, [], ◌∷◌, ◌++◌, map, length, Bool, true, false, cond, Option, Some, None}
use Rattle.std.specs.Cmp.Lexicographic.{pointwise}
use Rattle.world_core.specs.declared.world.Ending.{Ending}
use Rattle.world_core.specs.declared.world.Ending.TheVariants.{End}

-- where bytes are written to: the standard output, or a name
pub data Target : Type 0 where
  Standard : Target
  Named : (name : List ℕ) → Target

abbrev pub same_target : Target → Target → Bool
same_target Standard Standard = true
same_target (Named a) (Named b) = pointwise ◌==◌ a b
same_target a b = false

-- the bytes, where the name is not absent; what a reader meets behind them; the greatest length, where there is a limit; whether it opens
pub record Entry : Type 0 where
  pub bytes : Option (List ℕ)
  pub ending : Ending
  pub room : Option ℕ
  pub opens : Bool

-- a name of which nothing is said
abbrev pub absent : Entry
absent = record { bytes = None; ending = End; room = None; opens = true }

abbrev pub bytes_of : Option (List ℕ) → List ℕ
bytes_of None = []
bytes_of (Some bytes) = bytes

abbrev pub left_of : Option ℕ → ℕ → Option ℕ
left_of None n = None
left_of (Some room) n = Some (room - n)

-- how many more bytes fit, where there is a limit
abbrev pub free : Entry → Option ℕ
free e = left_of e.room (length (bytes_of e.bytes))

abbrev pub Outside : Type 0
Outside = Target → Entry

-- what is left to be read, and what is met behind it
pub record Source : Type 0 where
  pub rest : List ℕ
  pub ending : Ending

-- the outside; by the number of a stream, what its reader has left and where its writer writes
pub record State : Type 0 where
  pub outside : Outside
  pub readers : ℕ → Source
  pub writers : ℕ → Target

-- one thing done to the outside: a name opened for writing, at its end or emptied, or a byte appended
pub data Action : Type 0 where
  Open : (name : List ℕ) (append : Bool) → Action
  Put : (target : Target) (byte : ℕ) → Action

abbrev pub target_of : Action → Target
target_of (Open name append) = Named name
target_of (Put target byte) = target

-- opened for writing at its end, or emptied
abbrev pub opened : Bool → Entry → Entry
opened true e = record e { bytes = Some (bytes_of e.bytes) }
opened false e = record e { bytes = Some [] }

abbrev pub acted : Action → Entry → Entry
acted (Open name append) e = opened append e
acted (Put target byte) e = record e { bytes = Some (bytes_of e.bytes ++ byte ∷ []) }

-- a target holds something else
abbrev pub replaced : Target → Entry → Outside → Outside
replaced target e outside = λ t. cond (same_target target t) e (outside t)

abbrev pub step : Action → Outside → Outside
step a outside = replaced (target_of a) (acted a (outside (target_of a))) outside

-- the output is a list of actions: what every name holds after it is a function of the outside before it
abbrev pub after : List Action → Outside → Outside
after [] outside = outside
after (a ∷ rest) outside = after rest (step a outside)

abbrev pub puts : Target → List ℕ → List Action
puts t bytes = map (Put t) bytes
