-- The state that a script and its host share: everything that a primitive may read or change.
use Rattle.std.specs.Prelude.{ℕ, ◌+◌, ◌==◌, Bool, cond, List, [], ◌++◌, codes, ◌∷◌, Option, Result, Ok, Err, pos, neg_ℤ, length}
use Rattle.awk_values.specs.declared.fault.Fault.{Fault}
use Rattle.awk_values.specs.declared.value.Value.{Value}
use Rattle.awk_values.specs.declared.value.Value.TheVariants.{Uninit, Num, Text}
use Rattle.world_core.specs.WorldState.{Outside, Action, Entry, Source, after}
use Rattle.sem_primitives.specs.ConstantNumbers.{special_number}
use Rattle.sem_primitives.specs.declared.constants.NameKind.{NameKind}
use Rattle.sem_primitives.specs.declared.constants.Special.{Special}
use Rattle.sem_primitives.specs.declared.constants.Special.TheVariants.{Argc, Convfmt, Filename, Fs, Nf, Ofmt, Ofs, Ors, Rlength, Rs, Subsep}

-- an array: its keys and their values, in the order of their insertion
abbrev pub Pairs : Type 0
Pairs = List (List ℕ × Value)

abbrev pub Specials : Type 0
Specials = Special → Value

-- the special variables before a script runs with this many operands
abbrev pub specials_at_start : ℕ → Specials
specials_at_start operands Argc = Num (pos (operands + 1))
specials_at_start operands Convfmt = Text (codes "%.6g")
specials_at_start operands Filename = Uninit
specials_at_start operands Fs = Text (codes " ")
specials_at_start operands Ofmt = Text (codes "%.6g")
specials_at_start operands Ofs = Text (codes " ")
specials_at_start operands Ors = Text (10 ∷ [])
specials_at_start operands Rlength = Num (neg_ℤ (pos 1))
specials_at_start operands Rs = Text (10 ∷ [])
specials_at_start operands Subsep = Text (28 ∷ [])
specials_at_start operands _ = Num (pos 0)

-- what the main input reads
pub data MainReader : Type 0 where
  Standard : MainReader
  File : Source → MainReader

-- whether an operand named a file so far, or the standard input follows the operands, of which none did
pub data Operands : Type 0 where
  NoFile SomeFile NoneLeft : Operands

-- the main input (POSIX.1-2017 awk, "INPUT FILES"): what is left of the standard input, the number of the next operand, what is read now;
-- once its end was told it is ended
pub record MainInput : Type 0 where
  pub standard : Source
  pub next : ℕ
  pub operands : Operands
  pub reading : Option MainReader
  pub ended : Bool

-- What primitives change beside the outside. Arrays and iterators have the numbers of their places; a new one stands behind the others.
pub record Inner : Type 0 where
  pub arrays : List Pairs
  pub iterators : List (List (List ℕ))
  -- NF aside, which is the number of fields
  pub specials : Specials
  -- `$0`, and the fields from `$1` on
  pub whole : Value
  pub fields : List Value
  -- by their names, the files that are open for getline, with what is left of them, and those that are open for writing
  pub readers : List (List ℕ × Source)
  pub writers : List (List ℕ)
  pub main : MainInput
  -- the actions of END have begun
  pub in_end : Bool
  -- the names of the script, by their numbers
  pub names : List (List ℕ × NameKind)
  -- the assignments of the command line that are still to be made
  pub assigns : List (List ℕ × List ℕ)
  -- the name and the value of the one that is to be made now
  pub pending : Option (ℕ × Value)
  -- what was read for a variable, and what a substitution made: each is given once
  pub line : Option Value
  pub substituted : Option Value
  -- where others change what names hold too: what is found there from now on, each time that something is opened, read or written
  pub finds : Option (List Entry)

-- with the outside as it is now, and the output so far
pub record Shared : Type 0 where
  pub inner : Inner
  pub outside : Outside
  pub output : List Action

-- what a primitive does: output is only ever added
pub record HostResult (A : Type 0) : Type 0 where
  pub added : List Action
  pub inner : Inner
  pub answer : A

-- it answers, and changes nothing
abbrev pub gives : {A : Type 0} → Shared → A → HostResult A
gives state a = record { added = []; inner = state.inner; answer = a }

-- it answers with a state, and puts nothing out
abbrev pub changes : {A : Type 0} → Inner × A → HostResult A
changes x = record { added = []; inner = x.0; answer = x.1 }

-- the same, or it faults and changes nothing
abbrev pub settles : {A : Type 0} → Shared → Result (Inner × A) Fault → HostResult (Result A Fault)
settles state (Ok x) = record { added = []; inner = x.0; answer = Ok x.1 }
settles state (Err fault) = record { added = []; inner = state.inner; answer = Err fault }

abbrev pub shared_after : {A : Type 0} → Shared → HostResult A → Shared
shared_after state does = record { inner = does.inner; outside = after does.added state.outside; output = state.output ++ does.added }

-- one after another, up to the first fault
infixr 1 ◌>>=◌
abbrev pub ◌>>=◌ : {A B : Type 0} → Result A Fault → (A → Result B Fault) → Result B Fault
(Ok a) >>= f = f a
(Err fault) >>= f = Err fault

-- special variables

abbrev pub special_of : Inner → Special → Value
special_of inner Nf = Num (pos (length inner.fields))
special_of inner s = inner.specials s

abbrev pub with_special : Special → Value → Inner → Inner
with_special s v inner = record inner { specials = λ t. cond (special_number s == special_number t) v (inner.specials t) }
