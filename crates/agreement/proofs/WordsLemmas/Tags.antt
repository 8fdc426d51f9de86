-- Code that gives the number of ARGV to no row that changes arrays. What is known of each cell on the stack is a tag: that it is not ARGV's number.
-- Between two parts of code nothing is known of the stack, and each local is told not to have that number once the function's beginning has emptied it.
use Rattle.std.specs.Prelude.{◌≡◌, ℕ, zero, suc, ◌-◌, Bool, true, false, not, ◌&&◌, ◌||◌, cond, nat_eq, nat_le, nat_lt, List, [], ◌∷◌, drop, Option, Some, None}
use Rattle.sem_primitives.specs.declared.sorts.Answer.{Answer}
use Rattle.sem_primitives.specs.declared.sorts.Answer.TheVariants as answer
use Rattle.sem_primitives.specs.declared.table.Primitive.TheVariants as row
use Rattle.wasm_types.specs.Syntax.{Plain, BrTable, Block, Loop, If, Instructions, Done, Then}
use Rattle.wasm_types.specs.declared.types.ValType.{ValType}
use Rattle.wasm_types.specs.declared.types.ValType.TheVariants as ty
use Rattle.wasm_types.specs.declared.instr.CvtOp.{CvtOp}
use Rattle.wasm_types.specs.declared.instr.CvtOp.TheVariants.{I64ExtendI32S, I64ExtendI32U}
use Rattle.wasm_types.specs.declared.instr.Simple.TheVariants.{Nop, BrIf, Call, Drop, LocalGet, LocalSet, LocalTee, GlobalGet, GlobalSet, I32Const, I64Const, Test, Compare, Binary, Convert}
use Rattle.wasm_store.specs.declared.word.Word.TheVariants.{I32, I64}
use Rattle.lower_model.specs.Cells.{Cell, Bits, OwnedArray, LentArray}
use Rattle.host_imports.specs.Imports.{import_answer, import_at, import_count}
use Rattle.lower_model.specs.Machine.{width}
use Rattle.lower_model.specs.Places.{text_global}
use Rattle.host_imports.specs.declared.import.Import.{Import}
use Rattle.host_imports.specs.declared.import.Import.TheVariants.{OfPrimitive}

-- where an array is wanted this cell is not ARGV
abbrev pub is_other : Cell → Bool
is_other (Bits (I32 n)) = not (nat_eq n 0)
is_other (Bits (I64 n)) = true
is_other (OwnedArray a) = not (nat_eq a 0)
is_other (LentArray a) = not (nat_eq a 0)
is_other c = true

-- of the topmost cells, the first on top; of those below nothing is known
abbrev pub Tags : Type 0
Tags = List Bool

abbrev pub popped : Tags → Tags
popped [] = []
popped (a ∷ A) = A

abbrev pub first_of : Tags → Bool
first_of [] = false
first_of (a ∷ A) = a

abbrev pub third_of_four : Tags → Bool
third_of_four (f ∷ (s ∷ (a ∷ (t ∷ A)))) = a
third_of_four A = false

-- What an import wants: the rows that change an array, of that array; and code may announce names, or may not.
abbrev pub spares : (tells : Bool) → Import → Tags → Bool
spares tells (OfPrimitive row.Declare) A = tells
spares tells (OfPrimitive row.Elem) A = first_of (popped A)
spares tells (OfPrimitive row.SetElem) A = first_of (popped (popped A))
spares tells (OfPrimitive row.Delete) A = first_of (popped A)
spares tells (OfPrimitive row.Clear) A = first_of A
spares tells (OfPrimitive row.Split) A = third_of_four A
spares tells i A = true

-- an array that is answered is a new one
abbrev pub answered : Answer → Tags → Tags
answered answer.Nothing A = A
answered (answer.Of s) A = true ∷ A
answered answer.ValueOrEnd A = true ∷ A
answered a A = false ∷ A

abbrev pub asks_well : Bool → Option Import → Tags → Bool
asks_well tells None A = true
asks_well tells (Some i) A = spares tells i A

abbrev pub asked : Option Import → Tags → Tags
asked None A = []
asked (Some i) A = answered (import_answer i) (drop (width i) A)

-- a function is given nothing that might be ARGV's number, and answers nothing of the kind
abbrev pub all_other : ℕ → Tags → Bool
all_other zero A = true
all_other (suc n) [] = false
all_other (suc n) (a ∷ A) = a && all_other n A

abbrev pub enters_well : Option ℕ → Tags → Bool
enters_well None A = true
enters_well (Some n) A = all_other n A

abbrev pub entered : Option ℕ → Tags → Tags
entered None A = []
entered (Some n) A = true ∷ drop n A

abbrev pub is_long : ValType → Bool
is_long ty.I32 = false
is_long ty.I64 = true

abbrev pub makes_long : CvtOp → Bool
makes_long I64ExtendI32S = true
makes_long I64ExtendI32U = true
makes_long op = false

-- the answer is on top where this is the end of a function
abbrev pub EndsWell : Bool → Tags → Type 0
EndsWell false A = Unit {0}
EndsWell true A = first_of A ≡ true

-- a global of a name, or that for a text that is returned: so many stand before those of names
abbrev pub is_name : (before : ℕ) → ℕ → Bool
is_name before x = nat_eq x text_global || nat_le before x

-- whether it may announce names; so many globals stand before those of names; and how many parameters each function has
module _ (tells : Bool) (before : ℕ) (sizes : ℕ → Option ℕ) where
  abbrev pub calls_well : ℕ → Tags → Bool
  calls_well n A = cond (nat_lt n import_count) (asks_well tells (import_at n) A) (enters_well (sizes (n - import_count)) A)

  abbrev pub called : ℕ → Tags → Tags
  called n A = cond (nat_lt n import_count) (asked (import_at n) A) (entered (sizes (n - import_count)) A)

  -- Code that leaves the tag of its answer on the stack where it is the end of a function (`ends`)
  abbrev pub Spares : (ends : Bool) → Instructions → Tags → Type 0
  Spares e Done A = EndsWell e A
  Spares e (Then (Block r b) c) A = Spares false b [] × Spares e c []
  Spares e (Then (Loop r b) c) A = Spares false b [] × Spares e c []
  Spares e (Then (If r a b) c) A = Spares false a [] × (Spares false b [] × Spares e c [])
  Spares e (Then (BrTable ds d) c) A = Unit {0}
  Spares e (Then (Plain Nop) c) A = Spares e c A
  Spares e (Then (Plain (I32Const n)) c) A = Spares e c (not (nat_eq n 0) ∷ A)
  Spares e (Then (Plain (I64Const n)) c) A = Spares e c (true ∷ A)
  Spares e (Then (Plain (LocalGet x)) c) A = Spares e c (true ∷ A)
  Spares e (Then (Plain (LocalSet x)) c) [] = ⊥
  Spares e (Then (Plain (LocalSet x)) c) (false ∷ A) = ⊥
  Spares e (Then (Plain (LocalSet x)) c) (true ∷ A) = Spares e c A
  Spares e (Then (Plain (LocalTee x)) c) [] = ⊥
  Spares e (Then (Plain (LocalTee x)) c) (false ∷ A) = ⊥
  Spares e (Then (Plain (LocalTee x)) c) (true ∷ A) = Spares e c (true ∷ A)
  Spares e (Then (Plain (GlobalGet x)) c) A = (t : Bool) × (t ≡ true → is_name before x ≡ true) × Spares e c (t ∷ A)
  Spares e (Then (Plain (GlobalSet x)) c) A = ((first_of A || not (is_name before x)) ≡ true) × Spares e c (popped A)
  Spares e (Then (Plain (Call n)) c) A = (calls_well n A ≡ true) × Spares e c (called n A)
  Spares e (Then (Plain (BrIf d)) c) A = Spares e c (popped A)
  Spares e (Then (Plain Drop) c) A = Spares e c (popped A)
  Spares e (Then (Plain (Test k op)) c) A = Spares e c (false ∷ popped A)
  Spares e (Then (Plain (Compare k op)) c) A = Spares e c (false ∷ popped (popped A))
  Spares e (Then (Plain (Binary k op)) c) A = Spares e c (is_long k ∷ popped (popped A))
  Spares e (Then (Plain (Convert op)) c) A = Spares e c (makes_long op ∷ popped A)
  Spares e (Then (Plain i) c) A = Unit {0}

-- At its beginning a function empties locals: those that the code sets before it does anything else.
abbrev pub is_set : Instructions → ℕ → Bool
is_set (Then (Plain (I32Const n)) c) x = is_set c x
is_set (Then (Plain (I64Const n)) c) x = is_set c x
is_set (Then (Plain (LocalSet y)) c) x = nat_eq x y || is_set c x
is_set c x = false
