-- Statements `name = Expr` on numbers alone, in mid code: what they are, where a run stands at one, and where it then comes to.
use Rattle.std.specs.Prelude.{ℕ, ◌≡◌, ◌≢◌, ◌<◌, ℤ, true, false, List, [], slice_get, Option, Some, None}
use Rattle.awk_values.specs.Faults.{fault_number}
use Rattle.awk_values.specs.declared.fault.Fault.TheVariants.{Range}
use Rattle.sem_primitives.specs.declared.table.Primitive.TheVariants as row
use Rattle.wasm_types.specs.Syntax.{Instructions}
use Rattle.wasm_types.specs.declared.instr.Simple.TheVariants.{I32Const}
use Rattle.wasm_store.specs.declared.word.Word.TheVariants.{I32, I64}
use Rattle.wasm_model.specs.Machines.{Conf}
use Rattle.mid_program.specs.declared.mid.Arithmetic.{Arithmetic}
use Rattle.mid_program.specs.declared.mid.Arithmetic.TheVariants as inline
use Rattle.mid_program.specs.declared.mid.Operation.TheVariants.{AsNumber, Inline}
use Rattle.mid_program.specs.Mid.{At, Code, Do, End, Eval, Get, Global, Number, Parameter, Program, Set, Slot, Step, Steps, Then}
use Rattle.mid_program.specs.Sorted.{lender_at}
use Rattle.lower_model.specs.Functions.{layout_of}
use Rattle.lower_model.specs.Modules.{called_imports, renumbered}
use Rattle.lower_model.specs.Places.{Bases, handle_global, number_global}
use Rattle.lower_model.specs.Small.{ask_row, emit, minus_one, text_beside}
use Rattle.lower_model.specs.Statements.{steps_emitted}

-- Expressions of number constants, names, groups, `+`, `-` and `*`. A group's code is that of what it encloses; `-a` is 0 - a, and `+a` the number of a.

abbrev pub IsSumOperator : Arithmetic → Type 0
IsSumOperator inline.Plus = Unit {0}
IsSumOperator inline.Minus = Unit {0}
IsSumOperator inline.Times = Unit {0}
IsSumOperator inline.Over = ⊥
IsSumOperator inline.Modulo = ⊥
IsSumOperator inline.Truncated = ⊥

-- names: those that are so
pub data IsSum (Is : Slot → Type 0) : Code → Type 0 where
  constant : (z : ℤ) → IsSum Is (Number z)
  name : (x : Slot) → Is x → IsSum Is (Get x)
  joined : (o : Arithmetic) (a b : Code) → IsSumOperator o → IsSum Is a → IsSum Is b → IsSum Is (Do (Inline o) (At a (At b End)))
  itself : (a : Code) → IsSum Is a → IsSum Is (Do AsNumber (At a End))

-- An unboxed name beside whose number no text stands: its handle is none, and its number is not the one that says that a text is there.
-- A parameter is one of the function, and nothing lends at its place.
abbrev pub HasNoText : (ranges : ℕ) → (lenders : List (Option ℕ)) → Bases → Conf → Slot → Type 0
HasNoText ranges lenders b c (Global true i) = (slice_get c.globals (handle_global ranges i) ≡ Some (I32 minus_one)) ×
    (slice_get c.globals (number_global ranges i) ≢ Some (I64 text_beside))
HasNoText ranges lenders b c (Parameter true i) =
    (i < b.parameters) × (slice_get c.frame.locals i ≢ Some (I64 text_beside)) × (lender_at lenders i ≡ None)
HasNoText ranges lenders b c (Global false i) = ⊥
HasNoText ranges lenders b c (Parameter false i) = ⊥

-- the code of steps, as a function of the module has it whose locals stand so: u iterators are in use, so many labels are between it and the exit, the
-- place where `break` goes and the one where `continue` goes, and k comes after it
abbrev pub code_in : Program → Bases → Steps → (u d bk ct : ℕ) → Instructions → Instructions
code_in p b ss u d bk ct k = renumbered (called_imports p) (steps_emitted (layout_of p b) ss u d bk ct k)

-- WHERE A STATEMENT ON NUMBERS BEGINS, after which another one comes in its block, and no text stands beside one of its names
pub record AtSum (p : Program) (c : Conf) : Type 0 where
  pub bases : Bases
  pub target : Slot
  pub expression : Code
  pub next : Step
  pub further : Steps
  pub iterators : ℕ
  pub out : ℕ
  pub breaking : ℕ
  pub continuing : ℕ
  pub after : Instructions
  pub code : c.frame.code ≡ code_in p bases (Then (Eval (Set target expression)) (Then next further)) iterators out breaking continuing after
  pub target_is : HasNoText p.ranges p.lenders bases c target
  pub sum : IsSum (HasNoText p.ranges p.lenders bases c) expression

-- THE NEXT STATEMENT, in the same call of the function, within the same labels
pub record AtNext (p : Program) (c : Conf) (a : AtSum p c) (there : Conf) : Type 0 where
  pub code : there.frame.code ≡ code_in p a.bases (Then a.next a.further) a.iterators a.out a.breaking a.continuing a.after
  pub operands : there.frame.values ≡ []
  pub labels : there.frame.labels ≡ c.frame.labels
  pub callers : there.callers ≡ c.callers

-- THE FAULT: a number is out of range, and the call that keeps this fault is next
pub record AtFault (p : Program) (c there : Conf) : Type 0 where
  pub after : Instructions
  pub code : there.frame.code ≡ renumbered (called_imports p) (emit (I32Const (fault_number Range)) (ask_row row.Fail after))
  pub operands : there.frame.values ≡ []
  pub callers : there.callers ≡ c.callers
