-- What a call leaves pending was pending, or is an assignment to a name by a word: one that is still to be made, or an element of ARGV.
use Rattle.std.proofs.Common.{◌≡◌, ◌⊎◌, inl, inr, ℕ, Bool, true, false, ◌&&◌, cond, nat_le, List, length, Option, Some, None, Result, Ok, Err, refl, sym, ap, ◌∙◌, subst}
use Rattle.awk_values.specs.declared.fault.Fault.{Fault}
use Rattle.awk_values.specs.declared.value.Value.{Value}
use Rattle.sem_primitives.specs.InTurn.{in_turn, listed_in_turn, values_taken}
use Rattle.sem_primitives.specs.SharedState.{Inner, Shared, settles}
use Rattle.sem_primitives.specs.Sorts.{InAnswer, Row}
use Rattle.sem_primitives.specs.Table.{arguments_of, can_fault, listed_meaning, meaning}
use Rattle.sem_primitives.specs.declared.answers.AssignAnswer.{AssignAnswer}
use Rattle.sem_primitives.specs.declared.answers.AssignAnswer.TheVariants as assign
use Rattle.sem_primitives.specs.declared.answers.InputAnswer.{InputAnswer}
use Rattle.sem_primitives.specs.declared.answers.InputAnswer.TheVariants as input
use Rattle.sem_primitives.specs.declared.sorts.Answer.{Answer}
use Rattle.sem_primitives.specs.declared.table.Listed.{Listed}
use Rattle.sem_primitives.specs.declared.table.Listed.TheVariants as listed
use Rattle.sem_primitives.specs.declared.table.Primitive.{Primitive}
use Rattle.sem_primitives.specs.declared.table.Primitive.TheVariants as row
use Rattle.sem_primitives.specs.Rows.{getline_line_row, getline_row, next_main_row}
use Rattle.sem_primitives.specs.MainInput.{start_assign_row}
use Rattle.lower_model.specs.Cells.{Cell, none_owned}
use Rattle.lower_model.specs.ImportCalls.{Acts, Host, acted, acts, after_fault, call, fault_cell, last_of, listed_acts, look, looked_at, primitive_acts, replied, taken, where_so, with_some}
use Rattle.host_imports.specs.Imports.{import_answer, import_arguments, lets_go}
use Rattle.host_imports.specs.declared.import.Import.{Import}
use Rattle.host_imports.specs.declared.import.Import.TheVariants.{Arg, Drop, FreeArray, IterFree, OfPrimitive, Variadic}
use Rattle.host_imports.specs.declared.import.VariadicImport.TheVariants.{Print, Printf, Sprintf}
use Rattle.lower_model.proofs.HostLaws.{Keeps, listed_keeps, row_keeps}
use Rattle.lower_model.proofs.InputLaws.{AfterInput, AfterStart, GoodInput, GoodStart, IsAmong, IsNamed, IsNamedAmong, IsPending, getline_line_row_good, getline_row_good, next_main_row_good, start_good}

-- one state after another
pub record After (i j : Inner) : Type 0 where
  pub pending : (number : ℕ) (v : Value) → j.pending ≡ Some (number, v) → (i.pending ≡ Some (number, v)) ⊎ (IsNamed i number ⊎ IsNamedAmong i.assigns i number)
  pub assigns : (name : List ℕ) → IsAmong j.assigns name → IsAmong i.assigns name

after_same : (i : Inner) → After i i
after_same i = record { pending = λ m v e. inl e; assigns = λ name h. h }

after_kept : (i j : Inner) → Keeps i j → After i j
after_kept i j h = record { pending = λ m v e. inl (sym h.pending ∙ e); assigns = λ name q. subst (λ ps. IsAmong ps name) h.assigns q }

abbrev number_in : Option (ℕ × Value) → ℕ
number_in None = 0
number_in (Some x) = x.0

number_same : (j : Inner) (p : IsPending j) (m : ℕ) (v : Value) → j.pending ≡ Some (m, v) → p.number ≡ m
number_same j p m v e = ap number_in (sym p.there ∙ e)

-- Rows of the main input, and the assignments before BEGIN.

answered_after : (i j : Inner) (x : InputAnswer) → AfterInput i j x → After i j
answered_after i j input.Pending h = record {
  pending = λ m v e. inr (inl (subst (IsNamed i) (number_same j h.1 m v e) h.3));
  assigns = λ name q. subst (λ ps. IsAmong ps name) h.2 q;
}
answered_after i j input.End h = after_kept i j h
answered_after i j input.Read h = after_kept i j h
answered_after i j input.Failed h = after_kept i j h

input_after : (s : Shared) (r : Result (Inner × InputAnswer) Fault) → GoodInput s.inner r → After s.inner (settles s r).inner
input_after s (Ok x) h = answered_after s.inner x.0 x.1 h
input_after s (Err f) h = after_same s.inner

started_after : (i j : Inner) (x : AssignAnswer) → AfterStart i.assigns i j x → After i j
started_after i j assign.Pending h = record {
  pending = λ m v e. inr (inr (subst (IsNamedAmong i.assigns i) (number_same j h.1 m v e) h.3));
  assigns = h.2;
}
started_after i j assign.NoneLeft h = record { pending = λ m v e. inl (sym h.0 ∙ e); assigns = λ name q. absurd (subst (λ ps. IsAmong ps name) h.2 q) }

start_after : (s : Shared) (r : Result (Inner × AssignAnswer) Fault) → GoodStart s.inner.assigns s.inner r → After s.inner (settles s r).inner
start_after s (Ok x) h = started_after s.inner x.0 x.1 h
start_after s (Err f) h = after_same s.inner

row_after : (q : Primitive) (r : Row (arguments_of q)) (s : Shared) → After s.inner (meaning q r s).inner
row_after row.NextMain r s = input_after s (next_main_row s.outside s.inner) (next_main_row_good s.outside s.inner)
row_after row.Getline r s = input_after s (getline_row s.outside s.inner) (getline_row_good s.outside s.inner)
row_after row.GetlineVar r s = input_after s (getline_line_row s.outside s.inner) (getline_line_row_good s.outside s.inner)
row_after row.StartAssign r s = start_after s (start_assign_row s.inner) (start_good s.inner.assigns s.inner)
row_after row.Declare r s = record { pending = λ m v e. inl e; assigns = λ name h. h }
row_after row.PendingValue r s = record { pending = λ m v e. cc; assigns = λ name h. h }
row_after row.Num r s = after_kept s.inner _ (row_keeps row.Num r s refl)
row_after q r s = after_kept s.inner (meaning q r s).inner (row_keeps q r s refl)

-- Calls.

module _ (h : Host) where
  abbrev ActsAfter : {A : Type 0} → Option (Acts A) → Type 0
  ActsAfter None = Unit {0}
  ActsAfter (Some d) = After h.shared.inner d.does.inner

  abbrev AfterIf : Option (Option Cell × Host) → Type 0
  AfterIf None = Unit {0}
  AfterIf (Some x) = After h.shared.inner x.1.shared.inner

  where_after : {A : Type 0} → (b : Bool) (d : Acts A) → After h.shared.inner d.does.inner → ActsAfter (where_so b (Some d))
  where_after true d a = a
  where_after false d a = tt

  listed_after : (l : Listed) (n : ℕ) → ActsAfter (listed_acts l n h)
  listed_after l n =
      where_after (nat_le n (length h.arguments) && listed_in_turn l (last_of n h.arguments)) _ (after_kept h.shared.inner (listed_meaning l (last_of n h.arguments) h.shared).inner (listed_keeps l (last_of n h.arguments) h.shared))

  acts_after : (i : Import) (r : Row (import_arguments i)) → ActsAfter (acts i r h)
  acts_after (OfPrimitive p) r = where_after (in_turn p r h.shared) (primitive_acts h.arguments (can_fault p) (meaning p r h.shared)) (row_after p r h.shared)
  acts_after (Variadic Sprintf) r = listed_after listed.Sprintf (values_taken listed.Sprintf r.0)
  acts_after (Variadic Print) r = listed_after (listed.Print r.1.0) (values_taken (listed.Print r.1.0) r.0)
  acts_after (Variadic Printf) r = listed_after (listed.Printf r.1.0) (values_taken (listed.Printf r.1.0) r.0)
  acts_after Arg r = after_same h.shared.inner
  acts_after Drop r = after_same h.shared.inner
  acts_after IterFree r = after_same h.shared.inner
  acts_after FreeArray r = after_same h.shared.inner

  replied_after : (a : Answer) (d : Acts (InAnswer a)) (r : Result (InAnswer a) Fault) → After h.shared.inner d.does.inner → After h.shared.inner (replied a h d r).1.shared.inner
  replied_after a d (Ok x) q = q
  replied_after a d (Err f) q = q

  acted_after : (i : Import) (given : Option (Row (import_arguments i))) → AfterIf (acted i h given)
  acted_after i None = tt
  acted_after i (Some r) = by (acts i r h) (acts_after i r)
    where
      by : (m : Option (Acts (InAnswer (import_answer i)))) → ActsAfter m → AfterIf (with_some m (λ d. Some (replied (import_answer i) h d d.does.answer)))
      by None q = tt
      by (Some d) q = replied_after (import_answer i) d d.does.answer q

  fault_after : (memory : List ℕ) (i : Import) (cs : List Cell) → AfterIf (after_fault memory i cs h)
  fault_after memory i cs = by (lets_go i) (none_owned cs)
    where
      by : (b c : Bool) → AfterIf (cond b (acted i h (taken memory i cs)) (where_so c (Some (fault_cell (import_answer i), h))))
      by true c = acted_after i (taken memory i cs)
      by false true = after_same h.shared.inner
      by false false = tt

  given_after : (o : Option (Option Cell × Host)) (a : Option Cell × Host) → o ≡ Some a → AfterIf o → After h.shared.inner a.1.shared.inner
  given_after o a e q = subst AfterIf e q

  pub call_after : (memory : List ℕ) (i : Import) (cs : List Cell) (a : Option Cell × Host) → call memory i cs h ≡ Some a → After h.shared.inner a.1.shared.inner
  call_after memory i cs a e = given_after (call memory i cs h) a e (by h.fault)
    where
      by : (f : Option Fault) → AfterIf (elim f [ None ↦ acted i h (taken memory i cs) | Some x ↦ after_fault memory i cs h ])
      by None = acted_after i (taken memory i cs)
      by (Some x) = fault_after memory i cs

  pub look_after : (i : Import) (c : Cell) (a : Option Cell × Host) → look i c h ≡ Some a → After h.shared.inner a.1.shared.inner
  look_after i c a e = given_after (look i c h) a e (by h.fault)
    where
      by : (f : Option Fault) → AfterIf (elim f [ None ↦ acted i h (looked_at i c) | Some x ↦ None ])
      by None = acted_after i (looked_at i c)
      by (Some x) = tt
