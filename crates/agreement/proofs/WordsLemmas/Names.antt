-- What calls leave of the names that a host has: `declare` puts one after them, no other row changes them, and once a fault is kept nothing does.
use Rattle.std.proofs.Common.{◌≡◌, ℕ, Bool, true, false, ◌&&◌, ◌++◌, cond, nat_le, List, [], ◌∷◌, length, Option, Some, None, Result, Ok, Err, append-nil, refl, sym, ◌∙◌, subst}
use Rattle.awk_values.specs.declared.fault.Fault.{Fault}
use Rattle.sem_primitives.specs.InTurn.{in_turn, listed_in_turn, values_taken}
use Rattle.sem_primitives.specs.Rows.{getline_line_row, getline_row, next_main_row}
use Rattle.sem_primitives.specs.MainInput.{start_assign_row}
use Rattle.sem_primitives.specs.SharedState.{Inner, Shared, settles}
use Rattle.sem_primitives.specs.Sorts.{InAnswer, Row}
use Rattle.sem_primitives.specs.Table.{arguments_of, can_fault, listed_meaning, meaning}
use Rattle.sem_primitives.specs.declared.answers.AssignAnswer.{AssignAnswer}
use Rattle.sem_primitives.specs.declared.answers.AssignAnswer.TheVariants as assign
use Rattle.sem_primitives.specs.declared.answers.InputAnswer.{InputAnswer}
use Rattle.sem_primitives.specs.declared.answers.InputAnswer.TheVariants as input
use Rattle.sem_primitives.specs.declared.constants.NameKind.{NameKind}
use Rattle.sem_primitives.specs.declared.sorts.Answer.{Answer}
use Rattle.sem_primitives.specs.declared.table.Listed.{Listed}
use Rattle.sem_primitives.specs.declared.table.Listed.TheVariants as listed
use Rattle.sem_primitives.specs.declared.table.Primitive.{Primitive}
use Rattle.sem_primitives.specs.declared.table.Primitive.TheVariants as row
use Rattle.lower_model.specs.Cells.{Cell, none_owned}
use Rattle.lower_model.specs.ImportCalls.{Acts, Host, acted, acts, after_fault, call, fault_cell, last_of, listed_acts, look, looked_at, primitive_acts, replied, taken, where_so, with_some}
use Rattle.host_imports.specs.Imports.{import_answer, import_arguments, lets_go}
use Rattle.host_imports.specs.declared.import.Import.{Import}
use Rattle.host_imports.specs.declared.import.Import.TheVariants.{Arg, Drop, FreeArray, IterFree, OfPrimitive, Variadic}
use Rattle.host_imports.specs.declared.import.VariadicImport.TheVariants.{Print, Printf, Sprintf}
use Rattle.lower_model.proofs.HostLaws.{Keeps, listed_keeps, row_keeps}
use Rattle.lower_model.proofs.InputLaws.{AfterInput, AfterStart, GoodInput, GoodStart, getline_line_row_good, getline_row_good, next_main_row_good, start_good}

-- the import that announces a name
abbrev pub is_telling : Import → Bool
is_telling (OfPrimitive row.Declare) = true
is_telling i = false

-- after the names that there were come perhaps some more, only where they may be announced
pub record Grows (tells : Bool) (i j : Inner) : Type 0 where
  pub more : List (List ℕ × NameKind)
  pub names : j.names ≡ i.names ++ more
  pub none : tells ≡ false → j.names ≡ i.names

still : {tells : Bool} (i j : Inner) → j.names ≡ i.names → Grows tells i j
still i j e = record { more = []; names = e ∙ sym (append-nil i.names); none = λ t. e }

kept : {tells : Bool} (i j : Inner) → Keeps i j → Grows tells i j
kept i j h = still i j h.names

read_same : (i j : Inner) (x : InputAnswer) → AfterInput i j x → j.names ≡ i.names
read_same i j input.Pending h = h.0
read_same i j input.End h = h.names
read_same i j input.Read h = h.names
read_same i j input.Failed h = h.names

read_grows : {tells : Bool} (s : Shared) (r : Result (Inner × InputAnswer) Fault) → GoodInput s.inner r → Grows tells s.inner (settles s r).inner
read_grows s (Ok x) h = still s.inner x.0 (read_same s.inner x.0 x.1 h)
read_grows s (Err f) h = still s.inner s.inner refl

started_same : (i j : Inner) (x : AssignAnswer) → AfterStart i.assigns i j x → j.names ≡ i.names
started_same i j assign.Pending h = h.0
started_same i j assign.NoneLeft h = h.1

start_grows : {tells : Bool} (s : Shared) (r : Result (Inner × AssignAnswer) Fault) → GoodStart s.inner.assigns s.inner r → Grows tells s.inner (settles s r).inner
start_grows s (Ok x) h = still s.inner x.0 (started_same s.inner x.0 x.1 h)
start_grows s (Err f) h = still s.inner s.inner refl

row_grows : (q : Primitive) (r : Row (arguments_of q)) (s : Shared) → Grows (is_telling (OfPrimitive q)) s.inner (meaning q r s).inner
row_grows row.NextMain r s = read_grows s (next_main_row s.outside s.inner) (next_main_row_good s.outside s.inner)
row_grows row.Getline r s = read_grows s (getline_row s.outside s.inner) (getline_row_good s.outside s.inner)
row_grows row.GetlineVar r s = read_grows s (getline_line_row s.outside s.inner) (getline_line_row_good s.outside s.inner)
row_grows row.StartAssign r s = start_grows s (start_assign_row s.inner) (start_good s.inner.assigns s.inner)
row_grows row.Declare r s = record { more = (r.0, r.1.0) ∷ []; names = refl; none = λ t. cc }
row_grows row.PendingValue r s = still s.inner (meaning row.PendingValue r s).inner refl
row_grows q r s = kept s.inner (meaning q r s).inner (row_keeps q r s refl)

-- Calls.

module _ (h : Host) where
  pub record Leaves (tells : Bool) (g : Host) : Type 0 where
    pub grows : Grows tells h.shared.inner g.shared.inner
    pub faulted : (f : Fault) → h.fault ≡ Some f → (g.fault ≡ Some f) × (g.shared.inner.names ≡ h.shared.inner.names)

  abbrev ActsGrow : Bool → {A : Type 0} → Option (Acts A) → Type 0
  ActsGrow tells None = Unit {0}
  ActsGrow tells (Some d) = Grows tells h.shared.inner d.does.inner

  where_grows : {tells : Bool} {A : Type 0} → (b : Bool) (d : Acts A) → Grows tells h.shared.inner d.does.inner → ActsGrow tells (where_so b (Some d))
  where_grows true d a = a
  where_grows false d a = tt

  listed_grows : (l : Listed) (n : ℕ) → ActsGrow false (listed_acts l n h)
  listed_grows l n =
      where_grows (nat_le n (length h.arguments) && listed_in_turn l (last_of n h.arguments)) _ (kept h.shared.inner (listed_meaning l (last_of n h.arguments) h.shared).inner (listed_keeps l (last_of n h.arguments) h.shared))

  acts_grow : (i : Import) (r : Row (import_arguments i)) → ActsGrow (is_telling i) (acts i r h)
  acts_grow (OfPrimitive p) r = where_grows (in_turn p r h.shared) (primitive_acts h.arguments (can_fault p) (meaning p r h.shared)) (row_grows p r h.shared)
  acts_grow (Variadic Sprintf) r = listed_grows listed.Sprintf (values_taken listed.Sprintf r.0)
  acts_grow (Variadic Print) r = listed_grows (listed.Print r.1.0) (values_taken (listed.Print r.1.0) r.0)
  acts_grow (Variadic Printf) r = listed_grows (listed.Printf r.1.0) (values_taken (listed.Printf r.1.0) r.0)
  acts_grow Arg r = still h.shared.inner h.shared.inner refl
  acts_grow Drop r = still h.shared.inner h.shared.inner refl
  acts_grow IterFree r = still h.shared.inner h.shared.inner refl
  acts_grow FreeArray r = still h.shared.inner h.shared.inner refl

  abbrev GrowsIf : Bool → Option (Option Cell × Host) → Type 0
  GrowsIf tells None = Unit {0}
  GrowsIf tells (Some x) = Grows tells h.shared.inner x.1.shared.inner

  replied_grows : {tells : Bool} (a : Answer) (d : Acts (InAnswer a)) (r : Result (InAnswer a) Fault) → Grows tells h.shared.inner d.does.inner → Grows tells h.shared.inner (replied a h d r).1.shared.inner
  replied_grows a d (Ok x) q = q
  replied_grows a d (Err f) q = q

  acted_grows : (i : Import) (given : Option (Row (import_arguments i))) → GrowsIf (is_telling i) (acted i h given)
  acted_grows i None = tt
  acted_grows i (Some r) = by (acts i r h) (acts_grow i r)
    where
      by : (m : Option (Acts (InAnswer (import_answer i)))) → ActsGrow (is_telling i) m → GrowsIf (is_telling i) (with_some m (λ d. Some (replied (import_answer i) h d d.does.answer)))
      by None q = tt
      by (Some d) q = replied_grows (import_answer i) d d.does.answer q

  -- once a fault is kept
  abbrev FaultKept : Fault → Option (Option Cell × Host) → Type 0
  FaultKept f None = Unit {0}
  FaultKept f (Some x) = (x.1.fault ≡ Some f) × (x.1.shared.inner.names ≡ h.shared.inner.names)

  let_go : (f : Fault) → h.fault ≡ Some f → (i : Import) → lets_go i ≡ true → (given : Option (Row (import_arguments i))) → FaultKept f (acted i h given)
  let_go f e i l None = tt
  let_go f e Drop l (Some r) = (e, refl)
  let_go f e IterFree l (Some r) = (e, refl)
  let_go f e FreeArray l (Some r) = (e, refl)
  let_go f e Arg l (Some r) = cc
  let_go f e (OfPrimitive p) l (Some r) = cc
  let_go f e (Variadic x) l (Some r) = cc

  refused : (f : Fault) → h.fault ≡ Some f → (memory : List ℕ) (i : Import) (cs : List Cell) → FaultKept f (after_fault memory i cs h)
  refused f e memory i cs = by (lets_go i) refl (none_owned cs)
    where
      by : (b : Bool) → lets_go i ≡ b → (c : Bool) → FaultKept f (cond b (acted i h (taken memory i cs)) (where_so c (Some (fault_cell (import_answer i), h))))
      by true q c = let_go f e i q (taken memory i cs)
      by false q true = (e, refl)
      by false q false = tt

  abbrev LeavesIf : Bool → Option (Option Cell × Host) → Type 0
  LeavesIf tells None = Unit {0}
  LeavesIf tells (Some x) = Leaves tells x.1

  no_fault : (tells : Bool) → h.fault ≡ None → (o : Option (Option Cell × Host)) → GrowsIf tells o → LeavesIf tells o
  no_fault tells e None q = tt
  no_fault tells e (Some x) q = record { grows = q; faulted = λ f z. let w = sym z ∙ e in cc }

  fault_stays : (tells : Bool) (f : Fault) → h.fault ≡ Some f → (o : Option (Option Cell × Host)) → FaultKept f o → LeavesIf tells o
  fault_stays tells f e None q = tt
  fault_stays tells f e (Some x) q = record { grows = still h.shared.inner x.1.shared.inner q.1; faulted = λ g z. (q.0 ∙ (sym e ∙ z), q.1) }

  pub call_leaves : (memory : List ℕ) (i : Import) (cs : List Cell) (a : Option Cell × Host) → call memory i cs h ≡ Some a → Leaves (is_telling i) a.1
  call_leaves memory i cs a e = subst (LeavesIf (is_telling i)) e (by h.fault refl)
    where
      by : (f : Option Fault) → h.fault ≡ f → LeavesIf (is_telling i) (elim f [ None ↦ acted i h (taken memory i cs) | Some x ↦ after_fault memory i cs h ])
      by None q = no_fault (is_telling i) q (acted i h (taken memory i cs)) (acted_grows i (taken memory i cs))
      by (Some x) q = fault_stays (is_telling i) x q (after_fault memory i cs h) (refused x q memory i cs)

  pub look_leaves : (i : Import) (c : Cell) (a : Option Cell × Host) → look i c h ≡ Some a → Leaves (is_telling i) a.1
  look_leaves i c a e = subst (LeavesIf (is_telling i)) e (by h.fault refl)
    where
      by : (f : Option Fault) → h.fault ≡ f → LeavesIf (is_telling i) (elim f [ None ↦ acted i h (looked_at i c) | Some x ↦ None ])
      by None q = no_fault (is_telling i) q (acted i h (looked_at i c)) (acted_grows i (looked_at i c))
      by (Some x) q = tt

  pub names_kept : (memory : List ℕ) (i : Import) (cs : List Cell) (a : Option Cell × Host) → call memory i cs h ≡ Some a → is_telling i ≡ false → a.1.shared.inner.names ≡ h.shared.inner.names
  names_kept memory i cs a e t = (call_leaves memory i cs a e).grows.none t

  pub looked_kept : (i : Import) (c : Cell) (a : Option Cell × Host) → look i c h ≡ Some a → is_telling i ≡ false → a.1.shared.inner.names ≡ h.shared.inner.names
  looked_kept i c a e t = (look_leaves i c a e).grows.none t
