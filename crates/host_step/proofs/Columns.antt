-- What the table of imports says of traps and faults.
use Rattle.std.proofs.Common.{◌≡◌, ◌≢◌, ℕ, Bool, true, false, List, [], ◌∷◌, Option, Some, None, refl, sym, ap, subst, ◌∙◌}
use Rattle.std.specs.Prelude.{Result, Ok, Err, cond}
use Rattle.awk_values.specs.declared.fault.Fault.{Fault}
use Rattle.sem_primitives.specs.InTurn.{in_turn}
use Rattle.sem_primitives.specs.SharedState.{HostResult}
use Rattle.sem_primitives.specs.Sorts.{InAnswer, OrFault, Row}
use Rattle.sem_primitives.specs.Table as table
use Rattle.sem_primitives.specs.declared.table.Primitive.TheVariants as row
use Rattle.wasm_model.specs.declared.host.HostAnswer.{HostAnswer}
use Rattle.wasm_model.specs.declared.host.HostAnswer.TheVariants as told
use Rattle.wasm_store.specs.declared.trap.TrapKind.{TrapKind}
use Rattle.wasm_store.specs.declared.word.Word.{Word}
use Rattle.world_core.specs.WorldState.{Action}
use Rattle.host_step.specs.Arguments.{and_then, decode}
use Rattle.host_step.specs.HostState.{HostState, Names}
use Rattle.host_step.specs.HostStep.{Acts, Comes, Given, Goes, IsGiven, Refuses, Settles, StepBy, StepOf, Traps, acts, carried, come, comes, is_freed, or_fault, primitive_acts, refuses, where_fit}
use Rattle.host_imports.specs.Imports.{import_answer, import_arguments, spends}
use Rattle.host_imports.specs.FaultColumns.{can_fault, can_trap}
use Rattle.host_imports.specs.declared.import.Import.{Import}
use Rattle.host_imports.specs.declared.import.Import.TheVariants.{OfPrimitive, Variadic, Arg, Drop, IterFree, FreeArray}

same_ok : {A E : Type 0} (x y : A) → ◌≡◌ {A = Result A E} (Ok x) (Ok y) → x ≡ y
same_ok x y e = cc

ok_apart : {A E : Type 0} (x : A) (f : E) → ◌≡◌ {A = Result A E} (Ok x) (Err f) → ⊥
ok_apart x f e = cc

-- no fault comes of what cannot fault

pure : {A : Type 0} (b : Bool) (x : OrFault b A) (f : Fault) → b ≡ false → or_fault b x ≢ Err f
pure true x f h = λ e. absurd (true_apart h) where
  true_apart : true ≢ false
  true_apart q = cc
pure false x f h = ok_apart x f

fit : {A : Type 0} (b : Bool) (x d : A) → where_fit b x ≡ Ok d → x ≡ d
fit true x d e = same_ok x d e
fit false x d e = cc

acts_well : (i : Import) (given : Row (import_arguments i)) (s : HostState) (d : Acts (InAnswer (import_answer i))) (f : Fault) → can_fault i
    ≡ false → acts i given s ≡ Ok d → d.does.answer ≢ Err f
acts_well (OfPrimitive p) given s d f h e = subst (λ x. x.does.answer ≢ Err f) (fit (in_turn p given s.shared) _ d e) (pure (table.can_fault p) _ f h)
acts_well (Variadic l) given s d f h e = cc
acts_well Arg given s d f h e = subst (λ x. x.does.answer ≢ Err f) (same_ok _ d e) (ok_apart tt f)
acts_well Drop given s d f h e = subst (λ x. x.does.answer ≢ Err f) (same_ok _ d e) (ok_apart tt f)
acts_well IterFree given s d f h e = subst (λ x. x.does.answer ≢ Err f) (same_ok _ d e) (ok_apart tt f)
acts_well FreeArray given s d f h e = subst (λ x. x.does.answer ≢ Err f) (fit (is_freed given.0) _ d e) (ok_apart tt f)

with_acts : (i : Import) (s : HostState) (d : Acts (InAnswer (import_answer i))) (given : Row (import_arguments i)) (left names : Names) (r : Result (Acts (InAnswer (import_answer i))) TrapKind) (f : Fault) → can_fault i ≡ false → acts i given s ≡ r → and_then {B = Names × Acts (InAnswer (import_answer i))} r (λ x. Ok (left, x)) ≡ Ok (names, d) → d.does.answer ≢ Err f
with_acts i s d given left names (Ok x) f h a e = acts_well i given s d f h (a ∙ ap Ok (ap (λ p. p.1) (same_ok (left, x) (names, d) e)))
with_acts i s d given left names (Err k) f h a e = cc

with_row : (i : Import) (s : HostState) (d : Acts (InAnswer (import_answer i))) (names : Names) (r : Result (Row (import_arguments i) × Names) TrapKind) (f : Fault) → can_fault i ≡ false → and_then {B = Names × Acts (InAnswer (import_answer i))} r (λ x. and_then (acts i x.0 s) (λ a. Ok (x.1, a))) ≡ Ok (names, d) → d.does.answer ≢ Err f
with_row i s d names (Ok x) f h e = with_acts i s d x.0 x.1 names (acts i x.0 s) f h refl e
with_row i s d names (Err k) f h e = cc

settled_well : (i : Import) (before after : HostState) (left : Names) (d : Acts (InAnswer (import_answer i))) (r : Result (InAnswer (import_answer i)) Fault) (a : HostAnswer) (out : List Action) → ((f : Fault) → r ≢ Err f) → Settles (import_answer i) before left d r a after out → after.fault ≡ before.fault
settled_well i before after left d (Ok x) a out h s = ap (λ t. t.fault) s.2.state
settled_well i before after left d (Err f) a out h s = absurd (h f refl)

come_well : (i : Import) (before after : HostState) (r : Result (Names × Acts (InAnswer (import_answer i))) TrapKind) (a : HostAnswer) (out : List Action) → ((names : Names) (d : Acts (InAnswer (import_answer i))) (f : Fault) → r ≡ Ok (names, d) → d.does.answer ≢ Err f) → StepBy (import_answer i) before (come r) a after out → after.fault ≡ before.fault
come_well i before after (Ok x) a out h s = settled_well i before after x.0 x.1 x.1.does.answer a out (λ f. h x.0 x.1 f refl) s
come_well i before after (Err k) a out h s = ap (λ t. t.fault) s.state

by_refusal : (i : Import) (b : Bool) (before after : HostState) (r : Result (Names × Acts (InAnswer (import_answer i))) TrapKind) (a : HostAnswer) (out : List Action) → ((names : Names) (d : Acts (InAnswer (import_answer i))) (f : Fault) → r ≡ Ok (names, d) → d.does.answer ≢ Err f) → StepBy (import_answer i) before (cond b Refuses (come r)) a after out → after.fault ≡ before.fault
by_refusal i true before after r a out h s = ap (λ t. t.fault) s.state
by_refusal i false before after r a out h s = come_well i before after r a out h s

pub no_fault : (i : Import) (before : HostState) (words : List Word) (memory : List ℕ) (a : HostAnswer) (after : HostState) (out : List Action)
    → can_fault i ≡ false → StepOf i before words memory a after out → after.fault ≡ before.fault
no_fault i before words memory a after out h s =
    by_refusal i (refuses i before.fault) before after (carried i words memory before) a out
    (λ names d f e. with_row i before d names (decode (spends i) memory before.names (import_arguments i) words) f h e) s

-- what takes no argument and is always in turn does not trap

given_apart : (before after : HostState) (g : Given) (a : HostAnswer) (out : List Action) (kind : TrapKind) → IsGiven g a after out
    → a ≢ told.Trap kind
given_apart before after g a out kind s e = done_apart g.word (sym s.word ∙ e) where
  done_apart : (w : Option Word) → told.Done w ≢ told.Trap kind
  done_apart w q = cc

refused_or : (p : Import) (b : Bool) (before after : HostState) (left : Names) (d : Acts (InAnswer (import_answer p))) (x : InAnswer (import_answer p)) (a : HostAnswer) (out : List Action) (kind : TrapKind) → d.does.answer ≡ Ok x → StepBy (import_answer p) before (cond b Refuses (Goes left d)) a after out → a ≢ told.Trap kind
refused_or p true before after left d x a out kind e s = given_apart before after _ a out kind s
refused_or p false before after left d x a out kind e s = given_apart before after _ a out kind (subst (λ r. Settles (import_answer p) before left d r a after out) e s).2

pub no_trap : (i : Import) (before : HostState) (memory : List ℕ) (a : HostAnswer) (after : HostState) (out : List Action) (kind : TrapKind)
    → can_trap i ≡ false → StepOf i before [] memory a after out → a ≢ told.Trap kind
no_trap (OfPrimitive row.Uninit) before memory a after out kind h s = refused_or (OfPrimitive row.Uninit) (refuses (OfPrimitive row.Uninit) before.fault) before after before.names _ _ a out kind refl s
no_trap (OfPrimitive row.NewArray) before memory a after out kind h s = refused_or (OfPrimitive row.NewArray) (refuses (OfPrimitive row.NewArray) before.fault) before after before.names _ _ a out kind refl s
no_trap (OfPrimitive row.BeginEnd) before memory a after out kind h s = refused_or (OfPrimitive row.BeginEnd) (refuses (OfPrimitive row.BeginEnd) before.fault) before after before.names _ _ a out kind refl s
no_trap (OfPrimitive row.NextFile) before memory a after out kind h s = refused_or (OfPrimitive row.NextFile) (refuses (OfPrimitive row.NextFile) before.fault) before after before.names _ _ a out kind refl s
no_trap _ before memory a after out kind h s = cc
