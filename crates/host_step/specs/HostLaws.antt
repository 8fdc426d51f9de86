-- What machines ask of a host: that an import which is found has its type, and that an answer is of its import's type.
use Rattle.std.specs.Prelude.{ℕ, ◌≡◌, List, Option, Some, None, Bool, true, false, cond, Result, Ok, Err}
use Rattle.std.proofs.Common.{refl, sym, subst, ap, ◌∙◌}
use Rattle.wasm_types.specs.Syntax.{Signature}
use Rattle.awk_values.specs.declared.fault.Fault.{Fault}
use Rattle.sem_primitives.specs.Sorts.{In, InAnswer}
use Rattle.sem_primitives.specs.declared.sorts.Sort.{Sort}
use Rattle.sem_primitives.specs.declared.sorts.Sort.TheVariants.{Value, Number, Array, Iterator}
use Rattle.sem_primitives.specs.declared.sorts.Answer.{Answer}
use Rattle.sem_primitives.specs.declared.sorts.Answer.TheVariants as answer
use Rattle.wasm_model.specs.Hosts.{Typed, type_if}
use Rattle.wasm_model.specs.declared.host.HostAnswer.{HostAnswer}
use Rattle.wasm_model.specs.declared.host.HostAnswer.TheVariants as told
use Rattle.wasm_store.specs.declared.word.Word.{Word}
use Rattle.world_core.specs.WorldState.{Action}
use Rattle.host_imports.specs.Imports.{host_finds, host_types, import_answer, import_at, import_type, imports_in, number_below, number_named, numbered, result_of, type_if_there, with_type}
use Rattle.host_step.specs.HostState.{HostState, Names}
use Rattle.host_step.specs.Answers.{encode, refusal}
use Rattle.host_step.specs.HostStep.{Acts, Comes, Goes, Given, HostStep, IsGiven, Refuses, Settles, StepBy, StepIf, Traps, comes}
use Rattle.host_imports.specs.declared.import.Import.{Import}

found_numbered : (n : ℕ) (t : Option Signature) (r : ℕ × Signature) → host_types n ≡ t → numbered n t ≡ Some r → host_types r.0 ≡ Some r.1
found_numbered n None r e h = cc
found_numbered n (Some t) r e h = subst (λ (x : ℕ × Signature). host_types x.0 ≡ Some x.1) (some_same (n, t) r h) e where
  some_same : (x y : ℕ × Signature) → Some x ≡ Some y → x ≡ y
  some_same x y q = cc

found_typed : (o : Option ℕ) (r : ℕ × Signature) → with_type o ≡ Some r → host_types r.0 ≡ Some r.1
found_typed None r h = cc
found_typed (Some n) r h = found_numbered n (host_types n) r refl h

-- an import that is found has this type
pub host_found : (from name : List ℕ) (r : ℕ × Signature) → host_finds from name ≡ Some r → host_types r.0 ≡ Some r.1
host_found from name r h = found_typed (number_below (imports_in from) (number_named name)) r h

option_typed : (q : ℕ) (names : Names) (x : InAnswer answer.ValueOrEnd) → type_if (encode q names answer.ValueOrEnd x).0 ≡ result_of answer.ValueOrEnd
option_typed q names None = refl
option_typed q names (Some v) = refl

sort_typed : (q : ℕ) (names : Names) (s : Sort) (x : In s) → type_if (encode q names (answer.Of s) x).0 ≡ result_of (answer.Of s)
sort_typed q names Value x = refl
sort_typed q names Number x = refl
sort_typed q names Array x = refl
sort_typed q names Iterator x = refl

pub answer_typed : (q : ℕ) (names : Names) (a : Answer) (x : InAnswer a) → type_if (encode q names a x).0 ≡ result_of a
answer_typed q names answer.Nothing x = refl
answer_typed q names (answer.Of s) x = sort_typed q names s x
answer_typed q names answer.Truth x = refl
answer_typed q names answer.Done x = refl
answer_typed q names answer.Input x = refl
answer_typed q names answer.Assign x = refl
answer_typed q names answer.Stream x = refl
answer_typed q names answer.ValueOrEnd x = option_typed q names x
answer_typed q names answer.Name x = refl

pub refusal_typed : (a : Answer) → type_if (refusal a) ≡ result_of a
refusal_typed answer.Nothing = refl
refusal_typed (answer.Of Value) = refl
refusal_typed (answer.Of Number) = refl
refusal_typed (answer.Of Array) = refl
refusal_typed (answer.Of Iterator) = refl
refusal_typed answer.Truth = refl
refusal_typed answer.Done = refl
refusal_typed answer.Input = refl
refusal_typed answer.Assign = refl
refusal_typed answer.Stream = refl
refusal_typed answer.ValueOrEnd = refl
refusal_typed answer.Name = refl

given_typed : (i : Import) (g : Given) (a : HostAnswer) (after : HostState) (out : List Action) → type_if g.word
    ≡ result_of (import_answer i) → IsGiven g a after out → Typed (Some (import_type i)) a
given_typed i g a after out t is = subst (Typed (Some (import_type i))) (sym is.word) t

settles_typed : (i : Import) (before : HostState) (left : Names) (d : Acts (InAnswer (import_answer i)))
    (r : Result (InAnswer (import_answer i)) Fault) (a : HostAnswer) (after : HostState) (out : List Action)
    → Settles (import_answer i) before left d r a after out → Typed (Some (import_type i)) a
settles_typed i before left d (Ok x) a after out s = given_typed i _ a after out (answer_typed s.0 left (import_answer i) x) s.2
settles_typed i before left d (Err f) a after out s = given_typed i _ a after out (refusal_typed (import_answer i)) s

step_typed_by : (i : Import) (before : HostState) (c : Comes (InAnswer (import_answer i))) (a : HostAnswer) (after : HostState) (out : List Action)
    → StepBy (import_answer i) before c a after out → Typed (Some (import_type i)) a
step_typed_by i before (Traps k) a after out s = subst (Typed (Some (import_type i))) (sym s.trap) tt
step_typed_by i before Refuses a after out s = given_typed i _ a after out (refusal_typed (import_answer i)) s
step_typed_by i before (Goes left d) a after out s = settles_typed i before left d d.does.answer a after out s

-- an answer is of its import's type
pub step_typed : (o : Option Import) (before : HostState) (words : List Word) (memory : List ℕ) (a : HostAnswer) (after : HostState)
    (out : List Action) → StepIf o before words memory a after out → Typed (type_if_there o) a
step_typed None before words memory a after out s = tt
step_typed (Some i) before words memory a after out s = step_typed_by i before (comes i words memory before) a after out s
