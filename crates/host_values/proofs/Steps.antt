-- From what a call comes to, to its step.
use Rattle.std.proofs.Common.{◌≡◌, ◌≢◌, ◌<◌, ◌^◌, ℕ, pos, cond, List, [], ◌++◌, Option, Some, None, Result, Ok, Err, refl, sym, ap, subst, ◌∙◌, arith}
use Rattle.std.proofs.lemmas.List.{append-nil}
use Rattle.std.specs.Int.{w64, cast_unsigned}
use Rattle.std.specs.FinMap as map
use Rattle.awk_values.specs.declared.fault.Fault.{Fault}
use Rattle.awk_values.specs.declared.value.Value.{Value as AnyValue}
use Rattle.sem_primitives.specs.ConstantNumbers.{flag_number}
use Rattle.sem_primitives.specs.SharedState.{Inner, Shared}
use Rattle.sem_primitives.specs.Sorts.{InAnswer}
use Rattle.sem_primitives.specs.declared.sorts.Answer.{Answer}
use Rattle.sem_primitives.specs.declared.sorts.Answer.TheVariants as answer
use Rattle.sem_primitives.specs.declared.sorts.Sort.TheVariants as sort
use Rattle.wasm_model.specs.declared.host.HostAnswer.{HostAnswer}
use Rattle.wasm_model.specs.declared.host.HostAnswer.TheVariants as told
use Rattle.wasm_store.specs.declared.trap.TrapKind.{TrapKind}
use Rattle.wasm_store.specs.declared.word.Word.{Word}
use Rattle.wasm_store.specs.declared.word.Word.TheVariants.{I32, I64}
use Rattle.world_core.specs.WorldState.{Action}
use Rattle.host_step.specs.Answers.{FreeFor, encode, refusal, with_value}
use Rattle.host_step.specs.HostState.{HostState, Names}
use Rattle.host_step.specs.HostStep.{Acts, Refuses, Settles, StepBy, StepOf, carried, come, refuses}
use Rattle.host_step.specs.Outcomes.{IsCall}
use Rattle.host_imports.specs.Imports.{import_answer}
use Rattle.host_imports.specs.declared.import.Import.{Import}
use Rattle.host_values.specs.Calls.{CarriesOut, Gives, SettlesTo, names_with, reserved_handle, with_values}
use Rattle.host_values.specs.Evaluations.{Evaluates, Evaluation, NoTrap, Values, left_by}
use Rattle.host_values.specs.Singles.{with_arguments}
use Rattle.host_step.specs.declared.refusal.Refusal.{Refusal}
use Rattle.host_step.specs.declared.refusal.Refusal.TheVariants as why
use Rattle.host_values.proofs.Entries.{entries_insert, look_entries}
use Rattle.host_values.proofs.Matching.{Carried, Fits, IsDone, Matches, SameAnswer, left_in}
use Rattle.host_values.specs.States.{with_inner}
use Rattle.host_values.specs.declared.reply.Evaluated.{Evaluated}
use Rattle.host_values.specs.declared.reply.Reply.{Reply}
use Rattle.host_values.specs.declared.reply.Reply.TheVariants as reply
use Rattle.host_values.proofs.ReservedHandle.{KeepsFree, reserved_left}

-- no further output
kept_shared : (sh : Shared) → ◌≡◌ {A = Shared} (record { inner = sh.inner; outside = sh.outside; output = sh.output ++ [] }) sh
kept_shared sh = ap (λ (o : List Action). record { inner = sh.inner; outside = sh.outside; output = o }) (append-nil sh.output)

-- the state once the tables are these, and this fault is kept
abbrev pub state_by : Names → HostState → Option Fault → HostState
state_by names s f = record { names = names; shared = s.shared; arguments = s.arguments; fault = f }

pub unshared : (names : Names) (s : HostState) (f : Option Fault) → ◌≡◌ {A = HostState}
    (record { names = names; shared = record { inner = s.shared.inner; outside = s.shared.outside; output = s.shared.output ++ [] }; arguments = s.arguments; fault = f }) (state_by names s f)
unshared names s f = ap (λ (sh : Shared). record { names = names; shared = sh; arguments = s.arguments; fault = f }) (kept_shared s.shared)

-- what puts nothing out
abbrev silent : {A : Type 0} → Inner → List AnyValue → Result A Fault → Acts A
silent inner arguments r = record { does = record { added = []; inner = inner; answer = r }; arguments = arguments }

silent_is : {A : Type 0} (d : Acts A) → d.does.added ≡ [] → d ≡ silent d.does.inner d.arguments d.does.answer
silent_is d added i = record { does = record { added = added i; inner = d.does.inner; answer = d.does.answer }; arguments = d.arguments }

-- An answer.

abbrev Left : HostState → Inner → List AnyValue → HostState
Left s inner arguments = with_arguments arguments (with_inner inner s)

abbrev Answers : (a : Answer) → HostState → Inner → List AnyValue → Values → Values → Result (InAnswer a) Fault → Option Word → Values → Type 0
Answers a s inner arguments m m1 r w m' = Settles a (with_values m s) (names_with m1 s) (silent inner arguments r) r (told.Done w) (with_values m' (Left s inner arguments)) []

value_answers : (s : HostState) (inner : Inner) (arguments : List AnyValue) (m m1 m' : Values) (v x : AnyValue) (w : Option Word) → x ≡ v
    → Gives (reply.Value v) m1 (Ok w) m' → Answers (answer.Of sort.Value) s inner arguments m m1 (Ok x) w m'
value_answers s inner arguments m m1 m' v x w same (q, below, free, word, stored) =
    let t = Left s inner arguments in (
      q,
      record { below = below; free = look_entries m1 (pos q) ∙ free },
      record {
        word = ap told.Done word;
        state = ap (λ y. with_values y t) stored ∙ ap (λ y. state_by (record s.names { values = y }) t s.fault) (sym (entries_insert m1 (pos q) v))
            ∙ ap (λ y. state_by (with_value q y (names_with m1 s)) t s.fault) (sym same) ∙ sym (unshared (with_value q x (names_with m1 s)) t s.fault);
        added = refl;
      },
    )

plain_answers : (a : Answer) (s : HostState) (inner : Inner) (arguments : List AnyValue) (m m1 m' : Values) (x : InAnswer a) (w w' : Option Word)
    → (encode 0 (names_with m1 s) a x).0 ≡ w' → (encode 0 (names_with m1 s) a x).1 ≡ names_with m1 s → FreeFor (names_with m1 s) a x 0
    → w ≡ w' → m' ≡ m1 → Answers a s inner arguments m m1 (Ok x) w m'
plain_answers a s inner arguments m m1 m' x w w' word names free same left =
    let t = Left s inner arguments in (
      0,
      free,
      record {
        word = ap told.Done (same ∙ sym word);
        state = ap (λ y. with_values y t) left ∙ ap (λ n. state_by n t s.fault) (sym names) ∙ sym (unshared (encode 0 (names_with m1 s) a x).1 t s.fault);
        added = refl;
      },
    )

answers_well : (a : Answer) (s : HostState) (inner : Inner) (arguments : List AnyValue) (m m1 m' : Values) (x : InAnswer a) (r : Reply) (w : Option Word)
    → SameAnswer a x r → Gives r m1 (Ok w) m' → Answers a s inner arguments m m1 (Ok x) w m'
answers_well (answer.Of sort.Value) s inner arguments m m1 m' x (reply.Value v) w same g = value_answers s inner arguments m m1 m' v x w same g
answers_well (answer.Of sort.Number) s inner arguments m m1 m' x (reply.Number n) w same g = plain_answers (answer.Of sort.Number) s inner arguments m m1 m' x w _ refl refl tt (g.0 ∙ ap (λ z. Some (I64 (cast_unsigned w64 z))) (sym same)) g.1
answers_well answer.Truth s inner arguments m m1 m' x (reply.Truth b) w same g = plain_answers answer.Truth s inner arguments m m1 m' x w _ refl refl tt (g.0 ∙ ap (λ c. Some (I32 (flag_number c))) (sym same)) g.1
answers_well answer.Done s inner arguments m m1 m' x reply.Done w same g = plain_answers answer.Done s inner arguments m m1 m' x w _ refl refl tt g.0 g.1
answers_well _ s inner arguments m m1 m' x r w same g = absurd same

settles_well : (a : Answer) (s : HostState) (inner : Inner) (arguments : List AnyValue) (m m1 m' : Values) (x : Result (InAnswer a) Fault) (r : Reply) (w : Option Word)
    → Fits a x (Ok r) → Gives r m1 (Ok w) m' → Answers a s inner arguments m m1 x w m'
settles_well a s inner arguments m m1 m' (Ok x) r w fits g = answers_well a s inner arguments m m1 m' x r w fits g
settles_well a s inner arguments m m1 m' (Err f) r w fits g = absurd fits

-- what was carried out settles so, if it does in its plain form
settled_by : (a : Answer) (s t : HostState) (m m1 : Values) (names : Names) (d : Acts (InAnswer a)) (answer : HostAnswer) (after : HostState → HostState)
    → names ≡ names_with m1 s → d.does.added ≡ [] → t ≡ left_in a s d
    → Settles a (with_values m s) (names_with m1 s) (silent d.does.inner d.arguments d.does.answer) d.does.answer answer (after (left_in a s d)) []
    → Settles a (with_values m s) names d d.does.answer answer (after t) []
settled_by a s t m m1 names d answer after same added state h =
    subst (λ (n : Names). Settles a (with_values m s) n d d.does.answer answer (after t) []) (sym same)
    (subst (λ (e : Acts (InAnswer a)). Settles a (with_values m s) (names_with m1 s) e d.does.answer answer (after t) []) (sym (silent_is d added))
    (subst (λ (u : HostState). Settles a (with_values m s) (names_with m1 s) (silent d.does.inner d.arguments d.does.answer) d.does.answer answer (after u) []) (sym state) h))

come_answers : (a : Answer) (s t : HostState) (m m1 m' : Values) (c : Carried a) (r : Reply) (w : Option Word) → Matches a s (IsDone a s) c (Ok (m1, (t, Ok r)))
    → Gives r m1 (Ok w) m' → StepBy a (with_values m s) (come c) (told.Done w) (with_values m' t) []
come_answers a s t m m1 m' (Ok x) r w (same, done) g =
    settled_by a s t m m1 x.0 x.1 (told.Done w) (with_values m') same done.added done.state (settles_well a s x.1.does.inner x.1.arguments m m1 m' x.1.does.answer r w done.fits g)
come_answers a s t m m1 m' (Err k) r w e g = absurd e

-- A fault.

faults_well : (a : Answer) (s : HostState) (inner : Inner) (arguments : List AnyValue) (m m1 m' : Values) (x : Result (InAnswer a) Fault) (f : Fault)
    → Fits a x (Err f) → m' ≡ m1
    → Settles a (with_values m s) (names_with m1 s) (silent inner arguments x) x (told.Done (refusal a)) (record (with_values m' (Left s inner arguments)) { fault = Some f }) []
faults_well a s inner arguments m m1 m' (Ok x) f fits same = absurd fits
faults_well a s inner arguments m m1 m' (Err g) f fits same =
    let t = Left s inner arguments in
    record {
      word = refl;
      state = ap (λ y. state_by (names_with y s) t (Some f)) same ∙ ap (λ h. state_by (names_with m1 s) t (Some h)) (sym fits) ∙ sym (unshared (names_with m1 s) t (Some g));
      added = refl;
    }

come_faults : (a : Answer) (s t : HostState) (m m1 m' : Values) (c : Carried a) (f : Fault) → Matches a s (IsDone a s) c (Ok (m1, (t, Err f))) → m' ≡ m1
    → StepBy a (with_values m s) (come c) (told.Done (refusal a)) (record (with_values m' t) { fault = Some f }) []
come_faults a s t m m1 m' (Ok x) f (same, done) left =
    settled_by a s t m m1 x.0 x.1 (told.Done (refusal a)) (λ u. record (with_values m' u) { fault = Some f }) same done.added done.state (faults_well a s x.1.does.inner x.1.arguments m m1 m' x.1.does.answer f done.fits left)
come_faults a s t m m1 m' (Err k) f e left = absurd e

-- a trap
come_traps : (a : Answer) (s t : HostState) (m : Values) (c : Carried a) (k : TrapKind) → Matches a s (IsDone a s) c (Err k) → t ≡ s
    → StepBy a (with_values m s) (come c) (told.Trap k) (with_values m t) []
come_traps a s t m (Ok x) k e same = absurd e
come_traps a s t m (Err j) k e same = record { trap = ap told.Trap (sym e); state = ap (with_values m) same; added = refl }

-- Calls.

unrefused : (i : Import) (s : HostState) (m : Values) (words : List Word) (memory : List ℕ) (a : HostAnswer) (after : HostState) → s.fault ≡ None
    → StepBy (import_answer i) (with_values m s) (come (carried i words memory (with_values m s))) a after [] → StepOf i (with_values m s) words memory a after []
unrefused i s m words memory a after none h =
    subst (λ (f : Option Fault). StepBy (import_answer i) (with_values m s) (cond (refuses i f) Refuses (come (carried i words memory (with_values m s)))) a after []) (sym none) h

-- with a number that is always free there is an answer
some_answer : (r : Reply) (m : Values) → map.get m reserved_handle ≡ None → (w : Option Word) × (m' : Values) × Gives r m (Ok w) m'
some_answer (reply.Value v) m free = (Some (I32 2147483647), map.insert m reserved_handle v, (2147483647, below, free, refl, refl)) where
  below : 2147483647 < 2 ^ 31
  below = omega arith
some_answer (reply.Number n) m free = (_, m, (refl, refl))
some_answer (reply.Truth b) m free = (_, m, (refl, refl))
some_answer reply.Done m free = (_, m, (refl, refl))

done_is_some : (w : Option Word) → told.Done w ≢ told.NoMemory
done_is_some w e = cc

-- what an import comes to with these words
module _ (i : Import) (s : HostState) (m : Values) (words : List Word) (memory : List ℕ) (none : s.fault ≡ None) where
  abbrev Is : Evaluation → Type 0
  Is e = Matches (import_answer i) s (IsDone (import_answer i) s) (carried i words memory (with_values m s)) e

  answer_step : (t : HostState) (m1 m' : Values) (r : Reply) (w : Option Word) → Is (Ok (m1, (t, Ok r))) → Gives r m1 (Ok w) m'
      → IsCall i (with_values m s) words memory (Ok w) (with_values m' t)
  answer_step t m1 m' r w is g = unrefused i s m words memory (told.Done w) (with_values m' t) none (come_answers (import_answer i) s t m m1 m' _ r w is g)

  pub fault_step : (t : HostState) (m1 m' : Values) (f : Fault) → Is (Ok (m1, (t, Err f))) → m' ≡ m1 → IsCall i (with_values m s) words memory (Err (why.Fault f)) (with_values m' t)
  fault_step t m1 m' f is left = unrefused i s m words memory (told.Done (refusal (import_answer i)))
      (record (with_values m' t) { fault = Some f }) none (come_faults (import_answer i) s t m m1 m' _ f is left)

  trap_step : (t : HostState) (k : TrapKind) → Is (Err k) → t ≡ s → IsCall i (with_values m s) words memory (Err (why.Trap k)) (with_values m t)
  trap_step t k is same = unrefused i s m words memory (told.Trap k) (with_values m t) none (come_traps (import_answer i) s t m _ k is same)

  memory_answer : (t : HostState) (m1 : Values) (o : Result Reply Fault) → map.get m1 reserved_handle ≡ None → Is (Ok (m1, (t, o))) → (m' : Values) (after : HostState)
      → IsCall i (with_values m s) words memory (Err why.NoMemory) (with_values m' after)
  memory_answer t m1 (Ok r) free is m' after =
      let given = some_answer r m1 free in
      (told.Done given.0, done_is_some given.0, with_values given.1 t, answer_step t m1 given.1 r given.0 is given.2)
  memory_answer t m1 (Err f) free is m' after =
      (told.Done (refusal (import_answer i)), done_is_some _, record (with_values m1 t) { fault = Some f }, fault_step t m1 m1 f is refl)

  -- what was given
  pub given_step : (t : HostState) (m1 m' : Values) (r : Reply) (result : Result (Option Word) Refusal) → map.get m1 reserved_handle ≡ None → Is (Ok (m1, (t, Ok r)))
      → Gives r m1 result m' → IsCall i (with_values m s) words memory result (with_values m' t)
  given_step t m1 m' r (Ok w) free is g = answer_step t m1 m' r w is g
  given_step t m1 m' r (Err why.NoMemory) free is g = memory_answer t m1 (Ok r) free is m' t
  given_step t m1 m' (reply.Value v) (Err (why.Trap k)) free is g = absurd g
  given_step t m1 m' (reply.Number n) (Err (why.Trap k)) free is g = absurd g
  given_step t m1 m' (reply.Truth b) (Err (why.Trap k)) free is g = absurd g
  given_step t m1 m' reply.Done (Err (why.Trap k)) free is g = absurd g
  given_step t m1 m' (reply.Value v) (Err (why.Fault f)) free is g = absurd g
  given_step t m1 m' (reply.Number n) (Err (why.Fault f)) free is g = absurd g
  given_step t m1 m' (reply.Truth b) (Err (why.Fault f)) free is g = absurd g
  given_step t m1 m' reply.Done (Err (why.Fault f)) free is g = absurd g

  memory_step : (e : Evaluation) (t : HostState) → KeepsFree e → NoTrap e → Is e → IsCall i (with_values m s) words memory (Err why.NoMemory) (with_values m t)
  memory_step (Ok y) t free well is = memory_answer y.1.0 y.0 y.1.1 free is m t
  memory_step (Err k) t free well is = absurd well

  -- an evaluation that was refused
  pub refused_step : (e : Evaluation) (t : HostState) (r : Refusal) → KeepsFree e → Is e → Evaluates m s (Err r) t e → IsCall i (with_values m s) words memory (Err r) (with_values m t)
  refused_step e t (why.Trap k) free is (wanted, same) = trap_step t k (subst (λ (x : Evaluation). Is x) wanted is) same
  refused_step e t (why.Fault f) free is wanted = absurd wanted
  refused_step e t why.NoMemory free is wanted = memory_step e t free wanted is

  -- what was settled
  settled_step : (t : HostState) (m1 m' : Values) (o : Result Reply Fault) (result : Result (Option Word) Refusal) → map.get m1 reserved_handle ≡ None
      → Is (Ok (m1, (t, o))) → SettlesTo o m1 result m' → IsCall i (with_values m s) words memory result (with_values m' t)
  settled_step t m1 m' (Ok r) result free is g = given_step t m1 m' r result free is g
  settled_step t m1 m' (Err f) result free is (told, same) =
      subst (λ x. IsCall i (with_values m s) words memory x (with_values m' t)) (sym told) (fault_step t m1 m' f is same)

  carried_step : (e : Evaluation) (t : HostState) (evaluated : Result Evaluated Refusal) (result : Result (Option Word) Refusal) (m' : Values)
      → map.get m reserved_handle ≡ None → KeepsFree e → Is e → Evaluates m s evaluated t e → CarriesOut evaluated m result m'
      → IsCall i (with_values m s) words memory result (with_values m' t)
  carried_step e t (Ok x) result m' free keeps is wanted g =
      settled_step t (left_by x.spent m) m' x.outcome result (reserved_left x.spent m free) (subst (λ (y : Evaluation). Is y) wanted is) g
  carried_step e t (Err r) result m' free keeps is wanted (told, same) =
      subst (λ x. IsCall i (with_values m s) words memory x (with_values m' t)) (sym told)
      (subst (λ (y : Values). IsCall i (with_values m s) words memory (Err r) (with_values y t)) (sym same) (refused_step e t r keeps is wanted))

-- an import comes to this with these words, and leaves the greatest number free
pub record ComesTo (i : Import) (m : Values) (s : HostState) (words : List Word) (memory : List ℕ) (e : Evaluation) : Type 0 where
  pub matches : Matches (import_answer i) s (IsDone (import_answer i) s) (carried i words memory (with_values m s)) e
  pub keeps : map.get m reserved_handle ≡ None → KeepsFree e

-- A CALL that came to what its evaluation says, once it is carried out
pub carried_call : (i : Import) (m m' : Values) (s t : HostState) (words : List Word) (memory : List ℕ) (e : Evaluation) (evaluated : Result Evaluated Refusal)
    (result : Result (Option Word) Refusal) → s.fault ≡ None → map.get m reserved_handle ≡ None → ComesTo i m s words memory e → Evaluates m s evaluated t e
    → CarriesOut evaluated m result m' → IsCall i (with_values m s) words memory result (with_values m' t)
carried_call i m m' s t words memory e evaluated result none free comes wanted g =
    carried_step i s m words memory none e t evaluated result m' free (comes.keeps free) comes.matches wanted g
