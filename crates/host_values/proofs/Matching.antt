-- An evaluation over a map of values, beside what the host's definition makes of the same words: argument by argument.
use Rattle.std.proofs.Common.{◌≡◌, ℕ, ℤ, ◌^◌, nat_le, unsigned_abs, Bool, true, false, if◌then◌else◌, List, [], ◌∷◌, Option, Some, None, Result, Ok, Err, refl, sym, subst}
use Rattle.std.specs.Int.{w32, cast_signed}
use Rattle.std.specs.FinMap as map
use Rattle.awk_values.specs.Operators.{Outcome as NumberOutcome}
use Rattle.awk_values.specs.declared.fault.Fault.{Fault}
use Rattle.awk_values.specs.declared.fault.Fault.TheVariants.{Range}
use Rattle.awk_values.specs.declared.value.Value.{Value as AnyValue}
use Rattle.sem_primitives.specs.Numbers.{Number, number_by, or_range, outcome_of}
use Rattle.sem_primitives.specs.Sorts.{InAnswer, Row}
use Rattle.sem_primitives.specs.Table.{answer_of}
use Rattle.sem_primitives.specs.declared.table.Primitive.{Primitive}
use Rattle.sem_primitives.specs.declared.sorts.Answer.{Answer}
use Rattle.sem_primitives.specs.declared.sorts.Answer.TheVariants as answer
use Rattle.sem_primitives.specs.declared.sorts.Argument.{Argument}
use Rattle.sem_primitives.specs.declared.sorts.Argument.TheVariants as argument
use Rattle.sem_primitives.specs.declared.sorts.Sort.{Sort}
use Rattle.sem_primitives.specs.declared.sorts.Sort.TheVariants as sort
use Rattle.wasm_store.specs.declared.trap.TrapKind.{TrapKind}
use Rattle.wasm_store.specs.declared.trap.TrapKind.TheVariants.{BadHandle}
use Rattle.wasm_store.specs.declared.word.Word.{Word}
use Rattle.wasm_store.specs.declared.word.Word.TheVariants.{I32, I64}
use Rattle.host_step.specs.Arguments.{and_then, decode, no_more, said, spent_if}
use Rattle.host_step.specs.HostState.{HostState, Names}
use Rattle.host_step.specs.HostStep.{Acts}
use Rattle.host_imports.specs.Imports.{spends}
use Rattle.host_imports.specs.declared.import.Import.TheVariants.{OfPrimitive}
use Rattle.host_step.specs.Tables.{Table, look}
use Rattle.host_values.specs.Calls.{names_with}
use Rattle.host_values.specs.Evaluations.{Evaluation, Outcome, Values, ends_then, front_then, handle_then, value_then}
use Rattle.host_values.specs.ValueEvaluations.{number_reply, outcome_reply, truth_reply, value_reply}
use Rattle.host_values.specs.Fronts.{found, handle_front, plain_number}
use Rattle.host_values.specs.Singles.{with_arguments}
use Rattle.host_values.specs.States.{with_inner}
use Rattle.host_values.specs.declared.reply.Reply.{Reply}
use Rattle.host_values.specs.declared.reply.Reply.TheVariants as reply
use Rattle.host_values.proofs.Entries.{entries_remove, look_entries}

-- an answer on plain values, and as the code has it
abbrev pub SameAnswer : (a : Answer) → InAnswer a → Reply → Type 0
SameAnswer (answer.Of sort.Value) v (reply.Value w) = v ≡ w
SameAnswer (answer.Of sort.Number) n (reply.Number z) = n.number ≡ z
SameAnswer answer.Truth b (reply.Truth c) = b ≡ c
SameAnswer answer.Done u reply.Done = Unit {0}
SameAnswer _ x r = ⊥

abbrev pub Fits : (a : Answer) → Result (InAnswer a) Fault → Result Reply Fault → Type 0
Fits a (Ok x) (Ok r) = SameAnswer a x r
Fits a (Err f) (Err g) = f ≡ g
Fits a _ _ = ⊥

-- a state in which an import left this
abbrev pub left_in : (a : Answer) → HostState → Acts (InAnswer a) → HostState
left_in a s d = with_arguments d.arguments (with_inner d.does.inner s)

-- it puts nothing out, and leaves this state with this answer
pub record IsDone (a : Answer) (s : HostState) (d : Acts (InAnswer a)) (o : Outcome) : Type 0 where
  pub added : d.does.added ≡ []
  pub state : o.0 ≡ left_in a s d
  pub fits : Fits a d.does.answer o.1

abbrev pub Carried : Answer → Type 0
Carried a = Result (Names × Acts (InAnswer a)) TrapKind

-- with what an import does, and what it comes to, in this relation
abbrev pub Matches : (a : Answer) → HostState → (Acts (InAnswer a) → Outcome → Type 0) → Carried a → Evaluation → Type 0
Matches a s Good (Ok x) (Ok y) = (x.0 ≡ names_with y.0 s) × Good x.1 y.1
Matches a s Good (Err k) (Err k') = k ≡ k'
Matches a s Good _ _ = ⊥

behind : {A R C E : Type 0} (r : Result R E) (g : R → A) (f : A → Result C E) → and_then (and_then r (λ x. Ok (g x))) f ≡ and_then r (λ x. f (g x))
behind (Ok x) g f = refl
behind (Err k) g f = refl

module _ (a : Answer) (s : HostState) (Good : Acts (InAnswer a) → Outcome → Type 0) where
  -- an argument that is no handle
  pub other : {A R : Type 0} (r : Result (A × List Word) TrapKind) (d : List Word → Result (R × Names) TrapKind) (f : (A × R) × Names → Carried a) (g : A → List Word → Evaluation)
      → ((x : A) (rest : List Word) → Matches a s Good (and_then (d rest) (λ y. f ((x, y.0), y.1))) (g x rest))
      → Matches a s Good (and_then (and_then r (λ x. and_then (d x.1) (λ rest. Ok ((x.0, rest.0), rest.1)))) f) (front_then r g)
  other (Ok x) d f g h = subst (λ (c : Carried a). Matches a s Good c (g x.0 x.1)) (sym (behind (d x.1) (λ rest. ((x.0, rest.0), rest.1)) f)) (h x.0 x.1)
  other (Err k) d f g h = refl

  pub number : {R : Type 0} (r : Result (Number × List Word) TrapKind) (d : List Word → Result (R × Names) TrapKind) (f : (Number × R) × Names → Carried a) (g : ℤ → List Word → Evaluation)
      → ((x : Number) (rest : List Word) → Matches a s Good (and_then (d rest) (λ y. f ((x, y.0), y.1))) (g x.number rest))
      → Matches a s Good (and_then (and_then r (λ x. and_then (d x.1) (λ rest. Ok ((x.0, rest.0), rest.1)))) f) (front_then (plain_number r) g)
  number (Ok x) d f g h = subst (λ (c : Carried a). Matches a s Good c (g x.0.number x.1)) (sym (behind (d x.1) (λ rest. ((x.0, rest.0), rest.1)) f)) (h x.0 x.1)
  number (Err k) d f g h = refl

  -- no other argument
  pub stop_at : (words : List Word) (names : Names) (f : Unit {0} × Names → Carried a) (e : Evaluation) → Matches a s Good (f (tt, names)) e
      → Matches a s Good (and_then (and_then (no_more words) (λ end. Ok (end, names))) f) (ends_then (no_more words) e)
  stop_at [] names f e h = h
  stop_at (w ∷ rest) names f e h = refl

  pub stop : (words : List Word) (names : Names) (f : Unit {0} × Names → Carried a) (m : Values) (o : Outcome) → Matches a s Good (f (tt, names)) (Ok (m, o))
      → Matches a s Good (and_then (and_then (no_more words) (λ end. Ok (end, names))) f) (ends_then (no_more words) (Ok (m, o)))
  stop words names f m o h = stop_at words names f (Ok (m, o)) h

-- a value that is spent

module _ (a : Answer) (s : HostState) (Good : Acts (InAnswer a) → Outcome → Type 0) (wanted : List Argument) (spent : Sort → Bool) (memory : List ℕ) where
  abbrev Behind : Names → ((AnyValue × Row wanted) × Names → Carried a) → AnyValue → List Word → Evaluation → Type 0
  Behind names f v rest e = Matches a s Good (and_then (decode spent memory names wanted rest) (λ y. f ((v, y.0), y.1))) e

  at : (h : ℤ) (names : Names) (rest : List Word) (o : Option AnyValue) (f : (AnyValue × Row wanted) × Names → Carried a) (g : ℤ → AnyValue → List Word → Evaluation)
      → ((v : AnyValue) → Behind names f v rest (g h v rest))
      → Matches a s Good (and_then (and_then (said BadHandle o rest) (λ x. and_then (decode spent memory names wanted x.1) (λ y. Ok ((x.0, y.0), y.1)))) f) (handle_then (found h o rest) g)
  at h names rest None f g e = refl
  at h names rest (Some v) f g e = subst (λ (c : Carried a). Matches a s Good c (g h v rest)) (sym (behind (decode spent memory names wanted rest) (λ y. ((v, y.0), y.1)) f)) (e v)

  -- one that is only looked at
  pub looked : spent sort.Value ≡ false → (m : Values) (words : List Word) (f : (AnyValue × Row wanted) × Names → Carried a) (g : ℤ → AnyValue → List Word → Evaluation)
      → ((h : ℤ) (v : AnyValue) (rest : List Word) → Behind (names_with m s) f v rest (g h v rest))
      → Matches a s Good (and_then (decode spent memory (names_with m s) (argument.Of sort.Value ∷ wanted) words) f) (handle_then (handle_front m words) g)
  looked lends m [] f g e = refl
  looked lends m (I64 n ∷ rest) f g e = refl
  looked lends m (I32 n ∷ rest) f g e =
      let h = cast_signed w32 n in
      subst (λ (b : Bool). Matches a s Good (and_then (and_then (said BadHandle (look (map.entries m) h) rest) (λ x. and_then (decode spent memory (spent_if b sort.Value (I32 n ∷ rest) (names_with m s)) wanted x.1) (λ y. Ok ((x.0, y.0), y.1)))) f) (handle_then (found h (map.get m h) rest) g)) (sym lends)
      (subst (λ (o : Option AnyValue). Matches a s Good (and_then (and_then (said BadHandle o rest) (λ x. and_then (decode spent memory (names_with m s) wanted x.1) (λ y. Ok ((x.0, y.0), y.1)))) f) (handle_then (found h (map.get m h) rest) g)) (sym (look_entries m h))
      (at h (names_with m s) rest (map.get m h) f g (λ v. e h v rest)))

  -- one that is spent
  pub taken : spent sort.Value ≡ true → (m : Values) (words : List Word) (f : (AnyValue × Row wanted) × Names → Carried a) (g : AnyValue → Values → List Word → Evaluation)
      → ((v : AnyValue) (m' : Values) (rest : List Word) → Behind (names_with m' s) f v rest (g v m' rest))
      → Matches a s Good (and_then (decode spent memory (names_with m s) (argument.Of sort.Value ∷ wanted) words) f) (value_then m words g)
  taken takes m [] f g e = refl
  taken takes m (I64 n ∷ rest) f g e = refl
  taken takes m (I32 n ∷ rest) f g e =
      let h = cast_signed w32 n in
      let go : ℤ → AnyValue → List Word → Evaluation = λ k v others. g v (map.remove m k) others in
      subst (λ (b : Bool). Matches a s Good (and_then (and_then (said BadHandle (look (map.entries m) h) rest) (λ x. and_then (decode spent memory (spent_if b sort.Value (I32 n ∷ rest) (names_with m s)) wanted x.1) (λ y. Ok ((x.0, y.0), y.1)))) f) (handle_then (found h (map.get m h) rest) go)) (sym takes)
      (subst (λ (t : Table AnyValue). Matches a s Good (and_then (and_then (said BadHandle (look (map.entries m) h) rest) (λ x. and_then (decode spent memory (record s.names { values = t }) wanted x.1) (λ y. Ok ((x.0, y.0), y.1)))) f) (handle_then (found h (map.get m h) rest) go)) (sym (entries_remove m h))
      (subst (λ (o : Option AnyValue). Matches a s Good (and_then (and_then (said BadHandle o rest) (λ x. and_then (decode spent memory (names_with (map.remove m h) s) wanted x.1) (λ y. Ok ((x.0, y.0), y.1)))) f) (handle_then (found h (map.get m h) rest) go)) (sym (look_entries m h))
      (at h (names_with (map.remove m h) s) rest (map.get m h) f go (λ v. e v (map.remove m h) rest))))

-- Answers.

pub fits_value : (r : Result AnyValue Fault) → Fits (answer.Of sort.Value) r (value_reply r)
fits_value (Ok v) = refl
fits_value (Err f) = refl

pub fits_truth : (r : Result Bool Fault) → Fits answer.Truth r (truth_reply r)
fits_truth (Ok b) = refl
fits_truth (Err f) = refl

fits_by : (z : ℤ) (b : Bool) (e : nat_le (unsigned_abs z) (2 ^ 53) ≡ b)
    → Fits (answer.Of sort.Number) (or_range (number_by z b e)) (outcome_reply (if b then Ok z else Err Range))
fits_by z true e = refl
fits_by z false e = refl

pub fits_number : (o : NumberOutcome) → Fits (answer.Of sort.Number) (outcome_of o) (number_reply o)
fits_number (Ok z) = fits_by z (nat_le (unsigned_abs z) (2 ^ 53)) refl
fits_number (Err f) = refl

-- Rows of the table.

-- one with these arguments left, over the values that are left
abbrev pub rest_of : (p : Primitive) → List ℕ → HostState → Values → (wanted : List Argument) → List Word → Result (Row wanted × Names) TrapKind
rest_of p memory s m wanted rest = decode (spends (OfPrimitive p)) memory (names_with m s) wanted rest

abbrev pub Good : (p : Primitive) (s : HostState) → Acts (InAnswer (answer_of p)) → Outcome → Type 0
Good p s = IsDone (answer_of p) s
