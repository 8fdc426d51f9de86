-- Two values that a call spends, and the map in which the first handle is kept for what is made of both.
use Rattle.std.proofs.Common.{◌≡◌, ◌≢◌, ℕ, ℤ, pos, negsuc, ◌≤ℤ◌, ◌<ℤ◌, Bool, true, false, cond, List, Option, Some, None, is_some, Result, Ok, Err, refl, sym, ap, ◌∙◌, arith, true≢false}
use Rattle.std.specs.Int.{w32, cast_unsigned}
use Rattle.std.proofs.lemmas.Int.{ints}
use Rattle.std.specs.Ordering.{int_cmp, int_eq}
use Rattle.std.specs.Cmp.{int_cmp_total, signed_Decides}
use Rattle.std.specs.FinMap as map
use Rattle.std.specs.FinMap.{FinMap, int_cmp-IsAntisymmetric}
use Rattle.awk_values.specs.declared.fault.Fault.{Fault}
use Rattle.awk_values.specs.declared.value.Value.{Value as AnyValue}
use Rattle.wasm_store.specs.declared.trap.TrapKind.{TrapKind}
use Rattle.wasm_store.specs.declared.word.Word.{Word}
use Rattle.wasm_store.specs.declared.word.Word.TheVariants.{I32}
use Rattle.host_step.specs.Arguments.{and_then, no_more}
use Rattle.host_step.specs.HostState.{HostState}
use Rattle.host_values.specs.Calls.{Gives, reserved_handle}
use Rattle.host_values.specs.Evaluations.{Evaluation, Values, handle_then, left_by, value_then}
use Rattle.host_values.specs.Fronts.{handle_front}
use Rattle.host_values.specs.Reads.{two_handles}
use Rattle.host_values.specs.Singles.{only_by, only_end, only_handle}
use Rattle.host_values.specs.ValueEvaluations.{replies}
use Rattle.host_values.specs.declared.reply.Reply.{Reply}
use Rattle.host_values.specs.declared.reply.Reply.TheVariants as reply
use Rattle.host_values.specs.declared.spent.Spent.TheVariants.{Two}
use Rattle.host_values.proofs.Tables.{get_others, get_removed}

-- What an evaluation of two values comes to.

module _ (f : AnyValue → AnyValue → Result Reply Fault) (m : Values) (s : HostState) where
  abbrev pub of_two : Result (ℤ × AnyValue × ℤ × AnyValue) TrapKind → Evaluation
  of_two (Ok x) = Ok (left_by (Two x.0 x.2) m, (s, f x.1 x.3))
  of_two (Err k) = Err k

  ended : (h k : ℤ) (v w : AnyValue) (r : Result (Unit {0}) TrapKind) → replies r (map.remove (map.remove m h) k) s (f v w)
      ≡ of_two (and_then (only_end k w r) (λ y. Ok (h, v, y.0, y.1)))
  ended h k v w (Ok u) = refl
  ended h k v w (Err j) = refl

  second : (h : ℤ) (v : AnyValue) (r : Result (ℤ × AnyValue × List Word) TrapKind)
      → handle_then r (λ k w rest. replies (no_more rest) (map.remove (map.remove m h) k) s (f v w)) ≡ of_two (and_then (only_by r) (λ y. Ok (h, v, y.0, y.1)))
  second h v (Ok x) = ended h x.0 v x.1 (no_more x.2)
  second h v (Err k) = refl

  first : (r : Result (ℤ × AnyValue × List Word) TrapKind)
      → handle_then r (λ h v behind. value_then (map.remove m h) behind (λ w left rest. replies (no_more rest) left s (f v w)))
      ≡ of_two (and_then r (λ x. and_then (only_handle (map.remove m x.0) x.2) (λ y. Ok (x.0, x.1, y.0, y.1))))
  first (Ok x) = second x.0 x.1 (handle_front (map.remove m x.0) x.2)
  first (Err k) = refl

  pub two_read : (words : List Word)
      → value_then m words (λ v without_v behind. value_then without_v behind (λ w left rest. replies (no_more rest) left s (f v w))) ≡ of_two (two_handles m words)
  two_read words = first (handle_front m words)

-- The map.

module _ {V : Type 0} (m : FinMap int_cmp V) where
  some_none : (w : V) → ◌≡◌ {A = Option V} None (Some w) → ⊥
  some_none w e = cc

  -- what stands under the other handle, once one is spent
  pub both_there : (h k : ℤ) (v w : V) → map.get m h ≡ Some v → map.get (map.remove m h) k ≡ Some w → (map.get m k ≡ Some w) × (map.get (map.remove m k) h ≡ Some v)
  both_there h k v w first second =
      let apart : k ≢ h = λ same. some_none w (sym (get_removed m h k same) ∙ second) in
      (sym (get_others m h k apart) ∙ second, get_others m k h (λ same. apart (sym same)) ∙ first)

  -- a handle that is kept, and spent in the end
  pub spent_two : (h k : ℤ) (v : V) → map.remove (map.insert (map.remove m k) h v) h ≡ map.remove (map.remove m h) k
  spent_two h k v = map.same_map int_cmp_total int_cmp-IsAntisymmetric _ _ (λ q.
      map.get-remove int_cmp_total (map.insert (map.remove m k) h v) h q
      ∙ ap (cond (int_eq q h) None) (map.get-insert int_cmp_total (map.remove m k) h v q ∙ ap (cond (int_eq q h) (Some v)) (map.get-remove int_cmp_total m k q))
      ∙ by (int_eq q h) (int_eq q k) (map.get m q)
      ∙ sym (map.get-remove int_cmp_total (map.remove m h) k q ∙ ap (cond (int_eq q k) None) (map.get-remove int_cmp_total m h q)))
    where
      by : (b c : Bool) (o : Option V) → cond b None (cond b (Some v) (cond c None o)) ≡ cond c None (cond b None o)
      by true true o = refl
      by true false o = refl
      by false c o = refl

  pub there_once_put : (h : ℤ) (v : V) → map.contains_key (map.insert m h v) h ≡ true
  there_once_put h v = ap is_some (map.get-insert int_cmp_total m h v h ∙ ap (λ b. cond b (Some v) (map.get m h)) ((signed_Decides h h).1 refl))

  -- what is put in the place of a value is put where that was taken
  pub put_where_taken : (h : ℤ) (v : V) → map.insert m h v ≡ map.insert (map.remove m h) h v
  put_where_taken h v = map.same_map int_cmp_total int_cmp-IsAntisymmetric _ _ (λ q.
      map.get-insert int_cmp_total m h v q ∙ by (int_eq q h) (map.get m q)
      ∙ sym (map.get-insert int_cmp_total (map.remove m h) h v q ∙ ap (cond (int_eq q h) (Some v)) (map.get-remove int_cmp_total m h q)))
    where
      by : (b : Bool) (o : Option V) → cond b (Some v) o ≡ cond b (Some v) (cond b None o)
      by true o = refl
      by false o = refl

  -- another value in the place of one changes nothing at the greatest number, where nothing is
  pub reserved_kept : (h : ℤ) (v : V) → map.contains_key m h ≡ true → map.get m reserved_handle ≡ None → map.get (map.insert m h v) reserved_handle ≡ None
  reserved_kept h v there free = map.get-insert int_cmp_total m h v reserved_handle ∙ by (int_eq reserved_handle h) refl
    where
      by : (b : Bool) → int_eq reserved_handle h ≡ b → cond b (Some v) (map.get m reserved_handle) ≡ None
      by true e =
          let same : reserved_handle ≡ h = (signed_Decides reserved_handle h).0 e in
          absurd (true≢false (sym there ∙ ap (map.contains_key m) (sym same) ∙ ap is_some free))
      by false e = free

-- a value is given under the handle of one that is spent
pub given_back : (m after : Values) (h : ℤ) (v : AnyValue) (w : ℕ) → pos 0 ≤ℤ h → h <ℤ pos 2147483648 → w ≡ cast_unsigned w32 h → after ≡ map.insert m h v
    → Gives (reply.Value v) (map.remove m h) (Ok (Some (I32 w))) after
given_back m after (pos n) v w zero below word put = (
  n,
  (omega (arith, ints, below)),
  get_removed m (pos n) (pos n) refl,
  ap (λ x. Some (I32 x)) word,
  put ∙ put_where_taken m (pos n) v,
)
given_back m after (negsuc n) v w zero below word put = absurd (omega (arith, ints, zero))
