-- An array is freed by its owner: its number stands for nothing afterwards, and no other array's number changes.
use Rattle.std.proofs.Common.{◌≡◌, ℕ, zero, suc, ◌+◌, ◌<◌, ◌≤◌, ◌^◌, Bool, true, false, cond, nat_eq, nat_lt, pos, List, [], ◌∷◌, Option, Some, Result, Ok, refl, sym, ap, ◌∙◌, subst, arith, true≢false}
use Rattle.std.proofs.lemmas.Bool.{eq-eqb, eqb-true}
use Rattle.std.proofs.lemmas.Bool.{le-leb, ltb-true}
use Rattle.std.proofs.lemmas.Option.{none-some}
use Rattle.sem_primitives.specs.Sorts.{Row}
use Rattle.sem_primitives.specs.declared.sorts.Sort.{Sort}
use Rattle.sem_primitives.specs.declared.sorts.Sort.TheVariants as sort
use Rattle.sem_primitives.specs.declared.sorts.Answer.TheVariants as answer
use Rattle.sem_primitives.specs.declared.sorts.Argument.TheVariants as argument
use Rattle.wasm_store.specs.declared.trap.TrapKind.{TrapKind}
use Rattle.wasm_store.specs.declared.trap.TrapKind.TheVariants.{BadHandle}
use Rattle.wasm_store.specs.declared.word.Word.{Word}
use Rattle.wasm_store.specs.declared.word.Word.TheVariants.{I32, I64}
use Rattle.wasm_model.specs.declared.host.HostAnswer.{HostAnswer}
use Rattle.world_core.specs.WorldState.{Action}
use Rattle.host_step.specs.HostState.{HostState, Names}
use Rattle.host_step.specs.Tables.{look, without}
use Rattle.host_step.specs.Arguments.{and_then, decode, said}
use Rattle.host_step.specs.HostStep.{StepBy, come, carried}
use Rattle.host_step.specs.HostStep as host
use Rattle.host_imports.specs.Imports.{spends}
use Rattle.lower_model.specs.Cells.{Cell, Bits, Held, IteratorOf, OwnedArray, LentArray, Gone}
use Rattle.lower_model.specs.ImportCalls.{Host, acted, acts, taken}
use Rattle.host_imports.specs.declared.import.Import.TheVariants.{FreeArray}
use Rattle.agreement.specs.Refined.Growing.{ArraysGrow}
use Rattle.agreement.specs.Refined.Words.{ArraysFit, WordsAs, arrays_made, state_with}
use Rattle.agreement.specs.Refined.Owners.{owners, there, wanted}
use Rattle.agreement.proofs.RefinedLemmas.Decoding.{small_signed, spent_once, spent_same}
use Rattle.agreement.proofs.RefinedLemmas.ImportAnswers.{some_of}
use Rattle.agreement.proofs.RefinedLemmas.ImportCalls.{ActsAs, Outcome, RowOk, Spent, acted_as}
use Rattle.agreement.proofs.RefinedLemmas.Tables.{without_there, without_other}

module _ (N : Names) (h : Host) (others : Sort → ℕ → ℕ) (fit : ArraysFit (arrays_made h) N.arrays) (a n : ℕ) (own : 2 ≤ a) (is : look N.arrays (pos n) ≡ Some a)
    (once : (s : Sort) (q : ℕ) → owners s q (OwnedArray a ∷ []) (I32 n ∷ []) + others s q ≡ wanted N s q) where
  first : (k : ℕ) → k < 2 → look N.arrays (pos k) ≡ Some k
  first zero l = fit.argv
  first (suc zero) l = fit.environ
  first (suc (suc k)) l = absurd (omega arith)

  -- it is none of the first two
  lacks : (k : ℕ) → k < 2 → k ≡ n → ⊥
  lacks k l e = let same = some_of k a (sym (first k l) ∙ (ap (λ i. look N.arrays (pos i)) e ∙ is)) in omega arith

  abbrev counts : ℕ → ℕ
  counts q = others sort.Array q + cond (nat_lt q 2) 1 0

  all_counted : (q : ℕ) → cond (nat_eq q n) 1 0 + counts q ≡ there (look N.arrays (pos q))
  all_counted q = by (nat_lt q 2) refl (once sort.Array q)
    where
      by : (b : Bool) → nat_lt q 2 ≡ b → owners sort.Array q (OwnedArray a ∷ []) (I32 n ∷ []) + others sort.Array q ≡ cond b 0 (there (look N.arrays (pos q))) → cond (nat_eq q n) 1 0 + (others sort.Array q + cond b 1 0) ≡ there (look N.arrays (pos q))
      by true e o = let x = ap there (first q (ltb-true q 2 e)) in omega arith
      by false e o = omega arith

  abbrev left : Names
  left = record N { arrays = without (pos n) N.arrays }

  was_there : (m x : ℕ) → look (without (pos n) N.arrays) (pos m) ≡ Some x → look N.arrays (pos m) ≡ Some x
  was_there m x e = by (nat_eq m n) refl
    where
      by : (b : Bool) → nat_eq m n ≡ b → look N.arrays (pos m) ≡ Some x
      by true h = absurd (none-some x (sym (without_there N.arrays n) ∙ (ap (λ i. look (without (pos n) N.arrays) (pos i)) (sym (eqb-true m n h)) ∙ e)))
      by false h = sym (without_other N.arrays n m (λ g. true≢false (sym (eq-eqb m n g) ∙ h))) ∙ e

  array_once : (q : ℕ) → others sort.Array q ≡ wanted left sort.Array q
  array_once q = by (nat_lt q 2) (once sort.Array q) (spent_once N.arrays n a counts is all_counted q)
    where
      by : (b : Bool) → owners sort.Array q (OwnedArray a ∷ []) (I32 n ∷ []) + others sort.Array q ≡ cond b 0 (there (look N.arrays (pos q))) → others sort.Array q + cond b 1 0 ≡ there (look (without (pos n) N.arrays) (pos q)) →
          others sort.Array q ≡ cond b 0 (there (look (without (pos n) N.arrays) (pos q)))
      by true o l = omega arith
      by false o l = omega arith

  all_once : (s : Sort) (q : ℕ) → others s q ≡ wanted left s q
  all_once sort.Value q = let o = once sort.Value q in omega arith
  all_once sort.Number q = let o = once sort.Number q in omega arith
  all_once sort.Array q = array_once q
  all_once sort.Iterator q = let o = once sort.Iterator q in omega arith

  array_spent : Spent (arrays_made h) N left others
  array_spent = record {
    carried = record { values = λ q l. refl; arrays = λ q l. spent_same N.arrays n a counts is all_counted q (omega arith); iterators = λ q l. refl; older = λ m x l e. was_there m x e; longer = omega arith };
    once = all_once;
    arrays = record {
      argv = without_other N.arrays n 0 (lacks 0 (omega arith)) ∙ fit.argv;
      environ = without_other N.arrays n 1 (lacks 1 (omega arith)) ∙ fit.environ;
      known = λ m x e. fit.known m x (was_there m x e);
      apart = λ m k x e g. fit.apart m k x (was_there m x e) (was_there k x g);
    };
  }

  module _ (bytes : List ℕ) (grow : ArraysGrow) (below : n < 2 ^ 31) where
    abbrev decoded : Option ℕ → Names → Result (Row (argument.Of sort.Array ∷ []) × Names) TrapKind
    decoded o names = and_then (said BadHandle o []) (λ x. and_then (decode (spends FreeArray) bytes names [] x.1) (λ rest. Ok ((x.0, rest.0), rest.1)))

    decoded_ok : RowOk (arrays_made h) N others (Some (a, tt)) (decode (spends FreeArray) bytes N (argument.Of sort.Array ∷ []) (I32 n ∷ []))
    decoded_ok =
        subst (λ k. RowOk (arrays_made h) N others (Some (a, tt)) (decoded (look N.arrays k) (record N { arrays = without k N.arrays }))) (sym (small_signed n below))
        (subst (λ o. RowOk (arrays_made h) N others (Some (a, tt)) (decoded o left)) (sym is) (refl, array_spent))

    same : (x : Row (argument.Of sort.Array ∷ [])) → Some (a, tt) ≡ Some x → ActsAs (acts FreeArray x h) (host.acts FreeArray x (state_with N h))
    same x e =
        subst (λ (z : Row (argument.Of sort.Array ∷ [])). ActsAs (acts FreeArray z h) (host.acts FreeArray z (state_with N h))) (some_of (a, tt) x e)
        (subst (λ b. ActsAs (acts FreeArray (a, tt) h) (host.where_fit b (host.only_answers (state_with N h) h.arguments))) (sym (le-leb 2 a own)) refl)

    pub freed_one : (v : HostAnswer) (s1 : HostState) (out : List Action) → StepBy answer.Nothing (state_with N h) (come (carried FreeArray (I32 n ∷ []) bytes (state_with N h))) v s1 out →
        Outcome N h others (acted FreeArray h (Some (a, tt))) v s1
    freed_one v s1 out s = acted_as N h others (argument.Of sort.Array ∷ []) answer.Nothing (Some (a, tt)) (decode (spends FreeArray) bytes N (argument.Of sort.Array ∷ []) (I32 n ∷ []))
        (λ r. acts FreeArray r h) (λ r. host.acts FreeArray r (state_with N h)) decoded_ok same (λ r d q. grow FreeArray r h d q) v s1 out s

-- `free_array`, whatever it is given
pub freed_as : (mem bytes : List ℕ) (grow : ArraysGrow) (N : Names) (h : Host) (others : Sort → ℕ → ℕ) → ArraysFit (arrays_made h) N.arrays → (cs : List Cell) (ws : List Word) → WordsAs (arrays_made h) N cs ws →
    ((s : Sort) (q : ℕ) → owners s q cs ws + others s q ≡ wanted N s q) → (v : HostAnswer) (s1 : HostState) (out : List Action) →
    StepBy answer.Nothing (state_with N h) (come (carried FreeArray ws bytes (state_with N h))) v s1 out → Outcome N h others (acted FreeArray h (taken mem FreeArray cs)) v s1
freed_as mem bytes grow N h others fit [] ws a o v s1 out s = tt
freed_as mem bytes grow N h others fit (Bits x ∷ cs) ws a o v s1 out s = tt
freed_as mem bytes grow N h others fit (Held x ∷ cs) ws a o v s1 out s = tt
freed_as mem bytes grow N h others fit (IteratorOf x ∷ cs) ws a o v s1 out s = tt
freed_as mem bytes grow N h others fit (LentArray x ∷ cs) ws a o v s1 out s = tt
freed_as mem bytes grow N h others fit (Gone ∷ cs) ws a o v s1 out s = tt
freed_as mem bytes grow N h others fit (OwnedArray x ∷ (c ∷ cs)) ws a o v s1 out s = tt
freed_as mem bytes grow N h others fit (OwnedArray x ∷ []) [] a o v s1 out s = absurd a
freed_as mem bytes grow N h others fit (OwnedArray x ∷ []) (w ∷ (u ∷ ws)) a o v s1 out s = absurd a.1
freed_as mem bytes grow N h others fit (OwnedArray x ∷ []) (I64 n ∷ []) a o v s1 out s = absurd a.0.1
freed_as mem bytes grow N h others fit (OwnedArray x ∷ []) (I32 n ∷ []) a o v s1 out s = freed_one N h others fit x n a.0.0 a.0.1.1 o bytes grow a.0.1.0 v s1 out s
