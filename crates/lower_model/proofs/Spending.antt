-- A call in which the host may carry out assignments by itself: each of them costs a turn, and the call's one step stands for all of them.
use Rattle.std.proofs.Common.{◌≡◌, ℕ, zero, suc, ◌+◌, ◌*◌, ◌≤◌, List, [], Some, None, Result, Ok, Err, refl, sym, ap, ◌∙◌, subst, append-nil, arith}
use Rattle.std.proofs.Math.Nat.{mul-le-mul_left}
use Rattle.awk_values.specs.declared.fault.Fault.{Fault}
use Rattle.sem_primitives.specs.SharedState.{Inner, Shared, settles, shared_after}
use Rattle.sem_primitives.specs.Sorts.{InAnswer}
use Rattle.sem_primitives.specs.declared.sorts.Answer.{Answer}
use Rattle.wasm_types.specs.Syntax.{Instructions}
use Rattle.mid_program.specs.Mid.{Kind, Program}
use Rattle.sem_scripts.specs.ScriptState.{State, Stop, OutOfTurns, Gives, Stops, Execution, go_on, spent, spend_all, settled}
use Rattle.sem_scripts.specs.ScriptRun.{GoesOn}
use Rattle.lower_model.specs.Cells.{Cell}
use Rattle.lower_model.specs.Machine.{Conf, Label, Frame, Store, at, carried_at, turns_within, ending_at}
use Rattle.lower_model.proofs.Observer.{Observer}
use Rattle.lower_model.proofs.Runs.{Goes, Arrives, arrives_after}
use Rattle.lower_model.proofs.Answers.{machine, beside_state, reply, after_reply}

-- Turns that a call spends: they are there, or they run out.

pub data Spending (n : ℕ) (σ : State) : Type 0 where
  Enough : (m : ℕ) → σ.turns ≡ n + m → spend_all n σ ≡ Gives tt (record σ { turns = m }) → Spending n σ
  Short : (τ : State) → τ.shared ≡ σ.shared → σ.turns ≤ n → spend_all n σ ≡ Stops OutOfTurns τ → Spending n σ

one_spent : (n k : ℕ) (σ : State) → σ.turns ≡ suc k → Spending n (record σ { turns = k }) → Spending (suc n) σ
unfolding spend_all
one_spent n k σ e (Enough m q q1) = Enough m (omega (arith, e, q)) (ap (λ j. go_on (spent j σ) (λ a. spend_all n)) e ∙ q1)
one_spent n k σ e (Short τ q q1 q2) = Short τ q (omega (arith, e, q1)) (ap (λ j. go_on (spent j σ) (λ a. spend_all n)) e ∙ q2)

none_left : (n : ℕ) (σ : State) → σ.turns ≡ zero → Spending (suc n) σ
unfolding spend_all
none_left n σ e = Short σ refl (omega (arith, e)) (ap (λ j. go_on (spent j σ) (λ a. spend_all n)) e)

pub spending : (n : ℕ) (σ : State) → Spending n σ
unfolding spend_all
spending zero σ = Enough σ.turns (omega arith) refl
spending (suc n) σ = by (λ k. spending n (record σ { turns = k })) σ.turns refl
  where
    by : ((k : ℕ) → Spending n (record σ { turns = k })) → (k : ℕ) → σ.turns ≡ k → Spending (suc n) σ
    by on zero e = none_left n σ e
    by on (suc k) e = one_spent n k σ e (on k)

module _ (p : Program) (deepest : Observer) (ks : List Kind) (F : List Frame) (M : ℕ) where
  -- such a call: its code, how many assignments it carries out, what it gives
  pub record Asks (a : Answer) : Type 0 where
    pub code : Instructions → Instructions
    pub carried : Shared → ℕ
    pub result : Shared → Result (Inner × InAnswer a) Fault
    pub calls : (K : List Label) (L : List Cell) (c : Instructions) (σ : State) → σ.shared.inner.pending ≡ None →
        Goes (machine p deepest ks F) 1 (at ks [] K L F (code c) (beside_state p deepest ks F σ)) (at ks (reply a (settles σ.shared (result σ.shared)).answer []) K L F c (after_reply p deepest ks F (settles σ.shared (result σ.shared)).answer (record σ { shared = shared_after σ.shared (settles σ.shared (result σ.shared)) })))
    pub counts : (K : List Label) (L : List Cell) (c : Instructions) (σ : State) → carried_at (at ks [] K L F (code c) (beside_state p deepest ks F σ)) ≡ carried σ.shared

  -- the state after a call that gave r, with m turns left, and where the machine is then
  abbrev pub state_after : (a : Answer) (σ : State) (m : ℕ) → Result (Inner × InAnswer a) Fault → State
  state_after a σ m r = record σ { turns = m; shared = shared_after σ.shared (settles σ.shared r) }

  abbrev pub conf_after : (a : Answer) (K : List Label) (L : List Cell) (c : Instructions) (σ : State) → Result (Inner × InAnswer a) Fault → Conf
  conf_after a K L c σ r = at ks (reply a (settles σ.shared r).answer []) K L F c (after_reply p deepest ks F (settles σ.shared r).answer (record σ { shared = shared_after σ.shared (settles σ.shared r) }))

  -- what such a call means
  abbrev pub asking : (a : Answer) → Asks a → Execution (InAnswer a)
  asking a q = λ σ. go_on (spend_all (q.carried σ.shared) σ) (λ x τ. settled (settles τ.shared (q.result τ.shared)).answer (record τ { shared = shared_after τ.shared (settles τ.shared (q.result τ.shared)) }))

  -- the machine is at work behind it
  abbrev pub IsWork : List Label → List Cell → Instructions → Type 0
  IsWork K L c = (vs : List Cell) (G : Store) → ending_at (at ks vs K L F c G) ≡ Some (GoesOn G.host.shared.output)

  still_shown : (a : Answer) (K : List Label) (L : List Cell) (c : Instructions) (σ : State) (r : Result (Inner × InAnswer a) Fault) → IsWork K L c → ending_at (conf_after a K L c σ r) ≡ Some (GoesOn σ.shared.output)
  still_shown a K L c σ (Ok x) work = work _ _ ∙ ap (λ o. Some (GoesOn o)) (append-nil σ.shared.output)
  still_shown a K L c σ (Err f) work = work _ _ ∙ ap (λ o. Some (GoesOn o)) (append-nil σ.shared.output)

  module _ {B : Type 0} (a : Answer) (q : Asks a) (w : ℕ) (K : List Label) (L : List Cell) (c : Instructions) (σ : State) (P : B → State → Conf → Type 0) (Q : Stop → State → Conf → Type 0) (f : InAnswer a → Execution B) (none : σ.shared.inner.pending ≡ None) (work : IsWork K L c)
      (next : (m : ℕ) → m ≤ σ.turns → Arrives (machine p deepest ks F) M w m (conf_after a K L c σ (q.result σ.shared)) P Q (go_on (settled (settles σ.shared (q.result σ.shared)).answer (state_after a σ m (q.result σ.shared))) f)) where
    abbrev start : Conf
    start = at ks [] K L F (q.code c) (beside_state p deepest ks F σ)

    spends_by : Spending (q.carried σ.shared) σ → Arrives (machine p deepest ks F) M (suc w) σ.turns start P Q (go_on (asking a q σ) f)
    spends_by (Enough m e e1) =
        let g = q.calls K L c σ none in
        let tw : turns_within (machine p deepest ks F) 1 start ≡ suc (q.carried σ.shared + 0) = ap (λ z. suc (z + 0)) (q.counts K L c σ) in
        let le : m ≤ σ.turns = omega (arith, e) in
        let more : M * m ≤ M * σ.turns = mul-le-mul_left M le in
        subst (λ o. Arrives (machine p deepest ks F) M (suc w) σ.turns start P Q (go_on (go_on o (λ x τ. settled (settles τ.shared (q.result τ.shared)).answer (record τ { shared = shared_after τ.shared (settles τ.shared (q.result τ.shared)) }))) f)) (sym e1)
        (arrives_after (machine p deepest ks F) M 1 w (suc w) σ.turns m start (conf_after a K L c σ (q.result σ.shared)) P Q (go_on (settled (settles σ.shared (q.result σ.shared)).answer (state_after a σ m (q.result σ.shared))) f) g.it
        (record { down = le; paid = omega (arith, e, tw); few = omega (arith, more) }) (next m le))
    spends_by (Short τ e le e1) =
        let g = q.calls K L c σ none in
        let tw : turns_within (machine p deepest ks F) 1 start ≡ suc (q.carried σ.shared + 0) = ap (λ z. suc (z + 0)) (q.counts K L c σ) in
        subst (λ o. Arrives (machine p deepest ks F) M (suc w) σ.turns start P Q (go_on (go_on o (λ x τ. settled (settles τ.shared (q.result τ.shared)).answer (record τ { shared = shared_after τ.shared (settles τ.shared (q.result τ.shared)) }))) f)) (sym e1)
        (record {
          steps = 1;
          few = omega arith;
          enough = omega (arith, le, tw);
          shows = ap ending_at g.it ∙ (still_shown a K L c σ (q.result σ.shared) work ∙ ap (λ s. Some (GoesOn s.output)) (sym e));
        })

    -- its turns are spent, or they run out
    pub spends_ok : Arrives (machine p deepest ks F) M (suc w) σ.turns start P Q (go_on (asking a q σ) f)
    spends_ok = spends_by (spending (q.carried σ.shared) σ)
