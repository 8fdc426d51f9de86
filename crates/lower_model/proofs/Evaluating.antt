-- Expressions that are statements, all but sums of sources: `n += e`, counters in arrays, and what is evaluated for what it does alone.
use Rattle.std.proofs.Common.{◌≡◌, ℕ, ◌+◌, ◌≤◌, Bool, true, List, [], Some, None, Option, refl, sym, subst, arith}
use Rattle.wasm_types.specs.Syntax.{Instructions}
use Rattle.mid_program.specs.Mid.{Kind, Program, Code, Eval}
use Rattle.sem_scripts.specs.ScriptState.{State}
use Rattle.mid_program.specs.Sorted.{sorted}
use Rattle.lower_model.specs.Machine.{Label, Frame, at}
use Rattle.lower_model.specs.Places.{Bases, room, arrays_in}
use Rattle.lower_model.specs.Appends.{Append, append_in}
use Rattle.lower_model.specs.Quick.{Update, update_in, Tally, tally_in, Remainder, remainder_in}
use Rattle.lower_model.specs.Statements.{appended_dropped, remainder_dropped, barely_dropped, plainly_dropped}
use Rattle.lower_model.proofs.Observer.{Observer}
use Rattle.lower_model.proofs.Runs.{within}
use Rattle.lower_model.proofs.Locals.{Locals, laid}
use Rattle.lower_model.proofs.Relation.{Away}
use Rattle.lower_model.proofs.Answers.{machine, beside_state, Reached}
use Rattle.lower_model.proofs.Simulation.{work_of, context, layout, ExprOk}
use Rattle.lower_model.proofs.StatementForms.{plain_meant, Starts, StepDone}
use Rattle.lower_model.proofs.Sequences.{dropped_ok}
use Rattle.lower_model.proofs.Tallies.{tally_is}
use Rattle.lower_model.proofs.Tallying.{tallied_ok}
use Rattle.lower_model.proofs.Remainders.{IsRemainder, remainder_is, remainder_ok, remainder_code}
use Rattle.lower_model.proofs.Appending.{appended_ok}
use Rattle.lower_model.proofs.Chains.{append_is}
use Rattle.lower_model.proofs.Updating.{added_is, updated_ok}

module _ (p : Program) (deepest : Observer) (ks : List Kind) (F : List Frame) (b : Bases) (M n : ℕ) where
  module _ (exprs : (x : Code) → ExprOk p deepest ks F b M n x) (lo : Bool) (u d bk ct : ℕ) (k : Instructions) (K : List Label) (l : Locals) (σ : State) (s : Starts p deepest ks F b M n u K l σ) where
    -- code that is this does what it means
    abbrev Does : Instructions → ℕ → Code → Type 0
    Does c w e =
        sorted (context p deepest ks F b M n) [] e ≡ true → room e ≤ b.temporaries → arrays_in e ≤ b.arrays →
        Reached p deepest ks F b M (work_of e + w) σ.turns (at ks [] K (laid b l) F c (beside_state p deepest ks F σ)) (StepDone p deepest ks F b M n lo u bk ct k K l) (Away p deepest ks F b d K) (plain_meant p deepest ks F b M n (Eval e) σ)

    more : (c : Instructions) (w w1 : ℕ) (e : Code) → w ≤ w1 → Does c w e → Does c w1 e
    more c w w1 e le f so rm ar =
        within (machine p deepest ks F) M (work_of e + w) (work_of e + w1) σ.turns _ (StepDone p deepest ks F b M n lo u bk ct k K l) (Away p deepest ks F b d K) (plain_meant p deepest ks F b M n (Eval e) σ) (omega (arith, le)) (f so rm ar)

    alone_ok : (o : Option Append) (e : Code) → append_in e ≡ o → Does (appended_dropped (layout p deepest ks F b M n) o e d k) 8 e
    alone_ok None e eq = λ so rm ar. dropped_ok p deepest ks F b M n e (exprs e) lo u d bk ct k K l σ so rm ar s
    alone_ok (Some q) e eq =
        let t = append_is e q eq in
        subst (Does (appended_dropped (layout p deepest ks F b M n) (Some q) e d k) 8) (sym t.code)
        (λ so rm ar. within (machine p deepest ks F) M (work_of q.chain) _ σ.turns _ (StepDone p deepest ks F b M n lo u bk ct k K l) (Away p deepest ks F b d K) _ (omega arith)
        (appended_ok p deepest ks F b M n q.target q.chain t.so exprs lo u d bk ct k K l σ so rm ar s))

    rest_ok : (o : Option Remainder) (e : Code) → remainder_in e ≡ o → Does (remainder_dropped (layout p deepest ks F b M n) o e d k) 30 e
    rest_ok None e eq = more (remainder_dropped (layout p deepest ks F b M n) None e d k) 8 30 e (omega arith) (alone_ok (append_in e) e refl)
    rest_ok (Some q) e eq =
        let t = remainder_is e q eq in
        subst (λ (c : Code). IsRemainder c q → Does (remainder_dropped (layout p deepest ks F b M n) (Some q) c d k) 30 c) (sym t.code)
        (λ i so rm ar. remainder_ok p deepest ks F b M n q (exprs (remainder_code q)) i lo u d bk ct k K l σ so rm ar s) t

    barely_ok : (o : Option Tally) (e : Code) → tally_in e ≡ o → Does (barely_dropped (layout p deepest ks F b M n) o e d k) 80 e
    barely_ok None e eq = more (barely_dropped (layout p deepest ks F b M n) None e d k) 30 80 e (omega arith) (rest_ok (remainder_in e) e refl)
    barely_ok (Some q) e eq =
        let t = tally_is e q eq in
        subst (Does (barely_dropped (layout p deepest ks F b M n) (Some q) e d k) 80) (sym t.code)
        (λ so rm ar. tallied_ok p deepest ks F b M n q t.shape t.added (exprs q.key) (exprs q.added) t.sum lo u d bk ct k K l σ so rm ar s)

    pub plainly_ok : (o : Option Update) (e : Code) → update_in e ≡ o → Does (plainly_dropped (layout p deepest ks F b M n) o e d k) 110 e
    plainly_ok None e eq = more (plainly_dropped (layout p deepest ks F b M n) None e d k) 80 110 e (omega arith) (barely_ok (tally_in e) e refl)
    plainly_ok (Some q) e eq =
        let t = added_is e q eq in
        subst (Does (plainly_dropped (layout p deepest ks F b M n) (Some q) e d k) 110) (sym t.0)
        (λ so rm ar. within (machine p deepest ks F) M (work_of q.added + 75) _ σ.turns _ (StepDone p deepest ks F b M n lo u bk ct k K l) (Away p deepest ks F b d K) _ (omega arith) (updated_ok p deepest ks F b M n q (exprs q.added) lo u d bk ct k K l σ so t.1 rm ar s))
