-- What is told of a run of the real machine is what the machine over values is at after as many steps.
use Rattle.std.proofs.Common.{◌≡◌, inl, inr, ℕ, zero, suc, ◌+◌, ◌-◌, ◌≤◌, Bool, List, Some, refl, sym, ap, ◌∙◌, subst, arith}
use Rattle.std.proofs.lemmas.Option.{none-some}
use Rattle.world_core.specs.WorldState.{Action}
use Rattle.wasm_model.specs.Machines.{ProgramForm, turn}
use Rattle.wasm_model.specs.Machines as real
use Rattle.wasm_model.specs.Runs.{IsStep, IsWithin, Ran, told_end, told_run}
use Rattle.wasm_model.specs.MachineRuns.{Did}
use Rattle.wasm_model.specs.declared.ends.MachineEnd.{MachineEnd}
use Rattle.wasm_model.specs.declared.ends.MachineEnd.TheVariants as told
use Rattle.wasm_model.specs.declared.ends.End.{End}
use Rattle.wasm_model.specs.declared.ends.End.TheVariants as ends
use Rattle.wasm_model.specs.declared.ends.RunEnd.{RunEnd}
use Rattle.wasm_model.specs.declared.ends.RunEnd.TheVariants.{Ended, OutOfSteps, NoMemory}
use Rattle.host_step.specs.HostState.{HostState}
use Rattle.lower_model.specs.Machine.{Code, Conf, Deep, Look, Over, Run, Store, Stuck, go, step}
use Rattle.lower_model.proofs.Runs.{go_add}
use Rattle.agreement.specs.Refined.Growing.{ArraysGrow}
use Rattle.agreement.specs.Refined.Refined.{As, EndAs, Linked}
use Rattle.agreement.specs.Modules.TableMeaning.{table_meaning}
use Rattle.agreement.specs.Refined.Running.{EndedAs, SharesAs, TellsAs}
use Rattle.agreement.specs.Refined.Words.{WordAs, arrays_made}
use Rattle.agreement.proofs.RefinedLemmas.ImportAnswers.{some_of}
use Rattle.agreement.proofs.RefinedLemmas.Running.{left_turn, ran_as}

-- where no step leads away
go_rests : (u : Code) (n : ℕ) (p : Conf) → step u p ≡ p → go u n p ≡ p
go_rests u zero p e = refl
go_rests u (suc n) p e = ap (λ z. go u n z) e ∙ go_rests u n p e

go_from : (u : Code) (k n : ℕ) (p q : Conf) → k ≤ n → step u q ≡ q → go u k p ≡ q → go u n p ≡ q
go_from u k n p q h r e = ap (λ z. go u z p) (let j : n ≡ k + (n - k) = omega (arith, h) in j) ∙ (go_add u k (n - k) p ∙ (ap (λ z. go u (n - k) z) e ∙ go_rests u (n - k) q r))

-- the step after k steps
go_after : (u : Code) (k : ℕ) (p : Conf) → go u (suc k) p ≡ step u (go u k p)
go_after u k p = ap (λ z. go u z p) (let j : suc k ≡ k + 1 = omega arith in j) ∙ go_add u k 1 p

within_at_most : (k n : ℕ) (e : End) → IsWithin k n e → k ≤ n
within_at_most k n (ends.Returned w) h = h
within_at_most k n (ends.Trapped kind) h = omega (arith, h)
within_at_most k n ends.Exhausted h = omega (arith, h)
within_at_most k n ends.Stuck h = omega (arith, h)

shared_same : (G : Store) (before after : HostState) → SharesAs G before → after ≡ before → SharesAs G after
shared_same G before after h e = subst (λ z. SharesAs G z) (sym e) h

module _ {used : ℕ → Bool} {bs : List Bool} {u : Code} {m : ProgramForm} (linked : Linked used bs u m) (grow : ArraysGrow) where
  -- there are more steps
  goes_on : (p : Conf) (c : real.Conf) (s : HostState) → As used bs u p c s → IsStep (turn m c) → TellsAs p told.OutOfSteps s
  goes_on (Run ks vs K L F code G) c s a t = (refl, a.rest.host)
  goes_on (Look x ks vs K L F code G) c s a t = (refl, a.run.rest.host)
  goes_on (Over v G) c s a t = absurd (subst IsStep (left_turn linked grow v G c s a) t)
  goes_on (Deep G) c s a t = absurd a
  goes_on Stuck c s a t = tt

  module _ (n : ℕ) (p : Conf) (alive : go u (suc n) p ≡ Stuck → ⊥) (k : ℕ) (e : End) (within : IsWithin k n e) (t : MachineEnd) (told-is : told_end e ≡ Some t) (before after : HostState) (out : List Action) where
    -- an end in the step after k steps
    step_ends : EndAs used bs u (step u (go u k p)) e before after out → TellsAs (go u n p) t after
    step_ends (inl h) = absurd (none-some t (sym h ∙ told-is))
    step_ends (inr (inl h)) = absurd (alive (go_from u (suc k) (suc n) p Stuck (let l = within_at_most k n e within in omega arith) refl (go_after u k p ∙ h)))
    step_ends (inr (inr h)) =
        subst (λ q. TellsAs q t after) (sym (go_from u (suc k) n p (Deep h.0) (subst (λ z. IsWithin k n z) h.2 within) refl (go_after u k p ∙ h.1)))
        (sym (some_of told.Exhausted t (sym (ap told_end h.2) ∙ told-is)), shared_same h.0 before after h.3 h.4)

    ends_as : (q : Conf) (c : real.Conf) → go u k p ≡ q → As used bs u q c before → EndedAs used bs u q e before after out → TellsAs (go u n p) t after
    ends_as (Over v G) c r a h =
        subst (λ z. TellsAs z t after) (sym (go_from u k n p (Over v G) (within_at_most k n e within) refl r))
        (h.0, subst (λ (z : HostState). WordAs (arrays_made G.host) z.names v h.0) (sym h.3) h.1, sym (ap told_end h.2) ∙ told-is, shared_same G before after a.host h.3)
    ends_as (Run ks vs K L F code G) c r a h = step_ends (subst (λ q. EndAs used bs u (step u q) e before after out) (sym r) h)
    ends_as (Look x ks vs K L F code G) c r a h = step_ends (subst (λ q. EndAs used bs u (step u q) e before after out) (sym r) h)
    ends_as (Deep G) c r a h = absurd a
    ends_as Stuck c r a h = step_ends (subst (λ q. EndAs used bs u (step u q) e before after out) (sym r) h)

  ran_tells : (n : ℕ) (p : Conf) → (go u (suc n) p ≡ Stuck → ⊥) → (c : real.Conf) (s : HostState) (out : List Action) (r : RunEnd) (t : MachineEnd) (c1 : real.Conf) (s1 : HostState) → As used bs u p c s → (t ≡ told.NoMemory → ⊥) → told_run r ≡ Some t → Ran table_meaning m n c s out r c1 s1 →
      TellsAs (go u n p) t s1
  ran_tells n p alive c s out OutOfSteps t c1 s1 a enough e h = subst (λ z. TellsAs (go u n p) z s1) (some_of told.OutOfSteps t e) (goes_on (go u n p) c1 s1 (ran_as linked grow n p c s out OutOfSteps c1 s1 a h) h.1)
  ran_tells n p alive c s out (Ended x) t c1 s1 a enough e h =
      let r = ran_as linked grow n p c s out (Ended x) c1 s1 a h in
      ends_as n p alive r.0 x r.1 t e r.3 s1 r.4 (go u r.0 p) r.2 refl r.5 r.6
  ran_tells n p alive c s out NoMemory t c1 s1 a enough e h = absurd (enough (sym (some_of told.NoMemory t e)))

  -- WHAT IS TOLD: where memory was not wanting, and the machine over values is not stuck one step later, a run of n steps is told of as it is after n steps
  pub tells_as : (n : ℕ) (p : Conf) → (go u (suc n) p ≡ Stuck → ⊥) → (c : real.Conf) (s : HostState) (t : MachineEnd) (c1 : real.Conf) (s1 : HostState) → As used bs u p c s → (t ≡ told.NoMemory → ⊥) → Did table_meaning m n c s t c1 s1 → TellsAs (go u n p) t s1
  tells_as n p alive c s t c1 s1 a enough d = ran_tells n p alive c s d.0 d.1 t c1 s1 a enough d.2 d.3
