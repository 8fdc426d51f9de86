-- While each table has a free number at every step, there is a run of each number of steps.
use Rattle.std.proofs.Common.{◌≡◌, ◌≢◌, ◌⊎◌, inl, inr, ℕ, zero, suc, ◌+◌, List, [], ◌++◌, refl, sym, subst, arith, append-nil}
use Rattle.world_core.specs.WorldState.{Action}
use Rattle.wasm_model.specs.Machines.{Asks, Conf, Ends, Goes, ProgramForm, Turn, turn}
use Rattle.wasm_model.specs.Runs.{IsStep, OverBy, Ran, Steps, TakenAs}
use Rattle.wasm_model.specs.declared.ends.End.{End}
use Rattle.wasm_model.specs.declared.ends.End.TheVariants as ends
use Rattle.wasm_model.specs.declared.ends.RunEnd.{RunEnd}
use Rattle.wasm_model.specs.declared.ends.RunEnd.TheVariants.{Ended, NoMemory, OutOfSteps}
use Rattle.wasm_model.proofs.Chains.{ran_on, within_less}
use Rattle.host_step.specs.HostState.{HostState}
use Rattle.agreement.specs.Modules.TableMeaning.{table_meaning}
use Rattle.agreement.proofs.RefinedLemmas.Replying.{turns}
use Rattle.agreement.proofs.RefinedLemmas.Room.{HasFree}

-- a run of so many steps that does not want memory
pub record HasRun (m : ProgramForm) (n : ℕ) (c : Conf) (s : HostState) : Type 0 where
  pub how : RunEnd
  pub enough : how ≢ NoMemory
  pub conf : Conf
  pub state : HostState
  pub output : List Action
  pub ran : Ran table_meaning m n c s output how conf state

-- a number is free wherever the machine may come to from here
abbrev pub FreeFrom : ProgramForm → Conf → HostState → Type 0
FreeFrom m c s = (k : ℕ) (output : List Action) (c1 : Conf) (s1 : HostState) → Steps table_meaning m k c s output c1 s1 → HasFree s1.names

module _ (m : ProgramForm) where
  -- no step is given: either one comes next, or `main` has returned
  waits : (c : Conf) (s : HostState) → HasRun m zero c s
  waits c s = by (turn m c) refl
    where
      more : IsStep (turn m c) → HasRun m zero c s
      more h = record { how = OutOfSteps; enough = λ q. cc; conf = c; state = s; output = []; ran = ((refl, refl, refl), h) }

      by : (z : Turn) → turn m c ≡ z → HasRun m zero c s
      by (Goes d) q = more (subst IsStep (sym q) tt)
      by (Asks i args d) q = more (subst IsStep (sym q) tt)
      by (Ends (ends.Trapped kind)) q = more (subst IsStep (sym q) tt)
      by (Ends ends.Exhausted) q = more (subst IsStep (sym q) tt)
      by (Ends ends.Stuck) q = more (subst IsStep (sym q) tt)
      by (Ends (ends.Returned w)) q = record {
        how = Ended (ends.Returned w);
        enough = λ x. cc;
        conf = c;
        state = s;
        output = [];
        ran = (
          zero,
          omega arith,
          c,
          s,
          [],
          [],
          (refl, refl, refl),
          subst (λ (z : Turn). OverBy table_meaning z s c.memory [] (ends.Returned w) s) (sym q)
              (refl, refl, refl),
          refl,
        );
      }

  first_step : (c : Conf) (s : HostState) (out : List Action) (c1 : Conf) (s1 : HostState) → TakenAs table_meaning (turn m c) s c.memory out c1 s1 →
      Steps table_meaning m (suc zero) c s out c1 s1
  first_step c s out c1 s1 t = (c1, s1, out, [], t, (refl, refl, refl), sym (append-nil out))

  later : (c : Conf) (s : HostState) (out : List Action) (c1 : Conf) (s1 : HostState) → TakenAs table_meaning (turn m c) s c.memory out c1 s1 → FreeFrom m c s →
      FreeFrom m c1 s1
  later c s out c1 s1 t f k out2 c2 s2 h = f (suc k) (out ++ out2) c2 s2 (c1, s1, out, out2, t, h, refl)

  goes_on : (n : ℕ) (c : Conf) (s : HostState) (out : List Action) (c1 : Conf) (s1 : HostState) → TakenAs table_meaning (turn m c) s c.memory out c1 s1 →
      HasRun m n c1 s1 → HasRun m (suc n) c s
  goes_on n c s out c1 s1 t r = record {
    how = r.how;
    enough = r.enough;
    conf = r.conf;
    state = r.state;
    output = out ++ r.output;
    ran = let e : suc zero + n ≡ suc n = omega arith in
        subst (λ (i : ℕ). Ran table_meaning m i c s (out ++ r.output) r.how r.conf r.state) e
        (ran_on table_meaning m (suc zero) n c s out c1 s1 r.output r.how r.conf r.state (first_step c s out c1 s1 t) r.ran);
  }

  is_over : (n : ℕ) (c : Conf) (s : HostState) (out : List Action) (e : End) (s1 : HostState) → OverBy table_meaning (turn m c) s c.memory out e s1 →
      HasRun m (suc n) c s
  is_over n c s out e s1 o = record {
    how = Ended e;
    enough = λ q. cc;
    conf = c;
    state = s1;
    output = out;
    ran = (zero, within_less zero (suc n) e (omega arith), c, s, [], out, (refl, refl, refl), o, refl);
  }

  -- THERE IS A RUN
  pub runs : (n : ℕ) (c : Conf) (s : HostState) → FreeFrom m c s → HasRun m n c s
  runs zero c s f = waits c s
  runs (suc n) c s f = by (turns (turn m c) s c.memory (f zero [] c s (refl, refl, refl))) (λ c1 s1 g. runs n c1 s1 g)
    where
      by : ((out : List Action) × (c1 : Conf) × (s1 : HostState) × TakenAs table_meaning (turn m c) s c.memory out c1 s1) ⊎
          ((out : List Action) × (e : End) × (s1 : HostState) × OverBy table_meaning (turn m c) s c.memory out e s1) →
          ((c1 : Conf) (s1 : HostState) → FreeFrom m c1 s1 → HasRun m n c1 s1) → HasRun m (suc n) c s
      by (inl x) next = goes_on n c s x.0 x.1 x.2 x.3 (next x.1 x.2 (later c s x.0 x.1 x.2 x.3 f))
      by (inr x) next = is_over n c s x.0 x.1 x.2 x.3
