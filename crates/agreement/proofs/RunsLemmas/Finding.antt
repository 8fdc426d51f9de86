-- A run over any world is a run over a host of the table in an environment that others change too: in which each opening, read and write finds the next
-- of a list. The list is read off the run, from its end to its beginning.
use Rattle.std.proofs.Common.{◌≡◌, ◌≢◌, ℕ, zero, suc, Bool, true, false, List, [], ◌++◌, Option, Some, None, refl, sym, ◌∙◌, subst, append-nil, append_assoc}
use Rattle.awk_values.specs.declared.fault.Fault.{Fault}
use Rattle.sem_primitives.specs.InputParts.{to_come}
use Rattle.sem_primitives.specs.Jobs.{Opened, JobForm}
use Rattle.wasm_store.specs.Memories.{MemoryForm}
use Rattle.wasm_store.specs.declared.word.Word.{Word}
use Rattle.wasm_model.specs.Hosts.{Meaning}
use Rattle.wasm_model.specs.Machines.{Asks, Conf, Ends, Goes, ProgramForm, Turn, turn}
use Rattle.wasm_model.specs.Runs.{OverBy, Ran, RefusedAs, Steps, TakenAs}
use Rattle.wasm_model.specs.MachineRuns.{HasMore}
use Rattle.wasm_model.specs.declared.host.HostAnswer.{HostAnswer}
use Rattle.wasm_model.specs.declared.host.HostAnswer.TheVariants as told
use Rattle.wasm_model.specs.declared.ends.End.{End}
use Rattle.wasm_model.specs.declared.ends.RunEnd.{RunEnd}
use Rattle.wasm_model.specs.declared.ends.RunEnd.TheVariants.{Ended, NoMemory, OutOfSteps}
use Rattle.wasm_model.proofs.Chains.{no_memory}
use Rattle.world_core.specs.WorldState.{Action, Entry, Outside, Source, after as outside_after}
use Rattle.host_step.specs.HostState.{HostState}
use Rattle.host_step.specs.Starts.{state_in}
use Rattle.host_imports.specs.Imports.{import_at}
use Rattle.host_values.specs.Forms.{HostForm}
use Rattle.host_values.specs.Findings.{IsFound, ShownFirst, form_finding, nowhere}
use Rattle.host_values.specs.FormMeaning.{FormState, Told, Untold, form_meaning}
use Rattle.host_values.specs.Shown.{Shown}
use Rattle.host_values.proofs.Showing.{shown_fault}
use Rattle.agreement.specs.Modules.TableMeaning.{table_meaning}
use Rattle.agreement.proofs.RunsLemmas.Carried.{over_untold, same_state, steps_untold}
use Rattle.agreement.proofs.RunsLemmas.Following.{means_called, table_refused}
use Rattle.agreement.proofs.RunsLemmas.Outsides.{after_both}

-- From a state that one form shows to one that another shows there is a run of this kind, with this output; then these are found later.
pub record FindsTo (f1 : HostForm) (Runs : HostState → List Action → HostState → Type 0) (output : List Action) (s : HostState) (later : List Entry)
    (outside : Outside) (so_far : List Action) : Type 0 where
  pub rest : List Entry
  pub left : IsFound f1.fault [] later rest
  pub state : HostState
  pub shown : Shown (form_finding rest (outside_after output outside) (so_far ++ output) f1) state
  pub runs : Runs s output state

-- What is found on the way, with this output, whatever is found after it: there is such a run from every state that is shown then.
pub record Finds (f f1 : HostForm) (Runs : HostState → List Action → HostState → Type 0) (output : List Action) : Type 0 where
  pub found : List Entry
  pub leads : (finds later : List Entry) → IsFound f.fault found later finds → (outside : Outside) (so_far : List Action) (s : HostState)
      → Shown (form_finding finds outside so_far f) s → FindsTo f1 Runs output s later outside so_far

-- One after the other.

found_first : (o : Option Fault) (a b later finds : List Entry) → IsFound o (a ++ b) later finds → IsFound o a (b ++ later) finds
found_first None a b later finds e = e ∙ append_assoc a b later
found_first (Some f) a b later finds e = tt

found_then : (o : Option Fault) (b later finds : List Entry) → IsFound o [] (b ++ later) finds → IsFound o b later finds
found_then None b later finds e = e
found_then (Some f) b later finds e = tt

module _ (f f2 f1 : HostForm) (First Second : HostState → List Action → HostState → Type 0) (Both : HostState → List Action → HostState → Type 0)
    (joins : (s s2 s1 : HostState) (a b : List Action) → First s a s2 → Second s2 b s1 → Both s (a ++ b) s1) where
  both_shown : (rest : List Entry) (a b : List Action) (outside : Outside) (so_far : List Action) (s1 : HostState)
      → Shown (form_finding rest (outside_after b (outside_after a outside)) ((so_far ++ a) ++ b) f1) s1
      → Shown (form_finding rest (outside_after (a ++ b) outside) (so_far ++ (a ++ b)) f1) s1
  both_shown rest a b outside so_far s1 h =
      subst (λ (o : List Action). Shown (form_finding rest (outside_after (a ++ b) outside) o f1) s1) (append_assoc so_far a b)
      (subst (λ (o : Outside). Shown (form_finding rest o ((so_far ++ a) ++ b) f1) s1) (sym (after_both a b outside)) h)

  finds_then : (a b : List Action) → Finds f f2 First a → Finds f2 f1 Second b → Finds f f1 Both (a ++ b)
  finds_then a b x y = record {
    found = x.found ++ y.found;
    leads = λ finds later is outside so_far s h.
        let p = x.leads finds (y.found ++ later) (found_first f.fault x.found y.found later finds is) outside so_far s h in
        let q = y.leads p.rest later (found_then f2.fault y.found later p.rest p.left) (outside_after a outside) (so_far ++ a) p.state p.shown in
        record {
          rest = q.rest;
          left = q.left;
          state = q.state;
          shown = both_shown q.rest a b outside so_far q.state q.shown;
          runs = joins s p.state q.state a b p.runs q.runs;
        };
  }

-- where nothing happens
finds_none : (f f1 : HostForm) (Runs : HostState → List Action → HostState → Type 0) (output : List Action) → output ≡ [] → Told f1 ≡ Told f
    → ((s : HostState) → Runs s [] s) → Finds f f1 Runs output
finds_none f f1 Runs output nothing same runs = subst (Finds f f1 Runs) (sym nothing) (record {
  found = [];
  leads = λ finds later is outside so_far s h. record {
    rest = finds;
    left = subst (λ (z : HostForm). IsFound z.fault [] later finds) (sym (same_state f f1 same)) is;
    state = s;
    shown = subst (λ (o : List Action). Shown (form_finding finds outside o f1) s) (sym (append-nil so_far))
        (subst (λ (z : HostForm). Shown (form_finding finds outside so_far z) s) (sym (same_state f f1 same)) h);
    runs = runs s;
  };
})

module _ (tells : Type 0) where
  abbrev FM : Meaning FormState Action
  FM = form_meaning tells

  -- a call
  finds_call : (f f1 : HostForm) (n : ℕ) (words : List Word) (mem : MemoryForm) (a : HostAnswer) (mem1 : MemoryForm) (output : List Action) → a ≢ told.NoMemory
      → FM (Told f) n words mem a (Told f1) mem1 output → Finds f f1 (λ s out s1. table_meaning s n words mem a s1 mem1 out) output
  finds_call f f1 n words mem a mem1 output ne m =
      let c = (means_called tells (import_at n) f words mem.bytes a f1 output ne m.1).finds in
      record {
        found = c.found;
        leads = λ finds later is outside so_far s h. let x = c.leads finds later is outside so_far s h in
            record { rest = x.rest; left = x.left; state = x.to.state; shown = x.to.shown; runs = (m.0, x.to.step) };
      }

  -- a step
  finds_step : (t : Turn) (f f1 : HostForm) (mem : MemoryForm) (output : List Action) (c1 : Conf) → TakenAs FM t (Told f) mem output c1 (Told f1)
      → Finds f f1 (λ s out s1. TakenAs table_meaning t s mem out c1 s1) output
  finds_step (Goes c) f f1 mem output c1 r = finds_none f f1 (λ s out s1. TakenAs table_meaning (Goes c) s mem out c1 s1) output r.2 r.1 (λ s. (r.0, refl, refl))
  finds_step (Ends e) f f1 mem output c1 r = absurd r
  finds_step (Asks n ws c) f f1 mem output c1 r =
      let x = finds_call f f1 n ws mem (told.Done r.0) c1.memory output (λ q. cc) r.1 in
      record {
        found = x.found;
        leads = λ finds later is outside so_far s h. let y = x.leads finds later is outside so_far s h in
            record { rest = y.rest; left = y.left; state = y.state; shown = y.shown; runs = (r.0, y.runs, r.2) };
      }

  -- the last turn
  finds_end : (t : Turn) (f f1 : HostForm) (mem : MemoryForm) (output : List Action) (e : End) → OverBy FM t (Told f) mem output e (Told f1)
      → Finds f f1 (λ s out s1. OverBy table_meaning t s mem out e s1) output
  finds_end (Goes c) f f1 mem output e r = absurd r
  finds_end (Ends x) f f1 mem output e r = finds_none f f1 (λ s out s1. OverBy table_meaning (Ends x) s mem out e s1) output r.2 r.1 (λ s. (r.0, refl, refl))
  finds_end (Asks n ws c) f f1 mem output e r =
      let x = finds_call f f1 n ws mem (told.Trap r.0) r.1 output (λ q. cc) r.3 in
      record {
        found = x.found;
        leads = λ finds later is outside so_far s h. let y = x.leads finds later is outside so_far s h in
            record { rest = y.rest; left = y.left; state = y.state; shown = y.shown; runs = (r.0, r.1, r.2, y.runs) };
      }

  -- steps
  finds_steps : (m : ProgramForm) (n : ℕ) (c : Conf) (f : HostForm) (output : List Action) (c1 : Conf) (f1 : HostForm) → Steps FM m n c (Told f) output c1 (Told f1)
      → Finds f f1 (λ s out s1. Steps table_meaning m n c s out c1 s1) output
  finds_steps m zero c f output c1 f1 r = finds_none f f1 (λ s out s1. Steps table_meaning m zero c s out c1 s1) output r.2 r.1 (λ s. (r.0, refl, refl))
  finds_steps m (suc n) c f output c1 f1 r = by r.1 r.4 r.5 (λ f2. finds_steps m n r.0 f2 r.3 c1 f1)
    where
      by : (h1 : FormState) → TakenAs FM (turn m c) (Told f) c.memory r.2 r.0 h1 → Steps FM m n r.0 h1 r.3 c1 (Told f1)
          → ((f2 : HostForm) → Steps FM m n r.0 (Told f2) r.3 c1 (Told f1) → Finds f2 f1 (λ s out s1. Steps table_meaning m n r.0 s out c1 s1) r.3)
          → Finds f f1 (λ s out s1. Steps table_meaning m (suc n) c s out c1 s1) output
      by Untold t rest more = absurd (never (steps_untold tells m n r.0 r.3 c1 (Told f1) rest))
        where
          never : Told f1 ≡ Untold → ⊥
          never q = cc
      by (Told f2) t rest more =
          subst (Finds f f1 (λ s out s1. Steps table_meaning m (suc n) c s out c1 s1)) (sym r.6)
          (finds_then f f2 f1 (λ s out s1. TakenAs table_meaning (turn m c) s c.memory out r.0 s1) (λ s out s1. Steps table_meaning m n r.0 s out c1 s1)
          (λ s out s1. Steps table_meaning m (suc n) c s out c1 s1) (λ s s2 s1 a b one others. (r.0, s2, a, b, one, others, refl)) r.2 r.3
          (finds_step (turn m c) f f2 c.memory r.2 r.0 t) (more f2 rest))

  module _ (m : ProgramForm) (n : ℕ) (c : Conf) (f : HostForm) (output : List Action) (c1 : Conf) (f1 : HostForm) where
    -- A RUN that does not want memory
    pub finds_run : (r : RunEnd) → r ≢ NoMemory → Ran FM m n c (Told f) output r c1 (Told f1) → Finds f f1 (λ s out s1. Ran table_meaning m n c s out r c1 s1) output
    finds_run NoMemory ne r = absurd (ne refl)
    finds_run OutOfSteps ne r =
        let x = finds_steps m n c f output c1 f1 r.0 in
        record {
          found = x.found;
          leads = λ finds later is outside so_far s h. let y = x.leads finds later is outside so_far s h in
              record { rest = y.rest; left = y.left; state = y.state; shown = y.shown; runs = (y.runs, r.1) };
        }
    finds_run (Ended e) ne r = by r.3 r.6 r.7
      where
        by : (h1 : FormState) → Steps FM m r.0 c (Told f) r.4 r.2 h1 → OverBy FM (turn m r.2) h1 r.2.memory r.5 e (Told f1)
            → Finds f f1 (λ s out s1. Ran table_meaning m n c s out (Ended e) c1 s1) output
        by Untold steps over = absurd (never (over_untold tells (turn m r.2) r.2.memory r.5 e (Told f1) over))
          where
            never : Told f1 ≡ Untold → ⊥
            never q = cc
        by (Told f2) steps over =
            subst (Finds f f1 (λ s out s1. Ran table_meaning m n c s out (Ended e) c1 s1)) (sym r.8)
            (finds_then f f2 f1 (λ s out s1. Steps table_meaning m r.0 c s out r.2 s1) (λ s out s1. OverBy table_meaning (turn m r.2) s r.2.memory out e s1)
            (λ s out s1. Ran table_meaning m n c s out (Ended e) c1 s1)
            (λ s s2 s1 a b one other. (r.0, r.1, r.2, s2, a, b, one, other, refl)) r.4 r.5
            (finds_steps m r.0 c f r.4 r.2 f2 steps) (finds_end (turn m r.2) f2 f1 r.2.memory r.5 e over))

    -- one that does is the beginning of another, with what was put out before the step that wanted it
    pub finds_more : (r : Ran FM m n c (Told f) output NoMemory c1 (Told f1))
        → (f2 : HostForm) × Finds f f2 (λ s out s1. HasMore table_meaning m n c s out) r.4
    finds_more r = by r.3 r.7 r.8
      where
        untold : (asked : Bool) (there : Turn) → RefusedAs FM asked there Untold r.2.memory r.5 (Told f1) → ⊥
        untold false there q = never q.0
          where
            never : Told f1 ≡ Untold → ⊥
            never z = cc
        untold true (Goes d) q = q
        untold true (Ends x) q = q
        untold true (Asks i ws d) q = q.2

        more : (s s2 : HostState) (out : List Action) → Steps table_meaning m r.0 c s out r.2 s2 → HasMore table_meaning m n c s out
        more s s2 out steps = subst (HasMore table_meaning m n c s) (append-nil out)
            (no_memory table_meaning m table_refused n c s (out ++ []) r.2 s2 (r.0, r.1, r.2, s2, out, [], false, steps, (refl, refl), refl))

        by : (h2 : FormState) → Steps FM m r.0 c (Told f) r.4 r.2 h2 → RefusedAs FM r.6 (turn m r.2) h2 r.2.memory r.5 (Told f1)
            → (f2 : HostForm) × Finds f f2 (λ s out s1. HasMore table_meaning m n c s out) r.4
        by Untold steps refused = absurd (untold r.6 (turn m r.2) refused)
        by (Told f2) steps refused =
            let x = finds_steps m r.0 c f r.4 r.2 f2 steps in (
              f2,
              record {
                found = x.found;
                leads = λ finds later is outside so_far s h. let y = x.leads finds later is outside so_far s h in
                    record { rest = y.rest; left = y.left; state = y.state; shown = y.shown; runs = more s y.state r.4 y.runs };
              },
            )

-- From the beginning of a job.

all_found : (o : Option Fault) (found : List Entry) → IsFound o found [] (found ++ [])
all_found None found = refl
all_found (Some f) found = tt

-- what is found in a run, from the beginning of a job
pub from_start : (f f1 : HostForm) (Runs : HostState → List Action → HostState → Type 0) (job : JobForm) (input : Source) (outside : Outside)
    → ShownFirst f job input outside → (output : List Action) → Finds f f1 Runs output
    → (finds : List Entry) × (state : HostState) × (state.fault ≡ f1.fault) × Runs (state_in job to_come (Opened finds)) output state
from_start f f1 Runs job input outside begins output x =
    let finds = x.found ++ [] in
    let y = x.leads finds [] (all_found f.fault x.found) nowhere [] (state_in job to_come (Opened finds)) (begins.found finds) in
    (finds, y.state, shown_fault (form_finding y.rest (outside_after output nowhere) output f1) y.state y.shown, y.runs)
