-- Where memory was wanting, the output is how the output of a longer run begins, over a host of the table.
use Rattle.std.proofs.Common.{◌≡◌, ◌≢◌, ℕ, suc, ◌<◌, List, ◌++◌, Bool, true, false, refl, sym, ap, ◌∙◌, subst, append_assoc, arith}
use Rattle.wasm_store.specs.Memories.{MemoryForm}
use Rattle.wasm_store.specs.declared.word.Word.{Word}
use Rattle.wasm_model.specs.Hosts.{Meaning}
use Rattle.wasm_model.specs.Machines.{Asks, Conf, Ends, Goes, ProgramForm, Turn, turn}
use Rattle.wasm_model.specs.Runs.{IsNoTrap, OverBy, Ran, RefusedAs, Steps}
use Rattle.wasm_model.specs.MachineRuns.{HasMore}
use Rattle.wasm_model.specs.declared.host.HostAnswer.{HostAnswer}
use Rattle.wasm_model.specs.declared.host.HostAnswer.TheVariants as told
use Rattle.wasm_model.specs.declared.ends.End.TheVariants as ends
use Rattle.wasm_model.specs.declared.ends.RunEnd.TheVariants.{Ended, NoMemory}
use Rattle.wasm_model.proofs.Chains.{no_memory}
use Rattle.world_core.specs.WorldState.{Action, after as outside_after}
use Rattle.host_step.specs.HostState.{HostState}
use Rattle.host_step.specs.HostStep.{StepIf}
use Rattle.host_imports.specs.Imports.{import_at}
use Rattle.host_values.specs.Forms.{HostForm}
use Rattle.host_values.specs.FormMeaning.{FormState, Told, Untold, form_meaning}
use Rattle.host_values.specs.Shown.{form_with_output}
use Rattle.host_values.proofs.Showing.{shown_outside}
use Rattle.agreement.specs.Modules.TableMeaning.{table_meaning}
use Rattle.agreement.proofs.RunsLemmas.Carried.{StepsTo, same_state, steps_carried}
use Rattle.agreement.proofs.RunsLemmas.Following.{ShownAfter, table_follows, table_refused}
use Rattle.agreement.proofs.RunsLemmas.Outsides.{call_makes, makes_both, steps_make}

-- a run that begins so, and more of it
shorter : (m : ProgramForm) (n : ℕ) (c : Conf) (s : HostState) (a b xs : List Action) → HasMore table_meaning m n c s (a ++ (b ++ xs))
    → HasMore table_meaning m n c s (a ++ b)
shorter m n c s a b xs h = (
  h.0,
  h.1,
  xs ++ h.2,
  h.3,
  h.4,
  h.5,
  h.6,
  subst (λ (o : List Action). Ran table_meaning m h.0 c s o h.3 h.4 h.5)
      (ap (λ (o : List Action). o ++ h.2) (sym (append_assoc a b xs)) ∙ append_assoc (a ++ b) xs h.2) h.7,
)

module _ (tells : Type 0) (t : tells) (m : ProgramForm) (n : ℕ) (c : Conf) (f : HostForm) (so_far : List Action) (s : HostState) (now : ShownAfter so_far f s) where
  abbrev FM : Meaning FormState Action
  FM = form_meaning tells

  -- what the names outside hold is what the output makes of it
  abbrev pub Wants : List Action → HostForm → Type 0
  Wants output f1 = HasMore table_meaning m n c s output × (f1.shared.outside ≡ outside_after output s.shared.outside)

  -- the step for which memory was wanting
  module _ (k : ℕ) (less : k < n) (c2 : Conf) (f2 : HostForm) (out1 out2 : List Action) (x : StepsTo tells table_meaning ShownAfter (table_follows tells t) m k c s so_far out1 c2 f2) where
    abbrev s2 : HostState
    s2 = x.state

    from_there : (asked : Bool) (turn-there : Turn) (s3 : HostState) → turn m c2 ≡ turn-there → (out : List Action)
        → RefusedAs table_meaning asked turn-there s2 c2.memory out s3 → HasMore table_meaning m n c s (out1 ++ out)
    from_there asked turn-there s3 e out r = no_memory table_meaning m table_refused n c s (out1 ++ out) c2 s3 (
      k,
      less,
      c2,
      s2,
      out1,
      out,
      asked,
      x.steps,
      subst (λ (z : Turn). RefusedAs table_meaning asked z s2 c2.memory out s3) (sym e) r,
      refl,
    )

    outside_there : s2.shared.outside ≡ f2.shared.outside
    outside_there = shown_outside (form_with_output (so_far ++ out1) f2) s2 x.shows

    -- what the names hold once the output of this step is added
    outside_then : (f1 : HostForm) → f1.shared.outside ≡ outside_after out2 s2.shared.outside → f1.shared.outside ≡ outside_after (out1 ++ out2) s.shared.outside
    outside_then f1 = makes_both s s2 (record s2 { shared = record s2.shared { outside = f1.shared.outside } }) out1 out2 (out1 ++ out2) refl
        (steps_make m k c s out1 c2 s2 x.steps)

    other_turn : (i : ℕ) (ws : List Word) (d : Conf) → turn m c2 ≡ Asks i ws d → (a : HostAnswer) → a ≢ told.NoMemory → (s3 : HostState) (rest : List Action)
        → StepIf (import_at i) s2 ws c2.memory.bytes a s3 (out2 ++ rest) → HasMore table_meaning m n c s (out1 ++ out2)
    other_turn i ws d e (told.Done w) ne s3 rest step =
        shorter m n c s out1 out2 rest (from_there true (Asks i ws d) s3 e (out2 ++ rest) (told.Done w, c2.memory, (refl, step), tt))
    other_turn i ws d e (told.Trap kind) ne s3 rest step = (
      suc k,
      omega (arith, less),
      rest,
      Ended (ends.Trapped kind),
      c2,
      s3,
      (λ z. cc),
      (k, omega arith, c2, s2, out1, out2 ++ rest, x.steps, subst (λ (z : Turn). OverBy table_meaning z s2 c2.memory (out2 ++ rest) (ends.Trapped kind) s3) (sym e) (kind, c2.memory, refl, (refl, step)), append_assoc out1 out2 rest),
    )
    other_turn i ws d e told.NoMemory ne s3 rest step = absurd (ne refl)

    asked_there : (f1 : HostForm) (i : ℕ) (ws : List Word) (d : Conf) → turn m c2 ≡ Asks i ws d → (a : HostAnswer) (mem' : MemoryForm)
        → FM (Told f2) i ws c2.memory a (Told f1) mem' out2 → IsNoTrap a → Wants (out1 ++ out2) f1
    asked_there f1 i ws d e (told.Done w) mem' means no_trap =
        let y = table_follows tells t f2 f1 i ws c2.memory (told.Done w) mem' out2 (so_far ++ out1) s2 (λ q. cc) means x.shows in (
          from_there true (Asks i ws d) y.0 e out2 (told.Done w, mem', y.2, tt),
          outside_then f1 (sym (shown_outside (form_with_output ((so_far ++ out1) ++ out2) f1) y.0 y.1)
              ∙ call_makes (import_at i) s2 ws c2.memory.bytes (told.Done w) y.0 out2 y.2.1),
        )
    asked_there f1 i ws d e (told.Trap kind) mem' means no_trap = absurd no_trap
    asked_there f1 i ws d e told.NoMemory mem' means no_trap =
        let o = means.1.begins t (so_far ++ out1) s2 x.shows in
        (other_turn i ws d e o.answer o.answered o.state o.rest o.step, outside_then f1 (means.1.outside t (so_far ++ out1) s2 x.shows))

    -- however far it came
    by_turn : (f1 : HostForm) (asked : Bool) (turn-there : Turn) → turn m c2 ≡ turn-there → RefusedAs FM asked turn-there (Told f2) c2.memory out2 (Told f1)
        → Wants (out1 ++ out2) f1
    by_turn f1 false turn-there e r = (
      from_there false turn-there s2 e out2 (refl, r.1),
      outside_then f1 (ap (λ (z : HostForm). z.shared.outside) (same_state f2 f1 r.0) ∙ (sym outside_there ∙ ap (λ (o : List Action). outside_after o s2.shared.outside) (sym r.1))),
    )
    by_turn f1 true (Goes d) e r = absurd r
    by_turn f1 true (Ends x) e r = absurd r
    by_turn f1 true (Asks i ws d) e r = asked_there f1 i ws d e r.0 r.1 r.2 r.3

  -- A RUN that wanted memory
  pub wanted : (output : List Action) (c1 : Conf) (f1 : HostForm) → Ran FM m n c (Told f) output NoMemory c1 (Told f1) → Wants output f1
  wanted output c1 f1 r = subst (λ (o : List Action). Wants o f1) (sym r.9) (by r.3 r.7 r.8)
    where
      untold : (asked : Bool) (turn-there : Turn) → RefusedAs FM asked turn-there Untold r.2.memory r.5 (Told f1) → ⊥
      untold false turn-there q = never q.0
        where
          never : Told f1 ≡ Untold → ⊥
          never z = cc
      untold true (Goes d) q = q
      untold true (Ends x) q = q
      untold true (Asks i ws d) q = q.2

      by : (h2 : FormState) → Steps FM m r.0 c (Told f) r.4 r.2 h2 → RefusedAs FM r.6 (turn m r.2) h2 r.2.memory r.5 (Told f1) → Wants (r.4 ++ r.5) f1
      by Untold steps refused = absurd (untold r.6 (turn m r.2) refused)
      by (Told f2) steps refused =
          by_turn r.0 r.1 r.2 f2 r.4 r.5 (steps_carried tells table_meaning ShownAfter (table_follows tells t) m r.0 c f r.4 r.2 f2 so_far s now steps)
          f1 r.6 (turn m r.2) refl refused
