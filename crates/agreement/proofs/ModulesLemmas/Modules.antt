-- A program and its module agree: what is told of a run is where the machine over values is, one step earlier.
use Rattle.std.proofs.Common.{◌≡◌, ◌≢◌, ℕ, zero, suc, ◌+◌, ◌-◌, ◌*◌, ◌^◌, ◌%◌, ◌<◌, ◌≤◌, nat_lt, Bool, true, false, cond, List, [], Option, Some, None, ℤ, pos, negsuc, unsigned_abs, w32, refl, sym, ap, ◌∙◌, subst, arith}
use Rattle.std.proofs.lemmas.Bool.{ltb-true}
use Rattle.std.specs.Int.{cast_signed, int_rem_euclid}
use Rattle.awk_values.specs.declared.fault.Fault.{Fault}
use Rattle.sem_primitives.specs.Jobs.{JobForm, Environment}
use Rattle.world_core.specs.WorldState.{Action, Source}
use Rattle.wasm_store.specs.declared.trap.TrapKind.{TrapKind}
use Rattle.wasm_store.specs.declared.word.Word.{Word}
use Rattle.wasm_store.specs.declared.word.Word.TheVariants.{I32, I64}
use Rattle.wasm_store.specs.Memories.{MemoryForm}
use Rattle.wasm_model.specs.Machines.{Goes, ProgramForm, Turn, turn}
use Rattle.wasm_model.specs.Runs.{IsWithin, OverBy, Ran, Steps, told_end, told_run}
use Rattle.wasm_model.specs.declared.ends.End.{End}
use Rattle.wasm_model.specs.declared.ends.End.TheVariants as ends
use Rattle.wasm_model.specs.declared.ends.RunEnd.{RunEnd}
use Rattle.wasm_model.specs.declared.ends.RunEnd.TheVariants.{Ended as HasEnded, OutOfSteps, NoMemory}
use Rattle.wasm_model.specs.declared.ends.MachineEnd.{MachineEnd}
use Rattle.wasm_model.specs.declared.ends.MachineEnd.TheVariants as machine
use Rattle.host_step.specs.HostState.{HostState}
use Rattle.host_step.specs.Starts.{state_in}
use Rattle.sem_scripts.specs.MoreTurns.{Grows, output_of}
use Rattle.mid_program.specs.Mid.{Program}
use Rattle.mid_program.specs.MidMeaning.{mid_run_in}
use Rattle.sem_scripts.specs.ScriptRun.{Setting, Ending, Ended, FaultedBy, GoesOn, Exhausted, setting_in}
use Rattle.lower_model.specs.Cells.{Cell, Bits, Held, LentArray, OwnedArray, IteratorOf, Gone}
use Rattle.lower_model.specs.Machine.{Conf, Run, Look, Over, Deep, Store, Stuck, ending_at, go, status_of}
use Rattle.lower_model.specs.Modules.{module_of}
use Rattle.lower_model.specs.Runs.{begun, code_of, value_run}
use Rattle.agreement.specs.Modules.TableMeaning.{table_meaning}
use Rattle.agreement.specs.Refined.Running.{SharesAs, TellsAs}
use Rattle.agreement.specs.Refined.Words.{WordAs, arrays_made}
use Rattle.agreement.proofs.RefinedLemmas.Beginning.{begins, begun_as, in_main, run_after}
use Rattle.agreement.proofs.RefinedLemmas.Growing.{arrays_grow}
use Rattle.agreement.proofs.RefinedLemmas.Links.{linked, program, program_is}
use Rattle.agreement.proofs.RefinedLemmas.Outputs.{run_adds}
use Rattle.agreement.proofs.RefinedLemmas.Telling.{tells_as}
use Rattle.agreement.specs.Modules.Agreement.{Agreement, Like, MayEnd, ModuleEnding, Trapped, ended_with, ending_told, output_in}
use Rattle.agreement.specs.Modules.ValueAgreement.{ValueAgreement}
use Rattle.agreement.specs.Modules.Over.{IsOver}

-- the low bits of a word are its number's remainder
status_low : (n : ℕ) → n < 2 ^ 32 → unsigned_abs (int_rem_euclid (cast_signed w32 n) (pos 256)) ≡ n % 256
status_low n small = by (nat_lt n (2 ^ 31)) refl
  where
    by : (b : Bool) → nat_lt n (2 ^ 31) ≡ b → unsigned_abs (int_rem_euclid (cond b (pos n) (negsuc (2 ^ 32 - suc n))) (pos 256)) ≡ n % 256
    by true e = refl
    by false e = omega (arith, small)

abbrev like_if : Option ModuleEnding → ModuleEnding → ModuleEnding
like_if None d = d
like_if (Some e) d = e

the_same : {d e : ModuleEnding} → Some d ≡ Some e → d ≡ e
the_same {d} h = ap (λ o. like_if o d) h

abbrev ending_or : Ending → Option Ending → Ending
ending_or d None = d
ending_or d (Some e) = e

one_ending : {d e : Ending} → Some d ≡ Some e → d ≡ e
one_ending {d} h = ap (ending_or d) h

abbrev as_script : Ending → ModuleEnding → Ending
as_script d (Like e) = e
as_script d (Trapped kind output) = d

like_same : {d e : Ending} → Like d ≡ Like e → d ≡ e
like_same {d} h = ap (as_script d) h

abbrev IsTrap : ModuleEnding → Type 0
IsTrap (Like e) = ⊥
IsTrap (Trapped kind output) = Unit {0}

-- What is told of an end, as the machine over values shows it.
module _ (state : HostState) (told : MachineEnd) (output : List Action) (e : ModuleEnding) (ending : ending_told state.fault told output ≡ Some e) (put : output ≡ state.shared.output) where
  same_output : (G : Store) → SharesAs G state → output ≡ G.host.shared.output
  same_output G h = put ∙ ap (λ (s : HostState). s.shared.output) h

  by_end : {t : MachineEnd} → told ≡ t → ending_told state.fault t output ≡ Some e
  by_end h = subst (λ (t : MachineEnd). ending_told state.fault t output ≡ Some e) h ending

  at_work : (G : Store) (g : Ending) → told ≡ machine.OutOfSteps → SharesAs G state → Some (GoesOn G.host.shared.output) ≡ Some g → e ≡ Like g
  at_work G g t h shows = sym (the_same (by_end t)) ∙ ap (λ o. Like (GoesOn o)) (same_output G h) ∙ ap Like (one_ending shows)

  returned : (z : ℤ) → told ≡ machine.Returned z → e ≡ Like (ended_with state.fault z output)
  returned z t = sym (the_same (by_end t))

  abbrev told_or : Option MachineEnd → MachineEnd
  told_or None = told
  told_or (Some t) = t

  some_told : {t : MachineEnd} → Some t ≡ Some told → told ≡ t
  some_told h = sym (ap told_or h)

  faulted : (G : Store) (f : Fault) (word : Word) → G.host.fault ≡ Some f → told_end (ends.Returned (Some word)) ≡ Some told → SharesAs G state → e ≡ Like (FaultedBy f G.host.shared.output)
  faulted G f (I32 n) kept t h =
      returned (cast_signed w32 n) (some_told t) ∙ ap (λ k. Like (ended_with k (cast_signed w32 n) output)) (ap (λ (s : HostState). s.fault) h ∙ kept) ∙ ap (λ o. Like (FaultedBy f o)) (same_output G h)
  faulted G f (I64 n) kept t h = cc

  status : (G : Store) (n : ℕ) (g : Ending) → G.host.fault ≡ None → told_end (ends.Returned (Some (I32 n))) ≡ Some told → SharesAs G state → status_of (Bits (I32 n)) G ≡ Some g → e ≡ Like g
  status G n g kept t h shows = by (nat_lt n (2 ^ 32)) refl shows
    where
      by : (b : Bool) → nat_lt n (2 ^ 32) ≡ b → cond b (Some (Ended (n % 256) G.host.shared.output)) None ≡ Some g → e ≡ Like g
      by true small s =
          returned (cast_signed w32 n) (some_told t) ∙ ap (λ k. Like (ended_with k (cast_signed w32 n) output)) (ap (λ (s : HostState). s.fault) h ∙ kept)
          ∙ ap (λ k. Like (Ended k output)) (status_low n (ltb-true n (2 ^ 32) small)) ∙ ap (λ o. Like (Ended (n % 256) o)) (same_output G h) ∙ ap Like (one_ending s)
      by false small s = cc

  over_at : (v : Cell) (G : Store) (g : Ending) (word : Word) → WordAs (arrays_made G.host) state.names v word → told_end (ends.Returned (Some word)) ≡ Some told → SharesAs G state → (f : Option Fault) → G.host.fault ≡ f →
      elim f [ Some fault ↦ Some (FaultedBy fault G.host.shared.output) | None ↦ status_of v G ] ≡ Some g → e ≡ Like g
  over_at v G g word w t h (Some f) kept shows = faulted G f word kept t h ∙ ap Like (one_ending shows)
  over_at (Bits (I32 n)) G g word w t h None kept shows = status G n g kept (subst (λ (x : Word). told_end (ends.Returned (Some x)) ≡ Some told) w t) h shows
  over_at (Bits (I64 n)) G g word w t h None kept shows = cc
  over_at (Held v) G g word w t h None kept shows = cc
  over_at (LentArray a) G g word w t h None kept shows = cc
  over_at (OwnedArray a) G g word w t h None kept shows = cc
  over_at (IteratorOf i) G g word w t h None kept shows = cc
  over_at Gone G g word w t h None kept shows = cc

  told_alike : (q : Conf) (g : Ending) → ending_at q ≡ Some g → TellsAs q told state → e ≡ Like g
  told_alike (Run ks vs K L F c G) g shows h = at_work G g h.0 h.1 shows
  told_alike (Look x ks vs K L F c G) g shows h = at_work G g h.0 h.1 shows
  told_alike (Over v G) g shows h = over_at v G g h.0 h.1 h.2 h.3 G.host.fault refl shows
  told_alike (Deep G) g shows h = sym (the_same (by_end h.0)) ∙ ap (λ o. Like (Exhausted o)) (same_output G h.1) ∙ ap Like (one_ending shows)
  told_alike Stuck g shows h = cc

-- memory was not wanting
not_wanting : (kept : Option Fault) (told : MachineEnd) (output : List Action) (e : ModuleEnding) → ending_told kept told output ≡ Some e → told ≢ machine.NoMemory
not_wanting kept told output e h n = let q = subst (λ (t : MachineEnd). ending_told kept t output ≡ Some e) n h in cc

abbrev told_in : MachineEnd → Option MachineEnd → MachineEnd
told_in d None = d
told_in d (Some t) = t

not_refused : (r : RunEnd) (told : MachineEnd) → told_run r ≡ Some told → told ≢ machine.NoMemory → r ≢ NoMemory
not_refused r told h ne n = ne (sym (ap (told_in told) (sym (ap told_run n) ∙ h)))

module _ (p : Program) (agree : ValueAgreement p) (job : JobForm) (input : Source) (outside : Environment) where
  abbrev s : Setting
  s = setting_in job input outside

  abbrev Ends : ℕ → ModuleEnding → Type 0
  Ends steps e = MayEnd (module_of p) job input outside steps e

  not_stuck : (n : ℕ) → go (code_of p 9999) n (begun p s) ≡ Stuck → ⊥
  not_stuck n h = let shows = agree.never_stuck s n in let q = sym (ap ending_at h) ∙ shows.1 in cc

  -- after n steps and the first, which calls `main`
  told_at : (n : ℕ) (g : Ending) → value_run p s n ≡ Some g → (e : ModuleEnding) → Ends (suc n) e → e ≡ Like g
  told_at n g shows e r =
      let enough = not_wanting r.state.fault r.told r.output e r.ending in
      let from_main = run_after table_meaning r.machine.program r.machine.conf (in_main p) (begins p r.machine r.is_new) n (state_in job input outside) r.output r.run-end r.conf r.state (not_refused r.run-end r.told r.telling enough) r.ran in
      let ran = subst (λ (m : ProgramForm). Ran table_meaning m n (in_main p) (state_in job input outside) r.output r.run-end r.conf r.state) (program_is p r.machine r.is_new) from_main in
      told_alike r.state r.told r.output e r.ending (sym (run_adds (program p) n (in_main p) (state_in job input outside) r.output r.run-end r.conf r.state ran)) (go (code_of p 9999) n (begun p s)) g shows
      (tells_as (linked p) arrays_grow n (begun p s) (not_stuck (suc n)) (in_main p) (state_in job input outside) r.told r.conf r.state (begun_as p s 9999) enough (r.output, r.run-end, r.telling, ran))

  none_taken : (e : ModuleEnding) → Ends zero e → e ≡ Like (GoesOn [])
  none_taken e r = by r.run-end r.telling (not_refused r.run-end r.told r.telling (not_wanting r.state.fault r.told r.output e r.ending)) r.ran
    where
      no_end : (t : Turn) → t ≡ Goes (in_main p) → (mem : MemoryForm) (h : HostState) (out : List Action) (x : End) (h1 : HostState) → OverBy table_meaning t h mem out x h1 → ⊥
      no_end t first mem h out x h1 over = subst (λ (u : Turn). OverBy table_meaning u h mem out x h1) first over

      none_within : (k : ℕ) (x : End) → IsWithin k zero x → k ≡ zero
      none_within k (ends.Returned w) l = omega (arith, l)
      none_within k (ends.Trapped kind) l = absurd (omega (arith, l))
      none_within k ends.Exhausted l = absurd (omega (arith, l))
      none_within k ends.Stuck l = absurd (omega (arith, l))

      by : (x : RunEnd) → told_run x ≡ Some r.told → x ≢ NoMemory → Ran table_meaning r.machine.program zero r.machine.conf (state_in job input outside) r.output x r.conf r.state → e ≡ Like (GoesOn [])
      by OutOfSteps t ne h =
          sym (the_same (subst (λ (y : MachineEnd). ending_told r.state.fault y r.output ≡ Some e) (sym (ap (told_in r.told) t)) r.ending)) ∙ ap (λ o. Like (GoesOn o)) h.0.2
      by (HasEnded x) t ne h = absurd (at_start h.0 (none_within h.0 x h.1) h.6)
        where
          at_start : (k : ℕ) → k ≡ zero → Steps table_meaning r.machine.program k r.machine.conf (state_in job input outside) h.4 h.2 h.3 → ⊥
          at_start zero e q = no_end (turn r.machine.program h.2) (ap (turn r.machine.program) q.0 ∙ begins p r.machine r.is_new) h.2.memory h.3 h.5 x r.state h.7
          at_start (suc k) e q = cc
      by NoMemory t ne h = absurd (ne refl)

  -- what a run shows, whatever its steps
  record Shows (steps : ℕ) (e : ModuleEnding) : Type 0 where
    shown : Ending
    same : e ≡ Like shown

  shows_as : (steps : ℕ) (e : ModuleEnding) → Ends steps e → Shows steps e
  shows_as zero e r = record { shown = GoesOn []; same = none_taken e r }
  shows_as (suc n) e r = let g = agree.never_stuck s n in record { shown = g.0; same = told_at n g.0 g.1 e r }

  one_run : (steps : ℕ) (e f : ModuleEnding) → Ends steps e → Ends steps f → e ≡ f
  one_run zero e f r q = none_taken e r ∙ sym (none_taken f q)
  one_run (suc n) e f r q = let g = agree.never_stuck s n in told_at n g.0 g.1 e r ∙ sym (told_at n g.0 g.1 f q)

  forward : (turns : ℕ) (e : Ending) → IsOver e → mid_run_in p s turns ≡ e →
      (enough : ℕ) × (enough ≤ (agree.bound + 1) * (turns + 1)) × ((steps : ℕ) (f : ModuleEnding) → enough ≤ steps → Ends steps f → f ≡ Like e)
  forward turns e over does =
      let h = agree.forward s turns e over does in (
        suc h.0,
        (let q = h.1 in let w : (agree.bound + 1) * (turns + 1) ≡ agree.bound * (turns + 1) + (turns + 1) = omega arith in omega (arith, q, w)),
        λ steps f le r. by steps f le r h.0 refl h.2,
      )
    where
      by : (steps : ℕ) (f : ModuleEnding) {enough : ℕ} → suc enough ≤ steps → Ends steps f → (k : ℕ) → k ≡ enough → ((n : ℕ) → k ≤ n → value_run p s n ≡ Some e) → f ≡ Like e
      by zero f le r k same later = absurd (omega (arith, le))
      by (suc n) f le r k same later = told_at n e (later n (omega (arith, le, same))) f r

  backward : (steps : ℕ) (e : Ending) → IsOver e → Ends steps (Like e) → (turns : ℕ) × (mid_run_in p s turns ≡ e)
  backward zero e over r = absurd (subst IsOver (like_same (none_taken (Like e) r)) over)
  backward (suc n) e over r =
      let g = agree.never_stuck s n in
      let same : e ≡ g.0 = like_same (told_at n g.0 g.1 (Like e) r) in
      agree.backward s n e over (g.1 ∙ ap (λ (x : Ending). Some x) (sym same))

  never_trapped : (steps : ℕ) (kind : TrapKind) (output : List Action) → Ends steps (Trapped kind output) → ⊥
  never_trapped steps kind output r = subst IsTrap (shows_as steps (Trapped kind output) r).same tt

  output_module : (steps : ℕ) (e : ModuleEnding) → Ends steps e → (turns : ℕ) × Grows (output_in e) (output_of (mid_run_in p s turns))
  output_module zero e r =
      (zero, subst (λ (x : ModuleEnding). Grows (output_in x) (output_of (mid_run_in p s zero))) (sym (none_taken e r)) (output_of (mid_run_in p s zero), refl))
  output_module (suc n) e r =
      let g = agree.never_stuck s n in
      let h = agree.output_machine s n g.0 g.1 in
      (h.0, subst (λ (x : ModuleEnding). Grows (output_in x) (output_of (mid_run_in p s h.0))) (sym (told_at n g.0 g.1 e r)) h.1)

  output_script : (turns : ℕ) →
      (enough : ℕ) × (enough ≤ (agree.bound + 1) * (turns + 1)) × ((steps : ℕ) (e : ModuleEnding) → enough ≤ steps → Ends steps e → Grows (output_of (mid_run_in p s turns)) (output_in e))
  output_script turns =
      let h = agree.output_program s turns in (
        suc h.0,
        (let q = h.1 in let w : (agree.bound + 1) * (turns + 1) ≡ agree.bound * (turns + 1) + (turns + 1) = omega arith in omega (arith, q, w)),
        λ steps e le r. by steps e le r h.0 refl h.2,
      )
    where
      by : (steps : ℕ) (e : ModuleEnding) {enough : ℕ} → suc enough ≤ steps → Ends steps e → (k : ℕ) → k ≡ enough →
          ((n : ℕ) (g : Ending) → k ≤ n → value_run p s n ≡ Some g → Grows (output_of (mid_run_in p s turns)) (output_of g)) → Grows (output_of (mid_run_in p s turns)) (output_in e)
      by zero e le r k same later = absurd (omega (arith, le))
      by (suc n) e le r k same later =
          let g = agree.never_stuck s n in
          subst (λ (x : ModuleEnding). Grows (output_of (mid_run_in p s turns)) (output_in x)) (sym (told_at n g.0 g.1 e r)) (later n g.0 (omega (arith, le, same)) g.1)

pub agreement : (p : Program) → ValueAgreement p → Agreement (mid_run_in p) (module_of p)
agreement p a = record {
  bound = a.bound + 1;
  one_run = one_run p a;
  forward = forward p a;
  backward = backward p a;
  never_trapped = never_trapped p a;
  output_module = output_module p a;
  output_script = output_script p a;
}
