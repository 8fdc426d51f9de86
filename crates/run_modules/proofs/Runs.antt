-- What a machine did is how the run of its module ended.
use Rattle.std.proofs.Common.{◌≡◌, ◌≢◌, ℕ, Option, Some, None, List, [], Err, true≢false, inl, inr, refl, sym, ap, ◌∙◌, subst}
use Rattle.std.specs.Result.{is_ok}
use Rattle.awk_values.specs.declared.fault.Fault.{Fault}
use Rattle.sem_primitives.specs.Jobs.{JobForm}
use Rattle.world_core.specs.Traces.{Call}
use Rattle.world_core.specs.WorldState.{Action, State}
use Rattle.wasm_types.specs.Syntax.{ModuleForm}
use Rattle.wasm_model.specs.Links.{IsNew}
use Rattle.wasm_model.specs.Machines.{Conf}
use Rattle.wasm_model.specs.Runs.{MachineForm}
use Rattle.wasm_model.specs.MachineRuns.{Did}
use Rattle.wasm_model.specs.declared.ends.MachineEnd.{MachineEnd}
use Rattle.wasm_model.specs.declared.ends.MachineEnd.TheVariants as machine
use Rattle.module_decoder.specs.Readers.{Fails}
use Rattle.module_decoder.specs.Reading.{module_at}
use Rattle.module_decoder.specs.declared.fault.DecodeFault.{DecodeFault}
use Rattle.module_decoder.specs.declared.fault.DecodeFault.TheVariants as decoding
use Rattle.module_decoder.proofs.CompleteModule.{module_again}
use Rattle.host_imports.specs.Imports.{host_finds}
use Rattle.host_values.specs.Forms.{HostForm}
use Rattle.host_values.specs.FormMeaning.{Told, form_meaning}
use Rattle.host_values.specs.Findings.{ShownFirst}
use Rattle.agreement.specs.Runs.ToldRuns.{FoundRun, ToldRun, done_output}
use Rattle.run_modules.specs.ModuleRun.{run_end, HasRun, IsGiven, IsRefused, IsRunOf, IsUntouched, Answers}
use Rattle.run_modules.specs.ModuleRunParts.{undecoded, RunAnswers, IsTyped, Unread}
use Rattle.run_report.specs.declared.end.Refusal.TheVariants.{Compile, Decode, Invalid, Link}
use Rattle.run_report.specs.declared.end.RunEnd.{RunEnd}
use Rattle.run_report.specs.declared.end.RunEnd.TheVariants as run
use Rattle.run_modules.proofs.Gave.{given_inside, none_given}

module _ (tells : Type 0) (given : List Action → Type 0) (whole : ModuleForm) (job : JobForm) (steps : ℕ) (before after : State) where
  -- what is told of an end is the run itself
  told : (kept : Option Fault) (t : MachineEnd) → IsRunOf tells given whole job steps before (run_end kept t) after
      → RunAnswers tells given whole job steps before (run_end kept t) after
  told (Some f) (machine.Returned n) r = r
  told None (machine.Returned n) r = r
  told kept (machine.Trapped kind) r = r
  told kept machine.OutOfSteps r = r
  told kept machine.Exhausted r = r
  told kept machine.NoMemory r = inl r

  pub did_answers : (a : MachineForm) → IsNew host_finds whole a → (f : HostForm) → ShownFirst f job (before.readers 0) before.outside → (t : MachineEnd) (c : Conf) (g : HostForm)
      (d : Did (form_meaning tells) a.program steps a.conf (Told f) t c (Told g)) → after.outside ≡ g.shared.outside
      → (tells → ToldRun whole job (before.readers 0) before.outside steps t g)
      → FoundRun whole job steps t g (done_output (form_meaning tells) a.program steps a.conf (Told f) d.0 d.1 c (Told g) d.3) → given d.0
      → RunAnswers tells given whole job steps before (run_end g.fault t) after
  did_answers a n f h t c g d o over there gave =
      told g.fault t (record {
        machine = a;
        is_new = n;
        start = f;
        begins = h;
        run-end = d.1;
        told = t;
        telling = d.2;
        conf = c;
        left = g;
        output = d.0;
        gave = gave;
        ran = d.3;
        answered = refl;
        outside = o;
        over_table = over;
        there = there;
      })

-- bytes that the decoder refuses are no module
no_module : (bytes : List ℕ) (f : DecodeFault) → module_at bytes ≡ Err f → IsRefused bytes (Decode f)
no_module bytes f e = (e, λ m r. true≢false (ap is_ok (sym (module_again bytes m r) ∙ e)))

pub undecoded_answers : (bytes : List ℕ) (f : DecodeFault) → Fails f (module_at bytes) → Unread bytes (undecoded f)
undecoded_answers bytes decoding.NoMemory r = tt
undecoded_answers bytes decoding.BadHeader r = no_module bytes decoding.BadHeader r
undecoded_answers bytes (decoding.Truncated n) r = no_module bytes (decoding.Truncated n) r
undecoded_answers bytes (decoding.BadSection n) r = no_module bytes (decoding.BadSection n) r
undecoded_answers bytes (decoding.BadInteger n) r = no_module bytes (decoding.BadInteger n) r
undecoded_answers bytes (decoding.BadOpcode n) r = no_module bytes (decoding.BadOpcode n) r
undecoded_answers bytes (decoding.Float n) r = no_module bytes (decoding.Float n) r
undecoded_answers bytes decoding.TooLarge r = no_module bytes decoding.TooLarge r

-- of a typed module that the bytes are
pub typed_answers : (tells : Type 0) (given : List Action → Type 0) (bytes : List ℕ) (job : JobForm) (steps : ℕ) (before after : State) (whole : ModuleForm) (e : RunEnd)
    → IsTyped bytes whole → RunAnswers tells given whole job steps before e after → Answers tells given bytes job steps before e after
typed_answers tells given bytes job steps before after whole (run.Refused (Compile f)) t r = absurd r
typed_answers tells given bytes job steps before after whole (run.Refused (Decode f)) t r = absurd r
typed_answers tells given bytes job steps before after whole (run.Refused (Invalid f)) t r = absurd r
typed_answers tells given bytes job steps before after whole (run.Refused (Link f)) t r = (record { whole = whole; read = t.0; typed = t.1; unlinked = r.0 }, r.1)
typed_answers tells given bytes job steps before after whole run.NoMemory t (inl r) = inl (record { whole = whole; read = t.0; typed = t.1; run = r })
typed_answers tells given bytes job steps before after whole run.NoMemory t (inr r) = inr r
typed_answers tells given bytes job steps before after whole (run.Ended n) t r = record { whole = whole; read = t.0; typed = t.1; run = r }
typed_answers tells given bytes job steps before after whole (run.Faulted f) t r = record { whole = whole; read = t.0; typed = t.1; run = r }
typed_answers tells given bytes job steps before after whole run.OutOfSteps t r = record { whole = whole; read = t.0; typed = t.1; run = r }
typed_answers tells given bytes job steps before after whole run.Exhausted t r = record { whole = whole; read = t.0; typed = t.1; run = r }
typed_answers tells given bytes job steps before after whole (run.Trapped k) t r = record { whole = whole; read = t.0; typed = t.1; run = r }

pub unread_answers : {W : Type 0} (tells : Type 0) (did : W → Call → W → Type 0) (world : W) (bytes : List ℕ) (job : JobForm) (steps : ℕ) (before : State)
    (e : RunEnd) → Unread bytes e → Answers tells (IsGiven did world world) bytes job steps before e before
unread_answers tells did world bytes job steps before (run.Refused (Compile f)) r = absurd r
unread_answers tells did world bytes job steps before (run.Refused (Decode f)) r = (r, (refl, none_given did world world refl))
unread_answers tells did world bytes job steps before (run.Refused (Invalid f)) r = (r, (refl, none_given did world world refl))
unread_answers tells did world bytes job steps before (run.Refused (Link f)) r = absurd r
unread_answers tells did world bytes job steps before run.NoMemory r = inr (refl, none_given did world world refl)
unread_answers tells did world bytes job steps before (run.Ended n) r = absurd r
unread_answers tells did world bytes job steps before (run.Faulted f) r = absurd r
unread_answers tells did world bytes job steps before run.OutOfSteps r = absurd r
unread_answers tells did world bytes job steps before run.Exhausted r = absurd r
unread_answers tells did world bytes job steps before (run.Trapped k) r = absurd r

-- What was known of an output, so that something else is.

pub untouched_so : (given known : List Action → Type 0) → ((output : List Action) → given output → known output) → (before after : State)
    → IsUntouched given before after → IsUntouched known before after
untouched_so given known so before after u = (u.0, so [] u.1)

module _ (tells : Type 0) (given known : List Action → Type 0) (so : (output : List Action) → given output → known output) (bytes : List ℕ) (job : JobForm)
    (steps : ℕ) (before after : State) where
  abbrev pub run_so : (whole : ModuleForm) (e : RunEnd) → IsRunOf tells given whole job steps before e after → IsRunOf tells known whole job steps before e after
  run_so whole e r = record {
    machine = r.machine;
    is_new = r.is_new;
    start = r.start;
    begins = r.begins;
    run-end = r.run-end;
    told = r.told;
    telling = r.telling;
    conf = r.conf;
    left = r.left;
    output = r.output;
    gave = so r.output r.gave;
    ran = r.ran;
    answered = r.answered;
    outside = r.outside;
    over_table = r.over_table;
    there = r.there;
  }

  abbrev pub has_so : (e : RunEnd) → HasRun tells given bytes job steps before e after → HasRun tells known bytes job steps before e after
  has_so e h = record { whole = h.whole; read = h.read; typed = h.typed; run = run_so h.whole e h.run }

  pub answers_so : (e : RunEnd) → Answers tells given bytes job steps before e after → Answers tells known bytes job steps before e after
  answers_so (run.Refused (Compile f)) r = r
  answers_so (run.Refused (Decode f)) r = (r.0, untouched_so given known so before after r.1)
  answers_so (run.Refused (Invalid f)) r = (r.0, untouched_so given known so before after r.1)
  answers_so (run.Refused (Link f)) r = (r.0, untouched_so given known so before after r.1)
  answers_so run.NoMemory (inl h) = inl (has_so run.NoMemory h)
  answers_so run.NoMemory (inr u) = inr (untouched_so given known so before after u)
  answers_so (run.Ended n) h = has_so (run.Ended n) h
  answers_so (run.Faulted f) h = has_so (run.Faulted f) h
  answers_so run.OutOfSteps h = has_so run.OutOfSteps h
  answers_so run.Exhausted h = has_so run.Exhausted h
  answers_so (run.Trapped k) h = has_so (run.Trapped k) h

-- a world around another
pub answers_inside : {V W : Type 0} (tells : Type 0) (told : W → State) (did : W → Call → W → Type 0) (old new : V) (inside : V → W) (first last : W)
    → inside old ≡ first → last ≡ inside new → (bytes : List ℕ) (job : JobForm) (steps : ℕ) (e : RunEnd)
    → Answers tells (IsGiven (λ a call b. did (inside a) call (inside b)) old new) bytes job steps (told (inside old)) e (told (inside new))
    → Answers tells (IsGiven did first last) bytes job steps (told first) e (told last)
answers_inside {W = W} tells told did old new inside first last begins ends bytes job steps e r =
    subst (λ (w : W). Answers tells (IsGiven did w last) bytes job steps (told w) e (told last)) begins
    (subst (λ (w : W). Answers tells (IsGiven did (inside old) w) bytes job steps (told (inside old)) e (told w)) (sym ends)
    (answers_so tells (IsGiven (λ a call b. did (inside a) call (inside b)) old new) (IsGiven did (inside old) (inside new)) (given_inside did inside old new)
    bytes job steps (told (inside old)) (told (inside new)) e r))
