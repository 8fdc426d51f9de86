-- A run that was taken a step at a time is one run.
use Rattle.std.proofs.Common.{◌≡◌, ◌≢◌, ◌≤◌, ◌<◌, ◌+◌, ◌-◌, ◌^◌, ℕ, List, ◌∷◌, Option, Some, None, refl, sym, ap, ◌∙◌, subst, arith}
use Rattle.std.specs.Prelude.{MatchOption, max}
use Rattle.wasm_model.specs.Hosts.{Meaning}
use Rattle.wasm_model.specs.Machines.{Conf, ProgramForm}
use Rattle.wasm_model.specs.MachineRuns.{Did}
use Rattle.wasm_model.specs.declared.ends.MachineEnd.{MachineEnd}
use Rattle.wasm_model.specs.declared.ends.MachineEnd.TheVariants as told
use Rattle.wasm_model.proofs.Chains.{did_less}
use Rattle.host_values.specs.Forms.{HostForm}
use Rattle.host_values.specs.FormMeaning.{Told, form_meaning}
use Rattle.wasm_machine.specs.Places.{StandsAt, frame_at}
use Rattle.wasm_machine.specs.declared.places.Place.{Place}
use Rattle.run_modules.specs.Counted.{Stepped, values_in}
use Rattle.script_places.specs.Passes.{Moment}
use Rattle.run_modules.specs.Tallied.{IsTallied}
use Rattle.script_places.specs.Tallies.{AreTallied, more_if}
use Rattle.script_places.proofs.Tallying.{tallied_more}

-- a run of as many steps as were given, if it did not end before
module _ {H O : Type 0} (M : Meaning H O) (m : ProgramForm) (c : Conf) (h : H) (steps taken : ℕ) (within : taken ≤ steps) (c' : Conf) (h' : H) where
  longer : (e : MachineEnd) → e ≢ told.OutOfSteps → Did M m taken c h e c' h' → Did M m steps c h e c' h'
  longer e ne d =
      let all : taken + (steps - taken) ≡ steps = omega (arith, within) in
      subst (λ (n : ℕ). Did M m n c h e c' h') all (did_less M m taken (steps - taken) c h e c' h' ne d)

  pub as_given : (e : MachineEnd) → (e ≡ told.OutOfSteps → taken ≡ steps) → Did M m taken c h e c' h' → Did M m steps c h e c' h'
  as_given told.OutOfSteps over d = subst (λ (n : ℕ). Did M m n c h told.OutOfSteps c' h') (over refl) d
  as_given (told.Returned n) over d = longer (told.Returned n) (λ q. cc) d
  as_given (told.Trapped k) over d = longer (told.Trapped k) (λ q. cc) d
  as_given told.Exhausted over d = longer told.Exhausted (λ q. cc) d
  as_given told.NoMemory over d = longer told.NoMemory (λ q. cc) d

-- One more step, which is counted.

-- what is told of the frame at work is where it stands
at_work : (m : ProgramForm) (c : Conf) (place : Option Place) → MatchOption place (frame_at c 0 ≡ None) (λ p. StandsAt m.whole p (frame_at c 0))
    → (p : Place) × (place ≡ Some p) × StandsAt m.whole p (Some c.frame)
at_work m c None none = let no : Some c.frame ≡ None = none in absurd cc
at_work m c (Some p) stands = (p, refl, stands)

pub next_step : (tells : Type 0) (m : ProgramForm) (taken : ℕ) (start : Conf) (first : HostForm) (e : MachineEnd) (c : Conf) (h : HostForm) (rows after : List (List ℕ)) (values most : ℕ) (place : Option Place) (live : ℕ)
    (e' : MachineEnd) (c' : Conf) (h' : HostForm) → IsTallied tells m taken taken start first e c h rows values → e ≡ told.OutOfSteps → taken + 1 < 2 ^ 64
    → MatchOption place (frame_at c 0 ≡ None) (λ p. StandsAt m.whole p (frame_at c 0)) → live ≡ values_in h → Did (form_meaning tells) m 1 c (Told h) e' c' (Told h')
    → after ≡ more_if rows place → most ≡ max live values → IsTallied tells m (taken + 1) (taken + 1) start first e' c' h' after most
next_step tells m taken start first e c h rows after values most place live e' c' h' t out short found alive did counted greater =
    let here = at_work m c place found in
    let x : Moment = record { place = here.0; values = live } in
    let size = t.count in
    record {
      moments = x ∷ t.moments;
      stepped = (c, h, subst (λ (z : MachineEnd). Stepped tells m start first t.moments z c h) out t.stepped, here.2, alive, did);
      count = omega (arith, size);
      within = omega arith;
      over = λ q. refl;
      tallied = subst (AreTallied (x ∷ t.moments)) (sym (counted ∙ ap (more_if rows) here.1)) (tallied_more t.moments x rows (omega (arith, size, short)) t.tallied);
      most = greater ∙ ap (max live) t.most;
    }

-- what was tallied up to the end, of a run of as many steps as were given
pub over : (tells : Type 0) (m : ProgramForm) (steps taken : ℕ) (start : Conf) (first : HostForm) (e : MachineEnd) (c : Conf) (h : HostForm) (rows : List (List ℕ)) (values : ℕ)
    → IsTallied tells m taken taken start first e c h rows values → taken ≤ steps → (e ≡ told.OutOfSteps → taken ≡ steps) → IsTallied tells m steps taken start first e c h rows values
over tells m steps taken start first e c h rows values t within all = record {
  moments = t.moments;
  stepped = t.stepped;
  count = t.count;
  within = within;
  over = all;
  tallied = t.tallied;
  most = t.most;
}
