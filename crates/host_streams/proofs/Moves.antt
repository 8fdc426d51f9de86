-- How what the private calls of the main input have in common is met.
use Rattle.std.proofs.Common.{◌≡◌, ◌≢◌, ◌∙◌, ℕ, List, false, Err, ap, arith, refl, sym}
use Rattle.awk_values.specs.declared.fault.Stop.TheVariants.{NoMemory}
use Rattle.world_core.specs.Calls.{Kind}
use Rattle.world_core.specs.WorldState.{State}
use Rattle.host_streams.specs.declared.main_input.Found.TheVariants.{NoneLeft}
use Rattle.host_streams.specs.declared.main_input.MainInput.{MainInput as Mains}
use Rattle.host_streams.specs.declared.main_input.Reading.TheVariants as reading
use Rattle.host_streams.specs.declared.reader.Phase.TheVariants.{Open}
use Rattle.host_streams.specs.MainMoves.{MovesMain, StepsMain, TakesOperand}
use Rattle.host_streams.specs.Mains.{HoldsMain, IsApartFrom}
use Rattle.host_streams.proofs.Passed.{none_skipped}

-- one call after another
pub moves_on : {tells : Type 0} {a b c : Mains} {k l m : ℕ → Kind} {s t u : State}
    → MovesMain tells a b k l s t → MovesMain tells b c l m t u → MovesMain tells a c k m s u
moves_on first last = record {
  held = last.held;
  spares = λ k apart was. let s = first.spares k apart was in let t = last.spares k s.1 (λ e. was (sym s.0 ∙ e)) in (t.0 ∙ s.0, t.1);
  no_others = λ k apart is. let t = last.no_others k apart is in let s = first.no_others k t.1 (λ e. is (sym t.0 ∙ e)) in (s.0 ∙ t.0, s.1);
  places = λ tells k own apart was.
      let s = first.spares k apart was in
      let now = last.places tells k own s.1 (λ e. was (sym s.0 ∙ e)) in
      let then = first.places tells k own apart was in (now.0 ∙ then.0, now.1 ∙ then.1);
  outside = λ tells. last.outside tells ∙ first.outside tells;
}

-- the world stays as it is
pub still : {tells : Type 0} {old new : Mains} {kinds : ℕ → Kind} {state state' : State} → HoldsMain new kinds
    → ((k : ℕ) → IsApartFrom k old.reading → IsApartFrom k new.reading) → ((k : ℕ) → IsApartFrom k new.reading → IsApartFrom k old.reading)
    → (tells → state' ≡ state) → MovesMain tells old new kinds kinds state state'
still held here back same = record {
  held = held;
  spares = λ k apart was. (refl, here k apart);
  no_others = λ k apart was. (refl, back k apart);
  places = λ tells k own apart was. (ap (λ (t : State). t.readers k) (same tells), ap (λ (t : State). t.writers k) (same tells));
  outside = λ tells. ap (λ (t : State). t.outside) (same tells);
}

-- short of memory nothing is done
module _ (m : Mains) where
  pub short_step : m.ended ≡ false → m.reading ≡ reading.Nothing → (n : ℕ) → StepsMain Open m (Err NoMemory) m n n
  short_step live idle n = record { goes_on = tt; count = refl; phase = (λ is. cc is, rw (live, idle) (λ is. cc is)); ends = (live, live); rests = tt }

  pub short_operand : m.found ≢ NoneLeft → (text : List ℕ) → TakesOperand text m (Err NoMemory) m
  short_operand left text = record {
    passes = λ texts e. (none_skipped texts m.next, refl);
    standard = refl;
    one = (omega arith, omega arith);
    answers = tt;
    idle = tt;
    named = left;
    more = λ count. tt;
    finds = λ later outside inner. tt;
  }
