use Rattle.std.proofs.Common.{◌∙◌, ℕ, Bool, List, [], Some, None, ap, refl, sym}
use Rattle.world_core.specs.WorldState.{Source}
use Rattle.sem_primitives.specs.MainInput.{follows, main_input}
use Rattle.sem_primitives.specs.InputParts.{to_come}
use Rattle.sem_primitives.specs.SharedState.{MainInput, NoneLeft, Standard}
use Rattle.host_streams.specs.MainFinds.{found_in, main_finding}
use Rattle.host_streams.specs.Mains.{begun, operands_of, with_main}
use Rattle.host_streams.specs.Readers.{left}
use Rattle.host_streams.specs.declared.main_input.Found.{Found}
use Rattle.host_streams.specs.declared.main_input.Found.TheVariants.{NoFile}
use Rattle.host_streams.proofs.MainFound.{rests_found}
use Rattle.host_streams.proofs.MainSteps.{follow_at, resting}
use Rattle.host_streams.proofs.Moves.{short_step}
use Rattle.host_streams.proofs.Refused.{is_stop}
use Rattle.host_streams.proofs.main_input.MainInput.follow.Goals as goal

pub returns-in-NoFile-clause-finds : goal.returns-in-NoFile-clause-finds
returns-in-NoFile-clause-finds c = λ later outside inner.
    let old = c.args.self.now in
    let s : Source = left old.standard to_come in
    let standard : Bool → MainInput = λ b. record { standard = s; next = old.next; operands = NoneLeft; reading = Some Standard; ended = b } in
    ap (λ (f : Found). follows (operands_of f) (main_finding later old inner)) c.in-NoFile.is
    ∙ ap (λ (m : MainInput). follows (operands_of NoFile) (with_main m (found_in later inner)))
    (rests_found old c.requires.idle c.requires.live ∙ ap (resting s old.next) c.in-NoFile.is)
    ∙ follow_at outside (found_in later inner) s old.next None
    ∙ ap (λ (b : Bool). main_input outside (begun [] (with_main (standard b) (found_in later inner)))) (sym c.requires.live)
    ∙ ap (λ (name : List ℕ). main_input outside (begun name (with_main (standard old.ended) (found_in later inner)))) (sym c.in_ok-name.ensures)

pub returns-in_err-name : goal.returns-in_err-name
returns-in_err-name c = rw (is_stop c.from_residual.result c.from_residual.ensures.1) (record {
  standard = refl;
  held = λ kinds. rw c.requires.idle tt;
  whole = rw c.requires.idle c.requires.whole;
  apart = λ k. rw c.requires.idle tt;
  told = λ state inner. refl;
  steps = short_step c.args.self.now c.requires.live c.requires.idle;
  next = refl;
  follows = refl;
  finds = λ later outside inner. tt;
})
