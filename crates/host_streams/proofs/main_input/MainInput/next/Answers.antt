use Rattle.std.proofs.Common.{◌∙◌, ℕ, sym, subst, Err, Ok, Option, Some}
use Rattle.awk_values.specs.Values.{number_of_value}
use Rattle.host_streams.specs.Mains.{main_in, main_phase}
use Rattle.host_streams.specs.Passing.{HandsMain}
use Rattle.host_streams.specs.declared.main_input.MainNext.{MainNext}
use Rattle.host_streams.specs.MainFinds.{FindsStep}
use Rattle.host_streams.proofs.Moves.{moves_on}
use Rattle.host_streams.proofs.MainFound.{finds_since, found_on}
use Rattle.host_streams.proofs.MainSteps.{none_since, phase_since, same_break, told_since}
use Rattle.host_streams.proofs.Passed.{hands_since, more_since, none_hands, none_skips, passes_since, skips_since, so_far_on, some_hands, some_passes, standard_since, there_since}
use Rattle.host_streams.proofs.Given.{none_then}
use Rattle.host_streams.proofs.main_input.MainInput.next.Goals as goal

pub steps-preserved : goal.steps-preserved
steps-preserved g c =
    let step = c.in-Ok-None.ensures in
    let before = c.steps.invariant in
    let ends = none_since c.in-Ok-None.field-0-is step.steps.ends in
    let passes = none_skips (g.O.Operands.text c.args.operands.now) c.steps.self.next c.step.new.self.next c.steps.self.found c.step.new.self.found c.in-Ok-None.field-0-is step.passes in
    let so = so_far_on _ c.args.self.now c.steps.self c.step.new.self before.so step.standard (none_hands _ c.steps.self c.step.new.self c.in-Ok-None.field-0-is step.handed) in record {
      gives = none_then g.W.World.did _ _ _ c.steps.invariant.gives c.in-Ok-None.ensures.gives;
      moves = moves_on before.moves step.moves;
      count = step.steps.count ∙ before.count;
      phase = same_break _ _ step.steps.phase ∙ before.phase;
      ended = ends.1 ∙ sym ends.0 ∙ before.ended;
      so = so;
      standard = standard_since _ c.args.self.now c.steps.self c.step.new.self before.so before.standard step.standard;
      skips = skips_since (g.O.Operands.text c.args.operands.now) c.args.self.now.next c.steps.self.next c.step.new.self.next before.skips passes.0;
      found = passes.1 ∙ before.found;
      there = there_since (number_of_value c.args.argc.now) c.args.self.now.next c.steps.self.next c.step.new.self.next before.there step.there;
      finds = found_on _ c.args.argc.now (g.O.Operands.text c.args.operands.now) c.args.self.now c.steps.self c.step.new.self c.in-Ok-None.field-0-is before.finds step.finds;
      told = λ tells inner asked offered.
          told_since (main_in c.steps.self (g.W.World.state c.steps.world) inner)
          (main_in c.step.new.self (g.W.World.state c.step.new.world) inner) c.in-Ok-None.field-0-is
          (before.moves.outside tells) (before.told tells inner asked offered) (step.told tells inner asked offered);
    }

pub returns-in-Err-clause-phase : goal.returns-in-Err-clause-phase
returns-in-Err-clause-phase g c = phase_since _ (main_phase c.args.self.now) (main_phase c.steps.self) _ c.steps.invariant.phase c.in-Err.ensures.steps.phase

pub returns-in-Err-clause-handed : goal.returns-in-Err-clause-handed
returns-in-Err-clause-handed g c =
    subst (λ (rs : Option ℕ). HandsMain rs c.args.self.now (Err c.in-Err.stop) c.step.new.self) c.first_byte-separator.ensures
    (hands_since _ c.args.self.now c.steps.self c.step.new.self (Err c.in-Err.stop) c.steps.invariant.so c.in-Err.ensures.standard c.in-Err.ensures.handed)

pub returns-in-Err-clause-finds : goal.returns-in-Err-clause-finds
returns-in-Err-clause-finds g c =
    subst (λ (rs : Option ℕ). FindsStep rs c.args.argc.now (g.O.Operands.text c.args.operands.now) c.args.self.now (Err c.in-Err.stop) c.step.new.self) c.first_byte-separator.ensures
    (finds_since _ c.args.argc.now (g.O.Operands.text c.args.operands.now) c.args.self.now c.steps.self c.step.new.self (Err c.in-Err.stop) c.steps.invariant.finds c.in-Err.ensures.finds)

pub returns-in-Ok-Some-clause-finds : goal.returns-in-Ok-Some-clause-finds
returns-in-Ok-Some-clause-finds g c =
    subst (λ (rs : Option ℕ). FindsStep rs c.args.argc.now (g.O.Operands.text c.args.operands.now) c.args.self.now (Ok (Some c.in-Ok-Some.answer)) c.step.new.self) c.first_byte-separator.ensures
    (finds_since _ c.args.argc.now (g.O.Operands.text c.args.operands.now) c.args.self.now c.steps.self c.step.new.self (Ok (Some c.in-Ok-Some.answer)) c.steps.invariant.finds
    (subst (λ (o : Option MainNext). FindsStep c.first_byte-separator.result c.args.argc.now (g.O.Operands.text c.args.operands.now) c.steps.self (Ok o) c.step.new.self) c.in-Ok-Some.field-0-is c.in-Ok-Some.ensures.finds))

pub returns-in-Err-clause-passes : goal.returns-in-Err-clause-passes
returns-in-Err-clause-passes g c =
    passes_since _ (g.O.Operands.text c.args.operands.now) c.args.self.now c.steps.self c.step.new.self (Err c.in-Err.stop) c.steps.invariant.so c.steps.invariant.skips c.steps.invariant.found c.in-Err.ensures.handed c.in-Err.ensures.passes

pub returns-in-Err-clause-there : goal.returns-in-Err-clause-there
returns-in-Err-clause-there g c = there_since (number_of_value c.args.argc.now) c.args.self.now.next c.steps.self.next c.step.new.self.next c.steps.invariant.there c.in-Err.ensures.there

pub returns-in-Err-clause-more : goal.returns-in-Err-clause-more
returns-in-Err-clause-more g c = more_since (number_of_value c.args.argc.now) c.args.self.now c.steps.self c.step.new.self (Err c.in-Err.stop) c.steps.invariant.ended c.steps.invariant.found c.in-Err.ensures.more

pub returns-in-Err-clause-standard : goal.returns-in-Err-clause-standard
returns-in-Err-clause-standard g c = standard_since _ c.args.self.now c.steps.self c.step.new.self c.steps.invariant.so c.steps.invariant.standard c.in-Err.ensures.standard

pub returns-in-Ok-Some-clause-passes : goal.returns-in-Ok-Some-clause-passes
returns-in-Ok-Some-clause-passes g c =
    let some = c.in-Ok-Some.field-0-is in
    let passes = some_passes (g.O.Operands.text c.args.operands.now) c.steps.self.next c.step.new.self.next c.steps.self.found c.step.new.self.found c.in-Ok-Some.answer some c.in-Ok-Some.ensures.passes in
    passes_since _ (g.O.Operands.text c.args.operands.now) c.args.self.now c.steps.self c.step.new.self (Ok c.in-Ok-Some.answer) c.steps.invariant.so c.steps.invariant.skips c.steps.invariant.found (some_hands _ c.steps.self c.step.new.self c.in-Ok-Some.answer some c.in-Ok-Some.ensures.handed) passes

pub returns-in-Ok-Some-clause-spares : goal.returns-in-Ok-Some-clause-spares
returns-in-Ok-Some-clause-spares g c = (moves_on c.steps.invariant.moves c.step.ensures.moves).spares

pub returns-in-Ok-Some-clause-no_others : goal.returns-in-Ok-Some-clause-no_others
returns-in-Ok-Some-clause-no_others g c = (moves_on c.steps.invariant.moves c.step.ensures.moves).no_others

pub returns-in-Ok-Some-clause-outside : goal.returns-in-Ok-Some-clause-outside
returns-in-Ok-Some-clause-outside g c = (moves_on c.steps.invariant.moves c.step.ensures.moves).outside

pub returns-in-Ok-Some-clause-places : goal.returns-in-Ok-Some-clause-places
returns-in-Ok-Some-clause-places g c = (moves_on c.steps.invariant.moves c.step.ensures.moves).places

pub returns-in-Err-clause-spares : goal.returns-in-Err-clause-spares
returns-in-Err-clause-spares g c = (moves_on c.steps.invariant.moves c.step.ensures.moves).spares

pub returns-in-Err-clause-no_others : goal.returns-in-Err-clause-no_others
returns-in-Err-clause-no_others g c = (moves_on c.steps.invariant.moves c.step.ensures.moves).no_others

pub returns-in-Err-clause-outside : goal.returns-in-Err-clause-outside
returns-in-Err-clause-outside g c = (moves_on c.steps.invariant.moves c.step.ensures.moves).outside

pub returns-in-Err-clause-places : goal.returns-in-Err-clause-places
returns-in-Err-clause-places g c = (moves_on c.steps.invariant.moves c.step.ensures.moves).places

pub returns-in-Ok-Some-clause-standard : goal.returns-in-Ok-Some-clause-standard
returns-in-Ok-Some-clause-standard g c = standard_since _ c.args.self.now c.steps.self c.step.new.self c.steps.invariant.so c.steps.invariant.standard c.step.ensures.standard

pub returns-in-Ok-Some-clause-there : goal.returns-in-Ok-Some-clause-there
returns-in-Ok-Some-clause-there g c = there_since (number_of_value c.args.argc.now) c.args.self.now.next c.steps.self.next c.step.new.self.next c.steps.invariant.there c.step.ensures.there

pub returns-in-Err-clause-gives : goal.returns-in-Err-clause-gives
returns-in-Err-clause-gives g c = none_then g.W.World.did _ _ _ c.steps.invariant.gives c.in-Err.ensures.gives

pub returns-in-Ok-Some-clause-gives : goal.returns-in-Ok-Some-clause-gives
returns-in-Ok-Some-clause-gives g c = none_then g.W.World.did _ _ _ c.steps.invariant.gives c.in-Ok-Some.ensures.gives
