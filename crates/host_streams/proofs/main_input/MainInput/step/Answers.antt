use Rattle.std.proofs.Common.{◌≡◌, ◌∙◌, Bool, ap, arith, inr, subst, sym}
use Rattle.awk_values.specs.Values.{number_of_value}
use Rattle.host_streams.specs.MainMoves.{StepsMain}
use Rattle.host_streams.specs.MainFinds.{found_by_operand}
use Rattle.host_streams.specs.Mains.{main_phase, phase_at, phase_by}
use Rattle.host_streams.specs.Passing.{IsAtEnd, StandardStays, StepNoneMore}
use Rattle.host_streams.specs.declared.main_input.Reading.{Reading}
use Rattle.host_streams.specs.declared.reader.Phase.{Phase}
use Rattle.host_streams.specs.declared.reader.Phase.TheVariants.{Open}
use Rattle.host_streams.proofs.Passed.{none_there, reach_hands, read_more, read_passes}
use Rattle.host_streams.proofs.main_input.MainInput.step.Goals as goal

pub returns-in-Nothing : goal.returns-in-Nothing
returns-in-Nothing g c =
    let w = g.W.World in
    let old = c.args.self.now in
    let new = c.reach.new.self in
    let reach = c.reach.ensures in
    let count = number_of_value c.args.argc.now in
    let is = c.in-Nothing.is in
    let open_now : main_phase old ≡ Open = ap (λ b. phase_by b old.reading old.standard) c.if-self.false ∙ ap (λ r. phase_at r old.standard) is in record {
      gives = c.reach.ensures.gives;
      moves = reach.moves;
      told = λ tells inner asked offered. reach.told tells inner offered;
      steps = subst (λ (p : Phase). StepsMain p old c.reach.result new (w.count c.args.world.now) (w.count c.reach.new.world)) (sym open_now) reach.steps;
      handed = reach_hands c.args.rs old new c.reach.result reach.answers reach.idle (inr (subst (λ (r : Reading). IsAtEnd c.args.rs r old.standard new.standard) (sym is) tt));
      passes = reach.passes;
      there = reach.there;
      more = subst (λ (b : Bool). StepNoneMore count b old.found c.reach.result new.next new.found) (sym c.if-self.false) reach.more;
      standard = subst (λ (r : Reading). StandardStays r old.standard new.standard) (sym is) reach.standard;
      finds = (found_by_operand c.reach.result new.reading, λ later outside inner asked offered. reach.finds later outside inner offered);
    }

pub returns : goal.returns
returns g c =
    let old = c.args.self.now in
    let new = c.read_on.new.self in
    let read = c.read_on.ensures in
    let count = number_of_value c.args.argc.now in record {
      gives = c.read_on.ensures.gives;
      moves = read.moves;
      told = λ tells inner asked offered. read.told tells inner asked;
      steps = read.steps;
      handed = read.handed;
      passes = read_passes (g.O.Operands.text c.args.operands.now) old.next new.next old.found new.found c.read_on.result read.next read.found read.answers;
      there = none_there count old.next new.next (let same = read.next in omega arith);
      more = read_more count old.ended old.found new.found new.next c.read_on.result read.answers;
      standard = read.standard;
      finds = (read.finds.0, λ later outside inner asked offered. read.finds.1 later outside inner asked);
    }
