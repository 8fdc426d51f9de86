use Rattle.std.proofs.Common.{rules, ◌≡◌, ◌≢◌, ◌≤◌, ◌∙◌, ℕ, [], ap, refl, subst, arith}
use Rattle.std.specs.Prelude.{MatchOption, None}
use Rattle.host_calls.specs.Runs.{given_meaning, sight}
use Rattle.wasm_machine.specs.Places.{StandsAt, frame_at}
use Rattle.wasm_model.specs.Machines.{ProgramForm}
use Rattle.wasm_model.specs.MachineRuns.{Did, lasting}
use Rattle.wasm_model.specs.declared.ends.MachineEnd.{MachineEnd}
use Rattle.wasm_model.specs.declared.ends.MachineEnd.TheVariants as ends
use Rattle.wasm_model.proofs.Chains.{did_on}
use Rattle.run_modules.proofs.Gave.{did_form}
use Rattle.run_modules.proofs.SteppedRuns.{as_given, next_step, over}
use Rattle.run_modules.proofs.stepping.step_through.Goals as goal

pub loop-taken-init : goal.loop-taken-init
loop-taken-init g c = record {
  program = c.run-end.ensures.program;
  did = c.run-end.ensures.run c.requires.going;
  ended = c.run-end.ensures.ended c.requires.going;
  nops = refl;
  tallied = record {
    moments = [];
    stepped = did_form g.W.World.is_modelled g.W.World.did c.args.machine.now.program 0 c.args.machine.now.conf (sight g.W.World.state c.args.host.now) c.run-end.result
        c.run-end.new.self.conf (sight g.W.World.state c.run-end.new.host) (c.run-end.ensures.run c.requires.going);
    count = refl;
    within = omega arith;
    over = λ q. refl;
    tallied = c.requires.rows;
    most = c.requires.values;
  };
}

pub loop-taken-preserved : goal.loop-taken-preserved
loop-taken-preserved g c =
    let inv = c.loop-taken.invariant in
    let m = c.args.machine.now.program in
    let out : c.loop-taken.end ≡ ends.OutOfSteps = search rules in
    let going : c.loop-taken.machine.ended ≡ None = inv.ended ∙ ap lasting out in
    let told = g.W.World.state in
    let N = given_meaning g.W.World.is_modelled g.W.World.did in
    let next = subst (λ (q : ProgramForm). Did N q 1 c.loop-taken.machine.conf (sight told c.loop-taken.host) c.run-end-in-loop-taken.result c.run-end-in-loop-taken.new.self.conf
    (sight told c.run-end-in-loop-taken.new.host)) inv.program (c.run-end-in-loop-taken.ensures.run going) in
    record {
      did = did_on N m c.loop-taken.taken 1 c.args.machine.now.conf (sight told c.args.host.now) c.loop-taken.machine.conf (sight told c.loop-taken.host) c.run-end-in-loop-taken.result
          c.run-end-in-loop-taken.new.self.conf (sight told c.run-end-in-loop-taken.new.host)
          (subst (λ (e : MachineEnd). Did N m c.loop-taken.taken c.args.machine.now.conf (sight told c.args.host.now) e c.loop-taken.machine.conf (sight told c.loop-taken.host)) out inv.did) next;
      program = c.run-end-in-loop-taken.ensures.program ∙ inv.program;
      ended = c.run-end-in-loop-taken.ensures.ended going;
      nops = c.note.ensures.nops ∙ inv.nops;
      tallied = next_step _ m c.loop-taken.taken _ _ _ _ _ _ _ _ _ c.place.result c.live_values.result _ _ _ inv.tallied out (omega arith) (subst (λ (q : ProgramForm). MatchOption c.place.result (frame_at c.loop-taken.machine.conf 0 ≡ None)
          (λ p. StandsAt q.whole p (frame_at c.loop-taken.machine.conf 0))) inv.program c.place.ensures.stands) c.live_values.ensures.form
          (did_form g.W.World.is_modelled g.W.World.did m 1 c.loop-taken.machine.conf (sight told c.loop-taken.host) c.run-end-in-loop-taken.result c.run-end-in-loop-taken.new.self.conf
          (sight told c.run-end-in-loop-taken.new.host) next) c.note.ensures.rows c.note.ensures.values;
    }

-- it ended before as many steps as were given
pub returns-then-ne-clause-did : goal.returns-then-ne-clause-did
returns-then-ne-clause-did g c =
    let told = g.W.World.state in
    let taken = c.loop-taken.taken in
    let within : taken ≤ c.args.steps = (let test = c.loop-taken-test.true in omega (arith, test)) in
    let other : c.loop-taken.end ≢ ends.OutOfSteps = search rules in
    as_given (given_meaning g.W.World.is_modelled g.W.World.did) c.args.machine.now.program c.args.machine.now.conf (sight told c.args.host.now) c.args.steps taken within
    c.loop-taken.machine.conf (sight told c.loop-taken.host) c.loop-taken.end (λ q. absurd (other q)) c.loop-taken.invariant.did

-- all of them were taken
pub returns-clause-did : goal.returns-clause-did
returns-clause-did g c =
    let told = g.W.World.state in
    let all : c.loop-taken.taken ≡ c.args.steps = (let least = c.loop-taken-test.false in let most = c.loop-taken.auto.taken-end in omega (arith, least, most)) in
    subst (λ (n : ℕ). Did (given_meaning g.W.World.is_modelled g.W.World.did) c.args.machine.now.program n c.args.machine.now.conf (sight told c.args.host.now) c.loop-taken.end
    c.loop-taken.machine.conf (sight told c.loop-taken.host)) all c.loop-taken.invariant.did
