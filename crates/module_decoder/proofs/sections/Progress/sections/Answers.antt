use Rattle.std.proofs.Common.{length}
use Rattle.std.proofs.lemmas.Result.{err_from_is_err_and}
use Rattle.module_decoder.specs.View.{view_progress}
use Rattle.module_decoder.specs.Reading.{sections_at}
use Rattle.module_decoder.proofs.Loops.{sections_next, sections_fail, sections_past}
use Rattle.module_decoder.proofs.sections.Progress.sections.Goals as goal

pub returns-in_err-rest-in-Some : goal.returns-in_err-rest-in-Some
returns-in_err-rest-in-Some c =
    let p = err_from_is_err_and c.from_residual.result c.from_residual.ensures.1 in
    rw (p.1, p.2) (sections_fail c.in_err-rest-in-Some.field-0.0 c.args.total (length c.args.bytes.now) c.loop.counter (view_progress c.loop.self) c.loop.rest.now c.in-Some.id c.in-Some.after.now (sections_at c.args.total (length c.args.bytes.now) (view_progress c.args.self.now) c.args.bytes.now) c.loop-test.true c.in-Some.ensures c.in_err-rest-in-Some.ensures c.loop.invariant)

pub loop-preserved : goal.loop-preserved
loop-preserved c =
    sections_next c.args.total (length c.args.bytes.now) c.loop.counter (view_progress c.loop.self) (view_progress c.section.new.self) c.loop.rest.now c.in-Some.id c.in-Some.after.now c.in_ok-rest-in-Some.rest.now (sections_at c.args.total (length c.args.bytes.now) (view_progress c.args.self.now) c.args.bytes.now) c.loop-test.true c.in-Some.ensures c.in_ok-rest-in-Some.ensures c.loop.invariant

pub returns-in-Some-first_of : goal.returns-in-Some-first_of
returns-in-Some-first_of c =
    sections_past c.args.total (length c.args.bytes.now) c.loop.counter (view_progress c.loop.self) c.loop.rest.now c.in-Some-first_of.field-0.0 c.in-Some-first_of.field-0.1.now (sections_at c.args.total (length c.args.bytes.now) (view_progress c.args.self.now) c.args.bytes.now) c.loop-test.false c.in-Some-first_of.ensures c.loop.invariant
