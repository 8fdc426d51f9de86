use Rattle.std.proofs.Common.{◌∙◌, map}
use Rattle.std.proofs.lemmas.List.{map_push}
use Rattle.script_places.specs.Lines.{form_of}
use Rattle.script_places.specs.Reading.{function_at}
use Rattle.script_places.proofs.Loops.{one_more}
use Rattle.script_places.proofs.reading.take_functions.Goals as goal

pub loop-preserved : goal.loop-preserved
loop-preserved c =
    let made = c.loop.made.items in
    let function = c.in_ok-function.function in
    rw (c.in_ok-push.ensures.items, map_push form_of made function)
    (one_more function_at (map form_of made) c.loop.counter c.args.count c.loop.rest.now (form_of function) c.in_ok-function.after.now c.loop-test.true c.in_ok-function.ensures ∙ c.loop.invariant)
