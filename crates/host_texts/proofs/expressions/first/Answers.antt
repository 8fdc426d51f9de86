use Rattle.std.proofs.Common.{rules, ◌<◌, ◌^◌, length}
use Rattle.host_format.proofs.Firsts.{computed_first, first_inside}
use Rattle.host_texts.proofs.Bounds.{first_bounds}
use Rattle.host_texts.proofs.expressions.first.Goals as goal

pub returns-in-Ok-clause-found : goal.returns-in-Ok-clause-found
returns-in-Ok-clause-found c = let f = c.in-Ok.ensures.found in (f.0, f.1, computed_first f.0 c.args.text.now 0 c.in-Ok.found f.2)

pub returns-in-Ok-clause-inside : goal.returns-in-Ok-clause-inside
returns-in-Ok-clause-inside c =
    let bound : length c.args.text.now < 2 ^ 63 = search rules in
    let f = c.in-Ok.ensures.found in
    first_bounds (length c.args.text.now) c.in-Ok.found bound (first_inside f.0 c.args.text.now 0 c.in-Ok.found f.2)
