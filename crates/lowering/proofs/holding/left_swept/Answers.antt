use Rattle.std.proofs.Common.{◌<◌, length, sym, ap, ◌∙◌, arith}
use Rattle.std.proofs.lemmas.Bool.{eqb-false, eqb-true}
use Rattle.lower_expressions.specs.View.{view_layout}
use Rattle.lower_model.specs.Statements.{has_functions}
use Rattle.lower_pieces.proofs.Appended.{◌⨟◌, same}
use Rattle.lowering.proofs.Holdings.{all_left, iterators_left, no_functions, some_functions}
use Rattle.lowering.proofs.holding.left_swept.Goals as goal

pub returns-then-is_empty : goal.returns-then-is_empty
returns-then-is_empty c =
    let y = view_layout c.args.layout.now in
    let rs = c.args.layout.now.script.now.program.now.routines.items in
    let n = eqb-true (length c.routines.result.now) 0 (sym c.is_empty.ensures ∙ c.if-is_empty.true) in
    let none = no_functions rs (ap length (sym c.routines.ensures) ∙ n) in
    λ k. c.held_swept.ensures k ⨟ same (iterators_left y (has_functions y.calls) k none)

pub returns-else-is_empty : goal.returns-else-is_empty
returns-else-is_empty c =
    let y = view_layout c.args.layout.now in
    let rs = c.args.layout.now.script.now.program.now.routines.items in
    let n = eqb-false (length c.routines.result.now) 0 (sym c.is_empty.ensures ∙ c.if-is_empty.false) in
    let size = ap length c.routines.ensures in
    let many : 0 < length rs = omega (arith, n, size) in
    λ k. c.swept.ensures k ⨟ same (all_left y (has_functions y.calls) k (some_functions rs many))
