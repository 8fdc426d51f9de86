use Rattle.std.proofs.Common.{ap, ◌∙◌, ◌<◌, ◌≤◌, List, get_or, length, map, subst, arith}
use Rattle.mid_program.specs.View.{view_kind}
use Rattle.mid_program.specs.declared.program.Routine.{Routine}
use Rattle.lower_expressions.proofs.RoutineLemmas.{no_parameters, parameters_are}
use Rattle.lower_expressions.proofs.function_calls.parameters.Goals as goal

pub returns-in-Some : goal.returns-in-Some
returns-in-Some c =
    let rs = c.args.layout.now.script.now.program.now.routines.items in
    let r = c.in-Some.routine.now in
    ap (map view_kind) c.deref-in-Some.ensures.value
    ∙ parameters_are rs c.args.function r (subst (λ (xs : List Routine). c.args.function < length xs) c.deref.ensures.value (omega (arith, c.in-Some.ensures.lookup.3.0)))
    (c.in-Some.ensures.lookup.1 ∙ ap (λ (xs : List Routine). get_or xs c.args.function r) c.deref.ensures.value)

pub returns-in-None : goal.returns-in-None
returns-in-None c =
    no_parameters c.args.layout.now.script.now.program.now.routines.items c.args.function
    (subst (λ (xs : List Routine). length xs ≤ c.args.function) c.deref.ensures.value (omega (arith, c.in-None.ensures.lookup)))
