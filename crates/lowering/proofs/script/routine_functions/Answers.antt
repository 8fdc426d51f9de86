use Rattle.std.proofs.Common.{◌≡◌, ◌+◌, true, false, List, ap, sym, ◌∙◌, drop, get_or, length, map, subst, arith}
use Rattle.std.specs.List.{AllByRecursion}
use Rattle.std.proofs.lemmas.Bool.{and_parts}
use Rattle.mid_program.specs.Mid as plain
use Rattle.mid_program.specs.Sorted.{context_of, routines_sorted, steps_sorted}
use Rattle.mid_program.specs.View.{view_mid, view_routine}
use Rattle.mid_program.specs.declared.program.Routine.{Routine}
use Rattle.lowering.specs.Limits.{RoutineIsSmall}
use Rattle.lower_layout.proofs.Refusals.{refused}
use Rattle.lowering.proofs.Smallness.{more_functions, routines_left}
use Rattle.lowering.proofs.script.routine_functions.Goals as goal

pub routine_function-requires-clause-sorted : goal.routine_function-requires-clause-sorted
routine_function-requires-clause-sorted c =
    let p = view_mid c.args.layout.now.program.now in
    let rs = c.args.layout.now.program.now.routines.items in
    let i = c.loop-routine.routine-index in
    let r = c.routine-item.result in
    let n = ap length c.routines-routine-items.ensures in
    let left = routines_left rs i r (omega (arith, n)) (c.routine-item.is ∙ ap (λ (xs : List Routine). get_or xs i r) c.routines-routine-items.ensures) in
    (and_parts (steps_sorted (context_of p (view_routine r).parameters) true false (view_routine r).body) (routines_sorted p (map view_routine (drop (i + 1) rs)))
    (subst (λ (xs : List plain.Routine). routines_sorted p xs ≡ true) left c.loop-routine.invariant.sorted)).0

pub loop-routine-preserved : goal.loop-routine-preserved
loop-routine-preserved c =
    let p = view_mid c.args.layout.now.program.now in
    let rs = c.args.layout.now.program.now.routines.items in
    let i = c.loop-routine.routine-index in
    let r = c.routine-item.result in
    let n = ap length c.routines-routine-items.ensures in
    let left = routines_left rs i r (omega (arith, n)) (c.routine-item.is ∙ ap (λ (xs : List Routine). get_or xs i r) c.routines-routine-items.ensures) in
    record {
      functions = more_functions p _ _ _ (view_routine r) _ _ _ c.in_ok-pushed.ensures c.in_ok-function.ensures.function left c.loop-routine.invariant.functions;
      sorted = (and_parts (steps_sorted (context_of p (view_routine r).parameters) true false (view_routine r).body) (routines_sorted p (map view_routine (drop (i + 1) rs)))
          (subst (λ (xs : List plain.Routine). routines_sorted p xs ≡ true) left c.loop-routine.invariant.sorted)).1;
      on = λ all. c.loop-routine.invariant.on (subst (AllByRecursion RoutineIsSmall) (sym left) (c.in_ok-function.ensures.small, all));
      off = λ all. (subst (AllByRecursion RoutineIsSmall) left (c.loop-routine.invariant.off all)).1;
    }

pub returns-in_err-function-clause-too_large : goal.returns-in_err-function-clause-too_large
returns-in_err-function-clause-too_large c =
    let rs = c.args.layout.now.program.now.routines.items in
    let i = c.loop-routine.routine-index in
    let r = c.routine-item.result in
    let n = ap length c.routines-routine-items.ensures in
    let left = routines_left rs i r (omega (arith, n)) (c.routine-item.is ∙ ap (λ (xs : List Routine). get_or xs i r) c.routines-routine-items.ensures) in
    refused c.from_residual.result c.in_err-function.field-0.0 _ c.from_residual.ensures.1
    (λ e all. c.in_err-function.ensures.too_large e (subst (AllByRecursion RoutineIsSmall) left (c.loop-routine.invariant.off all)).0)
