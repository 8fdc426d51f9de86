use Rattle.std.proofs.Common.{ℕ, ◌+◌, ◌++◌, List, drop, sym, ap, ◌∙◌, append_assoc}
use Rattle.std.proofs.lemmas.List.{append-nil, at_drop_all}
use Rattle.awk_resolve.proofs.Names.{drop_at}
use Rattle.mid_program.specs.declared.program.Routine.{Routine}
use Rattle.lower_model.specs.Places.{memory_of}
use Rattle.lower_modules.proofs.Pieces.{routine_names}
use Rattle.lower_modules.proofs.sections.put_routine_names.Goals as goal

pub loop-routine-preserved : goal.loop-routine-preserved
loop-routine-preserved c =
    let all = c.args.routines.now in
    let i = c.loop-routine.routine-index in
    let old = c.loop-routine.bytes.items in
    let rest = memory_of (routine_names (drop (i + 1) all)) in
    ap (λ (bytes : List ℕ). bytes ++ rest) (c.in_ok-extend_from_slice.ensures.items ∙ ap (λ (more : List ℕ). old ++ more) c.deref.ensures.value)
    ∙ append_assoc old c.routine-item.result.name.items rest
    ∙ sym (ap (λ (xs : List Routine). old ++ memory_of (routine_names xs)) (drop_at all i c.routine-item.result c.loop-routine-test.true c.routine-item.is))
    ∙ c.loop-routine.invariant

pub returns : goal.returns
returns c =
    let bytes = c.loop-routine.bytes.items in
    sym (append-nil bytes)
    ∙ sym (at_drop_all (λ (xs : List Routine). bytes ++ memory_of (routine_names xs)) c.args.routines.now c.loop-routine.routine-index c.loop-routine-test.false)
    ∙ c.loop-routine.invariant
