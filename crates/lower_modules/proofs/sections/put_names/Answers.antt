use Rattle.std.proofs.Common.{ℕ, ◌+◌, ◌++◌, List, drop, sym, ap, ◌∙◌, append_assoc}
use Rattle.std.proofs.lemmas.List.{append-nil, at_drop_all}
use Rattle.awk_resolve.proofs.Names.{drop_at}
use Rattle.mid_program.specs.declared.program.Declared.{Declared}
use Rattle.lower_model.specs.Places.{memory_of}
use Rattle.lower_modules.proofs.Pieces.{declared_names}
use Rattle.lower_modules.proofs.sections.put_names.Goals as goal

pub loop-declared-preserved : goal.loop-declared-preserved
loop-declared-preserved c =
    let all = c.args.globals.now in
    let i = c.loop-declared.declared-index in
    let old = c.loop-declared.bytes.items in
    let rest = memory_of (declared_names (drop (i + 1) all)) in
    ap (λ (bytes : List ℕ). bytes ++ rest) (c.in_ok-extend_from_slice.ensures.items ∙ ap (λ (more : List ℕ). old ++ more) c.deref.ensures.value)
    ∙ append_assoc old c.declared-item.result.name.items rest
    ∙ sym (ap (λ (xs : List Declared). old ++ memory_of (declared_names xs)) (drop_at all i c.declared-item.result c.loop-declared-test.true c.declared-item.is))
    ∙ c.loop-declared.invariant

pub returns : goal.returns
returns c =
    let bytes = c.loop-declared.bytes.items in
    sym (append-nil bytes)
    ∙ sym (at_drop_all (λ (xs : List Declared). bytes ++ memory_of (declared_names xs)) c.args.globals.now c.loop-declared.declared-index c.loop-declared-test.false)
    ∙ c.loop-declared.invariant
