use Rattle.std.proofs.Common.{◌≡◌, ◌≢◌, suc, ◌+◌, ◌-◌, ◌∙◌, Some, ap, sym, subst, arith}
use Rattle.std.specs.Prelude.{slice_get}
use Rattle.wasm_types.specs.declared.instr.Simple.TheVariants.{Nop}
use Rattle.wasm_loader.specs.Flat.{Plain}
use Rattle.wasm_loader.specs.Laid.{laid}
use Rattle.wasm_machine.specs.StatementAt.{nop_over}
use Rattle.wasm_machine.proofs.Searching.{Searched, found, nop_is, opened_few, searched_one}
use Rattle.wasm_machine.proofs.statements.beginning.Goals as goal
use Rattle.wasm_machine.proofs.statements.beginning.Goals.{else-ended-eq0-via-then-ended-eq0+else-is_nop, else-ended-eq0-via-else-ended-eq0}

pub returns-then-is_nop : goal.returns-then-is_nop
returns-then-is_nop c =
    let fs = (laid c.args.layout.now).forms in
    let numbers = c.args.numbers.now in
    let import = c.args.import in
    let place = c.args.place in
    let ended = c.loop-back.ended in
    let at = place - 1 - c.loop-back.back in
    let next : place - c.loop-back.back ≡ suc at = omega arith in
    let searched = subst (λ n. Searched fs numbers import place n ended) next c.loop-back.invariant.searched in
    let nop = nop_is (slice_get fs at) (sym c.is_nop.ensures ∙ c.if-is_nop.true) in
    found fs numbers import place at ended (omega arith) searched (omega arith) nop

pub loop-back-preserved : goal.loop-back-preserved
loop-back-preserved c =
    let fs = (laid c.args.layout.now).forms in
    let numbers = c.args.numbers.now in
    let import = c.args.import in
    let place = c.args.place in
    let ended = c.loop-back.ended in
    let at = place - 1 - c.loop-back.back in
    let next : place - c.loop-back.back ≡ suc at = omega arith in
    let here : at ≡ place - (c.loop-back.back + 1) = omega arith in
    let searched = subst (λ n. Searched fs numbers import place n ended) next c.loop-back.invariant.searched in
    let few = opened_few (slice_get fs at) ended in
    let opened = c.opened-ended.ensures in
    let passed : slice_get fs at ≡ Some (Plain Nop) → ended ≢ 0 = λ nop. elim c.else-ended-eq0.branch [
      | else-ended-eq0-via-then-ended-eq0+else-is_nop w ↦ λ none. (let no = sym w.if-is_nop.false ∙ (w.is_nop.ensures ∙ ap nop_over nop) in cc)
      | else-ended-eq0-via-else-ended-eq0 w ↦ λ none. omega arith
    ] in
    let alone = c.is_loop_before.ensures.no c.if-is_loop_before.false in
    let one = searched_one fs numbers import place at ended (omega arith) searched passed alone in
    record {
      few = omega arith;
      searched = subst (λ n. Searched fs numbers import place n c.opened-ended.result) here
          (subst (λ e. Searched fs numbers import place at e) (sym opened) one);
    }
