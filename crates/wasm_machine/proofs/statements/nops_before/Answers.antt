use Rattle.std.proofs.Common.{◌∙◌, sym, arith}
use Rattle.wasm_loader.specs.Laid.{laid}
use Rattle.wasm_machine.proofs.Searching.{no_nop_more, one_nop_more}
use Rattle.wasm_machine.proofs.statements.nops_before.Goals as goal
use Rattle.wasm_machine.proofs.statements.nops_before.Goals.{then-is_nop, else-is_nop}

pub loop-at-preserved : goal.loop-at-preserved
loop-at-preserved c =
    let fs = (laid c.args.layout.now).forms in
    let at = c.loop-at.at in
    let count = c.loop-at.count in
    let inv = c.loop-at.invariant in
    elim c.if-is_nop.branch [
      | then-is_nop w ↦ record { count = w.count-is ∙ one_nop_more fs at count inv.count (sym c.is_nop.ensures ∙ w.if-is_nop.true); within = omega arith }
      | else-is_nop w ↦ record { count = w.count-is ∙ no_nop_more fs at count inv.count (sym c.is_nop.ensures ∙ w.if-is_nop.false); within = omega arith }
    ]
