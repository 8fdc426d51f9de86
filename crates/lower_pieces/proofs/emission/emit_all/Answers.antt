use Rattle.std.proofs.Common.{◌≡◌, ℕ, suc, ◌+◌, ◌<◌, List, drop, get_or, length, sym, ap, ◌∙◌, arith, drop-cons}
use Rattle.wasm_types.specs.Syntax.{Instructions}
use Rattle.wasm_types.specs.declared.instr.Simple.{Simple}
use Rattle.wasm_types.specs.declared.instr.Simple.TheVariants.{Unreachable}
use Rattle.lower_model.specs.Small.{emit}
use Rattle.lower_pieces.specs.Emits.{emit_all}
use Rattle.lower_pieces.proofs.Appended.{reads_by}
use Rattle.lower_pieces.proofs.emission.emit_all.Goals as goal

does_step : (all : List Simple) (i : ℕ) (k : Instructions) → i < length all → emit (get_or all i Unreachable) (emit_all (drop (i + 1) all) k) ≡ emit_all (drop i all) k
does_step all i k lt =
    let next : i + 1 ≡ suc i = omega arith in
    (λ j. emit (get_or all i Unreachable) (emit_all (drop (next j) all) k)) ∙ sym (ap (λ (rest : List Simple). emit_all rest k) (drop-cons all i Unreachable lt))

pub loop-simple-preserved : goal.loop-simple-preserved
loop-simple-preserved c = λ k whole h.
    c.emit.ensures _ whole (reads_by (does_step c.args.all.now c.loop-simple.simple-index k (omega arith)) (c.loop-simple.invariant k whole h))
