use Rattle.std.proofs.Common.{◌+◌, ◌<◌, ◌^◌, ◌∷◌, [], pos, ℕ, List, refl, ap, ◌∙◌, arith}
use Rattle.std.specs.FinMap as maps
use Rattle.sem_primitives.specs.ArrayMeaning.{numbered}
use Rattle.host_tables.proofs.ElementsLemmas.{operand_more}
use Rattle.host_tables.proofs.Numbered.{put_next, there_put}
use Rattle.host_tables.proofs.start.fill_argv.Goals as goal

pub put_text-requires : goal.put_text-requires
put_text-requires c = there_put _ _ _ _ c.clear.ensures

pub put_text-requires-in-loop-at : goal.put_text-requires-in-loop-at
put_text-requires-in-loop-at c = there_put _ _ _ _ c.loop-at.invariant

pub loop-at-init : goal.loop-at-init
loop-at-init c =
    let small : 0 < 2 ^ 64 = omega arith in
    put_next c.args.arrays.now c.clear.new.self c.put_text.new.arrays (pos 0) 0 [] c.in_ok-awk.awk 0 c.clear.ensures refl small c.in_ok-put_text.ensures.put
    ∙ ap (λ (awk : List ℕ). maps.insert c.args.arrays.now (pos 0) (numbered 0 (awk ∷ []))) c.in_ok-awk.ensures

pub loop-at-preserved : goal.loop-at-preserved
loop-at-preserved c =
    let small : c.loop-at.at + 1 < 2 ^ 64 = omega arith in
    operand_more c.args.arrays.now c.loop-at.arrays c.put_text-in-loop-at.new.arrays _ c.args.operands.now c.loop-at.at c.index-operands-at.result c.in_ok-text.text c.loop-at.invariant c.loop-at-test.true small (c.in_ok-text.ensures ∙ c.index-operands-at.is) c.in_ok-put_text-2.ensures.put
