use Rattle.std.proofs.Common.{◌≡◌, drop, map}
use Rattle.mid_program.specs.Mid.{Code as Plain}
use Rattle.mid_program.specs.ViewCode.{joined, view, view_slot, views}
use Rattle.lower_model.specs.Appends.{are_still, is_still}
use Rattle.lower_quick.proofs.append.+still.Given as goal

abbrev pub invariant-are_still-loop-operand : goal.invariant-are_still-loop-operand
invariant-are_still-loop-operand l = are_still (view_slot l.slot) (views (drop l.operand-index l.operands)) ≡ are_still (view_slot l.slot) (views l.operands)

abbrev pub invariant-key_still-loop-code : goal.invariant-key_still-loop-code
invariant-key_still-loop-code l =
    (last : Plain) → is_still (view_slot l.slot) (joined (map view (drop l.code-index l.others)) last) ≡ is_still (view_slot l.slot) (joined (map view l.others) last)
