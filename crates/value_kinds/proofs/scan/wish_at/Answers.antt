use Rattle.std.proofs.Common.{Option, ℕ, ap, ◌∙◌, arith}
use Rattle.value_kinds.specs.Lanes.{first_wish}
use Rattle.value_kinds.proofs.Views.{wish_past, wish_set}
use Rattle.value_kinds.proofs.scan.wish_at.Goals as goal

pub returns-then-place-len : goal.returns-then-place-len
returns-then-place-len c =
    wish_set c.args.wishes.now.items c.args.place c.args.global c.first_wish.result _ (omega arith) (c.first_wish.ensures ∙ ap (λ (w : Option ℕ). first_wish w c.args.global) c.index.ensures)

pub returns-else-place-len : goal.returns-else-place-len
returns-else-place-len c = wish_past c.args.wishes.now.items c.args.place c.args.global (omega arith)
