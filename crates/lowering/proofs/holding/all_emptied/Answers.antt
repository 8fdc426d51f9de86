use Rattle.lower_expressions.specs.View.{view_layout}
use Rattle.lower_pieces.proofs.Appended.{◌⨟◌, same}
use Rattle.lowering.proofs.Holdings.{held_emptied_all}
use Rattle.lowering.proofs.holding.all_emptied.Goals as goal

pub returns : goal.returns
returns c = λ k.
    c.held_emptied-3.ensures k ⨟ c.held_emptied-2.ensures _ ⨟ c.held_emptied.ensures _ ⨟ (rw c.answer.ensures at c.emit_all.ensures) _
    ⨟ same (held_emptied_all (view_layout c.args.layout.now) k)
