use Rattle.lower_pieces.proofs.Appended.{◌⨟◌}
use Rattle.lower_pieces.proofs.arithmetic.near_product.Goals as goal

pub returns : goal.returns
returns c = λ k.
    (c.emit-3.ensures k ⨟ c.combined.ensures _ ⨟ c.emit-2.ensures _ ⨟ c.far_off-2.ensures _ ⨟ c.emit.ensures _ ⨟ c.far_off.ensures _) _ (c.new-code.ensures _)
