use Rattle.mid_code.proofs.Boxes.{boxed_makes}
use Rattle.mid_code.proofs.compound.replacing.Goals as goal

pub returns : goal.returns
returns c a b e ere replacement body =
    c.kept_while.ensures a _ (boxed_makes c.args.ere c.in_box-2.result a c.in_box-2.ensures ere)
    (c.kept_while-body.ensures b e (boxed_makes c.args.replacement c.in_box.result b c.in_box.ensures replacement) body)
