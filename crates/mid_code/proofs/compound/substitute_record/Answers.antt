use Rattle.mid_code.proofs.compound.substitute_record.Goals as goal

pub returns : goal.returns
returns c a b ere replacement = c.replacing.ensures a b _ ere replacement (c.kept_while-body.ensures _ _ c.number.ensures c.substituted-body.ensures)
