use Rattle.mid_code.proofs.compound.record_length.Goals as goal

pub returns : goal.returns
returns c = c.host_one.ensures _ c.record.ensures
