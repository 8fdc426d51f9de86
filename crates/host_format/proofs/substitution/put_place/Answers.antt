use Rattle.host_bytes.proofs.Grown.{grows_both}
use Rattle.host_format.proofs.substitution.put_place.Goals as goal

pub returns : goal.returns
returns c = grows_both c.args.out.now c.put.new.self c.put_replacement.new.out _ _ c.put.ensures c.put_replacement.ensures
