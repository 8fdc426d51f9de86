use Rattle.host_fields.proofs.Later.{same_held}
use Rattle.host_fields.proofs.fields.to_split.Goals as goal

pub returns-in_ok-split_whole-clause-same : goal.returns-in_ok-split_whole-clause-same
returns-in_ok-split_whole-clause-same c = λ own between.
    same_held c.args.form.now c.in-Later.by c.in-Later.newlines c.args.whole.now c.args.spans.now.items c.split_whole.new.spans.items own between c.in-Later.is c.in_ok-split_whole.ensures
