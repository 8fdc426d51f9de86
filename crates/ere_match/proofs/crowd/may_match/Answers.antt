use Rattle.ere_match.proofs.crowd.may_match.Goals as goal

pub may_cross-requires-clause-crowd : goal.may_cross-requires-clause-crowd
may_cross-requires-clause-crowd c = c.in_ok-crowd.ensures.crowd c.args.entry c.args.classes.now
