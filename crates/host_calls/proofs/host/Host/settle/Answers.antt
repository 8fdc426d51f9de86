use Rattle.host_calls.proofs.host.Host.settle.Goals as goal

pub carry_out-outcome-requires : goal.carry_out-outcome-requires
carry_out-outcome-requires g c = c.args.self.now.tables.free_handle

pub returns-clause-settled : goal.returns-clause-settled
returns-clause-settled g c = (c.carry_out-outcome.result, c.carry_out-outcome.new.handles, c.carry_out-outcome.ensures.outcome, c.tell.ensures.told, c.tell.ensures.kept)
