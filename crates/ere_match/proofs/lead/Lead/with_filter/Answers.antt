use Rattle.std.proofs.Common.{arith, true}
use Rattle.std.specs.Prelude.{false}
use Rattle.std.proofs.lemmas.Option.{get_or_from_slice_get}
use Rattle.ere_match.specs.Runs.{filter_set}
use Rattle.ere_match.proofs.lead.Lead.with_filter.Goals as goal

pub returns-clause-has : goal.returns-clause-has
returns-clause-has c = λ byte small is. c.loop-byte.invariant.has byte (omega (arith, small, c.loop-byte-test.false)) (get_or_from_slice_get (filter_set c.args.filter.now) byte true false is)
