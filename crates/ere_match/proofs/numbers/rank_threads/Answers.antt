use Rattle.std.proofs.Common.{arith, length}
use Rattle.ere_match.proofs.Ranks.{numbered_all}
use Rattle.ere_match.proofs.Tables.{written}
use Rattle.ere_match.proofs.numbers.rank_threads.Goals as goal

pub returns-clause-numbered : goal.returns-clause-numbered
returns-clause-numbered c =
    rw (written c.in_ok-ranks.ranks c.rank_all.new.ranks (omega (arith, c.rank_all.auto.ranks, c.deref_mut.ensures.len)))
    (numbered_all (length c.args.sources.now.items) (length c.args.used.now) c.mark_numbers.new.used c.rank_numbers.new.used c.rank_numbers.new.sources.items c.in_ok-count.count c.args.set.now c.rank_all.new.ranks (omega (arith, c.mark_numbers.ensures.len)) c.mark_numbers.ensures.marked c.requires.numbers c.in_ok-count.ensures.ranked c.rank_all.ensures)
