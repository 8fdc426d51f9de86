use Rattle.std.proofs.Common.{List, pos, ℕ, ap, ◌∙◌}
use Rattle.std.specs.FinMap as maps
use Rattle.awk_values.specs.declared.value.Value.TheVariants.{StrNum}
use Rattle.host_arrays.specs.Pairs.{pairs_at, set_pair}
use Rattle.host_tables.proofs.ElementsLemmas.{pair_more}
use Rattle.host_tables.proofs.Numbered.{there_put}
use Rattle.host_tables.proofs.start.fill_environ.Goals as goal

pub set-requires : goal.set-requires
set-requires c = there_put _ _ _ _ c.loop-pair.invariant

pub loop-pair-preserved : goal.loop-pair-preserved
loop-pair-preserved c =
    pair_more c.args.arrays.now c.loop-pair.arrays c.set.new.self c.args.environment.now c.loop-pair.pair-index c.pair-item.result c.pair-item.result c.in_ok-text.text c.loop-pair.invariant c.loop-pair-test.true c.pair-item.is c.in_ok-text.ensures
    (c.in-Ok.ensures.set ∙ ap (λ (key : List ℕ). maps.insert c.loop-pair.arrays (pos 1) (set_pair key (StrNum c.in_ok-text.text) (pairs_at c.loop-pair.arrays (pos 1)))) c.as_slice.ensures.value)
