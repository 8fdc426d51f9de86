use Rattle.std.proofs.Common.{◌≡◌, length}
use Rattle.ere_match.specs.Rows.{IsRefinedTo}
use Rattle.ere_match.specs.Runs.{filter_set}
use Rattle.ere_match.proofs.classes.refined.Given as goal

abbrev pub invariant-loop-place : goal.invariant-loop-place
invariant-loop-place l = record {
  to : IsRefinedTo l.place (filter_set l.filter) l.classes l.cut l.seen l.count;
  cut_len : length l.cut ≡ 256;
  seen_len : length l.seen ≡ 512;
}
