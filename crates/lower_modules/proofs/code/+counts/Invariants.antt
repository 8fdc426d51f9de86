use Rattle.std.proofs.Common.{◌≡◌, ◌≤◌, drop, length, map}
use Rattle.lower_modules.specs.Counted.{counted}
use Rattle.lower_modules.specs.Labels.{labels_among, labels_in}
use Rattle.mid_program.specs.Mid.{Code as Plain}
use Rattle.mid_program.specs.ViewCode.{joined, view, views}
use Rattle.lower_model.specs.Places.{arrays_among, arrays_in, room, rooms}
use Rattle.lower_modules.proofs.code.+counts.Given as goal

abbrev pub decreases-counts_among-loop-left : goal.decreases-counts_among-loop-left
decreases-counts_among-loop-left l = l.left

abbrev pub invariant-counts_among-loop-left : goal.invariant-counts_among-loop-left
invariant-counts_among-loop-left l = record {
  temporaries : l.needed.temporaries ≡ counted (rooms (views (drop l.left l.operands)));
  arrays : l.needed.arrays ≡ counted (arrays_among (views (drop l.left l.operands)));
  iterators : l.needed.iterators ≡ 0;
  labels : l.needed.labels ≡ counted (labels_among (views (drop l.left l.operands)));
  inside : l.left ≤ length l.operands;
}

abbrev pub decreases-joined_counts-loop-left : goal.decreases-joined_counts-loop-left
decreases-joined_counts-loop-left l = l.left

abbrev pub invariant-joined_counts-loop-left : goal.invariant-joined_counts-loop-left
invariant-joined_counts-loop-left l = record {
  temporaries : (z : Plain) → l.fn.last.temporaries ≡ counted (room z) → l.needed.temporaries ≡ counted (room (joined (map view (drop l.left l.others)) z));
  arrays : (z : Plain) → l.fn.last.arrays ≡ counted (arrays_in z) → l.needed.arrays ≡ counted (arrays_in (joined (map view (drop l.left l.others)) z));
  iterators : l.fn.last.iterators ≡ 0 → l.needed.iterators ≡ 0;
  labels : (z : Plain) → l.fn.last.labels ≡ counted (labels_in z) → l.needed.labels ≡ counted (labels_in (joined (map view (drop l.left l.others)) z));
  inside : l.left ≤ length l.others;
}
