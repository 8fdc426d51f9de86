use Rattle.std.proofs.Common.{◌≡◌, ℕ, ◌≤◌, List, drop, length}
use Rattle.awk_resolve.specs.ViewKinds.{view_name_kinds}
use Rattle.mid_code.specs.ViewNames.{place_found, place_from}
use Rattle.mid_code.proofs.names.places_of_globals.Given as goal

abbrev pub invariant-loop-place : goal.invariant-loop-place
invariant-loop-place l = record {
  within : l.place ≤ length l.names;
  found : (x : List ℕ) → place_found l.found.entries x ≡ place_from l.place (view_name_kinds (drop l.place l.names)) x;
}

abbrev pub decreases-loop-place : goal.decreases-loop-place
decreases-loop-place l = l.place
