use Rattle.std.proofs.Common.{◌≡◌, ℕ, ◌≤◌, List, drop, length}
use Rattle.awk_resolve.specs.ViewFunctions.{view_functions}
use Rattle.mid_code.specs.ViewNames.{place_found, function_from}
use Rattle.mid_code.proofs.names.places_of_functions.Given as goal

abbrev pub invariant-loop-place : goal.invariant-loop-place
invariant-loop-place l = record {
  within : l.place ≤ length l.functions;
  found : (x : List ℕ) → place_found l.found.entries x ≡ function_from l.place (view_functions (drop l.place l.functions)) x;
}

abbrev pub decreases-loop-place : goal.decreases-loop-place
decreases-loop-place l = l.place
