use Rattle.std.proofs.Common.{◌≡◌, ◌+◌, ◌-◌, ◌<◌, ℕ, List, drop, length, refl, subst, arith}
use Rattle.awk_resolve.specs.ViewFunctions.{view_functions}
use Rattle.mid_code.specs.ViewNames.{place_found, function_from}
use Rattle.mid_code.proofs.NameTables.{put_function}
use Rattle.mid_code.proofs.names.places_of_functions.Goals as goal

pub loop-place-preserved : goal.loop-place-preserved
loop-place-preserved c =
    let xs = c.args.functions.now in
    let p = c.loop-place.place - 1 in
    let e : c.loop-place.place ≡ p + 1 = omega arith in
    let lt : p < length xs = omega arith in
    record {
      within = omega arith;
      found = put_function c.loop-place.found c.insert.new.self _ p c.in_ok-insert.ensures.updates xs _ lt refl
          (subst (λ (q : ℕ). (x : List ℕ) → place_found c.loop-place.found.entries x ≡ function_from q (view_functions (drop q xs)) x) e c.loop-place.invariant.found);
    }
