-- Whether output is about a target.
use Rattle.std.specs.Prelude.{List, [], ◌∷◌, Bool, false, ◌||◌}
use Rattle.world_core.specs.WorldState.{Target, same_target, Action, target_of}

-- some action of an output is about a target
abbrev pub is_about : Target → List Action → Bool
is_about target [] = false
is_about target (a ∷ rest) = same_target (target_of a) target || is_about target rest
