use Rattle.std.proofs.Common.{◌≡◌, drop, map}
use Rattle.lower_model.specs.Quick.{is_among}
use Rattle.lower_quick.specs.View.{view_holder}
use Rattle.lower_quick.proofs.names.is_among.Given as goal

abbrev pub invariant-loop-it : goal.invariant-loop-it
invariant-loop-it l = is_among (view_holder l.name) (map view_holder (drop l.it-index l.names)) ≡ is_among (view_holder l.name) (map view_holder l.names)
