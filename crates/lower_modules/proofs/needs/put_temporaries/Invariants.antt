use Rattle.std.proofs.Common.{◌≡◌, ◌++◌}
use Rattle.lower_model.specs.Places.{temporary_types}
use Rattle.lower_modules.proofs.needs.put_temporaries.Given as goal

abbrev pub invariant-loop-done : goal.invariant-loop-done
invariant-loop-done l = l.types.items ≡ l.fn.types.items ++ temporary_types l._done
