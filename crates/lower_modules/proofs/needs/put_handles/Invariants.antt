use Rattle.std.proofs.Common.{◌≡◌, ◌++◌}
use Rattle.lower_model.specs.Places.{handle_types}
use Rattle.lower_modules.proofs.needs.put_handles.Given as goal

abbrev pub invariant-loop-done : goal.invariant-loop-done
invariant-loop-done l = l.types.items ≡ l.fn.types.items ++ handle_types l._done
