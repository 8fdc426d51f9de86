use Rattle.std.proofs.Common.{◌≡◌, ◌≤◌, ℕ, get_or, length}
use Rattle.lower_model.specs.Modules.{new_number}
use Rattle.lower_modules.proofs.called_imports.new_numbers.Given as goal

abbrev pub invariant-loop-place : goal.invariant-loop-place
invariant-loop-place l = record {
  next : l.next ≡ new_number l.called l.place;
  each : (n : ℕ) → n ≤ l.place → get_or l.numbers n 0 ≡ new_number l.called n;
  wide : length l.numbers ≡ 57;
}
