use Rattle.std.proofs.Common.{◌≡◌, false, ◌+◌, drop}
use Rattle.std.specs.Prelude.{option_map}
use Rattle.awk_tokens.specs.Reading.{close_at}
use Rattle.awk_tokens.proofs.front.closing.Given as goal

abbrev pub invariant-loop-i : goal.invariant-loop-i
invariant-loop-i l = option_map (λ n. l.i + n) (close_at l.newlines l.quote l.escaped (drop l.i l.bytes)) ≡ close_at l.newlines l.quote false l.bytes
