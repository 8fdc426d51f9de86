use Rattle.std.proofs.Common.{◌≡◌, ℕ, ◌<◌, ◌≤◌, ◌||◌, false, get_or, length}
use Rattle.ere_syntax.specs.Reads.{in_item}
use Rattle.ere_syntax.proofs.bracket.insert.Given as goal

abbrev pub invariant-loop-byte : goal.invariant-loop-byte
invariant-loop-byte l = record {
  len : length l.set.has ≡ 256;
  done : (k : ℕ) → k < l.byte → get_or l.set.has k false ≡ (get_or l.fn.set.has k false || in_item l.item k);
  rest : (k : ℕ) → l.byte ≤ k → get_or l.set.has k false ≡ get_or l.fn.set.has k false;
}
