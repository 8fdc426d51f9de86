use Rattle.std.proofs.Common.{◌≡◌, ℕ, ◌<◌, ◌≤◌, false, get_or}
use Rattle.ere_syntax.specs.Bracket.{not}
use Rattle.ere_syntax.proofs.tree.ByteSet.complement.Given as goal

abbrev pub invariant-loop-byte : goal.invariant-loop-byte
invariant-loop-byte l = record {
  done : (k : ℕ) → k < l.byte-index → get_or l.byte-items k false ≡ not (get_or l.fn.self.has k false);
  rest : (k : ℕ) → l.byte-index ≤ k → get_or l.byte-items k false ≡ get_or l.fn.self.has k false;
}
