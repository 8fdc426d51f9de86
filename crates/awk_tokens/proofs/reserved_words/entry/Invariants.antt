use Rattle.std.proofs.Common.{◌≡◌, map, length}
use Rattle.awk_tokens.specs.Words.{entry}
use Rattle.awk_tokens.proofs.reserved_words.entry.Given as goal

abbrev pub invariant-loop-rest : goal.invariant-loop-rest
invariant-loop-rest g l = entry l.text (map (λ row. (row.0.now, row.1)) l.rest) ≡ entry l.text (map (λ row. (row.0.now, row.1)) l.fn.table)

abbrev pub decreases-loop-rest : goal.decreases-loop-rest
decreases-loop-rest g l = length l.rest
