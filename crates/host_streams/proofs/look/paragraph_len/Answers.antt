use Rattle.std.proofs.Common.{◌≡◌, ℕ, List, [], ◌∷◌, length, arith, ◌-◌, ◌≤◌, refl}
use Rattle.sem_primitives.specs.Records.{without_last}
use Rattle.host_streams.proofs.Cuts.{last_newline, last_other}
use Rattle.host_streams.proofs.look.paragraph_len.Goals as goal
use Rattle.host_streams.proofs.look.paragraph_len.Goals.{else-len-gt0-via-then-len-gt0+else-bytes-len-eq10, else-len-gt0-via-else-len-gt0}

pub returns-then-bytes-len-eq10-clause-value : goal.returns-then-bytes-len-eq10-clause-value
returns-then-bytes-len-eq10-clause-value c = last_newline c.args.bytes.now (length c.args.bytes.now - 1) (omega arith) c.if-bytes-len-eq10.true

none_left : (xs : List ℕ) → length xs ≤ 0 → length xs ≡ length (without_last xs)
none_left [] h = refl
none_left (x ∷ xs) h = absurd (omega arith)

pub returns-else-len-gt0-clause-value : goal.returns-else-len-gt0-clause-value
returns-else-len-gt0-clause-value c = elim c.else-len-gt0.branch [
  | else-len-gt0-via-then-len-gt0+else-bytes-len-eq10 w ↦ last_other c.args.bytes.now (length c.args.bytes.now - 1) (let h = w.if-len-gt0.true in omega arith) w.if-bytes-len-eq10.false
  | else-len-gt0-via-else-len-gt0 w ↦ none_left c.args.bytes.now w.if-len-gt0.false
]
