use Rattle.std.proofs.Common.{◌≡◌, List, ℕ, Bool, drop, length, take_while}
use Rattle.sem_primitives.specs.Assignments.{continues_name}
use Rattle.sem_primitives.specs.Texts.{is_empty}
use Rattle.host_texts.proofs.name.is_continued.Given as goal

-- whether all bytes go on with a name
abbrev pub all_continue : List ℕ → Bool
all_continue text = is_empty (drop (length (take_while continues_name text)) text)

abbrev pub invariant-loop-byte : goal.invariant-loop-byte
invariant-loop-byte l = all_continue l.text ≡ all_continue (drop l.byte-index l.text)
