use Rattle.std.proofs.Common.{◌≡◌, ◌++◌, drop}
use Rattle.command_line.specs.Request.{texts}
use Rattle.task_pages.proofs.job.operands_of.Given as goal

abbrev pub invariant-loop-word : goal.invariant-loop-word
invariant-loop-word l = l.operands.items ++ texts (drop l.word-index l.words) ≡ texts l.words
