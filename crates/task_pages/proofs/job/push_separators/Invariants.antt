use Rattle.std.proofs.Common.{◌≡◌, ◌++◌, drop, map}
use Rattle.command_line.specs.Request.{texts}
use Rattle.host_texts.specs.NameForms.{pair_of}
use Rattle.task_pages.specs.Jobs.{separator}
use Rattle.task_pages.proofs.job.push_separators.Given as goal

abbrev pub invariant-loop-word : goal.invariant-loop-word
invariant-loop-word l = map pair_of l.pairs.items ++ map separator (texts (drop l.word-index l.words)) ≡ map pair_of l.fn.pairs.items ++ map separator (texts l.words)
