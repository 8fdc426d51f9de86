use Rattle.std.proofs.Common.{◌≡◌, ◌++◌, drop, map}
use Rattle.task_pages.specs.Jobs.{assignment}
use Rattle.task_pages.proofs.job.assigns_of.Given as goal
use Rattle.command_line.specs.Request.{texts}
use Rattle.host_texts.specs.NameForms.{pair_of}

abbrev pub invariant-loop-word : goal.invariant-loop-word
invariant-loop-word l = map pair_of l.pairs.items ++ map assignment (texts (drop l.word-index l.words)) ≡ map assignment (texts l.words)
