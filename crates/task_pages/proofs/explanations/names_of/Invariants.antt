use Rattle.std.proofs.Common.{◌≡◌, ◌++◌, drop}
use Rattle.std.specs.Prelude.{string_bytes}
use Rattle.task_pages.specs.Explained.{topics_text}
use Rattle.task_pages.proofs.explanations.names_of.Given as goal

abbrev pub invariant-loop-topic : goal.invariant-loop-topic
invariant-loop-topic l = string_bytes l.text ++ topics_text (drop l.topic-index l.topics) ≡ topics_text l.topics
