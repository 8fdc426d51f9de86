-- What `explain` prints.
use Rattle.std.specs.Prelude.{ℕ, ◌≡◌, List, [], ◌∷◌, ◌++◌, Option, None, Some, codes}
use Rattle.std.specs.Borrow.{Bor}
use Rattle.std.specs.Io.KnownBytes.{Appends}
use Rattle.run_report.specs.Explanations.{ExplanationForm, explanation}
use Rattle.run_report.specs.Topics.{all_topics, named, topic_name}
use Rattle.run_report.specs.declared.topic.Topic.{Topic}
use Rattle.task_pages.specs.Printed.{line}

-- the names of topics, a line each
abbrev pub topics_text : List Topic → List ℕ
topics_text [] = []
topics_text (topic ∷ rest) = line (topic_name topic) ++ topics_text rest

-- under a name: what it means; after an empty line a command and what that shows; and after another one what to do
abbrev pub explanation_text : List ℕ → ExplanationForm → List ℕ
explanation_text name said =
    name ++ (line (codes ": " ++ said.meaning) ++ (line (codes "\n  $ " ++ said.command) ++ (line (codes "  " ++ said.shown) ++ line (codes "\n" ++ said.advice))))

-- what explains a topic
abbrev pub topic_text : Topic → List ℕ
topic_text topic = explanation_text (topic_name topic) (explanation topic)

-- A text answers `explain`: without a name, the names of all topics; else what explains the topic that is found by the name.
abbrev pub IsExplanation : Option (Bor (List ℕ)) → List ℕ → Type 0
IsExplanation None text = text ≡ topics_text all_topics
IsExplanation (Some asked) text = (topic : Topic) × (named asked.now ≡ Some topic) × (text ≡ topic_text topic)

-- such a text is printed: a writer's bytes grow by it
pub record PrintsExplanation (name : Option (Bor (List ℕ))) (old new : Option (List ℕ)) : Type 0 where
  pub text : List ℕ
  pub answers : IsExplanation name text
  pub printed : Appends old new text
