-- What is told, as the code has it.
use Rattle.std.specs.Prelude.{ℕ, List, [], ◌∷◌, ◌++◌, Option, Some, None, decimal}
use Rattle.run_report.specs.declared.line.Part.{Part}
use Rattle.run_report.specs.declared.line.Part.TheVariants.{Name, Number, Word}
use Rattle.run_report.specs.declared.line.Told.{Told}

-- the word that a part is
abbrev pub word_of : Part → List ℕ
word_of (Word word) = word.now
word_of (Number number) = decimal number
word_of (Name name) = name.now

abbrev pub maybe_word : Option Part → List (List ℕ)
maybe_word None = []
maybe_word (Some part) = word_of part ∷ []

-- a name and what it carries
abbrev pub words_of : Told → List (List ℕ)
words_of told = told.name.now ∷ (maybe_word told.first ++ maybe_word told.second)
