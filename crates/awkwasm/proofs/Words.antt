-- Words as they are handed on: a test of each holds of the texts. And what a test says of two facts that are one or not.
use Rattle.std.proofs.Common.{◌≡◌, ◌∙◌, ◌||◌, Bool, List, [], ◌∷◌, ap, false, refl, sym, true}
use Rattle.std.proofs.lemmas.Bool.{false≢true}
use Rattle.std.specs.Borrow.{Bor}
use Rattle.std.specs.List.{list_any}
use Rattle.clap.specs.Words.{Text}
use Rattle.command_line.specs.Line.{has_file_option, is_file_option}
use Rattle.command_line.specs.Request.{texts}

pub file_word : (words : List (Bor Text)) → has_file_option words ≡ list_any is_file_option (texts words)
file_word [] = refl
file_word (word ∷ rest) = ap (λ (b : Bool). is_file_option word.now || b) (file_word rest)

-- where a test of two facts fails, and the first holds, the second does not
pub not_both : {A : Type 0} (r b : Bool) → (A × (b ≡ true) → r ≡ true) → r ≡ false → A → b ≡ false
not_both r true both fails first = absurd (false≢true (sym fails ∙ both (first, refl)))
not_both r false both fails first = refl
