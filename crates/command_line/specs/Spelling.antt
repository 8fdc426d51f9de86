-- How words are handed to clap, which takes a first `=` off a text that is attached to its option. Here such a text is meant as it is.
use Rattle.std.specs.Prelude.{◌==◌, ◌++◌, ◌&&◌, List, [], ◌∷◌, Bool, Option, Some, None, if◌then◌else◌, codes, drop, length}
use Rattle.std.specs.List.{starts_with}
use Rattle.std.specs.Str.{bytes_eq}
use Rattle.clap.specs.Words.{Text}

-- the word is this option, and attached to it a text that begins with `=`
abbrev pub is_attached : Text → Text → Bool
is_attached option word = starts_with ◌==◌ word option && starts_with ◌==◌ (drop (length option) word) (codes "=")

-- that text
abbrev pub attached : Text → Text → Option Text
attached option word = if is_attached option word then Some (drop (length option) word) else None

abbrev pub parts : Text → Option Text → List Text → List Text
parts option (Some text) other = option ∷ (text ∷ [])
parts option None other = other

-- `-F=..` and `-v=..` are two words, the option and its text. Every other word is itself.
abbrev pub spelled_word : Text → List Text
spelled_word word = parts (codes "-F") (attached (codes "-F") word) (parts (codes "-v") (attached (codes "-v") word) (word ∷ []))

-- no word after it is an option
abbrev pub is_end : Text → Bool
is_end word = bytes_eq word (codes "--")

unfoldable pub spelled : List Text → List Text
spelled [] = []
spelled (word ∷ rest) = if is_end word then word ∷ rest else spelled_word word ++ spelled rest

-- the words of a line, whose first is the program's name
abbrev pub spelled_line : List Text → List Text
spelled_line [] = []
spelled_line (name ∷ rest) = name ∷ spelled rest
