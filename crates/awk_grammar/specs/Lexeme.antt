-- What a token says to the grammar: its kind, and its text where it is a name, a number, a string or an ERE.
use Rattle.std.specs.Prelude.{ℕ, Bool, true, false, List, [], ◌∷◌}
use Rattle.awk_grammar.specs.Token.{Number, Quoted, Ere, Token, Lit, Name, FuncName, Word, Outside}
use Rattle.awk_grammar.specs.LexemeCases.{keyword_lexeme, mark_lexeme}
use Rattle.awk_tokens.specs.declared.reserved_words.Keyword.TheVariants.{Function}
use Rattle.awk_tokens.specs.declared.token.TokenKind.{TokenKind}
use Rattle.awk_tokens.specs.declared.token.TokenKind.TheVariants as kinds
use Rattle.awk_tokens.specs.Cutting.{Spelled}

-- a token of a script; the first argument says whether it stands directly behind `function`, where the two kinds of name are one
abbrev pub spoken_as : Bool → TokenKind → List ℕ → Token
spoken_as after kinds.Name text = Name text
spoken_as true kinds.FuncName text = Name text
spoken_as false kinds.FuncName text = FuncName text
spoken_as after kinds.Number text = Lit (Number text)
spoken_as after kinds.Str text = Lit (Quoted text)
spoken_as after kinds.Ere text = Lit (Ere text)
spoken_as after (kinds.Keyword w) text = keyword_lexeme w
spoken_as after (kinds.Builtin f) text = Word f
spoken_as after (kinds.LeftOut w) text = Outside
spoken_as after (kinds.Punctuator p) text = mark_lexeme p

abbrev pub is_function : TokenKind → Bool
is_function (kinds.Keyword Function) = true
is_function _ = false

abbrev pub spoken_after : Bool → List Spelled → List Token
spoken_after after [] = []
spoken_after after (t ∷ ts) = spoken_as after t.kind t.text ∷ spoken_after (is_function t.kind) ts

-- a script's tokens, lines and the texts of punctuators and words aside
abbrev pub spoken : List Spelled → List Token
spoken ts = spoken_after false ts
