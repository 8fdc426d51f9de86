-- What printed tokens say to the grammar.
use Rattle.std.specs.Prelude.{List, map}
use Rattle.awk_grammar.specs.Token.{Number, Quoted, Ere, Token, Lit, Name, FuncName, Word}
use Rattle.awk_grammar.specs.LexemeCases.{keyword_lexeme, mark_lexeme}
use Rattle.awk_grammar.specs.declared.printed.Printed.{Printed}
use Rattle.awk_grammar.specs.declared.printed.Printed.TheVariants as printed

-- a token of a tree
abbrev pub lexeme : Printed → Token
lexeme (printed.Name text) = Name text.now
lexeme (printed.FuncName text) = FuncName text.now
lexeme (printed.Number text) = Lit (Number text.now)
lexeme (printed.Str text) = Lit (Quoted text.now)
lexeme (printed.Ere text) = Lit (Ere text.now)
lexeme (printed.Keyword w) = keyword_lexeme w
lexeme (printed.Builtin f) = Word f
lexeme (printed.Punctuator p) = mark_lexeme p

abbrev pub lexemes : List Printed → List Token
lexemes ps = map lexeme ps
