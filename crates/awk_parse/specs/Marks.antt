-- The tokens by which the grammar is read: one that may come, and one that must.
use Rattle.std.specs.Prelude.{List, ◌∷◌, Option, Some, None, Result, Ok, Err}
use Rattle.awk_grammar.specs.Token.{Token, Open, Close, OpenBracket, CloseBracket, OpenBrace, CloseBrace, Comma, Colon, Semicolon, Infix, Compare, Less, InWord, Key, ElseWord, WhileWord}
use Rattle.awk_grammar.specs.Reading.{Fault, Syntax, open_at, index_at, comma_at, less_at, close_at, bracket_at, colon_at, in_at}
use Rattle.awk_grammar.specs.ReadStmt.{open_here, comma_here, semicolon_at, while_at, else_at, brace_at}
use Rattle.awk_parse.specs.declared.mark.Mark.{Mark}
use Rattle.awk_parse.specs.declared.mark.Mark.TheVariants as marks

abbrev pub open_brace_at : List Token → Option (List Token)
open_brace_at (OpenBrace ∷ ts) = Some ts
open_brace_at _ = None

-- what must come, of what may
abbrev pub must : Option (List Token) → Result (List Token) Fault
must (Some us) = Ok us
must None = Err Syntax

-- what may come, of what must
abbrev pub may : Result (List Token) Fault → Option (List Token)
may (Ok us) = Some us
may (Err e) = None

-- the mark that a token is
abbrev pub mark_of : Token → Option Mark
mark_of Open = Some marks.Open
mark_of Close = Some marks.Close
mark_of OpenBracket = Some marks.OpenBracket
mark_of CloseBracket = Some marks.CloseBracket
mark_of OpenBrace = Some marks.OpenBrace
mark_of CloseBrace = Some marks.CloseBrace
mark_of Comma = Some marks.Comma
mark_of Colon = Some marks.Colon
mark_of Semicolon = Some marks.Semicolon
mark_of (Infix (Compare Less)) = Some marks.Less
mark_of InWord = Some marks.In
mark_of (Key ElseWord) = Some marks.Else
mark_of (Key WhileWord) = Some marks.While
mark_of _ = None

-- the tokens after a mark that may come
abbrev pub mark_if : Mark → List Token → Option (List Token)
mark_if marks.Open ts = open_at ts
mark_if marks.Close ts = may (close_at ts)
mark_if marks.OpenBracket ts = index_at ts
mark_if marks.CloseBracket ts = may (bracket_at ts)
mark_if marks.OpenBrace ts = open_brace_at ts
mark_if marks.CloseBrace ts = brace_at ts
mark_if marks.Comma ts = comma_at ts
mark_if marks.Colon ts = may (colon_at ts)
mark_if marks.Semicolon ts = may (semicolon_at ts)
mark_if marks.Less ts = less_at ts
mark_if marks.In ts = may (in_at ts)
mark_if marks.Else ts = else_at ts
mark_if marks.While ts = may (while_at ts)

-- the tokens after a mark that must come
abbrev pub mark_at : Mark → List Token → Result (List Token) Fault
mark_at marks.Open ts = open_here ts
mark_at marks.Close ts = close_at ts
mark_at marks.OpenBracket ts = must (index_at ts)
mark_at marks.CloseBracket ts = bracket_at ts
mark_at marks.OpenBrace ts = must (open_brace_at ts)
mark_at marks.CloseBrace ts = must (brace_at ts)
mark_at marks.Comma ts = comma_here ts
mark_at marks.Colon ts = colon_at ts
mark_at marks.Semicolon ts = semicolon_at ts
mark_at marks.Less ts = must (less_at ts)
mark_at marks.In ts = in_at ts
mark_at marks.Else ts = must (else_at ts)
mark_at marks.While ts = while_at ts
