-- What is missing where reading stopped, where that is sure.
use Rattle.std.specs.Prelude.{ℕ, zero, suc, ◌+◌, ◌-◌, ◌==◌, Bool, true, false, not, ◌&&◌, ◌||◌, if◌then◌else◌, List, [], length, Option, Some, None, codes, slice_get}
use Rattle.awk_tokens.specs.declared.reserved_words.Keyword.{Keyword}
use Rattle.awk_tokens.specs.declared.reserved_words.Keyword.TheVariants.{Begin, End, Function, For}
use Rattle.awk_tokens.specs.declared.token.Punctuator.{Punctuator}
use Rattle.awk_tokens.specs.declared.token.Punctuator.TheVariants.{OpenBrace, CloseBrace, OpenParen, CloseParen, OpenBracket, CloseBracket, Semicolon, Comma, Plus, Minus, Star, Slash, Percent, Caret, Bang, Greater, Less, Question, Colon, Tilde, Dollar, Assign, PlusAssign, MinusAssign, StarAssign, SlashAssign, PercentAssign, CaretAssign, Equal, LessEqual, GreaterEqual, NotEqual, NotTilde, And, Or, Append}
use Rattle.awk_tokens.specs.declared.token.TokenKind.{TokenKind}
use Rattle.awk_tokens.specs.declared.token.TokenKind.TheVariants.{Keyword as Word, Punctuator as Sign}
use Rattle.awk_tokens.specs.declared.token.Token.{Token}
use Rattle.script_check.specs.declared.finding.Severity.TheVariants.{Error}
use Rattle.script_check.specs.Layout.{kind_at}
use Rattle.script_check.specs.Remarks.{Remark}

-- what is missing, and the line in which it was opened
abbrev pub syntax : (text : List ℕ) → (line : Option ℕ) → Remark
syntax text line = record { severity = Error; word = codes "Syntax"; name = []; text = text; line = line }

-- ---- operands

-- an operand must come behind it
abbrev pub is_operator : Punctuator → Bool
is_operator Plus = true
is_operator Minus = true
is_operator Star = true
is_operator Slash = true
is_operator Percent = true
is_operator Caret = true
is_operator Bang = true
is_operator Greater = true
is_operator Less = true
is_operator Question = true
is_operator Tilde = true
is_operator Dollar = true
is_operator Assign = true
is_operator PlusAssign = true
is_operator MinusAssign = true
is_operator StarAssign = true
is_operator SlashAssign = true
is_operator PercentAssign = true
is_operator CaretAssign = true
is_operator Equal = true
is_operator LessEqual = true
is_operator GreaterEqual = true
is_operator NotEqual = true
is_operator NotTilde = true
is_operator And = true
is_operator Or = true
is_operator Append = true
is_operator _ = false

-- no operand begins with it
abbrev pub begins_none : Punctuator → Bool
begins_none OpenBrace = true
begins_none CloseBrace = true
begins_none CloseParen = true
begins_none CloseBracket = true
begins_none Semicolon = true
begins_none Comma = true
begins_none Star = true
begins_none Percent = true
begins_none Caret = true
begins_none Question = true
begins_none Colon = true
begins_none Tilde = true
begins_none Equal = true
begins_none LessEqual = true
begins_none GreaterEqual = true
begins_none And = true
begins_none Or = true
begins_none _ = false

abbrev pub wants_operand : Option TokenKind → Bool
wants_operand (Some (Sign p)) = is_operator p
wants_operand _ = false

abbrev pub begins_no_operand : Option TokenKind → Bool
begins_no_operand (Some (Sign p)) = begins_none p
begins_no_operand _ = false

abbrev pub lacks_operand : List Token → (stop : ℕ) → Bool
lacks_operand tokens zero = false
lacks_operand tokens (suc i) = wants_operand (kind_at tokens i) && begins_no_operand (kind_at tokens (suc i))

-- ---- openings

abbrev pub opens : Option TokenKind → Bool
opens (Some (Sign OpenParen)) = true
opens (Some (Sign OpenBracket)) = true
opens (Some (Sign OpenBrace)) = true
opens _ = false

abbrev pub closes : Option TokenKind → Bool
closes (Some (Sign CloseParen)) = true
closes (Some (Sign CloseBracket)) = true
closes (Some (Sign CloseBrace)) = true
closes _ = false

-- the number of the innermost opening that is open behind so many tokens, with so many closings behind them that close others
abbrev pub innermost : List Token → (closed : ℕ) → ℕ → Option ℕ
innermost tokens closed zero = None
innermost tokens closed (suc i) =
    if closes (kind_at tokens i) then innermost tokens (closed + 1) i
    else if opens (kind_at tokens i) then (if closed == 0 then Some i else innermost tokens (closed - 1) i) else innermost tokens closed i

-- an item of a script begins with it, and nothing else
abbrev pub begins_item : TokenKind → Bool
begins_item (Word Function) = true
begins_item (Word Begin) = true
begins_item (Word End) = true
begins_item _ = false

abbrev pub is_brace : TokenKind → Bool
is_brace (Sign OpenBrace) = true
is_brace (Sign CloseBrace) = true
is_brace _ = false

abbrev pub is_semicolon : TokenKind → Bool
is_semicolon (Sign Semicolon) = true
is_semicolon _ = false

-- it is never in parentheses or brackets
abbrev pub is_outside : TokenKind → Bool
is_outside kind = begins_item kind || is_brace kind

abbrev pub is_word_for : Option TokenKind → Bool
is_word_for (Some (Word For)) = true
is_word_for _ = false

-- a parenthesis of a `for`, in which semicolons are
abbrev pub is_for : List Token → ℕ → Bool
is_for tokens zero = false
is_for tokens (suc i) = is_word_for (kind_at tokens i)

-- what closes an opening, if a token of this kind cannot be in it; at the end nothing can be in a brace
abbrev pub closer : (opening : TokenKind) → (of_for : Bool) → TokenKind → (at_end : Bool) → Option (List ℕ)
closer (Sign OpenParen) of_for kind at_end =
    if is_outside kind || (is_semicolon kind && not of_for) then Some (codes ") is missing, opened in line") else None
closer (Sign OpenBracket) of_for kind at_end = if is_outside kind || is_semicolon kind then Some (codes "] is missing, opened in line") else None
closer (Sign OpenBrace) of_for kind at_end = if at_end || begins_item kind then Some (codes "} is missing, opened in line") else None
closer _ of_for kind at_end = None

abbrev pub closing_text : (line : ℕ) → Option (List ℕ) → Option Remark
closing_text line None = None
closing_text line (Some text) = Some (syntax text (Some line))

abbrev pub closing_by : List Token → TokenKind → (at_end : Bool) → ℕ → Option Token → Option Remark
closing_by tokens kind at_end n None = None
closing_by tokens kind at_end n (Some t) = closing_text t.line (closer t.kind (is_for tokens n) kind at_end)

abbrev pub closing_from : List Token → TokenKind → (at_end : Bool) → Option ℕ → Option Remark
closing_from tokens kind at_end None = None
closing_from tokens kind at_end (Some n) = closing_by tokens kind at_end n (slice_get tokens n)

-- the last token counts itself
abbrev pub closing_in : List Token → (stop : ℕ) → TokenKind → (at_end : Bool) → Option Remark
closing_in tokens stop kind at_end = closing_from tokens kind at_end (innermost tokens 0 (if at_end then length tokens else stop))

abbrev pub closing_of : List Token → (stop : ℕ) → Option TokenKind → Option Remark
closing_of tokens stop None = None
closing_of tokens stop (Some kind) = closing_in tokens stop kind (stop + 1 == length tokens)

-- what closes the innermost opening, if the token at which reading stopped cannot be in it
abbrev pub closing : List Token → (stop : ℕ) → Option Remark
closing tokens stop = closing_of tokens stop (kind_at tokens stop)

-- ---- what is said

abbrev pub or_else_so : Option Remark → Remark
or_else_so None = syntax (codes "the script does not go on so") None
or_else_so (Some r) = r

-- where reading stopped at the token of this number
abbrev pub syntax_at : List Token → (stop : ℕ) → Remark
syntax_at tokens stop = if lacks_operand tokens stop then syntax (codes "an operand is missing") None else or_else_so (closing tokens stop)
