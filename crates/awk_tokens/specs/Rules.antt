-- Rules 2 and 3 by tests of single tokens.
use Rattle.std.specs.Prelude.{Bool, true, false, ◌&&◌, ◌||◌, not, if◌then◌else◌, Option, Some, None, List, [], ◌∷◌}
use Rattle.awk_tokens.specs.declared.reserved_words.Keyword.TheVariants.{Else, While}
use Rattle.awk_tokens.specs.declared.token.Punctuator.TheVariants.{OpenBrace, CloseBrace, Semicolon}
use Rattle.awk_tokens.specs.declared.token.TokenKind.{TokenKind}
use Rattle.awk_tokens.specs.declared.token.TokenKind.TheVariants.{Keyword, Punctuator}
use Rattle.awk_tokens.specs.Cutting.{Spelled}

abbrev pub is_semicolon : TokenKind → Bool
is_semicolon (Punctuator Semicolon) = true
is_semicolon _ = false

abbrev pub is_open_brace : TokenKind → Bool
is_open_brace (Punctuator OpenBrace) = true
is_open_brace _ = false

abbrev pub is_close_brace : TokenKind → Bool
is_close_brace (Punctuator CloseBrace) = true
is_close_brace _ = false

abbrev pub is_lead : TokenKind → Bool
is_lead (Keyword Else) = true
is_lead (Keyword While) = true
is_lead _ = false

-- `else` or `while` stands here
abbrev pub leads : List Spelled → Bool
leads [] = false
leads (t ∷ _) = is_lead t.kind

-- the first argument says whether a `}` stands directly before
abbrev pub rule_two : Bool → List Spelled → List Spelled
rule_two brace [] = []
rule_two brace (t ∷ ts) = if brace && (is_semicolon t.kind && leads ts) then rule_two (is_close_brace t.kind) ts
    else t ∷ rule_two (is_close_brace t.kind) ts

-- the `;` that is put after a token
abbrev pub inserted : Option Spelled → Spelled
inserted None = record { kind = Punctuator Semicolon; line = 1; text = [] }
inserted (Some former) = record { kind = Punctuator Semicolon; line = former.line; text = [] }

-- whether a `}` after this token needs a `;` before it
abbrev pub is_open_end : Option Spelled → Bool
is_open_end None = true
is_open_end (Some former) = not (is_open_brace former.kind || (is_close_brace former.kind || is_semicolon former.kind))

-- whether a script that ends in this token needs a `;` at the end
abbrev pub is_unended : Option Spelled → Bool
is_unended None = false
is_unended (Some former) = not (is_close_brace former.kind || is_semicolon former.kind)

-- the first argument is the former token
abbrev pub rule_three : Option Spelled → List Spelled → List Spelled
rule_three former [] = if is_unended former then inserted former ∷ [] else []
rule_three former (t ∷ ts) = if is_close_brace t.kind && is_open_end former then inserted former ∷ (t ∷ rule_three (Some t) ts)
    else t ∷ rule_three (Some t) ts
