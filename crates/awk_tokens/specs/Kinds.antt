-- A second opinion on slashes and newlines, by the kinds of all tokens before a place, the newest first: a `)` closes the
-- parenthesis that as many others leave open.
use Rattle.std.specs.Prelude.{ℕ, zero, suc, Bool, true, false, not, List, [], ◌∷◌}
use Rattle.awk_tokens.specs.declared.reserved_words.Keyword.TheVariants.{Function, If, Else, While, For, Do, Getline}
use Rattle.awk_tokens.specs.declared.reserved_words.Builtin.TheVariants.{Length}
use Rattle.awk_tokens.specs.declared.token.Punctuator.TheVariants.{OpenBrace, CloseBrace, OpenParen, CloseParen, CloseBracket, Semicolon, Comma, Increment, Decrement, And, Or}
use Rattle.awk_tokens.specs.declared.token.TokenKind.{TokenKind}
use Rattle.awk_tokens.specs.declared.token.TokenKind.TheVariants.{Name, FuncName, Number, Str, Ere, Keyword, Builtin, Punctuator}
use Rattle.awk_tokens.specs.declared.token.Role.{Role}
use Rattle.awk_tokens.specs.declared.token.Role.TheVariants.{Control, Params, Plain}
use Rattle.awk_tokens.specs.Cutting.{Context, start, after}

-- the context after tokens of these kinds
abbrev pub context : List TokenKind → Context
context [] = start
context (k ∷ ks) = after (context ks) k

-- what a parenthesis that stands after these kinds is opened for
abbrev pub role_of : List TokenKind → Role
role_of (Keyword If ∷ _) = Control
role_of (Keyword While ∷ _) = Control
role_of (Keyword For ∷ _) = Control
role_of (Name ∷ Keyword Function ∷ _) = Params
role_of (FuncName ∷ Keyword Function ∷ _) = Params
role_of _ = Plain

-- the role of the parenthesis that a `)` after these kinds closes, with n more to be closed before it
abbrev pub opened : ℕ → List TokenKind → Role
opened n [] = Plain
opened n (Punctuator CloseParen ∷ ks) = opened (suc n) ks
opened zero (Punctuator OpenParen ∷ ks) = role_of ks
opened (suc n) (Punctuator OpenParen ∷ ks) = opened n ks
opened n (_ ∷ ks) = opened n ks

abbrev pub is_control : Role → Bool
is_control Control = true
is_control _ = false

abbrev pub is_plain : Role → Bool
is_plain Plain = true
is_plain _ = false

-- whether a slash after these kinds divides
abbrev pub kinds_divide : List TokenKind → Bool
kinds_divide (Number ∷ _) = true
kinds_divide (Str ∷ _) = true
kinds_divide (Ere ∷ _) = true
kinds_divide (Name ∷ _) = true
kinds_divide (Builtin Length ∷ _) = true
kinds_divide (Keyword Getline ∷ _) = true
kinds_divide (Punctuator CloseBracket ∷ _) = true
kinds_divide (Punctuator Increment ∷ _) = true
kinds_divide (Punctuator Decrement ∷ _) = true
kinds_divide (Punctuator CloseParen ∷ ks) = not (is_control (opened 0 ks))
kinds_divide _ = false

-- whether a newline after these kinds is dropped
abbrev pub kinds_drop : List TokenKind → Bool
kinds_drop [] = true
kinds_drop (Punctuator Semicolon ∷ _) = true
kinds_drop (Punctuator OpenBrace ∷ _) = true
kinds_drop (Punctuator CloseBrace ∷ _) = true
kinds_drop (Punctuator And ∷ _) = true
kinds_drop (Punctuator Or ∷ _) = true
kinds_drop (Punctuator Comma ∷ _) = true
kinds_drop (Keyword Do ∷ _) = true
kinds_drop (Keyword Else ∷ _) = true
kinds_drop (Punctuator CloseParen ∷ ks) = not (is_plain (opened 0 ks))
kinds_drop _ = false
