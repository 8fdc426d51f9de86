-- Cuttings of a script into pieces, and the tokens of a cutting.
use Rattle.std.specs.Prelude.{◌≡◌, ℕ, ◌+◌, ◌<◌, ◌≤◌, Bool, true, false, ◌&&◌, ◌==◌, not, if◌then◌else◌, Option, Some, None, is_some, Result, Ok, Err, List, [], ◌∷◌, ◌++◌, length, take, drop, get_or}
use Rattle.std.specs.List.{count_by}
use Rattle.awk_text.specs.Bytes.{newline, quote, open_paren, slash}
use Rattle.awk_tokens.specs.Pieces.{piece_of}
use Rattle.awk_tokens.specs.declared.reserved_words.Keyword.TheVariants.{Function, If, Else, While, For, Do, Getline}
use Rattle.awk_tokens.specs.declared.reserved_words.Builtin.TheVariants.{Length}
use Rattle.awk_tokens.specs.declared.token.Punctuator.TheVariants.{OpenBrace, CloseBrace, OpenParen, CloseParen, CloseBracket, Semicolon, Comma, Increment, Decrement, And, Or}
use Rattle.awk_tokens.specs.declared.token.TokenKind.{TokenKind}
use Rattle.awk_tokens.specs.declared.token.TokenKind.TheVariants.{Name, FuncName, Number, Str, Ere, Keyword, Builtin, Punctuator}
use Rattle.awk_tokens.specs.declared.token.Piece.{Piece}
use Rattle.awk_tokens.specs.declared.token.Piece.TheVariants.{Blank, Newline, Token}
use Rattle.awk_tokens.specs.declared.token.Role.{Role}
use Rattle.awk_tokens.specs.declared.token.Role.TheVariants.{Control, Params, Plain}
use Rattle.awk_tokens.specs.declared.token.TokenFault.{TokenFault}
use Rattle.awk_tokens.specs.declared.token.TokenFault.TheVariants.{BadByte, OpenString, OpenEre}

-- a token without where it lies in memory
pub record Spelled : Type 0 where
  pub kind : TokenKind
  pub line : ℕ
  pub text : List ℕ

-- ---- what the tokens before a place say

pub record Context : Type 0 where
  -- the kinds of the last token and of the one before it
  pub last : Option TokenKind
  pub former : Option TokenKind
  -- what the parenthesis that a last `)` closes was opened for; `Plain` if there is none
  pub closed : Role
  -- what the open parentheses were opened for, the newest first
  pub open_roles : List Role

abbrev pub start : Context
start = record { last = None; former = None; closed = Plain; open_roles = [] }

-- Table: what a `(` opens, by the last kind and the one before it: a control parenthesis (of `if`, `while` and `for`), the
-- parameters of a function, or any other.
abbrev pub opens_after : Option TokenKind → Option TokenKind → Role
opens_after (Some (Keyword If)) _ = Control
opens_after (Some (Keyword While)) _ = Control
opens_after (Some (Keyword For)) _ = Control
opens_after (Some Name) (Some (Keyword Function)) = Params
opens_after (Some FuncName) (Some (Keyword Function)) = Params
opens_after _ _ = Plain

-- one more token: `(` opens a parenthesis, `)` closes the newest
abbrev pub after : Context → TokenKind → Context
after c (Punctuator OpenParen) = record { last = Some (Punctuator OpenParen); former = c.last; closed = Plain; open_roles = opens_after c.last c.former ∷ c.open_roles }
after c (Punctuator CloseParen) = record { last = Some (Punctuator CloseParen); former = c.last; closed = get_or c.open_roles 0 Plain; open_roles = drop 1 c.open_roles }
after c kind = record { last = Some kind; former = c.last; closed = Plain; open_roles = c.open_roles }

-- Table: whether a slash divides, by the last kind and what a last `)` closed. Where it does not, it begins an ERE.
abbrev pub divides_after : Option TokenKind → Role → Bool
divides_after (Some Number) _ = true
divides_after (Some Str) _ = true
divides_after (Some Ere) _ = true
divides_after (Some Name) _ = true
divides_after (Some (Builtin Length)) _ = true
divides_after (Some (Keyword Getline)) _ = true
divides_after (Some (Punctuator CloseBracket)) _ = true
divides_after (Some (Punctuator Increment)) _ = true
divides_after (Some (Punctuator Decrement)) _ = true
divides_after (Some (Punctuator CloseParen)) Params = true
divides_after (Some (Punctuator CloseParen)) Plain = true
divides_after _ _ = false

-- Table for rule 1 below: whether a newline is dropped, by the last kind and what a last `)` closed.
abbrev pub drops_after : Option TokenKind → Role → Bool
drops_after None _ = true
drops_after (Some (Punctuator Semicolon)) _ = true
drops_after (Some (Punctuator OpenBrace)) _ = true
drops_after (Some (Punctuator CloseBrace)) _ = true
drops_after (Some (Punctuator And)) _ = true
drops_after (Some (Punctuator Or)) _ = true
drops_after (Some (Punctuator Comma)) _ = true
drops_after (Some (Keyword Do)) _ = true
drops_after (Some (Keyword Else)) _ = true
drops_after (Some (Punctuator CloseParen)) Control = true
drops_after (Some (Punctuator CloseParen)) Params = true
drops_after _ _ = false

abbrev pub divides : Context → Bool
divides c = divides_after c.last c.closed

abbrev pub drops : Context → Bool
drops c = drops_after c.last c.closed

-- the kind of a token with what follows it: a name directly before `(` is a FuncName
abbrev pub followed : List ℕ → TokenKind → TokenKind
followed (c ∷ _) Name = if c == open_paren then FuncName else Name
followed _ k = k

-- ---- newlines and semicolons: three rules, in this order

-- Rule 1, while the script is cut: a newline is dropped by its table, and every other newline is the token `;`.
-- (A newline after another newline stands after its `;`, or, where that one was dropped, after what it was dropped after.)

-- The kind that a piece is kept as, if it is kept: a blank never, a newline by rule 1, a token always. `rest` is what
-- follows the piece.
abbrev pub kept : Context → List ℕ → Option Piece → Option TokenKind
kept before rest None = None
kept before rest (Some Blank) = None
kept before rest (Some Newline) = if drops before then None else Some (Punctuator Semicolon)
kept before rest (Some (Token k)) = Some (followed rest k)

-- Rule 2, over the tokens of the whole script: a `;` directly between `}` and `else` or `while` is dropped.

-- whether the second of three kinds in a row is dropped; there may be none before it
abbrev pub is_dropped : Option TokenKind → TokenKind → TokenKind → Bool
is_dropped (Some (Punctuator CloseBrace)) (Punctuator Semicolon) (Keyword Else) = true
is_dropped (Some (Punctuator CloseBrace)) (Punctuator Semicolon) (Keyword While) = true
is_dropped _ _ _ = false

-- the first argument is the former kind
abbrev pub without : Option TokenKind → List Spelled → List Spelled
without former [] = []
without former (t ∷ []) = t ∷ []
without former (t ∷ (u ∷ ts)) = if is_dropped former t.kind u.kind then without (Some t.kind) (u ∷ ts) else t ∷ without (Some t.kind) (u ∷ ts)

-- Rule 3, over what rule 2 leaves: a `;` is put before each `}` except after `{`, `}` and `;`, and at the end except after
-- `}` and `;` and in an empty script. It has the line of the token before it, or 1, and no text.

-- whether one is put between two kinds in a row; the start has none before it, and the end none after it
abbrev pub is_put : Option TokenKind → Option TokenKind → Bool
is_put (Some (Punctuator Semicolon)) _ = false
is_put (Some (Punctuator CloseBrace)) _ = false
is_put (Some (Punctuator OpenBrace)) (Some _) = false
is_put _ (Some (Punctuator CloseBrace)) = true
is_put (Some _) None = true
is_put _ _ = false

abbrev pub semicolon : ℕ → Spelled
semicolon line = record { kind = Punctuator Semicolon; line = line; text = [] }

-- the first arguments are the former token's kind and line
abbrev pub with_ends : Option TokenKind → ℕ → List Spelled → List Spelled
with_ends former line [] = if is_put former None then semicolon line ∷ [] else []
with_ends former line (t ∷ ts) = if is_put former (Some t.kind) then semicolon line ∷ (t ∷ with_ends (Some t.kind) t.line ts)
    else t ∷ with_ends (Some t.kind) t.line ts

-- rules 2 and 3
abbrev pub finished : Result (List Spelled) TokenFault → Result (List Spelled) TokenFault
finished (Ok ts) = Ok (with_ends None 1 (without None ts))
finished (Err e) = Err e

-- ---- the longest cutting

-- the text is a piece, and no longer front of what stands here is one
pub record IsLongest (division : Bool) (text rest : List ℕ) : Type 0 where
  pub piece : is_some (piece_of division text) ≡ true
  pub longest : (n : ℕ) → length text < n → n ≤ length (text ++ rest) → piece_of division (take n (text ++ rest)) ≡ None

-- no front is a piece: the end, or what no piece begins with
abbrev pub IsStop : Bool → List ℕ → Type 0
IsStop division rest = (n : ℕ) → n ≤ length rest → piece_of division (take n rest) ≡ None

abbrev pub joined : List (List ℕ) → List ℕ
joined [] = []
joined (t ∷ ts) = t ++ joined ts

-- after a piece that is kept as this kind, or not kept
abbrev pub after_kept : Option TokenKind → Context → Context
after_kept None before = before
after_kept (Some kind) before = after before kind

-- after this text
abbrev pub after_text : Context → List ℕ → List ℕ → Context
after_text before text rest = after_kept (kept before rest (piece_of (divides before) text)) before

-- the texts are the longest pieces, each slash of the kind that the kept tokens before it say, as far as there are pieces
abbrev pub IsCutting : Context → List (List ℕ) → List ℕ → Type 0
IsCutting before [] rest = IsStop (divides before) rest
IsCutting before (t ∷ ts) rest = IsLongest (divides before) t (joined ts ++ rest) × IsCutting (after_text before t (joined ts ++ rest)) ts rest

-- ---- lines and refusals

-- how many newlines there are
abbrev pub newlines : List ℕ → ℕ
newlines bytes = count_by (λ c. c == newline) bytes

-- why there is no piece that begins with this byte
abbrev pub refusal : Bool → ℕ → ℕ → TokenFault
refusal division line c = if c == quote then OpenString line else if (c == slash) && not division then OpenEre line else BadByte line

-- ---- the tokens of a script

-- a token in front of those that follow, or none
abbrev pub with_token : Option TokenKind → ℕ → List ℕ → Result (List Spelled) TokenFault → Result (List Spelled) TokenFault
with_token None line text r = r
with_token (Some k) line text (Ok ts) = Ok (record { kind = k; line = line; text = text } ∷ ts)
with_token (Some k) line text (Err e) = Err e

-- the tokens of a cutting that takes the whole script, each on the line where it begins, or why the cutting does not take it
abbrev pub outcome : ℕ → Context → List (List ℕ) → List ℕ → Result (List Spelled) TokenFault
outcome line before [] [] = Ok []
outcome line before [] (c ∷ _) = Err (refusal (divides before) line c)
outcome line before (t ∷ ts) rest = with_token (kept before (joined ts ++ rest) (piece_of (divides before) t)) line t
    (outcome (line + newlines t) (after_text before t (joined ts ++ rest)) ts rest)

-- what a script's longest cutting gives, with rules 2 and 3 applied to its tokens
pub record IsTokens (script : List ℕ) (found : Result (List Spelled) TokenFault) : Type 0 where
  pub texts : List (List ℕ)
  pub rest : List ℕ
  pub whole : joined texts ++ rest ≡ script
  pub cutting : IsCutting start texts rest
  pub gives : found ≡ finished (outcome 1 start texts rest)
