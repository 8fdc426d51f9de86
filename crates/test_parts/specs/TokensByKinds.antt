-- The tokens of a script by the kinds of all tokens before a place, the newest first, and by tests of single tokens: the same as the definition's, which carries
-- a context. The rows compute this, since the prover computes lists faster.
use Rattle.std.specs.Prelude.{ℕ, zero, suc, ◌+◌, false, if◌then◌else◌, List, [], ◌∷◌, Option, Some, None, Result, Ok, Err, drop, length, take}
use Rattle.awk_tokens.specs.declared.token.Piece.{Piece}
use Rattle.awk_tokens.specs.declared.token.Piece.TheVariants.{Blank, Newline, Token}
use Rattle.awk_tokens.specs.declared.token.Punctuator.TheVariants.{Semicolon}
use Rattle.awk_tokens.specs.declared.token.TokenFault.{TokenFault}
use Rattle.awk_tokens.specs.declared.token.TokenKind.{TokenKind}
use Rattle.awk_tokens.specs.declared.token.TokenKind.TheVariants.{Punctuator}
use Rattle.awk_tokens.specs.Cutting.{Spelled, followed, newlines, refusal, with_token}
use Rattle.awk_tokens.specs.Kinds.{kinds_divide, kinds_drop}
use Rattle.awk_tokens.specs.Reading.{front_at}
use Rattle.awk_tokens.specs.Rules.{rule_two, rule_three}

-- the kind that a piece is kept as, if it is kept
abbrev pub kept_by : List TokenKind → List ℕ → Piece → Option TokenKind
kept_by ks rest Blank = None
kept_by ks rest Newline = if kinds_drop ks then None else Some (Punctuator Semicolon)
kept_by ks rest (Token k) = Some (followed rest k)

abbrev pub with_kind : Option TokenKind → List TokenKind → List TokenKind
with_kind None ks = ks
with_kind (Some k) ks = k ∷ ks

abbrev pub first_by : (ℕ → List TokenKind → List ℕ → Result (List Spelled) TokenFault) → ℕ → List TokenKind → ℕ → List ℕ → Option (Piece × ℕ)
    → Result (List Spelled) TokenFault
first_by go line ks c cs None = Err (refusal (kinds_divide ks) line c)
first_by go line ks c cs (Some x) =
    with_token (kept_by ks (drop x.1 cs) x.0) line (c ∷ take x.1 cs)
    (go (line + newlines (c ∷ take x.1 cs)) (with_kind (kept_by ks (drop x.1 cs) x.0) ks) (drop x.1 cs))

unfoldable pub cut_by : ℕ → ℕ → List TokenKind → List ℕ → Result (List Spelled) TokenFault
cut_by n line ks [] = Ok []
cut_by zero line ks (c ∷ cs) = Ok []
cut_by (suc n) line ks (c ∷ cs) = first_by (cut_by n) line ks c cs (front_at (kinds_divide ks) c cs)

abbrev pub ended_by : Result (List Spelled) TokenFault → Result (List Spelled) TokenFault
ended_by (Ok ts) = Ok (rule_three None (rule_two false ts))
ended_by (Err e) = Err e

abbrev pub tokens_by : List ℕ → Result (List Spelled) TokenFault
tokens_by script = ended_by (cut_by (length script) 1 [] script)
