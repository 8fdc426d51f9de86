-- The tokens by kinds are those of the definition.
use Rattle.std.proofs.Common.{◌≡◌, ◌∙◌, ℕ, zero, suc, ◌+◌, List, [], ◌∷◌, Option, Some, None, Result, Ok, Err, ap, cond, drop, length, refl, sym, take}
use Rattle.awk_tokens.specs.declared.token.Piece.{Piece}
use Rattle.awk_tokens.specs.declared.token.Piece.TheVariants.{Blank, Newline, Token}
use Rattle.awk_tokens.specs.declared.token.Punctuator.TheVariants.{Semicolon}
use Rattle.awk_tokens.specs.declared.token.TokenFault.{TokenFault}
use Rattle.awk_tokens.specs.declared.token.TokenKind.{TokenKind}
use Rattle.awk_tokens.specs.declared.token.TokenKind.TheVariants.{Punctuator}
use Rattle.awk_tokens.specs.Cutting.{Context, Spelled, after_kept, divides, finished, kept, newlines, refusal, with_token}
use Rattle.awk_tokens.specs.Kinds.{context}
use Rattle.awk_tokens.specs.Reading.{cut_at, from_front, front_at, raw_of}
use Rattle.awk_tokens.proofs.Contexts.{divides_is, drops_is}
use Rattle.awk_tokens.proofs.Rules.{rules_are}
use Rattle.test_parts.specs.TokensByKinds.{cut_by, ended_by, first_by, kept_by, tokens_by, with_kind}

kept_same : (ks : List TokenKind) (rest : List ℕ) (p : Piece) → kept_by ks rest p ≡ kept (context ks) rest (Some p)
kept_same ks rest Blank = refl
kept_same ks rest Newline = ap (λ b. cond b None (Some (Punctuator Semicolon))) (sym (drops_is ks))
kept_same ks rest (Token k) = refl

context_kept : (o : Option TokenKind) (ks : List TokenKind) → context (with_kind o ks) ≡ after_kept o (context ks)
context_kept None ks = refl
context_kept (Some k) ks = refl

front_same : (n : ℕ) → ((line : ℕ) (ks : List TokenKind) (bytes : List ℕ) → cut_by n line ks bytes ≡ cut_at n line (context ks) bytes)
    → (line : ℕ) (ks : List TokenKind) (c : ℕ) (cs : List ℕ) (o : Option (Piece × ℕ)) → first_by (cut_by n) line ks c cs o ≡ from_front (cut_at n) line (context ks) c cs o
front_same n same line ks c cs None = ap {B = Result (List Spelled) TokenFault} (λ d. Err (refusal d line c)) (sym (divides_is ks))
front_same n same line ks c cs (Some x) =
    let rest = drop x.1 cs in
    let text = c ∷ take x.1 cs in
    let next = line + newlines text in
    let now = kept (context ks) rest (Some x.0) in
    ap (λ (o : Option TokenKind). with_token o line text (cut_by n next (with_kind o ks) rest)) (kept_same ks rest x.0)
    ∙ ap (with_token now line text) (same next (with_kind now ks) rest ∙ ap (λ (b : Context). cut_at n next b rest) (context_kept now ks))

cut_same : (n line : ℕ) (ks : List TokenKind) (bytes : List ℕ) → cut_by n line ks bytes ≡ cut_at n line (context ks) bytes
unfolding cut_by cut_at
cut_same n line ks [] = refl
cut_same zero line ks (c ∷ cs) = refl
cut_same (suc n) line ks (c ∷ cs) =
    ap (λ d. first_by (cut_by n) line ks c cs (front_at d c cs)) (sym (divides_is ks))
    ∙ front_same n (cut_same n) line ks c cs (front_at (divides (context ks)) c cs)

ended_same : (r : Result (List Spelled) TokenFault) → ended_by r ≡ finished r
ended_same (Ok ts) = ap {B = Result (List Spelled) TokenFault} (λ (us : List Spelled). Ok us) (sym (rules_are ts))
ended_same (Err e) = refl

pub tokens_same : (script : List ℕ) → tokens_by script ≡ finished (raw_of script)
unfolding raw_of
tokens_same script = ended_same (cut_by (length script) 1 [] script) ∙ ap finished (cut_same (length script) 1 [] script)
