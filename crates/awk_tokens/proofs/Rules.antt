-- Rules 2 and 3 by tests of single tokens are rules 2 and 3 by tables.
use Rattle.std.proofs.Common.{◌≡◌, ℕ, Bool, true, false, cond, Option, Some, None, List, [], ◌∷◌, refl, ap, ◌∙◌}
use Rattle.std.specs.Prelude.{◌&&◌, ◌||◌, not}
use Rattle.awk_tokens.specs.declared.reserved_words.Keyword.TheVariants.{Else, While}
use Rattle.awk_tokens.specs.declared.token.Punctuator.TheVariants.{OpenBrace, CloseBrace, Semicolon}
use Rattle.awk_tokens.specs.declared.token.TokenKind.{TokenKind}
use Rattle.awk_tokens.specs.declared.token.TokenKind.TheVariants.{Keyword, Punctuator}
use Rattle.awk_tokens.specs.Cutting.{Spelled, is_dropped, without, is_put, semicolon, with_ends}
use Rattle.awk_tokens.specs.Rules.{is_semicolon, is_open_brace, is_close_brace, is_lead, rule_two, inserted, is_open_end, is_unended, rule_three}

-- ---- rule 2

abbrev closes : Option TokenKind → Bool
closes None = false
closes (Some k) = is_close_brace k

dropped_is : (former : Option TokenKind) (k next : TokenKind) → is_dropped former k next ≡ (closes former && (is_semicolon k && is_lead next))
dropped_is (Some (Punctuator CloseBrace)) (Punctuator Semicolon) (Keyword Else) = refl
dropped_is (Some (Punctuator CloseBrace)) (Punctuator Semicolon) (Keyword While) = refl
dropped_is (Some (Punctuator CloseBrace)) (Punctuator Semicolon) next = refl
dropped_is (Some (Punctuator CloseBrace)) k next = refl
dropped_is (Some f) k next = refl
dropped_is None k next = refl

never : (a b : Bool) → false ≡ (a && (b && false))
never false b = refl
never true false = refl
never true true = refl

rule_two_is : (former : Option TokenKind) (ts : List Spelled) → without former ts ≡ rule_two (closes former) ts
rule_two_is former [] = refl
rule_two_is former (t ∷ []) = ap {B = List Spelled} (λ (b : Bool). cond b [] (t ∷ [])) (never (closes former) (is_semicolon t.kind))
rule_two_is former (t ∷ (u ∷ us)) =
    ap (λ (b : Bool). cond b (without (Some t.kind) (u ∷ us)) (t ∷ without (Some t.kind) (u ∷ us))) (dropped_is former t.kind u.kind)
    ∙ ap (λ (xs : List Spelled). cond (closes former && (is_semicolon t.kind && is_lead u.kind)) xs (t ∷ xs)) (rule_two_is (Some t.kind) (u ∷ us))

-- ---- rule 3

abbrev kind_of : Option Spelled → Option TokenKind
kind_of None = None
kind_of (Some t) = Some t.kind

abbrev line_of : Option Spelled → ℕ
line_of None = 1
line_of (Some t) = t.line

put_at_start : (k : TokenKind) → is_put None (Some k) ≡ (is_close_brace k && true)
put_at_start (Punctuator CloseBrace) = refl
put_at_start k = refl

put_is : (f k : TokenKind) → is_put (Some f) (Some k) ≡ (is_close_brace k && not (is_open_brace f || (is_close_brace f || is_semicolon f)))
put_is (Punctuator Semicolon) (Punctuator CloseBrace) = refl
put_is (Punctuator Semicolon) k = refl
put_is (Punctuator CloseBrace) (Punctuator CloseBrace) = refl
put_is (Punctuator CloseBrace) k = refl
put_is (Punctuator OpenBrace) (Punctuator CloseBrace) = refl
put_is (Punctuator OpenBrace) k = refl
put_is f (Punctuator CloseBrace) = refl
put_is f k = refl

put_before : (former : Option Spelled) (k : TokenKind) → is_put (kind_of former) (Some k) ≡ (is_close_brace k && is_open_end former)
put_before None k = put_at_start k
put_before (Some f) k = put_is f.kind k

put_after : (k : TokenKind) → is_put (Some k) None ≡ not (is_close_brace k || is_semicolon k)
put_after (Punctuator Semicolon) = refl
put_after (Punctuator CloseBrace) = refl
put_after (Punctuator OpenBrace) = refl
put_after k = refl

put_at_end : (former : Option Spelled) → is_put (kind_of former) None ≡ is_unended former
put_at_end None = refl
put_at_end (Some f) = put_after f.kind

inserted_is : (former : Option Spelled) → semicolon (line_of former) ≡ inserted former
inserted_is None = refl
inserted_is (Some f) = refl

rule_three_is : (former : Option Spelled) (ts : List Spelled) → with_ends (kind_of former) (line_of former) ts ≡ rule_three former ts
rule_three_is former [] =
    ap (λ (b : Bool). cond b (semicolon (line_of former) ∷ []) []) (put_at_end former)
    ∙ ap (λ (s : Spelled). cond (is_unended former) (s ∷ []) []) (inserted_is former)
rule_three_is former (t ∷ ts) =
    ap (λ (b : Bool). cond b (semicolon (line_of former) ∷ (t ∷ with_ends (Some t.kind) t.line ts)) (t ∷ with_ends (Some t.kind) t.line ts)) (put_before former t.kind)
    ∙ ap (λ (s : Spelled). cond (is_close_brace t.kind && is_open_end former) (s ∷ (t ∷ with_ends (Some t.kind) t.line ts)) (t ∷ with_ends (Some t.kind) t.line ts)) (inserted_is former)
    ∙ ap (λ (us : List Spelled). cond (is_close_brace t.kind && is_open_end former) (inserted former ∷ (t ∷ us)) (t ∷ us)) (rule_three_is (Some t) ts)

pub rules_are : (ts : List Spelled) → with_ends None 1 (without None ts) ≡ rule_three None (rule_two false ts)
rules_are ts = rule_three_is None (without None ts) ∙ ap (rule_three None) (rule_two_is None ts)
