-- What the fields of the code's state say.
use Rattle.std.proofs.Common.{◌≡◌, Option, Some, List, [], ◌∷◌, ◌++◌, length, drop, reverse, refl, sym, ap, ◌∙◌, arith, get_or}
use Rattle.std.proofs.lemmas.List.{reverse-append}
use Rattle.awk_tokens.specs.declared.token.TokenKind.{TokenKind}
use Rattle.awk_tokens.specs.declared.token.Punctuator.TheVariants.{CloseParen}
use Rattle.awk_tokens.specs.declared.token.TokenKind.TheVariants.{Punctuator}
use Rattle.awk_tokens.specs.declared.token.Role.{Role}
use Rattle.awk_tokens.specs.declared.token.Role.TheVariants.{Plain}
use Rattle.awk_tokens.specs.Cutting.{Context, after}

abbrev context_with : Option TokenKind → Option TokenKind → Role → List Role → Context
context_with last former closed roles = record { last = last; former = former; closed = closed; open_roles = roles }

pub same_context : (a b : Context) → a.last ≡ b.last → a.former ≡ b.former → a.closed ≡ b.closed → a.open_roles ≡ b.open_roles → a ≡ b
same_context a b e f g h =
    ap (λ (x : Option TokenKind). context_with x a.former a.closed a.open_roles) e
    ∙ ap (λ (x : Option TokenKind). context_with b.last x a.closed a.open_roles) f
    ∙ ap (λ (x : Role). context_with b.last b.former x a.open_roles) g
    ∙ ap (λ (x : List Role). context_with b.last b.former b.closed x) h

-- `)` that closes a parenthesis
pub closing : (k : TokenKind) (c : Context) (old new : List Role) (r : Role) → k ≡ Punctuator CloseParen → old ≡ new ++ r ∷ [] → reverse old ≡ c.open_roles →
    context_with (Some k) c.last r (reverse new) ≡ after c k
closing k c old new r is e h =
    let roles : r ∷ reverse new ≡ c.open_roles = sym (ap reverse e ∙ reverse-append new (r ∷ [])) ∙ h in
    same_context (context_with (Some k) c.last r (reverse new)) (after c (Punctuator CloseParen)) (ap (λ (x : TokenKind). Some x) is) refl
    (ap (λ (x : List Role). get_or x 0 Plain) roles) (ap (drop 1) roles) ∙ ap (after c) (sym is)

no_length : (xs : List Role) → length xs ≡ 0 → xs ≡ []
no_length [] h = refl
no_length (x ∷ xs) h = absurd (omega arith)

-- `)` where no parenthesis is open
pub closing_none : (k : TokenKind) (c : Context) (old new : List Role) → k ≡ Punctuator CloseParen → length old ≡ 0 → length new ≡ 0 → reverse old ≡ c.open_roles →
    context_with (Some k) c.last Plain (reverse new) ≡ after c k
closing_none k c old new is e f h =
    let none : [] ≡ c.open_roles = sym (ap reverse (no_length old e)) ∙ h in
    same_context (context_with (Some k) c.last Plain (reverse new)) (after c (Punctuator CloseParen)) (ap (λ (x : TokenKind). Some x) is) refl
    (ap (λ (x : List Role). get_or x 0 Plain) none) (ap reverse (no_length new f) ∙ ap (drop 1) none) ∙ ap (after c) (sym is)
