-- The context after tokens divides and drops as all their kinds say.
use Rattle.std.proofs.Common.{◌≡◌, ℕ, zero, suc, Option, Some, None, List, [], ◌∷◌, refl, sym, ap, ◌∙◌, get_or, drop}
use Rattle.std.specs.Prelude.{not}
use Rattle.awk_tokens.specs.declared.reserved_words.Keyword.TheVariants.{Function, If, Else, While, For, Do, Getline}
use Rattle.awk_tokens.specs.declared.reserved_words.Builtin.TheVariants.{Length}
use Rattle.awk_tokens.specs.declared.token.Punctuator.TheVariants.{OpenBrace, CloseBrace, OpenParen, CloseParen, CloseBracket, Semicolon, Comma, Increment, Decrement, And, Or}
use Rattle.awk_tokens.specs.declared.token.TokenKind.{TokenKind}
use Rattle.awk_tokens.specs.declared.token.TokenKind.TheVariants.{Name, FuncName, Keyword, Builtin, Punctuator}
use Rattle.awk_tokens.specs.declared.token.Role.{Role}
use Rattle.awk_tokens.specs.declared.token.Role.TheVariants.{Control, Params, Plain}
use Rattle.awk_tokens.specs.Cutting.{Context, opens_after, after, divides_after, drops_after, divides, drops}
use Rattle.awk_tokens.specs.Kinds.{context, role_of, opened, is_control, is_plain, kinds_divide, kinds_drop}

abbrev first_kind : List TokenKind → Option TokenKind
first_kind [] = None
first_kind (k ∷ _) = Some k

abbrev second_kind : List TokenKind → Option TokenKind
second_kind [] = None
second_kind (_ ∷ ks) = first_kind ks

after_last : (c : Context) (k : TokenKind) → (after c k).last ≡ Some k
after_last c (Punctuator OpenParen) = refl
after_last c (Punctuator CloseParen) = refl
after_last c k = refl

after_former : (c : Context) (k : TokenKind) → (after c k).former ≡ c.last
after_former c (Punctuator OpenParen) = refl
after_former c (Punctuator CloseParen) = refl
after_former c k = refl

last_is : (ks : List TokenKind) → (context ks).last ≡ first_kind ks
last_is [] = refl
last_is (k ∷ ks) = after_last (context ks) k

former_is : (ks : List TokenKind) → (context ks).former ≡ second_kind ks
former_is [] = refl
former_is (k ∷ ks) = after_former (context ks) k ∙ last_is ks

role_is : (ks : List TokenKind) → opens_after (first_kind ks) (second_kind ks) ≡ role_of ks
role_is [] = refl
role_is (Keyword If ∷ _) = refl
role_is (Keyword While ∷ _) = refl
role_is (Keyword For ∷ _) = refl
role_is (Name ∷ []) = refl
role_is (Name ∷ Keyword Function ∷ _) = refl
role_is (Name ∷ k ∷ _) = refl
role_is (FuncName ∷ []) = refl
role_is (FuncName ∷ Keyword Function ∷ _) = refl
role_is (FuncName ∷ k ∷ _) = refl
role_is (k ∷ _) = refl

role_rest : (n : ℕ) (rs : List Role) → get_or rs (suc n) Plain ≡ get_or (drop 1 rs) n Plain
role_rest n [] = refl
role_rest n (r ∷ rs) = refl

opened_is : (n : ℕ) (ks : List TokenKind) → opened n ks ≡ get_or (context ks).open_roles n Plain
opened_is n [] = refl
opened_is n (Punctuator CloseParen ∷ ks) = opened_is (suc n) ks ∙ role_rest n (context ks).open_roles
opened_is zero (Punctuator OpenParen ∷ ks) = sym (role_is ks) ∙ ap (λ (x : Option TokenKind). opens_after x (second_kind ks)) (sym (last_is ks)) ∙ ap (opens_after (context ks).last) (sym (former_is ks))
opened_is (suc n) (Punctuator OpenParen ∷ ks) = opened_is n ks
opened_is n (_ ∷ ks) = opened_is n ks

closed_divides : (r : Role) → divides_after (Some (Punctuator CloseParen)) r ≡ not (is_control r)
closed_divides Control = refl
closed_divides Params = refl
closed_divides Plain = refl

closed_drops : (r : Role) → drops_after (Some (Punctuator CloseParen)) r ≡ not (is_plain r)
closed_drops Control = refl
closed_drops Params = refl
closed_drops Plain = refl

pub divides_is : (ks : List TokenKind) → divides (context ks) ≡ kinds_divide ks
divides_is [] = refl
divides_is (Punctuator CloseParen ∷ ks) = closed_divides (get_or (context ks).open_roles 0 Plain) ∙ ap (λ (r : Role). not (is_control r)) (sym (opened_is 0 ks))
divides_is (Punctuator OpenParen ∷ ks) = refl
divides_is (Punctuator CloseBracket ∷ ks) = refl
divides_is (Punctuator Increment ∷ ks) = refl
divides_is (Punctuator Decrement ∷ ks) = refl
divides_is (Builtin Length ∷ ks) = refl
divides_is (Keyword Getline ∷ ks) = refl
divides_is (k ∷ ks) = refl

pub drops_is : (ks : List TokenKind) → drops (context ks) ≡ kinds_drop ks
drops_is [] = refl
drops_is (Punctuator CloseParen ∷ ks) = closed_drops (get_or (context ks).open_roles 0 Plain) ∙ ap (λ (r : Role). not (is_plain r)) (sym (opened_is 0 ks))
drops_is (Punctuator OpenParen ∷ ks) = refl
drops_is (Punctuator Semicolon ∷ ks) = refl
drops_is (Punctuator OpenBrace ∷ ks) = refl
drops_is (Punctuator CloseBrace ∷ ks) = refl
drops_is (Punctuator And ∷ ks) = refl
drops_is (Punctuator Or ∷ ks) = refl
drops_is (Punctuator Comma ∷ ks) = refl
drops_is (Keyword Do ∷ ks) = refl
drops_is (Keyword Else ∷ ks) = refl
drops_is (k ∷ ks) = refl
