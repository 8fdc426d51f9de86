-- Tokens that may come, and tokens that must.
use Rattle.std.proofs.Common.{◌≡◌, ◌-◌, ◌≤◌, Option, Some, None, List, [], ◌∷◌, length, map, get_or, refl, sym, ◌∙◌, arith}
use Rattle.awk_tokens.specs.declared.token.Token.{Token as Spoken}
use Rattle.awk_tokens.specs.Views.{spelled}
use Rattle.awk_grammar.specs.Token.{Token, Open, Close, OpenBracket, CloseBracket, OpenBrace, CloseBrace, Comma, Colon, Semicolon, Infix, Compare, Less, InWord, Key, ElseWord, WhileWord}
use Rattle.awk_grammar.specs.Lexeme.{is_function, spoken_after}
use Rattle.awk_parse.specs.Marks.{mark_at, mark_if, mark_of, must}
use Rattle.awk_parse.specs.Seen.{lexeme_of, seen}
use Rattle.awk_parse.specs.declared.mark.Mark.{Mark}
use Rattle.awk_parse.specs.declared.mark.Mark.TheVariants as marks

same_mark : (a b : Mark) → Some a ≡ Some b → a ≡ b
same_mark a b e = λ i. or_first (e i)
  where
    or_first : Option Mark → Mark
    or_first (Some m) = m
    or_first None = a

-- of every token but the mark
mark_misses : (m : Mark) (l : Token) (ts : List Token) → (mark_of l ≡ Some m → ⊥) → mark_if m (l ∷ ts) ≡ None
mark_misses marks.Open Open ts h = absurd (h refl)
mark_misses marks.Open _ ts h = refl
mark_misses marks.Close Close ts h = absurd (h refl)
mark_misses marks.Close _ ts h = refl
mark_misses marks.OpenBracket OpenBracket ts h = absurd (h refl)
mark_misses marks.OpenBracket _ ts h = refl
mark_misses marks.CloseBracket CloseBracket ts h = absurd (h refl)
mark_misses marks.CloseBracket _ ts h = refl
mark_misses marks.OpenBrace OpenBrace ts h = absurd (h refl)
mark_misses marks.OpenBrace _ ts h = refl
mark_misses marks.CloseBrace CloseBrace ts h = absurd (h refl)
mark_misses marks.CloseBrace _ ts h = refl
mark_misses marks.Comma Comma ts h = absurd (h refl)
mark_misses marks.Comma _ ts h = refl
mark_misses marks.Colon Colon ts h = absurd (h refl)
mark_misses marks.Colon _ ts h = refl
mark_misses marks.Semicolon Semicolon ts h = absurd (h refl)
mark_misses marks.Semicolon _ ts h = refl
mark_misses marks.Less (Infix (Compare Less)) ts h = absurd (h refl)
mark_misses marks.Less _ ts h = refl
mark_misses marks.In InWord ts h = absurd (h refl)
mark_misses marks.In _ ts h = refl
mark_misses marks.Else (Key ElseWord) ts h = absurd (h refl)
mark_misses marks.Else _ ts h = refl
mark_misses marks.While (Key WhileWord) ts h = absurd (h refl)
mark_misses marks.While _ ts h = refl

pub mark_must : (m : Mark) (ts : List Token) → mark_at m ts ≡ must (mark_if m ts)
mark_must marks.Open (Open ∷ ts) = refl
mark_must marks.Open _ = refl
mark_must marks.Close (Close ∷ ts) = refl
mark_must marks.Close _ = refl
mark_must marks.OpenBracket ts = refl
mark_must marks.CloseBracket (CloseBracket ∷ ts) = refl
mark_must marks.CloseBracket _ = refl
mark_must marks.OpenBrace ts = refl
mark_must marks.CloseBrace ts = refl
mark_must marks.Comma (Comma ∷ ts) = refl
mark_must marks.Comma _ = refl
mark_must marks.Colon (Colon ∷ ts) = refl
mark_must marks.Colon _ = refl
mark_must marks.Semicolon (Semicolon ∷ ts) = refl
mark_must marks.Semicolon _ = refl
mark_must marks.Less ts = refl
mark_must marks.In (InWord ∷ ts) = refl
mark_must marks.In _ = refl
mark_must marks.Else ts = refl
mark_must marks.While ((Key WhileWord) ∷ ts) = refl
mark_must marks.While _ = refl

-- another mark comes first
pub mark_else : (m found : Mark) (ts : List Spoken) (d : Spoken) → 1 ≤ length ts → mark_of (lexeme_of (spelled (get_or ts 0 d))) ≡ Some found → (found ≡ m → ⊥) → mark_if m (seen ts) ≡ None
mark_else m found [] d l is other = absurd (omega (arith, l))
mark_else m found (t ∷ ts) d l is other = mark_misses m (lexeme_of (spelled t)) (spoken_after (is_function t.kind) (map spelled ts)) (λ h. other (same_mark found m (sym is ∙ h)))
