-- Worked rows of the relations.
use Rattle.std.proofs.Common.{inl, inr, arith, [], ◌∷◌, refl}
use Rattle.std.specs.Prelude.{codes}
use Rattle.agreement.specs.Texts.Substitutions.{IsSpecial, StandsFor, ends, match, escaped, backslash, byte, Becomes, rest, replace}
use Rattle.agreement.specs.Texts.Fields.{AreWords, no_word, word, AreBytes, no_byte, one_byte}

letter : IsSpecial 113 → ⊥
letter (inl e) = omega (arith, e)
letter (inr e) = omega (arith, e)

-- an ampersand, `\&`, `\\` and another escaped byte, where `ab` was matched
pub stands : StandsFor (codes "ab") (codes "&\\&\\\\\\q") (codes "ab&\\\\q")
stands = match refl (escaped refl (inl refl) (escaped refl (inr refl) (backslash refl letter (byte letter ends))))

-- gsub(/b/, "&q") in `abcb`
pub becomes : Becomes (codes "&q") 0 ((1, 2) ∷ (3, 4) ∷ []) (codes "abcb") (codes "abqcbq")
becomes = replace (codes "a") (codes "b") refl refl twice (replace (codes "c") (codes "b") refl refl twice rest)
  where
    twice : StandsFor (codes "b") (codes "&q") (codes "bq")
    twice = match refl (byte letter ends)

-- a text with blanks at both ends
pub words : AreWords (codes " a \tbc ") (codes "a" ∷ codes "bc" ∷ [])
words = word (codes " ") (refl, tt) (refl, tt) refl (word (codes " \t") (refl, (refl, tt)) (refl, (refl, tt)) refl (no_word (refl, tt)))

pub bytes : AreBytes (codes "a b") (codes "a" ∷ codes " " ∷ codes "b" ∷ [])
bytes = one_byte (one_byte (one_byte no_byte))
