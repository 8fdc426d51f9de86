-- Tokens that are put in parts, one after the other.
use Rattle.std.proofs.Common.{◌≡◌, ◌++◌, List, ap, ◌∙◌, append_assoc}
use Rattle.awk_grammar.specs.Token.{Token}

pub two_parts : (o p q a b : List Token) → p ≡ o ++ a → q ≡ p ++ b → q ≡ o ++ (a ++ b)
two_parts o p q a b e f = f ∙ ap (λ (u : List Token). u ++ b) e ∙ append_assoc o a b

pub three_parts : (o p q r a b c : List Token) → p ≡ o ++ a → q ≡ p ++ b → r ≡ q ++ c → r ≡ o ++ (a ++ (b ++ c))
three_parts o p q r a b c e f g = two_parts o p r a (b ++ c) e (two_parts p q r b c f g)

pub four_parts : (o p q r s a b c d : List Token) → p ≡ o ++ a → q ≡ p ++ b → r ≡ q ++ c → s ≡ r ++ d → s ≡ o ++ (a ++ (b ++ (c ++ d)))
four_parts o p q r s a b c d e f g h = two_parts o p s a (b ++ (c ++ d)) e (three_parts p q r s b c d f g h)
