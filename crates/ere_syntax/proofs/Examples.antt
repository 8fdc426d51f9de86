-- Worked expressions, computed: which trees texts have, and what trees match.
use Rattle.std.proofs.Common.{◌≡◌, ℕ, Some, None, [], ◌∷◌, codes, refl, lit≤}
use Rattle.std.specs.Prelude.{◌==◌, true}
use Rattle.ere_syntax.specs.Bytes.{tab, newline, carriage_return, space, exclamation, dollar, open_paren, close_paren, star, plus, comma, dash, dot, slash, digit_zero, digit_seven, digit_nine, colon, equals, query, at_sign, upper_a, upper_f, upper_z, open_bracket, backslash, close_bracket, hat, backquote, lower_a, lower_b, lower_f, lower_n, lower_r, lower_t, lower_v, lower_z, open_brace, bar, close_brace, tilde}
use Rattle.ere_syntax.specs.Readers.{bracket_at, sign_of}
use Rattle.ere_syntax.specs.Scan.{IsEreOf, table}
use Rattle.ere_syntax.specs.EreOf.{ere_of}
use Rattle.ere_syntax.specs.Tree.{Tree, Bytes, Empty, Set, Start, End, Group, Repeat, Concat, Or}
use Rattle.ere_syntax.specs.Matches.{Matches}
use Rattle.ere_syntax.proofs.Scans.{no_ere, text_sound}

-- the bytes that are named
named_bytes : codes "\t\n\r !$()*+,-./079:=?@AFZ[\\]^`abfnrtvz{|}~" ≡ tab ∷ newline ∷ carriage_return ∷ space ∷ exclamation ∷ dollar ∷ open_paren ∷ close_paren ∷ star ∷ plus ∷ comma ∷ dash ∷ dot ∷ slash ∷ digit_zero ∷ digit_seven ∷ digit_nine ∷ colon ∷ equals ∷ query ∷ at_sign ∷ upper_a ∷ upper_f ∷ upper_z ∷ open_bracket ∷ backslash ∷ close_bracket ∷ hat ∷ backquote ∷ lower_a ∷ lower_b ∷ lower_f ∷ lower_n ∷ lower_r ∷ lower_t ∷ lower_v ∷ lower_z ∷ open_brace ∷ bar ∷ close_brace ∷ tilde ∷ []
named_bytes = refl

-- the set of one byte
abbrev only : ℕ → Tree
only b = Set (table (λ c. c == b))

alternatives : IsEreOf (codes "a|ab") (Or (only 97) (Concat (only 97) (only 98)))
unfolding sign_of
alternatives = text_sound _ _ refl

counted_group : IsEreOf (codes "(ab){2}") (Repeat (Group (Concat (only 97) (only 98))) 2 (Some 2))
unfolding sign_of
counted_group = text_sound _ _ refl

brace_that_begins_no_interval : IsEreOf (codes "a{") (Concat (only 97) (only 123))
unfolding sign_of
brace_that_begins_no_interval = text_sound _ _ refl

parenthesis_that_no_other_matches : IsEreOf (codes "a)") (Concat (only 97) (only 41))
unfolding sign_of
parenthesis_that_no_other_matches = text_sound _ _ refl

repetition_of_an_anchor : IsEreOf (codes "a$*") (Concat (only 97) (Repeat End 0 None))
unfolding sign_of
repetition_of_an_anchor = text_sound _ _ refl

empty_text : IsEreOf (codes "") Empty
unfolding sign_of
empty_text = text_sound _ _ refl

repetition_first : (t : Tree) → IsEreOf (codes "*a") t → ⊥
unfolding sign_of
repetition_first = no_ere (codes "*a") refl

group_without_end : (t : Tree) → IsEreOf (codes "(a") t → ⊥
unfolding sign_of
group_without_end = no_ere (codes "(a") refl

reversed_interval : (t : Tree) → IsEreOf (codes "a{2,1}") t → ⊥
unfolding sign_of
reversed_interval = no_ere (codes "a{2,1}") refl

-- `ab` twice, from the third byte of `ababab`
two_turns : Matches (Repeat (Group (Concat (only 97) (only 98))) 2 (Some 2)) (codes "ababab") 2 6
unfolding table
two_turns =
    (2, (lit≤ tt, lit≤ tt), (4, (3, (97, refl, refl, refl), (98, refl, refl, refl)), (6, (5, (97, refl, refl, refl), (98, refl, refl, refl)), refl)), lit≤ tt)

no_turn : Matches (Repeat (only 120) 0 None) (codes "abc") 0 0
unfolding table
no_turn = (0, lit≤ tt, refl, lit≤ tt)
