-- Functions of texts, computed.
use Rattle.std.specs.Prelude.{◌≡◌, ℕ, ◌^◌, List, [], ◌∷◌, codes, true, false, None, Ok, Err, pos, neg_ℤ, refl}
use Rattle.std.specs.Fmt.{digits}
use Rattle.awk_values.specs.declared.fault.Fault.TheVariants.{BadEre}
use Rattle.awk_values.specs.declared.value.Value.{Value}
use Rattle.awk_values.specs.declared.value.Value.TheVariants as value
use Rattle.ere_syntax.specs.Scan.{table}
use Rattle.ere_syntax.specs.Readers.{sign_of}
use Rattle.sem_primitives.specs.SharedState.{Shared}
use Rattle.sem_primitives.specs.ArrayMeaning.{array}
use Rattle.sem_primitives.specs.TextMeaning.{replacement}
use Rattle.sem_primitives.specs.ExampleStates.{number, at_start, after_call, answered, special, plain}
use Rattle.sem_primitives.specs.declared.table.Primitive.TheVariants.{NewArray, Elem, Length, Matches, Match, Sub, SubResult, Split, Substr, SubstrFrom, Index, Lower, Upper}
use Rattle.sem_primitives.specs.declared.constants.Special.TheVariants.{Rlength, Rstart}

pub length_of_number : (answered Length (value.Num (neg_ℤ (pos 12)), tt) at_start).number ≡ pos 3
unfolding digits
length_of_number = refl

-- Parts.

pub from_zero : answered Substr (value.Text (codes "hello"), (number (pos 0) tt, (number (pos 3) tt, tt))) at_start ≡ value.Text (codes "he")
from_zero = refl

pub from_below : answered SubstrFrom (value.Text (codes "hello"), (number (neg_ℤ (pos 1)) tt, tt)) at_start ≡ value.Text (codes "hello")
from_below = refl

pub past_the_end : answered Substr (value.Text (codes "hello"), (number (pos 4) tt, (number (pos 99) tt, tt))) at_start ≡ value.Text (codes "lo")
past_the_end = refl

pub far_past : answered Substr (value.Text (codes "hello"), (number (pos (2 ^ 53)) tt, (number (pos (2 ^ 53)) tt, tt))) at_start ≡ value.Text []
far_past = refl

pub of_no_length : answered Substr (value.Text (codes "hello"), (number (pos 2) tt, (number (neg_ℤ (pos 1)) tt, tt))) at_start ≡ value.Text []
of_no_length = refl

pub first_place : (answered Index (value.Text (codes "hello"), (value.Text (codes "l"), tt)) at_start).number ≡ pos 3
first_place = refl

pub no_place : (answered Index (value.Text (codes "hello"), (value.Text (codes "lh"), tt)) at_start).number ≡ pos 0
no_place = refl

pub place_of_nothing : (answered Index (value.Text (codes "hello"), (value.Text [], tt)) at_start).number ≡ pos 0
place_of_nothing = refl

pub in_upper_case : answered Upper (value.Text (codes "aB1z{"), tt) at_start ≡ value.Text (codes "AB1Z{")
in_upper_case = refl

pub in_lower_case : answered Lower (value.Text (codes "CD[@"), tt) at_start ≡ value.Text (codes "cd[@")
in_lower_case = refl

-- Matches: the leftmost, and of these the longest.

pub matches : answered Matches (value.Text (codes "abcd"), (value.Text (codes "b|bc"), tt)) at_start ≡ Ok true
unfolding table sign_of
matches = refl

pub bad_expression : answered Matches (value.Text (codes "x"), (value.Text (codes "("), tt)) at_start ≡ Err BadEre
unfolding table sign_of
bad_expression = refl

abbrev pub matched : Shared
matched = after_call Match (value.Text (codes "abcd"), (value.Text (codes "b|bc"), tt)) at_start

pub match_place : plain (answered Match (value.Text (codes "abcd"), (value.Text (codes "b|bc"), tt)) at_start) ≡ Ok (pos 2)
unfolding table sign_of
match_place = refl

pub match_start : special Rstart matched ≡ value.Num (pos 2)
unfolding table sign_of
match_start = refl

pub match_length : special Rlength matched ≡ value.Num (pos 2)
unfolding table sign_of
match_length = refl

pub match_of_nothing : special Rlength (after_call Match (value.Text (codes "abc"), (value.Text (codes "x*"), tt)) at_start) ≡ value.Num (pos 0)
unfolding table sign_of
match_of_nothing = refl

pub no_match : special Rlength (after_call Match (value.Text (codes "ab"), (value.Text (codes "c"), tt)) matched) ≡ value.Num (neg_ℤ (pos 1))
unfolding table sign_of
no_match = refl

-- Substitution: s = "abxxc"; gsub(/x*/, "-", s)

pub replaced_count : plain (answered Sub (value.Text (codes "x*"), (value.Text (codes "-"), (value.Text (codes "abxxc"), (true, tt)))) at_start) ≡ Ok (pos 4)
unfolding table sign_of
replaced_count = refl

abbrev pub substituted : Shared
substituted = after_call Sub (value.Text (codes "x*"), (value.Text (codes "-"), (value.Text (codes "abxxc"), (true, tt)))) at_start

pub replaced_text : answered SubResult tt substituted ≡ value.Text (codes "-a-b-c-")
unfolding table sign_of
replaced_text = refl

pub given_once : (after_call SubResult tt substituted).inner.substituted ≡ None
given_once = refl

abbrev pub all_of : List ℕ → List ℕ → List ℕ → Value
all_of ere by target = answered SubResult tt (after_call Sub (value.Text ere, (value.Text by, (value.Text target, (true, tt)))) at_start)

abbrev pub first_of : List ℕ → List ℕ → List ℕ → Value
first_of ere by target = answered SubResult tt (after_call Sub (value.Text ere, (value.Text by, (value.Text target, (false, tt)))) at_start)

pub only_the_first : first_of (codes "a") (codes "x") (codes "baa") ≡ value.Text (codes "bxa")
unfolding table sign_of
only_the_first = refl

pub empty_expression : all_of [] (codes "-") (codes "baa") ≡ value.Text (codes "-b-a-a-")
unfolding table sign_of
empty_expression = refl

-- an anchor is that of the whole text
pub at_the_start : all_of (codes "^a") (codes "x") (codes "aaa") ≡ value.Text (codes "xaa")
unfolding table sign_of
at_the_start = refl

pub at_the_end : all_of (codes "$") (codes "!") (codes "ab") ≡ value.Text (codes "ab!")
unfolding table sign_of
at_the_end = refl

pub no_match_kept : all_of (codes "z") (codes "x") (codes "ab") ≡ value.Text (codes "ab")
unfolding table sign_of
no_match_kept = refl

pub ampersand : replacement (codes "ab") (codes "[&]") ≡ codes "[ab]"
ampersand = refl

pub plain_ampersand : replacement (codes "ab") (codes "[\\&]") ≡ codes "[&]"
plain_ampersand = refl

pub backslash_and_match : replacement (codes "ab") (codes "\\\\&") ≡ codes "\\ab"
backslash_and_match = refl

pub other_backslashes : replacement (codes "ab") (codes "\\n\\") ≡ codes "\\n\\"
other_backslashes = refl

-- Splitting: split("a:b::c", p, ":")

abbrev pub part_array : Shared
part_array = after_call Elem (2, (value.Text (codes "old"), tt)) (after_call NewArray tt at_start)

pub part_count : plain (answered Split (value.Text (codes "a:b::c"), (2, (value.Text (codes ":"), (false, tt)))) part_array) ≡ Ok (pos 4)
part_count = refl

pub parts : array 2 (after_call Split (value.Text (codes "a:b::c"), (2, (value.Text (codes ":"), (false, tt)))) part_array).inner
    ≡ (codes "1", value.StrNum (codes "a"))
    ∷ ((codes "2", value.StrNum (codes "b")) ∷ ((codes "3", value.StrNum []) ∷ ((codes "4", value.StrNum (codes "c")) ∷ [])))
unfolding digits
parts = refl

pub parts_of_nothing : array 2 (after_call Split (value.Text [], (2, (value.Text (codes ":"), (false, tt)))) part_array).inner ≡ []
parts_of_nothing = refl

-- one space is runs of blanks as a text, and a space as an expression
pub parts_by_blanks : plain (answered Split (value.Text (codes " a  b"), (2, (value.Text (codes " "), (false, tt)))) part_array) ≡ Ok (pos 2)
parts_by_blanks = refl

pub parts_by_expression : plain (answered Split (value.Text (codes " a  b"), (2, (value.Text (codes " "), (true, tt)))) part_array) ≡ Ok (pos 4)
unfolding table sign_of
parts_by_expression = refl
