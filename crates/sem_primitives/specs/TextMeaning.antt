-- What primitives on texts mean (POSIX.1-2017 awk, "String Functions").
use Rattle.std.specs.Prelude.{ℕ, zero, suc, ◌+◌, ◌-◌, ◌==◌, ◌||◌, ◌&&◌, nat_le, Bool, true, false, if◌then◌else◌, List, [], ◌∷◌, ◌++◌, length, take, drop, slice_range, Option, Some, None, Result, Ok, ℤ, pos, neg_ℤ}
use Rattle.awk_text.specs.Bytes.{upper_a, upper_z, lower_a, lower_z}
use Rattle.awk_values.specs.Values.{text_of_value}
use Rattle.awk_values.specs.declared.fault.Fault.{Fault}
use Rattle.awk_values.specs.declared.value.Value.{Value}
use Rattle.awk_values.specs.declared.value.Value.TheVariants.{Num, Text}
use Rattle.ere_syntax.specs.Tree.{Tree}
use Rattle.sem_primitives.specs.Numbers.{Number}
use Rattle.sem_primitives.specs.SharedState.{Inner, ◌>>=◌, with_special}
use Rattle.sem_primitives.specs.Texts.{is_empty, begins_with, limited, counted, count_value}
use Rattle.sem_primitives.specs.FirstMatch.{first_match}
use Rattle.sem_primitives.specs.Eres.{expression_of}
use Rattle.sem_primitives.specs.Fields.{Separator, Expression, separator_of, pieces_of}
use Rattle.sem_primitives.specs.ArrayMeaning.{with_array, numbered}
use Rattle.sem_primitives.specs.declared.constants.Special.TheVariants.{Rlength, Rstart}

-- the bytes at the places that pass, counted from p on
abbrev pub kept_if : Bool → ℕ → List ℕ → List ℕ
kept_if true c cs = c ∷ cs
kept_if false c cs = cs

abbrev pub chosen : (ℕ → Bool) → ℕ → List ℕ → List ℕ
chosen test p [] = []
chosen test p (c ∷ cs) = kept_if (test p) c (chosen test (p + 1) cs)

-- the first place, counted from p on, at which one text begins the rest of another
abbrev pub place_from : ℕ → List ℕ → List ℕ → ℕ
place_from p wanted [] = 0
place_from p wanted (c ∷ cs) = if begins_with wanted (c ∷ cs) then p else place_from (p + 1) wanted cs

abbrev pub place_of : List ℕ → List ℕ → ℕ
place_of text wanted = if is_empty wanted then 0 else place_from 1 wanted text

-- ASCII letters
abbrev pub lower : ℕ → ℕ
lower c = if nat_le upper_a c && nat_le c upper_z then c + 32 else c

abbrev pub upper : ℕ → ℕ
upper c = if nat_le lower_a c && nat_le c lower_z then c - 32 else c

-- where the first match begins, counted from 1, and its length; 0 and -1 where there is none
abbrev pub match_start : Option (ℕ × ℕ) → ℕ
match_start None = 0
match_start (Some p) = p.0 + 1

abbrev pub match_length : Option (ℕ × ℕ) → ℤ
match_length None = neg_ℤ (pos 1)
match_length (Some p) = pos (p.1 - p.0)

abbrev pub with_match : Option (ℕ × ℕ) → Inner → Inner
with_match m inner = with_special Rlength (Num (match_length m)) (with_special Rstart (count_value (match_start m)) inner)

abbrev pub match_row : Value → Value → Inner → Result (Inner × Number) Fault
match_row v ere inner = expression_of (text_of_value ere) >>= λ t.
    Ok (with_match (first_match t (text_of_value v) 0) inner, counted (match_start (first_match t (text_of_value v) 0)))

-- Substitution.

abbrev pub is_at : Option ℕ → ℕ → Bool
is_at None n = false
is_at (Some m) n = m == n

-- behind a match: an empty one leaves its byte alone
abbrev pub behind : ℕ × ℕ → ℕ
behind p = if p.0 == p.1 then p.1 + 1 else p.1

abbrev pub is_empty_at : Option ℕ → ℕ × ℕ → Bool
is_empty_at last p = (p.0 == p.1) && is_at last p.0

-- the matches from left to right; an empty match directly after the former match is none
abbrev pub places : (ℕ → Option (ℕ × ℕ)) → ℕ → ℕ → Option ℕ → List (ℕ × ℕ)
places first zero at last = []
places first (suc n) at last = elim (first at) [
  | None ↦ []
  | Some p ↦ elim (is_empty_at last p) [ true ↦ places first n (behind p) last | false ↦ p ∷ places first n (behind p) (Some p.1) ]
]

-- every match, or the first
abbrev pub places_of : Tree → List ℕ → Bool → List (ℕ × ℕ)
places_of t text true = places (first_match t text) (length text + 1) 0 None
places_of t text false = take 1 (places (first_match t text) (length text + 1) 0 None)

abbrev pub ampersand : ℕ
ampersand = 38

abbrev pub backslash : ℕ
backslash = 92

-- The replacement of a match: an ampersand is the match, and after a backslash it is itself, as a backslash is; any other backslash is itself.
abbrev mutual
  pub replacement : List ℕ → List ℕ → List ℕ
  replacement matched [] = []
  replacement matched (c ∷ cs) = elim (c == backslash) [
    | true ↦ escaped matched cs
    | false ↦ (if c == ampersand then matched else c ∷ []) ++ replacement matched cs
  ]

  pub escaped : List ℕ → List ℕ → List ℕ
  escaped matched [] = backslash ∷ []
  escaped matched (c ∷ cs) = (if (c == ampersand) || (c == backslash) then [] else backslash ∷ []) ++ (c ∷ replacement matched cs)

-- the text with its matches replaced, from a place on
abbrev pub replaced : List ℕ → List ℕ → ℕ → List (ℕ × ℕ) → List ℕ
replaced text by from [] = drop from text
replaced text by from (p ∷ ps) = slice_range text from p.0 ++ (replacement (slice_range text p.0 p.1) by ++ replaced text by p.1 ps)

abbrev pub substituted_by : List (ℕ × ℕ) → List ℕ → List ℕ → Inner → Result (Inner × Number) Fault
substituted_by ps by text inner = limited (replaced text by 0 ps) >>= λ new. Ok (record inner { substituted = Some (Text new) }, counted (length ps))

-- the new text is kept, also where there is no match
abbrev pub substitute_row : Value → Value → Value → Bool → Inner → Result (Inner × Number) Fault
substitute_row ere by target all inner = expression_of (text_of_value ere) >>= λ t.
    substituted_by (places_of t (text_of_value target) all) (text_of_value by) (text_of_value target) inner

-- what is kept is given once
abbrev pub given : Option Value → Value
given (Some v) = v
given None = Text []

-- Splitting: the array holds the pieces, by their numbers from 1 on.

abbrev pub splits_at : Bool → List ℕ → Result Separator Fault
splits_at true text = expression_of text >>= λ t. Ok (Expression t)
splits_at false text = separator_of text

abbrev pub split_row : Value → ℕ → Value → Bool → Inner → Result (Inner × Number) Fault
split_row v a separator is_ere inner = splits_at is_ere (text_of_value separator) >>= λ s.
    Ok (with_array a (numbered 1 (pieces_of s false (text_of_value v))) inner, counted (length (pieces_of s false (text_of_value v))))
