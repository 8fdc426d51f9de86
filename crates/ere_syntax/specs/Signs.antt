-- Intervals, after the `{`, and signs: how they are spelled.
use Rattle.std.specs.Prelude.{◌≡◌, ℕ, ◌+◌, ◌-◌, ◌*◌, Bool, true, false, ◌&&◌, nat_le, Option, Some, None, List, [], ◌∷◌, ◌++◌}
use Rattle.ere_syntax.specs.Bytes.{dollar, open_paren, close_paren, star, plus, comma, dot, digit_zero, digit_nine, query, open_bracket, backslash, hat, open_brace, bar, close_brace}
use Rattle.ere_syntax.specs.Tree.{most_count}
use Rattle.ere_syntax.specs.declared.sign.Sign.{Sign}
use Rattle.ere_syntax.specs.declared.sign.Sign.TheVariants.{Dot, Hat, Dollar, OpenMark, CloseMark, BarMark, Star, Plus, Query, Brace, BracketMark, Backslash}

-- `0` to `9`
abbrev pub is_digit : ℕ → Bool
is_digit c = nat_le digit_zero c && nat_le c digit_nine

-- `{low}`, or `{low,high}` where high may be empty
pub data Interval : Type 0 where
  Exact : List ℕ → Interval
  Upto : List ℕ → List ℕ → Interval

abbrev pub spell_interval : Interval → List ℕ
spell_interval (Exact ds) = ds ++ (close_brace ∷ [])
spell_interval (Upto ds es) = ds ++ (comma ∷ (es ++ (close_brace ∷ [])))

abbrev pub AreDigits : List ℕ → Type 0
AreDigits [] = Unit {0}
AreDigits (c ∷ cs) = (is_digit c ≡ true) × AreDigits cs

abbrev pub is_empty : List ℕ → Bool
is_empty [] = true
is_empty (c ∷ cs) = false

abbrev pub IsInterval : Interval → Type 0
IsInterval (Exact ds) = AreDigits ds × (is_empty ds ≡ false)
IsInterval (Upto ds es) = AreDigits ds × AreDigits es × (is_empty ds ≡ false)

abbrev pub number_after : ℕ → List ℕ → ℕ
number_after n [] = n
number_after n (d ∷ ds) = number_after (n * 10 + (d - digit_zero)) ds

abbrev pub low_of : Interval → ℕ
low_of (Exact ds) = number_after 0 ds
low_of (Upto ds es) = number_after 0 ds

abbrev pub high_of : Interval → Option ℕ
high_of (Exact ds) = Some (number_after 0 ds)
high_of (Upto ds []) = None
high_of (Upto ds (e ∷ es)) = Some (number_after 0 (e ∷ es))

abbrev pub counts_fit : ℕ → Option ℕ → Bool
counts_fit low None = nat_le low most_count
counts_fit low (Some high) = nat_le low high && nat_le high most_count

abbrev pub fits : Interval → Bool
fits i = counts_fit (low_of i) (high_of i)

-- `.` `^` `$` `(` `)` `|` `*` `+` `?` `{` `[` and the backslash
abbrev pub code : Sign → ℕ
code Dot = dot
code Hat = hat
code Dollar = dollar
code OpenMark = open_paren
code CloseMark = close_paren
code BarMark = bar
code Star = star
code Plus = plus
code Query = query
code Brace = open_brace
code BracketMark = open_bracket
code Backslash = backslash
