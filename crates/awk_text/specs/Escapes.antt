-- The text that a string stands for, by its bytes between the quotes (POSIX.1-2017 awk, "Lexical Conventions": escape sequences).
use Rattle.std.specs.Prelude.{ℕ, zero, suc, ◌+◌, ◌-◌, ◌*◌, ◌%◌, ◌==◌, nat_le, Bool, ◌&&◌, if◌then◌else◌, List, [], ◌∷◌, Option, Some, None}
use Rattle.awk_text.specs.Bytes.{alert, backspace, tab, newline, vertical_tab, form_feed, carriage_return, quote, slash, digit_zero, digit_seven, backslash, lower_a, lower_b, lower_f, lower_n, lower_r, lower_t, lower_v}

abbrev pub is_octal : ℕ → Bool
is_octal c = nat_le digit_zero c && nat_le c digit_seven

-- the byte that a backslash and this one stand for: `"` `/` `\` and the letters `a b f n r t v`
abbrev pub letter_escape : ℕ → Option ℕ
letter_escape c =
    if c == quote then Some quote else if c == slash then Some slash else if c == backslash then Some backslash else
    if c == lower_a then Some alert else if c == lower_b then Some backspace else if c == lower_f then Some form_feed else
    if c == lower_n then Some newline else if c == lower_r then Some carriage_return else if c == lower_t then Some tab else
    if c == lower_v then Some vertical_tab else None

-- One to three octal digits stand for the low eight bits of their number; a backslash and a newline stand for nothing; another byte keeps
-- its backslash, and so does the end.
unfoldable mutual
  pub unescaped : List ℕ → List ℕ
  unescaped [] = []
  unescaped (c ∷ cs) = if c == backslash then escaped cs else c ∷ unescaped cs

  pub escaped : List ℕ → List ℕ
  escaped [] = backslash ∷ []
  escaped (c ∷ cs) = if is_octal c then octal (c - digit_zero) 2 cs else if c == newline then unescaped cs else
      elim (letter_escape c) [ Some byte ↦ byte ∷ unescaped cs | None ↦ backslash ∷ (c ∷ unescaped cs) ]

  -- the digits so far, and how many more there may be
  pub octal : ℕ → ℕ → List ℕ → List ℕ
  octal n more [] = (n % 256) ∷ []
  octal n zero (c ∷ cs) = (n % 256) ∷ (if c == backslash then escaped cs else c ∷ unescaped cs)
  octal n (suc more) (c ∷ cs) = if is_octal c then octal (n * 8 + (c - digit_zero)) more cs else (n % 256)
      ∷ (if c == backslash then escaped cs else c ∷ unescaped cs)

-- what is between the first and the last byte
abbrev pub without_last : List ℕ → List ℕ
without_last [] = []
without_last (c ∷ []) = []
without_last (c ∷ (d ∷ rest)) = c ∷ without_last (d ∷ rest)

abbrev pub between : List ℕ → List ℕ
between [] = []
between (c ∷ rest) = without_last rest

-- the text of a string with its quotes
abbrev pub string_text : List ℕ → List ℕ
string_text quoted = unescaped (between quoted)
