-- Tables of scripts, row by row.
use Rattle.std.proofs.Common.{◌≡◌, ℕ, zero, suc, ◌+◌, ◌-◌, ◌<◌, ◌≤◌, Some, None, List, [], ◌∷◌, ◌++◌, length, map, refl, sym, ap, ◌∙◌, arith, append_assoc, lt-ltb, le-ltb, ◌⊎◌, inl, inr}
use Rattle.std.proofs.lemmas.Bool.{cases_lt}
use Rattle.std.specs.Prelude.{codes, slice_get, unwrap_or}
use Rattle.awk_grammar.specs.Trees.{Item}
use Rattle.awk_tokens.specs.Cutting.{Spelled}
use Rattle.awk_tree.specs.Lines.{function_names, line_at, line_of, places_in}
use Rattle.script_places.specs.Lines.{FunctionForm, line_in, line_told, name_in}
use Rattle.script_lines.specs.Lined.{line_number, row_of, rows_from, table_of, told_line}

module _ (tokens : List Spelled) (script : List Item) where
  -- one row more
  pub next_row : (front : List FunctionForm) (i n : ℕ) → i < n
      → (front ++ row_of tokens script i ∷ []) ++ rows_from tokens script (n - (i + 1)) (i + 1) ≡ front ++ rows_from tokens script (n - i) i
  next_row front i n lt =
      let m : n - i ≡ suc (n - (i + 1)) = omega (arith, lt) in
      let one : i + 1 ≡ suc i = omega arith in
      rw (m, one, append_assoc) refl

  row_at : (count from k : ℕ) → k < count → slice_get (rows_from tokens script count from) k ≡ Some (row_of tokens script (from + k))
  row_at zero from k lt = absurd (omega (arith, lt))
  row_at (suc count) from zero lt = ap (λ n. Some (row_of tokens script n)) (let e : from ≡ from + 0 = omega arith in e)
  row_at (suc count) from (suc k) lt =
      row_at count (suc from) k (omega (arith, lt)) ∙ ap (λ n. Some (row_of tokens script n)) (let e : suc from + k ≡ from + suc k = omega arith in e)

  first_row : (count k : ℕ) → k < count → slice_get (rows_from tokens script count 0) k ≡ Some (row_of tokens script k)
  first_row count k lt = row_at count 0 k lt ∙ ap (λ n. Some (row_of tokens script n)) (let e : 0 + k ≡ k = omega arith in e)

  rows_long : (count from : ℕ) → length (rows_from tokens script count from) ≡ count
  rows_long zero from = refl
  rows_long (suc count) from = ap suc (rows_long count (suc from))

  line_back : (places : List ℕ) (place : ℕ) → line_told (slice_get (map (λ before. line_number (line_at tokens (Some before))) places) place) ≡ told_line (line_at tokens (slice_get places place))
  line_back [] place = refl
  line_back (p ∷ ps) zero = refl
  line_back (p ∷ ps) (suc place) = line_back ps place

  pub lines_told : (function place : ℕ) → function ≤ length (function_names script) → line_in (table_of tokens script) function place ≡ told_line (line_of tokens script function place)
  lines_told function place le =
      rw (first_row (suc (length (function_names script))) function (omega (arith, le))) (line_back (places_in script function) place)

  is_there : (xs : List (List ℕ)) (d : List ℕ) (n : ℕ) → n < length xs → Some (unwrap_or (slice_get xs n) d) ≡ slice_get xs n
  is_there [] d n lt = absurd (omega (arith, lt))
  is_there (x ∷ xs) d zero lt = refl
  is_there (x ∷ xs) d (suc n) lt = is_there xs d n (omega (arith, lt))

  is_past : (xs : List (List ℕ)) (n : ℕ) → length xs ≤ n → slice_get xs n ≡ None
  is_past [] n le = refl
  is_past (x ∷ xs) zero le = absurd (omega (arith, le))
  is_past (x ∷ xs) (suc n) le = is_past xs n (omega (arith, le))

  pub names_told : (function : ℕ) → name_in (table_of tokens script) function ≡ slice_get (function_names script) function
  names_told function = by (cases_lt function count) where
    count : ℕ
    count = length (function_names script)

    by : (function < count) ⊎ (count ≤ function) → name_in (table_of tokens script) function ≡ slice_get (function_names script) function
    by (inl lt) =
        rw (rows_long (suc count) 0, lt-ltb (suc function) (suc count) (omega (arith, lt)), first_row (suc count) function (omega (arith, lt)))
        (is_there (function_names script) (codes "main") function lt)
    by (inr le) = rw (rows_long (suc count) 0, le-ltb (suc function) (suc count) (omega (arith, le))) (sym (is_past (function_names script) function le))
