-- Escape sequences from the front of a text.
use Rattle.std.proofs.Common.{◌≡◌, ℕ, zero, suc, ◌+◌, ◌-◌, ◌*◌, ◌%◌, ◌<◌, ◌≤◌, true, false, Option, Some, None, List, [], ◌∷◌, ◌++◌, length, get_or, take, drop, refl, sym, ap, append_assoc, ◌∙◌, arith}
use Rattle.std.proofs.lemmas.Bool.Decides.{nat_tests}
use Rattle.std.proofs.Math.Seq.{take-length}
use Rattle.std.specs.Prelude.{◌==◌, if◌then◌else◌}
use Rattle.awk_text.specs.Escapes.{between, escaped, is_octal, letter_escape, octal, unescaped, without_last}

tail_is : (c : ℕ) (cs : List ℕ) → take (length (c ∷ cs) - 1) cs ≡ cs
tail_is c cs =
    let n : length (c ∷ cs) - 1 ≡ length cs = omega arith in
    ap (λ k. take k cs) n ∙ take-length cs

-- a byte, and what follows it, as a slice of at least one byte has them
pub front : (text : List ℕ) → 1 ≤ length text → get_or text 0 0 ∷ take (length text - 1) (drop 1 text) ≡ text
front [] h = absurd (omega arith)
front (c ∷ cs) h = ap (λ xs. c ∷ xs) (tail_is c cs)

-- no digit is taken any more
octal_done : (n : ℕ) (text : List ℕ) → octal n 0 text ≡ (n % 256) ∷ unescaped text
unfolding octal unescaped
octal_done n [] = refl
octal_done n (c ∷ cs) = refl

octal_goes_on : (n more c : ℕ) (cs : List ℕ) → is_octal c ≡ true → octal n (suc more) (c ∷ cs) ≡ octal (n * 8 + (c - 48)) more cs
unfolding octal unescaped
octal_goes_on n more c cs taken = ap (λ b. if b then octal (n * 8 + (c - 48)) more cs else ((n % 256) ∷ unescaped (c ∷ cs))) taken

pub none_left : (text : List ℕ) → length text < 1 → (n more : ℕ) → octal n more text ≡ (n % 256) ∷ unescaped text
unfolding octal unescaped
none_left [] h n more = refl
none_left (c ∷ cs) h n more = absurd (omega arith)

pub none_taken : (text : List ℕ) → 1 ≤ length text → is_octal (get_or text 0 0) ≡ false → (n more : ℕ) → octal n more text ≡ (n % 256) ∷ unescaped text
unfolding octal unescaped
none_taken [] h not n more = absurd (omega arith)
none_taken (c ∷ cs) h not n zero = refl
none_taken (c ∷ cs) h not n (suc more) = ap (λ b. if b then octal (n * 8 + (c - 48)) more cs else ((n % 256) ∷ unescaped (c ∷ cs))) not

pub octal_three : (n a b : ℕ) (cs : List ℕ) → is_octal a ≡ true → is_octal b ≡ true → octal n 2 (a ∷ (b ∷ cs)) ≡ (((n * 8 + (a - 48)) * 8 + (b - 48)) % 256) ∷ unescaped cs
octal_three n a b cs first second = octal_goes_on n 1 a (b ∷ cs) first ∙ octal_goes_on (n * 8 + (a - 48)) 0 b cs second ∙ octal_done ((n * 8 + (a - 48)) * 8 + (b - 48)) cs

pub octal_two : (n a : ℕ) (cs : List ℕ) → is_octal a ≡ true → octal n 2 (a ∷ cs) ≡ octal (n * 8 + (a - 48)) 1 cs
octal_two n a cs first = octal_goes_on n 1 a cs first

pub ruleset octals = (octal_three, octal_two)

without_last_is : (c : ℕ) (text : List ℕ) → take (length text) (c ∷ text) ≡ without_last (c ∷ text)
without_last_is c [] = refl
without_last_is c (d ∷ rest) = ap (λ xs. c ∷ xs) (without_last_is d rest)

pub between_is : (quoted : List ℕ) → 2 ≤ length quoted → take (length quoted - 1 - 1) (drop 1 quoted) ≡ between quoted
between_is [] h = absurd (omega arith)
between_is (a ∷ []) h = absurd (omega arith)
between_is (a ∷ (c ∷ text)) h =
    let n : length (a ∷ (c ∷ text)) - 1 - 1 ≡ length text = omega arith in
    ap (λ k. take k (c ∷ text)) n ∙ without_last_is c text

-- what stands behind a backslash
pub escaped_end : (text : List ℕ) → length text < 1 → escaped text ≡ 92 ∷ unescaped text
unfolding escaped unescaped
escaped_end [] h = refl
escaped_end (c ∷ cs) h = absurd (omega arith)

pub escaped_octal : (c : ℕ) (cs : List ℕ) → is_octal c ≡ true → escaped (c ∷ cs) ≡ octal (c - 48) 2 cs
unfolding escaped unescaped
escaped_octal c cs h = rw h

pub escaped_newline : (c : ℕ) (cs : List ℕ) → c ≡ 10 → escaped (c ∷ cs) ≡ unescaped cs
unfolding escaped unescaped
escaped_newline c cs is = rw is

apart : (a b : ℕ) → (a ≡ b → ⊥) → (a == b) ≡ false
apart a b h = grind (arith, nat_tests)

by_letter : ℕ → List ℕ → Option ℕ → List ℕ
by_letter c cs (Some byte) = byte ∷ unescaped cs
by_letter c cs None = 92 ∷ (c ∷ unescaped cs)

other : (c : ℕ) (cs : List ℕ) → is_octal c ≡ false → (c == 10) ≡ false → escaped (c ∷ cs) ≡ by_letter c cs (letter_escape c)
unfolding escaped unescaped by_letter
other c cs h g = rw (h, g)

pub escaped_letter : (c byte : ℕ) (cs : List ℕ) → is_octal c ≡ false → (c ≡ 10 → ⊥) → letter_escape c ≡ Some byte → escaped (c ∷ cs) ≡ byte ∷ unescaped cs
unfolding by_letter
escaped_letter c byte cs h g is = other c cs h (apart c 10 g) ∙ ap (by_letter c cs) is

pub escaped_kept : (c : ℕ) (cs : List ℕ) → is_octal c ≡ false → (c ≡ 10 → ⊥) → letter_escape c ≡ None → escaped (c ∷ cs) ≡ 92 ∷ (c ∷ unescaped cs)
unfolding by_letter
escaped_kept c cs h g is = other c cs h (apart c 10 g) ∙ ap (by_letter c cs) is

-- what stands before one
pub unescaped_end : (text : List ℕ) → length text < 1 → unescaped text ≡ []
unfolding unescaped
unescaped_end [] h = refl
unescaped_end (c ∷ cs) h = absurd (omega arith)

pub unescaped_backslash : (text : List ℕ) → 1 ≤ length text → get_or text 0 0 ≡ 92 → unescaped text ≡ escaped (take (length text - 1) (drop 1 text))
unfolding escaped unescaped
unescaped_backslash [] h is = absurd (omega arith)
unescaped_backslash (c ∷ cs) h is = rw is (ap escaped (sym (tail_is c cs)))

pub unescaped_plain : (text : List ℕ) → 1 ≤ length text → (get_or text 0 0 ≡ 92 → ⊥) → unescaped text ≡ get_or text 0 0 ∷ unescaped (take (length text - 1) (drop 1 text))
unfolding escaped unescaped
unescaped_plain [] h not = absurd (omega arith)
unescaped_plain (c ∷ cs) h not = rw (apart c 92 not) (ap (λ xs. c ∷ unescaped xs) (sym (tail_is c cs)))

-- bytes that are added
pub adds : (old new bytes rest whole : List ℕ) → new ≡ old ++ bytes → whole ≡ bytes ++ rest → new ++ rest ≡ old ++ whole
adds old new bytes rest whole added parted = ap (λ xs. xs ++ rest) added ∙ append_assoc old bytes rest ∙ ap (λ xs. old ++ xs) (sym parted)
