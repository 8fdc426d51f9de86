-- Escapes of strings and of regular expressions.
use Rattle.std.proofs.Common.{◌≡◌, inl, inr, ℕ, zero, suc, ◌+◌, ◌-◌, false, List, [], ◌∷◌, ◌++◌, Option, Some, None, refl, sym, ap, subst, ◌∙◌, arith, eqb-true}
use Rattle.std.specs.Prelude.{◌≢◌, ◌==◌, ◌*◌, ◌%◌, if◌then◌else◌}
use Rattle.std.proofs.lemmas.Bool.{cases_Bool}
use Rattle.awk_text.specs.Escapes.{escaped, is_octal, letter_escape, octal, unescaped}
use Rattle.ere_syntax.specs.Bracket.{AreOctals, IsEscape, Letter, Octal, escape_value, letter_value, octal_value}

-- the digits so far, and those that follow
octal_is : (n more : ℕ) (ds rest : List ℕ) → AreOctals more ds rest → octal n more (ds ++ rest) ≡ octal_value n ds ∷ unescaped rest
unfolding unescaped
octal_is n zero [] [] h = refl
octal_is n zero [] (c ∷ cs) h = refl
octal_is n zero (d ∷ ds) rest h = absurd h
octal_is n (suc more) [] [] h = refl
octal_is n (suc more) [] (c ∷ cs) h =
    ap (λ b. if b then octal (n * 8 + (c - 48)) more cs else ((n % 256) ∷ (if c == 92 then escaped cs else c ∷ unescaped cs))) h
octal_is n (suc more) (d ∷ ds) rest h =
    ap (λ b. if b then octal (n * 8 + (d - 48)) more (ds ++ rest) else ((n % 256) ∷ (if d == 92 then escaped (ds ++ rest)
    else d ∷ unescaped (ds ++ rest)))) h.0 ∙
    octal_is (n * 8 + (d - 48)) more ds rest h.1

pub octals : (d : ℕ) (ds rest : List ℕ) → IsEscape (Octal d ds) rest → unescaped (92 ∷ (d ∷ (ds ++ rest))) ≡ escape_value (Octal d ds) ∷ unescaped rest
unfolding unescaped
octals d ds rest h =
    ap (λ b. if b then octal (d - 48) 2 (ds ++ rest) else if d == 10 then unescaped (ds ++ rest) else elim (letter_escape d)
    [ Some byte ↦ byte ∷ unescaped (ds ++ rest) | None ↦ 92 ∷ (d ∷ unescaped (ds ++ rest)) ]) h.0 ∙
    (octal_is (d - 48) 2 ds rest h.1 ∙ ap (λ n. octal_value n ds ∷ unescaped rest) (let e : d - 48 ≡ 0 * 8 + (d - 48) = omega arith in e))

-- a byte is one of a table, or none of them
one : (P : ℕ → Type 0) (k c : ℕ) → P k → ((c == k) ≡ false → P c) → P c
one P k c p q = elim (cases_Bool (c == k)) [ inl e ↦ subst P (sym (eqb-true c k e)) p | inr e ↦ q e ]

some_inj : (a b : ℕ) → Some a ≡ Some b → a ≡ b
some_inj a b e = cc

abbrev Same : List ℕ → ℕ → Type 0
Same rest c = (byte : ℕ) → letter_escape c ≡ Some byte → (unescaped (92 ∷ (c ∷ rest)) ≡ byte ∷ unescaped rest) × (escape_value (Letter c) ≡ byte)

known : (rest : List ℕ) (c byte : ℕ) → unescaped (92 ∷ (c ∷ rest)) ≡ byte ∷ unescaped rest → letter_value c ≡ byte → letter_escape c ≡ Some byte → Same rest c
known rest c byte e f g = λ other h. let same = some_inj byte other (sym g ∙ h) in (e ∙ ap (λ b. b ∷ unescaped rest) same, f ∙ same)

none_of : (c byte : ℕ) → letter_escape c ≡ None → letter_escape c ≡ Some byte → ⊥
none_of c byte e h = absurd (let q = sym e ∙ h in cc)

pub letters : (c byte : ℕ) (rest : List ℕ) → letter_escape c ≡ Some byte →
    (unescaped (92 ∷ (c ∷ rest)) ≡ byte ∷ unescaped rest) × (escape_value (Letter c) ≡ byte)
unfolding unescaped
letters c byte rest =
    one (Same rest) 34 c (known rest 34 34 refl refl refl) (λ a. one (Same rest) 47 c (known rest 47 47 refl refl refl) (λ b.
    one (Same rest) 92 c (known rest 92 92 refl refl refl) (λ d. one (Same rest) 97 c (known rest 97 7 refl refl refl) (λ e.
    one (Same rest) 98 c (known rest 98 8 refl refl refl) (λ f. one (Same rest) 102 c (known rest 102 12 refl refl refl) (λ g.
    one (Same rest) 110 c (known rest 110 10 refl refl refl) (λ h. one (Same rest) 114 c (known rest 114 13 refl refl refl) (λ i.
    one (Same rest) 116 c (known rest 116 9 refl refl refl) (λ j. one (Same rest) 118 c (known rest 118 11 refl refl refl) (λ k.
    λ other z. absurd (none_of c other (let none : letter_escape c ≡ None = rw (a, b, d, e, f, g, h, i, j, k) refl in none) z))))))))))) byte

abbrev Itself : ℕ → Type 0
Itself c = letter_escape c ≡ None → letter_value c ≡ c

never : (c byte : ℕ) → letter_escape c ≡ Some byte → Itself c
never c byte e = λ none. absurd (none_of c byte none e)

itself : (c : ℕ) → Itself c
itself c =
    one Itself 97 c (never 97 7 refl) (λ e. one Itself 98 c (never 98 8 refl) (λ f. one Itself 102 c (never 102 12 refl) (λ g.
    one Itself 110 c (never 110 10 refl) (λ h. one Itself 114 c (never 114 13 refl) (λ i. one Itself 116 c (never 116 9 refl) (λ j.
    one Itself 118 c (never 118 11 refl) (λ k. λ none. rw (e, f, g, h, i, j, k) refl)))))))

not_newline : (c : ℕ) → c ≢ 10 → (c == 10) ≡ false
not_newline c h = elim (cases_Bool (c == 10)) [ inl e ↦ absurd (h (eqb-true c 10 e)) | inr e ↦ e ]

pub others : (c : ℕ) (rest : List ℕ) → letter_escape c ≡ None → is_octal c ≡ false → c ≢ 10 →
    (unescaped (92 ∷ (c ∷ rest)) ≡ 92 ∷ (c ∷ unescaped rest)) × (escape_value (Letter c) ≡ c)
unfolding unescaped
others c rest none no_digit no_line = (
  ap (λ b. if b then octal (c - 48) 2 rest else if c == 10 then unescaped rest else elim (letter_escape c)
      [ Some byte ↦ byte ∷ unescaped rest | None ↦ 92 ∷ (c ∷ unescaped rest) ]) no_digit ∙
      (ap (λ b. if b then unescaped rest else elim (letter_escape c) [ Some byte ↦ byte ∷ unescaped rest | None ↦ 92 ∷ (c ∷ unescaped rest) ])
      (not_newline c no_line) ∙
      ap (λ (o : Option ℕ). elim o as (λ _. List ℕ) [ Some byte ↦ byte ∷ unescaped rest | None ↦ 92 ∷ (c ∷ unescaped rest) ]) none),
  itself c none,
)
