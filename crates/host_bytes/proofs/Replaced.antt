-- Replacements from their first special byte on, and texts that are past the limit.
use Rattle.std.proofs.Common.{◌≡◌, inl, inr, ℕ, zero, suc, ◌+◌, ◌^◌, ◌<◌, ◌≤◌, Bool, true, false, List, [], ◌∷◌, ◌++◌, length, take, drop, get_or, Some, None, Result, Ok, Err, refl, sym, ap, ◌∙◌, arith, eqb-true}
use Rattle.std.specs.Prelude.{◌==◌, ◌||◌, nat_le, if◌then◌else◌}
use Rattle.std.proofs.lemmas.Bool.{cases_Bool}
use Rattle.std.proofs.lemmas.Bool.Decides.{nat_tests}
use Rattle.std.proofs.lemmas.List.{drop_more, length-append}
use Rattle.memchr.specs.Find.{IsFirstByte, is_byte2}
use Rattle.awk_values.specs.declared.fault.Fault.{Fault}
use Rattle.awk_values.specs.declared.fault.Fault.TheVariants.{TextLimit}
use Rattle.awk_values.specs.declared.fault.Stop.{Stop}
use Rattle.awk_values.specs.declared.fault.Stop.TheVariants as stops
use Rattle.sem_primitives.specs.SharedState.{◌>>=◌}
use Rattle.sem_primitives.specs.Texts.{limited}
use Rattle.sem_primitives.specs.TextMeaning.{escaped, replacement}
use Rattle.host_bytes.specs.Outcomes.{IsPast, IsStopOf}

-- a longer text is past the limit too
pub past_more : (xs more total : List ℕ) (s : Stop) → xs ++ more ≡ total → IsPast xs s → IsPast total s
past_more xs more total (stops.Fault f) e p = (p.0, (let size = ap length e in let long = p.1 in omega (arith, long, size, length-append xs more)))
past_more xs more total stops.NoMemory e p = tt

beyond : (k n : ℕ) → n < k → nat_le k n ≡ false
beyond k n lt = grind (arith, nat_tests)

long_by : (text : List ℕ) → 2 ^ 26 < length text → limited text ≡ Err TextLimit
long_by text long = ap (λ b. if b then Ok text else Err TextLimit) (beyond (length text) (2 ^ 26) long)

pub past_is : {A : Type 0} (total : List ℕ) (go : List ℕ → Result A Fault) (s : Stop) → IsPast total s → IsStopOf (limited total >>= go) s
past_is total go (stops.Fault f) p = ap (λ r. r >>= go) (long_by total p.1) ∙ ap (λ x. Err x) (sym p.0)
past_is total go stops.NoMemory p = tt

abbrev is_special : ℕ → Bool
is_special c = is_byte2 92 38 c

-- Replacements.

not_special : (c : ℕ) → (is_special c ≡ true → ⊥) → ((c == 92) ≡ false) × ((c == 38) ≡ false)
not_special c never = by (c == 92) (c == 38) refl refl
  where
    by : (a b : Bool) → (c == 92) ≡ a → (c == 38) ≡ b → ((c == 92) ≡ false) × ((c == 38) ≡ false)
    by a b e f = elim (cases_Bool a) [
      | inl held ↦ absurd (never (ap (λ x. x || (c == 38)) (e ∙ held)))
      | inr out ↦ elim (cases_Bool b) [
        | inl held ↦ absurd (never (ap (λ x. x || (c == 38)) (e ∙ out) ∙ (f ∙ held)))
        | inr off ↦ (e ∙ out, f ∙ off)
      ]
    ]

plain : (matched : List ℕ) (c : ℕ) (cs : List ℕ) → ((c == 92) ≡ false) × ((c == 38) ≡ false) → replacement matched (c ∷ cs) ≡ c ∷ replacement matched cs
plain matched c cs e =
    ap (λ b. elim b [ true ↦ escaped matched cs | false ↦ (if c == 38 then matched else c ∷ []) ++ replacement matched cs ]) e.0
    ∙ ap (λ b. (if b then matched else c ∷ []) ++ replacement matched cs) e.1

prefix : (matched xs : List ℕ) (at : ℕ) → at ≤ length xs → ((k : ℕ) → k < at → is_special (get_or xs k 0) ≡ true → ⊥) → replacement matched xs ≡ take at xs ++ replacement matched (drop at xs)
prefix matched xs zero low never = refl
prefix matched [] (suc at) low never = absurd (omega arith)
prefix matched (c ∷ cs) (suc at) low never =
    plain matched c cs (not_special c (never 0 (omega arith)))
    ∙ ap (λ ys. c ∷ ys) (prefix matched cs at (omega arith) (λ k less. never (suc k) (omega arith)))

pub no_special : (matched xs : List ℕ) → IsFirstByte (is_byte2 92 38) xs None → replacement matched xs ≡ xs
no_special matched [] h = refl
no_special matched (c ∷ cs) h =
    plain matched c cs (not_special c (h 0 (omega arith) (omega arith)))
    ∙ ap (λ ys. c ∷ ys) (no_special matched cs (λ k low high. h (suc k) (omega arith) (omega (arith, high))))

amp_first : (matched : List ℕ) (c : ℕ) (cs : List ℕ) → c ≡ 38 → replacement matched (c ∷ cs) ≡ matched ++ replacement matched cs
amp_first matched c cs e = ap (λ x. replacement matched (x ∷ cs)) e

escape_first : (matched : List ℕ) (c : ℕ) (cs : List ℕ) → c ≡ 92 → replacement matched (c ∷ cs) ≡ escaped matched cs
escape_first matched c cs e = ap (λ x. replacement matched (x ∷ cs)) e

at_special : (matched xs : List ℕ) (at : ℕ) → IsFirstByte (is_byte2 92 38) xs (Some at) → replacement matched xs ≡ take at xs ++ replacement matched (get_or xs at 0 ∷ drop (at + 1) xs)
at_special matched xs at h =
    let high = h.0.high in
    prefix matched xs at (omega (arith, high)) (λ k less. h.0.before k (omega arith) less)
    ∙ ap (λ ys. take at xs ++ replacement matched ys) (drop_more xs at 0 high)

pub at_ampersand : (matched xs : List ℕ) (at : ℕ) → IsFirstByte (is_byte2 92 38) xs (Some at) → get_or xs at 0 ≡ 38 → replacement matched xs ≡ take at xs ++ (matched ++ replacement matched (drop (at + 1) xs))
at_ampersand matched xs at h e = at_special matched xs at h ∙ ap (λ ys. take at xs ++ ys) (amp_first matched (get_or xs at 0) (drop (at + 1) xs) e)

is_backslash : (c : ℕ) → is_special c ≡ true → (c ≡ 38 → ⊥) → c ≡ 92
is_backslash c special other = elim (cases_Bool (c == 92)) [
  | inl held ↦ eqb-true c 92 held
  | inr off ↦ absurd (other (eqb-true c 38 (sym (ap (λ b. b || (c == 38)) off) ∙ special)))
]

pub at_backslash : (matched xs : List ℕ) (at : ℕ) → IsFirstByte (is_byte2 92 38) xs (Some at) → (get_or xs at 0 ≡ 38 → ⊥) → replacement matched xs ≡ take at xs ++ escaped matched (drop (at + 1) xs)
at_backslash matched xs at h other =
    at_special matched xs at h ∙ ap (λ ys. take at xs ++ ys) (escape_first matched (get_or xs at 0) (drop (at + 1) xs) (is_backslash (get_or xs at 0) h.1 other))
