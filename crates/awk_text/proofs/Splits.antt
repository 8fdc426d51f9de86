-- What is split off a text by a test of its bytes.
use Rattle.std.proofs.Common.{◌≡◌, ℕ, suc, ◌+◌, ◌≤◌, Bool, true, false, List, [], ◌∷◌, ◌++◌, length, take, drop, length-drop, refl, subst, sym, ◌∙◌, ap, arith}
use Rattle.std.specs.List.{prefix_len}
use Rattle.std.proofs.lemmas.Bool.{cond-true, cond-false, cond_both}
use Rattle.std.proofs.lemmas.List.{length-take-le, take-append-drop}
use Rattle.std.proofs.Math.Seq.{take-length}
use Rattle.std.proofs.lemmas.List.Sums.{prefix_len-le-length}
use Rattle.awk_text.specs.Reading.{AllPass, count_while}

abbrev pub split_while : (ℕ → Bool) → List ℕ → List ℕ × List ℕ
split_while p bytes = (take (count_while p bytes) bytes, drop (count_while p bytes) bytes)

count_is : (p : ℕ → Bool) (bytes : List ℕ) → count_while p bytes ≡ prefix_len p bytes
count_is p bytes = length-take-le (prefix_len p bytes) bytes (prefix_len-le-length p bytes)

abbrev split_at : List ℕ → ℕ → List ℕ × List ℕ
split_at bytes n = (take n bytes, drop n bytes)

split-pass : (p : ℕ → Bool) (c : ℕ) (t : List ℕ) → p c ≡ true → split_while p (c ∷ t) ≡ (c ∷ (split_while p t).0, (split_while p t).1)
split-pass p c t h =
    let one : 1 + prefix_len p t ≡ suc (prefix_len p t) = omega arith in
    let count : count_while p (c ∷ t) ≡ suc (prefix_len p t) = count_is p (c ∷ t) ∙ cond-true (p c) (1 + prefix_len p t) 0 h ∙ one in
    ap (split_at (c ∷ t)) count ∙ ap (λ (n : ℕ). split_at (c ∷ t) (suc n)) (sym (count_is p t))

pub split-stop : (p : ℕ → Bool) (c : ℕ) (t : List ℕ) → p c ≡ false → split_while p (c ∷ t) ≡ ([], c ∷ t)
split-stop p c t h = ap (split_at (c ∷ t)) (count_is p (c ∷ t) ∙ cond-false (p c) (1 + prefix_len p t) 0 h)

pub split-over : (p : ℕ → Bool) (front t : List ℕ) → AllPass p front → split_while p (front ++ t) ≡ (front ++ (split_while p t).0, (split_while p t).1)
split-over p [] t h = refl
split-over p (c ∷ front) t h = split-pass p c (front ++ t) h.0 ∙ ap (λ (s : List ℕ × List ℕ). (c ∷ s.0, s.1)) (split-over p front t h.1)

front_passes : (p : ℕ → Bool) (bytes : List ℕ) → AllPass p (take (prefix_len p bytes) bytes)
front_passes p [] = tt
front_passes p (c ∷ cs) = cond_both (p c) (1 + prefix_len p cs) 0 (λ n. AllPass p (take n (c ∷ cs)))
    (λ e. (let one : suc (prefix_len p cs) ≡ 1 + prefix_len p cs = omega arith in subst (λ n. AllPass p (take n (c ∷ cs))) one (e, front_passes p cs)))
    (λ _. tt)

pub split-passes : (p : ℕ → Bool) (bytes : List ℕ) → AllPass p (split_while p bytes).0
split-passes p bytes = subst (λ n. AllPass p (take n bytes)) (sym (count_is p bytes)) (front_passes p bytes)

pub split-whole : (p : ℕ → Bool) (bytes : List ℕ) → bytes ≡ (split_while p bytes).0 ++ (split_while p bytes).1
split-whole p bytes = sym (take-append-drop (count_while p bytes) bytes)

pub split-rest : (p : ℕ → Bool) (bytes : List ℕ) → length (split_while p bytes).1 ≤ length bytes
split-rest p bytes = omega (arith, length-drop (count_while p bytes) bytes)

all_pass : (p : ℕ → Bool) (bytes : List ℕ) → AllPass p bytes → prefix_len p bytes ≡ length bytes
all_pass p [] h = refl
all_pass p (c ∷ cs) h = cond-true (p c) (1 + prefix_len p cs) 0 h.0 ∙ omega (arith, all_pass p cs h.1)

-- every byte passes exactly where as many bytes pass as there are
pub count-all : (p : ℕ → Bool) (bytes : List ℕ) → AllPass p bytes → count_while p bytes ≡ length bytes
count-all p bytes h = count_is p bytes ∙ all_pass p bytes h

pub all-count : (p : ℕ → Bool) (bytes : List ℕ) → count_while p bytes ≡ length bytes → AllPass p bytes
all-count p bytes e = subst (AllPass p) (ap (λ n. take n bytes) e ∙ take-length bytes) (split-passes p bytes)
