-- What is written is of a form and in the fewest bytes, and what is not written would go past the limit in any form.
use Rattle.std.proofs.Common.{◌≡◌, ℕ, ◌+◌, ◌^◌, ◌<◌, ◌≤◌, Bool, true, false, cond, ltb, List, [], ◌∷◌, ◌++◌, length, Option, Some, None, inl, inr, refl, sym, ap, subst, ◌∙◌, append_assoc, arith, length-append}
use Rattle.std.proofs.lemmas.Bool.{ltb-true, ltb-false}
use Rattle.std.proofs.lemmas.List.{append-nil}
use Rattle.wasm_types.specs.Leb128.{IsU32, IsS32, IsS64}
use Rattle.wasm_types.specs.Leb128Texts.{and_then, u32_text, s32_text, s64_text}
use Rattle.wasm_types.specs.Instructions.{Each, IsVec, Tagged, IsIndex}
use Rattle.wasm_types.specs.ModuleGrammar.{IsBytes, IsOption}
use Rattle.wasm_types.proofs.Groups.{u32_written, s32_written, s64_written, u32_least, s32_least, s64_least}
use Rattle.module_writer.specs.Writers.{Written, byte_to, index_to, bits32_to, bits64_to, each_to, vec_to, option_to, tagged_to, bytes_to, sized_to}
use Rattle.module_writer.proofs.Sizes.{size_below}

-- the fewest bytes of a form, behind those that were there
pub record Least (P : List ℕ → Type 0) (old new : List ℕ) : Type 0 where
  pub text : List ℕ
  pub is : P text
  pub least : (other : List ℕ) → P other → length text ≤ length other
  pub behind : new ≡ old ++ text

abbrev pub Meets : (List ℕ → Type 0) → List ℕ → Written → Type 0
Meets P old None = (other : List ℕ) → P other → 2 ^ 24 < length old + length other
Meets P old (Some new) = Least P old new

-- one form behind another
abbrev pub Follow : (List ℕ → Type 0) → (List ℕ → Type 0) → List ℕ → Type 0
Follow P Q text = (a : List ℕ) × (b : List ℕ) × P a × Q b × (text ≡ a ++ b)

pub then_meets : (P Q : List ℕ → Type 0) (old : List ℕ) (r : Written) (q : List ℕ → Written) → Meets P old r → ((mid : List ℕ) → Meets Q mid (q mid)) → Meets (Follow P Q) old (and_then r q)
then_meets P Q old None q h g = λ other k. let e = ap length k.4 in let l = length-append k.0 k.1 in let m = h k.0 k.2 in omega (arith, e, l, m)
then_meets P Q old (Some mid) q h g = by (q mid) (g mid)
  where
    by : (s : Written) → Meets Q mid s → Meets (Follow P Q) old s
    by None m = λ other k.
        let e = ap length k.4 in
        let l = length-append k.0 k.1 in
        let first = h.least k.0 k.2 in
        let second = m k.1 k.3 in
        let was = ap length h.behind in
        let both = length-append old h.text in
        omega (arith, e, l, first, second, was, both)
    by (Some new) m = record {
      text = h.text ++ m.text;
      is = (h.text, m.text, h.is, m.is, refl);
      least = λ other k.
          let e = ap length k.4 in
          let l = length-append k.0 k.1 in
          let first = h.least k.0 k.2 in
          let second = m.least k.1 k.3 in
          let both = length-append h.text m.text in
          omega (arith, e, l, first, second, both);
      behind = m.behind ∙ ap (λ (u : List ℕ). u ++ m.text) h.behind ∙ append_assoc old h.text m.text;
    }

-- a form that has the other's shortest bytes
pub through : (P Q : List ℕ → Type 0) (old : List ℕ) (r : Written) → ((t : List ℕ) → P t → Q t) → ((t : List ℕ) → Q t → (s : List ℕ) × P s × (length s ≤ length t)) → Meets P old r → Meets Q old r
through P Q old None f g h = λ other k. let s = g other k in let m = h s.0 s.1 in let l = s.2 in omega (arith, m, l)
through P Q old (Some new) f g h = record { text = h.text; is = f h.text h.is; least = λ other k. (let s = g other k in let m = h.least s.0 s.1 in let l = s.2 in omega (arith, m, l)); behind = h.behind }

-- another form of the same bytes
pub as_form : (P Q : List ℕ → Type 0) (old : List ℕ) (r : Written) → ((t : List ℕ) → P t → Q t) → ((t : List ℕ) → Q t → P t) → Meets P old r → Meets Q old r
as_form P Q old r f g h = through P Q old r f (λ t k. (t, g t k, omega arith)) h

pub nothing_meets : (old : List ℕ) → Meets (λ t. t ≡ []) old (Some old)
nothing_meets old = record { text = []; is = refl; least = λ other h. omega arith; behind = sym (append-nil old) }

pub text_meets : (xs old : List ℕ) → Meets (λ t. t ≡ xs) old (Some (old ++ xs))
text_meets xs old = record { text = xs; is = refl; least = λ other h. (let e = ap length h in omega (arith, e)); behind = refl }

pub byte_meets : (k : ℕ) (old : List ℕ) → Meets (λ t. t ≡ k ∷ []) old (byte_to k old)
byte_meets k old = by (ltb (length old) (2 ^ 24)) refl
  where
    by : (b : Bool) → ltb (length old) (2 ^ 24) ≡ b → Meets (λ t. t ≡ k ∷ []) old (cond b (Some (old ++ k ∷ [])) None)
    by true e = text_meets (k ∷ []) old
    by false e = λ other h. let l = ltb-false (length old) (2 ^ 24) e in let n = ap length h in omega (arith, l, n)

pub index_meets : (n : ℕ) (old : List ℕ) → Meets (IsIndex n) old (index_to n old)
unfolding index_to
index_meets n old = by (ltb n (2 ^ 32)) refl
  where
    by : (b : Bool) → ltb n (2 ^ 32) ≡ b → Meets (IsIndex n) old (cond b (Some (old ++ u32_text n)) None)
    by true e = record { text = u32_text n; is = u32_written n (ltb-true n (2 ^ 32) e); least = λ other h. u32_least n other h; behind = refl }
    by false e = λ other h. let l = ltb-false n (2 ^ 32) e in let s = h.small in absurd (omega (arith, l, s))

pub bits32_meets : (n : ℕ) (old : List ℕ) → Meets (λ t. IsS32 t n) old (bits32_to n old)
unfolding bits32_to
bits32_meets n old = by (ltb n (2 ^ 32)) refl
  where
    by : (b : Bool) → ltb n (2 ^ 32) ≡ b → Meets (λ t. IsS32 t n) old (cond b (Some (old ++ s32_text n)) None)
    by true e = record { text = s32_text n; is = s32_written n (ltb-true n (2 ^ 32) e); least = λ other h. s32_least n other h; behind = refl }
    by false e = λ other h. let l = ltb-false n (2 ^ 32) e in elim h.sign [ inl k ↦ (let s = k.2 in absurd (omega (arith, l, s, k.1))) | inr k ↦ (let s = k.3 in absurd (omega (arith, l, s))) ]

pub bits64_meets : (n : ℕ) (old : List ℕ) → Meets (λ t. IsS64 t n) old (bits64_to n old)
unfolding bits64_to
bits64_meets n old = by (ltb n (2 ^ 64)) refl
  where
    by : (b : Bool) → ltb n (2 ^ 64) ≡ b → Meets (λ t. IsS64 t n) old (cond b (Some (old ++ s64_text n)) None)
    by true e = record { text = s64_text n; is = s64_written n (ltb-true n (2 ^ 64) e); least = λ other h. s64_least n other h; behind = refl }
    by false e = λ other h. let l = ltb-false n (2 ^ 64) e in elim h.sign [ inl k ↦ (let s = k.2 in absurd (omega (arith, l, s, k.1))) | inr k ↦ (let s = k.3 in absurd (omega (arith, l, s))) ]

-- ---- vectors

pub each_meets : {A : Type 0} (P : A → List ℕ → Type 0) (p : A → List ℕ → Written) → ((x : A) (old : List ℕ) → Meets (P x) old (p x old)) → (xs : List A) (old : List ℕ) → Meets (Each P xs) old (each_to p xs old)
each_meets P p f [] old = nothing_meets old
each_meets P p f (x ∷ xs) old = then_meets (P x) (Each P xs) old (p x old) (each_to p xs) (f x old) (each_meets P p f xs)

pub vec_meets : {A : Type 0} (P : A → List ℕ → Type 0) (p : A → List ℕ → Written) → ((x : A) (old : List ℕ) → Meets (P x) old (p x old)) → (xs : List A) (old : List ℕ) → Meets (IsVec P xs) old (vec_to p xs old)
vec_meets P p f xs old = then_meets (IsIndex (length xs)) (Each P xs) old (index_to (length xs) old) (each_to p xs) (index_meets (length xs) old) (each_meets P p f xs)

pub option_meets : {A : Type 0} (P : A → List ℕ → Type 0) (p : A → List ℕ → Written) → ((x : A) (old : List ℕ) → Meets (P x) old (p x old)) → (o : Option A) (old : List ℕ) → Meets (IsOption P o) old (option_to p o old)
option_meets P p f None old = as_form (IsIndex 0) (IsOption P None) old (index_to 0 old) (λ t h. (t, [], h, refl, sym (append-nil t))) (λ t h. subst (IsIndex 0) (sym (h.4 ∙ ap (λ (u : List ℕ). h.0 ++ u) h.3 ∙ append-nil h.0)) h.2) (index_meets 0 old)
option_meets P p f (Some x) old = as_form (Follow (IsIndex 1) (P x)) (IsOption P (Some x)) old (and_then (index_to 1 old) (p x))
    (λ t h. (h.0, h.1, h.2, (h.1, [], h.3, refl, sym (append-nil h.1)), h.4))
    (λ t h. (h.0, h.3.0, h.2, h.3.2, h.4 ∙ ap (λ (u : List ℕ). h.0 ++ u) (h.3.4 ∙ ap (λ (u : List ℕ). h.3.0 ++ u) h.3.3 ∙ append-nil h.3.0)))
    (then_meets (IsIndex 1) (P x) old (index_to 1 old) (p x) (index_meets 1 old) (f x))

pub tagged_meets : {A : Type 0} (k : ℕ) (P : A → List ℕ → Type 0) (p : A → List ℕ → Written) → ((x : A) (old : List ℕ) → Meets (P x) old (p x old)) → (x : A) (old : List ℕ) → Meets (Tagged k P x) old (tagged_to k p x old)
tagged_meets k P p f x old = as_form (Follow (λ t. t ≡ k ∷ []) (P x)) (Tagged k P x) old (tagged_to k p x old)
    (λ t h. (h.1, h.3, h.4 ∙ ap (λ (u : List ℕ). u ++ h.1) h.2))
    (λ t h. (k ∷ [], h.0, refl, h.1, h.2))
    (then_meets (λ t. t ≡ k ∷ []) (P x) old (byte_to k old) (p x) (byte_meets k old) (f x))

-- ---- sizes

pub bytes_meets : (xs old : List ℕ) → Meets (IsBytes xs) old (bytes_to xs old)
bytes_meets xs old = as_form (Follow (IsIndex (length xs)) (λ t. t ≡ xs)) (IsBytes xs) old (bytes_to xs old)
    (λ t h. (h.0, h.2, h.4 ∙ ap (λ (u : List ℕ). h.0 ++ u) h.3))
    (λ t h. (h.0, xs, h.1, refl, h.2))
    (then_meets (IsIndex (length xs)) (λ t. t ≡ xs) old (index_to (length xs) old) (λ new. Some (new ++ xs)) (index_meets (length xs) old) (text_meets xs))

-- a form with its size before it
abbrev pub Sized : (List ℕ → Type 0) → List ℕ → Type 0
Sized P text = (a : List ℕ) × (b : List ℕ) × IsU32 a (length b) × P b × (text ≡ a ++ b)

pub sized_meets : (P : List ℕ → Type 0) (body : Written) → Meets P [] body → (old : List ℕ) → Meets (Sized P) old (sized_to body old)
sized_meets P None h old = λ other k. let e = ap length k.4 in let l = length-append k.0 k.1 in let m = h k.1 k.3 in omega (arith, e, l, m)
sized_meets P (Some xs) h old = through (IsBytes xs) (Sized P) old (bytes_to xs old) given found (bytes_meets xs old)
  where
    given : (t : List ℕ) → IsBytes xs t → Sized P t
    given t k = (k.0, xs, k.1, subst P (sym h.behind) h.is, k.2)

    found : (t : List ℕ) → Sized P t → (s : List ℕ) × IsBytes xs s × (length s ≤ length t)
    found t k =
        let e = ap length k.4 in
        let l = length-append k.0 k.1 in
        let n = ap length h.behind in
        let m = h.least k.1 k.3 in
        let fewer : length xs ≤ length k.1 = omega (arith, n, m) in
        let most = k.2.small in
        let fits : length xs < 2 ^ 32 = omega (arith, fewer, most) in
        let size = size_below (length xs) (length k.1) k.0 k.2 fewer in
        let both = length-append (u32_text (length xs)) xs in
        (u32_text (length xs) ++ xs, (u32_text (length xs), u32_written (length xs) fits, refl), omega (arith, e, l, fewer, size, both))
