-- What is read is spelled so, what is spelled so is read, and what is written is spelled so.
use Rattle.std.proofs.Common.{◌≡◌, ℕ, zero, suc, ◌+◌, ◌-◌, ◌*◌, ◌/◌, ◌%◌, ◌^◌, ◌<◌, ◌≤◌, Bool, true, false, cond, ltb, leb, List, [], ◌∷◌, ◌++◌, length, Option, Some, None, ◌⊎◌, inl, inr, refl, sym, ap, subst, ◌∙◌, arith, length-append, take}
use Rattle.std.proofs.lemmas.Int.{of_z-to_z}
use Rattle.std.specs.Int.{cast_unsigned, cast_signed}
use mir.Syntax.{Width}
use mir.Val.{bits}
use lib.IntN.{ℤ}
use Rattle.std.specs.Prelude.{◌||◌, ◌&&◌}
use Rattle.std.proofs.Math.Nat.{pow-suc}
use Rattle.std.proofs.lemmas.List.{take_at}
use Rattle.std.proofs.lemmas.Bool.{lt-ltb, le-ltb, ltb-true, ltb-false, leb-true, leb-false, le-leb, lt-leb, cases_lt}
use Rattle.wasm_types.specs.Leb128.{IsRaw, IsUnsigned, IsSigned, Extends, IsU32, IsS32, IsS64}
use Rattle.wasm_types.specs.Leb128Texts.{and_then, raw_at, unsigned_of, unsigned_at, signed_of, signed_at, unsigned_text, signed_text, u32_at, s32_at, s64_at, u32_text, s32_text, s64_text}

pub chosen : {A : Type 0} (b : Bool) (x y z : A) → cond b x y ≡ z → ((b ≡ true) × (x ≡ z)) ⊎ ((b ≡ false) × (y ≡ z))
chosen true x y z e = inl (refl, e)
chosen false x y z e = inr (refl, e)

pub then_some : {A B : Type 0} (o : Option A) (f : A → Option B) (y : B) → and_then o f ≡ Some y → (x : A) × (o ≡ Some x) × (f x ≡ Some y)
then_some None f y e = absurd cc
then_some (Some x) f y e = (x, refl, e)

abbrev some : {A : Type 0} → A → Option A
some x = Some x

abbrev no : {A : Type 0} → Option A
no = None

no_some : {A : Type 0} (x : A) → no ≡ some x → ⊥
no_some x e = absurd cc

pub some_is : {A : Type 0} (x y : A) → some x ≡ some y → x ≡ y
some_is x y e = cc

-- what was taken from the front
pub record TakesRaw (most : ℕ) (bytes : List ℕ) (x : ℕ × ℕ × List ℕ) : Type 0 where
  pub text : List ℕ
  pub raw : IsRaw text x.0 x.1
  pub len : length text ≤ most
  pub parts : bytes ≡ text ++ x.2

pub raw_sound : (most : ℕ) (bytes : List ℕ) (x : ℕ × ℕ × List ℕ) → raw_at most bytes ≡ Some x → TakesRaw most bytes x
raw_sound zero bytes x e = absurd cc
raw_sound (suc m) [] x e = absurd cc
raw_sound (suc m) (b ∷ bytes) x e = elim (chosen (ltb b 128) _ _ (Some x) e) [
  | inl h ↦ subst (TakesRaw (suc m) (b ∷ bytes)) (some_is (b, 128, bytes) x h.1) (record { text = b ∷ []; raw = inl (ltb-true b 128 h.0, refl, refl, refl); len = omega arith; parts = refl })
  | inr h ↦ elim (chosen (ltb b 256) _ _ (Some x) h.1) [
    | inl k ↦
        let y = then_some (raw_at m bytes) (λ y. Some ((b - 128) + 128 * y.0, 128 * y.1, y.2)) x k.1 in
        let r = raw_sound m bytes y.0 y.1 in
        let lo = ltb-false b 128 h.0 in
        let hi = ltb-true b 256 k.0 in
        subst (TakesRaw (suc m) (b ∷ bytes)) (some_is ((b - 128) + 128 * y.0.0, 128 * y.0.1, y.0.2) x y.2) (record { text = b ∷ r.text; raw = inr (lo, hi, y.0.0, y.0.1, r.raw, omega arith, refl); len = omega (arith, r.len); parts = ap (λ (u : List ℕ). b ∷ u) r.parts })
    | inr k ↦ absurd cc
  ]
]

pub raw_again : (most : ℕ) (text : List ℕ) (n w : ℕ) (rest : List ℕ) → IsRaw text n w → length text ≤ most → raw_at most (text ++ rest) ≡ Some (n, w, rest)
raw_again most [] n w rest h l = absurd h
raw_again zero (b ∷ bs) n w rest h l = absurd (omega (arith, l))
raw_again (suc m) (b ∷ bs) n w rest (inl h) l = rw (h.1, lt-ltb b 128 h.0, h.2, h.3) refl
raw_again (suc m) (b ∷ bs) n w rest (inr h) l =
    let r = raw_again m bs h.2 h.3 rest h.4 (omega (arith, l)) in
    let value : (b - 128) + 128 * h.2 ≡ n = omega (arith, h.0, h.5) in
    rw (le-ltb b 128 h.0, lt-ltb b 256 h.1, r, value, h.6) refl

-- ---- unsigned

pub record TakesUnsigned (most limit : ℕ) (bytes : List ℕ) (x : ℕ × List ℕ) : Type 0 where
  pub text : List ℕ
  pub number : IsUnsigned most limit text x.0
  pub parts : bytes ≡ text ++ x.1

pub unsigned_sound : (most limit : ℕ) (bytes : List ℕ) (x : ℕ × List ℕ) → unsigned_at most limit bytes ≡ Some x → TakesUnsigned most limit bytes x
unsigned_sound most limit bytes x e =
    let y = then_some (raw_at most bytes) (unsigned_of limit) x e in
    let r = raw_sound most bytes y.0 y.1 in
    elim (chosen (ltb y.0.0 limit) _ _ (Some x) y.2) [
      | inl h ↦ subst (TakesUnsigned most limit bytes) (some_is (y.0.0, y.0.2) x h.1) (record { text = r.text; number = record { weight = y.0.1; raw = r.raw; len = r.len; small = ltb-true y.0.0 limit h.0 }; parts = r.parts })
      | inr h ↦ absurd cc
    ]

pub unsigned_again : (most limit : ℕ) (text : List ℕ) (n : ℕ) (rest : List ℕ) → IsUnsigned most limit text n → unsigned_at most limit (text ++ rest) ≡ Some (n, rest)
unsigned_again most limit text n rest h = rw (raw_again most text n h.weight rest h.raw h.len, lt-ltb n limit h.small) refl

unsigned_made : (m n : ℕ) → n < 128 ^ suc m → (w : ℕ) × IsRaw (unsigned_text (suc m) n) n w × (length (unsigned_text (suc m) n) ≤ suc m)
unsigned_made zero n h =
    let lt : n < 128 = omega (arith, h) in
    rw (lt-ltb n 128 lt) (128, inl (lt, refl, refl, refl), omega arith)
unsigned_made (suc m) n h = by (λ k. unsigned_made m (n / 128) k) (ltb n 128) refl
  where
    by : (n / 128 < 128 ^ suc m → (w : ℕ) × IsRaw (unsigned_text (suc m) (n / 128)) (n / 128) w × (length (unsigned_text (suc m) (n / 128)) ≤ suc m)) → (b : Bool) → ltb n 128 ≡ b → (w : ℕ) × IsRaw (cond b (n ∷ []) ((n % 128 + 128) ∷ unsigned_text (suc m) (n / 128))) n w × (length (cond b (n ∷ []) ((n % 128 + 128) ∷ unsigned_text (suc m) (n / 128))) ≤ suc (suc m))
    by f true e = (128, inl (ltb-true n 128 e, refl, refl, refl), omega arith)
    by f false e =
        let p = pow-suc 128 (suc m) in
        let small : n / 128 < 128 ^ suc m = omega (arith, h, p) in
        let r = f small in
        (128 * r.0, inr (omega arith, omega arith, n / 128, r.0, r.1, omega arith, refl), omega (arith, r.2))

pub unsigned_written : (m n limit : ℕ) → n < 128 ^ suc m → n < limit → IsUnsigned (suc m) limit (unsigned_text (suc m) n) n
unsigned_written m n limit h k = let r = unsigned_made m n h in record { weight = r.0; raw = r.1; len = r.2; small = k }

pub unsigned_more : (m n : ℕ) → 0 < m → 128 ≤ n → unsigned_text m n ≡ (n % 128 + 128) ∷ unsigned_text (m - 1) (n / 128)
unsigned_more zero n h k = absurd (omega (arith, h))
unsigned_more (suc m) n h k = let e : suc m - 1 ≡ m = omega arith in rw (le-ltb n 128 k, e) refl

pub pow_step : (m : ℕ) → 0 < m → 128 ^ m ≡ 128 * 128 ^ (m - 1)
pow_step zero h = absurd (omega (arith, h))
pow_step (suc m) h = let e : suc m - 1 ≡ m = omega arith in let p = pow-suc 128 m in rw e (omega (arith, p))

pub pow_top : (m : ℕ) → m ≤ 10 → 128 ^ m ≤ 2 ^ 70
pow_top m h = go m (10 - m) (omega (arith, h))
  where
    go : (m k : ℕ) → m + k ≡ 10 → 128 ^ m ≤ 2 ^ 70
    go m zero e = let q : m ≡ 10 = omega (arith, e) in rw q (omega arith)
    go m (suc k) e = let p = pow-suc 128 m in let r = go (suc m) k (omega (arith, e)) in omega (arith, p, r)

-- ---- signed

pub record TakesSigned (most half : ℕ) (bytes : List ℕ) (x : ℕ × List ℕ) : Type 0 where
  pub text : List ℕ
  pub number : IsSigned most half text x.0
  pub parts : bytes ≡ text ++ x.1

pub signed_sound : (most half : ℕ) (bytes : List ℕ) (x : ℕ × List ℕ) → signed_at most half bytes ≡ Some x → TakesSigned most half bytes x
signed_sound most half bytes x e =
    let y = then_some (raw_at most bytes) (signed_of half) x e in
    let r = raw_sound most bytes y.0 y.1 in
    elim (chosen (ltb (2 * y.0.0) y.0.1) _ _ (Some x) y.2) [
      | inl h ↦ elim (chosen (ltb y.0.0 half) _ _ (Some x) h.1) [
        | inl k ↦ subst (TakesSigned most half bytes) (some_is (y.0.0, y.0.2) x k.1) (record { text = r.text; number = record { number = y.0.0; weight = y.0.1; raw = r.raw; len = r.len; sign = inl (ltb-true (2 * y.0.0) y.0.1 h.0, refl, ltb-true y.0.0 half k.0) }; parts = r.parts })
        | inr k ↦ absurd cc
      ]
      | inr h ↦ elim (chosen (leb (y.0.1 + half) (y.0.0 + 2 * half)) _ _ (Some x) (split_and (leb (y.0.1 + half) (y.0.0 + 2 * half)) (ltb y.0.0 y.0.1) _ _ h.1)) [
        | inl k ↦ elim (chosen (ltb y.0.0 y.0.1) _ _ (Some x) k.1) [
          | inl l ↦
              let neg = ltb-false (2 * y.0.0) y.0.1 h.0 in
              let a = leb-true (y.0.1 + half) (y.0.0 + 2 * half) k.0 in
              let b = ltb-true y.0.0 y.0.1 l.0 in
              subst (TakesSigned most half bytes) (some_is ((y.0.0 + 2 * half) - y.0.1, y.0.2) x l.1) (record { text = r.text; number = record { number = y.0.0; weight = y.0.1; raw = r.raw; len = r.len; sign = inr (neg, b, omega (arith, a, b), omega (arith, a, b), omega (arith, a, b)) }; parts = r.parts })
          | inr l ↦ absurd cc
        ]
        | inr k ↦ absurd cc
      ]
    ]
  where
    split_and : {A : Type 0} (b c : Bool) (x y : A) {z : A} → cond (b && c) x y ≡ z → cond b (cond c x y) y ≡ z
    split_and true c x y e = e
    split_and false c x y e = e

pub signed_again : (most half : ℕ) (text : List ℕ) (n : ℕ) (rest : List ℕ) → IsSigned most half text n → signed_at most half (text ++ rest) ≡ Some (n, rest)
signed_again most half text n rest h = rw (raw_again most text h.number h.weight rest h.raw h.len) (by h.sign)
  where
    by : Extends half h.number h.weight n → signed_of half (h.number, h.weight, rest) ≡ Some (n, rest)
    by (inl k) = rw (lt-ltb (2 * h.number) h.weight k.0, lt-ltb h.number half (omega (arith, k.1, k.2)), k.1) refl
    by (inr k) =
        let e : (h.number + 2 * half) - h.weight ≡ n = omega (arith, k.4) in
        rw (le-ltb (2 * h.number) h.weight k.0, le-leb (h.weight + half) (h.number + 2 * half) (omega (arith, k.4, k.2)), lt-ltb h.number h.weight k.1, e) refl

-- ---- at the front

pub read_found : (most limit : ℕ) (bytes : List ℕ) (n : ℕ) (rest : List ℕ) → unsigned_at most limit bytes ≡ Some (n, rest) → IsUnsigned most limit (take (length bytes - length rest) bytes) n
read_found most limit bytes n rest e =
    let t = unsigned_sound most limit bytes (n, rest) e in
    let l : length t.text ≡ length bytes - length rest = omega (arith, ap length t.parts, length-append t.text rest) in
    let q : take (length bytes - length rest) bytes ≡ t.text = ap (take (length bytes - length rest)) t.parts ∙ take_at t.text rest (length bytes - length rest) l in
    subst (λ (u : List ℕ). IsUnsigned most limit u n) (sym q) t.number

pub unsigned_met : (most limit : ℕ) (bytes : List ℕ) (n : ℕ) (after : List ℕ) → unsigned_at most limit bytes ≡ Some (n, after)
    → (m : ℕ) (text rest : List ℕ) → IsUnsigned most limit text m → bytes ≡ text ++ rest → (n ≡ m) × (length bytes - length after ≡ length text)
unsigned_met most limit bytes n after e m text rest h q =
    let p = some_is (n, after) (m, rest) (sym e ∙ ap (unsigned_at most limit) q ∙ unsigned_again most limit text m rest h) in
    let tail : after ≡ rest = ap (λ (x : ℕ × List ℕ). x.1) p in
    (ap (λ (x : ℕ × List ℕ). x.0) p, omega (arith, ap length q, ap length tail, length-append text rest))

pub unsigned_missed : (most limit : ℕ) (bytes : List ℕ) → unsigned_at most limit bytes ≡ None
    → (m : ℕ) (text rest : List ℕ) → IsUnsigned most limit text m → bytes ≡ text ++ rest → ⊥
unsigned_missed most limit bytes e m text rest h q = no_some (m, rest) (sym e ∙ ap (unsigned_at most limit) q ∙ unsigned_again most limit text m rest h)

pub signed_found : (most half : ℕ) (bytes : List ℕ) (n : ℕ) (rest : List ℕ) → signed_at most half bytes ≡ Some (n, rest) → IsSigned most half (take (length bytes - length rest) bytes) n
signed_found most half bytes n rest e =
    let t = signed_sound most half bytes (n, rest) e in
    let l : length t.text ≡ length bytes - length rest = omega (arith, ap length t.parts, length-append t.text rest) in
    let q : take (length bytes - length rest) bytes ≡ t.text = ap (take (length bytes - length rest)) t.parts ∙ take_at t.text rest (length bytes - length rest) l in
    subst (λ (u : List ℕ). IsSigned most half u n) (sym q) t.number

pub signed_met : (most half : ℕ) (bytes : List ℕ) (n : ℕ) (after : List ℕ) → signed_at most half bytes ≡ Some (n, after)
    → (m : ℕ) (text rest : List ℕ) → IsSigned most half text m → bytes ≡ text ++ rest → (n ≡ m) × (length bytes - length after ≡ length text)
signed_met most half bytes n after e m text rest h q =
    let p = some_is (n, after) (m, rest) (sym e ∙ ap (signed_at most half) q ∙ signed_again most half text m rest h) in
    let tail : after ≡ rest = ap (λ (x : ℕ × List ℕ). x.1) p in
    (ap (λ (x : ℕ × List ℕ). x.0) p, omega (arith, ap length q, ap length tail, length-append text rest))

pub signed_missed : (most half : ℕ) (bytes : List ℕ) → signed_at most half bytes ≡ None
    → (m : ℕ) (text rest : List ℕ) → IsSigned most half text m → bytes ≡ text ++ rest → ⊥
signed_missed most half bytes e m text rest h q = no_some (m, rest) (sym e ∙ ap (signed_at most half) q ∙ signed_again most half text m rest h)

pub pow_low : (m : ℕ) → 0 < m → 128 ≤ 128 ^ m
pow_low zero h = absurd (omega (arith, h))
pow_low (suc zero) h = omega arith
pow_low (suc (suc m)) h = let r = pow_low (suc m) (omega arith) in let p = pow-suc 128 (suc m) in omega (arith, r, p)

-- ---- signed text

record Made (most half : ℕ) (text : List ℕ) (n : ℕ) : Type 0 where
  number : ℕ
  weight : ℕ
  raw : IsRaw text number weight
  len : length text ≤ most
  sign : Extends half number weight n
  even : ℕ
  twice : weight ≡ 2 * even

made_last : (q n m : ℕ) → 0 < q → n < 128 * q → (n < 64) ⊎ (128 * q ≤ n + 64) → Made (suc m) (64 * q) (n % 128 ∷ []) n
made_last q n m h k (inl l) =
    let e : n % 128 ≡ n = omega (arith, l) in
    rw e (record { number = n; weight = 128; raw = inl (omega (arith, l), refl, refl, refl); len = omega arith; sign = inl (omega (arith, l), refl, omega (arith, l, h)); even = 64; twice = refl })
made_last q n m h k (inr l) =
    record { number = n % 128; weight = 128; raw = inl (omega arith, refl, refl, refl); len = omega arith; sign = inr (omega (arith, l, k), omega arith, omega (arith, l, h), omega (arith, k), omega (arith, l, k)); even = 64; twice = refl }

next_of : ℕ → ℕ → ℕ
next_of half n = cond (ltb n half) (n / 128) (n / 128 + (2 * half - 2 * half / 128))

made_more : (q n m next : ℕ) (text : List ℕ) → 0 < q → n < 128 * q → ((n < 64 * q) × (next ≡ n / 128)) ⊎ ((64 * q ≤ n) × (next ≡ n / 128 + 127 * q)) → Made m (64 * q) text next → Made (suc m) (64 * q) ((n % 128 + 128) ∷ text) n
made_more q n m next text h k which r = record {
  number = n % 128 + 128 * r.number;
  weight = 128 * r.weight;
  raw = inr (omega arith, omega arith, r.number, r.weight, r.raw, omega arith, refl);
  len = omega (arith, r.len);
  sign = signs which r.sign;
  even = 64 * r.weight;
  twice = omega arith;
}
  where
    signs : ((n < 64 * q) × (next ≡ n / 128)) ⊎ ((64 * q ≤ n) × (next ≡ n / 128 + 127 * q)) → Extends (64 * q) r.number r.weight next → Extends (64 * q) (n % 128 + 128 * r.number) (128 * r.weight) n
    signs (inl a) (inl b) = inl (omega (arith, r.twice, b.0, a.1), omega (arith, a.1, b.1), a.0)
    signs (inl a) (inr b) = absurd (omega (arith, a.0, a.1, b.2))
    signs (inr a) (inl b) = absurd (omega (arith, a.0, a.1, b.2, b.1, h))
    signs (inr a) (inr b) = inr (omega (arith, b.0), omega (arith, b.1), a.0, omega (arith, k), omega (arith, b.4, a.1))

either_ : (a b : Bool) → (a || b) ≡ true → (a ≡ true) ⊎ (b ≡ true)
either_ true b e = inl refl
either_ false b e = inr e

neither : (a b : Bool) → (a || b) ≡ false → (a ≡ false) × (b ≡ false)
neither true b e = absurd cc
neither false b e = (refl, e)

abbrev text_by : Bool → ℕ → ℕ → List ℕ → List ℕ
text_by b half n more = cond b (n % 128 ∷ []) ((n % 128 + 128) ∷ more)

abbrev fits_in : ℕ → ℕ → ℕ → Type 0
fits_in q n p = (n < 64 * p) ⊎ (128 * q ≤ n + 64 * p)

signed_made : (m q n : ℕ) → 0 < q → n < 128 * q → fits_in q n (128 ^ m) → Made (suc m) (64 * q) (signed_text (suc m) (64 * q) n) n
signed_made zero q n h k f = by (ltb n 64 || leb (2 * (64 * q)) (n + 64)) refl f
  where
    by : (b : Bool) → (ltb n 64 || leb (2 * (64 * q)) (n + 64)) ≡ b → fits_in q n 1 → Made 1 (64 * q) (cond b (n % 128 ∷ []) ((n % 128 + 128) ∷ [])) n
    by true e (inl l) = made_last q n 0 h k (inl (omega (arith, l)))
    by true e (inr l) = made_last q n 0 h k (inr (omega (arith, l)))
    by false e g = let p = neither (ltb n 64) (leb (2 * (64 * q)) (n + 64)) e in
        let a = ltb-false n 64 p.0 in let b = leb-false (2 * (64 * q)) (n + 64) p.1 in
        elim g [ inl l ↦ absurd (omega (arith, l, a)) | inr l ↦ absurd (omega (arith, l, b)) ]
signed_made (suc m) q n h k f = by (λ next lt fit. signed_made m q next h lt fit) (ltb n 64 || leb (2 * (64 * q)) (n + 64)) refl
  where
    by : ((next : ℕ) → next < 128 * q → fits_in q next (128 ^ m) → Made (suc m) (64 * q) (signed_text (suc m) (64 * q) next) next) → (b : Bool) → (ltb n 64 || leb (2 * (64 * q)) (n + 64)) ≡ b
        → Made (suc (suc m)) (64 * q) (cond b (n % 128 ∷ []) ((n % 128 + 128) ∷ signed_text (suc m) (64 * q) (cond (ltb n (64 * q)) (n / 128) (n / 128 + (2 * (64 * q) - 2 * (64 * q) / 128))))) n
    by go true e = elim (either_ (ltb n 64) (leb (2 * (64 * q)) (n + 64)) e) [
      | inl l ↦ made_last q n (suc m) h k (inl (ltb-true n 64 l))
      | inr l ↦ let a = leb-true (2 * (64 * q)) (n + 64) l in made_last q n (suc m) h k (inr (omega (arith, a)))
    ]
    by go false e = half (ltb n (64 * q)) refl
      where
        half : (b : Bool) → ltb n (64 * q) ≡ b → Made (suc (suc m)) (64 * q) ((n % 128 + 128) ∷ signed_text (suc m) (64 * q) (cond b (n / 128) (n / 128 + (2 * (64 * q) - 2 * (64 * q) / 128)))) n
        half true d =
            let a = ltb-true n (64 * q) d in
            let p = pow-suc 128 m in
            made_more q n (suc m) (n / 128) _ h k (inl (a, refl)) (go (n / 128) (omega (arith, k, h)) (elim f [ inl l ↦ inl (omega (arith, l, p)) | inr l ↦ inl (omega (arith, l, p, a)) ]))
        half false d =
            let a = ltb-false n (64 * q) d in
            let p = pow-suc 128 m in
            let next : n / 128 + (2 * (64 * q) - 2 * (64 * q) / 128) ≡ n / 128 + 127 * q = omega arith in
            rw next (made_more q n (suc m) (n / 128 + 127 * q) _ h k (inr (a, refl)) (go (n / 128 + 127 * q) (omega (arith, k, h)) (elim f [ inl l ↦ inr (omega (arith, l, p, a)) | inr l ↦ inr (omega (arith, l, p, a)) ])))

signed_written_5 : (n : ℕ) → n < 2 ^ 32 → IsSigned 5 (2 ^ 31) (signed_text 5 (2 ^ 31) n) n
signed_written_5 n h =
    let r = signed_made 4 (2 ^ 25) n (omega arith) (omega (arith, h)) (elim (cases_lt n (2 ^ 34)) [ inl l ↦ inl (omega (arith, l)) | inr l ↦ inr (omega (arith, l, h)) ]) in
    record { number = r.number; weight = r.weight; raw = r.raw; len = r.len; sign = r.sign }

signed_written_10 : (n : ℕ) → n < 2 ^ 64 → IsSigned 10 (2 ^ 63) (signed_text 10 (2 ^ 63) n) n
signed_written_10 n h =
    let r = signed_made 9 (2 ^ 57) n (omega arith) (omega (arith, h)) (inl (omega (arith, h))) in
    record { number = r.number; weight = r.weight; raw = r.raw; len = r.len; sign = r.sign }

pub signed_more : (m half n : ℕ) → 0 < m → 64 ≤ n → n + 64 < 2 * half → signed_text m half n ≡ (n % 128 + 128) ∷ signed_text (m - 1) half (cond (ltb n half) (n / 128) (n / 128 + (2 * half - 2 * half / 128)))
signed_more zero half n h k l = absurd (omega (arith, h))
signed_more (suc m) half n h k l = let e : suc m - 1 ≡ m = omega arith in rw (le-ltb n 64 k, lt-leb (2 * half) (n + 64) l, e) refl

-- ---- no form is shorter

pub unsigned_least : (m : ℕ) (other : List ℕ) (n w : ℕ) → IsRaw other n w → length (unsigned_text m n) ≤ length other
unsigned_least m [] n w h = absurd h
unsigned_least zero (b ∷ bs) n w h = omega arith
unsigned_least (suc m) (b ∷ bs) n w h = by (λ v x k. unsigned_least m bs v x k) (ltb n 128) refl h
  where
    by : ((v x : ℕ) → IsRaw bs v x → length (unsigned_text m v) ≤ length bs) → (t : Bool) → ltb n 128 ≡ t → IsRaw (b ∷ bs) n w → length (cond t (n ∷ []) ((n % 128 + 128) ∷ unsigned_text m (n / 128))) ≤ length (b ∷ bs)
    by f true e k = omega arith
    by f false e (inl k) = let a = ltb-false n 128 e in absurd (omega (arith, a, k.0, k.2))
    by f false e (inr k) = let q : n / 128 ≡ k.2 = omega (arith, k.0, k.1, k.5) in let r = f k.2 k.3 k.4 in rw q (omega (arith, r))

even_weight : (text : List ℕ) (n w : ℕ) → IsRaw text n w → (e : ℕ) × (w ≡ 2 * e)
even_weight [] n w h = absurd h
even_weight (b ∷ bs) n w (inl h) = (64, h.3)
even_weight (b ∷ bs) n w (inr h) = (64 * h.3, omega (arith, h.6))

-- the sign is that of the rest
extends_more : (q b n raw high w weight : ℕ) → 0 < q → 128 ≤ b → b < 256 → raw + 128 ≡ b + 128 * high → weight ≡ 128 * w → ((e : ℕ) × (w ≡ 2 * e)) → Extends (64 * q) raw weight n
    → Extends (64 * q) high w (cond (ltb n (64 * q)) (n / 128) (n / 128 + (2 * (64 * q) - 2 * (64 * q) / 128)))
extends_more q b n raw high w weight h lo hi e f even (inl k) =
    rw (lt-ltb n (64 * q) k.2) (inl (omega (arith, e, f, k.0, lo, hi), omega (arith, e, k.1, lo, hi), omega (arith, k.2)))
extends_more q b n raw high w weight h lo hi e f even (inr k) =
    let step : 2 * (64 * q) - 2 * (64 * q) / 128 ≡ 127 * q = omega arith in
    let value : n / 128 + 127 * q + w ≡ high + 2 * (64 * q) = omega (arith, e, f, k.4, lo, hi) in
    let room : high < w = omega (arith, e, f, k.1, lo, hi) in
    let high_bit : w ≤ 2 * high = omega (arith, e, f, k.0, even.1, lo, hi) in
    rw (le-ltb n (64 * q) k.2, step) (inr (high_bit, room, omega (arith, value, high_bit, room, even.1), omega (arith, value, room), value))

pub signed_least : (m q : ℕ) (other : List ℕ) (n raw w : ℕ) → 0 < q → IsRaw other raw w → Extends (64 * q) raw w n → length (signed_text m (64 * q) n) ≤ length other
signed_least m q [] n raw w h r x = absurd r
signed_least zero q (b ∷ bs) n raw w h r x = omega arith
signed_least (suc m) q (b ∷ bs) n raw w h r x = by (λ v y u k l. signed_least m q bs v y u h k l) (ltb n 64 || leb (2 * (64 * q)) (n + 64)) refl r x
  where
    by : ((v y u : ℕ) → IsRaw bs y u → Extends (64 * q) y u v → length (signed_text m (64 * q) v) ≤ length bs) → (t : Bool) → (ltb n 64 || leb (2 * (64 * q)) (n + 64)) ≡ t → IsRaw (b ∷ bs) raw w → Extends (64 * q) raw w n
        → length (text_by t (64 * q) n (signed_text m (64 * q) (cond (ltb n (64 * q)) (n / 128) (n / 128 + (2 * (64 * q) - 2 * (64 * q) / 128))))) ≤ length (b ∷ bs)
    by f true e k l = omega arith
    by f false e (inl k) l =
        let p = neither (ltb n 64) (leb (2 * (64 * q)) (n + 64)) e in
        let a = ltb-false n 64 p.0 in
        let c = leb-false (2 * (64 * q)) (n + 64) p.1 in
        elim l [ inl l ↦ absurd (omega (arith, a, k.2, k.3, l.0, l.1)) | inr l ↦ absurd (omega (arith, c, k.2, k.3, l.0, l.4)) ]
    by f false e (inr k) l =
        let r = f (cond (ltb n (64 * q)) (n / 128) (n / 128 + (2 * (64 * q) - 2 * (64 * q) / 128))) k.2 k.3 k.4 (extends_more q b n raw k.2 k.3 w h k.0 k.1 k.5 k.6 (even_weight bs k.2 k.3 k.4) l) in
        omega (arith, r)

-- ---- bit patterns of signed numbers

pub signed_small : (most half : ℕ) (text : List ℕ) (n : ℕ) → IsSigned most half text n → n < 2 * half
signed_small most half text n h = elim h.sign [ inl k ↦ omega (arith, k.2) | inr k ↦ omega (arith, k.3) ]

pub bits_back : (w : Width) (z : ℤ) (n : ℕ) → n < 2 ^ bits w → z ≡ cast_signed w n → cast_unsigned w (cast_signed w (cast_unsigned w z)) ≡ n
bits_back w z n h e =
    let a : cast_unsigned w z ≡ n = ap (cast_unsigned w) e ∙ of_z-to_z w n h in
    ap (λ (x : ℕ). cast_unsigned w (cast_signed w x)) a ∙ of_z-to_z w n h

-- ---- the widths of the format

pub u32_is : (bytes : List ℕ) → u32_at bytes ≡ unsigned_at 5 (2 ^ 32) bytes
unfolding u32_at
u32_is bytes = refl

pub s32_is : (bytes : List ℕ) → s32_at bytes ≡ signed_at 5 (2 ^ 31) bytes
unfolding s32_at
s32_is bytes = refl

pub s64_is : (bytes : List ℕ) → s64_at bytes ≡ signed_at 10 (2 ^ 63) bytes
unfolding s64_at
s64_is bytes = refl

pub u32_written : (n : ℕ) → n < 2 ^ 32 → IsU32 (u32_text n) n
unfolding u32_text
u32_written n h = unsigned_written 4 n (2 ^ 32) (omega (arith, h)) h

pub s32_written : (n : ℕ) → n < 2 ^ 32 → IsS32 (s32_text n) n
unfolding s32_text
s32_written n h = signed_written_5 n h

pub s64_written : (n : ℕ) → n < 2 ^ 64 → IsS64 (s64_text n) n
unfolding s64_text
s64_written n h = signed_written_10 n h

pub u32_least : (n : ℕ) (other : List ℕ) → IsU32 other n → length (u32_text n) ≤ length other
unfolding u32_text
u32_least n other h = unsigned_least 5 other n h.weight h.raw

pub s32_least : (n : ℕ) (other : List ℕ) → IsS32 other n → length (s32_text n) ≤ length other
unfolding s32_text
s32_least n other h = signed_least 5 (2 ^ 25) other n h.number h.weight (omega arith) h.raw h.sign

pub s64_least : (n : ℕ) (other : List ℕ) → IsS64 other n → length (s64_text n) ≤ length other
unfolding s64_text
s64_least n other h = signed_least 10 (2 ^ 57) other n h.number h.weight (omega arith) h.raw h.sign

-- ---- one value for given bytes

pub unsigned_is_one : (most limit n m : ℕ) (a b x y : List ℕ) → IsUnsigned most limit a n → IsUnsigned most limit b m → a ++ x ≡ b ++ y → (n ≡ m) × (x ≡ y)
unsigned_is_one most limit n m a b x y h g e =
    let p = some_is (n, x) (m, y) (sym (unsigned_again most limit a n x h) ∙ ap (unsigned_at most limit) e ∙ unsigned_again most limit b m y g) in
    (ap (λ (u : ℕ × List ℕ). u.0) p, ap (λ (u : ℕ × List ℕ). u.1) p)

pub signed_is_one : (most half n m : ℕ) (a b x y : List ℕ) → IsSigned most half a n → IsSigned most half b m → a ++ x ≡ b ++ y → (n ≡ m) × (x ≡ y)
signed_is_one most half n m a b x y h g e =
    let p = some_is (n, x) (m, y) (sym (signed_again most half a n x h) ∙ ap (signed_at most half) e ∙ signed_again most half b m y g) in
    (ap (λ (u : ℕ × List ℕ). u.0) p, ap (λ (u : ℕ × List ℕ). u.1) p)
