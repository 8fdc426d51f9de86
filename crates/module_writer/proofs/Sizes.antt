-- How many bytes unsigned integers take.
use Rattle.std.proofs.Common.{◌≡◌, ℕ, zero, suc, ◌+◌, ◌*◌, ◌/◌, ◌%◌, ◌<◌, ◌≤◌, Bool, true, false, cond, ltb, List, [], ◌∷◌, length, inl, inr, refl, arith}
use Rattle.std.proofs.lemmas.Bool.{lt-ltb, le-ltb, ltb-false, cases_lt}
use Rattle.wasm_types.specs.Leb128.{IsRaw, IsU32}
use Rattle.wasm_types.specs.Leb128Texts.{unsigned_text, u32_text}

unsigned_below : (k : ℕ) (other : List ℕ) (m n w : ℕ) → m ≤ n → IsRaw other n w → length (unsigned_text k m) ≤ length other
unsigned_below k [] m n w le h = absurd h
unsigned_below zero (b ∷ bs) m n w le h = omega arith
unsigned_below (suc k) (b ∷ bs) m n w le h = by (λ u v x l i. unsigned_below k bs u v x l i) (ltb m 128) refl h
  where
    by : ((u v x : ℕ) → u ≤ v → IsRaw bs v x → length (unsigned_text k u) ≤ length bs) → (t : Bool) → ltb m 128 ≡ t → IsRaw (b ∷ bs) n w → length (cond t (m ∷ []) ((m % 128 + 128) ∷ unsigned_text k (m / 128))) ≤ length (b ∷ bs)
    by f true e i = omega arith
    by f false e (inl i) = let a = ltb-false m 128 e in absurd (omega (arith, a, le, i.0, i.2))
    by f false e (inr i) = let r = f (m / 128) i.2 i.3 (omega (arith, le, i.0, i.1, i.5)) i.4 in omega (arith, r)

-- a smaller number takes no more
pub size_below : (m n : ℕ) (other : List ℕ) → IsU32 other n → m ≤ n → length (u32_text m) ≤ length other
unfolding u32_text
size_below m n other h le = unsigned_below 5 other m n h.weight le h.raw

one_byte : (k n : ℕ) → n < 128 → length (unsigned_text (suc k) n) ≡ 1
one_byte k n h = rw (lt-ltb n 128 h) refl

more_bytes : (k n : ℕ) → 128 ≤ n → length (unsigned_text (suc k) n) ≡ suc (length (unsigned_text k (n / 128)))
more_bytes k n h = rw (le-ltb n 128 h) refl

some_bytes : (k n : ℕ) → 1 ≤ length (unsigned_text (suc k) n)
some_bytes k n = elim (cases_lt n 128) [ inl h ↦ (let e = one_byte k n h in omega (arith, e)) | inr h ↦ (let e = more_bytes k n h in omega (arith, e)) ]

two_bytes : (k n : ℕ) → n < 128 * 128 → length (unsigned_text (suc (suc k)) n) ≤ 2
two_bytes k n h = elim (cases_lt n 128) [ inl l ↦ (let e = one_byte (suc k) n l in omega (arith, e)) | inr l ↦ (let e = more_bytes (suc k) n l in let f = one_byte k (n / 128) (omega (arith, h)) in omega (arith, e, f)) ]

three_bytes : (k n : ℕ) → n < 128 * (128 * 128) → length (unsigned_text (suc (suc (suc k))) n) ≤ 3
three_bytes k n h = elim (cases_lt n 128) [ inl l ↦ (let e = one_byte (suc (suc k)) n l in omega (arith, e)) | inr l ↦ (let e = more_bytes (suc (suc k)) n l in let f = two_bytes k (n / 128) (omega (arith, h)) in omega (arith, e, f)) ]

at_least_two : (k n : ℕ) → 128 ≤ n → 2 ≤ length (unsigned_text (suc (suc k)) n)
at_least_two k n h = let e = more_bytes (suc k) n h in let f = some_bytes k (n / 128) in omega (arith, e, f)

-- a sum takes no more than its parts
pub size_sum : (n m : ℕ) → n + m < 128 * (128 * 128) → length (u32_text (n + m)) ≤ length (u32_text n) + length (u32_text m)
unfolding u32_text
size_sum n m h = elim (cases_lt (n + m) 128) [
  | inl a ↦ (let e = one_byte 4 (n + m) a in let p = some_bytes 4 n in omega (arith, e, p))
  | inr a ↦ elim (cases_lt (n + m) (128 * 128)) [
    | inl b ↦ (let e = two_bytes 3 (n + m) b in let p = some_bytes 4 n in let q = some_bytes 4 m in omega (arith, e, p, q))
    | inr b ↦ (let e = three_bytes 2 (n + m) h in let p = some_bytes 4 n in let q = some_bytes 4 m in elim (cases_lt n 128) [
      | inl l ↦ (let r = at_least_two 3 m (omega (arith, b, l)) in omega (arith, e, p, r))
      | inr l ↦ (let r = at_least_two 3 n l in omega (arith, e, q, r))
    ])
  ]
]

-- a number takes a byte at least
pub some_index : (n : ℕ) → 1 ≤ length (u32_text n)
unfolding u32_text
some_index n = some_bytes 4 n
