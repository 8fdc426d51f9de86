-- Runs as long as can be are the fewest, and take the fewest bytes.
use Rattle.std.proofs.Common.{◌≡◌, ℕ, zero, suc, ◌+◌, ◌*◌, ◌^◌, ◌<◌, ◌≤◌, Bool, true, false, cond, leb, List, [], ◌∷◌, ◌++◌, length, replicate, None, refl, sym, ap, subst, ◌∙◌, arith, length-append}
use Rattle.std.proofs.lemmas.Bool.{leb-true, leb-false}
use Rattle.std.proofs.lemmas.List.{length-replicate}
use Rattle.wasm_types.specs.declared.types.ValType.{ValType}
use Rattle.wasm_types.specs.declared.types.ValType.TheVariants.{I32, I64}
use Rattle.wasm_types.specs.Leb128Texts.{u32_text}
use Rattle.wasm_types.specs.Instructions.{Both, Each, IsVec, IsIndex, val_code, IsValType}
use Rattle.wasm_types.specs.ModuleGrammar.{expanded, IsLocals}
use Rattle.wasm_types.proofs.Groups.{u32_written, u32_least}
use Rattle.module_writer.specs.Writers.{index_to, both_to, vec_to}
use Rattle.module_writer.specs.Writing.{val_type_to, is_same, runs_from, runs_of, locals_to}
use Rattle.module_writer.proofs.Sizes.{size_below, size_sum}
use Rattle.module_writer.proofs.Meets.{Meets, through, then_meets, index_meets, byte_meets, vec_meets}

abbrev Run : Type 0
Run = ℕ × ValType

same_is : (t u : ValType) → is_same t u ≡ true → t ≡ u
same_is I32 I32 e = refl
same_is I64 I64 e = refl
same_is I32 I64 e = absurd cc
same_is I64 I32 e = absurd cc

same_self : (t : ValType) → is_same t t ≡ true
same_self I32 = refl
same_self I64 = refl

-- ---- what the runs are of

replicate_more : (n : ℕ) (t : ValType) (us : List ValType) → replicate (n + 1) t ++ us ≡ replicate n t ++ t ∷ us
replicate_more zero t us = refl
replicate_more (suc n) t us = let e : suc n + 1 ≡ suc (n + 1) = omega arith in rw e (ap (λ (xs : List ValType). t ∷ xs) (replicate_more n t us))

expanded_from : (n : ℕ) (t : ValType) (ts : List ValType) → expanded (runs_from n t ts) ≡ replicate n t ++ ts
expanded_from n t [] = refl
expanded_from n t (u ∷ us) = by (is_same t u) refl (expanded_from (n + 1) t us) (expanded_from 1 u us)
  where
    by : (b : Bool) → is_same t u ≡ b → expanded (runs_from (n + 1) t us) ≡ replicate (n + 1) t ++ us → expanded (runs_from 1 u us) ≡ u ∷ us
        → expanded (cond b (runs_from (n + 1) t us) ((n, t) ∷ runs_from 1 u us)) ≡ replicate n t ++ u ∷ us
    by true e more next = more ∙ replicate_more n t us ∙ ap (λ (x : ValType). replicate n t ++ x ∷ us) (same_is t u e)
    by false e more next = ap (λ (xs : List ValType). replicate n t ++ xs) next

expanded_of : (ts : List ValType) → expanded (runs_of ts) ≡ ts
expanded_of [] = refl
expanded_of (t ∷ ts) = expanded_from 1 t ts

-- ---- what runs weigh, where a run of two weighs no more than the two

abbrev total : (ℕ → ℕ) → List Run → ℕ
total w [] = 0
total w (r ∷ rs) = w r.0 + total w rs

abbrev most : ℕ
most = 128 * (128 * 128)

abbrev IsSub : (ℕ → ℕ) → Type 0
IsSub w = (n m : ℕ) → n + m < most → w (n + m) ≤ w n + w m

-- a run put to one of its type
joined_weighs : (w : ℕ → ℕ) → IsSub w → (n m : ℕ) (t : ValType) (us : List ValType) → n + m + length us < most → total w (runs_from (n + m) t us) ≤ w n + total w (runs_from m t us)
joined_weighs w s n m t [] h = let k = s n m (omega (arith, h)) in omega (arith, k)
joined_weighs w s n m t (u ∷ us) h = by (is_same t u) (joined_weighs w s n (m + 1) t us (omega (arith, h))) (s n m (omega (arith, h)))
  where
    by : (b : Bool) → total w (runs_from (n + (m + 1)) t us) ≤ w n + total w (runs_from (m + 1) t us) → w (n + m) ≤ w n + w m
        → total w (cond b (runs_from (n + m + 1) t us) ((n + m, t) ∷ runs_from 1 u us)) ≤ w n + total w (cond b (runs_from (m + 1) t us) ((m, t) ∷ runs_from 1 u us))
    by true more one = let e : n + m + 1 ≡ n + (m + 1) = omega arith in rw e more
    by false more one = omega (arith, one)

-- a run put before others
before_weighs : (w : ℕ → ℕ) → IsSub w → (n : ℕ) (t : ValType) (ts : List ValType) → n + length ts < most → total w (runs_from n t ts) ≤ w n + total w (runs_of ts)
before_weighs w s n t [] h = omega arith
before_weighs w s n t (u ∷ us) h = by (is_same t u) refl (joined_weighs w s n 1 t us (omega (arith, h)))
  where
    by : (b : Bool) → is_same t u ≡ b → total w (runs_from (n + 1) t us) ≤ w n + total w (runs_from 1 t us)
        → total w (cond b (runs_from (n + 1) t us) ((n, t) ∷ runs_from 1 u us)) ≤ w n + total w (runs_from 1 u us)
    by true e more = subst (λ (x : ValType). total w (runs_from (n + 1) t us) ≤ w n + total w (runs_from 1 x us)) (same_is t u e) more
    by false e more = omega arith

run_joined : (n m : ℕ) (t : ValType) (ts : List ValType) → runs_from n t (replicate m t ++ ts) ≡ runs_from (n + m) t ts
run_joined n zero t ts = ap (λ (k : ℕ). runs_from k t ts) (omega arith)
run_joined n (suc m) t ts = let r = run_joined (n + 1) m t ts in let e : n + 1 + m ≡ n + suc m = omega arith in rw (same_self t) (r ∙ ap (λ (k : ℕ). runs_from k t ts) e)

one_weighs : (w : ℕ → ℕ) → IsSub w → (n : ℕ) (t : ValType) (ts : List ValType) → n + length ts < most → total w (runs_of (replicate n t ++ ts)) ≤ w n + total w (runs_of ts)
one_weighs w s zero t ts h = omega arith
one_weighs w s (suc n) t ts h =
    let e : 1 + n ≡ suc n = omega arith in
    let r : runs_from 1 t (replicate n t ++ ts) ≡ runs_from (suc n) t ts = run_joined 1 n t ts ∙ ap (λ (k : ℕ). runs_from k t ts) e in
    rw r (before_weighs w s (suc n) t ts h)

least_weight : (w : ℕ → ℕ) → IsSub w → (rs : List Run) → length (expanded rs) < most → total w (runs_of (expanded rs)) ≤ total w rs
least_weight w s [] h = omega arith
least_weight w s (r ∷ rs) h =
    let l = length-append (replicate r.0 r.1) (expanded rs) in
    let n : length (replicate r.0 r.1) ≡ r.0 = length-replicate r.0 r.1 in
    let first = one_weighs w s r.0 r.1 (expanded rs) (omega (arith, h, l, n)) in
    let rest = least_weight w s rs (omega (arith, h, l, n)) in
    omega (arith, first, rest)

-- ---- their bytes

abbrev size : ℕ → ℕ
size n = length (u32_text n) + 1

size_is : IsSub size
size_is n m h = let s = size_sum n m h in omega (arith, s)

abbrev one : ℕ → ℕ
one n = 1

one_is : IsSub one
one_is n m h = omega arith

count_is : (rs : List Run) → total one rs ≡ length rs
count_is [] = refl
count_is (r ∷ rs) = let e = count_is rs in omega (arith, e)

abbrev IsRun : Run → List ℕ → Type 0
IsRun r text = Both IsIndex IsValType r text

abbrev runs_text : List Run → List ℕ
runs_text [] = []
runs_text (r ∷ rs) = (u32_text r.0 ++ val_code r.1 ∷ []) ++ runs_text rs

text_size : (rs : List Run) → length (runs_text rs) ≡ total size rs
text_size [] = refl
text_size (r ∷ rs) =
    let e = text_size rs in
    let a = length-append (u32_text r.0 ++ val_code r.1 ∷ []) (runs_text rs) in
    let b = length-append (u32_text r.0) (val_code r.1 ∷ []) in
    omega (arith, e, a, b)

least_size : (rs : List Run) (text : List ℕ) → Each IsRun rs text → total size rs ≤ length text
least_size [] text h = omega arith
least_size (r ∷ rs) text h =
    let n = ap length h.4 in
    let a = length-append h.0 h.1 in
    let m = ap length h.2.4 in
    let b = length-append h.2.0 h.2.1 in
    let c = ap length h.2.3 in
    let first = u32_least r.0 h.2.0 h.2.2 in
    let rest = least_size rs h.1 h.3 in
    omega (arith, n, a, m, b, c, first, rest)

spelled_from : (n : ℕ) (t : ValType) (ts : List ValType) → n + length ts < 2 ^ 32 → 0 < n → Each IsRun (runs_from n t ts) (runs_text (runs_from n t ts))
spelled_from n t [] h k = (u32_text n ++ val_code t ∷ [], [], (u32_text n, val_code t ∷ [], u32_written n (omega (arith, h)), refl, refl), refl, refl)
spelled_from n t (u ∷ us) h k = by (is_same t u) (spelled_from (n + 1) t us (omega (arith, h)) (omega arith)) (spelled_from 1 u us (omega (arith, h)) (omega arith))
  where
    by : (b : Bool) → Each IsRun (runs_from (n + 1) t us) (runs_text (runs_from (n + 1) t us)) → Each IsRun (runs_from 1 u us) (runs_text (runs_from 1 u us))
        → Each IsRun (cond b (runs_from (n + 1) t us) ((n, t) ∷ runs_from 1 u us)) (runs_text (cond b (runs_from (n + 1) t us) ((n, t) ∷ runs_from 1 u us)))
    by true more next = more
    by false more next = (u32_text n ++ val_code t ∷ [], runs_text (runs_from 1 u us), (u32_text n, val_code t ∷ [], u32_written n (omega (arith, h)), refl, refl), next, refl)

spelled_of : (ts : List ValType) → length ts < 2 ^ 30 → Each IsRun (runs_of ts) (runs_text (runs_of ts))
spelled_of [] h = refl
spelled_of (t ∷ ts) h = spelled_from 1 t ts (omega (arith, h)) (omega arith)

-- ---- locals

pub val_type_meets : (t : ValType) (old : List ℕ) → Meets (IsValType t) old (val_type_to t old)
val_type_meets t old = byte_meets (val_code t) old

run_meets : (r : Run) (old : List ℕ) → Meets (IsRun r) old (both_to index_to val_type_to r old)
run_meets r old = then_meets (IsIndex r.0) (IsValType r.1) old (index_to r.0 old) (val_type_to r.1) (index_meets r.0 old) (val_type_meets r.1)

shorter_runs : (ts : List ValType) (t : List ℕ) → IsLocals ts t → (s : List ℕ) × IsVec IsRun (runs_of ts) s × (length s ≤ length t)
shorter_runs ts t k =
    let rs = k.0 in
    let v = k.1 in
    let few : length ts ≤ 50000 = k.3 in
    let same : length (expanded rs) ≡ length ts = sym (ap length k.2) in
    let within : length (expanded rs) < most = omega (arith, few, same) in
    let lighter : total size (runs_of ts) ≤ total size rs = subst (λ (xs : List ValType). total size (runs_of xs) ≤ total size rs) (sym k.2) (least_weight size size_is rs within) in
    let fewer : total one (runs_of ts) ≤ total one rs = subst (λ (xs : List ValType). total one (runs_of xs) ≤ total one rs) (sym k.2) (least_weight one one_is rs within) in
    let count = count_is (runs_of ts) in
    let counts = count_is rs in
    let le : length (runs_of ts) ≤ length rs = omega (arith, fewer, count, counts) in
    let small = v.2.small in
    let fits : length (runs_of ts) < 2 ^ 32 = omega (arith, le, small) in
    let head = size_below (length (runs_of ts)) (length rs) v.0 v.2 le in
    let body = least_size rs v.1 v.3 in
    let is = text_size (runs_of ts) in
    let whole = ap length v.4 in
    let parts = length-append v.0 v.1 in
    let both = length-append (u32_text (length (runs_of ts))) (runs_text (runs_of ts)) in (
      u32_text (length (runs_of ts)) ++ runs_text (runs_of ts),
      (u32_text (length (runs_of ts)), runs_text (runs_of ts), u32_written (length (runs_of ts)) fits, spelled_of ts (omega (arith, few)), refl),
      omega (arith, lighter, head, body, is, whole, parts, both),
    )

pub locals_meets : (ts : List ValType) (old : List ℕ) → Meets (IsLocals ts) old (locals_to ts old)
locals_meets ts old = by (leb (length ts) 50000) refl
  where
    by : (b : Bool) → leb (length ts) 50000 ≡ b → Meets (IsLocals ts) old (cond b (vec_to (both_to index_to val_type_to) (runs_of ts) old) None)
    by true e = through (IsVec IsRun (runs_of ts)) (IsLocals ts) old (vec_to (both_to index_to val_type_to) (runs_of ts) old)
        (λ t h. (runs_of ts, h, sym (expanded_of ts), leb-true (length ts) 50000 e)) (shorter_runs ts) (vec_meets IsRun (both_to index_to val_type_to) run_meets (runs_of ts) old)
    by false e = λ other h. let past = leb-false (length ts) 50000 e in let few = h.3 in absurd (omega (arith, past, few))
