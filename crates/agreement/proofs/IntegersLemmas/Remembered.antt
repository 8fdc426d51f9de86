-- What memory holds after a store.
use Rattle.std.proofs.Common.{◌≡◌, ◌⊎◌, inl, inr, ◌<◌, ◌≤◌, ℕ, zero, suc, Bool, true, false, ◌+◌, ◌-◌, ◌*◌, ◌/◌, ◌%◌, ◌^◌, List, ◌++◌, length, take, drop, get_or, Some, None, Result, Ok, Err, refl, sym, ap, subst, ◌∙◌, arith}
use Rattle.std.specs.Prelude.{nat_le, ⊤, if◌then◌else◌}
use Rattle.std.specs.Int.{byte_at, bytes_low_first}
use Rattle.std.proofs.lemmas.Bool.Decides.{nat_tests}
use Rattle.std.proofs.lemmas.List.{length-append, length-take-le, length-drop, get_or-take, get_or-drop, get_or_append_left, get_or-append_right}
use Rattle.std.proofs.lemmas.Nat.{pow_pos, mod_below}
use Rattle.std.proofs.Math.Seq.{drop-append_seam}
use Rattle.byteorder.specs.Endian.{little_bytes, little_number}
use Rattle.byteorder.specs.Numbers.{little_number-reads_back, length-bytes_low_first}
use Rattle.byteorder.proofs.Bytes.{pow256}
use Rattle.wasm_types.specs.declared.instr.LoadOp.{LoadOp}
use Rattle.wasm_types.specs.declared.instr.StoreOp.{StoreOp}
use Rattle.wasm_types.specs.Typing.{loaded, stored}
use Rattle.wasm_store.specs.declared.trap.TrapKind.{TrapKind}
use Rattle.wasm_store.specs.declared.trap.TrapKind.TheVariants.{MemoryBounds}
use Rattle.wasm_store.specs.declared.word.Word.{Word}
use Rattle.wasm_store.specs.Words.{pattern}
use Rattle.wasm_store.specs.Memories.{MemoryForm, load, number_at, put_if, store, word_if, word_of}
use Rattle.agreement.specs.Integers.Memory.{IsStoredAt}

byte_is : (i x : ℕ) → byte_at i x ≡ x / 256 ^ i % 256
byte_is zero x = ap (λ k. k % 256) whole
  where
    whole : x ≡ x / 256 ^ 0
    whole = omega arith
byte_is (suc i) x = refl

byte_in : (j n x i : ℕ) → i < n → get_or (bytes_low_first j n x) i 0 ≡ byte_at (j + i) x
byte_in j zero x i l = absurd (omega arith)
byte_in j (suc n) x zero l = ap (λ k. byte_at k x) {x = j} {y = j + 0} (omega arith)
byte_in j (suc n) x (suc i) l = byte_in (suc j) n x i (omega arith) ∙ ap (λ k. byte_at k x) {x = suc j + i} {y = j + suc i} (omega arith)

-- bytes with n others from a place on
abbrev put_at : List ℕ → ℕ → ℕ → List ℕ → List ℕ
put_at bytes at n new = take at bytes ++ (new ++ drop n (drop at bytes))

is_stored : (bytes : List ℕ) (at n x : ℕ) → at + n ≤ length bytes → IsStoredAt at n x bytes (put_at bytes at n (little_bytes n x))
is_stored bytes at n x h = record { inside = h; size = size; bytes = inside; others = others }
  where
    front : length (take at bytes) ≡ at
    front = length-take-le at bytes (omega arith)

    new : length (little_bytes n x) ≡ n
    new = length-bytes_low_first 0 n x

    size : length (put_at bytes at n (little_bytes n x)) ≡ length bytes
    size = omega (
      arith,
      length-append (take at bytes) (little_bytes n x ++ drop n (drop at bytes)),
      length-append (little_bytes n x) (drop n (drop at bytes)),
      length-drop n (drop at bytes),
      length-drop at bytes,
      front,
      new,
    )

    inside : (i : ℕ) → i < n → get_or (put_at bytes at n (little_bytes n x)) (at + i) 0 ≡ x / 256 ^ i % 256
    inside i l =
        get_or-append_right (take at bytes) (little_bytes n x ++ drop n (drop at bytes)) at (at + i) 0 front (omega arith)
        ∙ (ap (λ k. get_or (little_bytes n x ++ drop n (drop at bytes)) k 0) {x = at + i - at} {y = i} (omega arith)
        ∙ (get_or_append_left (little_bytes n x) (drop n (drop at bytes)) 0 i (omega (arith, new))
        ∙ (byte_in 0 n x i l ∙ (ap (λ k. byte_at k x) {x = 0 + i} {y = i} (omega arith) ∙ byte_is i x))))

    others : (i : ℕ) → (i < at) ⊎ (at + n ≤ i) → get_or (put_at bytes at n (little_bytes n x)) i 0 ≡ get_or bytes i 0
    others i (inl l) =
        get_or_append_left (take at bytes) (little_bytes n x ++ drop n (drop at bytes)) 0 i (omega (arith, front)) ∙ get_or-take at bytes i 0 l
    others i (inr l) =
        get_or-append_right (take at bytes) (little_bytes n x ++ drop n (drop at bytes)) at i 0 front (omega arith)
        ∙ (get_or-append_right (little_bytes n x) (drop n (drop at bytes)) n (i - at) 0 new (omega arith)
        ∙ (get_or-drop n (drop at bytes) (i - at - n) 0 ∙ (get_or-drop at bytes (n + (i - at - n)) 0
        ∙ ap (λ k. get_or bytes k 0) {x = at + (n + (i - at - n))} {y = i} (omega arith))))

lowest : (n x : ℕ) → x % 2 ^ (8 * n) < 256 ^ n
lowest n x = subst (λ k. x % 2 ^ (8 * n) < k) (sym (pow256 n)) (mod_below x (2 ^ (8 * n)) (pow_pos (8 * n)))

is_read : (bytes : List ℕ) (at n x : ℕ) → at + n ≤ length bytes → x < 256 ^ n → number_at n (put_at bytes at n (little_bytes n x)) at ≡ Some x
is_read bytes at n x h l =
    let size = (is_stored bytes at n x h).size in
    let within : nat_le (at + n) (length (put_at bytes at n (little_bytes n x))) ≡ true = grind (arith, nat_tests) in
    let rest : drop at (put_at bytes at n (little_bytes n x)) ≡ little_bytes n x ++ drop n (drop at bytes)
    = ap (λ k. drop k (put_at bytes at n (little_bytes n x))) (sym (length-take-le at bytes (omega arith)))
    ∙ drop-append_seam (take at bytes) (little_bytes n x ++ drop n (drop at bytes)) in
    ap (λ t. if t then Some (little_number n (drop at (put_at bytes at n (little_bytes n x)))) else None) within
    ∙ (ap (λ xs. Some (little_number n xs)) rest ∙ ap Some (little_number-reads_back n x (drop n (drop at bytes)) l))

-- what a store that succeeds leaves
left : (n at x : ℕ) (m after : MemoryForm)
    → put_if m (if nat_le (at + n) (length m.bytes) then Some (put_at m.bytes at n (little_bytes n x)) else None) ≡ (Ok tt, after)
    → (at + n ≤ length m.bytes) × (record m { bytes = put_at m.bytes at n (little_bytes n x) } ≡ after)
left n at x m after = by (nat_le (at + n) (length m.bytes)) refl
  where
    by : (t : Bool) → nat_le (at + n) (length m.bytes) ≡ t → put_if m (if t then Some (put_at m.bytes at n (little_bytes n x)) else None) ≡ (Ok tt, after)
        → (at + n ≤ length m.bytes) × (record m { bytes = put_at m.bytes at n (little_bytes n x) } ≡ after)
    by true e h = (grind (arith, nat_tests), ap (λ (p : Result ⊤ TrapKind × MemoryForm). p.1) h)
    by false e h = let f = ap (λ (p : Result ⊤ TrapKind × MemoryForm). p.0) h in absurd (cc)

pub stores : (op : StoreOp) (m after : MemoryForm) (at : ℕ) (w : Word) → store op m at w ≡ (Ok tt, after)
    → (after.most ≡ m.most) × IsStoredAt at (stored op).1 (pattern w % 2 ^ (8 * (stored op).1)) m.bytes after.bytes
stores op m after at w e =
    let h = left (stored op).1 at (pattern w % 2 ^ (8 * (stored op).1)) m after e in (
      ap (λ (x : MemoryForm). x.most) (sym h.1),
      subst (λ (x : MemoryForm). IsStoredAt at (stored op).1 (pattern w % 2 ^ (8 * (stored op).1)) m.bytes x.bytes) h.1
          (is_stored m.bytes at (stored op).1 (pattern w % 2 ^ (8 * (stored op).1)) h.0),
    )

pub loads : (op : StoreOp) (read : LoadOp) (m after : MemoryForm) (at : ℕ) (w : Word) → store op m at w ≡ (Ok tt, after) → (loaded read).1 ≡ (stored op).1
    → load read after.bytes at ≡ Ok (word_of read (pattern w % 2 ^ (8 * (stored op).1)))
loads op read m after at w e same =
    let h = left (stored op).1 at (pattern w % 2 ^ (8 * (stored op).1)) m after e in
    let found : number_at (stored op).1 after.bytes at ≡ Some (pattern w % 2 ^ (8 * (stored op).1))
    = subst (λ (x : MemoryForm). number_at (stored op).1 x.bytes at ≡ Some (pattern w % 2 ^ (8 * (stored op).1))) h.1
    (is_read m.bytes at (stored op).1 (pattern w % 2 ^ (8 * (stored op).1)) h.0 (lowest (stored op).1 (pattern w))) in
    ap (λ n. word_if read (number_at n after.bytes at)) same ∙ ap (word_if read) found

pub store_past : (op : StoreOp) (m : MemoryForm) (at : ℕ) (w : Word) → length m.bytes < at + (stored op).1 → store op m at w ≡ (Err MemoryBounds, m)
store_past op m at w h =
    let e : nat_le (at + (stored op).1) (length m.bytes) ≡ false = grind (arith, nat_tests) in
    ap (λ t. put_if m (if t then Some (put_at m.bytes at (stored op).1 (little_bytes (stored op).1 (pattern w % 2 ^ (8 * (stored op).1)))) else None)) e

pub load_past : (read : LoadOp) (bytes : List ℕ) (at : ℕ) → length bytes < at + (loaded read).1 → load read bytes at ≡ Err MemoryBounds
load_past read bytes at h =
    let e : nat_le (at + (loaded read).1) (length bytes) ≡ false = grind (arith, nat_tests) in
    ap (λ t. word_if read (if t then Some (little_number (loaded read).1 (drop at bytes)) else None)) e
