-- Readers from the front of the bytes, and how they are put together.
use Rattle.std.specs.Prelude.{◌≡◌, ℕ, zero, suc, ◌-◌, List, [], ◌∷◌, length, take, drop, Option, Some, None, Result, Ok, Err, Bool, true, false, nat_lt, nat_le, ◌==◌, if◌then◌else◌}
use Rattle.module_decoder.specs.declared.fault.DecodeFault.{DecodeFault}
use Rattle.module_decoder.specs.declared.fault.DecodeFault.TheVariants.{BadHeader, Truncated, BadSection, BadInteger, BadOpcode, Float, TooLarge, NoMemory}
use Rattle.module_decoder.specs.declared.basics.Span.{Span}
use Rattle.wasm_types.specs.Leb128Texts.{u32_at, s32_at, s64_at}

infixl 10 ◌>>=◌
abbrev pub ◌>>=◌ : {A B : Type 0} → Result A DecodeFault → (A → Result B DecodeFault) → Result B DecodeFault
(Ok x) >>= f = f x
(Err e) >>= f = Err e

-- the code fails as the reader does, or for want of memory
abbrev pub Fails : {Y : Type 0} → DecodeFault → Result Y DecodeFault → Type 0
Fails NoMemory read = Unit {0}
Fails BadHeader read = read ≡ Err BadHeader
Fails (Truncated n) read = read ≡ Err (Truncated n)
Fails (BadSection n) read = read ≡ Err (BadSection n)
Fails (BadInteger n) read = read ≡ Err (BadInteger n)
Fails (BadOpcode n) read = read ≡ Err (BadOpcode n)
Fails (Float n) read = read ≡ Err (Float n)
Fails TooLarge read = read ≡ Err TooLarge

-- the code gives what the reader does, seen as plain data
abbrev pub Gives : {X Y : Type 0} → (X → Y) → Result X DecodeFault → Result Y DecodeFault → Type 0
Gives view (Ok x) read = read ≡ Ok (view x)
Gives view (Err e) read = Fails e read

-- what a reader gives: the value, and the bytes after it
abbrev pub Read : Type 0 → Type 0
Read A = Result (A × List ℕ) DecodeFault

abbrev pub both_at : {A B : Type 0} → (List ℕ → Read A) → (List ℕ → Read B) → List ℕ → Read (A × B)
both_at r s bytes = r bytes >>= λ x. s x.1 >>= λ y. Ok ((x.0, y.0), y.1)

abbrev pub each_at : {A : Type 0} → (List ℕ → Read A) → ℕ → List ℕ → Read (List A)
each_at r zero bytes = Ok ([], bytes)
each_at r (suc n) bytes = r bytes >>= λ x. each_at r n x.1 >>= λ y. Ok (x.0 ∷ y.0, y.1)

abbrev pub mapped : {A B : Type 0} → (A → B) → (List ℕ → Read A) → List ℕ → Read B
mapped f r bytes = r bytes >>= λ x. Ok (f x.0, x.1)

-- each byte says that another follows, and there are fewer than an integer may have
abbrev pub unfinished : ℕ → List ℕ → Bool
unfinished zero bytes = false
unfinished (suc m) [] = true
unfinished (suc m) (b ∷ bytes) = if nat_lt b 128 then false else unfinished m bytes

-- a part of the section ends too early, or is no part
abbrev pub malformed : {A : Type 0} → Span → Result A DecodeFault
malformed c = Err (BadSection c.section)

-- the place of the first of these bytes
abbrev pub place : Span → List ℕ → ℕ
place c bytes = c.end - length bytes

abbrev pub no_integer : {A : Type 0} → Span → ℕ → List ℕ → Result A DecodeFault
no_integer c most bytes = if unfinished most bytes then malformed c else Err (BadInteger (place c bytes))

abbrev pub integer : Span → ℕ → List ℕ → Option (ℕ × List ℕ) → Read ℕ
integer c most bytes None = no_integer c most bytes
integer c most bytes (Some x) = Ok x

unfoldable pub index_at : Span → List ℕ → Read ℕ
index_at c bytes = integer c 5 bytes (u32_at bytes)

unfoldable pub bits32_at : Span → List ℕ → Read ℕ
bits32_at c bytes = integer c 5 bytes (s32_at bytes)

unfoldable pub bits64_at : Span → List ℕ → Read ℕ
bits64_at c bytes = integer c 10 bytes (s64_at bytes)

abbrev pub vec_at : {A : Type 0} → Span → (List ℕ → Read A) → List ℕ → Read (List A)
vec_at c r bytes = index_at c bytes >>= λ n. each_at r n.0 n.1

abbrev pub some_at : {A : Type 0} → (List ℕ → Read A) → List ℕ → Read (Option A)
some_at r bytes = r bytes >>= λ x. Ok (Some x.0, x.1)

-- at most one
abbrev pub option_by : {A : Type 0} → Span → (List ℕ → Read A) → ℕ → List ℕ → Read (Option A)
option_by c r n bytes = if n == 0 then Ok (None, bytes) else if n == 1 then some_at r bytes else malformed c

abbrev pub option_at : {A : Type 0} → Span → (List ℕ → Read A) → List ℕ → Read (Option A)
option_at c r bytes = index_at c bytes >>= λ n. option_by c r n.0 n.1

-- behind a byte
abbrev pub tagged_at : {A : Type 0} → Span → ℕ → (List ℕ → Read A) → List ℕ → Read A
tagged_at c k r [] = malformed c
tagged_at c k r (b ∷ bytes) = if b == k then r bytes else malformed c

-- up to the end
abbrev pub ended_by : Span → List ℕ → Result Unit DecodeFault
ended_by c [] = Ok tt
ended_by c (b ∷ bytes) = malformed c

abbrev pub ended : {A : Type 0} → Span → A × List ℕ → Result A DecodeFault
ended c x = ended_by c x.1 >>= λ u. Ok x.0

abbrev pub whole : {A : Type 0} → Span → (List ℕ → Read A) → List ℕ → Result A DecodeFault
whole c r bytes = r bytes >>= ended c

-- so many bytes
abbrev pub cut_at : Span → ℕ → List ℕ → Read (List ℕ)
cut_at c n bytes = if nat_le n (length bytes) then Ok (take n bytes, drop n bytes) else malformed c

abbrev pub bytes_at : Span → List ℕ → Read (List ℕ)
bytes_at c bytes = index_at c bytes >>= λ n. cut_at c n.0 n.1
