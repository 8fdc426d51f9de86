-- Writers behind the bytes that are there already, and how they are put together.
use Rattle.std.specs.Prelude.{◌≡◌, ℕ, ◌^◌, List, [], ◌∷◌, ◌++◌, length, Option, Some, None, Result, Ok, Err, nat_lt, if◌then◌else◌}
use Rattle.std.specs.Str.{is_utf8}
use Rattle.std.specs.declared.vec.Vec.{Vec}
use Rattle.std.specs.declared.alloc.Global.{Global}
use Rattle.module_writer.specs.declared.fault.WriteFault.{WriteFault}
use Rattle.module_writer.specs.declared.fault.WriteFault.TheVariants.{TooLarge, NoMemory}
use Rattle.wasm_types.specs.Leb128Texts.{and_then, u32_text, s32_text, s64_text}
use Rattle.wasm_types.specs.Profile.{most_module_bytes}

-- all bytes then; None where a limit is passed
abbrev pub Written : Type 0
Written = Option (List ℕ)

-- the code fails as the writer does, or for want of memory
abbrev pub Fails : WriteFault → Written → Type 0
Fails TooLarge all = all ≡ None
Fails NoMemory all = Unit

-- the code gives them
abbrev pub Gives : Result (Vec ℕ Global) WriteFault → Written → Type 0
Gives (Ok v) all = all ≡ Some v.items
Gives (Err e) all = Fails e all

-- no byte goes past 16 MiB
abbrev pub byte_to : ℕ → List ℕ → Written
byte_to b out = if nat_lt (length out) most_module_bytes then Some (out ++ b ∷ []) else None

unfoldable pub index_to : ℕ → List ℕ → Written
index_to n out = if nat_lt n (2 ^ 32) then Some (out ++ u32_text n) else None

unfoldable pub bits32_to : ℕ → List ℕ → Written
bits32_to n out = if nat_lt n (2 ^ 32) then Some (out ++ s32_text n) else None

unfoldable pub bits64_to : ℕ → List ℕ → Written
bits64_to n out = if nat_lt n (2 ^ 64) then Some (out ++ s64_text n) else None

abbrev pub both_to : {A B : Type 0} → (A → List ℕ → Written) → (B → List ℕ → Written) → A × B → List ℕ → Written
both_to p q x out = and_then (p x.0 out) (q x.1)

abbrev pub each_to : {A : Type 0} → (A → List ℕ → Written) → List A → List ℕ → Written
each_to p [] out = Some out
each_to p (x ∷ xs) out = and_then (p x out) (each_to p xs)

abbrev pub vec_to : {A : Type 0} → (A → List ℕ → Written) → List A → List ℕ → Written
vec_to p xs out = and_then (index_to (length xs) out) (each_to p xs)

-- at most one
abbrev pub option_to : {A : Type 0} → (A → List ℕ → Written) → Option A → List ℕ → Written
option_to p None out = index_to 0 out
option_to p (Some x) out = and_then (index_to 1 out) (p x)

-- behind a byte
abbrev pub tagged_to : {A : Type 0} → ℕ → (A → List ℕ → Written) → A → List ℕ → Written
tagged_to k p x out = and_then (byte_to k out) (p x)

-- bytes with their number before them
abbrev pub bytes_to : List ℕ → List ℕ → Written
bytes_to xs out = and_then (index_to (length xs) out) (λ new. Some (new ++ xs))

-- what is written on its own, with its size before it
abbrev pub sized_to : Written → List ℕ → Written
sized_to body out = and_then body (λ xs. bytes_to xs out)

abbrev pub name_to : List ℕ → List ℕ → Written
name_to xs out = if is_utf8 xs then bytes_to xs out else None
