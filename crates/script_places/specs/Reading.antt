-- Reading the section `awk.lines` of a module from the left. Of bytes that are no table nothing is read.
use Rattle.std.specs.Prelude.{ℕ, zero, suc, ◌==◌, ◌^◌, ◌<◌, ◌&&◌, Bool, List, [], ◌∷◌, length, take, drop, Option, Some, None, nat_le, if◌then◌else◌}
use Rattle.std.specs.Borrow.{Bor}
use Rattle.std.specs.List.{AllByRecursion, starts_with}
use Rattle.wasm_types.specs.Leb128Texts.{and_then, u32_at}
use Rattle.script_places.specs.Lines.{FunctionForm, own_name}

-- what is at the front, and what comes after it
abbrev pub Read : Type 0 → Type 0
Read A = Option (A × List ℕ)

abbrev pub cut_at : ℕ → List ℕ → Read (List ℕ)
cut_at n bytes = if nat_le n (length bytes) then Some (take n bytes, drop n bytes) else None

-- bytes with their number before them
abbrev pub counted_at : List ℕ → Read (List ℕ)
counted_at bytes = and_then (u32_at bytes) (λ n. cut_at n.0 n.1)

-- so many of one kind, one after the other
abbrev pub items_at : {A : Type 0} → (List ℕ → Read A) → ℕ → List ℕ → Read (List A)
items_at one zero bytes = Some ([], bytes)
items_at one (suc w) bytes = and_then (one bytes) (λ x. and_then (items_at one w x.1) (λ y. Some (x.0 ∷ y.0, y.1)))

-- numbers
abbrev pub lines_at : List ℕ → Read (List ℕ)
lines_at bytes = and_then (u32_at bytes) (λ n. items_at u32_at n.0 n.1)

abbrev pub function_at : List ℕ → Read FunctionForm
function_at bytes = and_then (counted_at bytes) (λ x. and_then (lines_at x.1) (λ y. Some (record { name = x.0; lines = y.0 }, y.1)))

abbrev pub table_at : List ℕ → Read (List FunctionForm)
table_at bytes = and_then (u32_at bytes) (λ n. items_at function_at n.0 n.1)

-- a section: its number, its contents, and what comes after it
abbrev pub section_at : List ℕ → Option (ℕ × List ℕ × List ℕ)
section_at [] = None
section_at (id ∷ bytes) = and_then (counted_at bytes) (λ x. Some (id, x.0, x.1))

-- whether a section is the one that is looked for
abbrev pub is_own : ℕ → List ℕ → Bool
is_own id contents = id == 0 && starts_with ◌==◌ contents own_name

-- what that section has behind its name; else what was found before
abbrev pub own_of : Option (List ℕ) → ℕ → List ℕ → Option (List ℕ)
own_of found id contents = if is_own id contents then Some (drop (length own_name) contents) else found

-- what is found on from a section, if there is one
abbrev pub own_by : (Option (List ℕ) → List ℕ → Option (List ℕ)) → Option (List ℕ) → Option (ℕ × List ℕ × List ℕ) → Option (List ℕ)
own_by go found None = found
own_by go found (Some x) = go (own_of found x.0 x.1) x.2

-- the last one among at most so many sections
abbrev pub own_in : ℕ → Option (List ℕ) → List ℕ → Option (List ℕ)
own_in zero found bytes = found
own_in (suc w) found bytes = own_by (own_in w) found (section_at bytes)

-- behind the header of eight bytes
abbrev pub own_section : List ℕ → Option (List ℕ)
own_section bytes = own_in (length bytes) None (drop 8 bytes)

abbrev pub table_of : Read (List FunctionForm) → Option (List FunctionForm)
table_of None = None
table_of (Some x) = Some x.0

-- THE TABLE OF A MODULE, by its bytes
abbrev pub table_in : List ℕ → Option (List FunctionForm)
table_in bytes = and_then (own_section bytes) (λ contents. table_of (table_at contents))

-- what the section can hold: each number is one of 32 bits

abbrev pub IsWord : ℕ → Type 0
IsWord n = n < 2 ^ 32

pub record Fits (f : FunctionForm) : Type 0 where
  pub name : IsWord (length f.name)
  pub count : IsWord (length f.lines)
  pub lines : AllByRecursion IsWord f.lines

abbrev pub AllFit : List FunctionForm → Type 0
AllFit table = IsWord (length table) × AllByRecursion Fits table

-- The rest serves contracts inside the crate: what a slice holds, if there is one.
abbrev pub held : Option (Bor (List ℕ)) → Option (List ℕ)
held None = None
held (Some text) = Some text.now
