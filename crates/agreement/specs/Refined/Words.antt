-- Which word may stand for a cell, by the tables of the host.
use Rattle.std.specs.Prelude.{ℕ, ◌≡◌, ◌<◌, ◌≤◌, ◌^◌, pos, List, [], ◌∷◌, length, Some}
use Rattle.wasm_store.specs.declared.word.Word.{Word}
use Rattle.wasm_store.specs.declared.word.Word.TheVariants.{I32, I64}
use Rattle.host_step.specs.HostState.{HostState, Names}
use Rattle.host_step.specs.Tables.{Table, look}
use Rattle.lower_model.specs.Cells.{Cell, Bits, Held, IteratorOf, OwnedArray, LentArray, Gone}
use Rattle.lower_model.specs.ImportCalls.{Host}

-- the host's state with these tables, and all else as the machine over values has it
abbrev pub state_with : Names → Host → HostState
state_with N h = record { names = N; shared = h.shared; arguments = h.arguments; fault = h.fault }

-- how many arrays were made so far: their numbers in the shared state are below this
abbrev pub arrays_made : Host → ℕ
arrays_made h = length h.shared.inner.arrays

-- a number below 2^31 that stands for this
abbrev pub Stands : {A : Type 0} → Table A → A → Word → Type 0
Stands table x (I32 n) = (n < 2 ^ 31) × (look table (pos n) ≡ Some x)
Stands table x (I64 n) = ⊥

-- The number of an array that is lent. Its owner may have freed it; then nothing has its number in the shared state again, and it stands for nothing.
abbrev pub Lends : ℕ → Table ℕ → ℕ → Word → Type 0
Lends made table a (I32 n) = (n < 2 ^ 31) × (a < made) × ((m : ℕ) → look table (pos m) ≡ Some a → m ≡ n)
Lends made table a (I64 n) = ⊥

-- what was moved away may have any word
abbrev pub WordAs : ℕ → Names → Cell → Word → Type 0
WordAs made N (Bits v) w = w ≡ v
WordAs made N (Held x) w = Stands N.values x w
WordAs made N (IteratorOf t) w = Stands N.iterators t w
WordAs made N (OwnedArray a) w = (2 ≤ a) × Stands N.arrays a w
WordAs made N (LentArray a) w = Lends made N.arrays a w
WordAs made N Gone w = Unit {0}

-- operands, locals, globals: one word for each cell
abbrev pub WordsAs : ℕ → Names → List Cell → List Word → Type 0
WordsAs made N [] [] = Unit {0}
WordsAs made N (c ∷ cs) (w ∷ ws) = WordAs made N c w × WordsAs made N cs ws
WordsAs made N _ _ = ⊥

-- ARGV and ENVIRON have their numbers, and each array has one at most; what has a number was made.
pub record ArraysFit (made : ℕ) (arrays : Table ℕ) : Type 0 where
  pub argv : look arrays (pos 0) ≡ Some 0
  pub environ : look arrays (pos 1) ≡ Some 1
  pub known : (m a : ℕ) → look arrays (pos m) ≡ Some a → a < made
  pub apart : (m n a : ℕ) → look arrays (pos m) ≡ Some a → look arrays (pos n) ≡ Some a → m ≡ n
