-- The bytes of instructions (Core 1.0, section 5.4).
use Rattle.std.specs.Prelude.{◌≡◌, ℕ, ◌+◌, ◌≤◌, max, List, [], ◌∷◌, ◌++◌, length, Option, Some, None, ◌⊎◌}
use Rattle.wasm_types.specs.declared.types.ValType.{ValType}
use Rattle.wasm_types.specs.declared.types.ValType.TheVariants.{I32, I64}
use Rattle.wasm_types.specs.Syntax.{Instruction, Plain, BrTable, Block, Loop, If, Instructions, Done, Then}
use Rattle.wasm_types.specs.Opcodes.{opcode}
use Rattle.wasm_types.specs.Immediates.{Immediates, Nothing, Index, Memory, Bits32, Bits64, IndexReserved, Reserved, immediates}
use Rattle.wasm_types.specs.Leb128.{IsU32, IsS32, IsS64}
use Rattle.wasm_types.specs.Profile.{most_nesting}

-- one form, and behind it another
abbrev pub Both : {A B : Type 0} → (A → List ℕ → Type 0) → (B → List ℕ → Type 0) → A × B → List ℕ → Type 0
Both P Q x text = (a : List ℕ) × (b : List ℕ) × P x.0 a × Q x.1 b × (text ≡ a ++ b)

-- each element, one behind the other
abbrev pub Each : {A : Type 0} → (A → List ℕ → Type 0) → List A → List ℕ → Type 0
Each P [] text = text ≡ []
Each P (x ∷ xs) text = (a : List ℕ) × (b : List ℕ) × P x a × Each P xs b × (text ≡ a ++ b)

-- a vector: the number of its elements, and these
abbrev pub IsVec : {A : Type 0} → (A → List ℕ → Type 0) → List A → List ℕ → Type 0
IsVec P xs text = (a : List ℕ) × (b : List ℕ) × IsU32 a (length xs) × Each P xs b × (text ≡ a ++ b)

-- a form behind this byte
abbrev pub Tagged : {A : Type 0} → ℕ → (A → List ℕ → Type 0) → A → List ℕ → Type 0
Tagged k P x text = (a : List ℕ) × P x a × (text ≡ k ∷ a)

abbrev pub IsIndex : ℕ → List ℕ → Type 0
IsIndex n text = IsU32 text n

abbrev pub val_code : ValType → ℕ
val_code I32 = 0x7f
val_code I64 = 0x7e

abbrev pub IsValType : ValType → List ℕ → Type 0
IsValType t text = text ≡ val_code t ∷ []

abbrev pub block_code : Option ValType → ℕ
block_code None = 0x40
block_code (Some t) = val_code t

abbrev pub SpellsImmediates : Immediates → List ℕ → Type 0
SpellsImmediates Nothing text = text ≡ []
SpellsImmediates (Index n) text = IsU32 text n
SpellsImmediates (Memory m) text = (a : List ℕ) × (b : List ℕ) × IsU32 a m.align × IsU32 b m.offset × (text ≡ a ++ b)
SpellsImmediates (Bits32 n) text = IsS32 text n
SpellsImmediates (Bits64 n) text = IsS64 text n
SpellsImmediates (IndexReserved n) text = (a : List ℕ) × IsU32 a n × (text ≡ a ++ 0 ∷ [])
SpellsImmediates Reserved text = text ≡ 0 ∷ []

-- the bytes spell an instruction; instructions, without the end of their body
abbrev mutual
  pub Spells : Instruction → List ℕ → Type 0
  Spells (Plain p) text = (a : List ℕ) × SpellsImmediates (immediates p) a × (text ≡ opcode p ∷ a)
  Spells (BrTable ns n) text = (a : List ℕ) × (b : List ℕ) × IsVec IsIndex ns a × IsU32 b n × (text ≡ 0x0e ∷ a ++ b)
  Spells (Block k is) text = (body : List ℕ) × SpellAll is body × (text ≡ 0x02 ∷ block_code k ∷ body ++ 0x0b ∷ [])
  Spells (Loop k is) text = (body : List ℕ) × SpellAll is body × (text ≡ 0x03 ∷ block_code k ∷ body ++ 0x0b ∷ [])
  -- an else with nothing behind it may be left out
  Spells (If k is js) text = (a : List ℕ) × (b : List ℕ) × SpellAll is a × SpellAll js b
      × ((text ≡ 0x04 ∷ block_code k ∷ a ++ 0x05 ∷ b ++ 0x0b ∷ []) ⊎ ((js ≡ Done) × (text ≡ 0x04 ∷ block_code k ∷ a ++ 0x0b ∷ [])))

  pub SpellAll : Instructions → List ℕ → Type 0
  SpellAll Done text = text ≡ []
  SpellAll (Then i is) text = (first : List ℕ) × (rest : List ℕ) × Spells i first × SpellAll is rest × (text ≡ first ++ rest)

-- how deep bodies are nested
abbrev mutual
  pub depth : Instruction → ℕ
  depth (Block k is) = depths is + 1
  depth (Loop k is) = depths is + 1
  depth (If k is js) = max (depths is) (depths js) + 1
  depth _ = 0

  pub depths : Instructions → ℕ
  depths Done = 0
  depths (Then i is) = max (depth i) (depths is)

-- an expression: instructions and their end, not nested too deep
abbrev pub IsExpr : Instructions → List ℕ → Type 0
IsExpr is text = (a : List ℕ) × SpellAll is a × (depths is ≤ most_nesting) × (text ≡ a ++ 0x0b ∷ [])
