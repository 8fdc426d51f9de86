-- The custom section `name`, by which engines and tools name the functions of a module (Core 1.0, section 7.4.1). Only its subsection of functions is written.
use Rattle.std.specs.Prelude.{ℕ, suc, List, [], ◌∷◌, ◌++◌, length}
use Rattle.wasm_types.specs.Leb128Texts.{u32_text}

-- bytes with their number before them
abbrev pub counted : List ℕ → List ℕ
counted bytes = u32_text (length bytes) ++ bytes

-- functions from this number on, each with its name
abbrev pub named_from : ℕ → List (List ℕ) → List ℕ
named_from number [] = []
named_from number (name ∷ names) = u32_text number ++ counted name ++ named_from (suc number) names

-- how many functions have a name, and these
abbrev pub functions_text : ℕ → List (List ℕ) → List ℕ
functions_text first names = u32_text (length names) ++ named_from first names

-- the section's own name, of four bytes, and subsection 1
abbrev pub name_contents : ℕ → List (List ℕ) → List ℕ
name_contents first names = 4 ∷ 110 ∷ 97 ∷ 109 ∷ 101 ∷ 1 ∷ counted (functions_text first names)

abbrev pub names_text : ℕ → List (List ℕ) → List ℕ
names_text first names = 0 ∷ counted (name_contents first names)
