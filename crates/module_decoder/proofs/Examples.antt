-- Worked modules, computed from the reader.
use Rattle.std.proofs.Common.{◌≡◌, [], ◌∷◌, ◌++◌, Some, None, Ok, Err, refl}
use Rattle.wasm_types.specs.Leb128Texts.{u32_at}
use Rattle.wasm_types.specs.ModuleGrammar.{no_parts, module_of, header}
use Rattle.module_decoder.specs.declared.fault.DecodeFault.TheVariants.{BadHeader, Truncated, BadSection, BadInteger}
use Rattle.module_decoder.specs.Readers.{index_at}
use Rattle.module_decoder.specs.Reading.{module_at}

header_alone : module_at header ≡ Ok (module_of no_parts)
header_alone = refl

header_cut : module_at (0x00 ∷ 0x61 ∷ 0x73 ∷ 0x6d ∷ 0x01 ∷ 0x00 ∷ 0x00 ∷ []) ≡ Err (Truncated 7)
header_cut = refl

header_other : module_at (0x00 ∷ 0x61 ∷ 0x73 ∷ 0x6e ∷ []) ≡ Err BadHeader
header_other = refl

unused_bits : module_at (header ++ 0x01 ∷ 0x80 ∷ 0x80 ∷ 0x80 ∷ 0x80 ∷ 0x10 ∷ []) ≡ Err (BadInteger 9)
unfolding u32_at
unused_bits = refl

unknown_section : module_at (header ++ 0x0c ∷ 0x00 ∷ []) ≡ Err (BadSection 8)
unknown_section = refl

two_tables : module_at (header ++ 0x04 ∷ 0x08 ∷ 0x02 ∷ 0x70 ∷ 0x00 ∷ 0x00 ∷ 0x70 ∷ 0x01 ∷ 0x01 ∷ 0x02 ∷ [])
    ≡ Ok (module_of (record no_parts { tables = (record { min = 0; max = None }) ∷ ((record { min = 1; max = Some 2 }) ∷ []) }))
unfolding u32_at index_at
two_tables = refl

two_memories : module_at (header ++ 0x05 ∷ 0x05 ∷ 0x02 ∷ 0x00 ∷ 0x00 ∷ 0x00 ∷ 0x01 ∷ [])
    ≡ Ok (module_of (record no_parts { memories = (record { min = 0; max = None }) ∷ ((record { min = 1; max = None }) ∷ []) }))
unfolding u32_at index_at
two_memories = refl
