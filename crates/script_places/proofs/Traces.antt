-- The section leaves no trace.
use Rattle.std.proofs.Common.{ℕ, zero, suc, ◌^◌, ◌<◌, ◌≤◌, List, [], ◌∷◌, ◌++◌, length, inl, refl, arith, length-append}
use Rattle.std.proofs.lemmas.Str.{IsUtf8-from_ascii}
use Rattle.std.specs.Str.{IsAscii}
use Rattle.wasm_types.specs.Leb128.{IsU32}
use Rattle.wasm_types.specs.Leb128Texts.{u32_text}
use Rattle.wasm_types.specs.ModuleGrammar.{Custom, IsCustom, IsModule, IsSection}
use Rattle.wasm_types.specs.Profile.{most_module_bytes}
use Rattle.wasm_types.specs.Syntax.{ModuleForm}
use Rattle.wasm_types.proofs.Groups.{u32_written}
use Rattle.module_writer.proofs.NoTrace.{no_trace}
use Rattle.script_places.specs.Lines.{FunctionForm, lines_contents, lines_text, own_name, table_text}

nine : IsU32 (9 ∷ []) 9
nine = record { weight = 128; raw = inl (omega arith, refl, refl, refl); len = omega arith; small = omega arith }

-- the name without its length
abbrev letters : List ℕ
letters = 97 ∷ 119 ∷ 107 ∷ 46 ∷ 108 ∷ 105 ∷ 110 ∷ 101 ∷ 115 ∷ []

ascii : IsAscii letters
ascii zero = omega arith
ascii (suc zero) = omega arith
ascii (suc (suc zero)) = omega arith
ascii (suc (suc (suc zero))) = omega arith
ascii (suc (suc (suc (suc zero)))) = omega arith
ascii (suc (suc (suc (suc (suc zero))))) = omega arith
ascii (suc (suc (suc (suc (suc (suc zero)))))) = omega arith
ascii (suc (suc (suc (suc (suc (suc (suc zero))))))) = omega arith
ascii (suc (suc (suc (suc (suc (suc (suc (suc zero)))))))) = omega arith
ascii (suc (suc (suc (suc (suc (suc (suc (suc (suc i))))))))) = omega arith

lines_custom : (table : List FunctionForm) → IsCustom (lines_contents table)
lines_custom table = (letters, own_name, table_text table, (IsUtf8-from_ascii letters ascii, (9 ∷ [], nine, refl)), refl)

lines_section : (table : List FunctionForm) → length (lines_contents table) < 2 ^ 32 → IsSection (Custom (lines_contents table)) (lines_text table)
lines_section table few = (u32_text (length (lines_contents table)), u32_written (length (lines_contents table)) few, refl)

pub lines_no_trace : (bytes : List ℕ) (table : List FunctionForm) (m : ModuleForm) → IsModule bytes m → length (bytes ++ lines_text table) ≤ most_module_bytes → IsModule (bytes ++ lines_text table) m
lines_no_trace bytes table m h few =
    let c = lines_contents table in
    let whole = length-append bytes (lines_text table) in
    let own = length-append (u32_text (length c)) c in
    no_trace bytes (lines_text table) c m h (lines_custom table) (lines_section table (omega (arith, few, whole, own))) few
