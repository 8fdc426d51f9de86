-- The first and the last import are found, each under its number; other names, and other modules, are not.
use Rattle.std.specs.Prelude.{◌≡◌, [], ◌∷◌, codes, Some, None, refl}
use Rattle.wasm_types.specs.declared.types.ValType.TheVariants.{I32, I64}
use Rattle.agreement.specs.Typed.Finds.{table_finds}

pub first_found : table_finds (codes "awk2") (codes "num") ≡ Some (0, record { params = I64 ∷ []; result = Some I32 })
first_found = refl

pub last_found : table_finds (codes "awk2") (codes "flush") ≡ Some (55, record { params = I32 ∷ []; result = Some I32 })
last_found = refl

pub print_found : table_finds (codes "awk2") (codes "print") ≡ Some (48, record { params = I32 ∷ I32 ∷ []; result = Some I32 })
print_found = refl

pub unknown_name : table_finds (codes "awk2") (codes "nums") ≡ None
unknown_name = refl

pub unknown_module : table_finds (codes "awk1") (codes "num") ≡ None
unknown_module = refl
