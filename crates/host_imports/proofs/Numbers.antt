-- What the table of imports gives.
use Rattle.std.proofs.Common.{◌≡◌, ℕ, suc, ◌<◌, List, [], ◌∷◌, ◌++◌, length, take, get_or, map, Option, Some, None, refl, sym, ap, ◌∙◌}
use Rattle.std.proofs.Math.Seq.{take-suc}
use Rattle.std.proofs.lemmas.List.{map-append}
use Rattle.std.specs.Prelude.{slice_get}
use Rattle.wasm_types.specs.View.{signature_of}
use Rattle.wasm_types.specs.declared.types.FuncType.{FuncType}
use Rattle.wasm_types.specs.Syntax.{Signature}
use Rattle.std.proofs.lemmas.Option.{slice_get-map}
use Rattle.std.specs.Option.{option_map}
use Rattle.host_imports.specs.declared.import.Import.{Import}
use Rattle.host_imports.specs.Imports.{host_types, import_type, imports, type_if_there}
use Rattle.host_imports.specs.Links.{signature_if}

signature_if-map : (o : Option FuncType) → signature_if o ≡ option_map signature_of o
signature_if-map None = refl
signature_if-map (Some t) = refl

type_if_there-map : (o : Option Import) → type_if_there o ≡ option_map import_type o
type_if_there-map None = refl
type_if_there-map (Some i) = refl

-- the type of a number, where the types are those of the imports
pub type_of_number : (types : List FuncType) (n : ℕ) → map signature_of types ≡ map import_type imports → signature_if (slice_get types n) ≡ host_types n
type_of_number types n same =
    signature_if-map (slice_get types n) ∙ sym (slice_get-map signature_of types n)
    ∙ ap (λ (xs : List Signature). slice_get xs n) same
    ∙ slice_get-map import_type imports n ∙ sym (type_if_there-map (slice_get imports n))

-- the type of one import more
pub types_next : (xs : List Import) (i : ℕ) (d : Import) → i < length xs → map import_type (take (suc i) xs) ≡ map import_type (take i xs) ++ import_type (get_or xs i d) ∷ []
types_next xs i d below = ap (map import_type) (take-suc xs i d below) ∙ map-append import_type (take i xs) (get_or xs i d ∷ [])
