-- What is read without a handle: the names are numbers of globals and the parameters places of locals, where it can be emitted.
use Rattle.std.specs.Prelude.{ℕ, ◌≤◌, List, [], ◌∷◌}
use Rattle.std.specs.Int.{w64, cast_unsigned}
use Rattle.wasm_types.specs.Syntax.{Instructions}
use Rattle.wasm_types.specs.declared.types.ValType.TheVariants.{I64}
use Rattle.wasm_types.specs.declared.instr.IRelOp.TheVariants.{GtU}
use Rattle.wasm_types.specs.declared.instr.Simple.{Simple}
use Rattle.wasm_types.specs.declared.instr.Simple.TheVariants.{Compare, I64Const}
use Rattle.lower_model.specs.Emission.{Layout, name_read}
use Rattle.lower_model.specs.Quick.{Addition, Constant, Held, Holder, OfName, OfParameter, Source}
use Rattle.lower_model.specs.Small.{emit}
use Rattle.lower_pieces.specs.Bounds.{most_places}

abbrev pub HolderFits : Holder → Type 0
HolderFits (OfName name) = name ≤ most_places
HolderFits (OfParameter place) = place ≤ most_places

abbrev pub NamesFit : List Holder → Type 0
NamesFit [] = Unit {0}
NamesFit (name ∷ names) = HolderFits name × NamesFit names

abbrev pub SourceFits : Source → Type 0
SourceFits (Held name) = HolderFits name
SourceFits (Constant number) = Unit {0}

abbrev pub AdditionFits : Addition → Type 0
AdditionFits addition = SourceFits addition.left × SourceFits addition.right

-- what puts a source on the stack
abbrev pub source_read : Layout → Source → Simple
source_read layout (Held name) = name_read layout name
source_read layout (Constant number) = I64Const (cast_unsigned w64 number)

-- a word is past a width
abbrev pub past : ℕ → Instructions → Instructions
past width after = emit (I64Const width) (emit (Compare I64 GtU) after)
