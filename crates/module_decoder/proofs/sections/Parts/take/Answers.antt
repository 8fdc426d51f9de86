use Rattle.std.proofs.lemmas.List.{map-id}
use Rattle.wasm_types.specs.Profile.{most_pages}
use Rattle.module_decoder.specs.Readers.{index_at}
use Rattle.module_decoder.specs.Reading.{func_type_at, import_at, table_type_at, limits_at, global_at, export_at, elem_at, data_at}
use Rattle.module_decoder.specs.View.{view_parts}
use Rattle.module_decoder.proofs.Steps.{part_is}
use Rattle.module_decoder.proofs.sections.Parts.take.Goals as goal

pub returns-in-Type : goal.returns-in-Type
returns-in-Type c = rw c.in-Type.is (part_is func_type_at (λ xs. record (view_parts c.args.self.now) { types = xs }) c.fill.ensures)

pub returns-in-Import : goal.returns-in-Import
returns-in-Import c = rw c.in-Import.is (part_is import_at (λ xs. record (view_parts c.args.self.now) { imports = xs }) c.fill-in-Import.ensures)

pub returns-in-Function : goal.returns-in-Function
returns-in-Function c = rw c.in-Function.is (part_is index_at (λ xs. record (view_parts c.args.self.now) { type_indices = xs }) (rw map-id at c.fill-in-Function.ensures))

pub returns-in-Table : goal.returns-in-Table
returns-in-Table c = rw c.in-Table.is (part_is table_type_at (λ xs. record (view_parts c.args.self.now) { tables = xs }) (rw map-id at c.fill-in-Table.ensures))

pub returns-in-Memory : goal.returns-in-Memory
returns-in-Memory c = rw c.in-Memory.is (part_is (λ p. limits_at p most_pages) (λ xs. record (view_parts c.args.self.now) { memories = xs }) (rw map-id at c.fill-in-Memory.ensures))

pub returns-in-Global : goal.returns-in-Global
returns-in-Global c = rw c.in-Global.is (part_is global_at (λ xs. record (view_parts c.args.self.now) { globals = xs }) c.fill-in-Global.ensures)

pub returns-in-Export : goal.returns-in-Export
returns-in-Export c = rw c.in-Export.is (part_is export_at (λ xs. record (view_parts c.args.self.now) { exports = xs }) c.fill-in-Export.ensures)

pub returns-in-Element : goal.returns-in-Element
returns-in-Element c = rw c.in-Element.is (part_is elem_at (λ xs. record (view_parts c.args.self.now) { elems = xs }) c.fill-in-Element.ensures)

pub returns-in-Data : goal.returns-in-Data
returns-in-Data c = rw c.in-Data.is (part_is data_at (λ xs. record (view_parts c.args.self.now) { data_segments = xs }) c.fill-in-Data.ensures)

pub returns-in-Code : goal.returns-in-Code
returns-in-Code c = rw c.in-Code.is c.take_codes.ensures
