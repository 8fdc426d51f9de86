use Rattle.std.proofs.Common.{ap}
use Rattle.sem_primitives.specs.declared.table.Primitive.TheVariants.{BeginEnd}
use Rattle.wasm_types.specs.Syntax.{Instructions}
use Rattle.mid_program.specs.View.{view_mid}
use Rattle.lower_model.specs.Small.{ask_row}
use Rattle.lower_model.specs.Statements.{before_parts, last_part, part_done}
use Rattle.lower_expressions.specs.View.{view_layout}
use Rattle.lower_pieces.proofs.Appended.{◌⨟◌, same}
use Rattle.lowering.proofs.Announced.{first_is}
use Rattle.wasm_types.specs.Syntax.{Done}
use Rattle.lowering.proofs.main_parts.parts_added.Goals as goal

pub returns : goal.returns
returns c = λ k.
    let y = view_layout c.args.layout.now in
    let p = view_mid c.args.layout.now.script.now.program.now in
    c.part_done-2.ensures _ ((rw c.deref.ensures.value at c.items_added.ensures) Done _ (c.new-last.ensures _)) k
    ⨟ c.ask_row.ensures _ ⨟ c.part_done.ensures _ (c.first_added.ensures Done _ (c.new-first.ensures _)) _ ⨟ c.before_parts.ensures _
    ⨟ same (ap (λ (is : Instructions). before_parts y p (part_done y is 0 (ask_row BeginEnd (part_done y (last_part y p) 0 k)))) (first_is y p))
