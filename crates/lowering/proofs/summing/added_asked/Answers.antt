use Rattle.mid_program.specs.Mid as plain
use Rattle.wasm_types.specs.declared.instr.Simple.TheVariants.{LocalGet}
use Rattle.lower_model.specs.Places.{number_local}
use Rattle.lower_model.specs.Small.{emit, to_number}
use Rattle.lower_model.specs.Statements.{name_numbered}
use Rattle.lower_expressions.specs.View.{view_layout}
use Rattle.lower_quick.specs.View.{view_holder}
use Rattle.lowering.proofs.summing.added_asked.Goals as goal

pub returns : goal.returns
returns c = λ k whole h.
    let b = c.args.layout.now.bases.now in
    (rw (c.number.ensures, c.number-2.ensures) at c.emit_all.ensures) k whole
    (c.to_number.ensures _ whole (c.name_numbered.ensures _ whole
    (c.answered-form.ensures (λ (f : plain.Form). name_numbered (view_layout c.args.layout.now) (view_holder c.args.update.name) 1 c.args.exit (to_number b f 0 c.args.exit
    (emit (LocalGet (number_local b 1)) (emit (LocalGet (number_local b 0)) k)))) whole h)))
