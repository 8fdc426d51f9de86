use Rattle.std.proofs.Common.{List, ap, ◌∙◌, get_or, length, map, arith}
use Rattle.std.proofs.lemmas.List.{length-map}
use Rattle.mid_program.specs.Mid as plain
use Rattle.mid_program.specs.View.{view_declared}
use Rattle.mid_program.specs.declared.program.Declared.{Declared}
use Rattle.lower_expressions.specs.View.{view_layout}
use Rattle.lower_pieces.proofs.Appended.{◌⨟◌, same}
use Rattle.lowering.proofs.Announced.{names_step}
use Rattle.lowering.proofs.beginning.names_declared.Goals as goal

pub overflow_add-text : goal.overflow_add-text
overflow_add-text c =
    let names = c.args.layout.now.script.now.program.now.globals.items in
    let n = ap length c.names-name-items.ensures.names in
    let kinds = length-map (map view_declared names) (λ (d : plain.Declared). d.kind) in
    let views = length-map names view_declared in
    omega (arith, n, kinds, views)

pub declared-requires : goal.declared-requires
declared-requires c =
    let names = c.args.layout.now.script.now.program.now.globals.items in
    let n = ap length c.names-name-items.ensures.names in
    let kinds = length-map (map view_declared names) (λ (d : plain.Declared). d.kind) in
    let views = length-map names view_declared in
    omega (arith, n, kinds, views)

pub loop-name-preserved : goal.loop-name-preserved
loop-name-preserved c =
    let n = ap length c.names-name-items.ensures.names in
    record {
      place = omega arith;
      emits = λ k. c.declared.ensures _
          ⨟ same (names_step (view_layout c.args.layout.now) c.args.layout.now.script.now.program.now.globals.items c.loop-name.name-index c.loop-name.text c.name-item.result c.declared_kind.result k
          (omega (arith, n)) (c.name-item.is ∙ ap (λ (xs : List Declared). get_or xs c.loop-name.name-index c.name-item.result) c.names-name-items.ensures.names) c.declared_kind.ensures)
          ⨟ c.loop-name.invariant.emits k;
    }
