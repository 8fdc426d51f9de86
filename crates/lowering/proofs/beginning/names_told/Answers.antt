use Rattle.std.proofs.Common.{◌≡◌, ◌+◌, ap, sym, ◌∙◌, length}
use Rattle.std.proofs.lemmas.List.{length-map}
use Rattle.mid_program.specs.Mid as plain
use Rattle.mid_program.specs.View.{view_declared, view_mid}
use Rattle.lower_model.specs.Statements.{names_declared, routines_declared}
use Rattle.lower_expressions.specs.View.{view_layout}
use Rattle.lower_pieces.proofs.Appended.{◌⨟◌, same}
use Rattle.lowering.proofs.beginning.names_told.Goals as goal

pub returns : goal.returns
returns c = λ k.
    let y = view_layout c.args.layout.now in
    let m = c.args.layout.now.script.now.program.now in
    let texts : length c.as_slice-texts.result.now ≡ length (view_mid m).texts = ap length c.as_slice-texts.ensures.keys ∙ sym (length-map m.texts.keys (λ t. t.items)) in
    let names : length c.names-names.result.now ≡ length (view_mid m).globals = ap length c.names-names.ensures.names ∙ sym (length-map m.globals.items view_declared) in
    let calls : length y.calls ≡ length (view_mid m).routines = length-map (view_mid m).routines (λ (r : plain.Routine). r.parameters) in
    c.routines_declared.ensures k ⨟ c.names_declared.ensures _
    ⨟ same (λ i. names_declared y (texts i) y.names (routines_declared y (texts i + names i) (calls i) k))
