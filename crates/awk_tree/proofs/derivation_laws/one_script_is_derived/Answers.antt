use Rattle.std.proofs.Common.{sym, ◌∙◌}
use Rattle.awk_tree.proofs.Scripts.{script_fine}
use Rattle.awk_tree.proofs.derivation_laws.one_script_is_derived.Goals as goal

pub returns : goal.returns
returns c = λ s t ts d e.
    let x = script_fine d in
    let y = script_fine e in
    c.one_script.ensures.printed s t x.fine y.fine (x.parts ∙ sym y.parts)
