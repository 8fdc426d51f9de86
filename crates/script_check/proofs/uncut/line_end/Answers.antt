use Rattle.std.proofs.Common.{◌≡◌, ◌≤◌, ◌∙◌, ℕ, List, ap, arith, drop, length, length-drop}
use Rattle.std.proofs.lemmas.List.{take_rest}
use Rattle.script_check.specs.Page.{first_line}
use Rattle.script_check.proofs.OnLines.{short}
use Rattle.script_check.proofs.uncut.line_end.Goals as goal

pub returns-clause-within : goal.returns-clause-within
returns-clause-within c =
    let script = c.args.script.now in
    let start = c.args.start in
    let same : length c.first_line.result.now ≡ length (first_line (drop start script)) =
    ap (λ (xs : List ℕ). length xs) c.first_line.ensures ∙ ap (λ (xs : List ℕ). length (first_line xs)) (take_rest script start) in
    let within : length (first_line (drop start script)) ≤ length (drop start script) = short (drop start script) in
    omega (arith, length-drop start script)
