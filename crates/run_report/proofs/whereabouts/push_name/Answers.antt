use Rattle.std.proofs.Common.{◌≡◌, ◌++◌, ◌∙◌, List, ℕ, ap, append_assoc, codes}
use Rattle.run_report.proofs.whereabouts.push_name.Goals as goal

pub returns : goal.returns
returns c =
    let old = c.args.text.now.items in
    let word = codes " in function " in
    let name = c.args.name.now in
    let first : c.extend_from_slice.new.self.items ≡ old ++ word = c.in_ok-extend_from_slice.ensures.items ∙ ap (λ (xs : List ℕ). old ++ xs) c.as_bytes.ensures.value in
    c.in_ok-extend_from_slice-2.ensures.items ∙ (ap (λ (xs : List ℕ). xs ++ name) first ∙ append_assoc old word name)
