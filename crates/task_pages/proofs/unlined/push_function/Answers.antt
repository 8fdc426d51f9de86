use Rattle.std.proofs.Common.{◌≡◌, ◌++◌, ◌∙◌, List, ℕ, ap, append_assoc, codes, decimal}
use Rattle.task_pages.proofs.unlined.push_function.Goals as goal

pub returns : goal.returns
returns c =
    let old = c.args.text.now.items in
    let word = codes "  in function " in
    let digits = decimal c.args.number in
    let last = codes " of the module, which has no lines: awkwasm compile --lines writes them\n" in
    let first : c.extend_from_slice.new.self.items ≡ old ++ word = c.in_ok-extend_from_slice.ensures.items ∙ ap (λ (xs : List ℕ). old ++ xs) c.as_bytes.ensures.value in
    let second : c.push_number.new.text.items ≡ (old ++ word) ++ digits = c.in_ok-push_number.ensures ∙ ap (λ (xs : List ℕ). xs ++ digits) first in
    let third : c.extend_from_slice-2.new.self.items ≡ ((old ++ word) ++ digits) ++ last =
    c.in_ok-extend_from_slice-2.ensures.items ∙ (ap (λ (xs : List ℕ). c.push_number.new.text.items ++ xs) c.as_bytes-2.ensures.value ∙ ap (λ (xs : List ℕ). xs ++ last) second) in
    third ∙ (append_assoc (old ++ word) digits last ∙ append_assoc old word (digits ++ last))
