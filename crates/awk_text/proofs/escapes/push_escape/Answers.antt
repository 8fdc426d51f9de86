use Rattle.std.proofs.Common.{sym, ap, ◌∙◌, [], ◌∷◌, ◌++◌, List, ℕ}
use Rattle.awk_text.proofs.Octals.{adds, escaped_newline, escaped_octal, escaped_letter, escaped_kept}
use Rattle.awk_text.proofs.escapes.push_escape.Goals as goal

pub returns-then-is_octal-clause-value : goal.returns-then-is_octal-clause-value
returns-then-is_octal-clause-value c =
    adds _ _ (c.octal-byte.result.0 ∷ []) _ _ c.in_ok-push.ensures.items
    (escaped_octal c.args.byte c.args.text.now (sym c.is_octal.ensures ∙ c.if-is_octal.true) ∙ c.octal-byte.ensures.value)

pub returns-in_ok-push-in-Some-clause-value : goal.returns-in_ok-push-in-Some-clause-value
returns-in_ok-push-in-Some-clause-value c =
    adds _ _ (c.in-Some.letter ∷ []) _ _ c.in_ok-push-in-Some.ensures.items
    (escaped_letter c.args.byte c.in-Some.letter c.args.text.now (sym c.is_octal.ensures ∙ c.if-is_octal.false) c.if-byte-eq10.false (sym c.letter.ensures ∙ c.in-Some.is))

pub returns-in_ok-extend_from_slice-in-None-clause-value : goal.returns-in_ok-extend_from_slice-in-None-clause-value
returns-in_ok-extend_from_slice-in-None-clause-value c =
    adds _ _ (92 ∷ (c.args.byte ∷ [])) _ _ c.in_ok-extend_from_slice-in-None.ensures.items
    (escaped_kept c.args.byte c.args.text.now (sym c.is_octal.ensures ∙ c.if-is_octal.false) c.if-byte-eq10.false (sym c.letter.ensures ∙ c.in-None.is))

pub returns-then-byte-eq10-clause-value : goal.returns-then-byte-eq10-clause-value
returns-then-byte-eq10-clause-value c =
    ap (λ (xs : List ℕ). c.args.out.now.items ++ xs) (sym (escaped_newline c.args.byte c.args.text.now c.if-byte-eq10.true))
