use Rattle.std.proofs.Common.{sym, ap, ◌∙◌, ◌∷◌, ◌++◌, [], List, ℕ, append-nil, get_or}
use Rattle.awk_text.proofs.Octals.{adds, unescaped_backslash, unescaped_end, unescaped_plain}
use Rattle.awk_text.proofs.escapes.unescape.Goals as goal

pub loop-rest-preserved : goal.loop-rest-preserved
loop-rest-preserved c =
    adds _ _ (get_or c.loop-rest.rest.now 0 0 ∷ []) _ _ c.in_ok-push.ensures.items (unescaped_plain c.loop-rest.rest.now c.in-len1-up.len_at_least c.if-byte-eq92.false)
    ∙ c.loop-rest.invariant

pub loop-rest-preserved-in_ok-rest : goal.loop-rest-preserved-in_ok-rest
loop-rest-preserved-in_ok-rest c =
    c.in_ok-rest.ensures.value
    ∙ ap (λ (xs : List ℕ). c.loop-rest.out.items ++ xs) (sym (unescaped_backslash c.loop-rest.rest.now c.in-len1-up.len_at_least c.if-byte-eq92.true))
    ∙ c.loop-rest.invariant

pub returns : goal.returns
returns c =
    sym (append-nil c.loop-rest.out.items)
    ∙ ap (λ (xs : List ℕ). c.loop-rest.out.items ++ xs) (sym (unescaped_end c.loop-rest.rest.now c.in_default.len_below))
    ∙ c.loop-rest.invariant
