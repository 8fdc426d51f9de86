use Rattle.std.proofs.Common.{[], ◌∷◌}
use Rattle.awk_text.proofs.Octals.{adds, escaped_end}
use Rattle.awk_text.proofs.escapes.push_behind.Goals as goal

pub returns-in_ok-push-in-empty-clause-value : goal.returns-in_ok-push-in-empty-clause-value
returns-in_ok-push-in-empty-clause-value c =
    adds _ _ (92 ∷ []) _ _ c.in_ok-push-in-empty.ensures.items (escaped_end c.args.text.now c.in-empty.len_below)
