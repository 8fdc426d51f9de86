use Rattle.std.proofs.Common.{◌++◌, ◌∙◌, List, ℕ, ap, sym, take, append_assoc}
use Rattle.awk_values.specs.Values.{text_of_value}
use Rattle.host_worlds.specs.Lines.{followed}
use Rattle.host_worlds.proofs.Joined.{followed_next}
use Rattle.host_worlds.proofs.output_line.push_others.Goals as goal

pub loop-value-preserved : goal.loop-value-preserved
loop-value-preserved c =
    let between = text_of_value c.args.between.now in
    let y = c.value-item.result in
    let before = followed between (take c.loop-value.value-index c.args.values.now) in
    c.in_ok-push_text-2.ensures
    ∙ ap (λ (r : List ℕ). r ++ text_of_value y) (c.in_ok-push_text.ensures ∙ ap (λ (r : List ℕ). r ++ between) c.loop-value.invariant)
    ∙ append_assoc (c.args.out.now.items ++ before) between (text_of_value y) ∙ append_assoc c.args.out.now.items before (between ++ text_of_value y)
    ∙ ap (λ (r : List ℕ). c.args.out.now.items ++ r) (sym (followed_next between c.args.values.now c.loop-value.value-index y c.loop-value-test.true c.value-item.is))
