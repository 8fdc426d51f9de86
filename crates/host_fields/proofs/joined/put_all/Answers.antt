use Rattle.std.proofs.Common.{◌++◌, ◌-◌, ◌∙◌, List, ℕ, ap, drop, length, take}
use Rattle.awk_values.specs.Values.{text_of_value}
use Rattle.host_fields.proofs.Joins.{followed, started}
use Rattle.host_fields.proofs.joined.put_all.Goals as goal

pub loop-value-init : goal.loop-value-init
loop-value-init c =
    let values = c.args.values.now in
    let first = c.first-item.result in
    let begun = c.in_ok-put_value.ensures ∙ ap (λ (out : List ℕ). out ++ text_of_value first) c.requires in
    ap (λ (out : List ℕ). out ++ followed c.args.between.now (take (length values - 1) (drop 1 values))) begun
    ∙ started c.args.between.now values first c.in-len1-up.len_at_least c.first-item.is
