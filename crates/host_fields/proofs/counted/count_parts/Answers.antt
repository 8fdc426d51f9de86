use Rattle.std.proofs.Common.{◌+◌, ◌∙◌, ℕ, ap}
use Rattle.host_fields.proofs.Counting.{parts_pieces}
use Rattle.host_fields.proofs.counted.count_parts.Goals as goal

pub returns : goal.returns
returns c = ap (λ (n : ℕ). n + 1) c.count_ends.ensures.count ∙ parts_pieces c.args.byte c.args.newlines c.args.text.now c.requires
