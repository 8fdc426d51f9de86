use Rattle.std.proofs.Common.{◌++◌, ap, ◌∙◌}
use Rattle.sem_primitives.specs.Formats.{zeros}
use Rattle.host_bytes.specs.Conversions.{places_text}
use Rattle.host_bytes.proofs.Padded.{filled_more}
use Rattle.host_bytes.proofs.padding.Parts.filled.Goals as goal

pub returns-clause-body : goal.returns-clause-body
returns-clause-body c =
    let rest = c.args.self.digits.now ++ places_text c.args.self.places in
    ap (λ n. zeros n ++ rest) c.max-zeros.ensures ∙ filled_more c.args.width c.args.self.zeros c.gap.result c.args.self.front.now rest c.gap.ensures
