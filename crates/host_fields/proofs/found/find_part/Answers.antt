use Rattle.std.proofs.Common.{◌∙◌, List, ℕ, ap}
use Rattle.std.specs.Prelude.{slice_get}
use Rattle.host_fields.proofs.Finding.{pieces_are}
use Rattle.host_fields.proofs.found.find_part.Goals as goal

pub returns-clause-text : goal.returns-clause-text
returns-clause-text c =
    c.part_in.ensures.text
    ∙ ap (λ (ps : List (List ℕ)). slice_get ps c.args.number) (pieces_are c.args.by c.args.newlines c.args.text.now c.is_empty.result c.is_empty.ensures c.if-is_empty.false)
