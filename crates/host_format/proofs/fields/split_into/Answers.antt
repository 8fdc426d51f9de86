use Rattle.std.proofs.Common.{ap, subst, ◌∙◌}
use Rattle.host_format.specs.Marks.{pieces_by}
use Rattle.host_format.specs.Separators.{IsSep}
use Rattle.host_format.specs.declared.marks.Marks.{Marks}
use Rattle.host_format.specs.declared.sep.Sep.{Sep}
use Rattle.host_format.proofs.Fielded.{byte_pieces, parts_of}
use Rattle.host_format.proofs.fields.split_into.Goals as goal

pub returns-in_ok-split_by-in-Byte-clause-ok : goal.returns-in_ok-split_by-in-Byte-clause-ok
returns-in_ok-split_by-in-Byte-clause-ok c = λ s x.
    let text = c.args.text.now in
    let own = subst (λ (sep : Sep). IsSep sep s) c.in-Byte.is x in
    let same = ap (λ (m : Marks). pieces_by m text) c.byte_marks-marks.ensures ∙ byte_pieces c.in-Byte.byte s c.args.newlines text own in
    parts_of s c.args.newlines text c.split_by-in-Byte.new.spans.items (pieces_by c.byte_marks-marks.result text) c.is_empty.result c.is_empty.ensures c.if-is_empty.false same c.in_ok-split_by-in-Byte.ensures
