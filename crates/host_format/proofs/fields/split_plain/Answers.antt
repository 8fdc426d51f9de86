use Rattle.std.proofs.Common.{refl, sym, ap, subst, ◌∙◌}
use Rattle.std.specs.Prelude.{OnOk}
use Rattle.std.proofs.lemmas.Result.{on_ok_weaker}
use Rattle.sem_primitives.specs.Fields.{Byte, pieces_of}
use Rattle.host_format.specs.Marks.{pieces_by}
use Rattle.host_format.specs.Separators.{separator_by}
use Rattle.host_format.specs.Spans.{AreSpans}
use Rattle.host_format.specs.declared.marks.Marks.{Marks}
use Rattle.host_format.specs.declared.sep.Plain.{Plain}
use Rattle.host_format.proofs.Fielded.{byte_pieces, parts_of}
use Rattle.host_format.proofs.fields.split_plain.Goals as goal

pub returns-in-Byte : goal.returns-in-Byte
returns-in-Byte c =
    let text = c.args.text.now in
    let spans = c.split_by-in-Byte.new.spans.items in
    let same = ap (λ (m : Marks). pieces_by m text) c.byte_marks.ensures ∙ byte_pieces c.in-Byte.byte (Byte c.in-Byte.byte) c.args.newlines text refl in
    let parts = on_ok_weaker c.split_by-in-Byte.result (λ h. parts_of (Byte c.in-Byte.byte) c.args.newlines text spans (pieces_by c.byte_marks.result text) c.is_empty.result c.is_empty.ensures c.if-is_empty.false same h) c.split_by-in-Byte.ensures in
    subst (λ (by : Plain). OnOk c.split_by-in-Byte.result (AreSpans text spans (pieces_of (separator_by by) c.args.newlines text))) (sym c.in-Byte.is) parts
