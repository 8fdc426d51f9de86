use Rattle.std.proofs.Common.{refl}
use Rattle.sem_primitives.specs.Fields.{Expression, pieces}
use Rattle.host_format.proofs.Fielded.{parts_of}
use Rattle.host_format.proofs.fields.split_by_expression.Goals as goal

pub returns-clause-ok : goal.returns-clause-ok
returns-clause-ok c = λ t is.
    let text = c.args.text.now in
    parts_of (Expression t) c.args.newlines text c.split_by_ere.new.spans.items (pieces (Expression t) c.args.newlines text) c.is_empty.result c.is_empty.ensures c.if-is_empty.false refl (c.in_ok-split_by_ere.ensures.ok t is)
