use Rattle.std.proofs.Common.{◌∙◌, arith, sym}
use Rattle.host_fields.proofs.Edits.{extended}
use Rattle.host_fields.proofs.record.extend.Goals as goal

pub returns-in_ok-resize-clause-ok : goal.returns-in_ok-resize-clause-ok
returns-in_ok-resize-clause-ok c =
    let added = c.in_ok-resize.ensures.items in
    let more = c.if-count-len.true in
    let size = c.len.ensures ∙ c.args.fields.now.ok.0 in
    extended c.args.count c.args.fields.now.items c.resize.new.self.items added.0 (omega (arith, more, size)) added.1 added.2
    (sym c.resize.new.self.ok.0 ∙ c.in_ok-resize.ensures.len)
