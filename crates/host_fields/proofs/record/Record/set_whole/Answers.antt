use Rattle.std.proofs.Common.{◌^◌, ◌<◌, ◌∙◌, sym, subst, ap, Ok}
use Rattle.awk_values.specs.declared.value.Value.{Value}
use Rattle.host_fields.specs.Held.{fields_in, with_held}
use Rattle.host_fields.specs.declared.fields.Form.TheVariants.{Later}
use Rattle.host_fields.proofs.Splitting.{later_is}
use Rattle.host_fields.proofs.record.Record.set_whole.Goals as goal

pub returns-then-len-lt-MAX_FIELDS-clause-ok : goal.returns-then-len-lt-MAX_FIELDS-clause-ok
returns-then-len-lt-MAX_FIELDS-clause-ok c = λ inner p q.
    let short = subst (λ n. n < 2 ^ 20) c.len.ensures c.if-len-lt-MAX_FIELDS.true in
    later_is inner c.args.fs.now c.args.rs.now c.args.text c.do_newlines_separate-newlines.result c.in-Some.by c.do_newlines_separate-newlines.ensures p q c.in-Some.ensures short
    ∙ ap (λ (w : Value). Ok (with_held (record { whole = w; fields = fields_in (Later c.in-Some.by c.do_newlines_separate-newlines.result) w c.self.inside.spans.items c.clear.new.self.items }) inner)) (sym c.put_text.ensures)
