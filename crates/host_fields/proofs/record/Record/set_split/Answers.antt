use Rattle.std.proofs.Common.{◌^◌, ◌<◌, ◌≤◌, ◌∙◌, Global, List, Vec, ℕ, map, sym, subst, ap, Ok}
use Rattle.awk_values.specs.declared.value.Value.{Value}
use Rattle.awk_values.specs.declared.value.Value.TheVariants.{StrNum}
use Rattle.host_fields.specs.Held.{field_at, fields_in, with_held}
use Rattle.host_fields.specs.declared.fields.Form.TheVariants.{Parts}
use Rattle.host_format.specs.declared.span.Span.{Span}
use Rattle.host_fields.specs.Splits.{AreFields}
use Rattle.host_fields.proofs.Splitting.{split_is, split_past}
use Rattle.host_fields.proofs.record.Record.set_split.Goals as goal

pub returns-then-len-gt-MAX_FIELDS-clause-err : goal.returns-then-len-gt-MAX_FIELDS-clause-err
returns-then-len-gt-MAX_FIELDS-clause-err c = λ inner p q.
    let spans = c.split.new.spans in
    let are = subst (λ (text : List ℕ). AreFields c.args.fs.now c.do_newlines_separate-newlines.result text spans.items) c.as_slice.ensures.value c.in_ok-split.ensures.ok in
    let many = subst (λ n. 2 ^ 20 < n) (c.len.ensures ∙ spans.ok.0) c.if-len-gt-MAX_FIELDS.true in
    split_past inner c.args.fs.now c.args.rs.now c.args.text c.do_newlines_separate-newlines.result spans.items c.do_newlines_separate-newlines.ensures p q are many

pub returns-clause-ok : goal.returns-clause-ok
returns-clause-ok c = λ inner p q.
    let spans = c.split.new.spans in
    let are = subst (λ (text : List ℕ). AreFields c.args.fs.now c.do_newlines_separate-newlines.result text spans.items) c.as_slice.ensures.value c.in_ok-split.ensures.ok in
    let few = subst (λ n. n ≤ 2 ^ 20) (c.len.ensures ∙ spans.ok.0) c.if-len-gt-MAX_FIELDS.false in
    split_is inner c.args.fs.now c.args.rs.now c.args.text c.do_newlines_separate-newlines.result spans.items c.do_newlines_separate-newlines.ensures p q are few
    ∙ ap (λ (vs : Vec Span Global). Ok (with_held (record { whole = StrNum c.args.text; fields = map (field_at c.args.text) vs.items }) inner)) (sym c.swap.ensures.x_after)
    ∙ ap (λ (w : Value). Ok (with_held (record { whole = w; fields = fields_in Parts w c.swap.new.x.items c.clear.new.self.items }) inner)) (sym c.put_text.ensures)
