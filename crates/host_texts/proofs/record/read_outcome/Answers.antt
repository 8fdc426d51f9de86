use Rattle.std.proofs.Common.{Ok, ap, of_z, sym, to_z, ◌∙◌}
use Rattle.std.specs.Int.{w64}
use Rattle.std.proofs.lemmas.Int.{to_z-of_z}
use Rattle.host_fields.specs.Calls.{field_read}
use Rattle.host_fields.specs.Held.{Held, with_held}
use Rattle.host_texts.specs.Evaluations.{replied}
use Rattle.host_texts.specs.States.{with_texts}
use Rattle.host_values.specs.declared.reply.Reply.TheVariants as reply
use Rattle.host_texts.proofs.record.read_outcome.Goals as goal

pub returns-in_ok-value-in-Ok-clause-outcome : goal.returns-in_ok-value-in-Ok-clause-outcome
returns-in_ok-value-in-Ok-clause-outcome c = λ inner.
    let shared = with_texts c.args.texts.now inner in
    let number = to_z w64 (of_z w64 c.args.number) in
    ap (λ n. replied reply.Value (field_read n shared)) (sym (to_z-of_z w64 c.args.number c.ranges.number))
    ∙ ap (λ (held : Held). replied reply.Value (field_read number (with_held held shared))) (sym c.prepare.ensures)
    ∙ ap (replied reply.Value) (c.in-Ok.ensures.ok shared ∙ ap Ok (sym c.in_ok-value-in-Ok.ensures))
