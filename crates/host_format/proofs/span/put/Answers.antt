use Rattle.std.proofs.Common.{◌<◌, subst, take, ◌∙◌}
use Rattle.std.proofs.lemmas.List.{take_more_set}
use Rattle.host_format.specs.declared.span.Span.{Span}
use Rattle.host_format.proofs.Pieces.{part_pushed}
use Rattle.host_format.proofs.span.put.Goals as goal

pub returns-then-at-len-clause-parts : goal.returns-then-at-len-clause-parts
returns-then-at-len-clause-parts c = λ text rest total a b s.
    let spans = c.args.spans.now in
    let at = c.args.at in
    let span : Span = record { start = c.args.start; end = c.args.end } in
    let less = subst (λ n. at < n) (c.len.ensures ∙ spans.ok.0) c.if-at-len.true in
    part_pushed text (take at spans.items) _ c.args.start c.args.end rest total a b (take_more_set spans.items at span less) s
