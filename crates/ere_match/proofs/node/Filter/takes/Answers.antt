use Rattle.std.proofs.Common.{rules, sym, ap, ◌∙◌, ◌<◌, true, false, get_or, nat_eq}
use Rattle.ere_syntax.proofs.Members.{table_get}
use Rattle.ere_match.specs.Runs.{filter_set}
use Rattle.ere_match.specs.declared.node.Filter.{Filter}
use Rattle.ere_match.proofs.node.Filter.takes.Goals as goal

pub returns-in-Byte : goal.returns-in-Byte
returns-in-Byte c =
    let small : c.args.byte < 256 = search rules in
    sym (ap (λ (f : Filter). get_or (filter_set f) c.args.byte false) c.in-Byte.is ∙ table_get (λ k. nat_eq k c.in-Byte.wanted) c.args.byte small)

pub returns-in-Any : goal.returns-in-Any
returns-in-Any c =
    let small : c.args.byte < 256 = search rules in
    sym (ap (λ (f : Filter). get_or (filter_set f) c.args.byte false) c.in-Any.is ∙ table_get (λ k. true) c.args.byte small)
