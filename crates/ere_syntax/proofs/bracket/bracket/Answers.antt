use Rattle.std.proofs.Common.{rules, ap, ◌∙◌}
use Rattle.ere_syntax.specs.Reads.{read_members}
use Rattle.ere_syntax.proofs.Members.{bracket_plain, negated_none, negated_some}
use Rattle.ere_syntax.proofs.bracket.bracket.Goals as goal

pub returns-then-not-starts : goal.returns-then-not-starts
returns-then-not-starts c = c.members.ensures ∙ bracket_plain c.args.text.now (cc)

pub returns-in-Err : goal.returns-in-Err
returns-in-Err c = negated_none c.args.text.now (cc) (c.in-Err.ensures ∙ ap read_members c.behind.ensures)

pub returns-in-Ok : goal.returns-in-Ok
returns-in-Ok c = negated_some c.args.text.now c.in-Ok.after.now c.in-Ok.set.has c.complement.result.has (cc) (search rules) c.complement.ensures (c.in-Ok.ensures ∙ ap read_members c.behind.ensures)
