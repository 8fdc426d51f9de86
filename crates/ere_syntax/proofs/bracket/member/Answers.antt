use Rattle.std.proofs.Common.{◌∙◌, sym}
use Rattle.ere_syntax.proofs.Members.{begun_is, named_is}
use Rattle.ere_syntax.proofs.bracket.member.Goals as goal

pub returns-in-Names : goal.returns-in-Names
returns-in-Names c = rw c.in-Names.is (c.named.ensures ∙ sym (named_is c.args.text.now))

pub returns-in-Begins : goal.returns-in-Begins
returns-in-Begins c = rw c.in-Begins.is (c.begun.ensures ∙ sym (begun_is c.args.text.now))
