use Rattle.std.proofs.Common.{ap, sym, ◌∙◌}
use denote.Enum.Bare.{same_false}
use Rattle.awk_parse.specs.contracts.mark.Mark.{the_type}
use Rattle.awk_parse.specs.Marks.{must}
use Rattle.awk_parse.specs.Seen.{seen}
use Rattle.awk_parse.proofs.Marks.{mark_else, mark_must}
use Rattle.awk_parse.proofs.mark.after.Goals as goal

pub returns-else-eq-clause-may : goal.returns-else-eq-clause-may
returns-else-eq-clause-may c =
    mark_else c.args.mark c.in_ok-found.found c.args.tokens.now _ c.in-len1-up.len_at_least (sym c.in_ok-found.ensures) (same_false the_type c.in_ok-found.found c.args.mark (sym c.if-eq.ensures))

pub returns-else-eq-clause-must : goal.returns-else-eq-clause-must
returns-else-eq-clause-must c =
    let none = mark_else c.args.mark c.in_ok-found.found c.args.tokens.now _ c.in-len1-up.len_at_least (sym c.in_ok-found.ensures) (same_false the_type c.in_ok-found.found c.args.mark (sym c.if-eq.ensures)) in
    mark_must c.args.mark (seen c.args.tokens.now) ∙ ap must none
