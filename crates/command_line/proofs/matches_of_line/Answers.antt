use Rattle.std.proofs.Common.{◌∙◌, map, subst, sym}
use Rattle.command_line.specs.Line.{line_for}
use Rattle.command_line.specs.declared.Named.{Named}
use Rattle.command_line.proofs.NamedLemmas.{SameParse, same}
use Rattle.command_line.proofs.matches_of_line.Goals as goal

pub returns-in-Ok-clause-ok : goal.returns-in-Ok-clause-ok
returns-in-Ok-clause-ok c =
    let is = subst (λ (n : Named). SameParse (line_for n) (map (λ s. s.now) c.args.words.now)) (sym c.named_in.ensures) (same c.args.words.now) in
    (c.in-Ok.ensures.ok.0 ∙ is.matches, c.in-Ok.ensures.ok.1 ∙ is.subcommand)

pub returns-in-Ok-clause-faultless : goal.returns-in-Ok-clause-faultless
returns-in-Ok-clause-faultless c =
    let is = subst (λ (n : Named). SameParse (line_for n) (map (λ s. s.now) c.args.words.now)) (sym c.named_in.ensures) (same c.args.words.now) in
    sym is.fault ∙ c.in-Ok.ensures.kinds
