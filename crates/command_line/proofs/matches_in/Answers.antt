use Rattle.std.proofs.Common.{◌∙◌, ap, map, subst}
use Rattle.std.proofs.lemmas.Result.{IfErr-weaker, IfOk-weaker}
use Rattle.clap.specs.Words.{App, FailsBy, fault_of, is_simple, is_simple_and_free, matches_of, subcommand_of, takes}
use Rattle.command_line.proofs.LineLemmas.{line_is_free, line_is_simple}
use Rattle.command_line.proofs.matches_in.Goals as goal

pub returns-clause-ok : goal.returns-clause-ok
returns-clause-ok c =
    let parse = c.try_get_matches_from in
    IfOk-weaker parse.result _ _ (λ m h. let same = h (ap is_simple c.in_ok-command.ensures ∙ line_is_simple c.args.named) in (
      same.0 ∙ ap (λ (a : App). matches_of a (map (λ s. s.now) c.args.words.now)) c.in_ok-command.ensures,
      same.1 ∙ ap (λ (a : App). subcommand_of a (map (λ s. s.now) c.args.words.now)) c.in_ok-command.ensures,
    )) parse.ensures.matches

pub returns-clause-err : goal.returns-clause-err
returns-clause-err c =
    let parse = c.try_get_matches_from in
    IfErr-weaker parse.result _ _ (λ e h taken. h (ap (λ (a : App). takes a (map (λ s. s.now) c.args.words.now)) c.in_ok-command.ensures ∙ taken)) parse.ensures.passes

pub returns-clause-kinds : goal.returns-clause-kinds
returns-clause-kinds c =
    let parse = c.try_get_matches_from in
    subst (λ (a : App). FailsBy (fault_of a (map (λ s. s.now) c.args.words.now)) parse.result) c.in_ok-command.ensures
    (parse.ensures.kinds (ap is_simple_and_free c.in_ok-command.ensures ∙ line_is_free c.args.named))
