-- The line is simple, and no argument has a rule on another one, so its matches and its errors follow from its words; and what a command is with one more argument, or a line with one more subcommand.
use Rattle.std.proofs.Common.{◌≡◌, ◌∙◌, ◌||◌, false, true, ap, ap₂, refl}
use Rattle.clap.specs.Words.{App, Rule, app_of, is_simple, is_simple_and_free, rule_of, with_rule, with_subcommand}
use Rattle.clap.specs.Built.{AddsArg, AddsSubcommand}
use Rattle.clap.specs.declared.builder.arg.Arg.{Arg}
use Rattle.clap.specs.declared.builder.command.Command.{Command}
use Rattle.clap.proofs.OnLiterals.{clap_on_literals}
use Rattle.command_line.specs.Line.{Builds, line_for}
use Rattle.command_line.specs.declared.Named.{Named}
use Rattle.command_line.specs.declared.Named.TheVariants.{Run, Count, Exec, Other}

pub line_is_simple : (named : Named) → is_simple (line_for named) ≡ true
unfolding clap_on_literals
line_is_simple Run = refl
line_is_simple Count = refl
line_is_simple Exec = refl
line_is_simple Other = refl

pub line_is_free : (named : Named) → is_simple_and_free (line_for named) ≡ true
unfolding clap_on_literals
line_is_free Run = refl
line_is_free Count = refl
line_is_free Exec = refl
line_is_free Other = refl

pub one_arg : (before after : Command) (arg : Arg) (a : App) (r : Rule) → arg.global ≡ false → rule_of arg ≡ r → Builds a before → AddsArg before arg after → Builds (with_rule a r) after
one_arg before after arg a r local rule built adds = record { is = adds.shape local ∙ ap₂ with_rule built.is rule; local = adds.globals ∙ ap₂ ◌||◌ built.local local }

pub one_more : (before sub after : Command) (a b : App) → app_of before ≡ a → Builds b sub → AddsSubcommand before sub after → app_of after ≡ with_subcommand a b.top
one_more before sub after a b same built adds = adds.shape built.local ∙ ap₂ with_subcommand same (ap (λ (x : App). x.top) built.is)
