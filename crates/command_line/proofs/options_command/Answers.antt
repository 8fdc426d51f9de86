use Rattle.command_line.proofs.options_command.Goals as goal

pub returns : goal.returns
returns c = c.with_arg.ensures _ _ c.number_arg.ensures.rule (c.with_arg-command-2.ensures _ _ c.letter_arg-assign.ensures.rule (c.with_arg-command.ensures _ _ c.letter_arg-separator.ensures.rule c.named_command.ensures))
