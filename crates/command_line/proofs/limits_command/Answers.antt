use Rattle.command_line.proofs.limits_command.Goals as goal

pub returns : goal.returns
returns c = c.with_arg.ensures _ _ c.flag_arg.ensures.rule (c.with_arg-command-2.ensures _ _ c.number_arg-2.ensures.rule (c.with_arg-command.ensures _ _ c.number_arg.ensures.rule c.names_command-command.ensures))
