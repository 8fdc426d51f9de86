use Rattle.command_line.proofs.names_command.Goals as goal

pub returns : goal.returns
returns c = c.with_arg.ensures _ _ c.names_arg-2.ensures.rule (c.with_arg-command.ensures _ _ c.names_arg.ensures.rule c.fences_command-command.ensures)
