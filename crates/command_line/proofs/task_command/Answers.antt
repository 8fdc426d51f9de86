use Rattle.command_line.proofs.task_command.Goals as goal

pub returns : goal.returns
returns c = c.with_arg.ensures _ _ c.free_arg.ensures.rule (c.with_arg-command.ensures _ _ c.single_arg.ensures.rule c.limits_command-command.ensures)
