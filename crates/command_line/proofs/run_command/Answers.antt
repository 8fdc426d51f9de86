use Rattle.command_line.proofs.run_command.Goals as goal

pub returns : goal.returns
returns c = c.with_arg.ensures _ _ c.flag_arg-2.ensures.rule (c.with_arg-command.ensures _ _ c.flag_arg.ensures.rule c.task_command-command.ensures)
