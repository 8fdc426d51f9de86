use Rattle.command_line.proofs.exec_command.Goals as goal

pub returns : goal.returns
returns c = c.with_arg.ensures _ _ c.flag_arg.ensures.rule c.task_command-command.ensures
