use Rattle.command_line.proofs.check_command.Goals as goal

pub returns : goal.returns
returns c = c.with_arg.ensures _ _ c.single_arg-script.ensures.rule c.named_command.ensures
