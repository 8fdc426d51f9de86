use Rattle.command_line.proofs.explain_command.Goals as goal

pub returns : goal.returns
returns c = c.with_arg.ensures _ _ c.free_arg-name.ensures.rule c.named_command.ensures
