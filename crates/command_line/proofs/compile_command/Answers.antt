use Rattle.command_line.proofs.compile_command.Goals as goal

pub returns : goal.returns
returns c = c.with_arg.ensures _ _ c.flag_arg.ensures.rule (c.with_arg-command-2.ensures _ _ c.single_arg-out.ensures.rule (c.with_arg-command.ensures _ _ c.single_arg-script.ensures.rule c.named_command.ensures))
