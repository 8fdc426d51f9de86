use Rattle.command_line.proofs.command.Goals as goal

pub returns : goal.returns
returns c = c.with_subcommand.ensures _ _ (c.with_subcommand-line-6.ensures _ _ (c.with_subcommand-line-5.ensures _ _ (c.with_subcommand-line-4.ensures _ _ (c.with_subcommand-line-3.ensures _ _ (c.with_subcommand-line-2.ensures _ _ (c.with_subcommand-line.ensures _ _ c.top_command.ensures c.compile_command.ensures) c.check_command.ensures) c.run_in.ensures) c.count_in.ensures) c.exec_in.ensures) c.imports_command.ensures) c.explain_command.ensures
