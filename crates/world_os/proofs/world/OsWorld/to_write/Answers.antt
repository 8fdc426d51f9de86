use Rattle.std.proofs.Common.{◌∙◌, sym}
use Rattle.world_os.proofs.PathLemmas.{errors_is_path, output_is_path}
use Rattle.world_os.proofs.world.OsWorld.to_write.Goals as goal

pub returns-then-names_output-clause-path : goal.returns-then-names_output-clause-path
returns-then-names_output-clause-path g c = output_is_path c.args.name.now (sym c.names_output.ensures ∙ c.if-names_output.true)

pub returns-then-names_errors-clause-path : goal.returns-then-names_errors-clause-path
returns-then-names_errors-clause-path g c = errors_is_path c.args.name.now (sym c.names_errors.ensures ∙ c.if-names_errors.true)
