use Rattle.std.proofs.Common.{◌∙◌, sym}
use Rattle.world_os.proofs.PathLemmas.{input_is_path}
use Rattle.world_os.proofs.world.OsWorld.to_read.Goals as goal

pub returns-then-names_input-clause-path : goal.returns-then-names_input-clause-path
returns-then-names_input-clause-path g c = input_is_path c.args.name.now (sym c.names_input.ensures ∙ c.if-names_input.true)
