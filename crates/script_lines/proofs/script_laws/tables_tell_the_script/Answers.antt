use Rattle.script_lines.proofs.Tables.{lines_told, names_told}
use Rattle.script_lines.proofs.script_laws.tables_tell_the_script.Goals as goal

pub returns : goal.returns
returns c = record { names = names_told; lines = lines_told }
