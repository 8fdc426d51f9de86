use Rattle.std.proofs.Common.{◌≡◌, drop, map}
use Rattle.sem_scripts.specs.Names.{special_in}
use Rattle.mid_code.specs.ViewNames.{plain_special}
use Rattle.mid_code.proofs.names.special_in.Given as goal

abbrev pub invariant-loop-entry : goal.invariant-loop-entry
invariant-loop-entry l = special_in (map plain_special (drop l.entry-index l.table)) l.name ≡ special_in (map plain_special l.table) l.name
