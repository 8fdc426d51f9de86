use Rattle.std.proofs.Common.{◌≡◌, length, map}
use Rattle.script_places.specs.Lines.{form_of}
use Rattle.run_modules.specs.ModuleSeen.{AreLineSites}
use Rattle.run_modules.proofs.module_sights.line_sites.Given as goal

abbrev pub invariant-loop-number : goal.invariant-loop-number
invariant-loop-number l =
    AreLineSites (map form_of l.table) l.machine.program l.machine.conf l.sites.items × (length l.sites.items ≡ l.number)
