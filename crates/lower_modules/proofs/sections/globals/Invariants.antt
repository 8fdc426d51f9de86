use Rattle.std.proofs.Common.{map, drop}
use Rattle.wasm_types.specs.View.{view_global}
use Rattle.mid_program.specs.View.{view_declared, view_mid}
use Rattle.mid_program.specs.Sorted.{kinds_of}
use Rattle.lower_model.specs.Modules.{globals_of, name_globals}
use Rattle.latched.specs.Latched.{Leads}
use Rattle.lower_modules.proofs.sections.globals.Given as goal

abbrev pub invariant-loop-name : goal.invariant-loop-name
invariant-loop-name l = Leads view_global l.all (name_globals (kinds_of (map view_declared (drop l._name-index l.mid.globals.items)))) (globals_of (view_mid l.mid))
