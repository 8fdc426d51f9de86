use Rattle.std.proofs.Common.{drop}
use Rattle.awk_resolve.specs.ViewFunctions.{view_functions}
use Rattle.sem_scripts.specs.Kinds.{with_bodies}
use Rattle.mid_program.specs.Texts.{functions_texts}
use Rattle.mid_code.specs.ViewNames.{view_bodies}
use Rattle.mid_code.proofs.TextTables.{Leads}
use Rattle.mid_code.proofs.texts.put_bodies.Given as goal

abbrev pub invariant-loop-i : goal.invariant-loop-i
invariant-loop-i l =
    Leads l.fn.texts l.texts (functions_texts (with_bodies (view_functions (drop l.i l.functions)) (view_bodies (drop l.i l.bodies)))) (functions_texts (with_bodies (view_functions l.functions) (view_bodies l.bodies)))
