-- Which functions are small enough for a module.
use Rattle.std.specs.Prelude.{◌≤◌, length}
use Rattle.std.specs.List.{AllByRecursion}
use Rattle.wasm_types.specs.Profile.{most_nesting}
use Rattle.mid_program.specs.Mid.{Routine, Program, Steps}
use Rattle.lower_model.specs.Functions.{main_bases, routine_bases}
use Rattle.lower_modules.specs.Fits.{FewLocals}
use Rattle.lower_modules.specs.Labels.{steps_labels}
use Rattle.lower_pieces.specs.Bounds.{most_places}

-- labels stand in one another as far as blocks do in a module
abbrev pub IsShallow : Steps → Type 0
IsShallow steps = steps_labels steps ≤ most_nesting

abbrev pub RoutineIsSmall : Routine → Type 0
RoutineIsSmall routine = FewLocals (routine_bases routine) × IsShallow routine.body

abbrev pub MainIsSmall : Program → Type 0
MainIsSmall program = FewLocals (main_bases program) × (IsShallow program.begin × (IsShallow program.items × IsShallow program.end))

-- few functions, and each of them small
abbrev pub AreSmallEnough : Program → Type 0
AreSmallEnough program = (length program.routines ≤ most_places) × (AllByRecursion RoutineIsSmall program.routines × MainIsSmall program)
