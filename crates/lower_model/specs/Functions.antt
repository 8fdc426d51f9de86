-- What the code of a program is emitted for, and its functions.
use Rattle.std.specs.Prelude.{ℕ, zero, max, List, [], ◌++◌}
use Rattle.wasm_types.specs.declared.types.ValType.TheVariants.{I32, I64}
use Rattle.mid_program.specs.Mid.{Routine, Program}
use Rattle.mid_program.specs.Sorted.{kinds_of, calls_of, announced_names}
use Rattle.lower_model.specs.Machine.{Callee}
use Rattle.lower_model.specs.Places.{Bases, local_types, bases_for, steps_room, steps_iterators, steps_arrays}
use Rattle.lower_model.specs.Emission.{Layout}
use Rattle.lower_model.specs.Statements.{routine_body, main_body}

-- the texts of the script, and the names that it announces
abbrev pub texts_of : Program → List (List ℕ)
texts_of program = program.texts ++ announced_names program

abbrev pub layout_of : Program → Bases → Layout
layout_of program bases =
    record { texts = texts_of program; ranges = program.ranges; names = kinds_of program.globals; calls = calls_of program; lenders = program.lenders; bases = bases }

abbrev pub routine_bases : Routine → Bases
routine_bases routine = bases_for routine.parameters routine.body

-- those of all the steps of `main`, which reads records and makes assignments with two temporaries
abbrev pub main_bases : Program → Bases
main_bases program = record {
  parameters = zero;
  temporaries = max 2 (max (steps_room program.begin) (max (steps_room program.items) (steps_room program.end)));
  iterators = max (steps_iterators program.begin) (max (steps_iterators program.items) (steps_iterators program.end));
  arrays = max (steps_arrays program.begin) (max (steps_arrays program.items) (steps_arrays program.end));
}

abbrev pub routine_callee : Program → Routine → Callee
routine_callee program routine = record {
  kinds = routine.parameters;
  locals = local_types (routine_bases routine);
  answer = I64;
  body = routine_body
      (layout_of program (routine_bases routine)) routine.parameters routine.body;
}

abbrev pub main_callee : Program → Callee
main_callee program = record {
  kinds = [];
  locals = local_types (main_bases program);
  answer = I32;
  body = main_body (layout_of program (main_bases program)) program;
}
