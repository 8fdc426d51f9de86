-- Calls of the input, of names and of assignments, computed: what is in turn, what is pending or kept for one call, the job at the start.
use Rattle.std.specs.Prelude.{◌≡◌, ℕ, pos, List, [], ◌∷◌, ◌++◌, codes, Option, Some, None, refl}
use Rattle.std.specs.Fmt.{digits}
use Rattle.awk_values.specs.declared.fault.Fault.TheVariants.{BadAssignment, OpenInput}
use Rattle.awk_values.specs.declared.value.Value.{Value}
use Rattle.awk_values.specs.declared.value.Value.TheVariants.{Uninit, Num, Text, StrNum}
use Rattle.awk_tokens.specs.Words.{keywords, builtins, left_out_words}
use Rattle.awk_text.specs.Escapes.{unescaped}
use Rattle.sem_primitives.specs.Jobs.{JobForm}
use Rattle.sem_primitives.specs.declared.table.Primitive.TheVariants as row
use Rattle.wasm_model.specs.declared.host.HostAnswer.{HostAnswer}
use Rattle.wasm_model.specs.declared.host.HostAnswer.TheVariants.{Done, Trap}
use Rattle.wasm_store.specs.declared.trap.TrapKind.TheVariants.{BadHandle, BadPointer, BadArgument}
use Rattle.wasm_store.specs.declared.word.Word.TheVariants.{I32, I64}
use Rattle.world_core.specs.WorldState.{Outside, Named, absent, replaced}
use Rattle.host_step.specs.HostState.{HostState}
use Rattle.host_step.specs.Live.{live_arrays}
use Rattle.host_step.specs.Examples.{Call, new, call, answers, after, done, gives, counts, fails, fails_wide, start, holding, with_outside, input, nowhere, file, no_job}
use Rattle.host_step.specs.Starts.{state_at_start}
use Rattle.host_step.specs.Tables.{look}
use Rattle.host_imports.specs.declared.import.Import.{Import}
use Rattle.host_imports.specs.declared.import.Import.TheVariants.{OfPrimitive, Variadic, Arg, Drop, IterFree, FreeArray}

abbrev value_after : List ℕ → HostState → List Call → ℕ → Option Value
value_after memory s calls h = look (after memory s calls).names.values (pos h)

-- The job.

abbrev with_operands : List (List ℕ) → HostState
with_operands operands = state_at_start (record no_job { operands = operands }) (input []) nowhere

-- ARGC and ARGV
pub argc_counted : value_after [] (with_operands (codes "f" ∷ [])) (new 0 (OfPrimitive row.GetSpecial) (I32 0 ∷ []) ∷ []) 0 ≡ Some (Num (pos 2))
argc_counted = refl

pub operand_given : value_after (codes "1") (with_operands (codes "f" ∷ [])) (new 0 (OfPrimitive row.Lit) (I32 0 ∷ I32 1 ∷ [])
    ∷ new 1 (OfPrimitive row.Elem) (I32 0 ∷ I32 0 ∷ []) ∷ []) 1 ≡ Some (StrNum (codes "f"))
unfolding digits
operand_given = refl

-- a later pair of the environment replaces an earlier one
pub environment_replaced : value_after (codes "HOME") (state_at_start (record no_job {
  environment = (codes "HOME", codes "/a") ∷ (codes "X", [])
      ∷ (codes "HOME", codes "/b") ∷ [];
}) (input []) nowhere) (new 0 (OfPrimitive row.Lit) (I32 0 ∷ I32 4 ∷ [])
    ∷ new 1 (OfPrimitive row.Elem) (I32 1 ∷ I32 0 ∷ []) ∷ []) 1 ≡ Some (StrNum (codes "/b"))
environment_replaced = refl

-- Names and assignments: `-v v=7 -v OFS=-`, where `v` is a scalar of the script.

abbrev with_assigns : HostState
with_assigns = state_at_start (record no_job {
  assigns = (codes "OFS", codes "-") ∷ (codes "v", codes "7") ∷ (codes "unused", codes "x")
      ∷ [];
}) (input []) nowhere

abbrev declares : Call
declares = call (OfPrimitive row.Declare) (I32 0 ∷ I32 1 ∷ I32 0 ∷ [])

-- one that is pending is to be made before the next, and before the main input is read; its value is given once
pub assignment_pending : answers (codes "v") with_assigns
    (declares ∷ call (OfPrimitive row.PendingName) [] ∷ call (OfPrimitive row.StartAssign) [] ∷ call (OfPrimitive row.StartAssign) [] ∷ call (OfPrimitive row.NextMain) []
    ∷ call (OfPrimitive row.Getline) [] ∷ call (OfPrimitive row.GetlineVar) [] ∷ call (OfPrimitive row.PendingName) [] ∷ new 0 (OfPrimitive row.PendingValue) []
    ∷ call (OfPrimitive row.PendingValue) [] ∷ call (OfPrimitive row.StartAssign) [] ∷ call (OfPrimitive row.StartAssign) [] ∷ [])
    ≡ done ∷ Trap BadArgument ∷ gives 2 ∷ Trap BadArgument ∷ Trap BadArgument ∷ Trap BadArgument ∷ Trap BadArgument ∷ gives 0 ∷ gives 0
    ∷ Trap BadArgument ∷ gives 0 ∷ gives 0 ∷ []
unfolding keywords builtins left_out_words
assignment_pending = refl

pub assigned_value : value_after (codes "v") with_assigns (declares ∷ call (OfPrimitive row.StartAssign) [] ∷ new 0 (OfPrimitive row.PendingValue) [] ∷ []) 0
    ≡ Some (StrNum (codes "7"))
unfolding keywords builtins left_out_words unescaped
assigned_value = refl

-- the one to a special variable was made by the host
pub special_assigned : value_after (codes "v") with_assigns (declares ∷ call (OfPrimitive row.StartAssign) []
    ∷ new 0 (OfPrimitive row.GetSpecial) (I32 8 ∷ []) ∷ []) 0 ≡ Some (StrNum (codes "-"))
unfolding keywords builtins left_out_words unescaped
special_assigned = refl

-- to a function
pub assigned_to_a_function : (after (codes "v") with_assigns (call (OfPrimitive row.Declare) (I32 0 ∷ I32 1 ∷ I32 1 ∷ [])
    ∷ call (OfPrimitive row.StartAssign) [] ∷ [])).fault ≡ Some BadAssignment
unfolding keywords builtins left_out_words
assigned_to_a_function = refl

pub declared_twice : answers (codes "vw") start (declares ∷ declares ∷ call (OfPrimitive row.Declare) (I32 1 ∷ I32 1 ∷ I32 2 ∷ [])
    ∷ call (OfPrimitive row.Declare) (I32 1 ∷ I32 2 ∷ I32 0 ∷ []) ∷ call (OfPrimitive row.Declare) (I32 1 ∷ I32 1 ∷ I32 1 ∷ []) ∷ [])
    ≡ done ∷ Trap BadArgument ∷ Trap BadArgument ∷ Trap BadPointer ∷ done ∷ []
declared_twice = refl

-- Input.

abbrev reading : List ℕ → HostState
reading bytes = state_at_start no_job (input bytes) nowhere

-- two records, then the end, which stays
pub records_read : answers [] (reading (codes "a" ++ 10 ∷ codes "b")) (call (OfPrimitive row.NextMain) [] ∷ call (OfPrimitive row.Getline) []
    ∷ call (OfPrimitive row.NextMain) [] ∷ call (OfPrimitive row.Getline) [] ∷ []) ≡ gives 1 ∷ gives 1 ∷ gives 0 ∷ gives 0 ∷ []
records_read = refl

-- the rest of the input is given up; where nothing is being read nothing is
pub rest_given_up : answers [] (reading (codes "a" ++ 10 ∷ codes "b")) (call (OfPrimitive row.NextFile) [] ∷ call (OfPrimitive row.NextMain) [] ∷ call (OfPrimitive row.NextFile) []
    ∷ call (OfPrimitive row.NextMain) [] ∷ []) ≡ gives 0 ∷ gives 1 ∷ gives 0 ∷ gives 0 ∷ []
rest_given_up = refl

-- a line for a variable is given once, and there is none before
pub line_once : answers [] (reading (codes "a" ++ 10 ∷ [])) (call (OfPrimitive row.Line) [] ∷ call (OfPrimitive row.GetlineVar) [] ∷ new 3 (OfPrimitive row.Line) []
    ∷ call (OfPrimitive row.Line) [] ∷ []) ≡ Trap BadArgument ∷ gives 1 ∷ gives 3 ∷ Trap BadArgument ∷ []
line_once = refl

pub line_read : value_after [] (reading (codes "a" ++ 10 ∷ [])) (call (OfPrimitive row.GetlineVar) [] ∷ new 3 (OfPrimitive row.Line) [] ∷ []) 3
    ≡ Some (StrNum (codes "a"))
line_read = refl

-- in END nothing is left
pub nothing_in_end : answers [] (reading (codes "a" ++ 10 ∷ [])) (call (OfPrimitive row.BeginEnd) [] ∷ call (OfPrimitive row.Getline) []
    ∷ call (OfPrimitive row.GetlineVar) [] ∷ []) ≡ done ∷ gives 0 ∷ gives 0 ∷ []
nothing_in_end = refl

-- a file that is not there: -1 for getline, which is 3, and OpenInput in the main loop
pub missing_for_getline : answers [] (with_operands (codes "f" ∷ [])) (call (OfPrimitive row.Getline) [] ∷ []) ≡ gives 3 ∷ []
unfolding digits
missing_for_getline = refl

pub missing_operand : (after [] (with_operands (codes "f" ∷ [])) (call (OfPrimitive row.NextMain) [] ∷ [])).fault ≡ Some OpenInput
unfolding digits
missing_operand = refl

-- a file by its name: a record, the end, closed, closed again
abbrev one_file : HostState
one_file = with_outside (replaced (Named (codes "f")) (file (codes "x" ++ 10 ∷ [])) nowhere) (holding (Text (codes "f") ∷ Text (codes "f")
    ∷ Text (codes "f") ∷ Text (codes "f") ∷ Text (codes "g") ∷ []))

pub file_read : answers [] one_file (call (OfPrimitive row.GetlineFile) (I32 0 ∷ []) ∷ call (OfPrimitive row.GetlineVarFile) (I32 1 ∷ [])
    ∷ call (OfPrimitive row.Close) (I32 2 ∷ []) ∷ call (OfPrimitive row.Close) (I32 3 ∷ []) ∷ call (OfPrimitive row.GetlineFile) (I32 4 ∷ []) ∷ call Drop (I32 4 ∷ []) ∷ [])
    ≡ gives 1 ∷ gives 0 ∷ gives 0 ∷ gives 3 ∷ gives 3 ∷ Trap BadHandle ∷ []
file_read = refl
