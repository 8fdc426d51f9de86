-- The run of a program's code on the machine over values.
use Rattle.std.specs.Prelude.{ℕ, suc, List, [], ◌∷◌, ◌++◌, map, replicate, Option, None}
use Rattle.sem_primitives.specs.Jobs.{fault_of_job, shared_in}
use Rattle.wasm_store.specs.declared.word.Word.TheVariants as word
use Rattle.mid_program.specs.Mid.{Kind, Program}
use Rattle.mid_program.specs.Sorted.{kinds_of}
use Rattle.sem_scripts.specs.ScriptRun.{Setting, Ending}
use Rattle.lower_model.specs.Cells.{Cell, Bits, Gone, bare_names}
use Rattle.lower_model.specs.ImportCalls.{Host}
use Rattle.lower_model.specs.Machine.{Notes, no_notes, Code, Conf, at, zeros, go, ending_at}
use Rattle.lower_model.specs.Places.{memory_of}
use Rattle.lower_model.specs.Small.{minus_one, least}
use Rattle.lower_model.specs.Functions.{texts_of, routine_callee, main_callee}

-- what is there before a module starts: no handle, no text that waits, and no number yet
abbrev pub zero_ranges : ℕ → List Cell
zero_ranges ranges = replicate ranges (Bits (word.I32 0))

abbrev pub empty_names : List Kind → List Cell
empty_names [] = []
empty_names (kind ∷ kinds) = Bits (word.I32 minus_one) ∷ (Bits (word.I64 least) ∷ empty_names kinds)

abbrev pub first_globals : Program → List Cell
first_globals program = Bits (word.I32 0) ∷ (Bits (word.I64 0) ∷ (Gone ∷ (zero_ranges program.ranges ++ empty_names (kinds_of program.globals))))

abbrev pub noting_code : Notes → Program → ℕ → Code
noting_code notes program deepest = record {
  memory = memory_of (texts_of program);
  before = suc (suc (suc program.ranges));
  names = kinds_of program.globals;
  bare = bare_names program.globals;
  callees = map (routine_callee program) program.routines;
  deepest = deepest;
  notes = notes;
}

abbrev pub code_of : Program → ℕ → Code
code_of program deepest = noting_code no_notes program deepest

abbrev pub host_at_start : Setting → Host
host_at_start s = record { shared = shared_in s.job s.input s.outside; arguments = []; fault = fault_of_job s.job }

abbrev pub begun : Program → Setting → Conf
begun program setting =
    let main = main_callee program in
    at [] [] [] (zeros main.locals) [] main.body (record { globals = first_globals program; host = host_at_start setting; assigning = None })

-- how a run with notes shows after so many steps; none where the machine is stuck
abbrev pub noting_run : Notes → Program → Setting → ℕ → Option Ending
noting_run notes program setting steps = ending_at (go (noting_code notes program setting.deepest) steps (begun program setting))

-- how the module's run shows
abbrev pub value_run : Program → Setting → ℕ → Option Ending
value_run program setting steps = ending_at (go (code_of program setting.deepest) steps (begun program setting))
