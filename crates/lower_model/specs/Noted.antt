-- Mid code with notes: the meaning of steps where each of them, as it is begun, notes its place in the output. A place is the code that a step has,
-- with what comes after it in its block; so steps are walked as `step_emitted` walks them. The test of a loop whose first round goes without it has a
-- place too. Where nothing is noted this is the meaning of mid code, to the letter.
use Rattle.std.specs.Prelude.{ℕ, zero, suc, true, false, if◌then◌else◌, List, [], map, is_some}
use Rattle.sem_primitives.specs.declared.table.Primitive.TheVariants as row
use Rattle.wasm_types.specs.Syntax.{Instructions, Done}
use Rattle.wasm_types.specs.declared.instr.Simple.TheVariants.{Nop, Br, BrIf, LocalSet, I64Const}
use Rattle.sem_scripts.specs.Meaning.{Calls}
use Rattle.mid_program.specs.Mid.{Kind, Code, Step, Eval, Block, If, Loop, Each, Break, Continue, Next, Exit, ExitWith, Return, Mark, Steps, NoStep, Then, Program}
use Rattle.mid_program.specs.MidMeaning.{stepped, holds, keyed, routine_at, global_name, routine_name}
use Rattle.sem_scripts.specs.ScriptRun.{Ending, Parts, Setting, run_with}
use Rattle.sem_scripts.specs.ScriptState.{State, Execution, ◌>>=◌, ◌>>◌, give, nothing, stop, change, OutOfTurns, call}
use Rattle.mid_program.specs.Sorted.{calls_of}
use Rattle.sem_scripts.specs.Statements.{Flow, Normal, after, after_round, loop, over_keys, entered}
use Rattle.sem_scripts.specs.Steps.{array_number}
use Rattle.lower_model.specs.Emission.{Layout, tested}
use Rattle.lower_model.specs.Functions.{layout_of, main_bases, routine_bases}
use Rattle.lower_model.specs.Machine.{Notes}
use Rattle.lower_model.specs.Places.{Bases, answer_local}
use Rattle.lower_model.specs.Quick.{is_nothing, pair_in, step_jumps}
use Rattle.lower_model.specs.Small.{least, emit as instruction}
use Rattle.lower_model.specs.Statements.{records_read, step_emitted, steps_emitted}

abbrev pub noting : Notes → Instructions → State → State
noting notes code state = record state { shared = record state.shared { output = notes code state.shared.output } }

-- a step that begins with this code is begun
abbrev pub noted : Notes → Instructions → Execution (Unit {0})
noted notes code = change (noting notes code)

-- The test of a loop whose first round goes without it.
abbrev pub test_place : Layout → Code → (exit : ℕ) → Instructions
test_place layout test exit = instruction Nop (tested layout [] [] test zero zero exit (instruction (BrIf zero) Done))

module _ (notes : Notes) (layout : Layout) (texts : List (List ℕ)) (parameters : List (List Kind)) (turns : ℕ) (calls : Calls) where
  -- a step of its own
  abbrev pub plain_noted : Step → Instructions → Execution Flow
  plain_noted step code = noted notes code >> stepped texts parameters turns calls step

  unfoldable mutual
    pub step_noted : Step → (iterators exit break_to continue_to : ℕ) → Instructions → Execution Flow
    step_noted (Eval code) iterators exit break_to continue_to following =
        plain_noted (Eval code) (step_emitted layout (Eval code) iterators exit break_to continue_to following)
    step_noted (Block steps) iterators exit break_to continue_to following =
        noted notes (step_emitted layout (Block steps) iterators exit break_to continue_to following)
        >> steps_noted steps iterators exit break_to continue_to following
    step_noted (If test so otherwise) iterators exit break_to continue_to following =
        let when_so = if is_some (pair_in test)
        then step_noted so iterators (suc (suc exit)) (suc (suc break_to)) (suc (suc continue_to)) (instruction (Br 1) Done) else
        step_noted so iterators (suc exit) (suc break_to) (suc continue_to) Done in
        noted notes (step_emitted layout (If test so otherwise) iterators exit break_to continue_to following)
        >> holds texts parameters turns calls test >>= λ truth. if truth then when_so else
        step_noted otherwise iterators (suc exit) (suc break_to) (suc continue_to) Done
    step_noted (Loop true test body last) iterators exit break_to continue_to following =
        let back = instruction (Br zero) Done in
        let rest = if is_nothing last then back else step_emitted layout last iterators (suc (suc exit)) 1 zero back in
        let round = if step_jumps body
        then step_noted body iterators (suc (suc (suc exit))) 2 zero Done else step_noted body iterators (suc (suc exit)) 1 zero rest in
        let between = if is_nothing last then nothing else (step_noted last iterators (suc (suc exit)) 1 zero back >> nothing) in
        noted notes (step_emitted layout (Loop true test body last) iterators exit break_to continue_to following)
        >> loop turns (holds texts parameters turns calls test) round between
    step_noted (Loop false test body last) iterators exit break_to continue_to following =
        let tests = noted notes (test_place layout test (suc (suc exit))) >> holds texts parameters turns calls test in
        let round = step_noted body iterators (suc (suc (suc exit))) 2 zero Done in
        let between = step_noted last iterators (suc (suc exit)) 1 zero (test_place layout test (suc (suc exit))) >> nothing in
        noted notes (step_emitted layout (Loop false test body last) iterators exit break_to continue_to following)
        >> round >>= λ flow. after_round flow (between >> loop turns tests round between)
    step_noted (Each array store body) iterators exit break_to continue_to following =
        noted notes (step_emitted layout (Each array store body) iterators exit break_to continue_to following)
        >> array_number array >>= λ owner. call row.Iter (owner, tt) >>= λ keys.
        over_keys turns keys (keyed texts parameters turns calls store) (step_noted body (suc iterators) (suc (suc (suc exit))) 2 zero Done)
    step_noted Break iterators exit break_to continue_to following = plain_noted Break (step_emitted layout Break iterators exit break_to continue_to following)
    step_noted Continue iterators exit break_to continue_to following =
        plain_noted Continue (step_emitted layout Continue iterators exit break_to continue_to following)
    step_noted Next iterators exit break_to continue_to following = plain_noted Next (step_emitted layout Next iterators exit break_to continue_to following)
    step_noted Exit iterators exit break_to continue_to following = plain_noted Exit (step_emitted layout Exit iterators exit break_to continue_to following)
    step_noted (ExitWith code) iterators exit break_to continue_to following =
        plain_noted (ExitWith code) (step_emitted layout (ExitWith code) iterators exit break_to continue_to following)
    step_noted (Return code) iterators exit break_to continue_to following =
        plain_noted (Return code) (step_emitted layout (Return code) iterators exit break_to continue_to following)
    step_noted (Mark item opens) iterators exit break_to continue_to following =
        plain_noted (Mark item opens) (step_emitted layout (Mark item opens) iterators exit break_to continue_to following)

    pub steps_noted : Steps → (iterators exit break_to continue_to : ℕ) → Instructions → Execution Flow
    steps_noted NoStep iterators exit break_to continue_to following = give Normal
    steps_noted (Then step steps) iterators exit break_to continue_to following =
        step_noted step iterators exit break_to continue_to (steps_emitted layout steps iterators exit break_to continue_to following)
        >>= λ flow. after flow (steps_noted steps iterators exit break_to continue_to following)

-- Calls, and whole programs.

-- the code after a function's steps
abbrev pub routine_rest : Bases → Instructions
routine_rest bases = instruction (I64Const least) (instruction (LocalSet (answer_local bases)) (instruction (Br 1) Done))

unfoldable pub noted_called : Notes → Program → ℕ → Calls
noted_called notes program zero function locals = stop OutOfTurns
noted_called notes program (suc turns) function locals =
    let routine = routine_at program.routines function in
    entered locals
    (steps_noted notes (layout_of program (routine_bases routine)) program.texts (calls_of program) turns (noted_called notes program turns) routine.body
    zero zero zero zero
    (routine_rest (routine_bases routine)))

-- steps of `main`, with the code after them
abbrev pub noted_done : Notes → Program → Bases → ℕ → Steps → Instructions → Execution (Unit {0})
noted_done notes program bases turns steps following =
    steps_noted notes (layout_of program bases) program.texts (calls_of program) turns (noted_called notes program turns) steps zero zero zero zero following
    >> nothing

abbrev pub out_of_part : Instructions
out_of_part = instruction (Br 1) Done

abbrev pub begin_rest : Program → Bases → Instructions
begin_rest program bases = if program.reads then records_read (layout_of program bases) program.items zero out_of_part else out_of_part

abbrev pub noted_parts : Notes → ℕ → Program → Parts
noted_parts notes turns program = record {
  globals = map global_name program.globals;
  functions = map routine_name program.routines;
  begin = noted_done notes program (main_bases program) turns program.begin (begin_rest program (main_bases program));
  reads = program.reads;
  items = noted_done notes program (main_bases program) turns program.items out_of_part;
  end = noted_done notes program (main_bases program) turns program.end out_of_part;
}

abbrev pub noted_run_in : Notes → Program → Setting → ℕ → Ending
noted_run_in notes program setting turns = run_with setting turns (noted_parts notes turns program)
