-- What a script is compiled to, whichever it is.
use Rattle.std.specs.Prelude.{◌≡◌, ◌⊎◌, ◌≤◌, ℕ, List, Ok, Some, false, length, map, true}
use Rattle.sem_primitives.specs.Jobs.{JobForm, Environment}
use Rattle.awk_tokens.specs.Cutting.{IsTokens, Spelled}
use Rattle.awk_grammar.specs.Trees.{Item}
use Rattle.world_core.specs.WorldState.{Source}
use Rattle.sem_scripts.specs.Kinds.{resolved}
use Rattle.mid_program.specs.Mid.{Program, Routine}
use Rattle.mid_program.specs.Sorted.{IsSorted}
use Rattle.sem_scripts.specs.Names.{Resolved}
use Rattle.sem_scripts.specs.ScriptRun.{resolved_run}
use Rattle.mid_program.specs.Translation.{program_of}
use Rattle.wasm_types.specs.ModuleGrammar.{IsModule}
use Rattle.wasm_types.specs.Syntax.{ModuleForm}
use Rattle.wasm_types.specs.Typing.{ModuleOk}
use Rattle.wasm_model.specs.Links.{SegmentsFit, main_of, numbers_for}
use Rattle.wasm_model.specs.Machines.{Conf, Ends, turn}
use Rattle.wasm_model.specs.Runs.{MachineForm}
use Rattle.wasm_model.specs.declared.ends.End.TheVariants as ends
use Rattle.wasm_store.specs.declared.word.Word.TheVariants.{I32}
use Rattle.host_step.specs.HostState.{HostState}
use Rattle.host_imports.specs.Imports.{host_finds}
use Rattle.lower_model.specs.Boundaries.{nops_in, steps_places}
use Rattle.lower_model.specs.Functions.{main_callee, routine_callee}
use Rattle.lower_model.specs.Modules.{module_of}
use Rattle.agreement.specs.Modules.Agreement.{Agreement}
use Rattle.agreement.specs.Passed.Passed.{Passes}
use Rattle.agreement.specs.Spots.Places.{final_program}
use Rattle.agreement.specs.Spots.Probed.{probed_script}
use Rattle.agreement.specs.Places.Assigned.{IsAssigned}
use Rattle.agreement.specs.Places.Existence.{HasRuns}
use Rattle.agreement.specs.Places.NoLeaks.{AtReturn, AtStatement, Reached, begins_statement}
use Rattle.agreement.specs.Places.Nodes.{nodes_of}
use Rattle.agreement.specs.Places.Pending.{FewAlive}
use Rattle.agreement.specs.Places.Statements.{main_places}
use Rattle.agreement.specs.Quiet.Quiet.{HostCallFree}
use Rattle.agreement.specs.Quiet.Spots.{AtAssignment, AtFollowing}
use Rattle.agreement.specs.Quiet.Sums.{AtFault}
use Rattle.agreement.specs.Words.Naming.{program_names}
use Rattle.agreement.specs.Words.Words.{AssignsName}
use Rattle.value_kinds.specs.Unboxed.{UnboxesNumbers}
use Rattle.script_code.specs.Coded.{IsSound, most_script_bytes, unboxed}

-- a module that links with the host
pub record Links (m : ModuleForm) : Type 0 where
  pub numbers : List ℕ
  pub imports : numbers_for host_finds m ≡ map Some numbers
  pub main : ℕ
  pub main_is : main_of m ≡ Some main
  pub segments : SegmentsFit m

-- A module keeps nothing: where a statement begins, and where `main` has returned, names, parameters, loops over keys and callers that wait hold what
-- is alive in the host. How much that is follows, by `little_is_alive` and `names_alone_are_alive` of agreement. The code is the script's: it says which
-- names and functions there are, and of what kinds.
pub record KeepsNothing (code : Program) (m : ModuleForm) : Type 0 where
  pub statement : (job : JobForm) (input : Source) (outside : Environment) (a : MachineForm) (c : Conf) (s : HostState)
      → Reached m job input outside a c s → begins_statement c.frame.code ≡ true → AtStatement code c s
  pub returned : (job : JobForm) (input : Source) (outside : Environment) (a : MachineForm) (c : Conf) (s : HostState)
      → Reached m job input outside a c s → (n : ℕ) → turn a.program c ≡ Ends (ends.Returned (Some (I32 n))) → AtReturn code c s

-- If a run is at a statement `name = Expr` of the script, after which another one comes in its list, with number constants, names, groups, `+`, `-` and
-- `*` in Expr, and each name is unboxed, takes no copies and does not count as assigned, it calls no import up to the place of the next statement, or to the
-- fault.
abbrev pub IsQuietAt : Resolved → MachineForm → Conf → HostState → (Assigned : ℕ → Type 0) → Type 0
IsQuietAt script a c s Assigned = (here : AtStatement (final_program script) c s) → (on : AtAssignment script c s here Assigned)
    → HostCallFree a.program c (λ there. AtFollowing script on.home on.around on.next on.further c there ⊎ AtFault (final_program script) c there)

-- A module is quiet on numbers wherever a run comes to. A name counts as assigned if the command line has assigned to it in this run.
abbrev pub IsHostCallFree : Resolved → ModuleForm → Type 0
IsHostCallFree script m = (job : JobForm) (input : Source) (outside : Environment) (a : MachineForm) (c : Conf) (s : HostState)
    → (reached : Reached m job input outside a c s) → IsQuietAt script a c s (IsAssigned reached)

-- The same, said of the script and the job alone, if the script's code does not name ARGV. A name counts as assigned if a word of the job, a `-v` or an
-- operand, assigns to it.
abbrev pub IsQuietByWords : Resolved → ModuleForm → Type 0
IsQuietByWords script m = program_names (final_program script) ≡ false → (job : JobForm) (input : Source) (outside : Environment) (a : MachineForm)
    (c : Conf) (s : HostState) → Reached m job input outside a c s → IsQuietAt script a c s (AssignsName (final_program script) job)

-- Where a statement begins each caller that waits has at most as many operands pending as its function has expressions in the script, each part of
-- one counted too; `main` as many as stand in no function. So at most so many values are alive.
abbrev pub HasFewOperands : Resolved → Program → Type 0
HasFewOperands script code = (c : Conf) (s : HostState) (here : AtStatement code c s) → FewAlive (nodes_of script) code c s here

-- Each step of a function's code, and of `main`, has a place of its own in the module: a `nop` with which its code begins. There are no others, but
-- for one before the test of a `do` loop, which counts too.
pub record HasPlaces (code : Program) : Type 0 where
  pub functions : (r : Routine) → nops_in (routine_callee code r).body ≡ steps_places r.body
  pub main : nops_in (main_callee code).body ≡ main_places code

-- THE MAIN THEOREM, of a script and the bytes that it is compiled to: they are a module, which the rules type, which links with the host, which has
-- runs, which agrees with the script in every job and world, and which keeps nothing, and whose runs pass the places of statements as the script
-- executes them. It is the module of the script's code, so that a script has one module; this code is well sorted, and a scalar into which the script stores
-- numbers alone is unboxed in it, as is a global into which it stores copies of such scalars besides.
pub record IsCompiled (bytes : List ℕ) (compiled : List ℕ) : Type 0 where
  pub short : length bytes ≤ most_script_bytes
  pub tokens : List Spelled
  pub cut : IsTokens bytes (Ok tokens)
  pub script : List Item
  pub sound : IsSound tokens script
  pub whole : ModuleForm
  pub spelled : IsModule compiled whole
  pub typed : ModuleOk whole
  pub links : Links whole
  pub runs : (job : JobForm) (input : Source) (outside : Environment) → HasRuns whole job input outside
  pub agreement : Agreement (resolved_run (resolved script)) whole
  pub code : Program
  pub code_is : code ≡ unboxed (program_of (resolved script))
  pub sorted : IsSorted code
  pub whole_is : whole ≡ module_of code
  pub places : HasPlaces code
  pub keeps : KeepsNothing code whole
  pub few_operands : HasFewOperands (resolved script) code
  pub quiet : IsHostCallFree (resolved script) whole
  pub quiet_by_words : IsQuietByWords (resolved script) whole
  pub passes : Passes (probed_script (resolved script)) whole
  pub unboxed_names : UnboxesNumbers (resolved script) code
