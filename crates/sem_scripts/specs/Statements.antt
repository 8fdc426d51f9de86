-- The meaning of statements, by cases on the script's tree (POSIX.1-2017 awk, "Actions", "Output Statements").
use Rattle.std.specs.Prelude.{ℕ, zero, suc, Bool, true, if◌then◌else◌, List, codes, Option, Some, None}
use Rattle.awk_values.specs.Values.{truth_of_value}
use Rattle.awk_values.specs.declared.value.Value.{Value}
use Rattle.awk_values.specs.declared.value.Value.TheVariants as value
use Rattle.sem_primitives.specs.Numbers.{Number as AnyNumber}
use Rattle.sem_primitives.specs.declared.constants.Destination.{Destination}
use Rattle.sem_primitives.specs.declared.constants.Destination.TheVariants as destination
use Rattle.sem_primitives.specs.declared.table.Primitive.TheVariants as row
use Rattle.sem_primitives.specs.declared.table.Listed.{Listed}
use Rattle.sem_primitives.specs.declared.table.Listed.TheVariants as listed
use Rattle.awk_grammar.specs.Token.{Number}
use Rattle.awk_grammar.specs.Trees.{Tree, Leaf, Field, Trees, NoTree, Then, Printing, Print, Printf, Args, NoArgs, Listed as Operands, Enclosed, Target, NoTarget, Written, Appended, Plain, Eval, Put, Delete, Clear, Break, Continue, Next, NextFile, Exit, Return, Stmt, Block, Empty, Simple, If, IfElse, While, Do, For, ForIn, Jumping, Leave, Stmts, NoStmt, And}
use Rattle.sem_scripts.specs.Names.{Function, Resolved, Scope, function_at, variable_of, array_of}
use Rattle.sem_scripts.specs.ScriptState.{Local, State, CallFrame, OutOfTurns, TooDeep, Nexted, Exited, Returned, Outcome, Gives, Stops, Execution, ◌>>=◌, ◌>>◌, give, nothing, stop, change, call, call_listed, spend}
use Rattle.sem_scripts.specs.Steps.{number_in, array_number, store_variable}
use Rattle.sem_scripts.specs.Meaning.{Calls, value_of, values_of, key_of}

-- how a statement ends that does not leave what is being done
pub data Flow : Type 0 where
  Normal Broke Continued : Flow

-- the statement, and what follows it
abbrev pub after : Flow → Execution Flow → Execution Flow
after Normal rest = rest
after flow rest = give flow

-- a round of a loop, and what follows it
abbrev pub after_round : Flow → Execution Flow → Execution Flow
after_round Broke rest = give Normal
after_round _ rest = rest

-- at most n rounds, each with its test, which costs a turn, its body and its step
unfoldable pub loop : ℕ → Execution Bool → Execution Flow → Execution (Unit {0}) → Execution Flow
loop zero test body step = stop OutOfTurns
loop (suc n) test body step = do
  u ← spend
  holds ← test
  if holds then (body >>= λ flow. after_round flow (step >> loop n test body step)) else give Normal

-- at most n keys of an array, of which each costs a turn
abbrev pub at_key : (Value → Execution Flow) → Option Value → Execution Flow
at_key go None = give Normal
at_key go (Some key) = spend >> go key

unfoldable pub over_keys : ℕ → ℕ → (Value → Execution (Unit {0})) → Execution Flow → Execution Flow
over_keys zero keys store body = call row.IterNext (keys, tt) >>= at_key (λ key. stop OutOfTurns)
over_keys (suc n) keys store body = call row.IterNext (keys, tt)
    >>= at_key (λ key. store key >> body >>= λ flow. after_round flow (over_keys n keys store body))

-- the values of a print statement, with its target as the last one. Without operands it is `print $0`

abbrev pub whole_record : Tree
whole_record = Field (Leaf (Number (codes "0")))

abbrev pub operands_of : Args → Trees
operands_of NoArgs = Then whole_record NoTree
operands_of (Operands ts) = ts
operands_of (Enclosed t ts) = Then t ts

abbrev pub with_last : Trees → Tree → Trees
with_last NoTree last = Then last NoTree
with_last (Then t ts) last = Then t (with_last ts last)

abbrev pub with_target : Trees → Target → Trees
with_target ts NoTarget = ts
with_target ts (Written file) = with_last ts file
with_target ts (Appended file) = with_last ts file

abbrev pub destination_of : Target → Destination
destination_of NoTarget = destination.Standard
destination_of (Written file) = destination.Emptied
destination_of (Appended file) = destination.Appended

abbrev pub listed_of : Printing → Destination → Listed
listed_of Print d = listed.Print d
listed_of Printf d = listed.Printf d

abbrev pub put : Listed → List Value → Execution (Unit {0})
put (listed.Print d) vs = call_listed (listed.Print d) vs
put (listed.Printf d) vs = call_listed (listed.Printf d) vs
put listed.Sprintf vs = nothing

abbrev pub with_status : AnyNumber → State → State
with_status m state = record state { status = m }

module _ (scope : Scope) (n : ℕ) (calls : Calls) where
  abbrev pub test_of : Tree → Execution Bool
  test_of t = value_of scope n calls t >>= λ x. give (truth_of_value x)

  -- a test that is left out holds
  abbrev pub maybe_test : Option Tree → Execution Bool
  maybe_test None = give true
  maybe_test (Some t) = test_of t

  unfoldable pub plain_done : Plain → Execution (Unit {0})
  plain_done (Eval t) = value_of scope n calls t >> nothing
  plain_done (Put p args target) = values_of scope n calls (with_target (operands_of args) target) >>= put (listed_of p (destination_of target))
  plain_done (Delete a ts) = do i ← array_number (array_of scope a); key ← key_of scope n calls ts; call row.Delete (i, (key, tt))
  plain_done (Clear a) = do i ← array_number (array_of scope a); call row.Clear (i, tt)

  abbrev pub maybe_done : Option Plain → Execution (Unit {0})
  maybe_done None = nothing
  maybe_done (Some p) = plain_done p

  unfoldable mutual
    pub done_by : Stmt → Execution Flow
    done_by (Block ss) = all_done ss
    done_by Empty = give Normal
    done_by (Simple p) = plain_done p >> give Normal
    done_by (If c s) = test_of c >>= λ b. if b then done_by s else give Normal
    done_by (IfElse c s t) = test_of c >>= λ b. if b then done_by s else done_by t
    done_by (While c s) = loop n (test_of c) (done_by s) nothing
    done_by (Do s c) = done_by s >>= λ flow. after_round flow (loop n (test_of c) (done_by s) nothing)
    done_by (For i c p s) = maybe_done i >> loop n (maybe_test c) (done_by s) (maybe_done p)
    done_by (ForIn k a s) = do
      i ← array_number (array_of scope a)
      keys ← call row.Iter (i, tt)
      over_keys n keys (store_variable (variable_of scope k)) (done_by s)
    done_by (Jumping Break) = give Broke
    done_by (Jumping Continue) = give Continued
    done_by (Jumping Next) = stop Nexted
    -- the rest of what is being read is given up, and then the record is left
    done_by (Jumping NextFile) = call row.NextFile tt >> stop Nexted
    done_by (Leave Exit None) = stop Exited
    done_by (Leave Exit (Some t)) = do x ← value_of scope n calls t; m ← number_in x; u ← change (with_status m); stop Exited
    done_by (Leave Return None) = stop (Returned value.Uninit)
    done_by (Leave Return (Some t)) = value_of scope n calls t >>= λ x. stop (Returned x)

    pub all_done : Stmts → Execution Flow
    all_done NoStmt = give Normal
    all_done (And s ss) = done_by s >>= λ flow. after flow (all_done ss)

-- Calls.

-- what a call gives; the caller's own is as it was, however the call ends
abbrev pub returned : CallFrame → Outcome Flow → Outcome Value
returned own (Gives flow state) = Gives value.Uninit (record state { own = own })
returned own (Stops (Returned x) state) = Gives x (record state { own = own })
returned own (Stops why state) = Stops why (record state { own = own })

-- a call where so many more may be nested
abbrev pub entered_with : ℕ → List Local → Execution Flow → Execution Value
entered_with zero locals body = stop TooDeep
entered_with (suc room) locals body = λ state. returned state.own (body (record state { own = record { locals = locals; calls_left = room } }))

abbrev pub entered : List Local → Execution Flow → Execution Value
entered locals body = λ state. entered_with state.own.calls_left locals body state

abbrev pub scope_in : Resolved → Function → Scope
scope_in script f = record { script = script; parameters = f.parameters }

-- calls, at most n of which are nested; each has cost a turn
unfoldable pub called : Resolved → ℕ → Calls
called script zero f locals = stop OutOfTurns
called script (suc n) f locals = entered locals (all_done (scope_in script (function_at script.functions f)) n (called script n)
    (function_at script.functions f).body)
