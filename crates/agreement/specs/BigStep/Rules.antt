-- What expressions, statements and calls do, as a relation with a rule for each sentence on order, control and calls (POSIX.1-2017 awk, "Expressions in
-- awk", "Actions", "Functions"). `Evaluates scope t s o` says that the expression t, evaluated in the state s, has the outcome o: it gives a value and a
-- state, or stops for a reason in a state. A rule whose name ends in `stops` says that what stops is followed by nothing.
-- No rule counts fuel: the turns that are left are part of the state.
use Rattle.std.specs.Prelude.{◌≡◌, ℕ, zero, suc, Bool, true, false, List, [], ◌∷◌, Option, Some, None}
use Rattle.awk_values.specs.Values.{truth_of_value}
use Rattle.awk_values.specs.declared.value.Value.{Value}
use Rattle.awk_values.specs.declared.value.Value.TheVariants as value
use Rattle.sem_primitives.specs.Numbers.{Number as AnyNumber}
use Rattle.sem_primitives.specs.declared.answers.InputAnswer.{InputAnswer}
use Rattle.sem_primitives.specs.declared.answers.InputAnswer.TheVariants as input
use Rattle.sem_primitives.specs.declared.table.Primitive.TheVariants as row
use Rattle.sem_primitives.specs.declared.table.Listed.TheVariants as listed
use Rattle.awk_tokens.specs.declared.reserved_words.Builtin.TheVariants as builtin
use Rattle.awk_grammar.specs.Token as token
use Rattle.awk_grammar.specs.Trees.{Tree, Var, Index, Field, Group, Call, Apply, Bin, Other, Has, HasList, Cond, Get, GetInto, Trees, NoTree, Then, Printing, Args, Target, Plain, Eval, Put, Delete, Clear, Break, Continue, Next, NextFile, Exit, Return, Stmt, Block, Empty, Simple, If, IfElse, While, Do, For, ForIn, Jumping, Leave, Stmts, NoStmt, And}
use Rattle.sem_scripts.specs.Names.{Name, Resolved, Scope, function_number, function_at, variable_of, array_of}
use Rattle.sem_scripts.specs.ScriptState.{Local, CallFrame, State, Stop, OutOfTurns, TooDeep, Nexted, Exited, Returned, Outcome, Gives, Stops, Execution, call, call_listed, asks}
use Rattle.sem_scripts.specs.Steps.{zero_number, numeric, truth_value, number_in, store_variable, Place, Named, Element, FieldAt, ere_in, is_ere, input_number, received, given_value, fresh_all}
use Rattle.sem_scripts.specs.Meaning.{assign_pending, name_passed}
use Rattle.sem_scripts.specs.Statements.{Flow, Normal, Broke, Continued, operands_of, with_target, destination_of, listed_of, put, with_status, scope_in}
use Rattle.agreement.specs.BigStep.Operations.{array_at, field_place, has_key, has_joined, replaced, split_by, IsNoName, IsNoPlace, NoOperand, OneOperand, TwoOperands, ThreeOperands, WithPattern, AtPlace, PlaceAndValue, Replacing}

abbrev pub with_turns : ℕ → State → State
with_turns k s = record s { turns = k }

abbrev pub with_own : CallFrame → State → State
with_own own s = record s { own = own }

-- in a call, where so many more may be nested
abbrev pub in_call : List Local → ℕ → State → State
in_call locals room s = with_own (record { locals = locals; calls_left = room }) s

abbrev pub IsNoReturn : Stop → Type 0
IsNoReturn (Returned x) = ⊥
IsNoReturn why = Unit {0}

abbrev pub IsNoAssignment : InputAnswer → Type 0
IsNoAssignment input.Pending = ⊥
IsNoAssignment answer = Unit {0}

-- `break` ends the loop, and `continue` the round alone
pub data GoesOn : Flow → Type 0 where
  round_ends : GoesOn Normal
  round_is_left : GoesOn Continued

-- what leaves a block
pub data Leaves : Flow → Type 0 where
  by_break : Leaves Broke
  by_continue : Leaves Continued

-- the parameters of a function that is called, and a function's own scope and body
abbrev pub parameters_of : Scope → List ℕ → List Name
parameters_of scope f = (function_at scope.script.functions (function_number scope.script f)).parameters

abbrev pub scope_of : Resolved → ℕ → Scope
scope_of script i = scope_in script (function_at script.functions i)

abbrev pub body_of : Resolved → ℕ → Stmts
body_of script i = (function_at script.functions i).body

-- Reading the main input. An assignment of the command line that comes before the next record takes a turn and is made, and then the read goes on.
pub data Reads (ask : Execution InputAnswer) : State → Outcome InputAnswer → Type 0 where
  reads : {s s1 : State} {answer : InputAnswer} → ask s ≡ Gives answer s1 → IsNoAssignment answer → Reads ask s (Gives answer s1)
  reads_stops : {s s1 : State} {why : Stop} → ask s ≡ Stops why s1 → Reads ask s (Stops why s1)
  assigns_without_turn : {s s1 : State} → ask s ≡ Gives input.Pending s1 → s1.turns ≡ zero → Reads ask s (Stops OutOfTurns s1)
  assigns_stops : {s s1 s2 : State} {k : ℕ} {why : Stop} → ask s ≡ Gives input.Pending s1 → s1.turns ≡ suc k
      → assign_pending (with_turns k s1) ≡ Stops why s2 → Reads ask s (Stops why s2)
  assigns : {s s1 s2 : State} {k : ℕ} {o : Outcome InputAnswer} → ask s ≡ Gives input.Pending s1 → s1.turns ≡ suc k
      → assign_pending (with_turns k s1) ≡ Gives tt s2 → Reads ask s2 o → Reads ask s o

mutual
  -- ---- expressions

  pub data Evaluates : Scope → Tree → State → Outcome Value → Type 0 where
    group : {scope : Scope} {t : Tree} {s : State} {o : Outcome Value} → Evaluates scope t s o → Evaluates scope (Group t) s o
    -- Operands are evaluated from left to right, and once all of them are, the operation is done.
    no_operand : {scope : Scope} {t : Tree} {s : State} {m : Execution Value} → NoOperand scope t m → Evaluates scope t s (m s)
    one_operand : {scope : Scope} {t a : Tree} {s s1 : State} {x : Value} {f : Value → Execution Value} → OneOperand scope t a f
        → Evaluates scope a s (Gives x s1) → Evaluates scope t s (f x s1)
    one_operand_stops : {scope : Scope} {t a : Tree} {s s1 : State} {why : Stop} {f : Value → Execution Value} → OneOperand scope t a f
        → Evaluates scope a s (Stops why s1) → Evaluates scope t s (Stops why s1)
    two_operands : {scope : Scope} {t a b : Tree} {s s1 s2 : State} {x y : Value} {f : Value → Value → Execution Value} → TwoOperands t a b f
        → Evaluates scope a s (Gives x s1) → Evaluates scope b s1 (Gives y s2) → Evaluates scope t s (f x y s2)
    two_left_stops : {scope : Scope} {t a b : Tree} {s s1 : State} {why : Stop} {f : Value → Value → Execution Value} → TwoOperands t a b f
        → Evaluates scope a s (Stops why s1) → Evaluates scope t s (Stops why s1)
    two_right_stops : {scope : Scope} {t a b : Tree} {s s1 s2 : State} {x : Value} {why : Stop} {f : Value → Value → Execution Value}
        → TwoOperands t a b f → Evaluates scope a s (Gives x s1) → Evaluates scope b s1 (Stops why s2) → Evaluates scope t s (Stops why s2)
    three_operands : {scope : Scope} {t a b c : Tree} {s s1 s2 s3 : State} {x y z : Value} {f : Value → Value → Value → Execution Value}
        → ThreeOperands t a b c f → Evaluates scope a s (Gives x s1) → Evaluates scope b s1 (Gives y s2) → Evaluates scope c s2 (Gives z s3)
        → Evaluates scope t s (f x y z s3)
    three_first_stops : {scope : Scope} {t a b c : Tree} {s s1 : State} {why : Stop} {f : Value → Value → Value → Execution Value}
        → ThreeOperands t a b c f → Evaluates scope a s (Stops why s1) → Evaluates scope t s (Stops why s1)
    three_second_stops : {scope : Scope} {t a b c : Tree} {s s1 s2 : State} {x : Value} {why : Stop} {f : Value → Value → Value → Execution Value}
        → ThreeOperands t a b c f → Evaluates scope a s (Gives x s1) → Evaluates scope b s1 (Stops why s2) → Evaluates scope t s (Stops why s2)
    three_third_stops : {scope : Scope} {t a b c : Tree} {s s1 s2 s3 : State} {x y : Value} {why : Stop} {f : Value → Value → Value → Execution Value}
        → ThreeOperands t a b c f → Evaluates scope a s (Gives x s1) → Evaluates scope b s1 (Gives y s2) → Evaluates scope c s2 (Stops why s3)
        → Evaluates scope t s (Stops why s3)
    -- `~`, `!~` and match: the text, then the ERE
    with_pattern : {scope : Scope} {t a b : Tree} {s s1 s2 : State} {x y : Value} {f : Value → Value → Execution Value} → WithPattern t a b f
        → Evaluates scope a s (Gives x s1) → GivesPattern scope b s1 (Gives y s2) → Evaluates scope t s (f x y s2)
    pattern_left_stops : {scope : Scope} {t a b : Tree} {s s1 : State} {why : Stop} {f : Value → Value → Execution Value} → WithPattern t a b f
        → Evaluates scope a s (Stops why s1) → Evaluates scope t s (Stops why s1)
    pattern_right_stops : {scope : Scope} {t a b : Tree} {s s1 s2 : State} {x : Value} {why : Stop} {f : Value → Value → Execution Value}
        → WithPattern t a b f → Evaluates scope a s (Gives x s1) → GivesPattern scope b s1 (Stops why s2) → Evaluates scope t s (Stops why s2)
    -- split: the text, then the separator. Its array is found between them.
    split : {scope : Scope} {a b : Tree} {ts : Trees} {x : List ℕ} {s s1 s2 : State} {y z : Value}
        → Evaluates scope a s (Gives y s1) → GivesPattern scope b s1 (Gives z s2)
        → Evaluates scope (Apply builtin.Split (Then a (Then (Var x) (Then b ts)))) s (split_by (array_at scope x s1) (is_ere (ere_in b)) y z s2)
    split_left_stops : {scope : Scope} {a b : Tree} {ts : Trees} {x : List ℕ} {s s1 : State} {why : Stop}
        → Evaluates scope a s (Stops why s1) → Evaluates scope (Apply builtin.Split (Then a (Then (Var x) (Then b ts)))) s (Stops why s1)
    split_right_stops : {scope : Scope} {a b : Tree} {ts : Trees} {x : List ℕ} {s s1 s2 : State} {y : Value} {why : Stop}
        → Evaluates scope a s (Gives y s1) → GivesPattern scope b s1 (Stops why s2)
        → Evaluates scope (Apply builtin.Split (Then a (Then (Var x) (Then b ts)))) s (Stops why s2)
    -- sub and gsub: the ERE, the replacement and the target, of which then the old value is read
    replacing : {scope : Scope} {t e r : Tree} {target : Option Tree} {all : Bool} {s s1 s2 s3 : State} {x y : Value} {place : Place}
        → Replacing t all e r target → GivesPattern scope e s (Gives x s1) → Evaluates scope r s1 (Gives y s2)
        → FindsTarget scope target s2 (Gives place s3) → Evaluates scope t s (replaced all x y place s3)
    replacing_ere_stops : {scope : Scope} {t e r : Tree} {target : Option Tree} {all : Bool} {s s1 : State} {why : Stop}
        → Replacing t all e r target → GivesPattern scope e s (Stops why s1) → Evaluates scope t s (Stops why s1)
    replacing_text_stops : {scope : Scope} {t e r : Tree} {target : Option Tree} {all : Bool} {s s1 s2 : State} {x : Value} {why : Stop}
        → Replacing t all e r target → GivesPattern scope e s (Gives x s1) → Evaluates scope r s1 (Stops why s2) → Evaluates scope t s (Stops why s2)
    replacing_target_stops : {scope : Scope} {t e r : Tree} {target : Option Tree} {all : Bool} {s s1 s2 s3 : State} {x y : Value} {why : Stop}
        → Replacing t all e r target → GivesPattern scope e s (Gives x s1) → Evaluates scope r s1 (Gives y s2)
        → FindsTarget scope target s2 (Stops why s3) → Evaluates scope t s (Stops why s3)
    -- `&&` and `||` evaluate their right side only if the left one does not decide
    and_true : {scope : Scope} {a b : Tree} {s s1 s2 : State} {x y : Value} → Evaluates scope a s (Gives x s1) → truth_of_value x ≡ true
        → Evaluates scope b s1 (Gives y s2) → Evaluates scope (Bin (Other token.And) a b) s (Gives (truth_value (truth_of_value y)) s2)
    and_false : {scope : Scope} {a b : Tree} {s s1 : State} {x : Value} → Evaluates scope a s (Gives x s1) → truth_of_value x ≡ false
        → Evaluates scope (Bin (Other token.And) a b) s (Gives (truth_value false) s1)
    and_left_stops : {scope : Scope} {a b : Tree} {s s1 : State} {why : Stop} → Evaluates scope a s (Stops why s1)
        → Evaluates scope (Bin (Other token.And) a b) s (Stops why s1)
    and_right_stops : {scope : Scope} {a b : Tree} {s s1 s2 : State} {x : Value} {why : Stop} → Evaluates scope a s (Gives x s1)
        → truth_of_value x ≡ true → Evaluates scope b s1 (Stops why s2) → Evaluates scope (Bin (Other token.And) a b) s (Stops why s2)
    or_true : {scope : Scope} {a b : Tree} {s s1 : State} {x : Value} → Evaluates scope a s (Gives x s1) → truth_of_value x ≡ true
        → Evaluates scope (Bin (Other token.Or) a b) s (Gives (truth_value true) s1)
    or_false : {scope : Scope} {a b : Tree} {s s1 s2 : State} {x y : Value} → Evaluates scope a s (Gives x s1) → truth_of_value x ≡ false
        → Evaluates scope b s1 (Gives y s2) → Evaluates scope (Bin (Other token.Or) a b) s (Gives (truth_value (truth_of_value y)) s2)
    or_left_stops : {scope : Scope} {a b : Tree} {s s1 : State} {why : Stop} → Evaluates scope a s (Stops why s1)
        → Evaluates scope (Bin (Other token.Or) a b) s (Stops why s1)
    or_right_stops : {scope : Scope} {a b : Tree} {s s1 s2 : State} {x : Value} {why : Stop} → Evaluates scope a s (Gives x s1)
        → truth_of_value x ≡ false → Evaluates scope b s1 (Stops why s2) → Evaluates scope (Bin (Other token.Or) a b) s (Stops why s2)
    -- `? :` evaluates one of its two branches
    choice_true : {scope : Scope} {c a b : Tree} {s s1 : State} {x : Value} {o : Outcome Value} → Evaluates scope c s (Gives x s1)
        → truth_of_value x ≡ true → Evaluates scope a s1 o → Evaluates scope (Cond c a b) s o
    choice_false : {scope : Scope} {c a b : Tree} {s s1 : State} {x : Value} {o : Outcome Value} → Evaluates scope c s (Gives x s1)
        → truth_of_value x ≡ false → Evaluates scope b s1 o → Evaluates scope (Cond c a b) s o
    choice_stops : {scope : Scope} {c a b : Tree} {s s1 : State} {why : Stop} → Evaluates scope c s (Stops why s1)
        → Evaluates scope (Cond c a b) s (Stops why s1)
    -- `++` and `--` find their place once
    at_place : {scope : Scope} {t a : Tree} {s s1 : State} {place : Place} {f : Place → Execution Value} → AtPlace t a f
        → Finds scope a s (Gives place s1) → Evaluates scope t s (f place s1)
    at_place_stops : {scope : Scope} {t a : Tree} {s s1 : State} {why : Stop} {f : Place → Execution Value} → AtPlace t a f
        → Finds scope a s (Stops why s1) → Evaluates scope t s (Stops why s1)
    -- An assignment finds its place, then evaluates its right side, then reads the old value if it needs it, and stores. getline with a variable and
    -- a file finds the place, then evaluates the file's name, then reads.
    place_and_value : {scope : Scope} {t a b : Tree} {s s1 s2 : State} {place : Place} {x : Value} {f : Place → Value → Execution Value}
        → PlaceAndValue t a b f → Finds scope a s (Gives place s1) → Evaluates scope b s1 (Gives x s2) → Evaluates scope t s (f place x s2)
    place_first_stops : {scope : Scope} {t a b : Tree} {s s1 : State} {why : Stop} {f : Place → Value → Execution Value}
        → PlaceAndValue t a b f → Finds scope a s (Stops why s1) → Evaluates scope t s (Stops why s1)
    value_then_stops : {scope : Scope} {t a b : Tree} {s s1 s2 : State} {place : Place} {why : Stop} {f : Place → Value → Execution Value}
        → PlaceAndValue t a b f → Finds scope a s (Gives place s1) → Evaluates scope b s1 (Stops why s2) → Evaluates scope t s (Stops why s2)
    -- an element: its subscripts, then the read
    element : {scope : Scope} {x : List ℕ} {ts : Trees} {s s1 : State} {key : Value} → GivesKey scope ts s (Gives key s1)
        → Evaluates scope (Index x ts) s (call row.Elem (array_at scope x s, (key, tt)) s1)
    element_stops : {scope : Scope} {x : List ℕ} {ts : Trees} {s s1 : State} {why : Stop} → GivesKey scope ts s (Stops why s1)
        → Evaluates scope (Index x ts) s (Stops why s1)
    has : {scope : Scope} {t : Tree} {x : List ℕ} {s s1 : State} {key : Value} → Evaluates scope t s (Gives key s1)
        → Evaluates scope (Has t x) s (has_key (array_at scope x s) key s1)
    has_stops : {scope : Scope} {t : Tree} {x : List ℕ} {s s1 : State} {why : Stop} → Evaluates scope t s (Stops why s1)
        → Evaluates scope (Has t x) s (Stops why s1)
    has_list : {scope : Scope} {t : Tree} {ts : Trees} {x : List ℕ} {s s1 s2 : State} {first rest : Value} → Evaluates scope t s (Gives first s1)
        → GivesKey scope ts s1 (Gives rest s2) → Evaluates scope (HasList t ts x) s (has_joined (array_at scope x s) first rest s2)
    has_list_first_stops : {scope : Scope} {t : Tree} {ts : Trees} {x : List ℕ} {s s1 : State} {why : Stop} → Evaluates scope t s (Stops why s1)
        → Evaluates scope (HasList t ts x) s (Stops why s1)
    has_list_rest_stops : {scope : Scope} {t : Tree} {ts : Trees} {x : List ℕ} {s s1 s2 : State} {first : Value} {why : Stop}
        → Evaluates scope t s (Gives first s1) → GivesKey scope ts s1 (Stops why s2) → Evaluates scope (HasList t ts x) s (Stops why s2)
    -- sprintf evaluates all its operands before it formats
    sprintf : {scope : Scope} {ts : Trees} {s s1 : State} {xs : List Value} → EvaluatesAll scope ts s (Gives xs s1)
        → Evaluates scope (Apply builtin.Sprintf ts) s (call_listed listed.Sprintf xs s1)
    sprintf_stops : {scope : Scope} {ts : Trees} {s s1 : State} {why : Stop} → EvaluatesAll scope ts s (Stops why s1)
        → Evaluates scope (Apply builtin.Sprintf ts) s (Stops why s1)
    -- a call of a function: its arguments, then the call
    calls : {scope : Scope} {f : List ℕ} {ts : Trees} {s s1 : State} {locals : List Local} {o : Outcome Value}
        → Passes scope (parameters_of scope f) ts s (Gives locals s1) → IsCalled scope.script (function_number scope.script f) locals s1 o
        → Evaluates scope (Call f ts) s o
    calls_stops : {scope : Scope} {f : List ℕ} {ts : Trees} {s s1 : State} {why : Stop}
        → Passes scope (parameters_of scope f) ts s (Stops why s1) → Evaluates scope (Call f ts) s (Stops why s1)
    -- getline from the main input; if it has a variable, the variable's place comes first
    getline : {scope : Scope} {s s1 : State} {answer : InputAnswer} → Reads (asks row.Getline tt) s (Gives answer s1)
        → Evaluates scope Get s (Gives (numeric (input_number answer)) s1)
    getline_stops : {scope : Scope} {s s1 : State} {why : Stop} → Reads (asks row.Getline tt) s (Stops why s1)
        → Evaluates scope Get s (Stops why s1)
    getline_into : {scope : Scope} {v : Tree} {s s1 s2 : State} {place : Place} {answer : InputAnswer} → Finds scope v s (Gives place s1)
        → Reads (asks row.GetlineVar tt) s1 (Gives answer s2) → Evaluates scope (GetInto v) s (received place answer s2)
    getline_place_stops : {scope : Scope} {v : Tree} {s s1 : State} {why : Stop} → Finds scope v s (Stops why s1)
        → Evaluates scope (GetInto v) s (Stops why s1)
    getline_into_stops : {scope : Scope} {v : Tree} {s s1 s2 : State} {place : Place} {why : Stop} → Finds scope v s (Gives place s1)
        → Reads (asks row.GetlineVar tt) s1 (Stops why s2) → Evaluates scope (GetInto v) s (Stops why s2)

  -- the operands of a list, from left to right
  pub data EvaluatesAll : Scope → Trees → State → Outcome (List Value) → Type 0 where
    no_value : {scope : Scope} {s : State} → EvaluatesAll scope NoTree s (Gives [] s)
    next_value : {scope : Scope} {t : Tree} {ts : Trees} {s s1 s2 : State} {x : Value} {xs : List Value} → Evaluates scope t s (Gives x s1)
        → EvaluatesAll scope ts s1 (Gives xs s2) → EvaluatesAll scope (Then t ts) s (Gives (x ∷ xs) s2)
    first_value_stops : {scope : Scope} {t : Tree} {ts : Trees} {s s1 : State} {why : Stop} → Evaluates scope t s (Stops why s1)
        → EvaluatesAll scope (Then t ts) s (Stops why s1)
    other_values_stops : {scope : Scope} {t : Tree} {ts : Trees} {s s1 s2 : State} {x : Value} {why : Stop} → Evaluates scope t s (Gives x s1)
        → EvaluatesAll scope ts s1 (Stops why s2) → EvaluatesAll scope (Then t ts) s (Stops why s2)

  -- Subscripts, from left to right. Several are joined with SUBSEP, as it is once all of them are evaluated.
  pub data GivesKey : Scope → Trees → State → Outcome Value → Type 0 where
    -- no script has an empty list of subscripts
    no_key : {scope : Scope} {s : State} → GivesKey scope NoTree s (Gives value.Uninit s)
    one_key : {scope : Scope} {t : Tree} {s : State} {o : Outcome Value} → Evaluates scope t s o → GivesKey scope (Then t NoTree) s o
    more_keys : {scope : Scope} {t u : Tree} {ts : Trees} {s s1 s2 : State} {first rest : Value} → Evaluates scope t s (Gives first s1)
        → GivesKey scope (Then u ts) s1 (Gives rest s2) → GivesKey scope (Then t (Then u ts)) s (call row.Join (first, (rest, tt)) s2)
    first_key_stops : {scope : Scope} {t u : Tree} {ts : Trees} {s s1 : State} {why : Stop} → Evaluates scope t s (Stops why s1)
        → GivesKey scope (Then t (Then u ts)) s (Stops why s1)
    other_keys_stops : {scope : Scope} {t u : Tree} {ts : Trees} {s s1 s2 : State} {first : Value} {why : Stop}
        → Evaluates scope t s (Gives first s1) → GivesKey scope (Then u ts) s1 (Stops why s2) → GivesKey scope (Then t (Then u ts)) s (Stops why s2)

  -- The place where a value is stored. An element's subscripts are evaluated; a field's number is evaluated, converted and checked.
  pub data Finds : Scope → Tree → State → Outcome Place → Type 0 where
    name_place : {scope : Scope} {x : List ℕ} {s : State} → Finds scope (Var x) s (Gives (Named (variable_of scope x)) s)
    element_place : {scope : Scope} {x : List ℕ} {ts : Trees} {s s1 : State} {key : Value} → GivesKey scope ts s (Gives key s1)
        → Finds scope (Index x ts) s (Gives (Element (array_of scope x) key) s1)
    element_place_stops : {scope : Scope} {x : List ℕ} {ts : Trees} {s s1 : State} {why : Stop} → GivesKey scope ts s (Stops why s1)
        → Finds scope (Index x ts) s (Stops why s1)
    field_number : {scope : Scope} {t : Tree} {s s1 : State} {x : Value} → Evaluates scope t s (Gives x s1)
        → Finds scope (Field t) s (field_place x s1)
    field_number_stops : {scope : Scope} {t : Tree} {s s1 : State} {why : Stop} → Evaluates scope t s (Stops why s1)
        → Finds scope (Field t) s (Stops why s1)
    no_place : {scope : Scope} {t : Tree} {s : State} → IsNoPlace t → Finds scope t s (Gives (FieldAt zero_number) s)

  -- the target of sub and gsub: `$0` if it is left out
  pub data FindsTarget : Scope → Option Tree → State → Outcome Place → Type 0 where
    the_record : {scope : Scope} {s : State} → FindsTarget scope None s (Gives (FieldAt zero_number) s)
    the_place : {scope : Scope} {t : Tree} {s : State} {o : Outcome Place} → Finds scope t s o → FindsTarget scope (Some t) s o

  -- An operand that is used as an ERE: an ERE token is its own text and is not evaluated.
  pub data GivesPattern : Scope → Tree → State → Outcome Value → Type 0 where
    ere_token : {scope : Scope} {t : Tree} {s : State} {text : List ℕ} {rest : List (List ℕ)} → ere_in t ≡ text ∷ rest
        → GivesPattern scope t s (Gives (value.Text text) s)
    computed_ere : {scope : Scope} {t : Tree} {s : State} {o : Outcome Value} → ere_in t ≡ [] → Evaluates scope t s o → GivesPattern scope t s o

  -- an argument for a parameter: a name passes its value or its array, and any other expression its value
  pub data PassesOne : Scope → Name → Tree → State → Outcome Local → Type 0 where
    passes_name : {scope : Scope} {p : Name} {x : List ℕ} {s : State} → PassesOne scope p (Var x) s (name_passed scope p x s)
    passes_value : {scope : Scope} {p : Name} {t : Tree} {s s1 : State} {x : Value} → IsNoName t → Evaluates scope t s (Gives x s1)
        → PassesOne scope p t s (Gives (given_value p x) s1)
    passes_stops : {scope : Scope} {p : Name} {t : Tree} {s s1 : State} {why : Stop} → IsNoName t → Evaluates scope t s (Stops why s1)
        → PassesOne scope p t s (Stops why s1)

  -- Arguments for parameters, from left to right. A parameter without an argument is uninitialised, or a new array.
  pub data Passes : Scope → List Name → Trees → State → Outcome (List Local) → Type 0 where
    missing : {scope : Scope} {ps : List Name} {s : State} → Passes scope ps NoTree s (fresh_all ps s)
    -- no script has more arguments than parameters
    too_many : {scope : Scope} {t : Tree} {ts : Trees} {s : State} → Passes scope [] (Then t ts) s (Gives [] s)
    next_argument : {scope : Scope} {p : Name} {ps : List Name} {t : Tree} {ts : Trees} {s s1 s2 : State} {l : Local} {ls : List Local}
        → PassesOne scope p t s (Gives l s1) → Passes scope ps ts s1 (Gives ls s2) → Passes scope (p ∷ ps) (Then t ts) s (Gives (l ∷ ls) s2)
    first_argument_stops : {scope : Scope} {p : Name} {ps : List Name} {t : Tree} {ts : Trees} {s s1 : State} {why : Stop}
        → PassesOne scope p t s (Stops why s1) → Passes scope (p ∷ ps) (Then t ts) s (Stops why s1)
    other_arguments_stops : {scope : Scope} {p : Name} {ps : List Name} {t : Tree} {ts : Trees} {s s1 s2 : State} {l : Local} {why : Stop}
        → PassesOne scope p t s (Gives l s1) → Passes scope ps ts s1 (Stops why s2) → Passes scope (p ∷ ps) (Then t ts) s (Stops why s2)

  -- ---- calls

  -- A call of a function, by its number, takes a turn, and then needs room among the nested calls. Its body runs with its own locals; the caller's
  -- are as they were, however the body ends.
  pub data IsCalled : Resolved → ℕ → List Local → State → Outcome Value → Type 0 where
    call_without_turn : {script : Resolved} {i : ℕ} {locals : List Local} {s : State} → s.turns ≡ zero
        → IsCalled script i locals s (Stops OutOfTurns s)
    call_too_deep : {script : Resolved} {i : ℕ} {locals : List Local} {s : State} {k : ℕ} → s.turns ≡ suc k → s.own.calls_left ≡ zero
        → IsCalled script i locals s (Stops TooDeep (with_turns k s))
    -- without `return`, and with `return` alone, the value is uninitialised
    body_ends : {script : Resolved} {i : ℕ} {locals : List Local} {s s1 : State} {k room : ℕ} {flow : Flow} → s.turns ≡ suc k
        → s.own.calls_left ≡ suc room → DoesAll (scope_of script i) (body_of script i) (in_call locals room (with_turns k s)) (Gives flow s1)
        → IsCalled script i locals s (Gives value.Uninit (with_own s.own s1))
    -- `return` ends the function's body, from within any statement of it
    body_returns : {script : Resolved} {i : ℕ} {locals : List Local} {s s1 : State} {k room : ℕ} {x : Value} → s.turns ≡ suc k
        → s.own.calls_left ≡ suc room → DoesAll (scope_of script i) (body_of script i) (in_call locals room (with_turns k s)) (Stops (Returned x) s1)
        → IsCalled script i locals s (Gives x (with_own s.own s1))
    -- `next`, `exit`, runtime errors and want of turns end the caller too
    body_stops : {script : Resolved} {i : ℕ} {locals : List Local} {s s1 : State} {k room : ℕ} {why : Stop} → s.turns ≡ suc k
        → s.own.calls_left ≡ suc room → IsNoReturn why
        → DoesAll (scope_of script i) (body_of script i) (in_call locals room (with_turns k s)) (Stops why s1)
        → IsCalled script i locals s (Stops why (with_own s.own s1))

  -- ---- statements

  -- a test, which holds if it is left out
  pub data Tests : Scope → Option Tree → State → Outcome Bool → Type 0 where
    no_test : {scope : Scope} {s : State} → Tests scope None s (Gives true s)
    test : {scope : Scope} {t : Tree} {s s1 : State} {x : Value} → Evaluates scope t s (Gives x s1)
        → Tests scope (Some t) s (Gives (truth_of_value x) s1)
    test_stops : {scope : Scope} {t : Tree} {s s1 : State} {why : Stop} → Evaluates scope t s (Stops why s1) → Tests scope (Some t) s (Stops why s1)

  pub data DoesPlain : Scope → Plain → State → Outcome (Unit {0}) → Type 0 where
    -- an expression's value is forgotten
    expression : {scope : Scope} {t : Tree} {s s1 : State} {x : Value} → Evaluates scope t s (Gives x s1) → DoesPlain scope (Eval t) s (Gives tt s1)
    expression_stops : {scope : Scope} {t : Tree} {s s1 : State} {why : Stop} → Evaluates scope t s (Stops why s1)
        → DoesPlain scope (Eval t) s (Stops why s1)
    -- print and printf evaluate all operands, then the target's name; then they convert or format, open and write
    puts : {scope : Scope} {p : Printing} {args : Args} {target : Target} {s s1 : State} {xs : List Value}
        → EvaluatesAll scope (with_target (operands_of args) target) s (Gives xs s1)
        → DoesPlain scope (Put p args target) s (put (listed_of p (destination_of target)) xs s1)
    puts_stops : {scope : Scope} {p : Printing} {args : Args} {target : Target} {s s1 : State} {why : Stop}
        → EvaluatesAll scope (with_target (operands_of args) target) s (Stops why s1) → DoesPlain scope (Put p args target) s (Stops why s1)
    deletes : {scope : Scope} {a : List ℕ} {ts : Trees} {s s1 : State} {key : Value} → GivesKey scope ts s (Gives key s1)
        → DoesPlain scope (Delete a ts) s (call row.Delete (array_at scope a s, (key, tt)) s1)
    deletes_stops : {scope : Scope} {a : List ℕ} {ts : Trees} {s s1 : State} {why : Stop} → GivesKey scope ts s (Stops why s1)
        → DoesPlain scope (Delete a ts) s (Stops why s1)
    clears : {scope : Scope} {a : List ℕ} {s : State} → DoesPlain scope (Clear a) s (call row.Clear (array_at scope a s, tt) s)

  -- the first and the third part of `for`
  pub data DoesMaybe : Scope → Option Plain → State → Outcome (Unit {0}) → Type 0 where
    left_out : {scope : Scope} {s : State} → DoesMaybe scope None s (Gives tt s)
    done : {scope : Scope} {p : Plain} {s : State} {o : Outcome (Unit {0})} → DoesPlain scope p s o → DoesMaybe scope (Some p) s o

  -- A statement gives how it ends: normally, by `break` or by `continue`. Everything else that leaves it stops it.
  pub data Does : Scope → Stmt → State → Outcome Flow → Type 0 where
    block : {scope : Scope} {ss : Stmts} {s : State} {o : Outcome Flow} → DoesAll scope ss s o → Does scope (Block ss) s o
    empty : {scope : Scope} {s : State} → Does scope Empty s (Gives Normal s)
    simple : {scope : Scope} {p : Plain} {s s1 : State} → DoesPlain scope p s (Gives tt s1) → Does scope (Simple p) s (Gives Normal s1)
    simple_stops : {scope : Scope} {p : Plain} {s s1 : State} {why : Stop} → DoesPlain scope p s (Stops why s1) → Does scope (Simple p) s (Stops why s1)
    if_true : {scope : Scope} {c : Tree} {b : Stmt} {s s1 : State} {o : Outcome Flow} → Tests scope (Some c) s (Gives true s1) → Does scope b s1 o
        → Does scope (If c b) s o
    if_false : {scope : Scope} {c : Tree} {b : Stmt} {s s1 : State} → Tests scope (Some c) s (Gives false s1) → Does scope (If c b) s (Gives Normal s1)
    if_stops : {scope : Scope} {c : Tree} {b : Stmt} {s s1 : State} {why : Stop} → Tests scope (Some c) s (Stops why s1)
        → Does scope (If c b) s (Stops why s1)
    else_true : {scope : Scope} {c : Tree} {b d : Stmt} {s s1 : State} {o : Outcome Flow} → Tests scope (Some c) s (Gives true s1) → Does scope b s1 o
        → Does scope (IfElse c b d) s o
    else_false : {scope : Scope} {c : Tree} {b d : Stmt} {s s1 : State} {o : Outcome Flow} → Tests scope (Some c) s (Gives false s1)
        → Does scope d s1 o → Does scope (IfElse c b d) s o
    else_stops : {scope : Scope} {c : Tree} {b d : Stmt} {s s1 : State} {why : Stop} → Tests scope (Some c) s (Stops why s1)
        → Does scope (IfElse c b d) s (Stops why s1)
    while_loop : {scope : Scope} {c : Tree} {b : Stmt} {s : State} {o : Outcome Flow} → Rounds scope (Some c) b None s o → Does scope (While c b) s o
    -- `do` runs its body once before the first test, which `continue` reaches and `break` does not
    do_loop : {scope : Scope} {c : Tree} {b : Stmt} {s s1 : State} {flow : Flow} {o : Outcome Flow} → Does scope b s (Gives flow s1) → GoesOn flow
        → Rounds scope (Some c) b None s1 o → Does scope (Do b c) s o
    do_breaks : {scope : Scope} {c : Tree} {b : Stmt} {s s1 : State} → Does scope b s (Gives Broke s1) → Does scope (Do b c) s (Gives Normal s1)
    do_stops : {scope : Scope} {c : Tree} {b : Stmt} {s s1 : State} {why : Stop} → Does scope b s (Stops why s1) → Does scope (Do b c) s (Stops why s1)
    -- `for`: its first part once, then the loop
    for_loop : {scope : Scope} {i p : Option Plain} {c : Option Tree} {b : Stmt} {s s1 : State} {o : Outcome Flow}
        → DoesMaybe scope i s (Gives tt s1) → Rounds scope c b p s1 o → Does scope (For i c p b) s o
    for_stops : {scope : Scope} {i p : Option Plain} {c : Option Tree} {b : Stmt} {s s1 : State} {why : Stop} → DoesMaybe scope i s (Stops why s1)
        → Does scope (For i c p b) s (Stops why s1)
    -- `for (k in a)` takes the keys that are there when it begins
    for_in : {scope : Scope} {k a : List ℕ} {b : Stmt} {s s1 : State} {keys : ℕ} {o : Outcome Flow}
        → call row.Iter (array_at scope a s, tt) s ≡ Gives keys s1 → Walks scope keys k b s1 o → Does scope (ForIn k a b) s o
    for_in_stops : {scope : Scope} {k a : List ℕ} {b : Stmt} {s s1 : State} {why : Stop}
        → call row.Iter (array_at scope a s, tt) s ≡ Stops why s1 → Does scope (ForIn k a b) s (Stops why s1)
    breaks : {scope : Scope} {s : State} → Does scope (Jumping Break) s (Gives Broke s)
    continues : {scope : Scope} {s : State} → Does scope (Jumping Continue) s (Gives Continued s)
    -- `next` stops all that is done for the record, from functions too
    nexts : {scope : Scope} {s : State} → Does scope (Jumping Next) s (Stops Nexted s)
    -- `nextfile` gives up the rest of what is being read, and then is `next`
    next_files : {scope : Scope} {s s1 : State} → call row.NextFile tt s ≡ Gives tt s1 → Does scope (Jumping NextFile) s (Stops Nexted s1)
    next_files_stops : {scope : Scope} {s s1 : State} {why : Stop} → call row.NextFile tt s ≡ Stops why s1
        → Does scope (Jumping NextFile) s (Stops why s1)
    -- `exit` without an expression leaves the status as it is
    exits : {scope : Scope} {s : State} → Does scope (Leave Exit None) s (Stops Exited s)
    exits_with : {scope : Scope} {t : Tree} {s s1 s2 : State} {x : Value} {m : AnyNumber} → Evaluates scope t s (Gives x s1)
        → number_in x s1 ≡ Gives m s2 → Does scope (Leave Exit (Some t)) s (Stops Exited (with_status m s2))
    exits_no_number : {scope : Scope} {t : Tree} {s s1 s2 : State} {x : Value} {why : Stop} → Evaluates scope t s (Gives x s1)
        → number_in x s1 ≡ Stops why s2 → Does scope (Leave Exit (Some t)) s (Stops why s2)
    exits_stops : {scope : Scope} {t : Tree} {s s1 : State} {why : Stop} → Evaluates scope t s (Stops why s1)
        → Does scope (Leave Exit (Some t)) s (Stops why s1)
    returns : {scope : Scope} {s : State} → Does scope (Leave Return None) s (Stops (Returned value.Uninit) s)
    returns_with : {scope : Scope} {t : Tree} {s s1 : State} {x : Value} → Evaluates scope t s (Gives x s1)
        → Does scope (Leave Return (Some t)) s (Stops (Returned x) s1)
    returns_stops : {scope : Scope} {t : Tree} {s s1 : State} {why : Stop} → Evaluates scope t s (Stops why s1)
        → Does scope (Leave Return (Some t)) s (Stops why s1)

  -- statements in their order, up to one that does not end normally
  pub data DoesAll : Scope → Stmts → State → Outcome Flow → Type 0 where
    no_statement : {scope : Scope} {s : State} → DoesAll scope NoStmt s (Gives Normal s)
    next_statement : {scope : Scope} {b : Stmt} {bs : Stmts} {s s1 : State} {o : Outcome Flow} → Does scope b s (Gives Normal s1) → DoesAll scope bs s1 o
        → DoesAll scope (And b bs) s o
    statement_leaves : {scope : Scope} {b : Stmt} {bs : Stmts} {s s1 : State} {flow : Flow} → Does scope b s (Gives flow s1) → Leaves flow
        → DoesAll scope (And b bs) s (Gives flow s1)
    statement_stops : {scope : Scope} {b : Stmt} {bs : Stmts} {s s1 : State} {why : Stop} → Does scope b s (Stops why s1)
        → DoesAll scope (And b bs) s (Stops why s1)

  -- Rounds of a loop: each takes a turn, then tests, then runs the body, then the third part of `for`.
  pub data Rounds : Scope → Option Tree → Stmt → Option Plain → State → Outcome Flow → Type 0 where
    round_without_turn : {scope : Scope} {c : Option Tree} {b : Stmt} {p : Option Plain} {s : State} → s.turns ≡ zero
        → Rounds scope c b p s (Stops OutOfTurns s)
    round_test_stops : {scope : Scope} {c : Option Tree} {b : Stmt} {p : Option Plain} {s s1 : State} {k : ℕ} {why : Stop} → s.turns ≡ suc k
        → Tests scope c (with_turns k s) (Stops why s1) → Rounds scope c b p s (Stops why s1)
    loop_ends : {scope : Scope} {c : Option Tree} {b : Stmt} {p : Option Plain} {s s1 : State} {k : ℕ} → s.turns ≡ suc k
        → Tests scope c (with_turns k s) (Gives false s1) → Rounds scope c b p s (Gives Normal s1)
    round_breaks : {scope : Scope} {c : Option Tree} {b : Stmt} {p : Option Plain} {s s1 s2 : State} {k : ℕ} → s.turns ≡ suc k
        → Tests scope c (with_turns k s) (Gives true s1) → Does scope b s1 (Gives Broke s2) → Rounds scope c b p s (Gives Normal s2)
    round_stops : {scope : Scope} {c : Option Tree} {b : Stmt} {p : Option Plain} {s s1 s2 : State} {k : ℕ} {why : Stop} → s.turns ≡ suc k
        → Tests scope c (with_turns k s) (Gives true s1) → Does scope b s1 (Stops why s2) → Rounds scope c b p s (Stops why s2)
    round_step_stops : {scope : Scope} {c : Option Tree} {b : Stmt} {p : Option Plain} {s s1 s2 s3 : State} {k : ℕ} {flow : Flow} {why : Stop}
        → s.turns ≡ suc k → Tests scope c (with_turns k s) (Gives true s1) → Does scope b s1 (Gives flow s2) → GoesOn flow
        → DoesMaybe scope p s2 (Stops why s3) → Rounds scope c b p s (Stops why s3)
    round : {scope : Scope} {c : Option Tree} {b : Stmt} {p : Option Plain} {s s1 s2 s3 : State} {k : ℕ} {flow : Flow} {o : Outcome Flow}
        → s.turns ≡ suc k → Tests scope c (with_turns k s) (Gives true s1) → Does scope b s1 (Gives flow s2) → GoesOn flow
        → DoesMaybe scope p s2 (Gives tt s3) → Rounds scope c b p s3 o → Rounds scope c b p s o

  -- The keys that are left of a walk, in order: each takes a turn, is stored in the variable, and the body runs.
  pub data Walks : Scope → ℕ → List ℕ → Stmt → State → Outcome Flow → Type 0 where
    walk_fails : {scope : Scope} {keys : ℕ} {x : List ℕ} {b : Stmt} {s s1 : State} {why : Stop} → call row.IterNext (keys, tt) s ≡ Stops why s1
        → Walks scope keys x b s (Stops why s1)
    walk_ends : {scope : Scope} {keys : ℕ} {x : List ℕ} {b : Stmt} {s s1 : State} → call row.IterNext (keys, tt) s ≡ Gives None s1
        → Walks scope keys x b s (Gives Normal s1)
    key_without_turn : {scope : Scope} {keys : ℕ} {x : List ℕ} {b : Stmt} {s s1 : State} {key : Value}
        → call row.IterNext (keys, tt) s ≡ Gives (Some key) s1 → s1.turns ≡ zero → Walks scope keys x b s (Stops OutOfTurns s1)
    key_not_stored : {scope : Scope} {keys : ℕ} {x : List ℕ} {b : Stmt} {s s1 s2 : State} {key : Value} {k : ℕ} {why : Stop}
        → call row.IterNext (keys, tt) s ≡ Gives (Some key) s1 → s1.turns ≡ suc k
        → store_variable (variable_of scope x) key (with_turns k s1) ≡ Stops why s2 → Walks scope keys x b s (Stops why s2)
    walk_breaks : {scope : Scope} {keys : ℕ} {x : List ℕ} {b : Stmt} {s s1 s2 s3 : State} {key : Value} {k : ℕ}
        → call row.IterNext (keys, tt) s ≡ Gives (Some key) s1 → s1.turns ≡ suc k
        → store_variable (variable_of scope x) key (with_turns k s1) ≡ Gives tt s2 → Does scope b s2 (Gives Broke s3)
        → Walks scope keys x b s (Gives Normal s3)
    walk_stops : {scope : Scope} {keys : ℕ} {x : List ℕ} {b : Stmt} {s s1 s2 s3 : State} {key : Value} {k : ℕ} {why : Stop}
        → call row.IterNext (keys, tt) s ≡ Gives (Some key) s1 → s1.turns ≡ suc k
        → store_variable (variable_of scope x) key (with_turns k s1) ≡ Gives tt s2 → Does scope b s2 (Stops why s3)
        → Walks scope keys x b s (Stops why s3)
    walk : {scope : Scope} {keys : ℕ} {x : List ℕ} {b : Stmt} {s s1 s2 s3 : State} {key : Value} {k : ℕ} {flow : Flow} {o : Outcome Flow}
        → call row.IterNext (keys, tt) s ≡ Gives (Some key) s1 → s1.turns ≡ suc k
        → store_variable (variable_of scope x) key (with_turns k s1) ≡ Gives tt s2 → Does scope b s2 (Gives flow s3) → GoesOn flow
        → Walks scope keys x b s3 o → Walks scope keys x b s o
