-- The code of a statement does what the statement does.
use Rattle.std.proofs.Common.{◌≡◌, ℕ, List, [], ◌++◌, refl, sym, ◌∙◌}
use Rattle.std.specs.Prelude.{if◌then◌else◌, Option, Some, None}
use Rattle.awk_values.specs.Values.{truth_of_value}
use Rattle.awk_values.specs.declared.value.Value.{Value}
use Rattle.sem_primitives.specs.Table.{arguments_of}
use Rattle.sem_primitives.specs.ConstantPlaces.{special_at}
use Rattle.sem_primitives.specs.ConstantNumbers.{special_number}
use Rattle.sem_primitives.specs.declared.constants.Destination.{Destination}
use Rattle.sem_primitives.specs.declared.sorts.Constant.TheVariants as constant
use Rattle.sem_primitives.specs.declared.table.Primitive.TheVariants as row
use Rattle.sem_primitives.specs.declared.table.Listed.TheVariants as listed
use Rattle.awk_grammar.specs.Trees as tree
use Rattle.awk_grammar.specs.Trees.{Tree, Trees, NoTree, Stmt, Stmts, NoStmt, And, Args, Target, Printing}
use Rattle.sem_scripts.specs.Names.{Scope, Variable, Reserved, ArrayName, array_of, variable_of}
use Rattle.sem_scripts.specs.Names as names
use Rattle.sem_scripts.specs.ScriptState.{Outcome, Gives, Stops, Execution, go_on, ◌>>=◌, ◌>>◌, give, nothing, settled, stop, change, call, call_listed, Nexted, Exited, Returned}
use Rattle.sem_scripts.specs.Steps.{number_in, array_number, store_variable}
use Rattle.sem_scripts.specs.Meaning.{Calls, value_of, values_of, key_of}
use Rattle.sem_scripts.specs.Statements.{Flow, Normal, Broke, Continued, after, after_round, loop, over_keys, operands_of, with_last, with_target, destination_of, listed_of, put, with_status, test_of, maybe_test, plain_done, maybe_done, done_by, all_done}
use Rattle.mid_program.specs.Mid.{Kind, Code, Over, Array, Codes, form_of, Step, Eval as EvalStep}
use Rattle.mid_program.specs.MidMeaning.{Holds, Values, all_evaluated, boxed, evaluated, holds, keyed, listing, numbered, or_constant, row_of, stepped, all_stepped, truth_in}
use Rattle.mid_program.specs.Texts.{texts_in, all_texts, target_texts, args_texts, plain_texts, maybe_texts, maybe_plain_texts, stmt_texts, stmts_texts}
use Rattle.mid_program.specs.Translation.{host, one, two, moved, store_variable_code, array_code, code_of, codes_of, key_code, plain_step, maybe_step, test_code, step_code, steps_code}
use Rattle.mid_meaning.proofs.Binding.{assoc, bind_as, flat, given, over}
use Rattle.mid_meaning.proofs.Expressions.{special_again, on_array}
use Rattle.mid_meaning.proofs.Operands.{numbered_boxed, truth_boxed}
use Rattle.mid_meaning.proofs.Stands.{AllStand, both_parts, first_part, second_part}
use Rattle.mid_meaning.proofs.Trees.{Heads, same, same_key, values_same}

alone_by : (o : Outcome Flow) → go_on o (λ flow. after flow (give Normal)) ≡ o
alone_by (Gives Normal state) = refl
alone_by (Gives Broke state) = refl
alone_by (Gives Continued state) = refl
alone_by (Stops why state) = refl

-- a statement alone
pub alone : (m : Execution Flow) → (m >>= λ flow. after flow (give Normal)) ≡ m
alone m = λ i state. alone_by (m state) i

-- what gives nothing, and then goes on as a statement does
pub plainly : (m : Execution (Unit {0})) (rest : Execution Flow) → ((m >> give Normal) >>= λ flow. after flow rest) ≡ (m >> rest)
plainly m rest = assoc m (λ u. give Normal) (λ flow. after flow rest)

pub quietly : (m : Execution (Unit {0})) → ((m >> give Normal) >> nothing) ≡ m
quietly m = assoc m (λ u. give Normal) (λ flow. nothing) ∙ given m

-- the operands of a print statement, with its target

last_stand : (texts : List (List ℕ)) (ts : Trees) (t : Tree) → AllStand texts (all_texts ts) → AllStand texts (texts_in t) → AllStand texts (all_texts (with_last ts t))
unfolding all_texts
last_stand texts NoTree t h k = both_parts texts (texts_in t) [] k tt
last_stand texts (tree.Then u ts) t h k =
    both_parts texts (texts_in u) (all_texts (with_last ts t)) (first_part texts (texts_in u) (all_texts ts) h) (last_stand texts ts t (second_part texts (texts_in u) (all_texts ts) h) k)

operands_stand : (texts : List (List ℕ)) (args : Args) → AllStand texts (args_texts args) → AllStand texts (all_texts (operands_of args))
unfolding all_texts texts_in
operands_stand texts tree.NoArgs h = tt
operands_stand texts (tree.Listed ts) h = h
operands_stand texts (tree.Enclosed t ts) h = h

put_stand : (texts : List (List ℕ)) (args : Args) (target : Target) → AllStand texts (args_texts args ++ target_texts target) → AllStand texts (all_texts (with_target (operands_of args) target))
put_stand texts args tree.NoTarget h = operands_stand texts args (first_part texts (args_texts args) [] h)
put_stand texts args (tree.Written t) h = last_stand texts (operands_of args) t (operands_stand texts args (first_part texts (args_texts args) (texts_in t) h)) (second_part texts (args_texts args) (texts_in t) h)
put_stand texts args (tree.Appended t) h = last_stand texts (operands_of args) t (operands_stand texts args (first_part texts (args_texts args) (texts_in t) h)) (second_part texts (args_texts args) (texts_in t) h)

module _ (texts : List (List ℕ)) (parameters : List (List Kind)) (n : ℕ) (calls : Calls) (scope : Scope) (heads : Heads parameters scope) where
  abbrev Eval : (e : Code) → Execution (Holds (form_of [] e))
  Eval e = evaluated texts parameters n calls [] tt e

  abbrev All : (es : Codes) → Execution (Values [] es)
  All es = all_evaluated texts parameters n calls [] tt es

  abbrev code : Tree → Code
  code t = code_of texts scope t

  abbrev meaning : Tree → Execution Value
  meaning t = value_of scope n calls t

  abbrev run : Step → Execution Flow
  run s = stepped texts parameters n calls s

  pub holds_same : (t : Tree) → AllStand texts (texts_in t) → holds texts parameters n calls (code t) ≡ test_of scope n calls t
  holds_same t f = let p = same texts parameters n calls scope heads t f [] tt in
      bind_as (boxed (form_of [] (code t))) (Eval (code t)) (meaning t) (λ v. give (truth_in (form_of [] (code t)) v)) (λ x. give (truth_of_value x)) p.means (λ v i. give (truth_boxed (form_of [] (code t)) p.valued v i))

  maybe_holds : (c : Option Tree) → AllStand texts (maybe_texts c) → holds texts parameters n calls (test_code texts scope c) ≡ maybe_test scope n calls c
  unfolding evaluated
  maybe_holds None f = refl
  maybe_holds (Some t) f = holds_same t f

  put_same : (p : Printing) (d : Destination) (ts : Trees) → AllStand texts (all_texts ts) → run (EvalStep (Over (listed_of p d) (codes_of texts scope ts))) ≡ ((values_of scope n calls ts >>= put (listed_of p d)) >> give Normal)
  unfolding evaluated all_evaluated stepped
  put_same tree.Print d ts f =
      over (All (codes_of texts scope ts) >>= λ vs. call_listed (listed.Print d) (listing [] (codes_of texts scope ts) vs)) (values_of scope n calls ts >>= put (listed.Print d)) (λ v. give Normal)
      (bind_as (listing [] (codes_of texts scope ts)) (All (codes_of texts scope ts)) (values_of scope n calls ts) (λ vs. call_listed (listed.Print d) (listing [] (codes_of texts scope ts) vs)) (put (listed.Print d)) (values_same texts parameters n calls scope heads ts f [] tt) (λ vs. refl))
  put_same tree.Printf d ts f =
      over (All (codes_of texts scope ts) >>= λ vs. call_listed (listed.Printf d) (listing [] (codes_of texts scope ts) vs)) (values_of scope n calls ts >>= put (listed.Printf d)) (λ v. give Normal)
      (bind_as (listing [] (codes_of texts scope ts)) (All (codes_of texts scope ts)) (values_of scope n calls ts) (λ vs. call_listed (listed.Printf d) (listing [] (codes_of texts scope ts) vs)) (put (listed.Printf d)) (values_same texts parameters n calls scope heads ts f [] tt) (λ vs. refl))

  clear_same : (a : ArrayName) → run (EvalStep (host row.Clear (one (Array a)))) ≡ ((array_number a >>= λ i. call row.Clear (i, tt)) >> give Normal)
  unfolding evaluated all_evaluated stepped
  clear_same (names.Numbered i) = refl
  clear_same (names.Given i) = refl

  plain_same : (p : tree.Plain) → AllStand texts (plain_texts p) → run (plain_step texts scope p) ≡ (plain_done scope n calls p >> give Normal)
  unfolding evaluated all_evaluated stepped plain_done
  plain_same (tree.Eval t) f = let p = same texts parameters n calls scope heads t f [] tt in
      bind_as (boxed (form_of [] (code t))) (Eval (code t)) (meaning t) (λ v. give Normal) (λ x. give Normal) p.means (λ v. refl) ∙ sym (assoc (meaning t) (λ x. nothing) (λ u. give Normal))
  plain_same (tree.Put p args target) f = put_same p (destination_of target) (with_target (operands_of args) target) (put_stand texts args target f)
  plain_same (tree.Delete a ts) f =
      on_array texts parameters n calls [] tt (array_of scope a) (key_code texts scope ts) (key_of scope n calls ts) (same_key texts parameters n calls scope heads ts f [] tt) (λ vs. settled (row_of [] (arguments_of row.Delete) (two (array_code texts scope a) (key_code texts scope ts)) vs) >>= λ g. call row.Delete g) (λ z. give Normal)
      (λ i key. call row.Delete (i, (key, tt)) >> give Normal) (λ i v. refl)
      ∙ sym (flat (array_number (array_of scope a)) (λ i. key_of scope n calls ts) (λ i key. call row.Delete (i, (key, tt))) (λ u. give Normal))
  plain_same (tree.Clear a) f = clear_same (array_of scope a)

  maybe_same : (p : Option tree.Plain) → AllStand texts (maybe_plain_texts p) → run (maybe_step texts scope p) ≡ (maybe_done scope n calls p >> give Normal)
  unfolding stepped
  maybe_same None f = refl
  maybe_same (Some p) f = plain_same p f

  between_same : (p : Option tree.Plain) → AllStand texts (maybe_plain_texts p) → (run (maybe_step texts scope p) >> nothing) ≡ maybe_done scope n calls p
  between_same p f = over (run (maybe_step texts scope p)) (maybe_done scope n calls p >> give Normal) (λ flow. nothing) (maybe_same p f) ∙ quietly (maybe_done scope n calls p)

  pub keyed_same : (x : Variable) → keyed texts parameters n calls (store_variable_code x (moved 0)) ≡ store_variable x
  unfolding evaluated all_evaluated
  keyed_same (names.Global i) = refl
  keyed_same (names.Parameter i) = refl
  keyed_same (Reserved s) = λ j key. (given (call row.SetSpecial (or_constant constant.Special (special_at (special_number s)), (key, tt))) ∙ (λ i. call row.SetSpecial (or_constant constant.Special (special_again s i), (key, tt)))) j

  exit_same : (t : Tree) → AllStand texts (texts_in t) → (Eval (code t) >>= λ v. settled (numbered (form_of [] (code t)) v) >>= λ m. change (with_status m) >>= λ u. stop Exited) ≡ (meaning t >>= λ x. number_in x >>= λ m. change (with_status m) >>= λ u. stop {A = Flow} Exited)
  exit_same t f = let p = same texts parameters n calls scope heads t f [] tt in
      bind_as (boxed (form_of [] (code t))) (Eval (code t)) (meaning t) (λ v. settled (numbered (form_of [] (code t)) v) >>= λ m. change (with_status m) >>= λ u. stop {A = Flow} Exited) (λ x. number_in x >>= λ m. change (with_status m) >>= λ u. stop {A = Flow} Exited) p.means
      (λ v i. settled (sym (numbered_boxed (form_of [] (code t)) p.valued v) i) >>= λ m. change (with_status m) >>= λ u. stop {A = Flow} Exited)

  return_same : (t : Tree) → AllStand texts (texts_in t) → (Eval (code t) >>= λ v. stop {A = Flow} (Returned (boxed (form_of [] (code t)) v))) ≡ (meaning t >>= λ x. stop {A = Flow} (Returned x))
  return_same t f = let p = same texts parameters n calls scope heads t f [] tt in
      bind_as (boxed (form_of [] (code t))) (Eval (code t)) (meaning t) (λ v. stop {A = Flow} (Returned (boxed (form_of [] (code t)) v))) (λ x. stop {A = Flow} (Returned x)) p.means (λ v. refl)

  mutual
    unfolding stepped all_stepped step_code steps_code done_by all_done evaluated all_evaluated stmt_texts stmts_texts

    pub step_same : (s : Stmt) → AllStand texts (stmt_texts s) → stepped texts parameters n calls (step_code texts scope s) ≡ done_by scope n calls s
    step_same (tree.Block ss) f = steps_same ss f
    step_same tree.Empty f = refl
    step_same (tree.Simple p) f = plain_same p f
    step_same (tree.If c s) f = λ i. holds_same c (first_part texts (texts_in c) (stmt_texts s) f) i >>= λ b. if b then step_same s (second_part texts (texts_in c) (stmt_texts s) f) i else give Normal
    step_same (tree.IfElse c s t) f = λ i. holds_same c (first_part texts (texts_in c) (stmt_texts s ++ stmt_texts t) f) i >>= λ b. if b then step_same s (first_part texts (stmt_texts s) (stmt_texts t) (second_part texts (texts_in c) (stmt_texts s ++ stmt_texts t) f)) i else step_same t (second_part texts (stmt_texts s) (stmt_texts t) (second_part texts (texts_in c) (stmt_texts s ++ stmt_texts t) f)) i
    step_same (tree.While c s) f = λ i. loop n (holds_same c (first_part texts (texts_in c) (stmt_texts s) f) i) (step_same s (second_part texts (texts_in c) (stmt_texts s) f) i) nothing
    step_same (tree.Do s c) f = λ i. step_same s (first_part texts (stmt_texts s) (texts_in c) f) i >>= λ flow. after_round flow (loop n (holds_same c (second_part texts (stmt_texts s) (texts_in c) f) i) (step_same s (first_part texts (stmt_texts s) (texts_in c) f) i) nothing)
    step_same (tree.For i c p s) f =
        (λ j. maybe_same i (first_part texts (maybe_plain_texts i) (maybe_texts c ++ (maybe_plain_texts p ++ stmt_texts s)) f) j >>= λ flow. after flow (loop n (maybe_holds c (first_part texts (maybe_texts c) (maybe_plain_texts p ++ stmt_texts s) (second_part texts (maybe_plain_texts i) (maybe_texts c ++ (maybe_plain_texts p ++ stmt_texts s)) f)) j) (step_same s (second_part texts (maybe_plain_texts p) (stmt_texts s) (second_part texts (maybe_texts c) (maybe_plain_texts p ++ stmt_texts s) (second_part texts (maybe_plain_texts i) (maybe_texts c ++ (maybe_plain_texts p ++ stmt_texts s)) f))) j) (between_same p (first_part texts (maybe_plain_texts p) (stmt_texts s) (second_part texts (maybe_texts c) (maybe_plain_texts p ++ stmt_texts s) (second_part texts (maybe_plain_texts i) (maybe_texts c ++ (maybe_plain_texts p ++ stmt_texts s)) f))) j) >>= λ flow1. after flow1 (give Normal)))
        ∙ (λ j. (maybe_done scope n calls i >> give Normal) >>= λ flow. after flow (alone (loop n (maybe_test scope n calls c) (done_by scope n calls s) (maybe_done scope n calls p)) j))
        ∙ plainly (maybe_done scope n calls i) (loop n (maybe_test scope n calls c) (done_by scope n calls s) (maybe_done scope n calls p))
    step_same (tree.ForIn k a s) f = λ i. array_number (array_of scope a) >>= λ x. call row.Iter (x, tt) >>= λ keys. over_keys n keys (keyed_same (variable_of scope k) i) (step_same s f i)
    step_same (tree.Jumping tree.Break) f = refl
    step_same (tree.Jumping tree.Continue) f = refl
    step_same (tree.Jumping tree.Next) f = refl
    step_same (tree.Jumping tree.NextFile) f = plainly (call row.NextFile tt) (stop Nexted)
    step_same (tree.Leave tree.Exit None) f = refl
    step_same (tree.Leave tree.Exit (Some t)) f = exit_same t f
    step_same (tree.Leave tree.Return None) f = refl
    step_same (tree.Leave tree.Return (Some t)) f = return_same t f

    pub steps_same : (ss : Stmts) → AllStand texts (stmts_texts ss) → all_stepped texts parameters n calls (steps_code texts scope ss) ≡ all_done scope n calls ss
    steps_same NoStmt f = refl
    steps_same (And s ss) f = λ i. step_same s (first_part texts (stmt_texts s) (stmts_texts ss) f) i >>= λ flow. after flow (steps_same ss (second_part texts (stmt_texts s) (stmts_texts ss) f) i)
