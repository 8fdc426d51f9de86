-- Under a call in the code of a script at most as many operands are pending as its function has expressions.
use Rattle.std.proofs.Common.{ℕ, zero, suc, ◌+◌, ◌≤◌, ◌≡◌, Bool, true, false, List, [], ◌∷◌, map, Option, Some, None, arith}
use Rattle.std.specs.Prelude.{if◌then◌else◌}
use Rattle.awk_tokens.specs.declared.reserved_words.Builtin.{Builtin}
use Rattle.awk_tokens.specs.declared.reserved_words.Builtin.TheVariants as builtin
use Rattle.awk_grammar.specs.Token.{Matching, Matches, Differs, Plus, Minus, Not, Signed, Over as Divided, Assigning, Set as Put_, SetSum, SetProduct, SetPower, Assign, Or, And as Both, Match, Compare as Compared, Mul, Pow, Number as Numeral, Quoted, Ere}
use Rattle.awk_grammar.specs.Token as token
use Rattle.awk_grammar.specs.Trees as tree
use Rattle.awk_grammar.specs.Trees.{Tree, Leaf, Length, Var, Index, Field, Group, Apply, Unary, Pre, Post, Bin, Join, Add, Other, Has, HasList, Cond, GetInto, GetFrom, GetIntoFrom, Trees, NoTree, Args, NoArgs, Listed, Enclosed, Target, NoTarget, Written, Appended, Plain, Eval, Put, Delete, Clear, Stmt, Stmts, NoStmt, And, Item, Pattern, One, Between}
use Rattle.mid_program.specs.declared.mid.Operation.{Operation}
use Rattle.sem_scripts.specs.Names as names
use Rattle.sem_scripts.specs.Names.{Function, Name, Resolved, Reserved, Scope, Variable, function_at, function_number, is_array, variable_of}
use Rattle.sem_scripts.specs.Items.{pattern_ranges, print_record, top}
use Rattle.mid_program.specs.Mid as mid
use Rattle.mid_program.specs.Mid.{AskLine, Bound, Code, FileLine}
use Rattle.sem_scripts.specs.Statements.{operands_of, scope_in, with_last, with_target}
use Rattle.sem_scripts.specs.Steps.{ere_in}
use Rattle.mid_program.specs.Texts.{texts_of_script}
use Rattle.mid_program.specs.Translation as translation
use Rattle.mid_program.specs.Translation.{ElementTarget, FieldTarget, NameTarget, applied_code, argument_codes, assigned_at, begin_code, code_of, codes_of, end_code, ere_code, fresh_codes, given_code, items_code, kept_code, keeping, key_code, matching_code, maybe_step, passed_code, plain_step, program_of, read_at, received_at, routine_code, set_variable_code, step_after_at, step_code, stepped_at, steps_code, store_at, store_variable_code, stored_at, substituted_at, target_in, test_code, truncated_code, updated_at, variable_code, where_code}
use Rattle.agreement.specs.Places.Nodes.{all_nodes, args_nodes, items_nodes, maybe_nodes, maybe_plain_nodes, nodes, pattern_nodes, plain_nodes, stmt_nodes, stmts_nodes, target_nodes}
use Rattle.agreement.proofs.PlacesLemmas.Pending.{AllFew, Few, PartsFew, RoutinesFew, StepFew, StepsFew}

nodes_some : (x : Tree) → 1 ≤ nodes x
nodes_some (Leaf c) = omega arith
nodes_some x = omega arith

last_nodes : (ts : Trees) (x : Tree) → all_nodes (with_last ts x) ≡ all_nodes ts + nodes x
last_nodes NoTree x = omega arith
last_nodes (tree.Then u ts) x = let r = last_nodes ts x in omega (arith, r)

all_target_nodes : (ts : Trees) (to : Target) → all_nodes (with_target ts to) ≡ all_nodes ts + target_nodes to
all_target_nodes ts NoTarget = omega arith
all_target_nodes ts (Written x) = last_nodes ts x
all_target_nodes ts (Appended x) = last_nodes ts x

-- Places that take a value: nothing is called but in what they take.

module _ (m : ℕ) where
  variable_few : (x : Variable) (t : ℕ) → Few m t (variable_code x)
  variable_few (names.Global i) t = tt
  variable_few (names.Parameter i) t = tt
  variable_few (Reserved s) t = tt

  store_variable_few : (x : Variable) (t : ℕ) (e : Code) → Few m t e → Few m t (store_variable_code x e)
  store_variable_few (names.Global i) t e h = h
  store_variable_few (names.Parameter i) t e h = h
  store_variable_few (Reserved s) t e h = (h, tt)

  set_variable_few : (x : Variable) (t : ℕ) (e : Code) → Few m t e → Few m t (set_variable_code x e)
  set_variable_few (names.Global i) t e h = h
  set_variable_few (names.Parameter i) t e h = h
  set_variable_few (Reserved s) t e h = (h, ((tt, tt), tt))

  read_few : (g : translation.Target) (t i : ℕ) → Few m t (read_at g i)
  read_few (ElementTarget a) t i = (tt, (tt, tt))
  read_few (NameTarget x) t i = variable_few x t
  read_few FieldTarget t i = (tt, tt)

  store_few : (g : translation.Target) (t i : ℕ) (z : Bool) (j : ℕ) → Few m t (store_at g i (Bound z j))
  store_few (ElementTarget a) t i z j = (tt, (tt, (tt, tt)))
  store_few (NameTarget x) t i z j = store_variable_few x t (Bound z j) tt
  store_few FieldTarget t i z j = (tt, (tt, tt))

  stored_few : (g : translation.Target) (t i : ℕ) (e : Code) → Few m t e → Few m t (stored_at g i e)
  stored_few (ElementTarget a) t i e h = (h, (store_few (ElementTarget a) (suc t) (suc i) false 0, tt))
  stored_few (NameTarget x) t i e h = set_variable_few x t e h
  stored_few FieldTarget t i e h = (h, (store_few FieldTarget (suc t) (suc i) false 0, tt))

  stepped_few : (s : token.Step) (g : translation.Target) (t : ℕ) → Few m t (stepped_at s g)
  stepped_few s g t = stored_few g t 0 _ (read_few g t 0, (tt, tt))

  step_after_few : (s : token.Step) (g : translation.Target) (t : ℕ) → Few m t (step_after_at s g)
  step_after_few s g t = ((read_few g t 0, tt), ((tt, (tt, tt)), (store_few g (suc (suc t)) 2 true 0, tt)))

  updated_few : (o : Operation) (g : translation.Target) (t : ℕ) (e : Code) → Few m t e → Few m t (updated_at o g e)
  updated_few o g t e h = (h, stored_few g (suc t) 1 _ (read_few g (suc t) 1, (tt, tt)))

  assigned_few : (s : Assigning) (g : translation.Target) (t : ℕ) (e : Code) → Few m t e → Few m t (assigned_at s g e)
  assigned_few Put_ g t e h = stored_few g t 0 e h
  assigned_few (SetSum s) g t e h = updated_few _ g t e h
  assigned_few (SetProduct p) g t e h = updated_few _ g t e h
  assigned_few SetPower g t e h = updated_few _ g t e h

  received_few : (g : translation.Target) (t : ℕ) → Few m t (received_at g)
  received_few g t = store_few g t 1 true 0

  replaced_few : (all : Bool) (g : translation.Target) (t : ℕ) → Few m t (substituted_at all g)
  replaced_few all g t = ((tt, (tt, (read_few g (suc (suc t)) 0, tt))), store_few g (suc (suc t)) 1 true 0)

  matching_few : (a : Matching) (t : ℕ) (e : Code) → Few m t e → Few m t (matching_code a e)
  matching_few Matches t e h = h
  matching_few Differs t e h = (h, (tt, tt))

  ere_few : (texts ts : List (List ℕ)) (t : ℕ) (e : Code) → Few m t e → Few m t (ere_code texts ts e)
  ere_few texts [] t e h = h
  ere_few texts (x ∷ xs) t e h = tt

  fresh_few : (ps : List Name) (t : ℕ) → AllFew m t (fresh_codes ps)
  fresh_few [] t = tt
  fresh_few (p ∷ ps) t = by p.is_array (fresh_few ps t) (fresh_few ps (suc t))
    where
      by : (z : Bool) → AllFew m t (fresh_codes ps) → AllFew m (suc t) (fresh_codes ps) → AllFew m t (if z then mid.Fresh (fresh_codes ps) else mid.At mid.Unset (fresh_codes ps))
      by true a c = a
      by false a c = (tt, c)

-- Trees: a tree whose value goes to temporary t has room for its nodes.

module _ (m : ℕ) (texts : List (List ℕ)) (scope : Scope) where
  abbrev code : Tree → Code
  code x = code_of texts scope x

  abbrev Fits : Tree → ℕ → Type 0
  Fits x t = t + nodes x ≤ suc m

  passed_few : (p : Name) (x : List ℕ) (t : ℕ) → Few m t (passed_code texts scope p x)
  passed_few p x t = by p.is_array (is_array scope x)
    where
      by : (a c : Bool) → Few m t (if a then translation.array_code texts scope x else if c then mid.Unset else variable_code (variable_of scope x))
      by true c = tt
      by false true = tt
      by false false = variable_few m (variable_of scope x) t

  given_few : (p : Name) (x : Tree) (t : ℕ) (e : Code) → Few m t e → Few m t (given_code texts scope p x e)
  given_few p (Var x) t e h = passed_few p x t
  given_few p x t e h = h

  mutual
    unfolding code_of codes_of key_code kept_code argument_codes truncated_code applied_code

    pub code_few : (x : Tree) (t : ℕ) → t + nodes x ≤ suc m → Few m t (code_of texts scope x)
    code_few (Leaf (Numeral n)) t h = tt
    code_few (Leaf (Quoted s)) t h = tt
    code_few (Leaf (Ere s)) t h = ((tt, tt), (tt, tt))
    code_few Length t h = ((tt, tt), tt)
    code_few (Var x) t h = variable_few m (variable_of scope x) t
    code_few (Index x ts) t h = (tt, (key_few ts (suc t) (omega (arith, h)), tt))
    code_few (Field x) t h = (code_few x t (omega (arith, h)), tt)
    code_few (Group x) t h = code_few x t (omega (arith, h))
    code_few (tree.Call f ts) t h = (omega (arith, h), arguments_few (function_at scope.script.functions (function_number scope.script f)).parameters ts t (omega (arith, h)))
    code_few (Apply f ts) t h = applied_few f ts t h
    code_few (Unary Not x) t h = (code_few x t (omega (arith, h)), (tt, tt))
    code_few (Unary (Signed Plus) x) t h = (code_few x t (omega (arith, h)), tt)
    code_few (Unary (Signed Minus) x) t h = (tt, (code_few x (suc t) (omega (arith, h)), tt))
    code_few (Pre s x) t h = kept_few x t (stepped_at s (target_in texts scope x)) (omega (arith, h)) (stepped_few m s (target_in texts scope x) t) (stepped_few m s (target_in texts scope x) (suc t))
    code_few (Post s x) t h = kept_few x t (step_after_at s (target_in texts scope x)) (omega (arith, h)) (step_after_few m s (target_in texts scope x) t) (step_after_few m s (target_in texts scope x) (suc t))
    code_few (Bin Join a c) t h = (code_few a t (omega (arith, h)), (code_few c (suc t) (omega (arith, h)), tt))
    code_few (Bin (Add s) a c) t h = (code_few a t (omega (arith, h)), (code_few c (suc t) (omega (arith, h)), tt))
    code_few (Bin (Other (Mul p)) a c) t h = (code_few a t (omega (arith, h)), (code_few c (suc t) (omega (arith, h)), tt))
    code_few (Bin (Other Pow) a c) t h = (code_few a t (omega (arith, h)), (code_few c (suc t) (omega (arith, h)), tt))
    code_few (Bin (Other (Compared o)) a c) t h = (code_few a t (omega (arith, h)), code_few c (suc t) (omega (arith, h)))
    code_few (Bin (Other (Match o)) a c) t h = matching_few m o t _ (code_few a t (omega (arith, h)), (ere_few m texts (ere_in c) (suc t) (code c) (code_few c (suc t) (omega (arith, h))), tt))
    code_few (Bin (Other Both) a c) t h = (code_few a t (omega (arith, h)), ((code_few c t (omega (arith, h)), (tt, tt)), tt))
    code_few (Bin (Other Or) a c) t h = (code_few a t (omega (arith, h)), (tt, (code_few c t (omega (arith, h)), (tt, tt))))
    code_few (Bin (Other (Assign s)) a c) t h =
        let g = target_in texts scope a in
        kept_few a t (assigned_at s g (code c)) (omega (arith, h)) (assigned_few m s g t (code c) (code_few c t (omega (arith, h)))) (assigned_few m s g (suc t) (code c) (code_few c (suc t) (omega (arith, h))))
    code_few (Has x a) t h = (tt, (code_few x (suc t) (omega (arith, h)), tt))
    code_few (HasList x ts a) t h = let n = nodes_some x in (tt, ((code_few x (suc t) (omega (arith, h)), (key_few ts (suc (suc t)) (omega (arith, h, n)), tt)), tt))
    code_few (Cond e a c) t h = (code_few e t (omega (arith, h)), (code_few a t (omega (arith, h)), code_few c t (omega (arith, h))))
    code_few tree.Get t h = tt
    code_few (GetInto v) t h = let g = target_in texts scope v in kept_few v t (AskLine (received_at g)) (omega (arith, h)) (received_few m g (suc (suc t))) (received_few m g (suc (suc (suc t))))
    code_few (GetFrom s) t h = ((code_few s t (omega (arith, h)), tt), tt)
    code_few (GetIntoFrom v s) t h =
        let g = target_in texts scope v in
        kept_few v t (FileLine (code s) (received_at g)) (omega (arith, h))
        (code_few s t (omega (arith, h)), received_few m g (suc (suc t))) (code_few s (suc t) (omega (arith, h)), received_few m g (suc (suc (suc t))))

    pub codes_few : (ts : Trees) (t : ℕ) → t + all_nodes ts ≤ suc m → AllFew m t (codes_of texts scope ts)
    codes_few NoTree t h = tt
    codes_few (tree.Then x ts) t h = let n = nodes_some x in (code_few x t (omega (arith, h)), codes_few ts (suc t) (omega (arith, h, n)))

    pub key_few : (ts : Trees) (t : ℕ) → t + all_nodes ts ≤ suc m → Few m t (key_code texts scope ts)
    key_few NoTree t h = tt
    key_few (tree.Then x NoTree) t h = code_few x t (omega (arith, h))
    key_few (tree.Then x (tree.Then u ts)) t h = let n = nodes_some x in (code_few x t (omega (arith, h)), (key_few (tree.Then u ts) (suc t) (omega (arith, h, n)), tt))

    -- what is kept for a place, before what is done with it, which stands one temporary further where anything is kept
    kept_few : (x : Tree) (t : ℕ) (body : Code) → t + nodes x ≤ suc m → Few m t body → Few m (suc t) body → Few m t (keeping (kept_code texts scope x) body)
    kept_few (Var x) t body h a c = a
    kept_few (Index x ts) t body h a c = (key_few ts t (omega (arith, h)), c)
    kept_few (Field x) t body h a c = ((code_few x t (omega (arith, h)), tt), c)
    kept_few x t body h a c = (tt, c)

    arguments_few : (ps : List Name) (ts : Trees) (t : ℕ) → t + all_nodes ts ≤ suc m → AllFew m t (argument_codes texts scope ps ts)
    arguments_few ps NoTree t h = fresh_few m ps t
    arguments_few [] (tree.Then x ts) t h = tt
    arguments_few (p ∷ ps) (tree.Then x ts) t h =
        let n = nodes_some x in
        (given_few p x t (code x) (code_few x t (omega (arith, h))), arguments_few ps ts (suc t) (omega (arith, h, n)))

    truncated_few : (x : Tree) (t : ℕ) (e : Code) → t + nodes x ≤ suc m → Few m t e → Few m t (truncated_code texts scope x e)
    truncated_few (Group x) t e h r = truncated_few x t e (omega (arith, h)) r
    truncated_few (Bin (Other (Mul Divided)) a c) t e h r = (code_few a t (omega (arith, h)), (code_few c (suc t) (omega (arith, h)), tt))
    truncated_few x t e h r = (r, tt)

    applied_few : (f : Builtin) (ts : Trees) (t : ℕ) → t + suc (all_nodes ts) ≤ suc m → Few m t (code (Apply f ts))
    applied_few builtin.Length NoTree t h = ((tt, tt), tt)
    applied_few builtin.Length (tree.Then x NoTree) t h = (code_few x t (omega (arith, h)), tt)
    applied_few builtin.Length (tree.Then x (tree.Then u ts)) t h = ((tt, tt), tt)
    applied_few builtin.Substr (tree.Then x (tree.Then u NoTree)) t h = (code_few x t (omega (arith, h)), (code_few u (suc t) (omega (arith, h)), tt))
    applied_few builtin.Substr (tree.Then x (tree.Then u (tree.Then v ts))) t h =
        let n = nodes_some x in
        (code_few x t (omega (arith, h)), (code_few u (suc t) (omega (arith, h)), (code_few v (suc (suc t)) (omega (arith, h, n)), tt)))
    applied_few builtin.Substr NoTree t h = tt
    applied_few builtin.Substr (tree.Then x NoTree) t h = tt
    applied_few builtin.Index (tree.Then x (tree.Then u ts)) t h = (code_few x t (omega (arith, h)), (code_few u (suc t) (omega (arith, h)), tt))
    applied_few builtin.Index NoTree t h = tt
    applied_few builtin.Index (tree.Then x NoTree) t h = tt
    applied_few builtin.Split (tree.Then x (tree.Then (Var a) NoTree)) t h = (code_few x t (omega (arith, h)), (tt, (tt, tt)))
    applied_few builtin.Split (tree.Then x (tree.Then (Var a) (tree.Then u ts))) t h =
        (code_few x t (omega (arith, h)), (tt, (ere_few m texts (ere_in u) (suc (suc t)) (code u) (code_few u (suc (suc t)) (omega (arith, h))), tt)))
    applied_few builtin.Split ts t h = tt
    applied_few builtin.Sub (tree.Then e (tree.Then r NoTree)) t h = (ere_few m texts (ere_in e) t (code e) (code_few e t (omega (arith, h))), (code_few r (suc t) (omega (arith, h)), (tt, replaced_few m false FieldTarget (suc (suc (suc t))))))
    applied_few builtin.Sub (tree.Then e (tree.Then r (tree.Then x ts))) t h =
        let g = target_in texts scope x in
        let n = nodes_some e in
        let place = kept_few x (suc (suc t)) (substituted_at false g) (omega (arith, h, n)) (replaced_few m false g (suc (suc t))) (replaced_few m false g (suc (suc (suc t)))) in
        (ere_few m texts (ere_in e) t (code e) (code_few e t (omega (arith, h))), (code_few r (suc t) (omega (arith, h)), place))
    applied_few builtin.Sub NoTree t h = tt
    applied_few builtin.Sub (tree.Then x NoTree) t h = tt
    applied_few builtin.Gsub (tree.Then e (tree.Then r NoTree)) t h = (ere_few m texts (ere_in e) t (code e) (code_few e t (omega (arith, h))), (code_few r (suc t) (omega (arith, h)), (tt, replaced_few m true FieldTarget (suc (suc (suc t))))))
    applied_few builtin.Gsub (tree.Then e (tree.Then r (tree.Then x ts))) t h =
        let g = target_in texts scope x in
        let n = nodes_some e in
        let place = kept_few x (suc (suc t)) (substituted_at true g) (omega (arith, h, n)) (replaced_few m true g (suc (suc t))) (replaced_few m true g (suc (suc (suc t)))) in
        (ere_few m texts (ere_in e) t (code e) (code_few e t (omega (arith, h))), (code_few r (suc t) (omega (arith, h)), place))
    applied_few builtin.Gsub NoTree t h = tt
    applied_few builtin.Gsub (tree.Then x NoTree) t h = tt
    applied_few builtin.Match (tree.Then x (tree.Then e ts)) t h =
        (code_few x t (omega (arith, h)), (ere_few m texts (ere_in e) (suc t) (code e) (code_few e (suc t) (omega (arith, h))), tt))
    applied_few builtin.Match NoTree t h = tt
    applied_few builtin.Match (tree.Then x NoTree) t h = tt
    applied_few builtin.Sprintf NoTree t h = tt
    applied_few builtin.Sprintf (tree.Then x ts) t h = let n = nodes_some x in (code_few x t (omega (arith, h)), codes_few ts (suc t) (omega (arith, h, n)))
    applied_few builtin.ToLower (tree.Then x ts) t h = (code_few x t (omega (arith, h)), tt)
    applied_few builtin.ToLower NoTree t h = tt
    applied_few builtin.ToUpper (tree.Then x ts) t h = (code_few x t (omega (arith, h)), tt)
    applied_few builtin.ToUpper NoTree t h = tt
    applied_few builtin.Int (tree.Then x ts) t h = truncated_few x t (code x) (omega (arith, h)) (code_few x t (omega (arith, h)))
    applied_few builtin.Int NoTree t h = tt
    applied_few builtin.Close (tree.Then x ts) t h = ((code_few x t (omega (arith, h)), tt), tt)
    applied_few builtin.Close NoTree t h = tt
    applied_few builtin.Fflush (tree.Then x ts) t h = ((code_few x t (omega (arith, h)), tt), tt)
    applied_few builtin.Fflush NoTree t h = tt

  -- Statements.

  -- `print` alone puts out `$0`, which stands in no expression of the script, before the file that it goes to
  put_few : (args : Args) (to : Target) → args_nodes args + target_nodes to ≤ m → AllFew m zero (codes_of texts scope (with_target (operands_of args) to))
  unfolding code_of codes_of
  put_few NoArgs NoTarget h = ((tt, tt), tt)
  put_few NoArgs (Written x) h = ((tt, tt), (code_few x 1 (omega (arith, h)), tt))
  put_few NoArgs (Appended x) h = ((tt, tt), (code_few x 1 (omega (arith, h)), tt))
  put_few (Listed ts) to h = codes_few (with_target ts to) zero (let e = all_target_nodes ts to in omega (arith, h, e))
  put_few (Enclosed x ts) to h = codes_few (with_target (tree.Then x ts) to) zero (let e = all_target_nodes (tree.Then x ts) to in omega (arith, h, e))

  plain_few : (p : Plain) → plain_nodes p ≤ m → StepFew m (plain_step texts scope p)
  plain_few (Eval x) h = code_few x zero (omega (arith, h))
  plain_few (Put p args to) h = put_few args to h
  plain_few (Delete a ts) h = (tt, (key_few ts 1 (omega (arith, h)), tt))
  plain_few (Clear a) h = (tt, tt)

  maybe_plain_few : (p : Option Plain) → maybe_plain_nodes p ≤ m → StepFew m (maybe_step texts scope p)
  maybe_plain_few None h = tt
  maybe_plain_few (Some p) h = plain_few p h

  maybe_test_few : (x : Option Tree) → maybe_nodes x ≤ m → Few m zero (test_code texts scope x)
  maybe_test_few None h = tt
  maybe_test_few (Some x) h = code_few x zero (omega (arith, h))

  mutual
    unfolding step_code steps_code

    step_few : (s : Stmt) → stmt_nodes s ≤ m → StepFew m (step_code texts scope s)
    step_few (tree.Block ss) h = steps_few ss h
    step_few tree.Empty h = tt
    step_few (tree.Simple p) h = plain_few p h
    step_few (tree.If e s) h = (code_few e zero (omega (arith, h)), (step_few s (omega (arith, h)), tt))
    step_few (tree.IfElse e s u) h = (code_few e zero (omega (arith, h)), (step_few s (omega (arith, h)), step_few u (omega (arith, h))))
    step_few (tree.While e s) h = (code_few e zero (omega (arith, h)), (step_few s (omega (arith, h)), tt))
    step_few (tree.Do s e) h = (code_few e zero (omega (arith, h)), (step_few s (omega (arith, h)), tt))
    step_few (tree.For i e p s) h =
        (maybe_plain_few i (omega (arith, h)), ((maybe_test_few e (omega (arith, h)), (step_few s (omega (arith, h)), maybe_plain_few p (omega (arith, h)))), tt))
    step_few (tree.ForIn k a s) h = (store_variable_few m (variable_of scope k) 1 (Bound true 0) tt, step_few s h)
    step_few (tree.Jumping tree.Break) h = tt
    step_few (tree.Jumping tree.Continue) h = tt
    step_few (tree.Jumping tree.Next) h = tt
    step_few (tree.Jumping tree.NextFile) h = (tt, (tt, tt))
    step_few (tree.Leave tree.Exit None) h = tt
    step_few (tree.Leave tree.Exit (Some x)) h = code_few x zero (omega (arith, h))
    step_few (tree.Leave tree.Return None) h = tt
    step_few (tree.Leave tree.Return (Some x)) h = code_few x zero (omega (arith, h))

    pub steps_few : (ss : Stmts) → stmts_nodes ss ≤ m → StepsFew m (steps_code texts scope ss)
    steps_few NoStmt h = tt
    steps_few (And s ss) h = (step_few s (omega (arith, h)), steps_few ss (omega (arith, h)))

  -- Items.

  record_few : StepsFew m (steps_code texts scope print_record)
  unfolding code_of codes_of step_code steps_code
  record_few = (((tt, tt), tt), tt)

  where_few : (i : ℕ) (p : Pattern) (action : mid.Step) → pattern_nodes p ≤ m → StepFew m action → StepFew m (where_code texts scope i p action)
  where_few i (One x) action h a = (code_few x zero (omega (arith, h)), (a, tt))
  where_few i (Between x u) action h a =
      ((tt, (tt, (code_few x zero (omega (arith, h)), (tt, tt)))), ((tt, (((code_few u zero (omega (arith, h)), (tt, tt)), (a, tt)), tt)), tt))

  items_few : (i : ℕ) (is : List Item) → items_nodes is ≤ m → StepsFew m (items_code texts scope i is)
  items_few i [] h = tt
  items_few i (tree.Function f ps ss ∷ is) h = items_few i is (omega (arith, h))
  items_few i (tree.Begin ss ∷ is) h = items_few i is (omega (arith, h))
  items_few i (tree.End ss ∷ is) h = items_few i is (omega (arith, h))
  items_few i (tree.Always ss ∷ is) h = (steps_few ss (omega (arith, h)), items_few i is (omega (arith, h)))
  items_few i (tree.When p ss ∷ is) h = (where_few i p (mid.Block (steps_code texts scope ss)) (omega (arith, h)) (steps_few ss (omega (arith, h))), items_few (pattern_ranges p + i) is (omega (arith, h)))
  items_few i (tree.Lone p ∷ is) h = (where_few i p (mid.Block (steps_code texts scope print_record)) (omega (arith, h)) record_few, items_few (pattern_ranges p + i) is (omega (arith, h)))
  items_few i (tree.Nothing ∷ is) h = items_few i is (omega (arith, h))

  begin_few : (is : List Item) → items_nodes is ≤ m → StepsFew m (begin_code texts scope is)
  begin_few [] h = tt
  begin_few (tree.Function f ps ss ∷ is) h = begin_few is (omega (arith, h))
  begin_few (tree.Begin ss ∷ is) h = (steps_few ss (omega (arith, h)), begin_few is (omega (arith, h)))
  begin_few (tree.End ss ∷ is) h = begin_few is (omega (arith, h))
  begin_few (tree.Always ss ∷ is) h = begin_few is (omega (arith, h))
  begin_few (tree.When p ss ∷ is) h = begin_few is (omega (arith, h))
  begin_few (tree.Lone p ∷ is) h = begin_few is (omega (arith, h))
  begin_few (tree.Nothing ∷ is) h = begin_few is (omega (arith, h))

  end_few : (is : List Item) → items_nodes is ≤ m → StepsFew m (end_code texts scope is)
  end_few [] h = tt
  end_few (tree.Function f ps ss ∷ is) h = end_few is (omega (arith, h))
  end_few (tree.Begin ss ∷ is) h = end_few is (omega (arith, h))
  end_few (tree.End ss ∷ is) h = (steps_few ss (omega (arith, h)), end_few is (omega (arith, h)))
  end_few (tree.Always ss ∷ is) h = end_few is (omega (arith, h))
  end_few (tree.When p ss ∷ is) h = end_few is (omega (arith, h))
  end_few (tree.Lone p ∷ is) h = end_few is (omega (arith, h))
  end_few (tree.Nothing ∷ is) h = end_few is (omega (arith, h))

routines_few : (texts : List (List ℕ)) (script : Resolved) (fs : List Function) → RoutinesFew (map (λ (f : Function). stmts_nodes f.body) fs) (map (routine_code texts script) fs)
routines_few texts script [] = tt
routines_few texts script (f ∷ fs) = (steps_few (stmts_nodes f.body) texts (scope_in script f) f.body (omega arith), routines_few texts script fs)

-- A SCRIPT'S CODE has few operands under each call
pub script_few : (script : Resolved) → RoutinesFew (map (λ (f : Function). stmts_nodes f.body) script.functions) (program_of script).routines × PartsFew (items_nodes script.items) (program_of script)
script_few script =
    let m = items_nodes script.items in
    let texts = texts_of_script script in (
      routines_few texts script script.functions,
      (begin_few m texts (top script) script.items (omega arith), (items_few m texts (top script) 0 script.items (omega arith), end_few m texts (top script) script.items (omega arith))),
    )
