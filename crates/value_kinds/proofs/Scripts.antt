-- What a script's code stores is what the script stores, of statements, items and functions.
use Rattle.std.proofs.Common.{◌≡◌, ℕ, suc, ◌+◌, List, [], ◌∷◌, ◌++◌, Option, Some, None, map, refl, sym, ap, subst}
use Rattle.awk_grammar.specs.Trees.{Tree, Var, And, Clear, Delete, Eval, NoStmt, Plain, Put, Stmt, Stmts, Item, Pattern}
use Rattle.awk_grammar.specs.Trees as stmt
use Rattle.sem_scripts.specs.Items.{pattern_ranges, print_record, top}
use Rattle.mid_program.specs.Mid.{Block, Form, Step, Steps, a_value}
use Rattle.sem_scripts.specs.Names.{Function, Resolved, Scope, functions_length, variable_of}
use Rattle.sem_scripts.specs.Statements.{operands_of, scope_in, with_target}
use Rattle.mid_program.specs.Texts.{texts_of_script}
use Rattle.mid_program.specs.Translation.{NameTarget, begin_code, code_of, end_code, items_code, maybe_step, moved, plain_step, program_of, routine_code, step_code, steps_code, store_variable_code, test_code, where_code}
use Rattle.mid_program.specs.Stores.{Every, step_stores, steps_stores}
use Rattle.mid_program.specs.Stores as code
use Rattle.folding.specs.Folding.{fold, folded_routine, folded_steps}
use Rattle.value_kinds.specs.Found.{InRoutines, Throughout}
use Rattle.value_kinds.specs.Lanes.{function_count}
use Rattle.value_kinds.specs.Stores.{Store, Text, functions_stores, into, items_stores, maybe_plain_stores, maybe_stores, pattern_stores, plain_stores, script_stores, stmt_stores, stmts_stores, stores}
use Rattle.value_kinds.proofs.Expressions.{AllFit, CodeFits, Fit, Taker, alone, both, code_fit, codes_fit, first, key_fit, no_text, second, store_fit, three}
use Rattle.value_kinds.proofs.Folded.{steps_same}

module _ (x : Taker) (g : ℕ) (texts : List (List ℕ)) (scope : Scope) where
  abbrev S : Tree → List Store
  S t = stores g scope t

  abbrev Ok : List Store → Type 0
  Ok ss = AllFit x ss

  abbrev StepFits : Step → Type 0
  StepFits s = Fit x g (step_stores s)

  abbrev L : Tree → List code.Store
  L t = code.stores [] (code_of texts scope t)

  tree_fit : (t : Tree) → Ok (S t) → (fs : List Form) → Fit x g (code.stores fs (code_of texts scope t))
  tree_fit t h fs = code_fit x g texts scope t h fs

  plain_fit : (p : Plain) → Ok (plain_stores g scope p) → StepFits (plain_step texts scope p)
  plain_fit (Eval t) h = tree_fit t h []
  plain_fit (Put p args target) h = codes_fit x g texts scope (with_target (operands_of args) target) h []
  plain_fit (Delete a ts) h = alone x g _ (key_fit x g texts scope ts h [])
  plain_fit (Clear a) h = tt

  maybe_plain_fit : (p : Option Plain) → Ok (maybe_plain_stores g scope p) → StepFits (maybe_step texts scope p)
  maybe_plain_fit None h = tt
  maybe_plain_fit (Some p) h = plain_fit p h

  maybe_fit : (t : Option Tree) → Ok (maybe_stores g scope t) → Fit x g (code.stores [] (test_code texts scope t))
  maybe_fit None h = tt
  maybe_fit (Some t) h = tree_fit t h []

  -- a key is a text
  key_stored : (k : List ℕ) → Ok (into g scope (Var k) Text) → Fit x g (code.stores (a_value ∷ []) (store_variable_code (variable_of scope k) (moved 0)))
  key_stored k h = store_fit x g (NameTarget (variable_of scope k)) 0 (moved 0) (a_value ∷ []) tt (λ e. no_text x (h.0 e))

  mutual
    unfolding step_code steps_code

    step_fit : (s : Stmt) → Ok (stmt_stores g scope s) → StepFits (step_code texts scope s)
    step_fit (stmt.Block ss) h = steps_fit ss h
    step_fit stmt.Empty h = tt
    step_fit (stmt.Simple p) h = plain_fit p h
    step_fit (stmt.If c s) h =
        both x g (L c) _ (tree_fit c (first x (S c) (stmt_stores g scope s) h) [])
        (alone x g (step_stores (step_code texts scope s)) (step_fit s (second x (S c) (stmt_stores g scope s) h)))
    step_fit (stmt.IfElse c s t) h =
        let p = three x (S c) (stmt_stores g scope s) (stmt_stores g scope t) h in
        both x g (L c) _ (tree_fit c p.0 []) (both x g (step_stores (step_code texts scope s)) _ (step_fit s p.1) (step_fit t p.2))
    step_fit (stmt.While c s) h =
        both x g (L c) _ (tree_fit c (first x (S c) (stmt_stores g scope s) h) [])
        (alone x g (step_stores (step_code texts scope s)) (step_fit s (second x (S c) (stmt_stores g scope s) h)))
    step_fit (stmt.Do s c) h =
        both x g (L c) _ (tree_fit c (second x (stmt_stores g scope s) (S c) h) [])
        (alone x g (step_stores (step_code texts scope s)) (step_fit s (first x (stmt_stores g scope s) (S c) h)))
    step_fit (stmt.For i c p s) h =
        let a = three x (maybe_plain_stores g scope i) (maybe_stores g scope c) (maybe_plain_stores g scope p ++ stmt_stores g scope s) h in
        let b = a.2 in
        both x g (step_stores (maybe_step texts scope i)) _ (maybe_plain_fit i a.0)
        (alone x g _ (both x g (code.stores [] (test_code texts scope c)) _ (maybe_fit c a.1)
        (both x g (step_stores (step_code texts scope s)) _ (step_fit s (second x (maybe_plain_stores g scope p) (stmt_stores g scope s) b))
        (maybe_plain_fit p (first x (maybe_plain_stores g scope p) (stmt_stores g scope s) b)))))
    step_fit (stmt.ForIn k a s) h = both x g _ _ (key_stored k (h.0, tt)) (step_fit s h.1)
    step_fit (stmt.Jumping stmt.Break) h = tt
    step_fit (stmt.Jumping stmt.Continue) h = tt
    step_fit (stmt.Jumping stmt.Next) h = tt
    step_fit (stmt.Jumping stmt.NextFile) h = tt
    step_fit (stmt.Leave stmt.Exit None) h = tt
    step_fit (stmt.Leave stmt.Exit (Some t)) h = tree_fit t h []
    step_fit (stmt.Leave stmt.Return None) h = tt
    step_fit (stmt.Leave stmt.Return (Some t)) h = tree_fit t h []

    pub steps_fit : (ss : Stmts) → Ok (stmts_stores g scope ss) → Fit x g (steps_stores (steps_code texts scope ss))
    steps_fit NoStmt h = tt
    steps_fit (And s ss) h =
        both x g (step_stores (step_code texts scope s)) _ (step_fit s (first x (stmt_stores g scope s) (stmts_stores g scope ss) h))
        (steps_fit ss (second x (stmt_stores g scope s) (stmts_stores g scope ss) h))

  -- items

  where_fit : (i : ℕ) (p : Pattern) (action : Step) → Ok (pattern_stores g scope p) → StepFits action → StepFits (where_code texts scope i p action)
  where_fit i (stmt.One t) action h k = both x g (L t) (step_stores action ++ []) (tree_fit t h []) (alone x g (step_stores action) k)
  where_fit i (stmt.Between t u) action h k =
      let done = (L u ++ []) ++ (step_stores action ++ []) in
      both x g (L t ++ []) ((done ++ []) ++ []) (alone x g (L t) (tree_fit t (first x (S t) (S u) h) []))
      (alone x g (done ++ []) (alone x g done
      (both x g (L u ++ []) (step_stores action ++ []) (alone x g (L u) (tree_fit u (second x (S t) (S u) h) [])) (alone x g (step_stores action) k))))

  items_fit : (i : ℕ) (is : List Item) → Ok (items_stores g scope is) → Fit x g (steps_stores (items_code texts scope i is))
  items_fit i [] h = tt
  items_fit i (stmt.Function f ps ss ∷ is) h = items_fit i is h
  items_fit i (stmt.Begin ss ∷ is) h = items_fit i is (second x (stmts_stores g scope ss) (items_stores g scope is) h)
  items_fit i (stmt.End ss ∷ is) h = items_fit i is (second x (stmts_stores g scope ss) (items_stores g scope is) h)
  items_fit i (stmt.Always ss ∷ is) h =
      both x g (steps_stores (steps_code texts scope ss)) _ (steps_fit ss (first x (stmts_stores g scope ss) (items_stores g scope is) h))
      (items_fit i is (second x (stmts_stores g scope ss) (items_stores g scope is) h))
  items_fit i (stmt.When p ss ∷ is) h =
      let own = first x (pattern_stores g scope p ++ stmts_stores g scope ss) (items_stores g scope is) h in
      both x g (step_stores (where_code texts scope i p (Block (steps_code texts scope ss)))) _
      (where_fit i p (Block (steps_code texts scope ss)) (first x (pattern_stores g scope p) (stmts_stores g scope ss) own)
      (steps_fit ss (second x (pattern_stores g scope p) (stmts_stores g scope ss) own)))
      (items_fit (pattern_ranges p + i) is (second x (pattern_stores g scope p ++ stmts_stores g scope ss) (items_stores g scope is) h))
  items_fit i (stmt.Lone p ∷ is) h =
      both x g (step_stores (where_code texts scope i p (Block (steps_code texts scope print_record)))) _
      (where_fit i p (Block (steps_code texts scope print_record)) (first x (pattern_stores g scope p) (items_stores g scope is) h) (steps_fit print_record tt))
      (items_fit (pattern_ranges p + i) is (second x (pattern_stores g scope p) (items_stores g scope is) h))
  items_fit i (stmt.Nothing ∷ is) h = items_fit i is h

  begin_fit : (is : List Item) → Ok (items_stores g scope is) → Fit x g (steps_stores (begin_code texts scope is))
  begin_fit [] h = tt
  begin_fit (stmt.Begin ss ∷ is) h =
      both x g (steps_stores (steps_code texts scope ss)) _ (steps_fit ss (first x (stmts_stores g scope ss) (items_stores g scope is) h))
      (begin_fit is (second x (stmts_stores g scope ss) (items_stores g scope is) h))
  begin_fit (stmt.Function f ps ss ∷ is) h = begin_fit is h
  begin_fit (stmt.End ss ∷ is) h = begin_fit is (second x (stmts_stores g scope ss) (items_stores g scope is) h)
  begin_fit (stmt.Always ss ∷ is) h = begin_fit is (second x (stmts_stores g scope ss) (items_stores g scope is) h)
  begin_fit (stmt.When p ss ∷ is) h = begin_fit is (second x (pattern_stores g scope p ++ stmts_stores g scope ss) (items_stores g scope is) h)
  begin_fit (stmt.Lone p ∷ is) h = begin_fit is (second x (pattern_stores g scope p) (items_stores g scope is) h)
  begin_fit (stmt.Nothing ∷ is) h = begin_fit is h

  end_fit : (is : List Item) → Ok (items_stores g scope is) → Fit x g (steps_stores (end_code texts scope is))
  end_fit [] h = tt
  end_fit (stmt.End ss ∷ is) h =
      both x g (steps_stores (steps_code texts scope ss)) _ (steps_fit ss (first x (stmts_stores g scope ss) (items_stores g scope is) h))
      (end_fit is (second x (stmts_stores g scope ss) (items_stores g scope is) h))
  end_fit (stmt.Function f ps ss ∷ is) h = end_fit is h
  end_fit (stmt.Begin ss ∷ is) h = end_fit is (second x (stmts_stores g scope ss) (items_stores g scope is) h)
  end_fit (stmt.Always ss ∷ is) h = end_fit is (second x (stmts_stores g scope ss) (items_stores g scope is) h)
  end_fit (stmt.When p ss ∷ is) h = end_fit is (second x (pattern_stores g scope p ++ stmts_stores g scope ss) (items_stores g scope is) h)
  end_fit (stmt.Lone p ∷ is) h = end_fit is (second x (pattern_stores g scope p) (items_stores g scope is) h)
  end_fit (stmt.Nothing ∷ is) h = end_fit is h

-- whole scripts, whose constants are computed

module _ (x : Taker) (script : Resolved) where
  abbrev texts : List (List ℕ)
  texts = texts_of_script script

  folded_fit : (g : ℕ) (ss : Steps) → Fit x g (steps_stores ss) → Fit x g (steps_stores (folded_steps ss))
  folded_fit g ss h = subst (λ (all : List code.Store). Fit x g all) (sym (steps_same ss)) h

  routines_fit : (g : ℕ) (fs : List Function) → AllFit x (functions_stores script g fs) → InRoutines (λ k. CodeFits x k) g (map folded_routine (map (routine_code texts script) fs))
  routines_fit g [] h = tt
  routines_fit g (f ∷ fs) h =
      let own = stmts_stores g (scope_in script f) f.body in
      let body = steps_code texts (scope_in script f) f.body in
      (folded_fit g body (steps_fit x g texts (scope_in script f) f.body (first x own (functions_stores script (suc g) fs) h)), routines_fit (suc g) fs (second x own (functions_stores script (suc g) fs) h))

  counted : (fs : List Function) → function_count (map folded_routine (map (routine_code texts script) fs)) ≡ functions_length fs
  counted [] = refl
  counted (f ∷ fs) = ap suc (counted fs)

  -- EACH STORE OF THE CODE
  pub script_fit : AllFit x (script_stores script) → Throughout (λ k. CodeFits x k) (fold (program_of script))
  script_fit h =
      let none = functions_length script.functions in
      let functions = functions_stores script 0 script.functions in
      let items = items_stores none (top script) script.items in
      let own = second x functions items h in (
        routines_fit 0 script.functions (first x functions items h),
        subst (λ (n : ℕ). Every (CodeFits x n) (steps_stores (fold (program_of script)).begin) × (Every (CodeFits x n) (steps_stores (fold (program_of script)).items) × Every (CodeFits x n) (steps_stores (fold (program_of script)).end)))
            (sym (counted script.functions)) (
              folded_fit none (begin_code texts (top script) script.items) (begin_fit x none texts (top script) script.items own),
              (
                folded_fit none (items_code texts (top script) 0 script.items) (items_fit x none texts (top script) 0 script.items own),
                folded_fit none (end_code texts (top script) script.items) (end_fit x none texts (top script) script.items own),
              ),
            ),
      )
