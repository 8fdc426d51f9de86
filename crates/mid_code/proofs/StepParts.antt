-- The code of statements, a step at a time.
use Rattle.std.proofs.Common.{◌≡◌, ◌⊎◌, inl, inr, ℕ, ◌+◌, ◌<◌, ◌≤◌, length, drop, get_or, Bool, true, false, true≢false, zero-add, List, [], ◌∷◌, ◌++◌, Option, Some, Result, Ok, Err, refl, ap, sym, ◌∙◌}
use Rattle.std.specs.Prelude.{IsOkAnd}
use Rattle.std.specs.Global.{Vec}
use Rattle.std.specs.declared.alloc.Global.{Global}
use Rattle.std.specs.declared.boxed.Box.{Box}
use Rattle.std.proofs.Math.ListN.{drop_of_length-le}
use Rattle.awk_grammar.specs.Trees.{Tree, Trees, NoTree, Then as ThenTree, Item as PlainItem, NoArgs, Block as Listed, Leave}
use Rattle.awk_grammar.specs.View.{view as tree}
use Rattle.awk_grammar.specs.ViewStmt.{view_item, view_leaving, view_maybe, view_maybe_simple, view_pattern, view_stmt, view_stmts, view_target}
use Rattle.awk_grammar.specs.declared.tree.Expr.{Expr}
use Rattle.awk_grammar.specs.declared.tree.Item.TheVariants as entry
use Rattle.awk_grammar.specs.declared.tree.Item.{Item}
use Rattle.awk_grammar.specs.declared.tree.Leaving.{Leaving}
use Rattle.awk_grammar.specs.declared.tree.Leaving.TheVariants as leaving
use Rattle.awk_grammar.specs.declared.tree.Pattern.{Pattern}
use Rattle.awk_grammar.specs.declared.tree.PrintTarget.{PrintTarget}
use Rattle.awk_grammar.specs.declared.tree.PrintTarget.TheVariants.{File, FileEnd}
use Rattle.awk_grammar.specs.declared.tree.SimpleStmt.{SimpleStmt}
use Rattle.awk_grammar.specs.declared.tree.Stmt as statement
use Rattle.awk_grammar.specs.declared.tree.Stmt.{Stmt}
use Rattle.awk_resolve.proofs.Names.{drop_at}
use Rattle.awk_text.specs.Number.{denominator, numerator}
use Rattle.awk_text.specs.Reading.{exponent_at, fraction_at, numeral_at, sign_at}
use Rattle.sem_primitives.specs.declared.constants.Destination.TheVariants as destination
use Rattle.sem_primitives.specs.declared.table.Listed.TheVariants as listed
use Rattle.sem_scripts.specs.Items.{print_record}
use Rattle.sem_scripts.specs.Ranges.{item_ranges}
use Rattle.mid_program.specs.Mid.{Codes, End, At, Over, Step as PlainStep, Block, Each, Eval, If, Loop, Steps, NoStep, Then}
use Rattle.sem_scripts.specs.Names.{Scope, array_of, variable_of}
use Rattle.sem_scripts.specs.Statements.{operands_of, with_last, with_target}
use Rattle.mid_program.specs.Translation.{begin_code, code_of, codes_of, end_code, items_code, maybe_step, moved, record_code, step_code, steps_code, store_variable_code, test_code, where_code}
use Rattle.mid_program.specs.ViewCode.{followed}
use Rattle.mid_program.specs.declared.step.Step.{Step}
use Rattle.mid_code.specs.Leaving.{left_with}
use Rattle.mid_code.specs.Made.{MakesStep}
use Rattle.mid_code.specs.ViewSteps.{chain}
use Rattle.mid_code.proofs.Views.{chain_push}

-- in which list of the code an item stands

abbrev pub is_begin : Item → Bool
is_begin (entry.Begin v) = true
is_begin _ = false

abbrev pub is_end : Item → Bool
is_end (entry.End v) = true
is_end _ = false

abbrev pub is_each : Item → Bool
is_each (entry.Action v) = true
is_each (entry.Rule p v) = true
is_each (entry.PatternOnly p) = true
is_each _ = false

module _ (texts : List (List ℕ)) (scope : Scope) where
  with_last_is : (ts : Trees) (t : Tree) → followed (codes_of texts scope ts) (At (code_of texts scope t) End) ≡ codes_of texts scope (with_last ts t)
  unfolding codes_of
  with_last_is NoTree t = refl
  with_last_is (ThenTree u us) t = ap (At (code_of texts scope u)) (with_last_is us t)

  -- where there is a target
  pub with_target_is : (ts : Trees) (file : Expr) (target : PrintTarget) → (target ≡ File file) ⊎ (target ≡ FileEnd file) →
      followed (codes_of texts scope ts) (At (code_of texts scope (tree file)) End) ≡ codes_of texts scope (with_target ts (view_target target))
  with_target_is ts file target (inl is) = with_last_is ts (tree file) ∙ sym (ap (λ (t : PrintTarget). codes_of texts scope (with_target ts (view_target t))) is)
  with_target_is ts file target (inr is) = with_last_is ts (tree file) ∙ sym (ap (λ (t : PrintTarget). codes_of texts scope (with_target ts (view_target t))) is)

  -- without operands it is the record

  pub whole_record_is : codes_of texts scope (operands_of NoArgs) ≡ At record_code End
  unfolding code_of codes_of numeral_at sign_at fraction_at exponent_at numerator denominator
  whole_record_is = refl

  -- a step more, and what it is the code of
  pub chain_made : {E : Type 0} (old new : List Step) (made : Result Step E) (s : PlainStep) (rest all : Steps) → IsOkAnd made (λ m. new ≡ old ++ m ∷ []) → MakesStep made s →
      Then s rest ≡ all → chain new rest ≡ chain old all
  chain_made old new (Ok m) s rest all more is so =
      ap (λ (ss : List Step). chain ss rest) more ∙ chain_push old m rest ∙ ap (λ (x : PlainStep). chain old (Then x rest)) is ∙ ap (chain old) so
  chain_made old new (Err e) s rest all more is so = absurd more

  pub print_record_is : steps_code texts scope print_record ≡ Then (Eval (Over (listed.Print destination.Standard) (At record_code End))) NoStep
  unfolding step_code steps_code
  print_record_is = ap (λ (es : Codes). Then (Eval (Over (listed.Print destination.Standard) es)) NoStep) whole_record_is

  pub steps_at : (body : List Stmt) (i : ℕ) (s : Stmt) → i < length body → s ≡ get_or body i s →
      steps_code texts scope (view_stmts (drop i body)) ≡ Then (step_code texts scope (view_stmt s)) (steps_code texts scope (view_stmts (drop (i + 1) body)))
  unfolding steps_code
  steps_at body i s lt is = ap (λ (xs : List Stmt). steps_code texts scope (view_stmts xs)) (drop_at body i s lt is)

  pub steps_past : (body : List Stmt) (i : ℕ) → length body ≤ i → steps_code texts scope (view_stmts (drop i body)) ≡ NoStep
  unfolding steps_code
  steps_past body i le = ap (λ (xs : List Stmt). steps_code texts scope (view_stmts xs)) (drop_of_length-le body le)

  -- statements by their parts

  pub block_step : (s : Stmt) (v : Vec Stmt) (b : List Stmt) → Listed (view_stmts b) ≡ view_stmt s → Block (steps_code texts scope (view_stmts b)) ≡ step_code texts scope (view_stmt s)
  unfolding step_code
  block_step s v b is = ap (step_code texts scope) is

  pub if_step : (s : Stmt) (e : Expr) (p : Box Stmt Global) (y : Stmt) → s ≡ statement.If e p → y ≡ p.value →
      If (code_of texts scope (tree e)) (step_code texts scope (view_stmt y)) (Block NoStep) ≡ step_code texts scope (view_stmt s)
  unfolding step_code
  if_step s e p y is hy = rw (hy, is) refl

  pub if_else_step : (s : Stmt) (e : Expr) (p q : Box Stmt Global) (y n : Stmt) → s ≡ statement.IfElse e p q → y ≡ p.value → n ≡ q.value →
      If (code_of texts scope (tree e)) (step_code texts scope (view_stmt y)) (step_code texts scope (view_stmt n)) ≡ step_code texts scope (view_stmt s)
  unfolding step_code
  if_else_step s e p q y n is hy hn = rw (hy, hn, is) refl

  pub while_step : (s : Stmt) (e : Expr) (p : Box Stmt Global) (b : Stmt) → s ≡ statement.While e p → b ≡ p.value →
      Loop true (code_of texts scope (tree e)) (step_code texts scope (view_stmt b)) (Block NoStep) ≡ step_code texts scope (view_stmt s)
  unfolding step_code
  while_step s e p b is hb = rw (hb, is) refl

  pub do_step : (s : Stmt) (e : Expr) (p : Box Stmt Global) (b : Stmt) → s ≡ statement.Do p e → b ≡ p.value →
      Loop false (code_of texts scope (tree e)) (step_code texts scope (view_stmt b)) (Block NoStep) ≡ step_code texts scope (view_stmt s)
  unfolding step_code
  do_step s e p b is hb = rw (hb, is) refl

  pub for_step : (s : Stmt) (i n : Option SimpleStmt) (e : Option Expr) (p : Box Stmt Global) (b : Stmt) → s ≡ statement.For i e n p → b ≡ p.value →
      Block (Then (maybe_step texts scope (view_maybe_simple i)) (Then (Loop true (test_code texts scope (view_maybe e)) (step_code texts scope (view_stmt b))
      (maybe_step texts scope (view_maybe_simple n))) NoStep)) ≡ step_code texts scope (view_stmt s)
  unfolding step_code
  for_step s i n e p b is hb = rw (hb, is) refl

  pub for_in_step : (s : Stmt) (k a : Vec ℕ) (x y : List ℕ) (p : Box Stmt Global) (b : Stmt) → s ≡ statement.ForIn k a p → x ≡ k.items → y ≡ a.items → b ≡ p.value →
      Each (array_of scope y) (store_variable_code (variable_of scope x) (moved 0)) (step_code texts scope (view_stmt b)) ≡ step_code texts scope (view_stmt s)
  unfolding step_code
  for_in_step s k a x y p b is hx hy hb = rw (hx, hy, hb, is) refl

  pub left_step : (l : Leaving) (t : Tree) → left_with l (code_of texts scope t) ≡ step_code texts scope (Leave (view_leaving l) (Some t))
  unfolding step_code
  left_step leaving.Exit t = refl
  left_step leaving.Return t = refl

  -- items by their parts

  pub begin_item : (item : Item) (v : Vec Stmt) (b : List Stmt) (items : List PlainItem) → item ≡ entry.Begin v → b ≡ v.items →
      Then (Block (steps_code texts scope (view_stmts b))) (begin_code texts scope items) ≡ begin_code texts scope (view_item item ∷ items)
  begin_item item v b items is hb = rw (hb, is) refl

  pub end_item : (item : Item) (v : Vec Stmt) (b : List Stmt) (items : List PlainItem) → item ≡ entry.End v → b ≡ v.items →
      Then (Block (steps_code texts scope (view_stmts b))) (end_code texts scope items) ≡ end_code texts scope (view_item item ∷ items)
  end_item item v b items is hb = rw (hb, is) refl

  pub action_item : (item : Item) (v : Vec Stmt) (b : List Stmt) (n : ℕ) (items : List PlainItem) → item ≡ entry.Action v → b ≡ v.items →
      Then (Block (steps_code texts scope (view_stmts b))) (items_code texts scope (item_ranges (view_item item) + n) items)
      ≡ items_code texts scope n (view_item item ∷ items)
  action_item item v b n items is hb =
      rw (hb, is) (ap (λ (m : ℕ). Then (Block (steps_code texts scope (view_stmts v.items))) (items_code texts scope m items)) (zero-add n))

  pub rule_item : (item : Item) (p : Pattern) (v : Vec Stmt) (b : List Stmt) (n : ℕ) (items : List PlainItem) → item ≡ entry.Rule p v → b ≡ v.items →
      Then (where_code texts scope n (view_pattern p) (Block (steps_code texts scope (view_stmts b)))) (items_code texts scope (item_ranges (view_item item) + n) items)
      ≡ items_code texts scope n (view_item item ∷ items)
  rule_item item p v b n items is hb = rw (hb, is) refl

  pub lone_item : (item : Item) (p : Pattern) (n : ℕ) (items : List PlainItem) → item ≡ entry.PatternOnly p →
      Then (where_code texts scope n (view_pattern p) (Block (steps_code texts scope print_record))) (items_code texts scope (item_ranges (view_item item) + n) items)
      ≡ items_code texts scope n (view_item item ∷ items)
  lone_item item p n items is = rw is refl

  -- items that are of no list

  pub not_begin : (item : Item) → is_begin item ≡ false → (items : List PlainItem) → begin_code texts scope items ≡ begin_code texts scope (view_item item ∷ items)
  not_begin (entry.Begin v) e items = absurd (true≢false e)
  not_begin (entry.End v) e items = refl
  not_begin (entry.Action v) e items = refl
  not_begin (entry.Rule p v) e items = refl
  not_begin (entry.PatternOnly p) e items = refl
  not_begin (entry.Function n ps v) e items = refl
  not_begin entry.Empty e items = refl

  pub not_end : (item : Item) → is_end item ≡ false → (items : List PlainItem) → end_code texts scope items ≡ end_code texts scope (view_item item ∷ items)
  not_end (entry.End v) e items = absurd (true≢false e)
  not_end (entry.Begin v) e items = refl
  not_end (entry.Action v) e items = refl
  not_end (entry.Rule p v) e items = refl
  not_end (entry.PatternOnly p) e items = refl
  not_end (entry.Function n ps v) e items = refl
  not_end entry.Empty e items = refl

  none_more : (n : ℕ) (items : List PlainItem) → items_code texts scope (0 + n) items ≡ items_code texts scope n items
  none_more n items = ap (λ (m : ℕ). items_code texts scope m items) (zero-add n)

  pub not_each : (item : Item) → is_each item ≡ false → (n : ℕ) (items : List PlainItem) →
      items_code texts scope (item_ranges (view_item item) + n) items ≡ items_code texts scope n (view_item item ∷ items)
  not_each (entry.Action v) e n items = absurd (true≢false e)
  not_each (entry.Rule p v) e n items = absurd (true≢false e)
  not_each (entry.PatternOnly p) e n items = absurd (true≢false e)
  not_each (entry.Begin v) e n items = none_more n items
  not_each (entry.End v) e n items = none_more n items
  not_each (entry.Function f ps v) e n items = none_more n items
  not_each entry.Empty e n items = none_more n items
