-- The code of lists of expressions, a step at a time.
use Rattle.std.proofs.Common.{◌≡◌, ◌≢◌, ℕ, zero, suc, ◌+◌, ◌<◌, ◌≤◌, ◌==◌, length, drop, get_or, List, [], ◌∷◌, ◌++◌, Option, None, Some, Bool, true, false, if◌then◌else◌, MatchOption, Result, Ok, Err, map, refl, ap, sym, ◌∙◌, arith}
use Rattle.std.proofs.lemmas.List.{append_assoc, append-nil, map-append}
use Rattle.std.specs.Prelude.{IfOk, IsOkAnd, is_some}
use Rattle.std.proofs.lemmas.Bool.{eqb-true}
use Rattle.std.specs.Int.{from_bool}
use Rattle.std.specs.Borrow.{Bor}
use Rattle.std.proofs.Math.ListN.{drop_of_length-le}
use Rattle.awk_grammar.specs.Trees.{Tree, Leaf, Length, Var, Index, Field, Group, Call, Apply, Unary, Pre, Post, Bin, Op, Has, HasList, Cond, Get, GetInto, GetFrom, GetIntoFrom, Trees, NoTree, Then}
use Rattle.awk_grammar.specs.View.{view as tree, views as trees, view_assign, view_binary, view_step, view_unary}
use Rattle.awk_grammar.specs.declared.tree.Expr as expr
use Rattle.awk_grammar.specs.declared.tree.Expr.{Expr, Binary, Conditional}
use Rattle.awk_grammar.specs.declared.tree.AssignOp.{AssignOp}
use Rattle.awk_grammar.specs.declared.tree.StepOp.{StepOp}
use Rattle.awk_grammar.specs.declared.tree.UnaryOp.{UnaryOp}
use Rattle.awk_grammar.specs.declared.tree.BinaryOp.TheVariants as binary
use Rattle.awk_grammar.specs.declared.tree.BinaryOp.{BinaryOp}
use Rattle.std.specs.declared.boxed.Box.{Box}
use Rattle.std.specs.Global.{Vec}
use Rattle.std.specs.declared.alloc.Global.{Global}
use Rattle.awk_grammar.specs.Marks.{bare_name}
use Rattle.awk_resolve.specs.ViewKinds.{view_name, view_name_kinds}
use Rattle.awk_resolve.specs.declared.function_names.NameKind.{NameKind}
use Rattle.sem_primitives.specs.ConstantNumbers.{flag_number}
use Rattle.sem_primitives.specs.declared.constants.Special.TheVariants.{Fs}
use Rattle.sem_primitives.specs.declared.sorts.Sort.TheVariants as sort
use Rattle.sem_primitives.specs.declared.table.Listed.TheVariants as listed
use Rattle.sem_primitives.specs.declared.table.Primitive.TheVariants as row
use Rattle.awk_tokens.specs.declared.reserved_words.Builtin.{Builtin}
use Rattle.awk_tokens.specs.declared.reserved_words.Builtin.TheVariants as builtin
use Rattle.mid_program.specs.Mid.{Code, Codes, End, At, Fixed, Do, Over, Choose, Let, Array, AskLine, FileLine, Unset, Call as Called}
use Rattle.sem_scripts.specs.Names.{Name, Scope, array_of, function_at, function_number}
use Rattle.sem_scripts.specs.Steps.{ere_in, is_ere}
use Rattle.mid_program.specs.Translation.{FieldTarget, applied_code, argument_codes, assigned_at, code_of, codes_of, combined, ere_code, ere_for, fresh_codes, given_code, host, keeping, kept_code, key_code, one, prefixed, received_at, record_code, special_code, step_after_at, stepped_at, substituted_at, target_in, truncated_code, two, zero_code}
use Rattle.mid_program.specs.ViewCode.{before, followed, view, views}
use Rattle.mid_code.specs.Applied.{applied_to}
use Rattle.mid_code.specs.Keys.{each_code, key_of}
use Rattle.mid_code.specs.ViewTarget.{sub_or_gsub}
use Rattle.mid_program.specs.declared.code.Code.{Code as Owned}
use Rattle.mid_program.specs.declared.code.Operand.{Operand}
use Rattle.mid_program.specs.declared.mid.Arithmetic.TheVariants as inline
use Rattle.mid_program.specs.declared.mid.Operation.TheVariants.{AsNumber, FieldNumber, Inline}
use Rattle.mid_code.proofs.NameTables.{drop_any}
use Rattle.mid_code.proofs.Views.{followed_end, followed_push}

-- what holds of a value that was made
pub made_then : {T E G : Type 0} {P Q : T → Type 0} (made : Result T E) → IsOkAnd made P → IfOk made Q → ((x : T) → P x → Q x → G) → G
made_then (Ok x) p q f = f x p q
made_then (Err e) p q f = absurd p

-- lists by their first parts

pub no_trees : (es : List Expr) → (length es == 0) ≡ true → trees es ≡ NoTree
no_trees es none = none_of es (eqb-true (length es) 0 none)
  where
    none_of : (xs : List Expr) → length xs ≡ 0 → trees xs ≡ NoTree
    none_of [] n = refl
    none_of (x ∷ xs) n = absurd (omega arith)

pub some_left : (n : ℕ) → (n == 0) ≡ false → 0 < n
some_left zero some = absurd (cc)
some_left (suc n) some = omega arith

pub part_of : (es : List Expr) (i : ℕ) (e : Expr) → i < length es → e ≡ get_or es i e → trees (drop i es) ≡ Then (tree e) (trees (drop (i + 1) es))
part_of es i e lt read = ap trees (drop_any es i e lt) ∙ ap (λ (x : Expr). Then (tree x) (trees (drop (i + 1) es))) (sym read)

no_more : (es : List Expr) (i : ℕ) → length es ≤ i → trees (drop i es) ≡ NoTree
no_more es i le = ap trees (drop_of_length-le es le)

pub one_tree : (es : List Expr) (a : Expr) → length es ≡ 1 → a ≡ get_or es 0 a → trees es ≡ Then (tree a) NoTree
one_tree es a n first = part_of es 0 a (omega arith) first ∙ ap (Then (tree a)) (no_more es 1 (omega arith))

two_trees : (es : List Expr) (a b : Expr) → 2 ≤ length es → a ≡ get_or es 0 a → b ≡ get_or es 1 b →
    trees es ≡ Then (tree a) (Then (tree b) (trees (drop 2 es)))
two_trees es a b le first second = part_of es 0 a (omega arith) first ∙ ap (Then (tree a)) (part_of es 1 b (omega arith) second)

just_two : (es : List Expr) (a b : Expr) → length es ≡ 2 → a ≡ get_or es 0 a → b ≡ get_or es 1 b → trees es ≡ Then (tree a) (Then (tree b) NoTree)
just_two es a b n first second = two_trees es a b (omega arith) first second ∙ ap (λ (ts : Trees). Then (tree a) (Then (tree b) ts))
    (no_more es 2 (omega arith))

three_trees : (es : List Expr) (a b c : Expr) → 3 ≤ length es → a ≡ get_or es 0 a → b ≡ get_or es 1 b → c ≡ get_or es 2 c →
    trees es ≡ Then (tree a) (Then (tree b) (Then (tree c) (trees (drop 3 es))))
three_trees es a b c le first second third =
    two_trees es a b (omega arith) first second ∙ ap (λ (ts : Trees). Then (tree a) (Then (tree b) ts)) (part_of es 2 c (omega arith) third)

pub binary_is : (e : Expr) (o : BinaryOp) (l r : Box Expr Global) (a b : Expr) → e ≡ Binary o l r → a ≡ l.value → b ≡ r.value →
    tree e ≡ Bin (view_binary o) (tree a) (tree b)
binary_is e o l r a b is left right =
    ap tree is ∙ ap (λ (x : Expr). Bin (view_binary o) (tree x) (tree r.value)) (sym left) ∙ ap (λ (x : Expr). Bin (view_binary o) (tree a) (tree x))
    (sym right)

-- what a test of an ERE says
pub some_ere : (o : Option (Bor (List ℕ))) (ts : List (List ℕ)) → MatchOption o (ts ≡ []) (λ t. ts ≡ t.now ∷ []) → is_some o ≡ is_ere ts
some_ere None ts h = sym (ap is_ere h)
some_ere (Some t) ts h = sym (ap is_ere h)

pub flag_is : (b : Bool) → from_bool b ≡ flag_number b
flag_is true = refl
flag_is false = refl

module _ (texts : List (List ℕ)) (scope : Scope) where
  -- keys

  pub key_each : (ts : Trees) → key_of (each_code texts scope ts) ≡ key_code texts scope ts
  unfolding key_code
  key_each NoTree = refl
  key_each (Then t NoTree) = refl
  key_each (Then t (Then u ts)) = ap (λ (k : Code). host row.Join (two (code_of texts scope t) k)) (key_each (Then u ts))

  -- expressions by their parts

  pub in_list_code : (e : Tree) (x : List ℕ) (t : Tree) (ts : Trees) → HasList t ts x ≡ e →
      host row.Has (two (Array (array_of scope x)) (host row.Join (two (code_of texts scope t) (key_of (each_code texts scope ts))))) ≡ code_of texts scope e
  unfolding code_of
  in_list_code e x t ts is =
      ap (λ (k : Code). host row.Has (two (Array (array_of scope x)) (host row.Join (two (code_of texts scope t) k)))) (key_each ts) ∙ ap (code_of texts scope) is

  pub element_code : (e : Tree) (x : List ℕ) (ts : Trees) → Index x ts ≡ e → host row.Elem (two (Array (array_of scope x)) (key_code texts scope ts)) ≡ code_of texts scope e
  unfolding code_of
  element_code e x ts is = ap (code_of texts scope) is

  pub conditional_code : (e : Expr) (p q r : Box Expr Global) (a b c : Expr) → e ≡ Conditional p q r → a ≡ p.value → b ≡ q.value → c ≡ r.value →
      Choose sort.Value (code_of texts scope (tree a)) (code_of texts scope (tree b)) (code_of texts scope (tree c)) ≡ code_of texts scope (tree e)
  unfolding code_of
  conditional_code e p q r a b c is ha hb hc = rw (ha, hb, hc, is) refl

  pub field_code : (e : Expr) (p : Box Expr Global) (a : Expr) → e ≡ expr.Field p → a ≡ p.value → host row.Field (one (code_of texts scope (tree a))) ≡ code_of texts scope (tree e)
  unfolding code_of
  field_code e p a is ha = rw (ha, is) refl

  pub group_code : (e : Expr) (p : Box Expr Global) (a : Expr) → e ≡ expr.Group p → a ≡ p.value → code_of texts scope (tree a) ≡ code_of texts scope (tree e)
  unfolding code_of
  group_code e p a is ha = rw (ha, is) refl

  pub unary_code : (e : Expr) (o : UnaryOp) (p : Box Expr Global) (a : Expr) → e ≡ expr.Unary o p → a ≡ p.value →
      prefixed (view_unary o) (code_of texts scope (tree a)) ≡ code_of texts scope (tree e)
  unfolding code_of
  unary_code e o p a is ha = rw (ha, is) refl

  -- the place is read twice: for what takes the value, and for what is kept
  pub pre_code : (e : Expr) (o : StepOp) (p : Box Expr Global) (a b : Expr) → e ≡ expr.PreStep o p → a ≡ p.value → b ≡ p.value →
      keeping (kept_code texts scope (tree b)) (stepped_at (view_step o) (target_in texts scope (tree a))) ≡ code_of texts scope (tree e)
  unfolding code_of
  pre_code e o p a b is ha hb = rw (ha, hb, is) refl

  pub post_code : (e : Expr) (o : StepOp) (p : Box Expr Global) (a b : Expr) → e ≡ expr.PostStep o p → a ≡ p.value → b ≡ p.value →
      keeping (kept_code texts scope (tree b)) (step_after_at (view_step o) (target_in texts scope (tree a))) ≡ code_of texts scope (tree e)
  unfolding code_of
  post_code e o p a b is ha hb = rw (ha, hb, is) refl

  between_code : (o : BinaryOp) (t u : Tree) →
      combined (view_binary o) (code_of texts scope t) (ere_code texts (ere_for (view_binary o) u) (code_of texts scope u)) ≡ code_of texts scope (Bin (view_binary o) t u)
  unfolding code_of
  between_code binary.Or t u = refl
  between_code binary.And t u = refl
  between_code binary.Match t u = refl
  between_code binary.NoMatch t u = refl
  between_code binary.Less t u = refl
  between_code binary.LessEqual t u = refl
  between_code binary.Equal t u = refl
  between_code binary.NotEqual t u = refl
  between_code binary.Greater t u = refl
  between_code binary.GreaterEqual t u = refl
  between_code binary.Concat t u = refl
  between_code binary.Add t u = refl
  between_code binary.Subtract t u = refl
  between_code binary.Multiply t u = refl
  between_code binary.Divide t u = refl
  between_code binary.Modulo t u = refl
  between_code binary.Power t u = refl

  pub binary_code : (e : Expr) (o : BinaryOp) (p q : Box Expr Global) (a b : Expr) → e ≡ Binary o p q → a ≡ p.value → b ≡ q.value →
      combined (view_binary o) (code_of texts scope (tree a)) (ere_code texts (ere_for (view_binary o) (tree b)) (code_of texts scope (tree b))) ≡ code_of texts scope (tree e)
  binary_code e o p q a b is ha hb = between_code o (tree a) (tree b) ∙ sym (ap (code_of texts scope) (binary_is e o p q a b is ha hb))

  pub assign_code : (e : Expr) (o : AssignOp) (p q : Box Expr Global) (a b c : Expr) → e ≡ expr.Assign o p q → a ≡ p.value → b ≡ p.value → c ≡ q.value →
      keeping (kept_code texts scope (tree b)) (assigned_at (view_assign o) (target_in texts scope (tree a)) (code_of texts scope (tree c))) ≡ code_of texts scope (tree e)
  unfolding code_of
  assign_code e o p q a b c is ha hb hc = rw (ha, hb, hc, is) refl

  pub in_code : (e : Expr) (p : Box Expr Global) (n : Vec ℕ) (a : Expr) (x : List ℕ) → e ≡ expr.In p n → a ≡ p.value → x ≡ n.items →
      host row.Has (two (Array (array_of scope x)) (code_of texts scope (tree a))) ≡ code_of texts scope (tree e)
  unfolding code_of
  in_code e p n a x is ha hx = rw (ha, hx, is) refl

  pub line_code : (e : Expr) (p : Box Expr Global) (a b : Expr) → e ≡ expr.GetlineInto p → a ≡ p.value → b ≡ p.value →
      keeping (kept_code texts scope (tree b)) (AskLine (received_at (target_in texts scope (tree a)))) ≡ code_of texts scope (tree e)
  unfolding code_of
  line_code e p a b is ha hb = rw (ha, hb, is) refl

  pub file_code : (e : Expr) (p : Box Expr Global) (a : Expr) → e ≡ expr.GetlineFrom p → a ≡ p.value →
      Do AsNumber (one (host row.GetlineFile (one (code_of texts scope (tree a))))) ≡ code_of texts scope (tree e)
  unfolding code_of
  file_code e p a is ha = rw (ha, is) refl

  pub file_line_code : (e : Expr) (p q : Box Expr Global) (a b c : Expr) → e ≡ expr.GetlineIntoFrom p q → a ≡ p.value → b ≡ p.value → c ≡ q.value →
      keeping (kept_code texts scope (tree b)) (FileLine (code_of texts scope (tree c)) (received_at (target_in texts scope (tree a)))) ≡ code_of texts scope (tree e)
  unfolding code_of
  file_line_code e p q a b c is ha hb hc = rw (ha, hb, hc, is) refl

  pub element_kept : (e : Tree) (x : List ℕ) (ts : Trees) → Index x ts ≡ e → Some (key_code texts scope ts) ≡ kept_code texts scope e
  unfolding kept_code
  element_kept e x ts is = ap (kept_code texts scope) is

  pub field_kept : (e : Expr) (p : Box Expr Global) (a : Expr) → e ≡ expr.Field p → a ≡ p.value →
      Some (Do FieldNumber (one (code_of texts scope (tree a)))) ≡ kept_code texts scope (tree e)
  unfolding kept_code
  field_kept e p a is ha = rw (ha, is) refl

  -- operands

  pub operands_step : (old new : List Operand) (es : List Expr) (i : ℕ) (e : Expr) (total : Codes) → i < length es → e ≡ get_or es i e →
      followed (views new) (codes_of texts scope (trees (drop (i + 1) es)))
      ≡ followed (views old) (At (code_of texts scope (tree e)) (codes_of texts scope (trees (drop (i + 1) es)))) →
      followed (views old) (codes_of texts scope (trees (drop i es))) ≡ total →
      followed (views new) (codes_of texts scope (trees (drop (i + 1) es))) ≡ total
  unfolding codes_of
  operands_step old new es i e total lt read more so =
      more ∙ sym (ap (λ (ts : Trees). followed (views old) (codes_of texts scope ts)) (part_of es i e lt read)) ∙ so

  pub operands_end : (all : List Operand) (es : List Expr) (i : ℕ) (total : Codes) → length es ≤ i →
      followed (views all) (codes_of texts scope (trees (drop i es))) ≡ total → views all ≡ total
  unfolding codes_of
  operands_end all es i total le so =
      sym (followed_end (views all)) ∙ sym (ap (λ (ts : Trees). followed (views all) (codes_of texts scope ts)) (no_more es i le)) ∙ so

  -- keys

  pub each_step : (old new : List Owned) (es : List Expr) (i : ℕ) (e : Expr) (total : List Code) → i < length es → e ≡ get_or es i e →
      map view old ++ each_code texts scope (trees (drop i es)) ≡ total →
      (code : Owned) → new ≡ old ++ code ∷ [] → view code ≡ code_of texts scope (tree e) → map view new ++ each_code texts scope (trees (drop (i + 1) es)) ≡ total
  each_step old new es i e total lt read so code more is =
      let rest = each_code texts scope (trees (drop (i + 1) es)) in
      ap (λ (cs : List Owned). map view cs ++ rest) more
      ∙ ap (λ (cs : List Code). cs ++ rest) (map-append view old (code ∷ []))
      ∙ append_assoc (map view old) (view code ∷ []) rest
      ∙ ap (λ (c : Code). map view old ++ c ∷ rest) is
      ∙ sym (ap (λ (ts : Trees). map view old ++ each_code texts scope ts) (part_of es i e lt read)) ∙ so

  pub each_end : (es : List Expr) (i : ℕ) (all : List Owned) → length es ≤ i →
      map view all ++ each_code texts scope (trees (drop i es)) ≡ each_code texts scope (trees es) → map view all ≡ each_code texts scope (trees es)
  each_end es i all le so =
      sym (append-nil (map view all)) ∙ sym (ap (λ (ts : Trees). map view all ++ each_code texts scope ts) (no_more es i le)) ∙ so

  -- arguments

  pub given_other : (p : Name) (t : Tree) (other : Code) → bare_name t ≡ None → given_code texts scope p t other ≡ other
  given_other p (Var x) other h = absurd (cc)
  given_other p (Leaf c) other h = refl
  given_other p Length other h = refl
  given_other p (Index x ts) other h = refl
  given_other p (Field t) other h = refl
  given_other p (Group t) other h = refl
  given_other p (Call f ts) other h = refl
  given_other p (Apply f ts) other h = refl
  given_other p (Unary o t) other h = refl
  given_other p (Pre s t) other h = refl
  given_other p (Post s t) other h = refl
  given_other p (Bin o a b) other h = refl
  given_other p (Has t x) other h = refl
  given_other p (HasList t ts x) other h = refl
  given_other p (Cond a b c) other h = refl
  given_other p Get other h = refl
  given_other p (GetInto v) other h = refl
  given_other p (GetFrom s) other h = refl
  given_other p (GetIntoFrom v s) other h = refl

  none_given : (ps : List Name) → argument_codes texts scope ps NoTree ≡ fresh_codes ps
  unfolding argument_codes
  none_given ps = refl

  -- where arguments are missing
  arguments_past : (ps : List Name) (es : List Expr) (i : ℕ) → length es ≤ i → argument_codes texts scope ps (trees (drop i es)) ≡ fresh_codes ps
  arguments_past ps es i le = ap (λ (xs : List Expr). argument_codes texts scope ps (trees xs)) (drop_of_length-le es le) ∙ none_given ps

  pub arguments_end : (ts : Trees) → argument_codes texts scope [] ts ≡ End
  unfolding argument_codes
  arguments_end NoTree = refl
  arguments_end (Then t ts) = refl

  -- what is given for a parameter
  pub given_missing : (p : Name) (o : Operand) (es : List Expr) (i : ℕ) → length es ≤ i → ((ps : List Name) → before o (fresh_codes ps) ≡ fresh_codes (p ∷ ps)) →
      (ps : List Name) → before o (argument_codes texts scope ps (trees (drop (i + 1) es))) ≡ argument_codes texts scope (p ∷ ps) (trees (drop i es))
  given_missing p o es i le is ps =
      ap (before o) (arguments_past ps es (i + 1) (omega arith)) ∙ is ps ∙ sym (arguments_past (p ∷ ps) es i le)

  pub given_argument : (p : Name) (es : List Expr) (i : ℕ) (e : Expr) → i < length es → e ≡ get_or es i e → (ps : List Name) →
      At (given_code texts scope p (tree e) (code_of texts scope (tree e))) (argument_codes texts scope ps (trees (drop (i + 1) es))) ≡ argument_codes texts scope (p ∷ ps) (trees (drop i es))
  unfolding argument_codes
  given_argument p es i e lt read ps = sym (ap (argument_codes texts scope (p ∷ ps)) (part_of es i e lt read))

  pub call_step : (old new : List Operand) (ps : List NameKind) (es : List Expr) (i : ℕ) (p : NameKind) (total : Codes) → i < length ps →
      followed (views old) (argument_codes texts scope (view_name_kinds (drop i ps)) (trees (drop i es))) ≡ total → (o : Operand) →
      new ≡ old ++ o ∷ [] →
      ((rest : List Name) → before o (argument_codes texts scope rest (trees (drop (i + 1) es))) ≡ argument_codes texts scope (view_name (get_or ps i p) ∷ rest) (trees (drop i es))) →
      followed (views new) (argument_codes texts scope (view_name_kinds (drop (i + 1) ps)) (trees (drop (i + 1) es))) ≡ total
  call_step old new ps es i p total lt so o more is =
      let rest = argument_codes texts scope (view_name_kinds (drop (i + 1) ps)) (trees (drop (i + 1) es)) in
      ap (λ (os : List Operand). followed (views os) rest) more
      ∙ followed_push old o rest
      ∙ ap (followed (views old)) (is (view_name_kinds (drop (i + 1) ps)))
      ∙ sym (ap (λ (xs : List NameKind). followed (views old) (argument_codes texts scope (view_name_kinds xs) (trees (drop i es)))) (drop_any ps i p lt))
      ∙ so

  pub call_end : (all : List Operand) (ps : List NameKind) (es : List Expr) (i : ℕ) (f : ℕ) (x : List ℕ) → length ps ≤ i →
      f ≡ function_number scope.script x →
      view_name_kinds ps ≡ (function_at scope.script.functions f).parameters →
      followed (views all) (argument_codes texts scope (view_name_kinds (drop i ps)) (trees (drop i es))) ≡ argument_codes texts scope
      (view_name_kinds ps) (trees es) →
      Called f (views all) ≡ code_of texts scope (Call x (trees es))
  unfolding code_of
  call_end all ps es i f x le number parameters so =
      ap (Called f) (sym (followed_end (views all))
      ∙ sym (ap (followed (views all)) (ap (λ (ms : List NameKind). argument_codes texts scope (view_name_kinds ms) (trees (drop i es)))
      (drop_of_length-le ps le) ∙ arguments_end (trees (drop i es))))
      ∙ so ∙ ap (λ (ms : List Name). argument_codes texts scope ms (trees es)) parameters)
      ∙ ap (λ (g : ℕ). Called g (argument_codes texts scope (function_at scope.script.functions g).parameters (trees es))) number

  -- built-in functions

  pub list_code : (f : Builtin) (ts : Trees) (old : List Operand) (all : Codes) → f ≡ builtin.Sprintf → old ≡ [] →
      all ≡ followed (views old) (codes_of texts scope ts) → Over listed.Sprintf all ≡ code_of texts scope (Apply f ts)
  unfolding code_of
  list_code f ts old all is none so =
      ap (Over listed.Sprintf) (so ∙ ap (λ (os : List Operand). followed (views os) (codes_of texts scope ts)) none)
      ∙ sym (ap (λ (g : Builtin). code_of texts scope (Apply g ts)) is)

  pub other_code : (f : Builtin) (ts : Trees) → f ≢ builtin.Sprintf → applied_code texts scope f ts ≡ code_of texts scope (Apply f ts)
  unfolding code_of
  other_code builtin.Sprintf ts other = absurd (other refl)
  other_code builtin.Length ts other = refl
  other_code builtin.Substr ts other = refl
  other_code builtin.Index ts other = refl
  other_code builtin.Split ts other = refl
  other_code builtin.Sub ts other = refl
  other_code builtin.Gsub ts other = refl
  other_code builtin.Match ts other = refl
  other_code builtin.ToLower ts other = refl
  other_code builtin.ToUpper ts other = refl
  other_code builtin.Int ts other = refl
  other_code builtin.Close ts other = refl
  other_code builtin.Fflush ts other = refl

  -- one operand
  pub one_applied : (f : Builtin) (t : Tree) → f ≢ builtin.Int → applied_to f (code_of texts scope t) ≡ applied_code texts scope f (Then t NoTree)
  unfolding applied_code
  one_applied builtin.Int t other = absurd (other refl)
  one_applied builtin.Length t other = refl
  one_applied builtin.Substr t other = refl
  one_applied builtin.Index t other = refl
  one_applied builtin.Split t other = refl
  one_applied builtin.Sub t other = refl
  one_applied builtin.Gsub t other = refl
  one_applied builtin.Match t other = refl
  one_applied builtin.Sprintf t other = refl
  one_applied builtin.ToLower t other = refl
  one_applied builtin.ToUpper t other = refl
  one_applied builtin.Close t other = refl
  one_applied builtin.Fflush t other = refl

  -- operands of which only the first counts
  first_counts : (f : Builtin) (t : Tree) (ts : Trees) → f ≢ builtin.Length → f ≢ builtin.Index → f ≢ builtin.Match → f ≢ builtin.Substr →
      f ≢ builtin.Split → f ≢ builtin.Sub → f ≢ builtin.Gsub →
      applied_code texts scope f (Then t NoTree) ≡ applied_code texts scope f (Then t ts)
  unfolding applied_code
  first_counts builtin.Length t ts l i m s p u g = absurd (l refl)
  first_counts builtin.Index t ts l i m s p u g = absurd (i refl)
  first_counts builtin.Match t ts l i m s p u g = absurd (m refl)
  first_counts builtin.Substr t ts l i m s p u g = absurd (s refl)
  first_counts builtin.Split t ts l i m s p u g = absurd (p refl)
  first_counts builtin.Sub t ts l i m s p u g = absurd (u refl)
  first_counts builtin.Gsub t ts l i m s p u g = absurd (g refl)
  first_counts builtin.Sprintf t ts l i m s p u g = refl
  first_counts builtin.ToLower t ts l i m s p u g = refl
  first_counts builtin.ToUpper t ts l i m s p u g = refl
  first_counts builtin.Int t ts l i m s p u g = refl
  first_counts builtin.Close t ts l i m s p u g = refl
  first_counts builtin.Fflush t ts l i m s p u g = refl

  pub only_first : (f : Builtin) (es : List Expr) (a : Expr) → 2 ≤ length es → a ≡ get_or es 0 a → f ≢ builtin.Length → f ≢ builtin.Index →
      f ≢ builtin.Match → f ≢ builtin.Substr → f ≢ builtin.Split → f ≢ builtin.Sub → f ≢ builtin.Gsub →
      applied_code texts scope f (Then (tree a) NoTree) ≡ applied_code texts scope f (trees es)
  only_first f es a le first l i m s p u g =
      first_counts f (tree a) (trees (drop 1 es)) l i m s p u g ∙ sym (ap (applied_code texts scope f) (part_of es 0 a (omega arith) first))

  pub length_more : (f : Builtin) (es : List Expr) → 2 ≤ length es → f ≡ builtin.Length →
      host row.Length (one record_code) ≡ applied_code texts scope f (trees es)
  unfolding applied_code
  length_more f [] le is = absurd (omega arith)
  length_more f (a ∷ []) le is = absurd (omega arith)
  length_more f (a ∷ b ∷ es) le is = sym (ap (λ (g : Builtin). applied_code texts scope g (trees (a ∷ b ∷ es))) is)

  pub index_code : (f : Builtin) (es : List Expr) (a b : Expr) → 2 ≤ length es → a ≡ get_or es 0 a → b ≡ get_or es 1 b → f ≡ builtin.Index →
      host row.Index (two (code_of texts scope (tree a)) (code_of texts scope (tree b))) ≡ applied_code texts scope f (trees es)
  unfolding applied_code
  index_code f es a b le first second is = rw is (sym (ap (applied_code texts scope builtin.Index) (two_trees es a b le first second)))

  pub match_code : (f : Builtin) (es : List Expr) (a b : Expr) → 2 ≤ length es → a ≡ get_or es 0 a → b ≡ get_or es 1 b → f ≡ builtin.Match →
      host row.Match (two (code_of texts scope (tree a)) (ere_code texts (ere_in (tree b)) (code_of texts scope (tree b)))) ≡ applied_code texts scope f (trees es)
  unfolding applied_code
  match_code f es a b le first second is = rw is (sym (ap (applied_code texts scope builtin.Match) (two_trees es a b le first second)))

  pub substr_from : (es : List Expr) (a b : Expr) → length es ≡ 2 → a ≡ get_or es 0 a → b ≡ get_or es 1 b →
      host row.SubstrFrom (two (code_of texts scope (tree a)) (code_of texts scope (tree b))) ≡ applied_code texts scope builtin.Substr (trees es)
  unfolding applied_code
  substr_from es a b n first second = sym (ap (applied_code texts scope builtin.Substr) (just_two es a b n first second))

  pub substr_code : (es : List Expr) (a b c : Expr) → 3 ≤ length es → a ≡ get_or es 0 a → b ≡ get_or es 1 b → c ≡ get_or es 2 c →
      host row.Substr (At (code_of texts scope (tree a)) (two (code_of texts scope (tree b)) (code_of texts scope (tree c)))) ≡ applied_code texts scope builtin.Substr (trees es)
  unfolding applied_code
  substr_code es a b c le first second third = sym (ap (applied_code texts scope builtin.Substr) (three_trees es a b c le first second third))

  -- the second operand of `split` is a name
  split_other : (s t : Tree) (ts : Trees) → bare_name t ≡ None → Unset ≡ applied_code texts scope builtin.Split (Then s (Then t ts))
  unfolding applied_code
  split_other s (Var x) ts h = absurd (cc)
  split_other s (Leaf c) ts h = refl
  split_other s Length ts h = refl
  split_other s (Index x us) ts h = refl
  split_other s (Field t) ts h = refl
  split_other s (Group t) ts h = refl
  split_other s (Call f us) ts h = refl
  split_other s (Apply f us) ts h = refl
  split_other s (Unary o t) ts h = refl
  split_other s (Pre o t) ts h = refl
  split_other s (Post o t) ts h = refl
  split_other s (Bin o a b) ts h = refl
  split_other s (Has t x) ts h = refl
  split_other s (HasList t us x) ts h = refl
  split_other s (Cond a b c) ts h = refl
  split_other s Get ts h = refl
  split_other s (GetInto v) ts h = refl
  split_other s (GetFrom v) ts h = refl
  split_other s (GetIntoFrom v w) ts h = refl

  pub split_none : (es : List Expr) (b : Expr) → 2 ≤ length es → b ≡ get_or es 1 b → bare_name (tree b) ≡ None →
      Unset ≡ applied_code texts scope builtin.Split (trees es)
  split_none [] b le second none = absurd (omega arith)
  split_none (x ∷ []) b le second none = absurd (omega arith)
  split_none (x ∷ y ∷ es) b le second none = split_other (tree x) (tree y) (trees es) (ap (λ (e : Expr). bare_name (tree e)) (sym second) ∙ none)

  pub split_code : (es : List Expr) (a b : Expr) (x : List ℕ) (array : Code) → length es ≡ 2 → a ≡ get_or es 0 a → b ≡ get_or es 1 b → tree b ≡ Var x →
      array ≡ Array (array_of scope x) →
      host row.Split (At (code_of texts scope (tree a)) (At array (At (special_code Fs) (Fixed (flag_number false) End)))) ≡ applied_code texts scope builtin.Split (trees es)
  unfolding applied_code
  split_code es a b x array n first second name ha =
      rw ha (sym (ap (applied_code texts scope builtin.Split) (just_two es a b n first second ∙ ap (λ (t : Tree). Then (tree a) (Then t NoTree)) name)))

  pub split_by_code : (es : List Expr) (a b c : Expr) (x : List ℕ) (array : Code) (flag : Bool) → 3 ≤ length es → a ≡ get_or es 0 a → b ≡ get_or es 1 b →
      c ≡ get_or es 2 c → tree b ≡ Var x → array ≡ Array (array_of scope x) → flag ≡ is_ere (ere_in (tree c)) →
      host row.Split (At (code_of texts scope (tree a)) (At array (At (ere_code texts (ere_in (tree c)) (code_of texts scope (tree c))) (Fixed (flag_number flag) End))))
      ≡ applied_code texts scope builtin.Split (trees es)
  unfolding applied_code
  split_by_code es a b c x array flag le first second third name ha hf =
      rw (ha, hf) (sym (ap (applied_code texts scope builtin.Split)
      (three_trees es a b c le first second third ∙ ap (λ (t : Tree). Then (tree a) (Then t (Then (tree c) (trees (drop 3 es))))) name)))

  pub record_replaced : (all : Bool) (es : List Expr) (a b : Expr) → length es ≡ 2 → a ≡ get_or es 0 a → b ≡ get_or es 1 b →
      Let (ere_code texts (ere_in (tree a)) (code_of texts scope (tree a))) (Let (code_of texts scope (tree b)) (Let zero_code (substituted_at all FieldTarget)))
      ≡ applied_code texts scope (sub_or_gsub all) (trees es)
  unfolding applied_code
  record_replaced false es a b n first second = sym (ap (applied_code texts scope builtin.Sub) (just_two es a b n first second))
  record_replaced true es a b n first second = sym (ap (applied_code texts scope builtin.Gsub) (just_two es a b n first second))

  pub place_replaced : (all : Bool) (es : List Expr) (a b c : Expr) → 3 ≤ length es → a ≡ get_or es 0 a → b ≡ get_or es 1 b → c ≡ get_or es 2 c →
      Let (ere_code texts (ere_in (tree a)) (code_of texts scope (tree a))) (Let (code_of texts scope (tree b))
      (keeping (kept_code texts scope (tree c)) (substituted_at all (target_in texts scope (tree c))))) ≡ applied_code texts scope (sub_or_gsub all) (trees es)
  unfolding applied_code
  place_replaced false es a b c le first second third = sym (ap (applied_code texts scope builtin.Sub) (three_trees es a b c le first second third))
  place_replaced true es a b c le first second third = sym (ap (applied_code texts scope builtin.Gsub) (three_trees es a b c le first second third))

  -- q says whether the operator divides
  pub quotient_code : (e a b : Tree) (o : Op) (q : Bool) → e ≡ Bin o a b →
      ((whole : Code) → truncated_code texts scope (Bin o a b) whole ≡
      (if q then Do (Inline inline.Truncated) (two (code_of texts scope a) (code_of texts scope b)) else host row.IntOf (one whole))) →
      q ≡ true → Do (Inline inline.Truncated) (two (code_of texts scope a) (code_of texts scope b)) ≡ truncated_code texts scope e (code_of texts scope e)
  quotient_code e a b o q is so divides =
      let whole = code_of texts scope e in
      sym (ap (λ (t : Tree). truncated_code texts scope t whole) is ∙ so whole
      ∙ ap (λ (d : Bool). if d then Do (Inline inline.Truncated) (two (code_of texts scope a) (code_of texts scope b)) else host row.IntOf
      (one whole)) divides)

  pub other_operator : (e a b : Tree) (o : Op) (q : Bool) → e ≡ Bin o a b →
      ((whole : Code) → truncated_code texts scope (Bin o a b) whole ≡
      (if q then Do (Inline inline.Truncated) (two (code_of texts scope a) (code_of texts scope b)) else host row.IntOf (one whole))) →
      q ≡ false → host row.IntOf (one (code_of texts scope e)) ≡ truncated_code texts scope e (code_of texts scope e)
  other_operator e a b o q is so none =
      let whole = code_of texts scope e in
      sym (ap (λ (t : Tree). truncated_code texts scope t whole) is ∙ so whole
      ∙ ap (λ (d : Bool). if d then Do (Inline inline.Truncated) (two (code_of texts scope a) (code_of texts scope b)) else host row.IntOf
      (one whole)) none)
