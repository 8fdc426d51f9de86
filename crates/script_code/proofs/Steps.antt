-- The code of statements is well sorted.
use Rattle.std.proofs.Common.{◌≡◌, ℕ, ◌+◌, ◌≤◌, Bool, true, false, List, [], ◌∷◌, ◌++◌, refl, le-leb, zero-le, arith}
use Rattle.std.proofs.lemmas.Bool.{and_parts}
use Rattle.std.specs.Prelude.{nat_le, IsTrue, Option, Some, None}
use Rattle.std.specs.List.{list_all}
use Rattle.sem_primitives.specs.InTurn.{values_wanted}
use Rattle.sem_primitives.specs.Table.{listed_answer}
use Rattle.sem_primitives.specs.declared.constants.Destination.{Destination}
use Rattle.sem_primitives.specs.declared.table.Primitive.TheVariants as row
use Rattle.awk_grammar.specs.Tree.{IsWellFormed}
use Rattle.awk_grammar.specs.Trees.{count, Tree, Trees, NoTree, Then, Printing, Print, Printf, Args, NoArgs, Listed, Enclosed, Target, NoTarget, Written, Appended, Plain, Stmt, Stmts, NoStmt, And}
use Rattle.awk_grammar.specs.Trees as stmt
use Rattle.awk_grammar.specs.Stmt.{IsArgs, IsTarget, IsPlain, IsMaybe, IsMaybePlain, IsStmt, AreStmts}
use Rattle.awk_grammar.specs.Marks.{Array, Scalar, Mark, Used, marks, all_marks, args_marks, target_marks, plain_marks, maybe_marks, maybe_plain_marks, stmt_marks, stmts_marks}
use Rattle.mid_program.specs.declared.mid.Operation.TheVariants.{Host}
use Rattle.sem_scripts.specs.Names.{Resolved, Scope, variable_of, array_of}
use Rattle.sem_scripts.specs.Statements.{operands_of, with_last, with_target, destination_of, listed_of}
use Rattle.mid_program.specs.Texts.{texts_in, all_texts, args_texts, target_texts, plain_texts, maybe_texts, maybe_plain_texts, stmt_texts, stmts_texts}
use Rattle.mid_program.specs.Mid.{Form, PrimitiveAnswer, form_of}
use Rattle.mid_program.specs.Sorted.{Context, is_dropped, sorted, all_sorted, test_sorted, step_sorted, steps_sorted}
use Rattle.mid_program.specs.Translation.{code_of, codes_of, key_code, test_code, plain_step, maybe_step, step_code, steps_code}
use Rattle.script_code.specs.Fits.{scope_at, is_met, is_placed, are_placed, AreMet}
use Rattle.script_code.proofs.Good.{Good, is_within, as_value, as_number, tested_dropped, array_operand, array_alone, one_good}
use Rattle.script_code.proofs.Variables.{stores_into, moved_into}
use Rattle.script_code.proofs.Operands.{over_good}
use Rattle.script_code.proofs.Sound.{Sound, AllSound, AllWithin, parts, sound, all_sound}
use Rattle.script_code.proofs.Places.{Agrees}
use Rattle.script_code.proofs.Trees.{code_good, codes_good, key_good}

-- Values that are put out: as many as are wanted.

with_last_count : (ts : Trees) (t : Tree) → count (with_last ts t) ≡ count ts + 1
with_last_count NoTree t = refl
with_last_count (Then u ts) t = let e = with_last_count ts t in omega (arith, e)

-- at least one operand, and one more for a file
target_count : (ts : Trees) (target : Target) (p : Printing) → 1 ≤ count ts → nat_le (values_wanted (listed_of p (destination_of target))) (count (with_target ts target)) ≡ true
target_count ts NoTarget Print l = le-leb 0 (count ts) zero-le
target_count ts NoTarget Printf l = le-leb 1 (count ts) l
target_count ts (Written t) Print l = le-leb 1 (count (with_last ts t)) (let e = with_last_count ts t in omega (arith, e))
target_count ts (Written t) Printf l = le-leb 2 (count (with_last ts t)) (let e = with_last_count ts t in omega (arith, e, l))
target_count ts (Appended t) Print l = le-leb 1 (count (with_last ts t)) (let e = with_last_count ts t in omega (arith, e))
target_count ts (Appended t) Printf l = le-leb 2 (count (with_last ts t)) (let e = with_last_count ts t in omega (arith, e, l))

some_count : (p : Printing) (args : Args) → IsArgs p args → 1 ≤ count (operands_of args)
some_count p NoArgs w = omega arith
some_count p (Listed NoTree) w = absurd w.1
some_count p (Listed (Then t ts)) w = omega arith
some_count p (Enclosed t ts) w = omega arith

put_dropped : (p : Printing) (d : Destination) → is_dropped (PrimitiveAnswer (listed_answer (listed_of p d))) ≡ true
put_dropped Print d = refl
put_dropped Printf d = refl

module _ (c : Context) (texts : List (List ℕ)) (script : Resolved) (place : Option (List ℕ)) (agrees : Agrees c texts (scope_at script place)) where
  abbrev scope : Scope
  scope = scope_at script place

  -- marks that are met, and texts that stand among the texts
  abbrev pub Both : List Mark → List (List ℕ) → Type 0
  Both ms ts = AreMet script ms × AllWithin texts ts

  halves : (ms ns : List Mark) (ts us : List (List ℕ)) → Both (ms ++ ns) (ts ++ us) → Both ms ts × Both ns us
  halves ms ns ts us b = let p = parts (is_met script) ms ns b.0 in let q = parts (is_within texts) ts us b.1 in ((p.0, q.0), (p.1, q.1))

  one_met : (m : Mark) (ms : List Mark) → AreMet script (m ∷ ms) → IsTrue (is_met script m) × AreMet script ms
  one_met m ms h = and_parts (is_met script m) (list_all (is_met script) ms) h

  tree_good : (t : Tree) (g : Bool) → IsWellFormed g t → Both (marks place t) (texts_in t) → (fs : List Form) → Good c fs (code_of texts scope t)
  tree_good t g w b fs = code_good c texts scope agrees t (sound texts script place t g w b.0 b.1) fs

  pub test_fine : (t : Tree) → IsWellFormed true t → Both (marks place t) (texts_in t) → test_sorted c (code_of texts scope t) ≡ true
  test_fine t w b = let g = tree_good t true w b [] in rw (g.tested, g.fine) refl

  args_sound : (p : Printing) (args : Args) → IsArgs p args → Both (args_marks place args) (args_texts args) → AllSound texts scope (operands_of args)
  args_sound p NoArgs w b = (refl, tt)
  args_sound p (Listed ts) w b = all_sound texts script place ts false w.0 b.0 b.1
  args_sound p (Enclosed t ts) w b =
      let h = halves (marks place t) (all_marks place ts) (texts_in t) (all_texts ts) b in
      (sound texts script place t true w.0 h.0.0 h.0.1, all_sound texts script place ts true w.1 h.1.0 h.1.1)

  last_sound : (ts : Trees) (t : Tree) → AllSound texts scope ts → Sound texts scope t → AllSound texts scope (with_last ts t)
  last_sound NoTree t s h = (h, tt)
  last_sound (Then u ts) t s h = (s.0, last_sound ts t s.1 h)

  target_sound : (ts : Trees) (target : Target) → IsTarget target → AllSound texts scope ts → Both (target_marks place target) (target_texts target) → AllSound texts scope (with_target ts target)
  target_sound ts NoTarget w s b = s
  target_sound ts (Written t) w s b = last_sound ts t s (sound texts script place t true w.0 b.0 b.1)
  target_sound ts (Appended t) w s b = last_sound ts t s (sound texts script place t true w.0 b.0 b.1)

  plain_fine : (p : Plain) (r l : Bool) → IsPlain p → Both (plain_marks place p) (plain_texts p) → step_sorted c r l (plain_step texts scope p) ≡ true
  unfolding step_sorted
  plain_fine (stmt.Eval t) r l w b = let g = tree_good t true w b [] in rw (tested_dropped (form_of [] (code_of texts scope t)) g.tested, g.fine) refl
  plain_fine (stmt.Put p args target) r l w b =
      let h = halves (args_marks place args) (target_marks place target) (args_texts args) (target_texts target) b in
      let ts = with_target (operands_of args) target in
      let v = codes_good c texts scope agrees ts (target_sound (operands_of args) target w.1 (args_sound p args w.0 h.0) h.1) [] in
      rw (put_dropped p (destination_of target), over_good c [] (listed_of p (destination_of target)) (codes_of texts scope ts) (count ts) v (target_count (operands_of args) target p (some_count p args w.0))) refl
  plain_fine (stmt.Delete a ts) r l w b =
      let h = one_met (Used Array place a) (all_marks place ts) b.0 in
      array_operand c [] (Host row.Delete) (array_of scope a) (key_code texts scope ts) refl refl (agrees.array a h.0) (key_good c texts scope agrees ts w.1 (all_sound texts script place ts true w.0 h.1 b.1) [])
  plain_fine (stmt.Clear a) r l w b =
      let h = one_met (Used Array place a) [] b.0 in
      array_alone c [] (Host row.Clear) (array_of scope a) refl refl (agrees.array a h.0)

  maybe_plain_fine : (p : Option Plain) (r l : Bool) → IsMaybePlain p → Both (maybe_plain_marks place p) (maybe_plain_texts p) → step_sorted c r l (maybe_step texts scope p) ≡ true
  unfolding step_sorted steps_sorted
  maybe_plain_fine None r l w b = refl
  maybe_plain_fine (Some p) r l w b = plain_fine p r l w b

  maybe_test_fine : (t : Option Tree) → IsMaybe t → Both (maybe_marks place t) (maybe_texts t) → test_sorted c (test_code texts scope t) ≡ true
  maybe_test_fine None w b = let g = one_good c [] in rw (g.fine) refl
  maybe_test_fine (Some t) w b = test_fine t w b

  mutual
    unfolding sorted all_sorted step_sorted steps_sorted step_code steps_code stmt_texts stmts_texts

    step_fine : (s : Stmt) (r l : Bool) → IsStmt s → IsTrue (is_placed r l s) → Both (stmt_marks place s) (stmt_texts s) → step_sorted c r l (step_code texts scope s) ≡ true
    step_fine (stmt.Block ss) r l w p b = steps_fine ss r l w p b
    step_fine stmt.Empty r l w p b = refl
    step_fine (stmt.Simple q) r l w p b = plain_fine q r l w b
    step_fine (stmt.If e s) r l w p b = let h = halves (marks place e) (stmt_marks place s) (texts_in e) (stmt_texts s) b in rw (test_fine e w.0 h.0, step_fine s r l w.1 p h.1) refl
    step_fine (stmt.IfElse e s t) r l w p b =
        let h = halves (marks place e) (stmt_marks place s ++ stmt_marks place t) (texts_in e) (stmt_texts s ++ stmt_texts t) b in
        let k = halves (stmt_marks place s) (stmt_marks place t) (stmt_texts s) (stmt_texts t) h.1 in
        let q = and_parts (is_placed r l s) (is_placed r l t) p in
        rw (test_fine e w.0 h.0, step_fine s r l w.1 q.0 k.0, step_fine t r l w.2 q.1 k.1) refl
    step_fine (stmt.While e s) r l w p b = let h = halves (marks place e) (stmt_marks place s) (texts_in e) (stmt_texts s) b in rw (test_fine e w.0 h.0, step_fine s r true w.1 p h.1) refl
    step_fine (stmt.Do s e) r l w p b = let h = halves (stmt_marks place s) (marks place e) (stmt_texts s) (texts_in e) b in rw (test_fine e w.1 h.1, step_fine s r true w.0 p h.0) refl
    step_fine (stmt.For i e n s) r l w p b =
        let h = halves (maybe_plain_marks place i) (maybe_marks place e ++ (maybe_plain_marks place n ++ stmt_marks place s)) (maybe_plain_texts i) (maybe_texts e ++ (maybe_plain_texts n ++ stmt_texts s)) b in
        let k = halves (maybe_marks place e) (maybe_plain_marks place n ++ stmt_marks place s) (maybe_texts e) (maybe_plain_texts n ++ stmt_texts s) h.1 in
        let m = halves (maybe_plain_marks place n) (stmt_marks place s) (maybe_plain_texts n) (stmt_texts s) k.1 in
        rw (maybe_plain_fine i r l w.0 h.0, maybe_test_fine e w.1 k.0, step_fine s r true w.3 p m.1, maybe_plain_fine n r false w.2 m.0) refl
    step_fine (stmt.ForIn x a s) r l w p b =
        let h = one_met (Used Scalar place x) (Used Array place a ∷ stmt_marks place s) b.0 in
        let k = one_met (Used Array place a) (stmt_marks place s) h.1 in
        rw (agrees.array a k.0, stores_into c [] (variable_of scope x), moved_into c [] (variable_of scope x) (agrees.scalar x h.0), step_fine s r true w p (k.1, b.1)) refl
    step_fine (stmt.Jumping stmt.Break) r l w p b = p
    step_fine (stmt.Jumping stmt.Continue) r l w p b = p
    step_fine (stmt.Jumping stmt.Next) r l w p b = refl
    step_fine (stmt.Jumping stmt.NextFile) r l w p b = refl
    step_fine (stmt.Leave stmt.Exit None) r l w p b = refl
    step_fine (stmt.Leave stmt.Exit (Some t)) r l w p b = let g = tree_good t true w b [] in rw (as_number c [] (code_of texts scope t) g, g.fine) refl
    step_fine (stmt.Leave stmt.Return None) r l w p b = rw p refl
    step_fine (stmt.Leave stmt.Return (Some t)) r l w p b = let g = tree_good t true w b [] in rw (p, as_value c [] (code_of texts scope t) g, g.fine) refl

    pub steps_fine : (ss : Stmts) (r l : Bool) → AreStmts ss → IsTrue (are_placed r l ss) → Both (stmts_marks place ss) (stmts_texts ss) → steps_sorted c r l (steps_code texts scope ss) ≡ true
    steps_fine NoStmt r l w p b = refl
    steps_fine (And s ss) r l w p b =
        let h = halves (stmt_marks place s) (stmts_marks place ss) (stmt_texts s) (stmts_texts ss) b in
        let q = and_parts (is_placed r l s) (are_placed r l ss) p in
        rw (step_fine s r l w.0 q.0 h.0, steps_fine ss r l w.1 q.1 h.1) refl
