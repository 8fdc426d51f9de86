-- All expressions do what they mean, if calls do, and if a turn pays for an assignment of the command line (`Rest`).
use Rattle.std.proofs.Common.{◌≤◌}
use Rattle.std.specs.Prelude.{ℕ, true, false, List}
use Rattle.mid_program.specs.declared.mid.Operation.TheVariants.{Host, Inline, AsNumber, FieldNumber}
use Rattle.mid_program.specs.Mid.{Kind, Program, Global, Parameter, Code, Do, Over, Compare, Call, Ask, AskLine, FileLine, Replace, Number, Text, Unset, Get, Set, Array, IsOpen, Choose, Seq, Let, Bound, Codes, End, At, Fixed, Fresh}
use Rattle.lower_model.specs.Machine.{Frame}
use Rattle.lower_model.specs.Places.{Bases}
use Rattle.lower_model.proofs.Observer.{Observer}
use Rattle.lower_model.proofs.Simulation.{ExprOk, CodesOk}
use Rattle.lower_model.proofs.Operands.{codes_end, codes_at, codes_fixed}
use Rattle.lower_model.proofs.Making.{codes_fresh}
use Rattle.lower_model.proofs.Fields.{do_host}
use Rattle.lower_model.proofs.Numbers.{do_as_number, do_field_number}
use Rattle.lower_model.proofs.Leaves.{number_expr, unset_expr, open_expr, array_expr}
use Rattle.lower_model.proofs.Texts.{text_expr, get_bare_global, get_bare_parameter}
use Rattle.lower_model.proofs.Reading.{get_global, get_parameter, moves_expr, copies_expr}
use Rattle.lower_model.proofs.Keeping.{seq_expr, let_expr}
use Rattle.lower_model.proofs.Choosing.{choose_expr}
use Rattle.lower_model.proofs.Lists.{over_expr}
use Rattle.lower_model.proofs.CopiedNames.{set_expr}
use Rattle.lower_model.proofs.Immediates.{compare_expr}
use Rattle.lower_model.proofs.Adding.{inline_expr}
use Rattle.lower_model.proofs.FileLines.{file_line_expr}
use Rattle.sem_scripts.specs.ScriptState.{Local}
use Rattle.lower_model.specs.Noted.{noted_called}
use Rattle.lower_model.proofs.Lending.{Lends}
use Rattle.lower_model.proofs.Calling.{CallsDo, call_expr}
use Rattle.lower_model.proofs.Asking.{assign_work}
use Rattle.lower_model.proofs.AskingLines.{ask_expr, ask_line_expr}
use Rattle.lower_model.proofs.Replacing.{replace_expr}

module _ (p : Program) (deepest : Observer) (ks : List Kind) (F : List Frame) (b : Bases) (M n : ℕ) where
  abbrev pub Expr : Code → Type 0
  Expr e = ExprOk p deepest ks F b M n e

  abbrev pub Operands : Codes → Type 0
  Operands es = CodesOk p deepest ks F b M n es

  -- what expressions rest on: a turn pays for an assignment of the command line, and each call of a function does what it means
  pub record Rest : Type 0 where
    pub paid : assign_work p deepest ks F b M n ≤ M
    pub calls : CallsDo p deepest ks F b M n
    pub lends : (f : ℕ) (os : List Local) → Lends p (noted_called deepest.notes p n f os)

  module _ (rest : Rest) where
    mutual
      pub expr_ok : (e : Code) → Expr e
      expr_ok (Do (Host q) es) = do_host p deepest ks F b M n q es (codes_ok es)
      expr_ok (Do (Inline a) es) = inline_expr p deepest ks F b M n a es (codes_ok es)
      expr_ok (Do AsNumber es) = do_as_number p deepest ks F b M n es (codes_ok es)
      expr_ok (Do FieldNumber es) = do_field_number p deepest ks F b M n es (codes_ok es)
      expr_ok (Over l es) = over_expr p deepest ks F b M n l es (codes_ok es)
      expr_ok (Compare c x y) = compare_expr p deepest ks F b M n c x y (expr_ok x) (expr_ok y)
      expr_ok (Call f es) = call_expr p deepest ks F b M n rest.calls rest.lends f es (codes_ok es)
      expr_ok Ask = ask_expr p deepest ks F b M n rest.paid
      expr_ok (AskLine s) = ask_line_expr p deepest ks F b M n rest.paid s (expr_ok s)
      expr_ok (FileLine e s) = file_line_expr p deepest ks F b M n e s (expr_ok e) (expr_ok s)
      expr_ok (Replace all es s) = replace_expr p deepest ks F b M n all es s (codes_ok es) (expr_ok s)
      expr_ok (Number z) = number_expr p deepest ks F b M n z
      expr_ok (Text i) = text_expr p deepest ks F b M n i
      expr_ok Unset = unset_expr p deepest ks F b M n
      expr_ok (Get (Global false i)) = get_global p deepest ks F b M n i
      expr_ok (Get (Global true i)) = get_bare_global p deepest ks F b M n i
      expr_ok (Get (Parameter false i)) = get_parameter p deepest ks F b M n i
      expr_ok (Get (Parameter true i)) = get_bare_parameter p deepest ks F b M n i
      expr_ok (Set x e) = set_expr p deepest ks F b M n x e (expr_ok e)
      expr_ok (Array a) = array_expr p deepest ks F b M n a
      expr_ok (IsOpen i) = open_expr p deepest ks F b M n i
      expr_ok (Choose s c x y) = choose_expr p deepest ks F b M n s c x y (expr_ok c) (expr_ok x) (expr_ok y)
      expr_ok (Seq x y) = seq_expr p deepest ks F b M n x y (expr_ok x) (expr_ok y)
      expr_ok (Let x y) = let_expr p deepest ks F b M n x y (expr_ok x) (expr_ok y)
      expr_ok (Bound true i) = moves_expr p deepest ks F b M n i
      expr_ok (Bound false i) = copies_expr p deepest ks F b M n i

      pub codes_ok : (es : Codes) → Operands es
      codes_ok End = codes_end p deepest ks F b M n
      codes_ok (At e es) = codes_at p deepest ks F b M n e es (expr_ok e) (codes_ok es)
      codes_ok (Fixed m es) = codes_fixed p deepest ks F b M n m es (codes_ok es)
      codes_ok (Fresh es) = codes_fresh p deepest ks F b M n es
