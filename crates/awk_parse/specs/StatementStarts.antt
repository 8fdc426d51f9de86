-- What items, simple statements and redirections begin with, and the tokens behind that.
use Rattle.std.specs.Prelude.{ℕ, true, List, ◌∷◌, map, Option, Some, None, Ok}
use Rattle.awk_tokens.specs.Views.{spelled}
use Rattle.awk_grammar.specs.Token.{Token, Infix, Compare, Greater, Append, OpenBrace, Semicolon, Key, FunctionWord, BeginWord, EndWord, PrintWord, PrintfWord, DeleteWord, IfWord, WhileWord, DoWord, ForWord, BreakWord, ContinueWord, NextWord, NextFileWord, ExitWord, ReturnWord}
use Rattle.awk_grammar.specs.Tree.{AfterCompare}
use Rattle.awk_grammar.specs.Trees.{Tree, Printing, Print, Printf, Target, NoTarget, Written, Appended, Plain, Delete, Clear, Jump, Break, Continue, Next, NextFile, Leaving, Exit, Return, Stmt, Empty, Stmts, Item, Begin, End, Always, Nothing}
use Rattle.awk_grammar.specs.Lexeme.{spoken_after}
use Rattle.awk_grammar.specs.Reading.{◌>>=◌, Reader, list_at, bracket_at}
use Rattle.awk_grammar.specs.ReadStmt.{Read, StmtReader, put_at, delete_at, eval_at, block_at, if_at, jump_at, leave_at, simple_at}
use Rattle.awk_grammar.specs.ReadItem.{body_at, function_at, rule_at}
use Rattle.awk_grammar.specs.ViewStmt.{view_word, view_jump, view_leaving}
use Rattle.awk_parse.specs.declared.statement_start.Redirection.{Redirection}
use Rattle.awk_parse.specs.declared.statement_start.Redirection.TheVariants as redirections
use Rattle.awk_parse.specs.declared.statement_start.PlainStart.{PlainStart}
use Rattle.awk_parse.specs.declared.statement_start.PlainStart.TheVariants as starts
use Rattle.awk_parse.specs.declared.statement_start.LoopWord.{LoopWord}
use Rattle.awk_parse.specs.declared.statement_start.LoopWord.TheVariants as loops
use Rattle.awk_parse.specs.declared.statement_start.Short.{Short}
use Rattle.awk_parse.specs.declared.statement_start.Short.TheVariants as shorts
use Rattle.awk_parse.specs.declared.statement_start.StmtStart.{StmtStart}
use Rattle.awk_parse.specs.declared.statement_start.StmtStart.TheVariants as statements
use Rattle.awk_parse.specs.declared.statement_start.When.{When}
use Rattle.awk_parse.specs.declared.statement_start.When.TheVariants as times
use Rattle.awk_parse.specs.declared.statement_start.ItemStart.{ItemStart}
use Rattle.awk_parse.specs.declared.statement_start.ItemStart.TheVariants as items
use Rattle.awk_parse.specs.Bodies.{loop_by}
use Rattle.awk_parse.specs.Seen.{seen}

-- ---- where `print` writes

abbrev pub redirected_at : List Token → Option (Redirection × List Token)
redirected_at (Infix (Compare Greater) ∷ ts) = Some (redirections.File, ts)
redirected_at (Append ∷ ts) = Some (redirections.FileEnd, ts)
redirected_at _ = None

abbrev pub target_of : Redirection → Tree → Target
target_of redirections.File t = Written t
target_of redirections.FileEnd t = Appended t

abbrev pub target_by : Reader → List Token → Option (Redirection × List Token) → Read Target
target_by expr ts None = Ok (NoTarget, ts)
target_by expr ts (Some o) = expr true AfterCompare o.1 >>= λ x. Ok (target_of o.0 x.0, x.1)

-- ---- what `delete` deletes

abbrev pub deleted_by : Reader → List ℕ → List Token → Option (List Token) → Read Plain
deleted_by expr n ts None = Ok (Clear n, ts)
deleted_by expr n ts (Some us) = list_at expr true us >>= λ x. bracket_at x.1 >>= λ vs. Ok (Delete n x.0, vs)

-- ---- simple statements

pub data Deed : Type 0 where
  Putting : Printing → List Token → Deed
  Deleting : List Token → Deed
  Evaluating : Deed

abbrev pub deed_at : List Token → Deed
deed_at (Key PrintWord ∷ ts) = Putting Print ts
deed_at (Key PrintfWord ∷ ts) = Putting Printf ts
deed_at (Key DeleteWord ∷ ts) = Deleting ts
deed_at _ = Evaluating

abbrev pub plain_by : Reader → List Token → Deed → Read Plain
plain_by expr ts (Putting p us) = put_at expr p us
plain_by expr ts (Deleting us) = delete_at expr us
plain_by expr ts Evaluating = eval_at expr ts

abbrev pub view_plain_start : PlainStart → Deed
view_plain_start (starts.Print word rest) = Putting (view_word word) (seen rest.now)
view_plain_start (starts.Delete rest) = Deleting (seen rest.now)
view_plain_start starts.Value = Evaluating

-- ---- statements

pub data Start : Type 0 where
  Braced : List Token → Start
  Testing : List Token → Start
  Looping : LoopWord → List Token → Start
  Bare : List Token → Start
  JumpingBy : Jump → List Token → Start
  LeavingBy : Leaving → List Token → Start
  Doing : Start

abbrev pub lead_at : List Token → Start
lead_at (OpenBrace ∷ ts) = Braced ts
lead_at (Semicolon ∷ ts) = Bare ts
lead_at (Key IfWord ∷ ts) = Testing ts
lead_at (Key WhileWord ∷ ts) = Looping loops.While ts
lead_at (Key DoWord ∷ ts) = Looping loops.Do ts
lead_at (Key ForWord ∷ ts) = Looping loops.For ts
lead_at (Key BreakWord ∷ ts) = JumpingBy Break ts
lead_at (Key ContinueWord ∷ ts) = JumpingBy Continue ts
lead_at (Key NextWord ∷ ts) = JumpingBy Next ts
lead_at (Key NextFileWord ∷ ts) = JumpingBy NextFile ts
lead_at (Key ExitWord ∷ ts) = LeavingBy Exit ts
lead_at (Key ReturnWord ∷ ts) = LeavingBy Return ts
lead_at _ = Doing

abbrev pub one_by : Reader → StmtReader → List Token → Start → Read Stmt
one_by expr stmt ts (Braced us) = block_at stmt us
one_by expr stmt ts (Testing us) = if_at expr stmt us
one_by expr stmt ts (Looping w us) = loop_by expr stmt w us
one_by expr stmt ts (Bare us) = Ok (Empty, us)
one_by expr stmt ts (JumpingBy j us) = jump_at j us
one_by expr stmt ts (LeavingBy l us) = leave_at expr l us
one_by expr stmt ts Doing = simple_at expr ts

abbrev pub view_short : Short → List Token → Start
view_short shorts.Empty = Bare
view_short (shorts.Jump j) = JumpingBy (view_jump j)
view_short (shorts.Leave l) = LeavingBy (view_leaving l)

abbrev pub view_stmt_start : StmtStart → Start
view_stmt_start (statements.Block rest) = Braced (seen rest.now)
view_stmt_start (statements.If rest) = Testing (seen rest.now)
view_stmt_start (statements.Loop w rest) = Looping w (seen rest.now)
view_stmt_start (statements.Short s rest) = view_short s (seen rest.now)
view_stmt_start statements.Simple = Doing

-- ---- items

pub data Opening : Type 0 where
  Defining : List Token → Opening
  Acting : When → List Token → Opening
  Resting : List Token → Opening
  Ruling : Opening

abbrev pub opening_at : List Token → Opening
opening_at (Key FunctionWord ∷ ts) = Defining ts
opening_at (Key BeginWord ∷ ts) = Acting times.Begin ts
opening_at (Key EndWord ∷ ts) = Acting times.End ts
opening_at (OpenBrace ∷ ts) = Acting times.Always (OpenBrace ∷ ts)
opening_at (Semicolon ∷ ts) = Resting ts
opening_at _ = Ruling

abbrev pub acting : When → Stmts → Item
acting times.Begin ss = Begin ss
acting times.End ss = End ss
acting times.Always ss = Always ss

abbrev pub item_by : ℕ → List Token → Opening → Read Item
item_by d ts (Defining us) = function_at d us
item_by d ts (Acting w us) = body_at d us >>= λ x. Ok (acting w x.0, x.1)
item_by d ts (Resting us) = Ok (Nothing, us)
item_by d ts Ruling = rule_at d ts

abbrev pub view_item_start : ItemStart → Opening
view_item_start (items.Function rest) = Defining (spoken_after true (map spelled rest.now))
view_item_start (items.Action w rest) = Acting w (seen rest.now)
view_item_start (items.Nothing rest) = Resting (seen rest.now)
view_item_start items.Rule = Ruling
