-- The plain statements and items that those of the code stand for.
use Rattle.std.specs.Prelude.{ℕ, List, [], ◌∷◌, map, Option, Some, None}
use Rattle.std.specs.Global.{Vec}
use Rattle.awk_grammar.specs.Trees.{Tree, Printing, Print as Printed, Printf as Formatted, Args, NoArgs, Listed as ListArgs, Enclosed as EnclosedArgs, Target, NoTarget, Written, Appended, Plain, Eval as EvalPlain, Put, Delete as DeletePlain, Clear as ClearPlain, Jump as PlainJump, Break as BreakJump, Continue as ContinueJump, Next as NextJump, NextFile as NextFileJump, Leaving as PlainLeaving, Exit as ExitLeaving, Return as ReturnLeaving, Stmt as PlainStmt, Block, Empty as EmptyStmt, Simple as SimpleOne, If, IfElse, While, Do, For, ForIn, Jumping, Leave as LeaveStmt, Stmts, NoStmt, And, Pattern as PlainPattern, One as OnePattern, Between, Item as PlainItem, Function as FunctionItem, Begin as BeginItem, End as EndItem, Always, When, Lone, Nothing}
use Rattle.awk_grammar.specs.View.{view, views}
use Rattle.awk_grammar.specs.declared.tree.Expr.{Expr}
use Rattle.awk_grammar.specs.declared.tree.PrintWord.{PrintWord}
use Rattle.awk_grammar.specs.declared.tree.PrintWord.TheVariants.{Print, Printf}
use Rattle.awk_grammar.specs.declared.tree.PrintArgs.{PrintArgs}
use Rattle.awk_grammar.specs.declared.tree.PrintArgs.TheVariants.{Bare, Listed, Enclosed}
use Rattle.awk_grammar.specs.declared.tree.PrintTarget.{PrintTarget}
use Rattle.awk_grammar.specs.declared.tree.PrintTarget.TheVariants.{Output, File, FileEnd}
use Rattle.awk_grammar.specs.declared.tree.SimpleStmt.{SimpleStmt}
use Rattle.awk_grammar.specs.declared.tree.SimpleStmt.TheVariants.{Eval, Print as PrintStmt, Delete, Clear}
use Rattle.awk_grammar.specs.declared.tree.Jump.{Jump}
use Rattle.awk_grammar.specs.declared.tree.Jump.TheVariants.{Break, Continue, Next, NextFile}
use Rattle.awk_grammar.specs.declared.tree.Leaving.{Leaving}
use Rattle.awk_grammar.specs.declared.tree.Leaving.TheVariants.{Exit, Return}
use Rattle.awk_grammar.specs.declared.tree.Stmt.{Stmt, Row_of-Stmt, end_of-Stmt, more_of-Stmt}
use Rattle.awk_grammar.specs.declared.tree.Stmt.TheVariants.{Block', Empty, Simple, If', IfElse', While', Do', For', ForIn', Jump as JumpStmt, Leave}
use Rattle.awk_grammar.specs.declared.tree.Pattern.{Pattern}
use Rattle.awk_grammar.specs.declared.tree.Pattern.TheVariants.{One, Range}
use Rattle.awk_grammar.specs.declared.tree.Item.{Item}
use Rattle.awk_grammar.specs.declared.tree.Item.TheVariants.{Function, Begin, End, Action, Rule, PatternOnly, Empty as EmptyItem}
use Rattle.awk_grammar.specs.declared.tree.Script.{Script}

abbrev pub view_word : PrintWord → Printing
view_word Print = Printed
view_word Printf = Formatted

abbrev pub view_args : PrintArgs → Args
view_args Bare = NoArgs
view_args (Listed es) = ListArgs (views es.items)
view_args (Enclosed e es) = EnclosedArgs (view e) (views es.items)

abbrev pub view_target : PrintTarget → Target
view_target Output = NoTarget
view_target (File e) = Written (view e)
view_target (FileEnd e) = Appended (view e)

abbrev pub view_simple : SimpleStmt → Plain
view_simple (Eval e) = EvalPlain (view e)
view_simple (PrintStmt w a t) = Put (view_word w) (view_args a) (view_target t)
view_simple (Delete n es) = DeletePlain n.items (views es.items)
view_simple (Clear n) = ClearPlain n.items

abbrev pub view_maybe : Option Expr → Option Tree
view_maybe None = None
view_maybe (Some e) = Some (view e)

abbrev pub view_maybe_simple : Option SimpleStmt → Option Plain
view_maybe_simple None = None
view_maybe_simple (Some s) = Some (view_simple s)

abbrev pub view_jump : Jump → PlainJump
view_jump Break = BreakJump
view_jump Continue = ContinueJump
view_jump Next = NextJump
view_jump NextFile = NextFileJump

abbrev pub view_leaving : Leaving → PlainLeaving
view_leaving Exit = ExitLeaving
view_leaving Return = ReturnLeaving

abbrev mutual
  pub view_stmt : Stmt → PlainStmt
  view_stmt (Block' shape all) = Block (view_stmt_row all)
  view_stmt Empty = EmptyStmt
  view_stmt (Simple s) = SimpleOne (view_simple s)
  view_stmt (If' c p s) = If (view c) (view_stmt s)
  view_stmt (IfElse' c p s q t) = IfElse (view c) (view_stmt s) (view_stmt t)
  view_stmt (While' c p s) = While (view c) (view_stmt s)
  view_stmt (Do' p s c) = Do (view_stmt s) (view c)
  view_stmt (For' i c n p s) = For (view_maybe_simple i) (view_maybe c) (view_maybe_simple n) (view_stmt s)
  view_stmt (ForIn' k a p s) = ForIn k.items a.items (view_stmt s)
  view_stmt (JumpStmt j) = Jumping (view_jump j)
  view_stmt (Leave l e) = LeaveStmt (view_leaving l) (view_maybe e)

  pub view_stmt_row : {m : _} → Row_of-Stmt m → Stmts
  view_stmt_row end_of-Stmt = NoStmt
  view_stmt_row (more_of-Stmt s rest) = And (view_stmt s) (view_stmt_row rest)

abbrev pub view_stmts : List Stmt → Stmts
view_stmts [] = NoStmt
view_stmts (s ∷ ss) = And (view_stmt s) (view_stmts ss)

abbrev pub view_pattern : Pattern → PlainPattern
view_pattern (One e) = OnePattern (view e)
view_pattern (Range e f) = Between (view e) (view f)

abbrev pub view_names : List (Vec ℕ) → List (List ℕ)
view_names ns = map (λ n. n.items) ns

abbrev pub view_item : Item → PlainItem
view_item (Function n ps ss) = FunctionItem n.items (view_names ps.items) (view_stmts ss.items)
view_item (Begin ss) = BeginItem (view_stmts ss.items)
view_item (End ss) = EndItem (view_stmts ss.items)
view_item (Action ss) = Always (view_stmts ss.items)
view_item (Rule p ss) = When (view_pattern p) (view_stmts ss.items)
view_item (PatternOnly p) = Lone (view_pattern p)
view_item EmptyItem = Nothing

abbrev pub view_items : List Item → List PlainItem
view_items is = map view_item is

abbrev pub view_script : Script → List PlainItem
view_script s = view_items s.items.items
