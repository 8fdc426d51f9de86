-- Statements from after what was read of them.
use Rattle.std.specs.Prelude.{ℕ, true, List, Option, Some, None, Result, Ok, Err, if◌then◌else◌}
use Rattle.std.specs.declared.boxed.Box.{Box}
use Rattle.std.specs.declared.alloc.Global.{Global}
use Rattle.awk_grammar.specs.Token.{Token}
use Rattle.awk_grammar.specs.Reading.{Fault, Syntax, ◌>>=◌, Reader, close_at, list_at}
use Rattle.awk_grammar.specs.Tree.{Whole}
use Rattle.awk_grammar.specs.Trees.{Tree, Stmt, Empty, If, IfElse, While, Do, For, ForIn, Jumping, Leave, Plain, Args, Enclosed, Stmts, NoStmt, And}
use Rattle.awk_grammar.specs.ReadStmt.{Read, StmtReader, is_in, open_here, comma_here, while_at, condition_at, semicolon_at, maybe_at, maybe_plain_at, keys_at, loop_at, do_at, for_at}
use Rattle.awk_grammar.specs.ViewStmt.{view_stmt, view_maybe, view_maybe_simple, view_jump, view_leaving}
use Rattle.awk_grammar.specs.View.{view}
use Rattle.awk_grammar.specs.declared.tree.Stmt.{Stmt as ScriptStmt}
use Rattle.awk_parse.specs.Parsed.{At}
use Rattle.awk_parse.specs.declared.head.Head.{Head}
use Rattle.awk_parse.specs.declared.head.Lead.{Lead}
use Rattle.awk_parse.specs.declared.head.Lead.TheVariants as leads
use Rattle.awk_parse.specs.declared.statement_start.LoopWord.{LoopWord}
use Rattle.awk_parse.specs.declared.statement_start.LoopWord.TheVariants as loops
use Rattle.awk_parse.specs.declared.statement_start.Short.{Short}
use Rattle.awk_parse.specs.declared.statement_start.Short.TheVariants as shorts

-- a statement on the heap; any other where reading stopped
abbrev pub view_boxed : Option (Box ScriptStmt Global) → Stmt
view_boxed (Some b) = view_stmt b.value
view_boxed None = Empty

-- there is something, unless reading stopped
abbrev pub Held : {A : Type 0} → Option A → At → Type 0
Held None (Ok us) = ⊥
Held _ _ = Unit {0}

abbrev pub stmts_then : Stmts → Stmts → Stmts
stmts_then NoStmt us = us
stmts_then (And s ss) us = And s (stmts_then ss us)

abbrev pub no_in : List Token → Result (List Token) Fault
no_in ts = if is_in ts then Err Syntax else Ok ts

-- the list that `print` has in parentheses
abbrev pub enclosed_args_at : Reader → List Token → Read Args
enclosed_args_at expr ts = open_here ts >>= λ us. expr true Whole us >>= λ x. comma_here x.1 >>= λ vs. list_at expr true vs >>= λ y. close_at y.1
    >>= λ ws. no_in ws >>= λ zs. Ok (Enclosed x.0 y.0, zs)

-- statements and one more
abbrev pub with_one : StmtReader → Stmts → List Token → Read Stmts
with_one stmt front ts = stmt ts >>= λ x. Ok (stmts_then front (And x.0 NoStmt), x.1)

-- ---- statements that hold no other

abbrev pub ended_at : Stmt → List Token → Read Stmt
ended_at s ts = semicolon_at ts >>= λ us. Ok (s, us)

abbrev pub short_at : Reader → Short → List Token → Read Stmt
short_at expr shorts.Empty ts = Ok (Empty, ts)
short_at expr (shorts.Jump j) ts = semicolon_at ts >>= λ us. Ok (Jumping (view_jump j), us)
short_at expr (shorts.Leave l) ts = maybe_at expr ts >>= λ x. semicolon_at x.1 >>= λ us. Ok (Leave (view_leaving l) x.0, us)

-- ---- what stands before the statement within another

pub data Opened : Type 0 where
  Tested : Tree → Opened
  Chosen : Tree → Stmt → Opened
  Looped : Tree → Opened
  Repeated : Opened
  Keyed : List ℕ → List ℕ → Opened
  Counted : Option Plain → Option Tree → Option Plain → Opened

abbrev pub view_head : Head → Opened
view_head h = Counted (view_maybe_simple h.first) (view_maybe h.test) (view_maybe_simple h.step)

abbrev pub view_lead : Lead → Opened
view_lead (leads.If test) = Tested (view test)
view_lead (leads.Else test first) = Chosen (view test) (view_stmt first.value)
view_lead (leads.While test) = Looped (view test)
view_lead leads.Do = Repeated
view_lead (leads.Keys key array) = Keyed key.items array.items
view_lead (leads.Counted head) = view_head head.value

abbrev pub counted_at : Reader → List Token → Read Opened
counted_at expr ts = maybe_plain_at expr ts >>= λ i. semicolon_at i.1 >>= λ us. maybe_at expr us >>= λ c. semicolon_at c.1
    >>= λ vs. maybe_plain_at expr vs >>= λ p. close_at p.1 >>= λ ws. Ok (Counted i.0 c.0 p.0, ws)

abbrev pub keyed_by : Reader → List Token → Option (List ℕ × List ℕ × List Token) → Read Opened
keyed_by expr ts (Some o) = Ok (Keyed o.0 o.1, o.2)
keyed_by expr ts None = counted_at expr ts

abbrev pub keyed_at : Reader → List Token → Read Opened
keyed_at expr ts = keyed_by expr ts (keys_at ts)

abbrev pub lead_by : Reader → LoopWord → List Token → Read Opened
lead_by expr loops.While ts = condition_at expr ts >>= λ c. Ok (Looped c.0, c.1)
lead_by expr loops.Do ts = Ok (Repeated, ts)
lead_by expr loops.For ts = open_here ts >>= keyed_at expr

-- ---- the statement, from after the one within it

abbrev pub closed_at : Reader → Opened → Stmt → List Token → Read Stmt
closed_at expr (Tested t) s ts = Ok (If t s, ts)
closed_at expr (Chosen t f) s ts = Ok (IfElse t f s, ts)
closed_at expr (Looped t) s ts = Ok (While t s, ts)
closed_at expr Repeated s ts = while_at ts >>= λ us. condition_at expr us >>= λ c. Ok (Do s c.0, c.1)
closed_at expr (Keyed k a) s ts = Ok (ForIn k a s, ts)
closed_at expr (Counted i c p) s ts = Ok (For i c p s, ts)

abbrev pub looped_at : Reader → StmtReader → LoopWord → List Token → Read Stmt
looped_at expr stmt w ts = lead_by expr w ts >>= λ l. stmt l.1 >>= λ x. closed_at expr l.0 x.0 x.1

abbrev pub loop_by : Reader → StmtReader → LoopWord → List Token → Read Stmt
loop_by expr stmt loops.While = loop_at expr stmt
loop_by expr stmt loops.Do = do_at expr stmt
loop_by expr stmt loops.For = for_at expr stmt
