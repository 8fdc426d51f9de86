-- A script that the parser gives has its jumps in their places.
use Rattle.std.specs.List.{list_all}
use Rattle.std.proofs.Common.{◌≡◌, ℕ, Bool, true, false, ◌&&◌, None, List, [], ◌∷◌, length, arith, refl, sym, ◌∙◌, true≢false}
use Rattle.std.proofs.lemmas.Bool.{and_parts}
use Rattle.awk_tokens.specs.Cutting.{Spelled}
use Rattle.awk_grammar.specs.Trees.{Break, Continue, Next, NextFile, Exit, Return, Stmt, Block, Empty, Simple, If, IfElse, While, Do, For, ForIn, Jumping, Leave, Stmts, NoStmt, And, Item, Function, Begin, End, Always, When, Lone, Nothing}
use Rattle.awk_parse.specs.Jumps.{is_function, jumps, all_jumps, item_jumps, script_jumps, jump_lines, first_misplaced}
use Rattle.awk_parse.specs.Parsing.{IsParsed}
use Rattle.awk_parse.proofs.JumpWords.{as_many}
use Rattle.script_code.specs.Fits.{is_placed, are_placed}
use Rattle.script_code.specs.Placed.{item_placed, ArePlaced}
use Rattle.script_code.proofs.Sound.{parts}

abbrev itself : Bool → Bool
itself b = b

-- where no word of a jump is out of place, and each jump has its word, each jump is in its place
all_fit : (fits : List Bool) (lines : List ℕ) → length lines ≡ length fits → first_misplaced fits lines ≡ None → list_all itself fits ≡ true
all_fit [] lines n e = refl
all_fit (fits ∷ rest) [] n e = absurd (omega (arith, n))
all_fit (true ∷ rest) (line ∷ lines) n e = all_fit rest lines (omega (arith, n)) e
all_fit (false ∷ rest) (line ∷ lines) n e = absurd cc

and_both : (a b : Bool) → a ≡ true → b ≡ true → (a && b) ≡ true
and_both true b e f = f
and_both false b e f = absurd (true≢false (sym e))

mutual
  stmt_placed : (p : _) (looped : Bool) (s : Stmt) → list_all itself (jumps p looped s) ≡ true → is_placed (is_function p) looped s ≡ true
  stmt_placed p l (Block ss) h = stmts_placed p l ss h
  stmt_placed p l Empty h = refl
  stmt_placed p l (Simple s) h = refl
  stmt_placed p l (If c s) h = stmt_placed p l s h
  stmt_placed p l (IfElse c s t) h =
      let q = parts itself (jumps p l s) (jumps p l t) h in
      and_both (is_placed (is_function p) l s) (is_placed (is_function p) l t) (stmt_placed p l s q.0) (stmt_placed p l t q.1)
  stmt_placed p l (While c s) h = stmt_placed p true s h
  stmt_placed p l (Do s c) h = stmt_placed p true s h
  stmt_placed p l (For i c n s) h = stmt_placed p true s h
  stmt_placed p l (ForIn k a s) h = stmt_placed p true s h
  stmt_placed p l (Jumping Break) h = (and_parts l true h).0
  stmt_placed p l (Jumping Continue) h = (and_parts l true h).0
  stmt_placed p l (Jumping Next) h = refl
  stmt_placed p l (Jumping NextFile) h = refl
  stmt_placed p l (Leave Exit e) h = refl
  stmt_placed p l (Leave Return e) h = (and_parts (is_function p) true h).0

  stmts_placed : (p : _) (looped : Bool) (ss : Stmts) → list_all itself (all_jumps p looped ss) ≡ true → are_placed (is_function p) looped ss ≡ true
  stmts_placed p l NoStmt h = refl
  stmts_placed p l (And s ss) h =
      let q = parts itself (jumps p l s) (all_jumps p l ss) h in
      and_both (is_placed (is_function p) l s) (are_placed (is_function p) l ss) (stmt_placed p l s q.0) (stmts_placed p l ss q.1)

placed_item : (i : Item) → list_all itself (item_jumps i) ≡ true → item_placed i ≡ true
placed_item (Function f xs ss) h = stmts_placed _ false ss h
placed_item (Begin ss) h = stmts_placed _ false ss h
placed_item (End ss) h = stmts_placed _ false ss h
placed_item (Always ss) h = stmts_placed _ false ss h
placed_item (When p ss) h = stmts_placed _ false ss h
placed_item (Lone p) h = refl
placed_item Nothing h = refl

items_placed : (is : List Item) → list_all itself (script_jumps is) ≡ true → ArePlaced is
items_placed [] h = refl
items_placed (i ∷ is) h =
    let q = parts itself (item_jumps i) (script_jumps is) h in
    and_both (item_placed i) (list_all item_placed is) (placed_item i q.0) (items_placed is q.1)

pub parsed_placed : (tokens : List Spelled) (items : List Item) → IsParsed tokens items → ArePlaced items
parsed_placed tokens items q = items_placed items (all_fit (script_jumps items) (jump_lines tokens) (as_many tokens items q.read.tree) q.placed)
