-- Where `next`, `nextfile`, `break`, `continue` and `return` may stand.
use Rattle.std.specs.Prelude.{ℕ, Bool, true, false, not, Option, Some, None, List, [], ◌∷◌, ◌++◌}
use Rattle.awk_tokens.specs.Cutting.{Spelled}
use Rattle.awk_tokens.specs.declared.reserved_words.Keyword.TheVariants.{Break as BreakWord, Continue as ContinueWord, Next as NextWord, NextFile as NextFileWord, Return as ReturnWord}
use Rattle.awk_tokens.specs.declared.token.TokenKind.{TokenKind}
use Rattle.awk_tokens.specs.declared.token.TokenKind.TheVariants.{Keyword}
use Rattle.awk_grammar.specs.Trees.{Jump, Break, Continue, Next, NextFile, Leaving, Exit, Return, Stmt, Block, If, IfElse, While, Do, For, ForIn, Jumping, Leave, Stmts, NoStmt, And, Item, Function, Begin, End, Always, When}
use Rattle.awk_parse.specs.declared.placed.Place.{Place}
use Rattle.awk_parse.specs.declared.placed.Place.TheVariants.{InFunction, InBeginOrEnd, InRule}

abbrev pub is_function : Place → Bool
is_function InFunction = true
is_function _ = false

abbrev pub is_begin_or_end : Place → Bool
is_begin_or_end InBeginOrEnd = true
is_begin_or_end _ = false

-- whether a jump may stand there; looped: within a loop
abbrev pub jump_fits : Place → Bool → Jump → Bool
jump_fits place looped Break = looped
jump_fits place looped Continue = looped
jump_fits place looped Next = not (is_begin_or_end place)
jump_fits place looped NextFile = not (is_begin_or_end place)

abbrev pub leave_fits : Place → Leaving → List Bool
leave_fits place Exit = []
leave_fits place Return = is_function place ∷ []

-- of each `next`, `nextfile`, `break`, `continue` and `return`, in the order of the script, whether it may stand where it does
abbrev mutual
  pub jumps : Place → Bool → Stmt → List Bool
  jumps place looped (Block ss) = all_jumps place looped ss
  jumps place looped (If c s) = jumps place looped s
  jumps place looped (IfElse c s t) = jumps place looped s ++ jumps place looped t
  jumps place looped (While c s) = jumps place true s
  jumps place looped (Do s c) = jumps place true s
  jumps place looped (For i c n s) = jumps place true s
  jumps place looped (ForIn k a s) = jumps place true s
  jumps place looped (Jumping j) = jump_fits place looped j ∷ []
  jumps place looped (Leave l e) = leave_fits place l
  jumps place looped _ = []

  pub all_jumps : Place → Bool → Stmts → List Bool
  all_jumps place looped NoStmt = []
  all_jumps place looped (And s ss) = jumps place looped s ++ all_jumps place looped ss

abbrev pub item_jumps : Item → List Bool
item_jumps (Function n ps ss) = all_jumps InFunction false ss
item_jumps (Begin ss) = all_jumps InBeginOrEnd false ss
item_jumps (End ss) = all_jumps InBeginOrEnd false ss
item_jumps (Always ss) = all_jumps InRule false ss
item_jumps (When p ss) = all_jumps InRule false ss
item_jumps _ = []

abbrev pub script_jumps : List Item → List Bool
script_jumps [] = []
script_jumps (i ∷ is) = item_jumps i ++ script_jumps is

abbrev pub is_jump : TokenKind → Bool
is_jump (Keyword BreakWord) = true
is_jump (Keyword ContinueWord) = true
is_jump (Keyword NextWord) = true
is_jump (Keyword NextFileWord) = true
is_jump (Keyword ReturnWord) = true
is_jump _ = false

abbrev pub line_if : Bool → ℕ → List ℕ → List ℕ
line_if true line lines = line ∷ lines
line_if false line lines = lines

-- the lines of those words
abbrev pub jump_lines : List Spelled → List ℕ
jump_lines [] = []
jump_lines (t ∷ ts) = line_if (is_jump t.kind) t.line (jump_lines ts)

-- the line of the first that is not in its place
abbrev pub first_misplaced : List Bool → List ℕ → Option ℕ
first_misplaced [] lines = None
first_misplaced (fits ∷ rest) [] = None
first_misplaced (true ∷ rest) (line ∷ lines) = first_misplaced rest lines
first_misplaced (false ∷ rest) (line ∷ lines) = Some line
