-- The lines of a script's places. A place is where a step of the module's code begins; a statement has one or more. A tree holds no lines. But its tokens are
-- the script's, so the line of a place is that of the token before which it stands.
use Rattle.std.specs.Prelude.{ℕ, zero, suc, Bool, true, false, List, [], ◌∷◌, ◌++◌, length, Option, Some, None, option_map, unwrap_or, replicate, slice_get, if◌then◌else◌}
use Rattle.awk_tokens.specs.Cutting.{Spelled}
use Rattle.awk_grammar.specs.Token.{BeginWord, EndWord, FunctionWord, IfWord, ElseWord, WhileWord, ForWord, DoWord, Token, Name, InWord, Open, Close, OpenBrace, CloseBrace, Comma, Semicolon, Key}
use Rattle.awk_grammar.specs.Tree.{print}
use Rattle.awk_grammar.specs.Trees.{Tree, Plain, NextFile, Stmt, Block, Empty, Simple, If, IfElse, While, Do, For, ForIn, Jumping, Leave, Stmts, NoStmt, And, One, Between, Pattern, Item, Function, Begin, End, Always, When, Lone, Nothing}
use Rattle.awk_grammar.specs.Stmt.{print_maybe, print_maybe_plain, print_stmt, print_stmts}
use Rattle.awk_grammar.specs.Item.{print_body, print_params, print_pattern, print_item}

-- Statements. The first argument is the tokens before; a place is their number.

abbrev pub condition : Token → Tree → List Token
condition word c = word ∷ (Open ∷ (print c ++ Close ∷ []))

abbrev pub walk_head : List ℕ → List ℕ → List Token
walk_head k a = Key ForWord ∷ (Open ∷ (Name k ∷ (InWord ∷ (Name a ∷ (Close ∷ [])))))

-- the third part of a `for`, if there is anything
abbrev pub last_of : ℕ → Option Plain → List ℕ
last_of n None = []
last_of n (Some p) = n ∷ []

abbrev pub last_places : List Token → Option Plain → List ℕ
last_places before p = last_of (length before) p

-- in a `for`: before its first part, its test, its third part and its body
abbrev pub to_first : List Token → List Token
to_first before = (before ++ Key ForWord ∷ []) ++ Open ∷ []

abbrev pub to_test : List Token → Option Plain → List Token
to_test before i = (to_first before ++ print_maybe_plain i) ++ Semicolon ∷ []

abbrev pub to_last : List Token → Option Plain → Option Tree → List Token
to_last before i c = (to_test before i ++ print_maybe c) ++ Semicolon ∷ []

abbrev pub to_body : List Token → Option Plain → Option Tree → Option Plain → List Token
to_body before i c p = (to_last before i c ++ print_maybe_plain p) ++ Close ∷ []

abbrev mutual
  pub stmt_places : List Token → Stmt → List ℕ
  stmt_places before (Block ss) = length before ∷ stmts_places (before ++ OpenBrace ∷ []) ss
  stmt_places before Empty = length before ∷ []
  stmt_places before (Simple p) = length before ∷ []
  stmt_places before (If c s) = length before ∷ (stmt_places (before ++ condition (Key IfWord) c) s ++ length before ∷ [])
  stmt_places before (IfElse c s t) =
      length before ∷ (stmt_places (before ++ condition (Key IfWord) c) s
      ++ stmt_places (((before ++ condition (Key IfWord) c) ++ print_stmt s) ++ Key ElseWord ∷ []) t)
  stmt_places before (While c s) = length before ∷ stmt_places (before ++ condition (Key WhileWord) c) s
  stmt_places before (Do s c) =
      let test = length ((before ++ Key DoWord ∷ []) ++ print_stmt s) in
      length before ∷ (stmt_places (before ++ Key DoWord ∷ []) s ++ (test ∷ (test ∷ [])))
  stmt_places before (For i c p s) =
      length before ∷ (length (to_first before) ∷ (length (to_test before i) ∷ (stmt_places (to_body before i c p) s ++ last_places (to_last before i c) p)))
  stmt_places before (ForIn k a s) = length before ∷ stmt_places (before ++ walk_head k a) s
  stmt_places before (Jumping NextFile) = length before ∷ (length before ∷ (length before ∷ []))
  stmt_places before (Jumping j) = length before ∷ []
  stmt_places before (Leave l e) = length before ∷ []

  pub stmts_places : List Token → Stmts → List ℕ
  stmts_places before NoStmt = []
  stmts_places before (And s ss) = stmt_places before s ++ stmts_places (before ++ print_stmt s) ss

-- Items. An action is a block of statements.

abbrev pub action_places : List Token → Stmts → List ℕ
action_places before ss = length before ∷ stmts_places (before ++ OpenBrace ∷ []) ss

-- Where there is no action the record is printed: at the pattern.
abbrev pub printed_places : List Token → List ℕ
printed_places before = length before ∷ (length before ∷ [])

-- A range is asked whether it is open, and by its first pattern whether it opens; then whether it is open now, and by its second whether it closes.
abbrev pub asked_places : List Token → Pattern → List ℕ
asked_places before (One t) = length before ∷ []
asked_places before (Between t u) = replicate 6 (length before) ++ replicate 5 (length ((before ++ print t) ++ Comma ∷ []))

-- a pattern, what is done where it is met, and that it is not met
abbrev pub pattern_places : List Token → Pattern → List ℕ → List ℕ
pattern_places before p met = asked_places before p ++ (met ++ length before ∷ [])

abbrev pub function_head : List ℕ → List (List ℕ) → List Token
function_head n ps = Key FunctionWord ∷ (Name n ∷ (Open ∷ (print_params ps ++ (Close ∷ (OpenBrace ∷ [])))))

abbrev pub item_places : List Token → Item → List ℕ
item_places before (Function n ps ss) = stmts_places (before ++ function_head n ps) ss
item_places before (Begin ss) = action_places (before ++ Key BeginWord ∷ []) ss
item_places before (End ss) = action_places (before ++ Key EndWord ∷ []) ss
item_places before (Always ss) = action_places before ss
item_places before (When p ss) = pattern_places before p (action_places (before ++ print_pattern p) ss)
item_places before (Lone p) = pattern_places before p (printed_places before)
item_places before Nothing = []

-- Which items `main` has in each of its three parts.

abbrev pub is_begin : Item → Bool
is_begin (Begin ss) = true
is_begin _ = false

abbrev pub is_for_records : Item → Bool
is_for_records (Always ss) = true
is_for_records (When p ss) = true
is_for_records (Lone p) = true
is_for_records _ = false

abbrev pub is_end : Item → Bool
is_end (End ss) = true
is_end _ = false

abbrev pub places_where : (Item → Bool) → List Token → List Item → List ℕ
places_where is before [] = []
places_where is before (item ∷ items) = (if is item then item_places before item else []) ++ places_where is (before ++ print_item item) items

-- the places of `main`: of BEGIN, of the actions for a record, and of END, one after another
abbrev pub main_places : List Item → List ℕ
main_places items = places_where is_begin [] items ++ (places_where is_for_records [] items ++ places_where is_end [] items)

-- those of the functions, in order
abbrev pub functions_places : List Token → List Item → List (List ℕ)
functions_places before [] = []
functions_places before (Function n ps ss ∷ items) =
    item_places before (Function n ps ss) ∷ functions_places (before ++ print_item (Function n ps ss)) items
functions_places before (item ∷ items) = functions_places (before ++ print_item item) items

abbrev pub function_names : List Item → List (List ℕ)
function_names [] = []
function_names (Function n ps ss ∷ items) = n ∷ function_names items
function_names (item ∷ items) = function_names items

-- of a function of the module, by its number; `main` comes after the script's
abbrev pub places_in : List Item → ℕ → List ℕ
places_in items function = unwrap_or (slice_get (functions_places [] items) function) (main_places items)

-- THE LINE OF A PLACE: of the token before which it stands

abbrev pub line_at : List Spelled → Option ℕ → Option ℕ
line_at tokens None = None
line_at tokens (Some n) = option_map (λ t. t.line) (slice_get tokens n)

-- of a place in a function of the module, by the place's number among those of the function
abbrev pub line_of : List Spelled → List Item → (function place : ℕ) → Option ℕ
line_of tokens items function place = line_at tokens (slice_get (places_in items function) place)
