-- Where the text of a spot stands in the script. A tree holds no lines, but its tokens are the script's, and a path says what comes after the spot. So it says
-- which tokens there are from the spot on, up to the script's end; those before them are the rest of the script's.
use Rattle.std.specs.Prelude.{◌≡◌, ℕ, suc, ◌-◌, Bool, true, false, if◌then◌else◌, List, [], ◌∷◌, ◌++◌, length, Option, Some, slice_get, unwrap_or}
use Rattle.awk_tokens.specs.Cutting.{Spelled}
use Rattle.awk_grammar.specs.Token.{ElseWord, WhileWord, Token, Open, Close, CloseBrace, Semicolon, Key}
use Rattle.awk_grammar.specs.Tree.{print}
use Rattle.awk_grammar.specs.Trees.{Tree, Stmt, IfElse, Do, For, Stmts, Between as Range, Pattern, Item, Function, Lone}
use Rattle.awk_grammar.specs.Stmt.{print_maybe, print_maybe_plain, print_stmt, print_stmts}
use Rattle.awk_grammar.specs.Item.{print_body, print_pattern, print_script}
use Rattle.agreement.specs.Spots.Spots.{Frame, Before, Within, AfterElse, Home, OfBegin, OfEnd, OfRecord, OfFunction, Part, First, Looping, Between, Testing, PatternPart, Inside, Entered, LastTest, Closes, StaysOpen, StatementPath, Of, OfPattern}

-- the test of a `do`
abbrev pub while_test : Tree → List Token
while_test c = Key WhileWord ∷ (Open ∷ (print c ++ Close ∷ []))

-- what comes after a statement that stands in this, up to the end of it: a list of statements ends in a brace
abbrev pub frame_rest : Frame → List Token
frame_rest (Before ss) = print_stmts ss ++ CloseBrace ∷ []
frame_rest (Within (IfElse c s t)) = Key ElseWord ∷ print_stmt t
frame_rest (Within (Do s c)) = while_test c
frame_rest (Within s) = []
frame_rest (AfterElse s) = []

abbrev pub frames_rest : List Frame → List Token
frames_rest [] = []
frames_rest (frame ∷ w) = frame_rest frame ++ frames_rest w

-- a part of a statement, and what comes after it in the statement
abbrev pub part_text : Stmt → Part → List Token
part_text (For i c p s) First =
    print_maybe_plain i ++ (Semicolon ∷ (print_maybe c ++ (Semicolon ∷ (print_maybe_plain p ++ (Close ∷ print_stmt s)))))
part_text (For i c p s) Looping = print_maybe c ++ (Semicolon ∷ (print_maybe_plain p ++ (Close ∷ print_stmt s)))
part_text (For i c p s) Between = print_maybe_plain p ++ (Close ∷ print_stmt s)
part_text (Do s c) Between = while_test c
part_text (Do s c) Testing = while_test c
part_text s part = print_stmt s

-- in a range, what asks whether it is open now, and whether it closes, stands at its second pattern
abbrev pub pattern_text : Pattern → PatternPart → List Token
pattern_text (Range t u) Inside = print u
pattern_text (Range t u) Entered = print u
pattern_text (Range t u) LastTest = print u
pattern_text (Range t u) Closes = print u
pattern_text (Range t u) StaysOpen = print u
pattern_text p part = print_pattern p

-- The items that come after an action or a function.

-- after each function
abbrev pub after_functions : List Item → List (List Item)
after_functions [] = []
after_functions (Function n ps ss ∷ items) = items ∷ after_functions items
after_functions (_ ∷ items) = after_functions items

abbrev pub items_after : List Item → Home → List Item
items_after script (OfBegin items) = items
items_after script (OfEnd items) = items
items_after script (OfRecord i p ss items) = items
items_after script (OfFunction f) = unwrap_or (slice_get (after_functions script) f) []

abbrev pub home_rest : List Item → Home → List Token
home_rest script home = print_script (items_after script home)

-- Whether a pattern stands alone. The record is printed then, which has no text: its spots stand at the pattern.

abbrev pub is_lone : Option Item → Bool
is_lone (Some (Lone p)) = true
is_lone item = false

-- the item that these come after
abbrev pub item_before : List Item → List Item → Option Item
item_before script items = slice_get script (length script - suc (length items))

abbrev pub stands_alone : List Item → List Item → Bool
stands_alone script items = is_lone (item_before script items)

-- what comes after a pattern in its item
abbrev pub action_text : (alone : Bool) → Stmts → List Token
action_text true ss = Semicolon ∷ []
action_text false ss = print_body ss

-- the text from a statement's part on, up to the end of its item
abbrev pub statement_text : List Item → Home → Stmt → Part → List Frame → List Token
statement_text script (OfRecord i (Some p) ss items) s part w =
    if stands_alone script items then print_pattern p ++ action_text true ss else part_text s part ++ frames_rest w
statement_text script home s part w = part_text s part ++ frames_rest w

-- THE TEXT FROM A SPOT ON
abbrev pub spot_text : List Item → Home → StatementPath → List Token
spot_text script home (Of s part w) = statement_text script home s part w ++ home_rest script home
spot_text script (OfRecord i (Some p) ss items) (OfPattern part) =
    (pattern_text p part ++ action_text (stands_alone script items) ss) ++ print_script items
spot_text script home (OfPattern part) = home_rest script home

-- THE LINE OF A SPOT: that of the token with which its text begins
pub record IsLineOfSpot (tokens : List Spelled) (script : List Item) (home : Home) (spot : StatementPath) (line : ℕ) : Type 0 where
  pub before : List Token
  pub text : print_script script ≡ before ++ spot_text script home spot
  pub token : Spelled
  pub begins : slice_get tokens (length before) ≡ Some token
  pub is_line : line ≡ token.line
