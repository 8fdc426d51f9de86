-- The spots of a script in the order in which its module's code has their places: function by function, `main` last. A statement comes before what stands in
-- it, and an `if` without `else` ends with its second way. In a `for` the third part comes after the body, and so does the test of a `do`.
use Rattle.std.specs.Prelude.{ℕ, zero, suc, ◌+◌, List, [], ◌∷◌, ◌++◌, map, Option, Some, None, slice_get, unwrap_or}
use Rattle.awk_grammar.specs.Trees.{One, Between as Range, Pattern, Item, Function, Begin, End, Always, When, Lone, Plain, NextFile, Stmt, Block, Empty, Simple, If, IfElse, While, Do, For, ForIn, Jumping, Leave, Stmts, NoStmt, And}
use Rattle.sem_scripts.specs.Items.{print_record, pattern_ranges}
use Rattle.agreement.specs.Spots.Spots.{Frame, Before, Within, AfterElse, Home, OfBegin, OfEnd, OfRecord, OfFunction, Whole, First, Looping, Between, Testing, Unless, GivesUp, Leaves, Asked, Unmet, Opening, Already, FirstTest, Opens, StaysClosed, Inside, Entered, LastTest, Closes, StaysOpen, StatementPath, Of, OfPattern}

-- the third part of a `for`, if there is anything
abbrev pub last_spots : Stmt → Option Plain → List Frame → List StatementPath
last_spots s None w = []
last_spots s (Some p) w = Of s Between w ∷ []

abbrev mutual
  pub stmt_spots : Stmt → List Frame → List StatementPath
  stmt_spots (Block ss) w = Of (Block ss) Whole w ∷ stmts_spots ss w
  stmt_spots Empty w = Of Empty Whole w ∷ []
  stmt_spots (Simple p) w = Of (Simple p) Whole w ∷ []
  stmt_spots (If c s) w = Of (If c s) Whole w ∷ (stmt_spots s (Within (If c s) ∷ w) ++ Of (If c s) Unless w ∷ [])
  stmt_spots (IfElse c s t) w =
      Of (IfElse c s t) Whole w ∷ (stmt_spots s (Within (IfElse c s t) ∷ w) ++ stmt_spots t (AfterElse (IfElse c s t) ∷ w))
  stmt_spots (While c s) w = Of (While c s) Whole w ∷ stmt_spots s (Within (While c s) ∷ w)
  stmt_spots (Do s c) w = Of (Do s c) Whole w ∷ (stmt_spots s (Within (Do s c) ∷ w) ++ (Of (Do s c) Between w ∷ (Of (Do s c) Testing w ∷ [])))
  stmt_spots (For i c p s) w =
      Of (For i c p s) Whole w
      ∷ (Of (For i c p s) First w ∷ (Of (For i c p s) Looping w ∷ (stmt_spots s (Within (For i c p s) ∷ w) ++ last_spots (For i c p s) p w)))
  stmt_spots (ForIn k a s) w = Of (ForIn k a s) Whole w ∷ stmt_spots s (Within (ForIn k a s) ∷ w)
  stmt_spots (Jumping NextFile) w =
      Of (Jumping NextFile) Whole w ∷ (Of (Jumping NextFile) GivesUp w ∷ (Of (Jumping NextFile) Leaves w ∷ []))
  stmt_spots (Jumping j) w = Of (Jumping j) Whole w ∷ []
  stmt_spots (Leave l t) w = Of (Leave l t) Whole w ∷ []

  pub stmts_spots : Stmts → List Frame → List StatementPath
  stmts_spots NoStmt w = []
  stmts_spots (And s ss) w = stmt_spots s (Before ss ∷ w) ++ stmts_spots ss w

-- an action where its pattern is met, if it has one
abbrev pub pattern_spots : Option Pattern → List StatementPath → List StatementPath
pattern_spots None met = met
pattern_spots (Some (One t)) met = OfPattern Asked ∷ (met ++ OfPattern Unmet ∷ [])
pattern_spots (Some (Range t u)) met =
    OfPattern Asked ∷ (OfPattern Opening ∷ (OfPattern Already ∷ (OfPattern FirstTest ∷ (OfPattern Opens ∷ (OfPattern StaysClosed
    ∷ (OfPattern Inside ∷ (OfPattern Entered ∷ (OfPattern LastTest ∷ (OfPattern Closes ∷ (OfPattern StaysOpen
    ∷ (met ++ OfPattern Unmet ∷ [])))))))))))

-- a spot: an action or a function, and a path in it
abbrev pub Spot : Type 0
Spot = Home × StatementPath

abbrev pub at_home : Home → List StatementPath → List Spot
at_home home spots = map (λ spot. (home, spot)) spots

abbrev pub action_spots : Home → Option Pattern → Stmts → List Spot
action_spots home p ss = at_home home (pattern_spots p (stmt_spots (Block ss) []))

abbrev pub begin_spots : List Item → List Spot
begin_spots [] = []
begin_spots (Begin ss ∷ items) = action_spots (OfBegin items) None ss ++ begin_spots items
begin_spots (_ ∷ items) = begin_spots items

abbrev pub end_spots : List Item → List Spot
end_spots [] = []
end_spots (End ss ∷ items) = action_spots (OfEnd items) None ss ++ end_spots items
end_spots (_ ∷ items) = end_spots items

-- where the first range among the items is the i-th
abbrev pub record_spots : ℕ → List Item → List Spot
record_spots i [] = []
record_spots i (Always ss ∷ items) = action_spots (OfRecord i None ss items) None ss ++ record_spots i items
record_spots i (When p ss ∷ items) = action_spots (OfRecord i (Some p) ss items) (Some p) ss ++ record_spots (pattern_ranges p + i) items
record_spots i (Lone p ∷ items) =
    action_spots (OfRecord i (Some p) print_record items) (Some p) print_record ++ record_spots (pattern_ranges p + i) items
record_spots i (_ ∷ items) = record_spots i items

abbrev pub main_spots : List Item → List Spot
main_spots items = begin_spots items ++ (record_spots zero items ++ end_spots items)

abbrev pub function_spots : ℕ → Stmts → List Spot
function_spots f body = at_home (OfFunction f) (stmts_spots body [])

-- where the first function among the items is the f-th
abbrev pub functions_spots : ℕ → List Item → List (List Spot)
functions_spots f [] = []
functions_spots f (Function n ps ss ∷ items) = function_spots f ss ∷ functions_spots (suc f) items
functions_spots f (_ ∷ items) = functions_spots f items

-- THE SPOTS of a function of the script's module, by its number; `main` comes after the script's
abbrev pub spots_in : List Item → ℕ → List Spot
spots_in items function = unwrap_or (slice_get (functions_spots zero items) function) (main_spots items)
