-- The places of scripts, computed: how many tokens stand before each.
use Rattle.std.specs.Prelude.{◌≡◌, List, [], ◌∷◌, codes, Some, None, refl}
use Rattle.awk_grammar.specs.Trees as tree
use Rattle.awk_grammar.specs.Trees.{Tree, Stmt, Stmts, Block, Simple, Eval, If, While, Do, For, NoStmt, And, Item, One, Between, Function, Begin, End, When, Lone}
use Rattle.awk_tree.specs.Lines.{function_names, main_places, places_in}

-- x ;
abbrev name : Tree
name = tree.Var (codes "x")

abbrev plain : Stmt
plain = Simple (Eval name)

abbrev one : Stmt → Stmts
one s = And s NoStmt

-- BEGIN { x; while (x) { x; x } x }
--     0 1 2  4     5 7  8 9 11  14   (a `;` stands before each `}`)
pub loops : main_places (Begin (And plain (And (While name (Block (And plain (And plain NoStmt)))) (And plain NoStmt))) ∷ [])
    ≡ (1 ∷ (2 ∷ (4 ∷ (8 ∷ (9 ∷ (11 ∷ (14 ∷ [])))))))
loops = refl

-- BEGIN { for (x; x; x) x }
--     0 1   2 34  6  8  10
pub counted : main_places (Begin (one (For (Some (Eval name)) (Some name) (Some (Eval name)) plain)) ∷ []) ≡ (1 ∷ (2 ∷ (4 ∷ (6 ∷ (10 ∷ (8 ∷ []))))))
counted = refl

-- BEGIN { do x; while (x) }
--     0 1  2 3      5
pub at_least_once : main_places (Begin (one (Do plain name)) ∷ []) ≡ (1 ∷ (2 ∷ (3 ∷ (5 ∷ (5 ∷ [])))))
at_least_once = refl

-- BEGIN { if (x) x }   The second way of an `if` without `else` has a place too.
--     0 1  2     6
pub decided : main_places (Begin (one (If name plain)) ∷ []) ≡ (1 ∷ (2 ∷ (6 ∷ (2 ∷ []))))
decided = refl

-- function f() { x }  x, x { x }  x    END { x }
--        0 123 4 5 7  8 10 11 12  15 16 17 18 19
abbrev parts : List Item
parts = Function (codes "f") [] (one plain) ∷ (When (Between name name) (one plain) ∷ (Lone (One name) ∷ (End (one plain) ∷ [])))

pub of_main : places_in parts 1
    ≡ (8 ∷ (8 ∷ (8 ∷ (8 ∷ (8 ∷ (8 ∷ (10 ∷ (10 ∷ (10 ∷ (10 ∷ (10 ∷ (11 ∷ (12 ∷ (8 ∷ (15 ∷ (15 ∷ (15 ∷ (15 ∷ (18 ∷ (19 ∷ []))))))))))))))))))))
of_main = refl

pub of_function : places_in parts 0 ≡ 5 ∷ []
of_function = refl

pub named : function_names parts ≡ codes "f" ∷ []
named = refl
