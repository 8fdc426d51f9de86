-- The spots of scripts, computed in their order: how many tokens there are before the text of each.
use Rattle.std.specs.Prelude.{◌≡◌, ℕ, ◌-◌, List, [], ◌∷◌, codes, length, map, Some, None, refl}
use Rattle.awk_tokens.specs.Cutting.{Spelled}
use Rattle.awk_tokens.specs.declared.token.Punctuator.TheVariants as marks
use Rattle.awk_tokens.specs.declared.token.TokenKind.TheVariants.{Name, Punctuator}
use Rattle.awk_grammar.specs.Token.{OpenBrace}
use Rattle.awk_grammar.specs.Trees as tree
use Rattle.awk_grammar.specs.Trees.{Tree, Stmt, Stmts, Block, Simple, Eval, If, IfElse, While, Do, For, Leave, Return, NoStmt, And, Item, One, Between, Function, Always, Begin, End, When, Lone}
use Rattle.awk_grammar.specs.Item.{print_script}
use Rattle.agreement.specs.Spots.InOrder.{spots_in}
use Rattle.agreement.specs.Spots.Spots.{Before, OfRecord, Whole, Of}
use Rattle.agreement.specs.Spots.SpotTexts.{IsLineOfSpot, spot_text}

abbrev tokens_before : List Item → ℕ → List ℕ
tokens_before script function = map (λ spot. length (print_script script) - length (spot_text script spot.0 spot.1)) (spots_in script function)

-- x ;
abbrev name : Tree
name = tree.Var (codes "x")

abbrev plain : Stmt
plain = Simple (Eval name)

abbrev one : Stmt → Stmts
one s = And s NoStmt

-- BEGIN { x; while (x) { x; x } x }
--     0 1 2  4     5 7  8 9 11  14   (a `;` stands before each `}`)
pub loops : tokens_before (Begin (And plain (And (While name (Block (And plain (And plain NoStmt)))) (And plain NoStmt))) ∷ []) 0
    ≡ (1 ∷ (2 ∷ (4 ∷ (8 ∷ (9 ∷ (11 ∷ (14 ∷ [])))))))
loops = refl

-- BEGIN { for (x; x; x) x }   The third part comes after the body.
--     0 1   2 34  6  8  10
pub counted : tokens_before (Begin (one (For (Some (Eval name)) (Some name) (Some (Eval name)) plain)) ∷ []) 0 ≡ (1 ∷ (2 ∷ (4 ∷ (6 ∷ (10 ∷ (8 ∷ []))))))
counted = refl

-- BEGIN { for (;;) x }
--     0 1   2 3456 7
pub endless : tokens_before (Begin (one (For None None None plain)) ∷ []) 0 ≡ (1 ∷ (2 ∷ (4 ∷ (5 ∷ (7 ∷ [])))))
endless = refl

-- BEGIN { do x; while (x) }   The step between and the test are both at `while`.
--     0 1  2 3      5
pub at_least_once : tokens_before (Begin (one (Do plain name)) ∷ []) 0 ≡ (1 ∷ (2 ∷ (3 ∷ (5 ∷ (5 ∷ [])))))
at_least_once = refl

-- BEGIN { if (x) if (x) x; else x; else x }   An `if` without `else` has a second way too, at the `if`.
--     0 1  2 34   6     10   12 13   15 16
pub decided : tokens_before (Begin (one (IfElse name (IfElse name plain plain) plain)) ∷ []) 0 ≡ (1 ∷ (2 ∷ (6 ∷ (10 ∷ (13 ∷ (16 ∷ []))))))
decided = refl

pub undecided : tokens_before (Begin (one (If name plain)) ∷ []) 0 ≡ (1 ∷ (2 ∷ (6 ∷ (2 ∷ []))))
undecided = refl

-- function f() { x }  x, x { x }  x    END { x }  x, x
--        0 123 4 5 7  8 10 11 12  15 16 17 18 19  22 24
abbrev parts : List Item
parts =
    Function (codes "f") [] (one plain) ∷ (When (Between name name) (one plain) ∷ (Lone (One name) ∷ (End (one plain) ∷ (Lone (Between name name) ∷ []))))

pub of_main : tokens_before parts 1
    ≡ (8 ∷ (8 ∷ (8 ∷ (8 ∷ (8 ∷ (8 ∷ (10 ∷ (10 ∷ (10 ∷ (10 ∷ (10 ∷ (11 ∷ (12 ∷ (8 ∷ (15 ∷ (15 ∷ (15 ∷ (15
    ∷ (22 ∷ (22 ∷ (22 ∷ (22 ∷ (22 ∷ (22 ∷ (24 ∷ (24 ∷ (24 ∷ (24 ∷ (24 ∷ (22 ∷ (22 ∷ (22 ∷ (18 ∷ (19 ∷ []))))))))))))))))))))))))))))))))))
of_main = refl

pub of_function : tokens_before parts 0 ≡ 5 ∷ []
of_function = refl

-- function f(x) { if (x) x; else x; return x; }  { x }  function g(x) { x }
--        0 1234 5  6     10   12 13     15       19 20         23 ..   29
abbrev calls : List Item
calls =
    Function (codes "f") (codes "x" ∷ []) (And (IfElse name plain plain) (And (Leave Return (Some name)) NoStmt))
    ∷ (Always (one plain) ∷ (Function (codes "g") (codes "x" ∷ []) (one plain) ∷ []))

pub of_first : tokens_before calls 0 ≡ (6 ∷ (10 ∷ (13 ∷ (15 ∷ []))))
of_first = refl

pub of_second : tokens_before calls 1 ≡ 29 ∷ []
of_second = refl

pub of_rest : tokens_before calls 2 ≡ (19 ∷ (20 ∷ []))
of_rest = refl

-- `{`, a line end, and `x }`: the statement is on the second line
abbrev written : List Spelled
written =
    record { kind = Punctuator marks.OpenBrace; text = codes "{"; line = 1 }
    ∷ (record { kind = Name; text = codes "x"; line = 2 }
    ∷ (record { kind = Punctuator marks.Semicolon; text = []; line = 2 } ∷ (record { kind = Punctuator marks.CloseBrace; text = codes "}"; line = 2 } ∷ [])))

pub on_second_line : IsLineOfSpot written (Always (one plain) ∷ []) (OfRecord 0 None (one plain) []) (Of plain Whole (Before NoStmt ∷ [])) 2
on_second_line = record {
  before = OpenBrace ∷ [];
  text = refl;
  token = record { kind = Name; text = codes "x"; line = 2 };
  begins = refl;
  is_line = refl;
}
