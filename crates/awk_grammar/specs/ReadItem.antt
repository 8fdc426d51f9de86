-- Reading items from the front of the tokens.
use Rattle.std.specs.Prelude.{ℕ, zero, suc, ◌+◌, true, List, [], ◌∷◌, length, Option, Some, None, Result, Ok, Err}
use Rattle.awk_grammar.specs.Token.{BeginWord, EndWord, FunctionWord, Token, Name, OpenBrace, Semicolon, Key}
use Rattle.awk_grammar.specs.Reading.{Fault, Syntax, ◌>>=◌, close_at, name_at, comma_at, expr_at}
use Rattle.awk_grammar.specs.Tree.{Whole}
use Rattle.awk_grammar.specs.Trees.{Tree, Stmts, Pattern, One, Between, Item, Function, Begin, End, Always, When, Lone, Nothing}
use Rattle.awk_grammar.specs.ReadStmt.{Read, open_here, stmts_at, stmt_at}

abbrev pub body_at : ℕ → List Token → Read Stmts
body_at d (OpenBrace ∷ ts) = stmts_at (stmt_at d) (length ts) ts
body_at d _ = Err Syntax

abbrev pub names_by : (List Token → Read (List (List ℕ))) → List Token → Option (List Token) → Read (List (List ℕ))
names_by go ts None = Ok ([], ts)
names_by go ts (Some us) = name_at us >>= λ n. go n.1 >>= λ x. Ok (n.0 ∷ x.0, x.1)

abbrev pub names_at : ℕ → List Token → Read (List (List ℕ))
names_at zero ts = Ok ([], ts)
names_at (suc w) ts = names_by (names_at w) ts (comma_at ts)

abbrev pub params_at : List Token → Read (List (List ℕ))
params_at (Name n ∷ ts) = names_at (length ts) ts >>= λ x. Ok (n ∷ x.0, x.1)
params_at ts = Ok ([], ts)

abbrev pub function_by : ℕ → List ℕ → List Token → Read Item
function_by d n ts = open_here ts >>= λ us. params_at us >>= λ ps. close_at ps.1 >>= λ vs. body_at d vs >>= λ x. Ok (Function n ps.0 x.0, x.1)

abbrev pub function_at : ℕ → List Token → Read Item
function_at d (Name n ∷ ts) = function_by d n ts
function_at d _ = Err Syntax

abbrev pub pattern_by : ℕ → Tree → List Token → Option (List Token) → Read Pattern
pattern_by d t ts None = Ok (One t, ts)
pattern_by d t ts (Some us) = expr_at d true Whole us >>= λ x. Ok (Between t x.0, x.1)

abbrev pub pattern_at : ℕ → List Token → Read Pattern
pattern_at d ts = expr_at d true Whole ts >>= λ x. pattern_by d x.0 x.1 (comma_at x.1)

abbrev pub action_at : ℕ → Pattern → List Token → Read Item
action_at d p (Semicolon ∷ ts) = Ok (Lone p, ts)
action_at d p ts = body_at d ts >>= λ x. Ok (When p x.0, x.1)

abbrev pub rule_at : ℕ → List Token → Read Item
rule_at d ts = pattern_at d ts >>= λ p. action_at d p.0 p.1

abbrev pub item_at : ℕ → List Token → Read Item
item_at d (Key FunctionWord ∷ ts) = function_at d ts
item_at d (Key BeginWord ∷ ts) = body_at d ts >>= λ x. Ok (Begin x.0, x.1)
item_at d (Key EndWord ∷ ts) = body_at d ts >>= λ x. Ok (End x.0, x.1)
item_at d (OpenBrace ∷ ts) = body_at d (OpenBrace ∷ ts) >>= λ x. Ok (Always x.0, x.1)
item_at d (Semicolon ∷ ts) = Ok (Nothing, ts)
item_at d ts = rule_at d ts

abbrev pub items_by : ℕ → (List Token → Result (List Item) Fault) → List Token → Result (List Item) Fault
items_by d go [] = Ok []
items_by d go (t ∷ ts) = item_at d (t ∷ ts) >>= λ x. go x.1 >>= λ is. Ok (x.0 ∷ is)

abbrev pub items_at : ℕ → ℕ → List Token → Result (List Item) Fault
items_at d zero ts = Err Syntax
items_at d (suc w) ts = items_by d (items_at d w) ts

-- the script that the tokens spell
unfoldable pub script_at : ℕ → List Token → Result (List Item) Fault
script_at d ts = items_at d (length ts + 1) ts
