-- Items and scripts: their tokens, and which are well formed. The productions of awk_tree say the same.
use Rattle.std.specs.Prelude.{ℕ, true, List, [], ◌∷◌, ◌++◌}
use Rattle.awk_grammar.specs.Token.{BeginWord, EndWord, FunctionWord, Token, Name, Open, Close, OpenBrace, CloseBrace, Comma, Semicolon, Key}
use Rattle.awk_grammar.specs.Tree.{print, IsWellFormed}
use Rattle.awk_grammar.specs.Trees.{Stmts, Pattern, One, Between, Item, Function, Begin, End, Always, When, Lone, Nothing}
use Rattle.awk_grammar.specs.Stmt.{print_stmts, AreStmts}

abbrev pub print_body : Stmts → List Token
print_body ss = OpenBrace ∷ (print_stmts ss ++ (CloseBrace ∷ []))

abbrev pub print_names : List (List ℕ) → List Token
print_names [] = []
print_names (n ∷ ns) = Comma ∷ (Name n ∷ print_names ns)

abbrev pub print_params : List (List ℕ) → List Token
print_params [] = []
print_params (n ∷ ns) = Name n ∷ print_names ns

abbrev pub print_pattern : Pattern → List Token
print_pattern (One t) = print t
print_pattern (Between t u) = print t ++ (Comma ∷ print u)

abbrev pub print_item : Item → List Token
print_item (Function n ps ss) = Key FunctionWord ∷ (Name n ∷ (Open ∷ (print_params ps ++ (Close ∷ print_body ss))))
print_item (Begin ss) = Key BeginWord ∷ print_body ss
print_item (End ss) = Key EndWord ∷ print_body ss
print_item (Always ss) = print_body ss
print_item (When p ss) = print_pattern p ++ print_body ss
print_item (Lone p) = print_pattern p ++ (Semicolon ∷ [])
print_item Nothing = Semicolon ∷ []

abbrev pub print_script : List Item → List Token
print_script [] = []
print_script (i ∷ is) = print_item i ++ print_script is

abbrev pub IsPattern : Pattern → Type 0
IsPattern (One t) = IsWellFormed true t
IsPattern (Between t u) = IsWellFormed true t × IsWellFormed true u

abbrev pub IsItem : Item → Type 0
IsItem (Function n ps ss) = AreStmts ss
IsItem (Begin ss) = AreStmts ss
IsItem (End ss) = AreStmts ss
IsItem (Always ss) = AreStmts ss
IsItem (When p ss) = IsPattern p × AreStmts ss
IsItem (Lone p) = IsPattern p
IsItem Nothing = Unit {0}

abbrev pub IsScript : List Item → Type 0
IsScript [] = Unit {0}
IsScript (i ∷ is) = IsItem i × IsScript is
