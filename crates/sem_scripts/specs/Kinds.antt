-- A script with the kinds of its names. The kinds are those of awk_grammar; here they meet the bodies of the functions and the items.
use Rattle.std.specs.Prelude.{List, [], ◌∷◌}
use Rattle.awk_grammar.specs.Trees.{Stmts, NoStmt, Item, Function}
use Rattle.awk_grammar.specs.Kinds.{Function as Typed, Resolved as Kinds, resolved as kinds_of}
use Rattle.sem_scripts.specs.Names.{Function as Defined, Resolved}

-- the bodies of the functions, in the order of the script
abbrev pub bodies : List Item → List Stmts
bodies [] = []
bodies (Function f xs ss ∷ items) = ss ∷ bodies items
bodies (_ ∷ items) = bodies items

abbrev pub with_bodies : List Typed → List Stmts → List Defined
with_bodies [] bs = []
with_bodies (f ∷ fs) [] = record { name = f.name; parameters = f.parameters; body = NoStmt } ∷ with_bodies fs []
with_bodies (f ∷ fs) (b ∷ bs) = record { name = f.name; parameters = f.parameters; body = b } ∷ with_bodies fs bs

abbrev pub scripted : Kinds → List Item → Resolved
scripted kinds items = record { globals = kinds.globals; functions = with_bodies kinds.functions (bodies items); items = items }

-- a script with the kinds of its names
abbrev pub resolved : List Item → Resolved
resolved items = scripted (kinds_of items) items
