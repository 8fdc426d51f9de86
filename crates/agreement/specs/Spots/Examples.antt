-- Which spots runs of scripts pass, computed from the definition: a letter for each.
use Rattle.std.specs.Prelude.{◌≡◌, ℕ, List, [], ◌∷◌, ◌++◌, codes, Some, refl}
use Rattle.std.specs.Fmt.{digits}
use Rattle.awk_text.specs.Escapes.{unescaped, escaped, octal}
use Rattle.awk_text.specs.Number.{numerator, denominator}
use Rattle.awk_text.specs.Reading.{numeral_at, sign_at, fraction_at, exponent_at}
use Rattle.ere_syntax.specs.Scan.{table}
use Rattle.ere_syntax.specs.Readers.{sign_of}
use Rattle.world_core.specs.WorldState.{Standard, Outside, Source, absent, puts}
use Rattle.world_core.specs.declared.world.Ending.TheVariants.{End}
use Rattle.sem_primitives.specs.Jobs.{JobForm}
use Rattle.awk_tokens.specs.Words.{keywords, builtins, left_out_words}
use Rattle.awk_grammar.specs.Kinds.{special_arrays, special_scalars}
use Rattle.awk_grammar.specs.Trees.{Item, Stmt}
use Rattle.awk_grammar.specs.Token as token
use Rattle.awk_grammar.specs.Trees as tree
use Rattle.sem_scripts.specs.Kinds.{resolved}
use Rattle.sem_scripts.specs.Meaning.{asked, value_of, values_of, key_of, place_of, passed, truncated_of, applied}
use Rattle.sem_scripts.specs.ScriptRun.{first_assigned, records_done, Ended, setting_of}
use Rattle.sem_scripts.specs.ScriptState.{spend_all}
use Rattle.sem_scripts.specs.Statements.{loop, over_keys, plain_done, done_by}
use Rattle.agreement.specs.Spots.Marked.{Marks, done_marked, all_marked, marked_called, items_marked, begun_marked, ended_marked, marked_run}
use Rattle.agreement.specs.Spots.Spots.{Part, Whole, First, Looping, Between, Testing, Unless, GivesUp, Leaves, PatternPart, Asked, Unmet, Opening, Already, FirstTest, Opens, StaysClosed, Inside, Entered, LastTest, Closes, StaysOpen, StatementPath, Of, OfPattern}

-- B: block, E: empty, S: plain, I: `if`, W: `while`, D: `do`, F: `for`, K: `for` over keys, J: `break`, `continue`, `next` and `nextfile`, R:
-- `return` and `exit`
abbrev statement_letter : Stmt → List ℕ
statement_letter (tree.Block ss) = codes "B"
statement_letter tree.Empty = codes "E"
statement_letter (tree.Simple p) = codes "S"
statement_letter (tree.If c s) = codes "I"
statement_letter (tree.IfElse c s t) = codes "I"
statement_letter (tree.While c s) = codes "W"
statement_letter (tree.Do s c) = codes "D"
statement_letter (tree.For i c p s) = codes "F"
statement_letter (tree.ForIn k a s) = codes "K"
statement_letter (tree.Jumping j) = codes "J"
statement_letter (tree.Leave l t) = codes "R"

abbrev part_letter : Stmt → Part → List ℕ
part_letter s Whole = statement_letter s
part_letter s First = codes "1"
part_letter s Looping = codes "2"
part_letter s Between = codes "+"
part_letter s Testing = codes "?"
part_letter s Unless = codes "-"
part_letter s GivesUp = codes "/"
part_letter s Leaves = codes ">"

abbrev pattern_letter : PatternPart → List ℕ
pattern_letter Asked = codes "p"
pattern_letter Unmet = codes "-"
pattern_letter Opening = codes "o"
pattern_letter Already = codes "a"
pattern_letter FirstTest = codes "f"
pattern_letter Opens = codes "("
pattern_letter StaysClosed = codes "x"
pattern_letter Inside = codes "i"
pattern_letter Entered = codes "e"
pattern_letter LastTest = codes "l"
pattern_letter Closes = codes ")"
pattern_letter StaysOpen = codes "y"

abbrev letter : StatementPath → List ℕ
letter (Of s part w) = part_letter s part
letter (OfPattern part) = pattern_letter part

abbrev letters : Marks
letters home spot output = output ++ puts Standard (letter spot)

abbrev no_job : JobForm
no_job = record { operands = []; assigns = []; environment = [] }

abbrev reading : List ℕ → Source
reading bytes = record { rest = bytes; ending = End }

abbrev empty : Outside
empty = λ target. absent

abbrev number : List ℕ → tree.Tree
number text = tree.Leaf (token.Number text)

abbrev name : List ℕ → tree.Tree
name x = tree.Var x

abbrev set : List ℕ → tree.Tree → tree.Plain
set x t = tree.Eval (tree.Bin (tree.Other (token.Assign token.Set)) (name x) t)

abbrev less : tree.Tree → tree.Tree → tree.Tree
less a b = tree.Bin (tree.Other (token.Compare token.Less)) a b

-- function f(x) { return x + 1 }
-- BEGIN { for (i = 0; i < 2; i++) if (i) n = f(i); while (1 < n) n--; do n++; while (n < 3) }
abbrev loops : List Item
loops =
    tree.Function (codes "f") ((codes "x") ∷ []) (tree.And
    (tree.Leave tree.Return (Some (tree.Bin (tree.Add token.Plus) (name (codes "x")) (number (codes "1"))))) tree.NoStmt)
    ∷ tree.Begin
    (tree.And (tree.For (Some (set (codes "i") (number (codes "0")))) (Some (less (name (codes "i")) (number (codes "2"))))
    (Some (tree.Eval (tree.Post token.Increment (name (codes "i")))))
    (tree.If (name (codes "i")) (tree.Simple (set (codes "n") (tree.Call (codes "f") (tree.Then (name (codes "i")) tree.NoTree))))))
    (tree.And (tree.While (less (number (codes "1")) (name (codes "n"))) (tree.Simple (tree.Eval (tree.Post token.Decrement (name (codes "n"))))))
    (tree.And (tree.Do (tree.Simple (tree.Eval (tree.Post token.Increment (name (codes "n"))))) (less (name (codes "n")) (number (codes "3")))) tree.NoStmt)))
    ∷ []

pub in_loops : marked_run letters (resolved loops) (setting_of no_job (reading []) empty) 40 ≡ Ended 0 (puts Standard (codes "BF12I-+ISR+WSDS+?S+?"))
unfolding special_arrays special_scalars spend_all asked value_of values_of key_of place_of passed truncated_of applied loop over_keys plain_done done_by done_marked all_marked marked_called items_marked begun_marked ended_marked first_assigned records_done numeral_at sign_at fraction_at exponent_at numerator denominator digits unescaped escaped octal keywords builtins left_out_words table sign_of
in_loops = refl

-- /b/, /c/ { next } { n++ }, on four records
abbrev ranges : List Item
ranges =
    tree.When (tree.Between (tree.Leaf (token.Ere (codes "/b/"))) (tree.Leaf (token.Ere (codes "/c/")))) (tree.And (tree.Jumping tree.Next) tree.NoStmt)
    ∷ tree.Always (tree.And (tree.Simple (tree.Eval (tree.Post token.Increment (name (codes "n"))))) tree.NoStmt)
    ∷ []

pub in_ranges : marked_run letters (resolved ranges) (setting_of no_job (reading (codes "a\nb\nc\na\n")) empty) 40
    ≡ Ended 0 (puts Standard (codes "pofxi-BSpof(ielyBJpoaiel)BJpofxi-BS"))
unfolding special_arrays special_scalars spend_all asked value_of values_of key_of place_of passed truncated_of applied loop over_keys plain_done done_by done_marked all_marked marked_called items_marked begun_marked ended_marked first_assigned records_done numeral_at sign_at fraction_at exponent_at numerator denominator digits unescaped escaped octal keywords builtins left_out_words table sign_of
in_ranges = refl

-- { n++; nextfile; n = 0 }, on two records: the second is given up
abbrev next_files : List Item
next_files =
    tree.Always (tree.And (tree.Simple (tree.Eval (tree.Post token.Increment (name (codes "n")))))
    (tree.And (tree.Jumping tree.NextFile) (tree.And (tree.Simple (set (codes "n") (number (codes "0")))) tree.NoStmt)))
    ∷ []

pub in_next_files : marked_run letters (resolved next_files) (setting_of no_job (reading (codes "a\nb\n")) empty) 40 ≡ Ended 0 (puts Standard (codes "BSJ/>"))
unfolding special_arrays special_scalars spend_all asked value_of values_of key_of place_of passed truncated_of applied loop over_keys plain_done done_by done_marked all_marked marked_called items_marked begun_marked ended_marked first_assigned records_done numeral_at sign_at fraction_at exponent_at numerator denominator digits unescaped escaped octal keywords builtins left_out_words table sign_of
in_next_files = refl
