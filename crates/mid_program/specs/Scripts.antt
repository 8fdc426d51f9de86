-- Scripts, as trees.
use Rattle.std.specs.Prelude.{List, [], ◌∷◌, codes, Some, None}
use Rattle.awk_tokens.specs.declared.reserved_words.Builtin.TheVariants as builtin
use Rattle.awk_grammar.specs.Token as token
use Rattle.awk_grammar.specs.Trees as tree
use Rattle.awk_grammar.specs.Trees.{Item}

-- BEGIN { print 2+3 }
abbrev pub sum_printed : List Item
sum_printed = (tree.Begin (tree.And (tree.Simple
    (tree.Put tree.Print (tree.Listed
    (tree.Then (tree.Bin (tree.Add token.Plus) (tree.Leaf (token.Number (codes "2")))
    (tree.Leaf (token.Number (codes "3")))) tree.NoTree)) tree.NoTarget)) tree.NoStmt)) ∷ []

--
abbrev pub nothing_read : List Item
nothing_read = []

-- BEGIN { print int(7/2), int(-7/2), -7%3; print 7/2; print "no" }
abbrev pub quotients : List Item
quotients = (tree.Begin (tree.And (tree.Simple
    (tree.Put tree.Print (tree.Listed
    (tree.Then (tree.Apply builtin.Int
    (tree.Then (tree.Bin (tree.Other (token.Mul token.Over)) (tree.Leaf (token.Number (codes "7")))
    (tree.Leaf (token.Number (codes "2")))) tree.NoTree))
    (tree.Then (tree.Apply builtin.Int
    (tree.Then (tree.Bin (tree.Other (token.Mul token.Over)) (tree.Unary (token.Signed token.Minus) (tree.Leaf (token.Number (codes "7"))))
    (tree.Leaf (token.Number (codes "2")))) tree.NoTree))
    (tree.Then (tree.Bin (tree.Other (token.Mul token.Modulo)) (tree.Unary (token.Signed token.Minus) (tree.Leaf (token.Number (codes "7"))))
    (tree.Leaf (token.Number (codes "3")))) tree.NoTree)))) tree.NoTarget))
    (tree.And (tree.Simple (tree.Put tree.Print
    (tree.Listed (tree.Then (tree.Bin (tree.Other (token.Mul token.Over)) (tree.Leaf (token.Number (codes "7")))
    (tree.Leaf (token.Number (codes "2")))) tree.NoTree)) tree.NoTarget))
    (tree.And (tree.Simple (tree.Put tree.Print (tree.Listed (tree.Then (tree.Leaf (token.Quoted (34 ∷ 110 ∷ 111 ∷ 34
    ∷ []))) tree.NoTree)) tree.NoTarget)) tree.NoStmt)))) ∷ []

-- BEGIN { print 2^53; print 2^53+1 }
abbrev pub powers : List Item
powers = (tree.Begin (tree.And (tree.Simple (tree.Put tree.Print
    (tree.Listed (tree.Then (tree.Bin (tree.Other token.Pow) (tree.Leaf (token.Number (codes "2")))
    (tree.Leaf (token.Number (codes "53")))) tree.NoTree)) tree.NoTarget))
    (tree.And (tree.Simple (tree.Put tree.Print
    (tree.Listed (tree.Then (tree.Bin (tree.Add token.Plus) (tree.Bin (tree.Other token.Pow) (tree.Leaf (token.Number (codes "2")))
    (tree.Leaf (token.Number (codes "53")))) (tree.Leaf (token.Number (codes "1")))) tree.NoTree)) tree.NoTarget)) tree.NoStmt))) ∷ []

-- { if (NF) /x/ || n++ } END { print n/1 }
abbrev pub matched_or_counted : List Item
matched_or_counted = (tree.Always (tree.And (tree.If (tree.Var (codes "NF"))
    (tree.Simple (tree.Eval (tree.Bin (tree.Other token.Or) (tree.Leaf (token.Ere (codes "/x/")))
    (tree.Post token.Increment (tree.Var (codes "n"))))))) tree.NoStmt))
    ∷ (tree.End (tree.And (tree.Simple
    (tree.Put tree.Print (tree.Listed
    (tree.Then (tree.Bin (tree.Other (token.Mul token.Over)) (tree.Var (codes "n"))
    (tree.Leaf (token.Number (codes "1")))) tree.NoTree)) tree.NoTarget)) tree.NoStmt)) ∷ []

-- BEGIN { if (0) n = 1 % 0; print "[" n "]", n+0 }
abbrev pub unset_name : List Item
unset_name = (tree.Begin (tree.And (tree.If (tree.Leaf (token.Number (codes "0")))
    (tree.Simple (tree.Eval (tree.Bin (tree.Other (token.Assign token.Set)) (tree.Var (codes "n"))
    (tree.Bin (tree.Other (token.Mul token.Modulo)) (tree.Leaf (token.Number (codes "1"))) (tree.Leaf (token.Number (codes "0"))))))))
    (tree.And (tree.Simple (tree.Put tree.Print (tree.Listed (tree.Then (tree.Bin tree.Join (tree.Bin tree.Join (tree.Leaf (token.Quoted (34 ∷ 91 ∷ 34
    ∷ []))) (tree.Var (codes "n"))) (tree.Leaf (token.Quoted (34 ∷ 93 ∷ 34
    ∷ [])))) (tree.Then (tree.Bin (tree.Add token.Plus) (tree.Var (codes "n"))
    (tree.Leaf (token.Number (codes "0")))) tree.NoTree))) tree.NoTarget)) tree.NoStmt))) ∷ []

-- { print ($1 > $2), ($1 > "9") }
abbrev pub compared_fields : List Item
compared_fields = (tree.Always (tree.And (tree.Simple
    (tree.Put tree.Print (tree.Listed
    (tree.Then (tree.Group (tree.Bin (tree.Other (token.Compare token.Greater)) (tree.Field (tree.Leaf (token.Number (codes "1"))))
    (tree.Field (tree.Leaf (token.Number (codes "2"))))))
    (tree.Then (tree.Group (tree.Bin (tree.Other (token.Compare token.Greater)) (tree.Field (tree.Leaf (token.Number (codes "1"))))
    (tree.Leaf (token.Quoted (34 ∷ 57 ∷ 34 ∷ []))))) tree.NoTree))) tree.NoTarget)) tree.NoStmt)) ∷ []

-- BEGIN { print n; n++; print n }
abbrev pub assigned_before : List Item
assigned_before = (tree.Begin (tree.And (tree.Simple (tree.Put tree.Print (tree.Listed (tree.Then (tree.Var (codes "n")) tree.NoTree)) tree.NoTarget))
    (tree.And (tree.Simple (tree.Eval (tree.Post token.Increment (tree.Var (codes "n")))))
    (tree.And (tree.Simple (tree.Put tree.Print (tree.Listed (tree.Then (tree.Var (codes "n")) tree.NoTree)) tree.NoTarget)) tree.NoStmt)))) ∷ []

-- { print $2 }
abbrev pub separator_assigned : List Item
separator_assigned = (tree.Always (tree.And (tree.Simple
    (tree.Put tree.Print (tree.Listed (tree.Then (tree.Field (tree.Leaf (token.Number (codes "2")))) tree.NoTree)) tree.NoTarget)) tree.NoStmt)) ∷ []

-- function f(x) { if (x == "b") next; return x } { print "<" f($1) ">" }
abbrev pub next_in_function : List Item
next_in_function = (tree.Function (codes "f") ((codes "x")
    ∷ []) (tree.And (tree.If (tree.Bin (tree.Other (token.Compare token.Equal)) (tree.Var (codes "x")) (tree.Leaf (token.Quoted (34 ∷ 98 ∷ 34
    ∷ [])))) (tree.Jumping tree.Next)) (tree.And (tree.Leave tree.Return (Some (tree.Var (codes "x")))) tree.NoStmt)))
    ∷ (tree.Always (tree.And (tree.Simple
    (tree.Put tree.Print (tree.Listed (tree.Then (tree.Bin tree.Join (tree.Bin tree.Join (tree.Leaf (token.Quoted (34 ∷ 60 ∷ 34
    ∷ []))) (tree.Call (codes "f") (tree.Then (tree.Field (tree.Leaf (token.Number (codes "1")))) tree.NoTree))) (tree.Leaf (token.Quoted (34 ∷ 62
    ∷ 34 ∷ [])))) tree.NoTree)) tree.NoTarget)) tree.NoStmt)) ∷ []

-- function g() { exit 3 } BEGIN { print "a" g(); print "no" } END { print "end" }
abbrev pub exit_in_function : List Item
exit_in_function = (tree.Function (codes "g") [] (tree.And (tree.Leave tree.Exit (Some (tree.Leaf (token.Number (codes "3"))))) tree.NoStmt))
    ∷ (tree.Begin (tree.And (tree.Simple (tree.Put tree.Print (tree.Listed (tree.Then (tree.Bin tree.Join (tree.Leaf (token.Quoted (34 ∷ 97 ∷ 34
    ∷ []))) (tree.Call (codes "g") tree.NoTree)) tree.NoTree)) tree.NoTarget))
    (tree.And (tree.Simple (tree.Put tree.Print (tree.Listed (tree.Then (tree.Leaf (token.Quoted (34 ∷ 110 ∷ 111 ∷ 34
    ∷ []))) tree.NoTree)) tree.NoTarget)) tree.NoStmt)))
    ∷ (tree.End (tree.And (tree.Simple (tree.Put tree.Print (tree.Listed (tree.Then (tree.Leaf (token.Quoted (34 ∷ 101 ∷ 110 ∷ 100 ∷ 34
    ∷ []))) tree.NoTree)) tree.NoTarget)) tree.NoStmt)) ∷ []

-- BEGIN { print -12 " " -24 }
abbrev pub joined_signs : List Item
joined_signs = (tree.Begin (tree.And (tree.Simple
    (tree.Put tree.Print (tree.Listed
    (tree.Then (tree.Bin tree.Join (tree.Unary (token.Signed token.Minus) (tree.Leaf (token.Number (codes "12"))))
    (tree.Bin (tree.Add token.Minus) (tree.Leaf (token.Quoted (34 ∷ 32 ∷ 34
    ∷ []))) (tree.Leaf (token.Number (codes "24"))))) tree.NoTree)) tree.NoTarget)) tree.NoStmt)) ∷ []

-- BEGIN { s = "abxxc"; n = gsub(/x*/, "-", s); print n, s }
abbrev pub all_replaced : List Item
all_replaced = (tree.Begin (tree.And (tree.Simple
    (tree.Eval (tree.Bin (tree.Other (token.Assign token.Set)) (tree.Var (codes "s")) (tree.Leaf (token.Quoted (34 ∷ 97 ∷ 98 ∷ 120 ∷ 120 ∷ 99 ∷ 34
    ∷ [])))))) (tree.And (tree.Simple
    (tree.Eval (tree.Bin (tree.Other (token.Assign token.Set)) (tree.Var (codes "n"))
    (tree.Apply builtin.Gsub (tree.Then (tree.Leaf (token.Ere (codes "/x*/"))) (tree.Then (tree.Leaf (token.Quoted (34 ∷ 45 ∷ 34
    ∷ []))) (tree.Then (tree.Var (codes "s")) tree.NoTree)))))))
    (tree.And (tree.Simple (tree.Put tree.Print
    (tree.Listed (tree.Then (tree.Var (codes "n")) (tree.Then (tree.Var (codes "s")) tree.NoTree))) tree.NoTarget)) tree.NoStmt)))) ∷ []

-- BEGIN { RS = ""; FS = "," } { print NF ":" $1 "|" $NF }
abbrev pub paragraphs : List Item
paragraphs = (tree.Begin (tree.And (tree.Simple
    (tree.Eval (tree.Bin (tree.Other (token.Assign token.Set)) (tree.Var (codes "RS")) (tree.Leaf (token.Quoted (34 ∷ 34
    ∷ [])))))) (tree.And (tree.Simple (tree.Eval (tree.Bin (tree.Other (token.Assign token.Set)) (tree.Var (codes "FS")) (tree.Leaf (token.Quoted (34
    ∷ 44 ∷ 34 ∷ [])))))) tree.NoStmt)))
    ∷ (tree.Always (tree.And (tree.Simple
    (tree.Put tree.Print (tree.Listed
    (tree.Then (tree.Bin tree.Join (tree.Bin tree.Join (tree.Bin tree.Join (tree.Bin tree.Join (tree.Var (codes "NF")) (tree.Leaf (token.Quoted (34
    ∷ 58 ∷ 34 ∷ [])))) (tree.Field (tree.Leaf (token.Number (codes "1"))))) (tree.Leaf (token.Quoted (34 ∷ 124 ∷ 34
    ∷ [])))) (tree.Field (tree.Var (codes "NF")))) tree.NoTree)) tree.NoTarget)) tree.NoStmt)) ∷ []

-- { print }
abbrev pub input_fails : List Item
input_fails = (tree.Always (tree.And (tree.Simple (tree.Put tree.Print tree.NoArgs tree.NoTarget)) tree.NoStmt)) ∷ []

-- BEGIN { print (getline < "f"), $0; print (getline < "f") }
abbrev pub file_fails : List Item
file_fails = (tree.Begin (tree.And (tree.Simple (tree.Put tree.Print (tree.Listed (tree.Then (tree.Group (tree.GetFrom (tree.Leaf (token.Quoted (34
    ∷ 102 ∷ 34 ∷ []))))) (tree.Then (tree.Field (tree.Leaf (token.Number (codes "0")))) tree.NoTree))) tree.NoTarget))
    (tree.And (tree.Simple (tree.Put tree.Print (tree.Listed (tree.Then (tree.Group (tree.GetFrom (tree.Leaf (token.Quoted (34 ∷ 102 ∷ 34
    ∷ []))))) tree.NoTree)) tree.NoTarget)) tree.NoStmt))) ∷ []

-- BEGIN { print "ab"; print "cd" }
abbrev pub little_room : List Item
little_room = (tree.Begin (tree.And (tree.Simple (tree.Put tree.Print (tree.Listed (tree.Then (tree.Leaf (token.Quoted (34 ∷ 97 ∷ 98 ∷ 34
    ∷ []))) tree.NoTree)) tree.NoTarget)) (tree.And (tree.Simple (tree.Put tree.Print (tree.Listed (tree.Then (tree.Leaf (token.Quoted (34 ∷ 99 ∷ 100
    ∷ 34 ∷ []))) tree.NoTree)) tree.NoTarget)) tree.NoStmt))) ∷ []

-- BEGIN { OFS = "-" } { $5 = "e"; print; print NF; NF = 2; print }
abbrev pub fields_joined : List Item
fields_joined = (tree.Begin (tree.And (tree.Simple
    (tree.Eval (tree.Bin (tree.Other (token.Assign token.Set)) (tree.Var (codes "OFS")) (tree.Leaf (token.Quoted (34 ∷ 45 ∷ 34
    ∷ [])))))) tree.NoStmt)) ∷ (tree.Always
    (tree.And (tree.Simple (tree.Eval (tree.Bin (tree.Other (token.Assign token.Set)) (tree.Field (tree.Leaf (token.Number (codes "5"))))
    (tree.Leaf (token.Quoted (34 ∷ 101 ∷ 34
    ∷ [])))))) (tree.And (tree.Simple (tree.Put tree.Print tree.NoArgs tree.NoTarget))
    (tree.And (tree.Simple (tree.Put tree.Print (tree.Listed (tree.Then (tree.Var (codes "NF")) tree.NoTree)) tree.NoTarget))
    (tree.And (tree.Simple (tree.Eval (tree.Bin (tree.Other (token.Assign token.Set)) (tree.Var (codes "NF"))
    (tree.Leaf (token.Number (codes "2")))))) (tree.And (tree.Simple (tree.Put tree.Print tree.NoArgs tree.NoTarget)) tree.NoStmt)))))) ∷ []

-- { print $1; print int($1); print $1+0 }
abbrev pub fraction_read : List Item
fraction_read = (tree.Always (tree.And (tree.Simple
    (tree.Put tree.Print (tree.Listed (tree.Then (tree.Field (tree.Leaf (token.Number (codes "1")))) tree.NoTree)) tree.NoTarget))
    (tree.And (tree.Simple (tree.Put tree.Print
    (tree.Listed (tree.Then (tree.Apply builtin.Int
    (tree.Then (tree.Field (tree.Leaf (token.Number (codes "1")))) tree.NoTree)) tree.NoTree)) tree.NoTarget))
    (tree.And (tree.Simple (tree.Put tree.Print
    (tree.Listed (tree.Then (tree.Bin (tree.Add token.Plus) (tree.Field (tree.Leaf (token.Number (codes "1"))))
    (tree.Leaf (token.Number (codes "0")))) tree.NoTree)) tree.NoTarget)) tree.NoStmt)))) ∷ []

-- function r(n) { return n ? r(n-1) : 7 } BEGIN { print r(3) }
abbrev pub calls_nested : List Item
calls_nested = (tree.Function (codes "r") ((codes "n")
    ∷ []) (tree.And (tree.Leave tree.Return
    (Some (tree.Cond (tree.Var (codes "n"))
    (tree.Call (codes "r") (tree.Then (tree.Bin (tree.Add token.Minus) (tree.Var (codes "n")) (tree.Leaf (token.Number (codes "1")))) tree.NoTree))
    (tree.Leaf (token.Number (codes "7")))))) tree.NoStmt))
    ∷ (tree.Begin (tree.And (tree.Simple
    (tree.Put tree.Print (tree.Listed
    (tree.Then (tree.Call (codes "r") (tree.Then (tree.Leaf (token.Number (codes "3"))) tree.NoTree)) tree.NoTree)) tree.NoTarget)) tree.NoStmt)) ∷ []

-- function r(n) { return n ? r(n-1) : 7 } BEGIN { print "x"; print r(4) }
abbrev pub calls_too_deep : List Item
calls_too_deep = (tree.Function (codes "r") ((codes "n")
    ∷ []) (tree.And (tree.Leave tree.Return
    (Some (tree.Cond (tree.Var (codes "n"))
    (tree.Call (codes "r") (tree.Then (tree.Bin (tree.Add token.Minus) (tree.Var (codes "n")) (tree.Leaf (token.Number (codes "1")))) tree.NoTree))
    (tree.Leaf (token.Number (codes "7")))))) tree.NoStmt))
    ∷ (tree.Begin (tree.And (tree.Simple (tree.Put tree.Print (tree.Listed (tree.Then (tree.Leaf (token.Quoted (34 ∷ 120 ∷ 34
    ∷ []))) tree.NoTree)) tree.NoTarget))
    (tree.And (tree.Simple (tree.Put tree.Print
    (tree.Listed (tree.Then (tree.Call (codes "r")
    (tree.Then (tree.Leaf (token.Number (codes "4"))) tree.NoTree)) tree.NoTree)) tree.NoTarget)) tree.NoStmt))) ∷ []

-- function h() { next } BEGIN { h() }
abbrev pub next_outside : List Item
next_outside = (tree.Function (codes "h") [] (tree.And (tree.Jumping tree.Next) tree.NoStmt))
    ∷ (tree.Begin (tree.And (tree.Simple (tree.Eval (tree.Call (codes "h") tree.NoTree))) tree.NoStmt)) ∷ []

-- BEGIN { printf "%5d|%-4s|%04d|%x|%c|%.2f|%%\n", 42, "ab", -7, 255, 65, 3; printf "%d\n" }
abbrev pub formatted : List Item
formatted = (tree.Begin (tree.And (tree.Simple (tree.Put tree.Printf (tree.Listed (tree.Then (tree.Leaf (token.Quoted (34 ∷ 37 ∷ 53 ∷ 100 ∷ 124 ∷ 37
    ∷ 45 ∷ 52 ∷ 115 ∷ 124 ∷ 37 ∷ 48 ∷ 52 ∷ 100 ∷ 124 ∷ 37 ∷ 120 ∷ 124 ∷ 37 ∷ 99 ∷ 124 ∷ 37 ∷ 46 ∷ 50 ∷ 102 ∷ 124 ∷ 37 ∷ 37 ∷ 92 ∷ 110 ∷ 34
    ∷ []))) (tree.Then (tree.Leaf (token.Number (codes "42"))) (tree.Then (tree.Leaf (token.Quoted (34 ∷ 97 ∷ 98 ∷ 34
    ∷ []))) (tree.Then (tree.Unary (token.Signed token.Minus) (tree.Leaf (token.Number (codes "7"))))
    (tree.Then (tree.Leaf (token.Number (codes "255")))
    (tree.Then (tree.Leaf (token.Number (codes "65"))) (tree.Then (tree.Leaf (token.Number (codes "3"))) tree.NoTree)))))))) tree.NoTarget))
    (tree.And (tree.Simple (tree.Put tree.Printf (tree.Listed (tree.Then (tree.Leaf (token.Quoted (34 ∷ 37 ∷ 100 ∷ 92 ∷ 110 ∷ 34
    ∷ []))) tree.NoTree)) tree.NoTarget)) tree.NoStmt))) ∷ []

-- BEGIN { print ("abcd" ~ "b|bc"), match("abcd", "b|bc"), RSTART, RLENGTH; print "x" ~ "(" }
abbrev pub longest_match : List Item
longest_match = (tree.Begin (tree.And (tree.Simple
    (tree.Put tree.Print (tree.Listed (tree.Then (tree.Group (tree.Bin (tree.Other (token.Match token.Matches)) (tree.Leaf (token.Quoted (34 ∷ 97 ∷ 98
    ∷ 99 ∷ 100 ∷ 34 ∷ []))) (tree.Leaf (token.Quoted (34 ∷ 98 ∷ 124 ∷ 98 ∷ 99 ∷ 34
    ∷ []))))) (tree.Then (tree.Apply builtin.Match (tree.Then (tree.Leaf (token.Quoted (34 ∷ 97 ∷ 98 ∷ 99 ∷ 100 ∷ 34
    ∷ []))) (tree.Then (tree.Leaf (token.Quoted (34 ∷ 98 ∷ 124 ∷ 98 ∷ 99 ∷ 34
    ∷ []))) tree.NoTree))) (tree.Then (tree.Var (codes "RSTART")) (tree.Then (tree.Var (codes "RLENGTH")) tree.NoTree))))) tree.NoTarget))
    (tree.And (tree.Simple (tree.Put tree.Print
    (tree.Listed (tree.Then (tree.Bin (tree.Other (token.Match token.Matches)) (tree.Leaf (token.Quoted (34 ∷ 120 ∷ 34
    ∷ []))) (tree.Leaf (token.Quoted (34 ∷ 40 ∷ 34 ∷ [])))) tree.NoTree)) tree.NoTarget)) tree.NoStmt))) ∷ []

-- BEGIN { a["x"]; a["y"]; a["z"]; delete a["x"]; a["x"] = 1; for (k in a) { printf "%s ", k; delete a["x"] }; print ("x" in a) }
abbrev pub keys_visited : List Item
keys_visited = (tree.Begin (tree.And (tree.Simple (tree.Eval (tree.Index (codes "a") (tree.Then (tree.Leaf (token.Quoted (34 ∷ 120 ∷ 34
    ∷ []))) tree.NoTree)))) (tree.And (tree.Simple (tree.Eval (tree.Index (codes "a") (tree.Then (tree.Leaf (token.Quoted (34 ∷ 121 ∷ 34
    ∷ []))) tree.NoTree)))) (tree.And (tree.Simple (tree.Eval (tree.Index (codes "a") (tree.Then (tree.Leaf (token.Quoted (34 ∷ 122 ∷ 34
    ∷ []))) tree.NoTree)))) (tree.And (tree.Simple (tree.Delete (codes "a") (tree.Then (tree.Leaf (token.Quoted (34 ∷ 120 ∷ 34
    ∷ []))) tree.NoTree))) (tree.And
    (tree.Simple (tree.Eval (tree.Bin (tree.Other (token.Assign token.Set)) (tree.Index (codes "a") (tree.Then (tree.Leaf (token.Quoted (34 ∷ 120 ∷ 34
    ∷ []))) tree.NoTree)) (tree.Leaf (token.Number (codes "1"))))))
    (tree.And (tree.ForIn (codes "k") (codes "a")
    (tree.Block (tree.And (tree.Simple (tree.Put tree.Printf (tree.Listed (tree.Then (tree.Leaf (token.Quoted (34 ∷ 37 ∷ 115 ∷ 32 ∷ 34
    ∷ []))) (tree.Then (tree.Var (codes "k")) tree.NoTree))) tree.NoTarget))
    (tree.And (tree.Simple (tree.Delete (codes "a") (tree.Then (tree.Leaf (token.Quoted (34 ∷ 120 ∷ 34
    ∷ []))) tree.NoTree))) tree.NoStmt))))
    (tree.And tree.Empty (tree.And (tree.Simple (tree.Put tree.Print (tree.Listed (tree.Then (tree.Group (tree.Has (tree.Leaf (token.Quoted (34 ∷ 120
    ∷ 34 ∷ []))) (codes "a"))) tree.NoTree)) tree.NoTarget)) tree.NoStmt))))))))) ∷ []

-- BEGIN { print "a" > "f"; print "b" > "f"; print close("f"), close("f"); while ((getline x < "f") > 0) print "got " x; print "c" >> "f" }
abbrev pub file_written_and_read : List Item
file_written_and_read = (tree.Begin (tree.And (tree.Simple (tree.Put tree.Print (tree.Listed (tree.Then (tree.Leaf (token.Quoted (34 ∷ 97 ∷ 34
    ∷ []))) tree.NoTree)) (tree.Written (tree.Leaf (token.Quoted (34 ∷ 102 ∷ 34
    ∷ [])))))) (tree.And (tree.Simple (tree.Put tree.Print (tree.Listed (tree.Then (tree.Leaf (token.Quoted (34 ∷ 98 ∷ 34
    ∷ []))) tree.NoTree)) (tree.Written (tree.Leaf (token.Quoted (34 ∷ 102 ∷ 34
    ∷ [])))))) (tree.And (tree.Simple (tree.Put tree.Print (tree.Listed (tree.Then (tree.Apply builtin.Close (tree.Then (tree.Leaf (token.Quoted (34
    ∷ 102 ∷ 34 ∷ []))) tree.NoTree)) (tree.Then (tree.Apply builtin.Close (tree.Then (tree.Leaf (token.Quoted (34 ∷ 102 ∷ 34
    ∷ []))) tree.NoTree)) tree.NoTree))) tree.NoTarget))
    (tree.And (tree.While (tree.Bin (tree.Other (token.Compare token.Greater))
    (tree.Group (tree.GetIntoFrom (tree.Var (codes "x")) (tree.Leaf (token.Quoted (34 ∷ 102 ∷ 34
    ∷ []))))) (tree.Leaf (token.Number (codes "0"))))
    (tree.Simple (tree.Put tree.Print (tree.Listed (tree.Then (tree.Bin tree.Join (tree.Leaf (token.Quoted (34 ∷ 103 ∷ 111 ∷ 116 ∷ 32 ∷ 34
    ∷ []))) (tree.Var (codes "x"))) tree.NoTree)) tree.NoTarget)))
    (tree.And (tree.Simple (tree.Put tree.Print (tree.Listed (tree.Then (tree.Leaf (token.Quoted (34 ∷ 99 ∷ 34
    ∷ []))) tree.NoTree)) (tree.Appended (tree.Leaf (token.Quoted (34 ∷ 102 ∷ 34 ∷ [])))))) tree.NoStmt)))))) ∷ []

-- { print v, FILENAME, FNR, NR }
abbrev pub assignments_between_files : List Item
assignments_between_files = (tree.Always (tree.And
    (tree.Simple (tree.Put tree.Print
    (tree.Listed (tree.Then (tree.Var (codes "v"))
    (tree.Then (tree.Var (codes "FILENAME"))
    (tree.Then (tree.Var (codes "FNR")) (tree.Then (tree.Var (codes "NR")) tree.NoTree))))) tree.NoTarget)) tree.NoStmt)) ∷ []

-- BEGIN { a = 2^53; print a * a }
abbrev pub product_past_range : List Item
product_past_range = (tree.Begin (tree.And (tree.Simple
    (tree.Eval (tree.Bin (tree.Other (token.Assign token.Set)) (tree.Var (codes "a"))
    (tree.Bin (tree.Other token.Pow) (tree.Leaf (token.Number (codes "2"))) (tree.Leaf (token.Number (codes "53")))))))
    (tree.And (tree.Simple (tree.Put tree.Print
    (tree.Listed (tree.Then (tree.Bin (tree.Other (token.Mul token.Times)) (tree.Var (codes "a"))
    (tree.Var (codes "a"))) tree.NoTree)) tree.NoTarget)) tree.NoStmt))) ∷ []

-- BEGIN { print $1048577 }
abbrev pub field_past_limit : List Item
field_past_limit = (tree.Begin (tree.And (tree.Simple
    (tree.Put tree.Print (tree.Listed (tree.Then (tree.Field (tree.Leaf (token.Number (codes "1048577")))) tree.NoTree)) tree.NoTarget)) tree.NoStmt))
    ∷ []

-- BEGIN { print $(-1) }
abbrev pub field_below_zero : List Item
field_below_zero = (tree.Begin (tree.And (tree.Simple
    (tree.Put tree.Print (tree.Listed
    (tree.Then (tree.Field (tree.Group
    (tree.Unary (token.Signed token.Minus) (tree.Leaf (token.Number (codes "1")))))) tree.NoTree)) tree.NoTarget)) tree.NoStmt)) ∷ []

-- BEGIN { printf "%s", "x"; exit -1 }
abbrev pub status_modulo : List Item
status_modulo = (tree.Begin (tree.And (tree.Simple (tree.Put tree.Printf (tree.Listed (tree.Then (tree.Leaf (token.Quoted (34 ∷ 37 ∷ 115 ∷ 34
    ∷ []))) (tree.Then (tree.Leaf (token.Quoted (34 ∷ 120 ∷ 34
    ∷ []))) tree.NoTree))) tree.NoTarget))
    (tree.And (tree.Leave tree.Exit (Some (tree.Unary (token.Signed token.Minus) (tree.Leaf (token.Number (codes "1")))))) tree.NoStmt))) ∷ []

-- function f() { } BEGIN { print 1 }
abbrev pub function_assigned : List Item
function_assigned = (tree.Function (codes "f") [] tree.NoStmt)
    ∷ (tree.Begin (tree.And (tree.Simple
    (tree.Put tree.Print (tree.Listed (tree.Then (tree.Leaf (token.Number (codes "1"))) tree.NoTree)) tree.NoTarget)) tree.NoStmt)) ∷ []

-- BEGIN { print "x" > "d" }
abbrev pub file_that_does_not_open : List Item
file_that_does_not_open = (tree.Begin (tree.And (tree.Simple (tree.Put tree.Print (tree.Listed (tree.Then (tree.Leaf (token.Quoted (34 ∷ 120 ∷ 34
    ∷ []))) tree.NoTree)) (tree.Written (tree.Leaf (token.Quoted (34 ∷ 100 ∷ 34 ∷ [])))))) tree.NoStmt)) ∷ []

-- { print ($1 == 1), ($1 == "1"), (u == 0), (u == "") }
abbrev pub numeric_strings : List Item
numeric_strings = (tree.Always (tree.And (tree.Simple
    (tree.Put tree.Print (tree.Listed
    (tree.Then (tree.Group (tree.Bin (tree.Other (token.Compare token.Equal)) (tree.Field (tree.Leaf (token.Number (codes "1"))))
    (tree.Leaf (token.Number (codes "1")))))
    (tree.Then (tree.Group (tree.Bin (tree.Other (token.Compare token.Equal)) (tree.Field (tree.Leaf (token.Number (codes "1"))))
    (tree.Leaf (token.Quoted (34 ∷ 49 ∷ 34
    ∷ []))))) (tree.Then (tree.Group (tree.Bin (tree.Other (token.Compare token.Equal)) (tree.Var (codes "u"))
    (tree.Leaf (token.Number (codes "0")))))
    (tree.Then (tree.Group (tree.Bin (tree.Other (token.Compare token.Equal)) (tree.Var (codes "u")) (tree.Leaf (token.Quoted (34 ∷ 34
    ∷ []))))) tree.NoTree))))) tree.NoTarget)) tree.NoStmt)) ∷ []

-- NR == 1 { getline; print; getline x; print x, NR, $0 }
abbrev pub getline_in_loop : List Item
getline_in_loop = (tree.When (tree.One (tree.Bin (tree.Other (token.Compare token.Equal)) (tree.Var (codes "NR"))
    (tree.Leaf (token.Number (codes "1")))))
    (tree.And (tree.Simple (tree.Eval tree.Get)) (tree.And (tree.Simple (tree.Put tree.Print tree.NoArgs tree.NoTarget))
    (tree.And (tree.Simple (tree.Eval (tree.GetInto (tree.Var (codes "x")))))
    (tree.And (tree.Simple (tree.Put tree.Print
    (tree.Listed (tree.Then (tree.Var (codes "x"))
    (tree.Then (tree.Var (codes "NR")) (tree.Then (tree.Field (tree.Leaf (token.Number (codes "0")))) tree.NoTree)))) tree.NoTarget)) tree.NoStmt)))))
    ∷ []

-- /b/, /c/; /b/, /b/ { print NR }
abbrev pub ranges : List Item
ranges = (tree.Lone (tree.Between (tree.Leaf (token.Ere (codes "/b/"))) (tree.Leaf (token.Ere (codes "/c/")))))
    ∷ (tree.When (tree.Between (tree.Leaf (token.Ere (codes "/b/"))) (tree.Leaf (token.Ere (codes "/b/"))))
    (tree.And (tree.Simple (tree.Put tree.Print (tree.Listed (tree.Then (tree.Var (codes "NR")) tree.NoTree)) tree.NoTarget)) tree.NoStmt)) ∷ []

-- BEGIN { print substr("hello", 0, 3), substr("hello", -1), substr("hello", 4, 99), index("hello", "l"), split("a:b::c", p, ":"), "[" p[3] "]",
-- toupper("ab") tolower("CD") }
abbrev pub text_functions : List Item
text_functions = (tree.Begin (tree.And (tree.Simple
    (tree.Put tree.Print (tree.Listed (tree.Then (tree.Apply builtin.Substr (tree.Then (tree.Leaf (token.Quoted (34 ∷ 104 ∷ 101 ∷ 108 ∷ 108 ∷ 111 ∷ 34
    ∷ []))) (tree.Then (tree.Leaf (token.Number (codes "0"))) (tree.Then (tree.Leaf (token.Number (codes "3"))) tree.NoTree))))
    (tree.Then (tree.Apply builtin.Substr (tree.Then (tree.Leaf (token.Quoted (34 ∷ 104 ∷ 101 ∷ 108 ∷ 108 ∷ 111 ∷ 34
    ∷ []))) (tree.Then (tree.Unary (token.Signed token.Minus) (tree.Leaf (token.Number (codes "1")))) tree.NoTree)))
    (tree.Then (tree.Apply builtin.Substr (tree.Then (tree.Leaf (token.Quoted (34 ∷ 104 ∷ 101 ∷ 108 ∷ 108 ∷ 111 ∷ 34
    ∷ []))) (tree.Then (tree.Leaf (token.Number (codes "4"))) (tree.Then (tree.Leaf (token.Number (codes "99"))) tree.NoTree))))
    (tree.Then (tree.Apply builtin.Index (tree.Then (tree.Leaf (token.Quoted (34 ∷ 104 ∷ 101 ∷ 108 ∷ 108 ∷ 111 ∷ 34
    ∷ []))) (tree.Then (tree.Leaf (token.Quoted (34 ∷ 108 ∷ 34
    ∷ []))) tree.NoTree))) (tree.Then (tree.Apply builtin.Split (tree.Then (tree.Leaf (token.Quoted (34 ∷ 97 ∷ 58 ∷ 98 ∷ 58 ∷ 58 ∷ 99 ∷ 34
    ∷ []))) (tree.Then (tree.Var (codes "p")) (tree.Then (tree.Leaf (token.Quoted (34 ∷ 58 ∷ 34
    ∷ []))) tree.NoTree)))) (tree.Then (tree.Bin tree.Join (tree.Bin tree.Join (tree.Leaf (token.Quoted (34 ∷ 91 ∷ 34
    ∷ []))) (tree.Index (codes "p") (tree.Then (tree.Leaf (token.Number (codes "3"))) tree.NoTree))) (tree.Leaf (token.Quoted (34 ∷ 93 ∷ 34
    ∷ [])))) (tree.Then (tree.Bin tree.Join (tree.Apply builtin.ToUpper (tree.Then (tree.Leaf (token.Quoted (34 ∷ 97 ∷ 98 ∷ 34
    ∷ []))) tree.NoTree)) (tree.Apply builtin.ToLower (tree.Then (tree.Leaf (token.Quoted (34 ∷ 67 ∷ 68 ∷ 34
    ∷ []))) tree.NoTree))) tree.NoTree)))))))) tree.NoTarget)) tree.NoStmt)) ∷ []

-- BEGIN { n = 1; print n ++ 2; print "a" ++n; x = 1 + 2 " " 3; print x; print 1==1, 2 ^ 3 ^ 2, -2 ^ 2, !1 + 1 }
abbrev pub steps_and_powers : List Item
steps_and_powers = (tree.Begin (tree.And (tree.Simple
    (tree.Eval (tree.Bin (tree.Other (token.Assign token.Set)) (tree.Var (codes "n")) (tree.Leaf (token.Number (codes "1"))))))
    (tree.And (tree.Simple (tree.Put tree.Print
    (tree.Listed (tree.Then (tree.Bin tree.Join (tree.Post token.Increment (tree.Var (codes "n")))
    (tree.Leaf (token.Number (codes "2")))) tree.NoTree)) tree.NoTarget))
    (tree.And (tree.Simple (tree.Put tree.Print (tree.Listed (tree.Then (tree.Bin tree.Join (tree.Leaf (token.Quoted (34 ∷ 97 ∷ 34
    ∷ []))) (tree.Pre token.Increment (tree.Var (codes "n")))) tree.NoTree)) tree.NoTarget))
    (tree.And (tree.Simple (tree.Eval (tree.Bin (tree.Other (token.Assign token.Set)) (tree.Var (codes "x"))
    (tree.Bin tree.Join (tree.Bin tree.Join (tree.Bin (tree.Add token.Plus) (tree.Leaf (token.Number (codes "1")))
    (tree.Leaf (token.Number (codes "2")))) (tree.Leaf (token.Quoted (34 ∷ 32 ∷ 34
    ∷ [])))) (tree.Leaf (token.Number (codes "3")))))))
    (tree.And (tree.Simple (tree.Put tree.Print (tree.Listed (tree.Then (tree.Var (codes "x")) tree.NoTree)) tree.NoTarget))
    (tree.And (tree.Simple (tree.Put tree.Print
    (tree.Listed (tree.Then (tree.Bin (tree.Other (token.Compare token.Equal)) (tree.Leaf (token.Number (codes "1")))
    (tree.Leaf (token.Number (codes "1"))))
    (tree.Then (tree.Bin (tree.Other token.Pow) (tree.Leaf (token.Number (codes "2")))
    (tree.Bin (tree.Other token.Pow) (tree.Leaf (token.Number (codes "3"))) (tree.Leaf (token.Number (codes "2")))))
    (tree.Then (tree.Unary (token.Signed token.Minus) (tree.Bin (tree.Other token.Pow) (tree.Leaf (token.Number (codes "2")))
    (tree.Leaf (token.Number (codes "2")))))
    (tree.Then (tree.Bin (tree.Add token.Plus) (tree.Unary token.Not (tree.Leaf (token.Number (codes "1"))))
    (tree.Leaf (token.Number (codes "1")))) tree.NoTree))))) tree.NoTarget)) tree.NoStmt))))))) ∷ []

-- BEGIN { print "a", 1 / 0 }
abbrev pub no_output_before_a_fault : List Item
no_output_before_a_fault = (tree.Begin (tree.And (tree.Simple (tree.Put tree.Print (tree.Listed (tree.Then (tree.Leaf (token.Quoted (34 ∷ 97 ∷ 34
    ∷ []))) (tree.Then (tree.Bin (tree.Other (token.Mul token.Over)) (tree.Leaf (token.Number (codes "1")))
    (tree.Leaf (token.Number (codes "0")))) tree.NoTree))) tree.NoTarget)) tree.NoStmt)) ∷ []

-- BEGIN { while (1) print "y" }
abbrev pub turns_end : List Item
turns_end = (tree.Begin (tree.And (tree.While (tree.Leaf (token.Number (codes "1")))
    (tree.Simple (tree.Put tree.Print (tree.Listed (tree.Then (tree.Leaf (token.Quoted (34 ∷ 121 ∷ 34
    ∷ []))) tree.NoTree)) tree.NoTarget))) tree.NoStmt)) ∷ []

-- BEGIN { for (;;) if (i++ > 2) break; print i }
abbrev pub test_left_out_costs_a_turn : List Item
test_left_out_costs_a_turn = (tree.Begin (tree.And
    (tree.For None None None (tree.If (tree.Bin (tree.Other (token.Compare token.Greater)) (tree.Post token.Increment (tree.Var (codes "i")))
    (tree.Leaf (token.Number (codes "2")))) (tree.Jumping tree.Break)))
    (tree.And (tree.Simple (tree.Put tree.Print (tree.Listed (tree.Then (tree.Var (codes "i")) tree.NoTree)) tree.NoTarget)) tree.NoStmt))) ∷ []

-- function f() { printf "f"; return 1 } BEGIN { print "0.5" + f() }
abbrev pub operands_before_conversions : List Item
operands_before_conversions = (tree.Function (codes "f") []
    (tree.And (tree.Simple (tree.Put tree.Printf (tree.Listed (tree.Then (tree.Leaf (token.Quoted (34 ∷ 102 ∷ 34
    ∷ []))) tree.NoTree)) tree.NoTarget)) (tree.And (tree.Leave tree.Return (Some (tree.Leaf (token.Number (codes "1"))))) tree.NoStmt)))
    ∷ (tree.Begin (tree.And (tree.Simple (tree.Put tree.Print (tree.Listed (tree.Then (tree.Bin (tree.Add token.Plus) (tree.Leaf (token.Quoted (34
    ∷ 48 ∷ 46 ∷ 53 ∷ 34 ∷ []))) (tree.Call (codes "f") tree.NoTree)) tree.NoTree)) tree.NoTarget)) tree.NoStmt)) ∷ []

-- BEGIN { x = 1; x += x++; print x; y = "0.5"; y += "1e99" }
abbrev pub old_value_after_right_side : List Item
old_value_after_right_side = (tree.Begin (tree.And
    (tree.Simple (tree.Eval (tree.Bin (tree.Other (token.Assign token.Set)) (tree.Var (codes "x")) (tree.Leaf (token.Number (codes "1"))))))
    (tree.And (tree.Simple (tree.Eval (tree.Bin (tree.Other (token.Assign (token.SetSum token.Plus))) (tree.Var (codes "x"))
    (tree.Post token.Increment (tree.Var (codes "x"))))))
    (tree.And (tree.Simple (tree.Put tree.Print (tree.Listed (tree.Then (tree.Var (codes "x")) tree.NoTree)) tree.NoTarget))
    (tree.And (tree.Simple (tree.Eval (tree.Bin (tree.Other (token.Assign token.Set)) (tree.Var (codes "y")) (tree.Leaf (token.Quoted (34 ∷ 48 ∷ 46
    ∷ 53 ∷ 34 ∷ [])))))) (tree.And (tree.Simple
    (tree.Eval (tree.Bin (tree.Other (token.Assign (token.SetSum token.Plus))) (tree.Var (codes "y")) (tree.Leaf (token.Quoted (34 ∷ 49 ∷ 101 ∷ 57
    ∷ 57 ∷ 34 ∷ [])))))) tree.NoStmt)))))) ∷ []

-- function f() { printf "f" } BEGIN { $(-1) = f() }
abbrev pub field_checked_first : List Item
field_checked_first = (tree.Function (codes "f") [] (tree.And (tree.Simple (tree.Put tree.Printf (tree.Listed (tree.Then (tree.Leaf (token.Quoted (34
    ∷ 102 ∷ 34 ∷ []))) tree.NoTree)) tree.NoTarget)) tree.NoStmt))
    ∷ (tree.Begin (tree.And (tree.Simple
    (tree.Eval (tree.Bin (tree.Other (token.Assign token.Set))
    (tree.Field (tree.Group (tree.Unary (token.Signed token.Minus) (tree.Leaf (token.Number (codes "1"))))))
    (tree.Call (codes "f") tree.NoTree)))) tree.NoStmt)) ∷ []

-- BEGIN { a["x"] = a["y"]; for (k in a) print k; b["k"] = ("k" in b); print b["k"] }
abbrev pub element_made_last : List Item
element_made_last = (tree.Begin (tree.And (tree.Simple
    (tree.Eval (tree.Bin (tree.Other (token.Assign token.Set)) (tree.Index (codes "a") (tree.Then (tree.Leaf (token.Quoted (34 ∷ 120 ∷ 34
    ∷ []))) tree.NoTree)) (tree.Index (codes "a") (tree.Then (tree.Leaf (token.Quoted (34 ∷ 121 ∷ 34
    ∷ []))) tree.NoTree))))) (tree.And
    (tree.ForIn (codes "k") (codes "a")
    (tree.Simple (tree.Put tree.Print (tree.Listed (tree.Then (tree.Var (codes "k")) tree.NoTree)) tree.NoTarget)))
    (tree.And (tree.Simple (tree.Eval (tree.Bin (tree.Other (token.Assign token.Set)) (tree.Index (codes "b") (tree.Then (tree.Leaf (token.Quoted (34
    ∷ 107 ∷ 34 ∷ []))) tree.NoTree)) (tree.Group (tree.Has (tree.Leaf (token.Quoted (34 ∷ 107 ∷ 34
    ∷ []))) (codes "b")))))) (tree.And
    (tree.Simple (tree.Put tree.Print (tree.Listed (tree.Then (tree.Index (codes "b") (tree.Then (tree.Leaf (token.Quoted (34 ∷ 107 ∷ 34
    ∷ []))) tree.NoTree)) tree.NoTree)) tree.NoTarget)) tree.NoStmt))))) ∷ []

-- BEGIN { a[1, 2, SUBSEP = "-"] = 5; for (k in a) print k; print ((1, 2, "-") in a) }
abbrev pub subscripts_joined : List Item
subscripts_joined = (tree.Begin (tree.And (tree.Simple
    (tree.Eval (tree.Bin (tree.Other (token.Assign token.Set))
    (tree.Index (codes "a") (tree.Then (tree.Leaf (token.Number (codes "1")))
    (tree.Then (tree.Leaf (token.Number (codes "2")))
    (tree.Then (tree.Bin (tree.Other (token.Assign token.Set)) (tree.Var (codes "SUBSEP")) (tree.Leaf (token.Quoted (34 ∷ 45 ∷ 34
    ∷ [])))) tree.NoTree)))) (tree.Leaf (token.Number (codes "5"))))))
    (tree.And (tree.ForIn (codes "k") (codes "a")
    (tree.Simple (tree.Put tree.Print (tree.Listed (tree.Then (tree.Var (codes "k")) tree.NoTree)) tree.NoTarget)))
    (tree.And (tree.Simple (tree.Put tree.Print
    (tree.Listed (tree.Then (tree.Group
    (tree.HasList (tree.Leaf (token.Number (codes "1"))) (tree.Then (tree.Leaf (token.Number (codes "2"))) (tree.Then (tree.Leaf (token.Quoted (34
    ∷ 45 ∷ 34 ∷ []))) tree.NoTree)) (codes "a"))) tree.NoTree)) tree.NoTarget)) tree.NoStmt)))) ∷ []

-- function f(a, n, own) { own[1] = n; a["k"] = own[1]; n = 9; return length(own[1]) } BEGIN { n = 12; print f(t, n), t["k"], n }
abbrev pub arrays_by_reference : List Item
arrays_by_reference = (tree.Function (codes "f") ((codes "a") ∷ (codes "n") ∷ (codes "own")
    ∷ []) (tree.And (tree.Simple (tree.Eval
    (tree.Bin (tree.Other (token.Assign token.Set)) (tree.Index (codes "own") (tree.Then (tree.Leaf (token.Number (codes "1"))) tree.NoTree))
    (tree.Var (codes "n"))))) (tree.And
    (tree.Simple (tree.Eval (tree.Bin (tree.Other (token.Assign token.Set)) (tree.Index (codes "a") (tree.Then (tree.Leaf (token.Quoted (34 ∷ 107 ∷ 34
    ∷ []))) tree.NoTree)) (tree.Index (codes "own") (tree.Then (tree.Leaf (token.Number (codes "1"))) tree.NoTree)))))
    (tree.And (tree.Simple (tree.Eval (tree.Bin (tree.Other (token.Assign token.Set)) (tree.Var (codes "n")) (tree.Leaf (token.Number (codes "9"))))))
    (tree.And (tree.Leave tree.Return
    (Some (tree.Apply builtin.Length
    (tree.Then (tree.Index (codes "own") (tree.Then (tree.Leaf (token.Number (codes "1"))) tree.NoTree)) tree.NoTree)))) tree.NoStmt)))))
    ∷ (tree.Begin (tree.And (tree.Simple
    (tree.Eval (tree.Bin (tree.Other (token.Assign token.Set)) (tree.Var (codes "n")) (tree.Leaf (token.Number (codes "12"))))))
    (tree.And (tree.Simple (tree.Put tree.Print
    (tree.Listed (tree.Then (tree.Call (codes "f") (tree.Then (tree.Var (codes "t")) (tree.Then (tree.Var (codes "n")) tree.NoTree)))
    (tree.Then (tree.Index (codes "t") (tree.Then (tree.Leaf (token.Quoted (34 ∷ 107 ∷ 34
    ∷ []))) tree.NoTree)) (tree.Then (tree.Var (codes "n")) tree.NoTree)))) tree.NoTarget)) tree.NoStmt))) ∷ []

-- BEGIN { do { i++; if (i == 2) continue; if (i == 4) break; print i } while (i < 9); for (j = 0; j < 3; j++) { if (j == 1) continue; print j } }
abbrev pub do_and_continue : List Item
do_and_continue = (tree.Begin (tree.And (tree.Do
    (tree.Block (tree.And (tree.Simple (tree.Eval (tree.Post token.Increment (tree.Var (codes "i")))))
    (tree.And (tree.If (tree.Bin (tree.Other (token.Compare token.Equal)) (tree.Var (codes "i")) (tree.Leaf (token.Number (codes "2"))))
    (tree.Jumping tree.Continue)) (tree.And
    (tree.If (tree.Bin (tree.Other (token.Compare token.Equal)) (tree.Var (codes "i")) (tree.Leaf (token.Number (codes "4"))))
    (tree.Jumping tree.Break)) (tree.And
    (tree.Simple (tree.Put tree.Print (tree.Listed (tree.Then (tree.Var (codes "i")) tree.NoTree)) tree.NoTarget)) tree.NoStmt)))))
    (tree.Bin (tree.Other (token.Compare token.Less)) (tree.Var (codes "i")) (tree.Leaf (token.Number (codes "9")))))
    (tree.And tree.Empty (tree.And (tree.For
    (Some (tree.Eval (tree.Bin (tree.Other (token.Assign token.Set)) (tree.Var (codes "j")) (tree.Leaf (token.Number (codes "0"))))))
    (Some (tree.Bin (tree.Other (token.Compare token.Less)) (tree.Var (codes "j")) (tree.Leaf (token.Number (codes "3")))))
    (Some (tree.Eval (tree.Post token.Increment (tree.Var (codes "j")))))
    (tree.Block (tree.And (tree.If (tree.Bin (tree.Other (token.Compare token.Equal)) (tree.Var (codes "j")) (tree.Leaf (token.Number (codes "1"))))
    (tree.Jumping tree.Continue)) (tree.And
    (tree.Simple (tree.Put tree.Print (tree.Listed (tree.Then (tree.Var (codes "j")) tree.NoTree)) tree.NoTarget)) tree.NoStmt)))) tree.NoStmt))))
    ∷ []

-- BEGIN { exit 2 } END { print "e"; exit; print "no" }
abbrev pub exit_in_end : List Item
exit_in_end = (tree.Begin (tree.And (tree.Leave tree.Exit (Some (tree.Leaf (token.Number (codes "2"))))) tree.NoStmt))
    ∷ (tree.End (tree.And (tree.Simple (tree.Put tree.Print (tree.Listed (tree.Then (tree.Leaf (token.Quoted (34 ∷ 101 ∷ 34
    ∷ []))) tree.NoTree)) tree.NoTarget))
    (tree.And (tree.Leave tree.Exit None) (tree.And (tree.Simple (tree.Put tree.Print (tree.Listed (tree.Then (tree.Leaf (token.Quoted (34 ∷ 110 ∷ 111
    ∷ 34 ∷ []))) tree.NoTree)) tree.NoTarget)) tree.NoStmt)))) ∷ []

-- END { print getline, getline x, x "", NR }
abbrev pub getline_at_end : List Item
getline_at_end = (tree.End (tree.And (tree.Simple
    (tree.Put tree.Print (tree.Listed
    (tree.Then tree.Get (tree.Then (tree.GetInto (tree.Var (codes "x")))
    (tree.Then (tree.Bin tree.Join (tree.Var (codes "x")) (tree.Leaf (token.Quoted (34 ∷ 34
    ∷ [])))) (tree.Then (tree.Var (codes "NR")) tree.NoTree))))) tree.NoTarget)) tree.NoStmt)) ∷ []

-- function k() { printf "k"; return "q" } BEGIN { a["q"] = "aXb"; n = sub(/X/, "[&]", a[k()]); print n, a["q"] }
abbrev pub sub_keeps_key : List Item
sub_keeps_key = (tree.Function (codes "k") [] (tree.And (tree.Simple (tree.Put tree.Printf (tree.Listed (tree.Then (tree.Leaf (token.Quoted (34 ∷ 107
    ∷ 34 ∷ []))) tree.NoTree)) tree.NoTarget)) (tree.And (tree.Leave tree.Return (Some (tree.Leaf (token.Quoted (34 ∷ 113 ∷ 34
    ∷ []))))) tree.NoStmt))) ∷ (tree.Begin
    (tree.And (tree.Simple (tree.Eval (tree.Bin (tree.Other (token.Assign token.Set)) (tree.Index (codes "a") (tree.Then (tree.Leaf (token.Quoted (34
    ∷ 113 ∷ 34 ∷ []))) tree.NoTree)) (tree.Leaf (token.Quoted (34 ∷ 97 ∷ 88 ∷ 98 ∷ 34
    ∷ [])))))) (tree.And (tree.Simple
    (tree.Eval (tree.Bin (tree.Other (token.Assign token.Set)) (tree.Var (codes "n"))
    (tree.Apply builtin.Sub (tree.Then (tree.Leaf (token.Ere (codes "/X/"))) (tree.Then (tree.Leaf (token.Quoted (34 ∷ 91 ∷ 38 ∷ 93 ∷ 34
    ∷ []))) (tree.Then (tree.Index (codes "a") (tree.Then (tree.Call (codes "k") tree.NoTree) tree.NoTree)) tree.NoTree)))))))
    (tree.And (tree.Simple (tree.Put tree.Print
    (tree.Listed (tree.Then (tree.Var (codes "n")) (tree.Then (tree.Index (codes "a") (tree.Then (tree.Leaf (token.Quoted (34 ∷ 113 ∷ 34
    ∷ []))) tree.NoTree)) tree.NoTree))) tree.NoTarget)) tree.NoStmt)))) ∷ []

-- BEGIN { $0 = "a b"; print > ($0 = "f") }
abbrev pub target_after_operands : List Item
target_after_operands = (tree.Begin (tree.And
    (tree.Simple (tree.Eval (tree.Bin (tree.Other (token.Assign token.Set)) (tree.Field (tree.Leaf (token.Number (codes "0"))))
    (tree.Leaf (token.Quoted (34 ∷ 97 ∷ 32 ∷ 98 ∷ 34
    ∷ [])))))) (tree.And (tree.Simple
    (tree.Put tree.Print tree.NoArgs
    (tree.Written (tree.Group (tree.Bin (tree.Other (token.Assign token.Set)) (tree.Field (tree.Leaf (token.Number (codes "0"))))
    (tree.Leaf (token.Quoted (34 ∷ 102 ∷ 34 ∷ [])))))))) tree.NoStmt))) ∷ []
