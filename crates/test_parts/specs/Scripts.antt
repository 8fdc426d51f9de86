-- Scripts, as trees.
use Rattle.std.specs.Prelude.{List, [], ◌∷◌, codes, Some, None}
use Rattle.awk_tokens.specs.declared.reserved_words.Builtin.TheVariants as builtin
use Rattle.awk_grammar.specs.Token as token
use Rattle.awk_grammar.specs.Trees as tree
use Rattle.awk_grammar.specs.Trees.{Item}

-- function f() { x = 5; return 1 } BEGIN { x = 1; print x + f(), x; x = 1; print x f() x; x = 1; x += f(); print x }
abbrev pub name_read_when_met : List Item
name_read_when_met = (tree.Function (codes "f") []
    (tree.And (tree.Simple (tree.Eval (tree.Bin (tree.Other (token.Assign token.Set)) (tree.Var (codes "x")) (tree.Leaf (token.Number (codes "5"))))))
    (tree.And (tree.Leave tree.Return (Some (tree.Leaf (token.Number (codes "1"))))) tree.NoStmt)))
    ∷ (tree.Begin (tree.And (tree.Simple
    (tree.Eval (tree.Bin (tree.Other (token.Assign token.Set)) (tree.Var (codes "x")) (tree.Leaf (token.Number (codes "1"))))))
    (tree.And (tree.Simple (tree.Put tree.Print
    (tree.Listed (tree.Then (tree.Bin (tree.Add token.Plus) (tree.Var (codes "x")) (tree.Call (codes "f") tree.NoTree))
    (tree.Then (tree.Var (codes "x")) tree.NoTree))) tree.NoTarget))
    (tree.And (tree.Simple (tree.Eval (tree.Bin (tree.Other (token.Assign token.Set)) (tree.Var (codes "x")) (tree.Leaf (token.Number (codes "1"))))))
    (tree.And (tree.Simple (tree.Put tree.Print
    (tree.Listed (tree.Then (tree.Bin tree.Join (tree.Bin tree.Join (tree.Var (codes "x")) (tree.Call (codes "f") tree.NoTree))
    (tree.Var (codes "x"))) tree.NoTree)) tree.NoTarget))
    (tree.And (tree.Simple (tree.Eval (tree.Bin (tree.Other (token.Assign token.Set)) (tree.Var (codes "x")) (tree.Leaf (token.Number (codes "1"))))))
    (tree.And (tree.Simple (tree.Eval (tree.Bin (tree.Other (token.Assign (token.SetSum token.Plus))) (tree.Var (codes "x"))
    (tree.Call (codes "f") tree.NoTree))))
    (tree.And (tree.Simple (tree.Put tree.Print (tree.Listed (tree.Then (tree.Var (codes "x")) tree.NoTree)) tree.NoTarget)) tree.NoStmt)))))))) ∷ []

-- { print $1, (getline), $1, NF, NR }
abbrev pub getline_among_operands : List Item
getline_among_operands = (tree.Always (tree.And
    (tree.Simple (tree.Put tree.Print
    (tree.Listed (tree.Then (tree.Field (tree.Leaf (token.Number (codes "1"))))
    (tree.Then (tree.Group tree.Get)
    (tree.Then (tree.Field (tree.Leaf (token.Number (codes "1"))))
    (tree.Then (tree.Var (codes "NF")) (tree.Then (tree.Var (codes "NR")) tree.NoTree)))))) tree.NoTarget)) tree.NoStmt)) ∷ []

-- BEGIN { print (NF = "02"), NF, ($0 = 5) + 1, $1, NF }
abbrev pub value_of_special_assignment : List Item
value_of_special_assignment = (tree.Begin (tree.And
    (tree.Simple (tree.Put tree.Print
    (tree.Listed (tree.Then (tree.Group (tree.Bin (tree.Other (token.Assign token.Set)) (tree.Var (codes "NF")) (tree.Leaf (token.Quoted (34 ∷ 48 ∷ 50
    ∷ 34 ∷ []))))) (tree.Then (tree.Var (codes "NF"))
    (tree.Then (tree.Bin (tree.Add token.Plus)
    (tree.Group (tree.Bin (tree.Other (token.Assign token.Set)) (tree.Field (tree.Leaf (token.Number (codes "0"))))
    (tree.Leaf (token.Number (codes "5"))))) (tree.Leaf (token.Number (codes "1"))))
    (tree.Then (tree.Field (tree.Leaf (token.Number (codes "1")))) (tree.Then (tree.Var (codes "NF")) tree.NoTree)))))) tree.NoTarget)) tree.NoStmt))
    ∷ []

-- BEGIN { a[3]; a["x"]; $0 = "p q"; for (NF in a) print NF, $0 "." }
abbrev pub count_as_key : List Item
count_as_key = (tree.Begin (tree.And (tree.Simple (tree.Eval (tree.Index (codes "a") (tree.Then (tree.Leaf (token.Number (codes "3"))) tree.NoTree))))
    (tree.And (tree.Simple (tree.Eval (tree.Index (codes "a") (tree.Then (tree.Leaf (token.Quoted (34 ∷ 120 ∷ 34
    ∷ []))) tree.NoTree)))) (tree.And
    (tree.Simple (tree.Eval (tree.Bin (tree.Other (token.Assign token.Set)) (tree.Field (tree.Leaf (token.Number (codes "0"))))
    (tree.Leaf (token.Quoted (34 ∷ 112 ∷ 32 ∷ 113 ∷ 34
    ∷ [])))))) (tree.And (tree.ForIn (codes "NF") (codes "a")
    (tree.Simple (tree.Put tree.Print
    (tree.Listed (tree.Then (tree.Var (codes "NF"))
    (tree.Then (tree.Bin tree.Join (tree.Field (tree.Leaf (token.Number (codes "0")))) (tree.Leaf (token.Quoted (34 ∷ 46 ∷ 34
    ∷ [])))) tree.NoTree))) tree.NoTarget))) tree.NoStmt))))) ∷ []

-- BEGIN { a["-1"]; for (NF in a) print "no" }
abbrev pub key_below_zero_as_count : List Item
key_below_zero_as_count = (tree.Begin (tree.And (tree.Simple (tree.Eval (tree.Index (codes "a") (tree.Then (tree.Leaf (token.Quoted (34 ∷ 45 ∷ 49 ∷ 34
    ∷ []))) tree.NoTree)))) (tree.And
    (tree.ForIn (codes "NF") (codes "a") (tree.Simple (tree.Put tree.Print (tree.Listed (tree.Then (tree.Leaf (token.Quoted (34 ∷ 110 ∷ 111 ∷ 34
    ∷ []))) tree.NoTree)) tree.NoTarget))) tree.NoStmt))) ∷ []

-- BEGIN { x = 2; x ^= x += 1; print x; a["i"] -= a["j"]--; for (k in a) print k a[k]; $2 *= 4; $3 %= NF; print NF $0 }
abbrev pub operators_with_assignment : List Item
operators_with_assignment = (tree.Begin (tree.And
    (tree.Simple (tree.Eval (tree.Bin (tree.Other (token.Assign token.Set)) (tree.Var (codes "x")) (tree.Leaf (token.Number (codes "2"))))))
    (tree.And (tree.Simple (tree.Eval (tree.Bin (tree.Other (token.Assign token.SetPower)) (tree.Var (codes "x"))
    (tree.Bin (tree.Other (token.Assign (token.SetSum token.Plus))) (tree.Var (codes "x")) (tree.Leaf (token.Number (codes "1")))))))
    (tree.And (tree.Simple (tree.Put tree.Print (tree.Listed (tree.Then (tree.Var (codes "x")) tree.NoTree)) tree.NoTarget))
    (tree.And (tree.Simple (tree.Eval
    (tree.Bin (tree.Other (token.Assign (token.SetSum token.Minus))) (tree.Index (codes "a") (tree.Then (tree.Leaf (token.Quoted (34 ∷ 105 ∷ 34
    ∷ []))) tree.NoTree)) (tree.Post token.Decrement (tree.Index (codes "a") (tree.Then (tree.Leaf (token.Quoted (34 ∷ 106 ∷ 34
    ∷ []))) tree.NoTree)))))) (tree.And
    (tree.ForIn (codes "k") (codes "a")
    (tree.Simple (tree.Put tree.Print
    (tree.Listed (tree.Then (tree.Bin tree.Join (tree.Var (codes "k"))
    (tree.Index (codes "a") (tree.Then (tree.Var (codes "k")) tree.NoTree))) tree.NoTree)) tree.NoTarget)))
    (tree.And (tree.Simple (tree.Eval
    (tree.Bin (tree.Other (token.Assign (token.SetProduct token.Times))) (tree.Field (tree.Leaf (token.Number (codes "2"))))
    (tree.Leaf (token.Number (codes "4"))))))
    (tree.And (tree.Simple (tree.Eval
    (tree.Bin (tree.Other (token.Assign (token.SetProduct token.Modulo))) (tree.Field (tree.Leaf (token.Number (codes "3"))))
    (tree.Var (codes "NF"))))) (tree.And
    (tree.Simple (tree.Put tree.Print
    (tree.Listed (tree.Then (tree.Bin tree.Join (tree.Var (codes "NF"))
    (tree.Field (tree.Leaf (token.Number (codes "0"))))) tree.NoTree)) tree.NoTarget)) tree.NoStmt))))))))) ∷ []

-- BEGIN { i = 2; $0 = "1 5 c"; print $i++, $2, i, ++$i, $0, $(i++) = i, $0, i }
abbrev pub steps_in_fields : List Item
steps_in_fields = (tree.Begin (tree.And (tree.Simple
    (tree.Eval (tree.Bin (tree.Other (token.Assign token.Set)) (tree.Var (codes "i")) (tree.Leaf (token.Number (codes "2"))))))
    (tree.And (tree.Simple (tree.Eval (tree.Bin (tree.Other (token.Assign token.Set)) (tree.Field (tree.Leaf (token.Number (codes "0"))))
    (tree.Leaf (token.Quoted (34 ∷ 49 ∷ 32 ∷ 53 ∷ 32 ∷ 99 ∷ 34
    ∷ [])))))) (tree.And (tree.Simple
    (tree.Put tree.Print (tree.Listed (tree.Then (tree.Post token.Increment (tree.Field (tree.Var (codes "i"))))
    (tree.Then (tree.Field (tree.Leaf (token.Number (codes "2"))))
    (tree.Then (tree.Var (codes "i")) (tree.Then (tree.Pre token.Increment (tree.Field (tree.Var (codes "i"))))
    (tree.Then (tree.Field (tree.Leaf (token.Number (codes "0"))))
    (tree.Then (tree.Bin (tree.Other (token.Assign token.Set)) (tree.Field (tree.Group (tree.Post token.Increment (tree.Var (codes "i")))))
    (tree.Var (codes "i"))) (tree.Then (tree.Field (tree.Leaf (token.Number (codes "0"))))
    (tree.Then (tree.Var (codes "i")) tree.NoTree))))))))) tree.NoTarget)) tree.NoStmt)))) ∷ []

-- BEGIN { print (NR = "4") (NR += 1) NR++ NR }
abbrev pub special_steps : List Item
special_steps = (tree.Begin (tree.And (tree.Simple
    (tree.Put tree.Print (tree.Listed
    (tree.Then (tree.Bin tree.Join (tree.Bin tree.Join
    (tree.Bin tree.Join (tree.Group (tree.Bin (tree.Other (token.Assign token.Set)) (tree.Var (codes "NR")) (tree.Leaf (token.Quoted (34 ∷ 52 ∷ 34
    ∷ []))))) (tree.Group (tree.Bin (tree.Other (token.Assign (token.SetSum token.Plus))) (tree.Var (codes "NR"))
    (tree.Leaf (token.Number (codes "1")))))) (tree.Post token.Increment (tree.Var (codes "NR"))))
    (tree.Var (codes "NR"))) tree.NoTree)) tree.NoTarget)) tree.NoStmt)) ∷ []

-- BEGIN { while ((getline a[n++]) > 0) ; print n, a[0], (1 in a), (2 in a) }
abbrev pub read_into_elements : List Item
read_into_elements = (tree.Begin (tree.And (tree.While
    (tree.Bin (tree.Other (token.Compare token.Greater))
    (tree.Group (tree.GetInto (tree.Index (codes "a") (tree.Then (tree.Post token.Increment (tree.Var (codes "n"))) tree.NoTree))))
    (tree.Leaf (token.Number (codes "0")))) tree.Empty)
    (tree.And (tree.Simple (tree.Put tree.Print
    (tree.Listed (tree.Then (tree.Var (codes "n")) (tree.Then (tree.Index (codes "a") (tree.Then (tree.Leaf (token.Number (codes "0"))) tree.NoTree))
    (tree.Then (tree.Group (tree.Has (tree.Leaf (token.Number (codes "1"))) (codes "a")))
    (tree.Then (tree.Group (tree.Has (tree.Leaf (token.Number (codes "2"))) (codes "a"))) tree.NoTree))))) tree.NoTarget)) tree.NoStmt))) ∷ []

-- BEGIN { while ((getline $2 < "f") > 0) print NF, $0 }
abbrev pub read_into_field : List Item
read_into_field = (tree.Begin (tree.And (tree.While
    (tree.Bin (tree.Other (token.Compare token.Greater))
    (tree.Group (tree.GetIntoFrom (tree.Field (tree.Leaf (token.Number (codes "2")))) (tree.Leaf (token.Quoted (34 ∷ 102 ∷ 34
    ∷ []))))) (tree.Leaf (token.Number (codes "0"))))
    (tree.Simple (tree.Put tree.Print
    (tree.Listed (tree.Then (tree.Var (codes "NF"))
    (tree.Then (tree.Field (tree.Leaf (token.Number (codes "0")))) tree.NoTree))) tree.NoTarget))) tree.NoStmt)) ∷ []

-- BEGIN { while ((getline x) > 0) print x, v, NR; print v }
abbrev pub assignments_among_reads : List Item
assignments_among_reads = (tree.Begin (tree.And
    (tree.While (tree.Bin (tree.Other (token.Compare token.Greater)) (tree.Group (tree.GetInto (tree.Var (codes "x"))))
    (tree.Leaf (token.Number (codes "0"))))
    (tree.Simple (tree.Put tree.Print
    (tree.Listed (tree.Then (tree.Var (codes "x"))
    (tree.Then (tree.Var (codes "v")) (tree.Then (tree.Var (codes "NR")) tree.NoTree)))) tree.NoTarget)))
    (tree.And (tree.Simple (tree.Put tree.Print (tree.Listed (tree.Then (tree.Var (codes "v")) tree.NoTree)) tree.NoTarget)) tree.NoStmt))) ∷ []

-- function f(v) { getline; return v } BEGIN { print f(4), v, $0 }
abbrev pub assignment_in_a_call : List Item
assignment_in_a_call = (tree.Function (codes "f") ((codes "v")
    ∷ []) (tree.And (tree.Simple (tree.Eval tree.Get)) (tree.And (tree.Leave tree.Return (Some (tree.Var (codes "v")))) tree.NoStmt)))
    ∷ (tree.Begin (tree.And (tree.Simple
    (tree.Put tree.Print (tree.Listed (tree.Then (tree.Call (codes "f") (tree.Then (tree.Leaf (token.Number (codes "4"))) tree.NoTree))
    (tree.Then (tree.Var (codes "v")) (tree.Then (tree.Field (tree.Leaf (token.Number (codes "0")))) tree.NoTree)))) tree.NoTarget)) tree.NoStmt))
    ∷ []

-- BEGIN { $0 = "aa b"; n = gsub(/a/, "&x"); print n, $0, $1, NF; print gsub("q", ""), $0 }
abbrev pub all_replaced_in_record : List Item
all_replaced_in_record = (tree.Begin (tree.And
    (tree.Simple (tree.Eval (tree.Bin (tree.Other (token.Assign token.Set)) (tree.Field (tree.Leaf (token.Number (codes "0"))))
    (tree.Leaf (token.Quoted (34 ∷ 97 ∷ 97 ∷ 32 ∷ 98 ∷ 34
    ∷ [])))))) (tree.And (tree.Simple
    (tree.Eval (tree.Bin (tree.Other (token.Assign token.Set)) (tree.Var (codes "n"))
    (tree.Apply builtin.Gsub (tree.Then (tree.Leaf (token.Ere (codes "/a/"))) (tree.Then (tree.Leaf (token.Quoted (34 ∷ 38 ∷ 120 ∷ 34
    ∷ []))) tree.NoTree)))))) (tree.And
    (tree.Simple (tree.Put tree.Print
    (tree.Listed (tree.Then (tree.Var (codes "n"))
    (tree.Then (tree.Field (tree.Leaf (token.Number (codes "0"))))
    (tree.Then (tree.Field (tree.Leaf (token.Number (codes "1")))) (tree.Then (tree.Var (codes "NF")) tree.NoTree))))) tree.NoTarget))
    (tree.And (tree.Simple (tree.Put tree.Print (tree.Listed (tree.Then (tree.Apply builtin.Gsub (tree.Then (tree.Leaf (token.Quoted (34 ∷ 113 ∷ 34
    ∷ []))) (tree.Then (tree.Leaf (token.Quoted (34 ∷ 34
    ∷ []))) tree.NoTree))) (tree.Then (tree.Field (tree.Leaf (token.Number (codes "0")))) tree.NoTree))) tree.NoTarget)) tree.NoStmt))))) ∷ []

-- function g(q) { q[1] = 7 } function f(p) { g(p) } function h(u) { return 3 } BEGIN { f(t); print t[1], h(t), h(), h(w) }
abbrev pub arrays_through_calls : List Item
arrays_through_calls = (tree.Function (codes "g") ((codes "q")
    ∷ []) (tree.And (tree.Simple (tree.Eval
    (tree.Bin (tree.Other (token.Assign token.Set)) (tree.Index (codes "q") (tree.Then (tree.Leaf (token.Number (codes "1"))) tree.NoTree))
    (tree.Leaf (token.Number (codes "7")))))) tree.NoStmt))
    ∷ (tree.Function (codes "f") ((codes "p")
    ∷ []) (tree.And (tree.Simple (tree.Eval (tree.Call (codes "g") (tree.Then (tree.Var (codes "p")) tree.NoTree)))) tree.NoStmt))
    ∷ (tree.Function (codes "h") ((codes "u") ∷ []) (tree.And (tree.Leave tree.Return (Some (tree.Leaf (token.Number (codes "3"))))) tree.NoStmt))
    ∷ (tree.Begin (tree.And (tree.Simple (tree.Eval (tree.Call (codes "f") (tree.Then (tree.Var (codes "t")) tree.NoTree))))
    (tree.And (tree.Simple (tree.Put tree.Print
    (tree.Listed (tree.Then (tree.Index (codes "t") (tree.Then (tree.Leaf (token.Number (codes "1"))) tree.NoTree))
    (tree.Then (tree.Call (codes "h") (tree.Then (tree.Var (codes "t")) tree.NoTree))
    (tree.Then (tree.Call (codes "h") tree.NoTree)
    (tree.Then (tree.Call (codes "h") (tree.Then (tree.Var (codes "w")) tree.NoTree)) tree.NoTree))))) tree.NoTarget)) tree.NoStmt))) ∷ []

-- function r(n, a) { a[n]; if (n) r(n - 1); for (k in a) c = c k } BEGIN { r(2); print c }
abbrev pub fresh_array_handed_on : List Item
fresh_array_handed_on = (tree.Function (codes "r") ((codes "n") ∷ (codes "a")
    ∷ []) (tree.And (tree.Simple (tree.Eval (tree.Index (codes "a") (tree.Then (tree.Var (codes "n")) tree.NoTree))))
    (tree.And (tree.If (tree.Var (codes "n"))
    (tree.Simple (tree.Eval (tree.Call (codes "r")
    (tree.Then (tree.Bin (tree.Add token.Minus) (tree.Var (codes "n")) (tree.Leaf (token.Number (codes "1")))) tree.NoTree)))))
    (tree.And (tree.ForIn (codes "k") (codes "a")
    (tree.Simple (tree.Eval (tree.Bin (tree.Other (token.Assign token.Set)) (tree.Var (codes "c"))
    (tree.Bin tree.Join (tree.Var (codes "c")) (tree.Var (codes "k"))))))) tree.NoStmt))))
    ∷ (tree.Begin (tree.And (tree.Simple (tree.Eval (tree.Call (codes "r") (tree.Then (tree.Leaf (token.Number (codes "2"))) tree.NoTree))))
    (tree.And (tree.Simple (tree.Put tree.Print (tree.Listed (tree.Then (tree.Var (codes "c")) tree.NoTree)) tree.NoTarget)) tree.NoStmt))) ∷ []

-- function n() { next } /a/, n() { print } /b/ { print "B" }
abbrev pub next_in_a_pattern : List Item
next_in_a_pattern = (tree.Function (codes "n") [] (tree.And (tree.Jumping tree.Next) tree.NoStmt))
    ∷ (tree.When (tree.Between (tree.Leaf (token.Ere (codes "/a/"))) (tree.Call (codes "n") tree.NoTree))
    (tree.And (tree.Simple (tree.Put tree.Print tree.NoArgs tree.NoTarget)) tree.NoStmt))
    ∷ (tree.When (tree.One (tree.Leaf (token.Ere (codes "/b/"))))
    (tree.And (tree.Simple (tree.Put tree.Print (tree.Listed (tree.Then (tree.Leaf (token.Quoted (34 ∷ 66 ∷ 34
    ∷ []))) tree.NoTree)) tree.NoTarget)) tree.NoStmt)) ∷ []

-- function f() { next } { print } END { f() }
abbrev pub next_in_end : List Item
next_in_end = (tree.Function (codes "f") [] (tree.And (tree.Jumping tree.Next) tree.NoStmt))
    ∷ (tree.Always (tree.And (tree.Simple (tree.Put tree.Print tree.NoArgs tree.NoTarget)) tree.NoStmt))
    ∷ (tree.End (tree.And (tree.Simple (tree.Eval (tree.Call (codes "f") tree.NoTree))) tree.NoStmt)) ∷ []

-- function f() { exit -257 } { print "x" f() } END { print "e"; exit; print "no" }
abbrev pub status_below_zero : List Item
status_below_zero = (tree.Function (codes "f") []
    (tree.And (tree.Leave tree.Exit (Some (tree.Unary (token.Signed token.Minus) (tree.Leaf (token.Number (codes "257")))))) tree.NoStmt))
    ∷ (tree.Always (tree.And (tree.Simple (tree.Put tree.Print (tree.Listed (tree.Then (tree.Bin tree.Join (tree.Leaf (token.Quoted (34 ∷ 120 ∷ 34
    ∷ []))) (tree.Call (codes "f") tree.NoTree)) tree.NoTree)) tree.NoTarget)) tree.NoStmt))
    ∷ (tree.End (tree.And (tree.Simple (tree.Put tree.Print (tree.Listed (tree.Then (tree.Leaf (token.Quoted (34 ∷ 101 ∷ 34
    ∷ []))) tree.NoTree)) tree.NoTarget))
    (tree.And (tree.Leave tree.Exit None) (tree.And (tree.Simple (tree.Put tree.Print (tree.Listed (tree.Then (tree.Leaf (token.Quoted (34 ∷ 110 ∷ 111
    ∷ 34 ∷ []))) tree.NoTree)) tree.NoTarget)) tree.NoStmt)))) ∷ []

-- BEGIN { exit 5 } { print "no" } END { print NR; exit "3x" + 300 }
abbrev pub exit_before_records : List Item
exit_before_records = (tree.Begin (tree.And (tree.Leave tree.Exit (Some (tree.Leaf (token.Number (codes "5"))))) tree.NoStmt))
    ∷ (tree.Always (tree.And (tree.Simple (tree.Put tree.Print (tree.Listed (tree.Then (tree.Leaf (token.Quoted (34 ∷ 110 ∷ 111 ∷ 34
    ∷ []))) tree.NoTree)) tree.NoTarget)) tree.NoStmt))
    ∷ (tree.End (tree.And (tree.Simple (tree.Put tree.Print (tree.Listed (tree.Then (tree.Var (codes "NR")) tree.NoTree)) tree.NoTarget))
    (tree.And (tree.Leave tree.Exit (Some (tree.Bin (tree.Add token.Plus) (tree.Leaf (token.Quoted (34 ∷ 51 ∷ 120 ∷ 34
    ∷ []))) (tree.Leaf (token.Number (codes "300")))))) tree.NoStmt))) ∷ []

-- BEGIN { exit "0.5" } END { print "no" }
abbrev pub exit_with_fraction : List Item
exit_with_fraction = (tree.Begin (tree.And (tree.Leave tree.Exit (Some (tree.Leaf (token.Quoted (34 ∷ 48 ∷ 46 ∷ 53 ∷ 34 ∷ []))))) tree.NoStmt))
    ∷ (tree.End (tree.And (tree.Simple (tree.Put tree.Print (tree.Listed (tree.Then (tree.Leaf (token.Quoted (34 ∷ 110 ∷ 111 ∷ 34
    ∷ []))) tree.NoTree)) tree.NoTarget)) tree.NoStmt)) ∷ []

-- function f() { printf "f"; return 1 } BEGIN { print substr("x", "0.5", f()) }
abbrev pub arguments_before_conversion : List Item
arguments_before_conversion = (tree.Function (codes "f") []
    (tree.And (tree.Simple (tree.Put tree.Printf (tree.Listed (tree.Then (tree.Leaf (token.Quoted (34 ∷ 102 ∷ 34
    ∷ []))) tree.NoTree)) tree.NoTarget)) (tree.And (tree.Leave tree.Return (Some (tree.Leaf (token.Number (codes "1"))))) tree.NoStmt)))
    ∷ (tree.Begin (tree.And (tree.Simple
    (tree.Put tree.Print (tree.Listed (tree.Then (tree.Apply builtin.Substr (tree.Then (tree.Leaf (token.Quoted (34 ∷ 120 ∷ 34
    ∷ []))) (tree.Then (tree.Leaf (token.Quoted (34 ∷ 48 ∷ 46 ∷ 53 ∷ 34
    ∷ []))) (tree.Then (tree.Call (codes "f") tree.NoTree) tree.NoTree)))) tree.NoTree)) tree.NoTarget)) tree.NoStmt)) ∷ []

-- function f() { printf "f"; return 1 } BEGIN { print -"0.5" + f() }
abbrev pub sign_converts_at_once : List Item
sign_converts_at_once = (tree.Function (codes "f") []
    (tree.And (tree.Simple (tree.Put tree.Printf (tree.Listed (tree.Then (tree.Leaf (token.Quoted (34 ∷ 102 ∷ 34
    ∷ []))) tree.NoTree)) tree.NoTarget)) (tree.And (tree.Leave tree.Return (Some (tree.Leaf (token.Number (codes "1"))))) tree.NoStmt)))
    ∷ (tree.Begin (tree.And (tree.Simple
    (tree.Put tree.Print (tree.Listed (tree.Then (tree.Bin (tree.Add token.Plus) (tree.Unary (token.Signed token.Minus) (tree.Leaf (token.Quoted (34
    ∷ 48 ∷ 46 ∷ 53 ∷ 34 ∷ [])))) (tree.Call (codes "f") tree.NoTree)) tree.NoTree)) tree.NoTarget)) tree.NoStmt)) ∷ []

-- BEGIN { printf "%q", 1 > "f" }
abbrev pub format_before_file : List Item
format_before_file = (tree.Begin (tree.And (tree.Simple (tree.Put tree.Printf (tree.Listed (tree.Then (tree.Leaf (token.Quoted (34 ∷ 37 ∷ 113 ∷ 34
    ∷ []))) (tree.Then (tree.Leaf (token.Number (codes "1"))) tree.NoTree))) (tree.Written (tree.Leaf (token.Quoted (34 ∷ 102 ∷ 34
    ∷ [])))))) tree.NoStmt)) ∷ []

-- BEGIN { print int((7/2)), -"3x", !"0" }
abbrev pub truncated_quotient : List Item
truncated_quotient = (tree.Begin (tree.And (tree.Simple
    (tree.Put tree.Print (tree.Listed
    (tree.Then (tree.Apply builtin.Int
    (tree.Then (tree.Group (tree.Bin (tree.Other (token.Mul token.Over)) (tree.Leaf (token.Number (codes "7")))
    (tree.Leaf (token.Number (codes "2"))))) tree.NoTree)) (tree.Then (tree.Unary (token.Signed token.Minus) (tree.Leaf (token.Quoted (34 ∷ 51 ∷ 120
    ∷ 34 ∷ [])))) (tree.Then (tree.Unary token.Not (tree.Leaf (token.Quoted (34 ∷ 48 ∷ 34 ∷ [])))) tree.NoTree)))) tree.NoTarget)) tree.NoStmt)) ∷ []

-- BEGIN { print int(-(7/2)) }
abbrev pub quotient_under_a_sign : List Item
quotient_under_a_sign = (tree.Begin (tree.And
    (tree.Simple (tree.Put tree.Print
    (tree.Listed (tree.Then (tree.Apply builtin.Int
    (tree.Then (tree.Unary (token.Signed token.Minus)
    (tree.Group (tree.Bin (tree.Other (token.Mul token.Over)) (tree.Leaf (token.Number (codes "7")))
    (tree.Leaf (token.Number (codes "2")))))) tree.NoTree)) tree.NoTree)) tree.NoTarget)) tree.NoStmt)) ∷ []

-- BEGIN { if (!(getline x < "no")) print "zero"; else print "true" }
abbrev pub read_as_a_test : List Item
read_as_a_test = (tree.Begin (tree.And (tree.IfElse
    (tree.Unary token.Not (tree.Group (tree.GetIntoFrom (tree.Var (codes "x")) (tree.Leaf (token.Quoted (34 ∷ 110 ∷ 111 ∷ 34
    ∷ [])))))) (tree.Simple (tree.Put tree.Print (tree.Listed (tree.Then (tree.Leaf (token.Quoted (34 ∷ 122 ∷ 101 ∷ 114 ∷ 111 ∷ 34
    ∷ []))) tree.NoTree)) tree.NoTarget)) (tree.Simple (tree.Put tree.Print (tree.Listed (tree.Then (tree.Leaf (token.Quoted (34 ∷ 116 ∷ 114 ∷ 117
    ∷ 101 ∷ 34 ∷ []))) tree.NoTree)) tree.NoTarget))) tree.NoStmt)) ∷ []

-- BEGIN { do print "x"; while (0) }
abbrev pub do_without_turns : List Item
do_without_turns = (tree.Begin (tree.And (tree.Do (tree.Simple (tree.Put tree.Print (tree.Listed (tree.Then (tree.Leaf (token.Quoted (34 ∷ 120 ∷ 34
    ∷ []))) tree.NoTree)) tree.NoTarget)) (tree.Leaf (token.Number (codes "0")))) (tree.And tree.Empty tree.NoStmt))) ∷ []

-- function f() { } BEGIN { f(); print "x" }
abbrev pub call_without_turns : List Item
call_without_turns = (tree.Function (codes "f") [] tree.NoStmt)
    ∷ (tree.Begin (tree.And (tree.Simple (tree.Eval (tree.Call (codes "f") tree.NoTree)))
    (tree.And (tree.Simple (tree.Put tree.Print (tree.Listed (tree.Then (tree.Leaf (token.Quoted (34 ∷ 120 ∷ 34
    ∷ []))) tree.NoTree)) tree.NoTarget)) tree.NoStmt))) ∷ []

-- BEGIN { a["p"]; a["q"]; for (k in a) print k }
abbrev pub keys_and_turns : List Item
keys_and_turns = (tree.Begin (tree.And (tree.Simple (tree.Eval (tree.Index (codes "a") (tree.Then (tree.Leaf (token.Quoted (34 ∷ 112 ∷ 34
    ∷ []))) tree.NoTree)))) (tree.And (tree.Simple (tree.Eval (tree.Index (codes "a") (tree.Then (tree.Leaf (token.Quoted (34 ∷ 113 ∷ 34
    ∷ []))) tree.NoTree)))) (tree.And
    (tree.ForIn (codes "k") (codes "a")
    (tree.Simple (tree.Put tree.Print (tree.Listed (tree.Then (tree.Var (codes "k")) tree.NoTree)) tree.NoTarget))) tree.NoStmt)))) ∷ []

-- { print } END { print "e" }
abbrev pub records_and_turns : List Item
records_and_turns = (tree.Always (tree.And (tree.Simple (tree.Put tree.Print tree.NoArgs tree.NoTarget)) tree.NoStmt))
    ∷ (tree.End (tree.And (tree.Simple (tree.Put tree.Print (tree.Listed (tree.Then (tree.Leaf (token.Quoted (34 ∷ 101 ∷ 34
    ∷ []))) tree.NoTree)) tree.NoTarget)) tree.NoStmt)) ∷ []

-- { print } END { print "e" }
abbrev pub turn_for_each_record : List Item
turn_for_each_record = (tree.Always (tree.And (tree.Simple (tree.Put tree.Print tree.NoArgs tree.NoTarget)) tree.NoStmt))
    ∷ (tree.End (tree.And (tree.Simple (tree.Put tree.Print (tree.Listed (tree.Then (tree.Leaf (token.Quoted (34 ∷ 101 ∷ 34
    ∷ []))) tree.NoTree)) tree.NoTarget)) tree.NoStmt)) ∷ []

-- BEGIN { print v }
abbrev pub assignment_without_turns : List Item
assignment_without_turns = (tree.Begin (tree.And
    (tree.Simple (tree.Put tree.Print (tree.Listed (tree.Then (tree.Var (codes "v")) tree.NoTree)) tree.NoTarget)) tree.NoStmt)) ∷ []

-- BEGIN { print "x" }
abbrev pub special_assigned_without_turns : List Item
special_assigned_without_turns = (tree.Begin (tree.And (tree.Simple (tree.Put tree.Print (tree.Listed (tree.Then (tree.Leaf (token.Quoted (34 ∷ 120
    ∷ 34 ∷ []))) tree.NoTree)) tree.NoTarget)) tree.NoStmt)) ∷ []

-- BEGIN { print "x" }
abbrev pub unused_name_without_turns : List Item
unused_name_without_turns = (tree.Begin (tree.And (tree.Simple (tree.Put tree.Print (tree.Listed (tree.Then (tree.Leaf (token.Quoted (34 ∷ 120 ∷ 34
    ∷ []))) tree.NoTree)) tree.NoTarget)) tree.NoStmt)) ∷ []

-- BEGIN { print v FS OFS "x" }
abbrev pub turn_for_each_assignment : List Item
turn_for_each_assignment = (tree.Begin (tree.And
    (tree.Simple (tree.Put tree.Print
    (tree.Listed (tree.Then (tree.Bin tree.Join (tree.Bin tree.Join (tree.Bin tree.Join (tree.Var (codes "v")) (tree.Var (codes "FS")))
    (tree.Var (codes "OFS"))) (tree.Leaf (token.Quoted (34 ∷ 120 ∷ 34 ∷ [])))) tree.NoTree)) tree.NoTarget)) tree.NoStmt)) ∷ []

-- BEGIN { print v FS OFS "x" }
abbrev pub too_few_turns_for_assignments : List Item
too_few_turns_for_assignments = (tree.Begin (tree.And
    (tree.Simple (tree.Put tree.Print
    (tree.Listed (tree.Then (tree.Bin tree.Join (tree.Bin tree.Join (tree.Bin tree.Join (tree.Var (codes "v")) (tree.Var (codes "FS")))
    (tree.Var (codes "OFS"))) (tree.Leaf (token.Quoted (34 ∷ 120 ∷ 34 ∷ [])))) tree.NoTree)) tree.NoTarget)) tree.NoStmt)) ∷ []

-- BEGIN { print "x" }
abbrev pub bad_assignment_not_reached : List Item
bad_assignment_not_reached = (tree.Begin (tree.And (tree.Simple (tree.Put tree.Print (tree.Listed (tree.Then (tree.Leaf (token.Quoted (34 ∷ 120 ∷ 34
    ∷ []))) tree.NoTree)) tree.NoTarget)) tree.NoStmt)) ∷ []

-- BEGIN { print "x" }
abbrev pub bad_assignment_reached : List Item
bad_assignment_reached = (tree.Begin (tree.And (tree.Simple (tree.Put tree.Print (tree.Listed (tree.Then (tree.Leaf (token.Quoted (34 ∷ 120 ∷ 34
    ∷ []))) tree.NoTree)) tree.NoTarget)) tree.NoStmt)) ∷ []

-- BEGIN { print "b" } { print "x" }
abbrev pub operand_without_turns : List Item
operand_without_turns = (tree.Begin (tree.And (tree.Simple (tree.Put tree.Print (tree.Listed (tree.Then (tree.Leaf (token.Quoted (34 ∷ 98 ∷ 34
    ∷ []))) tree.NoTree)) tree.NoTarget)) tree.NoStmt))
    ∷ (tree.Always (tree.And (tree.Simple (tree.Put tree.Print (tree.Listed (tree.Then (tree.Leaf (token.Quoted (34 ∷ 120 ∷ 34
    ∷ []))) tree.NoTree)) tree.NoTarget)) tree.NoStmt)) ∷ []

-- { print $1 }
abbrev pub turns_of_operands : List Item
turns_of_operands = (tree.Always (tree.And (tree.Simple
    (tree.Put tree.Print (tree.Listed (tree.Then (tree.Field (tree.Leaf (token.Number (codes "1")))) tree.NoTree)) tree.NoTarget)) tree.NoStmt)) ∷ []

-- BEGIN { getline; print $1; getline; print $1 }
abbrev pub turns_of_getline : List Item
turns_of_getline = (tree.Begin (tree.And (tree.Simple (tree.Eval tree.Get))
    (tree.And (tree.Simple (tree.Put tree.Print
    (tree.Listed (tree.Then (tree.Field (tree.Leaf (token.Number (codes "1")))) tree.NoTree)) tree.NoTarget))
    (tree.And (tree.Simple (tree.Eval tree.Get))
    (tree.And (tree.Simple (tree.Put tree.Print
    (tree.Listed (tree.Then (tree.Field (tree.Leaf (token.Number (codes "1")))) tree.NoTree)) tree.NoTarget)) tree.NoStmt))))) ∷ []

-- NR==1{ARGC="1.5"}{print}
abbrev pub argc_read_at_the_end : List Item
argc_read_at_the_end = (tree.When (tree.One (tree.Bin (tree.Other (token.Compare token.Equal)) (tree.Var (codes "NR"))
    (tree.Leaf (token.Number (codes "1")))))
    (tree.And (tree.Simple (tree.Eval (tree.Bin (tree.Other (token.Assign token.Set)) (tree.Var (codes "ARGC")) (tree.Leaf (token.Quoted (34 ∷ 49 ∷ 46
    ∷ 53 ∷ 34 ∷ [])))))) tree.NoStmt)) ∷ (tree.Always (tree.And (tree.Simple (tree.Put tree.Print tree.NoArgs tree.NoTarget)) tree.NoStmt)) ∷ []

-- NR==1{ARGC="1.5"}{print}
abbrev pub argc_read_after_a_file : List Item
argc_read_after_a_file = (tree.When (tree.One (tree.Bin (tree.Other (token.Compare token.Equal)) (tree.Var (codes "NR"))
    (tree.Leaf (token.Number (codes "1")))))
    (tree.And (tree.Simple (tree.Eval (tree.Bin (tree.Other (token.Assign token.Set)) (tree.Var (codes "ARGC")) (tree.Leaf (token.Quoted (34 ∷ 49 ∷ 46
    ∷ 53 ∷ 34 ∷ [])))))) tree.NoStmt)) ∷ (tree.Always (tree.And (tree.Simple (tree.Put tree.Print tree.NoArgs tree.NoTarget)) tree.NoStmt)) ∷ []

-- {print}
abbrev pub argc_hides_an_operand : List Item
argc_hides_an_operand = (tree.Always (tree.And (tree.Simple (tree.Put tree.Print tree.NoArgs tree.NoTarget)) tree.NoStmt)) ∷ []

-- {print FILENAME,$0}
abbrev pub argc_from_an_operand : List Item
argc_from_an_operand = (tree.Always (tree.And
    (tree.Simple (tree.Put tree.Print
    (tree.Listed (tree.Then (tree.Var (codes "FILENAME"))
    (tree.Then (tree.Field (tree.Leaf (token.Number (codes "0")))) tree.NoTree))) tree.NoTarget)) tree.NoStmt)) ∷ []

-- {print FILENAME "," FNR "," NR} END{print FILENAME,FNR,NR}
abbrev pub names_and_counts : List Item
names_and_counts = (tree.Always (tree.And (tree.Simple
    (tree.Put tree.Print (tree.Listed
    (tree.Then (tree.Bin tree.Join (tree.Bin tree.Join
    (tree.Bin tree.Join (tree.Bin tree.Join (tree.Var (codes "FILENAME")) (tree.Leaf (token.Quoted (34 ∷ 44 ∷ 34
    ∷ [])))) (tree.Var (codes "FNR"))) (tree.Leaf (token.Quoted (34 ∷ 44 ∷ 34
    ∷ [])))) (tree.Var (codes "NR"))) tree.NoTree)) tree.NoTarget)) tree.NoStmt))
    ∷ (tree.End (tree.And (tree.Simple
    (tree.Put tree.Print (tree.Listed
    (tree.Then (tree.Var (codes "FILENAME"))
    (tree.Then (tree.Var (codes "FNR")) (tree.Then (tree.Var (codes "NR")) tree.NoTree)))) tree.NoTarget)) tree.NoStmt)) ∷ []

-- BEGIN{print (getline),(getline x),x,(getline),NR}
abbrev pub absent_file_passed_over : List Item
absent_file_passed_over = (tree.Begin (tree.And
    (tree.Simple (tree.Put tree.Print
    (tree.Listed (tree.Then (tree.Group tree.Get)
    (tree.Then (tree.Group (tree.GetInto (tree.Var (codes "x"))))
    (tree.Then (tree.Var (codes "x"))
    (tree.Then (tree.Group tree.Get) (tree.Then (tree.Var (codes "NR")) tree.NoTree)))))) tree.NoTarget)) tree.NoStmt)) ∷ []

-- BEGIN{print (getline),(getline),(getline) $0}{print "no"}
abbrev pub failing_main_input : List Item
failing_main_input = (tree.Begin (tree.And (tree.Simple
    (tree.Put tree.Print (tree.Listed
    (tree.Then (tree.Group tree.Get)
    (tree.Then (tree.Group tree.Get)
    (tree.Then (tree.Bin tree.Join (tree.Group tree.Get)
    (tree.Field (tree.Leaf (token.Number (codes "0"))))) tree.NoTree)))) tree.NoTarget)) tree.NoStmt))
    ∷ (tree.Always (tree.And (tree.Simple (tree.Put tree.Print (tree.Listed (tree.Then (tree.Leaf (token.Quoted (34 ∷ 110 ∷ 111 ∷ 34
    ∷ []))) tree.NoTree)) tree.NoTarget)) tree.NoStmt)) ∷ []

-- {print $1,NF}
abbrev pub specials_among_operands : List Item
specials_among_operands = (tree.Always (tree.And
    (tree.Simple (tree.Put tree.Print
    (tree.Listed (tree.Then (tree.Field (tree.Leaf (token.Number (codes "1"))))
    (tree.Then (tree.Var (codes "NF")) tree.NoTree))) tree.NoTarget)) tree.NoStmt)) ∷ []

-- BEGIN{NR="7x";FNR=100}{print NR,FNR}
abbrev pub counts_assigned : List Item
counts_assigned = (tree.Begin (tree.And (tree.Simple
    (tree.Eval (tree.Bin (tree.Other (token.Assign token.Set)) (tree.Var (codes "NR")) (tree.Leaf (token.Quoted (34 ∷ 55 ∷ 120 ∷ 34
    ∷ [])))))) (tree.And (tree.Simple
    (tree.Eval (tree.Bin (tree.Other (token.Assign token.Set)) (tree.Var (codes "FNR")) (tree.Leaf (token.Number (codes "100")))))) tree.NoStmt)))
    ∷ (tree.Always (tree.And (tree.Simple
    (tree.Put tree.Print (tree.Listed
    (tree.Then (tree.Var (codes "NR")) (tree.Then (tree.Var (codes "FNR")) tree.NoTree))) tree.NoTarget)) tree.NoStmt)) ∷ []

-- BEGIN{while((getline x)>0)print x;ARGV[2]="f";ARGC=3;print getline}{print "no"}
abbrev pub input_stays_ended : List Item
input_stays_ended = (tree.Begin (tree.And (tree.While
    (tree.Bin (tree.Other (token.Compare token.Greater)) (tree.Group (tree.GetInto (tree.Var (codes "x")))) (tree.Leaf (token.Number (codes "0"))))
    (tree.Simple (tree.Put tree.Print (tree.Listed (tree.Then (tree.Var (codes "x")) tree.NoTree)) tree.NoTarget)))
    (tree.And (tree.Simple (tree.Eval
    (tree.Bin (tree.Other (token.Assign token.Set)) (tree.Index (codes "ARGV") (tree.Then (tree.Leaf (token.Number (codes "2"))) tree.NoTree))
    (tree.Leaf (token.Quoted (34 ∷ 102 ∷ 34
    ∷ [])))))) (tree.And (tree.Simple
    (tree.Eval (tree.Bin (tree.Other (token.Assign token.Set)) (tree.Var (codes "ARGC")) (tree.Leaf (token.Number (codes "3"))))))
    (tree.And (tree.Simple (tree.Put tree.Print (tree.Listed (tree.Then tree.Get tree.NoTree)) tree.NoTarget)) tree.NoStmt)))))
    ∷ (tree.Always (tree.And (tree.Simple (tree.Put tree.Print (tree.Listed (tree.Then (tree.Leaf (token.Quoted (34 ∷ 110 ∷ 111 ∷ 34
    ∷ []))) tree.NoTree)) tree.NoTarget)) tree.NoStmt)) ∷ []

-- BEGIN{ARGV[1]=5}{print FILENAME,FILENAME==5}
abbrev pub operand_from_a_number : List Item
operand_from_a_number = (tree.Begin (tree.And
    (tree.Simple (tree.Eval (tree.Bin (tree.Other (token.Assign token.Set))
    (tree.Index (codes "ARGV") (tree.Then (tree.Leaf (token.Number (codes "1"))) tree.NoTree)) (tree.Leaf (token.Number (codes "5")))))) tree.NoStmt))
    ∷ (tree.Always (tree.And (tree.Simple
    (tree.Put tree.Print (tree.Listed
    (tree.Then (tree.Var (codes "FILENAME"))
    (tree.Then (tree.Bin (tree.Other (token.Compare token.Equal)) (tree.Var (codes "FILENAME"))
    (tree.Leaf (token.Number (codes "5")))) tree.NoTree))) tree.NoTarget)) tree.NoStmt)) ∷ []

-- END{$0="x y z";print NF,$2;NF=2;print;print getline,$0;print (getline<"f"),$0,NF,NR}
abbrev pub record_kept_in_end : List Item
record_kept_in_end = (tree.End (tree.And (tree.Simple
    (tree.Eval (tree.Bin (tree.Other (token.Assign token.Set)) (tree.Field (tree.Leaf (token.Number (codes "0")))) (tree.Leaf (token.Quoted (34 ∷ 120
    ∷ 32 ∷ 121 ∷ 32 ∷ 122 ∷ 34 ∷ []))))))
    (tree.And (tree.Simple (tree.Put tree.Print
    (tree.Listed (tree.Then (tree.Var (codes "NF")) (tree.Then (tree.Field (tree.Leaf (token.Number (codes "2")))) tree.NoTree))) tree.NoTarget))
    (tree.And (tree.Simple (tree.Eval (tree.Bin (tree.Other (token.Assign token.Set)) (tree.Var (codes "NF"))
    (tree.Leaf (token.Number (codes "2")))))) (tree.And (tree.Simple (tree.Put tree.Print tree.NoArgs tree.NoTarget))
    (tree.And (tree.Simple (tree.Put tree.Print
    (tree.Listed (tree.Then tree.Get (tree.Then (tree.Field (tree.Leaf (token.Number (codes "0")))) tree.NoTree))) tree.NoTarget))
    (tree.And (tree.Simple (tree.Put tree.Print (tree.Listed (tree.Then (tree.Group (tree.GetFrom (tree.Leaf (token.Quoted (34 ∷ 102 ∷ 34
    ∷ []))))) (tree.Then (tree.Field (tree.Leaf (token.Number (codes "0"))))
    (tree.Then (tree.Var (codes "NF")) (tree.Then (tree.Var (codes "NR")) tree.NoTree))))) tree.NoTarget)) tree.NoStmt))))))) ∷ []

-- BEGIN{RS="";print (getline<"f") $0;RS="\n";print (getline<"f") $0;print (getline<"f")}
abbrev pub failing_after_paragraph : List Item
failing_after_paragraph = (tree.Begin (tree.And
    (tree.Simple (tree.Eval (tree.Bin (tree.Other (token.Assign token.Set)) (tree.Var (codes "RS")) (tree.Leaf (token.Quoted (34 ∷ 34
    ∷ [])))))) (tree.And (tree.Simple
    (tree.Put tree.Print (tree.Listed (tree.Then (tree.Bin tree.Join (tree.Group (tree.GetFrom (tree.Leaf (token.Quoted (34 ∷ 102 ∷ 34
    ∷ []))))) (tree.Field (tree.Leaf (token.Number (codes "0"))))) tree.NoTree)) tree.NoTarget))
    (tree.And (tree.Simple (tree.Eval (tree.Bin (tree.Other (token.Assign token.Set)) (tree.Var (codes "RS")) (tree.Leaf (token.Quoted (34 ∷ 92 ∷ 110
    ∷ 34 ∷ [])))))) (tree.And (tree.Simple
    (tree.Put tree.Print (tree.Listed (tree.Then (tree.Bin tree.Join (tree.Group (tree.GetFrom (tree.Leaf (token.Quoted (34 ∷ 102 ∷ 34
    ∷ []))))) (tree.Field (tree.Leaf (token.Number (codes "0"))))) tree.NoTree)) tree.NoTarget))
    (tree.And (tree.Simple (tree.Put tree.Print (tree.Listed (tree.Then (tree.Group (tree.GetFrom (tree.Leaf (token.Quoted (34 ∷ 102 ∷ 34
    ∷ []))))) tree.NoTree)) tree.NoTarget)) tree.NoStmt)))))) ∷ []

-- BEGIN{print (getline y<"-")}
abbrev pub hyphen_is_a_file_for_getline : List Item
hyphen_is_a_file_for_getline = (tree.Begin (tree.And
    (tree.Simple (tree.Put tree.Print (tree.Listed (tree.Then (tree.Group (tree.GetIntoFrom (tree.Var (codes "y")) (tree.Leaf (token.Quoted (34 ∷ 45
    ∷ 34 ∷ []))))) tree.NoTree)) tree.NoTarget)) tree.NoStmt)) ∷ []

-- BEGIN{RS="ab"}{print}
abbrev pub number_as_separator : List Item
number_as_separator = (tree.Begin (tree.And (tree.Simple
    (tree.Eval (tree.Bin (tree.Other (token.Assign token.Set)) (tree.Var (codes "RS")) (tree.Leaf (token.Quoted (34 ∷ 97 ∷ 98 ∷ 34
    ∷ [])))))) tree.NoStmt)) ∷ (tree.Always (tree.And (tree.Simple (tree.Put tree.Print tree.NoArgs tree.NoTarget)) tree.NoStmt)) ∷ []

-- BEGIN{print (getline x<"f"),close("f"),(getline x<"f"),close("f")}
abbrev pub failing_empty_file : List Item
failing_empty_file = (tree.Begin (tree.And (tree.Simple
    (tree.Put tree.Print (tree.Listed (tree.Then (tree.Group (tree.GetIntoFrom (tree.Var (codes "x")) (tree.Leaf (token.Quoted (34 ∷ 102 ∷ 34
    ∷ []))))) (tree.Then (tree.Apply builtin.Close (tree.Then (tree.Leaf (token.Quoted (34 ∷ 102 ∷ 34
    ∷ []))) tree.NoTree)) (tree.Then (tree.Group (tree.GetIntoFrom (tree.Var (codes "x")) (tree.Leaf (token.Quoted (34 ∷ 102 ∷ 34
    ∷ []))))) (tree.Then (tree.Apply builtin.Close (tree.Then (tree.Leaf (token.Quoted (34 ∷ 102 ∷ 34
    ∷ []))) tree.NoTree)) tree.NoTree))))) tree.NoTarget)) tree.NoStmt)) ∷ []

-- BEGIN{print "x">"f";getline y<"f";print y,close("f"),close("f")}
abbrev pub written_then_read : List Item
written_then_read = (tree.Begin (tree.And (tree.Simple (tree.Put tree.Print (tree.Listed (tree.Then (tree.Leaf (token.Quoted (34 ∷ 120 ∷ 34
    ∷ []))) tree.NoTree)) (tree.Written (tree.Leaf (token.Quoted (34 ∷ 102 ∷ 34
    ∷ [])))))) (tree.And (tree.Simple (tree.Eval (tree.GetIntoFrom (tree.Var (codes "y")) (tree.Leaf (token.Quoted (34 ∷ 102 ∷ 34
    ∷ [])))))) (tree.And (tree.Simple
    (tree.Put tree.Print (tree.Listed (tree.Then (tree.Var (codes "y")) (tree.Then (tree.Apply builtin.Close (tree.Then (tree.Leaf (token.Quoted (34
    ∷ 102 ∷ 34 ∷ []))) tree.NoTree)) (tree.Then (tree.Apply builtin.Close (tree.Then (tree.Leaf (token.Quoted (34 ∷ 102 ∷ 34
    ∷ []))) tree.NoTree)) tree.NoTree)))) tree.NoTarget)) tree.NoStmt)))) ∷ []

-- BEGIN{print "abc">>"f"}
abbrev pub appended_past_room : List Item
appended_past_room = (tree.Begin (tree.And (tree.Simple (tree.Put tree.Print (tree.Listed (tree.Then (tree.Leaf (token.Quoted (34 ∷ 97 ∷ 98 ∷ 99 ∷ 34
    ∷ []))) tree.NoTree)) (tree.Appended (tree.Leaf (token.Quoted (34 ∷ 102 ∷ 34 ∷ [])))))) tree.NoStmt)) ∷ []

-- BEGIN{print "abc">"f"}
abbrev pub emptied_then_past_room : List Item
emptied_then_past_room = (tree.Begin (tree.And (tree.Simple (tree.Put tree.Print (tree.Listed (tree.Then (tree.Leaf (token.Quoted (34 ∷ 97 ∷ 98 ∷ 99
    ∷ 34 ∷ []))) tree.NoTree)) (tree.Written (tree.Leaf (token.Quoted (34 ∷ 102 ∷ 34 ∷ [])))))) tree.NoStmt)) ∷ []

-- BEGIN{$0="a b c";$2=u;print NF,$0;print ($2==0),($2=="");$0=$0;print NF,($2==0)}
abbrev pub uninitialised_field : List Item
uninitialised_field = (tree.Begin (tree.And (tree.Simple
    (tree.Eval (tree.Bin (tree.Other (token.Assign token.Set)) (tree.Field (tree.Leaf (token.Number (codes "0")))) (tree.Leaf (token.Quoted (34 ∷ 97
    ∷ 32 ∷ 98 ∷ 32 ∷ 99 ∷ 34 ∷ []))))))
    (tree.And (tree.Simple (tree.Eval (tree.Bin (tree.Other (token.Assign token.Set)) (tree.Field (tree.Leaf (token.Number (codes "2"))))
    (tree.Var (codes "u"))))) (tree.And
    (tree.Simple (tree.Put tree.Print
    (tree.Listed (tree.Then (tree.Var (codes "NF")) (tree.Then (tree.Field (tree.Leaf (token.Number (codes "0")))) tree.NoTree))) tree.NoTarget))
    (tree.And (tree.Simple (tree.Put tree.Print
    (tree.Listed (tree.Then (tree.Group (tree.Bin (tree.Other (token.Compare token.Equal)) (tree.Field (tree.Leaf (token.Number (codes "2"))))
    (tree.Leaf (token.Number (codes "0")))))
    (tree.Then (tree.Group (tree.Bin (tree.Other (token.Compare token.Equal)) (tree.Field (tree.Leaf (token.Number (codes "2"))))
    (tree.Leaf (token.Quoted (34 ∷ 34
    ∷ []))))) tree.NoTree))) tree.NoTarget))
    (tree.And (tree.Simple (tree.Eval (tree.Bin (tree.Other (token.Assign token.Set)) (tree.Field (tree.Leaf (token.Number (codes "0"))))
    (tree.Field (tree.Leaf (token.Number (codes "0")))))))
    (tree.And (tree.Simple (tree.Put tree.Print
    (tree.Listed (tree.Then (tree.Var (codes "NF"))
    (tree.Then (tree.Group (tree.Bin (tree.Other (token.Compare token.Equal)) (tree.Field (tree.Leaf (token.Number (codes "2"))))
    (tree.Leaf (token.Number (codes "0"))))) tree.NoTree))) tree.NoTarget)) tree.NoStmt))))))) ∷ []

-- BEGIN{$0="a b c";NF=1;NF=3;print ($2==0),($2==""),$0 "."}
abbrev pub count_lowered_and_raised : List Item
count_lowered_and_raised = (tree.Begin (tree.And
    (tree.Simple (tree.Eval (tree.Bin (tree.Other (token.Assign token.Set)) (tree.Field (tree.Leaf (token.Number (codes "0"))))
    (tree.Leaf (token.Quoted (34 ∷ 97 ∷ 32 ∷ 98 ∷ 32 ∷ 99 ∷ 34
    ∷ [])))))) (tree.And (tree.Simple
    (tree.Eval (tree.Bin (tree.Other (token.Assign token.Set)) (tree.Var (codes "NF")) (tree.Leaf (token.Number (codes "1"))))))
    (tree.And (tree.Simple (tree.Eval (tree.Bin (tree.Other (token.Assign token.Set)) (tree.Var (codes "NF"))
    (tree.Leaf (token.Number (codes "3"))))))
    (tree.And (tree.Simple (tree.Put tree.Print
    (tree.Listed (tree.Then (tree.Group (tree.Bin (tree.Other (token.Compare token.Equal)) (tree.Field (tree.Leaf (token.Number (codes "2"))))
    (tree.Leaf (token.Number (codes "0")))))
    (tree.Then (tree.Group (tree.Bin (tree.Other (token.Compare token.Equal)) (tree.Field (tree.Leaf (token.Number (codes "2"))))
    (tree.Leaf (token.Quoted (34 ∷ 34
    ∷ []))))) (tree.Then (tree.Bin tree.Join (tree.Field (tree.Leaf (token.Number (codes "0")))) (tree.Leaf (token.Quoted (34 ∷ 46 ∷ 34
    ∷ [])))) tree.NoTree)))) tree.NoTarget)) tree.NoStmt))))) ∷ []

-- BEGIN{print $0}
abbrev pub count_on_command_line : List Item
count_on_command_line = (tree.Begin (tree.And
    (tree.Simple (tree.Put tree.Print
    (tree.Listed (tree.Then (tree.Field (tree.Leaf (token.Number (codes "0")))) tree.NoTree)) tree.NoTarget)) tree.NoStmt)) ∷ []

-- BEGIN{print $0}
abbrev pub count_below_zero_on_command_line : List Item
count_below_zero_on_command_line = (tree.Begin
    (tree.And (tree.Simple (tree.Put tree.Print
    (tree.Listed (tree.Then (tree.Field (tree.Leaf (token.Number (codes "0")))) tree.NoTree)) tree.NoTarget)) tree.NoStmt)) ∷ []

-- BEGIN{OFS="-";$0="a b";NF=NF;OFS="+";print;$3="c";print}
abbrev pub rebuilt_with_separator : List Item
rebuilt_with_separator = (tree.Begin (tree.And
    (tree.Simple (tree.Eval (tree.Bin (tree.Other (token.Assign token.Set)) (tree.Var (codes "OFS")) (tree.Leaf (token.Quoted (34 ∷ 45 ∷ 34
    ∷ [])))))) (tree.And (tree.Simple
    (tree.Eval (tree.Bin (tree.Other (token.Assign token.Set)) (tree.Field (tree.Leaf (token.Number (codes "0")))) (tree.Leaf (token.Quoted (34 ∷ 97
    ∷ 32 ∷ 98 ∷ 34 ∷ [])))))) (tree.And
    (tree.Simple (tree.Eval (tree.Bin (tree.Other (token.Assign token.Set)) (tree.Var (codes "NF")) (tree.Var (codes "NF")))))
    (tree.And (tree.Simple (tree.Eval (tree.Bin (tree.Other (token.Assign token.Set)) (tree.Var (codes "OFS")) (tree.Leaf (token.Quoted (34 ∷ 43 ∷ 34
    ∷ [])))))) (tree.And (tree.Simple (tree.Put tree.Print tree.NoArgs tree.NoTarget))
    (tree.And (tree.Simple (tree.Eval (tree.Bin (tree.Other (token.Assign token.Set)) (tree.Field (tree.Leaf (token.Number (codes "3"))))
    (tree.Leaf (token.Quoted (34 ∷ 99 ∷ 34 ∷ [])))))) (tree.And (tree.Simple (tree.Put tree.Print tree.NoArgs tree.NoTarget)) tree.NoStmt)))))))) ∷ []

-- BEGIN{FS=u;$0="a b";print NF;FS=1;$0="a1b";print NF}
abbrev pub separator_without_value : List Item
separator_without_value = (tree.Begin (tree.And
    (tree.Simple (tree.Eval (tree.Bin (tree.Other (token.Assign token.Set)) (tree.Var (codes "FS")) (tree.Var (codes "u")))))
    (tree.And (tree.Simple (tree.Eval (tree.Bin (tree.Other (token.Assign token.Set)) (tree.Field (tree.Leaf (token.Number (codes "0"))))
    (tree.Leaf (token.Quoted (34 ∷ 97 ∷ 32 ∷ 98 ∷ 34
    ∷ [])))))) (tree.And (tree.Simple (tree.Put tree.Print (tree.Listed (tree.Then (tree.Var (codes "NF")) tree.NoTree)) tree.NoTarget))
    (tree.And (tree.Simple (tree.Eval (tree.Bin (tree.Other (token.Assign token.Set)) (tree.Var (codes "FS"))
    (tree.Leaf (token.Number (codes "1"))))))
    (tree.And (tree.Simple (tree.Eval (tree.Bin (tree.Other (token.Assign token.Set)) (tree.Field (tree.Leaf (token.Number (codes "0"))))
    (tree.Leaf (token.Quoted (34 ∷ 97 ∷ 49 ∷ 98 ∷ 34
    ∷ [])))))) (tree.And (tree.Simple
    (tree.Put tree.Print (tree.Listed (tree.Then (tree.Var (codes "NF")) tree.NoTree)) tree.NoTarget)) tree.NoStmt))))))) ∷ []

-- BEGIN{RS="";FS="\t"}{print NF}
abbrev pub tab_and_newline : List Item
tab_and_newline = (tree.Begin (tree.And (tree.Simple
    (tree.Eval (tree.Bin (tree.Other (token.Assign token.Set)) (tree.Var (codes "RS")) (tree.Leaf (token.Quoted (34 ∷ 34
    ∷ [])))))) (tree.And (tree.Simple (tree.Eval (tree.Bin (tree.Other (token.Assign token.Set)) (tree.Var (codes "FS")) (tree.Leaf (token.Quoted (34
    ∷ 92 ∷ 116 ∷ 34 ∷ [])))))) tree.NoStmt)))
    ∷ (tree.Always (tree.And (tree.Simple
    (tree.Put tree.Print (tree.Listed (tree.Then (tree.Var (codes "NF")) tree.NoTree)) tree.NoTarget)) tree.NoStmt)) ∷ []

-- BEGIN{RS="";FS="b*"}{print NF,"[" $2 "]"}
abbrev pub expression_and_newline : List Item
expression_and_newline = (tree.Begin (tree.And
    (tree.Simple (tree.Eval (tree.Bin (tree.Other (token.Assign token.Set)) (tree.Var (codes "RS")) (tree.Leaf (token.Quoted (34 ∷ 34
    ∷ [])))))) (tree.And (tree.Simple (tree.Eval (tree.Bin (tree.Other (token.Assign token.Set)) (tree.Var (codes "FS")) (tree.Leaf (token.Quoted (34
    ∷ 98 ∷ 42 ∷ 34 ∷ [])))))) tree.NoStmt)))
    ∷ (tree.Always (tree.And (tree.Simple
    (tree.Put tree.Print (tree.Listed
    (tree.Then (tree.Var (codes "NF")) (tree.Then (tree.Bin tree.Join (tree.Bin tree.Join (tree.Leaf (token.Quoted (34 ∷ 91 ∷ 34
    ∷ []))) (tree.Field (tree.Leaf (token.Number (codes "2"))))) (tree.Leaf (token.Quoted (34 ∷ 93 ∷ 34
    ∷ [])))) tree.NoTree))) tree.NoTarget)) tree.NoStmt)) ∷ []

-- BEGIN{RS="";print split("a\nb,c",p,","),split("abc",p,/./),split("abc",p,//),split("a.b",p,".")}
abbrev pub split_ignores_newline : List Item
split_ignores_newline = (tree.Begin (tree.And
    (tree.Simple (tree.Eval (tree.Bin (tree.Other (token.Assign token.Set)) (tree.Var (codes "RS")) (tree.Leaf (token.Quoted (34 ∷ 34
    ∷ [])))))) (tree.And (tree.Simple (tree.Put tree.Print (tree.Listed (tree.Then (tree.Apply builtin.Split (tree.Then (tree.Leaf (token.Quoted (34
    ∷ 97 ∷ 92 ∷ 110 ∷ 98 ∷ 44 ∷ 99 ∷ 34
    ∷ []))) (tree.Then (tree.Var (codes "p")) (tree.Then (tree.Leaf (token.Quoted (34 ∷ 44 ∷ 34
    ∷ []))) tree.NoTree)))) (tree.Then (tree.Apply builtin.Split (tree.Then (tree.Leaf (token.Quoted (34 ∷ 97 ∷ 98 ∷ 99 ∷ 34
    ∷ []))) (tree.Then (tree.Var (codes "p")) (tree.Then (tree.Leaf (token.Ere (codes "/./"))) tree.NoTree))))
    (tree.Then (tree.Apply builtin.Split (tree.Then (tree.Leaf (token.Quoted (34 ∷ 97 ∷ 98 ∷ 99 ∷ 34
    ∷ []))) (tree.Then (tree.Var (codes "p")) (tree.Then (tree.Leaf (token.Ere (codes "//"))) tree.NoTree))))
    (tree.Then (tree.Apply builtin.Split (tree.Then (tree.Leaf (token.Quoted (34 ∷ 97 ∷ 46 ∷ 98 ∷ 34
    ∷ []))) (tree.Then (tree.Var (codes "p")) (tree.Then (tree.Leaf (token.Quoted (34 ∷ 46 ∷ 34
    ∷ []))) tree.NoTree)))) tree.NoTree))))) tree.NoTarget)) tree.NoStmt))) ∷ []

-- BEGIN{a["x"]="p q";print split(a["x"],a),("x" in a),a[2]}
abbrev pub split_of_its_own_element : List Item
split_of_its_own_element = (tree.Begin (tree.And
    (tree.Simple (tree.Eval (tree.Bin (tree.Other (token.Assign token.Set)) (tree.Index (codes "a") (tree.Then (tree.Leaf (token.Quoted (34 ∷ 120 ∷ 34
    ∷ []))) tree.NoTree)) (tree.Leaf (token.Quoted (34 ∷ 112 ∷ 32 ∷ 113 ∷ 34
    ∷ [])))))) (tree.And (tree.Simple
    (tree.Put tree.Print (tree.Listed (tree.Then (tree.Apply builtin.Split (tree.Then (tree.Index (codes "a") (tree.Then (tree.Leaf (token.Quoted (34
    ∷ 120 ∷ 34 ∷ []))) tree.NoTree)) (tree.Then (tree.Var (codes "a")) tree.NoTree))) (tree.Then (tree.Group (tree.Has (tree.Leaf (token.Quoted (34
    ∷ 120 ∷ 34 ∷ []))) (codes "a")))
    (tree.Then (tree.Index (codes "a") (tree.Then (tree.Leaf (token.Number (codes "2"))) tree.NoTree)) tree.NoTree)))) tree.NoTarget)) tree.NoStmt)))
    ∷ []

-- BEGIN{FS="((";print (getline x<"f");print (getline<"f")}
abbrev pub bad_separator_unused : List Item
bad_separator_unused = (tree.Begin (tree.And (tree.Simple
    (tree.Eval (tree.Bin (tree.Other (token.Assign token.Set)) (tree.Var (codes "FS")) (tree.Leaf (token.Quoted (34 ∷ 40 ∷ 40 ∷ 34
    ∷ [])))))) (tree.And (tree.Simple
    (tree.Put tree.Print (tree.Listed (tree.Then (tree.Group (tree.GetIntoFrom (tree.Var (codes "x")) (tree.Leaf (token.Quoted (34 ∷ 102 ∷ 34
    ∷ []))))) tree.NoTree)) tree.NoTarget))
    (tree.And (tree.Simple (tree.Put tree.Print (tree.Listed (tree.Then (tree.Group (tree.GetFrom (tree.Leaf (token.Quoted (34 ∷ 102 ∷ 34
    ∷ []))))) tree.NoTree)) tree.NoTarget)) tree.NoStmt)))) ∷ []

-- BEGIN{s="aaa";print gsub(/x*$/,"-",s),s;s="";print gsub(/x*/,"-",s),s;s="abcX";print gsub(/^/,">",s),s}
abbrev pub empty_match_at_the_end : List Item
empty_match_at_the_end = (tree.Begin (tree.And
    (tree.Simple (tree.Eval (tree.Bin (tree.Other (token.Assign token.Set)) (tree.Var (codes "s")) (tree.Leaf (token.Quoted (34 ∷ 97 ∷ 97 ∷ 97 ∷ 34
    ∷ [])))))) (tree.And (tree.Simple
    (tree.Put tree.Print (tree.Listed
    (tree.Then (tree.Apply builtin.Gsub (tree.Then (tree.Leaf (token.Ere (codes "/x*$/"))) (tree.Then (tree.Leaf (token.Quoted (34 ∷ 45 ∷ 34
    ∷ []))) (tree.Then (tree.Var (codes "s")) tree.NoTree)))) (tree.Then (tree.Var (codes "s")) tree.NoTree))) tree.NoTarget))
    (tree.And (tree.Simple (tree.Eval (tree.Bin (tree.Other (token.Assign token.Set)) (tree.Var (codes "s")) (tree.Leaf (token.Quoted (34 ∷ 34
    ∷ [])))))) (tree.And (tree.Simple
    (tree.Put tree.Print (tree.Listed
    (tree.Then (tree.Apply builtin.Gsub (tree.Then (tree.Leaf (token.Ere (codes "/x*/"))) (tree.Then (tree.Leaf (token.Quoted (34 ∷ 45 ∷ 34
    ∷ []))) (tree.Then (tree.Var (codes "s")) tree.NoTree)))) (tree.Then (tree.Var (codes "s")) tree.NoTree))) tree.NoTarget))
    (tree.And (tree.Simple (tree.Eval (tree.Bin (tree.Other (token.Assign token.Set)) (tree.Var (codes "s")) (tree.Leaf (token.Quoted (34 ∷ 97 ∷ 98
    ∷ 99 ∷ 88 ∷ 34 ∷ [])))))) (tree.And
    (tree.Simple (tree.Put tree.Print
    (tree.Listed (tree.Then (tree.Apply builtin.Gsub (tree.Then (tree.Leaf (token.Ere (codes "/^/"))) (tree.Then (tree.Leaf (token.Quoted (34 ∷ 62
    ∷ 34 ∷ []))) (tree.Then (tree.Var (codes "s")) tree.NoTree)))) (tree.Then (tree.Var (codes "s")) tree.NoTree))) tree.NoTarget)) tree.NoStmt)))))))
    ∷ []

-- BEGIN{print match("aXb","X*$"),RLENGTH,match("",/^$/),RLENGTH}
abbrev pub matches_that_are_empty : List Item
matches_that_are_empty = (tree.Begin (tree.And
    (tree.Simple (tree.Put tree.Print (tree.Listed (tree.Then (tree.Apply builtin.Match (tree.Then (tree.Leaf (token.Quoted (34 ∷ 97 ∷ 88 ∷ 98 ∷ 34
    ∷ []))) (tree.Then (tree.Leaf (token.Quoted (34 ∷ 88 ∷ 42 ∷ 36 ∷ 34
    ∷ []))) tree.NoTree))) (tree.Then (tree.Var (codes "RLENGTH")) (tree.Then (tree.Apply builtin.Match (tree.Then (tree.Leaf (token.Quoted (34 ∷ 34
    ∷ []))) (tree.Then (tree.Leaf (token.Ere (codes "/^$/"))) tree.NoTree)))
    (tree.Then (tree.Var (codes "RLENGTH")) tree.NoTree))))) tree.NoTarget)) tree.NoStmt)) ∷ []

-- BEGIN{print "[" substr("hello",-2^53,2^53) "]",substr("hello",2,2^53)}
abbrev pub parts_far_out : List Item
parts_far_out = (tree.Begin (tree.And (tree.Simple
    (tree.Put tree.Print (tree.Listed (tree.Then (tree.Bin tree.Join (tree.Bin tree.Join (tree.Leaf (token.Quoted (34 ∷ 91 ∷ 34
    ∷ []))) (tree.Apply builtin.Substr (tree.Then (tree.Leaf (token.Quoted (34 ∷ 104 ∷ 101 ∷ 108 ∷ 108 ∷ 111 ∷ 34
    ∷ []))) (tree.Then (tree.Unary (token.Signed token.Minus) (tree.Bin (tree.Other token.Pow) (tree.Leaf (token.Number (codes "2")))
    (tree.Leaf (token.Number (codes "53")))))
    (tree.Then (tree.Bin (tree.Other token.Pow) (tree.Leaf (token.Number (codes "2"))) (tree.Leaf (token.Number (codes "53")))) tree.NoTree)))))
    (tree.Leaf (token.Quoted (34 ∷ 93 ∷ 34
    ∷ [])))) (tree.Then (tree.Apply builtin.Substr (tree.Then (tree.Leaf (token.Quoted (34 ∷ 104 ∷ 101 ∷ 108 ∷ 108 ∷ 111 ∷ 34
    ∷ []))) (tree.Then (tree.Leaf (token.Number (codes "2")))
    (tree.Then (tree.Bin (tree.Other token.Pow) (tree.Leaf (token.Number (codes "2")))
    (tree.Leaf (token.Number (codes "53")))) tree.NoTree)))) tree.NoTree))) tree.NoTarget)) tree.NoStmt)) ∷ []

-- BEGIN{printf "[%-05d][%+.0d][%05.1f][%#.0x][%#05o][% 05d][%.s]\n",-3,0,-2,0,8,42,"ab"}
abbrev pub formats_of_numbers : List Item
formats_of_numbers = (tree.Begin (tree.And (tree.Simple (tree.Put tree.Printf (tree.Listed (tree.Then (tree.Leaf (token.Quoted (34 ∷ 91 ∷ 37 ∷ 45 ∷ 48
    ∷ 53 ∷ 100 ∷ 93 ∷ 91 ∷ 37 ∷ 43 ∷ 46 ∷ 48 ∷ 100 ∷ 93 ∷ 91 ∷ 37 ∷ 48 ∷ 53 ∷ 46 ∷ 49 ∷ 102 ∷ 93 ∷ 91 ∷ 37 ∷ 35 ∷ 46 ∷ 48 ∷ 120 ∷ 93 ∷ 91 ∷ 37 ∷ 35
    ∷ 48 ∷ 53 ∷ 111 ∷ 93 ∷ 91 ∷ 37 ∷ 32 ∷ 48 ∷ 53 ∷ 100 ∷ 93 ∷ 91 ∷ 37 ∷ 46 ∷ 115 ∷ 93 ∷ 92 ∷ 110 ∷ 34
    ∷ []))) (tree.Then (tree.Unary (token.Signed token.Minus) (tree.Leaf (token.Number (codes "3"))))
    (tree.Then (tree.Leaf (token.Number (codes "0"))) (tree.Then (tree.Unary (token.Signed token.Minus) (tree.Leaf (token.Number (codes "2"))))
    (tree.Then (tree.Leaf (token.Number (codes "0")))
    (tree.Then (tree.Leaf (token.Number (codes "8"))) (tree.Then (tree.Leaf (token.Number (codes "42"))) (tree.Then (tree.Leaf (token.Quoted (34 ∷ 97
    ∷ 98 ∷ 34 ∷ []))) tree.NoTree))))))))) tree.NoTarget)) tree.NoStmt)) ∷ []

-- BEGIN{printf "%d%q","1e99"}
abbrev pub range_before_format : List Item
range_before_format = (tree.Begin (tree.And (tree.Simple (tree.Put tree.Printf (tree.Listed (tree.Then (tree.Leaf (token.Quoted (34 ∷ 37 ∷ 100 ∷ 37
    ∷ 113 ∷ 34 ∷ []))) (tree.Then (tree.Leaf (token.Quoted (34 ∷ 49 ∷ 101 ∷ 57 ∷ 57 ∷ 34 ∷ []))) tree.NoTree))) tree.NoTarget)) tree.NoStmt)) ∷ []

-- BEGIN{printf "%.5-d",1}
abbrev pub misplaced_flag : List Item
misplaced_flag = (tree.Begin (tree.And (tree.Simple (tree.Put tree.Printf (tree.Listed (tree.Then (tree.Leaf (token.Quoted (34 ∷ 37 ∷ 46 ∷ 53 ∷ 45
    ∷ 100 ∷ 34 ∷ []))) (tree.Then (tree.Leaf (token.Number (codes "1"))) tree.NoTree))) tree.NoTarget)) tree.NoStmt)) ∷ []

-- BEGIN{printf "[%c][%.0c]",65,"q"}
abbrev pub bytes_formatted : List Item
bytes_formatted = (tree.Begin (tree.And (tree.Simple (tree.Put tree.Printf (tree.Listed (tree.Then (tree.Leaf (token.Quoted (34 ∷ 91 ∷ 37 ∷ 99 ∷ 93
    ∷ 91 ∷ 37 ∷ 46 ∷ 48 ∷ 99 ∷ 93 ∷ 34
    ∷ []))) (tree.Then (tree.Leaf (token.Number (codes "65"))) (tree.Then (tree.Leaf (token.Quoted (34 ∷ 113 ∷ 34
    ∷ []))) tree.NoTree)))) tree.NoTarget)) tree.NoStmt)) ∷ []

-- BEGIN { getline a["k"] < "no"; x = 1; print x, ("k" in a); sub(/q/, "z", b["y"]); print ("y" in b) }
abbrev pub unused_first : List Item
unused_first = (tree.Begin (tree.And (tree.Simple (tree.Eval (tree.GetIntoFrom (tree.Index (codes "a") (tree.Then (tree.Leaf (token.Quoted (34 ∷ 107
    ∷ 34 ∷ []))) tree.NoTree)) (tree.Leaf (token.Quoted (34 ∷ 110 ∷ 111 ∷ 34
    ∷ [])))))) (tree.And (tree.Simple
    (tree.Eval (tree.Bin (tree.Other (token.Assign token.Set)) (tree.Var (codes "x")) (tree.Leaf (token.Number (codes "1"))))))
    (tree.And (tree.Simple (tree.Put tree.Print
    (tree.Listed (tree.Then (tree.Var (codes "x")) (tree.Then (tree.Group (tree.Has (tree.Leaf (token.Quoted (34 ∷ 107 ∷ 34
    ∷ []))) (codes "a"))) tree.NoTree))) tree.NoTarget))
    (tree.And (tree.Simple (tree.Eval (tree.Apply builtin.Sub (tree.Then (tree.Leaf (token.Ere (codes "/q/"))) (tree.Then (tree.Leaf (token.Quoted (34
    ∷ 122 ∷ 34 ∷ []))) (tree.Then (tree.Index (codes "b") (tree.Then (tree.Leaf (token.Quoted (34 ∷ 121 ∷ 34
    ∷ []))) tree.NoTree)) tree.NoTree))))))
    (tree.And (tree.Simple (tree.Put tree.Print (tree.Listed (tree.Then (tree.Group (tree.Has (tree.Leaf (token.Quoted (34 ∷ 121 ∷ 34
    ∷ []))) (codes "b"))) tree.NoTree)) tree.NoTarget)) tree.NoStmt)))))) ∷ []

-- BEGIN { a["x"]; a["y"]; for (k in a) { print k; delete a["y"] }; print ("y" in a) }
abbrev pub keys_deleted_on_the_way : List Item
keys_deleted_on_the_way = (tree.Begin (tree.And (tree.Simple (tree.Eval (tree.Index (codes "a") (tree.Then (tree.Leaf (token.Quoted (34 ∷ 120 ∷ 34
    ∷ []))) tree.NoTree)))) (tree.And (tree.Simple (tree.Eval (tree.Index (codes "a") (tree.Then (tree.Leaf (token.Quoted (34 ∷ 121 ∷ 34
    ∷ []))) tree.NoTree)))) (tree.And
    (tree.ForIn (codes "k") (codes "a")
    (tree.Block (tree.And (tree.Simple (tree.Put tree.Print (tree.Listed (tree.Then (tree.Var (codes "k")) tree.NoTree)) tree.NoTarget))
    (tree.And (tree.Simple (tree.Delete (codes "a") (tree.Then (tree.Leaf (token.Quoted (34 ∷ 121 ∷ 34
    ∷ []))) tree.NoTree))) tree.NoStmt))))
    (tree.And tree.Empty (tree.And (tree.Simple (tree.Put tree.Print (tree.Listed (tree.Then (tree.Group (tree.Has (tree.Leaf (token.Quoted (34 ∷ 121
    ∷ 34 ∷ []))) (codes "a"))) tree.NoTree)) tree.NoTarget)) tree.NoStmt)))))) ∷ []

-- BEGIN { do {  n++ }  while (n < 3)  print n }
abbrev pub do_while_counts : List Item
do_while_counts = (tree.Begin (tree.And (tree.Do
    (tree.Block (tree.And (tree.Simple (tree.Eval (tree.Post token.Increment (tree.Var (codes "n"))))) tree.NoStmt))
    (tree.Bin (tree.Other (token.Compare token.Less)) (tree.Var (codes "n")) (tree.Leaf (token.Number (codes "3")))))
    (tree.And (tree.Simple (tree.Put tree.Print (tree.Listed (tree.Then (tree.Var (codes "n")) tree.NoTree)) tree.NoTarget)) tree.NoStmt))) ∷ []

-- BEGIN { print n; print n + 1 }
abbrev pub fraction_from_command_line : List Item
fraction_from_command_line = (tree.Begin (tree.And
    (tree.Simple (tree.Put tree.Print (tree.Listed (tree.Then (tree.Var (codes "n")) tree.NoTree)) tree.NoTarget))
    (tree.And (tree.Simple (tree.Put tree.Print
    (tree.Listed (tree.Then (tree.Bin (tree.Add token.Plus) (tree.Var (codes "n"))
    (tree.Leaf (token.Number (codes "1")))) tree.NoTree)) tree.NoTarget)) tree.NoStmt))) ∷ []

-- { n++; print n }
abbrev pub count_across_an_assignment : List Item
count_across_an_assignment = (tree.Always (tree.And (tree.Simple (tree.Eval (tree.Post token.Increment (tree.Var (codes "n")))))
    (tree.And (tree.Simple (tree.Put tree.Print (tree.Listed (tree.Then (tree.Var (codes "n")) tree.NoTree)) tree.NoTarget)) tree.NoStmt))) ∷ []

-- BEGIN { if (0) print 1/0; print 2^3*4 }
abbrev pub fault_not_reached : List Item
fault_not_reached = (tree.Begin (tree.And (tree.If (tree.Leaf (token.Number (codes "0")))
    (tree.Simple (tree.Put tree.Print
    (tree.Listed (tree.Then (tree.Bin (tree.Other (token.Mul token.Over)) (tree.Leaf (token.Number (codes "1")))
    (tree.Leaf (token.Number (codes "0")))) tree.NoTree)) tree.NoTarget)))
    (tree.And (tree.Simple (tree.Put tree.Print
    (tree.Listed (tree.Then (tree.Bin (tree.Other (token.Mul token.Times)) (tree.Bin (tree.Other token.Pow) (tree.Leaf (token.Number (codes "2")))
    (tree.Leaf (token.Number (codes "3")))) (tree.Leaf (token.Number (codes "4")))) tree.NoTree)) tree.NoTarget)) tree.NoStmt))) ∷ []

-- BEGIN { n = 2^53; n++; print "no" }
abbrev pub step_past_range : List Item
step_past_range = (tree.Begin (tree.And (tree.Simple
    (tree.Eval (tree.Bin (tree.Other (token.Assign token.Set)) (tree.Var (codes "n"))
    (tree.Bin (tree.Other token.Pow) (tree.Leaf (token.Number (codes "2"))) (tree.Leaf (token.Number (codes "53")))))))
    (tree.And (tree.Simple (tree.Eval (tree.Post token.Increment (tree.Var (codes "n")))))
    (tree.And (tree.Simple (tree.Put tree.Print (tree.Listed (tree.Then (tree.Leaf (token.Quoted (34 ∷ 110 ∷ 111 ∷ 34
    ∷ []))) tree.NoTree)) tree.NoTarget)) tree.NoStmt)))) ∷ []

-- BEGIN { while (n < 10) n = n + 1; print n }
abbrev pub loop_on_numbers : List Item
loop_on_numbers = (tree.Begin (tree.And (tree.While (tree.Bin (tree.Other (token.Compare token.Less)) (tree.Var (codes "n"))
    (tree.Leaf (token.Number (codes "10"))))
    (tree.Simple (tree.Eval (tree.Bin (tree.Other (token.Assign token.Set)) (tree.Var (codes "n"))
    (tree.Bin (tree.Add token.Plus) (tree.Var (codes "n")) (tree.Leaf (token.Number (codes "1"))))))))
    (tree.And (tree.Simple (tree.Put tree.Print (tree.Listed (tree.Then (tree.Var (codes "n")) tree.NoTree)) tree.NoTarget)) tree.NoStmt))) ∷ []

-- BEGIN { while (n < 3) n = n + 1; print n }
abbrev pub turns_just_enough : List Item
turns_just_enough = (tree.Begin (tree.And (tree.While (tree.Bin (tree.Other (token.Compare token.Less)) (tree.Var (codes "n"))
    (tree.Leaf (token.Number (codes "3"))))
    (tree.Simple (tree.Eval (tree.Bin (tree.Other (token.Assign token.Set)) (tree.Var (codes "n"))
    (tree.Bin (tree.Add token.Plus) (tree.Var (codes "n")) (tree.Leaf (token.Number (codes "1"))))))))
    (tree.And (tree.Simple (tree.Put tree.Print (tree.Listed (tree.Then (tree.Var (codes "n")) tree.NoTree)) tree.NoTarget)) tree.NoStmt))) ∷ []

-- BEGIN { while (n < 3) n = n + 1; print n }
abbrev pub one_turn_too_few : List Item
one_turn_too_few = (tree.Begin (tree.And (tree.While (tree.Bin (tree.Other (token.Compare token.Less)) (tree.Var (codes "n"))
    (tree.Leaf (token.Number (codes "3"))))
    (tree.Simple (tree.Eval (tree.Bin (tree.Other (token.Assign token.Set)) (tree.Var (codes "n"))
    (tree.Bin (tree.Add token.Plus) (tree.Var (codes "n")) (tree.Leaf (token.Number (codes "1"))))))))
    (tree.And (tree.Simple (tree.Put tree.Print (tree.Listed (tree.Then (tree.Var (codes "n")) tree.NoTree)) tree.NoTarget)) tree.NoStmt))) ∷ []

-- function f(x, y) { if (x < y) return x; y = x = x * 2; return y } BEGIN { print f(3, 5), f(7), f("10", 9), f() "." ; n = -n; n += !m; print n, n++
-- + ++n, n-- }
abbrev pub numbers_in_names : List Item
numbers_in_names = (tree.Function (codes "f") ((codes "x") ∷ (codes "y")
    ∷ []) (tree.And (tree.If (tree.Bin (tree.Other (token.Compare token.Less)) (tree.Var (codes "x")) (tree.Var (codes "y")))
    (tree.Leave tree.Return (Some (tree.Var (codes "x")))))
    (tree.And (tree.Simple (tree.Eval (tree.Bin (tree.Other (token.Assign token.Set)) (tree.Var (codes "y"))
    (tree.Bin (tree.Other (token.Assign token.Set)) (tree.Var (codes "x"))
    (tree.Bin (tree.Other (token.Mul token.Times)) (tree.Var (codes "x")) (tree.Leaf (token.Number (codes "2"))))))))
    (tree.And (tree.Leave tree.Return (Some (tree.Var (codes "y")))) tree.NoStmt))))
    ∷ (tree.Begin (tree.And (tree.Simple
    (tree.Put tree.Print (tree.Listed
    (tree.Then (tree.Call (codes "f")
    (tree.Then (tree.Leaf (token.Number (codes "3"))) (tree.Then (tree.Leaf (token.Number (codes "5"))) tree.NoTree)))
    (tree.Then (tree.Call (codes "f") (tree.Then (tree.Leaf (token.Number (codes "7"))) tree.NoTree))
    (tree.Then (tree.Call (codes "f") (tree.Then (tree.Leaf (token.Quoted (34 ∷ 49 ∷ 48 ∷ 34
    ∷ []))) (tree.Then (tree.Leaf (token.Number (codes "9"))) tree.NoTree)))
    (tree.Then (tree.Bin tree.Join (tree.Call (codes "f") tree.NoTree) (tree.Leaf (token.Quoted (34 ∷ 46 ∷ 34
    ∷ [])))) tree.NoTree))))) tree.NoTarget))
    (tree.And (tree.Simple (tree.Eval (tree.Bin (tree.Other (token.Assign token.Set)) (tree.Var (codes "n"))
    (tree.Unary (token.Signed token.Minus) (tree.Var (codes "n"))))))
    (tree.And (tree.Simple (tree.Eval (tree.Bin (tree.Other (token.Assign (token.SetSum token.Plus))) (tree.Var (codes "n"))
    (tree.Unary token.Not (tree.Var (codes "m"))))))
    (tree.And (tree.Simple (tree.Put tree.Print
    (tree.Listed (tree.Then (tree.Var (codes "n"))
    (tree.Then (tree.Bin (tree.Add token.Plus) (tree.Post token.Increment (tree.Var (codes "n"))) (tree.Pre token.Increment (tree.Var (codes "n"))))
    (tree.Then (tree.Post token.Decrement (tree.Var (codes "n"))) tree.NoTree)))) tree.NoTarget)) tree.NoStmt))))) ∷ []

-- BEGIN { print n < 10, n < "10", n == 9; n = n + 1; print n < 10 }
abbrev pub text_in_a_number : List Item
text_in_a_number = (tree.Begin (tree.And (tree.Simple
    (tree.Put tree.Print (tree.Listed
    (tree.Then (tree.Bin (tree.Other (token.Compare token.Less)) (tree.Var (codes "n")) (tree.Leaf (token.Number (codes "10"))))
    (tree.Then (tree.Bin (tree.Other (token.Compare token.Less)) (tree.Var (codes "n")) (tree.Leaf (token.Quoted (34 ∷ 49 ∷ 48 ∷ 34
    ∷ [])))) (tree.Then (tree.Bin (tree.Other (token.Compare token.Equal)) (tree.Var (codes "n"))
    (tree.Leaf (token.Number (codes "9")))) tree.NoTree)))) tree.NoTarget))
    (tree.And (tree.Simple (tree.Eval (tree.Bin (tree.Other (token.Assign token.Set)) (tree.Var (codes "n"))
    (tree.Bin (tree.Add token.Plus) (tree.Var (codes "n")) (tree.Leaf (token.Number (codes "1")))))))
    (tree.And (tree.Simple (tree.Put tree.Print
    (tree.Listed (tree.Then (tree.Bin (tree.Other (token.Compare token.Less)) (tree.Var (codes "n"))
    (tree.Leaf (token.Number (codes "10")))) tree.NoTree)) tree.NoTarget)) tree.NoStmt)))) ∷ []

-- FNR == 2 { nextfile } { print FILENAME, $0 }
abbrev pub rest_of_a_file : List Item
rest_of_a_file = (tree.When (tree.One (tree.Bin (tree.Other (token.Compare token.Equal)) (tree.Var (codes "FNR"))
    (tree.Leaf (token.Number (codes "2"))))) (tree.And (tree.Jumping tree.NextFile) tree.NoStmt))
    ∷ (tree.Always (tree.And (tree.Simple
    (tree.Put tree.Print (tree.Listed
    (tree.Then (tree.Var (codes "FILENAME"))
    (tree.Then (tree.Field (tree.Leaf (token.Number (codes "0")))) tree.NoTree))) tree.NoTarget)) tree.NoStmt)) ∷ []

-- function h(x) { if (x == "q") nextfile; return x } { print FNR, h($0), NR }
abbrev pub file_left_among_operands : List Item
file_left_among_operands = (tree.Function (codes "h") ((codes "x")
    ∷ []) (tree.And (tree.If (tree.Bin (tree.Other (token.Compare token.Equal)) (tree.Var (codes "x")) (tree.Leaf (token.Quoted (34 ∷ 113 ∷ 34
    ∷ [])))) (tree.Jumping tree.NextFile)) (tree.And (tree.Leave tree.Return (Some (tree.Var (codes "x")))) tree.NoStmt)))
    ∷ (tree.Always (tree.And (tree.Simple
    (tree.Put tree.Print (tree.Listed
    (tree.Then (tree.Var (codes "FNR")) (tree.Then (tree.Call (codes "h") (tree.Then (tree.Field (tree.Leaf (token.Number (codes "0")))) tree.NoTree))
    (tree.Then (tree.Var (codes "NR")) tree.NoTree)))) tree.NoTarget)) tree.NoStmt)) ∷ []

-- { print; while (1) { n++; if (n > 2) nextfile } } END { print n, NR }
abbrev pub file_left_in_a_loop : List Item
file_left_in_a_loop = (tree.Always (tree.And (tree.Simple (tree.Put tree.Print tree.NoArgs tree.NoTarget))
    (tree.And (tree.While (tree.Leaf (token.Number (codes "1")))
    (tree.Block (tree.And (tree.Simple (tree.Eval (tree.Post token.Increment (tree.Var (codes "n")))))
    (tree.And (tree.If (tree.Bin (tree.Other (token.Compare token.Greater)) (tree.Var (codes "n")) (tree.Leaf (token.Number (codes "2"))))
    (tree.Jumping tree.NextFile)) tree.NoStmt)))) tree.NoStmt)))
    ∷ (tree.End (tree.And (tree.Simple
    (tree.Put tree.Print (tree.Listed
    (tree.Then (tree.Var (codes "n")) (tree.Then (tree.Var (codes "NR")) tree.NoTree))) tree.NoTarget)) tree.NoStmt)) ∷ []

-- BEGIN { a[1]; a[2]; a[3] } { for (k in a) { n++; if (k > 1) nextfile } } END { print n, NR }
abbrev pub file_left_in_a_walk : List Item
file_left_in_a_walk = (tree.Begin (tree.And (tree.Simple
    (tree.Eval (tree.Index (codes "a") (tree.Then (tree.Leaf (token.Number (codes "1"))) tree.NoTree))))
    (tree.And (tree.Simple (tree.Eval (tree.Index (codes "a") (tree.Then (tree.Leaf (token.Number (codes "2"))) tree.NoTree))))
    (tree.And (tree.Simple (tree.Eval (tree.Index (codes "a") (tree.Then (tree.Leaf (token.Number (codes "3"))) tree.NoTree)))) tree.NoStmt))))
    ∷ (tree.Always (tree.And (tree.ForIn (codes "k") (codes "a")
    (tree.Block (tree.And (tree.Simple (tree.Eval (tree.Post token.Increment (tree.Var (codes "n")))))
    (tree.And (tree.If (tree.Bin (tree.Other (token.Compare token.Greater)) (tree.Var (codes "k")) (tree.Leaf (token.Number (codes "1"))))
    (tree.Jumping tree.NextFile)) tree.NoStmt)))) tree.NoStmt))
    ∷ (tree.End (tree.And (tree.Simple
    (tree.Put tree.Print (tree.Listed
    (tree.Then (tree.Var (codes "n")) (tree.Then (tree.Var (codes "NR")) tree.NoTree))) tree.NoTarget)) tree.NoStmt)) ∷ []

-- /q/, /s/ { print "r", $0; nextfile } { print $0 }
abbrev pub file_left_in_a_range : List Item
file_left_in_a_range = (tree.When (tree.Between (tree.Leaf (token.Ere (codes "/q/"))) (tree.Leaf (token.Ere (codes "/s/"))))
    (tree.And (tree.Simple (tree.Put tree.Print (tree.Listed (tree.Then (tree.Leaf (token.Quoted (34 ∷ 114 ∷ 34
    ∷ []))) (tree.Then (tree.Field (tree.Leaf (token.Number (codes "0")))) tree.NoTree))) tree.NoTarget))
    (tree.And (tree.Jumping tree.NextFile) tree.NoStmt)))
    ∷ (tree.Always (tree.And (tree.Simple
    (tree.Put tree.Print (tree.Listed (tree.Then (tree.Field (tree.Leaf (token.Number (codes "0")))) tree.NoTree)) tree.NoTarget)) tree.NoStmt)) ∷ []

-- function h() { nextfile } BEGIN { h() }
abbrev pub nextfile_outside : List Item
nextfile_outside = (tree.Function (codes "h") [] (tree.And (tree.Jumping tree.NextFile) tree.NoStmt))
    ∷ (tree.Begin (tree.And (tree.Simple (tree.Eval (tree.Call (codes "h") tree.NoTree))) tree.NoStmt)) ∷ []

-- { nextfile }
abbrev pub failing_rest_given_up : List Item
failing_rest_given_up = (tree.Always (tree.And (tree.Jumping tree.NextFile) tree.NoStmt)) ∷ []

-- NR == 2 { nextfile } { print FILENAME $0 }
abbrev pub standard_input_given_up : List Item
standard_input_given_up = (tree.When (tree.One (tree.Bin (tree.Other (token.Compare token.Equal)) (tree.Var (codes "NR"))
    (tree.Leaf (token.Number (codes "2"))))) (tree.And (tree.Jumping tree.NextFile) tree.NoStmt))
    ∷ (tree.Always (tree.And (tree.Simple
    (tree.Put tree.Print (tree.Listed
    (tree.Then (tree.Bin tree.Join (tree.Var (codes "FILENAME"))
    (tree.Field (tree.Leaf (token.Number (codes "0"))))) tree.NoTree)) tree.NoTarget)) tree.NoStmt)) ∷ []

-- BEGIN { a["x"]; a["y"]; for (k in a) { delete a; n++ }; print n, ("x" in a) }
abbrev pub emptied_in_a_walk : List Item
emptied_in_a_walk = (tree.Begin (tree.And (tree.Simple (tree.Eval (tree.Index (codes "a") (tree.Then (tree.Leaf (token.Quoted (34 ∷ 120 ∷ 34
    ∷ []))) tree.NoTree)))) (tree.And (tree.Simple (tree.Eval (tree.Index (codes "a") (tree.Then (tree.Leaf (token.Quoted (34 ∷ 121 ∷ 34
    ∷ []))) tree.NoTree)))) (tree.And
    (tree.ForIn (codes "k") (codes "a")
    (tree.Block (tree.And (tree.Simple (tree.Clear (codes "a")))
    (tree.And (tree.Simple (tree.Eval (tree.Post token.Increment (tree.Var (codes "n"))))) tree.NoStmt))))
    (tree.And tree.Empty (tree.And (tree.Simple
    (tree.Put tree.Print (tree.Listed (tree.Then (tree.Var (codes "n")) (tree.Then (tree.Group (tree.Has (tree.Leaf (token.Quoted (34 ∷ 120 ∷ 34
    ∷ []))) (codes "a"))) tree.NoTree))) tree.NoTarget)) tree.NoStmt)))))) ∷ []

-- BEGIN { a["x"] = 1; a["y"] = 2; for (k in a) { s = s k; delete a; a["w" k] = k }; for (k in a) t = t k; print s, t, a["x"] "." }
abbrev pub emptied_and_refilled : List Item
emptied_and_refilled = (tree.Begin (tree.And (tree.Simple
    (tree.Eval (tree.Bin (tree.Other (token.Assign token.Set)) (tree.Index (codes "a") (tree.Then (tree.Leaf (token.Quoted (34 ∷ 120 ∷ 34
    ∷ []))) tree.NoTree)) (tree.Leaf (token.Number (codes "1"))))))
    (tree.And (tree.Simple (tree.Eval (tree.Bin (tree.Other (token.Assign token.Set)) (tree.Index (codes "a") (tree.Then (tree.Leaf (token.Quoted (34
    ∷ 121 ∷ 34 ∷ []))) tree.NoTree)) (tree.Leaf (token.Number (codes "2"))))))
    (tree.And (tree.ForIn (codes "k") (codes "a")
    (tree.Block (tree.And (tree.Simple
    (tree.Eval (tree.Bin (tree.Other (token.Assign token.Set)) (tree.Var (codes "s"))
    (tree.Bin tree.Join (tree.Var (codes "s")) (tree.Var (codes "k"))))))
    (tree.And (tree.Simple (tree.Clear (codes "a")))
    (tree.And (tree.Simple (tree.Eval
    (tree.Bin (tree.Other (token.Assign token.Set)) (tree.Index (codes "a") (tree.Then (tree.Bin tree.Join (tree.Leaf (token.Quoted (34 ∷ 119 ∷ 34
    ∷ []))) (tree.Var (codes "k"))) tree.NoTree)) (tree.Var (codes "k"))))) tree.NoStmt)))))
    (tree.And tree.Empty (tree.And (tree.ForIn (codes "k") (codes "a")
    (tree.Simple (tree.Eval (tree.Bin (tree.Other (token.Assign token.Set)) (tree.Var (codes "t"))
    (tree.Bin tree.Join (tree.Var (codes "t")) (tree.Var (codes "k")))))))
    (tree.And (tree.Simple (tree.Put tree.Print
    (tree.Listed (tree.Then (tree.Var (codes "s"))
    (tree.Then (tree.Var (codes "t")) (tree.Then (tree.Bin tree.Join (tree.Index (codes "a") (tree.Then (tree.Leaf (token.Quoted (34 ∷ 120 ∷ 34
    ∷ []))) tree.NoTree)) (tree.Leaf (token.Quoted (34 ∷ 46 ∷ 34 ∷ [])))) tree.NoTree)))) tree.NoTarget)) tree.NoStmt))))))) ∷ []

-- function e(p) { delete p; p["n"] = 1 } BEGIN { a["x"] = 1; b["x"] = 2; e(a); for (k in a) print k, a[k]; print ("x" in a), b["x"] }
abbrev pub emptied_parameter : List Item
emptied_parameter = (tree.Function (codes "e") ((codes "p")
    ∷ []) (tree.And (tree.Simple (tree.Clear (codes "p")))
    (tree.And (tree.Simple (tree.Eval (tree.Bin (tree.Other (token.Assign token.Set)) (tree.Index (codes "p") (tree.Then (tree.Leaf (token.Quoted (34
    ∷ 110 ∷ 34 ∷ []))) tree.NoTree)) (tree.Leaf (token.Number (codes "1")))))) tree.NoStmt)))
    ∷ (tree.Begin (tree.And (tree.Simple
    (tree.Eval (tree.Bin (tree.Other (token.Assign token.Set)) (tree.Index (codes "a") (tree.Then (tree.Leaf (token.Quoted (34 ∷ 120 ∷ 34
    ∷ []))) tree.NoTree)) (tree.Leaf (token.Number (codes "1"))))))
    (tree.And (tree.Simple (tree.Eval (tree.Bin (tree.Other (token.Assign token.Set)) (tree.Index (codes "b") (tree.Then (tree.Leaf (token.Quoted (34
    ∷ 120 ∷ 34 ∷ []))) tree.NoTree)) (tree.Leaf (token.Number (codes "2"))))))
    (tree.And (tree.Simple (tree.Eval (tree.Call (codes "e") (tree.Then (tree.Var (codes "a")) tree.NoTree))))
    (tree.And (tree.ForIn (codes "k") (codes "a")
    (tree.Simple (tree.Put tree.Print
    (tree.Listed (tree.Then (tree.Var (codes "k"))
    (tree.Then (tree.Index (codes "a") (tree.Then (tree.Var (codes "k")) tree.NoTree)) tree.NoTree))) tree.NoTarget)))
    (tree.And (tree.Simple (tree.Put tree.Print (tree.Listed (tree.Then (tree.Group (tree.Has (tree.Leaf (token.Quoted (34 ∷ 120 ∷ 34
    ∷ []))) (codes "a"))) (tree.Then (tree.Index (codes "b") (tree.Then (tree.Leaf (token.Quoted (34 ∷ 120 ∷ 34
    ∷ []))) tree.NoTree)) tree.NoTree))) tree.NoTarget)) tree.NoStmt)))))) ∷ []

-- FNR == 1 { delete ARGV; ARGV[2] = "g" } { print FILENAME $0 }
abbrev pub emptied_operands : List Item
emptied_operands = (tree.When (tree.One (tree.Bin (tree.Other (token.Compare token.Equal)) (tree.Var (codes "FNR"))
    (tree.Leaf (token.Number (codes "1")))))
    (tree.And (tree.Simple (tree.Clear (codes "ARGV")))
    (tree.And (tree.Simple (tree.Eval
    (tree.Bin (tree.Other (token.Assign token.Set)) (tree.Index (codes "ARGV") (tree.Then (tree.Leaf (token.Number (codes "2"))) tree.NoTree))
    (tree.Leaf (token.Quoted (34 ∷ 103 ∷ 34 ∷ [])))))) tree.NoStmt)))
    ∷ (tree.Always (tree.And (tree.Simple
    (tree.Put tree.Print (tree.Listed
    (tree.Then (tree.Bin tree.Join (tree.Var (codes "FILENAME"))
    (tree.Field (tree.Leaf (token.Number (codes "0"))))) tree.NoTree)) tree.NoTarget)) tree.NoStmt)) ∷ []

-- BEGIN { print "x" > "f"; print fflush("f"), fflush("g"), fflush() }
abbrev pub flushed : List Item
flushed = (tree.Begin (tree.And (tree.Simple (tree.Put tree.Print (tree.Listed (tree.Then (tree.Leaf (token.Quoted (34 ∷ 120 ∷ 34
    ∷ []))) tree.NoTree)) (tree.Written (tree.Leaf (token.Quoted (34 ∷ 102 ∷ 34
    ∷ [])))))) (tree.And (tree.Simple (tree.Put tree.Print (tree.Listed (tree.Then (tree.Apply builtin.Fflush (tree.Then (tree.Leaf (token.Quoted (34
    ∷ 102 ∷ 34 ∷ []))) tree.NoTree)) (tree.Then (tree.Apply builtin.Fflush (tree.Then (tree.Leaf (token.Quoted (34 ∷ 103 ∷ 34
    ∷ []))) tree.NoTree)) (tree.Then (tree.Apply builtin.Fflush tree.NoTree) tree.NoTree)))) tree.NoTarget)) tree.NoStmt))) ∷ []

-- BEGIN { print (getline x < "f"), fflush("f"); print x >> "f"; print fflush("f"), close("f"), fflush("f"), fflush("") }
abbrev pub reader_not_flushed : List Item
reader_not_flushed = (tree.Begin (tree.And (tree.Simple
    (tree.Put tree.Print (tree.Listed (tree.Then (tree.Group (tree.GetIntoFrom (tree.Var (codes "x")) (tree.Leaf (token.Quoted (34 ∷ 102 ∷ 34
    ∷ []))))) (tree.Then (tree.Apply builtin.Fflush (tree.Then (tree.Leaf (token.Quoted (34 ∷ 102 ∷ 34
    ∷ []))) tree.NoTree)) tree.NoTree))) tree.NoTarget))
    (tree.And (tree.Simple (tree.Put tree.Print (tree.Listed (tree.Then (tree.Var (codes "x")) tree.NoTree))
    (tree.Appended (tree.Leaf (token.Quoted (34 ∷ 102 ∷ 34
    ∷ [])))))) (tree.And (tree.Simple (tree.Put tree.Print (tree.Listed (tree.Then (tree.Apply builtin.Fflush (tree.Then (tree.Leaf (token.Quoted (34
    ∷ 102 ∷ 34 ∷ []))) tree.NoTree)) (tree.Then (tree.Apply builtin.Close (tree.Then (tree.Leaf (token.Quoted (34 ∷ 102 ∷ 34
    ∷ []))) tree.NoTree)) (tree.Then (tree.Apply builtin.Fflush (tree.Then (tree.Leaf (token.Quoted (34 ∷ 102 ∷ 34
    ∷ []))) tree.NoTree)) (tree.Then (tree.Apply builtin.Fflush (tree.Then (tree.Leaf (token.Quoted (34 ∷ 34
    ∷ []))) tree.NoTree)) tree.NoTree))))) tree.NoTarget)) tree.NoStmt)))) ∷ []
