use Rattle.std.proofs.Common.{◌≡◌, ◌++◌, drop}
use Rattle.awk_grammar.specs.Tree.{print_more}
use Rattle.awk_tree.specs.Lexemes.{lexemes}
use Rattle.awk_grammar.specs.View.{views}
use Rattle.awk_tree.proofs.writing.+printer.Given as goal

abbrev pub invariant-push_more-loop-i : goal.invariant-push_more-loop-i
invariant-push_more-loop-i l = lexemes l.out.items ++ print_more (views (drop l.i l.es)) ≡ lexemes l.fn.out.items ++ print_more (views (drop 1 l.es))
