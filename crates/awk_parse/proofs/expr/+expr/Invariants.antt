use Rattle.std.proofs.Common.{◌*◌, ◌+◌, ◌-◌, length}
use Rattle.awk_grammar.specs.Trees.{Tree, Trees}
use Rattle.awk_grammar.specs.Reading.{list_at, climb, expr_at}
use Rattle.awk_grammar.specs.View.{view, views}
use Rattle.awk_parse.specs.Parsed.{At, at, Parsed}
use Rattle.awk_parse.proofs.Lists.{left_trees}
use Rattle.awk_parse.proofs.expr.+expr.Given as goal

-- the operators so far, and those that follow
abbrev pub invariant-chain-loop : goal.invariant-chain-loop
invariant-chain-loop l =
    (v : Tree) (s : At) → Parsed v (at l.source) s (climb (expr_at (l.limit - 1)) l.greater l.limit (l.turns - l.counter) l.least (view l.left.tree)) → Parsed v (at l.fn.source) s (λ ts. climb (expr_at (l.limit - 1)) l.greater l.limit (length ts) l.least (view l.fn.first.tree) ts)

abbrev pub invariant-read_list-loop : goal.invariant-read_list-loop
invariant-read_list-loop l = (v : Trees) (s : At) → Parsed v (at l.source) s (left_trees (expr_at l.limit) l.greater (views l.all.trees.items) (l.turns - l.counter)) → Parsed v (at l.fn.source) s (list_at (expr_at l.limit) l.greater)

abbrev pub decreases-read : goal.decreases-read
decreases-read l = 6 * l.limit

abbrev pub decreases-chain : goal.decreases-chain
decreases-chain l = 6 * l.limit - 1

abbrev pub decreases-linked : goal.decreases-linked
decreases-linked l = 6 * l.limit + 2

abbrev pub decreases-conditional : goal.decreases-conditional
decreases-conditional l = 6 * l.limit + 1

abbrev pub decreases-read_list : goal.decreases-read_list
decreases-read_list l = 6 * l.limit + 1

abbrev pub decreases-arguments : goal.decreases-arguments
decreases-arguments l = 6 * l.limit + 2

abbrev pub decreases-named : goal.decreases-named
decreases-named l = 6 * l.limit + 3

abbrev pub decreases-call : goal.decreases-call
decreases-call l = 6 * l.limit + 3

abbrev pub decreases-applied : goal.decreases-applied
decreases-applied l = 6 * l.limit + 3

abbrev pub decreases-parenthesised : goal.decreases-parenthesised
decreases-parenthesised l = 6 * l.limit + 2

abbrev pub decreases-getline : goal.decreases-getline
decreases-getline l = 6 * l.limit + 2

abbrev pub decreases-from_file : goal.decreases-from_file
decreases-from_file l = 6 * l.limit + 1

abbrev pub decreases-prefixed : goal.decreases-prefixed
decreases-prefixed l = 6 * l.limit + 1

abbrev pub decreases-operand : goal.decreases-operand
decreases-operand l = 6 * l.limit + 4
