use Rattle.std.proofs.Common.{ℕ, ◌-◌, List, length}
use Rattle.awk_grammar.specs.ViewStmt.{view_names}
use Rattle.awk_parse.specs.Parsed.{At, at, Parsed}
use Rattle.awk_parse.proofs.Names.{left_names}
use Rattle.awk_parse.proofs.item.others.Given as goal

abbrev pub invariant-loop : goal.invariant-loop
invariant-loop l = (v : List (List ℕ)) (s : At) → Parsed v (at l.source) s (left_names (view_names l.names.items) (l.turns - l.counter)) → Parsed v (at l.fn.source) s (λ ts. left_names (view_names l.fn.front.items) (length ts) ts)
