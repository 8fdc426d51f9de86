use Rattle.awk_grammar.specs.Reading.{◌>>=◌, expr_at}
use Rattle.awk_grammar.specs.ReadStmt.{condition_at}
use Rattle.awk_grammar.specs.Trees.{Do}
use Rattle.awk_grammar.specs.ViewStmt.{view_stmt}
use Rattle.awk_parse.specs.Parsed.{is_read}
use Rattle.awk_parse.proofs.ParsedLemmas.{then, past}
use Rattle.awk_parse.proofs.Closed.{closes, closes_counted}
use Rattle.awk_parse.proofs.statement_node.closed.Goals as goal

pub returns-in-If-clause-read : goal.returns-in-If-clause-read
returns-in-If-clause-read c = closes (expr_at c.args.limit) _ _ _ _ _ _ _ _ c.in_ok-lead.ensures c.in-If.is c.on_heap.ensures.read

pub returns-in-Else-clause-read : goal.returns-in-Else-clause-read
returns-in-Else-clause-read c = closes (expr_at c.args.limit) _ _ _ _ _ _ _ _ c.in_ok-lead.ensures c.in-Else.is c.on_heap-in-Else.ensures.read

pub returns-in-While-clause-read : goal.returns-in-While-clause-read
returns-in-While-clause-read c = closes (expr_at c.args.limit) _ _ _ _ _ _ _ _ c.in_ok-lead.ensures c.in-While.is c.on_heap-in-While.ensures.read

pub returns-in-Keys-clause-read : goal.returns-in-Keys-clause-read
returns-in-Keys-clause-read c = closes (expr_at c.args.limit) _ _ _ _ _ _ _ _ c.in_ok-lead.ensures c.in-Keys.is c.on_heap-in-Keys.ensures.read

pub returns-in-Counted-clause-read : goal.returns-in-Counted-clause-read
returns-in-Counted-clause-read c = closes (expr_at c.args.limit) _ _ _ _ _ _ _ _ c.in_ok-lead.ensures c.in-Counted.is (closes_counted (expr_at c.args.limit) _ _ (view_stmt c.in_ok-lead.body.value) _ _ _ c.into_inner-first.ensures c.on_heap-in-Counted.ensures.read)

pub returns-in-Do-clause-read : goal.returns-in-Do-clause-read
returns-in-Do-clause-read c = closes (expr_at c.args.limit) _ _ _ _ _ _ _ _ c.in_ok-lead.ensures c.in-Do.is
    (past (λ us. condition_at (expr_at c.args.limit) us >>= λ x. is_read (Do (view_stmt c.in_ok-lead.body.value) x.0) x.1) c.expect.ensures (then (λ x. is_read (Do (view_stmt c.in_ok-lead.body.value) x.0) x.1) c.condition-test.ensures c.on_heap-in-Do.ensures.read))
