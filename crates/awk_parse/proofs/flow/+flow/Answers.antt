use Rattle.std.proofs.Common.{◌-◌, length, Ok, sym, ap, ◌∙◌, arith}
use Rattle.awk_grammar.specs.View.{view}
use Rattle.awk_grammar.specs.Reading.{◌>>=◌, expr_at}
use Rattle.awk_grammar.specs.ReadStmt.{stmt_at, block_at, if_at, else_at, else_by, simple_at}
use Rattle.awk_grammar.specs.Trees.{Block, If, IfElse}
use Rattle.awk_grammar.specs.ViewStmt.{view_stmts}
use Rattle.awk_parse.specs.Seen.{seen}
use Rattle.awk_parse.proofs.ParsedLemmas.{seen_length}
use Rattle.awk_parse.specs.Bodies.{view_boxed, looped_at, short_at}
use Rattle.awk_parse.specs.Parsed.{is_read}
use Rattle.awk_parse.proofs.Closed.{chooses}
use Rattle.awk_parse.specs.StatementStarts.{view_stmt_start}
use Rattle.awk_parse.proofs.Blocks.{stmts_begin, stmts_next, stmts_added, stmts_closed, stmts_stopped, stmts_over}
use Rattle.awk_parse.proofs.StatementStarts.{stmt_is, stmt_none, short_is, looped_is}
use Rattle.awk_parse.proofs.ParsedLemmas.{then, fails_here, goes_on, goes_as}
use Rattle.awk_parse.proofs.HeldLemmas.{none_went}
use Rattle.awk_parse.proofs.flow.+flow.Goals as goal

pub statement-returns-then-limit-eq0-clause-read : goal.statement-returns-then-limit-eq0-clause-read
statement-returns-then-limit-eq0-clause-read t c = fails_here _ _ _ _ _ (stmt_at c.args.limit) c.refuse.ensures (stmt_none c.args.limit _ c.if-limit-eq0.true)

pub statement-returns-in-Block-clause-read : goal.statement-returns-in-Block-clause-read
statement-returns-in-Block-clause-read t c =
    let ts = seen c.args.source.now.rest.now in
    let begun = stmt_is c.args.limit ts _ (omega (arith, c.if-limit-eq0.false)) (sym c.stmt_start.ensures ∙ ap view_stmt_start c.in-Block.is) in
    goes_on ts (seen c.in-Block.rest.now) _ (stmt_at c.args.limit) (block_at (stmt_at (c.args.limit - 1))) c.go_on.ensures begun (then (λ x. Ok (Block x.0, x.1)) c.statements-inner.ensures c.block_of.ensures.read)

pub statement-returns-in-If-clause-read : goal.statement-returns-in-If-clause-read
statement-returns-in-If-clause-read t c =
    let ts = seen c.args.source.now.rest.now in
    let begun = stmt_is c.args.limit ts _ (omega (arith, c.if-limit-eq0.false)) (sym c.stmt_start.ensures ∙ ap view_stmt_start c.in-If.is) in
    goes_on ts (seen c.in-If.rest.now) _ (stmt_at c.args.limit) (if_at (expr_at (c.args.limit - 1)) (stmt_at (c.args.limit - 1))) c.go_on-in-If.ensures begun c.if_statement.ensures.read

pub statement-returns-in-Loop-clause-read : goal.statement-returns-in-Loop-clause-read
statement-returns-in-Loop-clause-read t c =
    let ts = seen c.args.source.now.rest.now in
    let begun = stmt_is c.args.limit ts _ (omega (arith, c.if-limit-eq0.false)) (sym c.stmt_start.ensures ∙ ap view_stmt_start c.in-Loop.is) in
    goes_on ts (seen c.in-Loop.rest.now) _ (stmt_at c.args.limit) (looped_at (expr_at (c.args.limit - 1)) (stmt_at (c.args.limit - 1)) c.in-Loop.word) c.go_on-in-Loop.ensures (begun ∙ looped_is (expr_at (c.args.limit - 1)) (stmt_at (c.args.limit - 1)) c.in-Loop.word (seen c.in-Loop.rest.now)) c.loop_statement.ensures.read

pub statement-returns-in-Short-clause-read : goal.statement-returns-in-Short-clause-read
statement-returns-in-Short-clause-read t c =
    let ts = seen c.args.source.now.rest.now in
    let begun = stmt_is c.args.limit ts _ (omega (arith, c.if-limit-eq0.false)) (sym c.stmt_start.ensures ∙ ap view_stmt_start c.in-Short.is) in
    goes_on ts (seen c.in-Short.rest.now) _ (stmt_at c.args.limit) (short_at (expr_at (c.args.limit - 1)) c.in-Short.start) c.go_on-in-Short.ensures (begun ∙ short_is (expr_at (c.args.limit - 1)) (stmt_at (c.args.limit - 1)) ts (seen c.in-Short.rest.now) c.in-Short.start) c.short.ensures.read

pub statement-returns-in-Simple-clause-read : goal.statement-returns-in-Simple-clause-read
statement-returns-in-Simple-clause-read t c =
    let ts = seen c.args.source.now.rest.now in
    let begun = stmt_is c.args.limit ts _ (omega (arith, c.if-limit-eq0.false)) (sym c.stmt_start.ensures ∙ ap view_stmt_start c.in-Simple.is) in
    goes_as ts _ (stmt_at c.args.limit) (simple_at (expr_at (c.args.limit - 1))) begun c.simple_statement.ensures.read

pub statements-loop-init : goal.statements-loop-init
statements-loop-init t c = λ v s w. stmts_begin (stmt_at c.args.limit) _ v _ (seen c.args.source.now.rest.now) _ s (ap view_stmts c.new-read.ensures.items) (omega (arith, seen_length c.args.source.now.rest.now)) w

pub statements-loop-preserved : goal.statements-loop-preserved
statements-loop-preserved t c =
    let added = stmts_added c.push_boxed.new.items.items c.loop.read.items c.in-Some-statement.next.value _ _ c.push_boxed.ensures in
    λ v s w. c.loop.invariant v s (stmts_next (stmt_at c.args.limit) _ _ v _ c.loop.counter (length c.args.source.now.rest.now) (seen c.loop.source.rest.now) _ _ _ s c.loop-test.true c.in_default.ensures.may c.in-Some-statement.ensures.read added w)

pub statements-returns-in-Some : goal.statements-returns-in-Some
statements-returns-in-Some t c =
    c.loop.invariant _ _ (stmts_closed (stmt_at c.args.limit) (view_stmts c.loop.read.items) c.loop.counter (length c.args.source.now.rest.now) (seen c.loop.source.rest.now) (seen c.in-Some.rest.now) _ _ c.loop-test.true c.in-Some.ensures.may c.go_on.ensures)

pub statements-returns-in_default-statement : goal.statements-returns-in_default-statement
statements-returns-in_default-statement t c =
    c.loop.invariant _ _ (stmts_stopped (stmt_at c.args.limit) (view_stmts c.loop.read.items) _ c.loop.counter (length c.args.source.now.rest.now) (seen c.loop.source.rest.now) _ _ c.loop-test.true c.in_default.ensures.may c.in_default-statement.ensures.read c.in_default-statement.ensures.held)

pub statements-returns : goal.statements-returns
statements-returns t c =
    c.loop.invariant _ _ (stmts_over (stmt_at c.args.limit) (view_stmts c.loop.read.items) (length c.args.source.now.rest.now - c.loop.counter) (seen c.loop.source.rest.now) _ _ _ _ (omega (arith, c.loop-test.false)) c.stopped.ensures c.refuse.ensures)

pub if_statement-returns-in_default-clause-read : goal.if_statement-returns-in_default-clause-read
if_statement-returns-in_default-clause-read t c =
    let stmt = stmt_at c.args.limit in
    let test = view c.condition-test.result in
    let first = view_boxed c.statement-then.result in
    let ts = seen c.statement-then.new.source.rest.now in
    then _ c.condition-test.ensures (then _ c.statement-then.ensures.read (goes_as ts _ (λ us. else_by stmt test first us (else_at us)) (is_read (If test first)) (ap (else_by stmt test first ts) c.in_default.ensures.may) c.closed.ensures.read))

pub if_statement-returns-in_err-test-clause-read : goal.if_statement-returns-in_err-test-clause-read
if_statement-returns-in_err-test-clause-read t c =
    let test = view c.condition-test.result in
    let first = view_boxed c.statement-then.result in
    then _ c.condition-test.ensures (then _ c.statement-then.ensures.read (none_went _ c.statement-then.result _ (λ us. else_by (stmt_at c.args.limit) test first us (else_at us)) c.in_err-test.ensures c.statement-then.ensures.held))

pub if_statement-returns-clause-read : goal.if_statement-returns-clause-read
if_statement-returns-clause-read t c =
    let stmt = stmt_at c.args.limit in
    let test = view c.condition-test.result in
    let first = view_boxed c.statement-then.result in
    let ts = seen c.statement-then.new.source.rest.now in
    let us = seen c.in-Some.rest.now in
    let chosen = chooses _ _ _ _ _ _ _ _ c.in_ok-test.ensures c.closed-2.ensures.read in
    then _ c.condition-test.ensures (then _ c.statement-then.ensures.read (goes_on ts us _ (λ vs. else_by stmt test first vs (else_at vs)) (λ vs. stmt vs >>= λ y. is_read (IfElse test first y.0) y.1) c.go_on.ensures (ap (else_by stmt test first ts) c.in-Some.ensures.may)
    (then (λ y. is_read (IfElse test first y.0) y.1) c.statement-otherwise.ensures.read chosen)))
