use Rattle.awk_grammar.specs.Token.{Token}
use Rattle.std.proofs.Common.{◌-◌, length, Bool, List, true, Some, None, sym, ap, ◌∙◌, arith}
use Rattle.awk_grammar.specs.Tree.{Whole, LValue, Plain}
use Rattle.awk_grammar.specs.Trees.{Tree, Bin, Cond, Var, Index, Call, Group}
use Rattle.awk_grammar.specs.Reading.{◌>>=◌, Read, Reader, expr_at, first_at, list_at, bracket_at, close_at, comma_at, colon_at, after, bare, suited, getting, from_by, less_at, indexed_by, index_at, call_by, open_at, applied_by, arguments_at, paren_by, into_by, getline_at}
use Rattle.awk_grammar.specs.ReadStmt.{open_here}
use Rattle.awk_grammar.specs.View.{view, views}
use Rattle.awk_grammar.specs.declared.tree.Expr.{Expr}
use Rattle.awk_parse.specs.Operands.{view_variable, in_array_at}
use Rattle.awk_parse.specs.Seen.{seen, view_mode, view_infix, view_link}
use Rattle.awk_parse.specs.Starts.{below, view_start, view_prefix}
use Rattle.awk_parse.specs.Parsed.{is_read}
use Rattle.awk_parse.proofs.Climbs.{climb_begin, climb_next, climb_end, climb_over, expr_none, expr_went}
use Rattle.awk_parse.proofs.Fits.{call_is, linked_went, moded, variable_went}
use Rattle.awk_parse.proofs.Lists.{trees_begin, trees_next, trees_end, trees_over, no_arguments, some_arguments}
use Rattle.awk_parse.proofs.Starts.{not_begun, begun}
use Rattle.awk_parse.proofs.ParsedLemmas.{seen_length, then, past, is_here, fails_here, goes_on, goes_as, reads_as, no_memory, kept_then}
use Rattle.awk_parse.proofs.expr.+expr.Goals as goal

pub read-returns-then-limit-eq0 : goal.read-returns-then-limit-eq0
read-returns-then-limit-eq0 t c = fails_here _ _ _ _ _ (expr_at c.args.limit c.args.greater (view_mode c.args.mode)) c.refuse.ensures (expr_none c.args.limit _ _ _ c.if-limit-eq0.true)

pub read-returns : goal.read-returns
read-returns t c = expr_went c.args.limit c.args.greater (view_mode c.args.mode) _ _ _ _ _ _ _ _ (omega (arith, c.if-limit-eq0.false)) c.floor.ensures c.operand-bare.ensures c.fitted-first.ensures c.chain.ensures

pub chain-loop-init : goal.chain-loop-init
chain-loop-init t c = λ v s w. climb_begin (expr_at (c.args.limit - 1)) c.args.greater c.args.limit _ _ _ v (seen c.args.source.now.rest.now) _ s (omega (arith, seen_length c.args.source.now.rest.now)) w

pub chain-loop-preserved : goal.chain-loop-preserved
chain-loop-preserved t c =
    λ v s w. c.loop.invariant v s (climb_next (expr_at (c.args.limit - 1)) c.args.greater c.args.limit c.loop.counter (length c.args.source.now.rest.now) c.args.least (view c.loop.left.tree) (view c.linked-left.result.tree) v (seen c.loop.source.rest.now) (seen c.in-Some.rest.now) (view_link c.in-Some.link) _ _ _ _ s
    c.loop-test.true c.in-Some.ensures c.go_on.ensures c.linked-left.ensures c.bounded.ensures w)

pub chain-returns-in_default : goal.chain-returns-in_default
chain-returns-in_default t c = c.loop.invariant _ _ (climb_end (expr_at (c.args.limit - 1)) c.args.greater c.args.limit (length c.args.source.now.rest.now - c.loop.counter) c.args.least (view c.loop.left.tree) (seen c.loop.source.rest.now) _ c.in_default.ensures)

pub chain-returns : goal.chain-returns
chain-returns t c = c.loop.invariant _ _ (climb_over (expr_at (c.args.limit - 1)) c.args.greater c.args.limit (length c.args.source.now.rest.now - c.loop.counter) c.args.least (view c.loop.left.tree) (seen c.loop.source.rest.now) _ (omega (arith, c.loop-test.false)))

pub linked-returns-in_default : goal.linked-returns-in_default
linked-returns-in_default t c = no_memory _ _ _ (after (expr_at c.args.limit) c.args.greater (view c.args.left.tree) (view_link c.args.link)) c.in_default.ensures

pub linked-returns-in-Joined : goal.linked-returns-in-Joined
linked-returns-in-Joined t c =
    let op = view_infix c.in-Joined.op in
    let right = moded (expr_at c.args.limit) c.args.greater _ _ c.right_of.ensures c.read-right.ensures in
    linked_went (expr_at c.args.limit) c.args.greater _ _ _ _ _ _ _ _ (ap view_link c.in-Joined.is) c.in-Some.ensures (then (λ x. is_read (Bin op (view c.in-Some.left.tree.value) x.0) x.1) right c.joined.ensures)

pub linked-returns-in-In : goal.linked-returns-in-In
linked-returns-in-In t c = linked_went (expr_at c.args.limit) c.args.greater _ _ _ _ _ _ _ _ (ap view_link c.in-In.is) c.in-Some.ensures c.contained.ensures

pub linked-returns-in-Question : goal.linked-returns-in-Question
linked-returns-in-Question t c = linked_went (expr_at c.args.limit) c.args.greater _ _ _ _ _ _ _ _ (ap view_link c.in-Question.is) c.in-Some.ensures c.conditional.ensures

-- the second side of a conditional, from its `:`
abbrev otherwise : Reader → Bool → Tree → Tree → List Token → Read
otherwise expr g t s ts = colon_at ts >>= λ us. expr g Whole us >>= λ y. is_read (Cond t s y.0) y.1

pub conditional-returns-in_default : goal.conditional-returns-in_default
conditional-returns-in_default t c =
    let rest = otherwise (expr_at c.args.limit) c.args.greater (view c.args.condition.tree.value) in
    then (λ x. rest x.0 x.1) c.read-then.ensures (no_memory _ _ _ (rest (view c.read-then.result.tree)) c.in_default.ensures)

pub conditional-returns : goal.conditional-returns
conditional-returns t c =
    let condition = view c.args.condition.tree.value in
    let rest = otherwise (expr_at c.args.limit) c.args.greater condition in
    let last = then (λ y. is_read (Cond condition (view c.in-Some.then.tree.value) y.0) y.1) c.read-last.ensures c.choice.ensures in
    then (λ x. rest x.0 x.1) c.read-then.ensures (kept_then (λ (e : Expr). rest (view e)) _ _ _ _ _ c.in-Some.ensures (past _ c.expect.ensures last))

pub read_list-loop-init : goal.read_list-loop-init
read_list-loop-init t c = λ v s w. trees_begin (expr_at c.args.limit) c.args.greater c.none.result.trees.items _ v _ _ (seen c.with_one-all.new.source.rest.now) _ _ _ s c.none.ensures (omega (arith, seen_length c.with_one-all.new.source.rest.now)) c.read-first.ensures c.with_one-all.ensures w

pub read_list-loop-preserved : goal.read_list-loop-preserved
read_list-loop-preserved t c =
    λ v s w. c.loop.invariant v s (trees_next (expr_at c.args.limit) c.args.greater (views c.loop.all.trees.items) _ v _ c.loop.counter (length c.with_one-all.new.source.rest.now) (seen c.loop.source.rest.now) (seen c.in-Some.rest.now) _ _ _ _ s
    c.loop-test.true c.in-Some.ensures.may c.go_on.ensures c.read-next.ensures c.with_one-all-in-loop.ensures w)

pub read_list-returns-in_default : goal.read_list-returns-in_default
read_list-returns-in_default t c = c.loop.invariant _ _ (trees_end (expr_at c.args.limit) c.args.greater (views c.loop.all.trees.items) (length c.with_one-all.new.source.rest.now - c.loop.counter) (seen c.loop.source.rest.now) _ c.in_default.ensures.may)

pub read_list-returns : goal.read_list-returns
read_list-returns t c = c.loop.invariant _ _ (trees_over (expr_at c.args.limit) c.args.greater (views c.loop.all.trees.items) (length c.with_one-all.new.source.rest.now - c.loop.counter) (seen c.loop.source.rest.now) _ (omega (arith, c.loop-test.false)))

pub arguments-returns-in-Some : goal.arguments-returns-in-Some
arguments-returns-in-Some t c = no_arguments (expr_at c.args.limit) _ _ _ _ _ c.none.ensures c.in-Some.ensures.must c.go_on.ensures

pub arguments-returns : goal.arguments-returns
arguments-returns t c = some_arguments (expr_at c.args.limit) _ _ _ _ _ c.in_default.ensures.must c.read_list-inner.ensures c.expect.ensures

pub named-returns-in_default : goal.named-returns-in_default
named-returns-in_default t c =
    let expr = expr_at c.args.limit in
    let ts = seen c.copied-name.new.self.rest.now in
    then (λ x. indexed_by expr x.0 x.1 (index_at x.1)) c.copied-name.ensures (goes_as ts _ (λ us. indexed_by expr c.copied-name.result.items us (index_at us)) (is_read (Var c.copied-name.result.items)) (ap (indexed_by expr c.copied-name.result.items ts) c.in_default.ensures.may) (is_here _ _ _ c.variable.ensures))

pub named-returns : goal.named-returns
named-returns t c =
    let expr = expr_at c.args.limit in
    let name = c.copied-name.result.items in
    let ts = seen c.copied-name.new.self.rest.now in
    then (λ x. indexed_by expr x.0 x.1 (index_at x.1)) c.copied-name.ensures
    (goes_on ts (seen c.in-Some.rest.now) _ (λ us. indexed_by expr name us (index_at us)) (λ us. list_at expr true us >>= λ x. bracket_at x.1 >>= λ vs. is_read (Index name x.0) vs) c.go_on.ensures (ap (indexed_by expr name ts) c.in-Some.ensures.may)
    (then (λ x. bracket_at x.1 >>= λ vs. is_read (Index name x.0) vs) c.read_list-subscripts.ensures (past _ c.expect.ensures (is_here _ _ _ c.element.ensures))))

pub call-returns : goal.call-returns
call-returns t c =
    let expr = expr_at c.args.limit in
    let name = c.copied-function.result.items in
    then (λ x. call_by expr x.0 (open_at x.1)) c.copied-function.ensures
    (reads_as (λ us. call_by expr name (open_at us)) (λ us. open_here us >>= λ vs. call_by expr name (Some vs)) (call_is expr name)
    (past (λ vs. call_by expr name (Some vs)) c.expect.ensures (then (λ x. is_read (Call name x.0) x.1) c.arguments-inner.ensures (is_here _ _ _ c.call_of.ensures))))

pub applied-returns-in_default : goal.applied-returns-in_default
applied-returns-in_default t c =
    let ts = seen c.args.source.now.rest.now in
    goes_as ts _ (λ us. applied_by (expr_at c.args.limit) c.args.function us (open_at us)) (bare c.args.function) (ap (applied_by (expr_at c.args.limit) c.args.function ts) c.in_default.ensures.may) c.bare.ensures

pub applied-returns : goal.applied-returns
applied-returns t c =
    let expr = expr_at c.args.limit in
    let ts = seen c.args.source.now.rest.now in
    goes_on ts (seen c.in-Some.rest.now) _ (λ us. applied_by expr c.args.function us (open_at us)) (λ us. arguments_at expr us >>= suited c.args.function) c.go_on.ensures (ap (applied_by expr c.args.function ts) c.in-Some.ensures.may)
    (then (suited c.args.function) c.arguments-inner.ensures c.suited.ensures)

pub parenthesised-returns-in_default : goal.parenthesised-returns-in_default
parenthesised-returns-in_default t c =
    let expr = expr_at c.args.limit in
    then (λ x. paren_by expr x.0 x.1 (comma_at x.1)) c.read-first.ensures (no_memory _ _ _ (λ us. paren_by expr (view c.read-first.result.tree) us (comma_at us)) c.in_default.ensures)

pub parenthesised-returns-in-Some-after : goal.parenthesised-returns-in-Some-after
parenthesised-returns-in-Some-after t c =
    let expr = expr_at c.args.limit in
    let first = view c.in-Some.first.tree.value in
    let ts = seen c.part.new.source.rest.now in
    then (λ x. paren_by expr x.0 x.1 (comma_at x.1)) c.read-first.ensures (kept_then (λ (e : Expr) us. paren_by expr (view e) us (comma_at us)) _ _ _ _ _ c.in-Some.ensures
    (goes_on ts (seen c.in-Some-after.rest.now) _ (λ us. paren_by expr first us (comma_at us)) (λ us. list_at expr true us >>= λ x. in_array_at first x.0 x.1) c.go_on.ensures (ap (paren_by expr first ts) c.in-Some-after.ensures.may)
    (then (λ x. in_array_at first x.0 x.1) c.read_list-others.ensures c.in_array.ensures)))

pub parenthesised-returns : goal.parenthesised-returns
parenthesised-returns t c =
    let expr = expr_at c.args.limit in
    let first = view c.in-Some.first.tree.value in
    let ts = seen c.part.new.source.rest.now in
    then (λ x. paren_by expr x.0 x.1 (comma_at x.1)) c.read-first.ensures (kept_then (λ (e : Expr) us. paren_by expr (view e) us (comma_at us)) _ _ _ _ _ c.in-Some.ensures
    (goes_as ts _ (λ us. paren_by expr first us (comma_at us)) (λ us. close_at us >>= λ vs. is_read (Group first) vs) (ap (paren_by expr first ts) c.in_default-after.ensures.may) (past _ c.expect.ensures (is_here _ _ _ c.grouped.ensures))))

pub getline-returns-then-not-begins_lvalue : goal.getline-returns-then-not-begins_lvalue
getline-returns-then-not-begins_lvalue t c =
    let expr = expr_at c.args.limit in
    let ts = seen c.args.source.now.rest.now in
    goes_as ts _ (getline_at expr c.args.greater) (λ us. from_by expr c.args.greater None us (less_at us)) (ap (into_by expr c.args.greater ts) (sym c.begins_lvalue.ensures ∙ c.if-not-begins_lvalue.true)) c.from_file.ensures

pub getline-returns : goal.getline-returns
getline-returns t c =
    let expr = expr_at c.args.limit in
    let ts = seen c.args.source.now.rest.now in
    goes_as ts _ (getline_at expr c.args.greater) (λ us. expr c.args.greater LValue us >>= λ x. from_by expr c.args.greater (Some x.0) x.1 (less_at x.1)) (ap (into_by expr c.args.greater ts) (sym c.begins_lvalue.ensures ∙ c.if-not-begins_lvalue.false))
    (then (λ x. from_by expr c.args.greater (Some x.0) x.1 (less_at x.1)) c.read-variable.ensures (variable_went expr c.args.greater c.part-variable.result _ _ _ _ _ c.part-variable.ensures c.from_file-2.ensures))

pub from_file-returns-in_default : goal.from_file-returns-in_default
from_file-returns-in_default t c =
    let expr = expr_at c.args.limit in
    let given = view_variable c.args.variable in
    let ts = seen c.args.source.now.rest.now in
    goes_as ts _ (λ us. from_by expr c.args.greater given us (less_at us)) (is_read (getting given None)) (ap (from_by expr c.args.greater given ts) c.in_default.ensures.may) (is_here _ _ _ c.got.ensures)

pub from_file-returns : goal.from_file-returns
from_file-returns t c =
    let expr = expr_at c.args.limit in
    let given = view_variable c.args.variable in
    let ts = seen c.args.source.now.rest.now in
    goes_on ts (seen c.in-Some.rest.now) _ (λ us. from_by expr c.args.greater given us (less_at us)) (λ us. expr c.args.greater Plain us >>= λ x. is_read (getting given (Some x.0)) x.1) c.go_on.ensures (ap (from_by expr c.args.greater given ts) c.in-Some.ensures.may)
    (then (λ x. is_read (getting given (Some x.0)) x.1) c.read-file.ensures c.got_from.ensures)

pub prefixed-returns : goal.prefixed-returns
prefixed-returns t c =
    let prefix = view_prefix c.args.prefix in
    let inner = moded (expr_at c.args.limit) c.args.greater _ _ c.mode_below.ensures c.read-inner.ensures in
    then (λ x. is_read (below prefix x.0) x.1) inner c.below.ensures

pub operand-returns-in_default : goal.operand-returns-in_default
operand-returns-in_default t c = fails_here _ _ _ _ _ (first_at (expr_at c.args.limit) c.args.greater (view_mode c.args.mode)) c.refuse.ensures (rw c.stopped.ensures (not_begun (expr_at c.args.limit) c.args.greater (view_mode c.args.mode) _ c.in_default.ensures))

pub operand-returns-in-Literal : goal.operand-returns-in-Literal
operand-returns-in-Literal t c = begun (expr_at c.args.limit) c.args.greater (view_mode c.args.mode) _ _ (seen c.in-Some.rest.now) (view_start c.in-Some.start) _ _ _ _ c.in-Some.ensures c.go_on.ensures (ap view_start c.in-Literal.is) c.constant.ensures

pub operand-returns-in-Name : goal.operand-returns-in-Name
operand-returns-in-Name t c = begun (expr_at c.args.limit) c.args.greater (view_mode c.args.mode) _ _ (seen c.in-Some.rest.now) (view_start c.in-Some.start) _ _ _ _ c.in-Some.ensures c.go_on.ensures (ap view_start c.in-Name.is) c.named.ensures

pub operand-returns-in-FuncName : goal.operand-returns-in-FuncName
operand-returns-in-FuncName t c = begun (expr_at c.args.limit) c.args.greater (view_mode c.args.mode) _ _ (seen c.in-Some.rest.now) (view_start c.in-Some.start) _ _ _ _ c.in-Some.ensures c.go_on.ensures (ap view_start c.in-FuncName.is) c.call.ensures

pub operand-returns-in-Builtin : goal.operand-returns-in-Builtin
operand-returns-in-Builtin t c = begun (expr_at c.args.limit) c.args.greater (view_mode c.args.mode) _ _ (seen c.in-Some.rest.now) (view_start c.in-Some.start) _ _ _ _ c.in-Some.ensures c.go_on.ensures (ap view_start c.in-Builtin.is) c.applied.ensures

pub operand-returns-in-Getline : goal.operand-returns-in-Getline
operand-returns-in-Getline t c = begun (expr_at c.args.limit) c.args.greater (view_mode c.args.mode) _ _ (seen c.in-Some.rest.now) (view_start c.in-Some.start) _ _ _ _ c.in-Some.ensures c.go_on.ensures (ap view_start c.in-Getline.is) c.getline.ensures

pub operand-returns-in-Paren : goal.operand-returns-in-Paren
operand-returns-in-Paren t c = begun (expr_at c.args.limit) c.args.greater (view_mode c.args.mode) _ _ (seen c.in-Some.rest.now) (view_start c.in-Some.start) _ _ _ _ c.in-Some.ensures c.go_on.ensures (ap view_start c.in-Paren.is) c.parenthesised.ensures

pub operand-returns-in-Prefix : goal.operand-returns-in-Prefix
operand-returns-in-Prefix t c = begun (expr_at c.args.limit) c.args.greater (view_mode c.args.mode) _ _ (seen c.in-Some.rest.now) (view_start c.in-Some.start) _ _ _ _ c.in-Some.ensures c.go_on.ensures (ap view_start c.in-Prefix.is) c.prefixed.ensures
