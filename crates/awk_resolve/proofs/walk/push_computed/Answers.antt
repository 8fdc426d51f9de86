use Rattle.std.proofs.Common.{List, ap, arith}
use Rattle.std.proofs.lemmas.List.{drop_all}
use Rattle.awk_grammar.specs.View.{views}
use Rattle.awk_grammar.specs.declared.tree.Expr.{Expr}
use Rattle.awk_grammar.specs.Marks.{computed_marks}
use Rattle.latched.proofs.LatchedLemmas.{adding_all, adding_first, adding_next}
use Rattle.awk_resolve.specs.View.{view_mark}
use Rattle.awk_resolve.proofs.Names.{drop_at}
use Rattle.awk_resolve.proofs.walk.push_computed.Goals as goal

pub loop-i-init : goal.loop-i-init
loop-i-init c = adding_first view_mark c.args.out.now _

pub loop-i-preserved : goal.loop-i-preserved
loop-i-preserved c =
    let f = c.args.function.now in
    let i = c.loop-i.i in
    adding_next view_mark _ (ap (λ (us : List Expr). computed_marks f i (views us)) (drop_at c.args.arguments.now i c.index-arguments-i.result (omega arith) c.index-arguments-i.is)) c.loop-i.invariant c.put_computed.ensures

pub returns : goal.returns
returns c =
    adding_all view_mark _ (ap (λ (us : List Expr). computed_marks c.args.function.now c.loop-i.i (views us)) (drop_all c.loop-i.i c.args.arguments.now (omega arith))) c.loop-i.invariant
