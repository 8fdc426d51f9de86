use Rattle.std.proofs.Common.{List, drop, ◌+◌, ap, sym, ◌∙◌}
use Rattle.std.proofs.lemmas.List.{drop_all}
use Rattle.awk_grammar.specs.ViewStmt.{view_names}
use Rattle.awk_grammar.specs.Kinds.{Key, head_keys, parameter_keys, with_keys}
use Rattle.awk_resolve.specs.ViewNames.{view_heads, view_variables}
use Rattle.awk_resolve.specs.declared.scopes.Head.{Head}
use Rattle.awk_resolve.proofs.Names.{with_keys_append, drop_at}
use Rattle.awk_resolve.proofs.scopes.Variables.of_parameters.Goals as goal

pub loop-head-preserved : goal.loop-head-preserved
loop-head-preserved c = λ fine.
    let a = c.add_parameters.ensures.adds fine in
    let h = c.head-item.result in
    let old = view_variables c.loop-head.all.found.keys in
    let rest = parameter_keys (view_heads (drop (c.loop-head.head-index + 1) c.args.heads.now)) in
    ap (λ (ks : List Key). with_keys ks rest) a.1
    ∙ sym (with_keys_append old (head_keys h.name.now (view_names h.parameters.now)) rest)
    ∙ sym (ap (λ (hs : List Head). with_keys old (parameter_keys (view_heads hs))) (drop_at c.args.heads.now c.loop-head.head-index h c.loop-head-test.true c.head-item.is))
    ∙ c.loop-head.invariant a.0

pub returns : goal.returns
returns c = record {
  keys = λ fine.
      sym (ap (λ (hs : List Head). with_keys (view_variables c.loop-head.all.found.keys) (parameter_keys (view_heads hs))) (drop_all c.loop-head.head-index c.args.heads.now c.loop-head-test.false)) ∙ c.loop-head.invariant fine;
}
