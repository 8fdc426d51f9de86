use Rattle.std.proofs.Common.{ℕ, List, drop, ◌+◌, ap, sym, ◌∙◌}
use Rattle.std.proofs.lemmas.List.{drop_all}
use Rattle.std.specs.Global.{Vec}
use Rattle.awk_grammar.specs.ViewStmt.{view_names}
use Rattle.awk_grammar.specs.Kinds.{Key, Inside, head_keys, with_key, with_keys}
use Rattle.awk_resolve.specs.ViewNames.{view_variables}
use Rattle.awk_resolve.proofs.Names.{drop_at}
use Rattle.awk_resolve.proofs.scopes.Variables.add_parameters.Goals as goal

pub loop-name-preserved : goal.loop-name-preserved
loop-name-preserved c = λ fine.
    let f = c.args.function.now in
    let ps = c.args.parameters.now in
    let a = c.number_of.ensures.added.adds fine in
    let p = c.loop-name.invariant a.0 in
    let old = view_variables c.loop-name.self.found.keys in
    let rest = head_keys f (view_names (drop (c.loop-name.name-index + 1) ps)) in (
      p.0,
      ap (λ (ks : List Key). with_keys ks rest) a.1
          ∙ ap (λ (x : List ℕ). with_keys (with_key old (Inside f x)) rest) c.deref.ensures.value
          ∙ sym (ap (λ (ns : List (Vec ℕ)). with_keys old (head_keys f (view_names ns))) (drop_at ps c.loop-name.name-index c.name-item.result c.loop-name-test.true c.name-item.is))
          ∙ p.1,
    )

pub returns : goal.returns
returns c = record {
  adds = λ fine.
      let p = c.loop-name.invariant fine in
      (p.0, sym (ap (λ (ns : List (Vec ℕ)). with_keys (view_variables c.loop-name.self.found.keys) (head_keys c.args.function.now (view_names ns))) (drop_all c.loop-name.name-index c.args.parameters.now c.loop-name-test.false)) ∙ p.1);
}
