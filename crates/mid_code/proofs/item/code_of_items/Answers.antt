use Rattle.std.proofs.Common.{◌+◌, ℕ, List, drop, ap, sym, ◌∙◌, arith}
use Rattle.std.proofs.lemmas.List.{drop_all}
use Rattle.awk_grammar.specs.ViewStmt.{view_items}
use Rattle.awk_grammar.specs.declared.tree.Item.{Item}
use Rattle.awk_resolve.proofs.Names.{drop_at}
use Rattle.sem_scripts.specs.Ranges.{range_count}
use Rattle.mid_program.specs.Translation.{begin_code, end_code, items_code}
use Rattle.mid_code.specs.ViewScope.{scope_of, texts_of}
use Rattle.mid_code.specs.ViewSteps.{chain}
use Rattle.mid_code.proofs.Views.{chain_end}
use Rattle.mid_code.proofs.item.code_of_items.Goals as goal

pub loop-item-preserved : goal.loop-item-preserved
loop-item-preserved c =
    let item : Item = c.item-item.result in
    let items = c.args.items.now in
    let i = c.loop-item.item-index in
    let texts = texts_of c.args.scope.now in
    let scope = scope_of c.args.scope.now in
    let left = view_items (drop (i + 1) items) in
    let old = c.loop-item.found in
    let adds = c.in_ok-push_item.ensures in
    let first = drop_at items i item c.loop-item-test.true c.item-item.is in
    record {
      begin = adds.begin left ∙ sym (ap (λ (xs : List Item). chain old.begin.items (begin_code texts scope (view_items xs))) first) ∙ c.loop-item.invariant.begin;
      each =
          ap (λ (j : ℕ). chain c.push_item.new.found.each.items (items_code texts scope j left)) (omega (arith, adds.ranges, c.ranges_of.ensures.is))
          ∙ adds.each left ∙ sym (ap (λ (xs : List Item). chain old.each.items (items_code texts scope old.ranges (view_items xs))) first) ∙ c.loop-item.invariant.each;
      end = adds.end left ∙ sym (ap (λ (xs : List Item). chain old.end.items (end_code texts scope (view_items xs))) first) ∙ c.loop-item.invariant.end;
      counted = omega (arith, adds.ranges, c.ranges_of.ensures.is, c.loop-item.invariant.counted, ap (λ (xs : List Item). range_count (view_items xs)) first);
      within = omega (arith, adds.ranges, c.ranges_of.ensures.within, c.loop-item.invariant.within);
    }

pub returns-clause-begin : goal.returns-clause-begin
returns-clause-begin c =
    let found = c.loop-item.found.begin.items in
    sym (chain_end found)
    ∙ sym (ap (λ (xs : List Item). chain found (begin_code (texts_of c.args.scope.now) (scope_of c.args.scope.now) (view_items xs))) (drop_all c.loop-item.item-index c.args.items.now (omega arith)))
    ∙ c.loop-item.invariant.begin

pub returns-clause-each : goal.returns-clause-each
returns-clause-each c =
    let found = c.loop-item.found.each.items in
    sym (chain_end found)
    ∙ sym (ap (λ (xs : List Item). chain found (items_code (texts_of c.args.scope.now) (scope_of c.args.scope.now) c.loop-item.found.ranges (view_items xs))) (drop_all c.loop-item.item-index c.args.items.now (omega arith)))
    ∙ c.loop-item.invariant.each

pub returns-clause-end : goal.returns-clause-end
returns-clause-end c =
    let found = c.loop-item.found.end.items in
    sym (chain_end found)
    ∙ sym (ap (λ (xs : List Item). chain found (end_code (texts_of c.args.scope.now) (scope_of c.args.scope.now) (view_items xs))) (drop_all c.loop-item.item-index c.args.items.now (omega arith)))
    ∙ c.loop-item.invariant.end

pub returns-clause-ranges : goal.returns-clause-ranges
returns-clause-ranges c =
    omega (arith, c.loop-item.invariant.counted, ap (λ (xs : List Item). range_count (view_items xs)) (drop_all c.loop-item.item-index c.args.items.now (omega arith)))
