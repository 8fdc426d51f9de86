use Rattle.std.proofs.Common.{ap, refl}
use Rattle.std.proofs.lemmas.Result.{on_ok_weaker}
use Rattle.mid_code.specs.ViewScope.{scope_of, texts_of}
use Rattle.mid_code.specs.ViewSteps.{chain}
use Rattle.mid_code.proofs.StepParts.{chain_made, begin_item, end_item, action_item, lone_item, rule_item, is_begin, is_each, is_end, not_begin, not_each, not_end}
use Rattle.mid_code.proofs.item.push_item.Goals as goal

pub returns-in-Begin : goal.returns-in-Begin
returns-in-Begin c =
    let texts = texts_of c.args.scope.now in
    let scope = scope_of c.args.scope.now in
    let item = c.args.item.now in
    let old = c.args.found.now in
    on_ok_weaker c.push_made.result (λ h. record {
      begin = λ items. chain_made texts scope _ _ c.action.result _ _ _ h c.action.ensures (begin_item texts scope item _ _ items c.in-Begin.is c.deref.ensures.value);
      each = λ items. ap (chain old.each.items) (not_each texts scope item (ap is_each c.in-Begin.is) old.ranges items);
      end = λ items. ap (chain old.end.items) (not_end texts scope item (ap is_end c.in-Begin.is) items);
      ranges = refl;
    }) c.push_made.ensures.items

pub returns-in-End : goal.returns-in-End
returns-in-End c =
    let texts = texts_of c.args.scope.now in
    let scope = scope_of c.args.scope.now in
    let item = c.args.item.now in
    let old = c.args.found.now in
    on_ok_weaker c.push_made-in-End.result (λ h. record {
      begin = λ items. ap (chain old.begin.items) (not_begin texts scope item (ap is_begin c.in-End.is) items);
      each = λ items. ap (chain old.each.items) (not_each texts scope item (ap is_each c.in-End.is) old.ranges items);
      end = λ items. chain_made texts scope _ _ c.action-in-End.result _ _ _ h c.action-in-End.ensures (end_item texts scope item _ _ items c.in-End.is c.deref-in-End.ensures.value);
      ranges = refl;
    }) c.push_made-in-End.ensures.items

pub returns-in-Action : goal.returns-in-Action
returns-in-Action c =
    let texts = texts_of c.args.scope.now in
    let scope = scope_of c.args.scope.now in
    let item = c.args.item.now in
    let old = c.args.found.now in
    on_ok_weaker c.push_made-in-Action.result (λ h. record {
      begin = λ items. ap (chain old.begin.items) (not_begin texts scope item (ap is_begin c.in-Action.is) items);
      each = λ items. chain_made texts scope _ _ c.action-in-Action.result _ _ _ h c.action-in-Action.ensures (action_item texts scope item _ _ old.ranges items c.in-Action.is c.deref-in-Action.ensures.value);
      end = λ items. ap (chain old.end.items) (not_end texts scope item (ap is_end c.in-Action.is) items);
      ranges = refl;
    }) c.push_made-in-Action.ensures.items

pub returns-in-Rule : goal.returns-in-Rule
returns-in-Rule c =
    let texts = texts_of c.args.scope.now in
    let scope = scope_of c.args.scope.now in
    let item = c.args.item.now in
    let old = c.args.found.now in
    on_ok_weaker c.push_made-in-Rule.result (λ h. record {
      begin = λ items. ap (chain old.begin.items) (not_begin texts scope item (ap is_begin c.in-Rule.is) items);
      each = λ items. chain_made texts scope _ _ c.where_met-met.result _ _ _ h (c.where_met-met.ensures _ c.action-action.ensures) (rule_item texts scope item _ _ _ old.ranges items c.in-Rule.is c.deref-in-Rule.ensures.value);
      end = λ items. ap (chain old.end.items) (not_end texts scope item (ap is_end c.in-Rule.is) items);
      ranges = refl;
    }) c.push_made-in-Rule.ensures.items

pub returns-in-PatternOnly : goal.returns-in-PatternOnly
returns-in-PatternOnly c =
    let texts = texts_of c.args.scope.now in
    let scope = scope_of c.args.scope.now in
    let item = c.args.item.now in
    let old = c.args.found.now in
    on_ok_weaker c.push_made-in-PatternOnly.result (λ h. record {
      begin = λ items. ap (chain old.begin.items) (not_begin texts scope item (ap is_begin c.in-PatternOnly.is) items);
      each = λ items. chain_made texts scope _ _ c.where_met-met-in-PatternOnly.result _ _ _ h (c.where_met-met-in-PatternOnly.ensures _ c.print_record-action.ensures) (lone_item texts scope item _ old.ranges items c.in-PatternOnly.is);
      end = λ items. ap (chain old.end.items) (not_end texts scope item (ap is_end c.in-PatternOnly.is) items);
      ranges = refl;
    }) c.push_made-in-PatternOnly.ensures.items
