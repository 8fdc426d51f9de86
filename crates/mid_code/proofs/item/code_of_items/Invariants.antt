use Rattle.std.proofs.Common.{◌≡◌, ◌+◌, ◌≤◌, drop}
use Rattle.awk_grammar.specs.ViewStmt.{view_items}
use Rattle.sem_scripts.specs.Ranges.{range_count}
use Rattle.mid_program.specs.Translation.{begin_code, end_code, items_code}
use Rattle.mid_code.specs.ViewScope.{scope_of, texts_of}
use Rattle.mid_code.specs.ViewSteps.{chain}
use Rattle.mid_code.proofs.item.code_of_items.Given as goal

abbrev pub invariant-loop-item : goal.invariant-loop-item
invariant-loop-item l = record {
  begin :
      chain l.found.begin.items (begin_code (texts_of l.scope) (scope_of l.scope) (view_items (drop l.item-index l.items)))
      ≡ begin_code (texts_of l.scope) (scope_of l.scope) (view_items l.items);
  each :
      chain l.found.each.items (items_code (texts_of l.scope) (scope_of l.scope) l.found.ranges (view_items (drop l.item-index l.items)))
      ≡ items_code (texts_of l.scope) (scope_of l.scope) 0 (view_items l.items);
  end :
      chain l.found.end.items (end_code (texts_of l.scope) (scope_of l.scope) (view_items (drop l.item-index l.items)))
      ≡ end_code (texts_of l.scope) (scope_of l.scope) (view_items l.items);
  counted : l.found.ranges + range_count (view_items (drop l.item-index l.items)) ≡ range_count (view_items l.items);
  within : l.found.ranges ≤ l.item-index;
}
