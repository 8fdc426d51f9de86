use Rattle.std.proofs.Common.{◌≡◌, ◌+◌, ◌++◌, length, map, take, drop, Some}
use Rattle.wasm_store.proofs.table.Table.fill.Given as goal

abbrev pub invariant-loop-i : goal.invariant-loop-i
invariant-loop-i l = record {
  same : length l.self-inside.elements.items ≡ length l.fn.self;
  front : take (l.at + l.i) l.self-inside.elements.items ≡ take l.at l.fn.self ++ map Some (take l.i l.functions);
  back : drop (l.at + l.i) l.self-inside.elements.items ≡ drop (l.at + l.i) l.fn.self;
}
