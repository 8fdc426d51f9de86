use Rattle.std.proofs.Common.{◌≡◌, ◌++◌, drop, flat_map}
use Rattle.wasm_types.specs.Leb128Texts.{u32_text}
use Rattle.script_places.proofs.writing.put_numbers.Given as goal

abbrev pub invariant-loop-number : goal.invariant-loop-number
invariant-loop-number l = l.out.items ++ flat_map u32_text (drop l.number-index l.numbers) ≡ l.fn.out.items ++ flat_map u32_text l.numbers
