use Rattle.std.proofs.Common.{◌≡◌, ◌++◌, take}
use Rattle.awk_values.specs.Values.{text_of_value}
use Rattle.host_worlds.specs.Lines.{followed}
use Rattle.host_worlds.proofs.output_line.push_others.Given as goal

abbrev pub invariant-loop-value : goal.invariant-loop-value
invariant-loop-value l = l.out.items ≡ l.fn.out.items ++ followed (text_of_value l.between) (take l.value-index l.values)
