use Rattle.std.proofs.Common.{◌≡◌, ◌++◌, ◌≤◌, drop, flat_map, length, map}
use Rattle.std.specs.List.{AllByRecursion}
use Rattle.script_places.specs.Lines.{form_of, function_text}
use Rattle.script_places.specs.Reading.{Fits}
use Rattle.script_places.proofs.writing.put_functions.Given as goal

abbrev pub invariant-loop-function : goal.invariant-loop-function
invariant-loop-function l = record {
  text : l.out.items ++ flat_map function_text (map form_of (drop l.function-index l.functions)) ≡ l.fn.out.items ++ flat_map function_text (map form_of l.functions);
  fit : AllByRecursion Fits (map form_of (drop l.function-index l.functions)) → AllByRecursion Fits (map form_of l.functions);
  long : length (flat_map function_text (map form_of (drop l.function-index l.functions))) ≤ length (flat_map function_text (map form_of l.functions));
}
