use Rattle.std.proofs.Common.{◌≡◌, ◌++◌, drop}
use Rattle.mid_program.specs.View.{view_texts}
use Rattle.lower_model.specs.Places.{memory_of}
use Rattle.lower_modules.proofs.sections.text_bytes.Given as goal

abbrev pub invariant-loop-text : goal.invariant-loop-text
invariant-loop-text l = l.bytes.items ++ memory_of (view_texts (drop l.text-index l.texts)) ≡ memory_of (view_texts l.texts)
