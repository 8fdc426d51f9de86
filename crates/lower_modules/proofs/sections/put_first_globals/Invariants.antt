use Rattle.std.proofs.Common.{◌-◌, ◌∷◌, replicate}
use Rattle.wasm_types.specs.View.{view_global}
use Rattle.lower_model.specs.Modules.{long_global, word_global}
use Rattle.lower_model.specs.Small.{minus_one}
use Rattle.latched.proofs.LatchedLemmas.{Adding}
use Rattle.lower_modules.proofs.sections.put_first_globals.Given as goal

abbrev pub invariant-loop-done : goal.invariant-loop-done
invariant-loop-done l =
    Adding view_global l.fn.all l.all (replicate (l.ranges - l._done) (word_global 0)) (word_global 0 ∷ (long_global 0 ∷ (word_global minus_one ∷ replicate l.ranges (word_global 0))))
