-- How many bytes code takes at least, and how many statements there are.
use Rattle.std.specs.Prelude.{ℕ, suc, ◌+◌, ◌≤◌}
use Rattle.wasm_types.specs.Syntax.{Instructions}
use Rattle.mid_program.specs.Mid.{Step, Block, If, Loop, Each, Steps, NoStep, Then, Program}
use Rattle.lower_modules.specs.Lengths.{least_in}
use Rattle.lower_modules.specs.Limits.{most_bytes}

-- code that takes so much at least, beside what comes after it
abbrev pub TakesAtLeast : ℕ → (Instructions → Instructions) → Type 0
TakesAtLeast bytes code = (after : Instructions) → bytes + least_in after ≤ least_in (code after)

-- code that takes so much at least, whatever comes after it; and beside that, unless it is more than a module may have
abbrev pub Weighs : ℕ → (Instructions → Instructions) → Type 0
Weighs bytes code = ((after : Instructions) → bytes ≤ least_in (code after)) × (bytes ≤ most_bytes → TakesAtLeast bytes code)

-- how many statements there are, with those that stand in others
abbrev mutual
  pub statements_at : Step → ℕ
  statements_at (Block steps) = suc (statements_in steps)
  statements_at (If test so otherwise) = suc (statements_at so + statements_at otherwise)
  statements_at (Loop first test body last) = suc (statements_at body + statements_at last)
  statements_at (Each array store body) = suc (statements_at body)
  statements_at step = 1

  pub statements_in : Steps → ℕ
  statements_in NoStep = 0
  statements_in (Then step steps) = statements_at step + statements_in steps

abbrev pub main_statements : Program → ℕ
main_statements p = statements_in p.begin + (statements_in p.items + statements_in p.end)
