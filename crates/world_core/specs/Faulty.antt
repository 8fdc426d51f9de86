-- A world of which one call fails.
use Rattle.std.specs.Prelude.{◌≡◌, ℕ, ◌+◌, ◌%◌, ◌^◌, Result, Err}
use Rattle.world_core.specs.declared.world.WorldFault.{WorldFault}
use Rattle.world_core.specs.declared.world.WorldFault.TheVariants.{Failed}
use Rattle.world_core.specs.declared.faulty.FaultyWorld.{FaultyWorld}

-- the world that all other calls are handed on to
abbrev pub inside : {W : Type 0} → FaultyWorld W → W
inside w = w.inner

-- The number of the call that fails, counted from the next one: 1 is the next. 0 is none.
abbrev pub calls_left : {W : Type 0} → FaultyWorld W → ℕ
calls_left w = w.calls_left

-- how many calls failed without being handed on
abbrev pub failed_here : {W : Type 0} → FaultyWorld W → ℕ
failed_here w = w.failed

-- how many calls have failed, inside or here, where the world inside counts so
abbrev pub failures_of : {W : Type 0} → (W → ℕ) → FaultyWorld W → ℕ
failures_of count w = (count (inside w) + failed_here w) % 2 ^ 64

-- A call fails: it is answered so, nothing changes inside, and it is counted.
pub record Fails {W T : Type 0} (old : FaultyWorld W) (result : Result T WorldFault) (new : FaultyWorld W) : Type 0 where
  pub answer : result ≡ Err Failed
  pub unchanged : inside new ≡ inside old
  pub counted : failed_here new ≡ (failed_here old + 1) % 2 ^ 64
