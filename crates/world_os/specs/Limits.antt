-- A world of which so many bytes are read and written at most.
use Rattle.std.specs.Prelude.{◌≡◌, ℕ, ◌-◌, ◌<◌, ◌⊎◌, [], Bool, true, false, Result, Ok, Err}
use Rattle.world_core.specs.declared.world.Ending.TheVariants.{End, Fails}
use Rattle.world_core.specs.declared.world.WorldFault.{WorldFault}
use Rattle.world_core.specs.declared.world.WorldFault.TheVariants.{Failed, NoMemory}
use Rattle.world_core.specs.WorldState.{State}
use Rattle.world_os.specs.declared.limits.LimitedWorld.{LimitedWorld}
use Rattle.world_os.specs.declared.meter.Meter.{Meter}

-- how many bytes a call moved
abbrev pub moved : Result ℕ WorldFault → ℕ
moved (Ok n) = n
moved (Err fault) = 0

-- how many more bytes may pass
abbrev pub left : Meter → ℕ
left meter = meter.most - meter.passed

-- nothing is written or read yet, and these limits are set
pub record StartsWith {W : Type 0} (out inp : ℕ) (world : LimitedWorld W) : Type 0 where
  pub most_output : world.output.most ≡ out
  pub most_input : world.input.most ≡ inp
  pub written : world.output.passed ≡ 0
  pub read : world.input.passed ≡ 0
  pub not_over : world.input_is_over ≡ false
  pub refused : world.refused ≡ 0

-- some of a text may pass, or there is nothing to pass
abbrev pub MayPass : Meter → ℕ → Type 0
MayPass meter wanted = (wanted ≡ 0) ⊎ (0 < left meter)

-- No byte may pass: a read gives none. It tells the end where that is there, and else fails. After it has failed so once, it always does.
abbrev pub AtLimit : ℕ → State → Bool → Result ℕ WorldFault → Type 0
AtLimit id s true r = r ≡ Err Failed
AtLimit id s false (Ok n) = (n ≡ 0) × ((s.readers id).rest ≡ []) × ((s.readers id).ending ≡ End)
AtLimit id s false (Err Failed) = (s.readers id).rest ≡ [] → (s.readers id).ending ≡ Fails
AtLimit id s false (Err NoMemory) = Unit {0}
