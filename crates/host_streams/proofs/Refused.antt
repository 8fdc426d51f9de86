-- Where memory ran out before anything was done.
use Rattle.std.proofs.Common.{◌≡◌, Result, Ok, Err, IsErrAnd, ap}
use Rattle.awk_values.specs.declared.fault.Stop.{Stop}
use Rattle.awk_values.specs.declared.fault.Stop.TheVariants.{NoMemory as OutOfMemory}
use Rattle.world_core.specs.declared.world.WorldFault.{WorldFault}
use Rattle.world_core.specs.declared.world.WorldFault.TheVariants.{NoMemory}

pub is_stop : {A : Type 0} (r : Result A Stop) → IsErrAnd r (λ stop. stop ≡ OutOfMemory) → r ≡ Err OutOfMemory
is_stop (Ok x) h = absurd h
is_stop (Err stop) h = ap (λ e. Err e) h

pub is_fault : {A : Type 0} (r : Result A WorldFault) → IsErrAnd r (λ fault. fault ≡ NoMemory) → r ≡ Err NoMemory
is_fault (Ok x) h = absurd h
is_fault (Err fault) h = ap (λ e. Err e) h
