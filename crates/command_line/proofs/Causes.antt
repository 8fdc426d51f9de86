-- What clap's clause on the kinds of its errors says of each answer.
use Rattle.std.proofs.Common.{◌≡◌, ◌≢◌, [], Ok, Err, Result, IfErr, IfOk, inl, inr}
use Rattle.clap.specs.Words.{FailsBy, HasKind, IsAmong, Kinds, kind_of}
use Rattle.clap.specs.declared.error.Error.{Error}
use Rattle.clap.specs.declared.error.kind.ErrorKind.TheVariants.{OutOfMemory}

pub faultless : {T : Type 0} (kinds : Kinds) (r : Result T Error) → FailsBy kinds r → IfOk r (λ x. kinds ≡ [])
faultless kinds (Ok x) fails = fails
faultless kinds (Err e) fails = tt

among : (kinds : Kinds) (e : Error) → HasKind kinds e → kind_of e ≢ OutOfMemory → IsAmong (kind_of e) kinds
among kinds e (inl memory) named = absurd (named memory)
among kinds e (inr given) named = given

pub caused : {T : Type 0} (kinds : Kinds) (r : Result T Error) → FailsBy kinds r → IfErr r (λ e. kind_of e ≢ OutOfMemory → IsAmong (kind_of e) kinds)
caused kinds (Ok x) fails = tt
caused kinds (Err e) fails = among kinds e fails
