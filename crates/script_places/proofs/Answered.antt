-- What holds of an answer, if it is no refusal.
use Rattle.std.proofs.Common.{Result, Ok, Err}
use Rattle.std.specs.Prelude.{IfOk}

pub of_ok : {A E : Type 0} {P Q : A → Type 0} (r : Result A E) → ((x : A) → P x → Q x) → IfOk r P → IfOk r Q
of_ok (Ok x) f h = f x h
of_ok (Err e) f h = tt
