-- Why there is no layout, or no module.
use Rattle.std.proofs.Common.{◌≡◌, Result, Ok, Err, IfErr, IsErrAnd, subst, sym}
use Rattle.lower_layout.specs.declared.fault.LowerFault.{LowerFault}

-- what a part of the work refuses, the whole refuses
pub refused : {A : Type 0} (r : Result A LowerFault) (e : LowerFault) (Q : LowerFault → Type 0) → IsErrAnd r (λ d. d ≡ e) → Q e → IfErr r Q
refused (Ok x) e Q h q = tt
refused (Err d) e Q h q = subst Q (sym h) q
