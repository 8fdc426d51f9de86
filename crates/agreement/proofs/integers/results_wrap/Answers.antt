use Rattle.std.proofs.Common.{◌≡◌, ℕ, ◌+◌, ◌*◌, ◌%◌, ◌^◌, ◌<◌, subst}
use mir.Val.{bits}
use Rattle.wasm_store.specs.IntegerParts.{difference}
use Rattle.agreement.specs.Integers.Arithmetic.{IsLeft}
use Rattle.agreement.proofs.IntegersLemmas.Wrapped.{difference_left, left}
use Rattle.agreement.proofs.integers.results_wrap.Goals as goal

pub returns-clause-add : goal.returns-clause-add
returns-clause-add c = λ w a b r e. let same : (a + b) % 2 ^ bits w ≡ r = cc in subst (IsLeft w (a + b)) same (left w (a + b))

pub returns-clause-sub : goal.returns-clause-sub
returns-clause-sub c = λ w a b r la lb e.
    let same : difference w a b ≡ r = cc in
    subst (λ (n : ℕ). (n < 2 ^ bits w) × IsLeft w (b + n) a) same (difference_left w a b la lb)

pub returns-clause-mul : goal.returns-clause-mul
returns-clause-mul c = λ w a b r e. let same : (a * b) % 2 ^ bits w ≡ r = cc in subst (IsLeft w (a * b)) same (left w (a * b))

pub returns-clause-shl : goal.returns-clause-shl
returns-clause-shl c = λ w a b r e.
    let same : (a * 2 ^ (b % bits w)) % 2 ^ bits w ≡ r = cc in subst (IsLeft w (a * 2 ^ (b % bits w))) same (left w (a * 2 ^ (b % bits w)))
