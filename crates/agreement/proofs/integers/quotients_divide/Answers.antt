use Rattle.std.proofs.Common.{◌≡◌, ℕ, ◌%◌, ◌^◌, subst}
use mir.Val.{bits}
use Rattle.std.proofs.lemmas.Nat.{pow_pos}
use Rattle.wasm_store.specs.IntegerParts.{shifted_right_signed, shifted_right_unsigned}
use Rattle.agreement.specs.Integers.Arithmetic.{IsDivided}
use Rattle.agreement.proofs.IntegersLemmas.Divided.{divided, shifted, signed_quotient, signed_rest, unsigned_quotient, unsigned_rest}
use Rattle.agreement.proofs.integers.quotients_divide.Goals as goal

pub returns-clause-div_u : goal.returns-clause-div_u
returns-clause-div_u c = λ w a b q e. unsigned_quotient a b q e

pub returns-clause-rem_u : goal.returns-clause-rem_u
returns-clause-rem_u c = λ w a b r e. unsigned_rest a b r e

pub returns-clause-div_s : goal.returns-clause-div_s
returns-clause-div_s c = signed_quotient

pub returns-clause-rem_s : goal.returns-clause-rem_s
returns-clause-rem_s c = signed_rest

pub returns-clause-shr_u : goal.returns-clause-shr_u
returns-clause-shr_u c = λ w a b q e.
    let same : shifted_right_unsigned w a b ≡ q = cc in (
      a % 2 ^ (b % bits w),
      subst (λ (n : ℕ). IsDivided a (2 ^ (b % bits w)) n (a % 2 ^ (b % bits w))) same (divided a (2 ^ (b % bits w)) (pow_pos (b % bits w))),
    )

pub returns-clause-shr_s : goal.returns-clause-shr_s
returns-clause-shr_s c = λ w a b q la e. let same : shifted_right_signed w a b ≡ q = cc in shifted w a b q la same
