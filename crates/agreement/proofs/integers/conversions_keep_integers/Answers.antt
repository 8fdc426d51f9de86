use Rattle.std.proofs.Common.{◌≡◌, ◌%◌, ◌^◌, subst, sym, ap, ◌∙◌, arith}
use Rattle.std.specs.Int.{w32, w64, cast_signed, cast_unsigned}
use mir.Val.{bits}
use Rattle.std.proofs.lemmas.Nat.{mod_below, pow_pos}
use Rattle.agreement.specs.Integers.Arithmetic.{IsLeft}
use Rattle.agreement.proofs.IntegersLemmas.Wrapped.{extends, left}
use Rattle.agreement.proofs.integers.conversions_keep_integers.Goals as goal

pub returns-clause-wrap : goal.returns-clause-wrap
returns-clause-wrap c = λ a r e. let same : a % 2 ^ 32 ≡ r = cc in subst (IsLeft w32 a) same (left w32 a)

pub returns-clause-extend_s : goal.returns-clause-extend_s
returns-clause-extend_s c = λ a r l e.
    let same : cast_unsigned w64 (cast_signed w32 a) ≡ r = cc in ap (cast_signed w64) (sym same) ∙ extends w32 w64 a (omega arith) l

pub returns-clause-extend_u : goal.returns-clause-extend_u
returns-clause-extend_u c = λ a r e. cc

pub returns-clause-low : goal.returns-clause-low
returns-clause-low c = λ m n a h. extends m n (a % 2 ^ bits m) h (mod_below a (2 ^ bits m) (pow_pos (bits m)))
