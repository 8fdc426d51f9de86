use Rattle.std.proofs.Common.{ℕ, ◌≡◌, ◌+◌, ◌%◌, min, max, subst}
use Rattle.std.specs.Prelude.{bit_and, bit_or, bit_xor}
use mir.Val.{bits}
use Rattle.std.proofs.lemmas.Nat.Bits.{bit_at_and, bit_at_or, bit_at_xor}
use Rattle.wasm_store.specs.IntegerParts.{rotated_left, rotated_right}
use Rattle.agreement.specs.Integers.Bits.{IsBitwise, IsRotatedLeft}
use Rattle.agreement.proofs.IntegersLemmas.Placed.{ones_counted, rotates, rotates_back, zeros_lead, zeros_trail}
use Rattle.agreement.proofs.integers.bits_are_placed.Goals as goal

pub returns-clause-and : goal.returns-clause-and
returns-clause-and c = λ w a b r e. let same : bit_and a b ≡ r = cc in subst (IsBitwise min a b) same (bit_at_and a b)

pub returns-clause-or : goal.returns-clause-or
returns-clause-or c = λ w a b r e. let same : bit_or a b ≡ r = cc in subst (IsBitwise max a b) same (bit_at_or a b)

pub returns-clause-xor : goal.returns-clause-xor
returns-clause-xor c = λ w a b r e. let same : bit_xor a b ≡ r = cc in subst (IsBitwise (λ x y. (x + y) % 2) a b) same (bit_at_xor a b)

pub returns-clause-rotl : goal.returns-clause-rotl
returns-clause-rotl c = λ w a b r la e. let same : rotated_left w a b ≡ r = cc in subst (IsRotatedLeft w (b % bits w) a) same (rotates w a b la)

pub returns-clause-rotr : goal.returns-clause-rotr
returns-clause-rotr c = λ w a b r la e.
    let same : rotated_right w a b ≡ r = cc in subst (λ (n : ℕ). IsRotatedLeft w (b % bits w) n a) same (rotates_back w a b la)

pub returns-clause-ctz : goal.returns-clause-ctz
returns-clause-ctz c = zeros_trail

pub returns-clause-popcnt : goal.returns-clause-popcnt
returns-clause-popcnt c = λ w a la. ones_counted (bits w) a la

pub returns-clause-clz : goal.returns-clause-clz
returns-clause-clz c = zeros_lead
