-- Worked values of the operators, as an engine gives them (Node.js 20), computed from the definitions. An integer is its bit pattern.
use Rattle.std.specs.Prelude.{◌≡◌, refl, true, false, Some, Ok, Err}
use Rattle.std.specs.Int.{w32, w64}
use Rattle.std.specs.Int.Count.{count_leading_zeros, count_trailing_zeros, ones, ones_in, ones-ones}
use Rattle.wasm_types.specs.declared.instr.IBinOp.TheVariants.{Add, Sub, Mul, DivS, DivU, RemS, RemU, And, Or, Xor, Shl, ShrS, ShrU, Rotl, Rotr}
use Rattle.wasm_types.specs.declared.instr.IUnOp.TheVariants.{Clz, Ctz, Popcnt}
use Rattle.wasm_types.specs.declared.instr.IRelOp.TheVariants.{Eq, Ne, LtS, LtU, GtS, GtU, LeS, LeU, GeS, GeU}
use Rattle.wasm_types.specs.declared.instr.ITestOp.TheVariants.{Eqz}
use Rattle.wasm_types.specs.declared.instr.CvtOp.TheVariants.{I32WrapI64, I64ExtendI32S, I64ExtendI32U, I32Extend8S, I32Extend16S, I64Extend8S, I64Extend16S, I64Extend32S}
use Rattle.wasm_store.specs.declared.trap.TrapKind.TheVariants.{DivideByZero, IntegerOverflow}
use Rattle.wasm_store.specs.declared.word.Word.TheVariants.{I32, I64}
use Rattle.wasm_store.specs.Integers.{binary_at, unary_at, test_at, compare_at}
use Rattle.wasm_store.specs.Words.{converted}

sums_32 :
    (binary_at w32 Add 0xffffffff 2 ≡ Ok 1)
    × (binary_at w32 Add 0x80000000 0x80000000 ≡ Ok 0)
    × (binary_at w32 Sub 0 1 ≡ Ok 0xffffffff)
    × (binary_at w32 Sub 5 3 ≡ Ok 2)
    × (binary_at w32 Mul 0xffffffff 0xffffffff ≡ Ok 1)
    × (binary_at w32 Mul 0x80000000 2 ≡ Ok 0)
sums_32 = (refl, refl, refl, refl, refl, refl)

bits_32 :
    (binary_at w32 And 12 10 ≡ Ok 8)
    × (binary_at w32 Or 12 10 ≡ Ok 14)
    × (binary_at w32 Xor 12 10 ≡ Ok 6)
    × (binary_at w32 Xor 0xffffffff 1 ≡ Ok 0xfffffffe)
bits_32 = (refl, refl, refl, refl)

-- -7 / 2 is -3, and 7 / -2 too; unsigned, the same patterns are large
quotients_32 :
    (binary_at w32 DivS 0xfffffff9 2 ≡ Ok 0xfffffffd)
    × (binary_at w32 DivS 7 0xfffffffe ≡ Ok 0xfffffffd)
    × (binary_at w32 DivU 0xfffffff9 2 ≡ Ok 0x7ffffffc)
    × (binary_at w32 DivU 7 0xfffffffe ≡ Ok 0)
quotients_32 = (refl, refl, refl, refl)

-- -7 modulo 2 is -1, 7 modulo -2 is 1; the least number modulo -1 is 0
remainders_32 :
    (binary_at w32 RemS 0xfffffff9 2 ≡ Ok 0xffffffff)
    × (binary_at w32 RemS 7 0xfffffffe ≡ Ok 1)
    × (binary_at w32 RemS 0x80000000 0xffffffff ≡ Ok 0)
    × (binary_at w32 RemU 0xfffffff9 2 ≡ Ok 1)
    × (binary_at w32 RemU 0x80000000 0xffffffff ≡ Ok 0x80000000)
remainders_32 = (refl, refl, refl, refl, refl)

-- by zero, and the least number by -1
division_traps_32 :
    (binary_at w32 DivS 1 0 ≡ Err DivideByZero)
    × (binary_at w32 DivU 1 0 ≡ Err DivideByZero)
    × (binary_at w32 RemS 1 0 ≡ Err DivideByZero)
    × (binary_at w32 RemU 1 0 ≡ Err DivideByZero)
    × (binary_at w32 DivS 0x80000000 0xffffffff ≡ Err IntegerOverflow)
    × (binary_at w32 DivU 0x80000000 0xffffffff ≡ Ok 0)
division_traps_32 = (refl, refl, refl, refl, refl, refl)

-- by the second operand modulo the width
shifts_32 :
    (binary_at w32 Shl 1 31 ≡ Ok 0x80000000)
    × (binary_at w32 Shl 1 32 ≡ Ok 1)
    × (binary_at w32 Shl 1 33 ≡ Ok 2)
    × (binary_at w32 Shl 0x80000001 1 ≡ Ok 2)
    × (binary_at w32 ShrS 0x80000000 31 ≡ Ok 0xffffffff)
    × (binary_at w32 ShrS 0xfffffff8 1 ≡ Ok 0xfffffffc)
    × (binary_at w32 ShrS 6 33 ≡ Ok 3)
    × (binary_at w32 ShrU 0x80000000 31 ≡ Ok 1)
    × (binary_at w32 ShrU 0xfffffff8 1 ≡ Ok 0x7ffffffc)
    × (binary_at w32 ShrU 6 33 ≡ Ok 3)
shifts_32 = (refl, refl, refl, refl, refl, refl, refl, refl, refl, refl)

rotations_32 :
    (binary_at w32 Rotl 0x80000001 1 ≡ Ok 3)
    × (binary_at w32 Rotl 0x80000001 32 ≡ Ok 0x80000001)
    × (binary_at w32 Rotl 3 31 ≡ Ok 0x80000001)
    × (binary_at w32 Rotr 1 1 ≡ Ok 0x80000000)
    × (binary_at w32 Rotr 3 33 ≡ Ok 0x80000001)
    × (binary_at w32 Rotr 0x80000000 31 ≡ Ok 1)
rotations_32 = (refl, refl, refl, refl, refl, refl)

leading_zeros_32 :
    (unary_at w32 Clz 0 ≡ 32)
    × (unary_at w32 Clz 1 ≡ 31)
    × (unary_at w32 Clz 0x7fffffff ≡ 1)
    × (unary_at w32 Clz 0xffffffff ≡ 0)
unfolding count_leading_zeros
leading_zeros_32 = (refl, refl, refl, refl)

trailing_zeros_32 :
    (unary_at w32 Ctz 0 ≡ 32)
    × (unary_at w32 Ctz 1 ≡ 0)
    × (unary_at w32 Ctz 0x80000000 ≡ 31)
    × (unary_at w32 Ctz 12 ≡ 2)
unfolding count_trailing_zeros
trailing_zeros_32 = (refl, refl, refl, refl)

set_bits_32 :
    (unary_at w32 Popcnt 0 ≡ 0)
    × (unary_at w32 Popcnt 11 ≡ 3)
    × (unary_at w32 Popcnt 16 ≡ 1)
unfolding ones ones_in
set_bits_32 = (refl, refl, refl)

all_bits_32 : unary_at w32 Popcnt 0xffffffff ≡ 32
all_bits_32 = ones-ones 32

equalities_32 :
    (test_at Eqz 0 ≡ true)
    × (test_at Eqz 0x80000000 ≡ false)
    × (compare_at w32 Eq 7 7 ≡ true)
    × (compare_at w32 Eq 7 8 ≡ false)
    × (compare_at w32 Ne 7 7 ≡ false)
    × (compare_at w32 Ne 7 8 ≡ true)
equalities_32 = (refl, refl, refl, refl, refl, refl)

-- -1 is below 0, and is the greatest where there are no signs
signed_order_32 :
    (compare_at w32 LtS 0xffffffff 0 ≡ true)
    × (compare_at w32 LtS 0 0 ≡ false)
    × (compare_at w32 GtS 0xffffffff 0 ≡ false)
    × (compare_at w32 GtS 0 0xffffffff ≡ true)
    × (compare_at w32 LeS 0x80000000 0xffffffff ≡ true)
    × (compare_at w32 LeS 1 0xffffffff ≡ false)
    × (compare_at w32 GeS 0 0 ≡ true)
    × (compare_at w32 GeS 0x80000000 0 ≡ false)
signed_order_32 = (refl, refl, refl, refl, refl, refl, refl, refl)

unsigned_order_32 :
    (compare_at w32 LtU 0xffffffff 0 ≡ false)
    × (compare_at w32 LtU 0 0xffffffff ≡ true)
    × (compare_at w32 GtU 0xffffffff 0 ≡ true)
    × (compare_at w32 GtU 0 0 ≡ false)
    × (compare_at w32 LeU 0x80000000 0xffffffff ≡ true)
    × (compare_at w32 LeU 0xffffffff 1 ≡ false)
    × (compare_at w32 GeU 0 0 ≡ true)
    × (compare_at w32 GeU 0x80000000 0xffffffff ≡ false)
unsigned_order_32 = (refl, refl, refl, refl, refl, refl, refl, refl)

sums_64 :
    (binary_at w64 Add 0xffffffffffffffff 2 ≡ Ok 1)
    × (binary_at w64 Add 0x8000000000000000 0x8000000000000000 ≡ Ok 0)
    × (binary_at w64 Sub 0 1 ≡ Ok 0xffffffffffffffff)
    × (binary_at w64 Sub 5 3 ≡ Ok 2)
    × (binary_at w64 Mul 0xffffffffffffffff 0xffffffffffffffff ≡ Ok 1)
    × (binary_at w64 Mul 0x8000000000000000 2 ≡ Ok 0)
sums_64 = (refl, refl, refl, refl, refl, refl)

bits_64 :
    (binary_at w64 And 12 10 ≡ Ok 8)
    × (binary_at w64 Or 12 10 ≡ Ok 14)
    × (binary_at w64 Xor 12 10 ≡ Ok 6)
    × (binary_at w64 Xor 0xffffffffffffffff 1 ≡ Ok 0xfffffffffffffffe)
bits_64 = (refl, refl, refl, refl)

-- -7 / 2 is -3, and 7 / -2 too; unsigned, the same patterns are large
quotients_64 :
    (binary_at w64 DivS 0xfffffffffffffff9 2 ≡ Ok 0xfffffffffffffffd)
    × (binary_at w64 DivS 7 0xfffffffffffffffe ≡ Ok 0xfffffffffffffffd)
    × (binary_at w64 DivU 0xfffffffffffffff9 2 ≡ Ok 0x7ffffffffffffffc)
    × (binary_at w64 DivU 7 0xfffffffffffffffe ≡ Ok 0)
quotients_64 = (refl, refl, refl, refl)

-- -7 modulo 2 is -1, 7 modulo -2 is 1; the least number modulo -1 is 0
remainders_64 :
    (binary_at w64 RemS 0xfffffffffffffff9 2 ≡ Ok 0xffffffffffffffff)
    × (binary_at w64 RemS 7 0xfffffffffffffffe ≡ Ok 1)
    × (binary_at w64 RemS 0x8000000000000000 0xffffffffffffffff ≡ Ok 0)
    × (binary_at w64 RemU 0xfffffffffffffff9 2 ≡ Ok 1)
    × (binary_at w64 RemU 0x8000000000000000 0xffffffffffffffff ≡ Ok 0x8000000000000000)
remainders_64 = (refl, refl, refl, refl, refl)

-- by zero, and the least number by -1
division_traps_64 :
    (binary_at w64 DivS 1 0 ≡ Err DivideByZero)
    × (binary_at w64 DivU 1 0 ≡ Err DivideByZero)
    × (binary_at w64 RemS 1 0 ≡ Err DivideByZero)
    × (binary_at w64 RemU 1 0 ≡ Err DivideByZero)
    × (binary_at w64 DivS 0x8000000000000000 0xffffffffffffffff ≡ Err IntegerOverflow)
    × (binary_at w64 DivU 0x8000000000000000 0xffffffffffffffff ≡ Ok 0)
division_traps_64 = (refl, refl, refl, refl, refl, refl)

-- by the second operand modulo the width
shifts_64 :
    (binary_at w64 Shl 1 63 ≡ Ok 0x8000000000000000)
    × (binary_at w64 Shl 1 64 ≡ Ok 1)
    × (binary_at w64 Shl 1 65 ≡ Ok 2)
    × (binary_at w64 Shl 0x8000000000000001 1 ≡ Ok 2)
    × (binary_at w64 ShrS 0x8000000000000000 63 ≡ Ok 0xffffffffffffffff)
    × (binary_at w64 ShrS 0xfffffffffffffff8 1 ≡ Ok 0xfffffffffffffffc)
    × (binary_at w64 ShrS 6 65 ≡ Ok 3)
    × (binary_at w64 ShrU 0x8000000000000000 63 ≡ Ok 1)
    × (binary_at w64 ShrU 0xfffffffffffffff8 1 ≡ Ok 0x7ffffffffffffffc)
    × (binary_at w64 ShrU 6 65 ≡ Ok 3)
shifts_64 = (refl, refl, refl, refl, refl, refl, refl, refl, refl, refl)

rotations_64 :
    (binary_at w64 Rotl 0x8000000000000001 1 ≡ Ok 3)
    × (binary_at w64 Rotl 0x8000000000000001 64 ≡ Ok 0x8000000000000001)
    × (binary_at w64 Rotl 3 63 ≡ Ok 0x8000000000000001)
    × (binary_at w64 Rotr 1 1 ≡ Ok 0x8000000000000000)
    × (binary_at w64 Rotr 3 65 ≡ Ok 0x8000000000000001)
    × (binary_at w64 Rotr 0x8000000000000000 63 ≡ Ok 1)
rotations_64 = (refl, refl, refl, refl, refl, refl)

leading_zeros_64 :
    (unary_at w64 Clz 0 ≡ 64)
    × (unary_at w64 Clz 1 ≡ 63)
    × (unary_at w64 Clz 0x7fffffffffffffff ≡ 1)
    × (unary_at w64 Clz 0xffffffffffffffff ≡ 0)
unfolding count_leading_zeros
leading_zeros_64 = (refl, refl, refl, refl)

trailing_zeros_64 :
    (unary_at w64 Ctz 0 ≡ 64)
    × (unary_at w64 Ctz 1 ≡ 0)
    × (unary_at w64 Ctz 0x8000000000000000 ≡ 63)
    × (unary_at w64 Ctz 12 ≡ 2)
unfolding count_trailing_zeros
trailing_zeros_64 = (refl, refl, refl, refl)

set_bits_64 :
    (unary_at w64 Popcnt 0 ≡ 0)
    × (unary_at w64 Popcnt 11 ≡ 3)
    × (unary_at w64 Popcnt 16 ≡ 1)
unfolding ones ones_in
set_bits_64 = (refl, refl, refl)

all_bits_64 : unary_at w64 Popcnt 0xffffffffffffffff ≡ 64
all_bits_64 = ones-ones 64

equalities_64 :
    (test_at Eqz 0 ≡ true)
    × (test_at Eqz 0x8000000000000000 ≡ false)
    × (compare_at w64 Eq 7 7 ≡ true)
    × (compare_at w64 Eq 7 8 ≡ false)
    × (compare_at w64 Ne 7 7 ≡ false)
    × (compare_at w64 Ne 7 8 ≡ true)
equalities_64 = (refl, refl, refl, refl, refl, refl)

-- -1 is below 0, and is the greatest where there are no signs
signed_order_64 :
    (compare_at w64 LtS 0xffffffffffffffff 0 ≡ true)
    × (compare_at w64 LtS 0 0 ≡ false)
    × (compare_at w64 GtS 0xffffffffffffffff 0 ≡ false)
    × (compare_at w64 GtS 0 0xffffffffffffffff ≡ true)
    × (compare_at w64 LeS 0x8000000000000000 0xffffffffffffffff ≡ true)
    × (compare_at w64 LeS 1 0xffffffffffffffff ≡ false)
    × (compare_at w64 GeS 0 0 ≡ true)
    × (compare_at w64 GeS 0x8000000000000000 0 ≡ false)
signed_order_64 = (refl, refl, refl, refl, refl, refl, refl, refl)

unsigned_order_64 :
    (compare_at w64 LtU 0xffffffffffffffff 0 ≡ false)
    × (compare_at w64 LtU 0 0xffffffffffffffff ≡ true)
    × (compare_at w64 GtU 0xffffffffffffffff 0 ≡ true)
    × (compare_at w64 GtU 0 0 ≡ false)
    × (compare_at w64 LeU 0x8000000000000000 0xffffffffffffffff ≡ true)
    × (compare_at w64 LeU 0xffffffffffffffff 1 ≡ false)
    × (compare_at w64 GeU 0 0 ≡ true)
    × (compare_at w64 GeU 0x8000000000000000 0xffffffffffffffff ≡ false)
unsigned_order_64 = (refl, refl, refl, refl, refl, refl, refl, refl)

conversions :
    (converted I32WrapI64 (I64 0x100000005) ≡ Some (I32 5))
    × (converted I32WrapI64 (I64 0xffffffffffffffff) ≡ Some (I32 0xffffffff))
    × (converted I64ExtendI32S (I32 0xfffffffe) ≡ Some (I64 0xfffffffffffffffe))
    × (converted I64ExtendI32S (I32 7) ≡ Some (I64 7))
    × (converted I64ExtendI32U (I32 0xfffffffe) ≡ Some (I64 0xfffffffe))
conversions = (refl, refl, refl, refl, refl)

-- as Node.js answers
sign_extensions :
    (converted I32Extend8S (I32 0x0) ≡ Some (I32 0x0))
    × (converted I32Extend8S (I32 0x7f) ≡ Some (I32 0x7f))
    × (converted I32Extend8S (I32 0x80) ≡ Some (I32 0xffffff80))
    × (converted I32Extend8S (I32 0xff) ≡ Some (I32 0xffffffff))
    × (converted I32Extend8S (I32 0x1234500) ≡ Some (I32 0x0))
    × (converted I32Extend8S (I32 0xfedcba80) ≡ Some (I32 0xffffff80))
    × (converted I32Extend8S (I32 0xffffffff) ≡ Some (I32 0xffffffff))
    × (converted I32Extend16S (I32 0x0) ≡ Some (I32 0x0))
    × (converted I32Extend16S (I32 0x7fff) ≡ Some (I32 0x7fff))
    × (converted I32Extend16S (I32 0x8000) ≡ Some (I32 0xffff8000))
    × (converted I32Extend16S (I32 0xffff) ≡ Some (I32 0xffffffff))
    × (converted I32Extend16S (I32 0x1230000) ≡ Some (I32 0x0))
    × (converted I32Extend16S (I32 0xfedc8000) ≡ Some (I32 0xffff8000))
    × (converted I32Extend16S (I32 0xffffffff) ≡ Some (I32 0xffffffff))
    × (converted I64Extend8S (I64 0x0) ≡ Some (I64 0x0))
    × (converted I64Extend8S (I64 0x7f) ≡ Some (I64 0x7f))
    × (converted I64Extend8S (I64 0x80) ≡ Some (I64 0xffffffffffffff80))
    × (converted I64Extend8S (I64 0xff) ≡ Some (I64 0xffffffffffffffff))
    × (converted I64Extend8S (I64 0x123456789abcd00) ≡ Some (I64 0x0))
    × (converted I64Extend8S (I64 0xfedcba9876543280) ≡ Some (I64 0xffffffffffffff80))
    × (converted I64Extend16S (I64 0x0) ≡ Some (I64 0x0))
    × (converted I64Extend16S (I64 0x7fff) ≡ Some (I64 0x7fff))
    × (converted I64Extend16S (I64 0x8000) ≡ Some (I64 0xffffffffffff8000))
    × (converted I64Extend16S (I64 0xffff) ≡ Some (I64 0xffffffffffffffff))
    × (converted I64Extend16S (I64 0x123456789ab0000) ≡ Some (I64 0x0))
    × (converted I64Extend16S (I64 0xfedcba9876548000) ≡ Some (I64 0xffffffffffff8000))
    × (converted I64Extend32S (I64 0x0) ≡ Some (I64 0x0))
    × (converted I64Extend32S (I64 0x7fffffff) ≡ Some (I64 0x7fffffff))
    × (converted I64Extend32S (I64 0x80000000) ≡ Some (I64 0xffffffff80000000))
    × (converted I64Extend32S (I64 0xffffffff) ≡ Some (I64 0xffffffffffffffff))
    × (converted I64Extend32S (I64 0x123456700000000) ≡ Some (I64 0x0))
    × (converted I64Extend32S (I64 0xfedcba9880000000) ≡ Some (I64 0xffffffff80000000))
sign_extensions = (
  refl,
  refl,
  refl,
  refl,
  refl,
  refl,
  refl,
  refl,
  refl,
  refl,
  refl,
  refl,
  refl,
  refl,
  refl,
  refl,
  refl,
  refl,
  refl,
  refl,
  refl,
  refl,
  refl,
  refl,
  refl,
  refl,
  refl,
  refl,
  refl,
  refl,
  refl,
  refl,
)
