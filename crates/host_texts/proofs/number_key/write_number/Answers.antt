use Rattle.std.proofs.Common.{◌≡◌, ℕ, ◌<◌, ◌≤◌, ◌-◌, ◌+◌, ◌<ℤ◌, ℤ, pos, negsuc, unsigned_abs, length, rules, arith, ◌∙◌, ap, ◌∷◌, ◌++◌, List, drop, refl}
use Rattle.std.specs.Fmt.{decimal, signed_decimal}
use Rattle.std.proofs.lemmas.Fmt.{length-decimal-le}
use Rattle.std.proofs.lemmas.Int.{ints, to_z-of_z}
use Rattle.std.proofs.lemmas.List.{drop-set}
use Rattle.host_texts.proofs.number_key.write_number.Goals as goal

below_zero : (z : ℤ) (n : ℕ) → z <ℤ pos 0 → n ≡ unsigned_abs z → 45 ∷ decimal n ≡ signed_decimal z
below_zero (pos k) n h e = absurd (omega (arith, ints))
below_zero (negsuc k) n h e = ap (λ m. 45 ∷ decimal m) e

pub write_digits-start-requires : goal.write_digits-start-requires
write_digits-start-requires c = search (rules, length-decimal-le 20)

pub returns-then-number-ge0-clause-start : goal.returns-then-number-ge0-clause-start
returns-then-number-ge0-clause-start c =
    let short = length-decimal-le 19 c.unsigned_abs.result (omega arith) (omega arith) (omega arith) in
    (omega (arith, c.write_digits-start.ensures.start), omega (arith, short, c.write_digits-start.ensures.start))

pub overflow_sub-room : goal.overflow_sub-room
overflow_sub-room c = omega (arith, c.requires, c.write_digits-start.ensures.start, length-decimal-le 19 c.unsigned_abs.result (omega arith) (omega arith) (omega arith))

pub overflow_sub-result : goal.overflow_sub-result
overflow_sub-result c = omega (arith, c.requires, c.write_digits-start.ensures.start, length-decimal-le 19 c.unsigned_abs.result (omega arith) (omega arith) (omega arith))

pub returns-clause-start : goal.returns-clause-start
returns-clause-start c =
    let short = length-decimal-le 19 c.unsigned_abs.result (omega arith) (omega arith) (omega arith) in
    (omega (arith, c.write_digits-start.ensures.start), omega (arith, short, c.write_digits-start.ensures.start, c.requires))

pub returns-clause-written : goal.returns-clause-written
returns-clause-written c =
    let b = c.write_digits-start in
    let room : 1 ≤ b.result = omega (arith, c.requires, b.ensures.start, length-decimal-le 19 c.unsigned_abs.result (omega arith) (omega arith) (omega arith)) in
    let back : b.result - 1 + 1 ≡ b.result = omega arith in
    let below : c.args.number <ℤ pos 0 = omega (arith, ints) in
    let inside : b.result - 1 < length b.new.buf = omega (arith, c.requires, b.ensures.start) in
    drop-set b.new.buf (b.result - 1) 45 inside ∙ ap (λ i. 45 ∷ drop i b.new.buf) back
    ∙ ap (λ (t : List ℕ). 45 ∷ t) b.ensures.written
    ∙ ap (λ (t : List ℕ). t ++ drop c.args.end c.args.room.now) (below_zero c.args.number c.unsigned_abs.result below (simp (to_z-of_z, c.ranges.number) at c.unsigned_abs.ensures.value))
