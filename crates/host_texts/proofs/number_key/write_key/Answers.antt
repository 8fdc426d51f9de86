use Rattle.std.proofs.Common.{◌≡◌, ℕ, ℤ, w64, ◌<◌, ◌-◌, ◌+◌, length, arith, ◌∙◌, ap, sym, ◌∷◌, ◌++◌, [], List, drop, append-nil}
use Rattle.std.specs.Fmt.{signed_decimal}
use Rattle.std.proofs.lemmas.Int.{to_z-of_z}
use Rattle.std.proofs.lemmas.List.{drop-set, drop_all, length-drop}
use Rattle.host_texts.proofs.number_key.write_key.Goals as goal

begins : (z number : ℤ) (xs rest more : List ℕ) → xs ≡ signed_decimal z ++ rest → z ≡ number → rest ≡ more → xs ≡ signed_decimal number ++ more
begins z number xs rest more is same then = is ∙ ap (λ (y : ℤ). signed_decimal y ++ rest) same ∙ ap (λ (t : List ℕ). signed_decimal number ++ t) then

written : (c : goal.After-write_number) → drop c.write_number.result c.write_number.new.room ≡ signed_decimal c.args.left ++ c.args.between ∷ signed_decimal c.args.right
written c =
    let b = c.write_number-middle in
    let middle = b.result - 1 in
    let back : middle + 1 ≡ b.result = omega (arith, b.ensures.start) in
    let inside : middle < length b.new.room = omega (arith, b.ensures.start, b.ensures.len) in
    let last : drop b.result b.new.room ≡ signed_decimal c.args.right
    = begins _ _ _ _ [] b.ensures.written (to_z-of_z w64 c.args.right c.ranges.right) (drop_all 41 c.args.room.now (omega (arith, c.fits-room))) ∙ append-nil _ in
    begins _ _ _ _ _ c.write_number.ensures.written (to_z-of_z w64 c.args.left c.ranges.left)
    (drop-set b.new.room middle c.args.between inside ∙ ap (λ i. c.args.between ∷ drop i b.new.room) back ∙ ap (λ (t : List ℕ). c.args.between ∷ t) last)

pub returns-clause-written : goal.returns-clause-written
returns-clause-written c = written c

pub returns-clause-short : goal.returns-clause-short
returns-clause-short c =
    let same = sym (ap length (written c)) ∙ length-drop c.write_number.result c.write_number.new.room in
    omega (arith, same, c.write_number.ensures.len, c.write_number-middle.ensures.len)
