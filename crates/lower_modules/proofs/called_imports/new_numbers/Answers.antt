use Rattle.std.proofs.Common.{◌≡◌, ℕ, ◌+◌, ◌≤◌, ◌<◌, Bool, List, length, get_or, set, add-one, refl, sym, ap, ◌∙◌, arith, inl, inr}
use Rattle.std.proofs.lemmas.Bool.{cases_lt}
use Rattle.std.proofs.lemmas.Grind.{get_or-set_at}
use Rattle.std.proofs.lemmas.List.{get_or-set_other, length-set}
use Rattle.lower_model.specs.Modules.{new_number}
use Rattle.lower_modules.proofs.NewNumbers.{number_first, number_in, number_out, number_small}
use Rattle.lower_modules.proofs.called_imports.new_numbers.Goals as goal
use Rattle.lower_modules.proofs.called_imports.new_numbers.Goals.{then-called-place, else-called-place}

one_more : (ns : List ℕ) (bs : List Bool) (i v : ℕ) → i + 1 < length ns → v ≡ new_number bs (i + 1) → ((n : ℕ) → n ≤ i → get_or ns n 0 ≡ new_number bs n)
    → (n : ℕ) → n ≤ i + 1 → get_or (set ns (i + 1) v) n 0 ≡ new_number bs n
one_more ns bs i v lt e h n le = elim (cases_lt n (i + 1)) [
  | inl l ↦ get_or-set_other ns (i + 1) n v 0 (λ q. omega (arith, q, l)) ∙ h n (omega (arith, l))
  | inr l ↦ let same : n ≡ i + 1 = omega (arith, l, le) in get_or-set_at ns (i + 1) n v 0 same lt ∙ e ∙ ap (new_number bs) (sym same)
]

pub loop-place-init : goal.loop-place-init
loop-place-init c = record {
  next = sym (number_first c.args.called.now);
  each = λ n h. let none : n ≡ 0 = omega (arith, h) in rw none (sym (number_first c.args.called.now));
  wide = refl;
}

pub overflow_add-next : goal.overflow_add-next
overflow_add-next c =
    let small = number_small c.args.called.now c.loop-place.place in
    omega (arith, small, c.loop-place.invariant.next, c.loop-place-test.true)

pub loop-place-preserved : goal.loop-place-preserved
loop-place-preserved c =
    let bs = c.args.called.now in
    let i = c.loop-place.place in
    let test = c.loop-place-test.true in
    let whole : length bs ≡ 56 = c.requires in
    let inside : i < length bs = omega (arith, whole, test) in
    let wide = c.loop-place.invariant.wide in
    let more = add-one i in
    let old = c.loop-place.invariant.next in
    let next : c.if-called-place.next ≡ new_number bs (i + 1) = elim c.if-called-place.branch [
      | then-called-place w ↦ let up = ap (new_number bs) more ∙ number_in bs i inside w.if-called-place.true in omega (arith, up, old, w.next-is)
      | else-called-place w ↦ w.next-is ∙ old ∙ sym (ap (new_number bs) more ∙ number_out bs i inside w.if-called-place.false)
    ] in
    record {
      next = next;
      each = one_more c.loop-place.numbers bs i c.if-called-place.next (omega (arith, wide, test)) next c.loop-place.invariant.each;
      wide = length-set c.loop-place.numbers (i + 1) c.if-called-place.next ∙ wide;
    }
