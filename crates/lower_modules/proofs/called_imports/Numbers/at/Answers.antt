use Rattle.std.proofs.Common.{◌≡◌, ℕ, ◌+◌, ◌-◌, length, get_or, sym, ap, ◌∙◌, arith}
use Rattle.lower_model.specs.Modules.{new_number}
use Rattle.lower_modules.proofs.NewNumbers.{number_past, number_small}
use Rattle.lower_modules.proofs.called_imports.Numbers.at.Goals as goal

pub overflow_add-result : goal.overflow_add-result
overflow_add-result c =
    let bs = c.args.self.now.called.now in
    let whole : length bs ≡ 56 = c.args.self.now.whole in
    let last : get_or c.args.self.now.first 56 0 ≡ new_number bs 56 = c.args.self.now.counted.each 56 (omega (arith, whole)) in
    let small = number_small bs 56 in
    omega (arith, last, small, c.if-place-le-IMPORT_COUNT.false, c.ranges.number.fits)

pub returns-else-place-le-IMPORT_COUNT : goal.returns-else-place-le-IMPORT_COUNT
returns-else-place-le-IMPORT_COUNT c =
    let bs = c.args.self.now.called.now in
    let n = c.args.number in
    let past = c.if-place-le-IMPORT_COUNT.false in
    let whole : length bs ≡ 56 = c.args.self.now.whole in
    let last : get_or c.args.self.now.first 56 0 ≡ new_number bs 56 = c.args.self.now.counted.each 56 (omega (arith, whole)) in
    let same : length bs + (n - 56) ≡ n = omega (arith, whole, past) in
    ap (λ (k : ℕ). k + (n - 56)) (last ∙ ap (new_number bs) (sym whole)) ∙ sym (number_past bs (n - 56)) ∙ ap (new_number bs) same
