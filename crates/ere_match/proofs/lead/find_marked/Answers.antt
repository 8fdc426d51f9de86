use Rattle.std.proofs.Common.{◌≡◌, ℕ, ap, arith, get_or, inl, inr, subst, sym, ◌∙◌}
use Rattle.std.specs.Prelude.{false}
use Rattle.std.proofs.lemmas.Bool.{cases_lt}
use Rattle.ere_match.proofs.lead.find_marked.Goals as goal

pub loop-place-preserved : goal.loop-place-preserved
loop-place-preserved c = λ k low high. elim (cases_lt k c.loop-place.place) [
  | inl less ↦ c.loop-place.invariant k low less
  | inr same ↦ (let e : k ≡ c.loop-place.place = omega (arith, same, high) in
      subst (λ (n : ℕ). get_or c.args.marks.now (get_or c.args.text.now n 0) false ≡ false) (sym e) (ap (λ (i : ℕ). get_or c.args.marks.now i false) (sym c.from.ensures) ∙ c.if-marks-from.false))
]
