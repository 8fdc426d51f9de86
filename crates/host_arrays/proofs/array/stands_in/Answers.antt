use Rattle.std.proofs.Common.{◌≡◌, false, Some, ap, inl, inr, sym, ◌∙◌}
use Rattle.host_arrays.specs.Pairs.{is_key}
use Rattle.host_arrays.specs.Order.{held_in}
use Rattle.host_arrays.proofs.PairLemmas.{cases_key}
use Rattle.host_arrays.proofs.array.stands_in.Goals as goal

pub returns-in-Some : goal.returns-in-Some
returns-in-Some c = λ e. elim (cases_key c.args.key.now c.in-Some.entry.0.now) [
  | inl same ↦ record {
    held = c.in-Some.entry.1.now;
    at = sym c.in-Some.ensures.entry ∙ ap (λ k. Some (k, c.in-Some.entry.1.now)) (sym same);
    is = ap (held_in c.args.pairs.now.entries) same ∙ c.in-Some.ensures.value;
  }
  | inr other ↦ (let apart : is_key c.args.key.now c.in-Some.entry.0.now ≡ false = other.0 in absurd cc)
]
