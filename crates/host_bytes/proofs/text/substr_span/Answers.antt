use Rattle.std.proofs.Common.{◌≡◌, ◌≤◌, ℕ, ℤ, int_lt, length, nat_le, pos, subst, arith, to_z, of_z}
use Rattle.std.specs.Int.{w64, w128}
use Rattle.std.proofs.lemmas.Int.{ints}
use Rattle.host_bytes.specs.Parts.{is_before_end}
use Rattle.host_bytes.proofs.Chosen.{part_is}
use Rattle.host_bytes.proofs.text.substr_span.Goals as goal

pub returns-clause-part : goal.returns-clause-part
returns-clause-part c =
    let first : to_z w128 (of_z w128 c.from.result) ≡ c.args.start = omega (arith, ints) in
    let end : to_z w64 (of_z w64 c.args.start) ≡ c.args.start = omega (arith, ints) in
    rw c.max-past.ensures (part_is c.args.text.now c.args.start c.args.len c.places_before-first.result c.places_before_end.result
    (subst (λ (s : ℤ). (k : ℕ) → k ≤ length c.args.text.now → 1 ≤ k → nat_le k c.places_before-first.result ≡ int_lt (pos k) s) first c.places_before-first.ensures.before)
    (subst (λ (s : ℤ). (k : ℕ) → k ≤ length c.args.text.now → 1 ≤ k → nat_le k c.places_before_end.result ≡ is_before_end s c.args.len k) end c.places_before_end.ensures.before))
