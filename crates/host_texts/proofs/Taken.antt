-- The handles that a call spends, as its words give them.
use Rattle.std.proofs.Common.{◌≡◌, ℤ, Result, Ok, SFits, of_z, to_z, sym, ap, ◌∙◌}
use Rattle.std.specs.FinMap as map
use Rattle.std.specs.Int.{w32}
use Rattle.std.proofs.lemmas.Int.{to_z-of_z}
use Rattle.wasm_store.specs.declared.trap.TrapKind.{TrapKind}
use Rattle.host_values.specs.Evaluations.{Outcome, Values}

abbrev left : Values → Outcome → Result (Values × Outcome) TrapKind
left m o = Ok (m, o)

pub one_taken : (m : Values) (h : ℤ) (o : Outcome) → SFits w32 h → left (map.remove m h) o ≡ left (map.remove m (to_z w32 (of_z w32 h))) o
one_taken m h o f = ap (λ (k : ℤ). left (map.remove m k) o) (sym (to_z-of_z w32 h f))

pub two_taken : (m : Values) (h k : ℤ) (o : Outcome) → SFits w32 h → SFits w32 k
    → left (map.remove (map.remove m h) k) o ≡ left (map.remove (map.remove m (to_z w32 (of_z w32 h))) (to_z w32 (of_z w32 k))) o
two_taken m h k o f g =
    ap (λ (n : Values). left (map.remove n k) o) (ap (map.remove m) (sym (to_z-of_z w32 h f)))
    ∙ one_taken (map.remove m (to_z w32 (of_z w32 h))) k o g
