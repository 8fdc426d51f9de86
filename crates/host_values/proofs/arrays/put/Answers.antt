use Rattle.std.proofs.Common.{rules, ◌≡◌, None, OnErr, OnOk, Result, Ok, Err, ap, ◌∙◌}
use Rattle.std.specs.FinMap as map
use Rattle.awk_values.specs.declared.value.Value.{Value}
use Rattle.host_arrays.specs.Pairs.{pairs_at, set_pair}
use Rattle.host_values.specs.Calls.{reserved_handle}
use Rattle.host_values.proofs.Places.{free_still}
use Rattle.host_values.proofs.arrays.put.Goals as goal

pub returns-clause-reserved_array : goal.returns-clause-reserved_array
returns-clause-reserved_array c free =
    let put : OnOk c.set.result (c.set.new.self ≡ map.insert c.args.arrays.now c.args.array (set_pair c.args.key.now c.args.value (pairs_at c.args.arrays.now c.args.array))) = search rules in
    by c.set.result put c.set.ensures.refused
  where
    by : {A : Type 0} (r : Result A Value) → OnOk r (c.set.new.self ≡ map.insert c.args.arrays.now c.args.array (set_pair c.args.key.now c.args.value (pairs_at c.args.arrays.now c.args.array)))
        → OnErr r (c.set.new.self ≡ c.args.arrays.now) → map.get c.set.new.self reserved_handle ≡ None
    by (Ok x) put kept = ap (λ m. map.get m reserved_handle) put ∙ free_still c.args.arrays.now c.args.array _ reserved_handle c.requires free
    by (Err v) put kept = ap (λ m. map.get m reserved_handle) kept ∙ free
