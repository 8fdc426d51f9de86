use Rattle.std.proofs.Common.{◌≡◌, Some, ap, cond, subst, sym, ◌∙◌}
use Rattle.std.specs.Cmp.Lexicographic.{nat_list_eq_equiv}
use Rattle.std.specs.Option.{option_copied_mut}
use Rattle.indexmap.proofs.CallerLemmas.{updates-with_value_at}
use Rattle.indexmap.specs.IndexMap.{set_value_at}
use Rattle.host_arrays.specs.Pairs.{is_key}
use Rattle.host_arrays.specs.Order.{SpecHeld, held_in}
use Rattle.host_arrays.proofs.PlaceLemmas.{no_value_there, value_there}
use Rattle.host_arrays.proofs.array.write_at.Goals as goal

pub returns-in-Some : goal.returns-in-Some
returns-in-Some c = λ k h at q.
    (let entries = c.args.pairs.now.entries in
    let w : SpecHeld = record { value = c.args.value; place = c.in-Some.held.now.place } in
    let same : c.in-Some.held.now ≡ h = value_there entries c.args.place k h c.in-Some.held.now at (sym c.get_index_mut.ensures.value ∙ ap option_copied_mut c.in-Some.is) in
    subst (λ (x : SpecHeld). held_in (set_value_at entries c.args.place w) q ≡ cond (is_key k q) (Some (record { value = c.args.value; place = x.place })) (held_in entries q)) same
    ((updates-with_value_at c.args.pairs.now c.args.place w nat_list_eq_equiv c.get_index_mut.ensures.unique k h at).0 q))

pub returns-in_default : goal.returns-in_default
returns-in_default c = λ k h at. absurd (no_value_there c.args.pairs.now.entries c.args.place k h at (sym c.get_index_mut.ensures.value ∙ ap option_copied_mut c.in_default.is))
