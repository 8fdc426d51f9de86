use Rattle.std.proofs.Common.{◌≡◌, ◌∙◌, ℤ, ℕ, Global, List, Ok, Vec, ap, subst, sym, take}
use Rattle.std.specs.Int.{w64}
use Rattle.std.specs.List.{sum_by}
use Rattle.std.proofs.lemmas.Int.{to_z-of_z}
use Rattle.std.proofs.lemmas.Result.{err_from_is_err_and}
use Rattle.awk_values.specs.declared.value.Value.{Value}
use Rattle.sem_primitives.specs.FieldMeaning.{field_number, resized, with_count}
use Rattle.host_bytes.specs.Outcomes.{IsStopOf}
use Rattle.host_fields.specs.Calls.{count_set}
use Rattle.host_fields.specs.Held.{Held, held_in, text_size, with_held}
use Rattle.host_fields.proofs.Assigned.{count_assigned, count_too_long, own_held, unbuilt_same}
use Rattle.host_fields.proofs.Made.{cut_to, number_stops}
use Rattle.host_fields.proofs.record.Record.set_count.Goals as goal

pub invariant_of-self-2 : goal.invariant_of-self-2
invariant_of-self-2 c =
    let count = c.in_ok-count.count in
    let own = c.number_for_own.new.own.items in
    let size = c.size_of_first-texts.ensures ∙ ap (λ (vs : List Value). sum_by text_size (resized count vs)) c.as_slice.ensures.value in
    let cut = c.truncate.ensures.items ∙ ap (take count) c.in_ok-extend.ensures.ok ∙ cut_to count own in
    (tt, c.in_ok-size.ensures.size ∙ size ∙ ap (sum_by text_size) (sym cut), c.self.invariant.2)

pub returns-clause-ok : goal.returns-clause-ok
returns-clause-ok c = λ inner same.
    let inside = c.self.inside in
    let between = inside.between.items in
    let held : Held = held_in inside.form inside.whole inside.spans.items inside.own.items between in
    let made = c.in_ok-count.ensures in
    let count = c.in_ok-count.count in
    let is = subst (λ (z : ℤ). Ok count ≡ field_number z) (to_z-of_z w64 c.args.n c.ranges.n) made.number in
    let own = c.number_for_own.new.own.items in
    let are = own_held c.number_for_own.new.form inside.whole c.number_for_own.new.spans.items own between held made.own (made.same between) in
    let size = c.size_of_first-texts.ensures ∙ ap (λ (vs : List Value). sum_by text_size (resized count vs)) c.as_slice.ensures.value in
    let room = c.in_ok-size.ensures in
    let put = ap (λ (bytes : Vec ℕ Global). bytes.items) c.swap.ensures.x_after ∙ room.between in
    let cut = c.truncate.ensures.items ∙ ap (take count) c.in_ok-extend.ensures.ok ∙ cut_to count own in
    ap (λ (h : Held). count_set c.args.n (with_held h inner)) (sym c.self.view_is)
    ∙ count_assigned held inner c.args.ofs.now c.args.n count own c.size_of_first-texts.result is same are size room.within
    ∙ ap (λ (h : Held). Ok (with_held h inner)) (unbuilt_same c.args.ofs.now c.swap.new.x.items (resized count own) c.truncate.new.self.items put cut)

pub returns-in_err-size-clause-err : goal.returns-in_err-size-clause-err
returns-in_err-size-clause-err c =
    let inside = c.self.inside in
    let between = inside.between.items in
    let held : Held = held_in inside.form inside.whole inside.spans.items inside.own.items between in
    let made = c.in_ok-count.ensures in
    let count = c.in_ok-count.count in
    let is = subst (λ (z : ℤ). Ok count ≡ field_number z) (to_z-of_z w64 c.args.n c.ranges.n) made.number in
    let own = c.number_for_own.new.own.items in
    let are = own_held c.number_for_own.new.form inside.whole c.number_for_own.new.spans.items own between held made.own (made.same between) in
    let size = c.size_of_first-texts.ensures ∙ ap (λ (vs : List Value). sum_by text_size (resized count vs)) c.as_slice.ensures.value in
    let stop = c.in_err-size.field-0.0 in
    let p = err_from_is_err_and c.from_residual-in_err-size.result c.from_residual-in_err-size.ensures.1 in
    rw (p.1, p.2) (λ inner same. subst (λ (h : Held). IsStopOf (count_set c.args.n (with_held h inner)) stop) c.self.view_is
    (count_too_long held inner c.args.ofs.now c.args.n count own c.size_of_first-texts.result is same are size stop c.in_err-size.ensures.err))

pub returns-in_err-size-clause-refused : goal.returns-in_err-size-clause-refused
returns-in_err-size-clause-refused c =
    let p = err_from_is_err_and c.from_residual-in_err-size.result c.from_residual-in_err-size.ensures.1 in
    rw p.1 (c.in_ok-count.ensures.same c.self.inside.between.items ∙ c.self.view_is)

pub returns-in_err-count-clause-err : goal.returns-in_err-count-clause-err
returns-in_err-count-clause-err c =
    let p = err_from_is_err_and c.from_residual.result c.from_residual.ensures.1 in
    rw (p.1, p.2) (λ inner same. number_stops (field_number c.args.n) (λ k. with_count k (with_held c.args.self.now inner)) c.in_err-count.field-0.0
    (subst (λ (z : ℤ). IsStopOf (field_number z) c.in_err-count.field-0.0) (to_z-of_z w64 c.args.n c.ranges.n) c.in_err-count.ensures.err))

pub returns-in_err-count-clause-refused : goal.returns-in_err-count-clause-refused
returns-in_err-count-clause-refused c =
    let p = err_from_is_err_and c.from_residual.result c.from_residual.ensures.1 in
    rw p.1 (c.in_err-count.ensures.same c.self.inside.between.items ∙ c.self.view_is)
