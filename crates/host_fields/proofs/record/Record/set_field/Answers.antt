use Rattle.std.proofs.Common.{◌≡◌, ◌+◌, ◌-◌, ◌∙◌, ℤ, ℕ, Global, List, Ok, Vec, ap, arith, slice_set, subst, sym}
use Rattle.std.specs.Int.{w64}
use Rattle.std.specs.List.{sum_by}
use Rattle.std.proofs.lemmas.Int.{to_z-of_z}
use Rattle.std.proofs.lemmas.Result.{err_from_is_err_and}
use Rattle.awk_values.specs.declared.value.Value.{Value}
use Rattle.sem_primitives.specs.FieldMeaning.{at_least, field_number, with_field}
use Rattle.host_bytes.specs.Outcomes.{IsStopOf}
use Rattle.host_fields.specs.Calls.{field_set}
use Rattle.host_fields.specs.Held.{Held, held_in, text_size, with_held}
use Rattle.host_fields.proofs.Assigned.{assigned, assigned_size, field_assigned, field_too_long, own_held, unbuilt_same}
use Rattle.host_fields.proofs.Made.{number_some, number_stops}
use Rattle.host_fields.proofs.record.Record.set_field.Goals as goal

pub invariant_of-self-2 : goal.invariant_of-self-2
invariant_of-self-2 c =
    let number = c.in_ok-number.number in
    let is = subst (λ (z : ℤ). Ok number ≡ field_number z) (to_z-of_z w64 c.args.n c.ranges.n) c.in_ok-number.ensures.number in
    let own = c.number_for_own.new.own.items in
    let size = c.size_with-texts.ensures ∙ ap (λ (vs : List Value). sum_by text_size (slice_set (at_least (number - 1 + 1) vs) (number - 1) c.args.value)) c.as_slice.ensures.value in
    let measured = c.in_ok-size.ensures.size ∙ assigned_size number c.args.value own c.size_with-texts.result (number_some c.args.n number c.requires is) size in
    let set = ap (λ (vs : List Value). slice_set vs (number - 1) c.args.value) c.in_ok-extend.ensures.ok in
    (tt, measured ∙ ap (sum_by text_size) (sym set), c.self.invariant.2)

pub returns-clause-ok : goal.returns-clause-ok
returns-clause-ok c = λ inner same.
    let inside = c.self.inside in
    let between = inside.between.items in
    let held : Held = held_in inside.form inside.whole inside.spans.items inside.own.items between in
    let made = c.in_ok-number.ensures in
    let number = c.in_ok-number.number in
    let is = subst (λ (z : ℤ). Ok number ≡ field_number z) (to_z-of_z w64 c.args.n c.ranges.n) made.number in
    let own = c.number_for_own.new.own.items in
    let are = own_held c.number_for_own.new.form inside.whole c.number_for_own.new.spans.items own between held made.own (made.same between) in
    let size = c.size_with-texts.ensures ∙ ap (λ (vs : List Value). sum_by text_size (slice_set (at_least (number - 1 + 1) vs) (number - 1) c.args.value)) c.as_slice.ensures.value in
    let long = c.len.ensures ∙ c.number_for_own.new.own.ok.0 in
    let room = c.in_ok-size.ensures in
    let put = ap (λ (bytes : Vec ℕ Global). bytes.items) c.swap.ensures.x_after ∙ room.between in
    let set = ap (λ (vs : List Value). slice_set vs (number - 1) c.args.value) c.in_ok-extend.ensures.ok in
    ap (λ (h : Held). field_set c.args.n c.args.value (with_held h inner)) (sym c.self.view_is)
    ∙ field_assigned held inner c.args.ofs.now c.args.n c.args.value number own c.size_with-texts.result c.max-count.result c.requires is same are size (let most = c.max-count.ensures in omega (arith, most, long)) room.within
    ∙ ap (λ (h : Held). Ok (with_held h inner)) (unbuilt_same c.args.ofs.now c.swap.new.x.items (assigned number c.args.value own) (slice_set c.extend.new.fields.items (number - 1) c.args.value) put set)

pub returns-in_err-size-clause-err : goal.returns-in_err-size-clause-err
returns-in_err-size-clause-err c =
    let inside = c.self.inside in
    let between = inside.between.items in
    let held : Held = held_in inside.form inside.whole inside.spans.items inside.own.items between in
    let made = c.in_ok-number.ensures in
    let number = c.in_ok-number.number in
    let is = subst (λ (z : ℤ). Ok number ≡ field_number z) (to_z-of_z w64 c.args.n c.ranges.n) made.number in
    let own = c.number_for_own.new.own.items in
    let are = own_held c.number_for_own.new.form inside.whole c.number_for_own.new.spans.items own between held made.own (made.same between) in
    let size = c.size_with-texts.ensures ∙ ap (λ (vs : List Value). sum_by text_size (slice_set (at_least (number - 1 + 1) vs) (number - 1) c.args.value)) c.as_slice.ensures.value in
    let long = c.len.ensures ∙ c.number_for_own.new.own.ok.0 in
    let stop = c.in_err-size.field-0.0 in
    let p = err_from_is_err_and c.from_residual-in_err-size.result c.from_residual-in_err-size.ensures.1 in
    rw (p.1, p.2) (λ inner same. subst (λ (h : Held). IsStopOf (field_set c.args.n c.args.value (with_held h inner)) stop) c.self.view_is
    (field_too_long held inner c.args.ofs.now c.args.n c.args.value number own c.size_with-texts.result c.max-count.result c.requires is same are size (let most = c.max-count.ensures in omega (arith, most, long)) stop c.in_err-size.ensures.err))

pub returns-in_err-size-clause-refused : goal.returns-in_err-size-clause-refused
returns-in_err-size-clause-refused c =
    let p = err_from_is_err_and c.from_residual-in_err-size.result c.from_residual-in_err-size.ensures.1 in
    rw p.1 (c.in_ok-number.ensures.same c.self.inside.between.items ∙ c.self.view_is)

pub returns-in_err-number-clause-err : goal.returns-in_err-number-clause-err
returns-in_err-number-clause-err c =
    let p = err_from_is_err_and c.from_residual.result c.from_residual.ensures.1 in
    rw (p.1, p.2) (λ inner same. number_stops (field_number c.args.n) (λ k. with_field k c.args.value (with_held c.args.self.now inner)) c.in_err-number.field-0.0
    (subst (λ (z : ℤ). IsStopOf (field_number z) c.in_err-number.field-0.0) (to_z-of_z w64 c.args.n c.ranges.n) c.in_err-number.ensures.err))

pub returns-in_err-number-clause-refused : goal.returns-in_err-number-clause-refused
returns-in_err-number-clause-refused c =
    let p = err_from_is_err_and c.from_residual.result c.from_residual.ensures.1 in
    rw p.1 (c.in_err-number.ensures.same c.self.inside.between.items ∙ c.self.view_is)
