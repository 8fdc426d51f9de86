use Rattle.std.proofs.Common.{ℕ, List, map, ap, ◌∙◌, arith}
use Rattle.std.proofs.lemmas.List.{length-map}
use Rattle.mid_program.specs.Sorted.{kinds_of}
use Rattle.mid_program.specs.View.{view_declared, view_routine, view_texts}
use Rattle.mid_program.specs.declared.program.Declared.{Declared}
use Rattle.mid_program.specs.declared.program.Mid.{Mid}
use Rattle.lower_layout.specs.Spans.{arrays_from, global_names, routine_names}
use Rattle.lower_layout.proofs.Refusals.{refused}
use Rattle.lower_layout.proofs.SpanLemmas.{memory_whole, spans_whole}
use Rattle.lower_layout.proofs.script.layout.Goals as goal

abbrev texts : Mid → List (List ℕ)
texts m = view_texts m.texts.keys

abbrev names : Mid → List (List ℕ)
names m = global_names (map view_declared m.globals.items)

abbrev routines : Mid → List (List ℕ)
routines m = routine_names (map view_routine m.routines.items)

pub returns-in_err-place-clause-too_large : goal.returns-in_err-place-clause-too_large
returns-in_err-place-clause-too_large c = refused c.from_residual.result c.in_err-place.field-0.0 _ c.from_residual.ensures.1 (λ large small.
    let m = c.args.mid.now in
    let first = rw c.as_slice.ensures.keys at c.in_err-place.ensures.too_large large in
    let whole = memory_whole (texts m) (names m) (routines m) in
    let few = small.1.1 in
    omega (arith, first, whole, few))

pub returns-in_err-place-2-clause-too_large : goal.returns-in_err-place-2-clause-too_large
returns-in_err-place-2-clause-too_large c = refused c.from_residual-in_err-place-2.result c.in_err-place-2.field-0.0 _ c.from_residual-in_err-place-2.ensures.1 (λ large small.
    let m = c.args.mid.now in
    let first = (rw c.as_slice.ensures.keys at c.in_ok-place.ensures.placed).0 in
    let second = rw c.deref.ensures.value at c.in_err-place-2.ensures.too_large large in
    let whole = memory_whole (texts m) (names m) (routines m) in
    let few = small.1.1 in
    omega (arith, first, second, whole, few))

pub returns-in_err-place_routines-clause-too_large : goal.returns-in_err-place_routines-clause-too_large
returns-in_err-place_routines-clause-too_large c =
    refused c.from_residual-in_err-place_routines.result c.in_err-place_routines.field-0.0 _ c.from_residual-in_err-place_routines.ensures.1 (λ large small.
    let m = c.args.mid.now in
    let first = (rw c.as_slice.ensures.keys at c.in_ok-place.ensures.placed).0 in
    let second = (rw c.deref.ensures.value at c.in_ok-place-2.ensures.placed).0 in
    let third = rw c.deref-2.ensures.value at c.in_err-place_routines.ensures.too_large large in
    let whole = memory_whole (texts m) (names m) (routines m) in
    let few = small.1.1 in
    omega (arith, first, second, third, whole, few))

pub invariant_of-result : goal.invariant_of-result
invariant_of-result c =
    let m = c.args.mid.now in
    let first = rw c.as_slice.ensures.keys at c.in_ok-place.ensures.placed in
    let second = rw c.deref.ensures.value at c.in_ok-place-2.ensures.placed in
    let third = rw c.deref-2.ensures.value at c.in_ok-place_routines.ensures.placed in
    let whole = memory_whole (texts m) (names m) (routines m) in
    let counted = length-map m.globals.items view_declared in
    let len = c.len.ensures in
    let few = c.if-len-gt-MOST_NAMES.false in
    let start = first.0 in
    let next = second.0 in
    let end = third.0 in
    let below = third.1.0 in
    let opened = c.if-mid-gt-MOST_NAMES.false in
    record {
      placed = spans_whole (texts m) (names m) (routines m) c.new-spans.result.items c.place_texts.new.spans.items c.place_globals.new.spans.items c.place_routines.new.spans.items
          c.in_ok-place.place c.in_ok-place-2.place c.new-spans.ensures.items first.0 first.1.1 second.0 second.1.1 third.1.1;
      named = c.in_ok-arrays.ensures ∙ ap (λ (ds : List Declared). arrays_from 0 (kinds_of (map view_declared ds))) c.deref-3.ensures.value;
      small = (omega (arith, counted, len, few), (omega (arith, opened), omega (arith, start, next, end, below, whole)));
    }
