use Rattle.wasm_types.specs.View.{signature_of, view_import, view_module}
use Rattle.task_pages.proofs.Listing.{found_import, other_type, same_type}
use Rattle.task_pages.proofs.checks.import_for.Goals as goal

pub returns-then-same : goal.returns-then-same
returns-then-same c =
    let whole = view_module c.args.whole.now in
    let x = view_import c.args.wanted.now in
    let found = signature_of c.in-Some.found.now in
    let wanted = signature_of c.in-Some-type_at.ty.now in
    found_import whole x (c.in-Some.number, found) c.of_number.result
    (rw (c.as_bytes.ensures.value, c.as_bytes-2.ensures.value) at c.in-Some.ensures)
    (same_type whole x.ty found wanted c.same.result c.in-Some-type_at.ensures c.same.ensures c.if-same.true) c.of_number.ensures

pub returns-else-same : goal.returns-else-same
returns-else-same c =
    let whole = view_module c.args.whole.now in
    let x = view_import c.args.wanted.now in
    let found = signature_of c.in-Some.found.now in
    let wanted = signature_of c.in-Some-type_at.ty.now in
    other_type whole x (c.in-Some.number, found) wanted c.same.result
    (rw (c.as_bytes.ensures.value, c.as_bytes-2.ensures.value) at c.in-Some.ensures)
    c.in-Some-type_at.ensures c.same.ensures c.if-same.false
