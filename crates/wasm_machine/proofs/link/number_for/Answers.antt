use Rattle.std.proofs.Common.{◌∙◌, Some, None, Bool, ap, if◌then◌else◌}
use Rattle.wasm_types.specs.View.{signature_of, view_import, view_module}
use Rattle.wasm_model.proofs.Linking.{number_is}
use Rattle.wasm_machine.proofs.link.number_for.Goals as goal

pub returns-then-is_type : goal.returns-then-is_type
returns-then-is_type g c =
    number_is g.H.HostCalls.finds (view_module c.args.whole.now) (view_import c.args.import.now) (c.in-Some.number, signature_of c.in-Some.found.now) c.is_type.result
    (rw (c.as_bytes.ensures.value, c.as_bytes-2.ensures.value) at c.in-Some.ensures) c.is_type.ensures
    ∙ ap (λ (z : Bool). if z then Some c.in-Some.number else None) c.if-is_type.true
