use Rattle.std.proofs.Common.{Some, refl}
use Rattle.wasm_types.specs.Typing.{typed_in}
use Rattle.wasm_types.specs.View.{signature_of, view_module}
use Rattle.wasm_model.proofs.Types.{agree_is}
use Rattle.wasm_machine.proofs.link.is_type.Goals as goal

pub returns : goal.returns
returns c = agree_is (Some (signature_of c.args.found.now)) (typed_in (view_module c.args.whole.now) c.args.ty) (signature_of c.args.found.now) (signature_of c.in-Some.wanted.now) c.same.result refl c.in-Some.ensures c.same.ensures
