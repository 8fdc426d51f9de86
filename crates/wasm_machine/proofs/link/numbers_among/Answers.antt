use Rattle.std.proofs.Common.{◌∙◌}
use Rattle.wasm_types.specs.View.{view_import, view_module}
use Rattle.wasm_model.specs.Links.{number_for}
use Rattle.wasm_model.proofs.Linking.{missing_at}
use Rattle.wasm_machine.proofs.link.numbers_among.Goals as goal

pub returns-in_default : goal.returns-in_default
returns-in_default g c =
    missing_at (λ x. number_for g.H.HostCalls.finds (view_module c.args.whole.now) (view_import x)) c.args.imports.now c.loop-index.index c.loop-index.numbers.items c.index-imports-index.result
    c.loop-index-test.true c.index-imports-index.is c.loop-index.invariant (c.number_for.ensures ∙ c.in_default.is)
