use Rattle.std.proofs.Common.{◌*◌, ◌∙◌, List, ap, subst}
use Rattle.std.specs.Prelude.{◌↔◌, IsTrue}
use Rattle.std.specs.List.{All}
use Rattle.wasm_types.specs.declared.module.Elem.{Elem}
use Rattle.wasm_types.specs.declared.module.Data.{Data}
use Rattle.wasm_types.specs.View.{view_data, view_elem}
use Rattle.wasm_model.specs.Links.{ElemFits, DataFits, least}
use Rattle.wasm_model.proofs.Linking.{mapped, both}
use Rattle.wasm_machine.proofs.link.segments_fit.Goals as goal

pub returns : goal.returns
returns c =
    let m = c.args.whole.now in
    both c.all_fit-elems.result c.all_fit-data.result
    (mapped (ElemFits (least m.tables.items)) view_elem m.elems.items c.all_fit-elems.result (subst (λ (es : List Elem). IsTrue c.all_fit-elems.result ↔ All (λ e. ElemFits (least m.tables.items) (view_elem e)) es) c.deref-2.ensures.value (rw (c.least.ensures ∙ ap least c.deref.ensures.value) at c.all_fit-elems.ensures)))
    (mapped (DataFits (least m.memories.items * 65536)) view_data m.data.items c.all_fit-data.result (subst (λ (ds : List Data). IsTrue c.all_fit-data.result ↔ All (λ d. DataFits (least m.memories.items * 65536) (view_data d)) ds) c.deref-4.ensures.value (rw (c.least-2.ensures ∙ ap least c.deref-3.ensures.value) at c.all_fit-data.ensures)))
