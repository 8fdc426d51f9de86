use Rattle.std.proofs.Common.{◌≡◌, ◌∙◌, ℕ, List, ap, sym, subst, length}
use Rattle.std.proofs.lemmas.List.Elements.{All-get_or}
use Rattle.wasm_types.specs.declared.instr.Instr.{Instr}
use Rattle.wasm_types.specs.declared.module.Data.{Data}
use Rattle.wasm_types.specs.View.{view_data, views}
use Rattle.wasm_store.specs.Memories.{MemoryForm, written}
use Rattle.wasm_model.specs.Links.{DataFits, place_of}
use Rattle.wasm_model.proofs.Linking.{length_written, poured_more}
use Rattle.wasm_machine.proofs.link.pour.Goals as goal

pub loop-segment-preserved : goal.loop-segment-preserved
loop-segment-preserved c =
    let m = c.loop-segment.memory in
    let d = c.segment-item.result in
    let i = c.loop-segment.segment-index in
    let place = place_of (view_data d).offset in
    let at : c.place_of.result ≡ place = c.place_of.ensures ∙ ap (λ (is : List Instr). place_of (views is)) c.deref.ensures.value in
    let now : c.write.new.self ≡ record m { bytes = written m.bytes place d.init.items } =
    c.write.ensures ∙ (ap (λ (n : ℕ). record m { bytes = written m.bytes n c.deref-in-loop-segment.result.now }) at ∙ ap (λ (bs : List ℕ). record m { bytes = written m.bytes place bs }) c.deref-in-loop-segment.ensures.value) in
    let fits : DataFits c.args.size (view_data d) =
    subst (λ (x : Data). DataFits c.args.size (view_data x)) (sym c.segment-item.is) (All-get_or (λ (x : Data). DataFits c.args.size (view_data x)) c.args.segments.now i d c.loop-segment-test.true c.requires.fit) in
    record {
      same = ap (λ (x : MemoryForm). length x.bytes) now ∙ (length_written m.bytes place d.init.items (rw (c.loop-segment.invariant.same, c.requires.size) fits) ∙ c.loop-segment.invariant.same);
      poured = now ∙ (ap (λ (x : MemoryForm). record x { bytes = written x.bytes place d.init.items }) c.loop-segment.invariant.poured ∙ sym (poured_more c.args.memory.now c.args.segments.now i d c.loop-segment-test.true c.segment-item.is));
    }
