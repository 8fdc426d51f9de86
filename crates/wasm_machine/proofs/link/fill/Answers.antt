use Rattle.std.proofs.Common.{◌≡◌, ◌∙◌, ℕ, List, ap, sym, subst, Option, length}
use Rattle.std.proofs.lemmas.List.Elements.{All-get_or}
use Rattle.wasm_types.specs.declared.instr.Instr.{Instr}
use Rattle.wasm_types.specs.declared.module.Elem.{Elem}
use Rattle.wasm_types.specs.View.{view_elem, views}
use Rattle.wasm_store.specs.Tables.{with_functions}
use Rattle.wasm_model.specs.Links.{ElemFits, place_of}
use Rattle.wasm_model.proofs.Linking.{length_with, filled_more}
use Rattle.wasm_machine.proofs.link.fill.Goals as goal

pub loop-elem-preserved : goal.loop-elem-preserved
loop-elem-preserved c =
    let t = c.loop-elem.table in
    let e = c.elem-item.result in
    let i = c.loop-elem.elem-index in
    let place = place_of (view_elem e).offset in
    let at : c.place_of.result ≡ place = c.place_of.ensures ∙ ap (λ (is : List Instr). place_of (views is)) c.deref.ensures.value in
    let now : c.fill.new.self ≡ with_functions t place e.init.items =
    c.fill.ensures ∙ (ap (λ (n : ℕ). with_functions t n c.deref-in-loop-elem.result.now) at ∙ ap (λ (fs : List ℕ). with_functions t place fs) c.deref-in-loop-elem.ensures.value) in
    let fits : ElemFits c.args.size (view_elem e) =
    subst (λ (x : Elem). ElemFits c.args.size (view_elem x)) (sym c.elem-item.is) (All-get_or (λ (x : Elem). ElemFits c.args.size (view_elem x)) c.args.elems.now i e c.loop-elem-test.true c.requires.fit) in
    record {
      same = ap (λ (xs : List (Option ℕ)). length xs) now ∙ (length_with t place e.init.items (rw (c.loop-elem.invariant.same, c.requires.size) fits) ∙ c.loop-elem.invariant.same);
      filled = now ∙ (ap (λ (xs : List (Option ℕ)). with_functions xs place e.init.items) c.loop-elem.invariant.filled ∙ sym (filled_more c.args.table.now c.args.elems.now i e c.loop-elem-test.true c.elem-item.is));
    }
