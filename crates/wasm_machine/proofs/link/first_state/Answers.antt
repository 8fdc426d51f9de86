use Rattle.std.proofs.Common.{◌≡◌, ◌∙◌, ◌*◌, [], List, Option, Some, None, ℕ, length, map, reverse, refl, ap, sym, subst, replicate, arith}
use Rattle.std.specs.List.{All}
use Rattle.std.specs.Prelude.{slice_get}
use Rattle.std.proofs.lemmas.Option.{get_or_from_slice_get, slice_get_read, slice_get_within}
use Rattle.std.proofs.lemmas.Simd.{map-map}
use Rattle.wasm_types.specs.declared.types.Limits.{Limits}
use Rattle.wasm_types.specs.declared.types.ValType.{ValType}
use Rattle.wasm_types.specs.declared.types.ValType.TheVariants as ty
use Rattle.wasm_types.specs.declared.module.Data.{Data}
use Rattle.wasm_types.specs.declared.module.Elem.{Elem}
use Rattle.wasm_types.specs.declared.module.Global.{Global as ModuleGlobal}
use Rattle.wasm_types.specs.View.{view_data, view_elem, view_global, view_module, views}
use Rattle.wasm_store.specs.Memories.{MemoryForm, fresh}
use Rattle.wasm_model.specs.Frames.{begun}
use Rattle.wasm_model.specs.Machines.{Conf}
use Rattle.wasm_model.specs.Links.{DataFits, ElemFits, entry_code, filled, least, limits_or_none, poured, value_of}
use Rattle.wasm_model.proofs.Beginning.{least_is, beginning_is}
use Rattle.wasm_model.proofs.Linking.{all_of_map}
use Rattle.wasm_loader.specs.Laid.{Laid}
use Rattle.wasm_loader.specs.Landings.{framed_at}
use Rattle.wasm_machine.specs.declared.frames.Frame.{Frame}
use Rattle.wasm_machine.specs.Standing.{code_of, code_with, nothing}
use Rattle.wasm_machine.proofs.Waiting.{conf_is, parts}
use Rattle.wasm_machine.proofs.Laying.{begin_of, begun_frame}
use Rattle.wasm_machine.proofs.link.first_state.Goals as goal

pub pour-requires-clause-fit : goal.pour-requires-clause-fit
pour-requires-clause-fit c =
    let m = c.args.whole.now in
    let limits = c.limits_of-limits.ensures ∙ ap limits_or_none c.deref.ensures.value in
    let size : c.limits_of-limits.result.min ≡ least m.memories.items = ap (λ (l : Limits). l.min) limits ∙ least_is m.memories.items in
    subst (λ (ds : List Data). All (λ (x : Data). DataFits (c.limits_of-limits.result.min * 65536) (view_data x)) ds) (sym c.deref-2.ensures.value)
    (subst (λ (n : ℕ). All (λ (x : Data). DataFits (n * 65536) (view_data x)) m.data.items) (sym size) (all_of_map (DataFits (least m.memories.items * 65536)) view_data m.data.items c.requires.fit.1))

pub fill-requires-clause-fit : goal.fill-requires-clause-fit
fill-requires-clause-fit c =
    let m = c.args.whole.now in
    subst (λ (es : List Elem). All (λ (x : Elem). ElemFits c.least-elements.result (view_elem x)) es) (sym c.deref-4.ensures.value)
    (subst (λ (n : ℕ). All (λ (x : Elem). ElemFits n (view_elem x)) m.elems.items) (sym (c.least-elements.ensures ∙ ap least c.deref-3.ensures.value)) (all_of_map (ElemFits (least m.tables.items)) view_elem m.elems.items c.requires.fit.0))

pub returns-clause-begins : goal.returns-clause-begins
returns-clause-begins c = λ main lays.
    let m = c.args.whole.now in
    let codes = c.args.codes.now in
    let count = length m.funcs.items in
    let entry = entry_code m.start main in
    let n = c.len-first.result in
    let code = c.in-Some.code.now in
    let size : n ≡ count = omega (arith, c.len-first.ensures) in
    let found : slice_get codes n ≡ Some code = slice_get_read codes (length codes) n code refl c.in-Some.ensures.lookup.3.0 c.in-Some.ensures.lookup.1 in
    let code_is : slice_get codes count ≡ Some code = ap (slice_get codes) (sym size) ∙ found in
    let frames = c.in_ok-frames.frames in
    let now = c.in_ok-frames.ensures.first in
    let with : code_with codes n ≡ code = get_or_from_slice_get codes n code nothing found in
    let limits = c.limits_of-limits.ensures ∙ ap limits_or_none c.deref.ensures.value in
    let b = begin_of codes lays.begin n code found in
    let first = lays.first code code_is in
    let w : Frame = record { function = n; at = 0; base = 0 } in
    let items = frames.words.items in
    let frame : framed_at (code_with codes n) items 0 ≡ begun entry =
    ap (λ (x : Laid). framed_at x items 0) with ∙ begun_frame code items entry b.1 b.2 first.1 first.0 in
    let table = c.fill.new.table in
    let memory = c.pour.new.memory in
    let globals = c.new-globals.result in
    let all : Conf = record { frame = begun entry; result = None; callers = []; memory = memory; table = table; globals = globals } in
    let gives : (code_with codes n).gives ≡ Some ty.I32 = ap (λ (x : Laid). x.gives) with ∙ first.2 in
    conf_is codes frames all w items [] now.0 refl (ap reverse now.1)
    ∙ (ap (λ (r : Option ValType). parts all (framed_at (code_with codes n) items 0) r []) gives
    ∙ beginning_is (view_module m) main (framed_at (code_with codes n) items 0) globals [] memory table frame refl
    (c.pour.ensures ∙ (ap (λ (x : MemoryForm). poured x (map view_data c.deref-2.result.now)) (c.in_ok-memory.ensures ∙ ap fresh limits) ∙ ap (λ (ds : List Data). poured (fresh (limits_or_none m.memories.items)) (map view_data ds)) c.deref-2.ensures.value))
    (c.fill.ensures ∙ (ap (λ (x : List (Option ℕ)). filled x (map view_elem c.deref-4.result.now)) (c.in_ok-table.ensures ∙ ap (λ (k : ℕ). replicate k None) (c.least-elements.ensures ∙ ap least c.deref-3.ensures.value)) ∙ ap (λ (es : List Elem). filled (replicate (least m.tables.items) None) (map view_elem es)) c.deref-4.ensures.value))
    (c.new-globals.ensures ∙ (c.in_ok-values_of.ensures ∙ (ap (λ (gs : List ModuleGlobal). map (λ g. value_of (views g.init.items)) gs) c.deref-5.ensures.value ∙ sym (map-map (λ g. value_of g.init) view_global m.globals.items)))))

pub returns-clause-stands : goal.returns-clause-stands
returns-clause-stands c = λ main lays.
    let codes = c.args.codes.now in
    let n = c.len-first.result in
    let code = c.in-Some.code.now in
    let found : slice_get codes n ≡ Some code = slice_get_read codes (length codes) n code refl c.in-Some.ensures.lookup.3.0 c.in-Some.ensures.lookup.1 in
    let frames = c.in_ok-frames.frames in
    let now = c.in_ok-frames.ensures.first in
    let with : code_with codes n ≡ code = get_or_from_slice_get codes n code nothing found in
    let is : code_of codes frames.current ≡ code = ap (λ (x : Frame). code_of codes x) now.0 ∙ with in
    c.in_ok-frames.ensures.stands codes (is ∙ sym c.layout.ensures.same) (slice_get_within codes n code found)
