-- The module level holds where each of its parts is found to hold.
use Rattle.std.proofs.Common.{◌≡◌, ◌<◌, ◌≤◌, ◌^◌, ℕ, Bool, true, false, List, map, length, sym, subst, arith}
use Rattle.std.specs.Prelude.{◌↔◌, ◌&&◌, IsTrue, string_bytes}
use Rattle.std.specs.List.{All}
use Rattle.std.proofs.lemmas.Bool.{and_parts}
use Rattle.std.proofs.lemmas.List.{get_or-map, length-map}
use Rattle.std.proofs.lemmas.List.Elements.{All-map}
use Rattle.std.proofs.lemmas.Simd.{map-map}
use Rattle.wasm_types.specs.declared.module.Module.{Module}
use Rattle.wasm_types.specs.Typing.{AreDistinct, DataOk, DescOk, ElemOk, ImportOk, IsConstant, LevelOk, LimitsOk, StartOk}
use Rattle.wasm_types.specs.View.{signature_of, view_data, view_elem, view_export, view_global, view_import, view_module, views}

all_of_map : {X Y : Type 0} (P : X → Type 0) (f : Y → X) (ys : List Y) → All P (map f ys) → All (λ y. P (f y)) ys
all_of_map P f ys h k d lt = subst P (get_or-map f ys k d (f d) lt) (h k (f d) (let same = length-map ys f in omega arith))

-- a test of the code's list decides a fact of the plain data's
mapped : {X Y : Type 0} (P : X → Type 0) (f : Y → X) (ys : List Y) (b : Bool) → IsTrue b ↔ All (λ y. P (f y)) ys → IsTrue b ↔ All P (map f ys)
mapped P f ys b h = (λ t. All-map P f ys (h.0 t), λ all. h.1 (all_of_map P f ys all))

both : (a b : Bool) {P Q : Type 0} → IsTrue a ↔ P → IsTrue b ↔ Q → IsTrue (a && b) ↔ (P × Q)
both a b p q = (λ t. let parts = and_parts a b t in (p.0 parts.0, q.0 parts.1), λ h. joined a b (p.1 h.0) (q.1 h.1)) where
  joined : (a b : Bool) → a ≡ true → b ≡ true → (a && b) ≡ true
  joined true b e f = f
  joined false b e f = cc

module _ (m : Module) where
  pub level_decided : (imports tables memories globals exports names start elems data_ok : Bool) →
      IsTrue imports ↔ All (λ i. i.ty < length m.types.items) m.imports.items →
      IsTrue tables ↔ (All (LimitsOk (2 ^ 32)) m.tables.items × (length m.tables.items ≤ 1)) →
      IsTrue memories ↔ (All (LimitsOk 65536) m.memories.items × (length m.memories.items ≤ 1)) →
      IsTrue globals ↔ All (λ g. IsConstant (views g.init.items) g.ty.value) m.globals.items →
      IsTrue exports ↔ All (λ e. DescOk (view_module m) e.desc) m.exports.items →
      IsTrue names ↔ AreDistinct (map (λ e. string_bytes e.name) m.exports.items) →
      IsTrue start ↔ StartOk (view_module m) m.start →
      IsTrue elems ↔ All (λ e. ElemOk (view_module m) (view_elem e)) m.elems.items →
      IsTrue data_ok ↔ All (λ d. DataOk (view_module m) (view_data d)) m.data.items →
      IsTrue (imports && tables && memories && globals && exports && names && start && elems && data_ok) ↔ LevelOk (view_module m)
  level_decided imports tables memories globals exports names start elems data_ok i t y g e n s l d =
      let count = length-map m.types.items signature_of in
      let typed : IsTrue imports ↔ All (ImportOk (view_module m)) (view_module m).imports =
      mapped (ImportOk (view_module m)) view_import m.imports.items imports
      (λ b k x lt. (let h = i.0 b k x lt in omega arith), λ all. i.1 (λ k x lt. let h = all k x lt in omega arith)) in
      let named : IsTrue names ↔ AreDistinct (map (λ e. e.name) (view_module m).exports) =
      subst (λ (ns : List (List ℕ)). IsTrue names ↔ AreDistinct ns) (sym (map-map (λ e. e.name) view_export m.exports.items)) n in
      let all = both _ data_ok (both _ elems (both _ start (both _ names (both _ exports (both _ globals (both _ memories (both imports tables typed t) y)
      (mapped (λ g. IsConstant g.init g.ty.value) view_global m.globals.items globals g))
      (mapped (λ e. DescOk (view_module m) e.desc) view_export m.exports.items exports e)) named) s)
      (mapped (ElemOk (view_module m)) view_elem m.elems.items elems l))
      (mapped (DataOk (view_module m)) view_data m.data.items data_ok d) in (
        λ b. (let h = all.0 b in record {
          imports_ok = h.0.0.0.0.0.0.0.0;
          tables_ok = h.0.0.0.0.0.0.0.1.0;
          one_table = h.0.0.0.0.0.0.0.1.1;
          memories_ok = h.0.0.0.0.0.0.1.0;
          one_memory = h.0.0.0.0.0.0.1.1;
          globals_ok = h.0.0.0.0.0.1;
          exports_ok = h.0.0.0.0.1;
          names_ok = h.0.0.0.1;
          start_ok = h.0.0.1;
          elems_ok = h.0.1;
          data_ok = h.1;
        }),
        λ h. all.1 ((((((((h.imports_ok, (h.tables_ok, h.one_table)), (h.memories_ok, h.one_memory)), h.globals_ok), h.exports_ok), h.names_ok), h.start_ok), h.elems_ok), h.data_ok),
      )
