use Rattle.std.proofs.Common.{◌≡◌, ℕ, suc, ◌+◌, ◌<◌, List, ◌∷◌, drop, get_or, length, map, refl, sym, ap, ◌∙◌, arith, drop-cons}
use Rattle.wasm_types.specs.Syntax.{Instructions}
use Rattle.mid_program.specs.Mid.{Kind, Boxed, Unboxed, ArrayKind}
use Rattle.mid_program.specs.Sorted.{kinds_of}
use Rattle.mid_program.specs.View.{view_declared, view_kind}
use Rattle.mid_program.specs.declared.program.Declared.{Declared}
use Rattle.lower_model.specs.Emission.{Layout, assigned_by_number}
use Rattle.lower_pieces.proofs.Appended.{◌⨟◌, same}
use Rattle.lower_expressions.specs.Parts.{one_assigned}
use Rattle.lower_expressions.specs.View.{view_layout}
use Rattle.lower_expressions.proofs.pending.assigned_by_number.Goals as goal

first_assigned : (y : Layout) (kind : Kind) (i t : ℕ) (ks : List Kind) (k : Instructions) → one_assigned y kind i t (assigned_by_number y ks (suc i) t k) ≡ assigned_by_number y (kind ∷ ks) i t k
first_assigned y Boxed i t ks k = refl
first_assigned y Unboxed i t ks k = refl
first_assigned y ArrayKind i t ks k = refl

-- a name before others
assigned_step : (y : Layout) (ds : List Declared) (i t : ℕ) (d : Declared) (k : Instructions) → i < length ds → d ≡ get_or ds i d →
    one_assigned y (view_kind d.kind) i t (assigned_by_number y (kinds_of (map view_declared (drop (i + 1) ds))) (i + 1) t k) ≡ assigned_by_number y (kinds_of (map view_declared (drop i ds))) i t k
assigned_step y ds i t d k lt at =
    let next : i + 1 ≡ suc i = omega arith in
    (λ j. one_assigned y (view_kind d.kind) i t (assigned_by_number y (kinds_of (map view_declared (drop (next j) ds))) (next j) t k))
    ∙ first_assigned y (view_kind d.kind) i t (kinds_of (map view_declared (drop (suc i) ds))) k
    ∙ ap (λ (x : Declared). assigned_by_number y (view_kind x.kind ∷ kinds_of (map view_declared (drop (suc i) ds))) i t k) at
    ∙ sym (ap (λ (xs : List Declared). assigned_by_number y (kinds_of (map view_declared xs)) i t k) (drop-cons ds i d lt))

pub loop-declared-preserved : goal.loop-declared-preserved
loop-declared-preserved c =
    let n = ap length c.names-declared-items.ensures.names in
    let i = c.loop-declared.declared-index in
    record {
      place = omega arith;
      emits = λ k. (rw c.loop-declared.invariant.place at c.one_assigned.ensures) _
          ⨟ same (assigned_step (view_layout c.args.layout.now) c.args.layout.now.script.now.program.now.globals.items i c.args.temporary c.declared-item.result k
          (omega (arith, n)) (c.declared-item.is ∙ ap (λ (xs : List Declared). get_or xs i c.declared-item.result) c.names-declared-items.ensures.names))
          ⨟ c.loop-declared.invariant.emits k;
    }
