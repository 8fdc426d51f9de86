-- Names take a value: an unboxed global takes copies of others, and any name all else.
use Rattle.std.proofs.Common.{◌≡◌, ℕ, suc, ◌+◌, ◌<◌, ◌≤◌, Bool, true, false, List, [], Option, refl, sym, ap, ◌∙◌, subst, arith, is_some}
use Rattle.std.specs.Prelude.{◌&&◌, ◌||◌, not}
use Rattle.std.proofs.lemmas.Bool.{and_parts, not-true}
use Rattle.awk_values.specs.declared.value.Value.{Value}
use Rattle.wasm_types.specs.Syntax.{Instructions}
use Rattle.mid_program.specs.Mid.{Kind, Unboxed, Program, Slot, Global, Parameter, Form, NumberOrText, Code, Get, Set, source_of}
use Rattle.mid_program.specs.MidMeaning.{evaluated, all_evaluated}
use Rattle.sem_scripts.specs.ScriptState.{State, with_global, global_value, local_value}
use Rattle.mid_program.specs.Sorted.{sorted, all_sorted, has_kind, kinds_of, mixed_of, is_mixed, is_bare, is_number, takes, lends, lender_at}
use Rattle.lower_model.specs.Emission.{emitted, all_emitted, slot_read, slot_set, unboxed_read}
use Rattle.lower_model.specs.Machine.{Label, Frame, at}
use Rattle.lower_model.specs.Places.{Bases}
use Rattle.lower_model.proofs.Observer.{Observer}
use Rattle.lower_model.proofs.Runs.{Goes, then_goes, there}
use Rattle.lower_model.proofs.Locals.{Locals, laid}
use Rattle.lower_model.proofs.State.{bare, BareIs}
use Rattle.lower_model.proofs.Relation.{kept_same, Same, same_then, Fit, Away}
use Rattle.lower_model.proofs.Answers.{machine, beside_state}
use Rattle.lower_model.proofs.Conversions.{bare_is}
use Rattle.lower_model.proofs.Storing.{handed, handed_stands, handed_fit}
use Rattle.lower_model.proofs.Written.{fit_global}
use Rattle.lower_model.proofs.Simulation.{StandsAt, layout, context, Done, ExprOk}
use Rattle.lower_model.proofs.Texts.{NameRead, global_read, bare_read}
use Rattle.lower_model.proofs.SettingNames.{handed_under, copied_global_set, set_plain}

module _ (p : Program) (deepest : Observer) (ks : List Kind) (F : List Frame) (b : Bases) (M n : ℕ) where
  -- code copies what a name has into an unboxed global
  record Copies (i : ℕ) (y : Slot) (v : Bool) (x : Value) (t u w : ℕ) (k : Instructions) (K : List Label) (l : Locals) (σ : State) : Type 0 where
    next : Locals
    steps : ℕ
    few : steps ≤ 38
    goes : Goes (machine p deepest ks F) steps (at ks [] K (laid b l) F (slot_read (layout p deepest ks F b M n) y t (slot_set (layout p deepest ks F b M n) v (Global true i) NumberOrText t k)) (beside_state p deepest ks F σ)) (at ks [] K (laid b next) F k (beside_state p deepest ks F (with_global i x σ)))
    fit : Fit p deepest ks F (suc t) u w next (with_global i x σ)
    same : Same [] t w l next
    stands : StandsAt v NumberOrText t next x

  copies : (i : ℕ) (y : Slot) (v : Bool) (x : Value) (t u w : ℕ) (k : Instructions) (K : List Label) (l : Locals) (σ : State) →
      NameRead p deepest ks F b M n 18 (slot_read (layout p deepest ks F b M n) y t (slot_set (layout p deepest ks F b M n) v (Global true i) NumberOrText t k)) x t u w (slot_set (layout p deepest ks F b M n) v (Global true i) NumberOrText t k) K l σ →
      t < b.temporaries → lends p.lenders i ≡ false → is_mixed (mixed_of p.globals) i ≡ true → has_kind (kinds_of p.globals) i Unboxed ≡ true → Copies i y v x t u w k K l σ
  copies i y v x t u w k K l σ r lt nl mx hk =
      let g = copied_global_set p deepest ks F b M n v x i t r.next σ K k lt r.word r.hand mx r.fit.sound.names hk in
      let q = r.few in
      let z = g.few in
      record {
        next = handed v t r.next;
        steps = r.steps + g.steps;
        few = omega (arith, q, z);
        goes = then_goes r.goes g.goes;
        fit = fit_global p deepest ks F b M n i x (suc t) u w (handed v t r.next) σ nl (handed_fit p deepest ks F b M n v t (suc t) u w r.next σ (omega arith) r.fit);
        same = same_then [] t t w w l r.next (handed v t r.next) (omega arith) (omega arith) r.same (handed_under v t w r.next);
        stands = handed_stands v NumberOrText t r.next x (bare x, r.word, subst (λ d. BareIs x (bare x) d) (sym r.hand) (bare_is x));
      }

  pub copy_global : (i j : ℕ) → ExprOk p deepest ks F b M n (Set (Global true i) (Get (Global true j)))
  unfolding emitted all_emitted evaluated all_evaluated sorted all_sorted
  copy_global i j v fs env ts st t u w d k K l σ so us rm ar rd =
      let x = global_value j σ in
      let e = Set (Global true i) (Get (Global true j)) in
      let s1 = and_parts _ _ so in
      let s2 = and_parts _ _ s1.1 in
      let s3 = and_parts (not (lends p.lenders i)) _ s2.0 in
      let nl = not-true (lends p.lenders i) s3.0 in
      let lt : t < b.temporaries = omega (arith, rm) in
      let g = global_read p deepest ks F b M n j t u w (slot_set (layout p deepest ks F b M n) v (Global true i) NumberOrText t k) K l σ s2.1 lt rd.fit in
      let few = g.few in
      let r : NameRead p deepest ks F b M n 18 (unboxed_read (layout p deepest ks F b M n) j t (slot_set (layout p deepest ks F b M n) v (Global true i) NumberOrText t k)) x t u w (slot_set (layout p deepest ks F b M n) v (Global true i) NumberOrText t k) K l σ =
      record { next = g.next; steps = g.steps; few = omega (arith, few); goes = g.goes; fit = g.fit; same = g.same; word = g.word; hand = g.hand } in
      let c = copies i (Global true j) v x t u w k K l σ r lt nl (and_parts _ _ s3.1).0 s1.0 in
      there (machine p deepest ks F) M 58 c.steps _ _ x (with_global i x σ) (Done p deepest ks F b M n v e fs env ts st t u w k K l σ) (Away p deepest ks F b d K) c.goes (let q = c.few in omega (arith, q)) (record {
        next = c.next;
        comes = refl;
        fit = c.fit;
        same = record { hands = λ z h o. c.same.hands z h tt; numbers = c.same.numbers; iterators = c.same.iterators; arrays = c.same.arrays };
        own = λ z q. refl;
        kept = kept_same fs ts st l c.next env t rd.below (λ z h. c.same.hands z h tt) c.same.numbers rd.kept;
        stands = c.stands;
        meant = tt;
      })

  pub copy_parameter : (i j : ℕ) → ExprOk p deepest ks F b M n (Set (Global true i) (Get (Parameter true j)))
  unfolding emitted all_emitted evaluated all_evaluated sorted all_sorted
  copy_parameter i j v fs env ts st t u w d k K l σ so us rm ar rd =
      let x = local_value j σ in
      let e = Set (Global true i) (Get (Parameter true j)) in
      let s1 = and_parts _ _ so in
      let s2 = and_parts _ _ s1.1 in
      let s3 = and_parts (not (lends p.lenders i)) _ s2.0 in
      let nl = not-true (lends p.lenders i) s3.0 in
      let lt : t < b.temporaries = omega (arith, rm) in
      let r = bare_read p deepest ks F b M n j t u w (slot_set (layout p deepest ks F b M n) v (Global true i) NumberOrText t k) K l σ s2.1 rd.parameters lt rd.fit in
      let c = copies i (Parameter true j) v x t u w k K l σ r lt nl (and_parts _ _ s3.1).0 s1.0 in
      there (machine p deepest ks F) M 58 c.steps _ _ x (with_global i x σ) (Done p deepest ks F b M n v e fs env ts st t u w k K l σ) (Away p deepest ks F b d K) c.goes (let q = c.few in omega (arith, q)) (record {
        next = c.next;
        comes = refl;
        fit = c.fit;
        same = record { hands = λ z h o. c.same.hands z h tt; numbers = c.same.numbers; iterators = c.same.iterators; arrays = c.same.arrays };
        own = λ z q. refl;
        kept = kept_same fs ts st l c.next env t rd.below (λ z h. c.same.hands z h tt) c.same.numbers rd.kept;
        stands = c.stands;
        meant = tt;
      })

  -- what is no copy of an unboxed name
  data Source (e : Code) : Type 0 where
    NoCopy : is_bare (source_of e) ≡ false → Source e
    OfGlobal : (j : ℕ) → e ≡ Get (Global true j) → Source e
    OfParameter : (j : ℕ) → e ≡ Get (Parameter true j) → Source e

  source : (e : Code) → Source e
  source (Get (Global true j)) = OfGlobal j refl
  source (Get (Global false j)) = NoCopy refl
  source (Get (Parameter true j)) = OfParameter j refl
  source (Get (Parameter false j)) = NoCopy refl
  source e = NoCopy refl

  number_alone : (i : ℕ) (o : Option Slot) (f : Form) → is_bare o ≡ false → takes (context p deepest ks F b M n) (Global true i) o f ≡ true → is_number f ≡ true
  number_alone i o f none tk = or_false (is_number f) (is_mixed (mixed_of p.globals) i) (sym (ap (λ z. is_number f || (is_mixed (mixed_of p.globals) i && z)) none) ∙ (and_parts (not (lends p.lenders i)) _ tk).1)
    where
      or_false : (a m : Bool) → (a || (m && false)) ≡ true → a ≡ true
      or_false true m h = refl
      or_false false true h = h
      or_false false false h = h

  pub set_expr : (x : Slot) (e : Code) → ExprOk p deepest ks F b M n e → ExprOk p deepest ks F b M n (Set x e)
  set_expr (Global false i) e ok = set_plain p deepest ks F b M n (Global false i) e (λ f tk. tk) ok
  set_expr (Parameter true i) e ok = set_plain p deepest ks F b M n (Parameter true i) e (λ f tk. (and_parts (not (is_some (lender_at p.lenders i))) _ tk).1) ok
  set_expr (Parameter false i) e ok = set_plain p deepest ks F b M n (Parameter false i) e (λ f tk. tk) ok
  set_expr (Global true i) e ok = by (source e)
    where
      by : Source e → ExprOk p deepest ks F b M n (Set (Global true i) e)
      by (NoCopy none) = set_plain p deepest ks F b M n (Global true i) e (λ f tk. number_alone i (source_of e) f none tk) ok
      by (OfGlobal j q) = subst (λ z. ExprOk p deepest ks F b M n (Set (Global true i) z)) (sym q) (copy_global i j)
      by (OfParameter j q) = subst (λ z. ExprOk p deepest ks F b M n (Set (Global true i) z)) (sym q) (copy_parameter i j)
