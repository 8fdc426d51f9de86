-- Operations on a list of values: the values go onto the argument list, and all of them are taken from it.
use Rattle.std.proofs.Common.{◌≡◌, inl, ℕ, zero, suc, ◌+◌, ◌-◌, ◌<◌, ◌≤◌, true, List, [], ◌∷◌, ◌++◌, length, Some, None, Result, Ok, Err, refl, sym, ap, ap₂, ◌∙◌, subst, arith, append-nil, append_assoc}
use Rattle.std.specs.Prelude.{take, drop, nat_le, ◌&&◌}
use Rattle.std.proofs.lemmas.Bool.{and_parts, le-leb, leb-true}
use Rattle.awk_values.specs.declared.fault.Fault.{Fault}
use Rattle.awk_values.specs.declared.value.Value.{Value}
use Rattle.sem_primitives.specs.ConstantNumbers.{destination_number}
use Rattle.sem_primitives.specs.InTurn.{values_wanted, values_taken, with_name, listed_in_turn}
use Rattle.sem_primitives.specs.Sorts.{InAnswer}
use Rattle.sem_primitives.specs.declared.sorts.Argument.TheVariants as argument
use Rattle.sem_primitives.specs.SharedState.{shared_after}
use Rattle.sem_primitives.specs.Table.{listed_answer, listed_meaning}
use Rattle.sem_primitives.specs.declared.constants.Destination.{Destination}
use Rattle.sem_primitives.specs.declared.constants.Destination.TheVariants.{Standard, Emptied, Appended}
use Rattle.sem_primitives.specs.declared.sorts.Answer.TheVariants as answer
use Rattle.sem_primitives.specs.declared.sorts.Constant.TheVariants as constant
use Rattle.sem_primitives.specs.declared.sorts.Sort.TheVariants as sort
use Rattle.sem_primitives.specs.declared.table.Listed.{Listed}
use Rattle.sem_primitives.specs.declared.table.Listed.TheVariants as listed
use Rattle.sem_primitives.proofs.Words.{constant_again}
use Rattle.wasm_types.specs.Syntax.{Instructions}
use Rattle.wasm_store.specs.declared.word.Word.TheVariants.{I32}
use Rattle.mid_program.specs.Mid.{Kind, Program, Form, PrimitiveAnswer, Code, Over, Codes, End, At, Fixed, Fresh, form_of}
use Rattle.mid_program.specs.MidMeaning.{Values, evaluated, all_evaluated, boxed, listing}
use Rattle.sem_scripts.specs.Names.{ArrayName}
use Rattle.sem_scripts.specs.ScriptState.{State}
use Rattle.mid_program.specs.Sorted.{sorted, all_sorted, held_after_all, fits, all_values, are_enough, count_of}
use Rattle.lower_model.specs.Cells.{Cell, Bits, Held}
use Rattle.lower_model.specs.Emission.{emitted, all_emitted, all_boxed, all_appended, listed_asked, values_counted}
use Rattle.lower_model.specs.ImportCalls.{Host, Acts, with_some, and_rest, row_in, acted, replied, listed_acts, last_of, before_last_of, where_so}
use Rattle.lower_model.specs.Machine.{Conf, Label, Frame, at, onto}
use Rattle.lower_model.specs.Places.{Bases}
use Rattle.lower_model.specs.Small.{ask, kept, to_value}
use Rattle.host_imports.specs.declared.import.Import.TheVariants.{Variadic as OverLast, Arg}
use Rattle.host_imports.specs.declared.import.VariadicImport.TheVariants as last
use Rattle.lower_model.proofs.Observer.{Observer}
use Rattle.lower_model.proofs.Runs.{Goes, then_goes, goes_to, goes_from, stays, first, then_on, weaker_settled}
use Rattle.lower_model.proofs.Regions.{upd_same, upd_other}
use Rattle.lower_model.proofs.Locals.{Locals, Hand, with_at, laid}
use Rattle.lower_model.proofs.Steps.{empty, moved_out_ok}
use Rattle.lower_model.proofs.GlobalSteps.{storing}
use Rattle.lower_model.proofs.Calls.{called}
use Rattle.lower_model.proofs.HostLaws.{listed_keeps}
use Rattle.lower_model.proofs.Relation.{Meant, kept_same, same_then, Fit, fit_hand, fit_less, fit_shared, Away}
use Rattle.lower_model.proofs.Answers.{machine, beside_state, after_reply, reply, IsPlain, Put, kept_ok}
use Rattle.lower_model.proofs.Conversions.{same_state}
use Rattle.lower_model.proofs.Converting.{Converted, converted_ok}
use Rattle.lower_model.proofs.Simulation.{work_of, works_of, extra_of, past, made_past, past_from, past_room, layout, context, all_meant, Done, ExprOk, AllHeld, AllDone, CodesOk}
use Rattle.lower_model.proofs.Operands.{all_held_same}
use Rattle.lower_model.proofs.Arguments.{Under, under_self, under_then, under_keeps, under_same}
use Rattle.lower_model.proofs.Expressions.{put_done}

-- values make no array, and are counted
values_make_none : (fs : List Form) (es : Codes) (w : ℕ) → all_values fs es ≡ true → made_past w es ≡ w
values_make_none fs End w e = refl
values_make_none fs (At c es) w e = values_make_none fs es w (and_parts (fits (form_of fs c) sort.Value) (all_values fs es) e).1
values_make_none fs (Fixed m es) w e = cc
values_make_none fs (Fresh es) w e = cc

values_counted_so : (fs : List Form) (es : Codes) (vs : Values fs es) → all_values fs es ≡ true → count_of es ≡ length (listing fs es vs)
values_counted_so fs End vs e = refl
values_counted_so fs (At c es) vs e = ap suc (values_counted_so fs es vs.1 (and_parts (fits (form_of fs c) sort.Value) (all_values fs es) e).1)
values_counted_so fs (Fixed m es) vs e = cc
values_counted_so fs (Fresh es) vs e = cc

listed_plain : (l : Listed) → IsPlain (listed_answer l)
listed_plain listed.Sprintf = tt
listed_plain (listed.Print to) = tt
listed_plain (listed.Printf to) = tt

abbrev list_work : ℕ → Codes → ℕ
list_work m End = 0
list_work m (At e es) = m + list_work m es
list_work m (Fixed c es) = list_work m es
list_work m (Fresh es) = list_work m es

extra_lists : (es : Codes) → list_work 16 es + list_work 3 es ≤ extra_of es
extra_lists End = omega arith
extra_lists (At e es) = let r = extra_lists es in omega (arith, r)
extra_lists (Fixed m es) = extra_lists es
extra_lists (Fresh es) = let r = extra_lists es in omega (arith, r)

all_taken : (n : ℕ) (vs : List Value) → n ≡ length vs → last_of n vs ≡ vs
all_taken n vs e = let z : length vs - n ≡ zero = omega (arith, e) in ap (λ m. drop m vs) z

none_left : (n : ℕ) (vs : List Value) → n ≡ length vs → before_last_of n vs ≡ []
none_left n vs e = let z : length vs - n ≡ zero = omega (arith, e) in ap (λ m. take m vs) z

module _ (p : Program) (deepest : Observer) (ks : List Kind) (F : List Frame) (b : Bases) (M n : ℕ) where
  -- the state with an argument list
  abbrev with_list : State → List Value → Host
  with_list σ vs = record { shared = σ.shared; arguments = vs; fault = None }

  abbrev names_of : State → List Cell
  names_of σ = (beside_state p deepest ks F σ).globals

  abbrev ValuesAt : (fs : List Form) (es : Codes) → ℕ → Locals → Values fs es → Type 0
  ValuesAt fs End t l vs = Unit {0}
  ValuesAt fs (At e es) t l vs = (l.hand t ≡ Held (boxed (form_of fs e) vs.0)) × ValuesAt fs es (suc t) l vs.1
  ValuesAt fs (Fixed m es) t l vs = ⊥
  ValuesAt fs (Fresh es) t l vs = ⊥

  -- all are made values
  record AllBoxed (fs : List Form) (es : Codes) (t q u w : ℕ) (k : Instructions) (K : List Label) (l : Locals) (σ : State) (vs : Values fs es) : Type 0 where
    next : Locals
    steps : ℕ
    few : steps ≤ list_work 16 es
    goes : Goes (machine p deepest ks F) steps (at ks [] K (laid b l) F (all_boxed (layout p deepest ks F b M n) fs es t k) (beside_state p deepest ks F σ)) (at ks [] K (laid b next) F k (beside_state p deepest ks F σ))
    fit : Fit p deepest ks F q u w next σ
    under : Under t l next
    values : ValuesAt fs es t next vs

  one_boxed : (fs : List Form) (e : Code) (es : Codes) (t q u w : ℕ) (k : Instructions) (K : List Label) (l : Locals) (σ : State) (vs : Values fs (At e es)) (c : Conf) (steps : ℕ) → steps ≤ 16 →
      Goes (machine p deepest ks F) steps (at ks [] K (laid b l) F (to_value b (form_of fs e) t (all_boxed (layout p deepest ks F b M n) fs es (suc t) k)) (beside_state p deepest ks F σ)) c →
      (x : Converted p deepest ks F b M q u w t (PrimitiveAnswer (answer.Of sort.Value)) (all_boxed (layout p deepest ks F b M n) fs es (suc t) k) K l (boxed (form_of fs e) vs.0) σ c) → AllBoxed fs es (suc t) q u w k K x.next σ vs.1 → AllBoxed fs (At e es) t q u w k K l σ vs
  one_boxed fs e es t q u w k K l σ vs c steps few goes x y = record {
    next = y.next;
    steps = steps + y.steps;
    few = omega (arith, few, y.few);
    goes = then_goes (goes_to goes x.comes) y.goes;
    fit = y.fit;
    under = under_then t (suc t) l x.next y.next (omega arith) (under_keeps t t l x.next (omega arith) x.keeps) y.under;
    values = (y.under.hands t (omega arith) ∙ x.holds.0, y.values);
  }

  all_boxed_ok : (fs : List Form) (es : Codes) (t q u w : ℕ) (k : Instructions) (K : List Label) (l : Locals) (σ : State) (vs : Values fs es) → all_values fs es ≡ true → past t es ≤ q → past t es ≤ b.temporaries → Fit p deepest ks F q u w l σ → AllHeld p deepest ks F b M n fs es t w l σ vs → AllBoxed fs es t q u w k K l σ vs
  all_boxed_ok fs End t q u w k K l σ vs e lq lt ft hd = record { next = l; steps = 0; few = omega arith; goes = stays; fit = ft; under = under_self t l; values = tt }
  all_boxed_ok fs (At c es) t q u w k K l σ vs e lq lt ft hd =
      let ee = and_parts (fits (form_of fs c) sort.Value) (all_values fs es) e in
      let pf = past_from (suc t) es in
      let r = converted_ok p deepest ks F b M (form_of fs c) sort.Value vs.0 q u w t zero (all_boxed (layout p deepest ks F b M n) fs es (suc t) k) K l σ ee.0 (omega (arith, pf, lq)) (omega (arith, pf, lt)) ft hd.0 in
      one_boxed fs c es t q u w k K l σ vs r.conf r.steps (omega (arith, r.cost.few)) (record { it = r.goes }) r.holds
      (all_boxed_ok fs es (suc t) q u w k K r.holds.next σ vs.1 ee.1 lq lt r.holds.fit
      (all_held_same p deepest ks F b M n fs es (suc t) w l r.holds.next σ σ vs.1 (λ j z. refl) (λ y le ly. r.holds.keeps.hands y (λ z. omega (arith, z, le))) (λ y le ly. r.holds.keeps.numbers y (λ z. omega (arith, z, le))) (λ y le ly. r.holds.keeps.arrays y) hd.2))
  all_boxed_ok fs (Fixed m es) t q u w k K l σ vs e lq lt ft hd = absurd cc
  all_boxed_ok fs (Fresh es) t q u w k K l σ vs e lq lt ft hd = absurd cc

  -- onto the argument list
  arg_ok : {K : List Label} {L : List Cell} {c : Instructions} → (v : Value) (gs : List Cell) (σ : State) (acc : List Value) →
      Goes (machine p deepest ks F) 1 (at ks (Held v ∷ []) K L F (ask Arg c) (storing gs (with_list σ acc))) (at ks [] K L F c (storing gs (with_list σ (acc ++ v ∷ []))))
  arg_ok {K = K} {L = L} {c = c} v gs σ acc =
      goes_to (called Arg (Held v ∷ []) [] (storing gs (with_list σ acc)) None _ refl refl refl)
      (ap (λ τ. at ks [] K L F c (storing gs (with_list τ (acc ++ v ∷ [])))) (same_state {A = Result (Unit {0}) Fault} σ (Ok tt)))

  record AllAppended (fs : List Form) (es : Codes) (t u w : ℕ) (k : Instructions) (K : List Label) (l : Locals) (σ : State) (acc : List Value) (vs : Values fs es) : Type 0 where
    next : Locals
    goes : Goes (machine p deepest ks F) (list_work 3 es) (at ks [] K (laid b l) F (all_appended (layout p deepest ks F b M n) es t k) (storing (names_of σ) (with_list σ acc))) (at ks [] K (laid b next) F k (storing (names_of σ) (with_list σ (acc ++ listing fs es vs))))
    fit : Fit p deepest ks F t u w next σ
    under : Under t l next

  values_same : (fs : List Form) (es : Codes) (t : ℕ) (l l1 : Locals) (vs : Values fs es) → ((x : ℕ) → t ≤ x → l1.hand x ≡ l.hand x) → ValuesAt fs es t l vs → ValuesAt fs es t l1 vs
  values_same fs End t l l1 vs s q = tt
  values_same fs (At e es) t l l1 vs s q = (s t (omega arith) ∙ q.0, values_same fs es (suc t) l l1 vs.1 (λ x le. s x (omega (arith, le))) q.1)
  values_same fs (Fixed m es) t l l1 vs s q = q
  values_same fs (Fresh es) t l l1 vs s q = q

  one_appended : (fs : List Form) (e : Code) (es : Codes) (t u w : ℕ) (k : Instructions) (K : List Label) (l : Locals) (σ : State) (acc : List Value) (vs : Values fs (At e es)) → t < b.temporaries → l.hand t ≡ Held (boxed (form_of fs e) vs.0) →
      AllAppended fs es (suc t) u w k K (with_at l (Hand t) empty) σ (acc ++ boxed (form_of fs e) vs.0 ∷ []) vs.1 → AllAppended fs (At e es) t u w k K l σ acc vs
  one_appended fs e es t u w k K l σ acc vs lt q y =
      let v = boxed (form_of fs e) vs.0 in
      record {
        next = y.next;
        goes = goes_to (then_goes (then_goes (moved_out_ok b l (Hand t) (Held v) lt q) (arg_ok v (names_of σ) σ acc)) y.goes) (ap (λ z. at ks [] K (laid b y.next) F k (storing (names_of σ) (with_list σ z))) (append_assoc acc (v ∷ []) (listing fs es vs.1)));
        fit = fit_less p deepest ks F t u w y.next σ (y.under.hands t (omega arith) ∙ upd_same l.hand t empty) y.fit;
        under = under_then t (suc t) l (with_at l (Hand t) empty) y.next (omega arith) (record { hands = λ x lx. upd_other l.hand t x empty (λ z. omega (arith, z, lx)); numbers = λ x lx. refl; iterators = λ x. refl; arrays = λ x. refl }) y.under;
      }

  all_appended_ok : (fs : List Form) (es : Codes) (t u w : ℕ) (k : Instructions) (K : List Label) (l : Locals) (σ : State) (acc : List Value) (vs : Values fs es) → past t es ≤ b.temporaries → Fit p deepest ks F (past t es) u w l σ → ValuesAt fs es t l vs → AllAppended fs es t u w k K l σ acc vs
  all_appended_ok fs End t u w k K l σ acc vs lt ft q = record { next = l; goes = record { it = ap (λ z. at ks [] K (laid b l) F k (storing (names_of σ) (with_list σ z))) (sym (append-nil acc)) }; fit = ft; under = under_self t l }
  all_appended_ok fs (At e es) t u w k K l σ acc vs lt ft q =
      let pf = past_from (suc t) es in
      let l1 = with_at l (Hand t) empty in
      one_appended fs e es t u w k K l σ acc vs (omega (arith, pf, lt)) q.0
      (all_appended_ok fs es (suc t) u w k K l1 σ (acc ++ boxed (form_of fs e) vs.0 ∷ []) vs.1 lt (fit_hand p deepest ks F t (past (suc t) es) u w l σ empty (inl refl) (omega (arith, pf)) ft)
      (values_same fs es (suc t) l l1 vs.1 (λ x le. upd_other l.hand t x empty (λ z. omega (arith, z, le))) q.1))
  all_appended_ok fs (Fixed m es) t u w k K l σ acc vs lt ft q = absurd q
  all_appended_ok fs (Fresh es) t u w k K l σ acc vs lt ft q = absurd q

  -- The call that takes the whole list.

  abbrev whole : (l : Listed) → List Value → State → Acts (InAnswer (listed_answer l))
  whole l vs σ = record { does = listed_meaning l vs σ.shared; arguments = [] }

  listed_acts_ok : (l : Listed) (m : ℕ) (vs : List Value) (σ : State) → m ≡ length vs → nat_le (values_wanted l) (length vs) ≡ true → listed_acts l m (with_list σ vs) ≡ Some (whole l vs σ)
  listed_acts_ok l m vs σ e en =
      ap₂ (λ x y. where_so (nat_le m (length vs) && listed_in_turn l x) (Some (record { does = listed_meaning l x σ.shared; arguments = y }))) (all_taken m vs e) (none_left m vs e)
      ∙ ap₂ (λ x y. where_so (x && y) (Some (whole l vs σ))) (le-leb m (length vs) (omega (arith, e))) en

  listed_reply : (L : List Cell) (K : List Label) (c : Instructions) (l : Listed) (vs : List Value) (σ : State) (r : Result (InAnswer (listed_answer l)) Fault) →
      at ks (onto (replied (listed_answer l) (with_list σ vs) (whole l vs σ) r).0 []) K L F c (storing (names_of σ) (replied (listed_answer l) (with_list σ vs) (whole l vs σ) r).1) ≡ at ks (reply (listed_answer l) r []) K L F c (after_reply p deepest ks F r (record σ { shared = shared_after σ.shared (listed_meaning l vs σ.shared) }))
  listed_reply L K c l vs σ (Ok x) = refl
  listed_reply L K c l vs σ (Err f) = refl

  counted_taken : (to : Destination) (m count : ℕ) → nat_le (with_name to m) count ≡ true → with_name to (values_counted to count) ≡ count
  counted_taken Standard m count e = refl
  counted_taken Emptied m count e = let g = leb-true (suc m) count e in omega (arith, g)
  counted_taken Appended m count e = let g = leb-true (suc m) count e in omega (arith, g)

  two_constants : (m : ℕ) (to : Destination) → row_in (machine p deepest ks F).memory (argument.Constant constant.Count ∷ argument.Constant constant.Destination ∷ []) (Bits (I32 m) ∷ Bits (I32 (destination_number to)) ∷ []) ≡ Some (m, (to, tt))
  two_constants m to = ap (λ o. with_some (with_some (and_rest o []) (λ x. with_some (row_in (machine p deepest ks F).memory [] x.1) (λ r. Some (x.0, r)))) (λ r. Some (m, r))) (constant_again constant.Destination to)

  listed_called : (l : Listed) (count t d : ℕ) (k : Instructions) (K : List Label) (L : List Cell) (vs : List Value) (σ : State) → count ≡ length vs → nat_le (values_wanted l) count ≡ true →
      Goes (machine p deepest ks F) 1 (at ks [] K L F (listed_asked (layout p deepest ks F b M n) l count t d k) (storing (names_of σ) (with_list σ vs)))
      (at ks (reply (listed_answer l) (listed_meaning l vs σ.shared).answer []) K L F (kept b true (listed_answer l) t d k) (after_reply p deepest ks F (listed_meaning l vs σ.shared).answer (record σ { shared = shared_after σ.shared (listed_meaning l vs σ.shared) })))
  listed_called listed.Sprintf count t d k K L vs σ e en =
      let l = listed.Sprintf in
      let x = replied (listed_answer l) (with_list σ vs) (whole l vs σ) (listed_meaning l vs σ.shared).answer in
      goes_to
      (called (OverLast last.Sprintf) (Bits (I32 count) ∷ []) [] (storing (names_of σ) (with_list σ vs)) x.0 x.1 refl refl
      (ap (λ o. with_some o (λ a. Some (replied (listed_answer l) (with_list σ vs) a a.does.answer))) (listed_acts_ok l count vs σ e (ap (nat_le (values_wanted l)) (sym e) ∙ en))))
      (listed_reply L K (kept b true (listed_answer l) t d k) l vs σ (listed_meaning l vs σ.shared).answer)
  listed_called (listed.Print to) count t d k K L vs σ e en =
      let l = listed.Print to in
      let m = values_counted to count in
      let x = replied (listed_answer l) (with_list σ vs) (whole l vs σ) (listed_meaning l vs σ.shared).answer in
      goes_to
      (called (OverLast last.Print) (Bits (I32 m) ∷ Bits (I32 (destination_number to)) ∷ []) [] (storing (names_of σ) (with_list σ vs)) x.0 x.1 refl refl
      (ap (acted (OverLast last.Print) (with_list σ vs)) (two_constants m to)
      ∙ ap (λ o. with_some o (λ a. Some (replied (listed_answer l) (with_list σ vs) a a.does.answer))) (listed_acts_ok l (values_taken l m) vs σ (counted_taken to 0 count en ∙ e) (ap (nat_le (values_wanted l)) (sym e) ∙ en))))
      (listed_reply L K (kept b true (listed_answer l) t d k) l vs σ (listed_meaning l vs σ.shared).answer)
  listed_called (listed.Printf to) count t d k K L vs σ e en =
      let l = listed.Printf to in
      let m = values_counted to count in
      let x = replied (listed_answer l) (with_list σ vs) (whole l vs σ) (listed_meaning l vs σ.shared).answer in
      goes_to
      (called (OverLast last.Printf) (Bits (I32 m) ∷ Bits (I32 (destination_number to)) ∷ []) [] (storing (names_of σ) (with_list σ vs)) x.0 x.1 refl refl
      (ap (acted (OverLast last.Printf) (with_list σ vs)) (two_constants m to)
      ∙ ap (λ o. with_some o (λ a. Some (replied (listed_answer l) (with_list σ vs) a a.does.answer))) (listed_acts_ok l (values_taken l m) vs σ (counted_taken to 1 count en ∙ e) (ap (nat_le (values_wanted l)) (sym e) ∙ en))))
      (listed_reply L K (kept b true (listed_answer l) t d k) l vs σ (listed_meaning l vs σ.shared).answer)

  listed_stands : (l : Listed) (x : InAnswer (listed_answer l)) (y : ArrayName) (σ : State) → Meant p deepest ks F (PrimitiveAnswer (listed_answer l)) x y σ
  listed_stands listed.Sprintf x y σ = tt
  listed_stands (listed.Print to) x y σ = tt
  listed_stands (listed.Printf to) x y σ = tt

  pub over_expr : (l : Listed) (es : Codes) → CodesOk p deepest ks F b M n es → ExprOk p deepest ks F b M n (Over l es)
  unfolding emitted all_emitted evaluated all_evaluated sorted all_sorted
  over_expr lo es ok v fs env ts st t u w d k K l σ so us rm ar rd =
      let mach = machine p deepest ks F in
      let lay = layout p deepest ks F b M n in
      let ctx = context p deepest ks F b M n in
      let Q = Away p deepest ks F b d K in
      let P = Done p deepest ks F b M n v (Over lo es) fs env ts st t u w k K l σ in
      let s1 = and_parts (are_enough lo es) (all_values fs es && all_sorted ctx fs es) so in
      let s2 = and_parts (all_values fs es) (all_sorted ctx fs es) s1.1 in
      let k3 = listed_asked lay lo (count_of es) t d k in
      let k2 = all_appended lay es t k3 in
      let k1 = all_boxed lay fs es t k2 in
      let pr = past_room t es in
      let ex = extra_lists es in
      then_on mach M (works_of es) (extra_of es + 10) (work_of (Over lo es)) σ.turns _ (AllDone p deepest ks F b M n es fs env ts st t u w k1 K l σ) P Q (all_meant p deepest ks F b M n fs env es σ) _ (omega arith)
      (ok fs env ts st t u w d k1 K l σ s2.1 us (omega (arith, rm)) ar rd)
      (λ vs τ c1 le a.
      let lt : past t es ≤ b.temporaries = omega (arith, pr, rm) in
      let bx = all_boxed_ok fs es t (past t es) u w k2 K a.next τ vs s2.0 (omega arith) lt (subst (λ z. Fit p deepest ks F (past t es) u z a.next τ) (values_make_none fs es w s2.0) a.fit) a.held in
      let y = all_appended_ok fs es t u w k3 K bx.next τ [] vs lt bx.fit bx.values in
      let args = listing fs es vs in
      let d1 = listed_meaning lo args τ.shared in
      let τ1 : State = record τ { shared = shared_after τ.shared d1 } in
      let kp = listed_keeps lo args τ.shared in
      let f1 = fit_shared p deepest ks F t u w y.next τ (shared_after τ.shared d1) (record { pending = kp.pending ∙ a.fit.sound.calm.pending; names = kp.names ∙ a.fit.sound.calm.names; few = kp.few a.fit.sound.calm.few }) y.fit in
      let un : Under t a.next y.next = under_then t t a.next bx.next y.next (omega arith) bx.under y.under in
      first mach M (bx.steps + (list_work 3 es + 1)) 4 (extra_of es + 10) τ.turns c1 _ P Q _
      (goes_from a.comes (then_goes bx.goes (then_goes y.goes (listed_called lo (count_of es) t d k K (laid b y.next) args τ (values_counted_so fs es vs s2.0) s1.0)))) (omega (arith, bx.few, ex))
      (weaker_settled mach M 4 _ τ1 (Put p deepest ks F b t u w (PrimitiveAnswer (listed_answer lo)) k K y.next) P Q d1.answer
      (λ x c2 put. put_done p deepest ks F b M n (Over lo es) v fs env ts st t u w k K l y.next σ τ1 x c2 rd.below (same_then ts t t w w l a.next y.next (omega arith) (omega arith) a.same (under_same ts t w a.next y.next un)) a.own (kept_same fs ts (λ i. held_after_all i es (st i)) a.next y.next env t rd.below un.hands un.numbers a.kept) refl (listed_stands lo x _ τ1) put)
      (kept_ok p deepest ks F b M true (listed_answer lo) d1.answer t u w d k K y.next τ1 (listed_plain lo) (omega (arith, rm)) f1)))
