-- A line of a file goes into a variable.
use Rattle.std.proofs.Common.{◌≡◌, inl, ℕ, suc, ◌+◌, true, false, List, [], ◌∷◌, Result, Ok, Err, refl, ap, ◌∙◌, subst, arith}
use Rattle.std.specs.Prelude.{◌&&◌}
use Rattle.std.proofs.lemmas.Bool.{and_parts}
use Rattle.awk_values.specs.declared.fault.Fault.{Fault}
use Rattle.sem_primitives.specs.Rows.{getline_line_file_row}
use Rattle.sem_primitives.specs.SharedState.{Inner, Shared, settles}
use Rattle.sem_primitives.specs.Table.{meaning}
use Rattle.sem_primitives.specs.declared.answers.InputAnswer.{InputAnswer}
use Rattle.sem_primitives.specs.declared.sorts.Answer.TheVariants as answer
use Rattle.sem_primitives.specs.declared.sorts.Sort.TheVariants as sort
use Rattle.sem_primitives.specs.declared.table.Primitive.TheVariants as row
use Rattle.wasm_types.specs.Syntax.{Done as NoMore}
use Rattle.mid_program.specs.Mid.{Kind, Program, PrimitiveAnswer, a_value, Code, FileLine, form_of}
use Rattle.mid_program.specs.MidMeaning.{evaluated, all_evaluated, boxed, when_read}
use Rattle.sem_scripts.specs.ScriptState.{go_on, call}
use Rattle.mid_program.specs.Sorted.{Held as Standing, sorted, all_sorted, held_after, fits, keeps_well, is_dropped, stores_well}
use Rattle.lower_model.specs.Cells.{Held}
use Rattle.lower_model.specs.Emission.{emitted, all_emitted, text_kept, text_let_go}
use Rattle.lower_model.specs.Machine.{Frame, loops_walked}
use Rattle.lower_model.specs.Places.{Bases, handle_local, number_local}
use Rattle.lower_model.specs.Small.{ask_row, number_is, when, code_number, moved_out, kept_code, to_value}
use Rattle.lower_model.proofs.Observer.{Observer}
use Rattle.lower_model.proofs.Runs.{then_goes, goes_from, first, then_on, then_settled, weaker}
use Rattle.lower_model.proofs.Regions.{upd_same}
use Rattle.lower_model.proofs.Locals.{Hand, with_at}
use Rattle.lower_model.proofs.Steps.{empty, moved_out_ok}
use Rattle.lower_model.proofs.Relation.{kept_same, same_then, same_hand, fit_shared, fit_less, fit_hand, Away}
use Rattle.lower_model.proofs.Answers.{machine, row_called, done_by, Put, kept_ok}
use Rattle.lower_model.proofs.Converting.{Converted, converted_ok}
use Rattle.lower_model.proofs.HostCalls.{calm_after}
use Rattle.lower_model.proofs.InputLaws.{LineAt, LineThere, file_line_there}
use Rattle.lower_model.proofs.Arguments.{under_same, under_keeps}
use Rattle.lower_model.proofs.Choosing.{well_left, well_right}
use Rattle.lower_model.proofs.Receiving.{same_any, Received, storing_meant, received_ok}
use Rattle.lower_model.proofs.Simulation.{work_of, room_one, still_stands, layout, context, meant, Done, ExprOk, walking_same}

abbrev ok_of : {A : Type 0} → A → Result A Fault → A
ok_of a (Ok z) = z
ok_of a (Err f) = a

-- where a row answered that a line was read, it is there
line_after : (s : Shared) (r : Result (Inner × InputAnswer) Fault) (x : InputAnswer) → LineThere r → (settles s r).answer ≡ Ok x → LineAt (settles s r).inner x
line_after s (Ok y) x h e = subst (LineAt y.0) (ap (ok_of x) e) h
line_after s (Err f) x h e = cc

module _ (p : Program) (deepest : Observer) (ks : List Kind) (F : List Frame) (b : Bases) (M n : ℕ) where
  pub file_line_expr : (e s : Code) → ExprOk p deepest ks F b M n e → ExprOk p deepest ks F b M n s → ExprOk p deepest ks F b M n (FileLine e s)
  unfolding emitted all_emitted evaluated all_evaluated sorted all_sorted
  file_line_expr e s oke oks v fs env ts st t u w d k K l σ so us rm ar rd =
      let mach = machine p deepest ks F in
      let ctx = context p deepest ks F b M n in
      let lay = layout p deepest ks F b M n in
      let Q = Away p deepest ks F b d K in
      let f = form_of fs e in
      let P = Done p deepest ks F b M n v (FileLine e s) fs env ts st t u w k K l σ in
      let st1 : ℕ → Standing = λ i. held_after i e (st i) in
      let s1 = and_parts (fits f sort.Value) (sorted ctx fs e && (stores_well fs s && sorted ctx (a_value ∷ fs) s)) so in
      let s2 = and_parts (sorted ctx fs e) (stores_well fs s && sorted ctx (a_value ∷ fs) s) s1.1 in
      let s3 = and_parts (stores_well fs s) (sorted ctx (a_value ∷ fs) s) s2.1 in
      let s4 = and_parts (keeps_well s) (is_dropped (form_of (a_value ∷ fs) s)) s3.0 in
      let block = text_kept lay row.Line t (emitted lay true (a_value ∷ fs) (suc t ∷ ts) s (suc (suc t)) w (suc d) (text_let_go lay fs s t NoMore)) in
      let k4 = number_is (number_local b t) 1 (when block (code_number b t k)) in
      let k3 = kept_code b true t d k4 in
      let k2 = moved_out (handle_local b t) (ask_row row.GetlineVarFile k3) in
      let k1 = to_value b f t k2 in
      let r1 = room_one e in
      let stored = when_read (storing_meant p deepest ks F b M n s fs env) in
      then_on mach M (work_of e) (work_of s + 80) (work_of (FileLine e s)) σ.turns _ (Done p deepest ks F b M n false e fs env ts st t u w k1 K l σ) P Q (meant p deepest ks F b M n fs env e σ) _ (omega arith)
      (oke false fs env ts st t u w d k1 K l σ s2.0 (λ i lt. well_left (st1 i) (held_after (suc i) s (st1 i)) (us i lt)) (omega (arith, rm)) (omega (arith, ar)) rd)
      (λ x τ c1 le a.
      first mach M 0 (work_of s + 80) (work_of s + 80) τ.turns c1 _ P Q _ (record { it = a.comes }) (omega arith)
      (then_settled mach M 16 (work_of s + 64) (work_of s + 80) _ τ (Converted p deepest ks F b M (suc t) u w t a_value k2 K a.next) P Q (Ok (boxed f x)) (λ y σ1. go_on (call row.GetlineVarFile (y, tt) σ1) stored) (omega arith)
      (converted_ok p deepest ks F b M f sort.Value x (suc t) u w t d k2 K a.next τ s1.0 (omega arith) (omega (arith, rm, r1)) a.fit (still_stands e f t a.next x a.stands))
      (λ y c2 er a1.
      let D = meaning row.GetlineVarFile (y, tt) τ.shared in
      let τ1 = done_by p deepest ks F row.GetlineVarFile (y, tt) τ in
      let l2 = with_at a1.next (Hand t) empty in
      let f1 = fit_less p deepest ks F t u w l2 τ (upd_same a1.next.hand t empty) (fit_hand p deepest ks F t (suc t) u w a1.next τ empty (inl refl) (omega arith) a1.fit) in
      let f2 = fit_shared p deepest ks F t u w l2 τ τ1.shared (calm_after p row.GetlineVarFile (y, tt) τ.shared refl f1.sound.calm) f1 in
      first mach M 3 (work_of s + 44) (work_of s + 64) τ.turns c2 _ P Q _
      (goes_from a1.comes (then_goes (moved_out_ok b a1.next (Hand t) (Held y) (omega (arith, rm, r1)) a1.holds.0) (row_called p deepest ks F row.GetlineVarFile (y, tt) (Held y ∷ []) [] τ refl refl refl refl refl))) (omega arith)
      (then_settled mach M 4 (work_of s + 40) (work_of s + 44) _ τ1 (Put p deepest ks F b t u w (PrimitiveAnswer answer.Input) k4 K l2) P Q D.answer stored (omega arith)
      (kept_ok p deepest ks F b M true answer.Input D.answer t u w d k4 K l2 τ1 tt (omega (arith, rm, r1)) f2)
      (λ z c3 er1 put.
      let sm = same_then [] t t w w a.next l2 put.next (omega arith) (omega arith) (same_then [] t t w w a.next a1.next l2 (omega arith) (omega arith) (under_same [] t w a.next a1.next (under_keeps t t a.next a1.next (omega arith) a1.keeps)) (same_hand [] t w t a1.next empty (omega arith))) put.same in
      first mach M 0 (work_of s + 40) (work_of s + 40) τ1.turns c3 _ P Q (stored z τ1) (record { it = put.comes }) (omega arith)
      (weaker mach M (work_of s + 40) τ1.turns _ (Received p deepest ks F b M n s fs env ts st1 t u w k K put.next τ1) P Q Q (stored z τ1)
      (λ m τ2 c4 g. record {
        next = g.next;
        comes = g.comes;
        fit = g.fit;
        same = same_then ts t t w w l a.next g.next (omega arith) (omega arith) a.same (same_then ts t t w w a.next put.next g.next (omega arith) (omega arith) (same_any ts t w a.next put.next sm) g.same);
        own = λ i q. g.own i q ∙ a.own i q;
        kept = g.kept;
        stands = g.holds;
        meant = tt;
      })
      (λ why τ2 c4 q. q)
      (received_ok p deepest ks F b M n s fs env ts st1 t u w d k K put.next τ1 z
      (record {
        ok = oks;
        well = s3.1;
        keeps = s4.0;
        used = λ i lt. well_right (st1 i) (held_after (suc i) s (st1 i)) (us i lt);
        room_enough = omega (arith, rm);
        arrays_enough = omega (arith, ar);
        below = rd.below;
        kept = kept_same fs ts st1 a.next put.next env t rd.below (λ i h. sm.hands i h tt) sm.numbers a.kept;
        fit = put.fit;
        turns = omega (arith, le, rd.turns);
        parameters = rd.parameters;
        plain = rd.plain;
        walking = walking_same p deepest ks F b M n (loops_walked K) u l put.next (λ x. sm.iterators x ∙ a.same.iterators x) rd.walking;
        none = rd.none;
      })
      put.holds (line_after τ.shared (getline_line_file_row y τ.shared.outside τ.shared.inner) z (file_line_there y τ.shared.outside τ.shared.inner) er1))))))))
