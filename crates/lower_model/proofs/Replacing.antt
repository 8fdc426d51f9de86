-- A substitution: its text goes into a variable, where anything was replaced.
use Rattle.std.proofs.Common.{◌≡◌, ℕ, suc, ◌+◌, Bool, true, false, List, [], ◌∷◌, Result, Ok, Err, refl, sym, ap₂, ◌∙◌, subst, true≢false, arith}
use Rattle.std.specs.Prelude.{is_some, ◌&&◌}
use Rattle.std.proofs.lemmas.Bool.{and_parts}
use Rattle.awk_values.specs.declared.fault.Fault.{Fault}
use Rattle.sem_primitives.specs.ConstantNumbers.{flag_number}
use Rattle.sem_primitives.specs.Numbers.{Number}
use Rattle.sem_primitives.specs.SharedState.{Inner, Shared, settles}
use Rattle.sem_primitives.specs.Sorts.{Row}
use Rattle.sem_primitives.specs.Table.{arguments_of, meaning}
use Rattle.sem_primitives.specs.TextMeaning.{substitute_row}
use Rattle.sem_primitives.specs.declared.sorts.Argument.TheVariants as argument
use Rattle.sem_primitives.specs.declared.sorts.Constant.TheVariants as constant
use Rattle.sem_primitives.specs.declared.sorts.Sort.TheVariants as sort
use Rattle.sem_primitives.specs.declared.table.Primitive.TheVariants as row
use Rattle.sem_primitives.proofs.Words.{constant_again}
use Rattle.wasm_types.specs.Syntax.{Done as NoMore}
use Rattle.wasm_types.specs.declared.types.ValType.TheVariants as ty
use Rattle.wasm_types.specs.declared.instr.ITestOp.TheVariants.{Eqz}
use Rattle.wasm_types.specs.declared.instr.Simple.TheVariants.{LocalGet, Test}
use Rattle.mid_program.specs.Mid.{Kind, Program, Form, a_value, a_number, Code, Replace, Codes, End, At, Fixed, Fresh, form_of}
use Rattle.mid_program.specs.MidMeaning.{evaluated, all_evaluated, three_values, when_replaced}
use Rattle.sem_scripts.specs.ScriptState.{go_on, call}
use Rattle.mid_program.specs.Sorted.{Held as Standing, sorted, all_sorted, held_after, held_after_all, fits, fit_row, is_constant, keeps_well, is_dropped, stores_well}
use Rattle.lower_model.specs.Emission.{emitted, all_emitted, text_kept, text_let_go}
use Rattle.lower_model.specs.Machine.{Frame, loops_walked}
use Rattle.lower_model.specs.Places.{Bases, number_local}
use Rattle.lower_model.specs.Small.{emit as do_it, emit_if}
use Rattle.lower_model.proofs.Observer.{Observer}
use Rattle.lower_model.proofs.Runs.{first, then_settled, weaker}
use Rattle.lower_model.proofs.Relation.{kept_same, same_then, Away}
use Rattle.lower_model.proofs.Answers.{machine, done_by, Put}
use Rattle.lower_model.proofs.HostCalls.{row_then, host_asked}
use Rattle.lower_model.proofs.InputLaws.{TextThere, text_there}
use Rattle.lower_model.proofs.Choosing.{well_left, well_right}
use Rattle.lower_model.proofs.Receiving.{same_any, Received, storing_meant, replaced_ok}
use Rattle.lower_model.proofs.Simulation.{work_of, layout, context, Done, ExprOk, CodesOk, walking_same}

-- once a row answered how many were replaced, the text is there
text_after : (s : Shared) (r : Result (Inner × Number) Fault) (x : Number) → TextThere r → (settles s r).answer ≡ Ok x → is_some (settles s r).inner.substituted ≡ true
text_after s (Ok y) x h e = h
text_after s (Err f) x h e = cc

-- a row of three values

record Three (es : Codes) : Type 0 where
  first : Code
  second : Code
  third : Code
  it : es ≡ At first (At second (At third End))

none_there : {A : Type 0} → false ≡ true → A
none_there h = absurd (true≢false (sym h))

last_there : (fs : List Form) (e e1 : Code) (es : Codes) → fit_row fs (argument.Of sort.Value ∷ []) es ≡ true → Three (At e (At e1 es))
last_there fs e e1 (At e2 End) h = record { first = e; second = e1; third = e2; it = refl }
last_there fs e e1 (At e2 (At e3 es)) h = none_there (and_parts (fits (form_of fs e2) sort.Value) false h).1
last_there fs e e1 (At e2 (Fixed m es)) h = none_there (and_parts (fits (form_of fs e2) sort.Value) false h).1
last_there fs e e1 (At e2 (Fresh es)) h = none_there (and_parts (fits (form_of fs e2) sort.Value) false h).1
last_there fs e e1 End h = none_there h
last_there fs e e1 (Fixed m es) h = none_there h
last_there fs e e1 (Fresh es) h = none_there h

next_there : (fs : List Form) (e : Code) (es : Codes) → fit_row fs (argument.Of sort.Value ∷ (argument.Of sort.Value ∷ [])) es ≡ true → Three (At e es)
next_there fs e (At e1 es) h = last_there fs e e1 es (and_parts (fits (form_of fs e1) sort.Value) (fit_row fs (argument.Of sort.Value ∷ []) es) h).1
next_there fs e End h = none_there h
next_there fs e (Fixed m es) h = none_there h
next_there fs e (Fresh es) h = none_there h

three_there : (fs : List Form) (es : Codes) → fit_row fs three_values es ≡ true → Three es
three_there fs (At e es) h = next_there fs e es (and_parts (fits (form_of fs e) sort.Value) (fit_row fs (argument.Of sort.Value ∷ (argument.Of sort.Value ∷ [])) es) h).1
three_there fs End h = none_there h
three_there fs (Fixed m es) h = none_there h
three_there fs (Fresh es) h = none_there h

module _ (p : Program) (deepest : Observer) (ks : List Kind) (F : List Frame) (b : Bases) (M n : ℕ) where
  flag_constant : (all : Bool) → is_constant constant.Flag (flag_number all) ≡ true
  flag_constant true = refl
  flag_constant false = refl

  replace_three : (all : Bool) (e e1 e2 s : Code) → CodesOk p deepest ks F b M n (At e (At e1 (At e2 End))) → ExprOk p deepest ks F b M n s → ExprOk p deepest ks F b M n (Replace all (At e (At e1 (At e2 End))) s)
  unfolding emitted all_emitted evaluated all_evaluated sorted all_sorted
  replace_three all e e1 e2 s oke oks v fs env ts st t u w d k K l σ so us rm ar rd =
      let es : Codes = At e (At e1 (At e2 End)) in
      let es1 : Codes = At e (At e1 (At e2 (Fixed (flag_number all) End))) in
      let mach = machine p deepest ks F in
      let ctx = context p deepest ks F b M n in
      let lay = layout p deepest ks F b M n in
      let Q = Away p deepest ks F b d K in
      let P = Done p deepest ks F b M n v (Replace all es s) fs env ts st t u w k K l σ in
      let st1 : ℕ → Standing = λ i. held_after_all i es (st i) in
      let s1 = and_parts (fit_row fs three_values es) (all_sorted ctx fs es && (stores_well fs s && sorted ctx (a_value ∷ fs) s)) so in
      let s2 = and_parts (all_sorted ctx fs es) (stores_well fs s && sorted ctx (a_value ∷ fs) s) s1.1 in
      let s3 = and_parts (stores_well fs s) (sorted ctx (a_value ∷ fs) s) s2.1 in
      let s4 = and_parts (keeps_well s) (is_dropped (form_of (a_value ∷ fs) s)) s3.0 in
      let p1 = and_parts (fits (form_of fs e) sort.Value) (fits (form_of fs e1) sort.Value && (fits (form_of fs e2) sort.Value && true)) s1.0 in
      let p2 = and_parts (fits (form_of fs e1) sort.Value) (fits (form_of fs e2) sort.Value && true) p1.1 in
      let p3 = and_parts (fits (form_of fs e2) sort.Value) true p2.1 in
      let fr : fit_row fs (arguments_of row.Sub) es1 ≡ true = ap₂ (λ x y. x && y) p1.0 (ap₂ (λ x y. x && y) p2.0 (ap₂ (λ x y. x && (y && true)) p3.0 (flag_constant all))) in
      let block = text_kept lay row.SubResult t (emitted lay true (a_value ∷ fs) (suc t ∷ ts) s (suc (suc t)) w (suc d) (text_let_go lay fs s t NoMore)) in
      let k4 = do_it (LocalGet (number_local b t)) (do_it (Test ty.I64 Eqz) (emit_if NoMore block k)) in
      let stored = when_replaced (storing_meant p deepest ks F b M n s fs env) in
      row_then p deepest ks F b M n three_values es oke fs env ts st t u w d _ K l σ (work_of s + 41) (work_of (Replace all es s)) P (λ r τ. go_on (call row.Sub (r.0, (r.1.0, (r.1.1.0, (all, tt)))) τ) stored)
      s1.0 s2.0 (λ i lt. well_left (st1 i) (held_after (suc i) s (st1 i)) (us i lt)) (omega (arith, rm)) (omega (arith, ar)) rd (omega arith)
      (λ r τ c le a.
      let r1 : Row (arguments_of row.Sub) = (r.0, (r.1.0, (r.1.1.0, (all, tt)))) in
      let D = meaning row.Sub r1 τ.shared in
      let τ1 = done_by p deepest ks F row.Sub r1 τ in
      let q = a.row in
      first mach M 0 (work_of s + 41) (work_of s + 41) τ.turns c _ P Q _ (record { it = a.comes }) (omega arith)
      (then_settled mach M 11 (work_of s + 30) (work_of s + 41) _ τ1 (Put p deepest ks F b t u w a_number k4 K a.next) P Q D.answer stored (omega arith)
      (host_asked p deepest ks F b M n row.Sub es1 fs t u w d k4 K a.next τ r1 refl refl refl tt fr rd.parameters (omega (arith, rm)) (omega (arith, rm)) a.fit (q.0, q.1, (q.2.0, q.2.1, (q.2.2.0, q.2.2.1, (constant_again constant.Flag all, tt)))))
      (λ z c3 er put.
      first mach M 0 (work_of s + 30) (work_of s + 30) τ1.turns c3 _ P Q (stored z τ1) (record { it = put.comes }) (omega arith)
      (weaker mach M (work_of s + 30) τ1.turns _ (Received p deepest ks F b M n s fs env ts st1 t u w k K put.next τ1) P Q Q (stored z τ1)
      (λ m τ2 c4 g. record {
        next = g.next;
        comes = g.comes;
        fit = g.fit;
        same = same_then ts t t w w l a.next g.next (omega arith) (omega arith) a.same (same_then ts t t w w a.next put.next g.next (omega arith) (omega arith) (same_any ts t w a.next put.next put.same) g.same);
        own = λ i h. g.own i h ∙ a.own i h;
        kept = g.kept;
        stands = g.holds;
        meant = tt;
      })
      (λ why τ2 c4 h. h)
      (replaced_ok p deepest ks F b M n s fs env ts st1 t u w d k K put.next τ1 z
      (record {
        ok = oks;
        well = s3.1;
        keeps = s4.0;
        used = λ i lt. well_right (st1 i) (held_after (suc i) s (st1 i)) (us i lt);
        room_enough = omega (arith, rm);
        arrays_enough = omega (arith, ar);
        below = rd.below;
        kept = kept_same fs ts st1 a.next put.next env t rd.below (λ i h. put.same.hands i h tt) put.same.numbers a.kept;
        fit = put.fit;
        turns = omega (arith, le, rd.turns);
        parameters = rd.parameters;
        plain = rd.plain;
        walking = walking_same p deepest ks F b M n (loops_walked K) u l put.next (λ x. put.same.iterators x ∙ a.same.iterators x) rd.walking;
        none = rd.none;
      })
      put.holds (text_after τ.shared (substitute_row r.0 r.1.0 r.1.1.0 all τ.shared.inner) z (text_there r.0 r.1.0 r.1.1.0 all τ.shared.inner) er))))))

  pub replace_expr : (all : Bool) (es : Codes) (s : Code) → CodesOk p deepest ks F b M n es → ExprOk p deepest ks F b M n s → ExprOk p deepest ks F b M n (Replace all es s)
  unfolding sorted all_sorted
  replace_expr all es s oke oks v fs env ts st t u w d k K l σ so us rm ar rd =
      let s1 = and_parts (fit_row fs three_values es) (all_sorted (context p deepest ks F b M n) fs es && (stores_well fs s && sorted (context p deepest ks F b M n) (a_value ∷ fs) s)) so in
      let x = three_there fs es s1.0 in
      subst (λ cs. CodesOk p deepest ks F b M n cs → ExprOk p deepest ks F b M n (Replace all cs s)) (sym x.it) (λ ok. replace_three all x.first x.second x.third s ok oks) oke v fs env ts st t u w d k K l σ so us rm ar rd
