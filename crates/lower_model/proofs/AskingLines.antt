-- A record of the main input, or a line of it that goes into a variable.
use Rattle.std.proofs.Common.{ℕ, suc, ◌+◌, ◌≤◌, true, List, ◌∷◌, Ok, refl, ◌∙◌, arith, ◌≡◌}
use Rattle.std.proofs.lemmas.Bool.{and_parts, not-true}
use Rattle.sem_primitives.specs.declared.sorts.Answer.TheVariants as answer
use Rattle.sem_primitives.specs.declared.sorts.Sort.TheVariants as sort
use Rattle.sem_primitives.specs.declared.table.Primitive.TheVariants as row
use Rattle.wasm_types.specs.Syntax.{Done as NoMore}
use Rattle.sem_scripts.specs.Meaning.{asked}
use Rattle.mid_program.specs.Mid.{Kind, Program, PrimitiveAnswer, a_value, a_number, Code, Ask, AskLine, form_of}
use Rattle.mid_program.specs.MidMeaning.{evaluated, all_evaluated, when_read}
use Rattle.sem_scripts.specs.ScriptState.{give, asks}
use Rattle.mid_program.specs.Sorted.{sorted, all_sorted, held_after, keeps_well, is_dropped, stores_well, has_kind, lender_at, has_lender}
use Rattle.sem_scripts.specs.Steps.{input_number}
use Rattle.lower_model.specs.Emission.{emitted, all_emitted, text_kept, text_let_go}
use Rattle.lower_model.specs.Machine.{Frame, loops_walked}
use Rattle.lower_model.specs.Places.{Bases, number_local}
use Rattle.lower_model.specs.Small.{number_is, when, code_number}
use Rattle.lower_model.proofs.Observer.{Observer}
use Rattle.lower_model.proofs.Runs.{by_steps, first, then_on, weaker, weaker_settled}
use Rattle.lower_model.proofs.Relation.{kept_same, same_then, Away}
use Rattle.lower_model.proofs.Answers.{machine}
use Rattle.lower_model.proofs.Converting.{Converted, converted_ok}
use Rattle.lower_model.proofs.Arguments.{under_same, under_keeps}
use Rattle.lower_model.proofs.Choosing.{well_right}
use Rattle.lower_model.proofs.Asking.{assign_work, Asked, asked_ok, asks_record, asks_line}
use Rattle.lower_model.proofs.Receiving.{same_any, Received, storing_meant, received_ok}
use Rattle.lower_model.proofs.Simulation.{work_of, layout, context, Done, ExprOk, walking_same}
use Rattle.mid_program.proofs.Lenders.{no_lender_at}
use Rattle.std.specs.Prelude.{◌&&◌, not}

module _ (p : Program) (deepest : Observer) (ks : List Kind) (F : List Frame) (b : Bases) (M n : ℕ) where
  pub ask_expr : assign_work p deepest ks F b M n ≤ M → ExprOk p deepest ks F b M n Ask
  unfolding emitted all_emitted evaluated all_evaluated sorted all_sorted
  ask_expr enough v fs env ts st t u w d k K l σ so us rm ar rd =
      let mach = machine p deepest ks F in
      let Q = Away p deepest ks F b d K in
      let P = Done p deepest ks F b M n v Ask fs env ts st t u w k K l σ in
      let k1 = code_number b t k in
      let a = asks_record p deepest ks F b M n in
      let none = λ (i : ℕ) (x : Kind) (h : has_kind ks i x ≡ true). no_lender_at p.lenders (not-true (has_lender p.lenders) so) i in
      first mach M 1 26 60 σ.turns _ _ P Q _ (by_steps 1 refl) (omega arith)
      (then_on mach M 10 16 26 σ.turns _ (Asked p deepest ks F b M n a.reads t u w k1 K l σ) P Q (asked n (asks row.Getline tt) σ) (λ x. give (input_number x)) (omega arith)
      (asked_ok p deepest ks F b M n a enough none n t u w d k1 K l σ (omega (arith, rm)) rd.fit rd.turns)
      (λ x τ c1 le g.
      first mach M 0 16 16 τ.turns c1 _ P Q (give (input_number x) τ) (record { it = g.comes }) (omega arith)
      (weaker_settled mach M 16 _ τ (Converted p deepest ks F b M (suc t) u w t a_number k K g.next) P Q (Ok (input_number x))
      (λ y c2 z.
      let sm = same_then ts t t w w l g.next z.next (omega arith) (omega arith) (same_any ts t w l g.next g.same) (under_same ts t w g.next z.next (under_keeps t t g.next z.next (omega arith) z.keeps)) in
      record {
        next = z.next;
        comes = z.comes;
        fit = z.fit;
        same = sm;
        own = g.own;
        kept = kept_same fs ts st l z.next env t rd.below (λ i h. z.keeps.hands i (λ e. omega (arith, e, h)) ∙ g.same.hands i h tt) (λ i h. z.keeps.numbers i (λ e. omega (arith, e, h)) ∙ g.same.numbers i h) rd.kept;
        stands = z.holds;
        meant = tt;
      })
      (converted_ok p deepest ks F b M (PrimitiveAnswer answer.Input) sort.Number x (suc t) u w t d k K g.next τ refl (omega arith) (omega (arith, rm)) g.fit g.holds))))

  pub ask_line_expr : assign_work p deepest ks F b M n ≤ M → (s : Code) → ExprOk p deepest ks F b M n s → ExprOk p deepest ks F b M n (AskLine s)
  unfolding emitted all_emitted evaluated all_evaluated sorted all_sorted
  ask_line_expr enough s oks v fs env ts st t u w d k K l σ so us rm ar rd =
      let mach = machine p deepest ks F in
      let lay = layout p deepest ks F b M n in
      let Q = Away p deepest ks F b d K in
      let P = Done p deepest ks F b M n v (AskLine s) fs env ts st t u w k K l σ in
      let s0 = and_parts (not (has_lender p.lenders)) (stores_well fs s && sorted (context p deepest ks F b M n) (a_value ∷ fs) s) so in
      let none = λ (i : ℕ) (x : Kind) (h : has_kind ks i x ≡ true). no_lender_at p.lenders (not-true (has_lender p.lenders) s0.0) i in
      let s1 = and_parts (stores_well fs s) (sorted (context p deepest ks F b M n) (a_value ∷ fs) s) s0.1 in
      let s2 = and_parts (keeps_well s) (is_dropped (form_of (a_value ∷ fs) s)) s1.0 in
      let block = text_kept lay row.Line t (emitted lay true (a_value ∷ fs) (suc t ∷ ts) s (suc (suc t)) w (suc d) (text_let_go lay fs s t NoMore)) in
      let k1 = number_is (number_local b t) 1 (when block (code_number b t k)) in
      let a = asks_line p deepest ks F b M n in
      let stored = when_read (storing_meant p deepest ks F b M n s fs env) in
      first mach M 1 (work_of s + 50) (work_of (AskLine s)) σ.turns _ _ P Q _ (by_steps 1 refl) (omega arith)
      (then_on mach M 10 (work_of s + 40) (work_of s + 50) σ.turns _ (Asked p deepest ks F b M n a.reads t u w k1 K l σ) P Q (asked n (asks row.GetlineVar tt) σ) stored (omega arith)
      (asked_ok p deepest ks F b M n a enough none n t u w d k1 K l σ (omega (arith, rm)) rd.fit rd.turns)
      (λ x τ c1 le g.
      first mach M 0 (work_of s + 40) (work_of s + 40) τ.turns c1 _ P Q (stored x τ) (record { it = g.comes }) (omega arith)
      (weaker mach M (work_of s + 40) τ.turns _ (Received p deepest ks F b M n s fs env ts st t u w k K g.next τ) P Q Q (stored x τ)
      (λ y τ1 c2 z. record {
        next = z.next;
        comes = z.comes;
        fit = z.fit;
        same = same_then ts t t w w l g.next z.next (omega arith) (omega arith) (same_any ts t w l g.next g.same) z.same;
        own = λ i h. z.own i h ∙ g.own i h;
        kept = z.kept;
        stands = z.holds;
        meant = tt;
      })
      (λ why τ1 c2 h. h)
      (received_ok p deepest ks F b M n s fs env ts st t u w d k K g.next τ x
      (record {
        ok = oks;
        well = s1.1;
        keeps = s2.0;
        used = λ i lt. well_right (st i) (held_after (suc i) s (st i)) (us i lt);
        room_enough = omega (arith, rm);
        arrays_enough = ar;
        below = rd.below;
        kept = kept_same fs ts st l g.next env t rd.below (λ i h. g.same.hands i h tt) g.same.numbers rd.kept;
        fit = g.fit;
        turns = omega (arith, le, rd.turns);
        parameters = rd.parameters;
        plain = rd.plain;
        walking = walking_same p deepest ks F b M n (loops_walked K) u l g.next (λ x. g.same.iterators x) rd.walking;
        none = rd.none;
      })
      g.holds g.line))))
