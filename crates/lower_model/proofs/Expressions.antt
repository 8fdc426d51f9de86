-- Expressions, construct by construct: each does what it means if its parts do.
use Rattle.std.proofs.Common.{◌≡◌, ℕ, ◌+◌, ◌^◌, Bool, true, false, List, [], Option, None, refl, sym, ap, subst, arith, w64, T, unsigned_abs, nat_le}
use Rattle.std.specs.Prelude.{◌&&◌, ℤ}
use Rattle.std.specs.Int.{cast_unsigned}
use Rattle.std.proofs.lemmas.Bool.{and_parts}
use Rattle.sem_primitives.specs.Numbers.{number_of, number_word}
use Rattle.sem_primitives.specs.Table.{arguments_of, answer_of, can_fault, meaning}
use Rattle.sem_primitives.specs.declared.table.Primitive.{Primitive}
use Rattle.sem_primitives.proofs.Words.{number_again}
use Rattle.wasm_types.specs.Syntax.{Instructions}
use Rattle.mid_program.specs.declared.mid.Operation.TheVariants.{Host}
use Rattle.mid_program.specs.Mid.{Kind, Program, Form, PrimitiveAnswer, Code, Do, Codes, form_of}
use Rattle.mid_program.specs.MidMeaning.{Holds, Env, evaluated, all_evaluated, or_zero}
use Rattle.sem_scripts.specs.ScriptState.{State, call, or_fault}
use Rattle.mid_program.specs.Sorted.{Held as Standing, sorted, all_sorted, held_after, is_operation, fit_row}
use Rattle.lower_model.specs.Emission.{array_meant, emitted, all_emitted, all_converted, performed, field_in, field_or}
use Rattle.lower_model.specs.Machine.{Conf, Label, Frame, at}
use Rattle.lower_model.specs.Places.{Bases}
use Rattle.lower_model.specs.Small.{kept}
use Rattle.lower_model.proofs.Observer.{Observer}
use Rattle.lower_model.proofs.Runs.{first, weaker_settled}
use Rattle.lower_model.proofs.Locals.{Locals, laid}
use Rattle.lower_model.proofs.Relation.{Meant, Kept, kept_same, Below, Same, same_then, SameOwn, Away}
use Rattle.lower_model.proofs.Answers.{machine, beside_state, done_by, Put, Reached}
use Rattle.lower_model.proofs.Simulation.{work_of, past_room, gives_away, StandsAt, context, layout, meant, Done, ExprOk, CodesOk}
use Rattle.lower_model.proofs.Arguments.{push_work}
use Rattle.lower_model.proofs.HostCalls.{operation_takes, operation_in_turn, operation_quiet, operation_plain, extra_enough, plain_meant, row_then, host_asked}

-- a constant's word
pub constant_word : (z : ℤ) → nat_le (unsigned_abs z) (2 ^ 53) ≡ true → number_word (or_zero (number_of z)) ≡ cast_unsigned w64 z
constant_word z e = ap (λ o. number_word (or_zero o)) (number_again (record { number = z; in_range = subst T (sym e) tt }))

module _ (p : Program) (deepest : Observer) (ks : List Kind) (F : List Frame) (b : Bases) (M n : ℕ) where
  -- nothing but temporary t was touched
  pub put_done : (e : Code) (v : Bool) (fs : List Form) (env : Env fs) (ts : List ℕ) (st : ℕ → Standing) (t u w : ℕ) (k : Instructions) (K : List Label) (l0 l : Locals) (σ σ1 : State) (x : Holds (form_of fs e)) (c : Conf) →
      Below t ts → Same ts t w l0 l → SameOwn p deepest ks F σ σ1 → Kept fs ts (λ i. held_after i e (st i)) l env → gives_away e v ≡ false → Meant p deepest ks F (form_of fs e) x (array_meant e) σ1 → Put p deepest ks F b t u w (form_of fs e) k K l x σ1 c →
      Done p deepest ks F b M n v e fs env ts st t u w k K l0 σ x σ1 c
  put_done e v fs env ts st t u w k K l0 l σ σ1 x c bl same own kept ga m a = record {
    next = a.next;
    comes = a.comes;
    fit = a.fit;
    same = same_then ts t t w w l0 l a.next (omega arith) (omega arith) same (record { hands = λ y h o. a.same.hands y h tt; numbers = a.same.numbers; iterators = a.same.iterators; arrays = a.same.arrays });
    own = own;
    kept = kept_same fs ts (λ i. held_after i e (st i)) l a.next env t bl (λ y h. a.same.hands y h tt) a.same.numbers kept;
    stands = subst (λ g. StandsAt g (form_of fs e) t a.next x) (sym ga) a.holds;
    meant = m;
  }

  -- an operation of the host, if it is not the reading of a field whose number is a constant
  pub host_expr : (q : Primitive) (es : Codes) → CodesOk p deepest ks F b M n es → field_in (Host q) es ≡ None → ExprOk p deepest ks F b M n (Do (Host q) es)
  unfolding emitted all_emitted evaluated all_evaluated sorted all_sorted
  host_expr q es ok none v fs env ts st t u w d k K l σ so us rm ar rd =
      let y = layout p deepest ks F b M n in
      let s1 = and_parts (is_operation q) (fit_row fs (arguments_of q) es && all_sorted (context p deepest ks F b M n) fs es) so in
      let s2 = and_parts (fit_row fs (arguments_of q) es) (all_sorted (context p deepest ks F b M n) fs es) s1.1 in
      let ee = extra_enough es in
      let pr = past_room t es in
      let P = Done p deepest ks F b M n v (Do (Host q) es) fs env ts st t u w k K l σ in
      let Q = Away p deepest ks F b d K in
      let A = all_emitted y fs ts es t w d (all_converted y fs (arguments_of q) es t d (performed y (Host q) es t d k)) in
      subst (λ (o : Option ℤ). Reached p deepest ks F b M (work_of (Do (Host q) es)) σ.turns (at ks [] K (laid b l) F (field_or y o t k A) (beside_state p deepest ks F σ)) P Q (meant p deepest ks F b M n fs env (Do (Host q) es) σ)) (sym none)
      (row_then p deepest ks F b M n (arguments_of q) es ok fs env ts st t u w d _ K l σ (push_work es + 5) (work_of (Do (Host q) es)) P (λ r. call q r)
      s2.0 s2.1 us (omega (arith, rm)) ar rd (omega (arith, ee))
      (λ r τ c le a.
      first (machine p deepest ks F) M 0 (push_work es + 5) (push_work es + 5) τ.turns c _ P Q (call q r τ) (record { it = a.comes }) (omega arith)
      (weaker_settled (machine p deepest ks F) M (push_work es + 5) _ (done_by p deepest ks F q r τ) (Put p deepest ks F b t u w (PrimitiveAnswer (answer_of q)) k K a.next) P Q (or_fault (can_fault q) (meaning q r τ.shared).answer)
      (λ x c1 put. put_done (Do (Host q) es) v fs env ts st t u w k K l a.next σ (done_by p deepest ks F q r τ) x c1 rd.below a.same a.own a.kept refl (plain_meant p deepest ks F b M n (answer_of q) x (array_meant (Do (Host q) es)) (done_by p deepest ks F q r τ) (operation_plain q s1.0)) put)
      (host_asked p deepest ks F b M n q es fs t u w d k K a.next τ r (operation_takes q s1.0) (operation_in_turn q r τ.shared s1.0) (operation_quiet q s1.0) (operation_plain q s1.0) s2.0 rd.parameters (omega (arith, pr, rm)) (omega (arith, rm)) a.fit a.row))))
