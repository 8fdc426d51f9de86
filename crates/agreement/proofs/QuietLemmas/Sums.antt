-- A number statement, from its beginning: its expression comes to its temporary, each name's number converted,
-- and the target takes it. No call is reached but the one that keeps a fault.
use Rattle.std.proofs.Common.{◌≡◌, ◌≢◌, ℕ, zero, suc, ◌<◌, ◌≤◌, Bool, true, false, List, [], ◌∷◌, length, Option, Some, None, refl, sym, ap, ◌∙◌, subst, arith}
use Rattle.std.specs.Prelude.{nat_lt, slice_get, slice_set}
use Rattle.std.proofs.lemmas.Bool.{ltb-true}
use Rattle.sem_primitives.specs.declared.sorts.Sort.TheVariants as sort
use Rattle.sem_primitives.specs.declared.sorts.Answer.TheVariants as answer
use Rattle.wasm_types.specs.Syntax.{Instructions}
use Rattle.wasm_types.specs.declared.instr.IBinOp.TheVariants.{Add, Sub}
use Rattle.wasm_store.specs.declared.word.Word.{Word}
use Rattle.wasm_store.specs.declared.word.Word.TheVariants.{I64}
use Rattle.wasm_model.specs.Frames.{LabelForm}
use Rattle.wasm_model.specs.Machines.{Conf, ProgramForm}
use Rattle.mid_program.specs.declared.mid.Arithmetic.{Arithmetic}
use Rattle.mid_program.specs.declared.mid.Arithmetic.TheVariants as inline
use Rattle.mid_program.specs.Mid.{PrimitiveAnswer, NumberOrText, Code, Form, Global, Parameter, Slot, form_of}
use Rattle.lower_model.specs.Arithmetic.{calculated}
use Rattle.lower_model.specs.Emission.{Layout, emitted, all_emitted, added, added_or, parameter_read, slot_read, slot_set}
use Rattle.lower_model.specs.Places.{Bases, handle_local, number_global, number_local}
use Rattle.lower_model.specs.Quick.{Addition, addition_names, addition_of, source_in}
use Rattle.lower_model.specs.Small.{text_beside, to_number}
use Rattle.agreement.proofs.RefinedLemmas.StoredCells.{set_there}
use Rattle.agreement.specs.Quiet.Sums.{HasNoText, IsSum, IsSumOperator, constant, itself, joined, name}
use Rattle.agreement.proofs.QuietLemmas.Sources.{all_flows, source_flows}
use Rattle.agreement.proofs.QuietLemmas.Flowing.{Flows, binary, block, branch, compare, const64, ended, get, get_global, set, set_global, tee}
use Rattle.agreement.proofs.QuietLemmas.Parts.{Faults, equal_word, no_mark_flows, number_is_flows, ranged_flows, times_flows}

-- Locals that stay.

set_other : (L : List Word) (x z : ℕ) (w : Word) → z ≢ x → slice_get (slice_set L x w) z ≡ slice_get L z
set_other [] x z w h = refl
set_other (l ∷ L) zero zero w h = absurd (h refl)
set_other (l ∷ L) zero (suc z) w h = refl
set_other (l ∷ L) (suc x) zero w h = refl
set_other (l ∷ L) (suc x) (suc z) w h = set_other L x z w (λ e. h (ap suc e))

-- all but one
record Others (x : ℕ) (L M : List Word) : Type 0 where
  it : (z : ℕ) → z ≢ x → slice_get M z ≡ slice_get L z

others_same : (x : ℕ) (L : List Word) → Others x L L
others_same x L = record { it = λ z h. refl }

others_set : (L : List Word) (x : ℕ) (w : Word) → Others x L (slice_set L x w)
others_set L x w = record { it = λ z h. set_other L x z w h }

module _ (b : Bases) where
  -- those before temporary t
  pub record Below (t : ℕ) (L M : List Word) : Type 0 where
    pub it : (z : ℕ) → z < handle_local b t → slice_get M z ≡ slice_get L z

  pub below_same : (t : ℕ) (L : List Word) → Below t L L
  below_same t L = record { it = λ z h. refl }

  below_then : (t : ℕ) {L M N : List Word} → Below t L M → Below t M N → Below t L N
  below_then t f g = record { it = λ z h. g.it z h ∙ f.it z h }

  below_less : (t : ℕ) {L M : List Word} → Below (suc t) L M → Below t L M
  below_less t f = record { it = λ z h. f.it z (omega (arith, h)) }

  below_first : (t : ℕ) {L M : List Word} → Below t L M → Below zero L M
  below_first t f = record { it = λ z h. f.it z (omega (arith, h)) }

  below_set : (t x : ℕ) (L : List Word) (w : Word) → handle_local b t ≤ x → Below t L (slice_set L x w)
  below_set t x L w h = record { it = λ z l. set_other L x z w (λ e. omega (arith, h, l, e)) }

  below_others : (t : ℕ) {L M : List Word} → Others (number_local b t) L M → Below t L M
  below_others t f = record { it = λ z l. f.it z (λ e. omega (arith, l, e)) }

  -- A temporary has a number of this form, and a name's number is not the one that says that a text stands beside it.
  abbrev pub Ready : Form → ℕ → List Word → Type 0
  Ready (PrimitiveAnswer (answer.Of sort.Number)) t L = Unit {0}
  Ready NumberOrText t L = slice_get L (number_local b t) ≢ Some (I64 text_beside)
  Ready _ t L = ⊥

  ready_same : (f : Form) (t : ℕ) (L M : List Word) → slice_get M (number_local b t) ≡ slice_get L (number_local b t) → Ready f t L → Ready f t M
  ready_same (PrimitiveAnswer (answer.Of sort.Number)) t L M e h = tt
  ready_same NumberOrText t L M e h = λ q. h (sym e ∙ q)
  ready_same _ t L M e h = absurd h

module _ (m : ProgramForm) (P : Conf → Type 0) (bs : List Bool) (base : Conf) (fault : Faults m P bs base) (y : Layout) where
  abbrev b : Bases
  b = y.bases

  abbrev To : List LabelForm → List Word → List Word → Instructions → Type 0
  To K gs L code = Flows m P bs base K gs L [] code

  to_number_flows : {K : List LabelForm} {gs : List Word} {k : Instructions} (f : Form) (t d : ℕ) (L : List Word) → Ready b f t L →
      ((M : List Word) → Others (number_local b t) L M → To K gs M k) → To K gs L (to_number b f t d k)
  to_number_flows (PrimitiveAnswer (answer.Of sort.Number)) t d L r next = next L (others_same (number_local b t) L)
  to_number_flows NumberOrText t d L r next =
      get (λ w v. const64 (compare (λ w1 v1. branch
      (λ j1 i1 z1. number_is_flows m P bs base (number_local b t) text_beside (λ w v e q. branch
      (λ j i z. absurd (r (e ∙ ap Some (equal_word w v text_beside j q i z))))
      (λ j i z. const64 (set (λ f. ended (ended (next (slice_set L (number_local b t) (I64 0)) (others_set L (number_local b t) (I64 0)))))))))
      (λ j1 i1 z1. ended (next L (others_same (number_local b t) L))))))
  to_number_flows _ t d L r next = absurd r

  calculated_flows : {K : List LabelForm} {gs : List Word} {k : Instructions} (o : Arithmetic) (t d : ℕ) (L : List Word) → IsSumOperator o →
      ((M : List Word) → Below b t L M → To K gs M k) → To K gs L (calculated b o t d k)
  calculated_flows inline.Plus t d L s next = ranged_flows m P bs base fault Add _ _ d (λ w. next _ (below_set b t (number_local b t) L w (omega arith)))
  calculated_flows inline.Minus t d L s next = ranged_flows m P bs base fault Sub _ _ d (λ w. next _ (below_set b t (number_local b t) L w (omega arith)))
  calculated_flows inline.Times t d L s next =
      times_flows m P bs base fault _ _ _ d (λ w. next _ (below_set b t (number_local b t) L w (omega arith))) (λ w v. next _ (below_then b t (below_set b t (number_local b (suc (suc t))) L w (omega arith))
      (below_set b t (number_local b t) (slice_set L (number_local b (suc (suc t))) w) v (omega arith))))
  calculated_flows inline.Over t d L s next = absurd s
  calculated_flows inline.Modulo t d L s next = absurd s
  calculated_flows inline.Truncated t d L s next = absurd s

  -- Names.

  -- what was put there is no such number
  pub put_ready : (L : List Word) (x : ℕ) (w : Word) → nat_lt x (length L) ≡ true → (Some w ≡ Some (I64 text_beside) → ⊥) →
      slice_get (slice_set L x w) x ≢ Some (I64 text_beside)
  put_ready L x w e h q = h (sym (set_there L x w (ltb-true x (length L) e)) ∙ q)

  read_flows : {K : List LabelForm} {k : Instructions} (x : Slot) (t : ℕ) (L : List Word) → HasNoText y.ranges y.lenders b base x →
      Below b zero base.frame.locals L →
      ((M : List Word) → Below b t L M → Ready b NumberOrText t M → To K base.globals M k) → To K base.globals L (slot_read y x t k)
  read_flows (Global true i) t L h bl next =
      get_global (λ w e. tee (λ f. no_mark_flows m P bs base _ (λ z. h.1 (e ∙ ap Some z))
      (next (slice_set L (number_local b t) w) (below_set b t (number_local b t) L w (omega arith)) (put_ready L (number_local b t) w f (λ z. h.1 (e ∙ z))))))
  read_flows {K = K} {k = k} (Parameter true i) t L h bl next =
      let l = h.0 in
      subst (λ (o : Option ℕ). To K base.globals L (parameter_read y o i t k)) (sym h.2)
      (get (λ w e. set (λ f. next (slice_set L (number_local b t) w) (below_set b t (number_local b t) L w (omega arith))
      (put_ready L (number_local b t) w f (λ z. h.1 (sym (bl.it i (omega (arith, l))) ∙ e ∙ z))))))
  read_flows (Global false i) t L h bl next = absurd h
  read_flows (Parameter false i) t L h bl next = absurd h

  pub set_flows : {K : List LabelForm} {gs L : List Word} {k : Instructions} (x : Slot) (f : Form) → HasNoText y.ranges y.lenders b base x → gs ≡ base.globals → Ready b f zero L →
      ((hs M : List Word) → To K hs M k) → To K gs L (slot_set y true x f zero k)
  set_flows (Global true i) (PrimitiveAnswer (answer.Of sort.Number)) h e ready next =
      get_global (λ w q. no_mark_flows m P bs base _ (λ z. h.1 (ap (λ g. slice_get g (number_global y.ranges i)) (sym e) ∙ q ∙ ap Some z))
      (get (λ v r. set_global (next _ _))))
  set_flows (Global true i) NumberOrText h e ready next =
      get_global (λ w q. no_mark_flows m P bs base _ (λ z. h.1 (ap (λ g. slice_get g (number_global y.ranges i)) (sym e) ∙ q ∙ ap Some z))
      (get (λ v r. no_mark_flows m P bs base _ (λ z. ready (r ∙ ap Some z)) (get (λ u s. set_global (next _ _))))))
  set_flows (Global true i) f h e ready next = absurd ready
  set_flows (Parameter true i) f h e ready next = get (λ w q. set (λ z. next _ _))
  set_flows (Global false i) f h e ready next = absurd h
  set_flows (Parameter false i) f h e ready next = absurd h

  -- Sums of sources: where their words are near 0 both are added, and elsewhere all cases are asked for.

  added_flows : {K : List LabelForm} {L : List Word} {k : Instructions} (q : Addition) (t : ℕ) → ((M : List Word) → Below b t L M → To K base.globals M k) →
      To K base.globals L (added y q t k)
  added_flows {L = L} q t next = source_flows y q.left (λ v. source_flows y q.right (λ u. binary (λ w. set (λ e. next _ (below_set b t (number_local b t) L w (omega arith))))))

  added_or_flows : {K : List LabelForm} {L : List Word} {anyway k other : Instructions} (o : Option Addition) (t : ℕ) → ((M : List Word) → Below b t L M → To K base.globals M k) →
      To (block bs [] k ∷ K) base.globals L anyway → To K base.globals L other → To K base.globals L (added_or y o t anyway k other)
  added_or_flows (Some q) t next a x = all_flows y (addition_names q) _ _ (λ v. branch (λ n e z. a) (λ n e z. added_flows q t (λ M f. ended (next M f))))
  added_or_flows None t next a x = x

  -- Expressions.

  -- code whose number comes to a temporary
  abbrev Comes : Code → (t d : ℕ) → List Word → Type 0
  Comes e t d L = (K : List LabelForm) (k : Instructions) → ((M : List Word) → Below b t L M → Ready b (form_of [] e) t M → To K base.globals M k) →
      To K base.globals L (emitted y false [] [] e t zero d k)

  -- two numbers come to theirs, and are added or multiplied there
  two_flows : {K : List LabelForm} {k : Instructions} (o : Arithmetic) (e f : Code) (t d : ℕ) (L : List Word) → IsSumOperator o → Below b zero base.frame.locals L →
      Comes e t d L → ((M : List Word) → Below b zero base.frame.locals M → Comes f (suc t) d M) → ((M : List Word) → Below b t L M → To K base.globals M k) →
      To K base.globals L (emitted y false [] [] e t zero d (emitted y false [] [] f (suc t) zero d (to_number b (form_of [] e) t d (to_number b (form_of [] f) (suc t) d (calculated b o t d k)))))
  two_flows o e f t d L s bl first second next =
      first _ _ (λ M1 b1 r1. second M1 (below_then b zero bl (below_first b t b1)) _ _ (λ M2 b2 r2.
      to_number_flows (form_of [] e) t d M2 (ready_same b (form_of [] e) t M1 M2 (b2.it (number_local b t) (omega arith)) r1) (λ M3 o3.
      to_number_flows (form_of [] f) (suc t) d M3
      (ready_same b (form_of [] f) (suc t) M2 M3 (o3.it (number_local b (suc t)) (λ z. omega (arith, z))) r2) (λ M4 o4.
      calculated_flows o t d M4 s (λ M5 b5. next M5
      (below_then b t b1 (below_then b t (below_less b t b2) (below_then b t (below_others b t o3)
      (below_then b t (below_less b t (below_others b (suc t) o4)) b5)))))))))

  pub sum_flows : (e : Code) (t d : ℕ) (L : List Word) {K : List LabelForm} {k : Instructions} → IsSum (HasNoText y.ranges y.lenders b base) e →
      Below b zero base.frame.locals L →
      ((M : List Word) → Below b t L M → Ready b (form_of [] e) t M → To K base.globals M k) → To K base.globals L (emitted y false [] [] e t zero d k)
  unfolding emitted all_emitted
  sum_flows _ t d L (constant z) bl next = const64 (set (λ f. next _ (below_set b t (number_local b t) L _ (omega arith)) tt))
  sum_flows _ t d L (name (Global true i) h) bl next = read_flows (Global true i) t L h bl next
  sum_flows _ t d L (name (Parameter true i) h) bl next = read_flows (Parameter true i) t L h bl next
  sum_flows _ t d L (name (Global false i) h) bl next = absurd h
  sum_flows _ t d L (name (Parameter false i) h) bl next = absurd h
  sum_flows _ t d L (joined o e f s p q) bl next =
      added_or_flows (addition_of o (source_in e) (source_in f)) t (λ M h. next M h tt)
      (two_flows o e f t (suc d) L s bl (λ K k. sum_flows e t (suc d) L p bl) (λ M z K k. sum_flows f (suc t) (suc d) M q z) (λ M h. ended (next M h tt)))
      (two_flows o e f t d L s bl (λ K k. sum_flows e t d L p bl) (λ M z K k. sum_flows f (suc t) d M q z) (λ M h. next M h tt))
  sum_flows _ t d L (itself e p) bl next =
      sum_flows e t d L p bl (λ M1 b1 r1. to_number_flows (form_of [] e) t d M1 r1 (λ M2 o2. next M2 (below_then b t b1 (below_others b t o2)) tt))
