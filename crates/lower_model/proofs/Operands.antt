-- Operands: one after another, then converted, then pushed as the words of a call.
use Rattle.std.proofs.Common.{◌≡◌, ℕ, suc, ◌<◌, ◌≤◌, Bool, true, false, List, refl, sym, ap, ◌∙◌, arith}
use Rattle.std.specs.Prelude.{if◌then◌else◌}
use Rattle.std.proofs.lemmas.Bool.{and_parts}
use Rattle.sem_primitives.specs.declared.sorts.Answer.TheVariants as answer
use Rattle.sem_primitives.specs.declared.sorts.Sort.TheVariants as sort
use Rattle.mid_program.specs.Mid.{Kind, Program, Form, PrimitiveAnswer, Code, Do, Over, Compare, Call, Ask, AskLine, FileLine, Replace, Number, Text, Unset, Get, Set, Array, IsOpen, Choose, Seq, Let, Bound, Codes, End, At, Fixed, Fresh, form_of}
use Rattle.mid_program.specs.MidMeaning.{Holds, Values, evaluated, all_evaluated}
use Rattle.sem_scripts.specs.Names.{ArrayName, Numbered, Given}
use Rattle.sem_scripts.specs.ScriptState.{State}
use Rattle.mid_program.specs.Sorted.{Held as Standing, There, Moved, Misused, used, either_way, same_number, sorted, all_sorted, held_after, held_after_all, is_well_used}
use Rattle.lower_model.specs.Emission.{array_meant, emitted, all_emitted}
use Rattle.lower_model.specs.Machine.{Frame, loops_walked}
use Rattle.lower_model.specs.Places.{Bases}
use Rattle.lower_model.proofs.Observer.{Observer}
use Rattle.lower_model.proofs.Runs.{stays, there, first, then_on, weaker}
use Rattle.lower_model.proofs.Locals.{Locals}
use Rattle.lower_model.proofs.Relation.{Meant, holds_same, outside_below, below_more, same_self, same_then, SameOwn, Away}
use Rattle.lower_model.proofs.Answers.{machine}
use Rattle.lower_model.proofs.Simulation.{work_of, works_of, past, made_past, past_from, made_from, room_one, still_stands, layout, context, meant, all_meant, Done, ExprOk, AllHeld, AllDone, CodesOk, walking_same}

used_misused : (m : Bool) → used m Misused ≡ Misused
used_misused true = refl
used_misused false = refl

either_misused : (t : Bool) (h : Standing) → h ≡ Misused → (if t then h else Misused) ≡ Misused
either_misused true h e = e
either_misused false h e = refl

-- what was used up stays so
mutual
  pub misused_stays : (i : ℕ) (e : Code) → held_after i e Misused ≡ Misused
  misused_stays i (Do o es) = all_misused_stays i es
  misused_stays i (Over l es) = all_misused_stays i es
  misused_stays i (Compare c a b) = ap (held_after i b) (misused_stays i a) ∙ misused_stays i b
  misused_stays i (Call f es) = all_misused_stays i es
  misused_stays i Ask = refl
  misused_stays i (AskLine s) = refl
  misused_stays i (FileLine e s) = ap (λ g. either_way g (held_after (suc i) s g)) (misused_stays i e)
  misused_stays i (Replace all es s) = ap (λ g. either_way g (held_after (suc i) s g)) (all_misused_stays i es)
  misused_stays i (Number z) = refl
  misused_stays i (Text t) = refl
  misused_stays i Unset = refl
  misused_stays i (Get x) = refl
  misused_stays i (Set x e) = misused_stays i e
  misused_stays i (Array a) = refl
  misused_stays i (IsOpen r) = refl
  misused_stays i (Choose s c a b) = ap (λ g. either_way (held_after i a g) (held_after i b g)) (misused_stays i c) ∙ ap (λ g. either_way g (held_after i b Misused)) (misused_stays i a)
  misused_stays i (Seq a b) = ap (held_after i b) (misused_stays i a) ∙ misused_stays i b
  misused_stays i (Let a b) = ap (held_after (suc i) b) (misused_stays i a) ∙ misused_stays (suc i) b
  misused_stays i (Bound m j) = either_misused (same_number i j) (used m Misused) (used_misused m)

  pub all_misused_stays : (i : ℕ) (es : Codes) → held_after_all i es Misused ≡ Misused
  all_misused_stays i End = refl
  all_misused_stays i (At e es) = ap (held_after_all i es) (misused_stays i e) ∙ all_misused_stays i es
  all_misused_stays i (Fixed m es) = all_misused_stays i es
  all_misused_stays i (Fresh es) = all_misused_stays i es

-- what is well used after code was well used before it
not_misused : (g h : Standing) → (g ≡ Misused → h ≡ Misused) → is_well_used h ≡ true → is_well_used g ≡ true
not_misused There h f e = refl
not_misused Moved h f e = refl
not_misused Misused h f e = sym (ap is_well_used (f refl)) ∙ e

pub well_before : (i : ℕ) (e : Code) (g : Standing) → is_well_used (held_after i e g) ≡ true → is_well_used g ≡ true
well_before i e g h = not_misused g (held_after i e g) (λ q. ap (held_after i e) q ∙ misused_stays i e) h

pub all_well_before : (i : ℕ) (es : Codes) (g : Standing) → is_well_used (held_after_all i es g) ≡ true → is_well_used g ≡ true
all_well_before i es g h = not_misused g (held_after_all i es g) (λ q. ap (held_after_all i es) q ∙ all_misused_stays i es) h

module _ (p : Program) (deepest : Observer) (ks : List Kind) (F : List Frame) (b : Bases) (M n : ℕ) where
  -- an array that a name stands for stays the same
  pub meant_same : (f : Form) (x : Holds f) (a : ArrayName) (σ σ1 : State) → SameOwn p deepest ks F σ σ1 → Meant p deepest ks F f x a σ → Meant p deepest ks F f x a σ1
  meant_same (PrimitiveAnswer (answer.Of sort.Array)) x (Numbered i) σ σ1 s q = q
  meant_same (PrimitiveAnswer (answer.Of sort.Array)) x (Given i) σ σ1 s q = (s i q.1 ∙ q.0, q.1)
  meant_same _ x a σ σ1 s q = tt

  -- operands that stand there stand there still
  pub all_held_same : (fs : List Form) (es : Codes) (t w : ℕ) (l l1 : Locals) (σ σ1 : State) (vs : Values fs es) → SameOwn p deepest ks F σ σ1 → ((x : ℕ) → t ≤ x → x < past t es → l1.hand x ≡ l.hand x) → ((x : ℕ) → t ≤ x → x < past t es → l1.number x ≡ l.number x) → ((x : ℕ) → w ≤ x → x < made_past w es → l1.array x ≡ l.array x) →
      AllHeld p deepest ks F b M n fs es t w l σ vs → AllHeld p deepest ks F b M n fs es t w l1 σ1 vs
  all_held_same fs End t w l l1 σ σ1 vs o h m a q = tt
  all_held_same fs (At e es) t w l l1 σ σ1 vs o h m a q =
      let r = past_from (suc t) es in (
        holds_same (form_of fs e) t l l1 vs.0 (h t (omega arith) (omega (arith, r))) (m t (omega arith) (omega (arith, r))) q.0,
        meant_same (form_of fs e) vs.0 (array_meant e) σ σ1 o q.1,
        all_held_same fs es (suc t) w l l1 σ σ1 vs.1 o (λ x le. h x (omega (arith, le))) (λ x le. m x (omega (arith, le))) a q.2,
      )
  all_held_same fs (Fixed c es) t w l l1 σ σ1 vs o h m a q = all_held_same fs es t w l l1 σ σ1 vs o h m a q
  all_held_same fs (Fresh es) t w l l1 σ σ1 vs o h m a q =
      let r = made_from (suc w) es in
      (a w (omega arith) (omega (arith, r)) ∙ q.0, all_held_same fs es t (suc w) l l1 σ σ1 vs.1 o h m (λ x le. a x (omega (arith, le))) q.1)

  -- Operands, one by one.

  pub codes_end : CodesOk p deepest ks F b M n End
  unfolding emitted all_emitted evaluated all_evaluated
  codes_end fs env ts st t u w d k K l σ so us rm ar r =
      there (machine p deepest ks F) M 0 0 _ _ tt σ (AllDone p deepest ks F b M n End fs env ts st t u w k K l σ) (Away p deepest ks F b d K) stays (omega arith)
      (record { next = l; comes = refl; fit = r.fit; same = same_self ts t w l; own = λ i h. refl; kept = r.kept; held = tt })

  pub codes_fixed : (m : ℕ) (es : Codes) → CodesOk p deepest ks F b M n es → CodesOk p deepest ks F b M n (Fixed m es)
  unfolding emitted all_emitted evaluated all_evaluated sorted all_sorted
  codes_fixed m es ok fs env ts st t u w d k K l σ so us rm ar r =
      weaker (machine p deepest ks F) M (works_of es) σ.turns _ (AllDone p deepest ks F b M n es fs env ts st t u w k K l σ) (AllDone p deepest ks F b M n (Fixed m es) fs env ts st t u w k K l σ) (Away p deepest ks F b d K) (Away p deepest ks F b d K) (all_meant p deepest ks F b M n fs env es σ)
      (λ vs τ c a. record { next = a.next; comes = a.comes; fit = a.fit; same = a.same; own = a.own; kept = a.kept; held = a.held }) (λ why τ c a. a)
      (ok fs env ts st t u w d k K l σ so us rm ar r)

  pub codes_at : (e : Code) (es : Codes) → ExprOk p deepest ks F b M n e → CodesOk p deepest ks F b M n es → CodesOk p deepest ks F b M n (At e es)
  unfolding emitted all_emitted evaluated all_evaluated sorted all_sorted
  codes_at e es ok oks fs env ts st t u w d k K l σ so us rm ar r =
      let mach = machine p deepest ks F in
      let s = and_parts (sorted (context p deepest ks F b M n) fs e) (all_sorted (context p deepest ks F b M n) fs es) so in
      let k1 = all_emitted (layout p deepest ks F b M n) fs ts es (suc t) w d k in
      let Q = Away p deepest ks F b d K in
      let P = AllDone p deepest ks F b M n (At e es) fs env ts st t u w k K l σ in
      let P1 = Done p deepest ks F b M n false e fs env ts st t u w k1 K l σ in
      let r1 = room_one e in
      then_on mach M (work_of e) (works_of es) (works_of (At e es)) σ.turns _ P1 P Q (meant p deepest ks F b M n fs env e σ) _ (omega arith)
      (ok false fs env ts st t u w d k1 K l σ s.0 (λ i lt. all_well_before i es (held_after i e (st i)) (us i lt)) (omega (arith, rm)) (omega (arith, ar)) r)
      (λ v τ c1 le a.
      let P2 = AllDone p deepest ks F b M n es fs env ts (λ i. held_after i e (st i)) (suc t) u w k K a.next τ in
      first mach M 0 (works_of es) (works_of es) τ.turns c1 _ P Q _ (record { it = a.comes }) (omega arith)
      (then_on mach M (works_of es) 0 (works_of es) τ.turns _ P2 P Q (all_meant p deepest ks F b M n fs env es τ) _ (omega arith)
      (oks fs env ts (λ i. held_after i e (st i)) (suc t) u w d k K a.next τ s.1 us (omega (arith, rm, r1)) (omega (arith, ar))
      (record { below = below_more t (suc t) ts (omega arith) r.below; kept = a.kept; fit = a.fit; turns = omega (arith, le, r.turns); parameters = r.parameters; plain = r.plain; walking = walking_same p deepest ks F b M n (loops_walked K) u l a.next (λ x. a.same.iterators x) r.walking; none = r.none }))
      (λ vs τ1 c2 le2 a2. there mach M 0 0 _ _ (v, vs) τ1 P Q stays (omega arith)
      (record {
        next = a2.next;
        comes = a2.comes;
        fit = a2.fit;
        same = same_then ts t (suc t) w w l a.next a2.next (omega arith) (omega arith) a.same a2.same;
        own = λ i h. a2.own i h ∙ a.own i h;
        kept = a2.kept;
        held = (
          holds_same (form_of fs e) t a.next a2.next v (a2.same.hands t (omega arith) (outside_below t t ts r.below (omega arith))) (a2.same.numbers t (omega arith)) (still_stands e (form_of fs e) t a.next v a.stands),
          meant_same (form_of fs e) v (array_meant e) τ τ1 a2.own a.meant,
          a2.held,
        );
      }))))
