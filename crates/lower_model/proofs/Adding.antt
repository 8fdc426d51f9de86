-- Arithmetic in expressions: sums and differences of sources near 0 are added without a test of their range; all else is calculated with its tests.
use Rattle.std.proofs.Common.{◌≡◌, ℕ, suc, ◌+◌, ◌^◌, Bool, true, false, nat_eq, List, [], ◌∷◌, Some, None, Option, Ok, pos, w64, refl, sym, ap, ap₂, ◌∙◌, subst, arith, if◌then◌else◌}
use Rattle.std.specs.Prelude.{◌&&◌, cond}
use Rattle.std.proofs.lemmas.Bool.{and_parts}
use Rattle.sem_primitives.specs.Numbers.{Number as AnyNumber, number_word, outcome_of}
use Rattle.sem_primitives.specs.declared.sorts.Sort.TheVariants as sort
use Rattle.wasm_types.specs.Syntax.{Instructions, Done as NoMore}
use Rattle.wasm_types.specs.declared.instr.Simple.TheVariants.{LocalSet}
use Rattle.wasm_store.specs.Integers.{binary_at}
use Rattle.wasm_store.specs.declared.word.Word.TheVariants.{I64}
use Rattle.mid_program.specs.declared.mid.Arithmetic.{Arithmetic}
use Rattle.mid_program.specs.declared.mid.Operation.TheVariants.{Inline}
use Rattle.mid_program.specs.Mid.{Kind, Program, Form, Code, Do, Codes, End, At, a_number, form_of}
use Rattle.mid_program.specs.MidMeaning.{Holds, Env, arithmetic_of}
use Rattle.sem_scripts.specs.ScriptState.{State, Stop, Gives, Outcome, settled}
use Rattle.mid_program.specs.Sorted.{Held as Standing, sorted, all_sorted, held_after_all, fits as fits_sort}
use Rattle.lower_model.specs.Cells.{Bits}
use Rattle.lower_model.specs.Emission.{emitted, all_emitted, all_converted, added, added_or}
use Rattle.lower_model.specs.Arithmetic.{calculated}
use Rattle.lower_model.specs.Machine.{Conf, Label, Frame, Store, at, label}
use Rattle.lower_model.specs.Places.{Bases, number_local}
use Rattle.lower_model.specs.Quick.{Source, Held, Constant, source_in, and_source, is_sum, sum_op, Addition, addition_names, addition_of, addition_in}
use Rattle.lower_model.specs.Small.{emit}
use Rattle.lower_model.proofs.Observer.{Observer}
use Rattle.lower_model.proofs.Runs.{then_goes, goes_from, first, within, there, Onward}
use Rattle.lower_model.proofs.Locals.{Locals, Number as NumberAt, laid}
use Rattle.lower_model.proofs.Steps.{set_ok}
use Rattle.lower_model.proofs.Relation.{Kept, same_self, Away}
use Rattle.lower_model.proofs.Pieces.{chooses, closes}
use Rattle.lower_model.proofs.Answers.{machine, beside_state, put_word, Reached}
use Rattle.lower_model.proofs.Converting.{blocked}
use Rattle.lower_model.proofs.Simulation.{work_of, works_of, extra_of, operator_room, context, layout, meant, Done, ExprOk, CodesOk}
use Rattle.lower_model.proofs.Expressions.{put_done}
use Rattle.lower_model.proofs.Inlining.{two_wanted, plainly_calculated}
use Rattle.lower_model.proofs.QuickNames.{num_of, source_steps, all_flag, all_steps, AllSure, source_code, none_is, all_sure, source_among, source_beside, source_is, two_few, one_few, both_near, result_of}
use Rattle.lower_model.proofs.QuickParts.{two_calculated, AllUnboxed, all_unsure_ok, calculated_means, words, all_words}
use Rattle.lower_model.proofs.QuickSteps.{SourceFits, source_unboxed, operand, near_fits, both_added}

module _ (p : Program) (deepest : Observer) (ks : List Kind) (F : List Frame) (b : Bases) (M n : ℕ) where
  -- what comes to the end of a block goes on after it
  done_closes : (v : Bool) (e : Code) (fs : List Form) (env : Env fs) (ts : List ℕ) (st : ℕ → Standing) (t u w : ℕ) (k : Instructions) (K : List Label) (l : Locals) (σ : State) (x : Holds (form_of fs e)) (σ1 : State) (c : Conf) →
      Done p deepest ks F b M n v e fs env ts st t u w NoMore (label [] None k ∷ K) l σ x σ1 c → Onward (machine p deepest ks F) M 1 (Done p deepest ks F b M n v e fs env ts st t u w k K l σ x σ1) c
  done_closes v e fs env ts st t u w k K l σ x σ1 c a = record {
    conf = at ks [] K (laid b a.next) F k (beside_state p deepest ks F σ1);
    steps = 1;
    few = omega arith;
    goes = goes_from a.comes closes;
    holds = record { next = a.next; comes = refl; fit = a.fit; same = a.same; own = a.own; kept = a.kept; stands = a.stands; meant = a.meant };
  }

  -- Which operands are sources near 0, and what becomes of them.

  pub record AdditionIs (fs : List Form) (o : Arithmetic) (es : Codes) (q : Addition) : Type 0 where
    pub left : SourceFits p deepest ks F b M n (2 ^ 52) q.left
    pub right : SourceFits p deepest ks F b M n (2 ^ 52) q.right
    pub sum : is_sum q.op ≡ true
    pub means : (env : Env fs) (σ : State) (m1 m2 y : AnyNumber) → num_of q.left σ ≡ Ok m1 → num_of q.right σ ≡ Ok m2 → outcome_of (arithmetic_of q.op m1.number m2.number) ≡ Ok y → meant p deepest ks F b M n fs env (Do (Inline o) es) σ ≡ Gives y σ
    pub keeps : (ts : List ℕ) (st : ℕ → Standing) (l : Locals) (env : Env fs) → Kept fs ts st l env → Kept fs ts (λ i. held_after_all i es (st i)) l env

  abbrev two : Code → Code → Codes
  two x y = At x (At y End)

  sources_kept : (a e : Source) (fs : List Form) (ts : List ℕ) (st : ℕ → Standing) (l : Locals) (env : Env fs) → Kept fs ts st l env → Kept fs ts (λ i. held_after_all i (two (source_code a) (source_code e)) (st i)) l env
  sources_kept (Held i) (Held j) fs ts st l env k = k
  sources_kept (Held i) (Constant z) fs ts st l env k = k
  sources_kept (Constant y) (Held j) fs ts st l env k = k
  sources_kept (Constant y) (Constant z) fs ts st l env k = k

  two_sorted : (fs : List Form) (o : Arithmetic) (x y : Code) → sorted (context p deepest ks F b M n) fs (Do (Inline o) (two x y)) ≡ true → (sorted (context p deepest ks F b M n) fs x ≡ true) × (sorted (context p deepest ks F b M n) fs y ≡ true)
  unfolding sorted all_sorted
  two_sorted fs o x y so =
      let ctx = context p deepest ks F b M n in
      let s = and_parts (fits_sort (form_of fs x) sort.Number && (fits_sort (form_of fs y) sort.Number && true)) (sorted ctx fs x && (sorted ctx fs y && true)) so in
      let s1 = and_parts (sorted ctx fs x) (sorted ctx fs y && true) s.1 in
      (s1.0, (and_parts (sorted ctx fs y) true s1.1).0)

  pub addition_is : (fs : List Form) (o : Arithmetic) (es : Codes) (q : Addition) → addition_in (Inline o) es ≡ Some q → sorted (context p deepest ks F b M n) fs (Do (Inline o) es) ≡ true → AdditionIs fs o es q
  addition_is fs o (At x (At y End)) q eq so = by (source_in x) refl (source_in y) refl eq
    where
      by : (r : Option Source) → source_in x ≡ r → (s : Option Source) → source_in y ≡ s → addition_of o r s ≡ Some q → AdditionIs fs o (two x y) q
      by (Some a) e1 (Some e) e2 eq =
          subst (λ cs. sorted (context p deepest ks F b M n) fs (Do (Inline o) cs) ≡ true → AdditionIs fs o cs q) (sym (ap₂ two (source_is x a e1) (source_is y e e2)))
          (λ so1.
          let g = both_near (record { op = o; left = a; right = e }) q o a e eq in
          let h = two_sorted fs o (source_code a) (source_code e) so1 in
          subst (AdditionIs fs o (two (source_code a) (source_code e))) g.1
          (record {
            left = near_fits p deepest ks F b M n fs a h.0 g.0.1;
            right = near_fits p deepest ks F b M n fs e h.1 g.0.2;
            sum = g.0.0;
            means = λ env σ m1 m2 y z1 z2 z. calculated_means p deepest ks F b M n fs env o a e σ ∙ (ap₂ (two_calculated o σ) z1 z2 ∙ ap (λ r. settled r σ) z);
            keeps = λ ts st l env k. sources_kept a e fs ts st l env k;
          })) so
      by (Some a) e1 None e2 eq = none_is eq
      by None e1 s e2 eq = none_is eq
  addition_is fs o es q eq so = none_is eq

  pub addition_unboxed : (fs : List Form) (o : Arithmetic) (es : Codes) (q : Addition) → AdditionIs fs o es q → AllUnboxed p deepest ks F b M n (addition_names q)
  addition_unboxed fs o es q a = source_unboxed p deepest ks F b M n (2 ^ 52) q.left (and_source q.right []) a.left (source_unboxed p deepest ks F b M n (2 ^ 52) q.right [] a.right tt)

  pub inline_expr : (o : Arithmetic) (es : Codes) → CodesOk p deepest ks F b M n es → ExprOk p deepest ks F b M n (Do (Inline o) es)
  unfolding emitted all_emitted
  inline_expr o es ok v fs env ts st t u w d k K l σ so us rm ar rd = by (addition_in (Inline o) es) refl
    where
      S : Store
      S = beside_state p deepest ks F σ

      K1 : List Label
      K1 = label [] None k ∷ K

      P : AnyNumber → State → Conf → Type 0
      P = Done p deepest ks F b M n v (Do (Inline o) es) fs env ts st t u w k K l σ

      Q : Stop → State → Conf → Type 0
      Q = Away p deepest ks F b d K

      outcome : Outcome AnyNumber
      outcome = meant p deepest ks F b M n fs env (Do (Inline o) es) σ

      plain : ℕ → Instructions → Instructions
      plain exit after = all_emitted (layout p deepest ks F b M n) fs ts es t w exit (all_converted (layout p deepest ks F b M n) fs two_wanted es t exit (calculated b o t exit after))

      slow : Instructions
      slow = plain (suc d) NoMore

      fast : Addition → Instructions
      fast q = added (layout p deepest ks F b M n) q t NoMore

      -- in all cases
      anyway : Reached p deepest ks F b M (42 + (works_of es + extra_of es)) σ.turns (at ks [] K1 (laid b l) F slow S) P Q outcome
      anyway =
          within (machine p deepest ks F) M ((41 + (works_of es + extra_of es)) + 1) (42 + (works_of es + extra_of es)) σ.turns _ P Q outcome (omega arith)
          (blocked p deepest ks F b M (41 + (works_of es + extra_of es)) σ.turns d k K _ (Done p deepest ks F b M n v (Do (Inline o) es) fs env ts st t u w NoMore K1 l σ) P outcome (λ x τ c h. done_closes v (Do (Inline o) es) fs env ts st t u w k K l σ x τ c h)
          (plainly_calculated p deepest ks F b M n o es ok v fs env ts st t u w (suc d) NoMore K1 l σ so us rm ar rd))

      sums : (q : Addition) → AdditionIs fs o es q → AllSure (words l σ) σ (pos (2 ^ 52)) (2 ^ 53) (addition_names q) → Reached p deepest ks F b M 5 σ.turns (at ks [] K1 (laid b l) F (fast q) S) P Q outcome
      sums q a sure =
          let o1 = operand p deepest ks F b M n (words l σ) q.left (addition_names q) (2 ^ 52) (2 ^ 53) σ (omega arith) a.left (omega arith) (source_among q.left (and_source q.right [])) sure in
          let o2 = operand p deepest ks F b M n (words l σ) q.right (addition_names q) (2 ^ 52) (2 ^ 53) σ (omega arith) a.right (omega arith) (source_beside q.right q.left (and_source q.right []) (source_among q.right [])) sure in
          let r = result_of q.op o1.number o2.number a.sum o1.few o2.few in
          let y = r.number in
          let f1 = one_few q.left in
          let f2 = one_few q.right in
          let ro = operator_room o in
          subst (λ g. Reached p deepest ks F b M 5 σ.turns (at ks [] K1 (laid b l) F (fast q) S) P Q g) (sym (a.means env σ o1.number o2.number y o1.num o2.num r.outcome))
          (there (machine p deepest ks F) M 5 ((source_steps q.left + (source_steps q.right + 1)) + (1 + 1)) _ _ y σ P Q
          (then_goes (both_added p deepest ks F b M n K1 (emit (LocalSet (number_local b t)) NoMore) q.op q.left q.right y t u w l σ a.left a.right rd.parameters rd.fit (ap₂ (binary_at w64 (sum_op q.op)) o1.words o2.words ∙ r.words))
          (then_goes (set_ok b l (NumberAt t) (Bits (I64 (number_word y))) (omega (arith, rm, ro)) (rd.fit.numbers t)) closes)) (omega (arith, f1, f2))
          (put_done p deepest ks F b M n (Do (Inline o) es) v fs env ts st t u w k K l l σ σ y _ rd.below (same_self ts t w l) (λ i h. refl) (a.keeps ts st l env rd.kept) refl tt
          (put_word p deepest ks F b M t u w (number_word y) a_number k K l y σ (refl, refl) rd.fit)))

      chosen : (q : Addition) → AdditionIs fs o es q → (f : Bool) → all_flag (words l σ) (pos (2 ^ 52)) (2 ^ 53) (addition_names q) ≡ f →
          Reached p deepest ks F b M (42 + (works_of es + extra_of es)) σ.turns (at ks [] K1 (laid b l) F (cond (nat_eq (if f then 1 else 0) 0) (fast q) slow) S) P Q outcome
      chosen q a true eq = anyway
      chosen q a false eq = within (machine p deepest ks F) M 5 (42 + (works_of es + extra_of es)) σ.turns _ P Q outcome (omega arith) (sums q a (all_sure (words l σ) (addition_names q) (pos (2 ^ 52)) (2 ^ 53) σ (all_words p deepest ks F b M n (addition_names q) t u w l σ (addition_unboxed fs o es q a) rd.fit) (omega arith) (omega arith) eq))

      by : (r : Option Addition) → addition_in (Inline o) es ≡ r → Reached p deepest ks F b M (work_of (Do (Inline o) es)) σ.turns (at ks [] K (laid b l) F (added_or (layout p deepest ks F b M n) r t slow k (plain d k)) S) P Q outcome
      by None eq =
          within (machine p deepest ks F) M (41 + (works_of es + extra_of es)) (work_of (Do (Inline o) es)) σ.turns _ P Q outcome (omega arith)
          (plainly_calculated p deepest ks F b M n o es ok v fs env ts st t u w d k K l σ so us rm ar rd)
      by (Some q) eq =
          let a = addition_is fs o es q eq so in
          let few = two_few q.left q.right in
          let unboxed = addition_unboxed fs o es q a in
          let f = all_flag (words l σ) (pos (2 ^ 52)) (2 ^ 53) (addition_names q) in
          first (machine p deepest ks F) M (all_steps (addition_names q) + 1) (42 + (works_of es + extra_of es)) (work_of (Do (Inline o) es)) σ.turns _ _ P Q outcome
          (then_goes (all_unsure_ok p deepest ks F b M n _ _ (addition_names q) (pos (2 ^ 52)) (2 ^ 53) t u w l σ unboxed rd.parameters rd.fit) (chooses slow (fast q) (if f then 1 else 0))) (omega (arith, few))
          (chosen q a f refl)
