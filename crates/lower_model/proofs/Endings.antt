-- The end of `main`, with the status that the script has, and how whole runs show: what the machine comes to is what the script's run is.
use Rattle.std.proofs.Common.{◌≡◌, inl, inr, ℕ, zero, suc, ◌+◌, ◌*◌, ◌^◌, ◌<◌, ◌≤◌, cond, true, [], length, Some, None, ℤ, pos, negsuc, unsigned_abs, w64, refl, ap, ◌∙◌, arith}
use Rattle.std.specs.Prelude.{◌%◌, ◌&&◌}
use Rattle.std.proofs.lemmas.Bool.{lt-ltb}
use Rattle.std.specs.Int.{cast_unsigned, int_rem_euclid}
use Rattle.awk_values.specs.declared.fault.Fault.{Fault}
use Rattle.awk_values.specs.declared.value.Value.{Value}
use Rattle.sem_primitives.specs.Numbers.{Number, number_word}
use Rattle.sem_primitives.proofs.Words.{small}
use Rattle.wasm_types.specs.Syntax.{Instructions, Done}
use Rattle.wasm_types.specs.declared.instr.Simple.TheVariants.{GlobalGet, Convert}
use Rattle.wasm_types.specs.declared.instr.CvtOp.TheVariants.{I32WrapI64}
use Rattle.wasm_store.specs.declared.word.Word.TheVariants.{I32, I64}
use Rattle.mid_program.specs.Mid.{Kind, Boxed, Unboxed, ArrayKind, Program}
use Rattle.sem_scripts.specs.ScriptRun.{Setting, Ended, ending}
use Rattle.sem_scripts.specs.ScriptState.{State, global_value, Faulted, OutOfTurns, TooDeep, Nexted, Exited, Returned, Outcome, Gives, Stops}
use Rattle.mid_program.specs.Sorted.{kinds_of}
use Rattle.lower_model.specs.Cells.{Cell, Bits, is_owned, none_owned, ended_name, globals_by, tidy_name}
use Rattle.lower_model.specs.Follows.{ShownWith}
use Rattle.lower_model.specs.Functions.{layout_of}
use Rattle.lower_model.specs.Machine.{Notes, Conf, Over, Store, at, ending_at, ending_name, guarded}
use Rattle.lower_model.specs.ImportCalls.{Host}
use Rattle.lower_model.specs.Places.{Bases, status_global}
use Rattle.lower_model.specs.Runs.{noting_code, begun}
use Rattle.lower_model.specs.Small.{emit}
use Rattle.lower_model.specs.Statements.{swept}
use Rattle.lower_model.proofs.Observer.{Observer}
use Rattle.lower_model.proofs.Runs.{Goes, then_goes, by_steps, Arrives}
use Rattle.lower_model.proofs.Globals.{Globals, Status, placed}
use Rattle.lower_model.proofs.GlobalSteps.{global_copied, storing}
use Rattle.lower_model.proofs.Locals.{Locals, laid}
use Rattle.lower_model.proofs.Steps.{unanswered}
use Rattle.lower_model.proofs.State.{beside, name_hand, kind_here, arrays_before, cells_of, host_of, store_with, HandWorn, Worn, BareOf, IsBeside, IsNone, IsNumber}
use Rattle.lower_model.proofs.Relation.{Loose}
use Rattle.lower_model.proofs.Conversions.{bare_is}
use Rattle.lower_model.proofs.Answers.{machine}
use Rattle.lower_model.proofs.Tidy.{placed_fine, globals_fine, name_tidy}
use Rattle.lower_model.proofs.Exits.{sweep_ok, unowned_laid}

-- the low eight bits of a status are its remainder
status_low : (m : Number) → (number_word m % 2 ^ 32) % 256 ≡ unsigned_abs (int_rem_euclid m.number (pos 256))
status_low m = by m.number (small m)
  where
    by : (z : ℤ) → unsigned_abs z ≤ 2 ^ 53 → (cast_unsigned w64 z % 2 ^ 32) % 256 ≡ unsigned_abs (int_rem_euclid z (pos 256))
    by (pos k) e = omega arith
    by (negsuc k) e = omega (arith, e)

beside_ended : (v : Value) → BareOf v → ended_name Unboxed (beside v) ≡ true
beside_ended v (IsBeside e e1) = ap (ended_name Unboxed) e1
beside_ended v (IsNone e e1 e2) = ap (ended_name Unboxed) e2
beside_ended v (IsNumber m e e1 e2) = ap (ended_name Unboxed) e2

worn_ended : (k : Kind) (a : ℕ) (v : Value) (c : Cell) → HandWorn k (name_hand k a v) c → ended_name k c ≡ true
worn_ended Boxed a v c (inl e) = ap (ended_name Boxed) e
worn_ended Boxed a v c (inr q) = ap (ended_name Boxed) q.1
worn_ended Unboxed a v c e = ap (ended_name Unboxed) e ∙ beside_ended v (bare_is v)
worn_ended ArrayKind a v c e = ap (ended_name ArrayKind) e

abbrev pub main_exit_work : Bases → ℕ
main_exit_work b = 8 * (b.temporaries + (b.iterators + b.arrays)) + 3

module _ (p : Program) (deepest : Observer) (b : Bases) where
  abbrev pub main_exit : Instructions
  main_exit = swept (layout_of p b) (emit (GlobalGet status_global) (emit (Convert I32WrapI64) Done))

  -- `main` ends with the status, and holds nothing
  pub record MainEnds (w : ℕ) (G : Store) (l : Locals) : Type 0 where
    pub steps : ℕ
    pub few : steps ≤ main_exit_work b
    pub goes : Goes (machine p deepest [] []) steps (at [] [] [] (laid b l) [] main_exit G) (Over (Bits (I32 (w % 2 ^ 32))) G)

  pub main_ends_by : (g : Globals) (o : Host) (w : ℕ) (l : Locals) → zero ≡ b.parameters → Loose p deepest [] [] l → l.answer ≡ unanswered → g.status ≡ Bits (I64 w) →
      globals_by (ending_name o.fault) (suc (suc (suc p.ranges))) (kinds_of p.globals) (placed p.ranges (length (kinds_of p.globals)) g) ≡ true → MainEnds w (storing (placed p.ranges (length (kinds_of p.globals)) g) o) l
  main_ends_by g o w l none lo an es fine =
      let G = storing (placed p.ranges (length (kinds_of p.globals)) g) o in
      let mach = machine p deepest [] [] in
      let v = Bits (I32 (w % 2 ^ 32)) in
      let a = sweep_ok p deepest [] [] b [] G l (emit (GlobalGet status_global) (emit (Convert I32WrapI64) Done)) lo in
      let clean : none_owned (laid b a.next) ≡ true =
      unowned_laid p deepest [] [] b a.next (λ i lt. absurd (omega (arith, lt, none))) (ap is_owned (a.answer ∙ an)) (λ x lt. ap is_owned (a.hands x lt)) (λ x. ap is_owned (a.numbers x) ∙ lo.numbers x)
      (λ x lt. ap is_owned (a.iterators x lt)) (λ x lt. ap is_owned (a.arrays x lt)) in
      record {
        steps = a.steps + 3;
        few = let q = a.few in omega (arith, q);
        goes = then_goes a.goes
            (then_goes (global_copied p.ranges (length (kinds_of p.globals)) g Status (Bits (I64 w)) tt es refl)
            (then_goes (by_steps 1 refl)
            (by_steps 1
            (ap (λ t. guarded (true && t) (guarded (true && globals_by (ending_name o.fault) mach.before mach.names G.globals) (Over v G))) clean
            ∙ ap (λ t. guarded (true && t) (Over v G)) fine))));
      }

  pub main_ends : (way : ℕ) (l : Locals) (σ : State) → zero ≡ b.parameters → Loose p deepest [] [] l → l.answer ≡ unanswered →
      MainEnds (number_word σ.status) (store_with p.ranges (kinds_of p.globals) way None σ) l
  main_ends way l σ none lo an =
      main_ends_by (cells_of (kinds_of p.globals) way σ) (host_of σ None) (number_word σ.status) l none lo an refl (globals_fine p tidy_name way σ name_tidy)

  -- a fault is kept
  pub kept_ends : (way : ℕ) (f : Fault) (l : Locals) (σ : State) (g : Globals) → zero ≡ b.parameters → Loose p deepest [] [] l → l.answer ≡ unanswered →
      Worn (kinds_of p.globals) (cells_of (kinds_of p.globals) way σ) g →
      MainEnds (number_word σ.status) (storing (placed p.ranges (length (kinds_of p.globals)) g) (host_of σ (Some f))) l
  kept_ends way f l σ g none lo an w =
      let kinds = kinds_of p.globals in
      main_ends_by g (host_of σ (Some f)) (number_word σ.status) l none lo an w.status
      (placed_fine p ended_name g (ap is_owned w.way) (ap is_owned w.status) (ap is_owned w.text) (λ i. ap is_owned (w.range i))
      (λ i. worn_ended (kind_here kinds i) (suc (suc (arrays_before kinds i))) (global_value i σ) (g.hand i) (w.hand i)) (λ i. ap is_owned (w.number i)))

  -- how it shows then
  pub shows_ended : (way : ℕ) (σ : State) → ending_at (Over (Bits (I32 (number_word σ.status % 2 ^ 32))) (store_with p.ranges (kinds_of p.globals) way None σ)) ≡ Some (Ended (unsigned_abs (int_rem_euclid σ.status.number (pos 256))) σ.shared.output)
  shows_ended way σ =
      let w : ℕ = number_word σ.status in
      let small : w % 2 ^ 32 < 2 ^ 32 = omega arith in
      ap (λ q. cond q (Some (Ended ((w % 2 ^ 32) % 256) σ.shared.output)) None) (lt-ltb (w % 2 ^ 32) (2 ^ 32) small) ∙ ap (λ s. Some (Ended s σ.shared.output)) (status_low σ.status)

-- Whole runs: where the machine comes to what shows as the script's ending, with bounded work, the emitted code follows the program.

abbrev pub EndsWell : Outcome (Unit {0}) → Conf → Type 0
EndsWell r c = ending_at c ≡ Some (ending r)

module _ (p : Program) (notes : Notes) (s : Setting) (M w turns : ℕ) (few : w ≤ M) where
  pub shown : (r : Outcome (Unit {0})) → Arrives (noting_code notes p s.deepest) M w turns (begun p s) (λ u σ. EndsWell (Gives u σ)) (λ why σ. EndsWell (Stops why σ)) r → ShownWith notes p s turns (M * (turns + 1)) (ending r)
  shown (Gives u σ) h = (h.steps, (let q = h.cost.few in omega (arith, q, few)), ap ending_at h.goes ∙ h.holds)
  shown (Stops OutOfTurns σ) h = (h.steps, (let q = h.few in omega (arith, q, few)), h.enough, h.shows)
  shown (Stops (Faulted f) σ) h = (h.steps, (let q = h.cost.few in omega (arith, q, few)), ap ending_at h.goes ∙ h.holds)
  shown (Stops TooDeep σ) h = (h.steps, (let q = h.cost.few in omega (arith, q, few)), ap ending_at h.goes ∙ h.holds)
  shown (Stops Nexted σ) h = (h.steps, (let q = h.cost.few in omega (arith, q, few)), ap ending_at h.goes ∙ h.holds)
  shown (Stops Exited σ) h = (h.steps, (let q = h.cost.few in omega (arith, q, few)), ap ending_at h.goes ∙ h.holds)
  shown (Stops (Returned v) σ) h = (h.steps, (let q = h.cost.few in omega (arith, q, few)), ap ending_at h.goes ∙ h.holds)
