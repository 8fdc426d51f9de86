-- Where nothing is noted, mid code with notes is mid code.
use Rattle.std.proofs.Common.{◌≡◌, ℕ, zero, suc, Bool, true, false, List, refl, ap, ap₂, ◌∙◌}
use Rattle.std.specs.Prelude.{if◌then◌else◌, map, is_some}
use Rattle.sem_primitives.specs.declared.table.Primitive.TheVariants as row
use Rattle.wasm_types.specs.Syntax.{Instructions, Done}
use Rattle.wasm_types.specs.declared.instr.Simple.TheVariants.{Br}
use Rattle.sem_scripts.specs.Meaning.{Calls}
use Rattle.mid_program.specs.Mid.{Kind, Code, Step, Eval, Block, If, Loop, Each, Break, Continue, Next, Exit, ExitWith, Return, Mark, Steps, NoStep, Then, Program}
use Rattle.mid_program.specs.MidMeaning.{stepped, all_stepped, holds, keyed, mid_called, mid_done, mid_run_in, routine_at, global_name, routine_name}
use Rattle.sem_scripts.specs.ScriptRun.{Setting, run_with}
use Rattle.sem_scripts.specs.ScriptState.{Execution, ◌>>=◌, ◌>>◌, nothing, call}
use Rattle.mid_program.specs.Sorted.{calls_of}
use Rattle.sem_scripts.specs.Statements.{Flow, after, after_round, loop, over_keys, entered}
use Rattle.sem_scripts.specs.Steps.{array_number}
use Rattle.lower_model.specs.Emission.{Layout}
use Rattle.lower_model.specs.Functions.{layout_of, main_bases, routine_bases}
use Rattle.lower_model.specs.Machine.{no_notes}
use Rattle.lower_model.specs.Noted.{step_noted, steps_noted, noted_called, noted_done, noted_run_in, routine_rest, begin_rest, out_of_part, test_place}
use Rattle.lower_model.specs.Places.{Bases}
use Rattle.lower_model.specs.Quick.{pair_in, step_jumps, is_nothing}
use Rattle.lower_model.specs.Small.{emit as instruction}
use Rattle.lower_model.specs.Statements.{step_emitted, steps_emitted}

whichever : {A : Type 0} {m k x : Execution A} → (j : Bool) → m ≡ x → k ≡ x → (if j then m else k) ≡ x
whichever true a b = a
whichever false a b = b

module _ (y : Layout) (texts : List (List ℕ)) (parameters : List (List Kind)) (n : ℕ) (calls : Calls) where
  abbrev St : Step → Execution Flow
  St s = stepped texts parameters n calls s

  abbrev H : Code → Execution Bool
  H e = holds texts parameters n calls e

  -- a third part in which there is nothing does nothing
  nothing_done : (b : Step) (j : Bool) (m : Execution Flow) → is_nothing b ≡ j → m ≡ St b → (if j then nothing else (m >> nothing)) ≡ (St b >> nothing)
  unfolding stepped all_stepped
  nothing_done (Block NoStep) true m e q = refl
  nothing_done b true m e q = cc
  nothing_done b false m e q = ap (λ (f : Execution Flow). f >> nothing) q

  mutual
    unfolding step_noted steps_noted stepped all_stepped

    pub silent_step : (s : Step) (u d bk ct : ℕ) (k : Instructions) → step_noted no_notes y texts parameters n calls s u d bk ct k ≡ stepped texts parameters n calls s
    silent_step (Eval e) u d bk ct k = refl
    silent_step (Block ss) u d bk ct k = silent_steps ss u d bk ct k
    silent_step (If e a b) u d bk ct k =
        ap₂ (λ (x z : Execution Flow). H e >>= λ truth. if truth then x else z)
        (whichever (is_some (pair_in e)) (silent_step a u (suc (suc d)) (suc (suc bk)) (suc (suc ct)) (instruction (Br 1) Done)) (silent_step a u (suc d) (suc bk) (suc ct) Done))
        (silent_step b u (suc d) (suc bk) (suc ct) Done)
    silent_step (Loop true e a b) u d bk ct k =
        let back = instruction (Br zero) Done in
        let rest = if is_nothing b then back else step_emitted y b u (suc (suc d)) 1 zero back in
        ap₂ (λ (x : Execution Flow) (z : Execution (Unit {0})). loop n (H e) x z)
        (whichever (step_jumps a) (silent_step a u (suc (suc (suc d))) 2 zero Done) (silent_step a u (suc (suc d)) 1 zero rest))
        (nothing_done b (is_nothing b) (step_noted no_notes y texts parameters n calls b u (suc (suc d)) 1 zero back) refl (silent_step b u (suc (suc d)) 1 zero back))
    silent_step (Loop false e a b) u d bk ct k =
        let place = test_place y e (suc (suc d)) in
        ap₂ (λ (x z : Execution Flow). x >>= λ flow. after_round flow ((z >> nothing) >> loop n (H e) x (z >> nothing)))
        (silent_step a u (suc (suc (suc d))) 2 zero Done) (silent_step b u (suc (suc d)) 1 zero place)
    silent_step (Each a e s) u d bk ct k =
        ap (λ (x : Execution Flow). array_number a >>= λ i. call row.Iter (i, tt) >>= λ keys. over_keys n keys (keyed texts parameters n calls e) x) (silent_step s (suc u) (suc (suc (suc d))) 2 zero Done)
    silent_step Break u d bk ct k = refl
    silent_step Continue u d bk ct k = refl
    silent_step Next u d bk ct k = refl
    silent_step Exit u d bk ct k = refl
    silent_step (ExitWith e) u d bk ct k = refl
    silent_step (Return e) u d bk ct k = refl
    silent_step (Mark i b) u d bk ct k = refl

    pub silent_steps : (ss : Steps) (u d bk ct : ℕ) (k : Instructions) → steps_noted no_notes y texts parameters n calls ss u d bk ct k ≡ all_stepped texts parameters n calls ss
    silent_steps NoStep u d bk ct k = refl
    silent_steps (Then s ss) u d bk ct k =
        ap₂ (λ (x z : Execution Flow). x >>= λ flow. after flow z) (silent_step s u d bk ct (steps_emitted y ss u d bk ct k)) (silent_steps ss u d bk ct k)

silent_called : (p : Program) (n : ℕ) → noted_called no_notes p n ≡ mid_called p n
unfolding noted_called mid_called
silent_called p zero = λ i. λ f locals. mid_called p zero f locals
silent_called p (suc n) = λ i. λ f locals.
    entered locals ((silent_steps (layout_of p (routine_bases (routine_at p.routines f))) p.texts (calls_of p) n (noted_called no_notes p n) (routine_at p.routines f).body zero zero zero zero (routine_rest (routine_bases (routine_at p.routines f)))
    ∙ ap (λ (calls : Calls). all_stepped p.texts (calls_of p) n calls (routine_at p.routines f).body) (silent_called p n)) i)

silent_done : (p : Program) (b : Bases) (n : ℕ) (ss : Steps) (k : Instructions) → noted_done no_notes p b n ss k ≡ mid_done p n ss
silent_done p b n ss k =
    ap (λ (m : Execution Flow). m >> nothing)
    (silent_steps (layout_of p b) p.texts (calls_of p) n (noted_called no_notes p n) ss zero zero zero zero k ∙ ap (λ (calls : Calls). all_stepped p.texts (calls_of p) n calls ss) (silent_called p n))

pub silent_run : (p : Program) (s : Setting) (turns : ℕ) → noted_run_in no_notes p s turns ≡ mid_run_in p s turns
silent_run p s turns =
    let b = main_bases p in
    let run = λ (x z w : Execution (Unit {0})). run_with s turns (record { globals = map global_name p.globals; functions = map routine_name p.routines; begin = x; reads = p.reads; items = z; end = w }) in
    ap₂ (λ (x z : Execution (Unit {0})). run x z (noted_done no_notes p b turns p.end out_of_part)) (silent_done p b turns p.begin (begin_rest p b)) (silent_done p b turns p.items out_of_part)
    ∙ ap (λ (w : Execution (Unit {0})). run (mid_done p turns p.begin) (mid_done p turns p.items) w) (silent_done p b turns p.end out_of_part)
