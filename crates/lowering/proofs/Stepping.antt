-- Statements as they stand in memory: what they hold can be emitted, and their code is that of the definition.
use Rattle.std.proofs.Common.{◌≡◌, ℕ, suc, ◌+◌, ◌<◌, ◌≤◌, Bool, true, false, if◌then◌else◌, List, [], get_or, drop, drop-cons, length, refl, sym, ap, ◌∙◌, subst, arith}
use Rattle.std.specs.declared.alloc.Global.{Global}
use Rattle.std.specs.declared.vec.Vec.{Vec}
use Rattle.wasm_types.specs.Syntax.{Instructions, Done}
use Rattle.sem_primitives.specs.ConstantNumbers.{flag_number}
use Rattle.wasm_types.specs.declared.instr.Simple.TheVariants.{Br, GlobalSet, I32Const, Nop}
use Rattle.sem_scripts.specs.Names.{ArrayName}
use Rattle.mid_program.specs.Mid as plain
use Rattle.mid_program.specs.ViewCode.{view_step, view_steps}
use Rattle.mid_program.specs.declared.step.Step.{Step, Block}
use Rattle.lower_model.specs.Boundaries.{step_places, steps_places}
use Rattle.lower_model.specs.Emission.{Layout, emitted}
use Rattle.lower_model.specs.Places.{range_global}
use Rattle.lower_model.specs.Quick.{is_nothing, sum_in}
use Rattle.lower_model.specs.Small.{emit}
use Rattle.lower_model.specs.Statements.{left_by, quickly_dropped, returned, step_emitted, steps_emitted, way_exit, way_next}
use Rattle.lower_quick.proofs.Views.{view_block}
use Rattle.lowering.specs.declared.around.Around.{Around}
use Rattle.lowering.specs.Parts.{chosen, keys_walked, rounds, status_left, turn}
use Rattle.lowering.specs.StepFits.{StepFits, StepsFit}

pub block_fits : (y : Layout) (s : Step) (v : Vec Step Global) (ss : List Step) (u d : ℕ) → s ≡ Block v → ss ≡ v.items → StepFits y (view_step s) u d → StepsFit y (view_steps ss) u d
block_fits y s v ss u d e f h = subst (λ (x : List Step). StepsFit y (view_steps x) u d) (sym f) (subst (λ (x : plain.Step). StepFits y x u d) (ap view_step e ∙ view_block v) h)

-- what stands between the body of a loop and the next test, unless nothing does and the test comes first
abbrev pub last_places : (first : Bool) → plain.Step → ℕ
last_places true c = if is_nothing c then 0 else step_places c
last_places false c = step_places c

-- a loop of this body and this end
pub loop_code : (y : Layout) (first : Bool) (e : plain.Code) (a c : plain.Step) (u d bk ct : ℕ) (k : Instructions) → emit Nop (rounds (turn first y e a c u d Done) k) ≡ step_emitted y (plain.Loop first e a c) u d bk ct k
unfolding step_emitted
loop_code y true e a c u d bk ct k = refl
loop_code y false e a c u d bk ct k = refl

-- the other statements

pub eval_code : (y : Layout) (e : plain.Code) (u d bk ct : ℕ) (k : Instructions) → emit Nop (quickly_dropped y (sum_in e) e d k) ≡ step_emitted y (plain.Eval e) u d bk ct k
unfolding step_emitted
eval_code y e u d bk ct k = refl

pub choice_code : (y : Layout) (e : plain.Code) (a b : plain.Step) (at : Around) (k : Instructions) → emit Nop (chosen y e a b at k) ≡ step_emitted y (plain.If e a b) at.iterators at.exit at.break_to at.continue_to k
unfolding step_emitted
choice_code y e a b at k = refl

pub keys_code : (y : Layout) (i : ArrayName) (e : plain.Code) (a : plain.Step) (u d bk ct : ℕ) (k : Instructions) → emit Nop (keys_walked y i e a u d k) ≡ step_emitted y (plain.Each i e a) u d bk ct k
unfolding step_emitted
keys_code y i e a u d bk ct k = refl

pub break_code : (y : Layout) (u d bk ct : ℕ) (k : Instructions) → emit Nop (emit (Br bk) k) ≡ step_emitted y plain.Break u d bk ct k
unfolding step_emitted
break_code y u d bk ct k = refl

pub continue_code : (y : Layout) (u d bk ct : ℕ) (k : Instructions) → emit Nop (emit (Br ct) k) ≡ step_emitted y plain.Continue u d bk ct k
unfolding step_emitted
continue_code y u d bk ct k = refl

pub next_code : (y : Layout) (u d bk ct : ℕ) (k : Instructions) → emit Nop (left_by way_next d k) ≡ step_emitted y plain.Next u d bk ct k
unfolding step_emitted
next_code y u d bk ct k = refl

pub exit_code : (y : Layout) (u d bk ct : ℕ) (k : Instructions) → emit Nop (left_by way_exit d k) ≡ step_emitted y plain.Exit u d bk ct k
unfolding step_emitted
exit_code y u d bk ct k = refl

pub status_code : (y : Layout) (e : plain.Code) (u d bk ct : ℕ) (k : Instructions) →
    emit Nop (emitted y false [] [] e 0 0 d (status_left y.bases (plain.form_of [] e) d k)) ≡ step_emitted y (plain.ExitWith e) u d bk ct k
unfolding step_emitted
status_code y e u d bk ct k = refl

pub return_code : (y : Layout) (e : plain.Code) (u d bk ct : ℕ) (k : Instructions) → emit Nop (returned y e d k) ≡ step_emitted y (plain.Return e) u d bk ct k
unfolding step_emitted
return_code y e u d bk ct k = refl

pub mark_code : (y : Layout) (i : ℕ) (b : Bool) (u d bk ct : ℕ) (k : Instructions) →
    emit Nop (emit (I32Const (flag_number b)) (emit (GlobalSet (range_global i)) k)) ≡ step_emitted y (plain.Mark i b) u d bk ct k
unfolding step_emitted
mark_code y i b u d bk ct k = refl

pub block_code : (y : Layout) (s : Step) (v : Vec Step Global) (ss : List Step) (u d bk ct : ℕ) (k : Instructions) → s ≡ Block v → ss ≡ v.items →
    emit Nop (steps_emitted y (view_steps ss) u d bk ct k) ≡ step_emitted y (view_step s) u d bk ct k
unfolding step_emitted
block_code y s v ss u d bk ct k e f =
    ap (λ (x : List Step). emit Nop (steps_emitted y (view_steps x) u d bk ct k)) f
    ∙ sym (ap (λ (x : plain.Step). step_emitted y x u d bk ct k) (ap view_step e ∙ view_block v))

-- a loop is as many places as its body and its last part, and its own
pub loop_places : (first : Bool) (e : plain.Code) (a c : plain.Step) → suc (step_places a + last_places first c) ≤ step_places (plain.Loop first e a c)
loop_places true e a c = omega arith
loop_places false e a c = omega arith

-- the first of the statements that are left
pub first_fits : (y : Layout) (ss : List Step) (i : ℕ) (s : Step) (u d : ℕ) → i < length ss → s ≡ get_or ss i s → StepsFit y (view_steps (drop i ss)) u d → StepFits y (view_step s) u d
first_fits y ss i s u d lt e h =
    subst (λ (x : Step). StepFits y (view_step x) u d) (sym e) (subst (λ (xs : List Step). StepsFit y (view_steps xs) u d) (drop-cons ss i s lt) h).0

-- how many places are left

pub block_places : (s : Step) (v : Vec Step Global) (ss : List Step) → s ≡ Block v → ss ≡ v.items → step_places (view_step s) ≡ suc (steps_places (view_steps ss))
block_places s v ss e f = ap step_places (ap view_step e ∙ view_block v) ∙ sym (ap (λ (x : List Step). suc (steps_places (view_steps x))) f)

pub first_places : (ss : List Step) (i : ℕ) (s : Step) → i < length ss → s ≡ get_or ss i s → steps_places (view_steps (drop i ss)) ≡ step_places (view_step s) + steps_places (view_steps (drop (suc i) ss))
first_places ss i s lt e =
    ap (λ (xs : List Step). steps_places (view_steps xs)) (drop-cons ss i s lt) ∙ sym (ap (λ (x : Step). step_places (view_step x) + steps_places (view_steps (drop (suc i) ss))) e)
