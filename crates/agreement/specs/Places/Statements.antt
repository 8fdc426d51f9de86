-- Where statements begin: the places of code, and the code of each step of a function, with what comes after it.
use Rattle.std.specs.Prelude.{ℕ, zero, suc, ◌+◌, nat_eq, cond, true, false, if◌then◌else◌, List, [], ◌∷◌, ◌++◌, is_some}
use Rattle.wasm_types.specs.Syntax.{Instruction, Plain, BrTable, Block, Loop as Again, If, Instructions, Done, Then}
use Rattle.wasm_types.specs.declared.instr.Simple.TheVariants.{Br, BrIf, Nop}
use Rattle.mid_program.specs.Mid.{Step, Eval, Block as Body, If as Either, Loop, Each, Break, Continue, Next, Exit, ExitWith, Return, Mark, Steps, NoStep, Then as AndThen, Program, Routine}
use Rattle.lower_model.specs.Boundaries.{is_nop, steps_places}
use Rattle.lower_model.specs.Emission.{Layout, tested}
use Rattle.lower_model.specs.Functions.{layout_of, main_bases, routine_bases}
use Rattle.lower_model.specs.Quick.{is_nothing, pair_in, step_jumps}
use Rattle.lower_model.specs.Small.{emit}
use Rattle.lower_model.specs.Statements.{records_read, routine_ended, step_emitted, steps_emitted}

-- the places of code, in order: all code that begins with a `nop`, up to the end of its block
abbrev mutual
  pub starts_in : Instructions → List Instructions
  starts_in Done = []
  starts_in (Then i k) = starts_of i k ++ starts_in k

  pub starts_of : Instruction → Instructions → List Instructions
  starts_of (Plain p) k = cond (nat_eq (is_nop p) 0) [] (emit p k ∷ [])
  starts_of (BrTable ds d) k = []
  starts_of (Block r a) k = starts_in a
  starts_of (Again r a) k = starts_in a
  starts_of (If r a b) k = starts_in a ++ starts_in b

-- The code of steps: of each its own, then those of the steps in it. The test of a loop whose first round goes without it comes last in that loop.
-- Where a step stands is told by the iterators in use, the labels to the function's exit and to where `break` and `continue` go, and the code after
-- it. A choice by a comparison of two sources has one label more around what is done where it is true; a body that nothing leaves has none around it,
-- and after it comes the code of what is done between it and the next test, if there is any.
module _ (y : Layout) where
  abbrev mutual
    pub step_starts : Step → (u d bk ct : ℕ) → Instructions → List Instructions
    step_starts (Eval e) u d bk ct k = step_emitted y (Eval e) u d bk ct k ∷ []
    step_starts (Body ss) u d bk ct k = step_emitted y (Body ss) u d bk ct k ∷ steps_starts ss u d bk ct k
    step_starts (Either e a c) u d bk ct k =
        step_emitted y (Either e a c) u d bk ct k
        ∷ ((if is_some (pair_in e) then step_starts a u (suc (suc d)) (suc (suc bk)) (suc (suc ct)) (emit (Br 1) Done) else
        step_starts a u (suc d) (suc bk) (suc ct) Done)
        ++ step_starts c u (suc d) (suc bk) (suc ct) Done)
    step_starts (Loop true e a c) u d bk ct k =
        let again = emit (Br zero) Done in
        let rest = if is_nothing c then again else step_emitted y c u (suc (suc d)) 1 zero again in
        step_emitted y (Loop true e a c) u d bk ct k ∷ ((if step_jumps a then step_starts a u (suc (suc (suc d))) 2 zero Done else
        step_starts a u (suc (suc d)) 1 zero rest)
        ++ (if is_nothing c then [] else step_starts c u (suc (suc d)) 1 zero again))
    step_starts (Loop false e a c) u d bk ct k =
        let test = emit Nop (tested y [] [] e zero zero (suc (suc d)) (emit (BrIf zero) Done)) in
        step_emitted y (Loop false e a c) u d bk ct k
        ∷ (step_starts a u (suc (suc (suc d))) 2 zero Done ++ (step_starts c u (suc (suc d)) 1 zero test ++ (test ∷ [])))
    step_starts (Each a e s) u d bk ct k = step_emitted y (Each a e s) u d bk ct k ∷ step_starts s (suc u) (suc (suc (suc d))) 2 zero Done
    step_starts Break u d bk ct k = step_emitted y Break u d bk ct k ∷ []
    step_starts Continue u d bk ct k = step_emitted y Continue u d bk ct k ∷ []
    step_starts Next u d bk ct k = step_emitted y Next u d bk ct k ∷ []
    step_starts Exit u d bk ct k = step_emitted y Exit u d bk ct k ∷ []
    step_starts (ExitWith e) u d bk ct k = step_emitted y (ExitWith e) u d bk ct k ∷ []
    step_starts (Return e) u d bk ct k = step_emitted y (Return e) u d bk ct k ∷ []
    step_starts (Mark i c) u d bk ct k = step_emitted y (Mark i c) u d bk ct k ∷ []

    pub steps_starts : Steps → (u d bk ct : ℕ) → Instructions → List Instructions
    steps_starts NoStep u d bk ct k = []
    steps_starts (AndThen s ss) u d bk ct k = step_starts s u d bk ct (steps_emitted y ss u d bk ct k) ++ steps_starts ss u d bk ct k

-- a function that ends without `return` gives the uninitialised value
abbrev pub routine_starts : Program → Routine → List Instructions
routine_starts p r =
    let y = layout_of p (routine_bases r) in
    steps_starts y r.body zero zero zero zero (routine_ended y)

-- those of BEGIN, of the items for a record where records are read, and of END
abbrev pub main_starts : Program → List Instructions
main_starts p =
    let y = layout_of p (main_bases p) in
    let out = emit (Br 1) Done in
    (steps_starts y p.begin zero zero zero zero (if p.reads then records_read y p.items zero out else out)
    ++ (if p.reads then steps_starts y p.items zero zero zero zero out else []))
    ++ steps_starts y p.end zero zero zero zero out

-- how many they are
abbrev pub main_places : Program → ℕ
main_places p = (steps_places p.begin + (if p.reads then steps_places p.items else 0)) + steps_places p.end
