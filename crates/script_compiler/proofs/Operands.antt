-- Computing constant parts and unboxing names leaves the operands under each call as few as they were.
use Rattle.std.proofs.Common.{◌≡◌, ℕ, zero, suc, List, [], ◌∷◌, map, Option, Some, None, sym, subst}
use Rattle.sem_primitives.specs.Numbers.{Number as AnyNumber}
use Rattle.wasm_model.specs.Machines.{Conf}
use Rattle.host_step.specs.HostState.{HostState}
use Rattle.mid_program.specs.declared.mid.Operation.{Operation}
use Rattle.mid_program.specs.Mid.{Kind, Slot, Code, Do, Over, Compare, Call, Ask, AskLine, FileLine, Replace, Number, Text, Unset, Get, Set, Array, IsOpen, Choose, Seq, Let, Bound, Codes, End, At, Fixed, Fresh, Step, Eval, Block, If, Loop, Each, Break, Continue, Next, Exit, ExitWith, Return, Mark, Steps, NoStep, Then, Program, Routine}
use Rattle.sem_scripts.specs.Names.{Function, Resolved}
use Rattle.mid_program.specs.Translation.{program_of}
use Rattle.mid_program.specs.Rewriting.{code_in, codes_in, step_in, steps_in}
use Rattle.folding.specs.Folding.{fold, folded_routine, reduced, reduced_to, same, value_of}
use Rattle.value_kinds.specs.Applied.{apply, routines_with, slot_in}
use Rattle.value_kinds.specs.Lanes.{Lanes, infer}
use Rattle.agreement.specs.Places.NoLeaks.{AtStatement}
use Rattle.agreement.specs.Places.Nodes.{items_nodes, nodes_of, stmts_nodes}
use Rattle.agreement.specs.Places.Pending.{FewAlive}
use Rattle.agreement.proofs.PlacesLemmas.Callers.{few_alive}
use Rattle.agreement.proofs.PlacesLemmas.Operands.{script_few}
use Rattle.agreement.proofs.PlacesLemmas.Pending.{AllFew, Few, PartsFew, RoutinesFew, StepFew, StepsFew}
use Rattle.script_code.specs.Coded.{unboxed}

module _ (slots : Slot → Slot) (operation : Operation → Codes → Code) (m : ℕ) (kept : (t : ℕ) (o : Operation) (es : Codes) → AllFew m t es → Few m t (operation o es)) where
  mutual
    code_kept : (e : Code) (t : ℕ) → Few m t e → Few m t (code_in slots operation e)
    code_kept (Do o es) t h = kept t o (codes_in slots operation es) (codes_kept es t h)
    code_kept (Over l es) t h = codes_kept es t h
    code_kept (Compare c a b) t h = (code_kept a t h.0, code_kept b (suc t) h.1)
    code_kept (Call f es) t h = (h.0, codes_kept es t h.1)
    code_kept Ask t h = tt
    code_kept (AskLine s) t h = code_kept s (suc (suc t)) h
    code_kept (FileLine e s) t h = (code_kept e t h.0, code_kept s (suc (suc t)) h.1)
    code_kept (Replace all es s) t h = (codes_kept es t h.0, code_kept s (suc (suc t)) h.1)
    code_kept (Number z) t h = tt
    code_kept (Text i) t h = tt
    code_kept Unset t h = tt
    code_kept (Get x) t h = tt
    code_kept (Set x e) t h = code_kept e t h
    code_kept (Array a) t h = tt
    code_kept (IsOpen i) t h = tt
    code_kept (Choose s c a b) t h = (code_kept c t h.0, (code_kept a t h.1.0, code_kept b t h.1.1))
    code_kept (Seq a b) t h = (code_kept a t h.0, code_kept b t h.1)
    code_kept (Let a b) t h = (code_kept a t h.0, code_kept b (suc t) h.1)
    code_kept (Bound z i) t h = tt

    codes_kept : (es : Codes) (t : ℕ) → AllFew m t es → AllFew m t (codes_in slots operation es)
    codes_kept End t h = tt
    codes_kept (At e es) t h = (code_kept e t h.0, codes_kept es (suc t) h.1)
    codes_kept (Fixed n es) t h = codes_kept es t h
    codes_kept (Fresh es) t h = codes_kept es t h

  mutual
    step_kept : (s : Step) → StepFew m s → StepFew m (step_in slots operation s)
    step_kept (Eval e) h = code_kept e zero h
    step_kept (Block ss) h = steps_kept ss h
    step_kept (If e a b) h = (code_kept e zero h.0, (step_kept a h.1.0, step_kept b h.1.1))
    step_kept (Loop first e a b) h = (code_kept e zero h.0, (step_kept a h.1.0, step_kept b h.1.1))
    step_kept (Each a e s) h = (code_kept e 1 h.0, step_kept s h.1)
    step_kept Break h = tt
    step_kept Continue h = tt
    step_kept Next h = tt
    step_kept Exit h = tt
    step_kept (ExitWith e) h = code_kept e zero h
    step_kept (Return e) h = code_kept e zero h
    step_kept (Mark i b) h = tt

    steps_kept : (ss : Steps) → StepsFew m ss → StepsFew m (steps_in slots operation ss)
    steps_kept NoStep h = tt
    steps_kept (Then s ss) h = (step_kept s h.0, steps_kept ss h.1)

-- constant parts

reduced_few : (m t : ℕ) (o : Operation) (es : Codes) → AllFew m t es → Few m t (reduced o es)
reduced_few m t o es h = by (value_of o es)
  where
    by : (v : Option AnyNumber) → Few m t (reduced_to v o es)
    by (Some n) = tt
    by None = h

folded_steps_few : (m : ℕ) (ss : Steps) → StepsFew m ss → StepsFew m (steps_in same reduced ss)
folded_steps_few m ss h = steps_kept same reduced m (reduced_few m) ss h

folded_routines_few : (ns : List ℕ) (rs : List Routine) → RoutinesFew ns rs → RoutinesFew ns (map folded_routine rs)
folded_routines_few [] [] h = tt
folded_routines_few [] (r ∷ rs) h = absurd h
folded_routines_few (n ∷ ns) [] h = absurd h
folded_routines_few (n ∷ ns) (r ∷ rs) h = (folded_steps_few n r.body h.0, folded_routines_few ns rs h.1)

-- names

named_steps_few : (m : ℕ) (slots : Slot → Slot) (ss : Steps) → StepsFew m ss → StepsFew m (steps_in slots Do ss)
named_steps_few m slots ss h = steps_kept slots Do m (λ t o es k. k) ss h

named_routines_few : (gs : List Kind) (ps : ℕ → List Kind) (ns : List ℕ) (rs : List Routine) → RoutinesFew ns rs → RoutinesFew ns (routines_with gs ps rs)
named_routines_few gs ps [] [] h = tt
named_routines_few gs ps [] (r ∷ rs) h = absurd h
named_routines_few gs ps (n ∷ ns) [] h = absurd h
named_routines_few gs ps (n ∷ ns) (r ∷ rs) h = (named_steps_few n (slot_in gs (ps zero)) r.body h.0, named_routines_few gs (λ f. ps (suc f)) ns rs h.1)

abbrev FewIn : List ℕ → ℕ → Program → Type 0
FewIn ns m p = RoutinesFew ns p.routines × PartsFew m p

folded_few : (ns : List ℕ) (m : ℕ) (p : Program) → FewIn ns m p → FewIn ns m (fold p)
folded_few ns m p h = (folded_routines_few ns p.routines h.0, (folded_steps_few m p.begin h.1.0, (folded_steps_few m p.items h.1.1.0, folded_steps_few m p.end h.1.1.1)))

applied_few : (ns : List ℕ) (m : ℕ) (l : Lanes) (p : Program) → FewIn ns m p → FewIn ns m (apply l p)
applied_few ns m l p h = (
  named_routines_few l.globals _ ns p.routines h.0,
  (named_steps_few m (slot_in l.globals []) p.begin h.1.0, (named_steps_few m (slot_in l.globals []) p.items h.1.1.0, named_steps_few m (slot_in l.globals []) p.end h.1.1.1)),
)

-- A SCRIPT'S CODE: where a statement begins callers have few operands pending
pub few_operands : (script : Resolved) (code : Program) → code ≡ unboxed (program_of script) → (c : Conf) (s : HostState) (here : AtStatement code c s) → FewAlive (nodes_of script) code c s here
few_operands script code e c s here =
    let ns = map (λ (f : Function). stmts_nodes f.body) script.functions in
    let m = items_nodes script.items in
    let plain = fold (program_of script) in
    let few = subst (λ (p : Program). FewIn ns m p) (sym e) (applied_few ns m (infer plain) plain (folded_few ns m (program_of script) (script_few script))) in
    few_alive code ns m few.0 few.1 c s here
