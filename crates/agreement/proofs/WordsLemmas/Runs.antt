-- SO ON A RUN: where a program does not name ARGV, ARGV has the job's operands wherever a run of its module may come to, the host has a front of the script's names, and each assignment to a name comes from a
-- word of the job that assigns to it.
use Rattle.std.proofs.Common.{◌≡◌, ◌⊎◌, inl, inr, ℕ, zero, suc, ◌+◌, ◌≤◌, ◌<◌, ◌-◌, Bool, true, false, ◌&&◌, ◌||◌, nat_eq, nat_le, nat_lt, List, [], ◌∷◌, ◌++◌, length, map, Option, Some, None, append-nil, refl, sym, ap, ◌∙◌, subst, arith, slice_get}
use Rattle.std.specs.List.{Contains}
use Rattle.std.specs.Prelude.{codes, decimal, if◌then◌else◌, T}
use Rattle.std.proofs.lemmas.Bool.{and_parts, eqb-true, leb-false, leb-true, ltb-true}
use Rattle.std.proofs.lemmas.List.Elements.{Contains-append_right}
use Rattle.std.proofs.lemmas.Slice.Eq.{bytes_eq-Decides}
use Rattle.std.proofs.lemmas.Option.{get_or_from_slice_get}
use Rattle.awk_values.specs.declared.fault.Fault.{Fault}
use Rattle.awk_values.specs.declared.value.Value.TheVariants.{StrNum}
use Rattle.sem_primitives.specs.ArrayMeaning.{element}
use Rattle.sem_primitives.specs.Assignments.{assignment_of}
use Rattle.sem_primitives.specs.InputParts.{text_or_none}
use Rattle.sem_primitives.specs.Jobs.{JobForm, Environment, arguments_from, fault_of_job}
use Rattle.sem_primitives.specs.SharedState.{Pairs}
use Rattle.sem_primitives.specs.Texts.{same_text}
use Rattle.world_core.specs.WorldState.{Action, Source}
use Rattle.wasm_model.specs.Links.{IsNew}
use Rattle.wasm_model.specs.Machines.{ProgramForm}
use Rattle.wasm_model.specs.Machines as real
use Rattle.wasm_model.specs.Runs.{MachineForm, Steps}
use Rattle.host_step.specs.HostState.{HostState}
use Rattle.host_imports.specs.Imports.{host_finds}
use Rattle.host_step.specs.Starts.{state_in}
use Rattle.mid_program.specs.Mid.{Kind, Program, Routine, parameters_at}
use Rattle.sem_scripts.specs.ScriptRun.{Setting, setting_in}
use Rattle.mid_program.specs.Sorted.{Context, IsSorted, all_differ, announced_names, are_lenders, context_of, is_sorted, kinds_of, parts_sorted, routines_sorted, steps_sorted}
use Rattle.lower_model.specs.Cells.{cell_at}
use Rattle.lower_model.specs.Emission.{Layout}
use Rattle.lower_model.specs.Functions.{layout_of, main_bases, main_callee, routine_bases, routine_callee}
use Rattle.lower_model.specs.Machine.{Callee, Code, Conf, Deep, Look, Over, Run, Store, Stuck, at, ending_at, go, step, zeros}
use Rattle.lower_model.specs.Modules.{called_imports, module_of}
use Rattle.lower_model.specs.Places.{text_global}
use Rattle.lower_model.specs.Runs.{begun, code_of, empty_names, first_globals, host_at_start, zero_ranges}
use Rattle.lower_model.proofs.Announcing.{Telling}
use Rattle.lower_model.proofs.Runs.{go_add}
use Rattle.agreement.specs.Refined.Refined.{As, Linked}
use Rattle.agreement.specs.Modules.TableMeaning.{table_meaning}
use Rattle.agreement.specs.Refined.Words.{state_with}
use Rattle.agreement.proofs.RefinedLemmas.ImportAnswers.{some_of}
use Rattle.agreement.proofs.RefinedLemmas.Beginning.{begins, begun_as, in_main, taken_first}
use Rattle.agreement.proofs.RefinedLemmas.Growing.{arrays_grow}
use Rattle.agreement.proofs.RefinedLemmas.Links.{linked, program_is, stays}
use Rattle.agreement.proofs.RefinedLemmas.Running.{steps_as}
use Rattle.agreement.specs.Modules.ValueAgreement.{ValueAgreement}
use Rattle.agreement.proofs.ModulesLemmas.Stores.{InStore, store_there}
use Rattle.agreement.specs.Places.Assigned.{IsAssigned, IsOperand, IsOption, IsWord, Somewhere}
use Rattle.agreement.specs.Places.NoLeaks.{Reached, first_name}
use Rattle.agreement.proofs.PlacesLemmas.FromWords.{from_words}
use Rattle.agreement.specs.Words.Naming.{program_names, routines_name, steps_name}
use Rattle.agreement.specs.Words.Words.{Assigns, AssignsName, IsArgument}
use Rattle.agreement.proofs.WordsLemmas.Begun.{AllTold, all_names, all_told, exit, to_come}
use Rattle.agreement.proofs.WordsLemmas.Bodies.{exit_spares, locals_set, main_spares, routine_spares, script_code, script_spares}
use Rattle.agreement.proofs.WordsLemmas.Calls.{HasArgv}
use Rattle.agreement.proofs.WordsLemmas.Emitting.{Always, or_none}
use Rattle.agreement.proofs.WordsLemmas.Steps.{BodySpares, Good, at_good, step_good}
use Rattle.agreement.proofs.WordsLemmas.Tags.{is_name, is_other, is_set}
use Rattle.agreement.proofs.WordsLemmas.Told.{EndsEarly, HasFront, IsFront, early_on, front_before, named_there}

-- The functions of a program.

abbrev size_in : List Routine → ℕ → Option ℕ
size_in [] k = None
size_in (r ∷ rs) zero = Some (length r.parameters)
size_in (r ∷ rs) (suc k) = size_in rs k

abbrev calls_in : List Routine → List (List Kind)
calls_in rs = map (λ (r : Routine). r.parameters) rs

sized_in : (rs : List Routine) (f : ℕ) → f < length (calls_in rs) → size_in rs f ≡ Some (length (parameters_at (calls_in rs) f))
sized_in [] f l = absurd (omega (arith, l))
sized_in (r ∷ rs) zero l = refl
sized_in (r ∷ rs) (suc f) l = sized_in rs f (omega (arith, l))

sized : (p : Program) (f : ℕ) → nat_lt f (length (calls_in p.routines)) ≡ true → size_in p.routines f ≡ Some (length (parameters_at (calls_in p.routines) f))
sized p f e = sized_in p.routines f (ltb-true f (length (calls_in p.routines)) e)

names_other : (ks : List Kind) (x : ℕ) → is_other (cell_at (empty_names ks) x) ≡ true
names_other [] x = refl
names_other (k ∷ ks) zero = refl
names_other (k ∷ ks) (suc zero) = refl
names_other (k ∷ ks) (suc (suc x)) = names_other ks x

behind_ranges : (r : ℕ) (ks : List Kind) (x : ℕ) → r ≤ x → is_other (cell_at (zero_ranges r ++ empty_names ks) x) ≡ true
behind_ranges zero ks x l = names_other ks x
behind_ranges (suc r) ks zero l = absurd (omega (arith, l))
behind_ranges (suc r) ks (suc x) l = behind_ranges r ks x (omega (arith, l))

abbrev sizes_of : Program → ℕ → Option ℕ
sizes_of p f = size_in p.routines f

globals_other : (p : Program) (x : ℕ) → is_name (first_name p) x ≡ true → is_other (cell_at (first_globals p) x) ≡ true
globals_other p zero e = let l = leb-true (first_name p) zero e in absurd (omega (arith, l))
globals_other p (suc zero) e = let l = leb-true (first_name p) 1 e in absurd (omega (arith, l))
globals_other p (suc (suc zero)) e = refl
globals_other p (suc (suc (suc x))) e = by (nat_eq (suc (suc (suc x))) text_global) refl e
  where
    by : (z : Bool) → nat_eq (suc (suc (suc x))) text_global ≡ z → z || nat_le (first_name p) (suc (suc (suc x))) ≡ true → is_other (cell_at (first_globals p) (suc (suc (suc x)))) ≡ true
    by true h q = let m = eqb-true (suc (suc (suc x))) text_global h in absurd (omega (arith, m))
    by false h q = let l = leb-true (first_name p) (suc (suc (suc x))) q in behind_ranges p.ranges (kinds_of p.globals) x (omega (arith, l))

module _ (tells : Bool) (p : Program) (argv : Pairs) (told : List Telling) where
  abbrev u : Code
  u = code_of p 9999

  body_spares : (r : Routine) → steps_sorted (context_of p r.parameters) true false r.body ≡ true → steps_name r.body ≡ false → BodySpares tells u argv told (sizes_of p) (routine_callee p r)
  body_spares r s n =
      let y = layout_of p (routine_bases r) in
      ((routine_spares tells y (sizes_of p) p r.parameters (sized p) refl refl r.parameters r.body s n).so [], locals_set tells y (sizes_of p) p r.parameters (sized p) refl refl _)

  bodies : (rs : List Routine) (k : ℕ) (f : Callee) → slice_get (map (routine_callee p) rs) k ≡ Some f → routines_sorted p rs ≡ true → routines_name rs ≡ false → (size_in rs k ≡ Some (length f.kinds)) × BodySpares tells u argv told (sizes_of p) f
  bodies [] k f e s n = cc
  bodies (r ∷ rs) zero f e s n =
      let s1 = and_parts (steps_sorted (context_of p r.parameters) true false r.body) (routines_sorted p rs) s in
      let n1 = or_none (steps_name r.body) (routines_name rs) n in
      subst (λ g. (Some (length r.parameters) ≡ Some (length g.kinds)) × BodySpares tells u argv told (sizes_of p) g) (some_of (routine_callee p r) f e) (refl, body_spares r s1.0 n1.0)
  bodies (r ∷ rs) (suc k) f e s n =
      bodies rs k f e (and_parts (steps_sorted (context_of p r.parameters) true false r.body) (routines_sorted p rs) s).1 (or_none (steps_name r.body) (routines_name rs) n).1

-- An element of ARGV, as the job made it, that is an assignment is an operand of the job: the first one is `awk`.

later_operand : {name : List ℕ} (text : List ℕ) (texts : List (List ℕ)) → (o : List ℕ) × (t : List ℕ) × Contains texts o × (assignment_of o ≡ Some (name, t)) → (o : List ℕ) × (t : List ℕ) × Contains (text ∷ texts) o × (assignment_of o ≡ Some (name, t))
later_operand text texts h = (h.0, h.1, Contains-append_right (text ∷ []) texts h.0 h.2, h.3)

element_assigns : (key : List ℕ) (n : ℕ) (texts : List (List ℕ)) (name text : List ℕ) → assignment_of (text_or_none (element key (arguments_from n texts))) ≡ Some (name, text) → (o : List ℕ) × (t : List ℕ) × Contains texts o × (assignment_of o ≡ Some (name, t))
element_assigns key n [] name text e = cc
element_assigns key n (first ∷ texts) name text e = by (same_text key (decimal n)) (λ q. element_assigns key (n + 1) texts name text q) e
  where
    by : (b : Bool) → (assignment_of (text_or_none (element key (arguments_from (n + 1) texts))) ≡ Some (name, text) → (o : List ℕ) × (t : List ℕ) × Contains texts o × (assignment_of o ≡ Some (name, t))) → assignment_of (text_or_none (if b then Some (StrNum first) else element key (arguments_from (n + 1) texts))) ≡ Some (name, text) → (o : List ℕ) × (t : List ℕ) × Contains (first ∷ texts) o × (assignment_of o ≡ Some (name, t))
    by true later q = (first, text, (zero, omega arith, refl), q)
    by false later q = later_operand first texts (later q)

awk_assigns_not : assignment_of (codes "awk") ≡ None
awk_assigns_not = refl

abbrev first_argv : JobForm → Pairs
first_argv job = arguments_from 0 (codes "awk" ∷ job.operands)

operand_assigns : (job : JobForm) (key name text : List ℕ) → assignment_of (text_or_none (element key (first_argv job))) ≡ Some (name, text) → IsArgument job name
operand_assigns job key name text e = by (same_text key (decimal 0)) e
  where
    by : (b : Bool) → assignment_of (text_or_none (if b then Some (StrNum (codes "awk")) else element key (arguments_from (0 + 1) job.operands))) ≡ Some (name, text) → IsArgument job name
    by true q = let h = sym awk_assigns_not ∙ q in cc
    by false q = element_assigns key (0 + 1) job.operands name text q

-- Places of a run.

from_T : (b : Bool) → T b → b ≡ true
from_T true t = refl
from_T false t = absurd t

-- where it was so a run had come to
place_of : (P : HostState → Type 0) (m : ProgramForm) (n : ℕ) (c : real.Conf) (s : HostState) (out : List Action) (c1 : real.Conf) (s1 : HostState) (way : Steps table_meaning m n c s out c1 s1) → Somewhere P m n c s out c1 s1 way →
    (k : ℕ) × (o : List Action) × (d : real.Conf) × (t : HostState) × Steps table_meaning m k c s o d t × P t
place_of P m zero c s out c1 s1 way h = (zero, [], c, s, (refl, refl, refl), h)
place_of P m (suc n) c s out c1 s1 way (inl h) = (zero, [], c, s, (refl, refl, refl), h)
place_of P m (suc n) c s out c1 s1 way (inr h) =
    let r = place_of P m n way.0 way.1 way.3 c1 s1 way.5 h in
    (suc r.0, way.2 ++ r.1, r.2, r.3, (way.0, way.1, way.2, r.1, way.4, r.4, refl), r.5)

in_state : (argv : Pairs) (G : Store) (s : HostState) → s ≡ state_with s.names G.host → HasArgv argv G.host.shared.inner.arrays → HasArgv argv s.shared.inner.arrays
in_state argv G s e h = ap (λ (z : HostState). slice_get z.shared.inner.arrays 0) e ∙ h

-- the host's names there are a front of all
in_names : (all : List Telling) (G : Store) (s : HostState) → s ≡ state_with s.names G.host → HasFront all G → IsFront all s.shared.inner.names
in_names all G s e h = (h.0, ap (λ (z : HostState). z.shared.inner.names ++ h.0) e ∙ h.1)

front_in : (all : List Telling) (u : Code) (used : ℕ → Bool) (bs : List Bool) (P : Conf) (c : real.Conf) (s : HostState) → As used bs u P c s → InStore (HasFront all) P → (P ≡ Stuck → ⊥) → IsFront all s.shared.inner.names
front_in all u used bs (Run ks vs K L F code G) c s a h alive = in_names all G s a.rest.host h
front_in all u used bs (Look x ks vs K L F code G) c s a h alive = in_names all G s a.run.rest.host h
front_in all u used bs (Over v G) c s a h alive = in_names all G s a.host h
front_in all u used bs (Deep G) c s a h alive = absurd a
front_in all u used bs Stuck c s a h alive = absurd (alive refl)

module _ (tells : Bool) (u : Code) (argv : Pairs) (told : List Telling) (sizes : ℕ → Option ℕ) (each : (k : ℕ) (f : Callee) → slice_get u.callees k ≡ Some f → (sizes k ≡ Some (length f.kinds)) × BodySpares tells u argv told sizes f) where
  go_good : (n : ℕ) (P : Conf) → Good tells u argv told sizes P → Good tells u argv told sizes (go u n P)
  go_good zero P h = h
  go_good (suc n) P h = go_good n (step u P) (step_good tells u argv told sizes each P h)

  argv_in : (used : ℕ → Bool) (bs : List Bool) (P : Conf) (c : real.Conf) (s : HostState) → As used bs u P c s → Good tells u argv told sizes P → (P ≡ Stuck → ⊥) → HasArgv argv s.shared.inner.arrays
  argv_in used bs (Run ks vs K L F code G) c s a h alive = in_state argv G s a.rest.host h.store.1.0
  argv_in used bs (Look x ks vs K L F code G) c s a h alive = in_state argv G s a.run.rest.host h.store.1.0
  argv_in used bs (Over v G) c s a h alive = in_state argv G s a.host h.1.0
  argv_in used bs (Deep G) c s a h alive = absurd a
  argv_in used bs Stuck c s a h alive = absurd (alive refl)

module _ (p : Program) (is : IsSorted p) (names : program_names p ≡ false) (agree : ValueAgreement p) (job : JobForm) (input : Source) (outside : Environment) where
  abbrev start : HostState
  start = state_in job input outside

  abbrev argv : Pairs
  argv = first_argv job

  abbrev set : Setting
  set = setting_in job input outside

  abbrev c0 : Context
  c0 = context_of p []

  abbrev lend : Bool
  lend = are_lenders (kinds_of p.globals) p.lenders

  s0 : (all_differ (announced_names p) ≡ true) × ((lend && (routines_sorted p p.routines && parts_sorted p c0)) ≡ true)
  s0 = and_parts (all_differ (announced_names p)) (lend && (routines_sorted p p.routines && parts_sorted p c0)) (from_T (is_sorted p) is)

  s1 : (routines_sorted p p.routines ≡ true) × (parts_sorted p c0 ≡ true)
  s1 = and_parts (routines_sorted p p.routines) (parts_sorted p c0) (and_parts lend (routines_sorted p p.routines && parts_sorted p c0) s0.1).1

  s2 : (steps_sorted c0 false false p.begin ≡ true) × ((steps_sorted c0 false false p.items && steps_sorted c0 false false p.end) ≡ true)
  s2 = and_parts (steps_sorted c0 false false p.begin) (steps_sorted c0 false false p.items && steps_sorted c0 false false p.end) s1.1

  s3 : (steps_sorted c0 false false p.items ≡ true) × (steps_sorted c0 false false p.end ≡ true)
  s3 = and_parts (steps_sorted c0 false false p.items) (steps_sorted c0 false false p.end) s2.1

  n1 : (routines_name p.routines ≡ false) × ((steps_name p.begin || (steps_name p.items || steps_name p.end)) ≡ false)
  n1 = or_none (routines_name p.routines) (steps_name p.begin || (steps_name p.items || steps_name p.end)) names

  n2 : (steps_name p.begin ≡ false) × ((steps_name p.items || steps_name p.end) ≡ false)
  n2 = or_none (steps_name p.begin) (steps_name p.items || steps_name p.end) n1.1

  n3 : (steps_name p.items ≡ false) × (steps_name p.end ≡ false)
  n3 = or_none (steps_name p.items) (steps_name p.end) n2.1

  abbrev u9 : Code
  u9 = code_of p 9999

  abbrev all : List Telling
  all = all_names p

  abbrev Fine : Bool → Conf → Type 0
  Fine tells P = Good tells u9 argv all (sizes_of p) P

  fine_on : (tells : Bool) (n : ℕ) (P : Conf) → Fine tells P → Fine tells (go u9 n P)
  fine_on tells n P h = go_good tells u9 argv all (sizes_of p) (λ k f e. bodies tells p argv all p.routines k f e s1.0 n1.0) n P h

  not_stuck : (n : ℕ) → go u9 n (begun p set) ≡ Stuck → ⊥
  not_stuck n h = let shows = agree.never_stuck set n in let q = sym (ap ending_at h) ∙ shows.1 in cc

  abbrev main_layout : Layout
  main_layout = layout_of p (main_bases p)

  -- the script's code, once its names are told
  script_spared : (tells : Bool) → Always tells main_layout (sizes_of p) false (script_code tells main_layout (sizes_of p) p [] (sized p) refl refl p)
  script_spared tells = script_spares tells main_layout (sizes_of p) p [] (sized p) refl refl p s2.0 s3.0 s3.1 n2.0 n3.0 n3.1

  first_good : Fine true (begun p set)
  first_good =
      let f = main_callee p in
      at_good true u9 argv all (sizes_of p) false [] [] [] [] (zeros f.locals) [] f.body (record { globals = first_globals p; host = host_at_start set; assigning = None }) tt
      ((main_spares true main_layout (sizes_of p) p [] (sized p) refl refl p refl (script_spared true)).so []) tt
      (λ x q. locals_set true main_layout (sizes_of p) p [] (sized p) refl refl _ x (subst (λ z. is_set f.body z ≡ false) (let h : x ≡ 0 + x = omega arith in h) q)) tt (globals_other p, (refl, λ t. cc))

  -- Names. With a fault none is told; else all are at a place, and no code that is left there tells another.

  fine_front : (P : Conf) → Fine false P → InStore (HasFront all) P
  fine_front (Run ks vs K L F c G) h = ([], append-nil G.host.shared.inner.names ∙ h.store.1.1 refl)
  fine_front (Look x ks vs K L F c G) h = ([], append-nil G.host.shared.inner.names ∙ h.store.1.1 refl)
  fine_front (Over v G) h = ([], append-nil G.host.shared.inner.names ∙ h.1.1 refl)
  fine_front (Deep G) h = ([], append-nil G.host.shared.inner.names ∙ h.1.1 refl)
  fine_front Stuck h = tt

  early_front : (f : Fault) (P : Conf) → InStore (EndsEarly f) P → InStore (HasFront all) P
  early_front f (Run ks vs K L F c G) h = (all, ap (λ z. z ++ all) h.1)
  early_front f (Look x ks vs K L F c G) h = (all, ap (λ z. z ++ all) h.1)
  early_front f (Over v G) h = (all, ap (λ z. z ++ all) h.1)
  early_front f (Deep G) h = (all, ap (λ z. z ++ all) h.1)
  early_front f Stuck h = tt

  module _ (fine : fault_of_job job ≡ None) where
    t : AllTold p set s0.0 fine
    t = all_told p set s0.0 fine

    abbrev there : Conf
    there = at [] [] (exit p set s0.0 fine) t.locals [] (to_come p set s0.0 fine) t.store

    all_there : InStore (HasFront all) there
    all_there = store_there (HasFront all) [] [] (exit p set s0.0 fine) t.locals [] (to_come p set s0.0 fine) t.store ([], append-nil t.store.host.shared.inner.names ∙ t.names)

    none_left : Fine true there → Fine false there
    none_left h = at_good false u9 argv all (sizes_of p) false [] [] [] (exit p set s0.0 fine) t.locals [] (to_come p set s0.0 fine) t.store tt ((script_spared false).so [])
        ((tt, (exit_spares false main_layout (sizes_of p) p [] (sized p) refl refl).so []), tt) (λ x q. h.locals x refl) tt (h.store.0, (h.store.1.0, λ e. t.names))

    fine_there : Fine false there
    fine_there = none_left (subst (Fine true) t.goes (fine_on true t.steps (begun p set) first_good))

    names_on : (n : ℕ) → InStore (HasFront all) (go u9 n (begun p set))
    names_on n = by (nat_le n t.steps) refl
      where
        by : (z : Bool) → nat_le n t.steps ≡ z → InStore (HasFront all) (go u9 n (begun p set))
        by true q =
            let j = t.steps - n in
            let l = leb-true n t.steps q in
            let m : n + j ≡ t.steps = omega (arith, l) in
            let e : go u9 j (go u9 n (begun p set)) ≡ there = sym (go_add u9 n j (begun p set)) ∙ (ap (λ i. go u9 i (begun p set)) m ∙ t.goes) in
            front_before u9 all j (go u9 n (begun p set)) (subst (InStore (HasFront all)) (sym e) all_there) (λ h. not_stuck (n + j) (go_add u9 n j (begun p set) ∙ h))
        by false q =
            let j = n - t.steps in
            let l = leb-false n t.steps q in
            let m : t.steps + j ≡ n = omega (arith, l) in
            let e : go u9 j there ≡ go u9 n (begun p set) = ap (go u9 j) (sym t.goes) ∙ (sym (go_add u9 t.steps j (begun p set)) ∙ ap (λ i. go u9 i (begun p set)) m) in
            subst (InStore (HasFront all)) e (fine_front (go u9 j there) (fine_on false j there fine_there))

  front_on : (n : ℕ) → InStore (HasFront all) (go u9 n (begun p set))
  front_on n = by (fault_of_job job) refl
    where
      by : (o : Option Fault) → fault_of_job job ≡ o → InStore (HasFront all) (go u9 n (begun p set))
      by None e = names_on e n
      by (Some f) e =
          let g = main_callee p in
          early_front f (go u9 n (begun p set)) (early_on u9 f n (begun p set) (store_there (EndsEarly f) [] [] [] (zeros g.locals) [] g.body (record { globals = first_globals p; host = host_at_start set; assigning = None }) (e, refl)))

  -- where the machine over values is after so many steps, and one more of the module's
  as_there : (m : MachineForm) → IsNew host_finds (module_of p) m → (n : ℕ) (out : List Action) (c : real.Conf) (s : HostState) → Steps table_meaning m.program (suc n) m.conf start out c s → As (stays p) (called_imports p) u9 (go u9 n (begun p set)) c s
  as_there m new n out c s way =
      let first = taken_first table_meaning m.program m.conf (in_main p) (begins p m new) start way.2 way.0 way.1 way.4 in
      let links = subst (λ (z : ProgramForm). Linked (stays p) (called_imports p) u9 z) (sym (program_is p m new)) (linked p) in
      let at_first = subst (λ (z : real.Conf). As (stays p) (called_imports p) u9 (begun p set) z way.1) (sym first.0)
      (subst (λ (z : HostState). As (stays p) (called_imports p) u9 (begun p set) (in_main p) z) (sym first.1) (begun_as p set 9999)) in
      steps_as links arrays_grow n (begun p set) way.0 way.1 way.3 c s at_first way.5

  -- ARGV IS WHAT THE JOB MADE OF IT, wherever a run may come to
  pub argv_there : (m : MachineForm) (c : real.Conf) (s : HostState) → Reached (module_of p) job input outside m c s → HasArgv argv s.shared.inner.arrays
  argv_there m c s reached = by reached.steps reached.taken
    where
      by : (n : ℕ) → Steps table_meaning m.program n m.conf start reached.output c s → HasArgv argv s.shared.inner.arrays
      by zero way = ap (λ (z : HostState). slice_get z.shared.inner.arrays 0) way.1
      by (suc n) way = argv_in true u9 argv all (sizes_of p) (λ k f e. bodies true p argv all p.routines k f e s1.0 n1.0) (stays p) (called_imports p) (go u9 n (begun p set)) c s
          (as_there m reached.is_new n reached.output c s way) (fine_on true n (begun p set) first_good) (not_stuck n)

  -- THE HOST HAS A FRONT OF THE SCRIPT'S NAMES there
  pub names_there : (m : MachineForm) (c : real.Conf) (s : HostState) → Reached (module_of p) job input outside m c s → IsFront all s.shared.inner.names
  names_there m c s reached = by reached.steps reached.taken
    where
      by : (n : ℕ) → Steps table_meaning m.program n m.conf start reached.output c s → IsFront all s.shared.inner.names
      by zero way = (all, ap (λ (z : HostState). z.shared.inner.names ++ all) way.1)
      by (suc n) way = front_in all u9 (stays p) (called_imports p) (go u9 n (begun p set)) c s (as_there m reached.is_new n reached.output c s way) (front_on n) (not_stuck n)

  -- a word by which a name is assigned there is one of the job
  job_word : (name : List ℕ) (s : HostState) → HasArgv argv s.shared.inner.arrays → IsOption job name ⊎ IsOperand name s → Assigns job name
  job_word name s h (inl q) = inl q
  job_word name s h (inr q) =
      inr (operand_assigns job (decimal q.0) name q.1 (ap (λ (z : Pairs). assignment_of (text_or_none (element (decimal q.0) z))) (sym (get_or_from_slice_get s.shared.inner.arrays 0 argv [] h)) ∙ q.2))

  -- and it is the name that has this number
  word_there : (i : ℕ) (s : HostState) → HasArgv argv s.shared.inner.arrays → IsFront all s.shared.inner.names → IsWord job i s → AssignsName p job i
  word_there i s h f (name, told, word) =
      let r = named_there name i 0 p.globals p.routines s.shared.inner.names f.0 f.1 told in
      let e = r.1 in
      let k : r.0 ≡ i = omega (arith, e) in
      (r.2, subst (λ k. slice_get p.globals k ≡ Some r.2) k r.3, subst (Assigns job) ((bytes_eq-Decides name r.2.name).0 r.4) (job_word name s h word))

  -- EACH ASSIGNMENT to a name comes from a word of the job that assigns to it
  pub assigned_by_job : (m : MachineForm) (c : real.Conf) (s : HostState) (reached : Reached (module_of p) job input outside m c s) → (i : ℕ) → IsAssigned reached i → AssignsName p job i
  assigned_by_job m c s reached i assigned =
      let r = place_of (IsWord job i) m.program reached.steps m.conf start reached.output c s reached.taken (from_words p agree job input outside m c s reached i assigned) in
      let there : Reached (module_of p) job input outside m r.2 r.3 = record { is_new = reached.is_new; steps = r.0; output = r.1; taken = r.4 } in
      word_there i r.3 (argv_there m r.2 r.3 there) (names_there m r.2 r.3 there) r.5
