-- NOTHING IS KEPT: where a statement begins the machine over values is not stuck, so it is tidy there; and the numbers that the host has are those that its places own.
use Rattle.std.proofs.Common.{◌≡◌, inl, inr, ℕ, zero, suc, ◌+◌, Bool, true, false, ◌&&◌, nat_eq, List, [], ◌∷◌, drop, length, Some, refl, sym, ap, ◌∙◌, subst, arith}
use Rattle.std.specs.List.{All}
use Rattle.std.proofs.lemmas.Bool.{and_parts, eqb-true}
use Rattle.sem_primitives.specs.Jobs.{JobForm, Environment}
use Rattle.world_core.specs.WorldState.{Source}
use Rattle.wasm_types.specs.Syntax.{BrTable, Block, Done, If, Instructions, Loop, Plain, Then}
use Rattle.wasm_types.specs.declared.instr.Simple.{Simple}
use Rattle.wasm_types.specs.declared.instr.Simple.TheVariants as simple
use Rattle.wasm_store.specs.declared.word.Word.{Word}
use Rattle.wasm_store.specs.declared.word.Word.TheVariants.{I32}
use Rattle.wasm_model.specs.Frames.{FrameForm, settled_code, settled_values}
use Rattle.wasm_model.specs.Machines as real
use Rattle.wasm_model.specs.Machines.{Ends, Goes, ProgramForm, Turn, turn}
use Rattle.wasm_model.specs.Runs.{MachineForm, OverBy, Steps}
use Rattle.wasm_model.specs.declared.ends.End.TheVariants as ends
use Rattle.host_step.specs.HostState.{HostState, Names}
use Rattle.host_step.specs.Starts.{state_in}
use Rattle.mid_program.specs.Mid.{Kind, Program}
use Rattle.mid_program.specs.Sorted.{IsSorted}
use Rattle.sem_scripts.specs.ScriptRun.{Setting, setting_in}
use Rattle.lower_model.specs.Cells.{Cell, globals_by, iterators_in, marks_fit, tidy_locals, tidy_name}
use Rattle.lower_model.specs.Functions.{main_callee}
use Rattle.lower_model.specs.Machine.{Code, Conf, Deep, Frame, Label, Look, Over, Run, Store, Stuck, at, ending_at, go, guarded, is_empty, loops_walked, noted, step, tidy, ending_name}
use Rattle.lower_model.specs.Modules.{all_callees, called_imports, globals_of, module_of, renumbered, renumbered_simple}
use Rattle.lower_model.specs.Runs.{begun, code_of}
use Rattle.lower_model.proofs.Runs.{go_add}
use Rattle.agreement.specs.Refined.Owners.{OwnedOnce}
use Rattle.agreement.specs.Refined.Refined.{As, EndAs, LeftAs, RunAs}
use Rattle.agreement.specs.Modules.TableMeaning.{table_meaning}
use Rattle.agreement.specs.Refined.Words.{ArraysFit, WordsAs, arrays_made}
use Rattle.agreement.proofs.RefinedLemmas.Beginning.{begins, begun_as, in_main, steps_after}
use Rattle.agreement.proofs.RefinedLemmas.Growing.{arrays_grow}
use Rattle.agreement.proofs.RefinedLemmas.Links.{linked, program, program_is, stays}
use Rattle.agreement.proofs.RefinedLemmas.Running.{steps_as}
use Rattle.agreement.proofs.RefinedLemmas.Stepping.{step_as}
use Rattle.agreement.specs.Modules.ValueAgreement.{ValueAgreement}
use Rattle.agreement.specs.Places.NoLeaks.{AtReturn, AtStatement, BareParameters, CallersWait, IsCalled, LocalsHold, NumbersStand, Reached, begins_statement}
use Rattle.agreement.proofs.PlacesLemmas.Begun.{OfFunction, fits_on, some_within}
use Rattle.agreement.proofs.PlacesLemmas.Counting.{ending_globals, exact_globals, held, held_waiting, holders_same, local_iterators, tidy_globals, tidy_held, waiting_same}
use Rattle.agreement.proofs.PlacesLemmas.Fitting.{Fits}
use Rattle.agreement.proofs.PlacesLemmas.Marks.{names_marked, parameters_bare, words_behind}
use Rattle.std.specs.List.{Contains}
use Rattle.agreement.specs.Places.Places.{IsWithin}
use Rattle.agreement.specs.Places.Statements.{starts_in}
use Rattle.agreement.proofs.PlacesLemmas.Working.{Stands, stands_at, stands_on}
use Rattle.agreement.proofs.PlacesLemmas.Waiting.{callers_wait, each_called, walks_same}
use Rattle.agreement.proofs.PlacesLemmas.Numbers.{AreTables, first_tables, steps_tables}
use Rattle.agreement.proofs.PlacesLemmas.Totals.{held_each}

none_empty : {A : Type 0} → (xs : List A) → is_empty xs ≡ true → xs ≡ []
none_empty [] e = refl
none_empty (x ∷ xs) e = cc

-- calls alone are numbered anew
nop_same : (bs : List Bool) (p : Simple) (j k : Instructions) → begins_statement (Then (Plain (renumbered_simple bs p)) j) ≡ begins_statement (Then (Plain p) k)
nop_same bs (simple.Call n) j k = refl
nop_same bs p j k = refl

pub begins_same : (bs : List Bool) (code : Instructions) → begins_statement (renumbered bs code) ≡ begins_statement code
begins_same bs Done = refl
begins_same bs (Then (Plain p) k) = nop_same bs p (renumbered bs k) k
begins_same bs (Then (BrTable ns n) k) = refl
begins_same bs (Then (Block r a) k) = refl
begins_same bs (Then (Loop r a) k) = refl
begins_same bs (Then (If r a b) k) = refl

-- a statement's code, and the operands before it, are what they are
pub settled_nop : (code : Instructions) → begins_statement code ≡ true → settled_code code ≡ code
settled_nop Done e = cc
settled_nop (Then (Plain simple.Nop) k) e = refl
settled_nop (Then i k) e = cc

operands_nop : (vs : List Word) (code : Instructions) → begins_statement code ≡ true → settled_values vs code ≡ vs
operands_nop vs Done e = cc
operands_nop vs (Then (Plain simple.Nop) k) e = refl
operands_nop vs (Then i k) e = cc

-- where a statement's code is not stuck everything is tidy
pub tidy_there : (u : Code) (ks : List Kind) (vs : List Cell) (K : List Label) (L : List Cell) (F : List Frame) (code : Instructions) (G : Store) → begins_statement code ≡ true →
    (step u (Run ks vs K L F code G) ≡ Stuck → ⊥) → tidy u ks vs K L G ≡ true
tidy_there u ks vs K L F Done G e alive = cc
tidy_there u ks vs K L F (Then (Plain simple.Nop) k) G e alive = by (tidy u ks vs K L G) alive
  where
    by : (b : Bool) → (guarded b (at ks vs K L F k (noted u (Then (Plain simple.Nop) k) G)) ≡ Stuck → ⊥) → b ≡ true
    by true h = refl
    by false h = absurd (h refl)
tidy_there u ks vs K L F (Then i k) G e alive = cc

-- nothing looks where a statement begins
pub no_look : (u : Code) (x : ℕ) (ks : List Kind) (vs : List Cell) (K : List Label) (L : List Cell) (F : List Frame) (code : Instructions) (G : Store) → begins_statement code ≡ true →
    (step u (Look x ks vs K L F code G) ≡ Stuck → ⊥) → ⊥
no_look u x ks vs K L F Done G e alive = cc
no_look u x ks vs K L F (Then (Plain simple.Nop) k) G e alive = alive refl
no_look u x ks vs K L F (Then i k) G e alive = cc

-- How much is alive.

module _ (p : Program) where
  abbrev u : Code
  u = code_of p 9999

  abbrev AsThere : Conf → real.Conf → HostState → Type 0
  AsThere P c s = As (stays p) (called_imports p) u P c s

  abbrev TidyAt : List Kind → List Cell → List Label → List Cell → Store → Type 0
  TidyAt ks vs K L G = tidy u ks vs K L G ≡ true

  -- the words of the operands
  no_words : (made : ℕ) (N : Names) (vs : List Cell) (ws : List Word) → vs ≡ [] → WordsAs made N vs ws → ws ≡ []
  no_words made N [] [] e a = refl
  no_words made N [] (w ∷ ws) e a = absurd a
  no_words made N (v ∷ vs) ws e a = cc

  numbers_stand : (made : ℕ) (N : Names) → AreTables N → ArraysFit made N.arrays → NumbersStand N
  numbers_stand made N tables fit = record { values = tables.values; arrays = tables.arrays; iterators = tables.iterators; argv = fit.argv; environ = fit.environ }

  -- where a statement begins
  at_statement : (ks : List Kind) (K : List Label) (L : List Cell) (F : List Frame) (code : Instructions) (G : Store) (ws : List Word) (rcode : Instructions) (c : real.Conf) (s : HostState) →
      RunAs (stays p) (called_imports p) u [] K L F code G ws rcode c s → c.frame.values ≡ [] → TidyAt ks [] K L G → (own : OfFunction p ks) →
      Contains (starts_in own.0.body) code → c.frame.code ≡ renumbered (called_imports p) code → (callers : CallersWait p (held_waiting F) c.callers) →
      IsCalled p own.0 (held_waiting F) c.callers callers → AreTables s.names → AtStatement p c s
  at_statement ks K L F code G ws rcode c s a none tidy-is own place same callers chain tables =
      let split = and_parts (is_empty {A = Cell} [] && is_empty G.host.arguments) ((tidy_locals ks L && nat_eq (iterators_in L) (loops_walked K)) && (globals_by tidy_name u.before u.names G.globals && marks_fit u.names (drop u.before G.globals))) tidy-is in
      let inner = and_parts (tidy_locals ks L && nat_eq (iterators_in L) (loops_walked K)) (globals_by tidy_name u.before u.names G.globals && marks_fit u.names (drop u.before G.globals)) split.1 in
      let named = and_parts (globals_by tidy_name u.before u.names G.globals) (marks_fit u.names (drop u.before G.globals)) inner.1 in
      let walks = and_parts (tidy_locals ks L) (nat_eq (iterators_in L) (loops_walked K)) inner.0 in
      let names = tidy_globals u.before u.names G.globals named.0 in
      let locals = tidy_held ks L walks.0 in
      let once : OwnedOnce s.names [] [] L c.frame.locals G.globals c.globals F c.callers = (λ t q. a.once t q) in
      let made = arrays_made G.host in
      let i1 = local_iterators L in
      let i3 = eqb-true (iterators_in L) (loops_walked K) walks.1 in
      let i4 = walks_same p (arrays_made G.host) s.names K c.frame.labels a.rest.labels in
      record {
        at = record {
          function = own.0;
          statement = code;
          is_statement = place;
          at_work = same;
          operands = none;
          arguments = ap (λ (z : HostState). z.arguments) a.rest.host ∙ none_empty G.host.arguments split.0;
        };
        held = record {
          globals = held G.globals;
          own = held L;
          waiting = held_waiting F;
          each_global = held_each made s.names G.globals c.globals a.rest.globals;
          each_local = held_each made s.names L c.frame.locals a.rest.locals;
          numbers = numbers_stand made s.names tables a.rest.arrays;
          once = λ t q.
              let x = holders_same t q L c.frame.locals in
              let y = holders_same t q G.globals c.globals in
              let z = waiting_same t q F c.callers in
              let e = once t q in
              omega (arith, x, y, z, e);
        };
        by_kinds = record {
          names_hold = names;
          marked = names_marked (arrays_made G.host) s.names u.names (drop u.before G.globals) (drop u.before c.globals) (words_behind (arrays_made G.host) s.names u.before G.globals c.globals a.rest.globals) named.1;
          locals_hold = subst (λ k. LocalsHold k (held L)) (sym own.2) locals;
          bare = subst (λ k. BareParameters k c.frame.locals) (sym own.2) (parameters_bare (arrays_made G.host) s.names ks L c.frame.locals a.rest.locals walks.0);
          walked = i1 ∙ (i3 ∙ sym i4);
        };
        called_by = record { waits = callers; is_called = chain };
      }

  -- where `main` has returned
  at_return : (v : Cell) (G : Store) (c : real.Conf) (s : HostState) → LeftAs (stays p) (called_imports p) u v G c s → globals_by (ending_name G.host.fault) u.before u.names G.globals ≡ true → AreTables s.names → AtReturn p c s
  at_return v G c s a ended tables =
      let names = ending_globals G.host.fault u.before u.names G.globals ended in
      let made = arrays_made G.host in
      record {
        globals = held G.globals;
        numbers = numbers_stand made s.names tables a.arrays;
        once = λ t q. let x = holders_same t q G.globals c.globals in let e = a.once t q in omega (arith, x, e);
        each_global = held_each made s.names G.globals c.globals a.globals;
        names_hold = names;
        exact = λ q. exact_globals G.host.fault u.before u.names G.globals (sym (ap (λ (z : HostState). z.fault) a.host) ∙ q) ended;
      }

  abbrev FitsAt : ℕ → ℕ → Conf → Type 0
  FitsAt instructions places P = Fits u instructions places (length (globals_of p)) (OfFunction p) P

  begins_as : IsSorted p → (P : Conf) (c : real.Conf) (s : HostState) (instructions places : ℕ) → AsThere P c s → FitsAt instructions places P →
      Stands u (Contains (all_callees p)) (λ f. f ≡ main_callee p) P → (step u P ≡ Stuck → ⊥) → AreTables s.names → begins_statement c.frame.code ≡ true → AtStatement p c s
  begins_as well (Run ks vs K L F code G) c s instructions places a fits stands alive tables e =
      let same = begins_same (called_imports p) code in
      let begins : begins_statement code ≡ true = sym same ∙ ap begins_statement (sym a.code-is.same ∙ settled_nop c.frame.code e) ∙ e in
      let tidy-is = tidy_there u ks vs K L F code G begins alive in
      let split = and_parts (is_empty vs && is_empty G.host.arguments) ((tidy_locals ks L && nat_eq (iterators_in L) (loops_walked K)) && (globals_by tidy_name u.before u.names G.globals && marks_fit u.names (drop u.before G.globals))) tidy-is in
      let none = none_empty vs (and_parts (is_empty vs) (is_empty G.host.arguments) split.0).0 in
      let ws = settled_values c.frame.values c.frame.code in
      let no_more = no_words (arrays_made G.host) s.names vs ws none a.operands in
      let here = subst (λ (z : List Cell). RunAs (stays p) (called_imports p) u z K L F code G ws (settled_code c.frame.code) c s × TidyAt ks z K L G) none (a, tidy-is) in
      at_statement ks K L F code G ws (settled_code c.frame.code) c s here.0 (sym (operands_nop c.frame.values c.frame.code e) ∙ no_more) here.1 (stands.0.function, stands.0.is, stands.0.kinds) (stands_at stands.0.function.body code stands.0.code begins) (sym (settled_nop c.frame.code e) ∙ a.code-is.same)
      (callers_wait p well u refl instructions places (length (globals_of p)) (arrays_made G.host) s.names stands.0.function F c.callers a.rest.callers fits.1.frames stands.1)
      (each_called p well u refl instructions places (length (globals_of p)) (arrays_made G.host) s.names stands.0.function F c.callers a.rest.callers fits.1.frames stands.1) tables
  begins_as well (Look x ks vs K L F code G) c s instructions places a fits stands alive tables e =
      absurd (no_look u x ks vs K L F code G (sym (begins_same (called_imports p) code) ∙ ap begins_statement (sym a.run.code-is.same) ∙ e) alive)
  begins_as well (Over v G) c s instructions places a fits stands alive tables e = let h : false ≡ true = sym (ap (λ (f : FrameForm). begins_statement f.code) a.frame) ∙ e in cc
  begins_as well (Deep G) c s instructions places a fits stands alive tables e = absurd a
  begins_as well Stuck c s instructions places a fits stands alive tables e = absurd (alive refl)

  abbrev ReturnsFrom : real.Conf → ℕ → Type 0
  ReturnsFrom c n = turn (program p) c ≡ Ends (ends.Returned (Some (I32 n)))

  -- a function that is open does not end the run
  still_open : (P : Conf) (s : HostState) (n : ℕ) → (P ≡ Stuck → ⊥) → EndAs (stays p) (called_imports p) u P (ends.Returned (Some (I32 n))) s s [] → ⊥
  still_open P s n alive (inl h) = cc
  still_open P s n alive (inr (inl h)) = alive h
  still_open P s n alive (inr (inr h)) = let e = h.2 in cc

  ends_at : (c : real.Conf) (s : HostState) (n : ℕ) → ReturnsFrom c n → OverBy table_meaning (turn (program p) c) s c.memory [] (ends.Returned (Some (I32 n))) s
  ends_at c s n e = subst (λ (z : Turn). OverBy table_meaning z s c.memory [] (ends.Returned (Some (I32 n))) s) (sym e) (refl, refl, refl)

  returns_as : (P : Conf) (c : real.Conf) (s : HostState) (n : ℕ) (instructions places : ℕ) → AsThere P c s → FitsAt instructions places P → (step u P ≡ Stuck → ⊥) → AreTables s.names → ReturnsFrom c n → AtReturn p c s
  returns_as (Over v G) c s n instructions places a fits alive tables e = at_return v G c s a fits.1 tables
  returns_as (Run ks vs K L F code G) c s n instructions places a fits alive tables e =
      absurd (still_open (step u (Run ks vs K L F code G)) s n alive ((step_as (linked p) arrays_grow (Run ks vs K L F code G) c s tt a).over (ends.Returned (Some (I32 n))) s [] (ends_at c s n e)))
  returns_as (Look x ks vs K L F code G) c s n instructions places a fits alive tables e =
      absurd (still_open (step u (Look x ks vs K L F code G)) s n alive ((step_as (linked p) arrays_grow (Look x ks vs K L F code G) c s tt a).over (ends.Returned (Some (I32 n))) s [] (ends_at c s n e)))
  returns_as (Deep G) c s n instructions places a fits alive tables e = absurd a
  returns_as Stuck c s n instructions places a fits alive tables e = absurd (alive refl)

  -- Whole runs.

  module _ (agree : ValueAgreement p) (job : JobForm) (input : Source) (outside : Environment) (m : MachineForm) (c : real.Conf) (s : HostState) (reached : Reached (module_of p) job input outside m c s) where
    abbrev set : Setting
    set = setting_in job input outside

    abbrev start : HostState
    start = state_in job input outside

    abbrev place : ℕ → Conf
    place n = go u n (begun p set)

    pub alive : (n : ℕ) → step u (place n) ≡ Stuck → ⊥
    alive n h = let shows = agree.never_stuck set (n + 1) in let q = sym (ap ending_at (go_add u n 1 (begun p set) ∙ h)) ∙ shows.1 in cc

    sizes : (places : ℕ) × (instructions : ℕ) × All (IsWithin places instructions) (all_callees p)
    sizes = some_within (all_callees p)

    fits : (n : ℕ) → FitsAt sizes.1 sizes.0 (place n)
    fits n = fits_on p sizes.1 sizes.0 sizes.2 set n

    tables : AreTables s.names
    tables = steps_tables m.program reached.steps m.conf start reached.output c s first_tables reached.taken

    there_as : (n : ℕ) → Steps table_meaning m.program (suc n) m.conf start reached.output c s → AsThere (place n) c s
    there_as n t =
        let later = steps_after table_meaning m.program m.conf (in_main p) (begins p m reached.is_new) n start reached.output c s t in
        steps_as (linked p) arrays_grow n (begun p set) (in_main p) start reached.output c s (begun_as p set 9999)
        (subst (λ (z : ProgramForm). Steps table_meaning z n (in_main p) start reached.output c s) (program_is p m reached.is_new) later)

    pub statement : IsSorted p → begins_statement c.frame.code ≡ true → AtStatement p c s
    statement well e = by reached.steps reached.taken
      where
        by : (n : ℕ) → Steps table_meaning m.program n m.conf start reached.output c s → AtStatement p c s
        by zero t = let h : false ≡ true = sym (ap (λ (z : real.Conf). begins_statement z.frame.code) (t.0 ∙ reached.is_new.conf)) ∙ e in cc
        by (suc n) t = begins_as well (place n) c s sizes.1 sizes.0 (there_as n t) (fits n) (stands_on p set n) (alive n) tables e

    pub returned : (n : ℕ) → turn m.program c ≡ Ends (ends.Returned (Some (I32 n))) → AtReturn p c s
    returned w e = by reached.steps reached.taken
      where
        by : (n : ℕ) → Steps table_meaning m.program n m.conf start reached.output c s → AtReturn p c s
        by zero t = let h : Goes (in_main p) ≡ Ends (ends.Returned (Some (I32 w))) = sym (begins p m reached.is_new) ∙ ap (λ (z : real.Conf). turn m.program z) (sym t.0) ∙ e in cc
        by (suc n) t = returns_as (place n) c s w sizes.1 sizes.0 (there_as n t) (fits n) (alive n) tables (ap (λ (z : ProgramForm). turn z c) (sym (program_is p m reached.is_new)) ∙ e)
