-- So on a run: a name that takes no copies, and to which the command line has not assigned, has no handle where a statement begins.
use Rattle.std.proofs.Common.{◌≡◌, inl, inr, ℕ, zero, suc, ◌+◌, Bool, true, false, not, ◌&&◌, nat_eq, List, [], ◌∷◌, ◌++◌, drop, slice_get, Some, None, refl, sym, ap, ap₂, ◌∙◌, arith, subst}
use Rattle.std.proofs.lemmas.Bool.{and_parts, eqb-true}
use Rattle.sem_primitives.specs.Jobs.{JobForm, Environment}
use Rattle.world_core.specs.WorldState.{Action, Source}
use Rattle.wasm_store.specs.declared.word.Word.{Word}
use Rattle.wasm_store.specs.declared.word.Word.TheVariants.{I32, I64}
use Rattle.wasm_model.specs.Frames.{FrameForm}
use Rattle.wasm_model.specs.Machines.{ProgramForm}
use Rattle.wasm_model.specs.Machines as real
use Rattle.wasm_model.specs.Runs.{MachineForm, Steps}
use Rattle.host_step.specs.HostState.{HostState, Names}
use Rattle.host_step.specs.Starts.{state_in}
use Rattle.mid_program.specs.Mid.{Kind, Boxed, Unboxed, ArrayKind, Declared, Program}
use Rattle.sem_scripts.specs.ScriptRun.{Setting, setting_in}
use Rattle.mid_program.specs.Sorted.{has_kind, is_mixed, kinds_of, mixed_of}
use Rattle.lower_model.specs.Cells.{Cell, Bits, Held, IteratorOf, OwnedArray, LentArray, Gone, cell_at, globals_by, is_bare, bare_names, is_bare_handle, is_word, iterators_in, mark_fits, marks_fit, tidy_locals, tidy_name}
use Rattle.lower_model.specs.Functions.{main_callee}
use Rattle.lower_model.specs.Machine.{Code, Conf, Deep, Look, Over, Run, Store, Stuck, go, is_empty, loops_walked, step, zeros}
use Rattle.lower_model.specs.Modules.{called_imports, module_of}
use Rattle.lower_model.specs.Places.{handle_global}
use Rattle.lower_model.specs.Runs.{begun, code_of, empty_names, first_globals, host_at_start, zero_ranges}
use Rattle.lower_model.specs.Small.{minus_one}
use Rattle.agreement.specs.Refined.Growing.{ArraysGrow}
use Rattle.agreement.specs.Refined.Refined.{As, Linked}
use Rattle.agreement.specs.Modules.TableMeaning.{table_meaning}
use Rattle.agreement.specs.Refined.Words.{WordsAs, arrays_made, state_with}
use Rattle.agreement.proofs.RefinedLemmas.Beginning.{begins, begun_as, in_main, taken_first}
use Rattle.agreement.proofs.RefinedLemmas.Growing.{arrays_grow}
use Rattle.agreement.proofs.RefinedLemmas.Links.{linked, program_is, stays}
use Rattle.agreement.proofs.RefinedLemmas.Running.{steps_as, taken_as}
use Rattle.agreement.specs.Modules.ValueAgreement.{ValueAgreement}
use Rattle.agreement.proofs.ModulesLemmas.Stores.{InStore, store_there}
use Rattle.agreement.specs.Places.Assigned.{IsAssigned, IsPending, Somewhere}
use Rattle.agreement.specs.Places.NoLeaks.{Reached, begins_statement, first_name}
use Rattle.agreement.proofs.PlacesLemmas.Assigning.{Asks, Told, step_told}
use Rattle.agreement.proofs.PlacesLemmas.Keeping.{alive, begins_same, no_look, settled_nop, tidy_there}

-- At the beginning names have words.

names_words : (ds : List Declared) (x : ℕ) → is_bare_handle (bare_names ds) x ≡ true → is_word (cell_at (empty_names (kinds_of ds)) x) ≡ true
names_words [] x e = cc
names_words (d ∷ ds) zero e = refl
names_words (d ∷ ds) (suc zero) e = refl
names_words (d ∷ ds) (suc (suc x)) e = names_words ds x e

behind_ranges : (r : ℕ) (ds : List Declared) (x y : ℕ) → y ≡ r + x → is_bare_handle (bare_names ds) x ≡ true → is_word (cell_at (zero_ranges r ++ empty_names (kinds_of ds)) y) ≡ true
behind_ranges zero ds x y q e = let z : y ≡ x = omega (arith, q) in ap (λ n. is_word (cell_at (empty_names (kinds_of ds)) n)) z ∙ names_words ds x e
behind_ranges (suc r) ds x zero q e = absurd (omega (arith, q))
behind_ranges (suc r) ds x (suc y) q e = behind_ranges r ds x y (omega (arith, q)) e

first_words : (p : Program) (x y : ℕ) → y ≡ first_name p + x → is_bare_handle (bare_names p.globals) x ≡ true → is_word (cell_at (first_globals p) y) ≡ true
first_words p x zero q e = absurd (omega (arith, q))
first_words p x (suc zero) q e = absurd (omega (arith, q))
first_words p x (suc (suc zero)) q e = absurd (omega (arith, q))
first_words p x (suc (suc (suc y))) q e = behind_ranges p.ranges p.globals x y (omega (arith, q)) e

-- On a run from one place to another.

module _ {used : ℕ → Bool} {bs : List Bool} {u : Code} {m : ProgramForm} (links : Linked used bs u m) (grow : ArraysGrow) (T : ℕ → Type 0) where
  asks : (G : Store) (s : HostState) → s ≡ state_with s.names G.host → Told u T G → ((i : ℕ) → IsPending i s → T i) → Asks u T G
  asks G s e h f = record { told = h; pending = λ i v q. f i (v, ap (λ (z : HostState). z.shared.inner.pending) e ∙ q) }

  asks_in : (P : Conf) (c : real.Conf) (s : HostState) → As used bs u P c s → InStore (Told u T) P → ((i : ℕ) → IsPending i s → T i) → InStore (Asks u T) P
  asks_in (Run ks vs K L F code G) c s a h f = asks G s a.rest.host h f
  asks_in (Look x ks vs K L F code G) c s a h f = asks G s a.run.rest.host h f
  asks_in (Over v G) c s a h f = asks G s a.host h f
  asks_in (Deep G) c s a h f = absurd a
  asks_in Stuck c s a h f = tt

  told_on : (n : ℕ) (P : Conf) (c : real.Conf) (s : HostState) (out : List Action) (c1 : real.Conf) (s1 : HostState) (way : Steps table_meaning m n c s out c1 s1) → As used bs u P c s → InStore (Told u T) P →
      ((i : ℕ) → Somewhere (IsPending i) m n c s out c1 s1 way → T i) → InStore (Told u T) (go u n P)
  told_on zero P c s out c1 s1 way a h f = h
  told_on (suc n) P c s out c1 s1 way a h f =
      told_on n (step u P) way.0 way.1 way.3 c1 s1 way.5 (taken_as links grow P c s way.2 way.0 way.1 a way.4)
      (step_told u T P (asks_in P c s a h (λ i q. f i (inl q)))) (λ i q. f i (inr q))

-- Where a statement begins.

module _ (made : ℕ) (N : Names) where
  -- an unboxed name whose handle is a word has none
  no_handle : (c n : Cell) (w : Word) → mark_fits Unboxed c n ≡ true → is_word c ≡ true → WordsAs made N (c ∷ []) (w ∷ []) → w ≡ I32 minus_one
  no_handle (Bits (I32 m)) n w e b a = let s = and_parts (nat_eq m minus_one) (is_bare n) e in a.0 ∙ ap I32 (eqb-true m minus_one s.0)
  no_handle (Bits (I64 m)) n w e b a = cc
  no_handle (Held v) n w e b a = cc
  no_handle (IteratorOf t) n w e b a = cc
  no_handle (OwnedArray x) n w e b a = cc
  no_handle (LentArray x) n w e b a = cc
  no_handle Gone n w e b a = cc

  names_without : (ks : List Kind) (cs : List Cell) (ws : List Word) → WordsAs made N cs ws → marks_fit ks cs ≡ true → (i j : ℕ) → j ≡ i + i → has_kind ks i Unboxed ≡ true → is_word (cell_at cs j) ≡ true →
      slice_get ws j ≡ Some (I32 minus_one)
  names_without [] cs ws a e i j q k b = cc
  names_without (x ∷ ks) [] ws a e i j q k b = cc
  names_without (x ∷ ks) (c ∷ []) ws a e i j q k b = cc
  names_without (x ∷ ks) (c ∷ (n ∷ cs)) [] a e i j q k b = absurd a
  names_without (x ∷ ks) (c ∷ (n ∷ cs)) (w ∷ []) a e i j q k b = absurd a.1
  names_without (x ∷ ks) (c ∷ (n ∷ cs)) (w ∷ (z ∷ ws)) a e zero (suc j) q k b = absurd (omega (arith, q))
  names_without (x ∷ ks) (c ∷ (n ∷ cs)) (w ∷ (z ∷ ws)) a e (suc i) zero q k b = absurd (omega (arith, q))
  names_without (x ∷ ks) (c ∷ (n ∷ cs)) (w ∷ (z ∷ ws)) a e (suc i) (suc zero) q k b = absurd (omega (arith, q))
  names_without (x ∷ ks) (c ∷ (n ∷ cs)) (w ∷ (z ∷ ws)) a e (suc i) (suc (suc j)) q k b =
      names_without ks cs ws a.1.1 (and_parts (mark_fits x c n) (marks_fit ks cs) e).1 i j (omega (arith, q)) k b
  names_without (Boxed ∷ ks) (c ∷ (n ∷ cs)) (w ∷ (z ∷ ws)) a e zero zero q k b = cc
  names_without (ArrayKind ∷ ks) (c ∷ (n ∷ cs)) (w ∷ (z ∷ ws)) a e zero zero q k b = cc
  names_without (Unboxed ∷ ks) (c ∷ (n ∷ cs)) (w ∷ (z ∷ ws)) a e zero zero q k b =
      ap Some (no_handle c n w (and_parts (mark_fits Unboxed c n) (marks_fit ks cs) e).0 b (a.0, tt))

  -- before them stand others
  others_before : (before : ℕ) (ks : List Kind) (cs : List Cell) (ws : List Word) → WordsAs made N cs ws → marks_fit ks (drop before cs) ≡ true → (i j : ℕ) → j ≡ before + (i + i) → has_kind ks i Unboxed ≡ true → is_word (cell_at cs j) ≡ true →
      slice_get ws j ≡ Some (I32 minus_one)
  others_before zero ks cs ws a e i j q k b = names_without ks cs ws a e i j (omega (arith, q)) k b
  others_before (suc before) ks cs ws a e i zero q k b = absurd (omega (arith, q))
  others_before (suc before) ks [] ws a e i (suc j) q k b = cc
  others_before (suc before) ks (c ∷ cs) [] a e i (suc j) q k b = absurd a
  others_before (suc before) ks (c ∷ cs) (w ∷ ws) a e i (suc j) q k b = others_before before ks cs ws a.1 e i j (omega (arith, q)) k b

bare_there : (ds : List Declared) (i j : ℕ) → j ≡ i + i → has_kind (kinds_of ds) i Unboxed ≡ true → is_mixed (mixed_of ds) i ≡ false → is_bare_handle (bare_names ds) j ≡ true
bare_there [] i j q k m = cc
bare_there (d ∷ ds) zero zero q k m = ap₂ (λ a b. a && not b) k m
bare_there (d ∷ ds) zero (suc j) q k m = absurd (omega (arith, q))
bare_there (d ∷ ds) (suc i) zero q k m = absurd (omega (arith, q))
bare_there (d ∷ ds) (suc i) (suc zero) q k m = absurd (omega (arith, q))
bare_there (d ∷ ds) (suc i) (suc (suc j)) q k m = bare_there ds i j (omega (arith, q)) k m

by_word : (b : Bool) → (b ≡ false → ⊥) → b ≡ true
by_word true h = refl
by_word false h = absurd (h refl)

module _ (p : Program) (T : ℕ → Type 0) where
  abbrev u : Code
  u = code_of p 9999

  abbrev AsThere : Conf → real.Conf → HostState → Type 0
  AsThere P c s = As (stays p) (called_imports p) u P c s

  first_told : (set : Setting) → InStore (Told u T) (begun p set)
  first_told set =
      let f = main_callee p in
      store_there (Told u T) [] [] [] (zeros f.locals) [] f.body (record { globals = first_globals p; host = host_at_start set; assigning = None })
      (record { assigning = λ i e. cc; handles = λ i b e. absurd (let t : true ≡ false = sym (first_words p (i + i) (first_name p + (i + i)) refl b) ∙ e in cc) })

  abbrev NoHandle : real.Conf → ℕ → Type 0
  NoHandle c i = slice_get c.globals (handle_global p.ranges i) ≡ Some (I32 minus_one)

  without : (G : Store) (c : real.Conf) (s : HostState) → WordsAs (arrays_made G.host) s.names G.globals c.globals → marks_fit u.names (drop u.before G.globals) ≡ true → Told u T G → (i : ℕ) → has_kind u.names i Unboxed ≡ true → is_mixed (mixed_of p.globals) i ≡ false → (T i → ⊥) → NoHandle c i
  without G c s a e told i k m not =
      others_before (arrays_made G.host) s.names u.before u.names G.globals c.globals a e i (handle_global p.ranges i) refl k
      (by_word (is_word (cell_at G.globals (handle_global p.ranges i))) (λ q. not (told.handles i (bare_there p.globals i (i + i) refl k m) q)))

  there : (P : Conf) (c : real.Conf) (s : HostState) → AsThere P c s → InStore (Told u T) P → (step u P ≡ Stuck → ⊥) → begins_statement c.frame.code ≡ true → (i : ℕ) → has_kind u.names i Unboxed ≡ true → is_mixed (mixed_of p.globals) i ≡ false → (T i → ⊥) → NoHandle c i
  there (Run ks vs K L F code G) c s a told alive-is e i k m not =
      let begins-is : begins_statement code ≡ true = sym (begins_same (called_imports p) code) ∙ ap begins_statement (sym a.code-is.same ∙ settled_nop c.frame.code e) ∙ e in
      let tidy-is = tidy_there u ks vs K L F code G begins-is alive-is in
      let split = and_parts (is_empty vs && is_empty G.host.arguments) ((tidy_locals ks L && nat_eq (iterators_in L) (loops_walked K)) && (globals_by tidy_name u.before u.names G.globals && marks_fit u.names (drop u.before G.globals))) tidy-is in
      let inner = and_parts (tidy_locals ks L && nat_eq (iterators_in L) (loops_walked K)) (globals_by tidy_name u.before u.names G.globals && marks_fit u.names (drop u.before G.globals)) split.1 in
      let named = and_parts (globals_by tidy_name u.before u.names G.globals) (marks_fit u.names (drop u.before G.globals)) inner.1 in
      without G c s a.rest.globals named.1 told i k m not
  there (Look x ks vs K L F code G) c s a told alive-is e i k m not =
      absurd (no_look u x ks vs K L F code G (sym (begins_same (called_imports p) code) ∙ ap begins_statement (sym a.run.code-is.same) ∙ e) alive-is)
  there (Over v G) c s a told alive-is e i k m not = let h : false ≡ true = sym (ap (λ (f : FrameForm). begins_statement f.code) a.frame) ∙ e in cc
  there (Deep G) c s a told alive-is e i k m not = absurd a
  there Stuck c s a told alive-is e i k m not = absurd (alive-is refl)

-- NO HANDLE: wherever a run comes to a statement
pub unassigned : (p : Program) → ValueAgreement p → (job : JobForm) (input : Source) (outside : Environment) (m : MachineForm) (c : real.Conf) (s : HostState) (reached : Reached (module_of p) job input outside m c s) →
    begins_statement c.frame.code ≡ true → (i : ℕ) → has_kind (kinds_of p.globals) i Unboxed ≡ true → is_mixed (mixed_of p.globals) i ≡ false → (IsAssigned reached i → ⊥) → slice_get c.globals (handle_global p.ranges i) ≡ Some (I32 minus_one)
unassigned p agree job input outside a c s reached e i k m not = by reached.steps reached.taken (λ j q. q)
  where
    start : HostState
    start = state_in job input outside

    set : Setting
    set = setting_in job input outside

    T : ℕ → Type 0
    T j = IsAssigned reached j

    by : (n : ℕ) (way : Steps table_meaning a.program n a.conf start reached.output c s) → ((j : ℕ) → Somewhere (IsPending j) a.program n a.conf start reached.output c s way → T j) → slice_get c.globals (handle_global p.ranges i) ≡ Some (I32 minus_one)
    by zero way f = let h : false ≡ true = sym (ap (λ (z : real.Conf). begins_statement z.frame.code) (way.0 ∙ reached.is_new.conf)) ∙ e in cc
    by (suc n) way f =
        let first = taken_first table_meaning a.program a.conf (in_main p) (begins p a reached.is_new) start way.2 way.0 way.1 way.4 in
        let links = subst (λ (z : ProgramForm). Linked (stays p) (called_imports p) (code_of p 9999) z) (sym (program_is p a reached.is_new)) (linked p) in
        let at_first = subst (λ (z : real.Conf). As (stays p) (called_imports p) (code_of p 9999) (begun p set) z way.1) (sym first.0)
        (subst (λ (z : HostState). As (stays p) (called_imports p) (code_of p 9999) (begun p set) (in_main p) z) (sym first.1) (begun_as p set 9999)) in
        there p T (go (code_of p 9999) n (begun p set)) c s (steps_as links arrays_grow n (begun p set) way.0 way.1 way.3 c s at_first way.5)
        (told_on links arrays_grow T n (begun p set) way.0 way.1 way.3 c s way.5 at_first (first_told p T set) (λ j q. f j (inr q)))
        (alive p agree job input outside a c s reached n) e i k m not
