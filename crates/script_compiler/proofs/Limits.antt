-- Code whose module has bytes is within every limit that the compiler counts by. So where a count is past its limit, no bytes are the module.
use Rattle.std.proofs.Common.{◌≡◌, inl, inr, ℕ, zero, suc, ◌≤◌, Bool, true, false, List, [], ◌∷◌, ◌++◌, length, map, refl, ap, sym, subst, arith}
use Rattle.std.specs.List.{All, AllByRecursion as ByRecursion}
use Rattle.std.proofs.lemmas.List.Elements.{All-from_recursion, recursion_from_All}
use Rattle.awk_tokens.specs.Cutting.{Spelled}
use Rattle.awk_grammar.specs.Trees.{Item, Function, Begin, End, Always, When, Lone, Nothing}
use Rattle.sem_scripts.specs.Items.{reads_records, top}
use Rattle.sem_scripts.specs.Kinds.{resolved}
use Rattle.mid_program.specs.Mid.{Kind, NoStep, Program, Routine, Steps}
use Rattle.sem_scripts.specs.Names.{Scope}
use Rattle.mid_program.specs.Translation.{items_code, program_of}
use Rattle.mid_program.specs.Texts.{texts_of_script}
use Rattle.folding.specs.Folding.{fold, folded_routine, folded_steps}
use Rattle.value_kinds.specs.Applied.{is_unboxed, kinds_with, routines_with, steps_with}
use Rattle.value_kinds.specs.Lanes.{infer}
use Rattle.wasm_types.specs.Instructions.{depths}
use Rattle.wasm_types.specs.ModuleGrammar.{IsModule}
use Rattle.lower_model.specs.Functions.{main_callee, routine_callee}
use Rattle.lower_model.specs.Machine.{Callee}
use Rattle.lower_model.specs.Modules.{all_callees, module_of}
use Rattle.agreement.proofs.PlacesLemmas.Spelled.{IsLimited, spelled_limited}
use Rattle.lower_modules.proofs.Nested.{begin_labelled, end_labelled, items_labelled, routine_labelled}
use Rattle.lower_layout.specs.Spans.{IsSmall}
use Rattle.lower_modules.specs.Limits.{IsTooLarge}
use Rattle.lowering.specs.Limits.{AreSmallEnough, IsShallow, RoutineIsSmall}
use Rattle.script_code.specs.Coded.{IsCodeOf, unboxed}

-- Folding and lanes leave a function as many parameters.

abbrev pub Few : Routine → Type 0
Few r = length r.parameters ≤ 100

abbrev pub FewParameters : List Routine → Type 0
FewParameters rs = All Few rs

kinds_same : (u : ℕ → Bool) (ks : List Kind) → length (kinds_with u ks) ≡ length ks
kinds_same u [] = refl
kinds_same u (k ∷ ks) = ap suc (kinds_same (λ i. u (suc i)) ks)

folded_few : (rs : List Routine) → ByRecursion Few rs → ByRecursion Few (map folded_routine rs)
folded_few [] h = tt
folded_few (r ∷ rs) h = (h.0, folded_few rs h.1)

laned_few : (gs : List Kind) (ps : ℕ → List Kind) (rs : List Routine) → ByRecursion Few rs →
    ByRecursion Few (routines_with gs ps rs)
laned_few gs ps [] h = tt
laned_few gs ps (r ∷ rs) h = (subst (λ (n : ℕ). n ≤ 100) (sym (kinds_same (is_unboxed (ps zero)) r.parameters)) h.0, laned_few gs (λ f. ps (suc f)) rs h.1)

unboxed_few : (p : Program) → FewParameters p.routines → FewParameters (unboxed p).routines
unboxed_few p h =
    let folded = folded_few p.routines (recursion_from_All Few p.routines h) in
    All-from_recursion Few (unboxed p).routines (laned_few _ _ (map folded_routine p.routines) folded)

pub few : (tokens : List Spelled) (p : Program) (c : IsCodeOf tokens p) → FewParameters (program_of (resolved c.script)).routines → FewParameters p.routines
few tokens p c h = subst (λ (q : Program). FewParameters q.routines) (sym c.code) (unboxed_few (program_of (resolved c.script)) h)

-- Where no records are read there is no code for them.

abbrev pub ReadsItsItems : Program → Type 0
ReadsItsItems p = p.reads ≡ false → p.items ≡ NoStep

no_items : (texts : List (List ℕ)) (scope : Scope) (i : ℕ) (items : List Item) → reads_records items ≡ false → items_code texts scope i items ≡ NoStep
no_items texts scope i [] e = refl
no_items texts scope i (Function f ps ss ∷ items) e = no_items texts scope i items e
no_items texts scope i (Begin ss ∷ items) e = no_items texts scope i items e
no_items texts scope i (Nothing ∷ items) e = no_items texts scope i items e
no_items texts scope i (End ss ∷ items) e = cc
no_items texts scope i (Always ss ∷ items) e = cc
no_items texts scope i (When p ss ∷ items) e = cc
no_items texts scope i (Lone p ∷ items) e = cc

-- folding and lanes leave it so
unboxed_reads : (p : Program) → ReadsItsItems p → ReadsItsItems (unboxed p)
unboxed_reads p h e = ap (λ (ss : Steps). steps_with (infer (fold p)).globals [] (folded_steps ss)) (h e)

pub reads : (tokens : List Spelled) (p : Program) → IsCodeOf tokens p → ReadsItsItems p
reads tokens p c =
    let script = resolved c.script in
    subst ReadsItsItems (sym c.code) (unboxed_reads (program_of script) (no_items (texts_of_script script) (top script) 0 script.items))

-- Functions.

abbrev Limited : Callee → Type 0
Limited f = (length f.locals ≤ 50000) × (depths f.body ≤ 4000)

module _ (p : Program) where
  functions_small : (rs : List Routine) → ByRecursion Limited (map (routine_callee p) rs ++ main_callee p ∷ []) → ByRecursion Few rs → ByRecursion RoutineIsSmall rs × Limited (main_callee p)
  functions_small [] h few = (tt, h.0)
  functions_small (r ∷ rs) h few =
      let rest = functions_small rs h.1 few.1 in
      let depth = h.0.1 in
      let labels = routine_labelled p r in
      let parameters = few.0 in
      (((record { parameters = omega (arith, parameters); locals = h.0.0 }, omega (arith, depth, labels)), rest.0), rest.1)

  items_shallow : ReadsItsItems p → depths (main_callee p).body ≤ 4000 → IsShallow p.items
  items_shallow empty depth = by p.reads refl
    where
      by : (z : Bool) → p.reads ≡ z → IsShallow p.items
      by true e = let labels = items_labelled p e in omega (arith, depth, labels)
      by false e = subst IsShallow (sym (empty e)) (omega arith)

  -- WITHIN THE LIMITS
  small : IsLimited p → IsSmall p
  small limits = let texts = limits.texts in (limits.names, (limits.ranges, omega (arith, texts)))

  small_enough : IsLimited p → ByRecursion Few p.routines → ReadsItsItems p → AreSmallEnough p
  small_enough limits few empty =
      let both = functions_small p.routines (recursion_from_All Limited (all_callees p) limits.functions) few in
      let depth = both.1.1 in
      let begins = begin_labelled p in
      let ends = end_labelled p in
      (limits.routines, (both.0, (record { parameters = omega arith; locals = both.1.0 }, (omega (arith, depth, begins), (items_shallow empty depth, omega (arith, depth, ends))))))

  not_large : IsLimited p → (bytes : List ℕ) → IsModule bytes (module_of p) → IsTooLarge p → ⊥
  not_large limits bytes m (inl e) = let texts = limits.texts in omega (arith, texts, e)
  not_large limits bytes m (inr (inl e)) = let routines = limits.routines in omega (arith, routines, e)
  not_large limits bytes m (inr (inr none)) = none bytes m

  pub no_module : ByRecursion Few p.routines → ReadsItsItems p → (IsSmall p → AreSmallEnough p → IsTooLarge p) → (bytes : List ℕ) → IsModule bytes (module_of p) → ⊥
  no_module few empty past bytes m = let limits = spelled_limited p bytes m in not_large limits bytes m (past (small limits) (small_enough limits few empty))
