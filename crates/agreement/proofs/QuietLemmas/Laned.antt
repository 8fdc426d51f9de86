-- Names that are unboxed, take no copies, and to which the command line has not assigned, have no text beside them where a statement begins. So statements of scripts on such names are quiet.
use Rattle.std.proofs.Common.{◌≡◌, ◌⊎◌, inl, inr, ℕ, zero, suc, ◌+◌, true, false, List, [], ◌∷◌, drop, length, slice_get, Some, refl, ap, ◌∙◌, arith}
use Rattle.wasm_store.specs.declared.word.Word.{Word}
use Rattle.wasm_store.specs.declared.word.Word.TheVariants.{I32}
use Rattle.wasm_model.specs.Machines.{Conf}
use Rattle.host_step.specs.HostState.{HostState}
use Rattle.mid_program.specs.Mid.{Code, Global, Parameter, Program, Slot, Step, Then, Unboxed}
use Rattle.mid_program.specs.Sorted.{has_kind, is_mixed, kinds_of, mixed_of}
use Rattle.lower_model.specs.Places.{Bases, handle_global, number_global}
use Rattle.lower_model.specs.Small.{minus_one}
use Rattle.lower_model.specs.Statements.{step_emitted, steps_emitted}
use Rattle.lower_model.proofs.Reading.{kind_below}
use Rattle.sem_primitives.specs.Jobs.{JobForm, Environment}
use Rattle.world_core.specs.WorldState.{Source}
use Rattle.wasm_model.specs.Runs.{MachineForm}
use Rattle.wasm_types.specs.Typing.{ModuleOk}
use Rattle.mid_program.specs.Sorted.{IsSorted}
use Rattle.lower_model.specs.Modules.{module_of}
use Rattle.lower_model.proofs.CodeFollows.{code_follows}
use Rattle.agreement.proofs.ModulesLemmas.Agreeing as Agreeing
use Rattle.agreement.proofs.ModulesLemmas.Modules.{agreement}
use Rattle.agreement.specs.Places.Assigned.{IsAssigned}
use Rattle.agreement.specs.Places.NoLeaks.{AtStatement, Reached, begins_statement, first_name}
use Rattle.agreement.proofs.PlacesLemmas.Handles.{unassigned}
use Rattle.agreement.proofs.PlacesLemmas.Marks.{bare_at, unmarked_at}
use Rattle.agreement.specs.Quiet.Laned.{AtLaned, AtNumeric, IsLaned, IsNext}
use Rattle.agreement.specs.Quiet.Quiet.{HostCallFree}
use Rattle.agreement.specs.Quiet.Sums.{AtFault, AtNext, AtSum, HasNoText, IsSum, code_in, constant, itself, joined, name}
use Rattle.agreement.proofs.QuietLemmas.Whole.{quietly}
use Rattle.agreement.proofs.QuietLemmas.Written.{assigned}

pub sum_weaker : (P Q : Slot → Type 0) → ((x : Slot) → P x → Q x) → (e : Code) → IsSum P e → IsSum Q e
sum_weaker P Q f e (constant z) = constant z
sum_weaker P Q f e (name x h) = name x (f x h)
sum_weaker P Q f e (joined o a b ok g h) = joined o a b ok (sum_weaker P Q f a g) (sum_weaker P Q f b h)
sum_weaker P Q f e (itself a h) = itself a (sum_weaker P Q f a h)

behind : (n : ℕ) (ws : List Word) (j x : ℕ) → x ≡ n + j → slice_get (drop n ws) j ≡ slice_get ws x
behind zero ws j x e = let q : j ≡ x = omega (arith, e) in ap (slice_get ws) q
behind (suc n) [] j x e = refl
behind (suc n) (w ∷ ws) j zero e = absurd (omega (arith, e))
behind (suc n) (w ∷ ws) j (suc x) e = behind n ws j x (omega (arith, e))

-- names that are not assigned have no handle
abbrev pub NoHandles : Program → Conf → (ℕ → Type 0) → Type 0
NoHandles p c Assigned = (i : ℕ) → has_kind (kinds_of p.globals) i Unboxed ≡ true → is_mixed (mixed_of p.globals) i ≡ false → (Assigned i → ⊥) → slice_get c.globals (handle_global p.ranges i) ≡ Some (I32 minus_one)

module _ (p : Program) (c : Conf) (s : HostState) (here : AtStatement p c s) (Assigned : ℕ → Type 0) (no_handles : NoHandles p c Assigned) where
  pub no_text : (b : Bases) → b.parameters ≡ length here.at.function.kinds → (x : Slot) → IsLaned p here.at.function.kinds Assigned x → HasNoText p.ranges p.lenders b c x
  no_text b e (Global true i) h =
      let n : ℕ = first_name p in
      let none = no_handles i h.0 h.1 h.2 in (
        none,
        λ z. unmarked_at (kinds_of p.globals) (drop n c.globals) here.by_kinds.marked i (i + i) refl h.0 (behind n c.globals (i + i) (handle_global p.ranges i) (omega arith) ∙ none)
            (behind n c.globals (suc (i + i)) (number_global p.ranges i) (omega arith) ∙ z),
      )
  no_text b e (Parameter true i) h =
      let l = kind_below here.at.function.kinds i Unboxed h.0 in
      (omega (arith, l, e), bare_at here.at.function.kinds c.frame.locals here.by_kinds.bare i h.0, h.1)
  no_text b e (Global false i) h = absurd h
  no_text b e (Parameter false i) h = absurd h

  -- SO IT IS a statement on numbers
  abbrev pub at_sum : AtLaned p c s here Assigned → AtSum p c
  at_sum a = record {
    bases = a.bases;
    target = a.target;
    expression = a.expression;
    next = a.next;
    further = a.further;
    iterators = a.iterators;
    out = a.out;
    breaking = a.breaking;
    continuing = a.continuing;
    after = a.after;
    code = a.code;
    target_is = no_text a.bases a.parameters a.target a.target_is;
    sum = sum_weaker (IsLaned p here.at.function.kinds Assigned) (HasNoText p.ranges p.lenders a.bases c) (no_text a.bases a.parameters) a.expression a.sum;
  }

  pub next_is : (a : AtLaned p c s here Assigned) (there : Conf) → AtNext p c (at_sum a) there → IsNext p c a.bases (Then a.next a.further) a.iterators a.out a.breaking a.continuing a.after there
  next_is a there x = record { code = x.code; operands = x.operands; labels = x.labels; callers = x.callers }

-- a statement of a script is one in mid code
module _ (p : Program) (c : Conf) (s : HostState) (here : AtStatement p c s) (Assigned : ℕ → Type 0) where
  abbrev pub at_laned : AtNumeric p c s here Assigned → AtLaned p c s here Assigned
  at_laned a =
      let w = assigned (IsLaned p here.at.function.kinds Assigned) a.globals_lanes a.parameters_lanes a.texts a.scope a.target a.expression a.target_is a.numeric in
      record {
        bases = a.bases;
        parameters = a.parameters;
        target = w.target;
        expression = w.expression;
        next = a.next;
        further = a.further;
        iterators = a.iterators;
        out = a.out;
        breaking = a.breaking;
        continuing = a.continuing;
        after = a.after;
        code = a.code ∙ ap (λ (z : Step). code_in p a.bases (Then z (Then a.next a.further)) a.iterators a.out a.breaking a.continuing a.after) w.same;
        target_is = w.target_is;
        sum = w.sum;
      }

begins : (p : Program) (c : Conf) (s : HostState) (here : AtStatement p c s) (Assigned : ℕ → Type 0) → AtLaned p c s here Assigned → begins_statement c.frame.code ≡ true
unfolding step_emitted steps_emitted
begins p c s here Assigned a = ap begins_statement a.code

-- QUIET: such a statement calls no import
pub laned_quiet : (p : Program) → IsSorted p → ModuleOk (module_of p) → (job : JobForm) (input : Source) (outside : Environment) (m : MachineForm) (c : Conf) (s : HostState) →
    (reached : Reached (module_of p) job input outside m c s) → (here : AtStatement p c s) (a : AtLaned p c s here (IsAssigned reached)) →
    HostCallFree m.program c (λ there. IsNext p c a.bases (Then a.next a.further) a.iterators a.out a.breaking a.continuing a.after there ⊎ AtFault p c there)
laned_quiet p sorted typed job input outside m c s reached here a =
    let values = Agreeing.agreement p (code_follows p sorted) in
    let none = unassigned p values job input outside m c s reached (begins p c s here (IsAssigned reached) a) in
    let q = quietly p (agreement p values) typed job input outside m reached.is_new sorted values c s reached (at_sum p c s here (IsAssigned reached) none a) in
    record { steps = q.steps; place = q.place; goes = q.goes; holds = elim q.holds [ inl x ↦ inl (next_is p c s here (IsAssigned reached) none a q.place x) | inr x ↦ inr x ] }
