-- Where a script begins: unless the job brings a fault, a run comes to a place at which the host has all names of the script, and all code of the script is still to come.
use Rattle.std.proofs.Common.{◌≡◌, ℕ, zero, ◌+◌, true, List, [], ◌∷◌, length, None, Some, pos, refl, ap, ◌∙◌, arith}
use Rattle.sem_primitives.specs.Jobs.{fault_of_job}
use Rattle.sem_primitives.specs.Numbers.{Number}
use Rattle.sem_primitives.specs.declared.table.Primitive.TheVariants as row
use Rattle.wasm_types.specs.Syntax.{Instructions, Done}
use Rattle.wasm_store.specs.declared.word.Word.TheVariants.{I64}
use Rattle.mid_program.specs.Mid.{Program}
use Rattle.sem_scripts.specs.ScriptRun.{Setting}
use Rattle.sem_scripts.specs.ScriptState.{State}
use Rattle.mid_program.specs.Sorted.{all_differ, announced_names, kinds_of}
use Rattle.lower_model.specs.Cells.{Cell, Bits}
use Rattle.lower_model.specs.Emission.{Layout, asked}
use Rattle.lower_model.specs.Functions.{layout_of, main_bases, main_callee}
use Rattle.lower_model.specs.Machine.{Code, Label, Store, at, go, label, no_notes}
use Rattle.lower_model.specs.Places.{Bases}
use Rattle.lower_model.specs.Runs.{begun, code_of, first_globals, host_at_start}
use Rattle.lower_model.specs.Small.{ask_row, kept_number}
use Rattle.lower_model.specs.Statements.{block, first_part, last_part, part_done, started}
use Rattle.host_imports.specs.declared.import.Import.TheVariants.{OfPrimitive}
use Rattle.lower_model.proofs.Announcing.{Telling}
use Rattle.lower_model.proofs.Answers.{beside_state, machine}
use Rattle.lower_model.proofs.Beginnings.{begins, first_cells, first_placed, named_ok, naming}
use Rattle.lower_model.proofs.Calls.{called}
use Rattle.lower_model.proofs.Conversions.{same_state}
use Rattle.lower_model.proofs.Endings.{main_exit}
use Rattle.lower_model.proofs.Exits.{begin_ok}
use Rattle.lower_model.proofs.Functions as functions
use Rattle.lower_model.proofs.Functions.{entry, laid_begun, laid_entry}
use Rattle.lower_model.proofs.Globals.{placed}
use Rattle.lower_model.proofs.GlobalSteps.{storing}
use Rattle.lower_model.proofs.Locals.{Answer, Locals, Number as NumberAt, laid, with_at}
use Rattle.lower_model.proofs.Pieces.{number_kept}
use Rattle.lower_model.proofs.Relation.{globals_told, routines_told}
use Rattle.lower_model.proofs.Runs.{Goes, by_steps, goes_from, goes_to, then_goes}
use Rattle.lower_model.proofs.State.{host_of}
use Rattle.lower_model.proofs.Steps.{set_ok, unanswered}
use Rattle.lower_model.proofs.Observer.{Observer, watched}

-- all names of a script, in their order: its globals, and its functions
abbrev pub all_names : Program → List Telling
all_names p = globals_told p.globals (routines_told p.routines)

module _ (p : Program) (s : Setting) (differ : all_differ (announced_names p) ≡ true) (fine : fault_of_job s.job ≡ None) where
  abbrev b : Bases
  b = main_bases p

  abbrev y : Layout
  y = layout_of p (main_bases p)

  abbrev w : Observer
  w = watched no_notes s

  abbrev u : Code
  u = machine p (watched no_notes s) [] []

  -- what is still to come there
  abbrev pub to_come : Instructions
  to_come = asked y row.StartAssign zero zero (part_done y (first_part y p) zero (ask_row row.BeginEnd (part_done y (last_part y p) zero Done)))

  abbrev pub exit : List Label
  exit = label [] None (main_exit p w b) ∷ []

  abbrev globals : List Cell
  globals = placed p.ranges (length (kinds_of p.globals)) first_cells

  abbrev first_state : State
  first_state = begins p no_notes s b zero differ

  abbrev told_code : Instructions
  told_code = naming p no_notes s b zero differ to_come

  abbrev one : Locals
  one = with_at (functions.begun []) (NumberAt zero) (Bits (I64 1))

  -- the locals are emptied, and the block of the exit is entered
  pub record Entered : Type 0 where
    pub steps : ℕ
    pub goes : Goes u steps (begun p s) (at [] [] exit (laid b (functions.begun [])) [] (started y told_code) (storing globals (host_of first_state None)))

  entered : Entered
  entered =
      let G = storing globals (host_at_start s) in
      let whole = block (started y told_code) (main_exit p w b) in
      let body = (main_callee p).body in
      let a = begin_ok p w [] [] b [] G (entry []) whole refl (λ x. refl) (λ x. refl) (λ x. refl) in
      let e = laid_begun b [] a.next a.params a.answer a.hands a.numbers a.iterators a.arrays in
      let inside : Goes u 1 (at [] [] [] (laid b (functions.begun [])) [] whole G) (at [] [] exit (laid b (functions.begun [])) [] (started y told_code) G) = by_steps 1 refl in
      record {
        steps = 1 + (a.steps + 1);
        goes = goes_to (goes_from (ap (λ L. at [] [] [] L [] body (storing (first_globals p) (host_at_start s))) (laid_entry b [] refl) ∙ ap (λ g. at [] [] [] (laid b (entry [])) [] body (storing g (host_at_start s))) (first_placed p))
            (then_goes (set_ok b (entry []) Answer unanswered tt refl) (then_goes (goes_to a.goes (ap (λ L. at [] [] [] L [] whole G) e)) inside)))
            (ap (λ f. at [] [] exit (laid b (functions.begun [])) [] (started y told_code) (storing globals (host_of first_state f))) fine);
      }

  -- the first call answers 1
  answered : Goes u 4 (at [] [] exit (laid b (functions.begun [])) [] (started y told_code) (storing globals (host_of first_state None))) (at [] [] exit (laid b one) [] told_code (storing globals (host_of first_state None)))
  answered =
      let number : Number = record { number = pos 1; in_range = tt } in
      let same = ap (λ (τ : State). host_of τ None) (same_state {A = Number} first_state number) in
      then_goes (goes_to (called (OfPrimitive row.Pow) (Bits (I64 1) ∷ (Bits (I64 1) ∷ [])) [] (storing globals (host_of first_state None)) (Some (Bits (I64 1))) _ refl refl refl)
      (ap (λ o. at [] (Bits (I64 1) ∷ []) exit (laid b (functions.begun [])) [] (kept_number b true zero zero told_code) (storing globals o)) same))
      (number_kept b (functions.begun []) zero zero 1 (omega arith) refl refl)

  pub record AllTold : Type 0 where
    pub steps : ℕ
    pub locals : List Cell
    pub store : Store
    pub goes : go (code_of p s.deepest) steps (begun p s) ≡ at [] [] exit locals [] to_come store
    pub names : store.host.shared.inner.names ≡ all_names p

  pub all_told : AllTold
  all_told =
      let h = named_ok p no_notes s b zero differ exit (laid b one) to_come in
      record {
        steps = entered.steps + (4 + h.steps);
        locals = laid b one;
        store = beside_state p w [] [] (record first_state { shared = h.last });
        goes = (then_goes entered.goes (then_goes answered h.goes)).it;
        names = h.calm.names;
      }
