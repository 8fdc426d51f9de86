-- Giving up what the main input reads is a call.
use Rattle.std.proofs.Common.{◌≡◌, ℕ, false, List, [], ◌++◌, Some, None, Result, Ok, Err, refl, sym, ap, subst, ◌∙◌}
use Rattle.std.proofs.lemmas.List.{append-nil}
use Rattle.sem_primitives.specs.Rows.{next_file_row}
use Rattle.sem_primitives.specs.SharedState.{Inner, changes}
use Rattle.sem_primitives.specs.declared.table.Primitive.TheVariants as row
use Rattle.wasm_model.specs.declared.host.HostAnswer.TheVariants as told
use Rattle.wasm_store.specs.declared.trap.TrapKind.{TrapKind}
use Rattle.wasm_store.specs.declared.word.Word.{Word}
use Rattle.wasm_store.specs.declared.word.Word.TheVariants.{I32}
use Rattle.world_core.specs.WorldState.{Action, Entry, Outside, State}
use Rattle.host_step.specs.Arguments.{and_then, no_more}
use Rattle.host_step.specs.HostState.{Names}
use Rattle.host_step.specs.HostStep.{Acts, StepOf, primitive_acts}
use Rattle.host_step.specs.Worlds.{with_output}
use Rattle.host_imports.specs.declared.import.Import.TheVariants.{OfPrimitive}
use Rattle.host_streams.specs.MainFinds.{main_found}
use Rattle.host_streams.specs.Mains.{with_main}
use Rattle.host_streams.specs.declared.main_input.MainInput.{MainInput as Mains}
use Rattle.host_texts.specs.declared.texts.Texts.{Texts}
use Rattle.host_step.specs.declared.refusal.Refusal.TheVariants as why
use Rattle.host_values.specs.ElementCalls.{Leads}
use Rattle.host_values.specs.Forms.{HostForm, Past, inner_of, state_of}
use Rattle.host_values.proofs.ArraySteps.{carry, no_word}
use Rattle.host_values.proofs.ElementSteps.{goes, leads, unrefused}
use Rattle.host_values.specs.Findings.{form_finding}
use Rattle.host_values.proofs.Found.{led_nothing}
use Rattle.host_values.specs.WorldCalls.{IsCalled}
use Rattle.host_worlds.specs.Keeps.{with_main_input}
use Rattle.host_worlds.specs.States.{Over, over_world, with_tables}
use Rattle.host_worlds.specs.declared.input.Input.{Input}
use Rattle.host_worlds.proofs.ReadSteps.{form_output, leads_in}
use Rattle.host_worlds.proofs.Silent.{silent_trap}

pub skip_trapped : (tells : Type 0) (f : HostForm) (words : List Word) (memory : List ℕ) (k : TrapKind) → f.fault ≡ None → no_more words ≡ Err k
    → IsCalled tells (OfPrimitive row.NextFile) f words memory (Err (why.Trap k)) f []
skip_trapped tells f words memory k none ends = silent_trap tells (OfPrimitive row.NextFile) f words memory k none (λ g p.
    let s = state_of g p in
    ap (λ (r : Result (Unit {0}) TrapKind). carry (OfPrimitive row.NextFile) s (and_then r (λ end. Ok (end, s.names)))) ends)

-- the same, with the state by another name
pub given_as : (a b c : Inner) → next_file_row a ≡ (b, tt) → b ≡ c → next_file_row a ≡ (c, tt)
given_as a b c row same = subst (λ (i : Inner). next_file_row a ≡ (i, tt)) same row

module _ (t : Texts) (i : Input) (m : Mains) (old new : State) where
  module _ (tells : Type 0) (f : HostForm) (memory : List ℕ) (none : f.fault ≡ None)
      (told_so : tells → (inner : Inner) → next_file_row (with_tables t i (Over old) inner) ≡ (with_tables t (with_main_input m i) (Over new) inner, tt))
      (outside : tells → new.outside ≡ old.outside)
      (found_so : (inner : Inner) → next_file_row (with_main (main_found i.main) inner) ≡ (with_main (main_found m) inner, tt)) where
    abbrev before : HostForm
    before = over_world t i old f

    abbrev later : HostForm
    later = over_world t (with_main_input m i) new f

    abbrev Comes : Type 0
    Comes = Result (Names × Acts (Unit {0})) TrapKind

    same_acts : (names : Names) {x y : Inner × Unit {0}} → x ≡ y → ◌≡◌ {A = Comes} (Ok (names, primitive_acts f.arguments false (changes x))) (Ok (names, primitive_acts f.arguments false (changes y)))
    same_acts names e = ap (λ (z : Inner × Unit {0}). Ok (names, primitive_acts f.arguments false (changes z))) e

    skip_step : tells → (p : Past) (o : List Action) → StepOf (OfPrimitive row.NextFile) (state_of (form_output o before) p) [] memory (told.Done (Some (I32 0))) (with_output (o ++ []) (state_of later p)) []
    skip_step y p o =
        let inner = inner_of f.shared.inner p.arrays p.iterators in
        let names = (state_of before p).names in
        let at_last = state_of later p in
        goes (OfPrimitive row.NextFile) (form_output o before) p (with_output (o ++ []) at_last) [] memory names (with_tables t (with_main_input m i) (Over new) inner) tt 0 (Some (I32 0)) (unrefused (OfPrimitive row.NextFile) f.fault none)
        (same_acts names (told_so y inner))
        tt refl
        (ap (λ (u : Outside). record at_last { shared = record at_last.shared { outside = u; output = o } }) (sym (outside y)) ∙ ap (λ (q : List Action). with_output q at_last) (sym (append-nil o)))

    -- where others change what names hold too
    skip_there : (finds : List Entry) (o : Outside) (so_far : List Action)
        → Leads (OfPrimitive row.NextFile) (form_finding finds o so_far before) [] memory (told.Done (Some (I32 0))) (form_finding finds o so_far later)
    skip_there finds o so_far = leads (OfPrimitive row.NextFile) (form_finding finds o so_far before) [] memory (told.Done (Some (I32 0)))
        (form_finding finds o so_far later) (λ p past.
        let g = form_finding finds o so_far before in
        let last = state_of (form_finding finds o so_far later) p in
        record {
          now = p;
          is = record { arrays = past.arrays; iterators = past.iterators; first = past.first };
          step = goes (OfPrimitive row.NextFile) g p last [] memory (state_of g p).names last.shared.inner tt 0 (Some (I32 0))
              (unrefused (OfPrimitive row.NextFile) f.fault none) (same_acts (state_of g p).names (found_so (state_of g p).shared.inner)) tt refl refl;
        })

    pub skip_called : (words : List Word) → no_more words ≡ Ok tt → IsCalled tells (OfPrimitive row.NextFile) before words memory (Ok (Some (I32 0))) later []
    skip_called words ends =
        subst (λ ws. IsCalled tells (OfPrimitive row.NextFile) before ws memory (Ok (Some (I32 0))) later []) (sym (no_word words ends)) (
          leads_in tells (OfPrimitive row.NextFile) before later [] memory (told.Done (Some (I32 0))) refl refl (λ p past. record { typed = refl; step = λ y o. skip_step y p o }),
          led_nothing (OfPrimitive row.NextFile) before later [] memory (told.Done (Some (I32 0))) skip_there,
        )
