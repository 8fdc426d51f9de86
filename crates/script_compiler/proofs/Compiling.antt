-- From the parts of a compilation to what is said of the whole.
use Rattle.std.proofs.Common.{◌≡◌, ◌⊎◌, inl, inr, ℕ, ◌≤◌, ◌^◌, List, length, Some, Result, Ok, Err, IfErr, refl, subst, sym}
use Rattle.std.proofs.lemmas.List.Elements.{recursion_from_All}
use Rattle.sem_primitives.specs.Jobs.{JobForm, Environment}
use Rattle.world_core.specs.WorldState.{Source}
use Rattle.sem_scripts.specs.Kinds.{resolved}
use Rattle.mid_program.specs.Mid.{Program}
use Rattle.mid_program.specs.MidMeaning.{mid_run_in}
use Rattle.sem_scripts.specs.ScriptRun.{resolved_run}
use Rattle.sem_scripts.specs.Names.{Resolved}
use Rattle.mid_program.specs.Sorted.{IsSorted}
use Rattle.mid_program.specs.Translation.{program_of}
use Rattle.wasm_types.specs.ModuleGrammar.{IsModule}
use Rattle.wasm_types.specs.Typing.{ModuleOk}
use Rattle.wasm_model.specs.Links.{SegmentsFit, main_of}
use Rattle.lower_model.specs.Modules.{module_of}
use Rattle.agreement.proofs.RefinedLemmas.Links.{numbers_are, program}
use Rattle.agreement.specs.Modules.Agreement.{Agreement}
use Rattle.agreement.proofs.ModulesLemmas.Exchanged.{agreement_as}
use Rattle.agreement.specs.Passed.Passed.{Passes}
use Rattle.agreement.specs.Spots.Places.{final_program}
use Rattle.agreement.specs.Spots.Probed.{probed_script}
use Rattle.agreement.specs.Places.Existence.{HasRuns}
use Rattle.agreement.proofs.PlacesLemmas.Parameters.{few_parameters}
use Rattle.agreement.proofs.PlacesLemmas.Spelled.{spelled_small}
use Rattle.lower_model.specs.Functions.{texts_of}
use Rattle.lower_model.specs.Places.{memory_of}
use Rattle.lower_layout.specs.declared.fault.LowerFault.{LowerFault}
use Rattle.lower_layout.specs.declared.fault.LowerFault.TheVariants.{TooLarge as Large}
use Rattle.lower_modules.specs.Limits.{IsTooLarge}
use Rattle.lowering.specs.Limits.{AreSmallEnough}
use Rattle.value_kinds.specs.Unboxed.{UnboxesNumbers}
use Rattle.module_writer.specs.Size.{module_size}
use Rattle.agreement.specs.Sizes.Past.{IsPast}
use Rattle.script_code.specs.Coded.{HasTokens, IsCodeOf, unboxed}
use Rattle.script_code.specs.Refusals.{IsNotCoded}
use Rattle.run_report.specs.declared.compile_fault.CompileFault.{CompileFault}
use Rattle.run_report.specs.declared.compile_fault.CompileFault.TheVariants.{TooLarge, Token, Parse, Ere, Resolve, NoMemory}
use Rattle.script_compiler.specs.Compiled.{HasPlaces, IsCompiled, IsHostCallFree, IsQuietByWords, KeepsNothing}
use Rattle.script_compiler.specs.Counts.{HasNoBytes, IsPastCounts}
use Rattle.script_compiler.specs.Refusals.{IsNotCompiled, IsPastLimits}
use Rattle.script_compiler.proofs.Operands.{few_operands}
use Rattle.script_compiler.proofs.Limits.{Few, FewParameters, ReadsItsItems, few, no_module, reads}

-- what the functions and the module are refused for is past what the compiler counts
pub past_counts : {A : Type 0} (r : Result A LowerFault) (p : Program) → IfErr r (λ e. e ≡ Large → AreSmallEnough p → IsTooLarge p) → IfErr r (λ e. e ≡ Large → IsPastCounts p)
past_counts (Ok x) p h = tt
past_counts (Err e) p h = λ large small. h large

-- texts of a module that has bytes are small
pub texts_small : (p : Program) (v : List ℕ) → IsModule v (module_of p) → FewParameters p.routines → length (memory_of (texts_of p)) ≤ 2 ^ 32
texts_small p v m h = (spelled_small p v m h).texts

pub compiled : (bytes v : List ℕ) (p : Program) (t : HasTokens bytes (λ tokens. IsCodeOf tokens p)) → IsModule v (module_of p) → Agreement (mid_run_in p) (module_of p) → ModuleOk (module_of p) →
    (main : ℕ) → main_of (module_of p) ≡ Some main → SegmentsFit (module_of p) →
    ((job : JobForm) (input : Source) (outside : Environment) → HasRuns (module_of p) job input outside) → HasPlaces p → KeepsNothing p (module_of p) →
    ((script : Resolved) → IsSorted (final_program script) → ModuleOk (module_of (final_program script)) → IsHostCallFree script (module_of (final_program script))) →
    ((script : Resolved) → IsSorted (final_program script) → ModuleOk (module_of (final_program script)) → IsQuietByWords script (module_of (final_program script))) → ((script : Resolved) → IsSorted (final_program script) → Passes (probed_script script) (module_of (final_program script))) → ((script : Resolved) → UnboxesNumbers script (unboxed (program_of script))) → IsCompiled bytes v
compiled bytes v p t m agreement typed main main_is segments runs places keeps quiet quiet_by_words passes unboxes =
    let c = t.said in
    let script = resolved c.script in
    let sorted = subst IsSorted c.code c.sorted in
    let module_ok = subst (λ (code : Program). ModuleOk (module_of code)) c.code typed in
    record {
      short = t.short;
      tokens = t.tokens;
      cut = t.cut;
      script = c.script;
      sound = c.sound;
      whole = module_of p;
      spelled = m;
      typed = typed;
      links = record { numbers = (program p).numbers; imports = numbers_are p; main = main; main_is = main_is; segments = segments };
      runs = runs;
      agreement = agreement_as (mid_run_in p) (resolved_run (resolved c.script)) (module_of p) c.same agreement;
      code = p;
      code_is = c.code;
      sorted = c.sorted;
      whole_is = refl;
      places = places;
      keeps = keeps;
      few_operands = few_operands (resolved c.script) p c.code;
      quiet = subst (λ (code : Program). IsHostCallFree script (module_of code)) (sym c.code) (quiet script sorted module_ok);
      quiet_by_words = subst (λ (code : Program). IsQuietByWords script (module_of code)) (sym c.code) (quiet_by_words script sorted module_ok);
      passes = subst (λ (code : Program). Passes (probed_script (resolved c.script)) (module_of code)) (sym c.code) (passes script sorted);
      unboxed_names = subst (λ (code : Program). UnboxesNumbers (resolved c.script) code) (sym c.code) (unboxes (resolved c.script));
    }

pub not_coded : (bytes : List ℕ) (fault : CompileFault) → IsNotCoded bytes fault → IsNotCompiled bytes fault
not_coded bytes TooLarge h = inl h
not_coded bytes (Token fault) h = h
not_coded bytes (Parse fault) h = h
not_coded bytes (Ere line fault) h = h
not_coded bytes (Resolve fault) h = h
not_coded bytes NoMemory h = h

large : (p : Program) → FewParameters p.routines → ReadsItsItems p → HasNoBytes p TooLarge → IsPastLimits p
large p few empty (inl past) = no_module p (recursion_from_All Few p.routines few) empty past
large p few empty (inr none) = none

-- code of which no bytes are the module passes a limit
abbrev HasBytes : Program → Type 0
HasBytes p = (bytes : List ℕ) × IsModule bytes (module_of p) × (length bytes ≡ module_size (module_of p))

past : (p : Program) → IsPastLimits p → HasBytes p ⊎ IsPast (module_of p) → IsPast (module_of p)
past p none (inl has) = absurd (none has.0 has.1)
past p none (inr over) = over

pub no_bytes : ((p : Program) → IsSorted p → HasBytes p ⊎ IsPast (module_of p)) → (bytes : List ℕ) (p : Program) (fault : CompileFault) → HasTokens bytes (λ tokens. IsCodeOf tokens p) → HasNoBytes p fault → IsNotCompiled bytes fault
no_bytes has bytes p TooLarge t h =
    let parameters = few t.tokens p t.said (few_parameters t.said.script t.said.sound.names) in
    let none = large p parameters (reads t.tokens p t.said) h in
    let over = past p none (has p t.said.sorted) in
    inr (record { short = t.short; tokens = t.tokens; cut = t.cut; said = record { code = p; is_code = t.said; large = none; past = over } })
no_bytes has bytes p (Token fault) t h = absurd h
no_bytes has bytes p (Parse fault) t h = absurd h
no_bytes has bytes p (Ere line fault) t h = absurd h
no_bytes has bytes p (Resolve fault) t h = absurd h
no_bytes has bytes p NoMemory t h = tt
