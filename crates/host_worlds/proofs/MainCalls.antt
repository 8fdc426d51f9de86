-- Reads of the main input are calls.
use Rattle.std.proofs.Common.{◌≡◌, ℕ, pos, Bool, true, false, not, List, [], ◌∷◌, ◌++◌, get_or, Option, Some, None, is_some, Result, Ok, Err, refl, sym, ap, subst, ◌∙◌}
use Rattle.std.specs.Prelude.{decimal}
use Rattle.std.specs.FinMap as map
use Rattle.std.proofs.lemmas.Option.{get_or_from_slice_get}
use Rattle.awk_values.specs.declared.fault.Stop.{Stop}
use Rattle.awk_values.specs.declared.fault.Stop.TheVariants.{Fault as IsFault, NoMemory}
use Rattle.awk_values.specs.declared.fault.Fault.{Fault}
use Rattle.sem_primitives.specs.ArrayMeaning.{element}
use Rattle.sem_primitives.specs.InputParts.{text_or_none}
use Rattle.sem_primitives.specs.SharedState.{Inner, Pairs, settles}
use Rattle.sem_primitives.specs.declared.answers.InputAnswer.{InputAnswer}
use Rattle.wasm_model.specs.declared.host.HostAnswer.TheVariants as told
use Rattle.wasm_store.specs.declared.trap.TrapKind.{TrapKind}
use Rattle.wasm_store.specs.declared.trap.TrapKind.TheVariants.{BadArgument}
use Rattle.wasm_store.specs.declared.word.Word.{Word}
use Rattle.wasm_store.specs.declared.word.Word.TheVariants.{I32}
use Rattle.world_core.specs.WorldState.{Action, Entry, Outside, State}
use Rattle.host_imports.specs.Codes.{input_code}
use Rattle.host_step.specs.Answers.{refusal}
use Rattle.host_step.specs.Arguments.{and_then, no_more}
use Rattle.host_step.specs.HostState.{HostState, Names}
use Rattle.host_step.specs.HostStep.{Acts, carried, primitive_acts, where_fit}
use Rattle.host_imports.specs.Imports.{import_answer}
use Rattle.host_step.specs.Worlds.{Wanted}
use Rattle.host_imports.specs.declared.import.Import.TheVariants.{OfPrimitive}
use Rattle.host_texts.specs.declared.texts.Texts.{Texts}
use Rattle.host_arrays.specs.Pairs.{pairs_or_none}
use Rattle.host_step.specs.declared.refusal.Refusal.TheVariants as why
use Rattle.host_values.specs.Forms.{Arrays, HostForm, Past, Shows, inner_of, state_of}
use Rattle.host_values.proofs.ElementSteps.{IsPast, state_with}
use Rattle.host_values.specs.Findings.{form_finding}
use Rattle.host_values.specs.WorldCalls.{IsCalled}
use Rattle.host_worlds.specs.Calls.{answered_by, shown_after}
use Rattle.host_worlds.specs.Finds.{FindsRow}
use Rattle.host_worlds.specs.Givens.{OffersTexts, RowGives, main_primitive, main_row}
use Rattle.host_worlds.specs.States.{Finding, Over, argv_texts, over_world, with_tables}
use Rattle.host_worlds.specs.declared.input.Input.{Input}
use Rattle.host_worlds.specs.declared.input.ReadInto.TheVariants.{Variable, Record}
use Rattle.host_worlds.specs.declared.input.MainRead.{MainRead}
use Rattle.host_worlds.specs.declared.input.MainRead.TheVariants.{Loop, Getline}
use Rattle.host_worlds.proofs.ReadFound.{answers_found, faults_found, traps_found}
use Rattle.host_worlds.proofs.ReadSteps.{Carries, IsReading, answer_called, fault_called, form_output, leads_in, memory_wanted, trap_called}

-- The three imports.

pub main_reading : (how : MainRead) → IsReading (OfPrimitive (main_primitive how))
main_reading Loop = record { coerce = λ x. x; word = λ names x. refl; free = λ names x. tt; refused = refl; typed = λ n. refl }
main_reading (Getline Record) = record { coerce = λ x. x; word = λ names x. refl; free = λ names x. tt; refused = refl; typed = λ n. refl }
main_reading (Getline Variable) = record { coerce = λ x. x; word = λ names x. refl; free = λ names x. tt; refused = refl; typed = λ n. refl }

-- what they come to, once their words are read
abbrev pub acts_by : Bool → Names → HostState → Result (Inner × InputAnswer) Fault → Result (Names × Acts InputAnswer) TrapKind
acts_by fits left s wanted = and_then (where_fit fits (primitive_acts s.arguments true (settles s.shared wanted))) (λ d. Ok (left, d))

pub acts_given : (fits : Bool) (left : Names) (s : HostState) (wanted given : Result (Inner × InputAnswer) Fault) → fits ≡ true → wanted ≡ given
    → acts_by fits left s wanted ≡ Ok (left, primitive_acts s.arguments true (settles s.shared given))
acts_given fits left s wanted given e is = ap (λ b. acts_by b left s wanted) e ∙ ap (acts_by true left s) is

acts_refused : (fits : Bool) (left : Names) (s : HostState) (wanted : Result (Inner × InputAnswer) Fault) → fits ≡ false → acts_by fits left s wanted ≡ Err BadArgument
acts_refused fits left s wanted e = ap (λ b. acts_by b left s wanted) e

same_kind : (k : TrapKind) → ◌≡◌ {A = Result (Unit {0}) TrapKind} (Err BadArgument) (Err k) → BadArgument ≡ k
same_kind k e = cc

module _ (f : HostForm) (p : Past) (memory : List ℕ) (none : f.fault ≡ None) where
  abbrev start : HostState
  start = state_of f p

  abbrev waits : Bool
  waits = not (is_some f.shared.inner.pending)

  main_carries : (how : MainRead) → waits ≡ true → Carries (OfPrimitive (main_primitive how)) (main_reading how) f p [] memory none start.names (main_row how start.shared.outside start.shared.inner)
  unfolding main_reading
  main_carries Loop e = record {
    answers = λ o inner x is. acts_given waits start.names (state_of (form_output o f) p) (main_row Loop start.shared.outside start.shared.inner) (Ok (inner, x)) e is;
    faults = λ o fault is. acts_given waits start.names (state_of (form_output o f) p) (main_row Loop start.shared.outside start.shared.inner) (Err fault) e is;
  }
  main_carries (Getline Record) e = record {
    answers = λ o inner x is. acts_given waits start.names (state_of (form_output o f) p) (main_row (Getline Record) start.shared.outside start.shared.inner) (Ok (inner, x)) e is;
    faults = λ o fault is. acts_given waits start.names (state_of (form_output o f) p) (main_row (Getline Record) start.shared.outside start.shared.inner) (Err fault) e is;
  }
  main_carries (Getline Variable) e = record {
    answers = λ o inner x is. acts_given waits start.names (state_of (form_output o f) p) (main_row (Getline Variable) start.shared.outside start.shared.inner) (Ok (inner, x)) e is;
    faults = λ o fault is. acts_given waits start.names (state_of (form_output o f) p) (main_row (Getline Variable) start.shared.outside start.shared.inner) (Err fault) e is;
  }

  -- something is pending
  main_waits : (how : MainRead) → waits ≡ false → (o : List Action) → carried (OfPrimitive (main_primitive how)) [] memory (state_of (form_output o f) p) ≡ Err BadArgument
  main_waits Loop e o = acts_refused waits start.names (state_of (form_output o f) p) (main_row Loop start.shared.outside start.shared.inner) e
  main_waits (Getline Record) e o = acts_refused waits start.names (state_of (form_output o f) p) (main_row (Getline Record) start.shared.outside start.shared.inner) e
  main_waits (Getline Variable) e o = acts_refused waits start.names (state_of (form_output o f) p) (main_row (Getline Variable) start.shared.outside start.shared.inner) e

  -- a word too many
  main_words : (how : MainRead) (words : List Word) (k : TrapKind) → no_more words ≡ Err k → (o : List Action) → carried (OfPrimitive (main_primitive how)) words memory (state_of (form_output o f) p) ≡ Err k
  main_words how [] k e o = cc
  main_words Loop (w ∷ rest) k e o = ap (λ j. Err j) (same_kind k e)
  main_words (Getline Record) (w ∷ rest) k e o = ap (λ j. Err j) (same_kind k e)
  main_words (Getline Variable) (w ∷ rest) k e o = ap (λ j. Err j) (same_kind k e)

-- the operands are ARGV's texts

held_texts : (all : List Pairs) (o : Option Pairs) (n : ℕ) → Shows all (Some 0) o → text_or_none (element (decimal n) (get_or all 0 [])) ≡ text_or_none (element (decimal n) (pairs_or_none o))
held_texts all None n h = absurd h
held_texts all (Some pairs) n h = ap (λ ps. text_or_none (element (decimal n) ps)) (get_or_from_slice_get all 0 pairs [] h)

pub offers : (arrays : Arrays) (f : HostForm) (p : Past) (inner : Inner) → IsPast f p → f.arrays ≡ arrays → OffersTexts (argv_texts arrays) (inner_of inner p.arrays p.iterators)
offers arrays f p inner past same = λ n.
    held_texts p.arrays (map.get f.arrays (pos 0)) n (subst (λ o. Shows p.arrays o (map.get f.arrays (pos 0))) past.first.argv (past.arrays.shows (pos 0))) ∙ ap (λ a. argv_texts a n) same

pub no_words : (words : List Word) → no_more words ≡ Ok tt → words ≡ []
no_words [] e = refl
no_words (w ∷ rest) e = cc

-- The calls.

module _ (tells : Type 0) (how : MainRead) (f : HostForm) (memory : List ℕ) (none : f.fault ≡ None) (t : Texts) (i : Input) (s : State) where
  -- a word too many, or something is pending
  pub main_trapped : (words : List Word) (k : TrapKind) → no_more words ≡ Err k → IsCalled tells (OfPrimitive (main_primitive how)) (over_world t i s f) words memory (Err (why.Trap k)) (over_world t i s f) []
  main_trapped words k e = (
    leads_in tells (OfPrimitive (main_primitive how)) _ _ words memory (told.Trap k) refl refl (λ p past.
        trap_called (OfPrimitive (main_primitive how)) (main_reading how) (over_world t i s f) p words memory none tells k (main_words (over_world t i s f) p memory none how words k e)),
    traps_found (OfPrimitive (main_primitive how)) (main_reading how) (over_world t i s f) words memory none k (λ finds o so_far p.
        main_words (form_finding finds o so_far (over_world t i s f)) p memory none how words k e so_far),
  )

  pub main_pends : (words : List Word) → no_more words ≡ Ok tt → is_some i.names.pending ≡ true → IsCalled tells (OfPrimitive (main_primitive how)) (over_world t i s f) words memory (Err (why.Trap BadArgument)) (over_world t i s f) []
  main_pends words fit e =
      subst (λ ws. IsCalled tells (OfPrimitive (main_primitive how)) (over_world t i s f) ws memory (Err (why.Trap BadArgument)) (over_world t i s f) []) (sym (no_words words fit)) (
        leads_in tells (OfPrimitive (main_primitive how)) _ _ [] memory (told.Trap BadArgument) refl refl (λ p past.
            trap_called (OfPrimitive (main_primitive how)) (main_reading how) (over_world t i s f) p [] memory none tells BadArgument (main_waits (over_world t i s f) p memory none how (ap not e))),
        traps_found (OfPrimitive (main_primitive how)) (main_reading how) (over_world t i s f) [] memory none BadArgument (λ finds o so_far p.
            main_waits (form_finding finds o so_far (over_world t i s f)) p memory none how (ap not e) so_far),
      )

  module _ (arrays : Arrays) (same : f.arrays ≡ arrays) (waits : is_some i.names.pending ≡ false) (t' : Texts) (i' : Input) (s' : State) (r : Result InputAnswer Stop)
      (told_row : tells → (inner : Inner) → OffersTexts (argv_texts arrays) inner → RowGives (main_row how s.outside (with_tables t i (Over s) inner)) r (with_tables t' i' (Over s') inner)) (outside : tells → s'.outside ≡ s.outside)
      (finds : FindsRow how (argv_texts arrays) t i r t' i') where
    abbrev old : HostForm
    old = over_world t i s f

    abbrev new : HostForm
    new = over_world t' i' s' f

    abbrev inner_at : Past → Inner
    inner_at p = inner_of f.shared.inner p.arrays p.iterators

    state_is : (p : Past) → s'.outside ≡ s.outside → state_with (state_of old p).names (with_tables t' i' (Over s') (inner_at p)) old ≡ state_of new p
    state_is p e = ap (λ x. record (state_of new p) { shared = record (state_of new p).shared { outside = x } }) (sym e)

    -- where others change what names hold too
    offered : (p : Past) → IsPast old p → OffersTexts (argv_texts arrays) (inner_at p)
    offered p past = offers arrays f p f.shared.inner (record { arrays = past.arrays; iterators = past.iterators; first = past.first }) same

    gives_found : (x : InputAnswer) → r ≡ Ok x → (later : List Entry) (o : Outside) (p : Past) → IsPast old p
        → main_row how o (with_tables t i (Finding (finds.0 ++ later)) (inner_at p)) ≡ Ok (with_tables t' i' (Finding later) (inner_at p), x)
    gives_found x e later o p past =
        subst (λ a. RowGives (main_row how o (with_tables t i (Finding (finds.0 ++ later)) (inner_at p))) a (with_tables t' i' (Finding later) (inner_at p))) e (finds.1 later o (inner_at p) (offered p past))

    main_called : (x : Result InputAnswer Stop) → r ≡ x → IsCalled tells (OfPrimitive (main_primitive how)) old [] memory (answered_by x) (shown_after (answered_by x) old new) []
    main_called (Ok x) e = (
      leads_in tells (OfPrimitive (main_primitive how)) old new [] memory (told.Done (Some (I32 (input_code x)))) refl refl (λ p past.
          let c = main_carries old p memory none how (ap not waits) in
          answer_called (OfPrimitive (main_primitive how)) (main_reading how) old p [] memory none (state_of old p).names (main_row how s.outside (with_tables t i (Over s) (inner_at p))) c tells x (state_of new p)
          (λ y. (with_tables t' i' (Over s') (inner_at p), subst (λ a. RowGives (main_row how s.outside (with_tables t i (Over s) (inner_at p))) a (with_tables t' i' (Over s') (inner_at p))) e (told_row y (inner_at p) (offers arrays f p f.shared.inner (record { arrays = past.arrays; iterators = past.iterators; first = past.first }) same)), state_is p (outside y)))),
      answers_found (OfPrimitive (main_primitive how)) (main_reading how) old [] memory none new refl refl finds.0 none x (λ later o so_far p past. (
        (state_of old p).names,
        main_row how o (state_of (form_finding (finds.0 ++ later) o so_far old) p).shared.inner,
        main_carries (form_finding (finds.0 ++ later) o so_far old) p memory none how (ap not waits),
        with_tables t' i' (Finding later) (inner_at p),
        gives_found x e later o p past,
        refl,
      )),
    )
    main_called (Err (IsFault fault)) e = (
      leads_in tells (OfPrimitive (main_primitive how)) old (record old { fault = Some fault }) [] memory (told.Done (refusal (import_answer (OfPrimitive (main_primitive how))))) refl refl (λ p past.
          let c = main_carries old p memory none how (ap not waits) in
          fault_called (OfPrimitive (main_primitive how)) (main_reading how) old p [] memory none (state_of old p).names (main_row how s.outside (with_tables t i (Over s) (inner_at p))) c tells fault (state_of (record old { fault = Some fault }) p)
          (λ y. subst (λ a. RowGives (main_row how s.outside (with_tables t i (Over s) (inner_at p))) a (with_tables t' i' (Over s') (inner_at p))) e (told_row y (inner_at p) (offers arrays f p f.shared.inner (record { arrays = past.arrays; iterators = past.iterators; first = past.first }) same)))
          refl),
      faults_found (OfPrimitive (main_primitive how)) (main_reading how) old [] memory none (record old { fault = Some fault }) refl refl finds.0 fault refl (λ later o so_far p past. (
        (state_of old p).names,
        main_row how o (state_of (form_finding (finds.0 ++ later) o so_far old) p).shared.inner,
        main_carries (form_finding (finds.0 ++ later) o so_far old) p memory none how (ap not waits),
        subst (λ a. RowGives (main_row how o (with_tables t i (Finding (finds.0 ++ later)) (inner_at p))) a (with_tables t' i' (Finding later) (inner_at p)))
            e (finds.1 later o (inner_at p) (offered p past)),
        refl,
      )),
    )
    main_called (Err NoMemory) e = λ y s0 st.
        let c = main_carries old st.past memory none how (ap not waits) in (
          state_of new st.past,
          refl,
          subst (λ z. Wanted (Some (OfPrimitive (main_primitive how))) z [] memory (state_of new st.past) []) (sym st.state)
              (memory_wanted (OfPrimitive (main_primitive how)) (main_reading how) old st.past [] memory none (state_of old st.past).names (main_row how s.outside (with_tables t i (Over s) (inner_at st.past))) c (state_of new st.past) (outside y)),
        )

    pub main_answers : (words : List Word) → no_more words ≡ Ok tt → IsCalled tells (OfPrimitive (main_primitive how)) old words memory (answered_by r) (shown_after (answered_by r) old new) []
    main_answers words fit = subst (λ ws. IsCalled tells (OfPrimitive (main_primitive how)) old ws memory (answered_by r) (shown_after (answered_by r) old new) []) (sym (no_words words fit)) (main_called r refl)
