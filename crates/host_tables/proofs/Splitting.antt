-- A split is a step.
use Rattle.std.proofs.Common.{◌≡◌, ℕ, List, length, map as map_list, Option, Some, None, Result, Ok, Err, refl, sym, ap, subst, ◌∙◌, true, false}
use Rattle.std.specs.Prelude.{slice_set}
use Rattle.std.specs.FinMap as map
use Rattle.std.proofs.lemmas.List.{length-map}
use Rattle.awk_values.specs.Values.{text_of_value}
use Rattle.awk_values.specs.declared.fault.Fault.{Fault}
use Rattle.sem_primitives.specs.ArrayMeaning.{numbered, with_array}
use Rattle.sem_primitives.specs.Fields.{Separator, pieces_of}
use Rattle.sem_primitives.specs.Numbers.{number_word}
use Rattle.sem_primitives.specs.SharedState.{◌>>=◌, settles}
use Rattle.sem_primitives.specs.TextMeaning.{splits_at}
use Rattle.sem_primitives.specs.Texts.{counted}
use Rattle.sem_primitives.specs.declared.table.Primitive.TheVariants as row
use Rattle.wasm_model.specs.declared.host.HostAnswer.TheVariants as told
use Rattle.wasm_store.specs.declared.trap.TrapKind.{TrapKind}
use Rattle.wasm_store.specs.declared.word.Word.{Word}
use Rattle.wasm_store.specs.declared.word.Word.TheVariants.{I64}
use Rattle.host_step.specs.Answers.{refusal}
use Rattle.host_step.specs.HostStep.{carried, primitive_acts}
use Rattle.host_imports.specs.Imports.{import_answer, spends}
use Rattle.host_imports.specs.declared.import.Import.TheVariants.{OfPrimitive}
use Rattle.host_values.specs.Calls.{names_with}
use Rattle.host_values.specs.Evaluations.{Values}
use Rattle.host_step.specs.declared.refusal.Refusal.{Refusal}
use Rattle.host_step.specs.declared.refusal.Refusal.TheVariants as why
use Rattle.host_format.specs.Spans.{span_text}
use Rattle.host_format.specs.declared.span.Span.{Span}
use Rattle.host_values.specs.ElementCalls.{IsTableCall, with_arrays}
use Rattle.host_values.specs.Forms.{Arrays, HostForm, Past, inner_of, state_of}
use Rattle.host_values.proofs.ArraySteps.{carry, changed_past, inner_at}
use Rattle.host_values.proofs.Reading.{place_at}
use Rattle.host_values.proofs.ElementSteps.{GoesOn, IsPast, goes, keeps_fault, leads, trapped, unrefused, wanted}
use Rattle.host_tables.specs.Splits.{ArePieces, IsFilled, Said, split_front}
use Rattle.host_tables.proofs.Reading.{said_row, split_decoded}

-- a call with an unfit word
pub split_traps : (f : HostForm) (words : List Word) (memory : List ℕ) (k : TrapKind) → f.fault ≡ None → split_front f.arrays f.values words ≡ Err k
    → IsTableCall (OfPrimitive row.Split) f words memory (Err (why.Trap k)) f
split_traps f words memory k none reads =
    trapped (OfPrimitive row.Split) f words memory k (unrefused (OfPrimitive row.Split) f.fault none)
    (λ p past. ap (carry (OfPrimitive row.Split) (state_of f p)) (split_decoded f p (spends (OfPrimitive row.Split)) refl refl memory past.arrays words ∙ ap (said_row f p (spends (OfPrimitive row.Split)) refl refl memory past.arrays) reads))

module _ (f : HostForm) (words : List Word) (memory : List ℕ) (none : f.fault ≡ None) (x : Said) (reads : split_front f.arrays f.values words ≡ Ok x) (there : map.contains_key f.arrays x.2 ≡ true) where
  abbrev pub left : Values
  left = map.remove (map.remove f.values x.0) x.3

  abbrev pub outcome : Result Separator Fault
  outcome = splits_at x.5 (text_of_value x.4)

  abbrev pieces_by : Separator → List (List ℕ)
  pieces_by s = pieces_of s false (text_of_value x.1)

  carried_by : (p : Past) → IsPast f p → (o : Result Separator Fault) → outcome ≡ o → carried (OfPrimitive row.Split) words memory (state_of f p)
      ≡ Ok (
        names_with left (state_of f p),
        primitive_acts f.arguments true (settles (state_of f p).shared
            (o >>= λ s. Ok (with_array (place_at p.array_places x.2) (numbered 1 (pieces_by s)) (inner_at f p), counted (length (pieces_by s))))),
      )
  carried_by p past o is =
      ap (carry (OfPrimitive row.Split) (state_of f p)) (split_decoded f p (spends (OfPrimitive row.Split)) refl refl memory past.arrays words ∙ ap (said_row f p (spends (OfPrimitive row.Split)) refl refl memory past.arrays) reads)
      ∙ ap (λ (r : Result Separator Fault). Ok (
        names_with left (state_of f p),
        primitive_acts f.arguments true (settles (state_of f p).shared
            (r >>= λ s. Ok (with_array (place_at p.array_places x.2) (numbered 1 (pieces_by s)) (inner_at f p), counted (length (pieces_by s))))),
      )) is

  split_goes : (s : Separator) → outcome ≡ Ok s → (p : Past) → IsPast f p
      → GoesOn (OfPrimitive row.Split) f p words memory (told.Done (Some (I64 (number_word (counted (length (pieces_by s))))))) (with_arrays left (map.insert f.arrays x.2 (numbered 1 (pieces_by s))) f)
  split_goes s is p past =
      let ps = numbered 1 (pieces_by s) in
      let now : Past = record p { arrays = slice_set p.arrays (place_at p.array_places x.2) ps } in
      record {
        now = now;
        is = changed_past f p left x.2 ps past there;
        step = goes (OfPrimitive row.Split) f p (state_of (with_arrays left (map.insert f.arrays x.2 ps) f) now) words memory (names_with left (state_of f p)) (inner_of f.shared.inner now.arrays p.iterators) (counted (length (pieces_by s))) 0
            (Some (I64 (number_word (counted (length (pieces_by s)))))) (unrefused (OfPrimitive row.Split) f.fault none) (carried_by p past (Ok s) is) tt refl refl;
      }

  split_faults : (fault : Fault) → outcome ≡ Err fault → (p : Past) → IsPast f p
      → GoesOn (OfPrimitive row.Split) f p words memory (told.Done (refusal (import_answer (OfPrimitive row.Split)))) (record (with_arrays left f.arrays f) { fault = Some fault })
  split_faults fault is p past = record {
    now = p;
    is = record { arrays = past.arrays; iterators = past.iterators; first = past.first };
    step = keeps_fault (OfPrimitive row.Split) f p (state_of (record (with_arrays left f.arrays f) { fault = Some fault }) p) words memory (names_with left (state_of f p)) (inner_at f p) fault (unrefused (OfPrimitive row.Split) f.fault none)
        (carried_by p past (Err fault) is) refl;
  }

  memory_by : (o : Result Separator Fault) → outcome ≡ o → (g : HostForm) → IsTableCall (OfPrimitive row.Split) f words memory (Err why.NoMemory) g
  memory_by (Ok s) is g = wanted (OfPrimitive row.Split) f _ g words memory _ (split_goes s is)
  memory_by (Err fault) is g = wanted (OfPrimitive row.Split) f _ g words memory _ (split_faults fault is)

  pub split_memory : (g : HostForm) → IsTableCall (OfPrimitive row.Split) f words memory (Err why.NoMemory) g
  split_memory g = memory_by outcome refl g

  pub split_fault : (values : Values) (fault : Fault) → outcome ≡ Err fault → values ≡ left → IsTableCall (OfPrimitive row.Split) f words memory (Err (why.Fault fault)) (with_arrays values f.arrays f)
  split_fault values fault is spent =
      subst (λ (m : Values). IsTableCall (OfPrimitive row.Split) f words memory (Err (why.Fault fault)) (with_arrays m f.arrays f)) (sym spent)
      (leads (OfPrimitive row.Split) f words memory (told.Done (refusal (import_answer (OfPrimitive row.Split)))) _ (split_faults fault is))

  filled_by : (values : Values) (arrays : Arrays) (s : Separator) (r : Result (Option Word) Refusal) → outcome ≡ Ok s → values ≡ left
      → IsFilled r (length (pieces_by s)) (map.insert f.arrays x.2 (numbered 1 (pieces_by s))) arrays → IsTableCall (OfPrimitive row.Split) f words memory r (with_arrays values arrays f)
  filled_by values arrays s (Ok w) is spent (word, filled) =
      subst (λ (o : Option Word). IsTableCall (OfPrimitive row.Split) f words memory (Ok o) (with_arrays values arrays f)) (sym word)
      (subst (λ (m : Values). IsTableCall (OfPrimitive row.Split) f words memory (Ok (Some (I64 (number_word (counted (length (pieces_by s))))))) (with_arrays m arrays f)) (sym spent)
      (subst (λ (m : Arrays). IsTableCall (OfPrimitive row.Split) f words memory (Ok (Some (I64 (number_word (counted (length (pieces_by s))))))) (with_arrays left m f)) (sym filled)
      (leads (OfPrimitive row.Split) f words memory (told.Done _) _ (split_goes s is))))
  filled_by values arrays s (Err why.NoMemory) is spent filled = split_memory (with_arrays values arrays f)
  filled_by values arrays s (Err (why.Trap k)) is spent filled = absurd filled
  filled_by values arrays s (Err (why.Fault fault)) is spent filled = absurd filled

  -- the parts of a text were taken
  pub split_call : (values : Values) (arrays : Arrays) (text : List ℕ) (spans : List Span) (r : Result (Option Word) Refusal) → values ≡ left → ArePieces (text_of_value x.1) outcome text spans
      → IsFilled r (length spans) (map.insert f.arrays x.2 (numbered 1 (map_list (span_text text) spans))) arrays → IsTableCall (OfPrimitive row.Split) f words memory r (with_arrays values arrays f)
  split_call values arrays text spans r spent (same, (s, is, are)) filled =
      let pieces_are : map_list (span_text text) spans ≡ pieces_by s = are.texts ∙ ap (pieces_of s false) same in
      filled_by values arrays s r is spent
      (subst (λ (ts : List (List ℕ)). IsFilled r (length ts) (map.insert f.arrays x.2 (numbered 1 ts)) arrays) pieces_are
      (subst (λ (n : ℕ). IsFilled r n (map.insert f.arrays x.2 (numbered 1 (map_list (span_text text) spans))) arrays) (sym (length-map spans (span_text text))) filled))
