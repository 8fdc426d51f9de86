-- Giving what was read for a variable is a step.
use Rattle.std.proofs.Common.{◌≡◌, ◌<◌, ◌^◌, ℕ, pos, false, List, [], ◌∷◌, Option, Some, None, is_some, Result, Ok, Err, refl, sym, ap, subst, ◌∙◌}
use Rattle.std.specs.FinMap as map
use Rattle.awk_values.specs.declared.value.Value.{Value}
use Rattle.sem_primitives.specs.SharedState.{Inner, changes}
use Rattle.sem_primitives.specs.TextMeaning.{given}
use Rattle.sem_primitives.specs.declared.table.Primitive.TheVariants as row
use Rattle.wasm_model.specs.declared.host.HostAnswer.TheVariants as told
use Rattle.wasm_store.specs.declared.trap.TrapKind.{TrapKind}
use Rattle.wasm_store.specs.declared.trap.TrapKind.TheVariants.{BadArgument}
use Rattle.wasm_store.specs.declared.word.Word.{Word}
use Rattle.wasm_store.specs.declared.word.Word.TheVariants.{I32}
use Rattle.host_step.specs.Arguments.{and_then, no_more}
use Rattle.host_step.specs.HostStep.{carried, primitive_acts, where_fit}
use Rattle.host_step.specs.Tables.{Table}
use Rattle.host_imports.specs.declared.import.Import.TheVariants.{OfPrimitive}
use Rattle.host_values.specs.Calls.{Gives, reserved_handle}
use Rattle.host_values.specs.Evaluations.{Values}
use Rattle.host_step.specs.declared.refusal.Refusal.{Refusal}
use Rattle.host_step.specs.declared.refusal.Refusal.TheVariants as why
use Rattle.host_values.specs.declared.reply.Reply.TheVariants as reply
use Rattle.host_values.proofs.Entries.{entries_insert, look_entries}
use Rattle.host_values.specs.ElementCalls.{IsTableCall}
use Rattle.host_values.specs.Forms.{HostForm, Past, inner_of, state_of}
use Rattle.host_values.proofs.ArrayCalls.{below_limit}
use Rattle.host_values.proofs.ElementSteps.{GoesOn, IsPast, goes, leads, state_with, trapped, unrefused, wanted}
use Rattle.host_worlds.specs.States.{form_line}
use Rattle.host_worlds.proofs.MainCalls.{no_words}

module _ (f : HostForm) (memory : List ℕ) (none : f.fault ≡ None) where
  same_kind : (k : TrapKind) → ◌≡◌ {A = Result (Unit {0}) TrapKind} (Err BadArgument) (Err k) → BadArgument ≡ k
  same_kind k e = cc

  words_trap : (words : List Word) (k : TrapKind) → no_more words ≡ Err k → (p : Past) → carried (OfPrimitive row.Line) words memory (state_of f p) ≡ Err k
  words_trap [] k e p = cc
  words_trap (w ∷ rest) k e p = ap (λ j. Err j) (same_kind k e)

  -- a trap changes nothing
  pub line_trapped : (words : List Word) (k : TrapKind) → no_more words ≡ Err k → IsTableCall (OfPrimitive row.Line) f words memory (Err (why.Trap k)) f
  line_trapped words k e = trapped (OfPrimitive row.Line) f words memory k (unrefused (OfPrimitive row.Line) f.fault none) (λ p past. words_trap words k e p)

  abbrev after_line : Past → Inner
  after_line p = record (inner_of f.shared.inner p.arrays p.iterators) { line = None }

  -- no line is there
  pub line_missing : (words : List Word) → no_more words ≡ Ok tt → f.shared.inner.line ≡ None → IsTableCall (OfPrimitive row.Line) f words memory (Err (why.Trap BadArgument)) f
  line_missing words fit e =
      subst (λ ws. IsTableCall (OfPrimitive row.Line) f ws memory (Err (why.Trap BadArgument)) f) (sym (no_words words fit))
      (trapped (OfPrimitive row.Line) f [] memory BadArgument (unrefused (OfPrimitive row.Line) f.fault none) (λ p past.
      ap (λ (l : Option Value). and_then (where_fit (is_some l) (primitive_acts f.arguments false (changes (after_line p, given l)))) (λ d. Ok ((state_of f p).names, d))) e))

  module _ (v : Value) (there : f.shared.inner.line ≡ Some v) where
    abbrev given_to : ℕ → HostForm
    given_to q = form_line (map.insert f.values (pos q) v) None f

    line_goes : (q : ℕ) → q < 2 ^ 31 → map.get f.values (pos q) ≡ None → (p : Past) → IsPast f p → GoesOn (OfPrimitive row.Line) f p [] memory (told.Done (Some (I32 q))) (given_to q)
    line_goes q below vacant p past =
        let x = state_of f p in
        record {
          now = p;
          is = record { arrays = past.arrays; iterators = past.iterators; first = past.first };
          step = goes (OfPrimitive row.Line) f p (state_of (given_to q) p) [] memory x.names (after_line p) v q (Some (I32 q)) (unrefused (OfPrimitive row.Line) f.fault none)
              (ap (λ (l : Option Value). and_then (where_fit (is_some l) (primitive_acts f.arguments false (changes (after_line p, given l)))) (λ d. Ok (x.names, d))) there)
              (record { below = below; free = look_entries f.values (pos q) ∙ vacant }) refl
              (ap (λ (y : Table Value). state_with (record x.names { values = y }) (after_line p) f) (entries_insert f.values (pos q) v));
        }

    line_given : (m' : Values) (r : Result (Option Word) Refusal) → map.get f.values reserved_handle ≡ None → Gives (reply.Value v) f.values r m' → IsTableCall (OfPrimitive row.Line) f [] memory r (form_line m' None f)
    line_given m' (Ok w) free (q, below, vacant, word, stored) =
        subst (λ (x : Option Word). IsTableCall (OfPrimitive row.Line) f [] memory (Ok x) (form_line m' None f)) (sym word)
        (subst (λ (x : Values). IsTableCall (OfPrimitive row.Line) f [] memory (Ok (Some (I32 q))) (form_line x None f)) (sym stored)
        (leads (OfPrimitive row.Line) f [] memory (told.Done (Some (I32 q))) (given_to q) (line_goes q below vacant)))
    line_given m' (Err why.NoMemory) free h = wanted (OfPrimitive row.Line) f (given_to 2147483647) (form_line m' None f) [] memory (Some (I32 2147483647)) (line_goes 2147483647 below_limit free)
    line_given m' (Err (why.Trap k)) free h = absurd h
    line_given m' (Err (why.Fault x)) free h = absurd h

    pub line_answers : (words : List Word) → no_more words ≡ Ok tt → (m' : Values) (r : Result (Option Word) Refusal) → map.get f.values reserved_handle ≡ None → Gives (reply.Value v) f.values r m'
        → IsTableCall (OfPrimitive row.Line) f words memory r (form_line m' None f)
    line_answers words fit m' r free h = subst (λ ws. IsTableCall (OfPrimitive row.Line) f ws memory r (form_line m' None f)) (sym (no_words words fit)) (line_given m' r free h)
