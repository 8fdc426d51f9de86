-- Asking whether all is out is a step.
use Rattle.std.proofs.Common.{◌≡◌, ℕ, ℤ, Bool, List, Some, None, Ok, Err, refl, sym, ap, subst, ◌∙◌}
use Rattle.std.specs.FinMap as table
use Rattle.awk_values.specs.Values.{text_of_value}
use Rattle.awk_values.specs.declared.value.Value.{Value}
use Rattle.sem_primitives.specs.OutputMeaning.{all_out}
use Rattle.sem_primitives.specs.Rows.{flush_row}
use Rattle.sem_primitives.specs.declared.table.Primitive.TheVariants as row
use Rattle.wasm_model.specs.declared.host.HostAnswer.TheVariants as told
use Rattle.wasm_store.specs.declared.trap.TrapKind.{TrapKind}
use Rattle.wasm_store.specs.declared.word.Word.{Word}
use Rattle.wasm_store.specs.declared.word.Word.TheVariants.{I32}
use Rattle.host_imports.specs.Codes.{stream_code}
use Rattle.host_imports.specs.Imports.{spends}
use Rattle.host_imports.specs.declared.import.Import.TheVariants.{OfPrimitive}
use Rattle.host_values.specs.Calls.{names_with}
use Rattle.host_values.specs.Evaluations.{Values}
use Rattle.host_values.specs.Singles.{only_handle}
use Rattle.host_step.specs.declared.refusal.Refusal.TheVariants as why
use Rattle.host_values.proofs.OneHandle.{as_row, decoded}
use Rattle.host_values.specs.ElementCalls.{IsTableCall}
use Rattle.host_values.specs.Forms.{HostForm, Past, state_of}
use Rattle.host_values.proofs.ArraySteps.{carry, inner_at}
use Rattle.host_values.proofs.ElementSteps.{GoesOn, IsPast, goes, leads, trapped, unrefused, wanted}
use Rattle.host_worlds.specs.Forms.{closed_code, with_values}
use Rattle.host_worlds.proofs.Closings.{code_by}

module _ (f : HostForm) (words : List Word) (memory : List ℕ) (none : f.fault ≡ None) where
  pub flush_traps : (k : TrapKind) → only_handle f.values words ≡ Err k → IsTableCall (OfPrimitive row.Flush) f words memory (Err (why.Trap k)) f
  flush_traps k is =
      trapped (OfPrimitive row.Flush) f words memory k (unrefused (OfPrimitive row.Flush) f.fault none)
      (λ p past. ap (carry (OfPrimitive row.Flush) (state_of f p)) (decoded (spends (OfPrimitive row.Flush)) refl (state_of f p) f.values memory words ∙ ap (as_row (state_of f p) f.values) is))

  module _ (h : ℤ) (v : Value) (is : only_handle f.values words ≡ Ok (h, v)) where
    -- what is told of the name
    abbrev code : ℕ
    code = stream_code (flush_row v f.shared.inner)

    flush_goes : (p : Past) → IsPast f p → GoesOn (OfPrimitive row.Flush) f p words memory (told.Done (Some (I32 code))) (with_values (table.remove f.values h) f)
    flush_goes p past = record {
      now = p;
      is = record { arrays = past.arrays; iterators = past.iterators; first = past.first };
      step = goes (OfPrimitive row.Flush) f p (state_of (with_values (table.remove f.values h) f) p) words memory (names_with (table.remove f.values h) (state_of f p)) (inner_at f p) (flush_row v f.shared.inner) 0 (Some (I32 code)) (unrefused (OfPrimitive row.Flush) f.fault none)
          (ap (carry (OfPrimitive row.Flush) (state_of f p)) (decoded (spends (OfPrimitive row.Flush)) refl (state_of f p) f.values memory words ∙ ap (as_row (state_of f p) f.values) is))
          tt refl refl;
    }

    pub flush_memory : (g : HostForm) → IsTableCall (OfPrimitive row.Flush) f words memory (Err why.NoMemory) g
    flush_memory g = wanted (OfPrimitive row.Flush) f (with_values (table.remove f.values h) f) g words memory (Some (I32 code)) flush_goes

    pub flush_call : (values : Values) (name : List ℕ) (out : Bool) → values ≡ table.remove f.values h → name ≡ text_of_value v → out ≡ all_out name f.shared.inner.writers
        → IsTableCall (OfPrimitive row.Flush) f words memory (Ok (Some (closed_code out))) (with_values values f)
    flush_call values name out left text answer =
        subst (λ (m : Values). IsTableCall (OfPrimitive row.Flush) f words memory (Ok (Some (closed_code out))) (with_values m f)) (sym left)
        (subst (λ (w : Word). IsTableCall (OfPrimitive row.Flush) f words memory (Ok (Some w)) (with_values (table.remove f.values h) f))
        (code_by (all_out (text_of_value v) f.shared.inner.writers) ∙ ap (λ n. closed_code (all_out n f.shared.inner.writers)) (sym text) ∙ ap closed_code (sym answer))
        (leads (OfPrimitive row.Flush) f words memory (told.Done (Some (I32 code))) (with_values (table.remove f.values h) f) flush_goes))
