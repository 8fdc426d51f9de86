-- What lets something go does so whatever else is shared: also once a fault is kept, where the tables are told in part.
use Rattle.std.proofs.Common.{◌≡◌, ◌∙◌, ℕ, List, Option, Some, None, Result, refl, sym, ap, subst}
use Rattle.awk_values.specs.declared.fault.Fault.{Fault}
use Rattle.wasm_store.specs.declared.word.Word.{Word}
use Rattle.host_imports.specs.declared.import.Import.TheVariants.{Drop, IterFree, FreeArray}
use Rattle.host_values.specs.Evaluations.{Values}
use Rattle.host_step.specs.declared.refusal.Refusal.{Refusal}
use Rattle.host_values.specs.ElementCalls.{IsTableCall, with_arrays, with_iterators}
use Rattle.host_values.specs.Forms.{Arrays, HostForm, Iterators}
use Rattle.host_values.specs.Findings.{After, Finding, View, viewed}
use Rattle.host_values.specs.Shown.{SharesBy}
use Rattle.host_values.specs.TableCalls.{TableCalls}
use Rattle.host_values.proofs.Showing.{shares_tables}
use Rattle.host_tables.specs.Families.{of_values}

-- the same with another table of these

with_values_by : (o : Option Fault) (x : Values) (form f : HostForm) → SharesBy o form f → SharesBy o (of_values x form) (of_values x f)
with_values_by None x form f e = ap (of_values x) e
with_values_by (Some fault) x form f e =
    record { values = refl; arrays = e.arrays; iterators = e.iterators; fault = e.fault; outside = e.outside; output = e.output }

with_iterators_by : (o : Option Fault) (x : Iterators) (form f : HostForm) → SharesBy o form f → SharesBy o (record form { iterators = x }) (record f { iterators = x })
with_iterators_by None x form f e = ap (λ (z : HostForm). record z { iterators = x }) e
with_iterators_by (Some fault) x form f e =
    record { values = e.values; arrays = e.arrays; iterators = refl; fault = e.fault; outside = e.outside; output = e.output }

with_arrays_by : (o : Option Fault) (x : Arrays) (form f : HostForm) → SharesBy o form f → SharesBy o (record form { arrays = x }) (record f { arrays = x })
with_arrays_by None x form f e = ap (λ (z : HostForm). record z { arrays = x }) e
with_arrays_by (Some fault) x form f e =
    record { values = e.values; arrays = refl; iterators = e.iterators; fault = e.fault; outside = e.outside; output = e.output }

-- whatever is shown of what is not the host's own

values_viewed : (v : View) (f : HostForm) → (viewed v f).values ≡ f.values
values_viewed (After o) f = refl
values_viewed (Finding finds outside o) f = refl

iterators_viewed : (v : View) (f : HostForm) → (viewed v f).iterators ≡ f.iterators
iterators_viewed (After o) f = refl
iterators_viewed (Finding finds outside o) f = refl

arrays_viewed : (v : View) (f : HostForm) → (viewed v f).arrays ≡ f.arrays
arrays_viewed (After o) f = refl
arrays_viewed (Finding finds outside o) f = refl

viewed_with_values : (v : View) (x : Values) (f : HostForm) → of_values x (viewed v f) ≡ viewed v (of_values x f)
viewed_with_values (After o) x f = refl
viewed_with_values (Finding finds outside o) x f = refl

viewed_with_iterators : (v : View) (x : Iterators) (f : HostForm) → record (viewed v f) { iterators = x } ≡ viewed v (record f { iterators = x })
viewed_with_iterators (After o) x f = refl
viewed_with_iterators (Finding finds outside o) x f = refl

viewed_with_arrays : (v : View) (x : Arrays) (f : HostForm) → record (viewed v f) { arrays = x } ≡ viewed v (record f { arrays = x })
viewed_with_arrays (After o) x f = refl
viewed_with_arrays (Finding finds outside o) x f = refl

module _ (before : HostForm) (words : List Word) (memory : List ℕ) (r : Result (Option Word) Refusal) where
  pub value_goes : (x : Values) → ((f : HostForm) → IsTableCall Drop (of_values before.values f) words memory r (of_values x f))
      → TableCalls Drop before words memory r (of_values x before)
  value_goes x calls v form shares = (
    of_values x form,
    subst (SharesBy before.fault (of_values x form)) (viewed_with_values v x before) (with_values_by before.fault x form (viewed v before) shares),
    subst (λ (y : Values). IsTableCall Drop (of_values y form) words memory r (of_values x form))
        (sym ((shares_tables before.fault form (viewed v before) shares).values ∙ values_viewed v before)) (calls form),
  )

  pub iterator_goes : (x : Iterators) → ((f : HostForm) → IsTableCall IterFree (with_iterators f.values before.iterators f) words memory r (with_iterators f.values x f))
      → TableCalls IterFree before words memory r (record before { iterators = x })
  iterator_goes x calls v form shares = (
    record form { iterators = x },
    subst (SharesBy before.fault (record form { iterators = x })) (viewed_with_iterators v x before) (with_iterators_by before.fault x form (viewed v before) shares),
    subst (λ (y : Iterators). IsTableCall IterFree (record form { iterators = y }) words memory r (record form { iterators = x }))
        (sym ((shares_tables before.fault form (viewed v before) shares).iterators ∙ iterators_viewed v before)) (calls form),
  )

  pub array_goes : (x : Arrays) → ((f : HostForm) → IsTableCall FreeArray (with_arrays f.values before.arrays f) words memory r (with_arrays f.values x f))
      → TableCalls FreeArray before words memory r (record before { arrays = x })
  array_goes x calls v form shares = (
    record form { arrays = x },
    subst (SharesBy before.fault (record form { arrays = x })) (viewed_with_arrays v x before) (with_arrays_by before.fault x form (viewed v before) shares),
    subst (λ (y : Arrays). IsTableCall FreeArray (record form { arrays = y }) words memory r (record form { arrays = x }))
        (sym ((shares_tables before.fault form (viewed v before) shares).arrays ∙ arrays_viewed v before)) (calls form),
  )
