-- No call but `print` and `printf` puts anything out.
use Rattle.std.proofs.Common.{◌≡◌, ◌∙◌, ℕ, Bool, true, false, List, [], Result, Ok, Err, refl, cond}
use Rattle.awk_values.specs.declared.fault.Fault.{Fault}
use Rattle.sem_primitives.specs.InTurn.{in_turn}
use Rattle.sem_primitives.specs.SharedState.{Inner, Shared, settles}
use Rattle.sem_primitives.specs.Sorts.{InAnswer, Row}
use Rattle.sem_primitives.specs.Table.{arguments_of, meaning}
use Rattle.sem_primitives.specs.Table as table
use Rattle.sem_primitives.specs.declared.sorts.Answer.{Answer}
use Rattle.sem_primitives.specs.declared.table.Primitive.{Primitive}
use Rattle.sem_primitives.specs.declared.table.Primitive.TheVariants as row
use Rattle.wasm_store.specs.declared.trap.TrapKind.{TrapKind}
use Rattle.wasm_store.specs.declared.word.Word.{Word}
use Rattle.wasm_model.specs.declared.host.HostAnswer.{HostAnswer}
use Rattle.world_core.specs.WorldState.{Action}
use Rattle.host_step.specs.Arguments.{and_then, decode}
use Rattle.host_step.specs.HostState.{HostState, Names}
use Rattle.host_step.specs.HostStep.{Acts, Comes, Goes, Refuses, Settles, StepBy, StepOf, Traps, acts, carried, come, comes, is_freed, only_answers, primitive_acts, refuses, where_fit}
use Rattle.host_imports.specs.Imports.{import_answer, import_arguments, spends}
use Rattle.host_imports.specs.declared.import.Import.{Import}
use Rattle.host_imports.specs.declared.import.Import.TheVariants.{Arg, Drop, FreeArray, IterFree, OfPrimitive, Variadic}
use Rattle.host_imports.specs.declared.import.VariadicImport.TheVariants.{Print, Printf, Sprintf}
use Rattle.task_pages.specs.Powers.{writes}

settles_none : {A : Type 0} (state : Shared) (r : Result (Inner × A) Fault) → (settles state r).added ≡ []
settles_none state (Ok x) = refl
settles_none state (Err fault) = refl

-- a row of the table of primitives
primitive_none : (p : Primitive) (row : Row (arguments_of p)) (state : Shared) → (meaning p row state).added ≡ []
primitive_none row.SetSpecial r state = settles_none state _
primitive_none row.SetField r state = settles_none state _
primitive_none row.Match r state = settles_none state _
primitive_none row.Sub r state = settles_none state _
primitive_none row.Split r state = settles_none state _
primitive_none row.NextMain r state = settles_none state _
primitive_none row.Getline r state = settles_none state _
primitive_none row.GetlineVar r state = settles_none state _
primitive_none row.GetlineFile r state = settles_none state _
primitive_none row.GetlineVarFile r state = settles_none state _
primitive_none row.StartAssign r state = settles_none state _
primitive_none row.Num r state = refl
primitive_none row.Lit r state = refl
primitive_none row.Uninit r state = refl
primitive_none row.Dup r state = refl
primitive_none row.ToNum r state = refl
primitive_none row.IntOf r state = refl
primitive_none row.Truth r state = refl
primitive_none row.Compare r state = refl
primitive_none row.Concat r state = refl
primitive_none row.Pow r state = refl
primitive_none row.Fail r state = refl
primitive_none row.GetSpecial r state = refl
primitive_none row.Field r state = refl
primitive_none row.NewArray r state = refl
primitive_none row.Elem r state = refl
primitive_none row.SetElem r state = refl
primitive_none row.Has r state = refl
primitive_none row.Delete r state = refl
primitive_none row.Join r state = refl
primitive_none row.Iter r state = refl
primitive_none row.IterNext r state = refl
primitive_none row.Length r state = refl
primitive_none row.Matches r state = refl
primitive_none row.SubResult r state = refl
primitive_none row.Substr r state = refl
primitive_none row.SubstrFrom r state = refl
primitive_none row.Index r state = refl
primitive_none row.Lower r state = refl
primitive_none row.Upper r state = refl
primitive_none row.Line r state = refl
primitive_none row.Declare r state = refl
primitive_none row.PendingName r state = refl
primitive_none row.PendingValue r state = refl
primitive_none row.BeginEnd r state = refl
primitive_none row.Close r state = refl
primitive_none row.NextFile r state = refl
primitive_none row.Clear r state = refl
primitive_none row.Flush r state = refl

-- what a call does puts nothing out
abbrev ActsQuietly : {A : Type 0} → Result (Acts A) TrapKind → Type 0
ActsQuietly (Ok d) = d.does.added ≡ []
ActsQuietly (Err kind) = Unit {0}

fit_quiet : {A : Type 0} (b : Bool) (d : Acts A) → d.does.added ≡ [] → ActsQuietly (where_fit b d)
fit_quiet true d h = h
fit_quiet false d h = tt

acts_quiet : (i : Import) (r : Row (import_arguments i)) (s : HostState) → writes i ≡ false → ActsQuietly (acts i r s)
acts_quiet (OfPrimitive p) r s w = fit_quiet (in_turn p r s.shared) (primitive_acts s.arguments (table.can_fault p) (meaning p r s.shared)) (primitive_none p r s.shared)
acts_quiet (Variadic Sprintf) r s w = fit_quiet _ _ refl
acts_quiet (Variadic Print) r s w = cc
acts_quiet (Variadic Printf) r s w = cc
acts_quiet Arg r s w = refl
acts_quiet Drop r s w = refl
acts_quiet IterFree r s w = refl
acts_quiet FreeArray r s w = fit_quiet (is_freed r.0) (only_answers s s.arguments) refl

abbrev ComesQuietly : {A : Type 0} → Comes A → Type 0
ComesQuietly (Traps kind) = Unit {0}
ComesQuietly Refuses = Unit {0}
ComesQuietly (Goes left d) = d.does.added ≡ []

module _ (i : Import) (words : List Word) (memory : List ℕ) (s : HostState) (w : writes i ≡ false) where
  acted : (left : Names) (d : Result (Acts (InAnswer (import_answer i))) TrapKind) → ActsQuietly d
      → ComesQuietly (come (and_then d (λ d. Ok (left, d))))
  acted left (Ok d) h = h
  acted left (Err kind) h = tt

  decoded : (x : Result (Row (import_arguments i) × Names) TrapKind)
      → ComesQuietly (come (and_then x (λ x. and_then (acts i x.0 s) (λ d. Ok (x.1, d)))))
  decoded (Ok x) = acted x.1 (acts i x.0 s) (acts_quiet i x.0 s w)
  decoded (Err kind) = tt

  kept : (b : Bool) → ComesQuietly (cond b Refuses (come (carried i words memory s)))
  kept true = tt
  kept false = decoded (decode (spends i) memory s.names (import_arguments i) words)

  pub comes_quiet : ComesQuietly (comes i words memory s)
  comes_quiet = kept (refuses i s.fault)

settled_quiet : (a : Answer) (before : HostState) (left : Names) (d : Acts (InAnswer a)) (r : Result (InAnswer a) Fault) (v : HostAnswer) (after : HostState)
    (output : List Action) → d.does.added ≡ [] → Settles a before left d r v after output → output ≡ []
settled_quiet a before left d (Ok x) v after output h r = r.2.added ∙ h
settled_quiet a before left d (Err f) v after output h r = r.added ∙ h

by_quiet : (a : Answer) (before : HostState) (c : Comes (InAnswer a)) (v : HostAnswer) (after : HostState) (output : List Action) → ComesQuietly c
    → StepBy a before c v after output → output ≡ []
by_quiet a before (Traps kind) v after output h r = r.added
by_quiet a before Refuses v after output h r = r.added
by_quiet a before (Goes left d) v after output h r = settled_quiet a before left d d.does.answer v after output h r

pub step_quiet : (i : Import) (before after : HostState) (words : List Word) (memory : List ℕ) (v : HostAnswer) (output : List Action) → writes i ≡ false
    → StepOf i before words memory v after output → output ≡ []
step_quiet i before after words memory v output w r = by_quiet (import_answer i) before (comes i words memory before) v after output (comes_quiet i words memory before w) r
