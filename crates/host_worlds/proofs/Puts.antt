-- What putting a text out leaves alone.
use Rattle.std.proofs.Common.{◌≡◌, ℕ, Bool, true, false, List, Option, None, Result, Ok, Err, refl}
use Rattle.awk_values.specs.declared.fault.Fault.{Fault}
use Rattle.sem_primitives.specs.Finds.{finds_by, observed_by, seen}
use Rattle.sem_primitives.specs.OutputMeaning.{has_room, is_writing, kept_open, opened_if, printf_by, put_text, written_by}
use Rattle.sem_primitives.specs.SharedState.{HostResult, Inner, Shared}
use Rattle.sem_primitives.specs.declared.constants.Destination.{Destination}
use Rattle.sem_primitives.specs.declared.constants.Destination.TheVariants.{Standard, Emptied, Appended}
use Rattle.world_core.specs.WorldState.{Action, Entry, Named}

-- with this output so far
abbrev pub so_far_in : List Action → Shared → Shared
so_far_in output shared = record shared { output = output }

-- What was put out before does not count.

opened_same : (room opens : Bool) (name text : List ℕ) (append : Bool) (shared : Shared) (output : List Action)
    → opened_if room opens name append text (so_far_in output shared) ≡ opened_if room opens name append text shared
opened_same false opens name text append shared output = refl
opened_same true false name text append shared output = refl
opened_same true true name text append shared output = refl

written_same : (b : Bool) (name text : List ℕ) (append : Bool) (shared : Shared) (output : List Action)
    → written_by b name append text (so_far_in output shared) ≡ written_by b name append text shared
written_same true name text append shared output = refl
written_same false name text append shared output = opened_same (has_room shared.inner) (seen shared.inner shared.outside (Named name)).opens name text append shared output

pub put_same : (to : Destination) (name text : List ℕ) (shared : Shared) (output : List Action) → put_text to name text (so_far_in output shared) ≡ put_text to name text shared
put_same Standard name text shared output = refl
put_same Emptied name text shared output = written_same (is_writing name shared.inner.writers) name text false shared output
put_same Appended name text shared output = written_same (is_writing name shared.inner.writers) name text true shared output

pub printf_same : (r : Result (List ℕ) Fault) (to : Destination) (name : List ℕ) (shared : Shared) (output : List Action) → printf_by r to name (so_far_in output shared) ≡ printf_by r to name shared
printf_same (Ok text) to name shared output = put_same to name text shared output
printf_same (Err fault) to name shared output = refl

-- Only the files that are open for writing change.

abbrev pub with_writers : Inner → List (List ℕ) → Option (List Entry) → Inner
with_writers inner names finds = record inner { writers = names; finds = finds }

-- and what is found, where nothing faults
abbrev pub OnlyWriters : Inner → HostResult (Result (Unit {0}) Fault) → Type 0
OnlyWriters inner does = does.inner ≡ with_writers inner does.inner.writers (finds_by does.answer inner.finds)

kept_only : (name : List ℕ) (inner : Inner) (r : Result (Unit {0}) Fault)
    → kept_open name (observed_by r inner) r ≡ with_writers inner (kept_open name (observed_by r inner) r).writers (finds_by r inner.finds)
kept_only name inner (Ok u) = refl
kept_only name inner (Err fault) = refl

-- where nobody else changes what names hold
pub none_by : (r : Result (Unit {0}) Fault) → finds_by r None ≡ None
none_by (Ok u) = refl
none_by (Err fault) = refl

opened_only : (room opens : Bool) (name text : List ℕ) (append : Bool) (shared : Shared) → OnlyWriters shared.inner (opened_if room opens name append text shared)
opened_only false opens name text append shared = refl
opened_only true false name text append shared = refl
opened_only true true name text append shared = kept_only name shared.inner (opened_if true true name append text shared).answer

written_only : (b : Bool) (name text : List ℕ) (append : Bool) (shared : Shared) → OnlyWriters shared.inner (written_by b name append text shared)
written_only true name text append shared = refl
written_only false name text append shared = opened_only (has_room shared.inner) (seen shared.inner shared.outside (Named name)).opens name text append shared

put_only : (to : Destination) (name text : List ℕ) (shared : Shared) → OnlyWriters shared.inner (put_text to name text shared)
put_only Standard name text shared = refl
put_only Emptied name text shared = written_only (is_writing name shared.inner.writers) name text false shared
put_only Appended name text shared = written_only (is_writing name shared.inner.writers) name text true shared

pub printf_only : (r : Result (List ℕ) Fault) (to : Destination) (name : List ℕ) (shared : Shared) → OnlyWriters shared.inner (printf_by r to name shared)
printf_only (Ok text) to name shared = put_only to name text shared
printf_only (Err fault) to name shared = refl
