-- The shared state, and forms of the host, with the names and the assignments that are kept.
use Rattle.std.specs.Prelude.{◌≡◌, ℕ, Bool, true, false, List, [], ◌∷◌, drop, map, Option, Some, None, IsSome, Result, Err}
use Rattle.sem_primitives.specs.SharedState.{Inner}
use Rattle.sem_primitives.specs.declared.constants.NameKind.{NameKind}
use Rattle.awk_values.specs.declared.value.Value.{Value}
use Rattle.wasm_store.specs.declared.word.Word.{Word}
use Rattle.host_values.specs.Evaluations.{Values}
use Rattle.host_step.specs.declared.refusal.Refusal.{Refusal}
use Rattle.host_step.specs.declared.refusal.Refusal.TheVariants as why
use Rattle.host_texts.specs.States.{with_texts}
use Rattle.host_texts.specs.declared.texts.Texts.{Texts}
use Rattle.host_values.specs.Forms.{HostForm}
use Rattle.host_texts.specs.declared.names.NamedText.{NamedText}
use Rattle.host_texts.specs.declared.names.Names.{Names}

-- the names of the script and what they are, by their numbers
abbrev pub announced : Names → List (List ℕ × NameKind)
announced n = n.names.entries

abbrev pub pair_of : NamedText → List ℕ × List ℕ
pair_of p = (p.name, p.text)

-- the assignments that are still to be made
abbrev pub left_of : Names → List (List ℕ × List ℕ)
left_of n = map pair_of (drop n.made n.assigns.items)

abbrev pub with_names : Names → Inner → Inner
with_names n inner = record inner { names = announced n; assigns = left_of n; pending = n.pending }

-- nothing changes but this
abbrev pub with_pending : Option (ℕ × Value) → Names → Names
with_pending pending n = record n { pending = pending }

-- one is to be made now, or what is to be made is as it was
abbrev pub PendsBy : Bool → Names → Names → Type 0
PendsBy true old new = IsSome new.pending
PendsBy false old new = new.pending ≡ old.pending

-- with these special variables and this record too
abbrev pub with_all : Texts → Names → Inner → Inner
with_all t n inner = with_names n (with_texts t inner)

-- the next assignment is taken, or none is left
abbrev pub Takes : Names → Option (List ℕ × List ℕ) → Names → Type 0
Takes old None new = (left_of old ≡ []) × (new ≡ old)
Takes old (Some pair) new = (left_of old ≡ pair ∷ left_of new)
    × ((inner : Inner) → with_names new inner ≡ record (with_names old inner) { assigns = left_of new })

-- forms

abbrev pub of_names : Names → Values → HostForm → HostForm
of_names n values f = record f { values = values; shared = record f.shared { inner = with_names n f.shared.inner } }

abbrev pub of_all : Texts → Names → HostForm → HostForm
of_all t n f = record f { shared = record f.shared { inner = with_all t n f.shared.inner } }

-- what a call leaves: at a fault what a script and its host share is as it was, whatever was done before
abbrev pub left_after : Result (Option Word) Refusal → (old new : HostForm) → HostForm
left_after (Err (why.Fault f)) old new = old
left_after r old new = new
