-- What the definition makes of the words of an announcement.
use Rattle.std.proofs.Common.{◌≡◌, ℕ, Bool, List, [], ◌∷◌, Result, Ok, Err, refl}
use Rattle.sem_primitives.specs.Sorts.{Row}
use Rattle.sem_primitives.specs.declared.constants.NameKind.{NameKind}
use Rattle.sem_primitives.specs.declared.sorts.Argument.{Argument}
use Rattle.sem_primitives.specs.declared.sorts.Argument.TheVariants as argument
use Rattle.sem_primitives.specs.declared.sorts.Constant.TheVariants as constant
use Rattle.sem_primitives.specs.declared.sorts.Sort.{Sort}
use Rattle.wasm_store.specs.declared.trap.TrapKind.{TrapKind}
use Rattle.wasm_store.specs.declared.word.Word.{Word}
use Rattle.host_step.specs.Arguments.{and_then, constant_front, decode, no_more, place_front}
use Rattle.host_step.specs.HostState.{Names as Tables}
use Rattle.host_values.proofs.Reading.{before, ended}
use Rattle.host_texts.specs.NameWords.{declare_front}

abbrev pub wanted_names : List Argument
wanted_names = argument.Place ∷ argument.Constant constant.NameKind ∷ []

abbrev Decoded : List Argument → Type 0
Decoded wanted = Result (Row wanted × Tables) TrapKind

abbrev pub declare_row : Tables → Result (List ℕ × NameKind) TrapKind → Decoded wanted_names
declare_row tables (Ok x) = Ok ((x.0, (x.1, tt)), tables)
declare_row tables (Err k) = Err k

abbrev kind_row : Tables → Result (NameKind × List Word) TrapKind → Decoded (argument.Constant constant.NameKind ∷ [])
kind_row tables r = and_then r (λ k. and_then (ended tables k.1) (before k.0))

abbrev kind_said : List ℕ × List Word → Result (NameKind × List Word) TrapKind → Result (List ℕ × NameKind) TrapKind
kind_said x r = and_then r (λ k. and_then (no_more k.1) (λ end. Ok (x.0, k.0)))

kind_by : (tables : Tables) (x : List ℕ × List Word) (r : Result (NameKind × List Word) TrapKind) → and_then (kind_row tables r) (before x.0) ≡ declare_row tables (kind_said x r)
kind_by tables x (Ok (k, [])) = refl
kind_by tables x (Ok (k, w ∷ rest)) = refl
kind_by tables x (Err e) = refl

place_by : (tables : Tables) (r : Result (List ℕ × List Word) TrapKind)
    → and_then r (λ x. and_then (kind_row tables (constant_front constant.NameKind x.1)) (before x.0)) ≡ declare_row tables (and_then r (λ x. kind_said x (constant_front constant.NameKind x.1)))
place_by tables (Ok x) = kind_by tables x (constant_front constant.NameKind x.1)
place_by tables (Err k) = refl

pub declare_decoded : (tables : Tables) (spent : Sort → Bool) (memory : List ℕ) (words : List Word) → decode spent memory tables wanted_names words ≡ declare_row tables (declare_front memory words)
declare_decoded tables spent memory words = place_by tables (place_front memory words)
