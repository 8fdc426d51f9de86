-- What the words of an announcement say.
use Rattle.std.specs.Prelude.{ℕ, List, Result, Ok, Err}
use Rattle.std.specs.Borrow.{Bor}
use Rattle.sem_primitives.specs.declared.constants.NameKind.{NameKind}
use Rattle.sem_primitives.specs.declared.sorts.Constant.TheVariants as constant
use Rattle.wasm_store.specs.declared.trap.TrapKind.{TrapKind}
use Rattle.wasm_store.specs.declared.word.Word.{Word}
use Rattle.host_step.specs.Arguments.{and_then, constant_front, no_more, place_front}

-- a name and what it is
abbrev pub declare_front : List ℕ → List Word → Result (List ℕ × NameKind) TrapKind
declare_front memory words =
    and_then (place_front memory words) (λ x.
    and_then (constant_front constant.NameKind x.1) (λ k.
    and_then (no_more k.1) (λ end.
    Ok (x.0, k.0))))

-- what the code reads, of what it borrows
abbrev pub lent_declare : Result (Bor (List ℕ) × NameKind) TrapKind → Result (List ℕ × NameKind) TrapKind
lent_declare (Ok x) = Ok (x.0.now, x.1)
lent_declare (Err k) = Err k
