-- What the words of print and printf take of the argument list.
use Rattle.std.specs.Prelude.{ℕ, ◌&&◌, nat_le, Bool, List, length, Result, Ok}
use Rattle.awk_values.specs.declared.value.Value.{Value}
use Rattle.sem_primitives.specs.InTurn.{with_name}
use Rattle.sem_primitives.specs.declared.constants.Destination.{Destination}
use Rattle.sem_primitives.specs.declared.sorts.Constant.TheVariants as constant
use Rattle.wasm_store.specs.declared.trap.TrapKind.{TrapKind}
use Rattle.wasm_store.specs.declared.word.Word.{Word}
use Rattle.host_step.specs.Arguments.{and_then, constant_front, no_more}
use Rattle.host_step.specs.HostStep.{last_of, where_fit}

-- a count and where to, and no other word
abbrev pub listing_words : List Word → Result (ℕ × Destination) TrapKind
listing_words words =
    and_then (constant_front constant.Count words) (λ x.
    and_then (constant_front constant.Destination x.1) (λ y.
    and_then (no_more y.1) (λ end. Ok (x.0, y.0))))

-- so many values are there, with the name of their file, and at least as many as are wanted
abbrev pub enough : ℕ → List Value → ℕ × Destination → Bool
enough least arguments x =
    nat_le (with_name x.1 x.0) (length arguments) && nat_le (with_name x.1 least) (length (last_of (with_name x.1 x.0) arguments))

-- how many values are taken, and where to
abbrev pub listed : ℕ → List Value → List Word → Result (ℕ × Destination) TrapKind
listed least arguments words = and_then (listing_words words) (λ x. where_fit (enough least arguments x) (with_name x.1 x.0, x.1))
