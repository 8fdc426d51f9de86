-- How the words of a call stand for its arguments. They are read from left to right, and the first unfit one traps. What is spent leaves its table as
-- it is read, so one handle for two arguments that are spent is unfit at the second.
use Rattle.std.specs.Prelude.{ℕ, ◌+◌, pos, nat_le, Bool, true, false, List, [], ◌∷◌, length, take, drop, Option, Some, None, Result, Ok, Err, if◌then◌else◌}
use Rattle.std.specs.Int.{w32, cast_signed}
use Rattle.awk_values.specs.declared.value.Value.{Value as AnyValue}
use Rattle.sem_primitives.specs.Constants.{InConstant, constant_at}
use Rattle.sem_primitives.specs.Numbers.{number_of_word}
use Rattle.sem_primitives.specs.Sorts.{In, InArgument, Row}
use Rattle.sem_primitives.specs.declared.sorts.Sort.{Sort}
use Rattle.sem_primitives.specs.declared.sorts.Sort.TheVariants.{Value, Number, Array, Iterator}
use Rattle.sem_primitives.specs.declared.sorts.Constant.{Constant}
use Rattle.sem_primitives.specs.declared.sorts.Argument.{Argument}
use Rattle.sem_primitives.specs.declared.sorts.Argument.TheVariants as argument
use Rattle.wasm_store.specs.declared.trap.TrapKind.{TrapKind}
use Rattle.wasm_store.specs.declared.trap.TrapKind.TheVariants.{BadHandle, BadPointer, BadArgument}
use Rattle.wasm_store.specs.declared.word.Word.{Word}
use Rattle.wasm_store.specs.declared.word.Word.TheVariants.{I32, I64}
use Rattle.host_step.specs.HostState.{Names}
use Rattle.host_step.specs.Tables.{Table, look, without}

abbrev pub and_then : {A B E : Type 0} → Result A E → (A → Result B E) → Result B E
and_then (Ok x) f = f x
and_then (Err e) f = Err e

-- What stands at the front of the words: what it says, and the words behind it; or why it is unfit.

abbrev pub said : {A : Type 0} → TrapKind → Option A → List Word → Result (A × List Word) TrapKind
said kind None rest = Err kind
said kind (Some x) rest = Ok (x, rest)

-- what a number stands for in a table
abbrev pub named_front : {A : Type 0} → Table A → List Word → Result (A × List Word) TrapKind
named_front table (I32 n ∷ rest) = said BadHandle (look table (cast_signed w32 n)) rest
named_front table _ = Err BadArgument

-- a number from -2^53 to 2^53
abbrev pub number_front : List Word → Result (In Number × List Word) TrapKind
number_front (I64 n ∷ rest) = said BadArgument (number_of_word n) rest
number_front _ = Err BadArgument

abbrev pub constant_front : (c : Constant) → List Word → Result (InConstant c × List Word) TrapKind
constant_front c (I32 n ∷ rest) = said BadArgument (constant_at c n) rest
constant_front c _ = Err BadArgument

-- the bytes of a place in memory; none where the place is not within it
abbrev pub text_at : List ℕ → ℕ → ℕ → Option (List ℕ)
text_at memory place size = if nat_le (place + size) (length memory) then Some (take size (drop place memory)) else None

abbrev pub place_front : List ℕ → List Word → Result (List ℕ × List Word) TrapKind
place_front memory (I32 place ∷ I32 size ∷ rest) = said BadPointer (text_at memory place size) rest
place_front memory _ = Err BadArgument

abbrev pub sort_front : Names → (s : Sort) → List Word → Result (In s × List Word) TrapKind
sort_front names Value words = named_front names.values words
sort_front names Number words = number_front words
sort_front names Array words = named_front names.arrays words
sort_front names Iterator words = named_front names.iterators words

abbrev pub front : Names → List ℕ → (a : Argument) → List Word → Result (InArgument a × List Word) TrapKind
front names memory (argument.Of s) words = sort_front names s words
front names memory (argument.Constant c) words = constant_front c words
front names memory argument.Place words = place_front memory words

-- What is spent.

-- a table without the number at the front of the words
abbrev pub removed_front : {A : Type 0} → Table A → List Word → Table A
removed_front table (I32 n ∷ rest) = without (cast_signed w32 n) table
removed_front table _ = table

abbrev pub without_front : Sort → List Word → Names → Names
without_front Value words names = record names { values = removed_front names.values words }
without_front Number words names = names
without_front Array words names = record names { arrays = removed_front names.arrays words }
without_front Iterator words names = record names { iterators = removed_front names.iterators words }

abbrev pub spent_if : Bool → Sort → List Word → Names → Names
spent_if true s words names = without_front s words names
spent_if false s words names = names

-- the tables once the argument at the front of the words is taken, where these sorts are spent
abbrev pub taken_front : (Sort → Bool) → Argument → List Word → Names → Names
taken_front spent (argument.Of s) words names = spent_if (spent s) s words names
taken_front spent (argument.Constant c) words names = names
taken_front spent argument.Place words names = names

-- All arguments.

-- no word is left
abbrev pub no_more : List Word → Result (Unit {0}) TrapKind
no_more [] = Ok tt
no_more (w ∷ rest) = Err BadArgument

-- the arguments that words say, and the tables without what was spent
abbrev pub decode : (spent : Sort → Bool) → List ℕ → Names → (wanted : List Argument) → List Word → Result (Row wanted × Names) TrapKind
decode spent memory names [] words = and_then (no_more words) (λ end. Ok (end, names))
decode spent memory names (a ∷ wanted) words =
    and_then (front names memory a words) (λ x.
    and_then (decode spent memory (taken_front spent a words names) wanted x.1) (λ rest. Ok ((x.0, rest.0), rest.1)))
