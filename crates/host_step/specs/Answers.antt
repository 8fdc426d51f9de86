-- Answers as words.
use Rattle.std.specs.Prelude.{ℕ, ◌-◌, ◌^◌, ◌<◌, ◌≡◌, pos, Option, Some, None}
use Rattle.awk_values.specs.declared.value.Value.{Value as AnyValue}
use Rattle.sem_primitives.specs.ConstantNumbers.{flag_number}
use Rattle.sem_primitives.specs.Numbers.{faulted_word, number_word}
use Rattle.sem_primitives.specs.Sorts.{In, InAnswer}
use Rattle.sem_primitives.specs.declared.sorts.Sort.{Sort}
use Rattle.sem_primitives.specs.declared.sorts.Sort.TheVariants.{Value, Number, Array, Iterator}
use Rattle.sem_primitives.specs.declared.sorts.Answer.{Answer}
use Rattle.sem_primitives.specs.declared.sorts.Answer.TheVariants as answer
use Rattle.wasm_store.specs.declared.word.Word.{Word}
use Rattle.wasm_store.specs.declared.word.Word.TheVariants.{I32, I64}
use Rattle.host_imports.specs.Codes.{input_code, assign_code, stream_code, minus_one, end_word}
use Rattle.host_step.specs.HostState.{Names}
use Rattle.host_step.specs.Tables.{Table, look, entered}

-- What is new gets a number.

abbrev pub with_value : ℕ → AnyValue → Names → Names
with_value q v names = record names { values = entered (pos q) v names.values }

abbrev pub with_array : ℕ → ℕ → Names → Names
with_array q a names = record names { arrays = entered (pos q) a names.arrays }

abbrev pub with_iterator : ℕ → ℕ → Names → Names
with_iterator q t names = record names { iterators = entered (pos q) t names.iterators }

abbrev pub encode_option : ℕ → Names → Option AnyValue → Option Word × Names
encode_option q names None = (Some end_word, names)
encode_option q names (Some v) = (Some (I32 q), with_value q v names)

abbrev pub encode_sort : ℕ → Names → (s : Sort) → In s → Option Word × Names
encode_sort q names Value v = (Some (I32 q), with_value q v names)
encode_sort q names Number n = (Some (I64 (number_word n)), names)
encode_sort q names Array a = (Some (I32 q), with_array q a names)
encode_sort q names Iterator t = (Some (I32 q), with_iterator q t names)

-- an answer as a word, and the tables after it: what is new gets the number q
abbrev pub encode : ℕ → Names → (a : Answer) → InAnswer a → Option Word × Names
encode q names answer.Nothing x = (None, names)
encode q names (answer.Of s) x = encode_sort q names s x
encode q names answer.Truth b = (Some (I32 (flag_number b)), names)
encode q names answer.Done x = (Some (I32 0), names)
encode q names answer.Input x = (Some (I32 (input_code x)), names)
encode q names answer.Assign x = (Some (I32 (assign_code x)), names)
encode q names answer.Stream x = (Some (I32 (stream_code x)), names)
encode q names answer.ValueOrEnd x = encode_option q names x
encode q names answer.Name n = (Some (I32 n), names)

-- what is answered in an answer's place where a fault is kept: -1, or the least number of 64 bits
abbrev pub refusal : Answer → Option Word
refusal answer.Nothing = None
refusal (answer.Of Number) = Some (I64 faulted_word)
refusal _ = Some minus_one

-- Free numbers.

-- a number below 2^31 that stands for nothing in a table
pub record IsFree {A : Type 0} (table : Table A) (q : ℕ) : Type 0 where
  pub below : q < 2 ^ 31
  pub free : look table (pos q) ≡ None

abbrev pub FreeForOption : Names → Option AnyValue → ℕ → Type 0
FreeForOption names None q = Unit {0}
FreeForOption names (Some v) q = IsFree names.values q

abbrev pub FreeForSort : Names → Sort → ℕ → Type 0
FreeForSort names Value q = IsFree names.values q
FreeForSort names Number q = Unit {0}
FreeForSort names Array q = IsFree names.arrays q
FreeForSort names Iterator q = IsFree names.iterators q

-- where an answer gives something new a number, it is one that is free in these tables
abbrev pub FreeFor : Names → (a : Answer) → InAnswer a → ℕ → Type 0
FreeFor names (answer.Of s) x q = FreeForSort names s q
FreeFor names answer.ValueOrEnd x q = FreeForOption names x q
FreeFor names _ x q = Unit {0}
