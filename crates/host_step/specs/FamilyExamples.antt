-- Each family of imports once or more, computed: values, special variables, fields, texts, the argument list.
use Rattle.std.specs.Prelude.{◌≡◌, ℕ, pos, neg_ℤ, List, [], ◌∷◌, ◌++◌, codes, false, Option, Some, None, refl}
use Rattle.std.specs.Fmt.{digits}
use Rattle.awk_values.specs.declared.fault.Fault.TheVariants.{FieldNumber, Format, WriteFailed}
use Rattle.awk_values.specs.declared.value.Value.{Value}
use Rattle.awk_values.specs.declared.value.Value.TheVariants.{Uninit, Num, Text, StrNum}
use Rattle.ere_syntax.specs.Scan.{table}
use Rattle.ere_syntax.specs.Readers.{sign_of}
use Rattle.sem_primitives.specs.declared.table.Primitive.TheVariants as row
use Rattle.wasm_model.specs.declared.host.HostAnswer.{HostAnswer}
use Rattle.wasm_model.specs.declared.host.HostAnswer.TheVariants.{Done, Trap}
use Rattle.wasm_store.specs.declared.trap.TrapKind.TheVariants.{BadHandle, BadPointer, BadArgument}
use Rattle.wasm_store.specs.declared.word.Word.TheVariants.{I32, I64}
use Rattle.world_core.specs.WorldState.{Action, Open, Standard, Named, absent, puts, replaced}
use Rattle.host_step.specs.HostState.{HostState}
use Rattle.host_step.specs.Live.{live_values}
use Rattle.host_step.specs.Examples.{Call, new, call, answers, after, done, gives, counts, fails, fails_wide, start, holding, with_outside}
use Rattle.host_step.specs.Tables.{look}
use Rattle.host_imports.specs.declared.import.Import.TheVariants.{OfPrimitive, Variadic, Arg, Drop, IterFree, FreeArray}
use Rattle.host_imports.specs.declared.import.VariadicImport.TheVariants.{Sprintf, Print, Printf}

-- the value that a handle stands for after some calls
abbrev value_after : HostState → List Call → ℕ → Option Value
value_after s calls h = look (after [] s calls).names.values (pos h)

-- Values.

-- `1 < 2`, `2 >= 2`; an uninitialised value is both 0 and the empty text
pub comparisons : answers [] (holding (Num (pos 1) ∷ Num (pos 2) ∷ Num (pos 2) ∷ Num (pos 2) ∷ Uninit ∷ Text [] ∷ []))
    (call (OfPrimitive row.Compare) (I32 0 ∷ I32 0 ∷ I32 1 ∷ []) ∷ call (OfPrimitive row.Compare) (I32 5 ∷ I32 2 ∷ I32 3 ∷ [])
    ∷ call (OfPrimitive row.Compare) (I32 3 ∷ I32 4 ∷ I32 5 ∷ []) ∷ []) ≡ gives 1 ∷ gives 1 ∷ gives 0 ∷ []
comparisons = refl

pub truths : answers [] (holding (Num (pos 0) ∷ Text (codes "0") ∷ Uninit ∷ [])) (call (OfPrimitive row.Truth) (I32 0 ∷ [])
    ∷ call (OfPrimitive row.Truth) (I32 1 ∷ []) ∷ call (OfPrimitive row.Truth) (I32 2 ∷ []) ∷ []) ≡ gives 0 ∷ gives 1 ∷ gives 0 ∷ []
truths = refl

-- a base of -1 with an exponent of -3 is exact
pub power_of_minus_one : answers [] start (call (OfPrimitive row.Pow) (I64 18446744073709551615 ∷ I64 18446744073709551613 ∷ []) ∷ [])
    ≡ counts 18446744073709551615 ∷ []
power_of_minus_one = refl

pub joined_texts : value_after (holding (Text (codes "a") ∷ Text (codes "b") ∷ [])) (new 6 (OfPrimitive row.Concat) (I32 0 ∷ I32 1 ∷ []) ∷ []) 6
    ≡ Some (Text (codes "ab"))
joined_texts = refl

-- Special variables and fields.

-- RSTART is 0 and RLENGTH -1 at the start, FILENAME has no value
pub first_specials : value_after start (new 0 (OfPrimitive row.GetSpecial) (I32 12 ∷ []) ∷ []) 0 ∷ value_after start
    (new 0 (OfPrimitive row.GetSpecial) (I32 10 ∷ []) ∷ []) 0 ∷ value_after start (new 0 (OfPrimitive row.GetSpecial) (I32 2 ∷ []) ∷ []) 0 ∷ []
    ≡ Some (Num (pos 0)) ∷ Some (Num (neg_ℤ (pos 1))) ∷ Some Uninit ∷ []
first_specials = refl

-- `OFS = "-"`, `$3 = "e"`: NF is 3 and `$0` is `--e`; a number past 1,048,576 is a fault
abbrev with_field : List Call
with_field = call (OfPrimitive row.SetSpecial) (I32 8 ∷ I32 0 ∷ []) ∷ call (OfPrimitive row.SetField) (I64 3 ∷ I32 1 ∷ []) ∷ []

pub field_set : answers [] (holding (Text (codes "-") ∷ Text (codes "e") ∷ [])) with_field ≡ gives 0 ∷ gives 0 ∷ []
field_set = refl

pub record_made : value_after (holding (Text (codes "-") ∷ Text (codes "e") ∷ [])) (with_field ++ new 7 (OfPrimitive row.Field) (I64 0 ∷ []) ∷ []) 7
    ≡ Some (StrNum (codes "--e"))
record_made = refl

pub fields_counted : value_after (holding (Text (codes "-") ∷ Text (codes "e") ∷ [])) (with_field ++ new 7 (OfPrimitive row.GetSpecial) (I32 5 ∷ [])
    ∷ []) 7 ≡ Some (Num (pos 3))
fields_counted = refl

pub field_past_the_limit : (after [] start (call (OfPrimitive row.Field) (I64 1048577 ∷ []) ∷ [])).fault ≡ Some FieldNumber
field_past_the_limit = refl

-- Arrays: `a["x"]` makes an element, a key in two parts has SUBSEP between them.

pub element_made : answers [] (holding (Text (codes "x") ∷ Text (codes "x") ∷ [])) (new 2 (OfPrimitive row.NewArray) []
    ∷ new 5 (OfPrimitive row.Elem) (I32 2 ∷ I32 0 ∷ []) ∷ call (OfPrimitive row.Has) (I32 2 ∷ I32 1 ∷ []) ∷ []) ≡ gives 2 ∷ gives 5 ∷ gives 1 ∷ []
element_made = refl

pub key_of_two_parts : value_after (holding (Text (codes "i") ∷ Text (codes "j") ∷ [])) (new 3 (OfPrimitive row.Join) (I32 0 ∷ I32 1 ∷ []) ∷ []) 3
    ≡ Some (Text (codes "i" ++ 28 ∷ codes "j"))
key_of_two_parts = refl

-- two arrays are apart
pub arrays_apart : answers [] (holding (Text (codes "k") ∷ Text (codes "k") ∷ [])) (new 2 (OfPrimitive row.NewArray) [] ∷ new 3 (OfPrimitive row.NewArray) []
    ∷ new 4 (OfPrimitive row.Elem) (I32 2 ∷ I32 0 ∷ []) ∷ call (OfPrimitive row.Has) (I32 3 ∷ I32 1 ∷ []) ∷ []) ≡ gives 2 ∷ gives 3 ∷ gives 4 ∷ gives 0 ∷ []
arrays_apart = refl

-- an array that is emptied is there all the same, by its number; its number is not spent
pub cleared : answers [] (holding (Text (codes "k") ∷ Text (codes "k") ∷ Text (codes "k") ∷ [])) (new 2 (OfPrimitive row.NewArray) []
    ∷ new 4 (OfPrimitive row.Elem) (I32 2 ∷ I32 0 ∷ []) ∷ new 0 (OfPrimitive row.Iter) (I32 2 ∷ []) ∷ call (OfPrimitive row.Clear) (I32 2 ∷ []) ∷ call (OfPrimitive row.Has) (I32 2 ∷ I32 1 ∷ [])
    ∷ new 5 (OfPrimitive row.IterNext) (I32 0 ∷ []) ∷ new 6 (OfPrimitive row.Elem) (I32 2 ∷ I32 2 ∷ []) ∷ call (OfPrimitive row.Clear) (I32 3 ∷ []) ∷ [])
    ≡ gives 2 ∷ gives 4 ∷ gives 0 ∷ gives 0 ∷ gives 0 ∷ gives 5 ∷ gives 6 ∷ Trap BadHandle ∷ []
cleared = refl

-- Texts.

pub index_found : answers [] (holding (Text (codes "hello") ∷ Text (codes "l") ∷ [])) (call (OfPrimitive row.Index) (I32 0 ∷ I32 1 ∷ []) ∷ []) ≡ counts 3 ∷ []
index_found = refl

-- `substr("hello", 0, 3)` and `substr("hello", -1)`
pub parts : value_after (holding (Text (codes "hello") ∷ []))
    (new 1 (OfPrimitive row.Substr) (I32 0 ∷ I64 0 ∷ I64 3 ∷ []) ∷ []) 1 ∷ value_after (holding (Text (codes "hello") ∷ []))
    (new 1 (OfPrimitive row.SubstrFrom) (I32 0 ∷ I64 18446744073709551615 ∷ []) ∷ []) 1 ∷ [] ≡ Some (Text (codes "he")) ∷ Some (Text (codes "hello")) ∷ []
parts = refl

pub cases : value_after (holding (Text (codes "aB") ∷ [])) (new 1 (OfPrimitive row.Upper) (I32 0 ∷ []) ∷ []) 1 ∷ value_after (holding (Text (codes "aB")
    ∷ [])) (new 1 (OfPrimitive row.Lower) (I32 0 ∷ []) ∷ []) 1 ∷ [] ≡ Some (Text (codes "AB")) ∷ Some (Text (codes "ab")) ∷ []
cases = refl

-- `match("abcd", "b|bc")` is 2
pub match_placed : answers [] (holding (Text (codes "abcd") ∷ Text (codes "b|bc") ∷ [])) (call (OfPrimitive row.Match) (I32 0 ∷ I32 1 ∷ []) ∷ [])
    ≡ counts 2 ∷ []
unfolding sign_of table
match_placed = refl

-- the text of a substitution is given once, and there is none before
pub substitution_once : answers [] (holding (Text (codes "b") ∷ Text (codes "x") ∷ Text (codes "abb") ∷ [])) (call (OfPrimitive row.SubResult) []
    ∷ call (OfPrimitive row.Sub) (I32 0 ∷ I32 1 ∷ I32 2 ∷ I32 1 ∷ []) ∷ new 0 (OfPrimitive row.SubResult) [] ∷ call (OfPrimitive row.SubResult) [] ∷ [])
    ≡ Trap BadArgument ∷ counts 2 ∷ gives 0 ∷ Trap BadArgument ∷ []
unfolding sign_of table
substitution_once = refl

pub substitution_text : value_after (holding (Text (codes "b") ∷ Text (codes "x") ∷ Text (codes "abb") ∷ []))
    (call (OfPrimitive row.Sub) (I32 0 ∷ I32 1 ∷ I32 2 ∷ I32 0 ∷ []) ∷ new 0 (OfPrimitive row.SubResult) [] ∷ []) 0 ≡ Some (Text (codes "axb"))
unfolding sign_of table
substitution_text = refl

-- `split("a:b::c", p, ":")` is 4
pub pieces : answers [] (holding (Text (codes "a:b::c") ∷ Text (codes ":") ∷ Text (codes "4") ∷ Text (codes "5") ∷ []))
    (new 2 (OfPrimitive row.NewArray) [] ∷ call (OfPrimitive row.Split) (I32 0 ∷ I32 2 ∷ I32 1 ∷ I32 0 ∷ []) ∷ call (OfPrimitive row.Has) (I32 2 ∷ I32 2 ∷ [])
    ∷ call (OfPrimitive row.Has) (I32 2 ∷ I32 3 ∷ []) ∷ []) ≡ gives 2 ∷ counts 4 ∷ gives 1 ∷ gives 0 ∷ []
unfolding digits
pieces = refl

-- The argument list.

abbrev listed : List Value → HostState
listed values = record start { arguments = values }

-- the last values are taken, those before them stay; no value is an empty line
pub print_last : (after [] (listed (Text (codes "x") ∷ Text (codes "ab") ∷ [])) (call (Variadic Print) (I32 1 ∷ I32 0 ∷ [])
    ∷ call (Variadic Print) (I32 0 ∷ I32 0 ∷ []) ∷ [])).shared.output ≡ puts Standard (codes "ab" ++ 10 ∷ 10 ∷ [])
print_last = refl

pub print_stays : (after [] (listed (Text (codes "x") ∷ Text (codes "ab") ∷ [])) (call (Variadic Print) (I32 1 ∷ I32 0 ∷ []) ∷ [])).arguments
    ≡ Text (codes "x") ∷ []
print_stays = refl

-- too few values: for the count, for the name of a file, for a format
pub too_few : answers [] (listed (Text (codes "f") ∷ [])) (call (Variadic Print) (I32 2 ∷ I32 0 ∷ []) ∷ call (Variadic Print) (I32 1 ∷ I32 1 ∷ [])
    ∷ call (Variadic Sprintf) (I32 0 ∷ []) ∷ call (Variadic Printf) (I32 0 ∷ I32 2 ∷ []) ∷ call (Variadic Print) (I32 4294967295 ∷ I32 0 ∷ []) ∷ [])
    ≡ Trap BadArgument ∷ Trap BadArgument ∷ Trap BadArgument ∷ Trap BadArgument ∷ Trap BadArgument ∷ []
too_few = refl

-- to a file, whose name is the last value; it stays open
pub print_to_a_file : (after [] (listed (Text (codes "a") ∷ Text (codes "f") ∷ Text (codes "b") ∷ Text (codes "f") ∷ []))
    (call (Variadic Print) (I32 1 ∷ I32 1 ∷ []) ∷ call (Variadic Print) (I32 1 ∷ I32 1 ∷ []) ∷ [])).shared.output
    ≡ Open (codes "f") false ∷ puts (Named (codes "f")) (codes "b" ++ 10 ∷ codes "a" ++ 10 ∷ [])
print_to_a_file = refl

-- a flush tells whether the name is written to, and the empty text names all; its argument is spent
pub flushed : answers [] (record (holding (Text (codes "f") ∷ Text (codes "g") ∷ Text [] ∷ [])) { arguments = Text (codes "a") ∷ Text (codes "f") ∷ [] })
    (call (Variadic Print) (I32 1 ∷ I32 1 ∷ []) ∷ call (OfPrimitive row.Flush) (I32 0 ∷ []) ∷ call (OfPrimitive row.Flush) (I32 1 ∷ []) ∷ call (OfPrimitive row.Flush) (I32 2 ∷ [])
    ∷ call (OfPrimitive row.Flush) (I32 2 ∷ []) ∷ []) ≡ gives 0 ∷ gives 0 ∷ gives 3 ∷ gives 0 ∷ Trap BadHandle ∷ []
flushed = refl

-- the standard output has room for two bytes: what fits goes out, the values are taken all the same, and the fault is kept
abbrev full : HostState
full = with_outside (replaced Standard (record absent { room = Some 2 }) (λ target. absent)) (listed (Text (codes "abc") ∷ []))

pub written_in_part : (after [] full (call (Variadic Print) (I32 1 ∷ I32 0 ∷ []) ∷ [])).shared.output ≡ puts Standard (codes "ab")
written_in_part = refl

pub not_all_written : answers [] full (call (Variadic Print) (I32 1 ∷ I32 0 ∷ []) ∷ []) ≡ fails ∷ []
not_all_written = refl

pub taken_all_the_same : (after [] full (call (Variadic Print) (I32 1 ∷ I32 0 ∷ []) ∷ [])).arguments ≡ []
taken_all_the_same = refl

pub fault_of_writing : (after [] full (call (Variadic Print) (I32 1 ∷ I32 0 ∷ []) ∷ [])).fault ≡ Some WriteFailed
fault_of_writing = refl

pub formatted_text : value_after (listed (Text (codes "%s|%c") ∷ Text (codes "ab") ∷ Text (codes "cd") ∷ []))
    (new 4 (Variadic Sprintf) (I32 3 ∷ []) ∷ []) 4 ≡ Some (Text (codes "ab|c"))
formatted_text = refl

-- an argument is missing: the fault comes before anything is written
pub format_fault : (after [] (listed (Text (codes "a%s") ∷ [])) (call (Variadic Printf) (I32 1 ∷ I32 0 ∷ []) ∷ [])).fault ≡ Some Format
format_fault = refl

pub nothing_written : (after [] (listed (Text (codes "a%s") ∷ [])) (call (Variadic Printf) (I32 1 ∷ I32 0 ∷ []) ∷ [])).shared.output ≡ []
nothing_written = refl
