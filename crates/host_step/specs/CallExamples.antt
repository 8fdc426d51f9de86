-- Single calls and short runs of the host, computed: traps, what is spent, what a kept fault does, numbers that come again.
use Rattle.std.specs.Prelude.{◌≡◌, ℕ, suc, pos, neg_ℤ, List, [], ◌∷◌, codes, Option, Some, None, refl}
use Rattle.awk_values.specs.declared.fault.Fault.{Fault}
use Rattle.awk_values.specs.declared.fault.Fault.TheVariants.{Range, DivisionByZero, FieldNumber, NextOutside}
use Rattle.awk_values.specs.declared.value.Value.{Value}
use Rattle.awk_values.specs.declared.value.Value.TheVariants.{Uninit, Num, Text, StrNum}
use Rattle.ere_syntax.specs.Readers.{sign_of}
use Rattle.sem_primitives.specs.declared.table.Primitive.TheVariants as row
use Rattle.wasm_model.specs.declared.host.HostAnswer.{HostAnswer}
use Rattle.wasm_model.specs.declared.host.HostAnswer.TheVariants.{Done, Trap}
use Rattle.wasm_store.specs.declared.trap.TrapKind.TheVariants.{BadHandle, BadPointer, BadArgument}
use Rattle.wasm_store.specs.declared.word.Word.TheVariants.{I32, I64}
use Rattle.wasm_types.specs.declared.types.ValType.TheVariants as ty
use Rattle.host_step.specs.HostState.{HostState}
use Rattle.host_step.specs.Live.{live_values, live_arrays, live_iterators}
use Rattle.host_imports.specs.Imports.{host_finds, import_at, imports}
use Rattle.host_imports.specs.Names.{import_number}
use Rattle.host_step.specs.Examples.{Call, new, call, answers, after, done, gives, counts, fails, fails_wide, start, holding, with_fault}
use Rattle.host_imports.specs.declared.import.Import.{Import}
use Rattle.host_imports.specs.declared.import.Import.TheVariants.{OfPrimitive, Variadic, Arg, Drop, IterFree, FreeArray}
use Rattle.host_imports.specs.declared.import.VariadicImport.TheVariants.{Sprintf, Print, Printf}

-- The table.

abbrev numbered_from : ℕ → List Import → List (ℕ × Import)
numbered_from n [] = []
numbered_from n (i ∷ is) = (n, i) ∷ numbered_from (suc n) is

abbrev with_numbers : List Import → List (ℕ × Import)
with_numbers [] = []
with_numbers (i ∷ is) = (import_number i, i) ∷ with_numbers is

-- an import's number is its place
pub numbers_are_places : with_numbers imports ≡ numbered_from 0 imports
numbers_are_places = refl

pub none_past_the_last : import_at 56 ≡ None
none_past_the_last = refl

pub found_pow : host_finds (codes "awk1") (codes "pow") ≡ Some (9, record { params = ty.I64 ∷ ty.I64 ∷ []; result = Some ty.I64 })
found_pow = refl

pub found_declare : host_finds (codes "awk1") (codes "declare") ≡ Some (40, record { params = ty.I32 ∷ ty.I32 ∷ ty.I32 ∷ []; result = None })
found_declare = refl

pub found_free_array : host_finds (codes "awk1") (codes "free_array") ≡ Some (52, record { params = ty.I32 ∷ []; result = None })
found_free_array = refl

pub found_substr : host_finds (codes "awk1") (codes "substr") ≡ Some (29, record { params = ty.I32 ∷ ty.I64 ∷ ty.I64 ∷ []; result = Some ty.I32 })
found_substr = refl

-- `awk2` has them too, by the same numbers, and three more
pub found_in_second : host_finds (codes "awk2") (codes "pow") ≡ host_finds (codes "awk1") (codes "pow")
found_in_second = refl

pub found_next_file : host_finds (codes "awk2") (codes "next_file") ≡ Some (53, record { params = []; result = Some ty.I32 })
found_next_file = refl

pub found_flush : host_finds (codes "awk2") (codes "flush") ≡ Some (55, record { params = ty.I32 ∷ []; result = Some ty.I32 })
found_flush = refl

pub not_in_first : host_finds (codes "awk1") (codes "next_file") ∷ host_finds (codes "awk1") (codes "clear") ∷ host_finds (codes "awk1") (codes "flush") ∷ []
    ≡ None ∷ None ∷ None ∷ []
not_in_first = refl

pub no_such_module : host_finds (codes "awk3") (codes "pow") ≡ None
no_such_module = refl

-- Unfit words.

pub unknown_handle : answers [] start (call Drop (I32 99 ∷ []) ∷ []) ≡ Trap BadHandle ∷ []
unknown_handle = refl

pub number_too_large : answers [] start (call (OfPrimitive row.Num) (I64 9007199254740993 ∷ []) ∷ []) ≡ Trap BadArgument ∷ []
number_too_large = refl

-- 2^53, and -2^53
pub numbers_that_fit : answers [] start (new 3 (OfPrimitive row.Num) (I64 9007199254740992 ∷ []) ∷ new 4 (OfPrimitive row.Num) (I64 18437736874454810624 ∷ [])
    ∷ call (OfPrimitive row.ToNum) (I32 4 ∷ []) ∷ []) ≡ gives 3 ∷ gives 4 ∷ counts 18437736874454810624 ∷ []
numbers_that_fit = refl

pub place_outside : answers (codes "abcd") start (call (OfPrimitive row.Lit) (I32 3 ∷ I32 2 ∷ []) ∷ []) ≡ Trap BadPointer ∷ []
place_outside = refl

-- the end of the memory is within it, and no sum of a place and a length wraps
pub places_at_the_end : answers (codes "abcd") start (new 0 (OfPrimitive row.Lit) (I32 4 ∷ I32 0 ∷ []) ∷ call (OfPrimitive row.Lit) (I32 5 ∷ I32 0 ∷ [])
    ∷ call (OfPrimitive row.Lit) (I32 4294967295 ∷ I32 2 ∷ []) ∷ []) ≡ gives 0 ∷ Trap BadPointer ∷ Trap BadPointer ∷ []
places_at_the_end = refl

pub unfit_constants : answers [] (holding (Uninit ∷ Uninit ∷ [])) (call (OfPrimitive row.Compare) (I32 6 ∷ I32 0 ∷ I32 1 ∷ [])
    ∷ call (OfPrimitive row.GetSpecial) (I32 14 ∷ []) ∷ call (OfPrimitive row.Fail) (I32 0 ∷ []) ∷ call (OfPrimitive row.Fail) (I32 17 ∷ [])
    ∷ call (Variadic Print) (I32 0 ∷ I32 3 ∷ []) ∷ []) ≡ Trap BadArgument ∷ Trap BadArgument ∷ Trap BadArgument ∷ Trap BadArgument ∷ Trap BadArgument ∷ []
unfit_constants = refl

-- a word of another type, too many words and too few
pub other_words : answers [] start (call Drop (I64 0 ∷ []) ∷ call (OfPrimitive row.Uninit) (I32 0 ∷ []) ∷ call (OfPrimitive row.Num) [] ∷ [])
    ≡ Trap BadArgument ∷ Trap BadArgument ∷ Trap BadArgument ∷ []
other_words = refl

-- the first unfit word decides: an unknown handle before a flag, and a number of a special variable before a handle
pub first_unfit : answers [] (holding (Uninit ∷ Uninit ∷ [])) (call (OfPrimitive row.Sub) (I32 0 ∷ I32 1 ∷ I32 0 ∷ I32 7 ∷ [])
    ∷ call (OfPrimitive row.SetSpecial) (I32 14 ∷ I32 99 ∷ []) ∷ []) ≡ Trap BadHandle ∷ Trap BadArgument ∷ []
first_unfit = refl

-- What is spent.

pub dropped_twice : answers [] start (new 0 (OfPrimitive row.Uninit) [] ∷ call Drop (I32 0 ∷ []) ∷ call Drop (I32 0 ∷ []) ∷ [])
    ≡ gives 0 ∷ done ∷ Trap BadHandle ∷ []
dropped_twice = refl

-- one handle for two arguments traps, and is still there
pub given_twice : answers [] (holding (Text (codes "a") ∷ [])) (call (OfPrimitive row.Concat) (I32 0 ∷ I32 0 ∷ []) ∷ call Drop (I32 0 ∷ []) ∷ [])
    ≡ Trap BadHandle ∷ done ∷ []
given_twice = refl

-- a trap spends nothing and changes nothing
pub trap_changes_nothing : after [] (holding (Text (codes "a") ∷ [])) (call (OfPrimitive row.Concat) (I32 0 ∷ I32 9 ∷ []) ∷ [])
    ≡ holding (Text (codes "a") ∷ [])
trap_changes_nothing = refl

-- both are spent, and the number of either may come again at once
pub spent_at_once : answers [] (holding (Text (codes "a") ∷ Text (codes "bc") ∷ [])) (new 1 (OfPrimitive row.Concat) (I32 0 ∷ I32 1 ∷ [])
    ∷ call Drop (I32 0 ∷ []) ∷ call (OfPrimitive row.Length) (I32 1 ∷ []) ∷ []) ≡ gives 1 ∷ Trap BadHandle ∷ counts 3 ∷ []
spent_at_once = refl

-- `dup` only looks
pub looks_only : answers [] (holding (Num (pos 7) ∷ [])) (new 5 (OfPrimitive row.Dup) (I32 0 ∷ []) ∷ call (OfPrimitive row.ToNum) (I32 0 ∷ [])
    ∷ call (OfPrimitive row.ToNum) (I32 5 ∷ []) ∷ call (OfPrimitive row.ToNum) (I32 0 ∷ []) ∷ []) ≡ gives 5 ∷ counts 7 ∷ counts 7 ∷ Trap BadHandle ∷ []
looks_only = refl

-- the argument list holds values, and no handles
pub appended : (after [] (holding (Num (pos 7) ∷ Uninit ∷ [])) (call Arg (I32 1 ∷ []) ∷ call Arg (I32 0 ∷ []) ∷ [])).arguments
    ≡ Uninit ∷ Num (pos 7) ∷ []
appended = refl

pub appended_are_spent : live_values (after [] (holding (Num (pos 7) ∷ Uninit ∷ [])) (call Arg (I32 1 ∷ []) ∷ call Arg (I32 0 ∷ []) ∷ [])) ≡ 0
appended_are_spent = refl

-- at the start
pub live_at_start : live_values start ∷ live_arrays start ∷ live_iterators start ∷ [] ≡ 0 ∷ 2 ∷ 0 ∷ []
live_at_start = refl

-- Arrays and iterators.

-- the number of an array that was freed comes again, for an empty array
pub freed_number_again : answers [] (holding (Text (codes "k") ∷ Num (pos 1) ∷ Text (codes "k") ∷ Text (codes "k") ∷ []))
    (new 2 (OfPrimitive row.NewArray) [] ∷ call (OfPrimitive row.SetElem) (I32 2 ∷ I32 0 ∷ I32 1 ∷ []) ∷ call (OfPrimitive row.Has) (I32 2 ∷ I32 2 ∷ [])
    ∷ call FreeArray (I32 2 ∷ []) ∷ call FreeArray (I32 2 ∷ []) ∷ new 2 (OfPrimitive row.NewArray) [] ∷ call (OfPrimitive row.Has) (I32 2 ∷ I32 3 ∷ []) ∷ [])
    ≡ gives 2 ∷ gives 0 ∷ gives 1 ∷ done ∷ Trap BadHandle ∷ gives 2 ∷ gives 0 ∷ []
freed_number_again = refl

-- ARGV and ENVIRON are not freed; an array's number is no handle, and a handle no array's
pub not_freed : answers [] (holding (Uninit ∷ Uninit ∷ Uninit ∷ Uninit ∷ [])) (call FreeArray (I32 0 ∷ []) ∷ call FreeArray (I32 1 ∷ [])
    ∷ call FreeArray (I32 2 ∷ []) ∷ call (OfPrimitive row.Iter) (I32 3 ∷ []) ∷ []) ≡ Trap BadArgument ∷ Trap BadArgument ∷ Trap BadHandle ∷ Trap BadHandle ∷ []
not_freed = refl

-- the keys that were there at the start are visited, in order, then comes -2; the iterator is there until it is let go
pub visited : answers [] (holding (Text (codes "a") ∷ Text (codes "b") ∷ Text (codes "a") ∷ Text (codes "c") ∷ []))
    (new 9 (OfPrimitive row.NewArray) [] ∷ new 4 (OfPrimitive row.Elem) (I32 9 ∷ I32 0 ∷ []) ∷ new 5 (OfPrimitive row.Elem) (I32 9 ∷ I32 1 ∷ [])
    ∷ new 6 (OfPrimitive row.Iter) (I32 9 ∷ [])
    ∷ call (OfPrimitive row.Delete) (I32 9 ∷ I32 2 ∷ []) ∷ new 7 (OfPrimitive row.IterNext) (I32 6 ∷ []) ∷ new 8 (OfPrimitive row.IterNext) (I32 6 ∷ [])
    ∷ call (OfPrimitive row.IterNext) (I32 6 ∷ []) ∷ call IterFree (I32 6 ∷ []) ∷ call IterFree (I32 6 ∷ []) ∷ call (OfPrimitive row.IterNext) (I32 6 ∷ []) ∷ [])
    ≡ gives 9 ∷ gives 4 ∷ gives 5 ∷ gives 6 ∷ gives 0 ∷ gives 7 ∷ gives 8 ∷ gives 4294967294 ∷ done ∷ Trap BadHandle ∷ Trap BadHandle ∷ []
visited = refl

-- Kept faults.

pub fault_is_kept : (after [] start (call (OfPrimitive row.Fail) (I32 15 ∷ []) ∷ [])).fault ≡ Some NextOutside
fault_is_kept = refl

pub first_fault_stays : (after [] start (call (OfPrimitive row.Fail) (I32 3 ∷ []) ∷ call (OfPrimitive row.Fail) (I32 4 ∷ []) ∷ [])).fault ≡ Some DivisionByZero
first_fault_stays = refl

-- the import that keeps a fault has spent its arguments, and answers -1 or the least number
pub fault_spends : answers [] (holding (Num (neg_ℤ (pos 1)) ∷ [])) (call (OfPrimitive row.SetSpecial) (I32 5 ∷ I32 0 ∷ []) ∷ call Drop (I32 0 ∷ []) ∷ [])
    ≡ fails ∷ Trap BadHandle ∷ []
fault_spends = refl

pub fault_of_a_count : (after [] (holding (Num (neg_ℤ (pos 1)) ∷ [])) (call (OfPrimitive row.SetSpecial) (I32 5 ∷ I32 0 ∷ []) ∷ [])).fault ≡ Some FieldNumber
fault_of_a_count = refl

pub wide_fault_spends : answers [] (holding (Text (codes "x") ∷ Text (codes "(") ∷ [])) (call (OfPrimitive row.Match) (I32 0 ∷ I32 1 ∷ [])
    ∷ call Drop (I32 0 ∷ []) ∷ call Drop (I32 1 ∷ []) ∷ []) ≡ fails_wide ∷ Trap BadHandle ∷ Trap BadHandle ∷ []
unfolding sign_of
wide_fault_spends = refl

-- those after it spend nothing and do nothing, whatever their words are
pub refused_calls : answers [] (with_fault Range (holding (Num (pos 7) ∷ [])))
    (call (OfPrimitive row.ToNum) (I32 0 ∷ []) ∷ call (OfPrimitive row.ToNum) (I32 99 ∷ []) ∷ call (OfPrimitive row.Num) (I64 1 ∷ []) ∷ call (OfPrimitive row.Truth) (I32 0 ∷ [])
    ∷ call Arg (I32 0 ∷ []) ∷ call (OfPrimitive row.NewArray) [] ∷ call (OfPrimitive row.IterNext) (I32 3 ∷ []) ∷ call (Variadic Print) (I32 9 ∷ I32 9 ∷ [])
    ∷ call (OfPrimitive row.Line) [] ∷ call (OfPrimitive row.Fail) (I32 1 ∷ []) ∷ [])
    ≡ fails_wide ∷ fails_wide ∷ fails ∷ fails ∷ done ∷ fails ∷ fails ∷ fails ∷ fails ∷ done ∷ []
refused_calls = refl

pub refused_changes_nothing : after [] (with_fault Range (holding (Num (pos 7) ∷ []))) (call (OfPrimitive row.ToNum) (I32 0 ∷ []) ∷ call Arg (I32 0 ∷ [])
    ∷ call (OfPrimitive row.NewArray) [] ∷ []) ≡ with_fault Range (holding (Num (pos 7) ∷ []))
refused_changes_nothing = refl

-- what lets something go does so all the same, and traps as ever
pub lets_go_after_a_fault : answers [] (holding (Num (pos 7) ∷ [])) (new 2 (OfPrimitive row.NewArray) [] ∷ new 0 (OfPrimitive row.Iter) (I32 2 ∷ [])
    ∷ call (OfPrimitive row.Fail) (I32 1 ∷ []) ∷ call Drop (I32 0 ∷ []) ∷ call Drop (I32 0 ∷ []) ∷ call IterFree (I32 0 ∷ []) ∷ call IterFree (I32 0 ∷ [])
    ∷ call FreeArray (I32 2 ∷ []) ∷ call FreeArray (I32 2 ∷ []) ∷ call FreeArray (I32 0 ∷ []) ∷ [])
    ≡ gives 2 ∷ gives 0 ∷ done ∷ done ∷ Trap BadHandle ∷ done ∷ Trap BadHandle ∷ done ∷ Trap BadHandle ∷ Trap BadArgument ∷ []
lets_go_after_a_fault = refl
