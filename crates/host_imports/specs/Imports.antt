-- The table of imports of the modules `awk1` and `awk2`: arguments and answer of each, what it spends, whether it may trap or fault. Names and numbers are in Names.
use Rattle.std.specs.List.{position}
use Rattle.std.specs.Cmp.Lexicographic.{pointwise}
use Rattle.std.specs.Prelude.{ℕ, ◌==◌, nat_lt, Bool, true, false, List, [], ◌∷◌, ◌++◌, codes, Option, Some, None, slice_get, cond}
use Rattle.wasm_types.specs.Syntax.{Signature}
use Rattle.wasm_types.specs.declared.types.ValType.{ValType}
use Rattle.wasm_types.specs.declared.types.ValType.TheVariants.{I32, I64}
use Rattle.sem_primitives.specs.Table.{arguments_of, answer_of}
use Rattle.sem_primitives.specs.declared.sorts.Argument.{Argument}
use Rattle.sem_primitives.specs.declared.sorts.Argument.TheVariants as argument
use Rattle.sem_primitives.specs.declared.sorts.Answer.{Answer}
use Rattle.sem_primitives.specs.declared.sorts.Answer.TheVariants as answer
use Rattle.sem_primitives.specs.declared.sorts.Constant.TheVariants as constant
use Rattle.sem_primitives.specs.declared.sorts.Sort.{Sort}
use Rattle.sem_primitives.specs.declared.sorts.Sort.TheVariants as sort
use Rattle.sem_primitives.specs.declared.table.Primitive.TheVariants as row
use Rattle.host_imports.specs.declared.import.VariadicImport.{VariadicImport}
use Rattle.host_imports.specs.declared.import.VariadicImport.TheVariants.{Sprintf, Print, Printf}
use Rattle.host_imports.specs.declared.import.Import.{Import}
use Rattle.host_imports.specs.declared.import.Import.TheVariants.{OfPrimitive, Variadic, Arg, Drop, IterFree, FreeArray}
use Rattle.host_imports.specs.Names.{import_name}

-- the module that modules of scripts import from
abbrev pub module_name : List ℕ
module_name = codes "awk2"

-- in the order of their numbers
abbrev pub imports : List Import
imports = OfPrimitive row.Num ∷ OfPrimitive row.Lit ∷ OfPrimitive row.Uninit ∷ OfPrimitive row.Dup ∷ OfPrimitive row.ToNum ∷ OfPrimitive row.IntOf ∷ OfPrimitive row.Truth ∷ OfPrimitive row.Compare ∷ OfPrimitive row.Concat
    ∷ OfPrimitive row.Pow ∷ OfPrimitive row.Fail ∷ OfPrimitive row.GetSpecial ∷ OfPrimitive row.SetSpecial ∷ OfPrimitive row.Field ∷ OfPrimitive row.SetField ∷ OfPrimitive row.NewArray ∷ OfPrimitive row.Elem
    ∷ OfPrimitive row.SetElem ∷ OfPrimitive row.Has ∷ OfPrimitive row.Delete ∷ OfPrimitive row.Join ∷ OfPrimitive row.Iter ∷ OfPrimitive row.IterNext ∷ OfPrimitive row.Length ∷ OfPrimitive row.Matches ∷ OfPrimitive row.Match
    ∷ OfPrimitive row.Sub ∷ OfPrimitive row.SubResult ∷ OfPrimitive row.Split ∷ OfPrimitive row.Substr ∷ OfPrimitive row.SubstrFrom ∷ OfPrimitive row.Index ∷ OfPrimitive row.Lower ∷ OfPrimitive row.Upper
    ∷ OfPrimitive row.NextMain ∷ OfPrimitive row.Getline ∷ OfPrimitive row.GetlineVar ∷ OfPrimitive row.GetlineFile ∷ OfPrimitive row.GetlineVarFile ∷ OfPrimitive row.Line ∷ OfPrimitive row.Declare
    ∷ OfPrimitive row.StartAssign ∷ OfPrimitive row.PendingName ∷ OfPrimitive row.PendingValue ∷ OfPrimitive row.BeginEnd ∷ OfPrimitive row.Close ∷ Arg ∷ Variadic Sprintf ∷ Variadic Print
    ∷ Variadic Printf ∷ Drop ∷ IterFree ∷ FreeArray ∷ OfPrimitive row.NextFile ∷ OfPrimitive row.Clear ∷ OfPrimitive row.Flush ∷ []

abbrev pub import_at : ℕ → Option Import
import_at n = slice_get imports n

-- how many there are; the functions of a module come after them
abbrev pub import_count : ℕ
import_count = 56

-- how many of the last values are taken, and, of those that write, where to
abbrev pub listing_arguments : VariadicImport → List Argument
listing_arguments Sprintf = argument.Constant constant.Count ∷ []
listing_arguments _ = argument.Constant constant.Count ∷ argument.Constant constant.Destination ∷ []

abbrev pub listing_answer : VariadicImport → Answer
listing_answer Sprintf = answer.Of sort.Value
listing_answer _ = answer.Done

-- an array and an iterator go by numbers of their own, which are not handles
abbrev pub import_arguments : Import → List Argument
import_arguments (OfPrimitive p) = arguments_of p
import_arguments (Variadic l) = listing_arguments l
import_arguments IterFree = argument.Of sort.Iterator ∷ []
import_arguments FreeArray = argument.Of sort.Array ∷ []
import_arguments _ = argument.Of sort.Value ∷ []

abbrev pub import_answer : Import → Answer
import_answer (OfPrimitive p) = answer_of p
import_answer (Variadic l) = listing_answer l
import_answer _ = answer.Nothing

-- Which arguments are spent, by their sort: their numbers stand for nothing after the call. A handle is spent by every import but `dup`, which only
-- looks; the number of an array by `free_array`, that of an iterator by `iter_free`.

abbrev pub spends_handles : Import → Bool
spends_handles (OfPrimitive row.Dup) = false
spends_handles _ = true

abbrev pub spends_arrays : Import → Bool
spends_arrays FreeArray = true
spends_arrays _ = false

abbrev pub spends_iterators : Import → Bool
spends_iterators IterFree = true
spends_iterators _ = false

abbrev pub spends : Import → Sort → Bool
spends i sort.Value = spends_handles i
spends i sort.Number = false
spends i sort.Array = spends_arrays i
spends i sort.Iterator = spends_iterators i

-- these let something go, and do so once a fault is kept too
abbrev pub lets_go : Import → Bool
lets_go Drop = true
lets_go IterFree = true
lets_go FreeArray = true
lets_go _ = false

-- Types.

-- a number is a word of 64 bits, a text in memory is its place and its length, and all else is a word of 32 bits
abbrev pub words_of : Argument → List ValType
words_of (argument.Of sort.Number) = I64 ∷ []
words_of argument.Place = I32 ∷ I32 ∷ []
words_of _ = I32 ∷ []

abbrev pub params_of : List Argument → List ValType
params_of [] = []
params_of (a ∷ rest) = words_of a ++ params_of rest

abbrev pub result_of : Answer → Option ValType
result_of answer.Nothing = None
result_of (answer.Of sort.Number) = Some I64
result_of _ = Some I32

abbrev pub import_type : Import → Signature
import_type i = record { params = params_of (import_arguments i); result = result_of (import_answer i) }

-- Finding an import by its names.

abbrev pub same_name : List ℕ → List ℕ → Bool
same_name a b = pointwise ◌==◌ a b

abbrev pub has_name : List ℕ → Import → Bool
has_name name i = same_name (import_name i) name

-- the number of the first import of a name
abbrev pub number_named : List ℕ → Option ℕ
number_named name = position (has_name name) imports

abbrev pub type_if_there : Option Import → Option Signature
type_if_there None = None
type_if_there (Some i) = Some (import_type i)

abbrev pub host_types : ℕ → Option Signature
host_types n = type_if_there (import_at n)

abbrev pub numbered : ℕ → Option Signature → Option (ℕ × Signature)
numbered n None = None
numbered n (Some t) = Some (n, t)

abbrev pub with_type : Option ℕ → Option (ℕ × Signature)
with_type None = None
with_type (Some n) = numbered n (host_types n)

-- how many of the imports a module of this name has, by the same numbers: `awk1` the first 53, `awk2` all
abbrev pub imports_in : List ℕ → ℕ
imports_in from = cond (same_name from (codes "awk1")) 53 (cond (same_name from module_name) import_count 0)

abbrev pub number_below : ℕ → Option ℕ → Option ℕ
number_below count None = None
number_below count (Some n) = cond (nat_lt n count) (Some n) None

-- the number and the type of an import, by the names of its module and of itself
abbrev pub host_finds : List ℕ → List ℕ → Option (ℕ × Signature)
host_finds from name = with_type (number_below (imports_in from) (number_named name))
