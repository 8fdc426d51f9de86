-- The name and the number of each import, by cases. The lines of the table, and the places in it, say the same.
use Rattle.std.specs.Prelude.{ℕ, List, codes}
use Rattle.sem_primitives.specs.declared.table.Primitive.{Primitive}
use Rattle.sem_primitives.specs.declared.table.Primitive.TheVariants as row
use Rattle.host_imports.specs.declared.import.VariadicImport.{VariadicImport}
use Rattle.host_imports.specs.declared.import.VariadicImport.TheVariants.{Sprintf, Print, Printf}
use Rattle.host_imports.specs.declared.import.Import.{Import}
use Rattle.host_imports.specs.declared.import.Import.TheVariants.{OfPrimitive, Variadic, Arg, Drop, IterFree, FreeArray}

abbrev pub primitive_name : Primitive → List ℕ
primitive_name row.Num = codes "num"
primitive_name row.Lit = codes "lit"
primitive_name row.Uninit = codes "uninit"
primitive_name row.Dup = codes "dup"
primitive_name row.ToNum = codes "to_num"
primitive_name row.IntOf = codes "int_of"
primitive_name row.Truth = codes "truth"
primitive_name row.Compare = codes "compare"
primitive_name row.Concat = codes "concat"
primitive_name row.Pow = codes "pow"
primitive_name row.Fail = codes "fail"
primitive_name row.GetSpecial = codes "get_special"
primitive_name row.SetSpecial = codes "set_special"
primitive_name row.Field = codes "field"
primitive_name row.SetField = codes "set_field"
primitive_name row.NewArray = codes "new_array"
primitive_name row.Elem = codes "elem"
primitive_name row.SetElem = codes "set_elem"
primitive_name row.Has = codes "has"
primitive_name row.Delete = codes "delete"
primitive_name row.Join = codes "join"
primitive_name row.Iter = codes "iter"
primitive_name row.IterNext = codes "iter_next"
primitive_name row.Length = codes "length"
primitive_name row.Matches = codes "matches"
primitive_name row.Match = codes "match"
primitive_name row.Sub = codes "sub"
primitive_name row.SubResult = codes "sub_result"
primitive_name row.Split = codes "split"
primitive_name row.Substr = codes "substr"
primitive_name row.SubstrFrom = codes "substr_from"
primitive_name row.Index = codes "index"
primitive_name row.Lower = codes "lower"
primitive_name row.Upper = codes "upper"
primitive_name row.NextMain = codes "next_main"
primitive_name row.Getline = codes "getline"
primitive_name row.GetlineVar = codes "getline_var"
primitive_name row.GetlineFile = codes "getline_file"
primitive_name row.GetlineVarFile = codes "getline_var_file"
primitive_name row.Line = codes "line"
primitive_name row.Declare = codes "declare"
primitive_name row.StartAssign = codes "start_assign"
primitive_name row.PendingName = codes "pending_name"
primitive_name row.PendingValue = codes "pending_value"
primitive_name row.BeginEnd = codes "begin_end"
primitive_name row.Close = codes "close"
primitive_name row.NextFile = codes "next_file"
primitive_name row.Clear = codes "clear"
primitive_name row.Flush = codes "flush"

abbrev pub listing_name : VariadicImport → List ℕ
listing_name Sprintf = codes "sprintf"
listing_name Print = codes "print"
listing_name Printf = codes "printf"

abbrev pub import_name : Import → List ℕ
import_name (OfPrimitive p) = primitive_name p
import_name (Variadic l) = listing_name l
import_name Arg = codes "arg"
import_name Drop = codes "drop"
import_name IterFree = codes "iter_free"
import_name FreeArray = codes "free_array"

abbrev pub primitive_number : Primitive → ℕ
primitive_number row.Num = 0
primitive_number row.Lit = 1
primitive_number row.Uninit = 2
primitive_number row.Dup = 3
primitive_number row.ToNum = 4
primitive_number row.IntOf = 5
primitive_number row.Truth = 6
primitive_number row.Compare = 7
primitive_number row.Concat = 8
primitive_number row.Pow = 9
primitive_number row.Fail = 10
primitive_number row.GetSpecial = 11
primitive_number row.SetSpecial = 12
primitive_number row.Field = 13
primitive_number row.SetField = 14
primitive_number row.NewArray = 15
primitive_number row.Elem = 16
primitive_number row.SetElem = 17
primitive_number row.Has = 18
primitive_number row.Delete = 19
primitive_number row.Join = 20
primitive_number row.Iter = 21
primitive_number row.IterNext = 22
primitive_number row.Length = 23
primitive_number row.Matches = 24
primitive_number row.Match = 25
primitive_number row.Sub = 26
primitive_number row.SubResult = 27
primitive_number row.Split = 28
primitive_number row.Substr = 29
primitive_number row.SubstrFrom = 30
primitive_number row.Index = 31
primitive_number row.Lower = 32
primitive_number row.Upper = 33
primitive_number row.NextMain = 34
primitive_number row.Getline = 35
primitive_number row.GetlineVar = 36
primitive_number row.GetlineFile = 37
primitive_number row.GetlineVarFile = 38
primitive_number row.Line = 39
primitive_number row.Declare = 40
primitive_number row.StartAssign = 41
primitive_number row.PendingName = 42
primitive_number row.PendingValue = 43
primitive_number row.BeginEnd = 44
primitive_number row.Close = 45
primitive_number row.NextFile = 53
primitive_number row.Clear = 54
primitive_number row.Flush = 55

abbrev pub listing_number : VariadicImport → ℕ
listing_number Sprintf = 47
listing_number Print = 48
listing_number Printf = 49

abbrev pub import_number : Import → ℕ
import_number (OfPrimitive p) = primitive_number p
import_number Arg = 46
import_number (Variadic l) = listing_number l
import_number Drop = 50
import_number IterFree = 51
import_number FreeArray = 52
