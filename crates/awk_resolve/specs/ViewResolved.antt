-- What the answers of the code stand for.
use Rattle.std.specs.Prelude.{◌≡◌, Option, Some}
use Rattle.awk_grammar.specs.Kinds.{Refusal, TooMany, DuplicateName, UnknownFunction, ArgCount, KindClash, Resolved as PlainResolved}
use Rattle.awk_resolve.specs.ViewKinds.{view_name_kinds}
use Rattle.awk_resolve.specs.ViewFunctions.{view_functions}
use Rattle.awk_resolve.specs.declared.fault.ResolveFault.{ResolveFault}
use Rattle.awk_resolve.specs.declared.fault.ResolveFault.TheVariants.{TooMany as TooManyFault, DuplicateName as DuplicateNameFault, UnknownFunction as UnknownFunctionFault, ArgCount as ArgCountFault, KindClash as KindClashFault, NoMemory}
use Rattle.awk_resolve.specs.declared.resolved.Resolved.{Resolved}

-- the fault is the refusal, unless it is want of memory
abbrev pub IsCause : ResolveFault → Option Refusal → Type 0
IsCause (TooManyFault x) r = r ≡ Some (TooMany x)
IsCause (DuplicateNameFault x) r = r ≡ Some (DuplicateName x)
IsCause (UnknownFunctionFault x) r = r ≡ Some (UnknownFunction x)
IsCause (ArgCountFault x) r = r ≡ Some (ArgCount x)
IsCause (KindClashFault x) r = r ≡ Some (KindClash x)
IsCause NoMemory r = Unit {0}

abbrev pub view_resolved : Resolved → PlainResolved
view_resolved r = record { functions = view_functions r.functions.items; globals = view_name_kinds r.globals.items }
