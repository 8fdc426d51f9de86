-- What a refusal of the code stands for.
use Rattle.std.specs.Prelude.{ℕ, List, Option}
use Rattle.std.specs.Option.{option_map}
use Rattle.awk_grammar.specs.Kinds.{Refusal, TooMany, DuplicateName, UnknownFunction, ArgCount, KindClash}
use Rattle.awk_resolve.specs.declared.fault.Reason.{Reason}
use Rattle.awk_resolve.specs.declared.fault.Reason.TheVariants.{TooMany as IsTooMany, DuplicateName as IsDuplicateName, UnknownFunction as IsUnknownFunction, ArgCount as IsArgCount, KindClash as IsKindClash}
use Rattle.awk_resolve.specs.declared.fault.Refused.{Refused}

abbrev pub refusal_of : Reason → List ℕ → Refusal
refusal_of IsTooMany x = TooMany x
refusal_of IsDuplicateName x = DuplicateName x
refusal_of IsUnknownFunction x = UnknownFunction x
refusal_of IsArgCount x = ArgCount x
refusal_of IsKindClash x = KindClash x

abbrev pub view_refused : Refused → Refusal
view_refused r = refusal_of r.reason r.name.now

-- the refusal, if there is one
abbrev pub view_maybe_refused : Option Refused → Option Refusal
view_maybe_refused r = option_map view_refused r
