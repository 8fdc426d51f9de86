-- The kinds of a script's names, by two least sets of variables (POSIX.1-2017 awk, "Variables and Special Variables" and "User-Defined Functions").
use Rattle.std.specs.Prelude.{Bool, List, Option}
use Rattle.std.specs.Option.{option_map}
use Rattle.awk_grammar.specs.Trees.{Item}
use Rattle.awk_grammar.specs.Marks.{Kind, script_marks}
use Rattle.awk_grammar.specs.Least.{IsLeast}
use Rattle.awk_grammar.specs.Kinds.{Key, KindClash, Refusal, Resolved, clash, first, functions_by, globals_by, heads, members, name_refusal, or_else, pairs, variables}

-- The variables of this kind: those used so where they stand, with the special ones, and each that is given, as a bare name, for a parameter of
-- this kind; and no others.
abbrev pub AreUsedAs : Kind → List Item → (Key → Bool) → Type 0
AreUsedAs kind script set = IsLeast set (members kind (heads script) (script_marks script)) (pairs (heads script) (script_marks script))

-- why a script is refused, where these are its arrays and its scalars
abbrev pub refusal_by : (arrays scalars : Key → Bool) → List Item → Option Refusal
refusal_by arrays scalars script =
    or_else (name_refusal (heads script) (script_marks script)) (option_map KindClash (first (clash arrays scalars (heads script)) (script_marks script)))

-- its names with their kinds, where these are its arrays
abbrev pub names_by : (arrays : Key → Bool) → List Item → Resolved
names_by arrays script = record {
  functions = functions_by arrays (heads script);
  globals = globals_by arrays (variables (heads script) (script_marks script));
}
