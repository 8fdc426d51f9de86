-- What the marks of the code stand for.
use Rattle.std.specs.Prelude.{ℕ, List, map, Option}
use Rattle.std.specs.Borrow.{Bor}
use Rattle.std.specs.Option.{option_map}
use Rattle.latched.specs.Latched.{Adds}
use Rattle.latched.specs.declared.latched_vec.LatchedVec.{LatchedVec}
use Rattle.awk_grammar.specs.Marks.{Kind as PlainKind, Array as ArrayKind, Scalar as ScalarKind, Mark as PlainMark, Defined as DefinedMark, Parameter as ParameterMark, Used as UsedMark, Called as CalledMark, Computed as ComputedMark, Given as GivenMark}
use Rattle.awk_resolve.specs.declared.mark.Kind.{Kind}
use Rattle.awk_resolve.specs.declared.mark.Kind.TheVariants.{Array, Scalar}
use Rattle.awk_resolve.specs.declared.mark.Mark.{Mark}
use Rattle.awk_resolve.specs.declared.mark.Mark.TheVariants.{Defined, Parameter, Used, Called, Computed, Given}

abbrev pub view_kind : Kind → PlainKind
view_kind Array = ArrayKind
view_kind Scalar = ScalarKind

-- a name within the script, if there is one
abbrev pub view_place : Option (Bor (List ℕ)) → Option (List ℕ)
view_place place = option_map (λ f. f.now) place

abbrev pub view_mark : Mark → PlainMark
view_mark (Defined f) = DefinedMark f.now
view_mark (Parameter f x) = ParameterMark f.now x.now
view_mark (Used k place x) = UsedMark (view_kind k) (view_place place) x.now
view_mark (Called f n) = CalledMark f.now n
view_mark (Computed f i) = ComputedMark f.now i
view_mark (Given f i place x) = GivenMark f.now i (view_place place) x.now

abbrev pub view_marks : List Mark → List PlainMark
view_marks ms = map view_mark ms

-- these marks more are found, unless memory ran out
abbrev pub AddsMarks : LatchedVec Mark → LatchedVec Mark → List PlainMark → Type 0
AddsMarks old new ms = Adds view_mark old new ms
