-- What variables and functions of the code stand for.
use Rattle.std.specs.Prelude.{ℕ, List, map, Option}
use Rattle.std.specs.Borrow.{Bor}
use Rattle.std.specs.Global.{Vec}
use Rattle.std.specs.Option.{option_map}
use Rattle.awk_grammar.specs.ViewStmt.{view_names}
use Rattle.awk_grammar.specs.Kinds.{Key, Whole as WholeKey, Inside as InsideKey, Head as PlainHead}
use Rattle.awk_resolve.specs.declared.scopes.Variable.{Variable}
use Rattle.awk_resolve.specs.declared.scopes.Variable.TheVariants.{Whole, Inside}
use Rattle.awk_resolve.specs.declared.scopes.Head.{Head}

abbrev pub names : List (Bor (List ℕ)) → List (List ℕ)
names ns = map (λ n. n.now) ns

abbrev pub view_variable : Variable → Key
view_variable (Whole x) = WholeKey x.now
view_variable (Inside f x) = InsideKey f.now x.now

abbrev pub view_variables : List Variable → List Key
view_variables vs = map view_variable vs

abbrev pub view_maybe_variable : Option Variable → Option Key
view_maybe_variable v = option_map view_variable v

abbrev pub view_head : Head → PlainHead
view_head h = record { name = h.name.now; parameters = view_names h.parameters.now }

abbrev pub view_heads : List Head → List PlainHead
view_heads hs = map view_head hs

abbrev pub view_parameters : Option (Bor (List (Vec ℕ))) → Option (List (List ℕ))
view_parameters ps = option_map (λ p. view_names p.now) ps

-- the names of functions
abbrev pub head_names : List PlainHead → List (List ℕ)
head_names hs = map (λ h. h.name) hs
