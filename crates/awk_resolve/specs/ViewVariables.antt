-- What numbered variables stand for.
use Rattle.std.specs.Prelude.{◌≡◌, ℕ, false, List, Some, []}
use Rattle.std.specs.List.{slice_get}
use Rattle.awk_grammar.specs.Kinds.{Key, with_keys, Head, parameter_keys}
use Rattle.awk_resolve.specs.ViewNames.{view_variables}
use Rattle.awk_resolve.specs.declared.scopes.Variables.{Variables}

-- they are these in their order, unless memory was wanting
pub record AreKeys (vs : Variables) (ks : List Key) : Type 0 where
  pub keys : vs.is_refused ≡ false → view_variables vs.found.keys ≡ ks

-- these more are added that are not there, unless memory was wanting
pub record AddsKeys (old new : Variables) (more : List Key) : Type 0 where
  pub adds : new.is_refused ≡ false → (old.is_refused ≡ false) × (view_variables new.found.keys ≡ with_keys (view_variables old.found.keys) more)

-- the number is that of a variable, unless memory was wanting
pub record HasNumber (vs : Variables) (n : ℕ) (k : Key) : Type 0 where
  pub number : vs.is_refused ≡ false → slice_get (view_variables vs.found.keys) n ≡ Some k

-- the parameters of all functions, each once
abbrev pub distinct_parameters : List Head → List Key
distinct_parameters hs = with_keys [] (parameter_keys hs)
