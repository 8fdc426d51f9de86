-- A use at a place of a list.
use Rattle.std.proofs.Common.{◌≡◌, ◌∙◌, ℕ, List, Option, None, Some, ap, sym}
use Rattle.std.proofs.lemmas.Option.{slice_get-map}
use Rattle.std.specs.Prelude.{option_map, slice_get}
use Rattle.script_check.specs.declared.uses.Use.{Use}
use Rattle.script_check.specs.View.{view_use, view_uses}

pub at_some : (us : List Use) (i : ℕ) (o : Option Use) (u : Use) → o ≡ slice_get us i → o ≡ Some u → slice_get (view_uses us) i ≡ Some (view_use u)
at_some us i o u is some = slice_get-map view_use us i ∙ ap (option_map view_use) (sym is ∙ some)

pub at_none : (us : List Use) (i : ℕ) (o : Option Use) → o ≡ slice_get us i → o ≡ None → slice_get (view_uses us) i ≡ None
at_none us i o is none = slice_get-map view_use us i ∙ ap (option_map view_use) (sym is ∙ none)
