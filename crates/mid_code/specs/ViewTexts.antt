-- What the texts of the code stand for.
use Rattle.std.specs.Prelude.{◌≡◌, ℕ, false, List}
use Rattle.mid_program.specs.Texts.{once}
use Rattle.mid_program.specs.View.{view_texts}
use Rattle.mid_code.specs.declared.texts.Texts.{Texts}

-- these texts more are found, each once, unless memory was wanting
pub record AddsTexts (old new : Texts) (ts : List (List ℕ)) : Type 0 where
  pub adds : new.is_refused ≡ false → (old.is_refused ≡ false) × (view_texts new.found.keys ≡ once (view_texts old.found.keys) ts)
