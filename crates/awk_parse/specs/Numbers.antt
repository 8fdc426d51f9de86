-- The numbers of scripts, as number text.
use Rattle.std.specs.Prelude.{◌≡◌, ℕ, List, []}
use Rattle.awk_text.specs.Reading.{Numeral}
use Rattle.awk_text.specs.NumberText.{IsNumberText}

-- number text without space bytes and without a sign
pub record IsUnsigned (text : List ℕ) : Type 0 where
  pub numeral : Numeral
  pub number : IsNumberText text numeral
  pub no_spaces : number.spaces ≡ []
  pub no_sign : number.sign ≡ []
