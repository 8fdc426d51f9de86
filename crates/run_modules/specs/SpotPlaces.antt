-- Which statement of a script a place of its module has.
use Rattle.std.specs.Prelude.{◌≡◌, ℕ, List, Some, slice_get}
use Rattle.awk_grammar.specs.Trees.{Item}
use Rattle.awk_tokens.specs.Cutting.{Spelled}
use Rattle.awk_tree.specs.Lines.{line_of}
use Rattle.sem_scripts.specs.Kinds.{resolved}
use Rattle.wasm_types.specs.Syntax.{Instructions}
use Rattle.agreement.specs.Spots.InOrder.{spots_in}
use Rattle.agreement.specs.Spots.Probed.{module_place}
use Rattle.agreement.specs.Spots.Spots.{Home, StatementPath}
use Rattle.agreement.specs.Spots.SpotTexts.{IsLineOfSpot}
use Rattle.script_places.specs.Passes.{Moment, passes}

-- The place of this number in a function has a line, which is that of a spot of the script.
pub record HasSpotsLine (tokens : List Spelled) (script : List Item) (function place : ℕ) (home : Home) (spot : StatementPath) : Type 0 where
  pub line : ℕ
  pub found : line_of tokens script function place ≡ Some line
  pub of_spot : IsLineOfSpot tokens script home spot line

-- The place of this number in a function is that of a spot of the script: the code is the spot's, and the line too.
pub record IsOfSpot (tokens : List Spelled) (script : List Item) (function place : ℕ) (code : Instructions) : Type 0 where
  pub home : Home
  pub spot : StatementPath
  pub among : slice_get (spots_in script function) place ≡ Some (home, spot)
  pub code_is : code ≡ module_place (resolved script) home spot
  pub line : HasSpotsLine tokens script function place home spot

-- A count is that of a place whose spot is on this line: there its text begins.
pub record IsCountOfSpot (tokens : List Spelled) (script : List Item) (nops : List (List ℕ)) (moments : List Moment) (n count : ℕ) : Type 0 where
  pub function : ℕ
  pub place : ℕ
  pub home : Home
  pub spot : StatementPath
  pub among : slice_get (spots_in script function) place ≡ Some (home, spot)
  pub on_line : IsLineOfSpot tokens script home spot n
  pub counted : count ≡ passes nops moments function place
