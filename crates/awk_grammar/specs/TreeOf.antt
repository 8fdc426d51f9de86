-- Which script a list of tokens spells.
use Rattle.std.specs.Prelude.{◌≡◌, ℕ, ◌≤◌, List}
use Rattle.awk_tokens.specs.Cutting.{Spelled}
use Rattle.awk_grammar.specs.Token.{Token}
use Rattle.awk_grammar.specs.Item.{IsScript, print_script}
use Rattle.awk_grammar.specs.Trees.{Item, script_depth}
use Rattle.awk_grammar.specs.Lexeme.{spoken}

-- the script is well formed, and the tokens are its own: lines and the texts of punctuators and words aside
pub record IsTreeOf (tokens : List Spelled) (script : List Item) : Type 0 where
  pub fine : IsScript script
  pub parts : print_script script ≡ spoken tokens

-- what reading to this depth gives
pub record IsReadAs (depth : ℕ) (tokens : List Token) (script : List Item) : Type 0 where
  pub parts : print_script script ≡ tokens
  pub fine : IsScript script
  pub small : script_depth script ≤ depth
