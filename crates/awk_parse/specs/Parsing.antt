-- What the parser answers.
use Rattle.std.specs.Prelude.{◌≡◌, ℕ, ◌≤◌, Option, Some, None, List}
use Rattle.awk_tokens.specs.Cutting.{Spelled}
use Rattle.awk_grammar.specs.Trees.{Item, most_depth, script_depth}
use Rattle.awk_grammar.specs.TreeOf.{IsTreeOf}
use Rattle.awk_parse.specs.Scan.{scan}
use Rattle.awk_parse.specs.Jumps.{script_jumps, jump_lines, first_misplaced}
use Rattle.awk_parse.specs.declared.fault.ParseFault.{ParseFault}
use Rattle.awk_parse.specs.declared.fault.ParseFault.TheVariants.{LeftOut, NotWhole, ConstantRange, Syntax, TooDeep, Misplaced, NoMemory}

-- the line of the first jump of a script that is out of place
abbrev pub misplaced : List Item → List Spelled → Option ℕ
misplaced script tokens = first_misplaced (script_jumps script) (jump_lines tokens)

-- the tokens are those of this well-formed script, which is not too deep
pub record IsRead (tokens : List Spelled) (script : List Item) : Type 0 where
  pub tree : IsTreeOf tokens script
  pub small : script_depth script ≤ most_depth

-- the script that the tokens have, where nothing is wrong with them
pub record IsParsed (tokens : List Spelled) (script : List Item) : Type 0 where
  pub whole : scan tokens ≡ None
  pub read : IsRead tokens script
  pub placed : misplaced script tokens ≡ None

-- the tokens have no script
pub record HasNoTree (tokens : List Spelled) : Type 0 where
  pub whole : scan tokens ≡ None
  pub none : (script : List Item) → IsTreeOf tokens script → ⊥

-- the tokens have no script that is not too deep
pub record HasNoSmallTree (tokens : List Spelled) : Type 0 where
  pub whole : scan tokens ≡ None
  pub none : (script : List Item) → IsRead tokens script → ⊥

-- a jump of the script is out of place, the first on this line
pub record IsMisplaced (tokens : List Spelled) (line : ℕ) : Type 0 where
  pub whole : scan tokens ≡ None
  pub script : List Item
  pub read : IsRead tokens script
  pub first : misplaced script tokens ≡ Some line

-- why tokens are refused
abbrev pub IsRefused : List Spelled → ParseFault → Type 0
IsRefused tokens (LeftOut line feature) = scan tokens ≡ Some (LeftOut line feature)
IsRefused tokens (NotWhole line) = scan tokens ≡ Some (NotWhole line)
IsRefused tokens (ConstantRange line) = scan tokens ≡ Some (ConstantRange line)
IsRefused tokens (Syntax line) = HasNoTree tokens
IsRefused tokens (TooDeep line) = HasNoSmallTree tokens
IsRefused tokens (Misplaced line) = IsMisplaced tokens line
IsRefused tokens NoMemory = Unit {0}
