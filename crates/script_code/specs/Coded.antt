-- The code of a script: mid code that runs as the script does, in which constant parts are computed and names of numbers are unboxed.
use Rattle.std.specs.Prelude.{◌≡◌, ◌≤◌, ◌^◌, ℕ, List, Ok, None, length}
use Rattle.awk_tokens.specs.Cutting.{IsTokens, Spelled}
use Rattle.awk_parse.specs.Parsing.{IsParsed}
use Rattle.awk_grammar.specs.Trees.{Item}
use Rattle.awk_grammar.specs.Kinds.{refusal}
use Rattle.sem_scripts.specs.Kinds.{resolved}
use Rattle.mid_program.specs.Mid.{Program}
use Rattle.mid_program.specs.MidMeaning.{EndsAs}
use Rattle.mid_program.specs.Sorted.{IsSorted}
use Rattle.mid_program.specs.Translation.{program_of}
use Rattle.mid_program.specs.SameRuns.{SameRuns}
use Rattle.folding.specs.Folding.{fold}
use Rattle.value_kinds.specs.Applied.{apply}
use Rattle.value_kinds.specs.Lanes.{infer}
use Rattle.script_code.specs.Expressions.{AreFine}

-- constant parts are computed, and then names that hold numbers, or copies of such names, are unboxed
abbrev pub unboxed : Program → Program
unboxed p = apply (infer (fold p)) (fold p)

-- the tokens are those of this script, with which nothing is wrong: its constant expressions have trees within the limits, its names have kinds
pub record IsSound (tokens : List Spelled) (script : List Item) : Type 0 where
  pub parsed : IsParsed tokens script
  pub expressions : AreFine tokens
  pub names : refusal script ≡ None

-- the tokens are those of a script with which nothing is wrong, and this is its code: it ends as the script does, and is well sorted
pub record IsCodeOf (tokens : List Spelled) (p : Program) : Type 0 where
  pub script : List Item
  pub sound : IsSound tokens script
  pub code : p ≡ unboxed (program_of (resolved script))
  pub same : EndsAs p (resolved script)
  pub sorted : IsSorted p

-- a script has at most so many bytes: 1 MiB
abbrev pub most_script_bytes : ℕ
most_script_bytes = 2 ^ 20

-- the bytes are not too many, and this is said of their tokens
pub record HasTokens (bytes : List ℕ) (Says : List Spelled → Type 0) : Type 0 where
  pub short : length bytes ≤ most_script_bytes
  pub tokens : List Spelled
  pub cut : IsTokens bytes (Ok tokens)
  pub said : Says tokens

-- The rest serves contracts inside the crate.

-- the tokens are those of this script, and its constant expressions have trees
pub record IsFineScript (tokens : List Spelled) (script : List Item) : Type 0 where
  pub parsed : IsParsed tokens script
  pub expressions : AreFine tokens

-- the code of the script as it is written
pub record IsPlainCodeOf (tokens : List Spelled) (p : Program) : Type 0 where
  pub script : List Item
  pub sound : IsSound tokens script
  pub code : p ≡ program_of (resolved script)
  pub same : EndsAs p (resolved script)

-- what becomes of code
pub record IsUnboxed (p : Program) (new : Program) : Type 0 where
  pub code : new ≡ unboxed p
  pub same : SameRuns new p
  pub sorted : IsSorted p → IsSorted new
