-- Where a statement stands in a script, and which of its parts a module does by themselves.
use Rattle.std.specs.Prelude.{ℕ, List, Option}
use Rattle.awk_grammar.specs.Trees.{Item, Pattern, Stmt, Stmts}

-- what a statement stands in, one step outwards
pub data Frame : Type 0 where
  -- a list of statements, of which these come after it
  Before : Stmts → Frame
  -- the loop whose body it is, or the `if` that does it where the test holds
  Within : Stmt → Frame
  -- the `if` that does it where the test does not hold
  AfterElse : Stmt → Frame

-- the action or the function that it stands in
pub data Home : Type 0 where
  -- an action of BEGIN, or of END, which these items come after
  OfBegin : List Item → Home
  OfEnd : List Item → Home
  -- an action for records, with so many ranges before it, its pattern if it has one, and the items after it
  OfRecord : ℕ → Option Pattern → Stmts → List Item → Home
  -- a function, by its number
  OfFunction : ℕ → Home

-- A statement, and what it does by itself beside it.
pub data Part : Type 0 where
  Whole : Part
  -- of a `for` with three parts: what comes first, even if there is nothing, and the loop after it
  First : Part
  Looping : Part
  -- what stands between a round and the next test: in a `for`, if there is anything; in a `do` always, though it does nothing
  Between : Part
  -- the test of a `do`
  Testing : Part
  -- an `if` without `else` whose test does not hold
  Unless : Part
  -- of a `nextfile`: what gives up the rest of the main input, and what leaves the record after it
  GivesUp : Part
  Leaves : Part

-- A pattern, and what it does by itself.
pub data PatternPart : Type 0 where
  Asked : PatternPart
  -- its action is not done
  Unmet : PatternPart
  -- of a range: the question whether it is open already, and that it is; else the test of its first pattern, and that it opens or stays closed
  Opening : PatternPart
  Already : PatternPart
  FirstTest : PatternPart
  Opens : PatternPart
  StaysClosed : PatternPart
  -- the question whether it is open now, and that it is; the test of its second pattern, and that it closes or stays open
  Inside : PatternPart
  Entered : PatternPart
  LastTest : PatternPart
  Closes : PatternPart
  StaysOpen : PatternPart

pub data StatementPath : Type 0 where
  -- a part of a statement, and what the statement stands in, from the inside to the outside
  Of : Stmt → Part → List Frame → StatementPath
  -- a part of the pattern of an action
  OfPattern : PatternPart → StatementPath
