-- Tokens, by what they say. Texts are lists of bytes.
use Rattle.std.specs.Prelude.{ℕ, List}
use Rattle.awk_tokens.specs.declared.reserved_words.Builtin.{Builtin}

pub data Sign : Type 0 where
  Plus Minus : Sign

pub data Prefix : Type 0 where
  Not : Prefix
  Signed : Sign → Prefix

pub data Step : Type 0 where
  Increment Decrement : Step

pub data Comparison : Type 0 where
  Less LessEqual Equal NotEqual Greater GreaterEqual : Comparison

pub data Matching : Type 0 where
  Matches Differs : Matching

pub data Product : Type 0 where
  Times Over Modulo : Product

pub data Assigning : Type 0 where
  Set : Assigning
  SetSum : Sign → Assigning
  SetProduct : Product → Assigning
  SetPower : Assigning

-- the binary operators that are tokens and nothing else
pub data Symbol : Type 0 where
  Assign : Assigning → Symbol
  Or And : Symbol
  Match : Matching → Symbol
  Compare : Comparison → Symbol
  Mul : Product → Symbol
  Pow : Symbol

pub data Literal : Type 0 where
  Number Quoted Ere : List ℕ → Literal

pub data Keyword : Type 0 where
  BeginWord EndWord FunctionWord IfWord ElseWord WhileWord ForWord DoWord BreakWord ContinueWord NextWord NextFileWord ExitWord ReturnWord : Keyword
  DeleteWord PrintWord PrintfWord : Keyword

-- `Outside` is a token that no tree has: `|`, or a word that is left out
pub data Token : Type 0 where
  Lit : Literal → Token
  Name FuncName : List ℕ → Token
  Word : Builtin → Token
  GetlineWord InWord Dollar Open Close OpenBracket CloseBracket OpenBrace CloseBrace Comma Semicolon Question Colon : Token
  SignMark : Sign → Token
  NotMark : Token
  StepMark : Step → Token
  Infix : Symbol → Token
  Append : Token
  Key : Keyword → Token
  Outside : Token
