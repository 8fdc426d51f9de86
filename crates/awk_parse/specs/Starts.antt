-- What an operand begins with, and the tokens after that.
use Rattle.std.specs.Prelude.{ℕ, Bool, List, ◌∷◌, Option, Some, None, Ok, Err}
use Rattle.awk_tokens.specs.declared.reserved_words.Builtin.{Builtin}
use Rattle.awk_grammar.specs.Token.{Token, Literal, Number, Quoted, Ere, Prefix as Sign, Not, Signed, Step, Lit, Name, FuncName, Word, GetlineWord, Dollar, Open, SignMark, NotMark, StepMark}
use Rattle.awk_grammar.specs.Reading.{Syntax, ◌>>=◌, Read, Reader, indexed_by, call_by, applied_by, getline_at, open_at, index_at, under}
use Rattle.awk_grammar.specs.Tree.{Mode, LValue, InField}
use Rattle.awk_grammar.specs.Trees.{Tree, Leaf, Field, Unary, Pre}
use Rattle.awk_grammar.specs.View.{view_unary, view_step}
use Rattle.awk_parse.specs.Operands.{paren_at}
use Rattle.awk_parse.specs.declared.start.Literal.{Literal as Literal'}
use Rattle.awk_parse.specs.declared.start.Literal.TheVariants as literals
use Rattle.awk_parse.specs.declared.start.Prefix.{Prefix as Prefix'}
use Rattle.awk_parse.specs.declared.start.Prefix.TheVariants as prefixes
use Rattle.awk_parse.specs.declared.start.Start.{Start as Start'}
use Rattle.awk_parse.specs.declared.start.Start.TheVariants as starts

-- what stands before its one operand
pub data Prefix : Type 0 where
  Numbered : Prefix
  Marked : Sign → Prefix
  Stepped : Step → Prefix

pub data Start : Type 0 where
  Constant : Literal → Start
  Named : List ℕ → Start
  Called : List ℕ → Start
  Applied : Builtin → Start
  Line : Start
  Enclosed : Start
  Before : Prefix → Start

abbrev pub start_at : List Token → Option (Start × List Token)
start_at (Lit c ∷ ts) = Some (Constant c, ts)
start_at (Name n ∷ ts) = Some (Named n, ts)
start_at (FuncName f ∷ ts) = Some (Called f, ts)
start_at (Word f ∷ ts) = Some (Applied f, ts)
start_at (GetlineWord ∷ ts) = Some (Line, ts)
start_at (Open ∷ ts) = Some (Enclosed, ts)
start_at (Dollar ∷ ts) = Some (Before Numbered, ts)
start_at (SignMark s ∷ ts) = Some (Before (Marked (Signed s)), ts)
start_at (NotMark ∷ ts) = Some (Before (Marked Not), ts)
start_at (StepMark s ∷ ts) = Some (Before (Stepped s), ts)
start_at _ = None

abbrev pub mode_below : Mode → Prefix → Mode
mode_below m Numbered = InField
mode_below m (Marked p) = under m
mode_below m (Stepped s) = LValue

abbrev pub below : Prefix → Tree → Tree
below Numbered t = Field t
below (Marked p) t = Unary p t
below (Stepped s) t = Pre s t

abbrev pub prefixed_at : Reader → Bool → Mode → Prefix → List Token → Read
prefixed_at expr g m p ts = expr g (mode_below m p) ts >>= λ x. Ok (below p x.0, x.1)

-- the operand that begins so
abbrev pub begun_at : Reader → Bool → Mode → Start → List Token → Read
begun_at expr g m (Constant c) ts = Ok (Leaf c, ts)
begun_at expr g m (Named n) ts = indexed_by expr n ts (index_at ts)
begun_at expr g m (Called f) ts = call_by expr f (open_at ts)
begun_at expr g m (Applied f) ts = applied_by expr f ts (open_at ts)
begun_at expr g m Line ts = getline_at expr g ts
begun_at expr g m Enclosed ts = paren_at expr ts
begun_at expr g m (Before p) ts = prefixed_at expr g m p ts

abbrev pub begun_by : Reader → Bool → Mode → Option (Start × List Token) → Read
begun_by expr g m None = Err Syntax
begun_by expr g m (Some s) = begun_at expr g m s.0 s.1

abbrev pub view_literal : Literal' → List ℕ → Literal
view_literal literals.Number text = Number text
view_literal literals.Str text = Quoted text
view_literal literals.Ere text = Ere text

abbrev pub view_prefix : Prefix' → Prefix
view_prefix prefixes.Field = Numbered
view_prefix (prefixes.Unary op) = Marked (view_unary op)
view_prefix (prefixes.Step op) = Stepped (view_step op)

abbrev pub view_start : Start' → Start
view_start (starts.Literal l text) = Constant (view_literal l text.now)
view_start (starts.Name text) = Named text.now
view_start (starts.FuncName text) = Called text.now
view_start (starts.Builtin f) = Applied f
view_start starts.Getline = Line
view_start starts.Paren = Enclosed
view_start (starts.Prefix p) = Before (view_prefix p)
