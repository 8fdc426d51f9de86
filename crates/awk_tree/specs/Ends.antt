-- How an expression ends and begins: the conditions that stand beside the productions.
use Rattle.std.specs.Prelude.{◌≡◌, true, Bool, List, ◌∷◌}
use Rattle.awk_grammar.specs.Token.{Prefix, Step, Less, Greater, Comparison, Token, Name, Dollar, Open, SignMark, StepMark}
use Rattle.awk_grammar.specs.Trees.{Tree, Length, Var, Index, Field, Unary, Pre, Bin, Cond, Get, GetInto, GetFrom, GetIntoFrom, Op}

-- the last tokens of an expression are those of a part that is so
pub data EndsIn (Is : Tree → Type 0) : Tree → Type 0 where
  whole : {t : Tree} → Is t → EndsIn Is t
  in_field : {t : Tree} → EndsIn Is t → EndsIn Is (Field t)
  in_unary : {p : Prefix} {t : Tree} → EndsIn Is t → EndsIn Is (Unary p t)
  in_step : {s : Step} {t : Tree} → EndsIn Is t → EndsIn Is (Pre s t)
  in_right : {op : Op} {a b : Tree} → EndsIn Is b → EndsIn Is (Bin op a b)
  in_choice : {a b c : Tree} → EndsIn Is c → EndsIn Is (Cond a b c)
  in_variable : {v : Tree} → EndsIn Is v → EndsIn Is (GetInto v)
  in_source : {s : Tree} → EndsIn Is s → EndsIn Is (GetFrom s)
  in_last_source : {v s : Tree} → EndsIn Is s → EndsIn Is (GetIntoFrom v s)

-- `length` without parentheses
abbrev pub IsBareLength : Tree → Type 0
IsBareLength Length = Unit {0}
IsBareLength _ = ⊥

-- `getline` alone
abbrev pub IsBareGetline : Tree → Type 0
IsBareGetline Get = Unit {0}
IsBareGetline _ = ⊥

-- a getline without `<`
abbrev pub IsSourceless : Tree → Type 0
IsSourceless Get = Unit {0}
IsSourceless (GetInto v) = Unit {0}
IsSourceless _ = ⊥

abbrev pub IsVariable : Tree → Type 0
IsVariable (Var n) = Unit {0}
IsVariable (Index n ts) = Unit {0}
IsVariable (Field t) = Unit {0}
IsVariable _ = ⊥

abbrev pub BeginsWithSign : List Token → Type 0
BeginsWithSign (SignMark s ∷ ts) = Unit {0}
BeginsWithSign _ = ⊥

abbrev pub BeginsWithStep : List Token → Type 0
BeginsWithStep (StepMark s ∷ ts) = Unit {0}
BeginsWithStep _ = ⊥

abbrev pub BeginsWithOpen : List Token → Type 0
BeginsWithOpen (Open ∷ ts) = Unit {0}
BeginsWithOpen _ = ⊥

-- a name that is no function's, or `$`
abbrev pub BeginsVariable : List Token → Type 0
BeginsVariable (Name n ∷ ts) = Unit {0}
BeginsVariable (Dollar ∷ ts) = Unit {0}
BeginsVariable _ = ⊥

-- An operand may be joined to tokens that begin another one:
pub record MayJoin (left : Tree) (right : List Token) : Type 0 where
  -- a sign would be the operator of a sum
  pub no_sign : BeginsWithSign right → ⊥
  -- `++` and `--` would belong to the variable before them
  pub no_step : BeginsWithStep right → EndsIn IsVariable left → ⊥
  -- `length (` begins a call
  pub no_call : BeginsWithOpen right → EndsIn IsBareLength left → ⊥
  -- the variable would be that of getline
  pub no_variable : BeginsVariable right → EndsIn IsBareGetline left → ⊥

-- Where a comparison may stand: `<` after a getline without a source names its source; `>` outside parentheses in the list of a print names a file.
abbrev pub MayCompare : Bool → Comparison → Tree → Type 0
MayCompare greater Less left = EndsIn IsSourceless left → ⊥
MayCompare greater Greater left = greater ≡ true
MayCompare greater _ left = Unit {0}
