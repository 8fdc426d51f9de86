-- The grammar of items and scripts, with a constructor for each production.
use Rattle.std.specs.Prelude.{ℕ, true, List, [], ◌∷◌, ◌++◌}
use Rattle.awk_grammar.specs.Token.{BeginWord, EndWord, FunctionWord, Token, Name, Open, Close, Comma, Semicolon, Key}
use Rattle.awk_grammar.specs.Trees.{Tree, Stmts, Pattern, One, Between, Item, Function, Begin, End, Always, When, Lone, Nothing}
use Rattle.awk_tree.specs.Expressions.{Expr, Derives}
use Rattle.awk_tree.specs.Statements.{BlockOf}

pub data PatternOf : Pattern → List Token → Type 0 where
  -- Pattern := Expr
  one : {t : Tree} {ts : List Token} → Derives true Expr t ts → PatternOf (One t) ts
  -- Pattern := Expr ',' Expr
  range : {t u : Tree} {ts us : List Token} → Derives true Expr t ts → Derives true Expr u us → PatternOf (Between t u) (ts ++ (Comma ∷ us))

pub data NamesOf : List (List ℕ) → List Token → Type 0 where
  -- Names := name
  last_name : {n : List ℕ} → NamesOf (n ∷ []) (Name n ∷ [])
  -- Names := name ',' Names
  more_names : {n : List ℕ} {ns : List (List ℕ)} {ts : List Token} → NamesOf ns ts → NamesOf (n ∷ ns) (Name n ∷ (Comma ∷ ts))

pub data ParametersOf : List (List ℕ) → List Token → Type 0 where
  -- [Names]
  no_names : ParametersOf [] []
  names : {ns : List (List ℕ)} {ts : List Token} → NamesOf ns ts → ParametersOf ns ts

pub data ItemOf : Item → List Token → Type 0 where
  -- Item := 'function' name '(' [Names] ')' Block
  function : {f : List ℕ} {ps : List (List ℕ)} {ss : Stmts} {ts us : List Token} →
      ParametersOf ps ts → BlockOf ss us → ItemOf (Function f ps ss) (Key FunctionWord ∷ (Name f ∷ (Open ∷ (ts ++ (Close ∷ us)))))
  -- Item := 'BEGIN' Block
  begin : {ss : Stmts} {ts : List Token} → BlockOf ss ts → ItemOf (Begin ss) (Key BeginWord ∷ ts)
  -- Item := 'END' Block
  end : {ss : Stmts} {ts : List Token} → BlockOf ss ts → ItemOf (End ss) (Key EndWord ∷ ts)
  -- Item := Block
  always : {ss : Stmts} {ts : List Token} → BlockOf ss ts → ItemOf (Always ss) ts
  -- Item := Pattern Block
  when : {p : Pattern} {ss : Stmts} {ts us : List Token} → PatternOf p ts → BlockOf ss us → ItemOf (When p ss) (ts ++ us)
  -- Item := Pattern ';'
  lone : {p : Pattern} {ts : List Token} → PatternOf p ts → ItemOf (Lone p) (ts ++ (Semicolon ∷ []))
  -- Item := ';'
  nothing : ItemOf Nothing (Semicolon ∷ [])

pub data ScriptOf : List Item → List Token → Type 0 where
  -- Script := Item*
  no_item : ScriptOf [] []
  item : {i : Item} {is : List Item} {ts us : List Token} → ItemOf i ts → ScriptOf is us → ScriptOf (i ∷ is) (ts ++ us)
