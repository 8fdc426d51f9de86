-- The grammar of expressions, with a constructor for each production. In a comment words in quotes are tokens, and brackets stand around what may be
-- left out. `Derives greater N tree tokens` says that the nonterminal N derives the tokens, with this tree; `greater` says whether a `>` comparison may
-- stand outside parentheses and brackets.
use Rattle.std.specs.Prelude.{ℕ, Bool, true, List, [], ◌∷◌, ◌++◌}
use Rattle.awk_grammar.specs.Token.{Sign, Prefix, Step, Comparison, Less, Matching, Product, Assigning, Assign, Or, And, Match, Compare, Mul, Pow, Literal, Token, Lit, Name, FuncName, Word, GetlineWord, InWord, Dollar, Open, Close, OpenBracket, CloseBracket, Comma, Question, Colon, SignMark, StepMark, Infix}
use Rattle.awk_tokens.specs.declared.reserved_words.Builtin.{Builtin}
use Rattle.awk_tokens.specs.declared.reserved_words.Builtin.TheVariants as function
use Rattle.awk_grammar.specs.Trees.{Join, Add, Other, Tree, Leaf, Length, Var, Index, Field, Group, Call, Apply, Unary, Pre, Post, Bin, Has, HasList, Cond, Get, GetInto, GetFrom, GetIntoFrom, Trees, NoTree, Then, prefix_token}
use Rattle.awk_tree.specs.Ends.{IsVariable, MayJoin, MayCompare}

-- From the loosest to the tightest. A TailExpr ends in an assignment, which so may stand without parentheses at the end of `||` and `&&`. A CondExpr is
-- one of `? :`, an InExpr of `in`, a MatchExpr of `~`, a ConcatExpr of operands side by side, a PostfixExpr of `++` and `--`, and getline is a PrimaryExpr.
-- A SimpleExpr may stand after `getline <`, and a FieldOperand after `$`.
pub data Nonterminal : Type 0 where
  Expr TailExpr AssignExpr CondExpr OrExpr AndExpr InExpr MatchExpr CompareExpr ConcatExpr AddExpr MulExpr UnaryExpr PowerExpr Exponent : Nonterminal
  PostfixExpr PrimaryExpr SimpleExpr LValue FieldOperand : Nonterminal

-- the arguments that a function of the language takes
pub data Takes : Builtin → Trees → Type 0 where
  length_0 : Takes function.Length NoTree
  length_1 : {a : Tree} → Takes function.Length (Then a NoTree)
  substr_2 : {a b : Tree} → Takes function.Substr (Then a (Then b NoTree))
  substr_3 : {a b c : Tree} → Takes function.Substr (Then a (Then b (Then c NoTree)))
  index : {a b : Tree} → Takes function.Index (Then a (Then b NoTree))
  match : {a b : Tree} → Takes function.Match (Then a (Then b NoTree))
  -- an array's name
  split_2 : {a : Tree} {n : List ℕ} → Takes function.Split (Then a (Then (Var n) NoTree))
  split_3 : {a c : Tree} {n : List ℕ} → Takes function.Split (Then a (Then (Var n) (Then c NoTree)))
  sub_2 : {a b : Tree} → Takes function.Sub (Then a (Then b NoTree))
  sub_3 : {a b c : Tree} → IsVariable c → Takes function.Sub (Then a (Then b (Then c NoTree)))
  gsub_2 : {a b : Tree} → Takes function.Gsub (Then a (Then b NoTree))
  gsub_3 : {a b c : Tree} → IsVariable c → Takes function.Gsub (Then a (Then b (Then c NoTree)))
  sprintf : {a : Tree} {ts : Trees} → Takes function.Sprintf (Then a ts)
  tolower : {a : Tree} → Takes function.ToLower (Then a NoTree)
  toupper : {a : Tree} → Takes function.ToUpper (Then a NoTree)
  int : {a : Tree} → Takes function.Int (Then a NoTree)
  close : {a : Tree} → Takes function.Close (Then a NoTree)
  fflush_0 : Takes function.Fflush NoTree
  fflush_1 : {a : Tree} → Takes function.Fflush (Then a NoTree)

mutual
  pub data Derives : Bool → Nonterminal → Tree → List Token → Type 0 where
    -- Expr := CondExpr
    expr_cond : {g : Bool} {t : Tree} {ts : List Token} → Derives g CondExpr t ts → Derives g Expr t ts
    -- Expr := TailExpr
    expr_tail : {g : Bool} {t : Tree} {ts : List Token} → Derives g TailExpr t ts → Derives g Expr t ts
    -- Expr := OrExpr '||' TailExpr
    or_tail : {g : Bool} {a b : Tree} {ts us : List Token} →
        Derives g OrExpr a ts → Derives g TailExpr b us → Derives g Expr (Bin (Other Or) a b) (ts ++ (Infix Or ∷ us))
    -- TailExpr := AssignExpr
    tail_assign : {g : Bool} {t : Tree} {ts : List Token} → Derives g AssignExpr t ts → Derives g TailExpr t ts
    -- TailExpr := AndExpr '&&' AssignExpr
    and_assign : {g : Bool} {a b : Tree} {ts us : List Token} →
        Derives g AndExpr a ts → Derives g AssignExpr b us → Derives g TailExpr (Bin (Other And) a b) (ts ++ (Infix And ∷ us))
    -- AssignExpr := LValue ('=' | '+=' | '-=' | '*=' | '/=' | '%=' | '^=') Expr
    assign : {g : Bool} {how : Assigning} {a b : Tree} {ts us : List Token} →
        Derives g LValue a ts → Derives g Expr b us → Derives g AssignExpr (Bin (Other (Assign how)) a b) (ts ++ (Infix (Assign how) ∷ us))
    -- CondExpr := OrExpr
    cond_or : {g : Bool} {t : Tree} {ts : List Token} → Derives g OrExpr t ts → Derives g CondExpr t ts
    -- CondExpr := OrExpr '?' Expr ':' Expr
    choice : {g : Bool} {a b c : Tree} {ts us vs : List Token} →
        Derives g OrExpr a ts → Derives g Expr b us → Derives g Expr c vs → Derives g CondExpr (Cond a b c) (ts ++ (Question ∷ (us ++ (Colon ∷ vs))))
    -- OrExpr := AndExpr
    or_and : {g : Bool} {t : Tree} {ts : List Token} → Derives g AndExpr t ts → Derives g OrExpr t ts
    -- OrExpr := OrExpr '||' AndExpr
    or : {g : Bool} {a b : Tree} {ts us : List Token} →
        Derives g OrExpr a ts → Derives g AndExpr b us → Derives g OrExpr (Bin (Other Or) a b) (ts ++ (Infix Or ∷ us))
    -- AndExpr := InExpr
    and_in : {g : Bool} {t : Tree} {ts : List Token} → Derives g InExpr t ts → Derives g AndExpr t ts
    -- AndExpr := AndExpr '&&' InExpr
    and : {g : Bool} {a b : Tree} {ts us : List Token} →
        Derives g AndExpr a ts → Derives g InExpr b us → Derives g AndExpr (Bin (Other And) a b) (ts ++ (Infix And ∷ us))
    -- InExpr := MatchExpr
    in_match : {g : Bool} {t : Tree} {ts : List Token} → Derives g MatchExpr t ts → Derives g InExpr t ts
    -- InExpr := InExpr 'in' name
    has : {g : Bool} {a : Tree} {n : List ℕ} {ts : List Token} → Derives g InExpr a ts → Derives g InExpr (Has a n) (ts ++ (InWord ∷ (Name n ∷ [])))
    -- InExpr := '(' Expr ',' List ')' 'in' name
    has_list : {g : Bool} {a : Tree} {bs : Trees} {n : List ℕ} {ts us : List Token} →
        Derives true Expr a ts → ListOf true bs us → Derives g InExpr (HasList a bs n) (Open ∷ (ts ++ (Comma ∷ (us ++ (Close ∷ (InWord ∷ (Name n ∷ [])))))))
    -- MatchExpr := CompareExpr
    match_compare : {g : Bool} {t : Tree} {ts : List Token} → Derives g CompareExpr t ts → Derives g MatchExpr t ts
    -- MatchExpr := CompareExpr ('~' | '!~') CompareExpr
    matching : {g : Bool} {how : Matching} {a b : Tree} {ts us : List Token} →
        Derives g CompareExpr a ts → Derives g CompareExpr b us → Derives g MatchExpr (Bin (Other (Match how)) a b) (ts ++ (Infix (Match how) ∷ us))
    -- CompareExpr := ConcatExpr
    compare_concat : {g : Bool} {t : Tree} {ts : List Token} → Derives g ConcatExpr t ts → Derives g CompareExpr t ts
    -- CompareExpr := ConcatExpr ('<' | '<=' | '==' | '!=' | '>' | '>=') ConcatExpr
    compare : {g : Bool} {how : Comparison} {a b : Tree} {ts us : List Token} →
        Derives g ConcatExpr a ts → Derives g ConcatExpr b us → MayCompare g how a
        → Derives g CompareExpr (Bin (Other (Compare how)) a b) (ts ++ (Infix (Compare how) ∷ us))
    -- ConcatExpr := AddExpr
    concat_add : {g : Bool} {t : Tree} {ts : List Token} → Derives g AddExpr t ts → Derives g ConcatExpr t ts
    -- ConcatExpr := ConcatExpr AddExpr
    concat : {g : Bool} {a b : Tree} {ts us : List Token} →
        Derives g ConcatExpr a ts → Derives g AddExpr b us → MayJoin a us → Derives g ConcatExpr (Bin Join a b) (ts ++ us)
    -- AddExpr := MulExpr
    add_mul : {g : Bool} {t : Tree} {ts : List Token} → Derives g MulExpr t ts → Derives g AddExpr t ts
    -- AddExpr := AddExpr ('+' | '-') MulExpr
    add : {g : Bool} {sign : Sign} {a b : Tree} {ts us : List Token} →
        Derives g AddExpr a ts → Derives g MulExpr b us → Derives g AddExpr (Bin (Add sign) a b) (ts ++ (SignMark sign ∷ us))
    -- MulExpr := UnaryExpr
    mul_unary : {g : Bool} {t : Tree} {ts : List Token} → Derives g UnaryExpr t ts → Derives g MulExpr t ts
    -- MulExpr := MulExpr ('*' | '/' | '%') UnaryExpr
    mul : {g : Bool} {how : Product} {a b : Tree} {ts us : List Token} →
        Derives g MulExpr a ts → Derives g UnaryExpr b us → Derives g MulExpr (Bin (Other (Mul how)) a b) (ts ++ (Infix (Mul how) ∷ us))
    -- UnaryExpr := ('!' | '+' | '-') UnaryExpr
    unary : {g : Bool} {p : Prefix} {t : Tree} {ts : List Token} → Derives g UnaryExpr t ts → Derives g UnaryExpr (Unary p t) (prefix_token p ∷ ts)
    -- UnaryExpr := PowerExpr
    unary_power : {g : Bool} {t : Tree} {ts : List Token} → Derives g PowerExpr t ts → Derives g UnaryExpr t ts
    -- PowerExpr := PostfixExpr
    power_postfix : {g : Bool} {t : Tree} {ts : List Token} → Derives g PostfixExpr t ts → Derives g PowerExpr t ts
    -- PowerExpr := PostfixExpr '^' Exponent
    power : {g : Bool} {a b : Tree} {ts us : List Token} →
        Derives g PostfixExpr a ts → Derives g Exponent b us → Derives g PowerExpr (Bin (Other Pow) a b) (ts ++ (Infix Pow ∷ us))
    -- Exponent := ('!' | '+' | '-') Exponent
    signed_exponent : {g : Bool} {p : Prefix} {t : Tree} {ts : List Token} → Derives g Exponent t ts → Derives g Exponent (Unary p t) (prefix_token p ∷ ts)
    -- Exponent := PowerExpr
    exponent : {g : Bool} {t : Tree} {ts : List Token} → Derives g PowerExpr t ts → Derives g Exponent t ts
    -- PostfixExpr := LValue ('++' | '--')
    step_after : {g : Bool} {s : Step} {t : Tree} {ts : List Token} → Derives g LValue t ts → Derives g PostfixExpr (Post s t) (ts ++ (StepMark s ∷ []))
    -- PostfixExpr := ('++' | '--') LValue
    step_before : {g : Bool} {s : Step} {t : Tree} {ts : List Token} → Derives g LValue t ts → Derives g PostfixExpr (Pre s t) (StepMark s ∷ ts)
    -- PostfixExpr := PrimaryExpr
    postfix_primary : {g : Bool} {t : Tree} {ts : List Token} → Derives g PrimaryExpr t ts → Derives g PostfixExpr t ts
    -- PrimaryExpr := SimpleExpr
    primary_simple : {g : Bool} {t : Tree} {ts : List Token} → Derives g SimpleExpr t ts → Derives g PrimaryExpr t ts
    -- PrimaryExpr := 'getline'
    getline : {g : Bool} → Derives g PrimaryExpr Get (GetlineWord ∷ [])
    -- PrimaryExpr := 'getline' LValue
    getline_variable : {g : Bool} {v : Tree} {ts : List Token} → Derives g LValue v ts → Derives g PrimaryExpr (GetInto v) (GetlineWord ∷ ts)
    -- PrimaryExpr := 'getline' '<' SimpleExpr
    getline_source : {g : Bool} {s : Tree} {ts : List Token} →
        Derives g SimpleExpr s ts → Derives g PrimaryExpr (GetFrom s) (GetlineWord ∷ (Infix (Compare Less) ∷ ts))
    -- PrimaryExpr := 'getline' LValue '<' SimpleExpr
    getline_variable_source : {g : Bool} {v s : Tree} {ts us : List Token} →
        Derives g LValue v ts → Derives g SimpleExpr s us → Derives g PrimaryExpr (GetIntoFrom v s) (GetlineWord ∷ (ts ++ (Infix (Compare Less) ∷ us)))
    -- SimpleExpr := number | string | ere
    literal : {g : Bool} {c : Literal} → Derives g SimpleExpr (Leaf c) (Lit c ∷ [])
    -- SimpleExpr := LValue
    variable : {g : Bool} {t : Tree} {ts : List Token} → Derives g LValue t ts → Derives g SimpleExpr t ts
    -- SimpleExpr := '(' Expr ')'
    group : {g : Bool} {t : Tree} {ts : List Token} → Derives true Expr t ts → Derives g SimpleExpr (Group t) (Open ∷ (ts ++ (Close ∷ [])))
    -- SimpleExpr := function_name '(' [List] ')'
    call : {g : Bool} {f : List ℕ} {xs : Trees} {ts : List Token} →
        ArgumentsOf xs ts → Derives g SimpleExpr (Call f xs) (FuncName f ∷ (Open ∷ (ts ++ (Close ∷ []))))
    -- SimpleExpr := builtin '(' [List] ')'
    apply : {g : Bool} {f : Builtin} {xs : Trees} {ts : List Token} →
        ArgumentsOf xs ts → Takes f xs → Derives g SimpleExpr (Apply f xs) (Word f ∷ (Open ∷ (ts ++ (Close ∷ []))))
    -- SimpleExpr := 'length'
    bare_length : {g : Bool} → Derives g SimpleExpr Length (Word function.Length ∷ [])
    -- LValue := name
    name : {g : Bool} {n : List ℕ} → Derives g LValue (Var n) (Name n ∷ [])
    -- LValue := name '[' List ']'
    element : {g : Bool} {n : List ℕ} {xs : Trees} {ts : List Token} →
        ListOf true xs ts → Derives g LValue (Index n xs) (Name n ∷ (OpenBracket ∷ (ts ++ (CloseBracket ∷ []))))
    -- LValue := '$' FieldOperand
    field : {g : Bool} {t : Tree} {ts : List Token} → Derives g FieldOperand t ts → Derives g LValue (Field t) (Dollar ∷ ts)
    -- FieldOperand := SimpleExpr
    field_simple : {g : Bool} {t : Tree} {ts : List Token} → Derives g SimpleExpr t ts → Derives g FieldOperand t ts
    -- FieldOperand := ('++' | '--') LValue
    field_step : {g : Bool} {s : Step} {t : Tree} {ts : List Token} → Derives g LValue t ts → Derives g FieldOperand (Pre s t) (StepMark s ∷ ts)
    -- FieldOperand := ('!' | '+' | '-') FieldOperand
    field_unary : {g : Bool} {p : Prefix} {t : Tree} {ts : List Token} → Derives g FieldOperand t ts → Derives g FieldOperand (Unary p t) (prefix_token p ∷ ts)

  pub data ListOf : Bool → Trees → List Token → Type 0 where
    -- List := Expr
    last : {g : Bool} {t : Tree} {ts : List Token} → Derives g Expr t ts → ListOf g (Then t NoTree) ts
    -- List := Expr ',' List
    more : {g : Bool} {t : Tree} {xs : Trees} {ts us : List Token} → Derives g Expr t ts → ListOf g xs us → ListOf g (Then t xs) (ts ++ (Comma ∷ us))

  pub data ArgumentsOf : Trees → List Token → Type 0 where
    -- [List]
    none : ArgumentsOf NoTree []
    some : {xs : Trees} {ts : List Token} → ListOf true xs ts → ArgumentsOf xs ts
