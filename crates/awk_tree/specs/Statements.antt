-- The grammar of statements, with a constructor for each production, as in the grammar of expressions.
use Rattle.std.specs.Prelude.{ℕ, true, false, Option, Some, None, List, [], ◌∷◌, ◌++◌}
use Rattle.awk_grammar.specs.Token.{Greater, Compare, IfWord, ElseWord, WhileWord, ForWord, DoWord, DeleteWord, PrintWord, PrintfWord, Token, Name, InWord, Open, Close, OpenBracket, CloseBracket, OpenBrace, CloseBrace, Comma, Semicolon, Infix, Append, Key}
use Rattle.awk_grammar.specs.Trees.{Tree, Trees, Print, Printf, Args, NoArgs, Listed, Enclosed, Target, NoTarget, Written, Appended, Plain, Eval, Put, Delete, Clear, Jump, Leaving, Stmt, Block, Empty, Simple, If, IfElse, While, Do, For, ForIn, Jumping, Leave, Stmts, NoStmt, And, jump_token, leaving_token}
use Rattle.awk_tree.specs.Expressions.{Expr, ConcatExpr, Derives, ListOf}

pub data PrintListOf : Args → List Token → Type 0 where
  -- PrintList := List, without a `>` comparison outside parentheses and brackets
  listed : {xs : Trees} {ts : List Token} → ListOf false xs ts → PrintListOf (Listed xs) ts
  -- PrintList := '(' Expr ',' List ')'
  enclosed : {t : Tree} {xs : Trees} {ts us : List Token} →
      Derives true Expr t ts → ListOf true xs us → PrintListOf (Enclosed t xs) (Open ∷ (ts ++ (Comma ∷ (us ++ (Close ∷ [])))))

pub data OutputOf : Target → List Token → Type 0 where
  -- [Output]
  no_output : OutputOf NoTarget []
  -- Output := '>' ConcatExpr
  written : {t : Tree} {ts : List Token} → Derives true ConcatExpr t ts → OutputOf (Written t) (Infix (Compare Greater) ∷ ts)
  -- Output := '>>' ConcatExpr
  appended : {t : Tree} {ts : List Token} → Derives true ConcatExpr t ts → OutputOf (Appended t) (Append ∷ ts)

pub data PlainOf : Plain → List Token → Type 0 where
  -- Plain := Expr
  eval : {t : Tree} {ts : List Token} → Derives true Expr t ts → PlainOf (Eval t) ts
  -- Plain := 'print' [Output]
  bare_print : {o : Target} {us : List Token} → OutputOf o us → PlainOf (Put Print NoArgs o) (Key PrintWord ∷ us)
  -- Plain := 'print' PrintList [Output]
  print : {a : Args} {o : Target} {ts us : List Token} → PrintListOf a ts → OutputOf o us → PlainOf (Put Print a o) (Key PrintWord ∷ (ts ++ us))
  -- Plain := 'printf' PrintList [Output]
  printf : {a : Args} {o : Target} {ts us : List Token} → PrintListOf a ts → OutputOf o us → PlainOf (Put Printf a o) (Key PrintfWord ∷ (ts ++ us))
  -- Plain := 'delete' name '[' List ']'
  delete : {n : List ℕ} {xs : Trees} {ts : List Token} →
      ListOf true xs ts → PlainOf (Delete n xs) (Key DeleteWord ∷ (Name n ∷ (OpenBracket ∷ (ts ++ (CloseBracket ∷ [])))))
  -- Plain := 'delete' name
  delete_all : {n : List ℕ} → PlainOf (Clear n) (Key DeleteWord ∷ (Name n ∷ []))

pub data MaybeExprOf : Option Tree → List Token → Type 0 where
  -- [Expr]
  no_expr : MaybeExprOf None []
  some_expr : {t : Tree} {ts : List Token} → Derives true Expr t ts → MaybeExprOf (Some t) ts

pub data MaybePlainOf : Option Plain → List Token → Type 0 where
  -- [Plain]
  no_plain : MaybePlainOf None []
  some_plain : {p : Plain} {ts : List Token} → PlainOf p ts → MaybePlainOf (Some p) ts

pub data SimpleOf : Stmt → List Token → Type 0 where
  -- Simple := Plain
  plain : {p : Plain} {ts : List Token} → PlainOf p ts → SimpleOf (Simple p) ts
  -- Simple := 'break' | 'continue' | 'next' | 'nextfile'
  jumping : {j : Jump} → SimpleOf (Jumping j) (jump_token j ∷ [])
  -- Simple := ('exit' | 'return') [Expr]
  leave : {l : Leaving} {e : Option Tree} {ts : List Token} → MaybeExprOf e ts → SimpleOf (Leave l e) (leaving_token l ∷ ts)

-- the statement ends in an `if` without `else`, which would take an `else` after it
pub data EndsInIf : Stmt → Type 0 where
  bare : {c : Tree} {s : Stmt} → EndsInIf (If c s)
  in_else : {c : Tree} {s t : Stmt} → EndsInIf t → EndsInIf (IfElse c s t)
  in_while : {c : Tree} {s : Stmt} → EndsInIf s → EndsInIf (While c s)
  in_for : {i k : Option Plain} {c : Option Tree} {s : Stmt} → EndsInIf s → EndsInIf (For i c k s)
  in_for_in : {k a : List ℕ} {s : Stmt} → EndsInIf s → EndsInIf (ForIn k a s)

mutual
  pub data StmtOf : Stmt → List Token → Type 0 where
    -- Stmt := Block
    block : {ss : Stmts} {ts : List Token} → BlockOf ss ts → StmtOf (Block ss) ts
    -- Stmt := ';'
    empty : StmtOf Empty (Semicolon ∷ [])
    -- Stmt := Simple ';'
    simple : {s : Stmt} {ts : List Token} → SimpleOf s ts → StmtOf s (ts ++ (Semicolon ∷ []))
    -- Stmt := 'if' '(' Expr ')' Stmt
    if_then : {c : Tree} {s : Stmt} {ts us : List Token} →
        Derives true Expr c ts → StmtOf s us → StmtOf (If c s) (Key IfWord ∷ (Open ∷ (ts ++ (Close ∷ us))))
    -- Stmt := 'if' '(' Expr ')' Stmt 'else' Stmt
    if_else : {c : Tree} {s t : Stmt} {ts us vs : List Token} → Derives true Expr c ts → StmtOf s us → (EndsInIf s → ⊥) → StmtOf t vs →
        StmtOf (IfElse c s t) (Key IfWord ∷ (Open ∷ (ts ++ (Close ∷ (us ++ (Key ElseWord ∷ vs))))))
    -- Stmt := 'while' '(' Expr ')' Stmt
    while : {c : Tree} {s : Stmt} {ts us : List Token} →
        Derives true Expr c ts → StmtOf s us → StmtOf (While c s) (Key WhileWord ∷ (Open ∷ (ts ++ (Close ∷ us))))
    -- Stmt := 'do' Stmt 'while' '(' Expr ')'
    do_while : {c : Tree} {s : Stmt} {ts us : List Token} →
        StmtOf s us → Derives true Expr c ts → StmtOf (Do s c) (Key DoWord ∷ (us ++ (Key WhileWord ∷ (Open ∷ (ts ++ (Close ∷ []))))))
    -- Stmt := 'for' '(' [Plain] ';' [Expr] ';' [Plain] ')' Stmt
    for_loop : {i k : Option Plain} {c : Option Tree} {s : Stmt} {ts us vs ws : List Token} →
        MaybePlainOf i ts → MaybeExprOf c us → MaybePlainOf k vs → StmtOf s ws →
        StmtOf (For i c k s) (Key ForWord ∷ (Open ∷ (ts ++ (Semicolon ∷ (us ++ (Semicolon ∷ (vs ++ (Close ∷ ws))))))))
    -- Stmt := 'for' '(' name 'in' name ')' Stmt
    for_in : {k a : List ℕ} {s : Stmt} {ts : List Token} →
        StmtOf s ts → StmtOf (ForIn k a s) (Key ForWord ∷ (Open ∷ (Name k ∷ (InWord ∷ (Name a ∷ (Close ∷ ts))))))

  pub data BlockOf : Stmts → List Token → Type 0 where
    -- Block := '{' Stmt* '}'
    braces : {ss : Stmts} {ts : List Token} → StmtsOf ss ts → BlockOf ss (OpenBrace ∷ (ts ++ (CloseBrace ∷ [])))

  pub data StmtsOf : Stmts → List Token → Type 0 where
    -- Stmt*
    no_more : StmtsOf NoStmt []
    one_more : {s : Stmt} {ss : Stmts} {ts us : List Token} → StmtOf s ts → StmtsOf ss us → StmtsOf (And s ss) (ts ++ us)
