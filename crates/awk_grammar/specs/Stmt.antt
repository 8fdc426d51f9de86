-- Statements: their tokens, and which are well formed. The productions of awk_tree say the same.
use Rattle.std.specs.Prelude.{◌≡◌, ◌+◌, Bool, true, false, Option, Some, None, List, [], ◌∷◌, ◌++◌}
use Rattle.awk_grammar.specs.Token.{Greater, Compare, IfWord, ElseWord, WhileWord, ForWord, DoWord, DeleteWord, PrintWord, PrintfWord, Token, Name, InWord, Open, Close, OpenBracket, CloseBracket, OpenBrace, CloseBrace, Comma, Semicolon, Infix, Append, Key}
use Rattle.awk_grammar.specs.Tree.{print, print_list, AfterCompare, fits, IsSome, IsWellFormed, AreWellFormed}
use Rattle.awk_grammar.specs.Trees.{Tree, Printing, Print, Printf, Args, NoArgs, Listed, Enclosed, Target, NoTarget, Written, Appended, Plain, Eval, Put, Delete, Clear, Stmt, Stmts, Block, Empty, Simple, If, IfElse, While, Do, For, ForIn, Jumping, Leave, NoStmt, And, jump_token, leaving_token}

-- ---- tokens

abbrev pub printing_token : Printing → Token
printing_token Print = Key PrintWord
printing_token Printf = Key PrintfWord

abbrev pub print_args : Args → List Token
print_args NoArgs = []
print_args (Listed ts) = print_list ts
print_args (Enclosed t ts) = Open ∷ (print t ++ (Comma ∷ (print_list ts ++ (Close ∷ []))))

abbrev pub print_target : Target → List Token
print_target NoTarget = []
print_target (Written t) = Infix (Compare Greater) ∷ print t
print_target (Appended t) = Append ∷ print t

abbrev pub print_plain : Plain → List Token
print_plain (Eval t) = print t
print_plain (Put p a t) = printing_token p ∷ (print_args a ++ print_target t)
print_plain (Delete n ts) = Key DeleteWord ∷ (Name n ∷ (OpenBracket ∷ (print_list ts ++ (CloseBracket ∷ []))))
print_plain (Clear n) = Key DeleteWord ∷ (Name n ∷ [])

abbrev pub print_maybe : Option Tree → List Token
print_maybe None = []
print_maybe (Some t) = print t

abbrev pub print_maybe_plain : Option Plain → List Token
print_maybe_plain None = []
print_maybe_plain (Some p) = print_plain p

abbrev mutual
  pub print_stmt : Stmt → List Token
  print_stmt (Block ss) = OpenBrace ∷ (print_stmts ss ++ (CloseBrace ∷ []))
  print_stmt Empty = Semicolon ∷ []
  print_stmt (Simple p) = print_plain p ++ (Semicolon ∷ [])
  print_stmt (If c s) = Key IfWord ∷ (Open ∷ (print c ++ (Close ∷ print_stmt s)))
  print_stmt (IfElse c s t) = Key IfWord ∷ (Open ∷ (print c ++ (Close ∷ (print_stmt s ++ (Key ElseWord ∷ print_stmt t)))))
  print_stmt (While c s) = Key WhileWord ∷ (Open ∷ (print c ++ (Close ∷ print_stmt s)))
  print_stmt (Do s c) = Key DoWord ∷ (print_stmt s ++ (Key WhileWord ∷ (Open ∷ (print c ++ (Close ∷ [])))))
  print_stmt (For i c p s) = Key ForWord ∷ (Open
      ∷ (print_maybe_plain i ++ (Semicolon ∷ (print_maybe c ++ (Semicolon ∷ (print_maybe_plain p ++ (Close ∷ print_stmt s)))))))
  print_stmt (ForIn k a s) = Key ForWord ∷ (Open ∷ (Name k ∷ (InWord ∷ (Name a ∷ (Close ∷ print_stmt s)))))
  print_stmt (Jumping j) = jump_token j ∷ (Semicolon ∷ [])
  print_stmt (Leave l e) = leaving_token l ∷ (print_maybe e ++ (Semicolon ∷ []))

  pub print_stmts : Stmts → List Token
  print_stmts NoStmt = []
  print_stmts (And s ss) = print_stmt s ++ print_stmts ss

-- ---- well formed

abbrev pub MayBeBare : Printing → Type 0
MayBeBare Print = Unit {0}
MayBeBare Printf = ⊥

abbrev pub IsArgs : Printing → Args → Type 0
IsArgs p NoArgs = MayBeBare p
IsArgs p (Listed ts) = AreWellFormed false ts × IsSome ts
IsArgs p (Enclosed t ts) = IsWellFormed true t × AreWellFormed true ts × IsSome ts

abbrev pub IsTarget : Target → Type 0
IsTarget NoTarget = Unit {0}
IsTarget (Written t) = IsWellFormed true t × (fits AfterCompare t ≡ true)
IsTarget (Appended t) = IsWellFormed true t × (fits AfterCompare t ≡ true)

abbrev pub IsPlain : Plain → Type 0
IsPlain (Eval t) = IsWellFormed true t
IsPlain (Put p a t) = IsArgs p a × IsTarget t
IsPlain (Delete n ts) = AreWellFormed true ts × IsSome ts
IsPlain (Clear n) = Unit {0}

abbrev pub IsMaybe : Option Tree → Type 0
IsMaybe None = Unit {0}
IsMaybe (Some t) = IsWellFormed true t

abbrev pub IsMaybePlain : Option Plain → Type 0
IsMaybePlain None = Unit {0}
IsMaybePlain (Some p) = IsPlain p

-- whether a statement ends in an `if` without `else`
abbrev pub dangles : Stmt → Bool
dangles (If c s) = true
dangles (IfElse c s t) = dangles t
dangles (While c s) = dangles s
dangles (For i c p s) = dangles s
dangles (ForIn k a s) = dangles s
dangles _ = false

abbrev mutual
  pub IsStmt : Stmt → Type 0
  IsStmt (Block ss) = AreStmts ss
  IsStmt Empty = Unit {0}
  IsStmt (Simple p) = IsPlain p
  IsStmt (If c s) = IsWellFormed true c × IsStmt s
  IsStmt (IfElse c s t) = IsWellFormed true c × IsStmt s × IsStmt t × (dangles s ≡ false)
  IsStmt (While c s) = IsWellFormed true c × IsStmt s
  IsStmt (Do s c) = IsStmt s × IsWellFormed true c
  IsStmt (For i c p s) = IsMaybePlain i × IsMaybe c × IsMaybePlain p × IsStmt s
  IsStmt (ForIn k a s) = IsStmt s
  IsStmt (Jumping j) = Unit {0}
  IsStmt (Leave l e) = IsMaybe e

  pub AreStmts : Stmts → Type 0
  AreStmts NoStmt = Unit {0}
  AreStmts (And s ss) = IsStmt s × AreStmts ss
