-- The words of jumps among a script's tokens are as many as the jumps of its tree.
use Rattle.std.proofs.Common.{◌≡◌, ℕ, zero, suc, ◌+◌, Bool, true, false, None, Some, Option, List, [], ◌∷◌, ◌++◌, length, length-append, arith, refl, sym, ap, ◌∙◌}
use Rattle.awk_tokens.specs.Cutting.{Spelled}
use Rattle.awk_tokens.specs.declared.reserved_words.Keyword.{Keyword}
use Rattle.awk_tokens.specs.declared.reserved_words.Keyword.TheVariants as words_of
use Rattle.awk_tokens.specs.declared.token.Punctuator.{Punctuator}
use Rattle.awk_tokens.specs.declared.token.Punctuator.TheVariants as marks
use Rattle.awk_tokens.specs.declared.token.TokenKind.{TokenKind}
use Rattle.awk_tokens.specs.declared.token.TokenKind.TheVariants as kinds
use Rattle.awk_grammar.specs.Token.{Prefix, Not, Signed, Token, Name, Comma, Semicolon, Open, Close, CloseBrace, CloseBracket, Question, Colon, StepMark, Infix, Compare, Less, InWord, Key, ElseWord, WhileWord, BreakWord, ContinueWord, NextWord, NextFileWord, ReturnWord}
use Rattle.awk_grammar.specs.Tree.{op_tokens, print, print_list, print_more}
use Rattle.awk_grammar.specs.Trees.{Tree, Leaf, Length, Var, Index, Field, Group, Call, Apply, Unary, Pre, Post, Bin, Has, HasList, Cond, Get, GetInto, GetFrom, GetIntoFrom, Trees, NoTree, Then, Op, Join, Add, Other, prefix_token, Printing, Args, NoArgs, Listed, Enclosed, Target, NoTarget, Written, Appended, Plain, Eval, Put, Print, Printf, Delete, Clear, Jump, Break, Continue, Next, NextFile, Leaving, Exit, Return, Stmt, Block, Empty, Simple, If, IfElse, While, Do, For, ForIn, Jumping, Leave, Stmts, NoStmt, And, Pattern, One, Between, Item, Function, Begin, End, Always, When, Lone, Nothing}
use Rattle.awk_grammar.specs.Stmt.{print_args, print_target, print_plain, print_maybe, print_maybe_plain, print_stmt, print_stmts}
use Rattle.awk_grammar.specs.Item.{print_body, print_names, print_params, print_pattern, print_item, print_script}
use Rattle.awk_grammar.specs.Lexeme.{spoken_as, spoken_after, is_function as is_function_word}
use Rattle.awk_grammar.specs.LexemeCases.{keyword_lexeme, mark_lexeme}
use Rattle.awk_grammar.specs.TreeOf.{IsTreeOf}
use Rattle.awk_parse.specs.Jumps.{jumps, all_jumps, jump_fits, leave_fits, item_jumps, script_jumps, is_jump, line_if, jump_lines}
use Rattle.awk_parse.specs.declared.placed.Place.{Place}
use Rattle.awk_parse.specs.declared.placed.Place.TheVariants.{InFunction, InBeginOrEnd, InRule}

-- whether a token is the word of a jump
abbrev pub jumps_by : Token → Bool
jumps_by (Key BreakWord) = true
jumps_by (Key ContinueWord) = true
jumps_by (Key NextWord) = true
jumps_by (Key NextFileWord) = true
jumps_by (Key ReturnWord) = true
jumps_by _ = false

abbrev pub suc_if : Bool → ℕ → ℕ
suc_if true n = suc n
suc_if false n = n

-- how many they are
abbrev pub words : List Token → ℕ
words [] = 0
words (t ∷ ts) = suc_if (jumps_by t) (words ts)

suc_if_plus : (b : Bool) (m n : ℕ) → suc_if b (m + n) ≡ suc_if b m + n
suc_if_plus true m n = omega arith
suc_if_plus false m n = refl

words_append : (xs ys : List Token) → words (xs ++ ys) ≡ words xs + words ys
words_append [] ys = omega arith
words_append (x ∷ xs) ys = ap (suc_if (jumps_by x)) (words_append xs ys) ∙ suc_if_plus (jumps_by x) (words xs) (words ys)

-- tokens without such words in front change nothing
after : (xs ys : List Token) → words xs ≡ 0 → words (xs ++ ys) ≡ words ys
after xs ys e = omega (arith, words_append xs ys)

-- nor do such tokens at the end
before : (xs ys : List Token) → words ys ≡ 0 → words (xs ++ ys) ≡ words xs
before xs ys e = omega (arith, words_append xs ys)

both : (xs ys : List Token) → words xs ≡ 0 → words ys ≡ 0 → words (xs ++ ys) ≡ 0
both xs ys e f = after xs ys e ∙ f

joined : (xs ys : List Token) (bs cs : List Bool) → words xs ≡ length bs → words ys ≡ length cs → words (xs ++ ys) ≡ length (bs ++ cs)
joined xs ys bs cs e f = omega (arith, words_append xs ys, length-append bs cs)

no_word_in_op : (op : Op) → words (op_tokens op) ≡ 0
no_word_in_op Join = refl
no_word_in_op (Add s) = refl
no_word_in_op (Other s) = refl

no_prefix : (p : Prefix) → jumps_by (prefix_token p) ≡ false
no_prefix Not = refl
no_prefix (Signed s) = refl

mutual
  no_words : (t : Tree) → words (print t) ≡ 0
  no_words (Leaf c) = refl
  no_words Length = refl
  no_words (Var n) = refl
  no_words (Index n ts) = both (print_list ts) (CloseBracket ∷ []) (no_words_listed ts) refl
  no_words (Field t) = no_words t
  no_words (Group t) = both (print t) (Close ∷ []) (no_words t) refl
  no_words (Call f ts) = both (print_list ts) (Close ∷ []) (no_words_listed ts) refl
  no_words (Apply f ts) = both (print_list ts) (Close ∷ []) (no_words_listed ts) refl
  no_words (Unary p t) = ap (λ (b : Bool). suc_if b (words (print t))) (no_prefix p) ∙ no_words t
  no_words (Pre s t) = no_words t
  no_words (Post s t) = both (print t) (StepMark s ∷ []) (no_words t) refl
  no_words (Bin op a b) = both (print a) (op_tokens op ++ print b) (no_words a) (both (op_tokens op) (print b) (no_word_in_op op) (no_words b))
  no_words (Has a n) = both (print a) (InWord ∷ (Name n ∷ [])) (no_words a) refl
  no_words (HasList t ts n) = both (print t) (Comma ∷ (print_list ts ++ (Close ∷ (InWord ∷ (Name n ∷ []))))) (no_words t) (both (print_list ts) (Close ∷ (InWord ∷ (Name n ∷ []))) (no_words_listed ts) refl)
  no_words (Cond a b c) = both (print a) (Question ∷ (print b ++ (Colon ∷ print c))) (no_words a) (both (print b) (Colon ∷ print c) (no_words b) (no_words c))
  no_words Get = refl
  no_words (GetInto v) = no_words v
  no_words (GetFrom s) = no_words s
  no_words (GetIntoFrom v s) = both (print v) (Infix (Compare Less) ∷ print s) (no_words v) (no_words s)

  no_words_listed : (ts : Trees) → words (print_list ts) ≡ 0
  no_words_listed NoTree = refl
  no_words_listed (Then t ts) = both (print t) (print_more ts) (no_words t) (no_words_more ts)

  no_words_more : (ts : Trees) → words (print_more ts) ≡ 0
  no_words_more NoTree = refl
  no_words_more (Then t ts) = both (print t) (print_more ts) (no_words t) (no_words_more ts)

no_words_args : (a : Args) → words (print_args a) ≡ 0
no_words_args NoArgs = refl
no_words_args (Listed ts) = no_words_listed ts
no_words_args (Enclosed t ts) = both (print t) (Comma ∷ (print_list ts ++ (Close ∷ []))) (no_words t) (both (print_list ts) (Close ∷ []) (no_words_listed ts) refl)

no_words_target : (t : Target) → words (print_target t) ≡ 0
no_words_target NoTarget = refl
no_words_target (Written t) = no_words t
no_words_target (Appended t) = no_words t

no_words_plain : (p : Plain) → words (print_plain p) ≡ 0
no_words_plain (Eval t) = no_words t
no_words_plain (Put Print a t) = both (print_args a) (print_target t) (no_words_args a) (no_words_target t)
no_words_plain (Put Printf a t) = both (print_args a) (print_target t) (no_words_args a) (no_words_target t)
no_words_plain (Delete n ts) = both (print_list ts) (CloseBracket ∷ []) (no_words_listed ts) refl
no_words_plain (Clear n) = refl

no_words_maybe : (o : Option Tree) → words (print_maybe o) ≡ 0
no_words_maybe None = refl
no_words_maybe (Some t) = no_words t

no_words_maybe_plain : (o : Option Plain) → words (print_maybe_plain o) ≡ 0
no_words_maybe_plain None = refl
no_words_maybe_plain (Some p) = no_words_plain p

leave_words : (p : Place) (l : Leaving) (o : Option Tree) (looped : Bool) → words (print_stmt (Leave l o)) ≡ length (jumps p looped (Leave l o))
leave_words p Exit o looped = both (print_maybe o) (Semicolon ∷ []) (no_words_maybe o) refl
leave_words p Return o looped = ap suc (both (print_maybe o) (Semicolon ∷ []) (no_words_maybe o) refl)

jump_word : (p : Place) (j : Jump) (looped : Bool) → words (print_stmt (Jumping j)) ≡ 1
jump_word p Break looped = refl
jump_word p Continue looped = refl
jump_word p Next looped = refl
jump_word p NextFile looped = refl

module _ (p : Place) where
  mutual
    stmt_words : (looped : Bool) (s : Stmt) → words (print_stmt s) ≡ length (jumps p looped s)
    stmt_words l (Block ss) = before (print_stmts ss) (CloseBrace ∷ []) refl ∙ stmts_words l ss
    stmt_words l Empty = refl
    stmt_words l (Simple s) = both (print_plain s) (Semicolon ∷ []) (no_words_plain s) refl
    stmt_words l (If c s) = after (print c) (Close ∷ print_stmt s) (no_words c) ∙ stmt_words l s
    stmt_words l (IfElse c s t) = after (print c) (Close ∷ (print_stmt s ++ (Key ElseWord ∷ print_stmt t))) (no_words c) ∙ joined (print_stmt s) (Key ElseWord ∷ print_stmt t) (jumps p l s) (jumps p l t) (stmt_words l s) (stmt_words l t)
    stmt_words l (While c s) = after (print c) (Close ∷ print_stmt s) (no_words c) ∙ stmt_words true s
    stmt_words l (Do s c) = before (print_stmt s) (Key WhileWord ∷ (Open ∷ (print c ++ (Close ∷ [])))) (both (print c) (Close ∷ []) (no_words c) refl) ∙ stmt_words true s
    stmt_words l (For i c n s) = after (print_maybe_plain i) (Semicolon ∷ (print_maybe c ++ (Semicolon ∷ (print_maybe_plain n ++ (Close ∷ print_stmt s))))) (no_words_maybe_plain i) ∙ (after (print_maybe c) (Semicolon ∷ (print_maybe_plain n ++ (Close ∷ print_stmt s))) (no_words_maybe c) ∙ (after (print_maybe_plain n) (Close ∷ print_stmt s) (no_words_maybe_plain n) ∙ stmt_words true s))
    stmt_words l (ForIn k a s) = stmt_words true s
    stmt_words l (Jumping j) = jump_word p j l
    stmt_words l (Leave w e) = leave_words p w e l

    stmts_words : (looped : Bool) (ss : Stmts) → words (print_stmts ss) ≡ length (all_jumps p looped ss)
    stmts_words l NoStmt = refl
    stmts_words l (And s ss) = joined (print_stmt s) (print_stmts ss) (jumps p l s) (all_jumps p l ss) (stmt_words l s) (stmts_words l ss)

  body_words : (ss : Stmts) → words (print_body ss) ≡ length (all_jumps p false ss)
  body_words ss = before (print_stmts ss) (CloseBrace ∷ []) refl ∙ stmts_words false ss

no_words_names : (ns : List (List ℕ)) → words (print_names ns) ≡ 0
no_words_names [] = refl
no_words_names (n ∷ ns) = no_words_names ns

no_words_params : (ns : List (List ℕ)) → words (print_params ns) ≡ 0
no_words_params [] = refl
no_words_params (n ∷ ns) = no_words_names ns

no_words_pattern : (p : Pattern) → words (print_pattern p) ≡ 0
no_words_pattern (One t) = no_words t
no_words_pattern (Between t u) = both (print t) (Comma ∷ print u) (no_words t) (no_words u)

item_words : (i : Item) → words (print_item i) ≡ length (item_jumps i)
item_words (Function n ps ss) = after (print_params ps) (Close ∷ print_body ss) (no_words_params ps) ∙ body_words InFunction ss
item_words (Begin ss) = body_words InBeginOrEnd ss
item_words (End ss) = body_words InBeginOrEnd ss
item_words (Always ss) = body_words InRule ss
item_words (When p ss) = after (print_pattern p) (print_body ss) (no_words_pattern p) ∙ body_words InRule ss
item_words (Lone p) = both (print_pattern p) (Semicolon ∷ []) (no_words_pattern p) refl
item_words Nothing = refl

script_words : (is : List Item) → words (print_script is) ≡ length (script_jumps is)
script_words [] = refl
script_words (i ∷ is) = joined (print_item i) (print_script is) (item_jumps i) (script_jumps is) (item_words i) (script_words is)

-- ---- the tokens of a script

no_mark : (p : Punctuator) → false ≡ jumps_by (mark_lexeme p)
no_mark marks.OpenBrace = refl
no_mark marks.CloseBrace = refl
no_mark marks.OpenParen = refl
no_mark marks.CloseParen = refl
no_mark marks.OpenBracket = refl
no_mark marks.CloseBracket = refl
no_mark marks.Semicolon = refl
no_mark marks.Comma = refl
no_mark marks.Plus = refl
no_mark marks.Minus = refl
no_mark marks.Star = refl
no_mark marks.Slash = refl
no_mark marks.Percent = refl
no_mark marks.Caret = refl
no_mark marks.Bang = refl
no_mark marks.Greater = refl
no_mark marks.Less = refl
no_mark marks.Pipe = refl
no_mark marks.Question = refl
no_mark marks.Colon = refl
no_mark marks.Tilde = refl
no_mark marks.Dollar = refl
no_mark marks.Assign = refl
no_mark marks.PlusAssign = refl
no_mark marks.MinusAssign = refl
no_mark marks.StarAssign = refl
no_mark marks.SlashAssign = refl
no_mark marks.PercentAssign = refl
no_mark marks.CaretAssign = refl
no_mark marks.Equal = refl
no_mark marks.LessEqual = refl
no_mark marks.GreaterEqual = refl
no_mark marks.NotEqual = refl
no_mark marks.NotTilde = refl
no_mark marks.Increment = refl
no_mark marks.Decrement = refl
no_mark marks.And = refl
no_mark marks.Or = refl
no_mark marks.Append = refl

same_word : (w : Keyword) → is_jump (kinds.Keyword w) ≡ jumps_by (keyword_lexeme w)
same_word words_of.Begin = refl
same_word words_of.End = refl
same_word words_of.Function = refl
same_word words_of.If = refl
same_word words_of.Else = refl
same_word words_of.While = refl
same_word words_of.For = refl
same_word words_of.Do = refl
same_word words_of.Break = refl
same_word words_of.Continue = refl
same_word words_of.Next = refl
same_word words_of.NextFile = refl
same_word words_of.Exit = refl
same_word words_of.Return = refl
same_word words_of.Delete = refl
same_word words_of.In = refl
same_word words_of.Getline = refl
same_word words_of.Print = refl
same_word words_of.Printf = refl

same_name : (b : Bool) (text : List ℕ) → false ≡ jumps_by (spoken_as b kinds.FuncName text)
same_name true text = refl
same_name false text = refl

same_jump : (b : Bool) (k : TokenKind) (text : List ℕ) → is_jump k ≡ jumps_by (spoken_as b k text)
same_jump b (kinds.Keyword w) text = same_word w
same_jump b (kinds.Punctuator p) text = no_mark p
same_jump b kinds.FuncName text = same_name b text
same_jump b kinds.Name text = refl
same_jump b kinds.Number text = refl
same_jump b kinds.Str text = refl
same_jump b kinds.Ere text = refl
same_jump b (kinds.Builtin f) text = refl
same_jump b (kinds.LeftOut w) text = refl

lines_if : (b : Bool) (line : ℕ) (lines : List ℕ) → length (line_if b line lines) ≡ suc_if b (length lines)
lines_if true line lines = refl
lines_if false line lines = refl

lines_counted : (b : Bool) (ts : List Spelled) → length (jump_lines ts) ≡ words (spoken_after b ts)
lines_counted b [] = refl
lines_counted b (t ∷ ts) = lines_if (is_jump t.kind) t.line (jump_lines ts) ∙ (ap (suc_if (is_jump t.kind)) (lines_counted (is_function_word t.kind) ts) ∙ ap (λ (j : Bool). suc_if j (words (spoken_after (is_function_word t.kind) ts))) (same_jump b t.kind t.text))

pub as_many : (tokens : List Spelled) (script : List Item) → IsTreeOf tokens script → length (jump_lines tokens) ≡ length (script_jumps script)
as_many tokens script t = lines_counted false tokens ∙ (sym (ap words t.parts) ∙ script_words script)
