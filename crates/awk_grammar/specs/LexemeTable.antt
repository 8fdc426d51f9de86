-- What keywords and punctuators say to the grammar, by their texts.
use Rattle.std.specs.Prelude.{◌≡◌, ℕ, List, [], ◌∷◌, codes, map, refl}
use Rattle.awk_grammar.specs.Token.{Plus, Minus, Increment, Decrement, Less, LessEqual, Equal, NotEqual, Greater, GreaterEqual, Matches, Differs, Times, Over, Modulo, Set, SetSum, SetProduct, SetPower, Assign, Or, And, Match, Compare, Mul, Pow, BeginWord, EndWord, FunctionWord, IfWord, ElseWord, WhileWord, ForWord, DoWord, BreakWord, ContinueWord, NextWord, NextFileWord, ExitWord, ReturnWord, DeleteWord, PrintWord, PrintfWord, Token, GetlineWord, InWord, Dollar, Open, Close, OpenBracket, CloseBracket, OpenBrace, CloseBrace, Comma, Semicolon, Question, Colon, SignMark, NotMark, StepMark, Infix, Append, Key, Outside}
use Rattle.awk_grammar.specs.LexemeCases.{keyword_lexeme, mark_lexeme}
use Rattle.awk_tokens.specs.Words.{keywords}
use Rattle.awk_tokens.specs.Pieces.{punctuators}

abbrev pub words : List (List ℕ × Token)
words =
    (codes "BEGIN", Key BeginWord) ∷ (codes "END", Key EndWord) ∷ (codes "function", Key FunctionWord) ∷ (codes "if", Key IfWord)
    ∷ (codes "else", Key ElseWord) ∷ (codes "while", Key WhileWord) ∷ (codes "for", Key ForWord) ∷ (codes "do", Key DoWord)
    ∷ (codes "break", Key BreakWord) ∷ (codes "continue", Key ContinueWord) ∷ (codes "next", Key NextWord) ∷ (codes "nextfile", Key NextFileWord)
    ∷ (codes "exit", Key ExitWord) ∷ (codes "return", Key ReturnWord) ∷ (codes "delete", Key DeleteWord) ∷ (codes "in", InWord)
    ∷ (codes "getline", GetlineWord) ∷ (codes "print", Key PrintWord) ∷ (codes "printf", Key PrintfWord) ∷ []

pub words_are : map (λ e. (e.0, keyword_lexeme e.1)) keywords ≡ words
unfolding keywords
words_are = refl

abbrev pub marks : List (List ℕ × Token)
marks =
    (codes "{", OpenBrace) ∷ (codes "}", CloseBrace) ∷ (codes "(", Open) ∷ (codes ")", Close) ∷ (codes "[", OpenBracket) ∷ (codes "]", CloseBracket)
    ∷ (codes ";", Semicolon) ∷ (codes ",", Comma) ∷ (codes "+", SignMark Plus) ∷ (codes "-", SignMark Minus) ∷ (codes "*", Infix (Mul Times))
    ∷ (codes "/", Infix (Mul Over)) ∷ (codes "%", Infix (Mul Modulo)) ∷ (codes "^", Infix Pow) ∷ (codes "!", NotMark)
    ∷ (codes ">", Infix (Compare Greater)) ∷ (codes "<", Infix (Compare Less)) ∷ (codes "|", Outside) ∷ (codes "?", Question) ∷ (codes ":", Colon)
    ∷ (codes "~", Infix (Match Matches)) ∷ (codes "$", Dollar) ∷ (codes "=", Infix (Assign Set)) ∷ (codes "+=", Infix (Assign (SetSum Plus)))
    ∷ (codes "-=", Infix (Assign (SetSum Minus))) ∷ (codes "*=", Infix (Assign (SetProduct Times))) ∷ (codes "/=", Infix (Assign (SetProduct Over)))
    ∷ (codes "%=", Infix (Assign (SetProduct Modulo))) ∷ (codes "^=", Infix (Assign SetPower)) ∷ (codes "==", Infix (Compare Equal))
    ∷ (codes "<=", Infix (Compare LessEqual)) ∷ (codes ">=", Infix (Compare GreaterEqual)) ∷ (codes "!=", Infix (Compare NotEqual))
    ∷ (codes "!~", Infix (Match Differs)) ∷ (codes "++", StepMark Increment) ∷ (codes "--", StepMark Decrement) ∷ (codes "&&", Infix And)
    ∷ (codes "||", Infix Or) ∷ (codes ">>", Append) ∷ []

pub marks_are : map (λ e. (e.0, mark_lexeme e.1)) punctuators ≡ marks
unfolding punctuators
marks_are = refl
