-- What keywords and punctuators say to the grammar, by cases. LexemeTable has them by their texts.
use Rattle.awk_grammar.specs.Token.{Plus, Minus, Increment, Decrement, Less, LessEqual, Equal, NotEqual, Greater, GreaterEqual, Matches, Differs, Times, Over, Modulo, Set, SetSum, SetProduct, SetPower, Assign, Or, And, Match, Compare, Mul, Pow, BeginWord, EndWord, FunctionWord, IfWord, ElseWord, WhileWord, ForWord, DoWord, BreakWord, ContinueWord, NextWord, NextFileWord, ExitWord, ReturnWord, DeleteWord, PrintWord, PrintfWord, Token, GetlineWord, InWord, Dollar, Open, Close, OpenBracket, CloseBracket, OpenBrace, CloseBrace, Comma, Semicolon, Question, Colon, SignMark, NotMark, StepMark, Infix, Append, Key, Outside}
use Rattle.awk_tokens.specs.declared.reserved_words.Keyword.{Keyword}
use Rattle.awk_tokens.specs.declared.reserved_words.Keyword.TheVariants.{Begin, End, Function, If, Else, While, For, Do, Break, Continue, Next, NextFile, Exit, Return, Delete, In, Getline, Print, Printf}
use Rattle.awk_tokens.specs.declared.token.Punctuator.{Punctuator}
use Rattle.awk_tokens.specs.declared.token.Punctuator.TheVariants as marks

abbrev pub keyword_lexeme : Keyword → Token
keyword_lexeme Begin = Key BeginWord
keyword_lexeme End = Key EndWord
keyword_lexeme Function = Key FunctionWord
keyword_lexeme If = Key IfWord
keyword_lexeme Else = Key ElseWord
keyword_lexeme While = Key WhileWord
keyword_lexeme For = Key ForWord
keyword_lexeme Do = Key DoWord
keyword_lexeme Break = Key BreakWord
keyword_lexeme Continue = Key ContinueWord
keyword_lexeme Next = Key NextWord
keyword_lexeme NextFile = Key NextFileWord
keyword_lexeme Exit = Key ExitWord
keyword_lexeme Return = Key ReturnWord
keyword_lexeme Delete = Key DeleteWord
keyword_lexeme In = InWord
keyword_lexeme Getline = GetlineWord
keyword_lexeme Print = Key PrintWord
keyword_lexeme Printf = Key PrintfWord

abbrev pub mark_lexeme : Punctuator → Token
mark_lexeme marks.OpenBrace = OpenBrace
mark_lexeme marks.CloseBrace = CloseBrace
mark_lexeme marks.OpenParen = Open
mark_lexeme marks.CloseParen = Close
mark_lexeme marks.OpenBracket = OpenBracket
mark_lexeme marks.CloseBracket = CloseBracket
mark_lexeme marks.Semicolon = Semicolon
mark_lexeme marks.Comma = Comma
mark_lexeme marks.Plus = SignMark Plus
mark_lexeme marks.Minus = SignMark Minus
mark_lexeme marks.Star = Infix (Mul Times)
mark_lexeme marks.Slash = Infix (Mul Over)
mark_lexeme marks.Percent = Infix (Mul Modulo)
mark_lexeme marks.Caret = Infix Pow
mark_lexeme marks.Bang = NotMark
mark_lexeme marks.Greater = Infix (Compare Greater)
mark_lexeme marks.Less = Infix (Compare Less)
mark_lexeme marks.Pipe = Outside
mark_lexeme marks.Question = Question
mark_lexeme marks.Colon = Colon
mark_lexeme marks.Tilde = Infix (Match Matches)
mark_lexeme marks.Dollar = Dollar
mark_lexeme marks.Assign = Infix (Assign Set)
mark_lexeme marks.PlusAssign = Infix (Assign (SetSum Plus))
mark_lexeme marks.MinusAssign = Infix (Assign (SetSum Minus))
mark_lexeme marks.StarAssign = Infix (Assign (SetProduct Times))
mark_lexeme marks.SlashAssign = Infix (Assign (SetProduct Over))
mark_lexeme marks.PercentAssign = Infix (Assign (SetProduct Modulo))
mark_lexeme marks.CaretAssign = Infix (Assign SetPower)
mark_lexeme marks.Equal = Infix (Compare Equal)
mark_lexeme marks.LessEqual = Infix (Compare LessEqual)
mark_lexeme marks.GreaterEqual = Infix (Compare GreaterEqual)
mark_lexeme marks.NotEqual = Infix (Compare NotEqual)
mark_lexeme marks.NotTilde = Infix (Match Differs)
mark_lexeme marks.Increment = StepMark Increment
mark_lexeme marks.Decrement = StepMark Decrement
mark_lexeme marks.And = Infix And
mark_lexeme marks.Or = Infix Or
mark_lexeme marks.Append = Append
