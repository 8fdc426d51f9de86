-- The reserved words: each is a text, and every other name is free.
use Rattle.std.specs.Prelude.{ℕ, ◌==◌, if◌then◌else◌, Option, Some, None, List, [], ◌∷◌, codes}
use Rattle.std.specs.Cmp.Lexicographic.{pointwise}
use Rattle.awk_tokens.specs.declared.reserved_words.Keyword.{Keyword as AnyKeyword}
use Rattle.awk_tokens.specs.declared.reserved_words.Keyword.TheVariants.{Begin, End, Function, If, Else, While, For, Do, Break, Continue, Next, NextFile, Exit, Return, Delete, In, Getline, Print, Printf}
use Rattle.awk_tokens.specs.declared.reserved_words.Builtin.{Builtin as AnyBuiltin}
use Rattle.awk_tokens.specs.declared.reserved_words.Builtin.TheVariants.{Length, Substr, Index, Split, Sub, Gsub, Match, Sprintf, ToLower, ToUpper, Int, Close, Fflush}
use Rattle.awk_tokens.specs.declared.reserved_words.LeftOut.{LeftOut as AnyLeftOut}
use Rattle.awk_tokens.specs.declared.reserved_words.LeftOut.TheVariants.{Atan2, Cos, Sin, Exp, Log, Sqrt, Rand, Srand, System, Func}
use Rattle.awk_tokens.specs.declared.reserved_words.ReservedWord.{ReservedWord}
use Rattle.awk_tokens.specs.declared.reserved_words.ReservedWord.TheVariants.{Keyword, Builtin, LeftOut}

-- the first entry for this text
abbrev pub entry : {A : Type 0} → List ℕ → List (List ℕ × A) → Option A
entry text [] = None
entry text (e ∷ es) = if pointwise ◌==◌ text e.0 then Some e.1 else entry text es

unfoldable pub keywords : List (List ℕ × AnyKeyword)
keywords =
    (codes "BEGIN", Begin) ∷ (codes "END", End) ∷ (codes "function", Function) ∷ (codes "if", If) ∷ (codes "else", Else) ∷ (codes "while", While)
    ∷ (codes "for", For) ∷ (codes "do", Do) ∷ (codes "break", Break) ∷ (codes "continue", Continue) ∷ (codes "next", Next)
    ∷ (codes "nextfile", NextFile) ∷ (codes "exit", Exit) ∷ (codes "return", Return) ∷ (codes "delete", Delete) ∷ (codes "in", In)
    ∷ (codes "getline", Getline) ∷ (codes "print", Print) ∷ (codes "printf", Printf) ∷ []

unfoldable pub builtins : List (List ℕ × AnyBuiltin)
builtins =
    (codes "length", Length) ∷ (codes "substr", Substr) ∷ (codes "index", Index) ∷ (codes "split", Split) ∷ (codes "sub", Sub) ∷ (codes "gsub", Gsub)
    ∷ (codes "match", Match) ∷ (codes "sprintf", Sprintf) ∷ (codes "tolower", ToLower) ∷ (codes "toupper", ToUpper) ∷ (codes "int", Int)
    ∷ (codes "close", Close) ∷ (codes "fflush", Fflush) ∷ []

-- what awk, or a common extension, has and this language leaves out
unfoldable pub left_out_words : List (List ℕ × AnyLeftOut)
left_out_words =
    (codes "atan2", Atan2) ∷ (codes "cos", Cos) ∷ (codes "sin", Sin) ∷ (codes "exp", Exp) ∷ (codes "log", Log) ∷ (codes "sqrt", Sqrt)
    ∷ (codes "rand", Rand) ∷ (codes "srand", Srand) ∷ (codes "system", System) ∷ (codes "func", Func) ∷ []

abbrev pub left_out_or : Option AnyLeftOut → Option ReservedWord
left_out_or None = None
left_out_or (Some w) = Some (LeftOut w)

abbrev pub builtin_or : Option AnyBuiltin → Option ReservedWord → Option ReservedWord
builtin_or None other = other
builtin_or (Some w) _ = Some (Builtin w)

abbrev pub keyword_or : Option AnyKeyword → Option ReservedWord → Option ReservedWord
keyword_or None other = other
keyword_or (Some w) _ = Some (Keyword w)

-- the reserved word of this text, if it is one
abbrev pub reserved_word_of : List ℕ → Option ReservedWord
reserved_word_of text = keyword_or (entry text keywords) (builtin_or (entry text builtins) (left_out_or (entry text left_out_words)))
