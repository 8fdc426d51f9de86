-- What the parser's values say to the grammar.
use Rattle.std.specs.Prelude.{◌≡◌, ℕ, Bool, true, false, List, [], ◌∷◌, map, Option, Some, None, Result, Ok, Err, if◌then◌else◌}
use Rattle.awk_tokens.specs.declared.token.Token.{Token}
use Rattle.awk_tokens.specs.Views.{spelled}
use Rattle.awk_tokens.specs.Cutting.{Spelled}
use Rattle.awk_grammar.specs.Token.{Token as Lexeme, Lit, Name, FuncName, Word, GetlineWord, InWord, Dollar, Open, NotMark, StepMark, SignMark, Infix, Question, Assign}
use Rattle.awk_grammar.specs.Reading.{Fault, Syntax, TooDeep, Link, Joined, Within, Chosen}
use Rattle.awk_grammar.specs.Tree.{Mode, Whole, AfterOr, AfterAnd, AfterMatch, AfterCompare, AfterJoin, AfterAdd, Factor, Plain, LValue, InField, allowed}
use Rattle.awk_grammar.specs.Trees.{Op, Add, Other}
use Rattle.awk_grammar.specs.Lexeme.{spoken, spoken_as}
use Rattle.awk_grammar.specs.View.{view_binary, view_assign}
use Rattle.awk_parse.specs.declared.refusal.Refusal.{Refusal}
use Rattle.awk_parse.specs.declared.refusal.Refusal.TheVariants as refusals
use Rattle.awk_parse.specs.declared.mode.Mode.{Mode as Mode'}
use Rattle.awk_parse.specs.declared.mode.Mode.TheVariants as modes
use Rattle.awk_parse.specs.declared.peek.Infix.{Infix as Infix'}
use Rattle.awk_parse.specs.declared.peek.Infix.TheVariants as infixes
use Rattle.awk_parse.specs.declared.peek.Link.{Link as Link'}
use Rattle.awk_parse.specs.declared.peek.Link.TheVariants as links

-- tokens as the grammar sees them, where they do not stand directly after `function`
abbrev pub seen : List Token → List Lexeme
seen ts = spoken (map spelled ts)

-- a refusal that is not for want of memory is that of the reading
abbrev pub Fails : {A : Type 0} → Refusal → Result A Fault → Type 0
Fails refusals.NoMemory read = Unit {0}
Fails (refusals.Syntax line) read = read ≡ Err Syntax
Fails (refusals.TooDeep line) read = read ≡ Err TooDeep

-- what a function returned, seen so, is what reading gives, unless memory ran out
abbrev pub Gives : {A B : Type 0} → (A → B) → Result A Refusal → Result B Fault → Type 0
Gives f (Ok x) read = read ≡ Ok (f x)
Gives f (Err e) read = Fails e read

abbrev pub view_mode : Mode' → Mode
view_mode modes.Whole = Whole
view_mode modes.AfterOr = AfterOr
view_mode modes.AfterAnd = AfterAnd
view_mode modes.AfterMatch = AfterMatch
view_mode modes.AfterCompare = AfterCompare
view_mode modes.AfterConcat = AfterJoin
view_mode modes.AfterSum = AfterAdd
view_mode modes.Factor = Factor
view_mode modes.Plain = Plain
view_mode modes.LValue = LValue
view_mode modes.InField = InField

abbrev pub view_infix : Infix' → Op
view_infix (infixes.Binary op) = view_binary op
view_infix (infixes.Assign op) = Other (Assign (view_assign op))

abbrev pub view_link : Link' → Link
view_link (links.Joined op) = Joined (view_infix op)
view_link links.In = Within
view_link links.Question = Chosen

-- a token by itself
abbrev pub lexeme_of : Spelled → Lexeme
lexeme_of t = spoken_as false t.kind t.text

abbrev pub first_line : List Spelled → Option ℕ
first_line [] = None
first_line (t ∷ ts) = Some t.line

-- whether an expression that may stand directly after another begins with this token
abbrev pub begins_operand : Lexeme → Bool
begins_operand (Lit c) = true
begins_operand (Name n) = true
begins_operand (FuncName n) = true
begins_operand (Word f) = true
begins_operand GetlineWord = true
begins_operand Dollar = true
begins_operand Open = true
begins_operand NotMark = true
begins_operand (StepMark s) = true
begins_operand _ = false

-- what a token that begins no operand joins
abbrev pub infix_link : Bool → Lexeme → Option Link
infix_link g InWord = Some Within
infix_link g (SignMark s) = Some (Joined (Add s))
infix_link g (Infix s) = if allowed g s then Some (Joined (Other s)) else None
infix_link g Question = Some Chosen
infix_link g _ = None
