-- What the parser answers, from what it read.
use Rattle.std.proofs.Common.{◌≡◌, ℕ, Bool, true, false, Option, Some, None, List, [], ◌∷◌, Result, Ok, Err, ℤ, refl, sym, ap, ◌∙◌, arith}
use Rattle.awk_text.specs.declared.number.NumberFault.{NumberFault}
use Rattle.awk_text.specs.declared.number.NumberFault.TheVariants.{Range, Fraction}
use Rattle.awk_text.specs.Number.{number_of_text}
use Rattle.awk_tokens.specs.Cutting.{Spelled}
use Rattle.awk_tokens.specs.declared.token.Punctuator.TheVariants.{Pipe}
use Rattle.awk_tokens.specs.declared.token.TokenKind.{TokenKind}
use Rattle.awk_tokens.specs.declared.token.TokenKind.TheVariants.{Number, LeftOut as LeftOutWord, Punctuator}
use Rattle.awk_grammar.specs.Token.{Token}
use Rattle.awk_grammar.specs.Reading.{Fault, Syntax as SyntaxFault, TooDeep as TooDeepFault}
use Rattle.awk_grammar.specs.Item.{IsScript, print_script}
use Rattle.awk_grammar.specs.Trees.{Item, script_depth}
use Rattle.awk_grammar.specs.Lexeme.{spoken}
use Rattle.awk_grammar.specs.ReadItem.{script_at}
use Rattle.awk_grammar.specs.TreeOf.{IsTreeOf}
use Rattle.awk_grammar.proofs.Sound.{that_is}
use Rattle.awk_grammar.proofs.ItemSound.{script_sound}
use Rattle.awk_grammar.proofs.ItemComplete.{script_again}
use Rattle.awk_grammar.proofs.StmtDeeper.{script_syntax_only}
use Rattle.awk_parse.specs.Scan.{number_fault, kind_fault, or_else, scan}
use Rattle.awk_parse.specs.Parsing.{IsRead, IsParsed, HasNoTree, HasNoSmallTree, IsMisplaced, IsRefused, misplaced}
use Rattle.awk_parse.specs.declared.fault.Feature.TheVariants.{Word, Pipe as PipeFeature}
use Rattle.awk_parse.specs.declared.fault.ParseFault.{ParseFault}
use Rattle.awk_parse.specs.declared.fault.ParseFault.TheVariants.{LeftOut, NotWhole, ConstantRange, Syntax, TooDeep, Misplaced, NoMemory}

-- ---- the scan names no other fault

abbrev pub is_scanned : ParseFault → Bool
is_scanned (LeftOut line feature) = true
is_scanned (NotWhole line) = true
is_scanned (ConstantRange line) = true
is_scanned _ = false

number_scanned : (line : ℕ) (r : Result ℤ NumberFault) (f : ParseFault) → number_fault line r ≡ Some f → is_scanned f ≡ true
number_scanned line (Ok n) f e = absurd cc
number_scanned line (Err Fraction) f e = sym (ap is_scanned (that_is (NotWhole line) f e))
number_scanned line (Err Range) f e = sym (ap is_scanned (that_is (ConstantRange line) f e))

kind_scanned : (k : TokenKind) (line : ℕ) (text : List ℕ) (f : ParseFault) → kind_fault k line text ≡ Some f → is_scanned f ≡ true
kind_scanned Number line text f e = number_scanned line (number_of_text text) f e
kind_scanned (LeftOutWord w) line text f e = sym (ap is_scanned (that_is (LeftOut line (Word w)) f e))
kind_scanned (Punctuator Pipe) line text f e = sym (ap is_scanned (that_is (LeftOut line PipeFeature) f e))
kind_scanned _ line text f e = absurd cc

first_scanned : (o : Option ParseFault) (later : Option ParseFault) (f : ParseFault) → ((g : ParseFault) → o ≡ Some g → is_scanned g ≡ true) → (later ≡ Some f → is_scanned f ≡ true) → or_else o later ≡ Some f → is_scanned f ≡ true
first_scanned None later f a b e = b e
first_scanned (Some g) later f a b e = sym (ap is_scanned (that_is g f e)) ∙ a g refl

scan_scanned : (ts : List Spelled) (f : ParseFault) → scan ts ≡ Some f → is_scanned f ≡ true
scan_scanned [] f e = absurd cc
scan_scanned (t ∷ ts) f e = first_scanned (kind_fault t.kind t.line t.text) (scan ts) f (λ g q. kind_scanned t.kind t.line t.text g q) (λ q. scan_scanned ts f q) e

abbrev pub said : Bool → Bool
said b = b

false_not_true : said false ≡ said true → ⊥
false_not_true e = absurd cc

pub refused_by_scan : (ts : List Spelled) (f : ParseFault) → scan ts ≡ Some f → IsRefused ts f
refused_by_scan ts (LeftOut line feature) e = e
refused_by_scan ts (NotWhole line) e = e
refused_by_scan ts (ConstantRange line) e = e
refused_by_scan ts (Syntax line) e = absurd (false_not_true (scan_scanned ts (Syntax line) e))
refused_by_scan ts (TooDeep line) e = absurd (false_not_true (scan_scanned ts (TooDeep line) e))
refused_by_scan ts (Misplaced line) e = absurd (false_not_true (scan_scanned ts (Misplaced line) e))
refused_by_scan ts NoMemory e = tt

-- ---- trees

read_of : (ts : List Spelled) (is : List Item) → script_at 1000 (spoken ts) ≡ Ok is → IsRead ts is
read_of ts is e =
    let s = script_sound 1000 (spoken ts) is e in
    record { tree = record { fine = s.fine; parts = s.parts }; small = s.small }

again : (ts : List Spelled) (is : List Item) → IsRead ts is → script_at 1000 (spoken ts) ≡ Ok is
again ts is r = ap (script_at 1000) (sym r.tree.parts) ∙ script_again is 1000 r.tree.fine r.small

abbrev pub IsOkay : List Item → Result (List Item) Fault
IsOkay x = Ok x

okay_is : (x y : List Item) → IsOkay x ≡ IsOkay y → x ≡ y
okay_is x y e = cc

pub parsed_of : (ts : List Spelled) (is : List Item) → scan ts ≡ None → script_at 1000 (spoken ts) ≡ Ok is → misplaced is ts ≡ None → IsParsed ts is
parsed_of ts is n e m = record { whole = n; read = read_of ts is e; placed = m }

pub same_script : (ts : List Spelled) (is js : List Item) → script_at 1000 (spoken ts) ≡ Ok is → IsParsed ts js → is ≡ js
same_script ts is js e p = okay_is is js (sym e ∙ again ts js p.read)

pub no_tree : (ts : List Spelled) → scan ts ≡ None → script_at 1000 (spoken ts) ≡ Err SyntaxFault → HasNoTree ts
no_tree ts n e = record { whole = n; none = λ is h. script_syntax_only 1000 (spoken ts) is e h.fine h.parts }

pub no_small_tree : (ts : List Spelled) → scan ts ≡ None → script_at 1000 (spoken ts) ≡ Err TooDeepFault → HasNoSmallTree ts
no_small_tree ts n e = record { whole = n; none = λ is h. absurd (let q = sym (again ts is h) ∙ e in cc) }

pub is_misplaced : (ts : List Spelled) (is : List Item) (line : ℕ) → scan ts ≡ None → script_at 1000 (spoken ts) ≡ Ok is → misplaced is ts ≡ Some line → IsMisplaced ts line
is_misplaced ts is line n e m = record { whole = n; script = is; read = read_of ts is e; first = m }

pub not_parsed : (ts : List Spelled) (is : List Item) (f : Fault) → script_at 1000 (spoken ts) ≡ Err f → IsParsed ts is → ⊥
not_parsed ts is f e p = absurd (let q = sym (again ts is p.read) ∙ e in cc)

pub not_scanned : (ts : List Spelled) (is : List Item) (f : ParseFault) → scan ts ≡ Some f → IsParsed ts is → ⊥
not_scanned ts is f e p = absurd (let q = sym p.whole ∙ e in cc)

pub not_placed : (ts : List Spelled) (is js : List Item) (line : ℕ) → script_at 1000 (spoken ts) ≡ Ok is → misplaced is ts ≡ Some line → IsParsed ts js → ⊥
not_placed ts is js line e m p = absurd (let q = sym p.placed ∙ ap (λ (x : List Item). misplaced x ts) (sym (same_script ts is js e p)) ∙ m in cc)
