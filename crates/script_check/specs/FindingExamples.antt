-- What is found in scripts, computed from the definitions.
use Rattle.std.specs.Prelude.{◌≡◌, ℕ, true, false, List, [], ◌∷◌, Option, None, Some, codes, refl}
use Rattle.awk_grammar.specs.Trees.{Item, Function, NoStmt}
use Rattle.awk_grammar.specs.Kinds.{special_arrays, special_scalars}
use Rattle.awk_tokens.specs.declared.token.Punctuator.TheVariants.{OpenBrace, OpenParen, CloseBrace, Semicolon, Plus}
use Rattle.awk_tokens.specs.declared.token.Token.{Token}
use Rattle.awk_tokens.specs.declared.token.TokenFault.TheVariants.{BadByte, OpenString}
use Rattle.awk_tokens.specs.declared.token.TokenKind.{TokenKind}
use Rattle.awk_tokens.specs.declared.token.TokenKind.TheVariants.{Keyword as Word, Name, Punctuator as Sign}
use Rattle.awk_tokens.specs.declared.reserved_words.Keyword.TheVariants.{For, Print}
use Rattle.script_check.specs.declared.uses.Deed.{Deed}
use Rattle.script_check.specs.declared.uses.Deed.TheVariants.{Assigns, Defines, Sets, SetsArray, Takes}
use Rattle.script_check.specs.Stopped.{innermost, syntax, syntax_at}
use Rattle.script_check.specs.Troubles.{definition, first_as, first_clash, taken_from}
use Rattle.script_check.specs.Uncut.{byte_text, character_length, line_end, line_start, may_stop}
use Rattle.script_check.specs.Uses.{Told}

-- ---- lines

pub second_line : line_start 2 (codes "ab\ncd\n") ≡ 3
second_line = refl

pub past_the_last_line : line_start 9 (codes "ab\n") ≡ 3
past_the_last_line = refl

pub end_of_a_line : line_end (codes "ab\ncd\n") 3 ≡ 5
end_of_a_line = refl

-- ---- where cutting stops

pub a_letter_stops_nothing : may_stop (BadByte 1) 97 ≡ false
a_letter_stops_nothing = refl

pub a_quote_opens_a_text : may_stop (OpenString 1) 34 ≡ true
a_quote_opens_a_text = refl

pub carriage_return : byte_text (13 ∷ 10 ∷ []) ≡ codes "a carriage return; lines end in a newline alone"
carriage_return = refl

pub curled_quote : byte_text (226 ∷ 128 ∷ 156 ∷ []) ≡ codes "a curled quote; texts stand in straight ones"
curled_quote = refl

pub two_bytes : character_length (195 ∷ 164 ∷ 120 ∷ []) ≡ 2
two_bytes = refl

-- ---- where reading stopped

abbrev token : TokenKind → ℕ → Token
token kind line = record { kind = kind; line = line; text = record { ref_ptr = (0, 0); now = [] } }

-- a parenthesis of `print` that a semicolon follows, and the same of a `for`
abbrev opened_behind : TokenKind → List Token
opened_behind word = token (Sign OpenBrace) 1 ∷ token word 1 ∷ token (Sign OpenParen) 2 ∷ token (Sign Semicolon) 2 ∷ token (Sign CloseBrace) 3 ∷ []

pub the_parenthesis : innermost (opened_behind (Word Print)) 0 4 ≡ Some 2
the_parenthesis = refl

pub not_closed : syntax_at (opened_behind (Word Print)) 3 ≡ syntax (codes ") is missing, opened in line") (Some 2)
not_closed = refl

pub of_a_for : syntax_at (opened_behind (Word For)) 3 ≡ syntax (codes "the script does not go on so") None
of_a_for = refl

pub no_operand : syntax_at (token Name 1 ∷ token (Sign Plus) 1 ∷ token (Sign Semicolon) 1 ∷ []) 2 ≡ syntax (codes "an operand is missing") None
no_operand = refl

pub open_at_the_end : syntax_at (token (Sign OpenBrace) 1 ∷ token Name 1 ∷ token (Sign Semicolon) 2 ∷ []) 2 ≡ syntax (codes "} is missing, opened in line") (Some 1)
open_at_the_end = refl

-- ---- names

abbrev use_of : Deed → Option (List ℕ) → List ℕ → Told
use_of deed place name = record { deed = deed; place = place; name = name }

-- function f(a, a) { }
abbrev twice : List Item
twice = Function (codes "f") (codes "a" ∷ codes "a" ∷ []) NoStmt ∷ []

abbrev uses_of_twice : List Told
uses_of_twice = use_of Defines None (codes "f") ∷ use_of Takes (Some (codes "f")) (codes "a") ∷ use_of Takes (Some (codes "f")) (codes "a") ∷ []

pub the_second_parameter : taken_from twice (codes "a") [] 0 uses_of_twice ≡ Some 2
unfolding special_arrays special_scalars
the_second_parameter = refl

pub its_definition : definition (codes "f") uses_of_twice ≡ Some 0
its_definition = refl

-- x = 1; x[1] = 2
abbrev both_ways : List Told
both_ways = use_of Sets None (codes "x") ∷ use_of (Assigns false) None [] ∷ use_of SetsArray None (codes "x") ∷ use_of (Assigns false) None [] ∷ []

pub the_clash : first_clash [] (codes "x") both_ways ≡ Some 0
the_clash = refl

pub the_array : first_as [] true (use_of Sets None (codes "x")) both_ways ≡ Some 2
the_array = refl
