-- What is looked for in the tokens before the tree: what the language leaves out, and numbers that it does not have.
use Rattle.std.specs.Prelude.{ℕ, Option, Some, None, List, [], ◌∷◌, ℤ, Result, Ok, Err}
use Rattle.awk_text.specs.Number.{number_of_text}
use Rattle.awk_text.specs.declared.number.NumberFault.{NumberFault}
use Rattle.awk_text.specs.declared.number.NumberFault.TheVariants.{Range, Fraction}
use Rattle.awk_tokens.specs.Cutting.{Spelled}
use Rattle.awk_tokens.specs.declared.token.Punctuator.TheVariants.{Pipe}
use Rattle.awk_tokens.specs.declared.token.TokenKind.{TokenKind}
use Rattle.awk_tokens.specs.declared.token.TokenKind.TheVariants.{Number, LeftOut as LeftOutWord, Punctuator}
use Rattle.awk_parse.specs.declared.fault.Feature.TheVariants.{Word, Pipe as PipeFeature}
use Rattle.awk_parse.specs.declared.fault.ParseFault.{ParseFault}
use Rattle.awk_parse.specs.declared.fault.ParseFault.TheVariants.{LeftOut, NotWhole, ConstantRange}

abbrev pub number_fault : ℕ → Result ℤ NumberFault → Option ParseFault
number_fault line (Ok n) = None
number_fault line (Err Fraction) = Some (NotWhole line)
number_fault line (Err Range) = Some (ConstantRange line)

-- what is wrong with a token of this kind, on this line
abbrev pub kind_fault : TokenKind → ℕ → List ℕ → Option ParseFault
kind_fault Number line text = number_fault line (number_of_text text)
kind_fault (LeftOutWord w) line text = Some (LeftOut line (Word w))
kind_fault (Punctuator Pipe) line text = Some (LeftOut line PipeFeature)
kind_fault _ line text = None

abbrev pub or_else : Option ParseFault → Option ParseFault → Option ParseFault
or_else None later = later
or_else (Some fault) later = Some fault

-- the first such fault, in order of place
abbrev pub scan : List Spelled → Option ParseFault
scan [] = None
scan (t ∷ ts) = or_else (kind_fault t.kind t.line t.text) (scan ts)
