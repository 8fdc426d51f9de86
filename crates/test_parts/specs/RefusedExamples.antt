-- Bytes that spell no script, and why.
use Rattle.std.specs.Prelude.{codes, refl}
use Rattle.awk_tokens.specs.declared.token.TokenFault.TheVariants.{BadByte, OpenString, OpenEre}
use Rattle.awk_tokens.specs.declared.reserved_words.LeftOut.TheVariants.{System}
use Rattle.awk_parse.specs.declared.fault.Feature.TheVariants.{Word, Pipe}
use Rattle.awk_parse.specs.declared.fault.ParseFault.TheVariants.{LeftOut, NotWhole, ConstantRange}
use Rattle.awk_grammar.specs.Kinds.{UnknownFunction, ArgCount, DuplicateName, KindClash}
use Rattle.test_parts.specs.Sources.{IsRefused, NoTokens, NotTaken, NoTree, OutOfPlace, BadName, computed}

pub byte_of_no_token : IsRefused (codes "BEGIN { @ }") (NoTokens (BadByte 1))
unfolding computed
byte_of_no_token = refl

pub open_string : IsRefused (codes "BEGIN { print \"x") (NoTokens (OpenString 1))
unfolding computed
open_string = refl

pub open_expression : IsRefused (codes "{ print }\n/x") (NoTokens (OpenEre 2))
unfolding computed
open_expression = refl

pub left_out_word : IsRefused (codes "BEGIN { system(\"ls\") }") (NotTaken (LeftOut 1 (Word System)))
unfolding computed
left_out_word = refl

pub pipe : IsRefused (codes "BEGIN {\n  print 1 | \"cat\"\n}") (NotTaken (LeftOut 2 Pipe))
unfolding computed
pipe = refl

pub fraction : IsRefused (codes "BEGIN { x = 0.5 }") (NotTaken (NotWhole 1))
unfolding computed
fraction = refl

pub number_past_the_range : IsRefused (codes "BEGIN { x = 9007199254740993 }") (NotTaken (ConstantRange 1))
unfolding computed
number_past_the_range = refl

pub no_expression_after_dollar : IsRefused (codes "{ print $ }") NoTree
unfolding computed
no_expression_after_dollar = refl

pub assignment_after_a_sum : IsRefused (codes "{ print 1 + x = 2 }") NoTree
unfolding computed
assignment_after_a_sum = refl

pub next_in_begin : IsRefused (codes "BEGIN { next }") (OutOfPlace 1)
unfolding computed
next_in_begin = refl

pub break_outside_loops : IsRefused (codes "{\n  break\n}") (OutOfPlace 2)
unfolding computed
break_outside_loops = refl

pub nextfile_in_end : IsRefused (codes "{ print }\nEND { nextfile }") (OutOfPlace 2)
unfolding computed
nextfile_in_end = refl

pub flush_without_parentheses : IsRefused (codes "BEGIN { fflush }") NoTree
unfolding computed
flush_without_parentheses = refl

pub name_after_a_deletion : IsRefused (codes "{ delete a b }") NoTree
unfolding computed
name_after_a_deletion = refl

pub unknown_function : IsRefused (codes "BEGIN { f(1) }") (BadName (UnknownFunction (codes "f")))
unfolding computed
unknown_function = refl

pub too_many_arguments : IsRefused (codes "function f(a) { } BEGIN { f(1, 2) }") (BadName (ArgCount (codes "f")))
unfolding computed
too_many_arguments = refl

pub parameter_named_twice : IsRefused (codes "function f(a, a) { }") (BadName (DuplicateName (codes "a")))
unfolding computed
parameter_named_twice = refl

pub scalar_that_is_emptied : IsRefused (codes "BEGIN { a = 1; delete a }") (BadName (KindClash (codes "a")))
unfolding computed
scalar_that_is_emptied = refl

pub scalar_and_array : IsRefused (codes "BEGIN { a = 1; a[1] = 2 }") (BadName (KindClash (codes "a")))
unfolding computed
scalar_and_array = refl
