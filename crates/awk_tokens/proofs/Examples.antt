-- Worked scripts: what the longest cutting gives, computed.
use Rattle.std.proofs.Common.{◌≡◌, true, false, Some, Ok, Err, [], ◌∷◌, codes, refl}
use Rattle.awk_tokens.specs.declared.reserved_words.Keyword.TheVariants as words
use Rattle.awk_tokens.specs.declared.reserved_words.Builtin.TheVariants as functions
use Rattle.awk_tokens.specs.declared.token.Punctuator.TheVariants as marks
use Rattle.awk_tokens.specs.declared.token.TokenKind.TheVariants.{Name, FuncName, Number, Str, Ere, Keyword, Builtin, Punctuator}
use Rattle.awk_tokens.specs.declared.token.TokenFault.TheVariants.{BadByte, OpenString, OpenEre}
use Rattle.awk_tokens.specs.declared.token.Role.TheVariants.{Control, Params, Plain}
use Rattle.awk_tokens.specs.Words.{keywords, builtins, left_out_words}
use Rattle.awk_tokens.specs.Pieces.{punctuators}
use Rattle.awk_tokens.specs.Cutting.{IsTokens, divides, drops}
use Rattle.awk_tokens.specs.Kinds.{context}
use Rattle.awk_tokens.specs.Reading.{scale_at, exponent_length, fraction_length, number_at, close_at, mark_at, joined_at, name_at, front_at, cut_at, raw_of}
use Rattle.awk_tokens.proofs.Whole.{read_is_tokens}

-- a slash after the condition of `if` begins an ERE, one after a name divides
a_slash_after_the_condition_of_if_begins_an_ere_one_after_a_name_divides : IsTokens (codes "{ if (NF) /x/ || n++ } END { print n/1 }") (Ok (record { kind = Punctuator marks.OpenBrace; line = 1; text = codes "{" } ∷ record { kind = Keyword words.If; line = 1; text = codes "if" } ∷ record { kind = Punctuator marks.OpenParen; line = 1; text = codes "(" } ∷ record { kind = Name; line = 1; text = codes "NF" } ∷ record { kind = Punctuator marks.CloseParen; line = 1; text = codes ")" } ∷ record { kind = Ere; line = 1; text = codes "/x/" } ∷ record { kind = Punctuator marks.Or; line = 1; text = codes "||" } ∷ record { kind = Name; line = 1; text = codes "n" } ∷ record { kind = Punctuator marks.Increment; line = 1; text = codes "++" } ∷ record { kind = Punctuator marks.Semicolon; line = 1; text = [] } ∷ record { kind = Punctuator marks.CloseBrace; line = 1; text = codes "}" } ∷ record { kind = Keyword words.End; line = 1; text = codes "END" } ∷ record { kind = Punctuator marks.OpenBrace; line = 1; text = codes "{" } ∷ record { kind = Keyword words.Print; line = 1; text = codes "print" } ∷ record { kind = Name; line = 1; text = codes "n" } ∷ record { kind = Punctuator marks.Slash; line = 1; text = codes "/" } ∷ record { kind = Number; line = 1; text = codes "1" } ∷ record { kind = Punctuator marks.Semicolon; line = 1; text = [] } ∷ record { kind = Punctuator marks.CloseBrace; line = 1; text = codes "}" } ∷ []))
unfolding raw_of cut_at front_at joined_at mark_at name_at number_at fraction_length exponent_length scale_at close_at keywords builtins left_out_words punctuators
a_slash_after_the_condition_of_if_begins_an_ere_one_after_a_name_divides = read_is_tokens (codes "{ if (NF) /x/ || n++ } END { print n/1 }")

-- a string that is not closed
a_string_that_is_not_closed : IsTokens (codes "BEGIN { print \"x") (Err (OpenString 1))
unfolding raw_of cut_at front_at joined_at mark_at name_at number_at fraction_length exponent_length scale_at close_at keywords builtins left_out_words punctuators
a_string_that_is_not_closed = read_is_tokens (codes "BEGIN { print \"x")

-- no token
no_token : IsTokens (codes "BEGIN { @ }") (Err (BadByte 1))
unfolding raw_of cut_at front_at joined_at mark_at name_at number_at fraction_length exponent_length scale_at close_at keywords builtins left_out_words punctuators
no_token = read_is_tokens (codes "BEGIN { @ }")

-- an ERE that is not closed, on the third line
an_ere_that_is_not_closed_on_the_third_line : IsTokens (codes "\nif (a)\n/x") (Err (OpenEre 3))
unfolding raw_of cut_at front_at joined_at mark_at name_at number_at fraction_length exponent_length scale_at close_at keywords builtins left_out_words punctuators
an_ere_that_is_not_closed_on_the_third_line = read_is_tokens (codes "\nif (a)\n/x")

-- a newline that is kept is `;` for the slash
a_newline_that_is_kept_is_for_the_slash : IsTokens (codes "x = 6\n/a/") (Ok (record { kind = Name; line = 1; text = codes "x" } ∷ record { kind = Punctuator marks.Assign; line = 1; text = codes "=" } ∷ record { kind = Number; line = 1; text = codes "6" } ∷ record { kind = Punctuator marks.Semicolon; line = 1; text = codes "\n" } ∷ record { kind = Ere; line = 2; text = codes "/a/" } ∷ record { kind = Punctuator marks.Semicolon; line = 2; text = [] } ∷ []))
unfolding raw_of cut_at front_at joined_at mark_at name_at number_at fraction_length exponent_length scale_at close_at keywords builtins left_out_words punctuators
a_newline_that_is_kept_is_for_the_slash = read_is_tokens (codes "x = 6\n/a/")

-- a newline after parameters is dropped, and the slash divides
a_newline_after_parameters_is_dropped_and_the_slash_divides : IsTokens (codes "function f(a)\n/x") (Ok (record { kind = Keyword words.Function; line = 1; text = codes "function" } ∷ record { kind = FuncName; line = 1; text = codes "f" } ∷ record { kind = Punctuator marks.OpenParen; line = 1; text = codes "(" } ∷ record { kind = Name; line = 1; text = codes "a" } ∷ record { kind = Punctuator marks.CloseParen; line = 1; text = codes ")" } ∷ record { kind = Punctuator marks.Slash; line = 2; text = codes "/" } ∷ record { kind = Name; line = 2; text = codes "x" } ∷ record { kind = Punctuator marks.Semicolon; line = 2; text = [] } ∷ []))
unfolding raw_of cut_at front_at joined_at mark_at name_at number_at fraction_length exponent_length scale_at close_at keywords builtins left_out_words punctuators
a_newline_after_parameters_is_dropped_and_the_slash_divides = read_is_tokens (codes "function f(a)\n/x")

-- one `;` between `}` and `else` is dropped
one_between_and_else_is_dropped : IsTokens (codes "{ if (a) { b };\nelse c }") (Ok (record { kind = Punctuator marks.OpenBrace; line = 1; text = codes "{" } ∷ record { kind = Keyword words.If; line = 1; text = codes "if" } ∷ record { kind = Punctuator marks.OpenParen; line = 1; text = codes "(" } ∷ record { kind = Name; line = 1; text = codes "a" } ∷ record { kind = Punctuator marks.CloseParen; line = 1; text = codes ")" } ∷ record { kind = Punctuator marks.OpenBrace; line = 1; text = codes "{" } ∷ record { kind = Name; line = 1; text = codes "b" } ∷ record { kind = Punctuator marks.Semicolon; line = 1; text = [] } ∷ record { kind = Punctuator marks.CloseBrace; line = 1; text = codes "}" } ∷ record { kind = Keyword words.Else; line = 2; text = codes "else" } ∷ record { kind = Name; line = 2; text = codes "c" } ∷ record { kind = Punctuator marks.Semicolon; line = 2; text = [] } ∷ record { kind = Punctuator marks.CloseBrace; line = 2; text = codes "}" } ∷ []))
unfolding raw_of cut_at front_at joined_at mark_at name_at number_at fraction_length exponent_length scale_at close_at keywords builtins left_out_words punctuators
one_between_and_else_is_dropped = read_is_tokens (codes "{ if (a) { b };\nelse c }")

-- a `;` is put before `}` and at the end
a_is_put_before_and_at_the_end : IsTokens (codes "{ if (x) }\ny") (Ok (record { kind = Punctuator marks.OpenBrace; line = 1; text = codes "{" } ∷ record { kind = Keyword words.If; line = 1; text = codes "if" } ∷ record { kind = Punctuator marks.OpenParen; line = 1; text = codes "(" } ∷ record { kind = Name; line = 1; text = codes "x" } ∷ record { kind = Punctuator marks.CloseParen; line = 1; text = codes ")" } ∷ record { kind = Punctuator marks.Semicolon; line = 1; text = [] } ∷ record { kind = Punctuator marks.CloseBrace; line = 1; text = codes "}" } ∷ record { kind = Name; line = 2; text = codes "y" } ∷ record { kind = Punctuator marks.Semicolon; line = 2; text = [] } ∷ []))
unfolding raw_of cut_at front_at joined_at mark_at name_at number_at fraction_length exponent_length scale_at close_at keywords builtins left_out_words punctuators
a_is_put_before_and_at_the_end = read_is_tokens (codes "{ if (x) }\ny")

-- numbers
numbers : IsTokens (codes "1..5 .5e-2 1e+ 0x1A") (Ok (record { kind = Number; line = 1; text = codes "1." } ∷ record { kind = Number; line = 1; text = codes ".5" } ∷ record { kind = Number; line = 1; text = codes ".5e-2" } ∷ record { kind = Number; line = 1; text = codes "1" } ∷ record { kind = Name; line = 1; text = codes "e" } ∷ record { kind = Punctuator marks.Plus; line = 1; text = codes "+" } ∷ record { kind = Number; line = 1; text = codes "0" } ∷ record { kind = Name; line = 1; text = codes "x1A" } ∷ record { kind = Punctuator marks.Semicolon; line = 1; text = [] } ∷ []))
unfolding raw_of cut_at front_at joined_at mark_at name_at number_at fraction_length exponent_length scale_at close_at keywords builtins left_out_words punctuators
numbers = read_is_tokens (codes "1..5 .5e-2 1e+ 0x1A")

-- a continued line, and a name before `(`
a_continued_line_and_a_name_before : IsTokens (codes "f\\\n(1) f(1)") (Ok (record { kind = Name; line = 1; text = codes "f" } ∷ record { kind = Punctuator marks.OpenParen; line = 2; text = codes "(" } ∷ record { kind = Number; line = 2; text = codes "1" } ∷ record { kind = Punctuator marks.CloseParen; line = 2; text = codes ")" } ∷ record { kind = FuncName; line = 2; text = codes "f" } ∷ record { kind = Punctuator marks.OpenParen; line = 2; text = codes "(" } ∷ record { kind = Number; line = 2; text = codes "1" } ∷ record { kind = Punctuator marks.CloseParen; line = 2; text = codes ")" } ∷ record { kind = Punctuator marks.Semicolon; line = 2; text = [] } ∷ []))
unfolding raw_of cut_at front_at joined_at mark_at name_at number_at fraction_length exponent_length scale_at close_at keywords builtins left_out_words punctuators
a_continued_line_and_a_name_before = read_is_tokens (codes "f\\\n(1) f(1)")

-- a string over a continued line
a_string_over_a_continued_line : IsTokens (codes "print \"a\\\nb\"\n@") (Err (BadByte 3))
unfolding raw_of cut_at front_at joined_at mark_at name_at number_at fraction_length exponent_length scale_at close_at keywords builtins left_out_words punctuators
a_string_over_a_continued_line = read_is_tokens (codes "print \"a\\\nb\"\n@")

-- parentheses in that of `if`: a slash after an inner one divides, and one after the outer one begins an ERE
parentheses_in_that_of_if : IsTokens (codes "if ((a)/b) /x/") (Ok (record { kind = Keyword words.If; line = 1; text = codes "if" } ∷ record { kind = Punctuator marks.OpenParen; line = 1; text = codes "(" } ∷ record { kind = Punctuator marks.OpenParen; line = 1; text = codes "(" } ∷ record { kind = Name; line = 1; text = codes "a" } ∷ record { kind = Punctuator marks.CloseParen; line = 1; text = codes ")" } ∷ record { kind = Punctuator marks.Slash; line = 1; text = codes "/" } ∷ record { kind = Name; line = 1; text = codes "b" } ∷ record { kind = Punctuator marks.CloseParen; line = 1; text = codes ")" } ∷ record { kind = Ere; line = 1; text = codes "/x/" } ∷ record { kind = Punctuator marks.Semicolon; line = 1; text = [] } ∷ []))
unfolding raw_of cut_at front_at joined_at mark_at name_at number_at fraction_length exponent_length scale_at close_at keywords builtins left_out_words punctuators
parentheses_in_that_of_if = read_is_tokens (codes "if ((a)/b) /x/")

-- the context after `if ( (`, `if ( ( )`, `if ( ( ) )` and `function f ( )`, the newest kind first
two_open : (context (Punctuator marks.OpenParen ∷ Punctuator marks.OpenParen ∷ Keyword words.If ∷ [])).open_roles ≡ Plain ∷ Control ∷ []
two_open = refl

inner_closed : divides (context (Punctuator marks.CloseParen ∷ Punctuator marks.OpenParen ∷ Punctuator marks.OpenParen ∷ Keyword words.If ∷ [])) ≡ true
inner_closed = refl

outer_closed : context (Punctuator marks.CloseParen ∷ Punctuator marks.CloseParen ∷ Punctuator marks.OpenParen ∷ Punctuator marks.OpenParen ∷ Keyword words.If ∷ []) ≡ record { last = Some (Punctuator marks.CloseParen); former = Some (Punctuator marks.CloseParen); closed = Control; open_roles = [] }
outer_closed = refl

outer_closed_divides : divides (context (Punctuator marks.CloseParen ∷ Punctuator marks.CloseParen ∷ Punctuator marks.OpenParen ∷ Punctuator marks.OpenParen ∷ Keyword words.If ∷ [])) ≡ false
outer_closed_divides = refl

parameters_closed : (context (Punctuator marks.CloseParen ∷ Punctuator marks.OpenParen ∷ FuncName ∷ Keyword words.Function ∷ [])).closed ≡ Params
parameters_closed = refl

parameters_drop : drops (context (Punctuator marks.CloseParen ∷ Punctuator marks.OpenParen ∷ FuncName ∷ Keyword words.Function ∷ [])) ≡ true
parameters_drop = refl
