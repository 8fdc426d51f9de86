-- Rows: the name of `n = n + 1`, in a script that stores numbers alone in it, and in one that stores a text too; and a name that takes a copy of it.
use Rattle.std.specs.Prelude.{◌≡◌, ℕ, true, false, List, [], ◌∷◌, codes, refl}
use Rattle.std.specs.Fmt.{digits}
use Rattle.awk_text.specs.Escapes.{unescaped, escaped, octal}
use Rattle.awk_text.specs.Number.{numerator, denominator}
use Rattle.awk_text.specs.Reading.{numeral_at, sign_at, fraction_at, exponent_at}
use Rattle.awk_tokens.specs.Words.{keywords, builtins, left_out_words}
use Rattle.awk_grammar.specs.Kinds.{special_arrays, special_scalars}
use Rattle.awk_grammar.specs.Trees.{Item, Stmts, Tree}
use Rattle.awk_grammar.specs.Token as token
use Rattle.awk_grammar.specs.Trees as tree
use Rattle.sem_scripts.specs.Kinds.{resolved}
use Rattle.sem_scripts.specs.Names.{variable_of}
use Rattle.mid_program.specs.Texts.{texts_in, all_texts, stmt_texts, stmts_texts}
use Rattle.mid_program.specs.Translation.{code_of, codes_of, key_code, kept_code, argument_codes, truncated_code, applied_code, step_code, steps_code}
use Rattle.agreement.specs.Quiet.Spots.{IsNumberName, assigns}
use Rattle.agreement.specs.Spots.Places.{scope_at}
use Rattle.agreement.specs.Spots.Spots.{OfBegin}

abbrev n_plus_one : Tree
n_plus_one = tree.Bin (tree.Add token.Plus) (tree.Var (codes "n")) (tree.Leaf (token.Number (codes "1")))

-- BEGIN { n = n + 1; .. }
abbrev script : Stmts → List Item
script rest = tree.Begin (tree.And (assigns (codes "n") n_plus_one) rest) ∷ []

abbrev IsNumbers : List ℕ → List Item → Type 0
IsNumbers x items = IsNumberName (resolved items) (OfBegin []) (λ i. ⊥) (variable_of (scope_at (resolved items) (OfBegin [])) x)

-- n = n + 1 again
pub numbers : IsNumbers (codes "n") (script (tree.And (assigns (codes "n") n_plus_one) tree.NoStmt))
unfolding special_arrays special_scalars texts_in all_texts stmt_texts stmts_texts code_of codes_of key_code kept_code argument_codes truncated_code applied_code step_code steps_code numeral_at sign_at fraction_at exponent_at numerator denominator digits unescaped escaped octal keywords builtins left_out_words
numbers = (refl, refl, λ h. h)

-- n = n n
pub texts_too : IsNumbers (codes "n") (script (tree.And (assigns (codes "n") (tree.Bin tree.Join (tree.Var (codes "n")) (tree.Var (codes "n")))) tree.NoStmt)) → ⊥
unfolding special_arrays special_scalars texts_in all_texts stmt_texts stmts_texts code_of codes_of key_code kept_code argument_codes truncated_code applied_code step_code steps_code numeral_at sign_at fraction_at exponent_at numerator denominator digits unescaped escaped octal keywords builtins left_out_words
texts_too h = h

-- m = n: m may have the text that the command line gave n
pub copied : IsNumbers (codes "m") (script (tree.And (assigns (codes "m") (tree.Var (codes "n"))) tree.NoStmt)) → ⊥
unfolding special_arrays special_scalars texts_in all_texts stmt_texts stmts_texts code_of codes_of key_code kept_code argument_codes truncated_code applied_code step_code steps_code numeral_at sign_at fraction_at exponent_at numerator denominator digits unescaped escaped octal keywords builtins left_out_words
copied h = let e : true ≡ false = h.1 in cc
