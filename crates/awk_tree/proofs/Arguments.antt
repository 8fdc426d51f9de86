-- The arguments of the functions of the language: the table of counts says the same.
use Rattle.std.proofs.Common.{◌≡◌, ℕ, ◌+◌, ◌≤◌, Bool, true, false, refl, arith}
use Rattle.std.specs.Prelude.{nat_le, ◌&&◌}
use Rattle.std.proofs.lemmas.Bool.{leb-true, le-leb}
use Rattle.awk_tokens.specs.declared.reserved_words.Builtin.{Builtin}
use Rattle.awk_tokens.specs.declared.reserved_words.Builtin.TheVariants as function
use Rattle.awk_grammar.specs.Tree.{within, is_var, second_is_var, third_is_lvalue, suits, level}
use Rattle.awk_grammar.specs.Trees.{count, Tree, Var, Index, Field, Bin, Trees, NoTree, Then}
use Rattle.awk_tree.specs.Ends.{IsVariable}
use Rattle.awk_tree.specs.Expressions.{Takes, length_0, length_1, substr_2, substr_3, index, match, split_2, split_3, sub_2, sub_3, gsub_2, gsub_3, sprintf, tolower, toupper, int, close, fflush_0, fflush_1}
use Rattle.awk_tree.proofs.Levels.{op_low}

both : (a b : Bool) → (a && b) ≡ true → (a ≡ true) × (b ≡ true)
both true b e = (refl, e)
both false b e = absurd cc

pub is_lvalue : (t : Tree) → IsVariable t → nat_le 13 (level t) ≡ true
is_lvalue (Var n) h = refl
is_lvalue (Index n ts) h = refl
is_lvalue (Field t) h = refl
is_lvalue t h = absurd h

is_variable : (t : Tree) → nat_le 13 (level t) ≡ true → IsVariable t
is_variable (Var n) h = tt
is_variable (Index n ts) h = tt
is_variable (Field t) h = tt
is_variable (Bin op a b) h = absurd (omega (arith, leb-true 13 (level (Bin op a b)) h, op_low op))
is_variable t h = absurd (omega (arith, leb-true 13 (level t) h))

pub suited : {f : Builtin} {ts : Trees} → Takes f ts → suits f ts ≡ true
suited length_0 = refl
suited length_1 = refl
suited substr_2 = refl
suited substr_3 = refl
suited index = refl
suited match = refl
suited split_2 = refl
suited split_3 = refl
suited sub_2 = refl
suited (sub_3 {c} h) = is_lvalue c h
suited gsub_2 = refl
suited (gsub_3 {c} h) = is_lvalue c h
suited (sprintf {ts}) = le-leb 1 (count ts + 1) (omega arith)
suited tolower = refl
suited toupper = refl
suited int = refl
suited close = refl
suited fflush_0 = refl
suited fflush_1 = refl

bounds : (least most : ℕ) (ts : Trees) → within least most ts ≡ true → (least ≤ count ts) × (count ts ≤ most)
bounds least most ts h =
    let k = both (nat_le least (count ts)) (nat_le (count ts) most) h in
    (leb-true least (count ts) k.0, leb-true (count ts) most k.1)

one_of : (P : Trees → Type 0) → ((a : Tree) → P (Then a NoTree)) → (ts : Trees) → within 1 1 ts ≡ true → P ts
one_of P one NoTree h = absurd cc
one_of P one (Then a NoTree) h = one a
one_of P one (Then a (Then b ts)) h = absurd (omega (arith, (bounds 1 1 (Then a (Then b ts)) h).1))

two_of : (P : Trees → Type 0) → ((a b : Tree) → P (Then a (Then b NoTree))) → (ts : Trees) → within 2 2 ts ≡ true → P ts
two_of P two NoTree h = absurd cc
two_of P two (Then a NoTree) h = absurd cc
two_of P two (Then a (Then b NoTree)) h = two a b
two_of P two (Then a (Then b (Then c ts))) h = absurd (omega (arith, (bounds 2 2 (Then a (Then b (Then c ts))) h).1))

two_or_three_of : (P : Trees → Type 0) → ((a b : Tree) → P (Then a (Then b NoTree))) → ((a b c : Tree) → P (Then a (Then b (Then c NoTree)))) → (ts : Trees) → within 2 3 ts ≡ true → P ts
two_or_three_of P two three NoTree h = absurd cc
two_or_three_of P two three (Then a NoTree) h = absurd cc
two_or_three_of P two three (Then a (Then b NoTree)) h = two a b
two_or_three_of P two three (Then a (Then b (Then c NoTree))) h = three a b c
two_or_three_of P two three (Then a (Then b (Then c (Then d ts)))) h = absurd (omega (arith, (bounds 2 3 (Then a (Then b (Then c (Then d ts)))) h).1))

split_of : (a b : Tree) → is_var b ≡ true → Takes function.Split (Then a (Then b NoTree))
split_of a (Var n) h = split_2
split_of a b h = absurd cc

split_by : (a b c : Tree) → is_var b ≡ true → Takes function.Split (Then a (Then b (Then c NoTree)))
split_by a (Var n) c h = split_3
split_by a b c h = absurd cc

pub takes_suited : (f : Builtin) (ts : Trees) → suits f ts ≡ true → Takes f ts
takes_suited function.Length NoTree h = length_0
takes_suited function.Length (Then a NoTree) h = length_1
takes_suited function.Length (Then a (Then b ts)) h = absurd (omega (arith, (bounds 0 1 (Then a (Then b ts)) h).1))
takes_suited function.Substr ts h = two_or_three_of (Takes function.Substr) (λ a b. substr_2) (λ a b c. substr_3) ts h
takes_suited function.Index ts h = two_of (Takes function.Index) (λ a b. index) ts h
takes_suited function.Match ts h = two_of (Takes function.Match) (λ a b. match) ts h
takes_suited function.Split ts h =
    let k = both (within 2 3 ts) (second_is_var ts) h in
    two_or_three_of (λ us. second_is_var us ≡ true → Takes function.Split us) split_of split_by ts k.0 k.1
takes_suited function.Sub ts h =
    let k = both (within 2 3 ts) (third_is_lvalue ts) h in
    two_or_three_of (λ us. third_is_lvalue us ≡ true → Takes function.Sub us) (λ a b e. sub_2) (λ a b c e. sub_3 (is_variable c e)) ts k.0 k.1
takes_suited function.Gsub ts h =
    let k = both (within 2 3 ts) (third_is_lvalue ts) h in
    two_or_three_of (λ us. third_is_lvalue us ≡ true → Takes function.Gsub us) (λ a b e. gsub_2) (λ a b c e. gsub_3 (is_variable c e)) ts k.0 k.1
takes_suited function.Sprintf NoTree h = absurd cc
takes_suited function.Sprintf (Then a ts) h = sprintf
takes_suited function.ToLower ts h = one_of (Takes function.ToLower) (λ a. tolower) ts h
takes_suited function.ToUpper ts h = one_of (Takes function.ToUpper) (λ a. toupper) ts h
takes_suited function.Int ts h = one_of (Takes function.Int) (λ a. int) ts h
takes_suited function.Close ts h = one_of (Takes function.Close) (λ a. close) ts h
takes_suited function.Fflush NoTree h = fflush_0
takes_suited function.Fflush (Then a NoTree) h = fflush_1
takes_suited function.Fflush (Then a (Then b ts)) h = absurd (omega (arith, (bounds 0 1 (Then a (Then b ts)) h).1))
