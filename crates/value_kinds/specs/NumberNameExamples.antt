-- What scripts store, and into which scalars they store numbers alone.
use Rattle.std.specs.Prelude.{◌≡◌, ◌⊎◌, true, false, List, [], ◌∷◌, codes, refl}
use Rattle.std.specs.List.{AllByRecursion as Each}
use Rattle.std.proofs.Common.{inl, inr}
use Rattle.std.proofs.lemmas.List.Elements.{All-from_recursion, recursion_from_All}
use Rattle.awk_grammar.specs.Kinds.{special_arrays, special_scalars}
use Rattle.awk_tokens.specs.declared.reserved_words.Builtin.TheVariants as builtin
use Rattle.awk_grammar.specs.Token as token
use Rattle.awk_grammar.specs.Trees.{Tree, Item}
use Rattle.awk_grammar.specs.Trees as tree
use Rattle.sem_scripts.specs.Kinds.{resolved}
use Rattle.mid_program.specs.Scripts as scripts
use Rattle.value_kinds.specs.Stores.{Copy, Global, Parameter, Result, Scalar, Store, Stored, Text, Value, is_number, script_stores}
use Rattle.value_kinds.specs.Unboxed.{CopiesNumbers, TakesCopies, TakesNumbers}

abbrev stored_in : Scalar → Stored → Store
stored_in x w = record { scalar = x; stored = w }

abbrev Says : Scalar → Store → Type 0
Says x s = s.scalar ≡ x → is_number s.stored ≡ true

not_so : false ≡ true → ⊥
not_so e = absurd cc

abbrev n_plus_one : Tree
n_plus_one = tree.Bin (tree.Add token.Plus) (tree.Var (codes "n")) (tree.Leaf (token.Number (codes "1")))

-- BEGIN { while (n < 10) n = n + 1; print n }
abbrev counted_up : List Item
counted_up = (tree.Begin (tree.And (tree.While (tree.Bin (tree.Other (token.Compare token.Less)) (tree.Var (codes "n"))
    (tree.Leaf (token.Number (codes "10"))))
    (tree.Simple (tree.Eval (tree.Bin (tree.Other (token.Assign token.Set)) (tree.Var (codes "n")) n_plus_one))))
    (tree.And (tree.Simple (tree.Put tree.Print (tree.Listed (tree.Then (tree.Var (codes "n")) tree.NoTree)) tree.NoTarget)) tree.NoStmt))) ∷ []

-- a sum
pub sum_is_stored : script_stores (resolved counted_up) ≡ stored_in (Global 0) (Value n_plus_one) ∷ []
unfolding special_arrays special_scalars
sum_is_stored = refl

pub sum_is_a_number : TakesNumbers (resolved counted_up) (Global 0)
unfolding special_arrays special_scalars
sum_is_a_number = All-from_recursion (Says (Global 0)) (script_stores (resolved counted_up)) (λ e. refl, tt)

-- { n++; s += $1 }
abbrev counted_and_added : List Item
counted_and_added = (tree.Always (tree.And (tree.Simple (tree.Eval (tree.Post token.Increment (tree.Var (codes "n")))))
    (tree.And (tree.Simple (tree.Eval (tree.Bin (tree.Other (token.Assign (token.SetSum token.Plus))) (tree.Var (codes "s"))
    (tree.Field (tree.Leaf (token.Number (codes "1"))))))) tree.NoStmt))) ∷ []

-- results of steps and of arithmetic, whatever the operand is
pub results_are_stored : script_stores (resolved counted_and_added) ≡ stored_in (Global 0) Result ∷ (stored_in (Global 1) Result ∷ [])
unfolding special_arrays special_scalars
results_are_stored = refl

-- { s = $1; n = s; getline t; for (k in a) length(t) }
abbrev texts_of_all_kinds : List Item
texts_of_all_kinds = (tree.Always (tree.And (tree.Simple
    (tree.Eval (tree.Bin (tree.Other (token.Assign token.Set)) (tree.Var (codes "s")) (tree.Field (tree.Leaf (token.Number (codes "1")))))))
    (tree.And (tree.Simple (tree.Eval (tree.Bin (tree.Other (token.Assign token.Set)) (tree.Var (codes "n")) (tree.Var (codes "s")))))
    (tree.And (tree.Simple (tree.Eval (tree.GetInto (tree.Var (codes "t")))))
    (tree.And (tree.ForIn (codes "k") (codes "a")
    (tree.Simple (tree.Eval (tree.Apply builtin.Length (tree.Then (tree.Var (codes "t")) tree.NoTree))))) tree.NoStmt))))) ∷ []

-- what a field holds, a name's value, a record that was read and a key: none is surely a number
pub texts_are_stored : script_stores (resolved texts_of_all_kinds) ≡
    stored_in (Global 0) (Value (tree.Field (tree.Leaf (token.Number (codes "1")))))
    ∷ (stored_in (Global 1) (Copy (Global 0)) ∷ (stored_in (Global 2) Text ∷ (stored_in (Global 3) Text ∷ [])))
unfolding special_arrays special_scalars
texts_are_stored = refl

abbrev each_store : (items : List Item) (x : Scalar) → TakesNumbers (resolved items) x → Each (Says x) (script_stores (resolved items))
each_store items x h = recursion_from_All (Says x) (script_stores (resolved items)) h

pub field_is_no_number : TakesNumbers (resolved texts_of_all_kinds) (Global 0) → ⊥
unfolding special_arrays special_scalars
field_is_no_number h = not_so ((each_store texts_of_all_kinds (Global 0) h).0 refl)

pub name_is_no_number : TakesNumbers (resolved texts_of_all_kinds) (Global 1) → ⊥
unfolding special_arrays special_scalars
name_is_no_number h = not_so ((each_store texts_of_all_kinds (Global 1) h).1.0 refl)

pub record_is_no_number : TakesNumbers (resolved texts_of_all_kinds) (Global 2) → ⊥
unfolding special_arrays special_scalars
record_is_no_number h = not_so ((each_store texts_of_all_kinds (Global 2) h).1.1.0 refl)

pub key_is_no_number : TakesNumbers (resolved texts_of_all_kinds) (Global 3) → ⊥
unfolding special_arrays special_scalars
key_is_no_number h = not_so ((each_store texts_of_all_kinds (Global 3) h).1.1.1.0 refl)

abbrev gsub_into_s : Tree
gsub_into_s = tree.Apply builtin.Gsub (tree.Then (tree.Leaf (token.Ere (codes "/x*/"))) (tree.Then (tree.Leaf (token.Quoted (34 ∷ 45 ∷ 34
    ∷ []))) (tree.Then (tree.Var (codes "s")) tree.NoTree)))

-- BEGIN { s = "abxxc"; n = gsub(/x*/, "-", s); print n, s }: a text constant and the text that gsub makes are stored into s, and their count into n
pub replaced_text_is_stored : script_stores (resolved scripts.all_replaced) ≡
    stored_in (Global 0) (Value (tree.Leaf (token.Quoted (34 ∷ 97 ∷ 98 ∷ 120 ∷ 120 ∷ 99 ∷ 34 ∷ []))))
    ∷ (stored_in (Global 0) Text ∷ (stored_in (Global 1) (Value gsub_into_s) ∷ []))
unfolding special_arrays special_scalars
replaced_text_is_stored = refl

pub count_is_a_number : TakesNumbers (resolved scripts.all_replaced) (Global 1)
unfolding special_arrays special_scalars
count_is_a_number = All-from_recursion (Says (Global 1)) (script_stores (resolved scripts.all_replaced)) (λ e. absurd cc, (λ e. absurd cc, (λ e. refl, tt)))

pub text_is_no_number : TakesNumbers (resolved scripts.all_replaced) (Global 0) → ⊥
unfolding special_arrays special_scalars
text_is_no_number h = not_so ((each_store scripts.all_replaced (Global 0) h).0 refl)

-- function r(n) { return n ? r(n-1) : 7 } BEGIN { print "x"; print r(4) }: a difference and a constant are given for n
pub arguments_are_numbers : TakesNumbers (resolved scripts.calls_too_deep) (Parameter 0 0)
unfolding special_arrays special_scalars
arguments_are_numbers = All-from_recursion (Says (Parameter 0 0)) (script_stores (resolved scripts.calls_too_deep)) (λ e. refl, (λ e. refl, tt))

-- function f(a, n, own) { .. n = 9; .. } BEGIN { n = 12; print f(t, n), t["k"], n }: the constant 9 is stored into the parameter n, and a name's
-- value is given for it
pub copy_is_no_number : TakesNumbers (resolved scripts.arrays_by_reference) (Parameter 0 1) → ⊥
unfolding special_arrays special_scalars
copy_is_no_number h = not_so ((each_store scripts.arrays_by_reference (Parameter 0 1) h).1.1.1.0 refl)

pub constant_is_a_number : TakesNumbers (resolved scripts.arrays_by_reference) (Global 0)
unfolding special_arrays special_scalars
constant_is_a_number = All-from_recursion (Says (Global 0)) (script_stores (resolved scripts.arrays_by_reference)) (
  λ e. absurd cc,
  (λ e. refl, (λ e. absurd cc, (λ e. absurd cc, tt))),
)

-- BEGIN { n = (i); i = i + 1 }
abbrev copied_once : List Item
copied_once = (tree.Begin (tree.And (tree.Simple
    (tree.Eval (tree.Bin (tree.Other (token.Assign token.Set)) (tree.Var (codes "n")) (tree.Group (tree.Var (codes "i"))))))
    (tree.And (tree.Simple (tree.Eval (tree.Bin (tree.Other (token.Assign token.Set)) (tree.Var (codes "i"))
    (tree.Bin (tree.Add token.Plus) (tree.Var (codes "i")) (tree.Leaf (token.Number (codes "1"))))))) tree.NoStmt))) ∷ []

abbrev SaysCopies : List Item → Scalar → Store → Type 0
SaysCopies items x s = s.scalar ≡ x → (is_number s.stored ≡ true) ⊎ CopiesNumbers (resolved items) s.stored

pub sum_for_i : TakesNumbers (resolved copied_once) (Global 1)
unfolding special_arrays special_scalars
sum_for_i = All-from_recursion (Says (Global 1)) (script_stores (resolved copied_once)) (λ e. absurd cc, (λ e. refl, tt))

pub copy_for_n : TakesCopies (resolved copied_once) (Global 0)
unfolding special_arrays special_scalars
copy_for_n = All-from_recursion (SaysCopies copied_once (Global 0)) (script_stores (resolved copied_once)) (λ e. inr ((codes "i", refl), sum_for_i), (λ e. absurd cc, tt))

-- { s = $1; n = s; .. }: a copy of a text
pub copy_of_text_counts_not : TakesCopies (resolved texts_of_all_kinds) (Global 1) → ⊥
unfolding special_arrays special_scalars
copy_of_text_counts_not h = neither ((recursion_from_All (SaysCopies texts_of_all_kinds (Global 1)) (script_stores (resolved texts_of_all_kinds)) h).1.0 refl)
  where
    neither : (false ≡ true) ⊎ CopiesNumbers (resolved texts_of_all_kinds) (Copy (Global 0)) → ⊥
    neither (inl e) = not_so e
    neither (inr c) = field_is_no_number c.1
