-- The names of a script, as the code keeps them.
use Rattle.std.proofs.Common.{◌≡◌, ℕ, zero, suc, drop, drop-cons, add-one, sym, ◌+◌, ◌<◌, ◌≤◌, length, get_or, Bool, true, false, not, List, [], ◌∷◌, Option, Some, None, refl, ap, ◌∙◌, cond, if◌then◌else◌, arith}
use Rattle.std.specs.Borrow.{Bor}
use Rattle.std.specs.Cmp.Lexicographic.{nat_list_eq_equiv}
use Rattle.std.specs.Int.{from_bool}
use Rattle.std.specs.Global.{Vec}
use Rattle.std.specs.List.{position_or_len}
use Rattle.std.proofs.lemmas.Map.Text.{hash_map_updates_str}
use Rattle.indexmap.specs.IndexMap.{IndexMap, Updates}
use Rattle.awk_grammar.specs.Trees.{Stmts}
use Rattle.awk_grammar.specs.Kinds.{Function as Typed}
use Rattle.awk_resolve.specs.ViewFunctions.{view_functions}
use Rattle.awk_resolve.specs.ViewKinds.{view_name_kinds}
use Rattle.awk_resolve.specs.declared.function_names.NameKind.{NameKind}
use Rattle.awk_resolve.specs.declared.function_names.FunctionNames.{FunctionNames}
use Rattle.sem_scripts.specs.Kinds.{with_bodies}
use Rattle.sem_scripts.specs.Names.{Name, same_name, next_place, or_past, names_length, functions_length, function_in, function_at, place_in, arrays_before, kind_at}
use Rattle.mid_program.specs.Texts.{text_place}
use Rattle.mid_program.specs.View.{view_texts}
use Rattle.mid_code.specs.ViewNames.{array_numbers, function_from, place_found, place_from, place_of_function}

-- a place among the names from the i-th on
from : ℕ → Option ℕ → Option ℕ
from i (Some j) = Some (i + j)
from i None = None

place_from_any : (n : ℕ) (ns : List Name) (x : List ℕ) → place_from n ns x ≡ from n (place_in ns x)
unfolding from
place_from_any n [] x = refl
place_from_any n (m ∷ ms) x = by (same_name m.name x) (place_in ms x) (place_from_any (n + 1) ms x)
  where
    by : (b : Bool) (o : Option ℕ) → place_from (n + 1) ms x ≡ from (n + 1) o → (if b then Some n else place_from (n + 1) ms x) ≡ from n (if b then Some 0 else next_place o)
    by true o h = ap Some (omega arith)
    by false (Some j) h = h ∙ ap Some (omega arith)
    by false None h = h

from_zero : (o : Option ℕ) → from 0 o ≡ o
unfolding from
from_zero (Some j) = ap Some (omega arith)
from_zero None = refl

pub place_from_is : (ns : List Name) (x : List ℕ) → place_from 0 ns x ≡ place_in ns x
place_from_is ns x = place_from_any 0 ns x ∙ from_zero (place_in ns x)

function_from_any : (n : ℕ) (fs : List Typed) (x : List ℕ) → function_from n fs x ≡ from n (place_of_function fs x)
unfolding from
function_from_any n [] x = refl
function_from_any n (m ∷ ms) x = by (same_name m.name x) (place_of_function ms x) (function_from_any (n + 1) ms x)
  where
    by : (b : Bool) (o : Option ℕ) → function_from (n + 1) ms x ≡ from (n + 1) o → (if b then Some n else function_from (n + 1) ms x) ≡ from n (if b then Some 0 else next_place o)
    by true o h = ap Some (omega arith)
    by false (Some j) h = h ∙ ap Some (omega arith)
    by false None h = h

pub function_from_is : (fs : List Typed) (x : List ℕ) → function_from 0 fs x ≡ place_of_function fs x
function_from_is fs x = function_from_any 0 fs x ∙ from_zero (place_of_function fs x)

pub drop_any : {A : Type 0} (xs : List A) (i : ℕ) (d : A) → i < length xs → drop i xs ≡ get_or xs i d ∷ drop (i + 1) xs
drop_any xs i d lt = drop-cons xs i d lt ∙ ap (λ (u : ℕ). get_or xs i d ∷ drop u xs) (sym (add-one i))

abbrev same_key : Bor (List ℕ) → Bor (List ℕ) → Bool
same_key x y = same_name x.now y.now

-- a name that is put into a table before those that stand after it
pub put_global : {S : Type 0} (m n : IndexMap (Bor (List ℕ)) ℕ S) (k : Bor (List ℕ)) (p : ℕ) → Updates same_key m n k (Some p) →
    (ns : List NameKind) (d : NameKind) → p < length ns → k ≡ (get_or ns p d).name →
    ((x : List ℕ) → place_found m.entries x ≡ place_from (p + 1) (view_name_kinds (drop (p + 1) ns)) x) →
    (x : List ℕ) → place_found n.entries x ≡ place_from p (view_name_kinds (drop p ns)) x
put_global m n k p u ns d lt is found x =
    hash_map_updates_str k.now m n (Some p) u x
    ∙ ap (cond (same_name k.now x) (Some p)) (found x)
    ∙ ap (λ (y : Bor (List ℕ)). cond (same_name y.now x) (Some p) (place_from (p + 1) (view_name_kinds (drop (p + 1) ns)) x)) is
    ∙ sym (ap (λ (ms : List NameKind). place_from p (view_name_kinds ms) x) (drop_any ns p d lt))

pub put_function : {S : Type 0} (m n : IndexMap (Bor (List ℕ)) ℕ S) (k : Bor (List ℕ)) (p : ℕ) → Updates same_key m n k (Some p) →
    (fs : List FunctionNames) (d : FunctionNames) → p < length fs → k ≡ (get_or fs p d).name →
    ((x : List ℕ) → place_found m.entries x ≡ function_from (p + 1) (view_functions (drop (p + 1) fs)) x) →
    (x : List ℕ) → place_found n.entries x ≡ function_from p (view_functions (drop p fs)) x
put_function m n k p u fs d lt is found x =
    hash_map_updates_str k.now m n (Some p) u x
    ∙ ap (cond (same_name k.now x) (Some p)) (found x)
    ∙ ap (λ (y : Bor (List ℕ)). cond (same_name y.now x) (Some p) (function_from (p + 1) (view_functions (drop (p + 1) fs)) x)) is
    ∙ sym (ap (λ (ms : List FunctionNames). function_from p (view_functions ms) x) (drop_any fs p d lt))

pub length_kinds : (ns : List NameKind) → names_length (view_name_kinds ns) ≡ length ns
length_kinds [] = refl
length_kinds (n ∷ ns) = omega (arith, length_kinds ns)

-- names and functions by their places

pub kind_is : (ns : List NameKind) (i : ℕ) (d : NameKind) → i < length ns → (get_or ns i d).is_array ≡ kind_at (view_name_kinds ns) i
kind_is [] i d lt = absurd (omega arith)
kind_is (n ∷ ns) zero d lt = refl
kind_is (n ∷ ns) (suc i) d lt = kind_is ns i d (omega arith)

pub kind_past : (ns : List NameKind) (i : ℕ) → length ns ≤ i → false ≡ kind_at (view_name_kinds ns) i
kind_past [] i le = refl
kind_past (n ∷ ns) zero le = absurd (omega arith)
kind_past (n ∷ ns) (suc i) le = kind_past ns i (omega arith)

pub function_in_bodies : (fs : List Typed) (bs : List Stmts) (x : List ℕ) → function_in (with_bodies fs bs) x ≡ place_of_function fs x
function_in_bodies [] bs x = refl
function_in_bodies (f ∷ fs) [] x = ap (λ (o : Option ℕ). if same_name f.name x then Some 0 else next_place o) (function_in_bodies fs [] x)
function_in_bodies (f ∷ fs) (b ∷ bs) x = ap (λ (o : Option ℕ). if same_name f.name x then Some 0 else next_place o) (function_in_bodies fs bs x)

pub functions_length_bodies : (fs : List FunctionNames) (bs : List Stmts) → functions_length (with_bodies (view_functions fs) bs) ≡ length fs
functions_length_bodies [] bs = refl
functions_length_bodies (f ∷ fs) [] = omega (arith, functions_length_bodies fs [])
functions_length_bodies (f ∷ fs) (b ∷ bs) = omega (arith, functions_length_bodies fs bs)

pub parameters_is : (fs : List FunctionNames) (bs : List Stmts) (i : ℕ) (d : FunctionNames) → i < length fs → view_name_kinds (get_or fs i d).parameters.items ≡ (function_at (with_bodies (view_functions fs) bs) i).parameters
parameters_is [] bs i d lt = absurd (omega arith)
parameters_is (f ∷ fs) [] zero d lt = refl
parameters_is (f ∷ fs) (b ∷ bs) zero d lt = refl
parameters_is (f ∷ fs) [] (suc i) d lt = parameters_is fs [] i d (omega arith)
parameters_is (f ∷ fs) (b ∷ bs) (suc i) d lt = parameters_is fs bs i d (omega arith)

pub parameters_past : (fs : List FunctionNames) (bs : List Stmts) (i : ℕ) → length fs ≤ i → [] ≡ (function_at (with_bodies (view_functions fs) bs) i).parameters
parameters_past [] bs i le = refl
parameters_past (f ∷ fs) [] zero le = absurd (omega arith)
parameters_past (f ∷ fs) (b ∷ bs) zero le = absurd (omega arith)
parameters_past (f ∷ fs) [] (suc i) le = parameters_past fs [] i (omega arith)
parameters_past (f ∷ fs) (b ∷ bs) (suc i) le = parameters_past fs bs i (omega arith)

-- The numbers of arrays.

pub numbers_length : (n : ℕ) (ns : List Name) → length (array_numbers n ns) ≡ names_length ns + 1
numbers_length n [] = refl
numbers_length n (x ∷ xs) = omega (arith, numbers_length (if x.is_array then suc n else n) xs)

number_here : (b : Bool) (n a : ℕ) → (if b then suc n else n) + a ≡ n + (if b then suc a else a)
number_here true n a = omega arith
number_here false n a = refl

step_past : (b c : Bool) (n a k d : ℕ) (o : Option ℕ) (numbers : List ℕ) → get_or numbers (or_past k o) d ≡ (if c then suc n else n) + a →
    get_or (n ∷ numbers) (or_past (suc k) (if b then Some 0 else next_place o)) d ≡ n + (if b then 0 else if c then suc a else a)
step_past true c n a k d o numbers h = omega arith
step_past false c n a k d (Some i) numbers h = h ∙ number_here c n a
step_past false c n a k d None numbers h = h ∙ number_here c n a

pub number_of_array : (n : ℕ) (ns : List Name) (x : List ℕ) (d : ℕ) → get_or (array_numbers n ns) (or_past (names_length ns) (place_in ns x)) d ≡ n + arrays_before ns x
number_of_array n [] x d = omega arith
number_of_array n (m ∷ ms) x d =
    step_past (same_name m.name x) m.is_array n (arrays_before ms x) (names_length ms) d (place_in ms x) (array_numbers (if m.is_array then suc n else n) ms)
    (number_of_array (if m.is_array then suc n else n) ms x d)

pub place_within : (ns : List Name) (x : List ℕ) → or_past (names_length ns) (place_in ns x) ≤ names_length ns
place_within [] x = omega arith
place_within (n ∷ ns) x = by (same_name n.name x) (place_in ns x) (place_within ns x)
  where
    by : (b : Bool) (o : Option ℕ) → or_past (names_length ns) o ≤ names_length ns → or_past (suc (names_length ns)) (if b then Some 0 else next_place o) ≤ suc (names_length ns)
    by true o h = omega arith
    by false (Some i) h = omega arith
    by false None h = omega arith

-- Texts by their places.

step_text : (b c : Bool) (n m : ℕ) → b ≡ c → n ≡ m → cond (not b) (1 + n) 0 ≡ (if c then 0 else suc m)
step_text b true n m e f = ap (λ (x : Bool). cond (not x) (1 + n) 0) e
step_text b false n m e f = ap (λ (x : Bool). cond (not x) (1 + n) 0) e ∙ omega (arith, f)

pub text_place_is : (ks : List (Vec ℕ)) (t : List ℕ) → position_or_len (λ k. same_name t k.items) ks ≡ text_place (view_texts ks) t
text_place_is [] t = refl
text_place_is (k ∷ ks) t =
    step_text (same_name t k.items) (same_name k.items t) (position_or_len (λ k. same_name t k.items) ks) (text_place (view_texts ks) t)
    (nat_list_eq_equiv.symm t k.items) (text_place_is ks t)

step_within : (b : Bool) (n m : ℕ) → n ≤ m → cond b (1 + n) 0 ≤ suc m
step_within true n m h = omega arith
step_within false n m h = omega arith

pub position_within : {A : Type 0} (f : A → Bool) (xs : List A) → position_or_len f xs ≤ length xs
position_within f [] = omega arith
position_within f (x ∷ xs) = step_within (not (f x)) (position_or_len f xs) (length xs) (position_within f xs)

pub some_place : (b : Bool) (p n : ℕ) → cond b (Some p) None ≡ Some n → p ≡ n
some_place true p n h = cc
some_place false p n h = absurd (cc)

pub none_place : (b : Bool) (p : ℕ) → cond b (Some p) None ≡ None → b ≡ false
none_place true p h = absurd (cc)
none_place false p h = refl

-- the number that the next array would have
pub next_number : (n : ℕ) (b : Bool) (m : ℕ) → m ≡ from_bool b → n + m ≡ (if b then suc n else n)
next_number n true m e = omega (arith, e)
next_number n false m e = omega (arith, e)

pub next_within : (b : Bool) (m : ℕ) → m ≡ from_bool b → m ≤ 1
next_within true m e = omega (arith, e)
next_within false m e = omega (arith, e)
