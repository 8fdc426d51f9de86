-- What is left out, and the new numbers of what stays.
use Rattle.std.proofs.Common.{◌≡◌, ℕ, zero, suc, ◌+◌, Bool, true, false, List, [], ◌∷◌, ◌++◌, length, Some, refl, sym, ap, ◌∙◌, arith, append-nil}
use Rattle.std.specs.List.{All}
use Rattle.std.specs.Prelude.{◌&&◌, nat_eq, slice_get, get_or, map}
use Rattle.std.proofs.lemmas.Bool.{and_parts, eqb-true}
use Rattle.std.proofs.lemmas.List.Elements.{All-cons, All-nil}
use Rattle.sem_primitives.specs.declared.table.Primitive.TheVariants as row
use Rattle.mid_program.specs.Mid.{Program}
use Rattle.lower_model.specs.Emission.{function_number}
use Rattle.host_imports.specs.Imports.{imports, import_at}
use Rattle.host_imports.specs.Names.{import_number}
use Rattle.lower_model.specs.Machine.{Callee}
use Rattle.lower_model.specs.Modules.{all_callees, any_calls, called_from, called_imports, imports_of, chosen, new_number}
use Rattle.host_imports.specs.declared.import.Import.{Import}
use Rattle.host_imports.specs.declared.import.Import.TheVariants.{OfPrimitive, Variadic}
use Rattle.host_imports.specs.declared.import.VariadicImport.TheVariants.{Sprintf}

-- what is chosen, and all that comes after, has its new number
chosen_there : {A : Type 0} → (bs : List Bool) (xs ys : List A) (n : ℕ) → length bs ≡ length xs → get_or bs n true ≡ true →
    slice_get (chosen bs xs ++ ys) (new_number bs n) ≡ slice_get (xs ++ ys) n
chosen_there [] [] ys n e h = refl
chosen_there [] (x ∷ xs) ys n e h = absurd (omega (arith, e))
chosen_there (b ∷ bs) [] ys n e h = absurd (omega (arith, e))
chosen_there (true ∷ bs) (x ∷ xs) ys zero e h = refl
chosen_there (true ∷ bs) (x ∷ xs) ys (suc n) e h = chosen_there bs xs ys n (omega (arith, e)) h
chosen_there (false ∷ bs) (x ∷ xs) ys zero e h = cc
chosen_there (false ∷ bs) (x ∷ xs) ys (suc n) e h = chosen_there bs xs ys n (omega (arith, e)) h

-- what comes after moves down to the end of what is chosen
new_behind : {A : Type 0} → (bs : List Bool) (xs : List A) (n m : ℕ) → length bs ≡ length xs → length bs + n ≡ m →
    new_number bs m ≡ length (chosen bs xs) + n
new_behind [] xs n m l e = omega (arith, e)
new_behind (b ∷ bs) [] n m l e = absurd (omega (arith, l))
new_behind (b ∷ bs) (x ∷ xs) n zero l e = absurd (omega (arith, e))
new_behind (true ∷ bs) (x ∷ xs) n (suc m) l e = let h = new_behind bs xs n m (omega (arith, l)) (omega (arith, e)) in omega (arith, h)
new_behind (false ∷ bs) (x ∷ xs) n (suc m) l e = new_behind bs xs n m (omega (arith, l)) (omega (arith, e))

pub chosen_map : {A B : Type 0} → (f : A → B) (bs : List Bool) (xs : List A) → map f (chosen bs xs) ≡ chosen bs (map f xs)
chosen_map f [] xs = refl
chosen_map f (true ∷ bs) [] = refl
chosen_map f (false ∷ bs) [] = refl
chosen_map f (true ∷ bs) (x ∷ xs) = ap (λ l. f x ∷ l) (chosen_map f bs xs)
chosen_map f (false ∷ bs) (x ∷ xs) = chosen_map f bs xs

called_length : (a : ℕ) (is : List Import) (fs : List Callee) → length (called_from a is fs) ≡ length is
called_length a [] fs = refl
called_length a (i ∷ is) fs = ap suc (called_length (suc a) is fs)

-- an import that is called is not left out
called_at : (a : ℕ) (is : List Import) (fs : List Callee) (n j : ℕ) → a + n ≡ j → any_calls j fs ≡ true → get_or (called_from a is fs) n true ≡ true
called_at a [] fs n j e h = refl
called_at a (i ∷ is) fs zero j e h = let e1 : a ≡ j = omega (arith, e) in ap (λ x. any_calls x fs) e1 ∙ h
called_at a (i ∷ is) fs (suc n) j e h = called_at (suc a) is fs n j (omega (arith, e)) h

-- imports stand in the order of their numbers
abbrev are_numbered : ℕ → List Import → Bool
are_numbered a [] = true
are_numbered a (i ∷ is) = nat_eq (import_number i) a && are_numbered (suc a) is

abbrev AreCalled : List Callee → List Import → Type 0
AreCalled fs is = All (λ i. any_calls (import_number i) fs ≡ true) is

one_called : (fs : List Callee) (i : Import) (b : Bool) (bs : List Bool) (is : List Import) → any_calls (import_number i) fs ≡ b →
    AreCalled fs (chosen bs is) → AreCalled fs (chosen (b ∷ bs) (i ∷ is))
one_called fs i true bs is e r = All-cons (λ i. any_calls (import_number i) fs ≡ true) i (chosen bs is) e r
one_called fs i false bs is e r = r

-- one that is not called is left out
all_called : (a : ℕ) (is : List Import) (fs : List Callee) → are_numbered a is ≡ true → AreCalled fs (chosen (called_from a is fs) is)
all_called a [] fs h = All-nil _
all_called a (i ∷ is) fs h =
    let s = and_parts (nat_eq (import_number i) a) (are_numbered (suc a) is) h in
    one_called fs i (any_calls a fs) (called_from (suc a) is fs) is (ap (λ n. any_calls n fs) (eqb-true (import_number i) a s.0))
    (all_called (suc a) is fs s.1)

import_there : (i : Import) → import_at (import_number i) ≡ Some i
import_there (OfPrimitive row.Num) = refl
import_there (OfPrimitive q) = refl
import_there (Variadic Sprintf) = refl
import_there (Variadic l) = refl
import_there i = refl

module _ (p : Program) where
  -- after the imports of the table, whatever comes there
  pub renumbered_there : {A : Type 0} → (xs ys : List A) (n : ℕ) → length imports ≡ length xs → any_calls n (all_callees p) ≡ true →
      slice_get (chosen (called_imports p) xs ++ ys) (new_number (called_imports p) n) ≡ slice_get (xs ++ ys) n
  renumbered_there xs ys n e h =
      let l = called_length 0 imports (all_callees p) in
      chosen_there (called_imports p) xs ys n (omega (arith, e, l)) (called_at 0 imports (all_callees p) n n (omega arith) h)

  pub import_stays : (i : Import) → any_calls (import_number i) (all_callees p) ≡ true →
      slice_get (imports_of p) (new_number (called_imports p) (import_number i)) ≡ Some i
  import_stays i h =
      ap (λ l. slice_get l (new_number (called_imports p) (import_number i))) (sym (append-nil (imports_of p)))
      ∙ (renumbered_there imports [] (import_number i) refl h ∙ import_there i)

  pub others_left_out : AreCalled (all_callees p) (imports_of p)
  others_left_out = all_called 0 imports (all_callees p) refl

  pub functions_behind : (f : ℕ) → new_number (called_imports p) (function_number f) ≡ length (imports_of p) + f
  functions_behind f =
      let l = called_length 0 imports (all_callees p) in
      new_behind (called_imports p) imports f (function_number f) l (omega (arith, l))
