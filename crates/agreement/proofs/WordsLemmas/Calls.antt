-- A call of an import that is not given ARGV's number, where a row would change it, leaves ARGV's elements as they are; and its answer is as its tag says.
use Rattle.std.proofs.Common.{◌≡◌, ℕ, zero, suc, ◌≤◌, Bool, true, false, not, ◌&&◌, ◌++◌, cond, nat_eq, nat_le, nat_lt, List, [], ◌∷◌, length, take, drop, reverse, slice_get, Option, Some, None, Result, Ok, Err, refl, sym, ap, ◌∙◌, subst, arith}
use Rattle.std.specs.Prelude.{slice_set}
use Rattle.std.proofs.lemmas.Bool.{eqb-true}
use Rattle.awk_values.specs.declared.fault.Fault.{Fault}
use Rattle.awk_values.specs.declared.value.Value.{Value}
use Rattle.sem_primitives.specs.InTurn.{in_turn, listed_in_turn, values_taken}
use Rattle.sem_primitives.specs.SharedState.{Inner, Pairs}
use Rattle.sem_primitives.specs.Sorts.{InAnswer, Row}
use Rattle.sem_primitives.specs.Table.{can_fault, meaning}
use Rattle.sem_primitives.specs.declared.sorts.Answer.{Answer}
use Rattle.sem_primitives.specs.declared.sorts.Answer.TheVariants as answer
use Rattle.sem_primitives.specs.declared.sorts.Argument.{Argument}
use Rattle.sem_primitives.specs.declared.sorts.Argument.TheVariants as argument
use Rattle.sem_primitives.specs.declared.sorts.Constant.TheVariants as constant
use Rattle.sem_primitives.specs.declared.sorts.Sort.TheVariants as sort
use Rattle.sem_primitives.specs.declared.table.Listed.{Listed}
use Rattle.sem_primitives.specs.declared.table.Listed.TheVariants as listed
use Rattle.sem_primitives.specs.declared.table.Primitive.TheVariants as row
use Rattle.wasm_store.specs.declared.word.Word.TheVariants.{I32, I64}
use Rattle.lower_model.specs.Cells.{Cell, Bits, Held, IteratorOf, OwnedArray, LentArray, Gone, none_owned}
use Rattle.lower_model.specs.ImportCalls.{Acts, Host, acted, and_rest, acts, after_fault, call, cell_of, fault_cell, in_sort, last_of, listed_acts, look, looked_at, primitive_acts, replied, row_in, taken, where_so, with_some}
use Rattle.host_imports.specs.Imports.{import_answer, import_arguments, lets_go}
use Rattle.lower_model.specs.Machine.{onto, width}
use Rattle.host_imports.specs.declared.import.Import.{Import}
use Rattle.host_imports.specs.declared.import.Import.TheVariants.{Arg, Drop, FreeArray, IterFree, OfPrimitive, Variadic}
use Rattle.host_imports.specs.declared.import.VariadicImport.TheVariants.{Print, Printf, Sprintf}
use Rattle.agreement.specs.Refined.Growing.{NewIn}
use Rattle.agreement.specs.Refined.Words.{arrays_made}
use Rattle.agreement.proofs.RefinedLemmas.ArrayRows.{SparedIf, array_changed, listed_kept, row_kept}
use Rattle.agreement.proofs.RefinedLemmas.Growing.{arrays_grow}
use Rattle.agreement.proofs.WordsLemmas.Tags.{Tags, answered, is_other, popped, spares}

-- the tags say of a stack what they say
abbrev pub Matches : Tags → List Cell → Type 0
Matches [] vs = Unit {0}
Matches (a ∷ A) [] = ⊥
Matches (a ∷ A) (c ∷ vs) = (a ≡ true → is_other c ≡ true) × Matches A vs

pub popped_match : (A : Tags) (c : Cell) (vs : List Cell) → Matches A (c ∷ vs) → Matches (popped A) vs
popped_match [] c vs m = tt
popped_match (a ∷ A) c vs m = m.1

pub drop_match : (n : ℕ) (A : Tags) (vs : List Cell) → Matches A vs → Matches (drop n A) (drop n vs)
drop_match zero A vs m = m
drop_match (suc n) [] vs m = tt
drop_match (suc n) (a ∷ A) [] m = absurd m
drop_match (suc n) (a ∷ A) (c ∷ vs) m = drop_match n A vs m.1

abbrev pub IfRow : {A : Type 0} → (A → Type 0) → Option A → Type 0
IfRow Q None = Unit {0}
IfRow Q (Some r) = Q r

-- ARGV has these elements.
module _ (argv : Pairs) where
  abbrev pub HasArgv : List Pairs → Type 0
  HasArgv arrays = slice_get arrays 0 ≡ Some argv

  abbrev pub InHost : Host → Type 0
  InHost h = HasArgv h.shared.inner.arrays

  one_more : (arrays : List Pairs) → HasArgv arrays → HasArgv (arrays ++ [] ∷ [])
  one_more [] e = cc
  one_more (a ∷ rest) e = e

  other_set : (arrays : List Pairs) (a : ℕ) (ps : Pairs) → nat_eq a 0 ≡ false → HasArgv arrays → HasArgv (slice_set arrays a ps)
  other_set [] a ps n e = cc
  other_set (q ∷ rest) zero ps n e = cc
  other_set (q ∷ rest) (suc a) ps n e = e

  -- a row is given no array that it would change, or another one
  abbrev IsOther : Option ℕ → Type 0
  IsOther None = Unit {0}
  IsOther (Some a) = nat_eq a 0 ≡ false

  spared : (o : Option ℕ) (i : Inner) → IsOther o → HasArgv i.arrays → SparedIf HasArgv o i
  spared None i h e = tt
  spared (Some a) i h e = λ ps. other_set i.arrays a ps h e

  abbrev pub GivenOther : (i : Import) → Row (import_arguments i) → Type 0
  GivenOther (OfPrimitive p) r = IsOther (array_changed p r)
  GivenOther i r = Unit {0}

  -- What a call leaves, as in `Words` of agreement::places.

  module _ (h : Host) (e : InHost h) where
    abbrev ActsKept : {A : Type 0} → Option (Acts A) → Type 0
    ActsKept None = Unit {0}
    ActsKept (Some d) = HasArgv d.does.inner.arrays

    where_kept : {A : Type 0} → (b : Bool) (d : Acts A) → HasArgv d.does.inner.arrays → ActsKept (where_so b (Some d))
    where_kept true d a = a
    where_kept false d a = tt

    listed_acts_kept : (l : Listed) (n : ℕ) → ActsKept (listed_acts l n h)
    listed_acts_kept l n = where_kept (nat_le n (length h.arguments) && listed_in_turn l (last_of n h.arguments)) _ (listed_kept HasArgv l (last_of n h.arguments) h.shared e)

    acts_kept : (i : Import) (r : Row (import_arguments i)) → GivenOther i r → ActsKept (acts i r h)
    acts_kept (OfPrimitive p) r g = where_kept (in_turn p r h.shared) (primitive_acts h.arguments (can_fault p) (meaning p r h.shared)) (row_kept HasArgv p r h.shared (λ q. one_more) (spared (array_changed p r) h.shared.inner g e) e)
    acts_kept (Variadic Sprintf) r g = listed_acts_kept listed.Sprintf (values_taken listed.Sprintf r.0)
    acts_kept (Variadic Print) r g = listed_acts_kept (listed.Print r.1.0) (values_taken (listed.Print r.1.0) r.0)
    acts_kept (Variadic Printf) r g = listed_acts_kept (listed.Printf r.1.0) (values_taken (listed.Printf r.1.0) r.0)
    acts_kept Arg r g = e
    acts_kept Drop r g = e
    acts_kept IterFree r g = e
    acts_kept FreeArray r g = e

    -- an array that is answered is a new one
    abbrev IsNew : (a : Answer) → InAnswer a → Type 0
    IsNew (answer.Of sort.Array) x = nat_eq x 0 ≡ false
    IsNew a x = Unit {0}

    abbrev NewIf : (a : Answer) → Result (InAnswer a) Fault → Type 0
    NewIf a (Ok x) = IsNew a x
    NewIf a (Err f) = Unit {0}

    not_first : (arrays : List Pairs) (x : ℕ) → HasArgv arrays → length arrays ≤ x → nat_eq x 0 ≡ false
    not_first [] x q l = cc
    not_first (p ∷ rest) x q l = by (nat_eq x 0) refl
      where
        by : (t : Bool) → nat_eq x 0 ≡ t → t ≡ false
        by false e = refl
        by true e = let z = eqb-true x 0 e in absurd (omega (arith, l, z))

    new_by : (made : ℕ) (a : Answer) (x : Result (InAnswer a) Fault) → NewIn (arrays_made h) made a x → NewIf a x
    new_by made (answer.Of sort.Array) (Ok x) n = not_first h.shared.inner.arrays x e n.0
    new_by made a (Err f) n = tt
    new_by made a (Ok x) n = tt

    -- The answer's cell.

    cell_fits : (a : Answer) (x : InAnswer a) (A : Tags) (vs : List Cell) → IsNew a x → Matches A vs → Matches (answered a A) (onto (cell_of a x) vs)
    cell_fits answer.Nothing x A vs n m = m
    cell_fits (answer.Of sort.Value) x A vs n m = (λ q. refl, m)
    cell_fits (answer.Of sort.Number) x A vs n m = (λ q. refl, m)
    cell_fits (answer.Of sort.Array) x A vs n m = (λ q. ap not n, m)
    cell_fits (answer.Of sort.Iterator) x A vs n m = (λ q. refl, m)
    cell_fits answer.ValueOrEnd None A vs n m = (λ q. refl, m)
    cell_fits answer.ValueOrEnd (Some v) A vs n m = (λ q. refl, m)
    cell_fits answer.Truth x A vs n m = (λ q. cc, m)
    cell_fits answer.Done x A vs n m = (λ q. cc, m)
    cell_fits answer.Input x A vs n m = (λ q. cc, m)
    cell_fits answer.Assign x A vs n m = (λ q. cc, m)
    cell_fits answer.Stream x A vs n m = (λ q. cc, m)
    cell_fits answer.Name x A vs n m = (λ q. cc, m)

    fault_fits : (a : Answer) (A : Tags) (vs : List Cell) → Matches A vs → Matches (answered a A) (onto (fault_cell a) vs)
    fault_fits answer.Nothing A vs m = m
    fault_fits (answer.Of sort.Value) A vs m = (λ q. refl, m)
    fault_fits (answer.Of sort.Number) A vs m = (λ q. refl, m)
    fault_fits (answer.Of sort.Array) A vs m = (λ q. refl, m)
    fault_fits (answer.Of sort.Iterator) A vs m = (λ q. refl, m)
    fault_fits answer.ValueOrEnd A vs m = (λ q. refl, m)
    fault_fits answer.Truth A vs m = (λ q. refl, m)
    fault_fits answer.Done A vs m = (λ q. refl, m)
    fault_fits answer.Input A vs m = (λ q. refl, m)
    fault_fits answer.Assign A vs m = (λ q. refl, m)
    fault_fits answer.Stream A vs m = (λ q. refl, m)
    fault_fits answer.Name A vs m = (λ q. refl, m)

    -- what comes of a call, over a stack below
    module _ (A : Tags) (vs : List Cell) (m : Matches A vs) where
      pub record Fits (i : Import) (o : Option Cell) (g : Host) : Type 0 where
        pub kept : InHost g
        pub stack : Matches (answered (import_answer i) A) (onto o vs)

      abbrev FitsIf : Import → Option (Option Cell × Host) → Type 0
      FitsIf i None = Unit {0}
      FitsIf i (Some x) = Fits i x.0 x.1

      replied_fits : (i : Import) (d : Acts (InAnswer (import_answer i))) (x : Result (InAnswer (import_answer i)) Fault) → HasArgv d.does.inner.arrays → NewIf (import_answer i) x → FitsIf i (Some (replied (import_answer i) h d x))
      replied_fits i d (Ok x) q n = record { kept = q; stack = cell_fits (import_answer i) x A vs n m }
      replied_fits i d (Err f) q n = record { kept = q; stack = fault_fits (import_answer i) A vs m }

      abbrev GivenIf : (i : Import) → Option (Row (import_arguments i)) → Type 0
      GivenIf i o = IfRow (GivenOther i) o

      acted_fits : (i : Import) (given : Option (Row (import_arguments i))) → GivenIf i given → FitsIf i (acted i h given)
      acted_fits i None g = tt
      acted_fits i (Some r) g = by (acts i r h) refl (acts_kept i r g)
        where
          by : (o : Option (Acts (InAnswer (import_answer i)))) → acts i r h ≡ o → ActsKept o → FitsIf i (with_some o (λ d. Some (replied (import_answer i) h d d.does.answer)))
          by None q k = tt
          by (Some d) q k = replied_fits i d d.does.answer k (new_by (length d.does.inner.arrays) (import_answer i) d.does.answer (arrays_grow i r h d q).fresh)

      fault_kept_fits : (memory : List ℕ) (i : Import) (cs : List Cell) → GivenIf i (taken memory i cs) → FitsIf i (after_fault memory i cs h)
      fault_kept_fits memory i cs g = by (lets_go i) (none_owned cs)
        where
          by : (b c : Bool) → FitsIf i (cond b (acted i h (taken memory i cs)) (where_so c (Some (fault_cell (import_answer i), h))))
          by true c = acted_fits i (taken memory i cs) g
          by false true = record { kept = e; stack = fault_fits (import_answer i) A vs m }
          by false false = tt

      given_fits : (i : Import) (o : Option (Option Cell × Host)) (a : Option Cell × Host) → o ≡ Some a → FitsIf i o → Fits i a.0 a.1
      given_fits i o a q f = subst (FitsIf i) q f

      pub call_fits : (memory : List ℕ) (i : Import) (cs : List Cell) (a : Option Cell × Host) → GivenIf i (taken memory i cs) → call memory i cs h ≡ Some a → Fits i a.0 a.1
      call_fits memory i cs a g q = given_fits i (call memory i cs h) a q (by h.fault)
        where
          by : (f : Option Fault) → FitsIf i (elim f [ None ↦ acted i h (taken memory i cs) | Some x ↦ after_fault memory i cs h ])
          by None = acted_fits i (taken memory i cs) g
          by (Some x) = fault_kept_fits memory i cs g

      looked_given : (i : Import) (c : Cell) → GivenIf i (looked_at i c)
      looked_given (OfPrimitive row.Dup) (Held v) = tt
      looked_given (OfPrimitive row.IterNext) (IteratorOf t) = tt
      looked_given i c = tt

      pub look_fits : (i : Import) (c : Cell) (a : Option Cell × Host) → look i c h ≡ Some a → Fits i a.0 a.1
      look_fits i c a q = given_fits i (look i c h) a q (by h.fault)
        where
          by : (f : Option Fault) → FitsIf i (elim f [ None ↦ acted i h (looked_at i c) | Some x ↦ None ])
          by None = acted_fits i (looked_at i c) (looked_given i c)
          by (Some x) = tt

-- Arguments: the array that a row would change is the cell that the tags say.

in_array : (c : Cell) (a : ℕ) → in_sort sort.Array c ≡ Some a → is_other c ≡ true → nat_eq a 0 ≡ false
in_array (LentArray b) a e o = by (nat_eq a 0) refl
  where
    number_in : Option ℕ → ℕ
    number_in None = zero
    number_in (Some n) = n

    same : b ≡ a
    same = ap number_in e

    by : (z : Bool) → nat_eq a 0 ≡ z → z ≡ false
    by false q = refl
    by true q = let w : not (nat_eq a 0) ≡ true = sym (ap (λ n. not (nat_eq n 0)) same) ∙ o in let x : false ≡ true = sym (ap not q) ∙ w in cc
in_array (Bits (I32 n)) a e o = by (nat_lt n 2) e
  where
    number_in : Option ℕ → ℕ
    number_in None = zero
    number_in (Some n) = n

    from : n ≡ a → nat_eq a 0 ≡ false
    from same = at (nat_eq a 0) refl
      where
        at : (z : Bool) → nat_eq a 0 ≡ z → z ≡ false
        at false q = refl
        at true q = let w : not (nat_eq a 0) ≡ true = sym (ap (λ n. not (nat_eq n 0)) same) ∙ o in let x : false ≡ true = sym (ap not q) ∙ w in cc

    by : (b : Bool) → cond b (Some n) None ≡ Some a → nat_eq a 0 ≡ false
    by true q = from (ap number_in q)
    by false q = cc
in_array (Bits (I64 n)) a e o = cc
in_array (Held v) a e o = cc
in_array (IteratorOf t) a e o = cc
in_array (OwnedArray b) a e o = cc
in_array Gone a e o = cc

whatever : {A : Type 0} → (Q : A → Type 0) → ((r : A) → Q r) → (o : Option A) → IfRow Q o
whatever Q f None = tt
whatever Q f (Some r) = f r

first_array : (memory : List ℕ) (rest : List Argument) (Q : Row (argument.Of sort.Array ∷ rest) → Type 0) → ((r : Row (argument.Of sort.Array ∷ rest)) → nat_eq r.0 0 ≡ false → Q r) →
    (c : Cell) (cs : List Cell) → is_other c ≡ true → IfRow Q (row_in memory (argument.Of sort.Array ∷ rest) (c ∷ cs))
first_array memory rest Q ok c cs o = by (in_sort sort.Array c) refl
  where
    by : (x : Option ℕ) → in_sort sort.Array c ≡ x → IfRow Q (with_some (and_rest x cs) (λ y. with_some (row_in memory rest y.1) (λ z. Some (y.0, z))))
    by None q = tt
    by (Some a) q = on (row_in memory rest cs)
      where
        on : (z : Option (Row rest)) → IfRow Q (with_some z (λ r. Some (a, r)))
        on None = tt
        on (Some r) = ok (a, r) (in_array c a q o)

second_array : (memory : List ℕ) (rest : List Argument) (Q : Row (argument.Of sort.Value ∷ (argument.Of sort.Array ∷ rest)) → Type 0) →
    ((r : Row (argument.Of sort.Value ∷ (argument.Of sort.Array ∷ rest))) → nat_eq r.1.0 0 ≡ false → Q r) →
    (v c : Cell) (cs : List Cell) → is_other c ≡ true → IfRow Q (row_in memory (argument.Of sort.Value ∷ (argument.Of sort.Array ∷ rest)) (v ∷ (c ∷ cs)))
second_array memory rest Q ok v c cs o = by (in_sort sort.Value v)
  where
    by : (x : Option Value) → IfRow Q (with_some (and_rest x (c ∷ cs)) (λ y. with_some (row_in memory (argument.Of sort.Array ∷ rest) y.1) (λ z. Some (y.0, z))))
    by None = tt
    by (Some x) = on (row_in memory (argument.Of sort.Array ∷ rest) (c ∷ cs)) (first_array memory rest (λ r. nat_eq r.0 0 ≡ false) (λ r q. q) c cs o)
      where
        on : (z : Option (Row (argument.Of sort.Array ∷ rest))) → IfRow (λ r. nat_eq r.0 0 ≡ false) z → IfRow Q (with_some z (λ r. Some (x, r)))
        on None h = tt
        on (Some r) h = ok (x, r) h

-- WHAT IS TAKEN from a stack whose tags are well
pub taken_other : (tells : Bool) (argv : Pairs) (memory : List ℕ) (i : Import) (A : Tags) (vs : List Cell) → Matches A vs → spares tells i A ≡ true → IfRow (GivenOther argv i) (taken memory i (reverse (take (width i) vs)))
taken_other tells argv memory (OfPrimitive row.Elem) [] vs m e = cc
taken_other tells argv memory (OfPrimitive row.Elem) (b ∷ []) vs m e = cc
taken_other tells argv memory (OfPrimitive row.Elem) (b ∷ (a ∷ A)) [] m e = absurd m
taken_other tells argv memory (OfPrimitive row.Elem) (b ∷ (a ∷ A)) (v ∷ []) m e = absurd m.1
taken_other tells argv memory (OfPrimitive row.Elem) (b ∷ (a ∷ A)) (v ∷ (c ∷ vs)) m e = first_array memory (argument.Of sort.Value ∷ []) (GivenOther argv (OfPrimitive row.Elem)) (λ r q. q) c (v ∷ []) (m.1.0 e)
taken_other tells argv memory (OfPrimitive row.SetElem) [] vs m e = cc
taken_other tells argv memory (OfPrimitive row.SetElem) (b ∷ []) vs m e = cc
taken_other tells argv memory (OfPrimitive row.SetElem) (b ∷ (k ∷ [])) vs m e = cc
taken_other tells argv memory (OfPrimitive row.SetElem) (b ∷ (k ∷ (a ∷ A))) [] m e = absurd m
taken_other tells argv memory (OfPrimitive row.SetElem) (b ∷ (k ∷ (a ∷ A))) (v ∷ []) m e = absurd m.1
taken_other tells argv memory (OfPrimitive row.SetElem) (b ∷ (k ∷ (a ∷ A))) (v ∷ (w ∷ [])) m e = absurd m.1.1
taken_other tells argv memory (OfPrimitive row.SetElem) (b ∷ (k ∷ (a ∷ A))) (v ∷ (w ∷ (c ∷ vs))) m e = first_array memory (argument.Of sort.Value ∷ (argument.Of sort.Value ∷ [])) (GivenOther argv (OfPrimitive row.SetElem)) (λ r q. q) c (w ∷ (v ∷ [])) (m.1.1.0 e)
taken_other tells argv memory (OfPrimitive row.Delete) [] vs m e = cc
taken_other tells argv memory (OfPrimitive row.Delete) (b ∷ []) vs m e = cc
taken_other tells argv memory (OfPrimitive row.Delete) (b ∷ (a ∷ A)) [] m e = absurd m
taken_other tells argv memory (OfPrimitive row.Delete) (b ∷ (a ∷ A)) (v ∷ []) m e = absurd m.1
taken_other tells argv memory (OfPrimitive row.Delete) (b ∷ (a ∷ A)) (v ∷ (c ∷ vs)) m e = first_array memory (argument.Of sort.Value ∷ []) (GivenOther argv (OfPrimitive row.Delete)) (λ r q. q) c (v ∷ []) (m.1.0 e)
taken_other tells argv memory (OfPrimitive row.Clear) [] vs m e = cc
taken_other tells argv memory (OfPrimitive row.Clear) (a ∷ A) [] m e = absurd m
taken_other tells argv memory (OfPrimitive row.Clear) (a ∷ A) (c ∷ vs) m e = first_array memory [] (GivenOther argv (OfPrimitive row.Clear)) (λ r q. q) c [] (m.0 e)
taken_other tells argv memory (OfPrimitive row.Split) [] vs m e = cc
taken_other tells argv memory (OfPrimitive row.Split) (f ∷ []) vs m e = cc
taken_other tells argv memory (OfPrimitive row.Split) (f ∷ (s ∷ [])) vs m e = cc
taken_other tells argv memory (OfPrimitive row.Split) (f ∷ (s ∷ (a ∷ []))) vs m e = cc
taken_other tells argv memory (OfPrimitive row.Split) (f ∷ (s ∷ (a ∷ (t ∷ A)))) [] m e = absurd m
taken_other tells argv memory (OfPrimitive row.Split) (f ∷ (s ∷ (a ∷ (t ∷ A)))) (v ∷ []) m e = absurd m.1
taken_other tells argv memory (OfPrimitive row.Split) (f ∷ (s ∷ (a ∷ (t ∷ A)))) (v ∷ (w ∷ [])) m e = absurd m.1.1
taken_other tells argv memory (OfPrimitive row.Split) (f ∷ (s ∷ (a ∷ (t ∷ A)))) (v ∷ (w ∷ (c ∷ []))) m e = absurd m.1.1.1
taken_other tells argv memory (OfPrimitive row.Split) (f ∷ (s ∷ (a ∷ (t ∷ A)))) (v ∷ (w ∷ (c ∷ (x ∷ vs)))) m e = second_array memory (argument.Of sort.Value ∷ (argument.Constant constant.Flag ∷ [])) (GivenOther argv (OfPrimitive row.Split)) (λ r q. q) x c (w ∷ (v ∷ [])) (m.1.1.0 e)
taken_other tells argv memory (OfPrimitive p) A vs m e = whatever (GivenOther argv (OfPrimitive p)) (λ r. tt) (taken memory (OfPrimitive p) (reverse (take (width (OfPrimitive p)) vs)))
taken_other tells argv memory i A vs m e = whatever (GivenOther argv i) (λ r. tt) (taken memory i (reverse (take (width i) vs)))
