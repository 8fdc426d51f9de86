-- What places hold, and how much of it there is.
use Rattle.std.proofs.Common.{◌≡◌, ◌⊎◌, inl, inr, ℕ, zero, suc, ◌+◌, ◌≤◌, Bool, true, false, not, ◌&&◌, cond, nat_eq, List, [], ◌∷◌, take, drop, Option, Some, None, refl, ap, ap₂, ◌∙◌, arith}
use Rattle.std.proofs.lemmas.Bool.{and_parts}
use Rattle.sem_primitives.specs.declared.sorts.Sort.{Sort}
use Rattle.sem_primitives.specs.declared.sorts.Sort.TheVariants as sort
use Rattle.wasm_store.specs.declared.word.Word.{Word}
use Rattle.wasm_store.specs.declared.word.Word.TheVariants.{I32, I64}
use Rattle.wasm_model.specs.Machines.{CallerForm}
use Rattle.mid_program.specs.Mid.{Kind, Boxed, Unboxed, ArrayKind}
use Rattle.lower_model.specs.Cells.{Cell, Bits, Held, IteratorOf, OwnedArray, LentArray, Gone, arrays_owned, count_cells, each_name, ended_name, globals_by, is_array, is_bare, is_iterator, is_owned, iterators_in, no_temporary, none_owned, tidy_locals, tidy_name}
use Rattle.lower_model.specs.Machine.{Frame, array_kinds, ending_name}
use Rattle.agreement.specs.Refined.Owners.{owners, owns_sort, waiting}
use Rattle.agreement.specs.Places.NoLeaks.{GlobalsHold, LocalsHold, NameHolds, NameMayHold, NamesHold, OnlyIterators, boxed, count, holders, holders_waiting, holds, one, scalars}

-- what a place holds, by its cell
abbrev pub held_in : Cell → Option Sort
held_in (Held v) = Some sort.Value
held_in (OwnedArray a) = Some sort.Array
held_in (IteratorOf t) = Some sort.Iterator
held_in (Bits w) = None
held_in (LentArray a) = None
held_in Gone = None

abbrev pub held : List Cell → List (Option Sort)
held [] = []
held (c ∷ cs) = held_in c ∷ held cs

abbrev pub held_waiting : List Frame → List (List (Option Sort))
held_waiting [] = []
held_waiting (f ∷ F) = held f.locals ∷ held_waiting F

pub same_sort : (t : Sort) (c : Cell) → holds t (held_in c) ≡ owns_sort t c
same_sort sort.Value (Held v) = refl
same_sort sort.Value (OwnedArray a) = refl
same_sort sort.Value (IteratorOf i) = refl
same_sort sort.Value (Bits w) = refl
same_sort sort.Value (LentArray a) = refl
same_sort sort.Value Gone = refl
same_sort sort.Number (Held v) = refl
same_sort sort.Number (OwnedArray a) = refl
same_sort sort.Number (IteratorOf i) = refl
same_sort sort.Number (Bits w) = refl
same_sort sort.Number (LentArray a) = refl
same_sort sort.Number Gone = refl
same_sort sort.Array (Held v) = refl
same_sort sort.Array (OwnedArray a) = refl
same_sort sort.Array (IteratorOf i) = refl
same_sort sort.Array (Bits w) = refl
same_sort sort.Array (LentArray a) = refl
same_sort sort.Array Gone = refl
same_sort sort.Iterator (Held v) = refl
same_sort sort.Iterator (OwnedArray a) = refl
same_sort sort.Iterator (IteratorOf i) = refl
same_sort sort.Iterator (Bits w) = refl
same_sort sort.Iterator (LentArray a) = refl
same_sort sort.Iterator Gone = refl

pub holders_same : (t : Sort) (q : ℕ) (cs : List Cell) (ws : List Word) → holders t q (held cs) ws ≡ owners t q cs ws
holders_same t q [] ws = refl
holders_same t q (c ∷ cs) [] = refl
holders_same t q (c ∷ cs) (I32 n ∷ ws) = ap₂ (λ b r. cond {A = ℕ} (b && nat_eq q n) 1 0 + r) (same_sort t c) (holders_same t q cs ws)
holders_same t q (c ∷ cs) (I64 n ∷ ws) = let h = holders_same t q cs ws in omega (arith, h)

pub waiting_same : (t : Sort) (q : ℕ) (F : List Frame) (rs : List CallerForm) → holders_waiting t q (held_waiting F) rs ≡ waiting t q F rs
waiting_same t q [] rs = refl
waiting_same t q (f ∷ F) [] = refl
waiting_same t q (f ∷ F) (r ∷ rs) = ap₂ (λ a b. a + b) (holders_same t q f.locals r.frame.locals) (waiting_same t q F rs)

-- Names.

module _ (ok : Kind → Cell → Bool) (P : Kind → Option Sort → Type 0) (each : (k : Kind) (c : Cell) → ok k c ≡ true → P k (held_in c)) where
  nothing_held : (c : Cell) → not (is_owned c) ≡ true → held_in c ≡ None
  nothing_held (Held v) e = cc
  nothing_held (OwnedArray a) e = cc
  nothing_held (IteratorOf t) e = cc
  nothing_held (Bits w) e = refl
  nothing_held (LentArray a) e = refl
  nothing_held Gone e = refl

  names_hold : (ks : List Kind) (cs : List Cell) → each_name ok ks cs ≡ true → NamesHold P ks (held cs)
  names_hold [] [] e = tt
  names_hold [] (c ∷ cs) e = cc
  names_hold (k ∷ ks) [] e = cc
  names_hold (k ∷ ks) (c ∷ []) e = cc
  names_hold (k ∷ ks) (c ∷ (n ∷ cs)) e =
      let h = and_parts (ok k c && not (is_owned n)) (each_name ok ks cs) e in
      let g = and_parts (ok k c) (not (is_owned n)) h.0 in
      (each k c g.0, nothing_held n g.1, names_hold ks cs h.1)

  globals_hold : (before : ℕ) (ks : List Kind) (cs : List Cell) → none_owned (take before cs) ≡ true → each_name ok ks (drop before cs) ≡ true → GlobalsHold P before ks (held cs)
  globals_hold zero ks cs a e = names_hold ks cs e
  globals_hold (suc n) ks [] a e = names_hold ks [] e
  globals_hold (suc n) ks (c ∷ cs) a e =
      let h = and_parts (not (is_owned c)) (none_owned (take n cs)) a in
      (nothing_held c h.0, globals_hold n ks cs h.1 e)

tidy_holds : (k : Kind) (c : Cell) → tidy_name k c ≡ true → NameHolds k (held_in c)
tidy_holds Boxed (Held v) e = refl
tidy_holds Boxed (OwnedArray a) e = cc
tidy_holds Boxed (IteratorOf t) e = cc
tidy_holds Boxed (Bits w) e = cc
tidy_holds Boxed (LentArray a) e = cc
tidy_holds Boxed Gone e = cc
tidy_holds Unboxed (Held v) e = inr refl
tidy_holds Unboxed (OwnedArray a) e = cc
tidy_holds Unboxed (IteratorOf t) e = cc
tidy_holds Unboxed (Bits w) e = inl refl
tidy_holds Unboxed (LentArray a) e = inl refl
tidy_holds Unboxed Gone e = inl refl
tidy_holds ArrayKind (Held v) e = cc
tidy_holds ArrayKind (OwnedArray a) e = refl
tidy_holds ArrayKind (IteratorOf t) e = cc
tidy_holds ArrayKind (Bits w) e = cc
tidy_holds ArrayKind (LentArray a) e = cc
tidy_holds ArrayKind Gone e = cc

ended_holds : (k : Kind) (c : Cell) → ended_name k c ≡ true → NameMayHold k (held_in c)
ended_holds Boxed (Held v) e = inr refl
ended_holds Boxed (OwnedArray a) e = cc
ended_holds Boxed (IteratorOf t) e = cc
ended_holds Boxed (Bits w) e = inl refl
ended_holds Boxed (LentArray a) e = inl refl
ended_holds Boxed Gone e = inl refl
ended_holds Unboxed (Held v) e = inr refl
ended_holds Unboxed (OwnedArray a) e = cc
ended_holds Unboxed (IteratorOf t) e = cc
ended_holds Unboxed (Bits w) e = inl refl
ended_holds Unboxed (LentArray a) e = inl refl
ended_holds Unboxed Gone e = inl refl
ended_holds ArrayKind (Held v) e = cc
ended_holds ArrayKind (OwnedArray a) e = inr refl
ended_holds ArrayKind (IteratorOf t) e = cc
ended_holds ArrayKind (Bits w) e = inl refl
ended_holds ArrayKind (LentArray a) e = inl refl
ended_holds ArrayKind Gone e = inl refl

pub tidy_globals : (before : ℕ) (ks : List Kind) (cs : List Cell) → none_owned (take before cs) && each_name tidy_name ks (drop before cs) ≡ true → GlobalsHold NameHolds before ks (held cs)
tidy_globals before ks cs e = let h = and_parts (none_owned (take before cs)) (each_name tidy_name ks (drop before cs)) e in globals_hold tidy_name NameHolds tidy_holds before ks cs h.0 h.1

pub ended_globals : (before : ℕ) (ks : List Kind) (cs : List Cell) → none_owned (take before cs) && each_name ended_name ks (drop before cs) ≡ true → GlobalsHold NameMayHold before ks (held cs)
ended_globals before ks cs e = let h = and_parts (none_owned (take before cs)) (each_name ended_name ks (drop before cs)) e in globals_hold ended_name NameMayHold ended_holds before ks cs h.0 h.1

-- a name that holds what its kind says holds no more than that
may_hold : (k : Kind) (o : Option Sort) → NameHolds k o → NameMayHold k o
may_hold Boxed o h = inr h
may_hold Unboxed o h = h
may_hold ArrayKind o h = inr h

names_may : (ks : List Kind) (os : List (Option Sort)) → NamesHold NameHolds ks os → NamesHold NameMayHold ks os
names_may [] [] h = tt
names_may [] (o ∷ os) h = absurd h
names_may (k ∷ ks) [] h = absurd h
names_may (k ∷ ks) (o ∷ []) h = absurd h
names_may (k ∷ ks) (o ∷ (n ∷ os)) h = (may_hold k o h.0, h.1, names_may ks os h.2)

pub globals_may : (before : ℕ) (ks : List Kind) (os : List (Option Sort)) → GlobalsHold NameHolds before ks os → GlobalsHold NameMayHold before ks os
globals_may zero ks os h = names_may ks os h
globals_may (suc n) ks [] h = names_may ks [] h
globals_may (suc n) ks (o ∷ os) h = (h.0, globals_may n ks os h.1)

-- where `main` ends
pub ending_globals : {A : Type 0} (o : Option A) (before : ℕ) (ks : List Kind) (cs : List Cell) → globals_by (ending_name o) before ks cs ≡ true → GlobalsHold NameMayHold before ks (held cs)
ending_globals None before ks cs e = globals_may before ks (held cs) (tidy_globals before ks cs e)
ending_globals (Some x) before ks cs e = ended_globals before ks cs e

pub exact_globals : {A : Type 0} (o : Option A) (before : ℕ) (ks : List Kind) (cs : List Cell) → o ≡ None → globals_by (ending_name o) before ks cs ≡ true → GlobalsHold NameHolds before ks (held cs)
exact_globals None before ks cs q e = tidy_globals before ks cs e
exact_globals (Some x) before ks cs q e = cc

-- Locals.

bare_holds : (c : Cell) → is_bare c ≡ true → held_in c ≡ None
bare_holds (Bits w) e = refl
bare_holds (Held v) e = cc
bare_holds (IteratorOf t) e = cc
bare_holds (OwnedArray a) e = cc
bare_holds (LentArray a) e = cc
bare_holds Gone e = cc

only_held : (cs : List Cell) → no_temporary cs ≡ true → OnlyIterators (held cs)
only_held [] e = tt
only_held (Held v ∷ cs) e = cc
only_held (OwnedArray a ∷ cs) e = cc
only_held (IteratorOf t ∷ cs) e = (inr refl, only_held cs e)
only_held (Bits w ∷ cs) e = (inl refl, only_held cs e)
only_held (LentArray a ∷ cs) e = (inl refl, only_held cs e)
only_held (Gone ∷ cs) e = (inl refl, only_held cs e)

pub tidy_held : (ks : List Kind) (cs : List Cell) → tidy_locals ks cs ≡ true → LocalsHold ks (held cs)
tidy_held [] cs e = only_held cs e
tidy_held (Boxed ∷ ks) (Held v ∷ cs) e = (refl, tidy_held ks cs e)
tidy_held (Boxed ∷ ks) (OwnedArray a ∷ cs) e = cc
tidy_held (Boxed ∷ ks) (IteratorOf t ∷ cs) e = cc
tidy_held (Boxed ∷ ks) (Bits w ∷ cs) e = cc
tidy_held (Boxed ∷ ks) (LentArray a ∷ cs) e = cc
tidy_held (Boxed ∷ ks) (Gone ∷ cs) e = cc
tidy_held (Unboxed ∷ ks) (c ∷ cs) e = let h = and_parts (is_bare c) (tidy_locals ks cs) e in (bare_holds c h.0, tidy_held ks cs h.1)
tidy_held (ArrayKind ∷ ks) (c ∷ cs) e = let h = and_parts (not (is_owned c)) (tidy_locals ks cs) e in (nothing_held tidy_name NameHolds tidy_holds c h.0, tidy_held ks cs h.1)
tidy_held (Boxed ∷ ks) [] e = cc
tidy_held (Unboxed ∷ ks) [] e = cc
tidy_held (ArrayKind ∷ ks) [] e = cc

-- Counts.

pub none_counted : (t : Sort) → one t None ≡ 0
none_counted sort.Value = refl
none_counted sort.Number = refl
none_counted sort.Array = refl
none_counted sort.Iterator = refl

-- at most so many for a name of a kind
abbrev of_kind : Sort → Kind → ℕ
of_kind t Boxed = one t (Some sort.Value)
of_kind t Unboxed = one t (Some sort.Value)
of_kind t ArrayKind = one t (Some sort.Array)

abbrev of_kinds : Sort → List Kind → ℕ
of_kinds t [] = 0
of_kinds t (k ∷ ks) = of_kind t k + of_kinds t ks

either_counted : (t s : Sort) (o : Option Sort) → (o ≡ None) ⊎ (o ≡ Some s) → one t o ≤ one t (Some s)
either_counted t s o (inl e) = let x = ap (one t) e in let y = none_counted t in omega (arith, x, y)
either_counted t s o (inr e) = let x = ap (one t) e in omega (arith, x)

name_counted : (t : Sort) (k : Kind) (o : Option Sort) → NameMayHold k o → one t o ≤ of_kind t k
name_counted t Boxed o h = either_counted t sort.Value o h
name_counted t Unboxed o h = either_counted t sort.Value o h
name_counted t ArrayKind o h = either_counted t sort.Array o h

names_counted : (t : Sort) (ks : List Kind) (os : List (Option Sort)) → NamesHold NameMayHold ks os → count t os ≤ of_kinds t ks
names_counted t [] [] h = omega arith
names_counted t [] (o ∷ os) h = absurd h
names_counted t (k ∷ ks) [] h = absurd h
names_counted t (k ∷ ks) (o ∷ []) h = absurd h
names_counted t (k ∷ ks) (o ∷ (n ∷ os)) h =
    let x = name_counted t k o h.0 in
    let y = ap (one t) h.1 in
    let z = none_counted t in
    let r = names_counted t ks os h.2 in
    omega (arith, x, y, z, r)

globals_counted : (t : Sort) (before : ℕ) (ks : List Kind) (os : List (Option Sort)) → GlobalsHold NameMayHold before ks os → count t os ≤ of_kinds t ks
globals_counted t zero ks os h = names_counted t ks os h
globals_counted t (suc n) ks [] h = names_counted t ks [] h
globals_counted t (suc n) ks (o ∷ os) h = let x = ap (one t) h.0 in let y = none_counted t in let r = globals_counted t n ks os h.1 in omega (arith, x, y, r)

values_of : (ks : List Kind) → of_kinds sort.Value ks ≡ scalars ks
values_of [] = refl
values_of (Boxed ∷ ks) = let r = values_of ks in omega (arith, r)
values_of (Unboxed ∷ ks) = let r = values_of ks in omega (arith, r)
values_of (ArrayKind ∷ ks) = let r = values_of ks in omega (arith, r)

arrays_of : (ks : List Kind) → of_kinds sort.Array ks ≡ array_kinds ks
arrays_of [] = refl
arrays_of (Boxed ∷ ks) = let r = arrays_of ks in omega (arith, r)
arrays_of (Unboxed ∷ ks) = let r = arrays_of ks in omega (arith, r)
arrays_of (ArrayKind ∷ ks) = let r = arrays_of ks in omega (arith, r)

iterators_of : (ks : List Kind) → of_kinds sort.Iterator ks ≡ 0
iterators_of [] = refl
iterators_of (Boxed ∷ ks) = let r = iterators_of ks in omega (arith, r)
iterators_of (Unboxed ∷ ks) = let r = iterators_of ks in omega (arith, r)
iterators_of (ArrayKind ∷ ks) = let r = iterators_of ks in omega (arith, r)

module _ (before : ℕ) (ks : List Kind) (os : List (Option Sort)) (h : GlobalsHold NameMayHold before ks os) where
  pub global_values : count sort.Value os ≤ scalars ks
  global_values = let x = globals_counted sort.Value before ks os h in let y = values_of ks in omega (arith, x, y)

  pub global_arrays : count sort.Array os ≤ array_kinds ks
  global_arrays = let x = globals_counted sort.Array before ks os h in let y = arrays_of ks in omega (arith, x, y)

  pub global_iterators : count sort.Iterator os ≡ 0
  global_iterators = let x = globals_counted sort.Iterator before ks os h in let y = iterators_of ks in omega (arith, x, y)

-- each name of an array holds one, and no other name does
arrays_held : (ks : List Kind) (os : List (Option Sort)) → NamesHold NameHolds ks os → count sort.Array os ≡ array_kinds ks
arrays_held [] [] h = refl
arrays_held [] (o ∷ os) h = absurd h
arrays_held (k ∷ ks) [] h = absurd h
arrays_held (k ∷ ks) (o ∷ []) h = absurd h
arrays_held (Boxed ∷ ks) (o ∷ (n ∷ os)) h = let x = ap (one sort.Array) h.0 in let y = ap (one sort.Array) h.1 in let r = arrays_held ks os h.2 in omega (arith, x, y, r)
arrays_held (Unboxed ∷ ks) (o ∷ (n ∷ os)) h = let x = either_counted sort.Array sort.Value o h.0 in let y = ap (one sort.Array) h.1 in let r = arrays_held ks os h.2 in omega (arith, x, y, r)
arrays_held (ArrayKind ∷ ks) (o ∷ (n ∷ os)) h = let x = ap (one sort.Array) h.0 in let y = ap (one sort.Array) h.1 in let r = arrays_held ks os h.2 in omega (arith, x, y, r)

pub global_arrays_are : (before : ℕ) (ks : List Kind) (os : List (Option Sort)) → GlobalsHold NameHolds before ks os → count sort.Array os ≡ array_kinds ks
global_arrays_are zero ks os h = arrays_held ks os h
global_arrays_are (suc n) ks [] h = arrays_held ks [] h
global_arrays_are (suc n) ks (o ∷ os) h = let x = ap (one sort.Array) h.0 in let r = global_arrays_are n ks os h.1 in omega (arith, x, r)

-- of parameters, and of the other locals
abbrev of_locals : Sort → List Kind → ℕ
of_locals t [] = 0
of_locals t (Boxed ∷ ks) = one t (Some sort.Value) + of_locals t ks
of_locals t (Unboxed ∷ ks) = of_locals t ks
of_locals t (ArrayKind ∷ ks) = of_locals t ks

only_counted : (t : Sort) → one t (Some sort.Iterator) ≡ 0 → (os : List (Option Sort)) → OnlyIterators os → count t os ≡ 0
only_counted t e [] h = refl
only_counted t e (o ∷ os) h = let x = either_counted t sort.Iterator o h.0 in let r = only_counted t e os h.1 in omega (arith, e, x, r)

locals_counted : (t : Sort) → one t (Some sort.Iterator) ≡ 0 → (ks : List Kind) (os : List (Option Sort)) → LocalsHold ks os → count t os ≡ of_locals t ks
locals_counted t e [] os h = only_counted t e os h
locals_counted t e (Boxed ∷ ks) (o ∷ os) h = let x = ap (one t) h.0 in let r = locals_counted t e ks os h.1 in omega (arith, x, r)
locals_counted t e (Unboxed ∷ ks) (o ∷ os) h = let x = ap (one t) h.0 in let y = none_counted t in let r = locals_counted t e ks os h.1 in omega (arith, x, y, r)
locals_counted t e (ArrayKind ∷ ks) (o ∷ os) h = let x = ap (one t) h.0 in let y = none_counted t in let r = locals_counted t e ks os h.1 in omega (arith, x, y, r)
locals_counted t e (Boxed ∷ ks) [] h = absurd h
locals_counted t e (Unboxed ∷ ks) [] h = absurd h
locals_counted t e (ArrayKind ∷ ks) [] h = absurd h

boxed_of : (ks : List Kind) → of_locals sort.Value ks ≡ boxed ks
boxed_of [] = refl
boxed_of (Boxed ∷ ks) = let r = boxed_of ks in omega (arith, r)
boxed_of (Unboxed ∷ ks) = boxed_of ks
boxed_of (ArrayKind ∷ ks) = boxed_of ks

none_of : (ks : List Kind) → of_locals sort.Array ks ≡ 0
none_of [] = refl
none_of (Boxed ∷ ks) = let r = none_of ks in omega (arith, r)
none_of (Unboxed ∷ ks) = none_of ks
none_of (ArrayKind ∷ ks) = none_of ks

pub local_values : (ks : List Kind) (os : List (Option Sort)) → LocalsHold ks os → count sort.Value os ≡ boxed ks
local_values ks os h = locals_counted sort.Value refl ks os h ∙ boxed_of ks

pub local_arrays : (ks : List Kind) (os : List (Option Sort)) → LocalsHold ks os → count sort.Array os ≡ 0
local_arrays ks os h = locals_counted sort.Array refl ks os h ∙ none_of ks

counted_cells : (t : Sort) (q : Cell → Bool) → ((c : Cell) → holds t (held_in c) ≡ q c) → (cs : List Cell) → count t (held cs) ≡ count_cells q cs
counted_cells t q same [] = refl
counted_cells t q same (c ∷ cs) = ap (λ b. cond b 1 0 + count t (held cs)) (same c) ∙ by (q c) (counted_cells t q same cs)
  where
    by : (b : Bool) → count t (held cs) ≡ count_cells q cs → cond b 1 0 + count t (held cs) ≡ cond b (suc (count_cells q cs)) (count_cells q cs)
    by true r = omega (arith, r)
    by false r = omega (arith, r)

iterator_held : (c : Cell) → holds sort.Iterator (held_in c) ≡ is_iterator c
iterator_held (Bits w) = refl
iterator_held c = refl

array_held : (c : Cell) → holds sort.Array (held_in c) ≡ is_array c
array_held (Bits w) = refl
array_held c = refl

pub local_iterators : (cs : List Cell) → count sort.Iterator (held cs) ≡ iterators_in cs
local_iterators cs = counted_cells sort.Iterator is_iterator iterator_held cs

pub owned_arrays : (cs : List Cell) → count sort.Array (held cs) ≡ arrays_owned cs
owned_arrays cs = counted_cells sort.Array is_array array_held cs
