-- The locals of a function: its parameters, its answer, temporaries with a cell for a handle and one for a number each, iterators, and arrays that are made for calls.
use Rattle.std.proofs.Common.{◌≡◌, ℕ, zero, suc, ◌+◌, ◌<◌, true, List, [], ◌∷◌, ◌++◌, length, refl, sym, ap, ◌∙◌, arith}
use Rattle.std.specs.Prelude.{get_or, set, nat_lt}
use Rattle.std.proofs.lemmas.List.{length-append, set-set, set-get_or}
use Rattle.std.proofs.lemmas.Bool.{lt-ltb}
use Rattle.lower_model.specs.Cells.{Cell, Gone, cell_at}
use Rattle.lower_model.specs.Places.{Bases, answer_local, handle_local, number_local, iterator_local, array_local}
use Rattle.lower_model.proofs.Regions.{upd, upd_same, cells, pairs, cells_length, pairs_length, cells_at, cells_set, left_at, right_at, left_set, right_set, behind_at, behind_set}

pub record Locals : Type 0 where
  pub param : ℕ → Cell
  pub answer : Cell
  pub hand : ℕ → Cell
  pub number : ℕ → Cell
  pub iterator : ℕ → Cell
  pub array : ℕ → Cell

-- the list of them
abbrev pub temporaries_on : Bases → Locals → List Cell
temporaries_on b l = pairs l.hand l.number b.temporaries ++ (cells l.iterator b.iterators ++ (cells l.array b.arrays ++ []))

abbrev pub laid : Bases → Locals → List Cell
laid b l = cells l.param b.parameters ++ (l.answer ∷ temporaries_on b l)

pub data Place : Type 0 where
  Param : ℕ → Place
  Answer : Place
  Hand : ℕ → Place
  Number : ℕ → Place
  Iterator : ℕ → Place
  Array : ℕ → Place

-- the local's number
abbrev pub local_of : Bases → Place → ℕ
local_of b (Param i) = i
local_of b Answer = answer_local b
local_of b (Hand t) = handle_local b t
local_of b (Number t) = number_local b t
local_of b (Iterator u) = iterator_local b u
local_of b (Array w) = array_local b w

abbrev pub IsPlace : Bases → Place → Type 0
IsPlace b (Param i) = i < b.parameters
IsPlace b Answer = Unit {0}
IsPlace b (Hand t) = t < b.temporaries
IsPlace b (Number t) = t < b.temporaries
IsPlace b (Iterator u) = u < b.iterators
IsPlace b (Array w) = w < b.arrays

abbrev pub has : Locals → Place → Cell
has l (Param i) = l.param i
has l Answer = l.answer
has l (Hand t) = l.hand t
has l (Number t) = l.number t
has l (Iterator u) = l.iterator u
has l (Array w) = l.array w

abbrev pub with_at : Locals → Place → Cell → Locals
with_at l (Param i) c = record l { param = upd l.param i c }
with_at l Answer c = record l { answer = c }
with_at l (Hand t) c = record l { hand = upd l.hand t c }
with_at l (Number t) c = record l { number = upd l.number t c }
with_at l (Iterator u) c = record l { iterator = upd l.iterator u c }
with_at l (Array w) c = record l { array = upd l.array w c }

pub has_with : (l : Locals) (p : Place) (c : Cell) → has (with_at l p c) p ≡ c
has_with l (Param i) c = upd_same l.param i c
has_with l Answer c = refl
has_with l (Hand t) c = upd_same l.hand t c
has_with l (Number t) c = upd_same l.number t c
has_with l (Iterator u) c = upd_same l.iterator u c
has_with l (Array w) c = upd_same l.array w c

temporaries_length : (b : Bases) (l : Locals) → length (temporaries_on b l) ≡ (b.temporaries + b.temporaries) + (b.iterators + b.arrays)
temporaries_length b l =
    let x = length-append (pairs l.hand l.number b.temporaries) (cells l.iterator b.iterators ++ (cells l.array b.arrays ++ [])) in
    let y = length-append (cells l.iterator b.iterators) (cells l.array b.arrays ++ []) in
    let z = length-append (cells l.array b.arrays) [] in
    let p = pairs_length l.hand l.number b.temporaries in
    let q = cells_length l.iterator b.iterators in
    let r = cells_length l.array b.arrays in
    omega (arith, x, y, z, p, q, r)

pub laid_length : (b : Bases) (l : Locals) → length (laid b l) ≡ b.parameters + suc ((b.temporaries + b.temporaries) + (b.iterators + b.arrays))
laid_length b l =
    let x = length-append (cells l.param b.parameters) (l.answer ∷ temporaries_on b l) in
    let y = temporaries_length b l in
    let z = cells_length l.param b.parameters in
    omega (arith, x, y, z)

pub place_below : (b : Bases) (l : Locals) (p : Place) → IsPlace b p → local_of b p < length (laid b l)
place_below b l (Param i) h = let e = laid_length b l in omega (arith, e, h)
place_below b l Answer h = let e = laid_length b l in omega (arith, e)
place_below b l (Hand t) h = let e = laid_length b l in omega (arith, e, h)
place_below b l (Number t) h = let e = laid_length b l in omega (arith, e, h)
place_below b l (Iterator u) h = let e = laid_length b l in omega (arith, e, h)
place_below b l (Array w) h = let e = laid_length b l in omega (arith, e, h)

-- behind the parameters and the answer
at_temporaries : (b : Bases) (l : Locals) (x k : ℕ) → x ≡ b.parameters + suc k → cell_at (laid b l) x ≡ get_or (temporaries_on b l) k Gone
at_temporaries b l x k e = ap (λ n. cell_at (laid b l) n) e ∙ behind_at (cells l.param b.parameters) (l.answer ∷ temporaries_on b l) b.parameters (suc k) Gone (cells_length l.param b.parameters)

at_iterators : (b : Bases) (l : Locals) (k : ℕ) → get_or (temporaries_on b l) ((b.temporaries + b.temporaries) + k) Gone ≡ get_or (cells l.iterator b.iterators ++ (cells l.array b.arrays ++ [])) k Gone
at_iterators b l k = behind_at (pairs l.hand l.number b.temporaries) (cells l.iterator b.iterators ++ (cells l.array b.arrays ++ [])) (b.temporaries + b.temporaries) k Gone (pairs_length l.hand l.number b.temporaries)

pub laid_at : (b : Bases) (l : Locals) (p : Place) → IsPlace b p → cell_at (laid b l) (local_of b p) ≡ has l p
laid_at b l (Param i) h = cells_at l.param b.parameters i (l.answer ∷ temporaries_on b l) Gone h
laid_at b l Answer h =
    let e : b.parameters ≡ b.parameters + zero = omega arith in
    ap (λ n. cell_at (laid b l) n) e ∙ behind_at (cells l.param b.parameters) (l.answer ∷ temporaries_on b l) b.parameters zero Gone (cells_length l.param b.parameters)
laid_at b l (Hand t) h = at_temporaries b l (local_of b (Hand t)) (t + t) (omega arith) ∙ left_at l.hand l.number b.temporaries t (cells l.iterator b.iterators ++ (cells l.array b.arrays ++ [])) Gone h
laid_at b l (Number t) h = at_temporaries b l (local_of b (Number t)) (suc (t + t)) (omega arith) ∙ right_at l.hand l.number b.temporaries t (cells l.iterator b.iterators ++ (cells l.array b.arrays ++ [])) Gone h
laid_at b l (Iterator u) h = at_temporaries b l (local_of b (Iterator u)) ((b.temporaries + b.temporaries) + u) (omega arith) ∙ (at_iterators b l u ∙ cells_at l.iterator b.iterators u (cells l.array b.arrays ++ []) Gone h)
laid_at b l (Array w) h =
    at_temporaries b l (local_of b (Array w)) ((b.temporaries + b.temporaries) + (b.iterators + w)) (omega arith)
    ∙ (at_iterators b l (b.iterators + w)
    ∙ (behind_at (cells l.iterator b.iterators) (cells l.array b.arrays ++ []) b.iterators w Gone (cells_length l.iterator b.iterators)
    ∙ cells_at l.array b.arrays w [] Gone h))

set_temporaries : (b : Bases) (l : Locals) (x k : ℕ) (c : Cell) → x ≡ b.parameters + suc k → set (laid b l) x c ≡ cells l.param b.parameters ++ (l.answer ∷ set (temporaries_on b l) k c)
set_temporaries b l x k c e = ap (λ n. set (laid b l) n c) e ∙ behind_set (cells l.param b.parameters) (l.answer ∷ temporaries_on b l) b.parameters (suc k) c (cells_length l.param b.parameters)

set_iterators : (b : Bases) (l : Locals) (k : ℕ) (c : Cell) → set (temporaries_on b l) ((b.temporaries + b.temporaries) + k) c ≡ pairs l.hand l.number b.temporaries ++ set (cells l.iterator b.iterators ++ (cells l.array b.arrays ++ [])) k c
set_iterators b l k c = behind_set (pairs l.hand l.number b.temporaries) (cells l.iterator b.iterators ++ (cells l.array b.arrays ++ [])) (b.temporaries + b.temporaries) k c (pairs_length l.hand l.number b.temporaries)

pub laid_set : (b : Bases) (l : Locals) (p : Place) (c : Cell) → IsPlace b p → set (laid b l) (local_of b p) c ≡ laid b (with_at l p c)
laid_set b l (Param i) c h = cells_set l.param b.parameters i (l.answer ∷ temporaries_on b l) c h
laid_set b l Answer c h =
    let e : b.parameters ≡ b.parameters + zero = omega arith in
    ap (λ n. set (laid b l) n c) e ∙ behind_set (cells l.param b.parameters) (l.answer ∷ temporaries_on b l) b.parameters zero c (cells_length l.param b.parameters)
laid_set b l (Hand t) c h =
    set_temporaries b l (local_of b (Hand t)) (t + t) c (omega arith)
    ∙ ap (λ r. cells l.param b.parameters ++ (l.answer ∷ r)) (left_set l.hand l.number b.temporaries t (cells l.iterator b.iterators ++ (cells l.array b.arrays ++ [])) c h)
laid_set b l (Number t) c h =
    set_temporaries b l (local_of b (Number t)) (suc (t + t)) c (omega arith)
    ∙ ap (λ r. cells l.param b.parameters ++ (l.answer ∷ r)) (right_set l.hand l.number b.temporaries t (cells l.iterator b.iterators ++ (cells l.array b.arrays ++ [])) c h)
laid_set b l (Iterator u) c h =
    set_temporaries b l (local_of b (Iterator u)) ((b.temporaries + b.temporaries) + u) c (omega arith)
    ∙ ap (λ r. cells l.param b.parameters ++ (l.answer ∷ r)) (set_iterators b l u c ∙ ap (λ r. pairs l.hand l.number b.temporaries ++ r) (cells_set l.iterator b.iterators u (cells l.array b.arrays ++ []) c h))
laid_set b l (Array w) c h =
    set_temporaries b l (local_of b (Array w)) ((b.temporaries + b.temporaries) + (b.iterators + w)) c (omega arith)
    ∙ ap (λ r. cells l.param b.parameters ++ (l.answer ∷ r)) (set_iterators b l (b.iterators + w) c
    ∙ ap (λ r. pairs l.hand l.number b.temporaries ++ r) (behind_set (cells l.iterator b.iterators) (cells l.array b.arrays ++ []) b.iterators w c (cells_length l.iterator b.iterators)
    ∙ ap (λ r. cells l.iterator b.iterators ++ r) (cells_set l.array b.arrays w [] c h)))

-- two stores to one place are the last of them, and what stands there may be stored again
pub laid_twice : (b : Bases) (l : Locals) (p : Place) (c d : Cell) → IsPlace b p → laid b (with_at (with_at l p c) p d) ≡ laid b (with_at l p d)
laid_twice b l p c d h = sym (laid_set b (with_at l p c) p d h) ∙ (ap (λ L. set L (local_of b p) d) (sym (laid_set b l p c h)) ∙ (set-set (laid b l) (local_of b p) c d ∙ laid_set b l p d h))

pub laid_again : (b : Bases) (l : Locals) (p : Place) (c : Cell) → IsPlace b p → has l p ≡ c → laid b (with_at l p c) ≡ laid b l
laid_again b l p c h e =
    sym (laid_set b l p c h)
    ∙ (ap (λ x. set (laid b l) (local_of b p) x) (sym e ∙ sym (laid_at b l p h))
    ∙ set-get_or (laid b l) (local_of b p) Gone)

pub place_there : (b : Bases) (l : Locals) (p : Place) → IsPlace b p → nat_lt (local_of b p) (length (laid b l)) ≡ true
place_there b l p h = lt-ltb (local_of b p) (length (laid b l)) (place_below b l p h)
