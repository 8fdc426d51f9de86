-- How much is alive where a statement begins, and where `main` has returned: as much as is in places, since each number stands for one thing.
use Rattle.std.proofs.Common.{◌≡◌, ℕ, suc, ◌+◌, ◌^◌, ◌<◌, ◌≤◌, Bool, true, false, cond, nat_lt, pos, List, [], ◌∷◌, length, Option, refl, ap, ◌∙◌, arith}
use Rattle.sem_primitives.specs.declared.sorts.Sort.{Sort}
use Rattle.sem_primitives.specs.declared.sorts.Sort.TheVariants as sort
use Rattle.wasm_store.specs.declared.word.Word.{Word}
use Rattle.wasm_store.specs.declared.word.Word.TheVariants.{I32, I64}
use Rattle.wasm_model.specs.Machines.{Conf}
use Rattle.host_step.specs.HostState.{HostState, Names}
use Rattle.host_step.specs.Live.{live_arrays, live_iterators, live_values}
use Rattle.host_step.specs.Tables.{look}
use Rattle.mid_program.specs.Mid.{Program}
use Rattle.mid_program.specs.Sorted.{kinds_of}
use Rattle.lower_model.specs.Machine.{array_kinds}
use Rattle.agreement.specs.Refined.Owners.{there, wanted}
use Rattle.agreement.specs.Places.Alive.{count_waiting, values_waiting, walks_waiting}
use Rattle.agreement.specs.Places.NoLeaks.{AtReturn, AtStatement, EachPlace, NumbersStand, boxed, count, first_name, numbers_of, scalars, walks}
use Rattle.agreement.proofs.RefinedLemmas.Room.{total}
use Rattle.agreement.proofs.PlacesLemmas.Counting.{global_arrays, global_arrays_are, global_iterators, global_values, globals_may, local_arrays, local_values}
use Rattle.agreement.proofs.PlacesLemmas.Numbers.{found_below, length_counted}
use Rattle.agreement.proofs.PlacesLemmas.Totals.{arrays_exact, names_exact, wanted_exact}
use Rattle.agreement.proofs.PlacesLemmas.Waiting.{iterators_counted, values_counted}

pub words_for_places : (os : List (Option Sort)) (ws : List Word) → EachPlace os ws → length os ≡ length ws
words_for_places [] [] h = refl
words_for_places [] (w ∷ ws) h = absurd h
words_for_places (o ∷ os) [] h = absurd h
words_for_places (o ∷ os) (I32 n ∷ ws) h = ap suc (words_for_places os ws h)
words_for_places (o ∷ os) (I64 n ∷ ws) h = ap suc (words_for_places os ws h.1)

module _ (N : Names) (stand : NumbersStand N) where
  wanted_below : (t : Sort) (q : ℕ) → 1 ≤ wanted N t q → q < 2 ^ 31
  wanted_below sort.Value q l = found_below (2 ^ 31) N.values q stand.values l
  wanted_below sort.Number q l = absurd (omega (arith, l))
  wanted_below sort.Array q l = by (nat_lt q 2) l
    where
      by : (b : Bool) → 1 ≤ cond b 0 (there (look N.arrays (pos q))) → q < 2 ^ 31
      by true k = absurd (omega (arith, k))
      by false k = found_below (2 ^ 31) N.arrays q stand.arrays k
  wanted_below sort.Iterator q l = found_below (2 ^ 31) N.iterators q stand.iterators l

  values_are : length N.values ≡ total (λ q. wanted N sort.Value q) 0 (2 ^ 31)
  values_are = length_counted (2 ^ 31) N.values stand.values

  arrays_are : length N.arrays ≡ 2 + total (λ q. wanted N sort.Array q) 0 (2 ^ 31)
  arrays_are = length_counted (2 ^ 31) N.arrays stand.arrays ∙ arrays_exact N stand.argv stand.environ

  iterators_are : length N.iterators ≡ total (λ q. wanted N sort.Iterator q) 0 (2 ^ 31)
  iterators_are = length_counted (2 ^ 31) N.iterators stand.iterators

module _ (p : Program) where
  -- WHERE A STATEMENT BEGINS

  module _ (c : Conf) (s : HostState) (here : AtStatement p c s) where
    counted : (t : Sort) → total (λ q. wanted s.names t q) 0 (2 ^ 31) ≡ count t here.held.own + (count t here.held.globals + count_waiting t here.held.waiting)
    counted t =
        wanted_exact s.names t (wanted_below s.names here.held.numbers t) p here.held.own here.held.globals here.held.waiting c.frame.locals c.globals c.callers
        here.held.each_local here.held.each_global here.called_by.waits (here.held.once t)

    pub values_alive : live_values s ≤ scalars (kinds_of p.globals) + (boxed here.at.function.kinds + values_waiting p here.held.waiting c.callers here.called_by.waits)
    values_alive =
        let l = values_are s.names here.held.numbers in
        let v = counted sort.Value in
        let a = local_values here.at.function.kinds here.held.own here.by_kinds.locals_hold in
        let b = global_values (first_name p) (kinds_of p.globals) here.held.globals (globals_may (first_name p) (kinds_of p.globals) here.held.globals here.by_kinds.names_hold) in
        let w = values_counted p here.held.waiting c.callers here.called_by.waits in
        omega (arith, l, v, a, b, w)

    pub arrays_alive : live_arrays s ≡ 2 + (array_kinds (kinds_of p.globals) + count_waiting sort.Array here.held.waiting)
    arrays_alive =
        let l = arrays_are s.names here.held.numbers in
        let r = counted sort.Array in
        let a = local_arrays here.at.function.kinds here.held.own here.by_kinds.locals_hold in
        let b = global_arrays_are (first_name p) (kinds_of p.globals) here.held.globals here.by_kinds.names_hold in
        omega (arith, l, r, a, b)

    pub iterators_alive : live_iterators s ≡ walks (numbers_of p) c.frame.labels + walks_waiting (numbers_of p) c.callers
    iterators_alive =
        let l = iterators_are s.names here.held.numbers in
        let i = counted sort.Iterator in
        let a = here.by_kinds.walked in
        let b = global_iterators (first_name p) (kinds_of p.globals) here.held.globals (globals_may (first_name p) (kinds_of p.globals) here.held.globals here.by_kinds.names_hold) in
        let w = iterators_counted p here.held.waiting c.callers here.called_by.waits in
        omega (arith, l, i, a, b, w)

  -- WHERE `main` HAS RETURNED

  module _ (c : Conf) (s : HostState) (here : AtReturn p c s) where
    counted_left : (t : Sort) → total (λ q. wanted s.names t q) 0 (2 ^ 31) ≡ count t here.globals
    counted_left t = names_exact s.names t (wanted_below s.names here.numbers t) here.globals c.globals here.each_global (here.once t)

    pub values_left : live_values s ≤ scalars (kinds_of p.globals)
    values_left =
        let l = values_are s.names here.numbers in
        let v = counted_left sort.Value in
        let b = global_values (first_name p) (kinds_of p.globals) here.globals here.names_hold in
        omega (arith, l, v, b)

    pub arrays_left : live_arrays s ≤ 2 + array_kinds (kinds_of p.globals)
    arrays_left =
        let l = arrays_are s.names here.numbers in
        let r = counted_left sort.Array in
        let b = global_arrays (first_name p) (kinds_of p.globals) here.globals here.names_hold in
        omega (arith, l, r, b)

    pub iterators_left : live_iterators s ≡ 0
    iterators_left =
        let l = iterators_are s.names here.numbers in
        let i = counted_left sort.Iterator in
        let b = global_iterators (first_name p) (kinds_of p.globals) here.globals here.names_hold in
        omega (arith, l, i, b)
