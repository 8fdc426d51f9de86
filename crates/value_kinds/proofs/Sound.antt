-- The lanes that are found box each name into which something else than a number is stored, and leave a program well sorted.
use Rattle.std.proofs.Common.{◌≡◌, inl, ℕ, zero, suc, ◌+◌, Bool, true, false, not, ◌&&◌, ◌||◌, List, [], ◌∷◌, ◌++◌, Option, Some, None, is_some, map, refl, sym, ap, ◌∙◌, subst, arith, if◌then◌else◌}
use Rattle.std.proofs.lemmas.Bool.{and_parts, and_from}
use Rattle.std.proofs.lemmas.Float.{T_from_true}
use Rattle.mid_program.specs.Mid.{Kind, Slot, Global, Parameter, Steps, Declared, Routine, Program, parameters_at}
use Rattle.mid_program.specs.Sorted.{Context, are_lenders, calls_of, is_bare, is_mixed, is_number, kinds_of, lender_at, mixed_of, arrays_among, context_of, steps_sorted, routines_sorted, announced_names, all_differ, parts_sorted, is_sorted, IsSorted}
use Rattle.mid_program.proofs.Sorted.{copy_of, from_T}
use Rattle.value_kinds.specs.Applied.{is_unboxed, slot_in, kind_with, kinds_with, globals_with, lenders_with, steps_with, routines_with, apply}
use Rattle.value_kinds.specs.Found.{GlobalTakes, InRoutines, ParameterNumber, Throughout, is_scalar}
use Rattle.value_kinds.specs.Lanes.{Lanes, close_at, close_in, is_copy, is_passed, unless, marked, opened, at_first, function_count, walked, no_names, numbers_alone, scanned, lenders_of, first_walk, infer}
use Rattle.mid_program.specs.Stores.{Store, Into, Given, Asked, Every, steps_stores}
use Rattle.value_kinds.proofs.Applies.{same_many}
use Rattle.value_kinds.proofs.Boxed.{at_closed, at_closed_in, close_below, close_in_below, opened_scalar, opened_scalar_in}
use Rattle.value_kinds.proofs.Finds.{finds}
use Rattle.value_kinds.proofs.Forms.{clash}
use Rattle.value_kinds.proofs.Lending.{Noticed, all_lend, free_opened, lender_says, lenders_stay, none_lends, not_lent, scan_noticed}
use Rattle.value_kinds.proofs.NameKinds.{globals_unboxed}
use Rattle.value_kinds.proofs.Visits.{visits_below, visits_kept}
use Rattle.value_kinds.proofs.Throughout.{throughout_gives, throughout_says}
use Rattle.value_kinds.proofs.Sorted.{Fine, calls_with, context_with, steps_kept}

-- what is unboxed in the second is so in the first
record Below (l m : Lanes) : Type 0 where
  globals : (i : ℕ) → is_unboxed m.globals i ≡ true → is_unboxed l.globals i ≡ true
  parameters : (f i : ℕ) → is_unboxed (parameters_at m.parameters f) i ≡ true → is_unboxed (parameters_at l.parameters f) i ≡ true

below_self : (l : Lanes) → Below l l
below_self l = record { globals = λ i h. h; parameters = λ f i h. h }

below_then : (l m n : Lanes) → Below l m → Below m n → Below l n
below_then l m n a b = record { globals = λ i h. a.globals i (b.globals i h); parameters = λ f i h. a.parameters f i (b.parameters f i h) }

below_unless : (b : Bool) (l m : Lanes) → Below l m → Below l (unless b l m)
below_unless true l m h = below_self l
below_unless false l m h = h

-- a walk where copies of the names in n count
module _ (n : Lanes) where
  marked_below : (g : ℕ) (l : Lanes) (s : Store) → Below l (marked n g l s)
  marked_below g l (Into (Global u i) o f) =
      below_unless (is_number f || is_copy n g o) l (record l { globals = close_at l.globals i }) (record { globals = λ j h. close_below l.globals i j h; parameters = λ k j h. h })
  marked_below g l (Into (Parameter u i) o f) =
      below_unless (not (is_some (lender_at n.lenders i)) && is_number f) l (record l { parameters = close_in l.parameters g i })
      (record { globals = λ j h. h; parameters = λ k j h. close_in_below l.parameters g i k j h })
  marked_below g l (Given h i o f) =
      below_unless (is_passed (lender_at n.lenders i) o f) l (record l { parameters = close_in l.parameters h i })
      (record { globals = λ j e. e; parameters = λ k j e. close_in_below l.parameters h i k j e })
  marked_below g l Asked = below_self l

  -- a store that is marked is one of a number, or its name is boxed; into a global it may be a copy that counts, and for a parameter a copy of what lends

  abbrev Kept : Lanes → ℕ → Store → Type 0
  Kept l g (Into (Global u i) o f) = is_unboxed l.globals i ≡ true → (is_number f || is_copy n g o) ≡ true
  Kept l g (Into (Parameter u i) o f) = is_unboxed (parameters_at l.parameters g) i ≡ true → (not (is_some (lender_at n.lenders i)) && is_number f) ≡ true
  Kept l g (Given h i o f) = is_unboxed (parameters_at l.parameters h) i ≡ true → is_passed (lender_at n.lenders i) o f ≡ true
  Kept l g Asked = Unit {0}

  kept_below : (l m : Lanes) (g : ℕ) (s : Store) → Below l m → Kept l g s → Kept m g s
  kept_below l m g (Into (Global u i) o f) b h = λ e. h (b.globals i e)
  kept_below l m g (Into (Parameter u i) o f) b h = λ e. h (b.parameters g i e)
  kept_below l m g (Given k i o f) b h = λ e. h (b.parameters k i e)
  kept_below l m g Asked b h = tt

  global_by : (b : Bool) (l : Lanes) (i : ℕ) → is_unboxed (unless b l (record l { globals = close_at l.globals i })).globals i ≡ true → b ≡ true
  global_by true l i h = refl
  global_by false l i h = absurd (at_closed l.globals i h)

  parameter_by : (b : Bool) (l : Lanes) (g i : ℕ) → is_unboxed (parameters_at (unless b l (record l { parameters = close_in l.parameters g i })).parameters g) i ≡ true → b ≡ true
  parameter_by true l g i h = refl
  parameter_by false l g i h = absurd (at_closed_in l.parameters g i h)

  marked_kept : (g : ℕ) (l : Lanes) (s : Store) → Kept (marked n g l s) g s
  marked_kept g l (Into (Global u i) o f) = λ e. global_by (is_number f || is_copy n g o) l i e
  marked_kept g l (Into (Parameter u i) o f) = λ e. parameter_by (not (is_some (lender_at n.lenders i)) && is_number f) l g i e
  marked_kept g l (Given k i o f) = λ e. parameter_by (is_passed (lender_at n.lenders i) o f) l k i e
  marked_kept g l Asked = tt

  walk_below : (p : Program) → Below (at_first p) (walked n p)
  walk_below p = visits_below (marked n) Below below_self below_then marked_below (at_first p) p

  walk_kept : (p : Program) → Throughout (Kept (walked n p)) p
  walk_kept p = visits_kept (marked n) Below below_self below_then marked_below Kept kept_below marked_kept (at_first p) p

-- both walks

-- whether copies are stored into an unboxed global of a program with lanes
abbrev mixed_in : Lanes → Program → List Bool
mixed_in l p = mixed_of (apply l p).globals

abbrev FineBy : Lanes → Program → ℕ → Store → Type 0
FineBy l p g s = Fine l.globals (mixed_in l p) l.lenders (parameters_at l.parameters g) (parameters_at l.parameters) s

mixed_there : (u n : ℕ → Bool) (ds : List Declared) (i : ℕ) → is_unboxed (map opened (kinds_of ds)) i ≡ true → is_mixed (mixed_of (globals_with u n ds)) i ≡ (u i && not (n i))
mixed_there u n [] i h = clash h
mixed_there u n (d ∷ ds) zero h = refl
mixed_there u n (d ∷ ds) (suc i) h = mixed_there (λ j. u (suc j)) (λ j. n (suc j)) ds i h

-- u: unboxed, n: numbers alone are stored, m: mixed; b: a number is stored, c: a copy that counts, d: a copy of an unboxed name
number_or_copy : (u n m b c d : Bool) → u ≡ true → m ≡ (u && not n) → (n ≡ true → b ≡ true) → (b || c) ≡ true → (c ≡ true → d ≡ true) → (b || (m && d)) ≡ true
number_or_copy u n m true c d e h k o p = refl
number_or_copy u true m false c d e h k o p = clash (k refl)
number_or_copy true false m false c d e h k o p = ap (λ (x : Bool). x && d) h ∙ p o
number_or_copy false false m false c d e h k o p = clash e

copy_of_none : (b : Bool) (g : ℕ) (o : Option Slot) → (b || is_copy no_names g o) ≡ true → b ≡ true
copy_of_none true g o h = refl
copy_of_none false g None h = h
copy_of_none false g (Some (Global u i)) h = h
copy_of_none false g (Some (Parameter u i)) h = h

module _ (p : Program) where
  abbrev first : Lanes
  first = first_walk p

  -- into what is unboxed after the first walk numbers alone are stored, so it is unboxed after the second

  global_number : (i : ℕ) → is_unboxed first.globals i ≡ true → (g : ℕ) (s : Store) → Kept no_names (numbers_alone p) g s → GlobalTakes p i g s
  global_number i h g (Into (Global u j) o f) k = λ e. inl (copy_of_none (is_number f) g o (k (ap (is_unboxed first.globals) (sym e) ∙ h)))
  global_number i h g (Into (Parameter u j) o f) k = tt
  global_number i h g (Given l j o f) k = tt
  global_number i h g Asked k = tt

  parameter_number : (h i : ℕ) → is_unboxed (parameters_at first.parameters h) i ≡ true → (g : ℕ) (s : Store) → Kept no_names (numbers_alone p) g s → ParameterNumber h i g s
  parameter_number h i u g (Into (Global v j) o f) k = tt
  parameter_number h i u g (Into (Parameter v j) o f) k = λ d e. k ((λ x. is_unboxed (parameters_at first.parameters (sym d x)) (sym e x)) ∙ u)
  parameter_number h i u g (Given l j o f) k = λ d e. k ((λ x. is_unboxed (parameters_at first.parameters (sym d x)) (sym e x)) ∙ u)
  parameter_number h i u g Asked k = tt

  global_again : (i : ℕ) → is_unboxed first.globals i ≡ true → is_unboxed (infer p).globals i ≡ true
  global_again i h =
      (finds p).globals i (opened_scalar (kinds_of p.globals) i ((walk_below no_names p).globals i h))
      (throughout_says (Kept no_names (numbers_alone p)) (GlobalTakes p i) (global_number i h) p (walk_kept no_names p))

  parameter_again : (f i : ℕ) → is_unboxed (parameters_at first.parameters f) i ≡ true → is_unboxed (parameters_at (infer p).parameters f) i ≡ true
  parameter_again f i h =
      ((finds p).parameters f i (opened_scalar_in (calls_of p) f i ((walk_below no_names p).parameters f i h))
      (throughout_says (Kept no_names (numbers_alone p)) (ParameterNumber f i) (parameter_number f i h) p (walk_kept no_names p))).0

  copy_again : (g : ℕ) (o : Option Slot) → is_copy first g o ≡ true → is_bare (copy_of (slot_in (infer p).globals (parameters_at (infer p).parameters g)) o) ≡ true
  copy_again g None h = h
  copy_again g (Some (Global u i)) h = global_again i h
  copy_again g (Some (Parameter u i)) h = parameter_again g i h

  -- nothing is stored into what lends, so it is unboxed

  nothing_stored : (i : ℕ) → is_unboxed (scanned p).free i ≡ true → (g : ℕ) (s : Store) → Noticed (scanned p) g s → GlobalTakes p i g s
  nothing_stored i h g (Into (Global u j) o f) n = λ e. absurd (n (ap (is_unboxed (scanned p).free) (sym e) ∙ h))
  nothing_stored i h g (Into (Parameter u j) o f) n = tt
  nothing_stored i h g (Given l j o f) n = tt
  nothing_stored i h g Asked n = tt

  lender_unboxed : (i g : ℕ) → lender_at (infer p).lenders i ≡ Some g → is_unboxed (infer p).globals g ≡ true
  lender_unboxed i g e =
      let free = (lender_says p i g e).1 in
      (finds p).globals g (opened_scalar (kinds_of p.globals) g (free_opened p g free))
      (throughout_says (Noticed (scanned p)) (GlobalTakes p g) (nothing_stored g free) p (scan_noticed p))

  walks_fine : (g : ℕ) (s : Store) → Kept no_names (numbers_alone p) g s → Kept first (walked first p) g s → Noticed (scanned p) g s → FineBy (infer p) p g s
  walks_fine g (Into (Global u i) o f) k l n = (
    not_lent (lenders_of p) i (λ j e. n (lender_says p j i e).1),
    λ e.
        number_or_copy (is_unboxed (infer p).globals i) (is_unboxed (infer p).numbers i) (is_mixed (mixed_in (infer p) p) i) (is_number f) (is_copy first g o)
        (is_bare (copy_of (slot_in (infer p).globals (parameters_at (infer p).parameters g)) o)) e
        (mixed_there (is_unboxed (infer p).globals) (is_unboxed (infer p).numbers) p.globals i ((walk_below first p).globals i e)) (λ h. copy_of_none (is_number f) g o (k h)) (l e) (copy_again g o),
  )
  walks_fine g (Into (Parameter u i) o f) k l n = l
  walks_fine g (Given h i o f) k l n = l
  walks_fine g Asked k l n = none_lends (lenders_of p) (λ i h e. clash (sym (lender_says p i h e).0 ∙ n))

  abbrev BothKept : ℕ → Store → Type 0
  BothKept g s = Kept no_names (numbers_alone p) g s × Kept first (walked first p) g s

  infer_fine : Throughout (FineBy (infer p) p) p
  infer_fine =
      throughout_gives BothKept (Noticed (scanned p)) (FineBy (infer p) p) (λ g s k n. walks_fine g s k.0 k.1 n) p
      (throughout_gives (Kept no_names (numbers_alone p)) (Kept first (walked first p)) BothKept (λ g s k l. (k, l)) p (walk_kept no_names p) (walk_kept first p)) (scan_noticed p)

-- there are no parameters where no function is
parameters_past : (rs : List Routine) (i : ℕ) → is_unboxed (parameters_at (map (map opened) (map (λ (r : Routine). r.parameters) rs)) (function_count rs)) i ≡ true → ⊥
parameters_past [] i h = clash h
parameters_past (r ∷ rs) i h = parameters_past rs i h

-- programs

globals_names : (u n : ℕ → Bool) (ds : List Declared) → map (λ (d : Declared). d.name) (globals_with u n ds) ≡ map (λ (d : Declared). d.name) ds
globals_names u n [] = refl
globals_names u n (d ∷ ds) = ap (λ (ns : List (List ℕ)). d.name ∷ ns) (globals_names (λ i. u (suc i)) (λ i. n (suc i)) ds)

routines_names : (gs : List Kind) (ps : ℕ → List Kind) (rs : List Routine) → map (λ (r : Routine). r.name) (routines_with gs ps rs) ≡ map (λ (r : Routine). r.name) rs
routines_names gs ps [] = refl
routines_names gs ps (r ∷ rs) = ap (λ (ns : List (List ℕ)). r.name ∷ ns) (routines_names gs (λ f. ps (suc f)) rs)

globals_kinds : (u n : ℕ → Bool) (ds : List Declared) → kinds_with u (kinds_of ds) ≡ kinds_of (globals_with u n ds)
globals_kinds u n [] = refl
globals_kinds u n (d ∷ ds) = ap (λ (ks : List Kind). kind_with (u zero) d.kind ∷ ks) (globals_kinds (λ i. u (suc i)) (λ i. n (suc i)) ds)

routines_kinds : (gs : List Kind) (ps : ℕ → List Kind) (rs : List Routine) → calls_with ps (map (λ (r : Routine). r.parameters) rs) ≡ map (λ (r : Routine). r.parameters) (routines_with gs ps rs)
routines_kinds gs ps [] = refl
routines_kinds gs ps (r ∷ rs) = ap (λ (kss : List (List Kind)). kinds_with (is_unboxed (ps zero)) r.parameters ∷ kss) (routines_kinds gs (λ f. ps (suc f)) rs)

arrays_kept : (u n : ℕ → Bool) (ds : List Declared) → arrays_among ds ≡ arrays_among (globals_with u n ds)
arrays_kept u n [] = refl
arrays_kept u n (d ∷ ds) =
    let rest = arrays_kept (λ j. u (suc j)) (λ j. n (suc j)) ds in
    λ i. if same_many (u zero) d.kind i then suc (rest i) else rest i

-- lenders that stay, and are unboxed scalars
record Lending (l : Lanes) (p : Program) : Type 0 where
  stay : lenders_with (lender_at l.lenders) p.lenders ≡ l.lenders
  unboxed : (i g : ℕ) → lender_at l.lenders i ≡ Some g → is_unboxed l.globals g ≡ true
  scalar : (i g : ℕ) → lender_at l.lenders i ≡ Some g → is_scalar (kinds_of p.globals) g ≡ true

module _ (l : Lanes) (p : Program) (L : Lending l p) where
  context_kept : (own ks : List Kind) →
      context_with l.globals (mixed_in l p) l.lenders own (parameters_at l.parameters) (context_of p ks) ≡ context_of (apply l p) (kinds_with (is_unboxed own) ks)
  context_kept own ks = λ i. record (context_of (apply l p) (kinds_with (is_unboxed own) ks)) {
    globals = globals_kinds (is_unboxed l.globals) (is_unboxed l.numbers) p.globals i;
    arrays = suc (suc (arrays_kept (is_unboxed l.globals) (is_unboxed l.numbers) p.globals i));
    calls = routines_kinds l.globals (parameters_at l.parameters) p.routines i;
    lenders = sym L.stay i;
  }

  -- where the names of a piece of code have the lanes own
  abbrev FineIn : List Kind → Store → Type 0
  FineIn own s = Fine l.globals (mixed_in l p) l.lenders own (parameters_at l.parameters) s

  body_kept : (own ks : List Kind) (r : Bool) (ss : Steps) → steps_sorted (context_of p ks) r false ss ≡ true → Every (FineIn own) (steps_stores ss) →
      steps_sorted (context_of (apply l p) (kinds_with (is_unboxed own) ks)) r false (steps_with l.globals own ss) ≡ true
  body_kept own ks r ss h v =
      subst (λ (c : Context). steps_sorted c r false (steps_with l.globals own ss) ≡ true) (context_kept own ks)
      (steps_kept l.globals (mixed_in l p) l.lenders own (parameters_at l.parameters) L.unboxed (context_of p ks) r false ss h v)

  bodies_kept : (g : ℕ) (ps : ℕ → List Kind) → ((f : ℕ) → ps f ≡ parameters_at l.parameters (g + f)) → (rs : List Routine) → routines_sorted p rs ≡ true → InRoutines (FineBy l p) g rs →
      routines_sorted (apply l p) (routines_with l.globals ps rs) ≡ true
  bodies_kept g ps q [] h v = refl
  bodies_kept g ps q (r ∷ rs) h v =
      let both = and_parts (steps_sorted (context_of p r.parameters) true false r.body) (routines_sorted p rs) h in
      let own : parameters_at l.parameters g ≡ ps zero = ap (parameters_at l.parameters) (omega arith) ∙ sym (q zero) in
      and_from (steps_sorted (context_of (apply l p) (kinds_with (is_unboxed (ps zero)) r.parameters)) true false (steps_with l.globals (ps zero) r.body))
      (routines_sorted (apply l p) (routines_with l.globals (λ f. ps (suc f)) rs))
      (body_kept (ps zero) r.parameters true r.body both.0 (subst (λ (ks : List Kind). Every (FineIn ks) (steps_stores r.body)) own v.0))
      (bodies_kept (suc g) (λ f. ps (suc f)) (λ f. q (suc f) ∙ ap (parameters_at l.parameters) (omega arith)) rs both.1 v.1)

  -- main has no names of its own

  boxed_there : (b : Bool) → (b ≡ true → ⊥) → b ≡ false
  boxed_there true h = absurd (h refl)
  boxed_there false h = refl

  bare_nowhere : (own : List Kind) → ((i : ℕ) → is_unboxed own i ≡ true → ⊥) → (o : Option Slot) → is_bare (copy_of (slot_in l.globals []) o) ≡ is_bare (copy_of (slot_in l.globals own) o)
  bare_nowhere own h None = refl
  bare_nowhere own h (Some (Global u i)) = refl
  bare_nowhere own h (Some (Parameter u i)) = sym (boxed_there (is_unboxed own i) (h i))

  nowhere : (g : ℕ) → ((i : ℕ) → is_unboxed (parameters_at l.parameters g) i ≡ true → ⊥) → (ss : List Store) → Every (FineBy l p g) ss → Every (FineIn []) ss
  nowhere g h [] v = tt
  nowhere g h (Into (Global u i) o f ∷ ss) v =
      ((v.0.0, λ e. ap (λ (b : Bool). is_number f || (is_mixed (mixed_in l p) i && b)) (bare_nowhere (parameters_at l.parameters g) h o) ∙ v.0.1 e), nowhere g h ss v.1)
  nowhere g h (Into (Parameter u i) o f ∷ ss) v = (λ e. clash e, nowhere g h ss v.1)
  nowhere g h (Given k i o f ∷ ss) v = (v.0, nowhere g h ss v.1)
  nowhere g h (Asked ∷ ss) v = (v.0, nowhere g h ss v.1)

  lenders_kept : are_lenders (kinds_of (apply l p).globals) (apply l p).lenders ≡ true
  lenders_kept =
      ap (are_lenders (kinds_of (apply l p).globals)) L.stay
      ∙ all_lend (kinds_of (apply l p).globals) l.lenders (λ i g e. globals_unboxed (is_unboxed l.globals) (is_unboxed l.numbers) p.globals g (L.unboxed i g e) (L.scalar i g e))

  apply_sorted : ((i : ℕ) → is_unboxed (parameters_at l.parameters (function_count p.routines)) i ≡ true → ⊥) → Throughout (FineBy l p) p → is_sorted p ≡ true → is_sorted (apply l p) ≡ true
  apply_sorted past v h =
      let a = and_parts (all_differ (announced_names p)) _ h in
      let e = and_parts (are_lenders (kinds_of p.globals) p.lenders) _ a.1 in
      let b = and_parts (routines_sorted p p.routines) (parts_sorted p (context_of p [])) e.1 in
      let c = and_parts (steps_sorted (context_of p []) false false p.begin) _ b.1 in
      let d = and_parts (steps_sorted (context_of p []) false false p.items) (steps_sorted (context_of p []) false false p.end) c.1 in
      let none = function_count p.routines in
      let main : (ss : Steps) → steps_sorted (context_of p []) false false ss ≡ true → Every (FineBy l p none) (steps_stores ss) → steps_sorted (context_of (apply l p) []) false false (steps_with l.globals [] ss) ≡ true =
      λ ss x y. body_kept [] [] false ss x (nowhere none past (steps_stores ss) y) in
      let announced : announced_names (apply l p) ≡ announced_names p = λ i. globals_names (is_unboxed l.globals) (is_unboxed l.numbers) p.globals i ++ routines_names l.globals (parameters_at l.parameters) p.routines i in
      and_from _ _ (ap all_differ announced ∙ a.0)
      (and_from _ _ lenders_kept
      (and_from _ _ (bodies_kept 0 (parameters_at l.parameters) (λ f. ap (parameters_at l.parameters) (omega arith)) p.routines b.0 v.0)
      (and_from _ _ (main p.begin c.0 v.1.0) (and_from _ _ (main p.items d.0 v.1.1.0) (main p.end d.1 v.1.1.1)))))

infer_lends : (p : Program) → Lending (infer p) p
infer_lends p = record {
  stay = lenders_stay p;
  unboxed = lender_unboxed p;
  scalar = λ i g e. opened_scalar (kinds_of p.globals) g (free_opened p g (lender_says p i g e).1);
}

pub found_sorted : (p : Program) → IsSorted p → IsSorted (apply (infer p) p)
found_sorted p h =
    T_from_true (is_sorted (apply (infer p) p))
    (apply_sorted (infer p) p (infer_lends p) (λ i u. parameters_past p.routines i ((walk_below (first_walk p) p).parameters (function_count p.routines) i u)) (infer_fine p) (from_T (is_sorted p) h))
