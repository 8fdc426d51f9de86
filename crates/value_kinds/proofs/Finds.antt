-- The lanes that are found unbox each scalar into which numbers alone are stored, and each global into which copies of such scalars are stored besides.
use Rattle.std.proofs.Common.{◌≡◌, ◌⊎◌, inl, inr, ℕ, zero, suc, Bool, true, false, not, ◌&&◌, ◌||◌, List, [], ◌∷◌, Option, Some, None, is_some, map, refl, sym, ap, ◌∙◌}
use Rattle.mid_program.specs.Mid.{Kind, Boxed, Unboxed, ArrayKind, Slot, Global, Parameter, Form, Program, parameters_at}
use Rattle.mid_program.specs.Sorted.{is_number, kinds_of, calls_of, lender_at}
use Rattle.value_kinds.specs.Applied.{is_unboxed}
use Rattle.value_kinds.specs.Found.{CopiesNumbers, GlobalNumber, GlobalTakes, ParameterNumber, Throughout, is_scalar, FindsNumbers}
use Rattle.value_kinds.specs.Lanes.{Lanes, opened, close_at, close_in, is_copy, is_passed, is_plain, unless, marked, at_first, walked, no_names, numbers_alone, first_walk, infer}
use Rattle.mid_program.specs.Stores.{Store, Into, Given, Asked}
use Rattle.value_kinds.proofs.Forms.{clash}
use Rattle.value_kinds.proofs.Lending.{no_lender}
use Rattle.value_kinds.proofs.Visits.{visits_keep}

-- at first

opened_at : (ks : List Kind) (i : ℕ) → is_scalar ks i ≡ true → is_unboxed (map opened ks) i ≡ true
opened_at [] i h = clash h
opened_at (ArrayKind ∷ ks) zero h = clash h
opened_at (Boxed ∷ ks) zero h = refl
opened_at (Unboxed ∷ ks) zero h = refl
opened_at (ArrayKind ∷ ks) (suc i) h = opened_at ks i h
opened_at (Boxed ∷ ks) (suc i) h = opened_at ks i h
opened_at (Unboxed ∷ ks) (suc i) h = opened_at ks i h

opened_in : (kss : List (List Kind)) (f i : ℕ) → is_scalar (parameters_at kss f) i ≡ true → is_unboxed (parameters_at (map (map opened) kss) f) i ≡ true
opened_in [] f i h = clash h
opened_in (ks ∷ kss) zero i h = opened_at ks i h
opened_in (ks ∷ kss) (suc f) i h = opened_in kss f i h

-- others are boxed

close_other : (ks : List Kind) (i j : ℕ) → (i ≡ j → ⊥) → is_unboxed ks i ≡ true → is_unboxed (close_at ks j) i ≡ true
close_other [] i j ne h = h
close_other (k ∷ ks) zero zero ne h = absurd (ne refl)
close_other (k ∷ ks) zero (suc j) ne h = h
close_other (k ∷ ks) (suc i) zero ne h = h
close_other (k ∷ ks) (suc i) (suc j) ne h = close_other ks i j (λ e. ne (ap suc e)) h

close_others : (kss : List (List Kind)) (f i g j : ℕ) → (f ≡ g → i ≡ j → ⊥) → is_unboxed (parameters_at kss f) i ≡ true → is_unboxed (parameters_at (close_in kss g j) f) i ≡ true
close_others [] f i g j ne h = h
close_others (ks ∷ kss) zero i zero j ne h = close_other ks i j (λ e. ne refl e) h
close_others (ks ∷ kss) zero i (suc g) j ne h = h
close_others (ks ∷ kss) (suc f) i zero j ne h = h
close_others (ks ∷ kss) (suc f) i (suc g) j ne h = close_others kss f i g j (λ e q. ne (ap suc e) q) h

-- one store

unless_globals : (b : Bool) (l : Lanes) (kss : List (List Kind)) → (unless b l (record l { parameters = kss })).globals ≡ l.globals
unless_globals true l kss = refl
unless_globals false l kss = refl

unless_parameters : (b : Bool) (l : Lanes) (ks : List Kind) → (unless b l (record l { globals = ks })).parameters ≡ l.parameters
unless_parameters true l ks = refl
unless_parameters false l ks = refl

global_by : (b : Bool) (l : Lanes) (i j : ℕ) → (i ≡ j → b ≡ true) → is_unboxed l.globals i ≡ true → is_unboxed (unless b l (record l { globals = close_at l.globals j })).globals i ≡ true
global_by true l i j n h = h
global_by false l i j n h = close_other l.globals i j (λ q. clash (n q)) h

parameter_by : (b : Bool) (l : Lanes) (f i g j : ℕ) → (f ≡ g → i ≡ j → b ≡ true) → is_unboxed (parameters_at l.parameters f) i ≡ true →
    is_unboxed (parameters_at (unless b l (record l { parameters = close_in l.parameters g j })).parameters f) i ≡ true
parameter_by true l f i g j n h = h
parameter_by false l f i g j n h = close_others l.parameters f i g j (λ e q. clash (n e q)) h

-- a walk where copies of the names in n count
module _ (n : Lanes) where
  -- what is stored into this global is a number, or such a copy
  abbrev Stays : ℕ → ℕ → Store → Type 0
  Stays i g (Into (Global u j) o f) = i ≡ j → (is_number f || is_copy n g o) ≡ true
  Stays i g (Into (Parameter u j) o f) = Unit {0}
  Stays i g (Given k j o f) = Unit {0}
  Stays i g Asked = Unit {0}

  mark_global : (i g : ℕ) (l : Lanes) (s : Store) → Stays i g s → is_unboxed l.globals i ≡ true → is_unboxed (marked n g l s).globals i ≡ true
  mark_global i g l (Into (Global u j) o f) e h = global_by (is_number f || is_copy n g o) l i j e h
  mark_global i g l (Into (Parameter u j) o f) e h =
      ap (λ (ks : List Kind). is_unboxed ks i) (unless_globals (not (is_some (lender_at n.lenders j)) && is_number f) l (close_in l.parameters g j)) ∙ h
  mark_global i g l (Given k j o f) e h = ap (λ (ks : List Kind). is_unboxed ks i) (unless_globals (is_passed (lender_at n.lenders j) o f) l (close_in l.parameters k j)) ∙ h
  mark_global i g l Asked e h = h

  -- where nothing lends, a number is stored into a parameter, and a number or nothing is given for it
  module _ (i : ℕ) (none : lender_at n.lenders i ≡ None) where
    none_at : (j : ℕ) → i ≡ j → lender_at n.lenders j ≡ None
    none_at j e = ap (lender_at n.lenders) (sym e) ∙ none

    number_stored : (j : ℕ) (b : Bool) → i ≡ j → b ≡ true → (not (is_some (lender_at n.lenders j)) && b) ≡ true
    number_stored j b e h = λ k. not (is_some (none_at j e k)) && h k

    plain_given : (j : ℕ) (o : Option Slot) (x : Form) → i ≡ j → is_plain x ≡ true → is_passed (lender_at n.lenders j) o x ≡ true
    plain_given j o x e h = ap (λ (a : Option ℕ). is_passed a o x) (none_at j e) ∙ h

    mark_parameter : (f g : ℕ) (l : Lanes) (s : Store) → ParameterNumber f i g s → is_unboxed (parameters_at l.parameters f) i ≡ true → is_unboxed (parameters_at (marked n g l s).parameters f) i ≡ true
    mark_parameter f g l (Into (Global u j) o x) e h =
        ap (λ (kss : List (List Kind)). is_unboxed (parameters_at kss f) i) (unless_parameters (is_number x || is_copy n g o) l (close_at l.globals j)) ∙ h
    mark_parameter f g l (Into (Parameter u j) o x) e h =
        parameter_by (not (is_some (lender_at n.lenders j)) && is_number x) l f i g j (λ d q. number_stored j (is_number x) q (e d q)) h
    mark_parameter f g l (Given k j o x) e h = parameter_by (is_passed (lender_at n.lenders j) o x) l f i k j (λ d q. plain_given j o x q (e d q)) h
    mark_parameter f g l Asked e h = h

    parameter_found : (p : Program) (f : ℕ) → is_scalar (parameters_at (calls_of p) f) i ≡ true → Throughout (ParameterNumber f i) p → is_unboxed (parameters_at (walked n p).parameters f) i ≡ true
    parameter_found p f s t = visits_keep (marked n) (ParameterNumber f i) (λ l. is_unboxed (parameters_at l.parameters f) i ≡ true) (mark_parameter f) (at_first p) p t (opened_in (calls_of p) f i s)

number_stays : (i g : ℕ) (s : Store) → GlobalNumber i g s → Stays no_names i g s
number_stays i g (Into (Global u j) o f) h = λ e. ap (λ (b : Bool). b || is_copy no_names g o) (h e)
number_stays i g (Into (Parameter u j) o f) h = tt
number_stays i g (Given k j o f) h = tt
number_stays i g Asked h = tt

number_found : (p : Program) (i : ℕ) → is_scalar (kinds_of p.globals) i ≡ true → Throughout (GlobalNumber i) p → is_unboxed (numbers_alone p).globals i ≡ true
number_found p i s t =
    visits_keep (marked no_names) (GlobalNumber i) (λ l. is_unboxed l.globals i ≡ true) (λ g l x h. mark_global no_names i g l x (number_stays i g x h)) (at_first p) p t
    (opened_at (kinds_of p.globals) i s)

module _ (p : Program) where
  counts : (g : ℕ) (o : Option Slot) → CopiesNumbers p g o → is_copy (first_walk p) g o ≡ true
  counts g None c = absurd c
  counts g (Some (Global u j)) c = number_found p j c.0 c.1
  counts g (Some (Parameter u j)) c = parameter_found no_names j refl p g c.0 c.1

  either_counts : (b : Bool) (g : ℕ) (o : Option Slot) → (b ≡ true) ⊎ CopiesNumbers p g o → (b || is_copy (first_walk p) g o) ≡ true
  either_counts true g o h = refl
  either_counts false g o (inl h) = clash h
  either_counts false g o (inr c) = counts g o c

  taken_stays : (i g : ℕ) (s : Store) → GlobalTakes p i g s → Stays (first_walk p) i g s
  taken_stays i g (Into (Global u j) o f) h = λ e. either_counts (is_number f) g o (h e)
  taken_stays i g (Into (Parameter u j) o f) h = tt
  taken_stays i g (Given k j o f) h = tt
  taken_stays i g Asked h = tt

  global_found : (i : ℕ) → is_scalar (kinds_of p.globals) i ≡ true → Throughout (GlobalTakes p i) p → is_unboxed (infer p).globals i ≡ true
  global_found i s t =
      visits_keep (marked (first_walk p)) (GlobalTakes p i) (λ l. is_unboxed l.globals i ≡ true) (λ g l x h. mark_global (first_walk p) i g l x (taken_stays i g x h)) (at_first p) p t
      (opened_at (kinds_of p.globals) i s)

  pub finds : FindsNumbers p
  finds = record {
    numbers = number_found p;
    globals = global_found;
    parameters = λ f i s t. let none = no_lender p f i (parameter_found no_names i refl p f s t) in (parameter_found (first_walk p) i none p f s t, none);
  }
