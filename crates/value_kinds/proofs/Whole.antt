-- The scalars into which a script stores numbers alone are unboxed in its code, and globals into which it stores copies of such besides.
use Rattle.std.proofs.Common.{◌≡◌, ◌⊎◌, inl, inr, ℕ, true, List, [], ◌∷◌, Option, Some, None, ap, sym, subst}
use Rattle.std.specs.Prelude.{slice_get}
use Rattle.std.specs.List.{All, AllByRecursion as Each}
use Rattle.std.proofs.lemmas.List.Elements.{recursion_from_All}
use Rattle.folding.specs.Folding.{fold}
use Rattle.mid_program.specs.Mid.{Kind, Program, Unboxed, parameters_at}
use Rattle.mid_program.specs.Mid as mid
use Rattle.mid_program.specs.Sorted.{calls_of, has_kind, is_number, kinds_of, lender_at}
use Rattle.sem_scripts.specs.Names.{Resolved, function_at}
use Rattle.mid_program.specs.Texts.{texts_of_script}
use Rattle.mid_program.specs.Translation.{program_of}
use Rattle.mid_program.specs.Stores.{Asked, Given, Into}
use Rattle.mid_program.specs.Stores as code
use Rattle.value_kinds.specs.Applied.{apply, is_unboxed}
use Rattle.value_kinds.specs.Found.{FindsNumbers, GlobalNumber, GlobalTakes, ParameterNumber, Throughout, is_scalar}
use Rattle.value_kinds.specs.Found as found
use Rattle.value_kinds.specs.Lanes.{infer}
use Rattle.value_kinds.specs.Stores.{Copy, Global, Parameter, Result, Scalar, Special, Store, Stored, Text, Value, script_stores}
use Rattle.value_kinds.specs.Stores as scripts
use Rattle.value_kinds.specs.Unboxed.{CopiesNumbers, IsThere, TakesCopies, TakesNumbers, UnboxesNumbers, scalar_name}
use Rattle.value_kinds.proofs.Expressions.{AllFit, CodeFits, Copied, CopyOf, NumberOrCopyOf, Taker}
use Rattle.value_kinds.proofs.Lending.{lender_with}
use Rattle.value_kinds.proofs.NameKinds.{declared_kinds, function_scalars, globals_not_mixed, globals_unboxed, parameters_unboxed, scalars}
use Rattle.value_kinds.proofs.Scripts.{script_fit}
use Rattle.value_kinds.proofs.Throughout.{throughout_says}

-- a scalar that takes no copies
abbrev alone : Scalar → Taker
alone x = record { scalar = x; copies = λ y. ⊥; single = λ f i e y c. c }

no_copy : (x : Scalar) (g i : ℕ) (o : Option mid.Slot) (f : mid.Form) → (is_number f ≡ true) ⊎ Copied (alone x) g o → is_number f ≡ true
no_copy x g i o f (inl h) = h
no_copy x g i None f (inr c) = absurd c
no_copy x g i (Some (mid.Global u j)) f (inr c) = absurd c
no_copy x g i (Some (mid.Parameter u j)) f (inr c) = absurd c

global_says : (i g : ℕ) (s : code.Store) → CodeFits (alone (Global i)) g s → GlobalNumber i g s
global_says i g (Into (mid.Global u j) o f) h = λ e. no_copy (Global i) g j o f (h (ap Global (sym e)))
global_says i g (Into (mid.Parameter u j) o f) h = tt
global_says i g (Given k j o f) h = tt
global_says i g Asked h = tt

parameter_says : (f i g : ℕ) (s : code.Store) → CodeFits (alone (Parameter f i)) g s → ParameterNumber f i g s
parameter_says f i g (Into (mid.Global u j) o w) h = tt
parameter_says f i g (Into (mid.Parameter u j) o w) h = λ d e. h (λ n. Parameter (sym d n) (sym e n))
parameter_says f i g (Given k j o w) h = λ d e. h (λ n. Parameter (sym d n) (sym e n))
parameter_says f i g Asked h = tt

taken_number : (p : Program) (i g : ℕ) (s : code.Store) → GlobalNumber i g s → GlobalTakes p i g s
taken_number p i g (Into (mid.Global u j) o f) h = λ e. inl (h e)
taken_number p i g (Into (mid.Parameter u j) o f) h = tt
taken_number p i g (Given k j o f) h = tt
taken_number p i g Asked h = tt

-- what the script stores into the scalar, in other words
all_fit : (x : Taker) (P : Stored → Type 0) → ((w : Stored) → P w → NumberOrCopyOf x w) → (ss : List Store) → Each (λ (s : Store). s.scalar ≡ x.scalar → P s.stored) ss → AllFit x ss
all_fit x P says [] e = tt
all_fit x P says (s ∷ ss) e = (λ q. says s.stored (e.0 q), all_fit x P says ss e.1)

module _ (finds : (p : Program) → FindsNumbers p) (script : Resolved) where
  abbrev plain : Program
  plain = fold (program_of script)

  fits : (x : Taker) (P : Stored → Type 0) → ((w : Stored) → P w → NumberOrCopyOf x w) → All (λ (s : Store). s.scalar ≡ x.scalar → P s.stored) (script_stores script) →
      Throughout (λ k. CodeFits x k) plain
  fits x P says h = script_fit x script (all_fit x P says (script_stores script) (recursion_from_All (λ (s : Store). s.scalar ≡ x.scalar → P s.stored) (script_stores script) h))

  numbers_fit : (x : Scalar) → TakesNumbers script x → Throughout (λ k. CodeFits (alone x) k) plain
  numbers_fit x h = fits (alone x) (λ w. scripts.is_number w ≡ true) (λ w n. inl n) h

  global_numbers : (i : ℕ) → TakesNumbers script (Global i) → Throughout (GlobalNumber i) plain
  global_numbers i h = throughout_says (λ k. CodeFits (alone (Global i)) k) (GlobalNumber i) (global_says i) plain (numbers_fit (Global i) h)

  parameter_numbers : (f i : ℕ) → TakesNumbers script (Parameter f i) → Throughout (ParameterNumber f i) plain
  parameter_numbers f i h = throughout_says (λ k. CodeFits (alone (Parameter f i)) k) (ParameterNumber f i) (parameter_says f i) plain (numbers_fit (Parameter f i) h)

  global_scalar : (i : ℕ) (x : List ℕ) → slice_get script.globals i ≡ Some (scalar_name x) → is_scalar (kinds_of plain.globals) i ≡ true
  global_scalar i x s = subst (λ (ks : List Kind). is_scalar ks i ≡ true) (sym (declared_kinds script.globals)) (scalars script.globals i x s)

  parameter_scalar : (f i : ℕ) (x : List ℕ) → slice_get (function_at script.functions f).parameters i ≡ Some (scalar_name x) → is_scalar (parameters_at (calls_of plain) f) i ≡ true
  parameter_scalar f i x s = function_scalars (texts_of_script script) script script.functions f i x s

  -- copies

  no_parameter : (f j i : ℕ) → Parameter f j ≡ Global i → ⊥
  no_parameter f j i e = cc

  abbrev Counts : Scalar → Type 0
  Counts y = IsThere script y × TakesNumbers script y

  abbrev copier : ℕ → Taker
  copier i = record { scalar = Global i; copies = Counts; single = λ f j e y c. no_parameter f j i e }

  copy_counts : (i g : ℕ) (o : Option mid.Slot) → Copied (copier i) g o → found.CopiesNumbers plain g o
  copy_counts i g None c = c
  copy_counts i g (Some (mid.Global u j)) c = (global_scalar j c.0.0 c.0.1, global_numbers j c.1)
  copy_counts i g (Some (mid.Parameter u j)) c = (parameter_scalar g j c.0.0 c.0.1, parameter_numbers g j c.1)

  number_or_copy : (i g : ℕ) (o : Option mid.Slot) (f : mid.Form) → (is_number f ≡ true) ⊎ Copied (copier i) g o → (is_number f ≡ true) ⊎ found.CopiesNumbers plain g o
  number_or_copy i g o f (inl n) = inl n
  number_or_copy i g o f (inr c) = inr (copy_counts i g o c)

  taken_says : (i g : ℕ) (s : code.Store) → CodeFits (copier i) g s → GlobalTakes plain i g s
  taken_says i g (Into (mid.Global u j) o f) h = λ e. number_or_copy i g o f (h (ap Global (sym e)))
  taken_says i g (Into (mid.Parameter u j) o f) h = tt
  taken_says i g (Given k j o f) h = tt
  taken_says i g Asked h = tt

  copies_stored : (w : Stored) → CopiesNumbers script w → CopyOf Counts w
  copies_stored (Copy (Global j)) c = c
  copies_stored (Copy (Parameter f j)) c = c
  copies_stored (Copy Special) c = c.0
  copies_stored (Value t) c = c
  copies_stored Result c = c
  copies_stored Text c = c

  taken_stored : (i : ℕ) (w : Stored) → (scripts.is_number w ≡ true) ⊎ CopiesNumbers script w → NumberOrCopyOf (copier i) w
  taken_stored i w (inl n) = inl n
  taken_stored i w (inr c) = inr (copies_stored w c)

  copies_fit : (i : ℕ) → TakesCopies script (Global i) → Throughout (GlobalTakes plain i) plain
  copies_fit i h =
      throughout_says (λ k. CodeFits (copier i) k) (GlobalTakes plain i) (taken_says i) plain
      (fits (copier i) (λ w. (scripts.is_number w ≡ true) ⊎ CopiesNumbers script w) (taken_stored i) h)

  global_unboxed : (i : ℕ) → is_scalar (kinds_of plain.globals) i ≡ true → Throughout (GlobalTakes plain i) plain → has_kind (kinds_of (apply (infer plain) plain).globals) i Unboxed ≡ true
  global_unboxed i s t = globals_unboxed (is_unboxed (infer plain).globals) (is_unboxed (infer plain).numbers) plain.globals i ((finds plain).globals i s t) s

  -- THE WHOLE SCRIPT
  pub unboxes : UnboxesNumbers script (apply (infer plain) plain)
  unboxes = record {
    globals = λ i x s h.
        let scalar = global_scalar i x s in
        let numbers = global_numbers i h in (
          global_unboxed i scalar (throughout_says (GlobalNumber i) (GlobalTakes plain i) (taken_number plain i) plain numbers),
          globals_not_mixed (is_unboxed (infer plain).globals) (is_unboxed (infer plain).numbers) plain.globals i ((finds plain).numbers i scalar numbers),
        );
    copies = λ i x s h. global_unboxed i (global_scalar i x s) (copies_fit i h);
    parameters = λ f i x s h.
        let scalar = parameter_scalar f i x s in
        let found = (finds plain).parameters f i scalar (parameter_numbers f i h) in (
          parameters_unboxed (infer plain).globals (parameters_at (infer plain).parameters) plain.routines f i found.0 scalar,
          lender_with (lender_at (infer plain).lenders) plain.lenders i found.1,
        );
  }
