-- Code with other lanes at its names is well sorted, where into an unboxed name numbers alone are stored, and copies of unboxed names where it takes them,
-- and where what lends its value stays as it is.
use Rattle.std.proofs.Common.{◌≡◌, ℕ, zero, suc, ◌+◌, Bool, true, false, not, ◌&&◌, ◌||◌, List, [], ◌∷◌, length, Option, Some, None, is_some, nat_eq, refl, sym, ap, ◌∙◌, arith}
use Rattle.std.proofs.lemmas.Bool.{and_parts, and_from, eqb-true}
use Rattle.sem_primitives.specs.declared.sorts.Sort.TheVariants as sort
use Rattle.sem_primitives.specs.declared.sorts.Answer.TheVariants as answer
use Rattle.sem_scripts.specs.Names.{ArrayName}
use Rattle.sem_scripts.specs.Names as names
use Rattle.mid_program.specs.Mid.{Kind, Boxed, Unboxed, ArrayKind, Slot, Global, Parameter, Do, Codes, End, At, Fixed, Fresh, Steps, Form, PrimitiveAnswer, NumberOrText, OptionalNumber, slot_form, form_of, source_of, parameters_at}
use Rattle.mid_program.specs.Sorted.{Context, fits, is_number, same_kind, has_kind, has_lender, scalar_kind, is_bare, is_copy_of, is_lent, is_mixed, is_slot, lender_at, lends, takes, is_array_place, is_given, fit_call, steps_sorted}
use Rattle.mid_program.specs.Alike.{erased}
use Rattle.mid_program.specs.Rewriting.{steps_in}
use Rattle.value_kinds.specs.Applied.{is_unboxed, slot_in, kind_with, kinds_with}
use Rattle.value_kinds.specs.Lanes.{copies_global, is_passed}
use Rattle.mid_program.specs.Stores.{Store, Into, Given, Asked, Every, stores, stores_given, steps_stores}
use Rattle.value_kinds.proofs.Forms.{clash}
use Rattle.value_kinds.proofs.Sources.{IsCopy, IsNamed, steps_named}
use Rattle.mid_program.proofs.Sorted.{Keeps, Stays, copy_of, every_parts, fit_copied, number_alike, read_erased, steps_rewritten, value_alike}

number_fits : (f : Form) → is_number f ≡ true → fits f sort.Value ≡ true
number_fits (PrimitiveAnswer (answer.Of sort.Number)) h = refl
number_fits (PrimitiveAnswer answer.Truth) h = refl
number_fits _ h = clash h

-- kinds of names

kind_scalar : (u b : Bool) (k : Kind) → same_kind k (scalar_kind u) ≡ true → same_kind (kind_with b k) (scalar_kind b) ≡ true
kind_scalar true b ArrayKind h = clash h
kind_scalar false b ArrayKind h = clash h
kind_scalar u true Boxed h = refl
kind_scalar u false Boxed h = refl
kind_scalar u true Unboxed h = refl
kind_scalar u false Unboxed h = refl

scalar_kept : (v : ℕ → Bool) (u : Bool) (ks : List Kind) (i : ℕ) → has_kind ks i (scalar_kind u) ≡ true → has_kind (kinds_with v ks) i (scalar_kind (v i)) ≡ true
scalar_kept v u [] i h = clash h
scalar_kept v u (k ∷ ks) zero h = kind_scalar u (v zero) k h
scalar_kept v u (k ∷ ks) (suc i) h = scalar_kept (λ j. v (suc j)) u ks i h

kind_many : (b : Bool) (k : Kind) → same_kind k ArrayKind ≡ true → same_kind (kind_with b k) ArrayKind ≡ true
kind_many b ArrayKind h = refl
kind_many b Boxed h = clash h
kind_many b Unboxed h = clash h

many_kept : (v : ℕ → Bool) (ks : List Kind) (i : ℕ) → has_kind ks i ArrayKind ≡ true → has_kind (kinds_with v ks) i ArrayKind ≡ true
many_kept v [] i h = clash h
many_kept v (k ∷ ks) zero h = kind_many (v zero) k h
many_kept v (k ∷ ks) (suc i) h = many_kept (λ j. v (suc j)) ks i h

-- for each function its parameters, with lanes
abbrev pub calls_with : (ℕ → List Kind) → List (List Kind) → List (List Kind)
calls_with ps [] = []
calls_with ps (ks ∷ kss) = kinds_with (is_unboxed (ps zero)) ks ∷ calls_with (λ f. ps (suc f)) kss

calls_length : (ps : ℕ → List Kind) (kss : List (List Kind)) → length (calls_with ps kss) ≡ length kss
calls_length ps [] = refl
calls_length ps (ks ∷ kss) = ap suc (calls_length (λ f. ps (suc f)) kss)

calls_at : (ps : ℕ → List Kind) (kss : List (List Kind)) (f : ℕ) → parameters_at (calls_with ps kss) f ≡ kinds_with (is_unboxed (ps f)) (parameters_at kss f)
calls_at ps [] f = refl
calls_at ps (ks ∷ kss) zero = refl
calls_at ps (ks ∷ kss) (suc f) = calls_at (λ g. ps (suc g)) kss f

-- A store into an unboxed name is one of a number, or into a mixed global one of a copy of an unboxed name; what is given for one is a number or nothing, or
-- a copy of the global that lends there; and where one lends, nothing is stored into it, nor into an unboxed parameter there, and the main input is not read.
-- gs, own and pss are the lanes of globals, of the names of the function in which the code stands, and of each function's.
abbrev pub Fine : (gs : List Kind) (ms : List Bool) (ls : List (Option ℕ)) (own : List Kind) (pss : ℕ → List Kind) → Store → Type 0
Fine gs ms ls own pss (Into (Global u i) o f) = (lends ls i ≡ false) × (is_unboxed gs i ≡ true → (is_number f || (is_mixed ms i && is_bare (copy_of (slot_in gs own) o))) ≡ true)
Fine gs ms ls own pss (Into (Parameter u i) o f) = is_unboxed own i ≡ true → (not (is_some (lender_at ls i)) && is_number f) ≡ true
Fine gs ms ls own pss (Given h i o f) = is_unboxed (pss h) i ≡ true → is_passed (lender_at ls i) o f ≡ true
Fine gs ms ls own pss Asked = has_lender ls ≡ false

abbrev pub context_with : (gs : List Kind) (ms : List Bool) (ls : List (Option ℕ)) (own : List Kind) (pss : ℕ → List Kind) → Context → Context
context_with gs ms ls own pss c = record c {
  globals = kinds_with (is_unboxed gs) c.globals;
  mixed = ms;
  calls = calls_with pss c.calls;
  parameters = kinds_with (is_unboxed own) c.parameters;
  lenders = ls;
}

-- what a name takes is a value: a number, or what an unboxed name has

bare_fits : (o : Option Slot) (f : Form) → IsCopy o f → is_bare o ≡ true → fits f sort.Value ≡ true
bare_fits None f k h = clash h
bare_fits (Some (Global true i)) f k h = ap (λ (g : Form). fits g sort.Value) k
bare_fits (Some (Global false i)) f k h = clash h
bare_fits (Some (Parameter true i)) f k h = ap (λ (g : Form). fits g sort.Value) k
bare_fits (Some (Parameter false i)) f k h = clash h

either_fits : (n b : Bool) (f : Form) → is_number f ≡ n → (b ≡ true → fits f sort.Value ≡ true) → (n || b) ≡ true → fits f sort.Value ≡ true
either_fits true b f e k h = number_fits f e
either_fits false b f e k h = k h

copy_bare : (g : ℕ) (o : Option Slot) → is_copy_of g o ≡ true → is_bare o ≡ true
copy_bare g None h = h
copy_bare g (Some (Global u i)) h = (and_parts u (nat_eq g i) h).0
copy_bare g (Some (Parameter u i)) h = clash h

lent_fits : (l : Option ℕ) (o : Option Slot) (f : Form) → IsCopy o f → is_lent l o f ≡ true → fits f sort.Value ≡ true
lent_fits None o (PrimitiveAnswer a) k h = number_fits (PrimitiveAnswer a) h
lent_fits None o NumberOrText k h = refl
lent_fits None o OptionalNumber k h = refl
lent_fits (Some g) o f k h = either_fits (is_number f) (is_copy_of g o) f refl (λ c. bare_fits o f k (copy_bare g o c)) h

-- f and g: before and after
module _ (f g : Form) (alike : erased f ≡ erased g) where
  global_taken : (c d : Context) (u b : Bool) (i : ℕ) (o p : Option Slot) → takes c (Global u i) o f ≡ true → IsCopy o f → lends d.lenders i ≡ false →
      (b ≡ true → (is_number f || (is_mixed d.mixed i && is_bare p)) ≡ true) → takes d (Global b i) p g ≡ true
  global_taken c d u true i o p h k l n = and_from (not (lends d.lenders i)) _ (ap not l) (ap (λ (x : Bool). x || (is_mixed d.mixed i && is_bare p)) (number_alike f g alike) ∙ n refl)
  global_taken c d true false i o p h k l n =
      value_alike f g alike
      ∙ either_fits (is_number f) (is_mixed c.mixed i && is_bare o) f refl (λ m. bare_fits o f k (and_parts (is_mixed c.mixed i) (is_bare o) m).1) (and_parts (not (lends c.lenders i)) _ h).1
  global_taken c d false false i o p h k l n = value_alike f g alike ∙ h

  parameter_taken : (c d : Context) (u b : Bool) (i : ℕ) (o p : Option Slot) → takes c (Parameter u i) o f ≡ true → (b ≡ true → (not (is_some (lender_at d.lenders i)) && is_number f) ≡ true) →
      takes d (Parameter b i) p g ≡ true
  parameter_taken c d u true i o p h n = ap (λ (x : Bool). not (is_some (lender_at d.lenders i)) && x) (number_alike f g alike) ∙ n refl
  parameter_taken c d true false i o p h n = value_alike f g alike ∙ number_fits f (and_parts (not (is_some (lender_at c.lenders i))) (is_number f) h).1
  parameter_taken c d false false i o p h n = value_alike f g alike ∙ h

-- what lends is unboxed
module _ (gs : List Kind) (ms : List Bool) (ls : List (Option ℕ)) (own : List Kind) (pss : ℕ → List Kind) (unboxed : (i g : ℕ) → lender_at ls i ≡ Some g → is_unboxed gs g ≡ true) where
  -- what is known of each store
  abbrev Known : Store → Type 0
  Known s = Fine gs ms ls own pss s × IsNamed s

  known : (ss : List Store) → Every (Fine gs ms ls own pss) ss → Every IsNamed ss → Every Known ss
  known [] h k = tt
  known (s ∷ ss) h k = ((h.0, k.0), known ss h.1 k.1)

  -- arguments

  either_copy : (n b c : Bool) → (b ≡ true → c ≡ true) → (n || b) ≡ true → (n || c) ≡ true
  either_copy true b c k h = refl
  either_copy false b c k h = k h

  copy_there : (g : ℕ) (o : Option Slot) → is_unboxed gs g ≡ true → copies_global g o ≡ true → is_copy_of g (copy_of (slot_in gs own) o) ≡ true
  copy_there g None u h = h
  copy_there g (Some (Global b i)) u h = and_from (is_unboxed gs i) (nat_eq g i) (ap (is_unboxed gs) (sym (eqb-true g i h)) ∙ u) h
  copy_there g (Some (Parameter b i)) u h = h

  passed_lent : (l : Option ℕ) (o : Option Slot) (f : Form) → ((g : ℕ) → l ≡ Some g → is_unboxed gs g ≡ true) → is_passed l o f ≡ true → is_lent l (copy_of (slot_in gs own) o) f ≡ true
  passed_lent None o (PrimitiveAnswer a) u h = h
  passed_lent None o NumberOrText u h = h
  passed_lent None o OptionalNumber u h = refl
  passed_lent (Some g) o f u h = either_copy (is_number f) (copies_global g o) (is_copy_of g (copy_of (slot_in gs own) o)) (copy_there g o (u g refl)) h

  -- m and l: what lent and what lends
  given_kept : (m l : Option ℕ) (k : Kind) (b : Bool) (o : Option Slot) (f : Form) → ((g : ℕ) → l ≡ Some g → is_unboxed gs g ≡ true) → IsCopy o f → is_given m o f k ≡ true →
      (b ≡ true → is_passed l o f ≡ true) → is_given l (copy_of (slot_in gs own) o) f (kind_with b k) ≡ true
  given_kept m l ArrayKind b o f u c h n = h
  given_kept m l Boxed true o f u c h n = passed_lent l o f u (n refl)
  given_kept m l Boxed false o f u c h n = h
  given_kept m l Unboxed true o f u c h n = passed_lent l o f u (n refl)
  given_kept m l Unboxed false o f u c h n = lent_fits m o f c h

  no_constant : (m : ℕ → Option ℕ) (fs : List Form) (y : Kind) (ks : List Kind) (n : ℕ) (es : Codes) → fit_call m fs (y ∷ ks) (Fixed n es) ≡ true → ⊥
  no_constant m fs Boxed ks n es z = clash z
  no_constant m fs Unboxed ks n es z = clash z
  no_constant m fs ArrayKind ks n es z = clash z

  -- arguments for these parameters; v says which of them are unboxed, and l what lends there, from the i-th on
  call_fits : (f i : ℕ) (v : ℕ → Bool) → ((j : ℕ) → v j ≡ is_unboxed (pss f) (i + j)) → (m l : ℕ → Option ℕ) → ((j : ℕ) → l j ≡ lender_at ls (i + j)) → (fs : List Form) (ks : List Kind) (es : Codes) →
      fit_call m fs ks es ≡ true → Every Known (stores_given f i fs es) → fit_copied (slot_in gs own) l fs (kinds_with v ks) es ≡ true
  call_fits f i v q m l r fs [] End h o = refl
  call_fits f i v q m l r fs [] (At e es) h o = clash h
  call_fits f i v q m l r fs [] (Fixed n es) h o = clash h
  call_fits f i v q m l r fs [] (Fresh es) h o = clash h
  call_fits f i v q m l r fs (x ∷ ks) End h o = clash h
  call_fits f i v q m l r fs (x ∷ ks) (At e es) h o =
      let p = and_parts (is_given (m zero) (source_of e) (form_of fs e) x) (fit_call (λ j. m (suc j)) fs ks es) h in
      let w = every_parts Known (stores fs e) (Given f i (source_of e) (form_of fs e) ∷ stores_given f (suc i) fs es) o in
      let first : v zero ≡ is_unboxed (pss f) i = q zero ∙ ap (is_unboxed (pss f)) (omega arith) in
      let there : l zero ≡ lender_at ls i = r zero ∙ ap (lender_at ls) (omega arith) in
      and_from (is_given (l zero) (copy_of (slot_in gs own) (source_of e)) (form_of fs e) (kind_with (v zero) x)) (fit_copied (slot_in gs own) (λ j. l (suc j)) fs (kinds_with (λ j. v (suc j)) ks) es)
      (given_kept (m zero) (l zero) x (v zero) (source_of e) (form_of fs e) (λ g t. unboxed i g (sym there ∙ t)) w.1.0.1 p.0
      (λ b. ap (λ (a : Option ℕ). is_passed a (source_of e) (form_of fs e)) there ∙ w.1.0.0 (sym first ∙ b)))
      (call_fits f (suc i) (λ j. v (suc j)) (λ j. q (suc j) ∙ ap (is_unboxed (pss f)) (omega arith)) (λ j. m (suc j)) (λ j. l (suc j)) (λ j. r (suc j) ∙ ap (lender_at ls) (omega arith)) fs ks es p.1 w.1.1)
  call_fits f i v q m l r fs (x ∷ ks) (Fixed n es) h o = absurd (no_constant m fs x ks n es h)
  call_fits f i v q m l r fs (Boxed ∷ ks) (Fresh es) h o = clash h
  call_fits f i v q m l r fs (Unboxed ∷ ks) (Fresh es) h o = clash h
  call_fits f i v q m l r fs (ArrayKind ∷ ks) (Fresh es) h o =
      call_fits f (suc i) (λ j. v (suc j)) (λ j. q (suc j) ∙ ap (is_unboxed (pss f)) (omega arith)) (λ j. m (suc j)) (λ j. l (suc j)) (λ j. r (suc j) ∙ ap (lender_at ls) (omega arith)) fs ks es h o

  keeps : Keeps (slot_in gs own) Do
  keeps = record { slot_forms = λ x. forms x; forms = λ fs o es. refl; sources = λ o es. refl; moves = λ i h o es. refl }
    where
      forms : (x : Slot) → erased (slot_form x) ≡ erased (slot_form (slot_in gs own x))
      forms (Global u i) = read_erased u (is_unboxed gs i)
      forms (Parameter u i) = read_erased u (is_unboxed own i)

  module _ (c : Context) where
    abbrev d : Context
    d = context_with gs ms ls own pss c

    slot_kept : (x : Slot) → is_slot c x ≡ true → is_slot d (slot_in gs own x) ≡ true
    slot_kept (Global u i) h = scalar_kept (is_unboxed gs) u c.globals i h
    slot_kept (Parameter u i) h = scalar_kept (is_unboxed own) u c.parameters i h

    array_kept : (a : ArrayName) → is_array_place c a ≡ true → is_array_place d a ≡ true
    array_kept (names.Numbered i) h = h
    array_kept (names.Given i) h = many_kept (is_unboxed own) c.parameters i h

    stored_kept : (x : Slot) (o : Option Slot) (f g : Form) → erased f ≡ erased g → takes c x o f ≡ true → Known (Into x o f) → takes d (slot_in gs own x) (copy_of (slot_in gs own) o) g ≡ true
    stored_kept (Global u i) o f g a h w = global_taken f g a c d u (is_unboxed gs i) i o (copy_of (slot_in gs own) o) h w.1 w.0.0 w.0.1
    stored_kept (Parameter u i) o f g a h w = parameter_taken f g a c d u (is_unboxed own i) i o (copy_of (slot_in gs own) o) h w.0

    given_fits : (f : ℕ) (fs : List Form) (es : Codes) → fit_call (lender_at c.lenders) fs (parameters_at c.calls f) es ≡ true → Every Known (stores_given f 0 fs es) →
        fit_copied (slot_in gs own) (lender_at ls) fs (parameters_at (calls_with pss c.calls) f) es ≡ true
    given_fits f fs es h o =
        ap (λ (ks : List Kind). fit_copied (slot_in gs own) (lender_at ls) fs ks es) (calls_at pss c.calls f)
        ∙ call_fits f 0 (is_unboxed (pss f)) (λ j. ap (is_unboxed (pss f)) (omega arith)) (lender_at c.lenders) (lender_at ls) (λ j. ap (lender_at ls) (omega arith)) fs (parameters_at c.calls f) es h o

    stays : Stays (slot_in gs own) Do Known c d
    stays = record {
      texts = refl;
      ranges = refl;
      calls = calls_length pss c.calls;
      slot = slot_kept;
      array = array_kept;
      asks = λ h w. ap not w.0;
      stored = stored_kept;
      given = given_fits;
      does = λ fs o es h. h;
    }

    pub steps_kept : (r l : Bool) (ss : Steps) → steps_sorted c r l ss ≡ true → Every (Fine gs ms ls own pss) (steps_stores ss) → steps_sorted d r l (steps_in (slot_in gs own) Do ss) ≡ true
    steps_kept r l ss h v = steps_rewritten (slot_in gs own) Do keeps Known c d stays r l ss h (known (steps_stores ss) v (steps_named ss))
