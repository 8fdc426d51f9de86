-- Folded code is well sorted where the code was.
use Rattle.std.proofs.Common.{◌≡◌, ℕ, zero, suc, ◌^◌, Bool, true, false, not, ◌&&◌, ◌||◌, nat_le, unsigned_abs, List, [], ◌∷◌, ◌++◌, map, Option, Some, None, is_some, refl, sym, ap, ◌∙◌, subst}
use Rattle.std.proofs.lemmas.Bool.{and_parts, and_from}
use Rattle.std.proofs.lemmas.Float.{T_from_true}
use Rattle.sem_primitives.specs.Numbers.{Number as AnyNumber}
use Rattle.sem_primitives.specs.declared.table.Primitive.TheVariants.{Pow}
use Rattle.mid_program.specs.declared.mid.Operation.{Operation}
use Rattle.mid_program.specs.declared.mid.Operation.TheVariants.{Host, Inline, AsNumber, FieldNumber}
use Rattle.mid_program.specs.Mid.{Kind, Boxed, Unboxed, ArrayKind, Slot, Global, Parameter, Code, Do, Codes, End, At, Fixed, Fresh, Steps, Declared, Routine, Program, Form, PrimitiveAnswer, a_number, answer_by, form_of, source_of, parameters_at}
use Rattle.mid_program.specs.Alike.{erased}
use Rattle.mid_program.specs.Sorted.{Context, lender_at, lends, takes, is_bare, is_mixed, is_given, fit_call, Held, held_after, held_after_all, sorted, all_sorted, steps_sorted, context_of, routines_sorted, announced_names, all_differ, are_lenders, kinds_of, parts_sorted, is_sorted, IsSorted}
use Rattle.mid_program.specs.Stores.{Store, Every, steps_stores}
use Rattle.mid_program.proofs.Sorted.{Keeps, Stays, copy_of, fit_copied, from_T, number_alike, steps_rewritten, value_alike}
use Rattle.folding.specs.Folding.{constant, of_one, of_two, value_of, reduced_to, reduced, same, folded_steps, folded_routine, fold}
use Rattle.folding.proofs.Constants.{constant_is}
use Rattle.folding.proofs.Folds.{calls_kept}

-- an operation on constants

-- it answers a number, and moves nothing that is kept
record Constants (o : Operation) (es : Codes) : Type 0 where
  answers : PrimitiveAnswer (answer_by o) ≡ a_number
  moves : (i : ℕ) (h : Held) → held_after_all i es h ≡ h

one_constant : (o : Operation) (a : Code) (x : Option AnyNumber) (r : AnyNumber) → constant a ≡ x → of_one o x ≡ Some r → Constants o (At a End)
one_constant AsNumber a (Some x) r e h = record { answers = refl; moves = λ i g. ap (λ (c : Code). held_after i c g) (constant_is a x e) }
one_constant FieldNumber a (Some x) r e h = record { answers = refl; moves = λ i g. ap (λ (c : Code). held_after i c g) (constant_is a x e) }
one_constant _ a x r e h = absurd cc

two_constants : (o : Operation) (a b : Code) (x y : Option AnyNumber) (r : AnyNumber) → constant a ≡ x → constant b ≡ y → of_two o x y ≡ Some r → Constants o (At a (At b End))
two_constants (Inline k) a b (Some x) (Some y) r e d h = record { answers = refl; moves = λ i g j. held_after i (constant_is b y d j) (held_after i (constant_is a x e j) g) }
two_constants (Host Pow) a b (Some x) (Some y) r e d h = record { answers = refl; moves = λ i g j. held_after i (constant_is b y d j) (held_after i (constant_is a x e j) g) }
two_constants _ a b x y r e d h = absurd cc

constants_by : (o : Operation) (es : Codes) (r : AnyNumber) → value_of o es ≡ Some r → Constants o es
constants_by o (At a End) r h = one_constant o a (constant a) r refl h
constants_by o (At a (At b End)) r h = two_constants o a b (constant a) (constant b) r refl refl h
constants_by o _ r h = absurd cc

form_by : (fs : List Form) (o : Operation) (es : Codes) (v : Option AnyNumber) → value_of o es ≡ v → form_of fs (reduced_to v o es) ≡ PrimitiveAnswer (answer_by o)
form_by fs o es (Some r) h = sym (constants_by o es r h).answers
form_by fs o es None h = refl

pub source_by : (o : Operation) (es : Codes) (v : Option AnyNumber) → source_of (reduced_to v o es) ≡ None
source_by o es (Some r) = refl
source_by o es None = refl

held_by : (i : ℕ) (g : Held) (o : Operation) (es : Codes) (v : Option AnyNumber) → value_of o es ≡ v → held_after i (reduced_to v o es) g ≡ held_after_all i es g
held_by i g o es (Some r) h = sym ((constants_by o es r h).moves i g)
held_by i g o es None h = refl

sorted_by : (c : Context) (fs : List Form) (o : Operation) (es : Codes) (v : Option AnyNumber) → sorted c fs (Do o es) ≡ true → sorted c fs (reduced_to v o es) ≡ true
unfolding sorted all_sorted
sorted_by c fs o es (Some r) h = from_T (nat_le (unsigned_abs r.number) (2 ^ 53)) r.in_range
sorted_by c fs o es None h = h

-- names stay, and so does what they may take
keeps : Keeps same reduced
keeps = record { slot_forms = λ x. refl; forms = λ fs o es. form_by fs o es (value_of o es) refl; sources = λ o es. source_by o es (value_of o es); moves = λ i h o es. held_by i h o es (value_of o es) refl }

copy_same : (o : Option Slot) → copy_of same o ≡ o
copy_same None = refl
copy_same (Some x) = refl

taken_alike : (c : Context) (x : Slot) (o : Option Slot) (f g : Form) → erased f ≡ erased g → takes c x o f ≡ true → takes c x o g ≡ true
taken_alike c (Global true i) o f g a h = ap (λ (b : Bool). not (lends c.lenders i) && (b || (is_mixed c.mixed i && is_bare o))) (number_alike f g a) ∙ h
taken_alike c (Global false i) o f g a h = value_alike f g a ∙ h
taken_alike c (Parameter true i) o f g a h = ap (λ (b : Bool). not (is_some (lender_at c.lenders i)) && b) (number_alike f g a) ∙ h
taken_alike c (Parameter false i) o f g a h = value_alike f g a ∙ h

given_same : (lender : ℕ → Option ℕ) (fs : List Form) (ks : List Kind) (es : Codes) → fit_copied same lender fs ks es ≡ fit_call lender fs ks es
given_same lender fs [] End = refl
given_same lender fs [] (At e es) = refl
given_same lender fs [] (Fixed n es) = refl
given_same lender fs [] (Fresh es) = refl
given_same lender fs (k ∷ ks) End = refl
given_same lender fs (k ∷ ks) (At e es) = λ i. is_given (lender zero) (copy_same (source_of e) i) (form_of fs e) k && given_same (λ j. lender (suc j)) fs ks es i
given_same lender fs (Boxed ∷ ks) (Fixed n es) = refl
given_same lender fs (Unboxed ∷ ks) (Fixed n es) = refl
given_same lender fs (ArrayKind ∷ ks) (Fixed n es) = refl
given_same lender fs (Boxed ∷ ks) (Fresh es) = refl
given_same lender fs (Unboxed ∷ ks) (Fresh es) = refl
given_same lender fs (ArrayKind ∷ ks) (Fresh es) = given_same (λ j. lender (suc j)) fs ks es

abbrev Anything : Store → Type 0
Anything s = Unit {0}

stays : (c : Context) → Stays same reduced Anything c c
stays c = record {
  texts = refl;
  ranges = refl;
  calls = refl;
  slot = λ x h. h;
  array = λ a h. h;
  asks = λ h w. h;
  stored = λ x o f g a h w. ap (λ (p : Option Slot). takes c x p g) (copy_same o) ∙ taken_alike c x o f g a h;
  given = λ f fs es h o. given_same (lender_at c.lenders) fs (parameters_at c.calls f) es ∙ h;
  does = λ fs o es h. sorted_by c fs o es (value_of o es) h;
}

anything : (ss : List Store) → Every Anything ss
anything [] = tt
anything (s ∷ ss) = (tt, anything ss)

steps_kept : (c : Context) (r l : Bool) (ss : Steps) → steps_sorted c r l ss ≡ true → steps_sorted c r l (folded_steps ss) ≡ true
steps_kept c r l ss h = steps_rewritten same reduced keeps Anything c c (stays c) r l ss h (anything (steps_stores ss))

-- programs

names_same : (rs : List Routine) → map (λ (r : Routine). r.name) (map folded_routine rs) ≡ map (λ (r : Routine). r.name) rs
names_same [] = refl
names_same (r ∷ rs) = ap (λ (ns : List (List ℕ)). r.name ∷ ns) (names_same rs)

module _ (p : Program) where
  context_kept : (ks : List Kind) → context_of p ks ≡ context_of (fold p) ks
  context_kept ks = λ i. record (context_of p ks) { calls = sym (calls_kept p.routines) i }

  body_kept : (ks : List Kind) (r : Bool) (ss : Steps) → steps_sorted (context_of p ks) r false ss ≡ true → steps_sorted (context_of (fold p) ks) r false (folded_steps ss) ≡ true
  body_kept ks r ss h = subst (λ (c : Context). steps_sorted c r false (folded_steps ss) ≡ true) (context_kept ks) (steps_kept (context_of p ks) r false ss h)

  bodies_kept : (rs : List Routine) → routines_sorted p rs ≡ true → routines_sorted (fold p) (map folded_routine rs) ≡ true
  bodies_kept [] h = refl
  bodies_kept (r ∷ rs) h =
      let q = and_parts (steps_sorted (context_of p r.parameters) true false r.body) (routines_sorted p rs) h in and_from _ _ (body_kept r.parameters true r.body q.0) (bodies_kept rs q.1)

  pub fold_sorted : IsSorted p → IsSorted (fold p)
  fold_sorted t =
      let a = and_parts (all_differ (announced_names p)) _ (from_T (is_sorted p) t) in
      let l = and_parts (are_lenders (kinds_of p.globals) p.lenders) _ a.1 in
      let b = and_parts (routines_sorted p p.routines) (parts_sorted p (context_of p [])) l.1 in
      let m = and_parts (steps_sorted (context_of p []) false false p.begin) (steps_sorted (context_of p []) false false p.items && steps_sorted (context_of p []) false false p.end) b.1 in
      let n = and_parts (steps_sorted (context_of p []) false false p.items) (steps_sorted (context_of p []) false false p.end) m.1 in
      let announced : announced_names (fold p) ≡ announced_names p = ap (λ (ns : List (List ℕ)). map (λ (d : Declared). d.name) p.globals ++ ns) (names_same p.routines) in
      T_from_true (is_sorted (fold p)) (and_from _ _ (ap all_differ announced ∙ a.0) (and_from _ _ l.0
      (and_from _ _ (bodies_kept p.routines b.0) (and_from _ _ (body_kept [] false p.begin m.0) (and_from _ _ (body_kept [] false p.items n.0) (body_kept [] false p.end n.1))))))
