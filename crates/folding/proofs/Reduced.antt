-- An operation on constants does what its number does.
use Rattle.std.proofs.Common.{◌≡◌, ℕ, List, Option, Some, None, Ok, refl, sym, subst, ◌∙◌, append-nil}
use Rattle.sem_primitives.specs.Numbers.{Number as AnyNumber, outcome_of}
use Rattle.sem_primitives.specs.ValueMeaning.{power_row}
use Rattle.sem_primitives.specs.declared.table.Primitive.TheVariants.{Pow}
use Rattle.sem_primitives.proofs.Words.{number_again}
use Rattle.mid_program.specs.declared.mid.Arithmetic.{Arithmetic}
use Rattle.mid_program.specs.declared.mid.Operation.{Operation}
use Rattle.mid_program.specs.declared.mid.Operation.TheVariants.{Host, Inline, AsNumber, FieldNumber}
use Rattle.sem_scripts.specs.Meaning.{Calls}
use Rattle.sem_scripts.specs.ScriptState.{State, Outcome, Gives, settled}
use Rattle.sem_scripts.specs.Steps.{field_checked}
use Rattle.mid_program.specs.Mid.{Kind, Code, Do, Number, Codes, End, At, Form, PrimitiveAnswer, a_number, answer_by, form_of}
use Rattle.mid_program.specs.MidMeaning.{Env, Holds, arithmetic_of, or_zero, evaluated, all_evaluated}
use Rattle.mid_program.specs.Alike.{Alike, LikeR}
use Rattle.mid_program.specs.Rewritten.{SameOperations}
use Rattle.mid_program.proofs.Outcomes.{like_self}
use Rattle.folding.specs.Folding.{constant, of_one, of_two, value_of, reduced_to, reduced}
use Rattle.folding.specs.Left.{two_numbers}
use Rattle.folding.proofs.Constants.{constant_is, unless_is, some_is}

gives_like : {A B : Type 0} (R : A → B → Type 0) (m : Outcome A) (m' : Outcome B) (a : A) (b : B) (s : State) → m ≡ Gives a s → m' ≡ Gives b s → R a b → LikeR R m m'
gives_like R m m' a b s p q r = subst (λ (x : Outcome _). LikeR R x m') (sym p) (subst (λ (y : Outcome _). LikeR R (Gives a s) y) (sym q) (r, refl))

module _ (texts : List (List ℕ)) (qs : List (List Kind)) (n : ℕ) (calls : Calls) (gs : List Form) (env : Env gs) where
  abbrev E : (e : Code) → State → Outcome (Holds (form_of gs e))
  E e s = evaluated texts qs n calls gs env e s

  number_does : (r : AnyNumber) (s : State) → E (Number r.number) s ≡ Gives r s
  unfolding evaluated
  number_does r s = λ i. Gives (or_zero (number_again r i)) s

  inline_does : (a : Arithmetic) (x y : AnyNumber) (s : State) → E (Do (Inline a) (two_numbers x y)) s ≡ settled (outcome_of (arithmetic_of a x.number y.number)) s
  unfolding evaluated all_evaluated
  inline_does a x y s = λ i. settled (outcome_of (arithmetic_of a (or_zero (number_again x i)).number (or_zero (number_again y i)).number)) s

  power_does : (x y r : AnyNumber) (s : State) → power_row x y ≡ Ok r → E (Do (Host Pow) (two_numbers x y)) s ≡ Gives r s
  unfolding evaluated all_evaluated
  power_does x y r s h =
      (λ i. settled (power_row (or_zero (number_again x i)) (or_zero (number_again y i))) (record s { shared = record s.shared { output = append-nil s.shared.output i } }))
      ∙ (λ i. settled (h i) s)

  number_of_does : (x : AnyNumber) (s : State) → E (Do AsNumber (At (Number x.number) End)) s ≡ Gives x s
  unfolding evaluated all_evaluated
  number_of_does x s = λ i. Gives (or_zero (number_again x i)) s

  field_does : (x : AnyNumber) (s : State) → E (Do FieldNumber (At (Number x.number) End)) s ≡ settled (field_checked x) s
  unfolding evaluated all_evaluated
  field_does x s = λ i. settled (field_checked (or_zero (number_again x i))) s

  abbrev Means : (o : Operation) → Codes → AnyNumber → State → Type 0
  Means o es r s = LikeR (Alike (PrimitiveAnswer (answer_by o)) a_number) (E (Do o es) s) (E (Number r.number) s)

  one_means : (o : Operation) (a : Code) (x : Option AnyNumber) (r : AnyNumber) (s : State) → constant a ≡ x → of_one o x ≡ Some r → Means o (At a End) r s
  one_means AsNumber a (Some x) r s e h =
      subst (λ (c : Code). Means AsNumber (At c End) r s) (sym (constant_is a x e))
      (gives_like (Alike a_number a_number) _ _ x r s (number_of_does x s) (number_does r s) (λ i. (a_number, some_is x r h i)))
  one_means FieldNumber a (Some x) r s e h =
      subst (λ (c : Code). Means FieldNumber (At c End) r s) (sym (constant_is a x e))
      (gives_like (Alike a_number a_number) _ _ r r s (field_does x s ∙ (λ i. settled (unless_is (field_checked x) r h i) s)) (number_does r s) refl)
  one_means _ a x r s e h = absurd cc

  two_means : (o : Operation) (a b : Code) (x y : Option AnyNumber) (r : AnyNumber) (s : State) → constant a ≡ x → constant b ≡ y → of_two o x y ≡ Some r → Means o (At a (At b End)) r s
  two_means (Inline k) a b (Some x) (Some y) r s e d h =
      subst (λ (es : Codes). Means (Inline k) es r s) (λ i. At (sym (constant_is a x e) i) (At (sym (constant_is b y d) i) End))
      (gives_like (Alike a_number a_number) _ _ r r s (inline_does k x y s ∙ (λ i. settled (unless_is (outcome_of (arithmetic_of k x.number y.number)) r h i) s)) (number_does r s) refl)
  two_means (Host Pow) a b (Some x) (Some y) r s e d h =
      subst (λ (es : Codes). Means (Host Pow) es r s) (λ i. At (sym (constant_is a x e) i) (At (sym (constant_is b y d) i) End))
      (gives_like (Alike a_number a_number) _ _ r r s (power_does x y r s (unless_is (power_row x y) r h)) (number_does r s) refl)
  two_means _ a b x y r s e d h = absurd cc

  value_means : (o : Operation) (es : Codes) (r : AnyNumber) (s : State) → value_of o es ≡ Some r → Means o es r s
  value_means o (At a End) r s h = one_means o a (constant a) r s refl h
  value_means o (At a (At b End)) r s h = two_means o a b (constant a) (constant b) r s refl refl h
  value_means o _ r s h = absurd cc

  reduced_means : (o : Operation) (es : Codes) (v : Option AnyNumber) (s : State) → value_of o es ≡ v → LikeR (Alike (PrimitiveAnswer (answer_by o)) (form_of gs (reduced_to v o es))) (E (Do o es) s) (E (reduced_to v o es) s)
  reduced_means o es (Some r) s h = value_means o es r s h
  reduced_means o es None s h = like_self (Alike (PrimitiveAnswer (answer_by o)) (PrimitiveAnswer (answer_by o))) (λ a. refl) (E (Do o es) s)

pub reduced_same : (texts : List (List ℕ)) (qs : List (List Kind)) (n : ℕ) (calls : Calls) → SameOperations texts qs n calls reduced
reduced_same texts qs n calls = λ gs env o es s. reduced_means texts qs n calls gs env o es (value_of o es) s refl
