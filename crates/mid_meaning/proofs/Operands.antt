-- What code does that stands for an expression, where things are kept: operands, and what is converted once they are evaluated.
use Rattle.std.proofs.Common.{◌≡◌, ℕ, Bool, true, false, List, Some, None, Result, Ok, Err, refl, sym, ap, ◌∙◌}
use Rattle.awk_values.specs.Values.{truth_of_value}
use Rattle.awk_values.specs.declared.fault.Fault.{Fault}
use Rattle.awk_values.specs.declared.value.Value.{Value}
use Rattle.sem_primitives.specs.Numbers.{Number as AnyNumber, or_range}
use Rattle.sem_primitives.specs.ValueMeaning.{number_of_row}
use Rattle.sem_primitives.specs.declared.sorts.Sort.TheVariants as sort
use Rattle.sem_primitives.specs.declared.sorts.Answer.TheVariants as answer
use Rattle.sem_primitives.proofs.Words.{number_again}
use Rattle.sem_scripts.specs.ScriptState.{Execution, ◌>>=◌, give, settled}
use Rattle.sem_scripts.specs.Steps.{truth_number, truth_value, number_in, zero_number}
use Rattle.sem_scripts.specs.Meaning.{Calls}
use Rattle.mid_program.specs.Mid.{Kind, Code, Codes, End, At, Form, PrimitiveAnswer, NumberOrText, OptionalNumber, form_of}
use Rattle.mid_program.specs.MidMeaning.{Env, Holds, Values, all_evaluated, boxed, evaluated, numbered, then_row, truth_in}
use Rattle.mid_meaning.proofs.Binding.{As, assoc, bind_as, over, under}

-- a form that a value is, or is made of
abbrev pub Valued : Form → Type 0
Valued (PrimitiveAnswer (answer.Of sort.Value)) = Unit {0}
Valued (PrimitiveAnswer (answer.Of sort.Number)) = Unit {0}
Valued (PrimitiveAnswer answer.Truth) = Unit {0}
Valued NumberOrText = Unit {0}
Valued OptionalNumber = Unit {0}
Valued _ = ⊥

pub numbered_boxed : (f : Form) → Valued f → (x : Holds f) → number_of_row (boxed f x) ≡ numbered f x
numbered_boxed (PrimitiveAnswer (answer.Of sort.Value)) v x = refl
numbered_boxed (PrimitiveAnswer (answer.Of sort.Number)) v x = λ i. or_range (number_again x i)
numbered_boxed (PrimitiveAnswer answer.Truth) v x = λ i. or_range (number_again (truth_number x) i)
numbered_boxed NumberOrText v x = refl
numbered_boxed OptionalNumber v None = λ i. or_range (number_again zero_number i)
numbered_boxed OptionalNumber v (Some x) = λ i. or_range (number_again x i)
numbered_boxed (PrimitiveAnswer (answer.Of sort.Array)) v x = absurd v
numbered_boxed (PrimitiveAnswer (answer.Of sort.Iterator)) v x = absurd v
numbered_boxed (PrimitiveAnswer answer.Nothing) v x = absurd v
numbered_boxed (PrimitiveAnswer answer.Done) v x = absurd v
numbered_boxed (PrimitiveAnswer answer.Input) v x = absurd v
numbered_boxed (PrimitiveAnswer answer.Assign) v x = absurd v
numbered_boxed (PrimitiveAnswer answer.Stream) v x = absurd v
numbered_boxed (PrimitiveAnswer answer.ValueOrEnd) v x = absurd v
numbered_boxed (PrimitiveAnswer answer.Name) v x = absurd v

pub truth_of_truth : (b : Bool) → truth_of_value (truth_value b) ≡ b
truth_of_truth true = refl
truth_of_truth false = refl

pub truth_boxed : (f : Form) → Valued f → (x : Holds f) → truth_in f x ≡ truth_of_value (boxed f x)
truth_boxed (PrimitiveAnswer (answer.Of sort.Value)) v x = refl
truth_boxed (PrimitiveAnswer (answer.Of sort.Number)) v x = refl
truth_boxed (PrimitiveAnswer answer.Truth) v x = sym (truth_of_truth x)
truth_boxed NumberOrText v x = refl
truth_boxed OptionalNumber v x = refl
truth_boxed (PrimitiveAnswer (answer.Of sort.Array)) v x = absurd v
truth_boxed (PrimitiveAnswer (answer.Of sort.Iterator)) v x = absurd v
truth_boxed (PrimitiveAnswer answer.Nothing) v x = absurd v
truth_boxed (PrimitiveAnswer answer.Done) v x = absurd v
truth_boxed (PrimitiveAnswer answer.Input) v x = absurd v
truth_boxed (PrimitiveAnswer answer.Assign) v x = absurd v
truth_boxed (PrimitiveAnswer answer.Stream) v x = absurd v
truth_boxed (PrimitiveAnswer answer.ValueOrEnd) v x = absurd v
truth_boxed (PrimitiveAnswer answer.Name) v x = absurd v

-- rows of numbers
row_one_by : {A C : Type 0} (r : Result A Fault) (F : A × Unit {0} → Execution C) → (settled (then_row r (λ x. Ok (x, tt))) >>= F) ≡ (settled r >>= λ x. F (x, tt))
row_one_by (Ok a) F = refl
row_one_by (Err f) F = refl

row_two_by : {A B C : Type 0} (r : Result A Fault) (s : Result B Fault) (F : A × (B × Unit {0}) → Execution C) →
    (settled (then_row r (λ x. then_row (then_row s (λ y. Ok (y, tt))) (λ xs. Ok (x, xs)))) >>= F) ≡ (settled r >>= λ x. settled s >>= λ y. F (x, (y, tt)))
row_two_by (Ok a) (Ok b) F = refl
row_two_by (Ok a) (Err g) F = refl
row_two_by (Err f) s F = refl

-- behind a value
pub behind_value : {B C : Type 0} (v : Value) (r : Result B Fault) (F : Value × B → Execution C) → (settled (then_row r (λ xs. Ok (v, xs))) >>= F) ≡ (settled r >>= λ xs. F (v, xs))
behind_value v (Ok b) F = refl
behind_value v (Err f) F = refl

pub number_row : {C : Type 0} (f : Form) (v : Valued f) (x : Holds f) (F : AnyNumber × Unit {0} → Execution C) →
    (settled (then_row (numbered f x) (λ m. Ok (m, tt))) >>= F) ≡ (number_in (boxed f x) >>= λ m. F (m, tt))
number_row f v x F = row_one_by (numbered f x) F ∙ over (settled (numbered f x)) (number_in (boxed f x)) (λ m. F (m, tt)) (ap settled (sym (numbered_boxed f v x)))

pub number_rows : {C : Type 0} (f g : Form) (v : Valued f) (w : Valued g) (x : Holds f) (y : Holds g) (F : AnyNumber × (AnyNumber × Unit {0}) → Execution C) →
    (settled (then_row (numbered f x) (λ m. then_row (then_row (numbered g y) (λ n. Ok (n, tt))) (λ xs. Ok (m, xs)))) >>= F) ≡ (number_in (boxed f x) >>= λ m. number_in (boxed g y) >>= λ n. F (m, (n, tt)))
number_rows f g v w x y F =
    row_two_by (numbered f x) (numbered g y) F
    ∙ over (settled (numbered f x)) (number_in (boxed f x)) (λ m. settled (numbered g y) >>= λ n. F (m, (n, tt))) (ap settled (sym (numbered_boxed f v x)))
    ∙ under (number_in (boxed f x)) (λ m. settled (numbered g y) >>= λ n. F (m, (n, tt))) (λ m. number_in (boxed g y) >>= λ n. F (m, (n, tt))) (λ m. over (settled (numbered g y)) (number_in (boxed g y)) (λ n. F (m, (n, tt))) (ap settled (sym (numbered_boxed g w y))))

module _ (texts : List (List ℕ)) (parameters : List (List Kind)) (n : ℕ) (calls : Calls) (fs : List Form) (env : Env fs) where
  abbrev Eval : (e : Code) → Execution (Holds (form_of fs e))
  Eval e = evaluated texts parameters n calls fs env e

  abbrev All : (es : Codes) → Execution (Values fs es)
  All es = all_evaluated texts parameters n calls fs env es

  -- code that means what an expression does, here
  pub record Is (e : Code) (m : Execution Value) : Type 0 where
    pub valued : Valued (form_of fs e)
    pub means : As (boxed (form_of fs e)) (evaluated texts parameters n calls fs env e) m

  -- the first operand, and then the others
  pub first_operand : {C : Type 0} (e : Code) (es : Codes) (k : Values fs (At e es) → Execution C) → (All (At e es) >>= k) ≡ (Eval e >>= λ v. All es >>= λ vs. k (v, vs))
  unfolding evaluated all_evaluated
  first_operand e es k =
      assoc (Eval e) (λ v. All es >>= λ vs. give (v, vs)) k
      ∙ under (Eval e) (λ v. (All es >>= λ vs. give (v, vs)) >>= k) (λ v. All es >>= λ vs. k (v, vs)) (λ v. assoc (All es) (λ vs. give (v, vs)) k)

  pub one_operand : {C : Type 0} (e : Code) (m : Execution Value) → Is e m → (k : Values fs (At e End) → Execution C) (k' : Value → Execution C) →
      ((v : Holds (form_of fs e)) → k (v, tt) ≡ k' (boxed (form_of fs e) v)) → (All (At e End) >>= k) ≡ (m >>= k')
  unfolding evaluated all_evaluated
  one_operand e m p k k' h = first_operand e End k ∙ bind_as (boxed (form_of fs e)) (Eval e) m (λ v. k (v, tt)) k' p.means h

  pub two_operands : {C : Type 0} (a b : Code) (m l : Execution Value) → Is a m → Is b l → (k : Values fs (At a (At b End)) → Execution C) (k' : Value → Value → Execution C) →
      ((v : Holds (form_of fs a)) (w : Holds (form_of fs b)) → k (v, (w, tt)) ≡ k' (boxed (form_of fs a) v) (boxed (form_of fs b) w)) →
      (All (At a (At b End)) >>= k) ≡ (m >>= λ x. l >>= λ y. k' x y)
  unfolding evaluated all_evaluated
  two_operands a b m l p q k k' h =
      first_operand a (At b End) k
      ∙ bind_as (boxed (form_of fs a)) (Eval a) m (λ v. All (At b End) >>= λ vs. k (v, vs)) (λ x. l >>= λ y. k' x y) p.means
      (λ v. one_operand b l q (λ vs. k (v, vs)) (k' (boxed (form_of fs a) v)) (h v))

  pub three_operands : {C : Type 0} (a b c : Code) (m l r : Execution Value) → Is a m → Is b l → Is c r → (k : Values fs (At a (At b (At c End))) → Execution C) (k' : Value → Value → Value → Execution C) →
      ((v : Holds (form_of fs a)) (w : Holds (form_of fs b)) (u : Holds (form_of fs c)) → k (v, (w, (u, tt))) ≡ k' (boxed (form_of fs a) v) (boxed (form_of fs b) w) (boxed (form_of fs c) u)) →
      (All (At a (At b (At c End))) >>= k) ≡ (m >>= λ x. l >>= λ y. r >>= λ z. k' x y z)
  unfolding evaluated all_evaluated
  three_operands a b c m l r p q s k k' h =
      first_operand a (At b (At c End)) k
      ∙ bind_as (boxed (form_of fs a)) (Eval a) m (λ v. All (At b (At c End)) >>= λ vs. k (v, vs)) (λ x. l >>= λ y. r >>= λ z. k' x y z) p.means
      (λ v. two_operands b c l r q s (λ vs. k (v, vs)) (k' (boxed (form_of fs a) v)) (h v))

  -- operations on one value, on two and on three, whose answer is taken as it is or boxed
  pub on_one : {R C : Type 0} (e : Code) (m : Execution Value) → Is e m → (F : Values fs (At e End) → Execution R) (G : R → Execution C) (k' : Value → Execution C) →
      ((v : Holds (form_of fs e)) → (F (v, tt) >>= G) ≡ k' (boxed (form_of fs e) v)) → ((All (At e End) >>= F) >>= G) ≡ (m >>= k')
  on_one e m p F G k' h = assoc (All (At e End)) F G ∙ one_operand e m p (λ vs. F vs >>= G) k' h

  pub on_two : {R C : Type 0} (a b : Code) (m l : Execution Value) → Is a m → Is b l → (F : Values fs (At a (At b End)) → Execution R) (G : R → Execution C) (k' : Value → Value → Execution C) →
      ((v : Holds (form_of fs a)) (w : Holds (form_of fs b)) → (F (v, (w, tt)) >>= G) ≡ k' (boxed (form_of fs a) v) (boxed (form_of fs b) w)) →
      ((All (At a (At b End)) >>= F) >>= G) ≡ (m >>= λ x. l >>= λ y. k' x y)
  on_two a b m l p q F G k' h = assoc (All (At a (At b End))) F G ∙ two_operands a b m l p q (λ vs. F vs >>= G) k' h

  pub on_three : {R C : Type 0} (a b c : Code) (m l r : Execution Value) → Is a m → Is b l → Is c r → (F : Values fs (At a (At b (At c End))) → Execution R) (G : R → Execution C) (k' : Value → Value → Value → Execution C) →
      ((v : Holds (form_of fs a)) (w : Holds (form_of fs b)) (u : Holds (form_of fs c)) → (F (v, (w, (u, tt))) >>= G) ≡ k' (boxed (form_of fs a) v) (boxed (form_of fs b) w) (boxed (form_of fs c) u)) →
      ((All (At a (At b (At c End))) >>= F) >>= G) ≡ (m >>= λ x. l >>= λ y. r >>= λ z. k' x y z)
  on_three a b c m l r p q s F G k' h = assoc (All (At a (At b (At c End)))) F G ∙ three_operands a b c m l r p q s (λ vs. F vs >>= G) k' h
