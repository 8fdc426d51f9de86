-- Folding leaves what code stores, and in which form it is there.
use Rattle.std.proofs.Common.{◌≡◌, ℕ, suc, List, [], ◌∷◌, ◌++◌, Option, Some, None, refl, sym, ap, ◌∙◌}
use Rattle.sem_primitives.specs.Numbers.{Number as AnyNumber}
use Rattle.sem_primitives.specs.declared.table.Primitive.TheVariants.{Pow}
use Rattle.mid_program.specs.declared.mid.Operation.{Operation}
use Rattle.mid_program.specs.declared.mid.Operation.TheVariants.{AsNumber, FieldNumber, Host, Inline}
use Rattle.mid_program.specs.Mid.{PrimitiveAnswer, Array, Ask, AskLine, At, Block, Bound, Break, Call, Choose, Code, Codes, Compare, Continue, Do, Each, End, Eval, Exit, ExitWith, FileLine, Fixed, Form, Fresh, Get, If, IsOpen, Let, Loop, Mark, Next, NoStep, Number, Over, Replace, Return, Seq, Set, Step, Steps, Text, Then, Unset, a_number, a_value, answer_by, form_of, source_of}
use Rattle.mid_program.specs.Rewriting.{code_in, codes_in, step_in, steps_in}
use Rattle.mid_program.specs.Stores.{Asked, Given, Into, Store, step_stores, steps_stores, stores, stores_given, stores_in}
use Rattle.folding.specs.Folding.{constant, of_one, of_two, reduced, reduced_to, same, value_of}
use Rattle.folding.proofs.Sorted.{source_by}

-- an operation that is computed: its operands are constants, which store nothing, and its answer is a number

constant_stores : (fs : List Form) (e : Code) (n : AnyNumber) → constant e ≡ Some n → stores fs e ≡ []
constant_stores fs (Number z) n h = refl
constant_stores fs _ n h = absurd cc

record Computed (o : Operation) (es : Codes) : Type 0 where
  answers : PrimitiveAnswer (answer_by o) ≡ a_number
  stores_nothing : (fs : List Form) → stores_in fs es ≡ []

one_computed : (o : Operation) (a : Code) (x : Option AnyNumber) (r : AnyNumber) → constant a ≡ x → of_one o x ≡ Some r → Computed o (At a End)
one_computed AsNumber a (Some x) r e h = record { answers = refl; stores_nothing = λ fs i. constant_stores fs a x e i ++ [] }
one_computed FieldNumber a (Some x) r e h = record { answers = refl; stores_nothing = λ fs i. constant_stores fs a x e i ++ [] }
one_computed _ a x r e h = absurd cc

two_computed : (o : Operation) (a b : Code) (x y : Option AnyNumber) (r : AnyNumber) → constant a ≡ x → constant b ≡ y → of_two o x y ≡ Some r → Computed o (At a (At b End))
two_computed (Inline k) a b (Some x) (Some y) r e d h = record { answers = refl; stores_nothing = λ fs i. constant_stores fs a x e i ++ (constant_stores fs b y d i ++ []) }
two_computed (Host Pow) a b (Some x) (Some y) r e d h = record { answers = refl; stores_nothing = λ fs i. constant_stores fs a x e i ++ (constant_stores fs b y d i ++ []) }
two_computed _ a b x y r e d h = absurd cc

computed : (o : Operation) (es : Codes) (r : AnyNumber) → value_of o es ≡ Some r → Computed o es
computed o (At a End) r h = one_computed o a (constant a) r refl h
computed o (At a (At b End)) r h = two_computed o a b (constant a) (constant b) r refl refl h
computed o _ r h = absurd cc

form_by : (fs : List Form) (o : Operation) (es : Codes) (v : Option AnyNumber) → value_of o es ≡ v → form_of fs (reduced_to v o es) ≡ PrimitiveAnswer (answer_by o)
form_by fs o es (Some r) h = sym (computed o es r h).answers
form_by fs o es None h = refl

stores_by : (fs : List Form) (o : Operation) (es : Codes) (v : Option AnyNumber) → value_of o es ≡ v → stores fs (reduced_to v o es) ≡ stores_in fs es
stores_by fs o es (Some r) h = sym ((computed o es r h).stores_nothing fs)
stores_by fs o es None h = refl

-- expressions

abbrev F : Code → Code
F e = code_in same reduced e

abbrev Fs : Codes → Codes
Fs es = codes_in same reduced es

form_same : (fs : List Form) (e : Code) → form_of fs (F e) ≡ form_of fs e
form_same fs (Do o es) = form_by fs o (Fs es) (value_of o (Fs es)) refl
form_same fs (Over l es) = refl
form_same fs (Compare c a b) = refl
form_same fs (Call f es) = refl
form_same fs Ask = refl
form_same fs (AskLine s) = refl
form_same fs (FileLine e s) = refl
form_same fs (Replace all es s) = refl
form_same fs (Number z) = refl
form_same fs (Text i) = refl
form_same fs Unset = refl
form_same fs (Get x) = refl
form_same fs (Set x e) = form_same fs e
form_same fs (Array a) = refl
form_same fs (IsOpen i) = refl
form_same fs (Choose s c a b) = refl
form_same fs (Seq a b) = form_same fs b
form_same fs (Let a b) = ap (λ (f : Form). form_of (f ∷ fs) (F b)) (form_same fs a) ∙ form_same (form_of fs a ∷ fs) b
form_same fs (Bound m i) = refl

source_same : (e : Code) → source_of (F e) ≡ source_of e
source_same (Do o es) = source_by o (Fs es) (value_of o (Fs es))
source_same (Get x) = refl
source_same e = refl

mutual
  stores_same : (fs : List Form) (e : Code) → stores fs (F e) ≡ stores fs e
  stores_same fs (Do o es) = stores_by fs o (Fs es) (value_of o (Fs es)) refl ∙ operands_same fs es
  stores_same fs (Over l es) = operands_same fs es
  stores_same fs (Compare c a b) = λ j. stores_same fs a j ++ stores_same fs b j
  stores_same fs (Call f es) = given_same f 0 fs es
  stores_same fs Ask = refl
  stores_same fs (AskLine s) = ap (λ (ss : List Store). Asked ∷ ss) (stores_same (a_value ∷ fs) s)
  stores_same fs (FileLine e s) = λ j. stores_same fs e j ++ stores_same (a_value ∷ fs) s j
  stores_same fs (Replace all es s) = λ j. operands_same fs es j ++ stores_same (a_value ∷ fs) s j
  stores_same fs (Number z) = refl
  stores_same fs (Text i) = refl
  stores_same fs Unset = refl
  stores_same fs (Get x) = refl
  stores_same fs (Set x e) = λ j. stores_same fs e j ++ (Into x (source_same e j) (form_same fs e j) ∷ [])
  stores_same fs (Array a) = refl
  stores_same fs (IsOpen i) = refl
  stores_same fs (Choose s c a b) = λ j. stores_same fs c j ++ (stores_same fs a j ++ stores_same fs b j)
  stores_same fs (Seq a b) = λ j. stores_same fs a j ++ stores_same fs b j
  stores_same fs (Let a b) =
      (λ j. stores_same fs a j ++ stores (form_same fs a j ∷ fs) (F b)) ∙ ap (λ (ss : List Store). stores fs a ++ ss) (stores_same (form_of fs a ∷ fs) b)
  stores_same fs (Bound m i) = refl

  operands_same : (fs : List Form) (es : Codes) → stores_in fs (Fs es) ≡ stores_in fs es
  operands_same fs End = refl
  operands_same fs (At e es) = λ j. stores_same fs e j ++ operands_same fs es j
  operands_same fs (Fixed n es) = operands_same fs es
  operands_same fs (Fresh es) = operands_same fs es

  given_same : (f i : ℕ) (fs : List Form) (es : Codes) → stores_given f i fs (Fs es) ≡ stores_given f i fs es
  given_same f i fs End = refl
  given_same f i fs (At e es) = λ j. stores_same fs e j ++ (Given f i (source_same e j) (form_same fs e j) ∷ given_same f (suc i) fs es j)
  given_same f i fs (Fixed n es) = given_same f (suc i) fs es
  given_same f i fs (Fresh es) = given_same f (suc i) fs es

-- statements

mutual
  step_same : (s : Step) → step_stores (step_in same reduced s) ≡ step_stores s
  step_same (Eval e) = stores_same [] e
  step_same (Block ss) = steps_same ss
  step_same (If e a b) = λ j. stores_same [] e j ++ (step_same a j ++ step_same b j)
  step_same (Loop first e a b) = λ j. stores_same [] e j ++ (step_same a j ++ step_same b j)
  step_same (Each a e s) = λ j. stores_same (a_value ∷ []) e j ++ step_same s j
  step_same Break = refl
  step_same Continue = refl
  step_same Next = refl
  step_same Exit = refl
  step_same (ExitWith e) = stores_same [] e
  step_same (Return e) = stores_same [] e
  step_same (Mark i b) = refl

  pub steps_same : (ss : Steps) → steps_stores (steps_in same reduced ss) ≡ steps_stores ss
  steps_same NoStep = refl
  steps_same (Then s ss) = λ j. step_same s j ++ steps_same ss j
