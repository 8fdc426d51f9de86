-- Lists that are written anew, element by element.
use Rattle.std.proofs.Common.{◌≡◌, ℕ, zero, suc, ◌+◌, ◌<◌, ◌≤◌, List, [], ◌∷◌, length, map, get_or, set, take, ◌++◌, Option, Some, None, ℤ, pos, negsuc, FitsSigned, w64, to_z, of_z, to_z-of_z, refl, ap, sym, subst, ◌∙◌, arith}
use Rattle.std.proofs.Math.Seq.{take-append_seam}
use Rattle.std.proofs.lemmas.List.{get_or-set_other, length-set}
use Rattle.std.specs.declared.vec.Vec.{Vec}
use Rattle.std.specs.declared.alloc.Global.{Global}
use Rattle.mid_program.specs.Mid as plain
use Rattle.mid_program.specs.ViewCode.{before, view, view_row, view_step, view_step_row, view_steps, views}
use Rattle.mid_program.specs.declared.mid.Operation.{Operation}
use Rattle.mid_program.specs.declared.mid.Operation.TheVariants as operation
use Rattle.sem_primitives.specs.declared.table.Primitive.TheVariants.{Pow}
use Rattle.mid_program.specs.declared.code.Operand.{Operand}
use Rattle.mid_program.specs.declared.code.Operand.TheVariants as operand
use Rattle.mid_program.specs.declared.code.Code.{Code, Do, Row_of-Operand, end_of-Operand, more_of-Operand, items-the_row-Operand, items_hidden-the_row-Operand-0}
use Rattle.mid_program.specs.declared.code.Code.TheBlock.{hidden-the_row-Operand-0}
use Rattle.mid_program.specs.declared.step.Step.{Step, Row_of-Step, end_of-Step, more_of-Step, items-the_row-Step, items_hidden-the_row-Step-0}
use Rattle.mid_program.specs.declared.step.Step.TheBlock.{hidden-the_row-Step-0}
use Rattle.std.specs.Prelude.{◌^◌, unsigned_abs}
use Rattle.std.proofs.lemmas.Int.{ints}
use Rattle.std.proofs.lemmas.Option.{none-some}
use Rattle.awk_text.specs.NumberText.{InRange}
use Rattle.sem_primitives.specs.Numbers.{Number}
use Rattle.sem_primitives.proofs.Words.{fits, small}
use Rattle.mid_program.specs.View.{view_routine}
use Rattle.mid_program.specs.declared.program.Routine.{Routine}
use Rattle.folding.specs.Folding.{constant, folded, folded_routine, folded_steps, of_one, of_two, reduced, reduced_to, same, value_of}
use Rattle.folding.specs.View.{leading_constant, numeral}
use Rattle.mid_program.specs.Rewriting.{codes_in, step_in}

row_views : {n : _} (k : Row_of-Operand n) → view_row k ≡ views (items-the_row-Operand n k)
row_views end_of-Operand = refl
row_views (more_of-Operand e rest) = ap (before e) (row_views rest)

pub operands_of : (v : Vec Operand Global) → view_row (hidden-the_row-Operand-0 v) ≡ views v.items
operands_of v = row_views (hidden-the_row-Operand-0 v) ∙ ap views (items_hidden-the_row-Operand-0 v)

pub view_do : (o : Operation) (v : Vec Operand Global) → view (Do o v) ≡ plain.Do o (views v.items)
view_do o v = ap (plain.Do o) (operands_of v)

step_rows : {n : _} (k : Row_of-Step n) → view_step_row k ≡ view_steps (items-the_row-Step n k)
step_rows end_of-Step = refl
step_rows (more_of-Step s rest) = ap (plain.Then (view_step s)) (step_rows rest)

pub steps_of : (v : Vec Step Global) → view_step_row (hidden-the_row-Step-0 v) ≡ view_steps v.items
steps_of v = step_rows (hidden-the_row-Step-0 v) ∙ ap view_steps (items_hidden-the_row-Step-0 v)

-- the first i are changed as R says, the others are as they were
module _ {A : Type 0} (R : A → A → Type 0) where
  abbrev pub Done : ℕ → List A → List A → Type 0
  Done zero xs ys = xs ≡ ys
  Done (suc i) (x ∷ xs) (y ∷ ys) = R x y × Done i xs ys
  Done (suc i) _ _ = ⊥

  done_first : (x a b : A) (xs ys : List A) → R x a → ◌≡◌ {A = List A} (a ∷ xs) (b ∷ ys) → R x b × (xs ≡ ys)
  done_first x a b xs ys r h = (subst (R x) (ap head h) r, ap rest h)
    where
      head : List A → A
      head [] = a
      head (z ∷ zs) = z

      rest : List A → List A
      rest [] = xs
      rest (z ∷ zs) = zs

  done_suc : (i : ℕ) (xs ys : List A) (d x : A) → i < length xs → Done i xs ys → R x (get_or xs i d) → Done (suc i) (set xs i x) ys
  done_suc zero (a ∷ xs) (b ∷ ys) d x lt h r = done_first x a b xs ys r h
  done_suc zero (a ∷ xs) [] d x lt h r = absurd cc
  done_suc zero [] ys d x lt h r = absurd (omega arith)
  done_suc (suc i) (a ∷ xs) (b ∷ ys) d x lt h r = (h.0, done_suc i xs ys d x (omega arith) h.1 r)
  done_suc (suc i) (a ∷ xs) [] d x lt h r = absurd h
  done_suc (suc i) [] ys d x lt h r = absurd (omega arith)

  pub done_next : (i : ℕ) (xs ys : List A) (d x : A) → i < length xs → Done i xs ys → R x (get_or xs i d) → Done (i + 1) (set xs i x) ys
  done_next i xs ys d x lt h r = let s : suc i ≡ i + 1 = omega arith in subst (λ (n : ℕ). Done n (set xs i x) ys) s (done_suc i xs ys d x lt h r)

  pub done_all : {B : Type 0} (f g : List A → B) → ((x y : A) (xs ys : List A) → R x y → f xs ≡ g ys → f (x ∷ xs) ≡ g (y ∷ ys)) → f [] ≡ g [] → (i : ℕ) (xs ys : List A) → i ≡ length xs → Done i xs ys → f xs ≡ g ys
  done_all f g more none zero [] [] e h = none
  done_all f g more none zero [] (y ∷ ys) e h = absurd cc
  done_all f g more none zero (x ∷ xs) ys e h = absurd cc
  done_all f g more none (suc i) (x ∷ xs) (y ∷ ys) e h = more x y xs ys h.0 (done_all f g more none i xs ys (omega (arith, e)) h.1)
  done_all f g more none (suc i) (x ∷ xs) [] e h = absurd h
  done_all f g more none (suc i) [] ys e h = absurd cc

-- those after the first i are as they were
pub rest_next : {A : Type 0} (xs ys : List A) (i : ℕ) (x : A) → (length xs ≡ length ys) × ((k : ℕ) (d : A) → i ≤ k → get_or xs k d ≡ get_or ys k d) →
    (length (set xs i x) ≡ length ys) × ((k : ℕ) (d : A) → i + 1 ≤ k → get_or (set xs i x) k d ≡ get_or ys k d)
rest_next xs ys i x h = (length-set xs i x ∙ h.0, λ k d le. get_or-set_other xs i k x d (omega arith) ∙ h.1 k d (omega arith))

-- operands

abbrev pub OperandDone : Operand → Operand → Type 0
OperandDone x y = before x plain.End ≡ codes_in same reduced (before y plain.End)

abbrev first_code : plain.Code → plain.Codes → plain.Code
first_code d (plain.At e es) = e
first_code d _ = d

abbrev first_constant : plain.Codes → ℕ
first_constant (plain.Fixed n es) = n
first_constant _ = 0

operand_more : (x y : Operand) (xs ys : List Operand) → OperandDone x y → views xs ≡ codes_in same reduced (views ys) → views (x ∷ xs) ≡ codes_in same reduced (views (y ∷ ys))
operand_more (operand.Code a) (operand.Code b) xs ys h k = λ i. plain.At (first_code (view a) (h i)) (k i)
operand_more (operand.Constant m) (operand.Constant n) xs ys h k = λ i. plain.Fixed (first_constant (h i)) (k i)
operand_more operand.Fresh operand.Fresh xs ys h k = ap plain.Fresh k
operand_more (operand.Code a) (operand.Constant n) xs ys h k = absurd cc
operand_more (operand.Code a) operand.Fresh xs ys h k = absurd cc
operand_more (operand.Constant m) (operand.Code b) xs ys h k = absurd cc
operand_more (operand.Constant m) operand.Fresh xs ys h k = absurd cc
operand_more operand.Fresh (operand.Code b) xs ys h k = absurd cc
operand_more operand.Fresh (operand.Constant n) xs ys h k = absurd cc

pub operands_done : (i : ℕ) (xs ys : List Operand) → i ≡ length xs → Done OperandDone i xs ys → views xs ≡ codes_in same reduced (views ys)
operands_done i xs ys e h = done_all OperandDone views (λ zs. codes_in same reduced (views zs)) operand_more refl i xs ys e h

-- codes

abbrev pub CodeDone : Code → Code → Type 0
CodeDone x y = view x ≡ folded (view y)

pub codes_done : (i : ℕ) (xs ys : List Code) → i ≡ length xs → Done CodeDone i xs ys → map view xs ≡ map folded (map view ys)
codes_done i xs ys e h = done_all CodeDone (map view) (λ zs. map folded (map view zs)) (λ x y xs ys r k. λ j. r j ∷ k j) refl i xs ys e h

-- steps

abbrev pub StepDone : Step → Step → Type 0
StepDone x y = view_step x ≡ step_in same reduced (view_step y)

pub steps_done : (i : ℕ) (xs ys : List Step) → i ≡ length xs → Done StepDone i xs ys → view_steps xs ≡ folded_steps (view_steps ys)
steps_done i xs ys e h = done_all StepDone view_steps (λ zs. folded_steps (view_steps zs)) (λ x y xs ys r k. λ j. plain.Then (r j) (k j)) refl i xs ys e h

-- functions

abbrev pub RoutineDone : Routine → Routine → Type 0
RoutineDone x y = view_routine x ≡ folded_routine (view_routine y)

pub routines_done : (i : ℕ) (xs ys : List Routine) → i ≡ length xs → Done RoutineDone i xs ys → map view_routine xs ≡ map folded_routine (map view_routine ys)
routines_done i xs ys e h = done_all RoutineDone (λ zs. map view_routine zs) (λ zs. map folded_routine (map view_routine zs)) (λ x y xs ys r k. λ j. r j ∷ k j) refl i xs ys e h

-- what a Vec has once its elements were lent
pub written_back : {A : Type 0} (n : ℕ) (xs ys : List A) → n ≡ length xs → take n (xs ++ ys) ≡ xs
written_back n xs ys e = ap (λ (m : ℕ). take m (xs ++ ys)) e ∙ take-append_seam xs ys

-- what an operation is reduced to

pub some_reduced : (o : Operation) (es : plain.Codes) (z : ℤ) (r : Option ℤ) → r ≡ numeral (value_of o es) → r ≡ Some z → plain.Number z ≡ reduced o es
some_reduced o es z r h k = by (value_of o es) (sym k ∙ h)
  where
    by : (v : Option Number) → Some z ≡ numeral v → plain.Number z ≡ reduced_to v o es
    by (Some n) e = λ i. plain.Number (or_that (e i))
      where
        or_that : Option ℤ → ℤ
        or_that (Some y) = y
        or_that None = z
    by None e = absurd (none-some z (sym e))

pub some_fits : (o : Operation) (es : plain.Codes) (z : ℤ) (r : Option ℤ) → r ≡ numeral (value_of o es) → r ≡ Some z → FitsSigned w64 z
some_fits o es z r h k = by (value_of o es) (sym k ∙ h)
  where
    by : (v : Option Number) → Some z ≡ numeral v → FitsSigned w64 z
    by (Some n) e = subst (FitsSigned w64) (λ i. or_that (sym e i)) (fits n.number (small n))
      where
        or_that : Option ℤ → ℤ
        or_that (Some y) = y
        or_that None = z
    by None e = absurd (none-some z (sym e))

pub none_reduced : (o : Operation) (es : plain.Codes) (r : Option ℤ) → r ≡ numeral (value_of o es) → r ≡ None → plain.Do o es ≡ reduced o es
none_reduced o es r h k = by (value_of o es) (sym k ∙ h)
  where
    by : (v : Option Number) → None ≡ numeral v → plain.Do o es ≡ reduced_to v o es
    by (Some n) e = absurd (none-some n.number e)
    by None e = refl

-- operands in a slice

pub one_is : (xs : List Operand) (x : Operand) → 1 ≤ length xs → length xs < 2 → x ≡ get_or xs 0 x → views xs ≡ before x plain.End
one_is [] x l u e = absurd (omega arith)
one_is (a ∷ []) x l u e = λ i. before (sym e i) plain.End
one_is (a ∷ b ∷ xs) x l u e = absurd (omega arith)

pub two_are : (xs : List Operand) (x y : Operand) → 2 ≤ length xs → length xs < 3 → x ≡ get_or xs 0 x → y ≡ get_or xs 1 y → views xs ≡ before x (before y plain.End)
two_are [] x y l u e f = absurd (omega arith)
two_are (a ∷ []) x y l u e f = absurd (omega arith)
two_are (a ∷ b ∷ []) x y l u e f = λ i. before (sym e i) (before (sym f i) plain.End)
two_are (a ∷ b ∷ c ∷ xs) x y l u e f = absurd (omega arith)

-- the number of an operation on operands of which these numbers are known

same_number : (k : ℤ) (n : Number) → Some k ≡ Some n.number → n.number ≡ k
same_number k n e = λ i. or_that (sym e i)
  where
    or_that : Option ℤ → ℤ
    or_that (Some y) = y
    or_that None = k

-- a number that was put in a word
word_number : (k : ℤ) (n : Number) → Some k ≡ Some n.number → n.number ≡ to_z w64 (of_z w64 k)
word_number k n e = let is = same_number k n e in is ∙ sym (to_z-of_z (subst (FitsSigned w64) is (fits n.number (small n))))

small_range : (z : ℤ) → unsigned_abs z ≤ 2 ^ 53 → InRange z
small_range (pos k) h = (omega (arith, ints), omega (arith, ints))
small_range (negsuc k) h = (omega (arith, ints), omega (arith, ints))

pub range_known : (x : Operand) (k : ℤ) → Some k ≡ numeral (leading_constant (before x plain.End)) → InRange (to_z w64 (of_z w64 k))
range_known (operand.Code a) k h = by (constant (view a)) h
  where
    by : (c : Option Number) → Some k ≡ numeral c → InRange (to_z w64 (of_z w64 k))
    by (Some n) e = subst InRange (word_number k n e) (small_range n.number (small n))
    by None e = absurd (none-some k (sym e))
range_known (operand.Constant n) k h = absurd (none-some k (sym h))
range_known operand.Fresh k h = absurd (none-some k (sym h))

pub one_known : (o : Operation) (r : Option ℤ) (x : Operand) (k : ℤ) → Some k ≡ numeral (leading_constant (before x plain.End)) →
    ((n : Number) → n.number ≡ to_z w64 (of_z w64 k) → r ≡ numeral (of_one o (Some n))) → r ≡ numeral (value_of o (before x plain.End))
one_known o r (operand.Code a) k h f = by (constant (view a)) h
  where
    by : (c : Option Number) → Some k ≡ numeral c → r ≡ numeral (of_one o c)
    by (Some n) e = f n (word_number k n e)
    by None e = absurd (none-some k (sym e))
one_known o r (operand.Constant n) k h f = absurd (none-some k (sym h))
one_known o r operand.Fresh k h f = absurd (none-some k (sym h))

pub two_known : (o : Operation) (r : Option ℤ) (x y : Operand) (k m : ℤ) → Some k ≡ numeral (leading_constant (before x plain.End)) → Some m ≡ numeral (leading_constant (before y plain.End)) →
    ((a b : Number) → a.number ≡ to_z w64 (of_z w64 k) → b.number ≡ to_z w64 (of_z w64 m) → r ≡ numeral (of_two o (Some a) (Some b))) → r ≡ numeral (value_of o (before x (before y plain.End)))
two_known o r (operand.Code a) (operand.Code b) k m h g f = by (constant (view a)) (constant (view b)) h g
  where
    by : (c d : Option Number) → Some k ≡ numeral c → Some m ≡ numeral d → r ≡ numeral (of_two o c d)
    by (Some p) (Some q) e j = f p q (word_number k p e) (word_number m q j)
    by (Some p) None e j = absurd (none-some m (sym j))
    by None d e j = absurd (none-some k (sym e))
two_known o r (operand.Code a) (operand.Constant n) k m h g f = absurd (none-some m (sym g))
two_known o r (operand.Code a) operand.Fresh k m h g f = absurd (none-some m (sym g))
two_known o r (operand.Constant n) y k m h g f = absurd (none-some k (sym h))
two_known o r operand.Fresh y k m h g f = absurd (none-some k (sym h))

pub one_unknown : (o : Operation) (x : Operand) → None ≡ numeral (leading_constant (before x plain.End)) → None ≡ numeral (value_of o (before x plain.End))
one_unknown o (operand.Code a) h = by (constant (view a)) h
  where
    none : (p : Operation) → None ≡ of_one p None
    none operation.AsNumber = refl
    none operation.FieldNumber = refl
    none _ = refl

    by : (c : Option Number) → None ≡ numeral c → None ≡ numeral (of_one o c)
    by (Some n) e = absurd (none-some n.number e)
    by None e = ap numeral (none o)
one_unknown o (operand.Constant n) h = refl
one_unknown o operand.Fresh h = refl

left_none : (o : Operation) (d : Option Number) → of_two o None d ≡ None
left_none (operation.Inline a) d = refl
left_none (operation.Host Pow) d = refl
left_none _ d = refl

right_none : (o : Operation) (c : Option Number) → of_two o c None ≡ None
right_none (operation.Inline a) (Some n) = refl
right_none (operation.Host Pow) (Some n) = refl
right_none o None = left_none o None
right_none _ (Some n) = refl

pub left_unknown : (o : Operation) (x y : Operand) → None ≡ numeral (leading_constant (before x plain.End)) → None ≡ numeral (value_of o (before x (before y plain.End)))
left_unknown o (operand.Code a) (operand.Code b) h = by (constant (view a)) h
  where
    by : (c : Option Number) → None ≡ numeral c → None ≡ numeral (of_two o c (constant (view b)))
    by (Some n) e = absurd (none-some n.number e)
    by None e = sym (ap numeral (left_none o (constant (view b))))
left_unknown o (operand.Code a) (operand.Constant n) h = refl
left_unknown o (operand.Code a) operand.Fresh h = refl
left_unknown o (operand.Constant n) y h = refl
left_unknown o operand.Fresh y h = refl

pub right_unknown : (o : Operation) (x y : Operand) → None ≡ numeral (leading_constant (before y plain.End)) → None ≡ numeral (value_of o (before x (before y plain.End)))
right_unknown o (operand.Code a) (operand.Code b) h = by (constant (view b)) h
  where
    by : (d : Option Number) → None ≡ numeral d → None ≡ numeral (of_two o (constant (view a)) d)
    by (Some n) e = absurd (none-some n.number e)
    by None e = sym (ap numeral (right_none o (constant (view a))))
right_unknown o (operand.Code a) (operand.Constant n) h = refl
right_unknown o (operand.Code a) operand.Fresh h = refl
right_unknown o (operand.Constant n) y h = refl
right_unknown o operand.Fresh y h = refl

third_none : (o : Operation) (a b : plain.Code) (x : Operand) (rest : plain.Codes) → value_of o (plain.At a (plain.At b (before x rest))) ≡ None
third_none o a b (operand.Code e) rest = refl
third_none o a b (operand.Constant n) rest = refl
third_none o a b operand.Fresh rest = refl

-- there are no operations on three numbers
pub many_none : (o : Operation) (xs : List Operand) → 3 ≤ length xs → value_of o (views xs) ≡ None
many_none o [] h = absurd (omega arith)
many_none o (x ∷ []) h = absurd (omega arith)
many_none o (x ∷ y ∷ []) h = absurd (omega arith)
many_none o (operand.Code a ∷ operand.Code b ∷ z ∷ xs) h = third_none o (view a) (view b) z (views xs)
many_none o (operand.Code a ∷ operand.Constant n ∷ z ∷ xs) h = refl
many_none o (operand.Code a ∷ operand.Fresh ∷ z ∷ xs) h = refl
many_none o (operand.Constant n ∷ y ∷ z ∷ xs) h = refl
many_none o (operand.Fresh ∷ y ∷ z ∷ xs) h = refl
