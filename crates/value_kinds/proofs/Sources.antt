-- A copy of a name is there in the name's form.
use Rattle.std.proofs.Common.{◌≡◌, ℕ, suc, List, [], ◌∷◌, ◌++◌, Option, Some, None, refl}
use Rattle.mid_program.specs.Mid.{Slot, Code, Do, Over, Compare, Call, Ask, AskLine, FileLine, Replace, Get, Set, Choose, Seq, Let, Codes, End, At, Fixed, Fresh, Step, Eval, Block, If, Loop, Each, ExitWith, Return, Steps, NoStep, Then, Form, a_value, slot_form, form_of, source_of}
use Rattle.mid_program.specs.Stores.{Store, Into, Given, Asked, Every, stores, stores_in, stores_given, step_stores, steps_stores}

abbrev pub IsCopy : Option Slot → Form → Type 0
IsCopy None f = Unit {0}
IsCopy (Some y) f = f ≡ slot_form y

abbrev pub IsNamed : Store → Type 0
IsNamed (Into x o f) = IsCopy o f
IsNamed (Given k i o f) = IsCopy o f
IsNamed Asked = Unit {0}

abbrev Named : List Store → Type 0
Named ss = Every IsNamed ss

pub every_both : (P : Store → Type 0) (xs ys : List Store) → Every P xs → Every P ys → Every P (xs ++ ys)
every_both P [] ys h k = k
every_both P (x ∷ xs) ys h k = (h.0, every_both P xs ys h.1 k)

both : (xs ys : List Store) → Named xs → Named ys → Named (xs ++ ys)
both = every_both IsNamed

source_named : (fs : List Form) (e : Code) → IsCopy (source_of e) (form_of fs e)
source_named fs (Get y) = refl
source_named fs e = tt

mutual
  code_named : (fs : List Form) (e : Code) → Named (stores fs e)
  code_named fs (Do o es) = operands_named fs es
  code_named fs (Over l es) = operands_named fs es
  code_named fs (Compare c a b) = both (stores fs a) (stores fs b) (code_named fs a) (code_named fs b)
  code_named fs (Call f es) = given_named f 0 fs es
  code_named fs Ask = (tt, tt)
  code_named fs (AskLine s) = (tt, code_named (a_value ∷ fs) s)
  code_named fs (FileLine e s) = both (stores fs e) _ (code_named fs e) (code_named (a_value ∷ fs) s)
  code_named fs (Replace all es s) = both (stores_in fs es) _ (operands_named fs es) (code_named (a_value ∷ fs) s)
  code_named fs (Set x e) = both (stores fs e) _ (code_named fs e) (source_named fs e, tt)
  code_named fs (Choose s c a b) = both (stores fs c) _ (code_named fs c) (both (stores fs a) (stores fs b) (code_named fs a) (code_named fs b))
  code_named fs (Seq a b) = both (stores fs a) (stores fs b) (code_named fs a) (code_named fs b)
  code_named fs (Let a b) = both (stores fs a) _ (code_named fs a) (code_named (form_of fs a ∷ fs) b)
  code_named fs e = tt

  operands_named : (fs : List Form) (es : Codes) → Named (stores_in fs es)
  operands_named fs End = tt
  operands_named fs (At e es) = both (stores fs e) _ (code_named fs e) (operands_named fs es)
  operands_named fs (Fixed n es) = operands_named fs es
  operands_named fs (Fresh es) = operands_named fs es

  given_named : (f i : ℕ) (fs : List Form) (es : Codes) → Named (stores_given f i fs es)
  given_named f i fs End = tt
  given_named f i fs (At e es) = both (stores fs e) _ (code_named fs e) (source_named fs e, given_named f (suc i) fs es)
  given_named f i fs (Fixed n es) = given_named f (suc i) fs es
  given_named f i fs (Fresh es) = given_named f (suc i) fs es

mutual
  step_named : (s : Step) → Named (step_stores s)
  step_named (Eval e) = code_named [] e
  step_named (Block ss) = steps_named ss
  step_named (If e a b) = both (stores [] e) _ (code_named [] e) (both (step_stores a) (step_stores b) (step_named a) (step_named b))
  step_named (Loop first e a b) = both (stores [] e) _ (code_named [] e) (both (step_stores a) (step_stores b) (step_named a) (step_named b))
  step_named (Each a e s) = both (stores (a_value ∷ []) e) (step_stores s) (code_named (a_value ∷ []) e) (step_named s)
  step_named (ExitWith e) = code_named [] e
  step_named (Return e) = code_named [] e
  step_named s = tt

  pub steps_named : (ss : Steps) → Named (steps_stores ss)
  steps_named NoStep = tt
  steps_named (Then s ss) = both (step_stores s) _ (step_named s) (steps_named ss)
