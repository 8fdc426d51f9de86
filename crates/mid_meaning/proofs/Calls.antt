-- The code of a call's arguments gives what the call is given.
use Rattle.std.proofs.Common.{◌≡◌, ℕ, Bool, true, false, List, [], ◌∷◌, refl, sym, ◌∙◌}
use Rattle.std.specs.Prelude.{if◌then◌else◌, map, None}
use Rattle.awk_values.specs.declared.value.Value.{Value}
use Rattle.awk_values.specs.declared.value.Value.TheVariants as value
use Rattle.sem_primitives.specs.declared.sorts.Sort.TheVariants as sort
use Rattle.sem_primitives.specs.declared.sorts.Answer.TheVariants as answer
use Rattle.sem_primitives.specs.declared.table.Primitive.TheVariants as row
use Rattle.sem_scripts.specs.Names.{Name, ArrayName, Variable}
use Rattle.sem_scripts.specs.ScriptState.{Local, Scalar, Array as ArrayOf, Execution, ◌>>=◌, give, call}
use Rattle.sem_scripts.specs.Steps.{array_number, read_variable, fresh_all}
use Rattle.sem_scripts.specs.Meaning.{Calls}
use Rattle.mid_program.specs.Mid.{Kind, Boxed, ArrayKind, Code, Unset, Array, Codes, At, Fresh, Form, PrimitiveAnswer, NumberOrText, OptionalNumber, form_of}
use Rattle.mid_program.specs.MidMeaning.{Env, Holds, Values, all_evaluated, array_in, boxed, evaluated, locals_of}
use Rattle.mid_program.specs.Translation.{variable_code, fresh_codes, kind_of}
use Rattle.mid_meaning.proofs.Binding.{As, assoc, bind_as, flat, under}
use Rattle.mid_meaning.proofs.Expressions.{variable_is}
use Rattle.mid_meaning.proofs.Operands.{Is, Valued, first_operand}

abbrev pub kind_by : Bool → Kind
kind_by b = if b then ArrayKind else Boxed

abbrev pub local_as : Bool → (f : Form) → Holds f → Local
local_as true f v = ArrayOf (array_in f v)
local_as false f v = Scalar (boxed f v)

no_array : (f : Form) → Valued f → (v : Holds f) → array_in f v ≡ 0
no_array (PrimitiveAnswer (answer.Of sort.Value)) p v = refl
no_array (PrimitiveAnswer (answer.Of sort.Number)) p v = refl
no_array (PrimitiveAnswer answer.Truth) p v = refl
no_array NumberOrText p v = refl
no_array OptionalNumber p v = refl
no_array (PrimitiveAnswer (answer.Of sort.Array)) p v = absurd p
no_array (PrimitiveAnswer (answer.Of sort.Iterator)) p v = absurd p
no_array (PrimitiveAnswer answer.Nothing) p v = absurd p
no_array (PrimitiveAnswer answer.Done) p v = absurd p
no_array (PrimitiveAnswer answer.Input) p v = absurd p
no_array (PrimitiveAnswer answer.Assign) p v = absurd p
no_array (PrimitiveAnswer answer.Stream) p v = absurd p
no_array (PrimitiveAnswer answer.ValueOrEnd) p v = absurd p
no_array (PrimitiveAnswer answer.Name) p v = absurd p

locals_step : (b : Bool) (fs : List Form) (ks : List Kind) (e : Code) (es : Codes) (v : Holds (form_of fs e)) (vs : Values fs es) → locals_of fs (kind_by b ∷ ks) (At e es) (v, vs) ≡ local_as b (form_of fs e) v ∷ locals_of fs ks es vs
locals_step true fs ks e es v vs = refl
locals_step false fs ks e es v vs = refl

module _ (texts : List (List ℕ)) (parameters : List (List Kind)) (n : ℕ) (calls : Calls) (fs : List Form) (env : Env fs) where
  abbrev Eval : (e : Code) → Execution (Holds (form_of fs e))
  Eval e = evaluated texts parameters n calls fs env e

  abbrev All : (es : Codes) → Execution (Values fs es)
  All es = all_evaluated texts parameters n calls fs env es

  abbrev pub Handed : {C : Type 0} → List Kind → Codes → (List Local → Execution C) → Execution C
  Handed ks es K = all_evaluated texts parameters n calls fs env es >>= λ vs. K (locals_of fs ks es vs)

  pub argument_step : {C : Type 0} (b : Bool) (e : Code) (es : Codes) (ks : List Kind) (L : Execution Local) (M : Execution (List Local)) (K : List Local → Execution C) →
      As (local_as b (form_of fs e)) (evaluated texts parameters n calls fs env e) L → ((l : Local) → Handed ks es (λ ls. K (l ∷ ls)) ≡ (M >>= λ ls. K (l ∷ ls))) →
      Handed (kind_by b ∷ ks) (At e es) K ≡ ((L >>= λ l. M >>= λ ls. give (l ∷ ls)) >>= K)
  unfolding evaluated all_evaluated
  argument_step b e es ks L M K p h =
      first_operand texts parameters n calls fs env e es (λ vs. K (locals_of fs (kind_by b ∷ ks) (At e es) vs))
      ∙ (λ i. Eval e >>= λ v. All es >>= λ vs. K (locals_step b fs ks e es v vs i))
      ∙ bind_as (local_as b (form_of fs e)) (Eval e) L (λ v. Handed ks es (λ ls. K (local_as b (form_of fs e) v ∷ ls))) (λ l. M >>= λ ls. K (l ∷ ls)) p (λ v. h (local_as b (form_of fs e) v))
      ∙ sym (flat L (λ l. M) (λ l ls. give (l ∷ ls)) K)

  pub named_as : (b c : Bool) (a : ArrayName) (x : Variable) →
      As (local_as b (form_of fs (if b then Array a else if c then Unset else variable_code x))) (evaluated texts parameters n calls fs env (if b then Array a else if c then Unset else variable_code x))
      (if b then (array_number a >>= λ i. give (ArrayOf i)) else if c then give (Scalar value.Uninit) else (read_variable x >>= λ v. give (Scalar v)))
  unfolding evaluated all_evaluated
  named_as true c a x = refl
  named_as false true a x = refl
  named_as false false a x = bind_as (boxed (form_of fs (variable_code x))) (Eval (variable_code x)) (read_variable x) (λ v. give (Scalar (boxed (form_of fs (variable_code x)) v))) (λ v. give (Scalar v)) ((variable_is texts parameters n calls fs env x).means) (λ v. refl)

  pub value_as : (b : Bool) (e : Code) (m : Execution Value) → Is texts parameters n calls fs env e m → As (local_as b (form_of fs e)) (evaluated texts parameters n calls fs env e) (m >>= λ x. give (if b then ArrayOf 0 else Scalar x))
  value_as true e m p = bind_as (boxed (form_of fs e)) (Eval e) m (λ v. give (ArrayOf (array_in (form_of fs e) v))) (λ x. give (ArrayOf 0)) p.means (λ v i. give (ArrayOf (no_array (form_of fs e) p.valued v i)))
  value_as false e m p = bind_as (boxed (form_of fs e)) (Eval e) m (λ v. give (Scalar (boxed (form_of fs e) v))) (λ x. give (Scalar x)) p.means (λ v. refl)

  -- what is missing is made
  fresh_step : {C : Type 0} (b : Bool) (es : Codes) (ks : List Kind) (M : Execution (List Local)) (K : List Local → Execution C) → ((l : Local) → Handed ks es (λ ls. K (l ∷ ls)) ≡ (M >>= λ ls. K (l ∷ ls))) →
      Handed (kind_by b ∷ ks) (if b then Fresh es else At Unset es) K ≡ (((if b then (call row.NewArray tt >>= λ i. give (ArrayOf i)) else give (Scalar value.Uninit)) >>= λ l. M >>= λ ls. give (l ∷ ls)) >>= K)
  unfolding evaluated all_evaluated
  fresh_step true es ks M K h =
      flat (call row.NewArray tt) (λ i. All es) (λ i vs. give (i, vs)) (λ vs. K (locals_of fs (ArrayKind ∷ ks) (Fresh es) vs))
      ∙ under (call row.NewArray tt) (λ i. Handed ks es (λ ls. K (ArrayOf i ∷ ls))) (λ i. M >>= λ ls. K (ArrayOf i ∷ ls)) (λ i. h (ArrayOf i))
      ∙ sym (assoc (call row.NewArray tt >>= λ i. give (ArrayOf i)) (λ l. M >>= λ ls. give (l ∷ ls)) K ∙ assoc (call row.NewArray tt) (λ i. give (ArrayOf i)) (λ l. (M >>= λ ls. give (l ∷ ls)) >>= K)
      ∙ under (call row.NewArray tt) (λ i. (M >>= λ ls. give (ArrayOf i ∷ ls)) >>= K) (λ i. M >>= λ ls. K (ArrayOf i ∷ ls)) (λ i. assoc M (λ ls. give (ArrayOf i ∷ ls)) K))
  fresh_step false es ks M K h =
      assoc (All es) (λ vs. give (None, vs)) (λ vs. K (locals_of fs (Boxed ∷ ks) (At Unset es) vs))
      ∙ h (Scalar value.Uninit)
      ∙ sym (assoc M (λ ls. give (Scalar value.Uninit ∷ ls)) K)

  pub fresh_same : {C : Type 0} (ps : List Name) (K : List Local → Execution C) → Handed (map kind_of ps) (fresh_codes ps) K ≡ (fresh_all ps >>= K)
  unfolding evaluated all_evaluated
  fresh_same [] K = refl
  fresh_same (p ∷ ps) K = fresh_step p.is_array (fresh_codes ps) (map kind_of ps) (fresh_all ps) K (λ l. fresh_same ps (λ ls. K (l ∷ ls)))
