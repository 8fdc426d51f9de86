-- The code of places: reading and storing what is kept does what the expression does.
use Rattle.std.proofs.Common.{◌≡◌, ℕ, suc, Bool, true, false, List, [], ◌∷◌, Ok, refl, sym, ap, ◌∙◌}
use Rattle.std.specs.Prelude.{if◌then◌else◌, None}
use Rattle.awk_values.specs.Operators.{is_zero}
use Rattle.awk_values.specs.declared.value.Value.{Value}
use Rattle.awk_values.specs.declared.value.Value.TheVariants as value
use Rattle.sem_primitives.specs.Numbers.{Number as AnyNumber}
use Rattle.sem_primitives.specs.declared.answers.InputAnswer.{InputAnswer}
use Rattle.sem_primitives.specs.declared.answers.InputAnswer.TheVariants as input
use Rattle.sem_primitives.specs.declared.sorts.Sort.TheVariants as sort
use Rattle.sem_primitives.specs.declared.sorts.Answer.TheVariants as answer
use Rattle.sem_primitives.specs.declared.sorts.Constant.TheVariants as constant
use Rattle.sem_primitives.specs.declared.sorts.Argument.TheVariants as argument
use Rattle.sem_primitives.specs.declared.table.Primitive.TheVariants as row
use Rattle.awk_grammar.specs.Token as token
use Rattle.awk_grammar.specs.Trees.{Tree, Var, Index}
use Rattle.mid_program.specs.declared.mid.Arithmetic.TheVariants as inline
use Rattle.mid_program.specs.declared.mid.Operation.{Operation}
use Rattle.mid_program.specs.declared.mid.Operation.TheVariants.{AsNumber}
use Rattle.sem_scripts.specs.Names.{ArrayName, Numbered, Given, Scope, Variable, Reserved, variable_of, array_of}
use Rattle.sem_scripts.specs.Names as names
use Rattle.sem_scripts.specs.ScriptState.{Execution, ◌>>=◌, ◌>>◌, give, nothing, settled, call, asks}
use Rattle.sem_scripts.specs.Steps.{Operator, numeric, zero_number, one_number, number_in, computed, step_operator, array_number, read_variable, store_variable, Place, Named, Element, FieldAt, read_place, store_place, stored, received, replaced_in}
use Rattle.sem_scripts.specs.Meaning.{Calls, asked}
use Rattle.mid_program.specs.Mid.{Kind, Global, Parameter, Code, Do, AskLine, FileLine, Array, Seq, Let, Bound, End, At, Form, PrimitiveAnswer, NumberOrText, OptionalNumber, a_value, a_number, form_at, form_of}
use Rattle.mid_program.specs.MidMeaning.{Env, Holds, all_evaluated, boxed, evaluated, held, numbered, or_constant, row_of, store_slot, then_row, three_values, replacing, when_read, when_replaced}
use Rattle.mid_program.specs.Translation.{host, one, two, one_code, copied, moved, step_of, store_variable_code, set_variable_code, read_at, store_at, stored_at, stepped_at, step_after_at, updated_at, kept_at, substituted_at, target_in}
use Rattle.mid_meaning.proofs.Binding.{As, assoc, bind_as, flat, given, over, silent, under}
use Rattle.mid_meaning.proofs.Expressions.{special_again, inline_is, element_is, number_is, variable_is}
use Rattle.mid_meaning.proofs.Operands.{Is, Valued, number_row, one_operand, three_operands}

some_value : (f : Form) → Valued f → Holds f
some_value (PrimitiveAnswer (answer.Of sort.Value)) v = value.Uninit
some_value (PrimitiveAnswer (answer.Of sort.Number)) v = zero_number
some_value (PrimitiveAnswer answer.Truth) v = false
some_value NumberOrText v = value.Uninit
some_value OptionalNumber v = None
some_value (PrimitiveAnswer (answer.Of sort.Array)) v = absurd v
some_value (PrimitiveAnswer (answer.Of sort.Iterator)) v = absurd v
some_value (PrimitiveAnswer answer.Nothing) v = absurd v
some_value (PrimitiveAnswer answer.Done) v = absurd v
some_value (PrimitiveAnswer answer.Input) v = absurd v
some_value (PrimitiveAnswer answer.Assign) v = absurd v
some_value (PrimitiveAnswer answer.Stream) v = absurd v
some_value (PrimitiveAnswer answer.ValueOrEnd) v = absurd v
some_value (PrimitiveAnswer answer.Name) v = absurd v

module _ (texts : List (List ℕ)) (parameters : List (List Kind)) (n : ℕ) (calls : Calls) (fs : List Form) (env : Env fs) where
  abbrev Means : Code → Execution Value → Type 0
  Means e m = Is texts parameters n calls fs env e m

  abbrev Eval : (e : Code) → Execution (Holds (form_of fs e))
  Eval e = evaluated texts parameters n calls fs env e

  -- the meaning may be said in another way
  pub retold : (e : Code) (m m' : Execution Value) → Means e m → m ≡ m' → Means e m'
  retold e m m' p q = record { valued = p.valued; means = p.means ∙ q }

  pub bound_is : (b : Bool) (i : ℕ) → Valued (form_at fs i) → Means (Bound b i) (give (boxed (form_at fs i) (held fs env i)))
  unfolding evaluated
  bound_is b i v = record { valued = v; means = refl }

  -- what is kept while the rest is evaluated
  pub let_is : (a b : Code) (m : Execution Value) (l : Value → Execution Value) → Means a m → Valued (form_of (form_of fs a ∷ fs) b) →
      ((x : Holds (form_of fs a)) → As (boxed (form_of (form_of fs a ∷ fs) b)) (evaluated texts parameters n calls (form_of fs a ∷ fs) (x, env) b) (l (boxed (form_of fs a) x))) → Means (Let a b) (m >>= l)
  unfolding evaluated
  let_is a b m l p v h = record {
    valued = v;
    means =
        assoc (Eval a) (λ x. evaluated texts parameters n calls (form_of fs a ∷ fs) (x, env) b) (λ z. give (boxed (form_of (form_of fs a ∷ fs) b) z))
        ∙ bind_as (boxed (form_of fs a)) (Eval a) m (λ x. evaluated texts parameters n calls (form_of fs a ∷ fs) (x, env) b >>= λ z. give (boxed (form_of (form_of fs a ∷ fs) b) z)) l p.means h;
  }

  pub let_in : (a b : Code) (m : Execution Value) (l : Value → Execution Value) → Means a m →
      ((x : Holds (form_of fs a)) → Is texts parameters n calls (form_of fs a ∷ fs) (x, env) b (l (boxed (form_of fs a) x))) → Means (Let a b) (m >>= l)
  let_in a b m l p h = let_is a b m l p (h (some_value (form_of fs a) p.valued)).valued (λ x. (h x).means)

  -- what is stored is the answer
  pub let_stored : (s e : Code) (m : Execution Value) (place : Place) → Means e m →
      ((x : Holds (form_of fs e)) (K : Execution Value) → (evaluated texts parameters n calls (form_of fs e ∷ fs) (x, env) s >> K) ≡ (store_place place (boxed (form_of fs e) x) >> K)) →
      Means (Let e (Seq s (moved 0))) (m >>= λ v. stored place v)
  unfolding evaluated
  let_stored s e m place p h =
      let_is e (Seq s (moved 0)) m (λ v. stored place v) p p.valued
      (λ x. assoc (evaluated texts parameters n calls (form_of fs e ∷ fs) (x, env) s) (λ u. give x) (λ z. give (boxed (form_of fs e) z)) ∙ h x (give (boxed (form_of fs e) x)))

  -- Variables.

  pub store_variable_is : {C : Type 0} (x : Variable) (b : Bool) (j : ℕ) (K : Execution C) → (Eval (store_variable_code x (Bound b j)) >> K) ≡ (store_variable x (boxed (form_at fs j) (held fs env j)) >> K)
  unfolding evaluated all_evaluated
  store_variable_is (names.Global i) b j K = refl
  store_variable_is (names.Parameter i) b j K = refl
  store_variable_is (Reserved s) b j K = λ k. call row.SetSpecial (or_constant constant.Special (special_again s k), (boxed (form_at fs j) (held fs env j), tt)) >> K

  pub set_variable_is : (x : Variable) (e : Code) (m : Execution Value) → Means e m → Means (set_variable_code x e) (m >>= λ v. stored (Named x) v)
  unfolding evaluated all_evaluated
  set_variable_is (names.Global i) e m p = record {
    valued = p.valued;
    means =
        assoc (Eval e) (λ v. store_slot (Global false i) (boxed (form_of fs e) v) >> give v) (λ z. give (boxed (form_of fs e) z))
        ∙ bind_as (boxed (form_of fs e)) (Eval e) m (λ v. (store_slot (Global false i) (boxed (form_of fs e) v) >> give v) >>= λ z. give (boxed (form_of fs e) z)) (λ v. store_slot (Global false i) v >> give v) p.means (λ v. refl);
  }
  set_variable_is (names.Parameter i) e m p = record {
    valued = p.valued;
    means =
        assoc (Eval e) (λ v. store_slot (Parameter false i) (boxed (form_of fs e) v) >> give v) (λ z. give (boxed (form_of fs e) z))
        ∙ bind_as (boxed (form_of fs e)) (Eval e) m (λ v. (store_slot (Parameter false i) (boxed (form_of fs e) v) >> give v) >>= λ z. give (boxed (form_of fs e) z)) (λ v. store_slot (Parameter false i) v >> give v) p.means (λ v. refl);
  }
  set_variable_is (Reserved s) e m p =
      let_stored (store_variable_code (Reserved s) (copied 0)) e m (Named (Reserved s)) p
      (λ x K k. call row.SetSpecial (or_constant constant.Special (special_again s k), (boxed (form_of fs e) x, tt)) >> K)

  pub element_stored : {C : Type 0} (a : ArrayName) (b c : Bool) (i j : ℕ) (K : Execution C) →
      (Eval (host row.SetElem (At (Array a) (two (Bound b i) (Bound c j)))) >> K) ≡ ((array_number a >>= λ x. call row.SetElem (x, (boxed (form_at fs i) (held fs env i), (boxed (form_at fs j) (held fs env j), tt)))) >> K)
  unfolding evaluated all_evaluated
  element_stored (Numbered x) b c i j K = refl
  element_stored (Given x) b c i j K = refl

-- The place of a tree, where its key or its field's number is kept under this number.

module _ (scope : Scope) where
  abbrev pub Placed : Tree → (fs : List Form) → Env fs → ℕ → Place → Type 0
  Placed (Var x) fs env i place = place ≡ Named (variable_of scope x)
  Placed (Index x ts) fs env i place = Valued (form_at fs i) × (place ≡ Element (array_of scope x) (boxed (form_at fs i) (held fs env i)))
  Placed _ fs env i place = (k : AnyNumber) × (numbered (form_at fs i) (held fs env i) ≡ Ok k) × (place ≡ FieldAt k)

  pub next_placed : (t : Tree) (f : Form) (x : Holds f) (fs : List Form) (env : Env fs) (i : ℕ) (place : Place) → Placed t fs env i place → Placed t (f ∷ fs) (x, env) (suc i) place
  next_placed (Var y) f x fs env i place p = p
  next_placed (Index y ts) f x fs env i place p = p
  next_placed t f x fs env i place p = p

module _ (texts : List (List ℕ)) (parameters : List (List Kind)) (n : ℕ) (calls : Calls) (scope : Scope) where
  abbrev In : (fs : List Form) → Env fs → Code → Execution Value → Type 0
  In fs env e m = Is texts parameters n calls fs env e m

  abbrev Ev : (fs : List Form) → Env fs → (e : Code) → Execution (Holds (form_of fs e))
  Ev fs env e = evaluated texts parameters n calls fs env e

  pub read_is : (t : Tree) (fs : List Form) (env : Env fs) (i : ℕ) (place : Place) → Placed scope t fs env i place → In fs env (read_at (target_in texts scope t) i) (read_place place)
  unfolding evaluated all_evaluated
  read_is (Var x) fs env i place p = retold texts parameters n calls fs env (read_at (target_in texts scope (Var x)) i) (read_variable (variable_of scope x)) (read_place place) (variable_is texts parameters n calls fs env (variable_of scope x)) (ap read_place (sym p))
  read_is (Index x ts) fs env i place p =
      retold texts parameters n calls fs env (read_at (target_in texts scope (Index x ts)) i) (read_place (Element (array_of scope x) (boxed (form_at fs i) (held fs env i)))) (read_place place)
      (element_is texts parameters n calls fs env (array_of scope x) (copied i) (give (boxed (form_at fs i) (held fs env i))) (bound_is texts parameters n calls fs env false i p.0)) (ap read_place (sym p.1))
  read_is t fs env i place p = record {
    valued = tt;
    means = (λ k. (settled (then_row (p.1 k) (λ m. Ok (m, tt))) >>= λ g. call row.Field g) >>= λ z. give z) ∙ given (call row.Field (p.0, tt)) ∙ ap read_place (sym p.2);
  }

  pub store_is : {C : Type 0} (t : Tree) (fs : List Form) (env : Env fs) (i : ℕ) (b : Bool) (j : ℕ) (place : Place) (K : Execution C) → Placed scope t fs env i place →
      (Ev fs env (store_at (target_in texts scope t) i (Bound b j)) >> K) ≡ (store_place place (boxed (form_at fs j) (held fs env j)) >> K)
  unfolding evaluated all_evaluated
  store_is (Var x) fs env i b j place K p =
      store_variable_is texts parameters n calls fs env (variable_of scope x) b j K ∙ (λ k. store_place (sym p k) (boxed (form_at fs j) (held fs env j)) >> K)
  store_is (Index x ts) fs env i b j place K p =
      element_stored texts parameters n calls fs env (array_of scope x) true b i j K ∙ (λ k. store_place (sym p.1 k) (boxed (form_at fs j) (held fs env j)) >> K)
  store_is t fs env i b j place K p =
      (λ k. (settled (then_row (p.1 k) (λ m. Ok (m, (boxed (form_at fs j) (held fs env j), tt)))) >>= λ g. call row.SetField g) >> K) ∙ (λ k. store_place (sym p.2 k) (boxed (form_at fs j) (held fs env j)) >> K)

  pub stored_is : (t : Tree) (fs : List Form) (env : Env fs) (i : ℕ) (e : Code) (m : Execution Value) (place : Place) → Placed scope t fs env i place → In fs env e m → In fs env (stored_at (target_in texts scope t) i e) (m >>= λ v. stored place v)
  unfolding evaluated all_evaluated
  stored_is (Var x) fs env i e m place p q =
      retold texts parameters n calls fs env (set_variable_code (variable_of scope x) e) (m >>= λ v. stored (Named (variable_of scope x)) v) (m >>= λ v. stored place v) (set_variable_is texts parameters n calls fs env (variable_of scope x) e m q) (λ k. m >>= λ v. stored (sym p k) v)
  stored_is t fs env i e m place p q =
      let_stored texts parameters n calls fs env (store_at (target_in texts scope t) (suc i) (copied 0)) e m place q
      (λ x K. store_is t (form_of fs e ∷ fs) (x, env) (suc i) false 0 place K (next_placed scope t (form_of fs e) x fs env i place p))

  -- An assignment with an operator: right side, old value, result.
  pub updated_is : (o : Operation) (operator : Operator) (t : Tree) (fs : List Form) (env : Env fs) (right : Code) (m : Execution Value) (place : Place) → Placed scope t fs env 0 place → In fs env right m →
      ((gs : List Form) (env1 : Env gs) (a b : Code) (l r : Execution Value) → In gs env1 a l → In gs env1 b r → In gs env1 (Do o (two a b)) (l >>= λ x. r >>= λ y. computed operator x y)) →
      In fs env (updated_at o (target_in texts scope t) right) (m >>= λ x. read_place place >>= λ old. computed operator old x >>= λ result. stored place result)
  unfolding evaluated all_evaluated
  updated_is o operator t fs env right m place p q op =
      let F = form_of fs right in
      let e = Do o (two (read_at (target_in texts scope t) 1) (moved 0)) in
      let_in texts parameters n calls fs env right (stored_at (target_in texts scope t) 1 e) m (λ x. read_place place >>= λ old. computed operator old x >>= λ result. stored place result) q
      (λ x. let p1 = next_placed scope t F x fs env 0 place p in
      retold texts parameters n calls (F ∷ fs) (x, env) (stored_at (target_in texts scope t) 1 e) ((read_place place >>= λ old. computed operator old (boxed F x)) >>= λ v. stored place v) (read_place place >>= λ old. computed operator old (boxed F x) >>= λ result. stored place result)
      (stored_is t (F ∷ fs) (x, env) 1 e (read_place place >>= λ old. computed operator old (boxed F x)) place p1
      (op (F ∷ fs) (x, env) (read_at (target_in texts scope t) 1) (moved 0) (read_place place) (give (boxed F x)) (read_is t (F ∷ fs) (x, env) 1 place p1) (bound_is texts parameters n calls (F ∷ fs) (x, env) true 0 q.valued)))
      (assoc (read_place place) (λ old. computed operator old (boxed F x)) (λ v. stored place v)))

  -- A step: the old value, as a number, and one more or less.

  step_is : (s : token.Step) (fs : List Form) (env : Env fs) (a : Code) (l : Execution Value) → In fs env a l → In fs env (Do (step_of s) (two a one_code)) (l >>= λ x. number_in x >>= λ m. step_operator s m one_number >>= λ r. give (numeric r))
  step_is token.Increment fs env a l p = inline_is texts parameters n calls fs env inline.Plus a one_code l (give (numeric one_number)) p (number_is texts parameters n calls fs env one_number)
  step_is token.Decrement fs env a l p = inline_is texts parameters n calls fs env inline.Minus a one_code l (give (numeric one_number)) p (number_is texts parameters n calls fs env one_number)

  pub stepped_is : (s : token.Step) (t : Tree) (fs : List Form) (env : Env fs) (place : Place) → Placed scope t fs env 0 place →
      In fs env (stepped_at s (target_in texts scope t)) (read_place place >>= λ old. number_in old >>= λ m. step_operator s m one_number >>= λ result. stored place (numeric result))
  stepped_is s t fs env place p =
      retold texts parameters n calls fs env (stepped_at s (target_in texts scope t))
      ((read_place place >>= λ old. number_in old >>= λ m. step_operator s m one_number >>= λ r. give (numeric r)) >>= λ v. stored place v)
      (read_place place >>= λ old. number_in old >>= λ m. step_operator s m one_number >>= λ result. stored place (numeric result))
      (stored_is t fs env 0 (Do (step_of s) (two (read_at (target_in texts scope t) 0) one_code)) (read_place place >>= λ old. number_in old >>= λ m. step_operator s m one_number >>= λ r. give (numeric r)) place p
      (step_is s fs env (read_at (target_in texts scope t) 0) (read_place place) (read_is t fs env 0 place p)))
      (flat (read_place place) (λ old. number_in old) (λ old m. step_operator s m one_number >>= λ r. give (numeric r)) (λ v. stored place v)
      ∙ under (read_place place) (λ old. number_in old >>= λ m. (step_operator s m one_number >>= λ r. give (numeric r)) >>= λ v. stored place v) (λ old. number_in old >>= λ m. step_operator s m one_number >>= λ result. stored place (numeric result))
      (λ old. under (number_in old) (λ m. (step_operator s m one_number >>= λ r. give (numeric r)) >>= λ v. stored place v) (λ m. step_operator s m one_number >>= λ result. stored place (numeric result))
      (λ m. assoc (step_operator s m one_number) (λ r. give (numeric r)) (λ v. stored place v))))

  -- the number before the step
  old_number : (fs : List Form) (env : Env fs) (a : Code) (l : Execution Value) → In fs env a l → Ev fs env (Do AsNumber (one a)) ≡ (l >>= λ x. number_in x)
  unfolding evaluated all_evaluated
  old_number fs env a l p =
      one_operand texts parameters n calls fs env a l p (λ vs. settled (row_of fs (argument.Of sort.Number ∷ []) (one a) vs) >>= λ g. give g.0) (λ x. number_in x)
      (λ v. number_row (form_of fs a) p.valued v (λ g. give g.0) ∙ given (number_in (boxed (form_of fs a) v)))

  step_of_number : (s : token.Step) (fs : List Form) (env : Env fs) (m : AnyNumber) → Ev (a_number ∷ fs) (m, env) (Do (step_of s) (two (copied 0) one_code)) ≡ step_operator s m one_number
  unfolding evaluated all_evaluated
  step_of_number token.Increment fs env m = refl
  step_of_number token.Decrement fs env m = refl

  -- the step, and what is done with it
  after_step : (s : token.Step) (t : Tree) (fs : List Form) (env : Env fs) (place : Place) → Placed scope t fs env 0 place → (m : AnyNumber) →
      (Ev (a_number ∷ fs) (m, env) (Let (Do (step_of s) (two (copied 0) one_code)) (Seq (store_at (target_in texts scope t) 2 (moved 0)) (moved 1))) >>= λ z. give (numeric z)) ≡ (step_operator s m one_number >>= λ result. store_place place (numeric result) >> give (numeric m))
  unfolding evaluated all_evaluated
  after_step s t fs env place p m =
      assoc (Ev (a_number ∷ fs) (m, env) (Do (step_of s) (two (copied 0) one_code))) (λ r. Ev (a_number ∷ a_number ∷ fs) (r, (m, env)) (store_at (target_in texts scope t) 2 (moved 0)) >> give m) (λ z. give (numeric z))
      ∙ over (Ev (a_number ∷ fs) (m, env) (Do (step_of s) (two (copied 0) one_code))) (step_operator s m one_number) (λ r. (Ev (a_number ∷ a_number ∷ fs) (r, (m, env)) (store_at (target_in texts scope t) 2 (moved 0)) >> give m) >>= λ z. give (numeric z)) (step_of_number s fs env m)
      ∙ under (step_operator s m one_number) (λ r. (Ev (a_number ∷ a_number ∷ fs) (r, (m, env)) (store_at (target_in texts scope t) 2 (moved 0)) >> give m) >>= λ z. give (numeric z)) (λ result. store_place place (numeric result) >> give (numeric m))
      (λ r. assoc (Ev (a_number ∷ a_number ∷ fs) (r, (m, env)) (store_at (target_in texts scope t) 2 (moved 0))) (λ u. give m) (λ z. give (numeric z))
      ∙ store_is t (a_number ∷ a_number ∷ fs) (r, (m, env)) 2 true 0 place (give (numeric m))
      (next_placed scope t a_number r (a_number ∷ fs) (m, env) 1 place (next_placed scope t a_number m fs env 0 place p)))

  pub step_after_is : (s : token.Step) (t : Tree) (fs : List Form) (env : Env fs) (place : Place) → Placed scope t fs env 0 place →
      In fs env (step_after_at s (target_in texts scope t)) (read_place place >>= λ old. number_in old >>= λ m. step_operator s m one_number >>= λ result. store_place place (numeric result) >> give (numeric m))
  unfolding evaluated all_evaluated
  step_after_is s t fs env place p = record {
    valued = tt;
    means =
        assoc (Ev fs env (Do AsNumber (one (read_at (target_in texts scope t) 0)))) (λ m. Ev (a_number ∷ fs) (m, env) (Let (Do (step_of s) (two (copied 0) one_code)) (Seq (store_at (target_in texts scope t) 2 (moved 0)) (moved 1)))) (λ z. give (numeric z))
        ∙ over (Ev fs env (Do AsNumber (one (read_at (target_in texts scope t) 0)))) (read_place place >>= λ old. number_in old) (λ m. Ev (a_number ∷ fs) (m, env) (Let (Do (step_of s) (two (copied 0) one_code)) (Seq (store_at (target_in texts scope t) 2 (moved 0)) (moved 1))) >>= λ z. give (numeric z))
        (old_number fs env (read_at (target_in texts scope t) 0) (read_place place) (read_is t fs env 0 place p))
        ∙ assoc (read_place place) (λ old. number_in old) (λ m. Ev (a_number ∷ fs) (m, env) (Let (Do (step_of s) (two (copied 0) one_code)) (Seq (store_at (target_in texts scope t) 2 (moved 0)) (moved 1))) >>= λ z. give (numeric z))
        ∙ under (read_place place) (λ old. number_in old >>= λ m. Ev (a_number ∷ fs) (m, env) (Let (Do (step_of s) (two (copied 0) one_code)) (Seq (store_at (target_in texts scope t) 2 (moved 0)) (moved 1))) >>= λ z. give (numeric z))
        (λ old. number_in old >>= λ m. step_operator s m one_number >>= λ result. store_place place (numeric result) >> give (numeric m))
        (λ old. under (number_in old) (λ m. Ev (a_number ∷ fs) (m, env) (Let (Do (step_of s) (two (copied 0) one_code)) (Seq (store_at (target_in texts scope t) 2 (moved 0)) (moved 1))) >>= λ z. give (numeric z))
        (λ m. step_operator s m one_number >>= λ result. store_place place (numeric result) >> give (numeric m))
        (λ m. after_step s t fs env place p m));
  }

  -- What is kept by reads and substitutions is stored.

  store_text : (t : Tree) (fs : List Form) (env : Env fs) (place : Place) → Placed scope t fs env 0 place → (text : Value) → (Ev (a_value ∷ fs) (text, env) (store_at (target_in texts scope t) 1 (moved 0)) >> nothing) ≡ store_place place text
  store_text t fs env place p text = store_is t (a_value ∷ fs) (text, env) 1 true 0 place nothing (next_placed scope t a_value text fs env 0 place p) ∙ silent (store_place place text)

  read_same : (place : Place) (S : Value → Execution (Unit {0})) → ((text : Value) → S text ≡ store_place place text) → (a : InputAnswer) → (when_read S a >>= λ z. give (numeric z)) ≡ received place a
  read_same place S h input.Read = flat (call row.Line tt) S (λ text u. give one_number) (λ z. give (numeric z)) ∙ (λ k. call row.Line tt >>= λ text. h text k >> give (numeric one_number))
  read_same place S h input.End = refl
  read_same place S h input.Pending = refl
  read_same place S h input.Failed = refl

  pub line_is : (t : Tree) (fs : List Form) (env : Env fs) (place : Place) → Placed scope t fs env 0 place → In fs env (AskLine (store_at (target_in texts scope t) 1 (moved 0))) (asked n (asks row.GetlineVar tt) >>= λ answer. received place answer)
  unfolding evaluated all_evaluated
  line_is t fs env place p = record {
    valued = tt;
    means =
        assoc (asked n (asks row.GetlineVar tt)) (when_read (λ text. Ev (a_value ∷ fs) (text, env) (store_at (target_in texts scope t) 1 (moved 0)) >> nothing)) (λ z. give (numeric z))
        ∙ under (asked n (asks row.GetlineVar tt)) (λ a. when_read (λ text. Ev (a_value ∷ fs) (text, env) (store_at (target_in texts scope t) 1 (moved 0)) >> nothing) a >>= λ z. give (numeric z)) (λ answer. received place answer)
        (read_same place (λ text. Ev (a_value ∷ fs) (text, env) (store_at (target_in texts scope t) 1 (moved 0)) >> nothing) (store_text t fs env place p));
  }

  pub file_line_is : (t : Tree) (fs : List Form) (env : Env fs) (e : Code) (m : Execution Value) (place : Place) → Placed scope t fs env 0 place → In fs env e m →
      In fs env (FileLine e (store_at (target_in texts scope t) 1 (moved 0))) (m >>= λ file. call row.GetlineVarFile (file, tt) >>= λ answer. received place answer)
  unfolding evaluated all_evaluated
  file_line_is t fs env e m place p q = record {
    valued = tt;
    means =
        flat (Ev fs env e) (λ file. call row.GetlineVarFile (boxed (form_of fs e) file, tt)) (λ file. when_read (λ text. Ev (a_value ∷ fs) (text, env) (store_at (target_in texts scope t) 1 (moved 0)) >> nothing)) (λ z. give (numeric z))
        ∙ bind_as (boxed (form_of fs e)) (Ev fs env e) m (λ file. call row.GetlineVarFile (boxed (form_of fs e) file, tt) >>= λ a. when_read (λ text. Ev (a_value ∷ fs) (text, env) (store_at (target_in texts scope t) 1 (moved 0)) >> nothing) a >>= λ z. give (numeric z))
        (λ file. call row.GetlineVarFile (file, tt) >>= λ answer. received place answer) q.means
        (λ file. under (call row.GetlineVarFile (boxed (form_of fs e) file, tt)) (λ a. when_read (λ text. Ev (a_value ∷ fs) (text, env) (store_at (target_in texts scope t) 1 (moved 0)) >> nothing) a >>= λ z. give (numeric z)) (λ answer. received place answer)
        (read_same place (λ text. Ev (a_value ∷ fs) (text, env) (store_at (target_in texts scope t) 1 (moved 0)) >> nothing) (store_text t fs env place p)));
  }

  replaced_same : (place : Place) (S : Value → Execution (Unit {0})) → ((text : Value) → S text ≡ store_place place text) → (count : AnyNumber) → (when_replaced S count >>= λ z. give (numeric z)) ≡ replaced_in place count
  replaced_same place S h count =
      assoc (if is_zero count.number then nothing else (call row.SubResult tt >>= S)) (λ u. give count) (λ z. give (numeric z))
      ∙ (λ k. (if is_zero count.number then nothing else (call row.SubResult tt >>= λ text. h text k)) >> give (numeric count))

  -- expression and replacement were kept before the place
  pub substituted_is : (all : Bool) (t : Tree) (fs : List Form) (env : Env fs) (place : Place) → Placed scope t fs env 0 place → Valued (form_at fs (suc (kept_at (target_in texts scope t)))) → Valued (form_at fs (kept_at (target_in texts scope t))) →
      In fs env (substituted_at all (target_in texts scope t))
      (read_place place >>= λ old. call row.Sub (boxed (form_at fs (suc (kept_at (target_in texts scope t)))) (held fs env (suc (kept_at (target_in texts scope t)))), (boxed (form_at fs (kept_at (target_in texts scope t))) (held fs env (kept_at (target_in texts scope t))), (old, (all, tt)))) >>= λ count. replaced_in place count)
  unfolding evaluated all_evaluated
  substituted_is all t fs env place p v w =
      let i = suc (kept_at (target_in texts scope t)) in
      let j = kept_at (target_in texts scope t) in
      let S = λ (text : Value). Ev (a_value ∷ fs) (text, env) (store_at (target_in texts scope t) 1 (moved 0)) >> nothing in
      record {
        valued = tt;
        means =
            assoc (all_evaluated texts parameters n calls fs env (At (moved i) (At (moved j) (At (read_at (target_in texts scope t) 0) End)))) (λ vs. settled (row_of fs three_values (At (moved i) (At (moved j) (At (read_at (target_in texts scope t) 0) End))) vs) >>= λ given. replacing all given >>= when_replaced S) (λ z. give (numeric z))
            ∙ three_operands texts parameters n calls fs env (moved i) (moved j) (read_at (target_in texts scope t) 0) (give (boxed (form_at fs i) (held fs env i))) (give (boxed (form_at fs j) (held fs env j))) (read_place place)
            (bound_is texts parameters n calls fs env true i v) (bound_is texts parameters n calls fs env true j w) (read_is t fs env 0 place p)
            (λ vs. (settled (row_of fs three_values (At (moved i) (At (moved j) (At (read_at (target_in texts scope t) 0) End))) vs) >>= λ given. replacing all given >>= when_replaced S) >>= λ z. give (numeric z))
            (λ x y z. call row.Sub (x, (y, (z, (all, tt)))) >>= λ count. replaced_in place count)
            (λ x y z. assoc (call row.Sub (boxed (form_at fs i) x, (boxed (form_at fs j) y, (boxed (form_of fs (read_at (target_in texts scope t) 0)) z, (all, tt))))) (when_replaced S) (λ u. give (numeric u))
            ∙ under (call row.Sub (boxed (form_at fs i) x, (boxed (form_at fs j) y, (boxed (form_of fs (read_at (target_in texts scope t) 0)) z, (all, tt))))) (λ count. when_replaced S count >>= λ u. give (numeric u)) (λ count. replaced_in place count)
            (replaced_same place S (store_text t fs env place p)));
      }
