-- The meaning of a tree by its table: what its operands are, and what is done then.
use Rattle.std.proofs.Common.{◌≡◌, ℕ, Bool, List, ◌∷◌, Option, Some, None, refl}
use Rattle.awk_values.specs.Operators.{truncated_quotient}
use Rattle.awk_values.specs.declared.value.Value.{Value}
use Rattle.awk_values.specs.declared.value.Value.TheVariants as value
use Rattle.awk_tokens.specs.declared.reserved_words.Builtin.{Builtin}
use Rattle.awk_tokens.specs.declared.reserved_words.Builtin.TheVariants as builtin
use Rattle.awk_grammar.specs.Token as token
use Rattle.awk_grammar.specs.Trees.{Tree, Var, Index, Field, Group, Apply, Bin, Other, Trees, Then}
use Rattle.sem_scripts.specs.Names.{Name, ArrayName, Numbered, Given, Scope}
use Rattle.sem_scripts.specs.ScriptState.{Local, State, Outcome, Gives, Stops, Execution, go_on, ◌>>=◌, give}
use Rattle.sem_scripts.specs.Steps.{zero_number, arithmetic, computed, array_number, Place, FieldAt, ere_in, ere_or, given_value}
use Rattle.sem_scripts.specs.Meaning.{Calls, name_passed, value_of, place_of, passed, truncated_of}
use Rattle.agreement.specs.BigStep.Operations.{array_in, whole_part, replaced, IsQuotient, quotient, grouped, IsNoQuotient, IsNoName, IsNoPlace, IsMisused, substr_of_none, substr_of_one, index_of_none, index_of_one, split_of_none, split_of_one, split_into_none, sub_of_none, sub_of_one, gsub_of_none, gsub_of_one, match_of_none, match_of_one, lower_of_none, upper_of_none, int_of_none, close_of_none, NoOperand, a_number, a_string, an_ere, a_name, bare_length, empty_length, flush_all, long_length, misused, OneOperand, field, negation, plus, minus, length, lower, upper, int, close, flush, split_at_fs, getline_file, TwoOperands, concatenation, addition, multiplication, power, comparison, int_quotient, substr_from, index, ThreeOperands, substr, WithPattern, matching, match, AtPlace, step_before, step_after, PlaceAndValue, set, set_sum, set_product, set_power, getline_into_from, Replacing, sub_record, sub, gsub_record, gsub}

pub array_is : (a : ArrayName) (s : State) → array_number a s ≡ Gives (array_in a s) s
array_is (Numbered i) s = refl
array_is (Given i) s = refl

joined_by : {A B C : Type 0} (o : Outcome A) (f : A → B) (g : B → Execution C) → go_on o (λ a. g (f a)) ≡ go_on (go_on o (λ a. give (f a))) g
joined_by (Gives a s) f g = refl
joined_by (Stops why s) f g = refl

joined : {A B C : Type 0} (m : Execution A) (f : A → B) (g : B → Execution C) → (m >>= λ a. g (f a)) ≡ ((m >>= λ a. give (f a)) >>= g)
joined m f g = λ i s. joined_by (m s) f g i

module _ (scope : Scope) (n : ℕ) (calls : Calls) where
  abbrev V : Tree → Execution Value
  V t = value_of scope n calls t

  -- an operand that is used as an ERE
  abbrev pub ere_of : Tree → Execution Value
  ere_of t = ere_or (ere_in t) (value_of scope n calls t)

  -- the target of sub and gsub
  abbrev pub targeted : Option Tree → Execution Place
  targeted None = give (FieldAt zero_number)
  targeted (Some t) = place_of scope n calls t

  -- an argument for a parameter
  abbrev pub argument : Name → Tree → Execution Local
  argument p (Var x) = name_passed scope p x
  argument p t = value_of scope n calls t >>= λ x. give (given_value p x)

  quotient_is : {a b t : Tree} → IsQuotient a b t → (plain : Execution Value) →
      truncated_of scope n calls t plain ≡ (V a >>= λ x. V b >>= λ y. computed (arithmetic truncated_quotient) x y)
  unfolding value_of
  quotient_is quotient plain = refl
  quotient_is (grouped q) plain = quotient_is q plain

  no_quotient_is : (t : Tree) → IsNoQuotient t → (plain : Execution Value) → truncated_of scope n calls t plain ≡ (plain >>= whole_part)
  unfolding value_of
  no_quotient_is (Group t) h plain = no_quotient_is t h plain
  no_quotient_is (Bin (Other (token.Mul token.Over)) a b) h plain = absurd h
  no_quotient_is t h plain = refl

  split_is : (a b : Tree) (ts : Trees) → IsNoName b → V (Apply builtin.Split (Then a (Then b ts))) ≡ give value.Uninit
  unfolding value_of
  split_is a (Var x) ts h = absurd h
  split_is a b ts h = refl

  misused_is : {f : Builtin} {ts : Trees} → IsMisused f ts → V (Apply f ts) ≡ give value.Uninit
  unfolding value_of
  misused_is substr_of_none = refl
  misused_is substr_of_one = refl
  misused_is index_of_none = refl
  misused_is index_of_one = refl
  misused_is split_of_none = refl
  misused_is split_of_one = refl
  misused_is (split_into_none {a} {b} {ts} h) = split_is a b ts h
  misused_is sub_of_none = refl
  misused_is sub_of_one = refl
  misused_is gsub_of_none = refl
  misused_is gsub_of_one = refl
  misused_is match_of_none = refl
  misused_is match_of_one = refl
  misused_is lower_of_none = refl
  misused_is upper_of_none = refl
  misused_is int_of_none = refl
  misused_is close_of_none = refl

  pub none_is : {t : Tree} {m : Execution Value} → NoOperand scope t m → V t ≡ m
  unfolding value_of
  none_is a_number = refl
  none_is a_string = refl
  none_is an_ere = refl
  none_is a_name = refl
  none_is bare_length = refl
  none_is empty_length = refl
  none_is flush_all = refl
  none_is long_length = refl
  none_is (misused q) = misused_is q

  pub one_is : {t a : Tree} {f : Value → Execution Value} → OneOperand scope t a f → V t ≡ (V a >>= f)
  unfolding value_of
  one_is field = refl
  one_is negation = refl
  one_is plus = refl
  one_is minus = refl
  one_is length = refl
  one_is lower = refl
  one_is upper = refl
  one_is (int {t} q) = no_quotient_is t q (V t)
  one_is close = refl
  one_is flush = refl
  one_is split_at_fs = refl
  one_is getline_file = refl

  pub two_is : {t a b : Tree} {f : Value → Value → Execution Value} → TwoOperands t a b f → V t ≡ (V a >>= λ x. V b >>= λ y. f x y)
  unfolding value_of
  two_is concatenation = refl
  two_is addition = refl
  two_is multiplication = refl
  two_is power = refl
  two_is comparison = refl
  two_is (int_quotient {t} q) = quotient_is q (V t)
  two_is substr_from = refl
  two_is index = refl

  pub three_is : {t a b c : Tree} {f : Value → Value → Value → Execution Value} → ThreeOperands t a b c f →
      V t ≡ (V a >>= λ x. V b >>= λ y. V c >>= λ z. f x y z)
  unfolding value_of
  three_is substr = refl

  pub pattern_is : {t a b : Tree} {f : Value → Value → Execution Value} → WithPattern t a b f → V t ≡ (V a >>= λ x. ere_of b >>= λ y. f x y)
  unfolding value_of
  pattern_is matching = refl
  pattern_is match = refl

  pub place_is : {t a : Tree} {f : Place → Execution Value} → AtPlace t a f → V t ≡ (place_of scope n calls a >>= f)
  unfolding value_of
  place_is step_before = refl
  place_is step_after = refl

  pub assigned_is : {t a b : Tree} {f : Place → Value → Execution Value} → PlaceAndValue t a b f →
      V t ≡ (place_of scope n calls a >>= λ place. V b >>= λ x. f place x)
  unfolding value_of
  assigned_is set = refl
  assigned_is set_sum = refl
  assigned_is set_product = refl
  assigned_is set_power = refl
  assigned_is getline_into_from = refl

  pub replacing_is : {t e r : Tree} {target : Option Tree} {all : Bool} → Replacing t all e r target →
      V t ≡ (ere_of e >>= λ x. V r >>= λ y. targeted target >>= λ place. replaced all x y place)
  unfolding value_of
  replacing_is sub_record = refl
  replacing_is sub = refl
  replacing_is gsub_record = refl
  replacing_is gsub = refl

  pub no_place_is : (t : Tree) → IsNoPlace t → place_of scope n calls t ≡ give (FieldAt zero_number)
  unfolding value_of
  no_place_is (Var x) h = absurd h
  no_place_is (Index x ts) h = absurd h
  no_place_is (Field t) h = absurd h
  no_place_is t h = refl

  pub value_argument_is : (p : Name) (t : Tree) → IsNoName t → argument p t ≡ (V t >>= λ x. give (given_value p x))
  value_argument_is p (Var x) h = absurd h
  value_argument_is p t h = refl

  other_argument : (p : Name) (ps : List Name) (t : Tree) (ts : Trees) →
      (V t >>= λ x. passed scope n calls ps ts >>= λ ls. give (given_value p x ∷ ls))
      ≡ ((V t >>= λ x. give (given_value p x)) >>= λ l. passed scope n calls ps ts >>= λ ls. give (l ∷ ls))
  other_argument p ps t ts = joined (V t) (given_value p) (λ l. passed scope n calls ps ts >>= λ ls. give (l ∷ ls))

  pub argument_is : (p : Name) (ps : List Name) (t : Tree) (ts : Trees) →
      passed scope n calls (p ∷ ps) (Then t ts) ≡ (argument p t >>= λ l. passed scope n calls ps ts >>= λ ls. give (l ∷ ls))
  unfolding value_of
  argument_is p ps (Var x) ts = refl
  argument_is p ps t ts = other_argument p ps t ts
