-- What the functions compute, with fuel for all turns, is what the rules say.
use Rattle.std.proofs.Common.{◌≡◌, ℕ, zero, suc, ◌≤◌, ◌⊎◌, inl, inr, Bool, true, false, List, [], ◌∷◌, Option, Some, None, refl, sym, subst, arith}
use Rattle.std.specs.Prelude.{if◌then◌else◌}
use Rattle.awk_values.specs.Values.{truth_of_value}
use Rattle.awk_values.specs.declared.value.Value.{Value}
use Rattle.sem_primitives.specs.declared.answers.InputAnswer.{InputAnswer}
use Rattle.sem_primitives.specs.declared.answers.InputAnswer.TheVariants as input
use Rattle.sem_primitives.specs.declared.table.Listed.TheVariants as listed
use Rattle.sem_primitives.specs.declared.table.Primitive.TheVariants as row
use Rattle.awk_tokens.specs.declared.reserved_words.Builtin.{Builtin}
use Rattle.awk_tokens.specs.declared.reserved_words.Builtin.TheVariants as builtin
use Rattle.awk_grammar.specs.Token as token
use Rattle.awk_grammar.specs.Trees.{Tree, Leaf, Length, Var, Index, Field, Group, Call, Apply, Unary, Pre, Post, Bin, Join, Add, Other, Has, HasList, Cond, Get, GetInto, GetFrom, GetIntoFrom, Trees, NoTree, Then}
use Rattle.sem_scripts.specs.Names.{Name, Resolved, Scope, function_number, array_of}
use Rattle.sem_scripts.specs.ScriptState.{Local, State, OutOfTurns, Outcome, Gives, Stops, Execution, go_on, ◌>>=◌, ◌>>◌, give, stop, call, call_listed, asks, spent, spend}
use Rattle.sem_scripts.specs.Steps.{numeric, truth_value, array_number, Place, Element, ere_in, ere_or, is_ere, input_number, received, given_value}
use Rattle.sem_scripts.specs.Meaning.{Calls, assign_pending, unless_pending, asked, value_of, values_of, key_of, place_of, passed}
use Rattle.sem_scripts.specs.Statements.{called}
use Rattle.agreement.specs.BigStep.Operations.{array_at, field_place, has_key, has_joined, replaced, split_by, IsQuotient, quotient, grouped, IsNoQuotient, IsNoName, IsNoPlace, substr_of_none, substr_of_one, index_of_none, index_of_one, split_of_none, split_of_one, split_into_none, sub_of_none, sub_of_one, gsub_of_none, gsub_of_one, match_of_none, match_of_one, lower_of_none, upper_of_none, int_of_none, close_of_none, NoOperand, a_number, a_string, an_ere, a_name, bare_length, empty_length, flush_all, long_length, misused, OneOperand, field, negation, plus, minus, length, lower, upper, int, close, flush, split_at_fs, getline_file, TwoOperands, concatenation, addition, multiplication, power, comparison, int_quotient, substr_from, index, ThreeOperands, substr, WithPattern, matching, match, AtPlace, step_before, step_after, PlaceAndValue, set, set_sum, set_product, set_power, getline_into_from, Replacing, sub_record, sub, gsub_record, gsub}
use Rattle.agreement.specs.BigStep.Rules.{with_turns, parameters_of, Reads, reads, reads_stops, assigns_without_turn, assigns_stops, assigns, Evaluates, group, no_operand, one_operand, one_operand_stops, two_operands, two_left_stops, two_right_stops, three_operands, three_first_stops, three_second_stops, three_third_stops, with_pattern, pattern_left_stops, pattern_right_stops, split, split_left_stops, split_right_stops, replacing, replacing_ere_stops, replacing_text_stops, replacing_target_stops, and_true, and_false, and_left_stops, and_right_stops, or_true, or_false, or_left_stops, or_right_stops, choice_true, choice_false, choice_stops, at_place, at_place_stops, place_and_value, place_first_stops, value_then_stops, element, element_stops, has, has_stops, has_list, has_list_first_stops, has_list_rest_stops, sprintf, sprintf_stops, calls, calls_stops, getline, getline_stops, getline_into, getline_place_stops, getline_into_stops, EvaluatesAll, no_value, next_value, first_value_stops, other_values_stops, GivesKey, no_key, one_key, more_keys, first_key_stops, other_keys_stops, Finds, name_place, element_place, element_place_stops, field_number, field_number_stops, no_place, FindsTarget, the_record, the_place, GivesPattern, ere_token, computed_ere, PassesOne, passes_name, passes_value, passes_stops, Passes, missing, too_many, next_argument, first_argument_stops, other_arguments_stops, IsCalled}
use Rattle.agreement.proofs.BigStepLemmas.Turns.{Spends, below, asks_spends, assign_pending_spends}
use Rattle.agreement.proofs.BigStepLemmas.Falls.{gave, falls, place_falls, pattern_falls, argument_falls, passes_falls}
use Rattle.agreement.proofs.BigStepLemmas.Equations.{array_is, ere_of, targeted, argument, none_is, one_is, two_is, three_is, pattern_is, place_is, assigned_is, replacing_is, no_place_is, value_argument_is, argument_is}

-- an outcome with turns that are left
none_are_left : {n : ℕ} → n ≤ 0 → n ≡ zero
none_are_left l = omega (arith, l)

-- Reading the main input.

module _ (ask : Execution InputAnswer) (p : Spends ask) where
  assigned : (s s1 : State) (k : ℕ) (e : ask s ≡ Gives input.Pending s1) → s1.turns ≡ suc k → (rest : Execution InputAnswer)
      → ((s2 : State) → s2.turns ≤ k → Reads ask s2 (rest s2)) → (o : Outcome (Unit {0})) → assign_pending (with_turns k s1) ≡ o
      → Reads ask s (go_on o (λ u. rest))
  assigned s s1 k e t rest d (Stops why s2) a = assigns_stops e t a
  assigned s s1 k e t rest d (Gives u s2) a = assigns e t a (d s2 (gave (with_turns k s1) assign_pending_spends a))

  turned : (s s1 : State) (k : ℕ) (e : ask s ≡ Gives input.Pending s1) → s1.turns ≡ k → (rest : Execution InputAnswer)
      → ((s2 : State) → suc s2.turns ≤ k → Reads ask s2 (rest s2)) → Reads ask s (go_on (spent k s1) (λ u. assign_pending >> rest))
  turned s s1 zero e t rest d = assigns_without_turn e t
  turned s s1 (suc k) e t rest d = assigned s s1 k e t rest (λ s2 l. d s2 (omega (arith, l))) (assign_pending (with_turns k s1)) refl

  answered : (s : State) (rest : Execution InputAnswer) → ((s2 : State) → suc s2.turns ≤ s.turns → Reads ask s2 (rest s2)) → (o : Outcome InputAnswer)
      → ask s ≡ o → Reads ask s (go_on o (unless_pending (spend >> assign_pending >> rest) give))
  answered s rest d (Stops why s1) e = reads_stops e
  answered s rest d (Gives input.End s1) e = reads e tt
  answered s rest d (Gives input.Read s1) e = reads e tt
  answered s rest d (Gives input.Failed s1) e = reads e tt
  answered s rest d (Gives input.Pending s1) e =
      turned s s1 s1.turns e refl rest (λ s2 l. d s2 (let f : s1.turns ≤ s.turns = gave s p e in omega (arith, l, f)))

  last_answered : (s : State) → s.turns ≤ 0 → (o : Outcome InputAnswer) → ask s ≡ o → Reads ask s (go_on o (unless_pending (stop OutOfTurns) give))
  last_answered s l (Stops why s1) e = reads_stops e
  last_answered s l (Gives input.End s1) e = reads e tt
  last_answered s l (Gives input.Read s1) e = reads e tt
  last_answered s l (Gives input.Failed s1) e = reads e tt
  last_answered s l (Gives input.Pending s1) e = assigns_without_turn e (none_are_left (below l (gave s p e)))

  pub reads_complete : (j : ℕ) (s : State) → s.turns ≤ j → Reads ask s (asked j ask s)
  unfolding asked
  reads_complete zero s l = last_answered s l (ask s) refl
  reads_complete (suc j) s l = answered s (asked j ask) (λ s2 m. reads_complete j s2 (omega (arith, l, m))) (ask s) refl

-- what a call does where so much fuel is left, with its turn
abbrev pub CallsComplete : Resolved → ℕ → Type 0
CallsComplete script n = (i : ℕ) (locals : List Local) (s : State) → s.turns ≤ n → IsCalled script i locals s (go_on (spend s) (λ u. called script n i locals))

module _ (scope : Scope) (n : ℕ) (called_complete : CallsComplete scope.script n) where
  abbrev C : Calls
  C = called scope.script n

  abbrev V : Tree → Execution Value
  V t = value_of scope n C t

  abbrev IsComplete : Tree → Type 0
  IsComplete t = (s : State) → s.turns ≤ n → Evaluates scope t s (V t s)

  abbrev AllComplete : Trees → Type 0
  AllComplete ts = (s : State) → s.turns ≤ n → EvaluatesAll scope ts s (values_of scope n C ts s)

  abbrev KeyComplete : Trees → Type 0
  KeyComplete ts = (s : State) → s.turns ≤ n → GivesKey scope ts s (key_of scope n C ts s)

  abbrev PlaceComplete : Tree → Type 0
  PlaceComplete t = (s : State) → s.turns ≤ n → Finds scope t s (place_of scope n C t s)

  abbrev TargetComplete : Option Tree → Type 0
  TargetComplete t = (s : State) → s.turns ≤ n → FindsTarget scope t s (targeted scope n C t s)

  abbrev PatternComplete : Tree → Type 0
  PatternComplete t = (s : State) → s.turns ≤ n → GivesPattern scope t s (ere_of scope n C t s)

  abbrev ArgumentComplete : Name → Tree → Type 0
  ArgumentComplete p t = (s : State) → s.turns ≤ n → PassesOne scope p t s (argument scope n C p t s)

  abbrev PassesComplete : List Name → Trees → Type 0
  PassesComplete ps ts = (s : State) → s.turns ≤ n → Passes scope ps ts s (passed scope n C ps ts s)

  -- what is meant may be said in another way
  retold : {t : Tree} {m : Execution Value} → V t ≡ m → ((s : State) → s.turns ≤ n → Evaluates scope t s (m s)) → IsComplete t
  retold {t} p d = λ s h. subst (λ (m : Execution Value). Evaluates scope t s (m s)) (sym p) (d s h)

  -- ---- operands

  none_complete : {t : Tree} {m : Execution Value} → NoOperand scope t m → IsComplete t
  none_complete p = retold (none_is scope n C p) (λ s h. no_operand p)

  one_from : {t a : Tree} {f : Value → Execution Value} {s : State} → OneOperand scope t a f → (o : Outcome Value) → Evaluates scope a s o
      → Evaluates scope t s (go_on o f)
  one_from p (Gives x s1) d = one_operand p d
  one_from p (Stops why s1) d = one_operand_stops p d

  one_complete : {t a : Tree} {f : Value → Execution Value} → OneOperand scope t a f → IsComplete a → IsComplete t
  one_complete {a} p c = retold (one_is scope n C p) (λ s h. one_from p (V a s) (c s h))

  two_right : {t a b : Tree} {f : Value → Value → Execution Value} {s s1 : State} {x : Value} → TwoOperands t a b f → Evaluates scope a s (Gives x s1)
      → (o : Outcome Value) → Evaluates scope b s1 o → Evaluates scope t s (go_on o (λ y. f x y))
  two_right p d (Gives y s2) e = two_operands p d e
  two_right p d (Stops why s2) e = two_right_stops p d e

  two_left : {t a b : Tree} {f : Value → Value → Execution Value} {s : State} → TwoOperands t a b f → IsComplete b → s.turns ≤ n → (o : Outcome Value)
      → Evaluates scope a s o → Evaluates scope t s (go_on o (λ x. V b >>= λ y. f x y))
  two_left {b} p c h (Gives x s1) d = two_right p d (V b s1) (c s1 (below h (falls d)))
  two_left p c h (Stops why s1) d = two_left_stops p d

  two_complete : {t a b : Tree} {f : Value → Value → Execution Value} → TwoOperands t a b f → IsComplete a → IsComplete b → IsComplete t
  two_complete {a} p c d = retold (two_is scope n C p) (λ s h. two_left p d h (V a s) (c s h))

  three_last : {t a b c : Tree} {f : Value → Value → Value → Execution Value} {s s1 s2 : State} {x y : Value} → ThreeOperands t a b c f
      → Evaluates scope a s (Gives x s1) → Evaluates scope b s1 (Gives y s2) → (o : Outcome Value) → Evaluates scope c s2 o
      → Evaluates scope t s (go_on o (λ z. f x y z))
  three_last p d e (Gives z s3) g = three_operands p d e g
  three_last p d e (Stops why s3) g = three_third_stops p d e g

  three_middle : {t a b c : Tree} {f : Value → Value → Value → Execution Value} {s s1 : State} {x : Value} → ThreeOperands t a b c f → IsComplete c
      → s1.turns ≤ n → Evaluates scope a s (Gives x s1) → (o : Outcome Value) → Evaluates scope b s1 o
      → Evaluates scope t s (go_on o (λ y. V c >>= λ z. f x y z))
  three_middle {c} p k h d (Gives y s2) e = three_last p d e (V c s2) (k s2 (below h (falls e)))
  three_middle p k h d (Stops why s2) e = three_second_stops p d e

  three_first : {t a b c : Tree} {f : Value → Value → Value → Execution Value} {s : State} → ThreeOperands t a b c f → IsComplete b → IsComplete c
      → s.turns ≤ n → (o : Outcome Value) → Evaluates scope a s o → Evaluates scope t s (go_on o (λ x. V b >>= λ y. V c >>= λ z. f x y z))
  three_first {b} p j k h (Gives x s1) d = three_middle p k (below h (falls d)) d (V b s1) (j s1 (below h (falls d)))
  three_first p j k h (Stops why s1) d = three_first_stops p d

  three_complete : {t a b c : Tree} {f : Value → Value → Value → Execution Value} → ThreeOperands t a b c f → IsComplete a → IsComplete b → IsComplete c
      → IsComplete t
  three_complete {a} p i j k = retold (three_is scope n C p) (λ s h. three_first p j k h (V a s) (i s h))

  pattern_right : {t a b : Tree} {f : Value → Value → Execution Value} {s s1 : State} {x : Value} → WithPattern t a b f
      → Evaluates scope a s (Gives x s1) → (o : Outcome Value) → GivesPattern scope b s1 o → Evaluates scope t s (go_on o (λ y. f x y))
  pattern_right p d (Gives y s2) e = with_pattern p d e
  pattern_right p d (Stops why s2) e = pattern_right_stops p d e

  pattern_left : {t a b : Tree} {f : Value → Value → Execution Value} {s : State} → WithPattern t a b f → PatternComplete b → s.turns ≤ n
      → (o : Outcome Value) → Evaluates scope a s o → Evaluates scope t s (go_on o (λ x. ere_of scope n C b >>= λ y. f x y))
  pattern_left {b} p c h (Gives x s1) d = pattern_right p d (ere_of scope n C b s1) (c s1 (below h (falls d)))
  pattern_left p c h (Stops why s1) d = pattern_left_stops p d

  pattern_operands_complete : {t a b : Tree} {f : Value → Value → Execution Value} → WithPattern t a b f → IsComplete a → PatternComplete b → IsComplete t
  pattern_operands_complete {a} p c d = retold (pattern_is scope n C p) (λ s h. pattern_left p d h (V a s) (c s h))

  pattern_by : {t : Tree} {s : State} (l : List (List ℕ)) → ere_in t ≡ l → Evaluates scope t s (V t s) → GivesPattern scope t s (ere_or l (V t) s)
  pattern_by [] e d = computed_ere e d
  pattern_by (text ∷ rest) e d = ere_token e

  pattern_complete : {t : Tree} → IsComplete t → PatternComplete t
  pattern_complete {t} c = λ s h. pattern_by (ere_in t) refl (c s h)

  -- ---- places

  at_place_from : {t a : Tree} {f : Place → Execution Value} {s : State} → AtPlace t a f → (o : Outcome Place) → Finds scope a s o
      → Evaluates scope t s (go_on o f)
  at_place_from p (Gives place s1) d = at_place p d
  at_place_from p (Stops why s1) d = at_place_stops p d

  at_place_complete : {t a : Tree} {f : Place → Execution Value} → AtPlace t a f → PlaceComplete a → IsComplete t
  at_place_complete {a} p c = retold (place_is scope n C p) (λ s h. at_place_from p (place_of scope n C a s) (c s h))

  value_then : {t a b : Tree} {f : Place → Value → Execution Value} {s s1 : State} {place : Place} → PlaceAndValue t a b f
      → Finds scope a s (Gives place s1) → (o : Outcome Value) → Evaluates scope b s1 o → Evaluates scope t s (go_on o (λ x. f place x))
  value_then p d (Gives x s2) e = place_and_value p d e
  value_then p d (Stops why s2) e = value_then_stops p d e

  place_first : {t a b : Tree} {f : Place → Value → Execution Value} {s : State} → PlaceAndValue t a b f → IsComplete b → s.turns ≤ n
      → (o : Outcome Place) → Finds scope a s o → Evaluates scope t s (go_on o (λ place. V b >>= λ x. f place x))
  place_first {b} p c h (Gives place s1) d = value_then p d (V b s1) (c s1 (below h (place_falls d)))
  place_first p c h (Stops why s1) d = place_first_stops p d

  assigned_complete : {t a b : Tree} {f : Place → Value → Execution Value} → PlaceAndValue t a b f → PlaceComplete a → IsComplete b → IsComplete t
  assigned_complete {a} p c d = retold (assigned_is scope n C p) (λ s h. place_first p d h (place_of scope n C a s) (c s h))

  target_complete : {t : Tree} → PlaceComplete t → TargetComplete (Some t)
  target_complete c = λ s h. the_place (c s h)

  record_complete : TargetComplete None
  record_complete = λ s h. the_record

  replacing_last : {t e r : Tree} {target : Option Tree} {all : Bool} {s s1 s2 : State} {x y : Value} → Replacing t all e r target
      → GivesPattern scope e s (Gives x s1) → Evaluates scope r s1 (Gives y s2) → (o : Outcome Place) → FindsTarget scope target s2 o
      → Evaluates scope t s (go_on o (λ place. replaced all x y place))
  replacing_last p d e (Gives place s3) g = replacing p d e g
  replacing_last p d e (Stops why s3) g = replacing_target_stops p d e g

  replacing_middle : {t e r : Tree} {target : Option Tree} {all : Bool} {s s1 : State} {x : Value} → Replacing t all e r target → TargetComplete target
      → s1.turns ≤ n → GivesPattern scope e s (Gives x s1) → (o : Outcome Value) → Evaluates scope r s1 o
      → Evaluates scope t s (go_on o (λ y. targeted scope n C target >>= λ place. replaced all x y place))
  replacing_middle {target} p k h d (Gives y s2) e = replacing_last p d e (targeted scope n C target s2) (k s2 (below h (falls e)))
  replacing_middle p k h d (Stops why s2) e = replacing_text_stops p d e

  replacing_first : {t e r : Tree} {target : Option Tree} {all : Bool} {s : State} → Replacing t all e r target → IsComplete r → TargetComplete target
      → s.turns ≤ n → (o : Outcome Value) → GivesPattern scope e s o
      → Evaluates scope t s (go_on o (λ x. V r >>= λ y. targeted scope n C target >>= λ place. replaced all x y place))
  replacing_first {r} p j k h (Gives x s1) d = replacing_middle p k (below h (pattern_falls d)) d (V r s1) (j s1 (below h (pattern_falls d)))
  replacing_first p j k h (Stops why s1) d = replacing_ere_stops p d

  replacing_complete : {t e r : Tree} {target : Option Tree} {all : Bool} → Replacing t all e r target → PatternComplete e → IsComplete r
      → TargetComplete target → IsComplete t
  replacing_complete {e} p i j k = retold (replacing_is scope n C p) (λ s h. replacing_first p j k h (ere_of scope n C e s) (i s h))

  -- ---- split

  split_last : {a b : Tree} {ts : Trees} {x : List ℕ} {s s1 : State} {y : Value} → Evaluates scope a s (Gives y s1) → (o : Outcome Value)
      → GivesPattern scope b s1 o
      → Evaluates scope (Apply builtin.Split (Then a (Then (Var x) (Then b ts)))) s (go_on o (split_by (array_at scope x s1) (is_ere (ere_in b)) y))
  split_last d (Gives z s2) e = split d e
  split_last d (Stops why s2) e = split_right_stops d e

  split_numbered : {a b : Tree} {ts : Trees} {x : List ℕ} {s s1 : State} {y : Value} → PatternComplete b → s1.turns ≤ n
      → Evaluates scope a s (Gives y s1)
      → Evaluates scope (Apply builtin.Split (Then a (Then (Var x) (Then b ts)))) s
      (go_on (array_number (array_of scope x) s1) (λ i. ere_of scope n C b >>= λ z. split_by i (is_ere (ere_in b)) y z))
  split_numbered {a} {b} {ts} {x} {s} {s1} {y} c h d =
      subst (λ (r : Outcome ℕ). Evaluates scope (Apply builtin.Split (Then a (Then (Var x) (Then b ts)))) s
      (go_on r (λ i. ere_of scope n C b >>= λ z. split_by i (is_ere (ere_in b)) y z)))
      (sym (array_is (array_of scope x) s1)) (split_last d (ere_of scope n C b s1) (c s1 h))

  split_first : {a b : Tree} {ts : Trees} {x : List ℕ} {s : State} → PatternComplete b → s.turns ≤ n → (o : Outcome Value) → Evaluates scope a s o
      → Evaluates scope (Apply builtin.Split (Then a (Then (Var x) (Then b ts)))) s
      (go_on o (λ y. array_number (array_of scope x) >>= λ i. ere_of scope n C b >>= λ z. split_by i (is_ere (ere_in b)) y z))
  split_first c h (Gives y s1) d = split_numbered c (below h (falls d)) d
  split_first c h (Stops why s1) d = split_left_stops d

  split_complete : (a b : Tree) (ts : Trees) (x : List ℕ) → IsComplete a → PatternComplete b
      → IsComplete (Apply builtin.Split (Then a (Then (Var x) (Then b ts))))
  unfolding value_of
  split_complete a b ts x c d = λ s h. split_first d h (V a s) (c s h)

  -- ---- `&&`, `||` and `? :`

  and_right : {a b : Tree} {s s1 : State} {x : Value} → Evaluates scope a s (Gives x s1) → truth_of_value x ≡ true → (o : Outcome Value)
      → Evaluates scope b s1 o → Evaluates scope (Bin (Other token.And) a b) s (go_on o (λ y. give (truth_value (truth_of_value y))))
  and_right d t (Gives y s2) e = and_true d t e
  and_right d t (Stops why s2) e = and_right_stops d t e

  and_by : {a b : Tree} {s s1 : State} {x : Value} → IsComplete b → s1.turns ≤ n → Evaluates scope a s (Gives x s1) → (v : Bool) → truth_of_value x ≡ v
      → Evaluates scope (Bin (Other token.And) a b) s
      ((if v then (V b >>= λ y. give (truth_value (truth_of_value y))) else give (truth_value false)) s1)
  and_by {b} {s1} c h d true t = and_right d t (V b s1) (c s1 h)
  and_by c h d false t = and_false d t

  and_left : {a b : Tree} {s : State} → IsComplete b → s.turns ≤ n → (o : Outcome Value) → Evaluates scope a s o
      → Evaluates scope (Bin (Other token.And) a b) s
      (go_on o (λ x. if truth_of_value x then (V b >>= λ y. give (truth_value (truth_of_value y))) else give (truth_value false)))
  and_left c h (Gives x s1) d = and_by c (below h (falls d)) d (truth_of_value x) refl
  and_left c h (Stops why s1) d = and_left_stops d

  and_complete : (a b : Tree) → IsComplete a → IsComplete b → IsComplete (Bin (Other token.And) a b)
  unfolding value_of
  and_complete a b c d = λ s h. and_left d h (V a s) (c s h)

  or_right : {a b : Tree} {s s1 : State} {x : Value} → Evaluates scope a s (Gives x s1) → truth_of_value x ≡ false → (o : Outcome Value)
      → Evaluates scope b s1 o → Evaluates scope (Bin (Other token.Or) a b) s (go_on o (λ y. give (truth_value (truth_of_value y))))
  or_right d t (Gives y s2) e = or_false d t e
  or_right d t (Stops why s2) e = or_right_stops d t e

  or_by : {a b : Tree} {s s1 : State} {x : Value} → IsComplete b → s1.turns ≤ n → Evaluates scope a s (Gives x s1) → (v : Bool) → truth_of_value x ≡ v
      → Evaluates scope (Bin (Other token.Or) a b) s
      ((if v then give (truth_value true) else (V b >>= λ y. give (truth_value (truth_of_value y)))) s1)
  or_by c h d true t = or_true d t
  or_by {b} {s1} c h d false t = or_right d t (V b s1) (c s1 h)

  or_left : {a b : Tree} {s : State} → IsComplete b → s.turns ≤ n → (o : Outcome Value) → Evaluates scope a s o
      → Evaluates scope (Bin (Other token.Or) a b) s
      (go_on o (λ x. if truth_of_value x then give (truth_value true) else (V b >>= λ y. give (truth_value (truth_of_value y)))))
  or_left c h (Gives x s1) d = or_by c (below h (falls d)) d (truth_of_value x) refl
  or_left c h (Stops why s1) d = or_left_stops d

  or_complete : (a b : Tree) → IsComplete a → IsComplete b → IsComplete (Bin (Other token.Or) a b)
  unfolding value_of
  or_complete a b c d = λ s h. or_left d h (V a s) (c s h)

  choice_by : {c a b : Tree} {s s1 : State} {x : Value} → IsComplete a → IsComplete b → s1.turns ≤ n → Evaluates scope c s (Gives x s1) → (v : Bool)
      → truth_of_value x ≡ v → Evaluates scope (Cond c a b) s ((if v then V a else V b) s1)
  choice_by {s1} i j h d true t = choice_true d t (i s1 h)
  choice_by {s1} i j h d false t = choice_false d t (j s1 h)

  choice_from : {c a b : Tree} {s : State} → IsComplete a → IsComplete b → s.turns ≤ n → (o : Outcome Value) → Evaluates scope c s o
      → Evaluates scope (Cond c a b) s (go_on o (λ x. if truth_of_value x then V a else V b))
  choice_from i j h (Gives x s1) d = choice_by i j (below h (falls d)) d (truth_of_value x) refl
  choice_from i j h (Stops why s1) d = choice_stops d

  choice_complete : (c a b : Tree) → IsComplete c → IsComplete a → IsComplete b → IsComplete (Cond c a b)
  unfolding value_of
  choice_complete c a b k i j = λ s h. choice_from i j h (V c s) (k s h)

  -- ---- elements

  -- with the array's number
  numbered : {t : Tree} {s : State} (x : List ℕ) (f : ℕ → Execution Value) → Evaluates scope t s (f (array_at scope x s) s)
      → Evaluates scope t s (go_on (array_number (array_of scope x) s) f)
  numbered {t} {s} x f d = subst (λ (r : Outcome ℕ). Evaluates scope t s (go_on r f)) (sym (array_is (array_of scope x) s)) d

  element_from : {x : List ℕ} {ts : Trees} {s : State} (o : Outcome Value) → GivesKey scope ts s o
      → Evaluates scope (Index x ts) s (go_on o (λ key. call row.Elem (array_at scope x s, (key, tt))))
  element_from (Gives key s1) d = element d
  element_from (Stops why s1) d = element_stops d

  element_complete : (x : List ℕ) (ts : Trees) → KeyComplete ts → IsComplete (Index x ts)
  unfolding value_of
  element_complete x ts c = λ s h.
      numbered x (λ i. key_of scope n C ts >>= λ key. call row.Elem (i, (key, tt))) (element_from (key_of scope n C ts s) (c s h))

  has_from : {t : Tree} {x : List ℕ} {s : State} (o : Outcome Value) → Evaluates scope t s o
      → Evaluates scope (Has t x) s (go_on o (has_key (array_at scope x s)))
  has_from (Gives key s1) d = has d
  has_from (Stops why s1) d = has_stops d

  has_complete : (t : Tree) (x : List ℕ) → IsComplete t → IsComplete (Has t x)
  unfolding value_of
  has_complete t x c = λ s h. numbered x (λ i. V t >>= has_key i) (has_from (V t s) (c s h))

  has_list_rest : {t : Tree} {ts : Trees} {x : List ℕ} {s s1 : State} {first : Value} → Evaluates scope t s (Gives first s1) → (o : Outcome Value)
      → GivesKey scope ts s1 o → Evaluates scope (HasList t ts x) s (go_on o (has_joined (array_at scope x s) first))
  has_list_rest d (Gives rest s2) e = has_list d e
  has_list_rest d (Stops why s2) e = has_list_rest_stops d e

  has_list_first : {t : Tree} {ts : Trees} {x : List ℕ} {s : State} → KeyComplete ts → s.turns ≤ n → (o : Outcome Value) → Evaluates scope t s o
      → Evaluates scope (HasList t ts x) s (go_on o (λ first. key_of scope n C ts >>= has_joined (array_at scope x s) first))
  has_list_first {ts} c h (Gives first s1) d = has_list_rest d (key_of scope n C ts s1) (c s1 (below h (falls d)))
  has_list_first c h (Stops why s1) d = has_list_first_stops d

  has_list_complete : (t : Tree) (ts : Trees) (x : List ℕ) → IsComplete t → KeyComplete ts → IsComplete (HasList t ts x)
  unfolding value_of
  has_list_complete t ts x c d = λ s h.
      numbered x (λ i. V t >>= λ first. key_of scope n C ts >>= has_joined i first) (has_list_first d h (V t s) (c s h))

  -- ---- calls and getline

  sprintf_from : {ts : Trees} {s : State} (o : Outcome (List Value)) → EvaluatesAll scope ts s o
      → Evaluates scope (Apply builtin.Sprintf ts) s (go_on o (λ xs. call_listed listed.Sprintf xs))
  sprintf_from (Gives xs s1) d = sprintf d
  sprintf_from (Stops why s1) d = sprintf_stops d

  sprintf_complete : (ts : Trees) → AllComplete ts → IsComplete (Apply builtin.Sprintf ts)
  unfolding value_of
  sprintf_complete ts c = λ s h. sprintf_from (values_of scope n C ts s) (c s h)

  calls_from : {f : List ℕ} {ts : Trees} {s : State} → s.turns ≤ n → (o : Outcome (List Local)) → Passes scope (parameters_of scope f) ts s o
      → Evaluates scope (Call f ts) s (go_on o (λ locals. spend >> C (function_number scope.script f) locals))
  calls_from {f} h (Gives locals s1) d = calls d (called_complete (function_number scope.script f) locals s1 (below h (passes_falls d)))
  calls_from h (Stops why s1) d = calls_stops d

  calls_complete : (f : List ℕ) (ts : Trees) → PassesComplete (parameters_of scope f) ts → IsComplete (Call f ts)
  unfolding value_of
  calls_complete f ts c = λ s h. calls_from h (passed scope n C (parameters_of scope f) ts s) (c s h)

  getline_from : {s : State} (o : Outcome InputAnswer) → Reads (asks row.Getline tt) s o
      → Evaluates scope Get s (go_on o (λ answer. give (numeric (input_number answer))))
  getline_from (Gives answer s1) d = getline d
  getline_from (Stops why s1) d = getline_stops d

  getline_complete : IsComplete Get
  unfolding value_of
  getline_complete = λ s h. getline_from (asked n (asks row.Getline tt) s) (reads_complete (asks row.Getline tt) (asks_spends row.Getline tt) n s h)

  getline_read : {v : Tree} {s s1 : State} {place : Place} → Finds scope v s (Gives place s1) → (o : Outcome InputAnswer)
      → Reads (asks row.GetlineVar tt) s1 o → Evaluates scope (GetInto v) s (go_on o (received place))
  getline_read d (Gives answer s2) e = getline_into d e
  getline_read d (Stops why s2) e = getline_into_stops d e

  getline_place : {v : Tree} {s : State} → s.turns ≤ n → (o : Outcome Place) → Finds scope v s o
      → Evaluates scope (GetInto v) s (go_on o (λ place. asked n (asks row.GetlineVar tt) >>= received place))
  getline_place h (Gives place s1) d =
      getline_read d (asked n (asks row.GetlineVar tt) s1)
      (reads_complete (asks row.GetlineVar tt) (asks_spends row.GetlineVar tt) n s1 (below h (place_falls d)))
  getline_place h (Stops why s1) d = getline_place_stops d

  getline_into_complete : (v : Tree) → PlaceComplete v → IsComplete (GetInto v)
  unfolding value_of
  getline_into_complete v c = λ s h. getline_place h (place_of scope n C v s) (c s h)

  -- ---- lists

  all_rest : {t : Tree} {ts : Trees} {s s1 : State} {x : Value} → Evaluates scope t s (Gives x s1) → (o : Outcome (List Value))
      → EvaluatesAll scope ts s1 o → EvaluatesAll scope (Then t ts) s (go_on o (λ xs. give (x ∷ xs)))
  all_rest d (Gives xs s2) e = next_value d e
  all_rest d (Stops why s2) e = other_values_stops d e

  all_first : {t : Tree} {ts : Trees} {s : State} → AllComplete ts → s.turns ≤ n → (o : Outcome Value) → Evaluates scope t s o
      → EvaluatesAll scope (Then t ts) s (go_on o (λ x. values_of scope n C ts >>= λ xs. give (x ∷ xs)))
  all_first {ts} c h (Gives x s1) d = all_rest d (values_of scope n C ts s1) (c s1 (below h (falls d)))
  all_first c h (Stops why s1) d = first_value_stops d

  key_rest : {t u : Tree} {ts : Trees} {s s1 : State} {first : Value} → Evaluates scope t s (Gives first s1) → (o : Outcome Value)
      → GivesKey scope (Then u ts) s1 o → GivesKey scope (Then t (Then u ts)) s (go_on o (λ rest. call row.Join (first, (rest, tt))))
  key_rest d (Gives rest s2) e = more_keys d e
  key_rest d (Stops why s2) e = other_keys_stops d e

  key_first : {t u : Tree} {ts : Trees} {s : State} → KeyComplete (Then u ts) → s.turns ≤ n → (o : Outcome Value) → Evaluates scope t s o
      → GivesKey scope (Then t (Then u ts)) s (go_on o (λ first. key_of scope n C (Then u ts) >>= λ rest. call row.Join (first, (rest, tt))))
  key_first {u} {ts} c h (Gives first s1) d = key_rest d (key_of scope n C (Then u ts) s1) (c s1 (below h (falls d)))
  key_first c h (Stops why s1) d = first_key_stops d

  element_place_from : {x : List ℕ} {ts : Trees} {s : State} (o : Outcome Value) → GivesKey scope ts s o
      → Finds scope (Index x ts) s (go_on o (λ key. give (Element (array_of scope x) key)))
  element_place_from (Gives key s1) d = element_place d
  element_place_from (Stops why s1) d = element_place_stops d

  field_place_from : {t : Tree} {s : State} (o : Outcome Value) → Evaluates scope t s o → Finds scope (Field t) s (go_on o field_place)
  field_place_from (Gives x s1) d = field_number d
  field_place_from (Stops why s1) d = field_number_stops d

  no_place_complete : (t : Tree) → IsNoPlace t → PlaceComplete t
  no_place_complete t q = λ s h. subst (λ (m : Execution Place). Finds scope t s (m s)) (sym (no_place_is scope n C t q)) (no_place q)

  value_passed : {p : Name} {t : Tree} {s : State} → IsNoName t → (o : Outcome Value) → Evaluates scope t s o
      → PassesOne scope p t s (go_on o (λ x. give (given_value p x)))
  value_passed q (Gives x s1) d = passes_value q d
  value_passed q (Stops why s1) d = passes_stops q d

  value_argument : (p : Name) (t : Tree) → IsNoName t → IsComplete t → ArgumentComplete p t
  value_argument p t q c = λ s h.
      subst (λ (m : Execution Local). PassesOne scope p t s (m s)) (sym (value_argument_is scope n C p t q))
      (value_passed q (V t s) (c s h))

  argument_complete : (p : Name) (t : Tree) → IsComplete t → ArgumentComplete p t
  argument_complete p (Var x) c = λ s h. passes_name
  argument_complete p t c = value_argument p t tt c

  passes_rest : {p : Name} {ps : List Name} {t : Tree} {ts : Trees} {s s1 : State} {l : Local} → PassesOne scope p t s (Gives l s1)
      → (o : Outcome (List Local)) → Passes scope ps ts s1 o → Passes scope (p ∷ ps) (Then t ts) s (go_on o (λ ls. give (l ∷ ls)))
  passes_rest d (Gives ls s2) e = next_argument d e
  passes_rest d (Stops why s2) e = other_arguments_stops d e

  passes_first : {p : Name} {ps : List Name} {t : Tree} {ts : Trees} {s : State} → PassesComplete ps ts → s.turns ≤ n → (o : Outcome Local)
      → PassesOne scope p t s o → Passes scope (p ∷ ps) (Then t ts) s (go_on o (λ l. passed scope n C ps ts >>= λ ls. give (l ∷ ls)))
  passes_first {ps} {ts} c h (Gives l s1) d = passes_rest d (passed scope n C ps ts s1) (c s1 (below h (argument_falls d)))
  passes_first c h (Stops why s1) d = first_argument_stops d

  passes_next : (p : Name) (ps : List Name) (t : Tree) (ts : Trees) → ArgumentComplete p t → PassesComplete ps ts → PassesComplete (p ∷ ps) (Then t ts)
  passes_next p ps t ts c d = λ s h.
      subst (λ (m : Execution (List Local)). Passes scope (p ∷ ps) (Then t ts) s (m s)) (sym (argument_is scope n C p ps t ts))
      (passes_first d h (argument scope n C p t s) (c s h))

  -- a quotient's operands, or that it is none
  abbrev IsDivision : Tree → Type 0
  IsDivision t = (a : Tree) × (b : Tree) × IsQuotient a b t × IsComplete a × IsComplete b

  division_or_not : (t : Tree) (ts : Trees) → IsComplete t → IsDivision t ⊎ IsNoQuotient t → IsComplete (Apply builtin.Int (Then t ts))
  division_or_not t ts c (inl (a, b, q, i, j)) = two_complete (int_quotient q) i j
  division_or_not t ts c (inr q) = one_complete (int q) c

  division_grouped : {t : Tree} → IsDivision t ⊎ IsNoQuotient t → IsDivision (Group t) ⊎ IsNoQuotient (Group t)
  division_grouped (inl (a, b, q, i, j)) = inl (a, b, grouped q, i, j)
  division_grouped (inr q) = inr q

  -- ---- all trees

  mutual
    unfolding value_of

    pub complete : (t : Tree) → IsComplete t
    complete (Leaf (token.Number text)) = none_complete a_number
    complete (Leaf (token.Quoted text)) = none_complete a_string
    complete (Leaf (token.Ere text)) = none_complete an_ere
    complete Length = none_complete bare_length
    complete (Var x) = none_complete a_name
    complete (Index x ts) = element_complete x ts (key_complete ts)
    complete (Field t) = one_complete field (complete t)
    complete (Group t) = λ s h. group (complete t s h)
    complete (Call f ts) = calls_complete f ts (passes_complete (parameters_of scope f) ts)
    complete (Apply f ts) = applied_complete f ts
    complete (Unary token.Not t) = one_complete negation (complete t)
    complete (Unary (token.Signed token.Plus) t) = one_complete plus (complete t)
    complete (Unary (token.Signed token.Minus) t) = one_complete minus (complete t)
    complete (Pre s t) = at_place_complete step_before (place_complete t)
    complete (Post s t) = at_place_complete step_after (place_complete t)
    complete (Bin Join a b) = two_complete concatenation (complete a) (complete b)
    complete (Bin (Add s) a b) = two_complete addition (complete a) (complete b)
    complete (Bin (Other (token.Mul p)) a b) = two_complete multiplication (complete a) (complete b)
    complete (Bin (Other token.Pow) a b) = two_complete power (complete a) (complete b)
    complete (Bin (Other (token.Compare c)) a b) = two_complete comparison (complete a) (complete b)
    complete (Bin (Other (token.Match m)) a b) = pattern_operands_complete matching (complete a) (pattern_complete (complete b))
    complete (Bin (Other token.And) a b) = and_complete a b (complete a) (complete b)
    complete (Bin (Other token.Or) a b) = or_complete a b (complete a) (complete b)
    complete (Bin (Other (token.Assign token.Set)) a b) = assigned_complete set (place_complete a) (complete b)
    complete (Bin (Other (token.Assign (token.SetSum s))) a b) = assigned_complete set_sum (place_complete a) (complete b)
    complete (Bin (Other (token.Assign (token.SetProduct p))) a b) = assigned_complete set_product (place_complete a) (complete b)
    complete (Bin (Other (token.Assign token.SetPower)) a b) = assigned_complete set_power (place_complete a) (complete b)
    complete (Has t x) = has_complete t x (complete t)
    complete (HasList t ts x) = has_list_complete t ts x (complete t) (key_complete ts)
    complete (Cond c a b) = choice_complete c a b (complete c) (complete a) (complete b)
    complete Get = getline_complete
    complete (GetInto v) = getline_into_complete v (place_complete v)
    complete (GetFrom t) = one_complete getline_file (complete t)
    complete (GetIntoFrom v t) = assigned_complete getline_into_from (place_complete v) (complete t)

    pub all_complete : (ts : Trees) → AllComplete ts
    all_complete NoTree = λ s h. no_value
    all_complete (Then t ts) = λ s h. all_first (all_complete ts) h (V t s) (complete t s h)

    pub key_complete : (ts : Trees) → KeyComplete ts
    key_complete NoTree = λ s h. no_key
    key_complete (Then t NoTree) = λ s h. one_key (complete t s h)
    key_complete (Then t (Then u ts)) = λ s h. key_first (key_complete (Then u ts)) h (V t s) (complete t s h)

    pub place_complete : (t : Tree) → PlaceComplete t
    place_complete (Index x ts) = λ s h. element_place_from (key_of scope n C ts s) (key_complete ts s h)
    place_complete (Field t) = λ s h. field_place_from (V t s) (complete t s h)
    place_complete (Var x) = λ s h. name_place
    place_complete t = no_place_complete t tt

    pub passes_complete : (ps : List Name) (ts : Trees) → PassesComplete ps ts
    passes_complete ps NoTree = λ s h. missing
    passes_complete [] (Then t ts) = λ s h. too_many
    passes_complete (p ∷ ps) (Then t ts) = passes_next p ps t ts (argument_complete p t (complete t)) (passes_complete ps ts)

    division : (t : Tree) → IsDivision t ⊎ IsNoQuotient t
    division (Group t) = division_grouped (division t)
    division (Bin (Other (token.Mul token.Over)) a b) = inl (a, b, quotient, complete a, complete b)
    division t = inr tt

    applied_complete : (f : Builtin) (ts : Trees) → IsComplete (Apply f ts)
    applied_complete builtin.Sprintf NoTree = sprintf_complete NoTree (λ s h. no_value)
    applied_complete builtin.Sprintf (Then t ts) = sprintf_complete (Then t ts) (λ s h. all_first (all_complete ts) h (V t s) (complete t s h))
    applied_complete builtin.Length NoTree = none_complete empty_length
    applied_complete builtin.Length (Then t NoTree) = one_complete length (complete t)
    applied_complete builtin.Length (Then t (Then u ts)) = none_complete long_length
    applied_complete builtin.Substr NoTree = none_complete (misused substr_of_none)
    applied_complete builtin.Substr (Then a NoTree) = none_complete (misused substr_of_one)
    applied_complete builtin.Substr (Then a (Then b NoTree)) = two_complete substr_from (complete a) (complete b)
    applied_complete builtin.Substr (Then a (Then b (Then c ts))) = three_complete substr (complete a) (complete b) (complete c)
    applied_complete builtin.Index NoTree = none_complete (misused index_of_none)
    applied_complete builtin.Index (Then a NoTree) = none_complete (misused index_of_one)
    applied_complete builtin.Index (Then a (Then b ts)) = two_complete index (complete a) (complete b)
    applied_complete builtin.Split NoTree = none_complete (misused split_of_none)
    applied_complete builtin.Split (Then a NoTree) = none_complete (misused split_of_one)
    applied_complete builtin.Split (Then a (Then (Var x) NoTree)) = one_complete split_at_fs (complete a)
    applied_complete builtin.Split (Then a (Then (Var x) (Then b ts))) = split_complete a b ts x (complete a) (pattern_complete (complete b))
    applied_complete builtin.Split (Then a (Then b ts)) = none_complete (misused (split_into_none tt))
    applied_complete builtin.Sub NoTree = none_complete (misused sub_of_none)
    applied_complete builtin.Sub (Then e NoTree) = none_complete (misused sub_of_one)
    applied_complete builtin.Sub (Then e (Then r NoTree)) = replacing_complete sub_record (pattern_complete (complete e)) (complete r) record_complete
    applied_complete builtin.Sub (Then e (Then r (Then t ts))) =
        replacing_complete sub (pattern_complete (complete e)) (complete r) (target_complete (place_complete t))
    applied_complete builtin.Gsub NoTree = none_complete (misused gsub_of_none)
    applied_complete builtin.Gsub (Then e NoTree) = none_complete (misused gsub_of_one)
    applied_complete builtin.Gsub (Then e (Then r NoTree)) = replacing_complete gsub_record (pattern_complete (complete e)) (complete r) record_complete
    applied_complete builtin.Gsub (Then e (Then r (Then t ts))) =
        replacing_complete gsub (pattern_complete (complete e)) (complete r) (target_complete (place_complete t))
    applied_complete builtin.Match NoTree = none_complete (misused match_of_none)
    applied_complete builtin.Match (Then a NoTree) = none_complete (misused match_of_one)
    applied_complete builtin.Match (Then a (Then b ts)) = pattern_operands_complete match (complete a) (pattern_complete (complete b))
    applied_complete builtin.ToLower NoTree = none_complete (misused lower_of_none)
    applied_complete builtin.ToLower (Then t ts) = one_complete lower (complete t)
    applied_complete builtin.ToUpper NoTree = none_complete (misused upper_of_none)
    applied_complete builtin.ToUpper (Then t ts) = one_complete upper (complete t)
    applied_complete builtin.Int NoTree = none_complete (misused int_of_none)
    applied_complete builtin.Int (Then t ts) = division_or_not t ts (complete t) (division t)
    applied_complete builtin.Close NoTree = none_complete (misused close_of_none)
    applied_complete builtin.Close (Then t ts) = one_complete close (complete t)
    applied_complete builtin.Fflush NoTree = none_complete flush_all
    applied_complete builtin.Fflush (Then t ts) = one_complete flush (complete t)
