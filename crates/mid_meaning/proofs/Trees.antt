-- The code of a tree means what the tree does.
use Rattle.std.proofs.Common.{◌≡◌, ℕ, Bool, true, false, not, List, [], ◌∷◌, ◌++◌, refl, sym, ◌∙◌}
use Rattle.std.specs.Prelude.{map}
use Rattle.awk_text.specs.Escapes.{string_text}
use Rattle.awk_values.specs.Values.{truth_of_value}
use Rattle.awk_values.specs.declared.value.Value.{Value}
use Rattle.awk_values.specs.declared.value.Value.TheVariants as value
use Rattle.sem_primitives.specs.Numbers.{Number as AnyNumber}
use Rattle.sem_primitives.specs.declared.constants.Special.TheVariants.{Fs}
use Rattle.sem_primitives.specs.declared.sorts.Sort.TheVariants as sort
use Rattle.sem_primitives.specs.declared.sorts.Argument.TheVariants as argument
use Rattle.sem_primitives.specs.declared.table.Primitive.TheVariants as row
use Rattle.sem_primitives.specs.declared.table.Listed.TheVariants as listed
use Rattle.awk_tokens.specs.declared.reserved_words.Builtin.{Builtin}
use Rattle.awk_tokens.specs.declared.reserved_words.Builtin.TheVariants as builtin
use Rattle.awk_grammar.specs.Token.{Plus, Minus, Not, Signed, Times, Over as Divided, Modulo, Set as Put, SetSum, SetProduct, SetPower, Assign, Or, And as Both, Match, Matching, Matches, Differs, Compare, Mul, Pow, Number as Numeral, Quoted, Ere}
use Rattle.awk_grammar.specs.Trees as tree
use Rattle.awk_grammar.specs.Trees.{Tree, Leaf, Length, Var, Index, Field, Group, Unary, Pre, Post, Bin, Join, Add, Other, Has, HasList, Cond, Trees, NoTree}
use Rattle.mid_program.specs.declared.mid.Arithmetic.TheVariants as inline
use Rattle.mid_program.specs.declared.mid.Operation.TheVariants.{Host, FieldNumber}
use Rattle.sem_scripts.specs.Names.{Name, ArrayName, Scope, Reserved, variable_of, array_of, function_number, function_at, is_array}
use Rattle.sem_scripts.specs.ScriptState.{Local, Execution, ◌>>=◌, ◌>>◌, give, settled, call, call_listed, asks, spend}
use Rattle.sem_scripts.specs.Steps.{Place, Named, Element, FieldAt, constant as number_of_constant, or_nought, numeric, zero_number, truth_value, comparison_of, number_in, computed, sign_operator, product_operator, power_operator, field_checked, array_number, stored, one_number, step_operator, read_place, store_place, received, replaced_in, substituted, ere_text, ere_in, ere_or, is_ere, given_value}
use Rattle.sem_scripts.specs.Meaning.{Calls, asked, matched, value_of, values_of, key_of, place_of, name_passed, passed, truncated_of, applied}
use Rattle.mid_program.specs.Mid.{Kind, Code, Do, AskLine, FileLine, Text, Array, Let, At, Form, a_number, form_of, parameters_at}
use Rattle.mid_program.specs.MidMeaning.{Env, Holds, all_evaluated, boxed, evaluated, listing, row_of}
use Rattle.mid_program.specs.Texts.{texts_in, all_texts, text_place}
use Rattle.mid_program.specs.Translation.{host, one, two, zero_code, untruth_code, record_code, special_code, matching_code, ere_code, sign_of, product_of, moved, store_at, stored_at, stepped_at, step_after_at, updated_at, substituted_at, target_in, keeping, replacing_code, code_of, codes_of, key_code, kept_code, argument_codes, passed_code, kind_of, truncated_code, applied_code}
use Rattle.mid_meaning.proofs.Binding.{As, assoc, bind_as, flat, given, over, under}
use Rattle.mid_meaning.proofs.Expressions.{number_is, text_is, variable_is, concat_is, join_is, matches_is, compare_is, length_is, inline_is, power_is, as_number_is, field_is, and_is, or_is, not_is, cond_is, element_is, has_is, unset_is, whole_is, index_is, match_is, lower_is, upper_is, int_is, close_is, flush_is, get_is, get_from_is, substr_from_is, substr_is, split_is}
use Rattle.mid_meaning.proofs.Operands.{Is, Valued, first_operand, number_row, one_operand, truth_of_truth}
use Rattle.mid_meaning.proofs.Places.{Placed, let_in, retold, stored_is, updated_is, stepped_is, step_after_is, line_is, file_line_is, substituted_is}
use Rattle.mid_meaning.proofs.Calls.{Handed, argument_step, fresh_same, named_as, value_as}
use Rattle.mid_meaning.proofs.Stands.{AllStand, EreStands, first_part, second_part, ere_stands}

-- each function is given what its parameters are
abbrev pub Heads : List (List Kind) → Scope → Type 0
Heads parameters scope = (f : ℕ) → parameters_at parameters f ≡ map kind_of (function_at scope.script.functions f).parameters

-- what may be asked of code where the key or the number of a place is kept
module _ (texts : List (List ℕ)) (parameters : List (List Kind)) (n : ℕ) (calls : Calls) (scope : Scope) where
  abbrev pub AtPlace : Tree → (fs : List Form) → Env fs → Code → (Place → Execution Value) → Type 0
  AtPlace (Var x) fs env body B = Is texts parameters n calls fs env body (B (Named (variable_of scope x)))
  AtPlace (Index x ts) fs env body B =
      (k : Holds (form_of fs (key_code texts scope ts))) → Valued (form_of fs (key_code texts scope ts)) → Is texts parameters n calls (form_of fs (key_code texts scope ts) ∷ fs) (k, env) body (B (Element (array_of scope x) (boxed (form_of fs (key_code texts scope ts)) k)))
  AtPlace _ fs env body B = (k : AnyNumber) → Is texts parameters n calls (a_number ∷ fs) (k, env) body (B (FieldAt k))

  -- code that means the same wherever the place is kept
  pub at_each : (t : Tree) (fs : List Form) (env : Env fs) (body : Code) (B : Place → Execution Value) →
      ((gs : List Form) (env1 : Env gs) (place : Place) → Placed scope t gs env1 0 place → Is texts parameters n calls gs env1 body (B place)) → AtPlace t fs env body B
  at_each (Var x) fs env body B h = h fs env (Named (variable_of scope x)) refl
  at_each (Index x ts) fs env body B h = λ k w. h (form_of fs (key_code texts scope ts) ∷ fs) (k, env) (Element (array_of scope x) (boxed (form_of fs (key_code texts scope ts)) k)) (w, refl)
  at_each t fs env body B h = λ k. h (a_number ∷ fs) (k, env) (FieldAt k) (k, refl, refl)

  pub substituted_there : (all : Bool) (t : Tree) (f g : Form) (fs : List Form) (x : Holds f) (y : Holds g) (env : Env fs) → Valued f → Valued g →
      AtPlace t (g ∷ f ∷ fs) (y, (x, env)) (substituted_at all (target_in texts scope t)) (λ place. read_place place >>= λ old. call row.Sub (boxed f x, (boxed g y, (old, (all, tt)))) >>= λ count. replaced_in place count)
  substituted_there all (Var z) f g fs x y env v w = substituted_is texts parameters n calls scope all (Var z) (g ∷ f ∷ fs) (y, (x, env)) (Named (variable_of scope z)) refl v w
  substituted_there all (Index z ts) f g fs x y env v w =
      λ k u. substituted_is texts parameters n calls scope all (Index z ts) (form_of (g ∷ f ∷ fs) (key_code texts scope ts) ∷ g ∷ f ∷ fs) (k, (y, (x, env))) (Element (array_of scope z) (boxed (form_of (g ∷ f ∷ fs) (key_code texts scope ts)) k)) (u, refl) v w
  substituted_there all t f g fs x y env v w = λ k. substituted_is texts parameters n calls scope all t (a_number ∷ g ∷ f ∷ fs) (k, (y, (x, env))) (FieldAt k) (k, refl, refl) v w

  -- the place without a target is the record
  pub at_record : (fs : List Form) (env : Env fs) (body : Code) (B : Place → Execution Value) → AtPlace Length fs env body B → Is texts parameters n calls fs env (keeping (kept_code texts scope Length) body) (place_of scope n calls Length >>= B)
  unfolding kept_code place_of evaluated
  at_record fs env body B h = record { valued = (h zero_number).valued; means = (h zero_number).means }

  -- expression, replacement, place
  pub replacing_is : (all : Bool) (e r : Code) (t : Tree) (m l : Execution Value) (fs : List Form) (env : Env fs) → Is texts parameters n calls fs env e m → ((gs : List Form) (env1 : Env gs) → Is texts parameters n calls gs env1 r l) →
      ((gs : List Form) (env1 : Env gs) (body : Code) (B : Place → Execution Value) → AtPlace t gs env1 body B → Is texts parameters n calls gs env1 (keeping (kept_code texts scope t) body) (place_of scope n calls t >>= B)) →
      Is texts parameters n calls fs env (replacing_code texts scope e r (keeping (kept_code texts scope t) (substituted_at all (target_in texts scope t)))) (substituted all m l (place_of scope n calls t))
  replacing_is all e r t m l fs env p q h =
      let F = form_of fs e in
      let_in texts parameters n calls fs env e (Let r (keeping (kept_code texts scope t) (substituted_at all (target_in texts scope t)))) m
      (λ x. l >>= λ y. place_of scope n calls t >>= λ place. read_place place >>= λ old. call row.Sub (x, (y, (old, (all, tt)))) >>= λ count. replaced_in place count) p
      (λ x. let_in texts parameters n calls (F ∷ fs) (x, env) r (keeping (kept_code texts scope t) (substituted_at all (target_in texts scope t))) l
      (λ y. place_of scope n calls t >>= λ place. read_place place >>= λ old. call row.Sub (boxed F x, (y, (old, (all, tt)))) >>= λ count. replaced_in place count) (q (F ∷ fs) (x, env))
      (λ y. h (form_of (F ∷ fs) r ∷ F ∷ fs) (y, (x, env)) (substituted_at all (target_in texts scope t))
      (λ place. read_place place >>= λ old. call row.Sub (boxed F x, (boxed (form_of (F ∷ fs) r) y, (old, (all, tt)))) >>= λ count. replaced_in place count)
      (substituted_there all t F (form_of (F ∷ fs) r) fs x y env p.valued (q (F ∷ fs) (x, env)).valued)))

module _ (texts : List (List ℕ)) (parameters : List (List Kind)) (n : ℕ) (calls : Calls) (fs : List Form) (env : Env fs) where
  abbrev Means : Code → Execution Value → Type 0
  Means e m = Is texts parameters n calls fs env e m

  -- the number of a field
  pub checked_is : (a : Code) (m : Execution Value) → Means a m → evaluated texts parameters n calls fs env (Do FieldNumber (one a)) ≡ (m >>= λ x. number_in x >>= λ k. settled (field_checked k))
  unfolding evaluated all_evaluated
  checked_is a m p =
      one_operand texts parameters n calls fs env a m p (λ vs. settled (row_of fs (argument.Of sort.Number ∷ []) (one a) vs) >>= λ g. settled (field_checked g.0)) (λ x. number_in x >>= λ k. settled (field_checked k))
      (λ v. number_row (form_of fs a) p.valued v (λ g. settled (field_checked g.0)))

  pub ere_same : (found : List (List ℕ)) (e : Code) (m : Execution Value) → EreStands texts found → Means e m → Means (ere_code texts found e) (ere_or found m)
  ere_same [] e m f p = p
  ere_same (t ∷ ts) e m f p = text_is texts parameters n calls fs env (text_place texts t) t f

  pub match_same : (k : Matching) (a b : Code) (m l : Execution Value) → Means a m → Means b l →
      Means (matching_code k (host row.Matches (two a b))) (m >>= λ x. l >>= λ y. call row.Matches (x, (y, tt)) >>= λ found. give (truth_value (matched k found)))
  match_same Matches a b m l p q = matches_is texts parameters n calls fs env a b m l p q
  match_same Differs a b m l p q =
      retold texts parameters n calls fs env (untruth_code (host row.Matches (two a b)))
      ((m >>= λ x. l >>= λ y. call row.Matches (x, (y, tt)) >>= λ found. give (truth_value found)) >>= λ z. give (truth_value (not (truth_of_value z))))
      (m >>= λ x. l >>= λ y. call row.Matches (x, (y, tt)) >>= λ found. give (truth_value (not found)))
      (not_is texts parameters n calls fs env (host row.Matches (two a b)) (m >>= λ x. l >>= λ y. call row.Matches (x, (y, tt)) >>= λ found. give (truth_value found)) (matches_is texts parameters n calls fs env a b m l p q))
      (flat m (λ x. l) (λ x y. call row.Matches (x, (y, tt)) >>= λ found. give (truth_value found)) (λ z. give (truth_value (not (truth_of_value z))))
      ∙ under m (λ x. l >>= λ y. (call row.Matches (x, (y, tt)) >>= λ found. give (truth_value found)) >>= λ z. give (truth_value (not (truth_of_value z)))) (λ x. l >>= λ y. call row.Matches (x, (y, tt)) >>= λ found. give (truth_value (not found)))
      (λ x. under l (λ y. (call row.Matches (x, (y, tt)) >>= λ found. give (truth_value found)) >>= λ z. give (truth_value (not (truth_of_value z)))) (λ y. call row.Matches (x, (y, tt)) >>= λ found. give (truth_value (not found)))
      (λ y. assoc (call row.Matches (x, (y, tt))) (λ found. give (truth_value found)) (λ z. give (truth_value (not (truth_of_value z))))
      ∙ under (call row.Matches (x, (y, tt))) (λ found. give (truth_value (not (truth_of_value (truth_value found))))) (λ found. give (truth_value (not found))) (λ found i. give (truth_value (not (truth_of_truth found i)))))))

  pub has_same : (a : ArrayName) (e k : Code) (m l : Execution Value) → Means e m → Means k l →
      Means (host row.Has (two (Array a) (host row.Join (two e k)))) (array_number a >>= λ i. m >>= λ first. l >>= λ rest. call row.Join (first, (rest, tt)) >>= λ key. call row.Has (i, (key, tt)) >>= λ b. give (truth_value b))
  has_same a e k m l p q =
      retold texts parameters n calls fs env (host row.Has (two (Array a) (host row.Join (two e k))))
      (array_number a >>= λ i. (m >>= λ first. l >>= λ rest. call row.Join (first, (rest, tt))) >>= λ key. call row.Has (i, (key, tt)) >>= λ b. give (truth_value b))
      (array_number a >>= λ i. m >>= λ first. l >>= λ rest. call row.Join (first, (rest, tt)) >>= λ key. call row.Has (i, (key, tt)) >>= λ b. give (truth_value b))
      (has_is texts parameters n calls fs env a (host row.Join (two e k)) (m >>= λ first. l >>= λ rest. call row.Join (first, (rest, tt))) (join_is texts parameters n calls fs env e k m l p q))
      (under (array_number a) (λ i. (m >>= λ first. l >>= λ rest. call row.Join (first, (rest, tt))) >>= λ key. call row.Has (i, (key, tt)) >>= λ b. give (truth_value b)) (λ i. m >>= λ first. l >>= λ rest. call row.Join (first, (rest, tt)) >>= λ key. call row.Has (i, (key, tt)) >>= λ b. give (truth_value b))
      (λ i. flat m (λ x. l) (λ first rest. call row.Join (first, (rest, tt))) (λ key. call row.Has (i, (key, tt)) >>= λ b. give (truth_value b))))

module _ (texts : List (List ℕ)) (parameters : List (List Kind)) (n : ℕ) (calls : Calls) (scope : Scope) (heads : Heads parameters scope) where
  abbrev code : Tree → Code
  code t = code_of texts scope t

  abbrev meaning : Tree → Execution Value
  meaning t = value_of scope n calls t

  mutual
    unfolding code_of key_code kept_code argument_codes codes_of truncated_code applied_code value_of values_of key_of place_of passed truncated_of applied evaluated all_evaluated texts_in all_texts

    pub same : (t : Tree) → AllStand texts (texts_in t) → (fs : List Form) (env : Env fs) → Is texts parameters n calls fs env (code_of texts scope t) (value_of scope n calls t)
    same (Leaf (Numeral t)) f fs env = number_is texts parameters n calls fs env (or_nought (number_of_constant t))
    same (Leaf (Quoted t)) f fs env = text_is texts parameters n calls fs env (text_place texts (string_text t)) (string_text t) f.0
    same (Leaf (Ere t)) f fs env = matches_is texts parameters n calls fs env record_code (Text (text_place texts (ere_text t))) (call row.Field (zero_number, tt)) (give (value.Text (ere_text t))) (whole_is texts parameters n calls fs env) (text_is texts parameters n calls fs env (text_place texts (ere_text t)) (ere_text t) f.0)
    same Length f fs env = length_is texts parameters n calls fs env record_code (call row.Field (zero_number, tt)) (whole_is texts parameters n calls fs env)
    same (Var x) f fs env = variable_is texts parameters n calls fs env (variable_of scope x)
    same (Index x ts) f fs env = element_is texts parameters n calls fs env (array_of scope x) (key_code texts scope ts) (key_of scope n calls ts) (same_key ts f fs env)
    same (Field t) f fs env = field_is texts parameters n calls fs env (code t) (meaning t) (same t f fs env)
    same (Group t) f fs env = same t f fs env
    same (Unary Not t) f fs env = not_is texts parameters n calls fs env (code t) (meaning t) (same t f fs env)
    same (Unary (Signed Plus) t) f fs env = as_number_is texts parameters n calls fs env (code t) (meaning t) (same t f fs env)
    same (Unary (Signed Minus) t) f fs env = inline_is texts parameters n calls fs env inline.Minus zero_code (code t) (give (numeric zero_number)) (meaning t) (number_is texts parameters n calls fs env zero_number) (same t f fs env)
    same (Bin Join a b) f fs env = concat_is texts parameters n calls fs env (code a) (code b) (meaning a) (meaning b) (same a (first_part texts (texts_in a) (texts_in b) f) fs env) (same b (second_part texts (texts_in a) (texts_in b) f) fs env)
    same (Bin (Add Plus) a b) f fs env = inline_is texts parameters n calls fs env inline.Plus (code a) (code b) (meaning a) (meaning b) (same a (first_part texts (texts_in a) (texts_in b) f) fs env) (same b (second_part texts (texts_in a) (texts_in b) f) fs env)
    same (Bin (Add Minus) a b) f fs env = inline_is texts parameters n calls fs env inline.Minus (code a) (code b) (meaning a) (meaning b) (same a (first_part texts (texts_in a) (texts_in b) f) fs env) (same b (second_part texts (texts_in a) (texts_in b) f) fs env)
    same (Bin (Other (Mul Times)) a b) f fs env = inline_is texts parameters n calls fs env inline.Times (code a) (code b) (meaning a) (meaning b) (same a (first_part texts (texts_in a) (texts_in b) f) fs env) (same b (second_part texts (texts_in a) (texts_in b) f) fs env)
    same (Bin (Other (Mul Divided)) a b) f fs env = inline_is texts parameters n calls fs env inline.Over (code a) (code b) (meaning a) (meaning b) (same a (first_part texts (texts_in a) (texts_in b) f) fs env) (same b (second_part texts (texts_in a) (texts_in b) f) fs env)
    same (Bin (Other (Mul Modulo)) a b) f fs env = inline_is texts parameters n calls fs env inline.Modulo (code a) (code b) (meaning a) (meaning b) (same a (first_part texts (texts_in a) (texts_in b) f) fs env) (same b (second_part texts (texts_in a) (texts_in b) f) fs env)
    same (Bin (Other Pow) a b) f fs env = power_is texts parameters n calls fs env (code a) (code b) (meaning a) (meaning b) (same a (first_part texts (texts_in a) (texts_in b) f) fs env) (same b (second_part texts (texts_in a) (texts_in b) f) fs env)
    same (Bin (Other (Compare c)) a b) f fs env = compare_is texts parameters n calls fs env (comparison_of c) (code a) (code b) (meaning a) (meaning b) (same a (first_part texts (texts_in a) (texts_in b) f) fs env) (same b (second_part texts (texts_in a) (texts_in b) f) fs env)
    same (Bin (Other (Match m)) a b) f fs env = match_same texts parameters n calls fs env m (code a) (ere_code texts (ere_in b) (code b)) (meaning a) (ere_or (ere_in b) (meaning b)) (same a (first_part texts (texts_in a) (texts_in b) f) fs env) (ere_same texts parameters n calls fs env (ere_in b) (code b) (meaning b) (ere_stands texts b (second_part texts (texts_in a) (texts_in b) f)) (same b (second_part texts (texts_in a) (texts_in b) f) fs env))
    same (Bin (Other Both) a b) f fs env = and_is texts parameters n calls fs env (code a) (code b) (meaning a) (meaning b) (same a (first_part texts (texts_in a) (texts_in b) f) fs env) (same b (second_part texts (texts_in a) (texts_in b) f) fs env)
    same (Bin (Other Or) a b) f fs env = or_is texts parameters n calls fs env (code a) (code b) (meaning a) (meaning b) (same a (first_part texts (texts_in a) (texts_in b) f) fs env) (same b (second_part texts (texts_in a) (texts_in b) f) fs env)
    same (Bin (Other (Assign Put)) a b) f fs env = at_same a (first_part texts (texts_in a) (texts_in b) f) fs env (stored_at (target_in texts scope a) 0 (code b)) (λ place. meaning b >>= λ x. stored place x) (at_each texts parameters n calls scope a fs env (stored_at (target_in texts scope a) 0 (code b)) (λ place. meaning b >>= λ x. stored place x) (λ gs env1 place p. stored_is texts parameters n calls scope a gs env1 0 (code b) (meaning b) place p (same b (second_part texts (texts_in a) (texts_in b) f) gs env1)))
    same (Bin (Other (Assign (SetSum Plus))) a b) f fs env = at_same a (first_part texts (texts_in a) (texts_in b) f) fs env (updated_at (sign_of Plus) (target_in texts scope a) (code b)) (λ place. meaning b >>= λ x. read_place place >>= λ old. computed (sign_operator Plus) old x >>= λ result. stored place result) (at_each texts parameters n calls scope a fs env (updated_at (sign_of Plus) (target_in texts scope a) (code b)) (λ place. meaning b >>= λ x. read_place place >>= λ old. computed (sign_operator Plus) old x >>= λ result. stored place result) (λ gs env1 place p. updated_is texts parameters n calls scope (sign_of Plus) (sign_operator Plus) a gs env1 (code b) (meaning b) place p (same b (second_part texts (texts_in a) (texts_in b) f) gs env1) (λ hs env2 u v l r q s. inline_is texts parameters n calls hs env2 inline.Plus u v l r q s)))
    same (Bin (Other (Assign (SetSum Minus))) a b) f fs env = at_same a (first_part texts (texts_in a) (texts_in b) f) fs env (updated_at (sign_of Minus) (target_in texts scope a) (code b)) (λ place. meaning b >>= λ x. read_place place >>= λ old. computed (sign_operator Minus) old x >>= λ result. stored place result) (at_each texts parameters n calls scope a fs env (updated_at (sign_of Minus) (target_in texts scope a) (code b)) (λ place. meaning b >>= λ x. read_place place >>= λ old. computed (sign_operator Minus) old x >>= λ result. stored place result) (λ gs env1 place p. updated_is texts parameters n calls scope (sign_of Minus) (sign_operator Minus) a gs env1 (code b) (meaning b) place p (same b (second_part texts (texts_in a) (texts_in b) f) gs env1) (λ hs env2 u v l r q s. inline_is texts parameters n calls hs env2 inline.Minus u v l r q s)))
    same (Bin (Other (Assign (SetProduct Times))) a b) f fs env = at_same a (first_part texts (texts_in a) (texts_in b) f) fs env (updated_at (product_of Times) (target_in texts scope a) (code b)) (λ place. meaning b >>= λ x. read_place place >>= λ old. computed (product_operator Times) old x >>= λ result. stored place result) (at_each texts parameters n calls scope a fs env (updated_at (product_of Times) (target_in texts scope a) (code b)) (λ place. meaning b >>= λ x. read_place place >>= λ old. computed (product_operator Times) old x >>= λ result. stored place result) (λ gs env1 place p. updated_is texts parameters n calls scope (product_of Times) (product_operator Times) a gs env1 (code b) (meaning b) place p (same b (second_part texts (texts_in a) (texts_in b) f) gs env1) (λ hs env2 u v l r q s. inline_is texts parameters n calls hs env2 inline.Times u v l r q s)))
    same (Bin (Other (Assign (SetProduct Divided))) a b) f fs env = at_same a (first_part texts (texts_in a) (texts_in b) f) fs env (updated_at (product_of Divided) (target_in texts scope a) (code b)) (λ place. meaning b >>= λ x. read_place place >>= λ old. computed (product_operator Divided) old x >>= λ result. stored place result) (at_each texts parameters n calls scope a fs env (updated_at (product_of Divided) (target_in texts scope a) (code b)) (λ place. meaning b >>= λ x. read_place place >>= λ old. computed (product_operator Divided) old x >>= λ result. stored place result) (λ gs env1 place p. updated_is texts parameters n calls scope (product_of Divided) (product_operator Divided) a gs env1 (code b) (meaning b) place p (same b (second_part texts (texts_in a) (texts_in b) f) gs env1) (λ hs env2 u v l r q s. inline_is texts parameters n calls hs env2 inline.Over u v l r q s)))
    same (Bin (Other (Assign (SetProduct Modulo))) a b) f fs env = at_same a (first_part texts (texts_in a) (texts_in b) f) fs env (updated_at (product_of Modulo) (target_in texts scope a) (code b)) (λ place. meaning b >>= λ x. read_place place >>= λ old. computed (product_operator Modulo) old x >>= λ result. stored place result) (at_each texts parameters n calls scope a fs env (updated_at (product_of Modulo) (target_in texts scope a) (code b)) (λ place. meaning b >>= λ x. read_place place >>= λ old. computed (product_operator Modulo) old x >>= λ result. stored place result) (λ gs env1 place p. updated_is texts parameters n calls scope (product_of Modulo) (product_operator Modulo) a gs env1 (code b) (meaning b) place p (same b (second_part texts (texts_in a) (texts_in b) f) gs env1) (λ hs env2 u v l r q s. inline_is texts parameters n calls hs env2 inline.Modulo u v l r q s)))
    same (Bin (Other (Assign SetPower)) a b) f fs env = at_same a (first_part texts (texts_in a) (texts_in b) f) fs env (updated_at (Host row.Pow) (target_in texts scope a) (code b)) (λ place. meaning b >>= λ x. read_place place >>= λ old. computed power_operator old x >>= λ result. stored place result) (at_each texts parameters n calls scope a fs env (updated_at (Host row.Pow) (target_in texts scope a) (code b)) (λ place. meaning b >>= λ x. read_place place >>= λ old. computed power_operator old x >>= λ result. stored place result) (λ gs env1 place p. updated_is texts parameters n calls scope (Host row.Pow) power_operator a gs env1 (code b) (meaning b) place p (same b (second_part texts (texts_in a) (texts_in b) f) gs env1) (λ hs env2 u v l r q s. power_is texts parameters n calls hs env2 u v l r q s)))
    same (Pre s t) f fs env = at_same t (f) fs env (stepped_at s (target_in texts scope t)) (λ place. read_place place >>= λ old. number_in old >>= λ m. step_operator s m one_number >>= λ result. stored place (numeric result)) (at_each texts parameters n calls scope t fs env (stepped_at s (target_in texts scope t)) (λ place. read_place place >>= λ old. number_in old >>= λ m. step_operator s m one_number >>= λ result. stored place (numeric result)) (λ gs env1 place p. stepped_is texts parameters n calls scope s t gs env1 place p))
    same (Post s t) f fs env = at_same t (f) fs env (step_after_at s (target_in texts scope t)) (λ place. read_place place >>= λ old. number_in old >>= λ m. step_operator s m one_number >>= λ result. store_place place (numeric result) >> give (numeric m)) (at_each texts parameters n calls scope t fs env (step_after_at s (target_in texts scope t)) (λ place. read_place place >>= λ old. number_in old >>= λ m. step_operator s m one_number >>= λ result. store_place place (numeric result) >> give (numeric m)) (λ gs env1 place p. step_after_is texts parameters n calls scope s t gs env1 place p))
    same (Has t x) f fs env = has_is texts parameters n calls fs env (array_of scope x) (code t) (meaning t) (same t f fs env)
    same (HasList t ts x) f fs env = has_same texts parameters n calls fs env (array_of scope x) (code t) (key_code texts scope ts) (meaning t) (key_of scope n calls ts) (same t (first_part texts (texts_in t) (all_texts ts) f) fs env) (same_key ts (second_part texts (texts_in t) (all_texts ts) f) fs env)
    same (Cond c a b) f fs env = cond_is texts parameters n calls fs env (code c) (code a) (code b) (meaning c) (meaning a) (meaning b) (same c (first_part texts (texts_in c) (texts_in a ++ texts_in b) f) fs env) (same a (first_part texts (texts_in a) (texts_in b) (second_part texts (texts_in c) (texts_in a ++ texts_in b) f)) fs env) (same b (second_part texts (texts_in a) (texts_in b) (second_part texts (texts_in c) (texts_in a ++ texts_in b) f)) fs env)
    same (tree.Call g ts) f fs env = record {
      valued = tt;
      means =
          given (Handed texts parameters n calls fs env (parameters_at parameters (function_number scope.script g)) (argument_codes texts scope (function_at scope.script.functions (function_number scope.script g)).parameters ts) (λ ls. spend >> calls (function_number scope.script g) ls))
          ∙ (λ i. Handed texts parameters n calls fs env (heads (function_number scope.script g) i) (argument_codes texts scope (function_at scope.script.functions (function_number scope.script g)).parameters ts) (λ ls. spend >> calls (function_number scope.script g) ls))
          ∙ arguments_same ts (function_at scope.script.functions (function_number scope.script g)).parameters f fs env (λ ls. spend >> calls (function_number scope.script g) ls);
    }
    same (tree.Apply builtin.Sprintf ts) f fs env = record {
      valued = tt;
      means =
          given (all_evaluated texts parameters n calls fs env (codes_of texts scope ts) >>= λ vs. call_listed listed.Sprintf (listing fs (codes_of texts scope ts) vs))
          ∙ bind_as (listing fs (codes_of texts scope ts)) (all_evaluated texts parameters n calls fs env (codes_of texts scope ts)) (values_of scope n calls ts) (λ vs. call_listed listed.Sprintf (listing fs (codes_of texts scope ts) vs)) (λ vs. call_listed listed.Sprintf vs) (values_same ts f fs env) (λ vs. refl);
    }
    same (tree.Apply g ts) f fs env = applied_same g ts f fs env
    same tree.Get f fs env = get_is texts parameters n calls fs env
    same (tree.GetInto v) f fs env = at_same v (f) fs env (AskLine (store_at (target_in texts scope v) 1 (moved 0))) (λ place. asked n (asks row.GetlineVar tt) >>= λ answer. received place answer) (at_each texts parameters n calls scope v fs env (AskLine (store_at (target_in texts scope v) 1 (moved 0))) (λ place. asked n (asks row.GetlineVar tt) >>= λ answer. received place answer) (λ gs env1 place p. line_is texts parameters n calls scope v gs env1 place p))
    same (tree.GetFrom s) f fs env = get_from_is texts parameters n calls fs env (code s) (meaning s) (same s f fs env)
    same (tree.GetIntoFrom v s) f fs env = at_same v (first_part texts (texts_in v) (texts_in s) f) fs env (FileLine (code s) (store_at (target_in texts scope v) 1 (moved 0))) (λ place. meaning s >>= λ file. call row.GetlineVarFile (file, tt) >>= λ answer. received place answer) (at_each texts parameters n calls scope v fs env (FileLine (code s) (store_at (target_in texts scope v) 1 (moved 0))) (λ place. meaning s >>= λ file. call row.GetlineVarFile (file, tt) >>= λ answer. received place answer) (λ gs env1 place p. file_line_is texts parameters n calls scope v gs env1 (code s) (meaning s) place p (same s (second_part texts (texts_in v) (texts_in s) f) gs env1)))

    -- where a place is kept
    pub at_same : (t : Tree) → AllStand texts (texts_in t) → (fs : List Form) (env : Env fs) (body : Code) (B : Place → Execution Value) → AtPlace texts parameters n calls scope t fs env body B → Is texts parameters n calls fs env (keeping (kept_code texts scope t) body) (place_of scope n calls t >>= B)
    at_same (Var x) f fs env body B h = h
    at_same (Index x ts) f fs env body B h =
        let p = same_key ts f fs env in
        retold texts parameters n calls fs env (keeping (kept_code texts scope (Index x ts)) body) (key_of scope n calls ts >>= λ key. B (Element (array_of scope x) key)) (place_of scope n calls (Index x ts) >>= B)
        (let_in texts parameters n calls fs env (key_code texts scope ts) body (key_of scope n calls ts) (λ key. B (Element (array_of scope x) key)) p (λ k. h k p.valued))
        (sym (assoc (key_of scope n calls ts) (λ key. give (Element (array_of scope x) key)) B))
    at_same (Field t) f fs env body B h = record {
      valued = (h zero_number).valued;
      means =
          assoc (evaluated texts parameters n calls fs env (Do FieldNumber (one (code t)))) (λ k. evaluated texts parameters n calls (a_number ∷ fs) (k, env) body) (λ z. give (boxed (form_of (a_number ∷ fs) body) z))
          ∙ over (evaluated texts parameters n calls fs env (Do FieldNumber (one (code t)))) (meaning t >>= λ x. number_in x >>= λ k. settled (field_checked k)) (λ k. evaluated texts parameters n calls (a_number ∷ fs) (k, env) body >>= λ z. give (boxed (form_of (a_number ∷ fs) body) z)) (checked_is texts parameters n calls fs env (code t) (meaning t) (same t f fs env))
          ∙ flat (meaning t) (λ x. number_in x) (λ x k. settled (field_checked k)) (λ k. evaluated texts parameters n calls (a_number ∷ fs) (k, env) body >>= λ z. give (boxed (form_of (a_number ∷ fs) body) z))
          ∙ (λ i. meaning t >>= λ x. number_in x >>= λ k. settled (field_checked k) >>= λ c. (h c).means i)
          ∙ sym (flat (meaning t) (λ x. number_in x) (λ x k. settled (field_checked k) >>= λ c. give (FieldAt c)) B ∙ (λ i. meaning t >>= λ x. number_in x >>= λ k. assoc (settled (field_checked k)) (λ c. give (FieldAt c)) B i));
    }
    at_same t f fs env body B h = record { valued = (h zero_number).valued; means = (h zero_number).means }

    pub same_key : (ts : Trees) → AllStand texts (all_texts ts) → (fs : List Form) (env : Env fs) → Is texts parameters n calls fs env (key_code texts scope ts) (key_of scope n calls ts)
    same_key NoTree f fs env = unset_is texts parameters n calls fs env
    same_key (tree.Then t NoTree) f fs env = same t (first_part texts (texts_in t) [] f) fs env
    same_key (tree.Then t (tree.Then u ts)) f fs env = join_is texts parameters n calls fs env (code t) (key_code texts scope (tree.Then u ts)) (meaning t) (key_of scope n calls (tree.Then u ts)) (same t (first_part texts (texts_in t) (all_texts (tree.Then u ts)) f) fs env) (same_key (tree.Then u ts) (second_part texts (texts_in t) (all_texts (tree.Then u ts)) f) fs env)

    pub arguments_same : (ts : Trees) (ps : List Name) → AllStand texts (all_texts ts) → (fs : List Form) (env : Env fs) (K : List Local → Execution Value) →
        Handed texts parameters n calls fs env (map kind_of ps) (argument_codes texts scope ps ts) K ≡ (passed scope n calls ps ts >>= K)
    arguments_same NoTree ps f fs env K = fresh_same texts parameters n calls fs env ps K
    arguments_same (tree.Then t ts) [] f fs env K = refl
    arguments_same (tree.Then (Var x) ts) (p ∷ ps) f fs env K =
        argument_step texts parameters n calls fs env p.is_array (passed_code texts scope p x) (argument_codes texts scope ps ts) (map kind_of ps) (name_passed scope p x) (passed scope n calls ps ts) K
        (named_as texts parameters n calls fs env p.is_array (is_array scope x) (array_of scope x) (variable_of scope x)) (λ l. arguments_same ts ps f fs env (λ ls. K (l ∷ ls)))
    arguments_same (tree.Then t ts) (p ∷ ps) f fs env K =
        argument_step texts parameters n calls fs env p.is_array (code t) (argument_codes texts scope ps ts) (map kind_of ps) (meaning t >>= λ x. give (given_value p x)) (passed scope n calls ps ts) K
        (value_as texts parameters n calls fs env p.is_array (code t) (meaning t) (same t (first_part texts (texts_in t) (all_texts ts) f) fs env)) (λ l. arguments_same ts ps (second_part texts (texts_in t) (all_texts ts) f) fs env (λ ls. K (l ∷ ls)))
        ∙ over ((meaning t >>= λ x. give (given_value p x)) >>= λ l. passed scope n calls ps ts >>= λ ls. give (l ∷ ls)) (meaning t >>= λ x. passed scope n calls ps ts >>= λ ls. give (given_value p x ∷ ls)) K
        (assoc (meaning t) (λ x. give (given_value p x)) (λ l. passed scope n calls ps ts >>= λ ls. give (l ∷ ls)))

    pub values_same : (ts : Trees) → AllStand texts (all_texts ts) → (fs : List Form) (env : Env fs) → As (listing fs (codes_of texts scope ts)) (all_evaluated texts parameters n calls fs env (codes_of texts scope ts)) (values_of scope n calls ts)
    values_same NoTree f fs env = refl
    values_same (tree.Then t ts) f fs env =
        first_operand texts parameters n calls fs env (code t) (codes_of texts scope ts) (λ vs. give (listing fs (At (code t) (codes_of texts scope ts)) vs))
        ∙ bind_as (boxed (form_of fs (code t))) (evaluated texts parameters n calls fs env (code t)) (meaning t) (λ v. all_evaluated texts parameters n calls fs env (codes_of texts scope ts) >>= λ vs. give (listing fs (At (code t) (codes_of texts scope ts)) (v, vs))) (λ x. values_of scope n calls ts >>= λ xs. give (x ∷ xs)) ((same t (first_part texts (texts_in t) (all_texts ts) f) fs env).means)
        (λ v. bind_as (listing fs (codes_of texts scope ts)) (all_evaluated texts parameters n calls fs env (codes_of texts scope ts)) (values_of scope n calls ts) (λ vs. give (listing fs (At (code t) (codes_of texts scope ts)) (v, vs))) (λ xs. give (boxed (form_of fs (code t)) v ∷ xs)) (values_same ts (second_part texts (texts_in t) (all_texts ts) f) fs env) (λ vs. refl))

    pub truncated_same : (t : Tree) → AllStand texts (texts_in t) → (fs : List Form) (env : Env fs) (e : Code) (m : Execution Value) → Is texts parameters n calls fs env e m → Is texts parameters n calls fs env (truncated_code texts scope t e) (truncated_of scope n calls t m)
    truncated_same (Group t) f fs env e m p = truncated_same t f fs env e m p
    truncated_same (Bin (Other (Mul Divided)) a b) f fs env e m p = inline_is texts parameters n calls fs env inline.Truncated (code a) (code b) (meaning a) (meaning b) (same a (first_part texts (texts_in a) (texts_in b) f) fs env) (same b (second_part texts (texts_in a) (texts_in b) f) fs env)
    truncated_same t f fs env e m p = int_is texts parameters n calls fs env e m p

    pub applied_same : (g : Builtin) (ts : Trees) → AllStand texts (all_texts ts) → (fs : List Form) (env : Env fs) → Is texts parameters n calls fs env (applied_code texts scope g ts) (applied scope n calls g ts)
    applied_same builtin.Length NoTree f fs env = length_is texts parameters n calls fs env record_code (call row.Field (zero_number, tt)) (whole_is texts parameters n calls fs env)
    applied_same builtin.Length (tree.Then t NoTree) f fs env = length_is texts parameters n calls fs env (code t) (meaning t) (same t (first_part texts (texts_in t) ([]) (f)) fs env)
    applied_same builtin.Length (tree.Then t (tree.Then u ts)) f fs env = length_is texts parameters n calls fs env record_code (call row.Field (zero_number, tt)) (whole_is texts parameters n calls fs env)
    applied_same builtin.Substr (tree.Then s (tree.Then t NoTree)) f fs env = substr_from_is texts parameters n calls fs env (code s) (code t) (meaning s) (meaning t) (same s (first_part texts (texts_in s) (texts_in t ++ ([])) (f)) fs env) (same t (first_part texts (texts_in t) ([]) (second_part texts (texts_in s) (texts_in t ++ ([])) (f))) fs env)
    applied_same builtin.Substr (tree.Then s (tree.Then t (tree.Then u ts))) f fs env = substr_is texts parameters n calls fs env (code s) (code t) (code u) (meaning s) (meaning t) (meaning u) (same s (first_part texts (texts_in s) (texts_in t ++ (texts_in u ++ (all_texts ts))) (f)) fs env) (same t (first_part texts (texts_in t) (texts_in u ++ (all_texts ts)) (second_part texts (texts_in s) (texts_in t ++ (texts_in u ++ (all_texts ts))) (f))) fs env) (same u (first_part texts (texts_in u) (all_texts ts) (second_part texts (texts_in t) (texts_in u ++ (all_texts ts)) (second_part texts (texts_in s) (texts_in t ++ (texts_in u ++ (all_texts ts))) (f)))) fs env)
    applied_same builtin.Index (tree.Then s (tree.Then t ts)) f fs env = index_is texts parameters n calls fs env (code s) (code t) (meaning s) (meaning t) (same s (first_part texts (texts_in s) (texts_in t ++ (all_texts ts)) (f)) fs env) (same t (first_part texts (texts_in t) (all_texts ts) (second_part texts (texts_in s) (texts_in t ++ (all_texts ts)) (f))) fs env)
    applied_same builtin.Split (tree.Then s (tree.Then (Var a) NoTree)) f fs env = split_is texts parameters n calls fs env false (code s) (array_of scope a) (special_code Fs) (meaning s) (call row.GetSpecial (Fs, tt)) (same s (first_part texts (texts_in s) (texts_in (Var a) ++ ([])) (f)) fs env) (variable_is texts parameters n calls fs env (Reserved Fs))
    applied_same builtin.Split (tree.Then s (tree.Then (Var a) (tree.Then t ts))) f fs env = split_is texts parameters n calls fs env (is_ere (ere_in t)) (code s) (array_of scope a) (ere_code texts (ere_in t) (code t)) (meaning s) (ere_or (ere_in t) (meaning t)) (same s (first_part texts (texts_in s) (texts_in (Var a) ++ (texts_in t ++ (all_texts ts))) (f)) fs env) (ere_same texts parameters n calls fs env (ere_in t) (code t) (meaning t) (ere_stands texts t (first_part texts (texts_in t) (all_texts ts) (second_part texts (texts_in (Var a)) (texts_in t ++ (all_texts ts)) (second_part texts (texts_in s) (texts_in (Var a) ++ (texts_in t ++ (all_texts ts))) (f))))) (same t (first_part texts (texts_in t) (all_texts ts) (second_part texts (texts_in (Var a)) (texts_in t ++ (all_texts ts)) (second_part texts (texts_in s) (texts_in (Var a) ++ (texts_in t ++ (all_texts ts))) (f)))) fs env))
    applied_same builtin.Sub (tree.Then e (tree.Then r NoTree)) f fs env = replacing_is texts parameters n calls scope false (ere_code texts (ere_in e) (code e)) (code r) Length (ere_or (ere_in e) (meaning e)) (meaning r) fs env (ere_same texts parameters n calls fs env (ere_in e) (code e) (meaning e) (ere_stands texts e (first_part texts (texts_in e) (texts_in r ++ ([])) (f))) (same e (first_part texts (texts_in e) (texts_in r ++ ([])) (f)) fs env)) (λ gs env1. same r (first_part texts (texts_in r) ([]) (second_part texts (texts_in e) (texts_in r ++ ([])) (f))) gs env1) (at_record texts parameters n calls scope)
    applied_same builtin.Sub (tree.Then e (tree.Then r (tree.Then t ts))) f fs env = replacing_is texts parameters n calls scope false (ere_code texts (ere_in e) (code e)) (code r) t (ere_or (ere_in e) (meaning e)) (meaning r) fs env (ere_same texts parameters n calls fs env (ere_in e) (code e) (meaning e) (ere_stands texts e (first_part texts (texts_in e) (texts_in r ++ (texts_in t ++ (all_texts ts))) (f))) (same e (first_part texts (texts_in e) (texts_in r ++ (texts_in t ++ (all_texts ts))) (f)) fs env)) (λ gs env1. same r (first_part texts (texts_in r) (texts_in t ++ (all_texts ts)) (second_part texts (texts_in e) (texts_in r ++ (texts_in t ++ (all_texts ts))) (f))) gs env1) (λ gs env1 body B h. at_same t (first_part texts (texts_in t) (all_texts ts) (second_part texts (texts_in r) (texts_in t ++ (all_texts ts)) (second_part texts (texts_in e) (texts_in r ++ (texts_in t ++ (all_texts ts))) (f)))) gs env1 body B h)
    applied_same builtin.Gsub (tree.Then e (tree.Then r NoTree)) f fs env = replacing_is texts parameters n calls scope true (ere_code texts (ere_in e) (code e)) (code r) Length (ere_or (ere_in e) (meaning e)) (meaning r) fs env (ere_same texts parameters n calls fs env (ere_in e) (code e) (meaning e) (ere_stands texts e (first_part texts (texts_in e) (texts_in r ++ ([])) (f))) (same e (first_part texts (texts_in e) (texts_in r ++ ([])) (f)) fs env)) (λ gs env1. same r (first_part texts (texts_in r) ([]) (second_part texts (texts_in e) (texts_in r ++ ([])) (f))) gs env1) (at_record texts parameters n calls scope)
    applied_same builtin.Gsub (tree.Then e (tree.Then r (tree.Then t ts))) f fs env = replacing_is texts parameters n calls scope true (ere_code texts (ere_in e) (code e)) (code r) t (ere_or (ere_in e) (meaning e)) (meaning r) fs env (ere_same texts parameters n calls fs env (ere_in e) (code e) (meaning e) (ere_stands texts e (first_part texts (texts_in e) (texts_in r ++ (texts_in t ++ (all_texts ts))) (f))) (same e (first_part texts (texts_in e) (texts_in r ++ (texts_in t ++ (all_texts ts))) (f)) fs env)) (λ gs env1. same r (first_part texts (texts_in r) (texts_in t ++ (all_texts ts)) (second_part texts (texts_in e) (texts_in r ++ (texts_in t ++ (all_texts ts))) (f))) gs env1) (λ gs env1 body B h. at_same t (first_part texts (texts_in t) (all_texts ts) (second_part texts (texts_in r) (texts_in t ++ (all_texts ts)) (second_part texts (texts_in e) (texts_in r ++ (texts_in t ++ (all_texts ts))) (f)))) gs env1 body B h)
    applied_same builtin.Match (tree.Then s (tree.Then e ts)) f fs env = match_is texts parameters n calls fs env (code s) (ere_code texts (ere_in e) (code e)) (meaning s) (ere_or (ere_in e) (meaning e)) (same s (first_part texts (texts_in s) (texts_in e ++ (all_texts ts)) (f)) fs env) (ere_same texts parameters n calls fs env (ere_in e) (code e) (meaning e) (ere_stands texts e (first_part texts (texts_in e) (all_texts ts) (second_part texts (texts_in s) (texts_in e ++ (all_texts ts)) (f)))) (same e (first_part texts (texts_in e) (all_texts ts) (second_part texts (texts_in s) (texts_in e ++ (all_texts ts)) (f))) fs env))
    applied_same builtin.ToLower (tree.Then t ts) f fs env = lower_is texts parameters n calls fs env (code t) (meaning t) (same t (first_part texts (texts_in t) (all_texts ts) (f)) fs env)
    applied_same builtin.ToUpper (tree.Then t ts) f fs env = upper_is texts parameters n calls fs env (code t) (meaning t) (same t (first_part texts (texts_in t) (all_texts ts) (f)) fs env)
    applied_same builtin.Close (tree.Then t ts) f fs env = close_is texts parameters n calls fs env (code t) (meaning t) (same t (first_part texts (texts_in t) (all_texts ts) (f)) fs env)
    applied_same builtin.Fflush NoTree f fs env = number_is texts parameters n calls fs env zero_number
    applied_same builtin.Fflush (tree.Then t ts) f fs env = flush_is texts parameters n calls fs env (code t) (meaning t) (same t (first_part texts (texts_in t) (all_texts ts) (f)) fs env)
    applied_same builtin.Int (tree.Then t ts) f fs env = truncated_same t (first_part texts (texts_in t) (all_texts ts) (f)) fs env (code t) (meaning t) (same t (first_part texts (texts_in t) (all_texts ts) (f)) fs env)
    applied_same g ts f fs env = unset_is texts parameters n calls fs env
