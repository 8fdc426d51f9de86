-- The code of an expression means what the expression does.
use Rattle.std.proofs.Common.{◌≡◌, ℕ, Bool, true, false, not, List, [], ◌∷◌, Ok, get_or, refl, ◌∙◌}
use Rattle.std.specs.Prelude.{if◌then◌else◌, Some}
use Rattle.awk_values.specs.Values.{truth_of_value}
use Rattle.awk_values.specs.declared.value.Value.{Value}
use Rattle.awk_values.specs.declared.value.Value.TheVariants as value
use Rattle.sem_primitives.specs.ConstantPlaces.{special_at, flag_at}
use Rattle.sem_primitives.specs.ConstantNumbers.{special_number, flag_number}
use Rattle.sem_primitives.specs.Numbers.{Number as AnyNumber}
use Rattle.sem_primitives.specs.Table.{arguments_of}
use Rattle.sem_primitives.specs.declared.constants.Special.{Special}
use Rattle.sem_primitives.specs.declared.constants.Special.TheVariants.{Argc, Convfmt, Filename, Fnr, Fs, Nf, Nr, Ofmt, Ofs, Ors, Rlength, Rs, Rstart, Subsep}
use Rattle.sem_primitives.specs.declared.sorts.Sort.TheVariants as sort
use Rattle.sem_primitives.specs.declared.sorts.Constant.TheVariants as constant
use Rattle.sem_primitives.specs.declared.sorts.Argument.TheVariants as argument
use Rattle.sem_primitives.specs.declared.table.Primitive.TheVariants as row
use Rattle.awk_values.specs.declared.comparison.CompareOp.{CompareOp}
use Rattle.sem_primitives.proofs.Words.{number_again}
use Rattle.mid_program.specs.declared.mid.Operation.TheVariants.{Inline, AsNumber}
use Rattle.mid_program.specs.declared.mid.Arithmetic.{Arithmetic}
use Rattle.sem_scripts.specs.Names.{ArrayName, Scope, Variable, Reserved, variable_of, array_of}
use Rattle.sem_scripts.specs.Names as names
use Rattle.sem_scripts.specs.ScriptState.{Execution, ◌>>=◌, give, settled, call, asks}
use Rattle.sem_scripts.specs.Steps.{compared, stream_number, input_number, numeric, zero_number, one_number, truth_value, number_in, computed, power_operator, array_number, read_variable}
use Rattle.sem_scripts.specs.Meaning.{Calls, asked}
use Rattle.mid_program.specs.Mid.{Kind, Code, Do, Compare, Ask, Number, Text, Unset, Array, Choose, Codes, End, At, Fixed, Form, form_of}
use Rattle.mid_program.specs.MidMeaning.{Env, Holds, Values, all_evaluated, boxed, evaluated, numbered, or_constant, or_zero, row_of, then_row, truth_in, operated}
use Rattle.mid_program.specs.Translation.{host, one, two, zero_code, one_code, truth_code, untruth_code, record_code, variable_code}
use Rattle.mid_meaning.proofs.Binding.{assoc, bind_as, flat, given, over, under}
use Rattle.mid_meaning.proofs.Operands.{Is, behind_value, first_operand, number_row, number_rows, on_one, on_two, on_three, one_operand, truth_boxed}

pub special_again : (s : Special) → special_at (special_number s) ≡ Some s
special_again Argc = refl
special_again Convfmt = refl
special_again Filename = refl
special_again Fnr = refl
special_again Fs = refl
special_again Nf = refl
special_again Nr = refl
special_again Ofmt = refl
special_again Ofs = refl
special_again Ors = refl
special_again Rlength = refl
special_again Rs = refl
special_again Rstart = refl
special_again Subsep = refl

flag_again : (b : Bool) → flag_at (flag_number b) ≡ Some b
flag_again true = refl
flag_again false = refl

pub chosen : {A : Type 0} (b : Bool) (t e : Execution A) {B : Type 0} (g : A → Execution B) (t' e' : Execution B) → (t >>= g) ≡ t' → (e >>= g) ≡ e' → ((if b then t else e) >>= g) ≡ (if b then t' else e')
chosen true t e g t' e' p q = p
chosen false t e g t' e' p q = q

one_or_nought : (b : Bool) → (if b then give (truth_value true) else give (truth_value false)) ≡ give (truth_value b)
one_or_nought true = refl
one_or_nought false = refl

nought_or_one : (b : Bool) → (if b then give (truth_value false) else give (truth_value true)) ≡ give (truth_value (not b))
nought_or_one true = refl
nought_or_one false = refl

module _ (texts : List (List ℕ)) (parameters : List (List Kind)) (n : ℕ) (calls : Calls) (fs : List Form) (env : Env fs) where
  abbrev Means : Code → Execution Value → Type 0
  Means e m = Is texts parameters n calls fs env e m

  abbrev Eval : (e : Code) → Execution (Holds (form_of fs e))
  Eval e = evaluated texts parameters n calls fs env e

  abbrev All : (es : Codes) → Execution (Values fs es)
  All es = all_evaluated texts parameters n calls fs env es

  pub number_is : (m : AnyNumber) → Means (Number m.number) (give (numeric m))
  unfolding evaluated
  number_is m = record { valued = tt; means = λ i. give (numeric (or_zero (number_again m i))) }

  pub text_is : (i : ℕ) (t : List ℕ) → get_or texts i [] ≡ t → Means (Text i) (give (value.Text t))
  unfolding evaluated
  text_is i t p = record { valued = tt; means = λ j. give (value.Text (p j)) }

  pub variable_is : (x : Variable) → Means (variable_code x) (read_variable x)
  unfolding evaluated all_evaluated
  variable_is (names.Global i) = record { valued = tt; means = refl }
  variable_is (names.Parameter i) = record { valued = tt; means = refl }
  variable_is (Reserved s) = record { valued = tt; means = given (call row.GetSpecial (or_constant constant.Special (special_at (special_number s)), tt)) ∙ (λ i. call row.GetSpecial (or_constant constant.Special (special_again s i), tt)) }

  -- rows on one value and on two
  pub concat_is : (a b : Code) (m l : Execution Value) → Means a m → Means b l → Means (host row.Concat (two a b)) (m >>= λ x. l >>= λ y. call row.Concat (x, (y, tt)))
  unfolding evaluated all_evaluated
  concat_is a b m l p q = record {
    valued = tt;
    means =
        on_two texts parameters n calls fs env a b m l p q (λ vs. settled (row_of fs (arguments_of row.Concat) (two a b) vs) >>= λ g. call row.Concat g) (λ z. give z) (λ x y. call row.Concat (x, (y, tt)))
        (λ v w. given (call row.Concat (boxed (form_of fs a) v, (boxed (form_of fs b) w, tt))));
  }

  pub join_is : (a b : Code) (m l : Execution Value) → Means a m → Means b l → Means (host row.Join (two a b)) (m >>= λ x. l >>= λ y. call row.Join (x, (y, tt)))
  unfolding evaluated all_evaluated
  join_is a b m l p q = record {
    valued = tt;
    means =
        on_two texts parameters n calls fs env a b m l p q (λ vs. settled (row_of fs (arguments_of row.Join) (two a b) vs) >>= λ g. call row.Join g) (λ z. give z) (λ x y. call row.Join (x, (y, tt)))
        (λ v w. given (call row.Join (boxed (form_of fs a) v, (boxed (form_of fs b) w, tt))));
  }

  pub matches_is : (a b : Code) (m l : Execution Value) → Means a m → Means b l → Means (host row.Matches (two a b)) (m >>= λ x. l >>= λ y. call row.Matches (x, (y, tt)) >>= λ found. give (truth_value found))
  unfolding evaluated all_evaluated
  matches_is a b m l p q = record {
    valued = tt;
    means =
        on_two texts parameters n calls fs env a b m l p q (λ vs. settled (row_of fs (arguments_of row.Matches) (two a b) vs) >>= λ g. call row.Matches g) (λ z. give (truth_value z)) (λ x y. call row.Matches (x, (y, tt)) >>= λ found. give (truth_value found))
        (λ v w. refl);
  }

  pub compare_is : (c : CompareOp) (a b : Code) (m l : Execution Value) → Means a m → Means b l → Means (Compare c a b) (m >>= λ x. l >>= λ y. compared c x y >>= λ truth. give (truth_value truth))
  unfolding evaluated all_evaluated
  compare_is c a b m l p q = record {
    valued = tt;
    means =
        flat (Eval a) (λ v. Eval b) (λ v w. compared c (boxed (form_of fs a) v) (boxed (form_of fs b) w)) (λ z. give (truth_value z))
        ∙ bind_as (boxed (form_of fs a)) (Eval a) m (λ v. Eval b >>= λ w. compared c (boxed (form_of fs a) v) (boxed (form_of fs b) w) >>= λ z. give (truth_value z)) (λ x. l >>= λ y. compared c x y >>= λ truth. give (truth_value truth)) p.means
        (λ v. bind_as (boxed (form_of fs b)) (Eval b) l (λ w. compared c (boxed (form_of fs a) v) (boxed (form_of fs b) w) >>= λ z. give (truth_value z)) (λ y. compared c (boxed (form_of fs a) v) y >>= λ truth. give (truth_value truth)) q.means (λ w. refl));
  }

  pub length_is : (a : Code) (m : Execution Value) → Means a m → Means (host row.Length (one a)) (m >>= λ x. call row.Length (x, tt) >>= λ l. give (numeric l))
  unfolding evaluated all_evaluated
  length_is a m p = record {
    valued = tt;
    means =
        on_one texts parameters n calls fs env a m p (λ vs. settled (row_of fs (arguments_of row.Length) (one a) vs) >>= λ g. call row.Length g) (λ z. give (numeric z)) (λ x. call row.Length (x, tt) >>= λ l. give (numeric l)) (λ v. refl);
  }

  -- operators on numbers
  pub computed_as : (op : AnyNumber × (AnyNumber × Unit {0}) → Execution AnyNumber) (a b : Code) (m l : Execution Value) → Means a m → Means b l →
      ((All (two a b) >>= λ vs. settled (row_of fs (argument.Of sort.Number ∷ (argument.Of sort.Number ∷ [])) (two a b) vs) >>= op) >>= λ z. give (numeric z))
      ≡ (m >>= λ x. l >>= λ y. computed (λ s t. op (s, (t, tt))) x y)
  unfolding evaluated all_evaluated
  computed_as op a b m l p q =
      on_two texts parameters n calls fs env a b m l p q (λ vs. settled (row_of fs (argument.Of sort.Number ∷ (argument.Of sort.Number ∷ [])) (two a b) vs) >>= op) (λ z. give (numeric z)) (λ x y. computed (λ s t. op (s, (t, tt))) x y)
      (λ v w. assoc (settled (row_of fs (argument.Of sort.Number ∷ (argument.Of sort.Number ∷ [])) (two a b) (v, (w, tt)))) op (λ z. give (numeric z))
      ∙ number_rows (form_of fs a) (form_of fs b) p.valued q.valued v w (λ g. op g >>= λ z. give (numeric z)))

  pub inline_is : (f : Arithmetic) (a b : Code) (m l : Execution Value) → Means a m → Means b l → Means (Do (Inline f) (two a b)) (m >>= λ x. l >>= λ y. computed (λ s t. operated (Inline f) (s, (t, tt))) x y)
  unfolding evaluated all_evaluated
  inline_is f a b m l p q = record { valued = tt; means = computed_as (operated (Inline f)) a b m l p q }

  pub power_is : (a b : Code) (m l : Execution Value) → Means a m → Means b l → Means (host row.Pow (two a b)) (m >>= λ x. l >>= λ y. computed power_operator x y)
  unfolding evaluated all_evaluated
  power_is a b m l p q = record { valued = tt; means = computed_as (λ g. call row.Pow g) a b m l p q }

  pub as_number_is : (a : Code) (m : Execution Value) → Means a m → Means (Do AsNumber (one a)) (m >>= λ x. number_in x >>= λ s. give (numeric s))
  unfolding evaluated all_evaluated
  as_number_is a m p = record {
    valued = tt;
    means =
        on_one texts parameters n calls fs env a m p (λ vs. settled (row_of fs (argument.Of sort.Number ∷ []) (one a) vs) >>= λ g. operated AsNumber g) (λ z. give (numeric z)) (λ x. number_in x >>= λ s. give (numeric s))
        (λ v. assoc (settled (row_of fs (argument.Of sort.Number ∷ []) (one a) (v, tt))) (λ g. operated AsNumber g) (λ z. give (numeric z))
        ∙ number_row (form_of fs a) p.valued v (λ g. give (numeric g.0)));
  }

  pub field_is : (a : Code) (m : Execution Value) → Means a m → Means (host row.Field (one a)) (m >>= λ x. number_in x >>= λ s. call row.Field (s, tt))
  unfolding evaluated all_evaluated
  field_is a m p = record {
    valued = tt;
    means =
        on_one texts parameters n calls fs env a m p (λ vs. settled (row_of fs (arguments_of row.Field) (one a) vs) >>= λ g. call row.Field g) (λ z. give z) (λ x. number_in x >>= λ s. call row.Field (s, tt))
        (λ v. given (settled (row_of fs (arguments_of row.Field) (one a) (v, tt)) >>= λ g. call row.Field g) ∙ number_row (form_of fs a) p.valued v (λ g. call row.Field g));
  }

  -- one of two, by the truth of another
  pub choose_as : (c : Code) (m : Execution Value) → Means c m → {R : Type 0} (t e : Execution R) (g : R → Execution Value) (t' e' : Execution Value) → (t >>= g) ≡ t' → (e >>= g) ≡ e' →
      ((Eval c >>= λ v. if truth_in (form_of fs c) v then t else e) >>= g) ≡ (m >>= λ x. if truth_of_value x then t' else e')
  unfolding evaluated all_evaluated
  choose_as c m p t e g t' e' q r =
      assoc (Eval c) (λ v. if truth_in (form_of fs c) v then t else e) g
      ∙ bind_as (boxed (form_of fs c)) (Eval c) m (λ v. (if truth_in (form_of fs c) v then t else e) >>= g) (λ x. if truth_of_value x then t' else e') (p.means)
      (λ v. chosen (truth_in (form_of fs c) v) t e g t' e' q r ∙ (λ i. if truth_boxed (form_of fs c) p.valued v i then t' else e'))

  -- the truth of a value as 1 or 0, and the other way round
  pub as_truth : (b : Code) (l : Execution Value) → Means b l → (Eval (truth_code b) >>= λ z. give (numeric z)) ≡ (l >>= λ y. give (truth_value (truth_of_value y)))
  unfolding evaluated all_evaluated
  as_truth b l q =
      choose_as b l q (give one_number) (give zero_number) (λ z. give (numeric z)) (give (truth_value true)) (give (truth_value false)) refl refl
      ∙ under l (λ x. if truth_of_value x then give (truth_value true) else give (truth_value false)) (λ y. give (truth_value (truth_of_value y))) (λ y. one_or_nought (truth_of_value y))

  pub as_untruth : (b : Code) (l : Execution Value) → Means b l → (Eval (untruth_code b) >>= λ z. give (numeric z)) ≡ (l >>= λ y. give (truth_value (not (truth_of_value y))))
  unfolding evaluated all_evaluated
  as_untruth b l q =
      choose_as b l q (give zero_number) (give one_number) (λ z. give (numeric z)) (give (truth_value false)) (give (truth_value true)) refl refl
      ∙ under l (λ x. if truth_of_value x then give (truth_value false) else give (truth_value true)) (λ y. give (truth_value (not (truth_of_value y)))) (λ y. nought_or_one (truth_of_value y))

  pub and_is : (a b : Code) (m l : Execution Value) → Means a m → Means b l →
      Means (Choose sort.Number a (truth_code b) zero_code) (m >>= λ x. if truth_of_value x then (l >>= λ y. give (truth_value (truth_of_value y))) else give (truth_value false))
  unfolding evaluated all_evaluated
  and_is a b m l p q = record {
    valued = tt;
    means =
        choose_as a m p (Eval (truth_code b) >>= λ x. give x) (Eval zero_code >>= λ x. give x) (λ z. give (numeric z)) (l >>= λ y. give (truth_value (truth_of_value y))) (give (truth_value false))
        (over (Eval (truth_code b) >>= λ x. give x) (Eval (truth_code b)) (λ z. give (numeric z)) (given (Eval (truth_code b))) ∙ as_truth b l q) refl;
  }

  pub or_is : (a b : Code) (m l : Execution Value) → Means a m → Means b l →
      Means (Choose sort.Number a one_code (truth_code b)) (m >>= λ x. if truth_of_value x then give (truth_value true) else (l >>= λ y. give (truth_value (truth_of_value y))))
  unfolding evaluated all_evaluated
  or_is a b m l p q = record {
    valued = tt;
    means =
        choose_as a m p (Eval one_code >>= λ x. give x) (Eval (truth_code b) >>= λ x. give x) (λ z. give (numeric z)) (give (truth_value true)) (l >>= λ y. give (truth_value (truth_of_value y)))
        refl (over (Eval (truth_code b) >>= λ x. give x) (Eval (truth_code b)) (λ z. give (numeric z)) (given (Eval (truth_code b))) ∙ as_truth b l q);
  }

  pub not_is : (a : Code) (m : Execution Value) → Means a m → Means (untruth_code a) (m >>= λ x. give (truth_value (not (truth_of_value x))))
  unfolding evaluated all_evaluated
  not_is a m p = record { valued = tt; means = as_untruth a m p }

  pub cond_is : (c a b : Code) (l m m' : Execution Value) → Means c l → Means a m → Means b m' → Means (Choose sort.Value c a b) (l >>= λ x. if truth_of_value x then m else m')
  unfolding evaluated all_evaluated
  cond_is c a b l m m' p q r = record {
    valued = tt;
    means =
        choose_as c l p (Eval a >>= λ x. give (boxed (form_of fs a) x)) (Eval b >>= λ x. give (boxed (form_of fs b) x)) (λ z. give z) m m'
        (given (Eval a >>= λ x. give (boxed (form_of fs a) x)) ∙ q.means) (given (Eval b >>= λ x. give (boxed (form_of fs b) x)) ∙ r.means);
  }

  -- an array and a key
  pub on_array : {R S : Type 0} (a : ArrayName) (e : Code) (m : Execution Value) → Means e m → (F : Values fs (two (Array a) e) → Execution R) (G : R → Execution S) (k' : ℕ → Value → Execution S) →
      ((i : ℕ) (v : Holds (form_of fs e)) → (F (i, (v, tt)) >>= G) ≡ k' i (boxed (form_of fs e) v)) → ((All (two (Array a) e) >>= F) >>= G) ≡ (array_number a >>= λ i. m >>= λ x. k' i x)
  unfolding evaluated all_evaluated
  on_array a e m p F G k' h =
      assoc (All (two (Array a) e)) F G
      ∙ first_operand texts parameters n calls fs env (Array a) (At e End) (λ vs. F vs >>= G)
      ∙ under (array_number a) (λ i. All (one e) >>= λ vs. F (i, vs) >>= G) (λ i. m >>= λ x. k' i x) (λ i. one_operand texts parameters n calls fs env e m p (λ vs. F (i, vs) >>= G) (k' i) (h i))

  pub element_is : (a : ArrayName) (e : Code) (m : Execution Value) → Means e m → Means (host row.Elem (two (Array a) e)) (array_number a >>= λ i. m >>= λ key. call row.Elem (i, (key, tt)))
  unfolding evaluated all_evaluated
  element_is a e m p = record {
    valued = tt;
    means =
        on_array a e m p (λ vs. settled (row_of fs (arguments_of row.Elem) (two (Array a) e) vs) >>= λ g. call row.Elem g) (λ z. give z) (λ i key. call row.Elem (i, (key, tt)))
        (λ i v. given (call row.Elem (i, (boxed (form_of fs e) v, tt))));
  }

  pub has_is : (a : ArrayName) (e : Code) (m : Execution Value) → Means e m → Means (host row.Has (two (Array a) e)) (array_number a >>= λ i. m >>= λ key. call row.Has (i, (key, tt)) >>= λ b. give (truth_value b))
  unfolding evaluated all_evaluated
  has_is a e m p = record {
    valued = tt;
    means =
        on_array a e m p (λ vs. settled (row_of fs (arguments_of row.Has) (two (Array a) e) vs) >>= λ g. call row.Has g) (λ z. give (truth_value z)) (λ i key. call row.Has (i, (key, tt)) >>= λ b. give (truth_value b))
        (λ i v. refl);
  }

  -- what a parameter is without an argument
  pub unset_is : Means Unset (give value.Uninit)
  unfolding evaluated all_evaluated
  unset_is = record { valued = tt; means = refl }

  pub whole_is : Means record_code (call row.Field (zero_number, tt))
  unfolding evaluated all_evaluated
  whole_is = record { valued = tt; means = given (call row.Field (zero_number, tt)) }

  pub index_is : (a b : Code) (m l : Execution Value) → Means a m → Means b l → Means (host row.Index (two a b)) (m >>= λ x. l >>= λ y. call row.Index (x, (y, tt)) >>= λ k. give (numeric k))
  unfolding evaluated all_evaluated
  index_is a b m l p q = record {
    valued = tt;
    means =
        on_two texts parameters n calls fs env a b m l p q (λ vs. settled (row_of fs (arguments_of row.Index) (two a b) vs) >>= λ g. call row.Index g) (λ z. give (numeric z)) (λ x y. call row.Index (x, (y, tt)) >>= λ k. give (numeric k)) (λ v w. refl);
  }

  pub match_is : (a b : Code) (m l : Execution Value) → Means a m → Means b l → Means (host row.Match (two a b)) (m >>= λ x. l >>= λ y. call row.Match (x, (y, tt)) >>= λ k. give (numeric k))
  unfolding evaluated all_evaluated
  match_is a b m l p q = record {
    valued = tt;
    means =
        on_two texts parameters n calls fs env a b m l p q (λ vs. settled (row_of fs (arguments_of row.Match) (two a b) vs) >>= λ g. call row.Match g) (λ z. give (numeric z)) (λ x y. call row.Match (x, (y, tt)) >>= λ k. give (numeric k)) (λ v w. refl);
  }

  pub lower_is : (a : Code) (m : Execution Value) → Means a m → Means (host row.Lower (one a)) (m >>= λ x. call row.Lower (x, tt))
  unfolding evaluated all_evaluated
  lower_is a m p = record {
    valued = tt;
    means =
        on_one texts parameters n calls fs env a m p (λ vs. settled (row_of fs (arguments_of row.Lower) (one a) vs) >>= λ g. call row.Lower g) (λ z. give z) (λ x. call row.Lower (x, tt)) (λ v. given (call row.Lower (boxed (form_of fs a) v, tt)));
  }

  pub upper_is : (a : Code) (m : Execution Value) → Means a m → Means (host row.Upper (one a)) (m >>= λ x. call row.Upper (x, tt))
  unfolding evaluated all_evaluated
  upper_is a m p = record {
    valued = tt;
    means =
        on_one texts parameters n calls fs env a m p (λ vs. settled (row_of fs (arguments_of row.Upper) (one a) vs) >>= λ g. call row.Upper g) (λ z. give z) (λ x. call row.Upper (x, tt)) (λ v. given (call row.Upper (boxed (form_of fs a) v, tt)));
  }

  pub int_is : (a : Code) (m : Execution Value) → Means a m → Means (host row.IntOf (one a)) (m >>= λ x. call row.IntOf (x, tt) >>= λ k. give (numeric k))
  unfolding evaluated all_evaluated
  int_is a m p = record {
    valued = tt;
    means =
        on_one texts parameters n calls fs env a m p (λ vs. settled (row_of fs (arguments_of row.IntOf) (one a) vs) >>= λ g. call row.IntOf g) (λ z. give (numeric z)) (λ x. call row.IntOf (x, tt) >>= λ k. give (numeric k)) (λ v. refl);
  }

  -- an answer of another kind as a number
  as_coded : (c : Code) (N : Holds (form_of fs c) → AnyNumber) → ((v : Holds (form_of fs c)) → numbered (form_of fs c) v ≡ Ok (N v)) →
      (Eval (Do AsNumber (one c)) >>= λ z. give (numeric z)) ≡ (Eval c >>= λ v. give (numeric (N v)))
  unfolding evaluated all_evaluated
  as_coded c N h =
      assoc (All (one c)) (λ vs. settled (row_of fs (argument.Of sort.Number ∷ []) (one c) vs) >>= λ g. operated AsNumber g) (λ z. give (numeric z))
      ∙ first_operand texts parameters n calls fs env c End (λ vs. (settled (row_of fs (argument.Of sort.Number ∷ []) (one c) vs) >>= λ g. operated AsNumber g) >>= λ z. give (numeric z))
      ∙ under (Eval c) (λ v. (settled (then_row (numbered (form_of fs c) v) (λ m. Ok (m, tt))) >>= λ g. operated AsNumber g) >>= λ z. give (numeric z)) (λ v. give (numeric (N v)))
      (λ v i. (settled (then_row (h v i) (λ m. Ok (m, tt))) >>= λ g. operated AsNumber g) >>= λ z. give (numeric z))

  pub close_is : (a : Code) (m : Execution Value) → Means a m → Means (Do AsNumber (one (host row.Close (one a)))) (m >>= λ x. call row.Close (x, tt) >>= λ v. give (numeric (stream_number v)))
  unfolding evaluated all_evaluated
  close_is a m p = record {
    valued = tt;
    means =
        as_coded (host row.Close (one a)) stream_number (λ v. refl)
        ∙ assoc (All (one a)) (λ vs. settled (row_of fs (arguments_of row.Close) (one a) vs) >>= λ g. call row.Close g) (λ v. give (numeric (stream_number v)))
        ∙ one_operand texts parameters n calls fs env a m p (λ vs. (settled (row_of fs (arguments_of row.Close) (one a) vs) >>= λ g. call row.Close g) >>= λ v. give (numeric (stream_number v))) (λ x. call row.Close (x, tt) >>= λ v. give (numeric (stream_number v))) (λ v. refl);
  }

  pub flush_is : (a : Code) (m : Execution Value) → Means a m → Means (Do AsNumber (one (host row.Flush (one a)))) (m >>= λ x. call row.Flush (x, tt) >>= λ v. give (numeric (stream_number v)))
  unfolding evaluated all_evaluated
  flush_is a m p = record {
    valued = tt;
    means =
        as_coded (host row.Flush (one a)) stream_number (λ v. refl)
        ∙ assoc (All (one a)) (λ vs. settled (row_of fs (arguments_of row.Flush) (one a) vs) >>= λ g. call row.Flush g) (λ v. give (numeric (stream_number v)))
        ∙ one_operand texts parameters n calls fs env a m p (λ vs. (settled (row_of fs (arguments_of row.Flush) (one a) vs) >>= λ g. call row.Flush g) >>= λ v. give (numeric (stream_number v))) (λ x. call row.Flush (x, tt) >>= λ v. give (numeric (stream_number v))) (λ v. refl);
  }

  pub get_from_is : (a : Code) (m : Execution Value) → Means a m → Means (Do AsNumber (one (host row.GetlineFile (one a)))) (m >>= λ x. call row.GetlineFile (x, tt) >>= λ v. give (numeric (input_number v)))
  unfolding evaluated all_evaluated
  get_from_is a m p = record {
    valued = tt;
    means =
        as_coded (host row.GetlineFile (one a)) input_number (λ v. refl)
        ∙ assoc (All (one a)) (λ vs. settled (row_of fs (arguments_of row.GetlineFile) (one a) vs) >>= λ g. call row.GetlineFile g) (λ v. give (numeric (input_number v)))
        ∙ one_operand texts parameters n calls fs env a m p (λ vs. (settled (row_of fs (arguments_of row.GetlineFile) (one a) vs) >>= λ g. call row.GetlineFile g) >>= λ v. give (numeric (input_number v))) (λ x. call row.GetlineFile (x, tt) >>= λ v. give (numeric (input_number v))) (λ v. refl);
  }

  pub get_is : Means Ask (asked n (asks row.Getline tt) >>= λ v. give (numeric (input_number v)))
  unfolding evaluated all_evaluated
  get_is = record { valued = tt; means = assoc (asked n (asks row.Getline tt)) (λ v. give (input_number v)) (λ z. give (numeric z)) }

  pub substr_from_is : (a b : Code) (m l : Execution Value) → Means a m → Means b l → Means (host row.SubstrFrom (two a b)) (m >>= λ x. l >>= λ y. number_in y >>= λ k. call row.SubstrFrom (x, (k, tt)))
  unfolding evaluated all_evaluated
  substr_from_is a b m l p q = record {
    valued = tt;
    means =
        on_two texts parameters n calls fs env a b m l p q (λ vs. settled (row_of fs (arguments_of row.SubstrFrom) (two a b) vs) >>= λ g. call row.SubstrFrom g) (λ z. give z) (λ x y. number_in y >>= λ k. call row.SubstrFrom (x, (k, tt)))
        (λ v w. given (settled (row_of fs (arguments_of row.SubstrFrom) (two a b) (v, (w, tt))) >>= λ g. call row.SubstrFrom g)
        ∙ behind_value (boxed (form_of fs a) v) (then_row (numbered (form_of fs b) w) (λ k. Ok (k, tt))) (λ g. call row.SubstrFrom g)
        ∙ number_row (form_of fs b) q.valued w (λ xs. call row.SubstrFrom (boxed (form_of fs a) v, xs)));
  }

  pub substr_is : (a b c : Code) (m l r : Execution Value) → Means a m → Means b l → Means c r →
      Means (host row.Substr (At a (two b c))) (m >>= λ x. l >>= λ y. r >>= λ z. number_in y >>= λ k. number_in z >>= λ o. call row.Substr (x, (k, (o, tt))))
  unfolding evaluated all_evaluated
  substr_is a b c m l r p q s = record {
    valued = tt;
    means =
        on_three texts parameters n calls fs env a b c m l r p q s (λ vs. settled (row_of fs (arguments_of row.Substr) (At a (two b c)) vs) >>= λ g. call row.Substr g) (λ z. give z) (λ x y z. number_in y >>= λ k. number_in z >>= λ o. call row.Substr (x, (k, (o, tt))))
        (λ v w u. given (settled (row_of fs (arguments_of row.Substr) (At a (two b c)) (v, (w, (u, tt)))) >>= λ g. call row.Substr g)
        ∙ behind_value (boxed (form_of fs a) v) (then_row (numbered (form_of fs b) w) (λ k. then_row (then_row (numbered (form_of fs c) u) (λ o. Ok (o, tt))) (λ xs. Ok (k, xs)))) (λ g. call row.Substr g)
        ∙ number_rows (form_of fs b) (form_of fs c) q.valued s.valued w u (λ xs. call row.Substr (boxed (form_of fs a) v, xs)));
  }

  -- a value, an array, a separator
  pub split_is : (flag : Bool) (a : Code) (x : ArrayName) (b : Code) (m l : Execution Value) → Means a m → Means b l →
      Means (host row.Split (At a (At (Array x) (At b (Fixed (flag_number flag) End))))) (m >>= λ v. array_number x >>= λ i. l >>= λ w. call row.Split (v, (i, (w, (flag, tt)))) >>= λ k. give (numeric k))
  unfolding evaluated all_evaluated
  split_is flag a x b m l p q = record {
    valued = tt;
    means =
        assoc (All (At a (At (Array x) (At b (Fixed (flag_number flag) End))))) (λ vs. settled (row_of fs (arguments_of row.Split) (At a (At (Array x) (At b (Fixed (flag_number flag) End)))) vs) >>= λ g. call row.Split g) (λ z. give (numeric z))
        ∙ first_operand texts parameters n calls fs env a (At (Array x) (At b (Fixed (flag_number flag) End))) (λ vs. (settled (row_of fs (arguments_of row.Split) (At a (At (Array x) (At b (Fixed (flag_number flag) End)))) vs) >>= λ g. call row.Split g) >>= λ z. give (numeric z))
        ∙ bind_as (boxed (form_of fs a)) (Eval a) m (λ v. All (At (Array x) (At b (Fixed (flag_number flag) End))) >>= λ vs. (settled (row_of fs (arguments_of row.Split) (At a (At (Array x) (At b (Fixed (flag_number flag) End)))) (v, vs)) >>= λ g. call row.Split g) >>= λ z. give (numeric z))
        (λ v. array_number x >>= λ i. l >>= λ w. call row.Split (v, (i, (w, (flag, tt)))) >>= λ k. give (numeric k)) p.means
        (λ v. first_operand texts parameters n calls fs env (Array x) (At b (Fixed (flag_number flag) End)) (λ vs. (settled (row_of fs (arguments_of row.Split) (At a (At (Array x) (At b (Fixed (flag_number flag) End)))) (v, vs)) >>= λ g. call row.Split g) >>= λ z. give (numeric z))
        ∙ under (array_number x) (λ i. All (At b (Fixed (flag_number flag) End)) >>= λ vs. (settled (row_of fs (arguments_of row.Split) (At a (At (Array x) (At b (Fixed (flag_number flag) End)))) (v, (i, vs))) >>= λ g. call row.Split g) >>= λ z. give (numeric z))
        (λ i. l >>= λ w. call row.Split (boxed (form_of fs a) v, (i, (w, (flag, tt)))) >>= λ k. give (numeric k))
        (λ i. first_operand texts parameters n calls fs env b (Fixed (flag_number flag) End) (λ vs. (settled (row_of fs (arguments_of row.Split) (At a (At (Array x) (At b (Fixed (flag_number flag) End)))) (v, (i, vs))) >>= λ g. call row.Split g) >>= λ z. give (numeric z))
        ∙ bind_as (boxed (form_of fs b)) (Eval b) l (λ w. (settled (row_of fs (arguments_of row.Split) (At a (At (Array x) (At b (Fixed (flag_number flag) End)))) (v, (i, (w, tt)))) >>= λ g. call row.Split g) >>= λ z. give (numeric z))
        (λ w. call row.Split (boxed (form_of fs a) v, (i, (w, (flag, tt)))) >>= λ k. give (numeric k)) q.means
        (λ w j. call row.Split (boxed (form_of fs a) v, (i, (boxed (form_of fs b) w, (or_constant constant.Flag (flag_again flag j), tt)))) >>= λ k. give (numeric k))));
  }
