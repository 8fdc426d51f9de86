-- What the code of an expression stores is what the script stores there: where the one is a number, or a copy, so is the other.
use Rattle.std.proofs.Common.{◌≡◌, ◌⊎◌, inl, inr, ℕ, suc, Bool, true, false, List, [], ◌∷◌, ◌++◌, Option, Some, None, refl, ap}
use Rattle.std.specs.Prelude.{if◌then◌else◌}
use Rattle.std.specs.List.{AllByRecursion as Each}
use Rattle.sem_primitives.specs.declared.table.Primitive.TheVariants as row
use Rattle.awk_tokens.specs.declared.reserved_words.Builtin.{Builtin}
use Rattle.awk_tokens.specs.declared.reserved_words.Builtin.TheVariants as builtin
use Rattle.awk_grammar.specs.Token.{And, Assign, Compare, Differs, Ere, Match, Matches, Minus, Mul, Not, Number as Numeral, Or, Over as Divided, Plus, Pow, Quoted, Set as Put, SetPower, SetProduct, SetSum, Signed}
use Rattle.awk_grammar.specs.Token as token
use Rattle.awk_grammar.specs.Trees.{Add, Apply, Bin, Call, Cond, Field, Get, GetFrom, GetInto, GetIntoFrom, Group, Has, HasList, Index, Join, Leaf, Length, NoTree, Other, Post, Pre, Then, Tree, Trees, Unary, Var}
use Rattle.mid_program.specs.declared.mid.Operation.{Operation}
use Rattle.mid_program.specs.declared.mid.Operation.TheVariants.{Host}
use Rattle.mid_program.specs.Mid.{PrimitiveAnswer, AskLine, Code, Codes, Do, FileLine, Form, Let, OptionalNumber, a_number, a_value, answer_by, form_of, source_of}
use Rattle.mid_program.specs.Mid as mid
use Rattle.sem_scripts.specs.Names.{Name, Reserved, Scope, Variable, array_of, function_at, function_number, is_array, variable_of}
use Rattle.sem_scripts.specs.Names as names
use Rattle.mid_program.specs.Sorted as sorted
use Rattle.sem_scripts.specs.Steps.{ere_in}
use Rattle.mid_program.specs.Translation.{ElementTarget, FieldTarget, NameTarget, Target, applied_code, argument_codes, code_of, codes_of, ere_code, fresh_codes, given_code, keeping, kept_code, key_code, moved, one_code, passed_code, product_of, read_at, received_at, sign_of, step_after_at, step_of, stepped_at, store_at, stored_at, substituted_at, target_in, truncated_code, two, updated_at, variable_code, zero_code}
use Rattle.mid_program.specs.Stores.{Asked, Every, Given, Into, stores_given, stores_in}
use Rattle.mid_program.specs.Stores as code
use Rattle.value_kinds.specs.Lanes.{is_plain}
use Rattle.value_kinds.specs.Stores.{Copy, Global, Parameter, Result, Scalar, Special, Store, Stored, Text, Value, all_stores, applied, given, gives_number, into, is_number, scalar_in, stores, value_of}
use Rattle.value_kinds.proofs.Forms.{clash, number_code, product_number, sign_number}
use Rattle.value_kinds.proofs.Sources.{every_both}

plain_number : (f : Form) → sorted.is_number f ≡ true → is_plain f ≡ true
plain_number OptionalNumber h = refl
plain_number mid.NumberOrText h = h
plain_number (PrimitiveAnswer a) h = h

-- what the script stores is a copy of a scalar of which D holds
abbrev pub CopyOf : (D : Scalar → Type 0) → Stored → Type 0
CopyOf D (Copy Special) = ⊥
CopyOf D (Copy y) = D y
CopyOf D (Value t) = ⊥
CopyOf D Result = ⊥
CopyOf D Text = ⊥

-- a scalar, and those whose copies may be stored into it: into a parameter none
pub record Taker : Type 1 where
  pub scalar : Scalar
  pub copies : Scalar → Type 0
  pub single : (f i : ℕ) → Parameter f i ≡ scalar → (y : Scalar) → copies y → ⊥

module _ (x : Taker) where
  abbrev pub NumberOrCopyOf : Stored → Type 0
  NumberOrCopyOf w = (is_number w ≡ true) ⊎ CopyOf x.copies w

  -- what the script stores into it is a number, or such a copy
  abbrev pub Fits : Store → Type 0
  Fits s = s.scalar ≡ x.scalar → NumberOrCopyOf s.stored

  pub no_text : {A : Type 0} → NumberOrCopyOf Text → A
  no_text (inl e) = clash e
  no_text (inr c) = absurd c

  -- a parameter takes no copies
  given_number : (f i : ℕ) (w : Stored) → Parameter f i ≡ x.scalar → NumberOrCopyOf w → is_number w ≡ true
  given_number f i w e (inl h) = h
  given_number f i (Copy (Global j)) e (inr c) = absurd (x.single f i e (Global j) c)
  given_number f i (Copy (Parameter k j)) e (inr c) = absurd (x.single f i e (Parameter k j) c)
  given_number f i (Copy Special) e (inr c) = absurd c
  given_number f i (Value t) e (inr c) = absurd c
  given_number f i Result e (inr c) = absurd c
  given_number f i Text e (inr c) = absurd c

  abbrev pub AllFit : List Store → Type 0
  AllFit ss = Each Fits ss

  pub first : (ss ts : List Store) → AllFit (ss ++ ts) → AllFit ss
  first [] ts h = tt
  first (s ∷ ss) ts h = (h.0, first ss ts h.1)

  pub second : (ss ts : List Store) → AllFit (ss ++ ts) → AllFit ts
  second [] ts h = h
  second (s ∷ ss) ts h = second ss ts h.1

  pub three : (ss ts us : List Store) → AllFit (ss ++ (ts ++ us)) → AllFit ss × AllFit ts × AllFit us
  three ss ts us h = let rest = second ss (ts ++ us) h in (first ss (ts ++ us) h, first ts us rest, second ts us rest)

  module _ (g : ℕ) where
    -- what code of the g-th function stores into it is one

    abbrev pub Copied : Option mid.Slot → Type 0
    Copied None = ⊥
    Copied (Some (mid.Global u i)) = x.copies (Global i)
    Copied (Some (mid.Parameter u i)) = x.copies (Parameter g i)

    abbrev NumberOrCopy : Option mid.Slot → Form → Type 0
    NumberOrCopy o f = (sorted.is_number f ≡ true) ⊎ Copied o

    abbrev pub CodeFits : code.Store → Type 0
    CodeFits (Into (mid.Global u i) o f) = Global i ≡ x.scalar → NumberOrCopy o f
    CodeFits (Into (mid.Parameter u i) o f) = Parameter g i ≡ x.scalar → sorted.is_number f ≡ true
    CodeFits (Given k i o f) = Parameter k i ≡ x.scalar → is_plain f ≡ true
    CodeFits Asked = Unit {0}

    -- into a parameter too
    no_copy : (i : ℕ) (o : Option mid.Slot) (f : Form) → Parameter g i ≡ x.scalar → NumberOrCopy o f → sorted.is_number f ≡ true
    no_copy i o f e (inl h) = h
    no_copy i None f e (inr c) = absurd c
    no_copy i (Some (mid.Global u j)) f e (inr c) = absurd (x.single g i e (Global j) c)
    no_copy i (Some (mid.Parameter u j)) f e (inr c) = absurd (x.single g i e (Parameter g j) c)

    abbrev pub Fit : List code.Store → Type 0
    Fit ss = Every CodeFits ss

    pub both : (ss ts : List code.Store) → Fit ss → Fit ts → Fit (ss ++ ts)
    both = every_both CodeFits

    pub alone : (ss : List code.Store) → Fit ss → Fit (ss ++ [])
    alone ss h = both ss [] h tt

    pub two_fit : (fs : List Form) (a b : Code) → Fit (code.stores fs a) → Fit (code.stores fs b) → Fit (stores_in fs (two a b))
    two_fit fs a b h k = both (code.stores fs a) (code.stores fs b ++ []) h (alone (code.stores fs b) k)

    chosen_fit : (z : Bool) (a b : Code) (fs : List Form) → Fit (code.stores fs a) → Fit (code.stores fs b) → Fit (code.stores fs (if z then a else b))
    chosen_fit true a b fs h k = h
    chosen_fit false a b fs h k = k

    variable_fit : (v : Variable) (fs : List Form) → Fit (code.stores fs (variable_code v))
    variable_fit (names.Global i) fs = tt
    variable_fit (names.Parameter i) fs = tt
    variable_fit (Reserved s) fs = tt

    ere_fit : (texts found : List (List ℕ)) (e : Code) (fs : List Form) → Fit (code.stores fs e) → Fit (code.stores fs (ere_code texts found e))
    ere_fit texts [] e fs h = h
    ere_fit texts (t ∷ rest) e fs h = tt

    -- what stands at the left

    abbrev pub Takes : Target → Option mid.Slot → Form → Type 0
    Takes (NameTarget v) o f = scalar_in g v ≡ x.scalar → NumberOrCopy o f
    Takes t o f = Unit {0}

    read_fit : (t : Target) (i : ℕ) (fs : List Form) → Fit (code.stores fs (read_at t i))
    read_fit (ElementTarget a) i fs = tt
    read_fit (NameTarget v) i fs = variable_fit v fs
    read_fit FieldTarget i fs = tt

    pub store_fit : (t : Target) (i : ℕ) (e : Code) (fs : List Form) → Fit (code.stores fs e) → Takes t (source_of e) (form_of fs e) → Fit (code.stores fs (store_at t i e))
    store_fit (ElementTarget a) i e fs h k = alone (code.stores fs e) h
    store_fit (NameTarget (names.Global n)) i e fs h k = both (code.stores fs e) _ h (k, tt)
    store_fit (NameTarget (names.Parameter n)) i e fs h k = both (code.stores fs e) _ h (λ q. no_copy n (source_of e) (form_of fs e) q (k q), tt)
    store_fit (NameTarget (Reserved s)) i e fs h k = alone (code.stores fs e) h
    store_fit FieldTarget i e fs h k = alone (code.stores fs e) h

    stored_fit : (t : Target) (i : ℕ) (e : Code) (fs : List Form) → Fit (code.stores fs e) → Takes t (source_of e) (form_of fs e) → Fit (code.stores fs (stored_at t i e))
    stored_fit (ElementTarget a) i e fs h k = alone (code.stores fs e) h
    stored_fit (NameTarget (names.Global n)) i e fs h k = both (code.stores fs e) _ h (k, tt)
    stored_fit (NameTarget (names.Parameter n)) i e fs h k = both (code.stores fs e) _ h (λ q. no_copy n (source_of e) (form_of fs e) q (k q), tt)
    stored_fit (NameTarget (Reserved s)) i e fs h k = alone (code.stores fs e) h
    stored_fit FieldTarget i e fs h k = alone (code.stores fs e) h

    stepped_fit : (s : token.Step) (t : Target) (fs : List Form) → Takes t None a_number → Fit (code.stores fs (stepped_at s t))
    stepped_fit s t fs k = stored_fit t 0 (Do (step_of s) (two (read_at t 0) one_code)) fs (two_fit fs (read_at t 0) one_code (read_fit t 0 fs) tt) k

    step_after_fit : (s : token.Step) (t : Target) (fs : List Form) → Takes t None a_number → Fit (code.stores fs (step_after_at s t))
    step_after_fit s t fs k =
        let old = code.stores fs (read_at t 0) in
        let gs = a_number ∷ (a_number ∷ fs) in
        both (old ++ []) _ (alone old (read_fit t 0 fs)) (alone (code.stores gs (store_at t 2 (moved 0))) (store_fit t 2 (moved 0) gs tt k))

    updated_fit : (o : Operation) (t : Target) (e : Code) (fs : List Form) → Fit (code.stores fs e) → Takes t None (PrimitiveAnswer (answer_by o)) → Fit (code.stores fs (updated_at o t e))
    updated_fit o t e fs h k =
        let gs = form_of fs e ∷ fs in
        both (code.stores fs e) _ h (stored_fit t 1 (Do o (two (read_at t 1) (moved 0))) gs (two_fit gs (read_at t 1) (moved 0) (read_fit t 1 gs) tt) k)

    substituted_fit : (all : Bool) (t : Target) (fs : List Form) → Takes t None a_value → Fit (code.stores fs (substituted_at all t))
    substituted_fit all t fs k =
        let old = code.stores fs (read_at t 0) in
        both (old ++ []) _ (alone old (read_fit t 0 fs)) (store_fit t 1 (moved 0) (a_value ∷ fs) tt k)

    replacing_fit : (e r body : Code) (fs : List Form) → Fit (code.stores fs e) → ((gs : List Form) → Fit (code.stores gs r)) → ((gs : List Form) → Fit (code.stores gs body)) →
        Fit (code.stores fs (Let e (Let r body)))
    replacing_fit e r body fs h k l = both (code.stores fs e) _ h (both (code.stores (form_of fs e ∷ fs) r) _ (k (form_of fs e ∷ fs)) (l (form_of (form_of fs e ∷ fs) r ∷ (form_of fs e ∷ fs))))

    -- arguments that are missing
    fresh_chosen : (z : Bool) (a b : Codes) (k i : ℕ) (fs : List Form) → Fit (stores_given k i fs a) → Fit (stores_given k i fs b) → Fit (stores_given k i fs (if z then a else b))
    fresh_chosen true a b k i fs h l = h
    fresh_chosen false a b k i fs h l = l

    fresh_fit : (k i : ℕ) (ps : List Name) (fs : List Form) → Fit (stores_given k i fs (fresh_codes ps))
    fresh_fit k i [] fs = tt
    fresh_fit k i (p ∷ ps) fs = fresh_chosen p.is_array (mid.Fresh (fresh_codes ps)) (mid.At mid.Unset (fresh_codes ps)) k i fs (fresh_fit k (suc i) ps fs) (λ e. refl, fresh_fit k (suc i) ps fs)

    module _ (texts : List (List ℕ)) (scope : Scope) where
      abbrev C : Tree → Code
      C t = code_of texts scope t

      abbrev S : Tree → List Store
      S t = stores g scope t

      abbrev Ss : Trees → List Store
      Ss ts = all_stores g scope ts

      abbrev K : Trees → Code
      K ts = key_code texts scope ts

      abbrev T : Tree → Target
      T t = target_in texts scope t

      abbrev E : Tree → Code
      E t = ere_code texts (ere_in t) (C t)

      passed_fit : (p : Name) (y : List ℕ) (fs : List Form) → Fit (code.stores fs (passed_code texts scope p y))
      passed_fit p y fs =
          chosen_fit p.is_array _ (if is_array scope y then mid.Unset else variable_code (variable_of scope y)) fs tt
          (chosen_fit (is_array scope y) mid.Unset (variable_code (variable_of scope y)) fs tt (variable_fit (variable_of scope y) fs))

      record Argument (p : Name) (t : Tree) (k i : ℕ) (fs : List Form) : Type 0 where
        fit : Fit (code.stores fs (given_code texts scope p t (C t)))
        number : Parameter k i ≡ x.scalar → is_plain (form_of fs (given_code texts scope p t (C t))) ≡ true

      -- what is stored is the value of an expression

      value_number : (t : Tree) → is_number (value_of g scope t) ≡ true → gives_number t ≡ true
      value_number (Var y) h = clash h
      value_number (Group t) h = value_number t h
      value_number t h = h

      copy_there : (v : Variable) → CopyOf x.copies (Copy (scalar_in g v)) → Copied (source_of (variable_code v))
      copy_there (names.Global i) c = c
      copy_there (names.Parameter i) c = c
      copy_there (Reserved s) c = absurd c

      value_copy : (t : Tree) → CopyOf x.copies (value_of g scope t) → Copied (source_of (C t))
      unfolding code_of
      value_copy (Var y) c = copy_there (variable_of scope y) c
      value_copy (Group t) c = value_copy t c
      value_copy t c = absurd c

      value_fits : (t : Tree) (fs : List Form) → NumberOrCopyOf (value_of g scope t) → NumberOrCopy (source_of (C t)) (form_of fs (C t))
      value_fits t fs (inl h) = inl (number_code texts scope t (value_number t h) fs)
      value_fits t fs (inr c) = inr (value_copy t c)

      argument_fit : (p : Name) (t : Tree) (k i : ℕ) → (Parameter k i ≡ x.scalar → gives_number t ≡ true) → (fs : List Form) → Fit (code.stores fs (C t)) → Argument p t k i fs
      argument_fit p (Var y) k i n fs h = record { fit = passed_fit p y fs; number = λ e. clash (n e) }
      argument_fit p t k i n fs h = record { fit = h; number = λ e. plain_number (form_of fs (C t)) (number_code texts scope t (n e) fs) }

      -- what is stored into a name is as the script says
      takes : (t : Tree) (w : Stored) (o : Option mid.Slot) (f : Form) → AllFit (into g scope t w) → (NumberOrCopyOf w → NumberOrCopy o f) → Takes (T t) o f
      takes (Var y) w o f h k = λ e. k (h.0 e)
      takes t w o f h k = tt

      -- the right side of an assignment by an operator
      updated : (o : Operation) (a b : Tree) → AllFit (into g scope a Result) → sorted.is_number (PrimitiveAnswer (answer_by o)) ≡ true → ((fs : List Form) → Fit (code.stores fs (C b))) →
          (fs : List Form) → Fit (code.stores fs (updated_at o (T a) (C b)))
      updated o a b h n k fs = updated_fit o (T a) (C b) fs (k fs) (takes a Result None (PrimitiveAnswer (answer_by o)) h (λ e. inl n))

      -- a text that is read or made is stored
      received : (t : Tree) → AllFit (into g scope t Text) → (fs : List Form) → Fit (code.stores (a_value ∷ fs) (received_at (T t)))
      received t h fs = store_fit (T t) 1 (moved 0) (a_value ∷ fs) tt (takes t Text None a_value h no_text)

      ere : (t : Tree) (fs : List Form) → Fit (code.stores fs (C t)) → Fit (code.stores fs (ere_code texts (ere_in t) (C t)))
      ere t fs h = ere_fit texts (ere_in t) (C t) fs h

      substituted : (all : Bool) (t : Tree) → AllFit (into g scope t Text) → (fs : List Form) → Fit (code.stores fs (substituted_at all (T t)))
      substituted all t h fs = substituted_fit all (T t) fs (takes t Text None a_value h no_text)

      mutual
        unfolding code_of codes_of key_code kept_code argument_codes truncated_code applied_code

        pub code_fit : (t : Tree) → AllFit (S t) → (fs : List Form) → Fit (code.stores fs (C t))
        code_fit (Leaf (Numeral text)) h fs = tt
        code_fit (Leaf (Quoted text)) h fs = tt
        code_fit (Leaf (Ere text)) h fs = tt
        code_fit Length h fs = tt
        code_fit (Var y) h fs = variable_fit (variable_of scope y) fs
        code_fit (Index y ts) h fs = alone (code.stores fs (K ts)) (key_fit ts h fs)
        code_fit (Field t) h fs = alone (code.stores fs (C t)) (code_fit t h fs)
        code_fit (Group t) h fs = code_fit t h fs
        code_fit (Call f ts) h fs =
            let n = function_number scope.script f in
            given_fit ts (function_at scope.script.functions n).parameters n 0 (first (Ss ts) (given g scope n 0 ts) h) (second (Ss ts) (given g scope n 0 ts) h) fs
        code_fit (Apply builtin.Sprintf ts) h fs = codes_fit ts (first (Ss ts) [] h) fs
        code_fit (Apply f ts) h fs = applied_fit f ts (first (Ss ts) (applied g scope f ts) h) (second (Ss ts) (applied g scope f ts) h) fs
        code_fit (Unary Not t) h fs = alone (code.stores fs (C t)) (code_fit t h fs)
        code_fit (Unary (Signed Plus) t) h fs = alone (code.stores fs (C t)) (code_fit t h fs)
        code_fit (Unary (Signed Minus) t) h fs = alone (code.stores fs (C t)) (code_fit t h fs)
        code_fit (Pre s t) h fs =
            kept_fit t (first (S t) (into g scope t Result) h) (stepped_at s (T t)) (λ gs. stepped_fit s (T t) gs (takes t Result None a_number (second (S t) (into g scope t Result) h) (λ e. inl refl))) fs
        code_fit (Post s t) h fs =
            kept_fit t (first (S t) (into g scope t Result) h) (step_after_at s (T t))
            (λ gs. step_after_fit s (T t) gs (takes t Result None a_number (second (S t) (into g scope t Result) h) (λ e. inl refl))) fs
        code_fit (Bin (Other (Assign Put)) a b) h fs =
            let p = three (S a) (S b) (into g scope a (value_of g scope b)) h in
            kept_fit a p.0 (stored_at (T a) 0 (C b))
            (λ gs. stored_fit (T a) 0 (C b) gs (code_fit b p.1 gs) (takes a (value_of g scope b) (source_of (C b)) (form_of gs (C b)) p.2 (value_fits b gs))) fs
        code_fit (Bin (Other (Assign (SetSum s))) a b) h fs =
            let p = three (S a) (S b) (into g scope a Result) h in
            kept_fit a p.0 (updated_at (sign_of s) (T a) (C b)) (updated (sign_of s) a b p.2 (ap sorted.is_number (sign_number s)) (code_fit b p.1)) fs
        code_fit (Bin (Other (Assign (SetProduct o))) a b) h fs =
            let p = three (S a) (S b) (into g scope a Result) h in
            kept_fit a p.0 (updated_at (product_of o) (T a) (C b)) (updated (product_of o) a b p.2 (ap sorted.is_number (product_number o)) (code_fit b p.1)) fs
        code_fit (Bin (Other (Assign SetPower)) a b) h fs =
            let p = three (S a) (S b) (into g scope a Result) h in
            kept_fit a p.0 (updated_at (Host row.Pow) (T a) (C b)) (updated (Host row.Pow) a b p.2 refl (code_fit b p.1)) fs
        code_fit (Bin Join a b) h fs = let p = three (S a) (S b) [] h in two_fit fs (C a) (C b) (code_fit a p.0 fs) (code_fit b p.1 fs)
        code_fit (Bin (Add s) a b) h fs = let p = three (S a) (S b) [] h in two_fit fs (C a) (C b) (code_fit a p.0 fs) (code_fit b p.1 fs)
        code_fit (Bin (Other (Mul o)) a b) h fs = let p = three (S a) (S b) [] h in two_fit fs (C a) (C b) (code_fit a p.0 fs) (code_fit b p.1 fs)
        code_fit (Bin (Other Pow) a b) h fs = let p = three (S a) (S b) [] h in two_fit fs (C a) (C b) (code_fit a p.0 fs) (code_fit b p.1 fs)
        code_fit (Bin (Other (Compare c)) a b) h fs =
            let p = three (S a) (S b) [] h in both (code.stores fs (C a)) (code.stores fs (C b)) (code_fit a p.0 fs) (code_fit b p.1 fs)
        code_fit (Bin (Other (Match Matches)) a b) h fs = let p = three (S a) (S b) [] h in two_fit fs (C a) (E b) (code_fit a p.0 fs) (ere b fs (code_fit b p.1 fs))
        code_fit (Bin (Other (Match Differs)) a b) h fs =
            let p = three (S a) (S b) [] h in alone (stores_in fs (two (C a) (E b))) (two_fit fs (C a) (E b) (code_fit a p.0 fs) (ere b fs (code_fit b p.1 fs)))
        code_fit (Bin (Other And) a b) h fs =
            let p = three (S a) (S b) [] h in
            both (code.stores fs (C a)) _ (code_fit a p.0 fs) (alone (code.stores fs (C b) ++ []) (alone (code.stores fs (C b)) (code_fit b p.1 fs)))
        code_fit (Bin (Other Or) a b) h fs = let p = three (S a) (S b) [] h in both (code.stores fs (C a)) _ (code_fit a p.0 fs) (alone (code.stores fs (C b)) (code_fit b p.1 fs))
        code_fit (Has t y) h fs = alone (code.stores fs (C t)) (code_fit t h fs)
        code_fit (HasList t ts y) h fs =
            alone (stores_in fs (two (C t) (K ts))) (two_fit fs (C t) (K ts) (code_fit t (first (S t) (Ss ts) h) fs) (key_fit ts (second (S t) (Ss ts) h) fs))
        code_fit (Cond c a b) h fs =
            let p = three (S c) (S a) (S b) h in
            both (code.stores fs (C c)) _ (code_fit c p.0 fs) (both (code.stores fs (C a)) (code.stores fs (C b)) (code_fit a p.1 fs) (code_fit b p.2 fs))
        code_fit Get h fs = (tt, tt)
        code_fit (GetInto v) h fs = kept_fit v (first (S v) (into g scope v Text) h) (AskLine (received_at (T v))) (λ gs. (tt, received v (second (S v) (into g scope v Text) h) gs)) fs
        code_fit (GetFrom s) h fs = alone (code.stores fs (C s) ++ []) (alone (code.stores fs (C s)) (code_fit s h fs))
        code_fit (GetIntoFrom v s) h fs =
            let p = three (S v) (S s) (into g scope v Text) h in
            kept_fit v p.0 (FileLine (C s) (received_at (T v))) (λ gs. both (code.stores gs (C s)) _ (code_fit s p.1 gs) (received v p.2 gs)) fs

        pub codes_fit : (ts : Trees) → AllFit (Ss ts) → (fs : List Form) → Fit (stores_in fs (codes_of texts scope ts))
        codes_fit NoTree h fs = tt
        codes_fit (Then t ts) h fs = both (code.stores fs (C t)) _ (code_fit t (first (S t) (Ss ts) h) fs) (codes_fit ts (second (S t) (Ss ts) h) fs)

        pub key_fit : (ts : Trees) → AllFit (Ss ts) → (fs : List Form) → Fit (code.stores fs (K ts))
        key_fit NoTree h fs = tt
        key_fit (Then t NoTree) h fs = code_fit t (first (S t) [] h) fs
        key_fit (Then t (Then u ts)) h fs =
            two_fit fs (C t) (K (Then u ts)) (code_fit t (first (S t) (Ss (Then u ts)) h) fs) (key_fit (Then u ts) (second (S t) (Ss (Then u ts)) h) fs)

        -- what is kept for a place, and what is done there
        kept_fit : (t : Tree) → AllFit (S t) → (e : Code) → ((fs : List Form) → Fit (code.stores fs e)) → (fs : List Form) → Fit (code.stores fs (keeping (kept_code texts scope t) e))
        kept_fit (Index y ts) h e k fs = both (code.stores fs (K ts)) _ (key_fit ts h fs) (k (form_of fs (K ts) ∷ fs))
        kept_fit (Field t) h e k fs = both (code.stores fs (C t) ++ []) _ (alone (code.stores fs (C t)) (code_fit t h fs)) (k (a_number ∷ fs))
        kept_fit (Var y) h e k fs = k fs
        kept_fit t h e k fs = k (a_number ∷ fs)

        -- the arguments from the i-th on of the n-th function
        given_fit : (ts : Trees) (ps : List Name) (n i : ℕ) → AllFit (Ss ts) → AllFit (given g scope n i ts) → (fs : List Form) → Fit (stores_given n i fs (argument_codes texts scope ps ts))
        given_fit NoTree ps n i h k fs = fresh_fit n i ps fs
        given_fit (Then t ts) [] n i h k fs = tt
        given_fit (Then t ts) (p ∷ ps) n i h k fs =
            let a = argument_fit p t n i (λ e. value_number t (given_number n i (value_of g scope t) e (k.0 e))) fs (code_fit t (first (S t) (Ss ts) h) fs) in
            both (code.stores fs (given_code texts scope p t (C t))) _ a.fit (a.number, given_fit ts ps n (suc i) (second (S t) (Ss ts) h) k.1 fs)

        truncated_fit : (t : Tree) (plain : Code) → AllFit (S t) → (fs : List Form) → Fit (code.stores fs plain) → Fit (code.stores fs (truncated_code texts scope t plain))
        truncated_fit (Group t) plain h fs k = truncated_fit t plain h fs k
        truncated_fit (Bin (Other (Mul Divided)) a b) plain h fs k = let p = three (S a) (S b) [] h in two_fit fs (C a) (C b) (code_fit a p.0 fs) (code_fit b p.1 fs)
        truncated_fit t plain h fs k = alone (code.stores fs plain) k

        applied_fit : (f : Builtin) (ts : Trees) → AllFit (Ss ts) → AllFit (applied g scope f ts) → (fs : List Form) → Fit (code.stores fs (applied_code texts scope f ts))
        applied_fit builtin.Length NoTree h k fs = tt
        applied_fit builtin.Length (Then t NoTree) h k fs = alone (code.stores fs (C t)) (code_fit t (first (S t) [] h) fs)
        applied_fit builtin.Length (Then t (Then u ts)) h k fs = tt
        applied_fit builtin.Substr (Then s (Then t NoTree)) h k fs = let p = three (S s) (S t) [] h in two_fit fs (C s) (C t) (code_fit s p.0 fs) (code_fit t p.1 fs)
        applied_fit builtin.Substr (Then s (Then t (Then u ts))) h k fs =
            let p = three (S s) (S t) (Ss (Then u ts)) h in
            both (code.stores fs (C s)) _ (code_fit s p.0 fs) (two_fit fs (C t) (C u) (code_fit t p.1 fs) (code_fit u (first (S u) (Ss ts) p.2) fs))
        applied_fit builtin.Index (Then s (Then t ts)) h k fs = let p = three (S s) (S t) (Ss ts) h in two_fit fs (C s) (C t) (code_fit s p.0 fs) (code_fit t p.1 fs)
        applied_fit builtin.Split (Then s (Then (Var y) NoTree)) h k fs = both (code.stores fs (C s)) _ (code_fit s (first (S s) [] h) fs) tt
        applied_fit builtin.Split (Then s (Then (Var y) (Then t ts))) h k fs =
            let p = three (S s) (S t) (Ss ts) h in
            both (code.stores fs (C s)) _ (code_fit s p.0 fs) (alone (code.stores fs (E t)) (ere t fs (code_fit t p.1 fs)))
        applied_fit builtin.Sub (Then e (Then r NoTree)) h k fs =
            let p = three (S e) (S r) [] h in
            replacing_fit (E e) (C r) (Let zero_code (substituted_at false FieldTarget)) fs (ere e fs (code_fit e p.0 fs)) (code_fit r p.1) (λ gs. substituted_fit false FieldTarget (a_number ∷ gs) tt)
        applied_fit builtin.Sub (Then e (Then r (Then t ts))) h k fs =
            let p = three (S e) (S r) (Ss (Then t ts)) h in
            replacing_fit (E e) (C r) (keeping (kept_code texts scope t) (substituted_at false (T t))) fs (ere e fs (code_fit e p.0 fs)) (code_fit r p.1)
            (kept_fit t (first (S t) (Ss ts) p.2) (substituted_at false (T t)) (substituted false t k))
        applied_fit builtin.Gsub (Then e (Then r NoTree)) h k fs =
            let p = three (S e) (S r) [] h in
            replacing_fit (E e) (C r) (Let zero_code (substituted_at true FieldTarget)) fs (ere e fs (code_fit e p.0 fs)) (code_fit r p.1) (λ gs. substituted_fit true FieldTarget (a_number ∷ gs) tt)
        applied_fit builtin.Gsub (Then e (Then r (Then t ts))) h k fs =
            let p = three (S e) (S r) (Ss (Then t ts)) h in
            replacing_fit (E e) (C r) (keeping (kept_code texts scope t) (substituted_at true (T t))) fs (ere e fs (code_fit e p.0 fs)) (code_fit r p.1)
            (kept_fit t (first (S t) (Ss ts) p.2) (substituted_at true (T t)) (substituted true t k))
        applied_fit builtin.Match (Then s (Then e ts)) h k fs = let p = three (S s) (S e) (Ss ts) h in two_fit fs (C s) (E e) (code_fit s p.0 fs) (ere e fs (code_fit e p.1 fs))
        applied_fit builtin.ToLower (Then t ts) h k fs = alone (code.stores fs (C t)) (code_fit t (first (S t) (Ss ts) h) fs)
        applied_fit builtin.ToUpper (Then t ts) h k fs = alone (code.stores fs (C t)) (code_fit t (first (S t) (Ss ts) h) fs)
        applied_fit builtin.Int (Then t ts) h k fs = truncated_fit t (C t) (first (S t) (Ss ts) h) fs (code_fit t (first (S t) (Ss ts) h) fs)
        applied_fit builtin.Close (Then t ts) h k fs = alone (code.stores fs (C t) ++ []) (alone (code.stores fs (C t)) (code_fit t (first (S t) (Ss ts) h) fs))
        applied_fit builtin.Fflush (Then t ts) h k fs = alone (code.stores fs (C t) ++ []) (alone (code.stores fs (C t)) (code_fit t (first (S t) (Ss ts) h) fs))
        applied_fit f ts h k fs = tt
