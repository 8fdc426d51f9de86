-- The meaning of expressions, by cases on the script's tree (POSIX.1-2017 awk, "Expressions in awk", "Functions"). Operands are evaluated from left
-- to right; once all of them are, those that an operation converts are converted, in the same order.
-- A script's tree is well formed, and its names have no clash: of other trees nothing is said.
use Rattle.std.specs.Prelude.{ℕ, zero, suc, Bool, true, false, not, if◌then◌else◌, List, [], ◌∷◌}
use Rattle.awk_text.specs.Escapes.{string_text}
use Rattle.awk_values.specs.Operators.{difference, truncated_quotient}
use Rattle.awk_values.specs.Values.{truth_of_value}
use Rattle.awk_values.specs.declared.value.Value.{Value}
use Rattle.awk_values.specs.declared.value.Value.TheVariants as value
use Rattle.sem_primitives.specs.declared.constants.Special.TheVariants.{Fs}
use Rattle.sem_primitives.specs.declared.answers.InputAnswer.{InputAnswer}
use Rattle.sem_primitives.specs.declared.answers.InputAnswer.TheVariants as input
use Rattle.sem_primitives.specs.declared.table.Primitive.TheVariants as row
use Rattle.sem_primitives.specs.declared.table.Listed.TheVariants as listed
use Rattle.awk_tokens.specs.declared.reserved_words.Builtin.{Builtin}
use Rattle.awk_tokens.specs.declared.reserved_words.Builtin.TheVariants as builtin
use Rattle.awk_grammar.specs.Token.{Plus, Minus, Not, Signed, Set, SetSum, SetProduct, SetPower, Assign, Or, And, Match, Matching, Matches, Differs, Compare, Mul, Over, Pow, Number, Quoted, Ere}
use Rattle.awk_grammar.specs.Trees.{Tree, Leaf, Length, Var, Index, Field, Group, Call, Apply, Unary, Pre, Post, Bin, Join, Add, Other, Has, HasList, Cond, Get, GetInto, GetFrom, GetIntoFrom, Trees, NoTree, Then}
use Rattle.sem_scripts.specs.Names.{Name, Scope, function_number, function_at, variable_of, array_of, is_array}
use Rattle.sem_scripts.specs.ScriptState.{Local, Scalar, Array, OutOfTurns, Execution, ◌>>=◌, ◌>>◌, give, stop, change, settled, call, call_listed, asks, spend, with_global}
use Rattle.sem_scripts.specs.Steps.{constant, or_nought, given_value, numeric, zero_number, one_number, truth_value, number_in, arithmetic, sign_operator, product_operator, power_operator, step_operator, computed, comparison_of, compared, array_number, read_variable, field_checked, Place, Named, Element, FieldAt, read_place, store_place, stored, ere_text, ere_in, ere_or, is_ere, input_number, stream_number, received, fresh_all, updated, substituted}

-- what a call of a function does, by its number
abbrev pub Calls : Type 0
Calls = ℕ → List Local → Execution Value

-- the assignment of the command line that is next
abbrev pub assign_pending : Execution (Unit {0})
assign_pending = do i ← call row.PendingName tt; v ← call row.PendingValue tt; change (with_global i v)

-- Reading the main input: assignments of the command line come first, of which each costs a turn. At most n of them are left to the script.

abbrev pub unless_pending : {A : Type 0} → Execution A → (InputAnswer → Execution A) → InputAnswer → Execution A
unless_pending assign go input.Pending = assign
unless_pending assign go answer = go answer

unfoldable pub asked : ℕ → Execution InputAnswer → Execution InputAnswer
asked zero ask = ask >>= unless_pending (stop OutOfTurns) give
asked (suc n) ask = ask >>= unless_pending (spend >> assign_pending >> asked n ask) give

abbrev pub matched : Matching → Bool → Bool
matched Matches b = b
matched Differs b = not b

-- an array passes nothing where a value is wanted that is never used
abbrev pub name_passed : Scope → Name → List ℕ → Execution Local
name_passed scope p x =
    if p.is_array then (array_number (array_of scope x) >>= λ i. give (Array i)) else
    if is_array scope x then give (Scalar value.Uninit) else (read_variable (variable_of scope x) >>= λ v. give (Scalar v))

module _ (scope : Scope) (n : ℕ) (calls : Calls) where
  unfoldable mutual
    pub value_of : Tree → Execution Value
    value_of (Leaf (Number text)) = give (numeric (or_nought (constant text)))
    value_of (Leaf (Quoted text)) = give (value.Text (string_text text))
    value_of (Leaf (Ere text)) = do
      x ← call row.Field (zero_number, tt)
      b ← call row.Matches (x, (value.Text (ere_text text), tt))
      give (truth_value b)
    value_of Length = do x ← call row.Field (zero_number, tt); m ← call row.Length (x, tt); give (numeric m)
    value_of (Var x) = read_variable (variable_of scope x)
    value_of (Index x ts) = do i ← array_number (array_of scope x); key ← key_of ts; call row.Elem (i, (key, tt))
    value_of (Field t) = do x ← value_of t; m ← number_in x; call row.Field (m, tt)
    value_of (Group t) = value_of t
    value_of (Call f ts) = do
      locals ← passed (function_at scope.script.functions (function_number scope.script f)).parameters ts
      u ← spend
      calls (function_number scope.script f) locals
    value_of (Apply builtin.Sprintf ts) = values_of ts >>= λ vs. call_listed listed.Sprintf vs
    value_of (Apply f ts) = applied f ts
    value_of (Unary Not t) = do x ← value_of t; give (truth_value (not (truth_of_value x)))
    value_of (Unary (Signed Plus) t) = do x ← value_of t; m ← number_in x; give (numeric m)
    value_of (Unary (Signed Minus) t) = do x ← value_of t; m ← number_in x; result ← arithmetic difference zero_number m; give (numeric result)
    value_of (Pre s t) = do
      place ← place_of t
      old ← read_place place
      m ← number_in old
      result ← step_operator s m one_number
      stored place (numeric result)
    value_of (Post s t) = do
      place ← place_of t
      old ← read_place place
      m ← number_in old
      result ← step_operator s m one_number
      u ← store_place place (numeric result)
      give (numeric m)
    value_of (Bin Join a b) = do x ← value_of a; y ← value_of b; call row.Concat (x, (y, tt))
    value_of (Bin (Add s) a b) = do x ← value_of a; y ← value_of b; computed (sign_operator s) x y
    value_of (Bin (Other (Mul p)) a b) = do x ← value_of a; y ← value_of b; computed (product_operator p) x y
    value_of (Bin (Other Pow) a b) = do x ← value_of a; y ← value_of b; computed power_operator x y
    value_of (Bin (Other (Compare c)) a b) = do x ← value_of a; y ← value_of b; truth ← compared (comparison_of c) x y; give (truth_value truth)
    value_of (Bin (Other (Match m)) a b) = do
      x ← value_of a
      ere ← ere_or (ere_in b) (value_of b)
      found ← call row.Matches (x, (ere, tt))
      give (truth_value (matched m found))
    value_of (Bin (Other And) a b) = do
      x ← value_of a
      if truth_of_value x then (value_of b >>= λ y. give (truth_value (truth_of_value y))) else give (truth_value false)
    value_of (Bin (Other Or) a b) = do
      x ← value_of a
      if truth_of_value x then give (truth_value true) else (value_of b >>= λ y. give (truth_value (truth_of_value y)))
    value_of (Bin (Other (Assign Set)) a b) = do place ← place_of a; x ← value_of b; stored place x
    value_of (Bin (Other (Assign (SetSum s))) a b) = updated (sign_operator s) (place_of a) (value_of b)
    value_of (Bin (Other (Assign (SetProduct p))) a b) = updated (product_operator p) (place_of a) (value_of b)
    value_of (Bin (Other (Assign SetPower)) a b) = updated power_operator (place_of a) (value_of b)
    value_of (Has t x) = do i ← array_number (array_of scope x); key ← value_of t; b ← call row.Has (i, (key, tt)); give (truth_value b)
    value_of (HasList t ts x) = do
      i ← array_number (array_of scope x)
      first ← value_of t
      rest ← key_of ts
      key ← call row.Join (first, (rest, tt))
      b ← call row.Has (i, (key, tt))
      give (truth_value b)
    value_of (Cond c a b) = do x ← value_of c; if truth_of_value x then value_of a else value_of b
    value_of Get = asked n (asks row.Getline tt) >>= λ answer. give (numeric (input_number answer))
    value_of (GetInto v) = do place ← place_of v; answer ← asked n (asks row.GetlineVar tt); received place answer
    value_of (GetFrom s) = do file ← value_of s; answer ← call row.GetlineFile (file, tt); give (numeric (input_number answer))
    value_of (GetIntoFrom v s) = do place ← place_of v; file ← value_of s; answer ← call row.GetlineVarFile (file, tt); received place answer

    pub values_of : Trees → Execution (List Value)
    values_of NoTree = give []
    values_of (Then t ts) = do v ← value_of t; vs ← values_of ts; give (v ∷ vs)

    -- subscripts: all are evaluated, then joined with SUBSEP
    pub key_of : Trees → Execution Value
    key_of NoTree = give value.Uninit
    key_of (Then t NoTree) = value_of t
    key_of (Then t (Then u ts)) = do first ← value_of t; rest ← key_of (Then u ts); call row.Join (first, (rest, tt))

    pub place_of : Tree → Execution Place
    place_of (Index x ts) = key_of ts >>= λ key. give (Element (array_of scope x) key)
    place_of (Field t) = do x ← value_of t; m ← number_in x; checked ← settled (field_checked m); give (FieldAt checked)
    place_of (Var x) = give (Named (variable_of scope x))
    -- what is no place stands where one is wanted in no well-formed tree
    place_of _ = give (FieldAt zero_number)

    -- arguments for parameters: an array by its number, a value, and for what is missing something fresh
    pub passed : List Name → Trees → Execution (List Local)
    passed ps NoTree = fresh_all ps
    passed [] (Then t ts) = give []
    passed (p ∷ ps) (Then (Var x) ts) = do l ← name_passed scope p x; ls ← passed ps ts; give (l ∷ ls)
    passed (p ∷ ps) (Then t ts) = do x ← value_of t; ls ← passed ps ts; give (given_value p x ∷ ls)

    -- `int` of a quotient, parentheses aside, is the truncated quotient; plain is what the operand means elsewhere
    pub truncated_of : Tree → Execution Value → Execution Value
    truncated_of (Group t) plain = truncated_of t plain
    truncated_of (Bin (Other (Mul Over)) a b) plain = do x ← value_of a; y ← value_of b; computed (arithmetic truncated_quotient) x y
    truncated_of t plain = do x ← plain; m ← call row.IntOf (x, tt); give (numeric m)

    -- built-in functions
    pub applied : Builtin → Trees → Execution Value
    applied builtin.Length (Then t NoTree) = do x ← value_of t; m ← call row.Length (x, tt); give (numeric m)
    applied builtin.Length ts = do x ← call row.Field (zero_number, tt); m ← call row.Length (x, tt); give (numeric m)
    applied builtin.Substr (Then s (Then from NoTree)) = do x ← value_of s; y ← value_of from; m ← number_in y; call row.SubstrFrom (x, (m, tt))
    applied builtin.Substr (Then s (Then from (Then count ts))) = do
      x ← value_of s
      y ← value_of from
      z ← value_of count
      m ← number_in y
      l ← number_in z
      call row.Substr (x, (m, (l, tt)))
    applied builtin.Index (Then s (Then t ts)) = do x ← value_of s; y ← value_of t; m ← call row.Index (x, (y, tt)); give (numeric m)
    applied builtin.Split (Then s (Then (Var a) NoTree)) = do
      x ← value_of s
      i ← array_number (array_of scope a)
      separator ← call row.GetSpecial (Fs, tt)
      m ← call row.Split (x, (i, (separator, (false, tt))))
      give (numeric m)
    applied builtin.Split (Then s (Then (Var a) (Then t ts))) = do
      x ← value_of s
      i ← array_number (array_of scope a)
      separator ← ere_or (ere_in t) (value_of t)
      m ← call row.Split (x, (i, (separator, (is_ere (ere_in t), tt))))
      give (numeric m)
    applied builtin.Sub (Then e (Then r NoTree)) = substituted false (ere_or (ere_in e) (value_of e)) (value_of r) (give (FieldAt zero_number))
    applied builtin.Sub (Then e (Then r (Then t ts))) = substituted false (ere_or (ere_in e) (value_of e)) (value_of r) (place_of t)
    applied builtin.Gsub (Then e (Then r NoTree)) = substituted true (ere_or (ere_in e) (value_of e)) (value_of r) (give (FieldAt zero_number))
    applied builtin.Gsub (Then e (Then r (Then t ts))) = substituted true (ere_or (ere_in e) (value_of e)) (value_of r) (place_of t)
    applied builtin.Match (Then s (Then e ts)) = do
      x ← value_of s
      ere ← ere_or (ere_in e) (value_of e)
      m ← call row.Match (x, (ere, tt))
      give (numeric m)
    applied builtin.ToLower (Then t ts) = value_of t >>= λ x. call row.Lower (x, tt)
    applied builtin.ToUpper (Then t ts) = value_of t >>= λ x. call row.Upper (x, tt)
    applied builtin.Int (Then t ts) = truncated_of t (value_of t)
    applied builtin.Close (Then t ts) = do x ← value_of t; answer ← call row.Close (x, tt); give (numeric (stream_number answer))
    applied builtin.Fflush NoTree = give (numeric zero_number)
    applied builtin.Fflush (Then t ts) = do x ← value_of t; answer ← call row.Flush (x, tt); give (numeric (stream_number answer))
    -- other arguments stand in no well-formed tree, and `sprintf` is met above
    applied f ts = give value.Uninit
