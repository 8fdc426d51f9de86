-- The mid code of a script. It need not be believed: `EndsAs` says that its meaning is the script's.
use Rattle.std.specs.Prelude.{ℕ, zero, suc, ◌+◌, max, Bool, true, false, if◌then◌else◌, List, [], ◌∷◌, length, map, Option, Some, None, pos}
use Rattle.awk_text.specs.Escapes.{string_text}
use Rattle.sem_primitives.specs.Numbers.{Number as AnyNumber}
use Rattle.sem_primitives.specs.ConstantNumbers.{special_number, flag_number}
use Rattle.sem_primitives.specs.declared.sorts.Sort.TheVariants as sort
use Rattle.sem_primitives.specs.declared.constants.Special.{Special}
use Rattle.sem_primitives.specs.declared.constants.Special.TheVariants.{Fs}
use Rattle.sem_primitives.specs.declared.table.Primitive.{Primitive}
use Rattle.sem_primitives.specs.declared.table.Primitive.TheVariants as row
use Rattle.sem_primitives.specs.declared.table.Listed.TheVariants as listed
use Rattle.awk_tokens.specs.declared.reserved_words.Builtin.{Builtin}
use Rattle.awk_tokens.specs.declared.reserved_words.Builtin.TheVariants as builtin
use Rattle.awk_grammar.specs.Token.{Sign, Plus, Minus, Prefix, Not, Signed, Increment, Decrement, Product, Times, Over as Divided, Modulo, Assigning, Set as Put, SetSum, SetProduct, SetPower, Assign, Or, And as Both, Match, Matching, Matches, Differs, Compare as Compared, Mul, Pow, Number as Numeral, Quoted, Ere}
use Rattle.awk_grammar.specs.Token as token
use Rattle.awk_grammar.specs.Trees as tree
use Rattle.awk_grammar.specs.Trees.{Tree, Leaf, Length, Var, Index, Field, Group, Apply, Unary, Pre, Post, Bin, Op, Join, Add, Other, Has, HasList, Cond, GetInto, GetFrom, GetIntoFrom, Trees, NoTree, Stmt, Stmts, NoStmt, And, Item, Pattern}
use Rattle.mid_program.specs.declared.mid.Arithmetic.{Arithmetic}
use Rattle.mid_program.specs.declared.mid.Arithmetic.TheVariants as inline
use Rattle.mid_program.specs.declared.mid.Operation.{Operation}
use Rattle.mid_program.specs.declared.mid.Operation.TheVariants.{Host, Inline, AsNumber, FieldNumber}
use Rattle.sem_scripts.specs.Names.{Name, Function, Resolved, Scope, Variable, Reserved, ArrayName, same_name, function_number, function_at, variable_of, array_of, is_array}
use Rattle.sem_scripts.specs.Names as names
use Rattle.sem_scripts.specs.Steps.{constant, or_nought, comparison_of, ere_text, ere_in, is_ere}
use Rattle.sem_scripts.specs.Statements.{operands_of, with_target, destination_of, listed_of, scope_in}
use Rattle.sem_scripts.specs.Items.{top, print_record, pattern_ranges, reads_records}
use Rattle.sem_scripts.specs.Ranges.{range_count}
use Rattle.mid_program.specs.Texts.{text_place, texts_of_script}
use Rattle.mid_program.specs.Mid.{Kind, Boxed, ArrayKind, Global, Parameter, Code, Do, Over, Compare, Call, Ask, AskLine, FileLine, Replace, Number, Text, Unset, Get, Set, Array, IsOpen, Choose, Seq, Let, Bound, Codes, End, At, Fixed, Fresh, Declared, Step, Eval, Block, If, Loop, Each, Break, Continue, Next, Exit, ExitWith, Return, Mark, Steps, NoStep, Then, Routine, Program}

-- Small codes.

abbrev pub host : Primitive → Codes → Code
host p es = Do (Host p) es

abbrev pub one : Code → Codes
one a = At a End

abbrev pub two : Code → Code → Codes
two a b = At a (At b End)

abbrev pub zero_code : Code
zero_code = Number (pos 0)

abbrev pub one_code : Code
one_code = Number (pos 1)

abbrev pub number_code : AnyNumber → Code
number_code n = Number n.number

abbrev pub truth_code : Code → Code
truth_code e = Choose sort.Number e one_code zero_code

abbrev pub untruth_code : Code → Code
untruth_code e = Choose sort.Number e zero_code one_code

abbrev pub record_code : Code
record_code = host row.Field (one zero_code)

-- what was kept: once more, and for the last time
abbrev pub copied : ℕ → Code
copied i = Bound false i

abbrev pub moved : ℕ → Code
moved i = Bound true i

abbrev pub sign_of : Sign → Operation
sign_of Plus = Inline inline.Plus
sign_of Minus = Inline inline.Minus

abbrev pub product_of : Product → Operation
product_of Times = Inline inline.Times
product_of Divided = Inline inline.Over
product_of Modulo = Inline inline.Modulo

abbrev pub step_arithmetic : token.Step → Arithmetic
step_arithmetic Increment = inline.Plus
step_arithmetic Decrement = inline.Minus

abbrev pub step_of : token.Step → Operation
step_of s = Inline (step_arithmetic s)

abbrev pub special_code : Special → Code
special_code s = host row.GetSpecial (Fixed (special_number s) End)

-- all names are boxed
abbrev pub variable_code : Variable → Code
variable_code (names.Global i) = Get (Global false i)
variable_code (names.Parameter i) = Get (Parameter false i)
variable_code (Reserved s) = special_code s

-- a variable takes a value, and nothing is asked of the answer
abbrev pub store_variable_code : Variable → Code → Code
store_variable_code (names.Global i) e = Set (Global false i) e
store_variable_code (names.Parameter i) e = Set (Parameter false i) e
store_variable_code (Reserved s) e = host row.SetSpecial (Fixed (special_number s) (one e))

-- the same, and what it takes is the answer
abbrev pub set_variable_code : Variable → Code → Code
set_variable_code (names.Global i) e = Set (Global false i) e
set_variable_code (names.Parameter i) e = Set (Parameter false i) e
set_variable_code (Reserved s) e = Let e (Seq (store_variable_code (Reserved s) (copied 0)) (moved 0))

abbrev pub matching_code : Matching → Code → Code
matching_code Matches e = e
matching_code Differs e = untruth_code e

-- What takes a value, once its key or its field's number is kept.
pub data Target : Type 0 where
  ElementTarget : ArrayName → Target
  NameTarget : Variable → Target
  FieldTarget : Target

-- its value, where i others were kept after its key or its number
abbrev pub read_at : Target → ℕ → Code
read_at (ElementTarget a) i = host row.Elem (two (Array a) (copied i))
read_at (NameTarget x) i = variable_code x
read_at FieldTarget i = host row.Field (one (copied i))

-- it takes a value, which is the last use of what was kept
abbrev pub store_at : Target → ℕ → Code → Code
store_at (ElementTarget a) i e = host row.SetElem (At (Array a) (two (moved i) e))
store_at (NameTarget x) i e = store_variable_code x e
store_at FieldTarget i e = host row.SetField (two (moved i) e)

-- the same, and what it takes is the answer
abbrev pub stored_at : Target → ℕ → Code → Code
stored_at (ElementTarget a) i e = Let e (Seq (store_at (ElementTarget a) (suc i) (copied 0)) (moved 0))
stored_at (NameTarget x) i e = set_variable_code x e
stored_at FieldTarget i e = Let e (Seq (store_at FieldTarget (suc i) (copied 0)) (moved 0))

abbrev pub stepped_at : token.Step → Target → Code
stepped_at s t = stored_at t 0 (Do (step_of s) (two (read_at t 0) one_code))

-- the number before the step is the answer
abbrev pub step_after_at : token.Step → Target → Code
step_after_at s t = Let (Do AsNumber (one (read_at t 0))) (Let (Do (step_of s) (two (copied 0) one_code)) (Seq (store_at t 2 (moved 0)) (moved 1)))

-- right side, old value, result
abbrev pub updated_at : Operation → Target → Code → Code
updated_at o t right = Let right (stored_at t 1 (Do o (two (read_at t 1) (moved 0))))

abbrev pub assigned_at : Assigning → Target → Code → Code
assigned_at Put t right = stored_at t 0 right
assigned_at (SetSum s) t right = updated_at (sign_of s) t right
assigned_at (SetProduct p) t right = updated_at (product_of p) t right
assigned_at SetPower t right = updated_at (Host row.Pow) t right

-- a text that was read is stored
abbrev pub received_at : Target → Code
received_at t = store_at t 1 (moved 0)

-- how many answers are kept for a target
abbrev pub kept_at : Target → ℕ
kept_at (ElementTarget a) = 1
kept_at (NameTarget x) = 0
kept_at FieldTarget = 1

-- expression and replacement were kept before the target
abbrev pub substituted_at : Bool → Target → Code
substituted_at all t = Replace all (At (moved (suc (kept_at t))) (At (moved (kept_at t)) (At (read_at t 0) End))) (store_at t 1 (moved 0))

-- what is kept, if anything is, before what is done with it
abbrev pub keeping : Option Code → Code → Code
keeping (Some e) body = Let e body
keeping None body = body

-- Operators on operands.

abbrev pub prefixed : Prefix → Code → Code
prefixed Not e = untruth_code e
prefixed (Signed Plus) e = Do AsNumber (one e)
prefixed (Signed Minus) e = Do (Inline inline.Minus) (two zero_code e)

-- all but assignments
abbrev pub combined : Op → Code → Code → Code
combined Join a b = host row.Concat (two a b)
combined (Add s) a b = Do (sign_of s) (two a b)
combined (Other (Mul p)) a b = Do (product_of p) (two a b)
combined (Other Pow) a b = host row.Pow (two a b)
combined (Other (Compared c)) a b = Compare (comparison_of c) a b
combined (Other (Match m)) a b = matching_code m (host row.Matches (two a b))
combined (Other Both) a b = Choose sort.Number a (truth_code b) zero_code
combined (Other Or) a b = Choose sort.Number a one_code (truth_code b)
combined (Other (Assign g)) a b = b

-- the ERE that the right operand is for an operator, if it is one
abbrev pub ere_for : Op → Tree → List (List ℕ)
ere_for (Other (Match m)) t = ere_in t
ere_for _ t = []

-- An ERE token as an operand is its text.
abbrev pub ere_code : List (List ℕ) → List (List ℕ) → Code → Code
ere_code texts [] other = other
ere_code texts (t ∷ rest) other = Text (text_place texts t)

abbrev pub fresh_codes : List Name → Codes
fresh_codes [] = End
fresh_codes (p ∷ ps) = if p.is_array then Fresh (fresh_codes ps) else At Unset (fresh_codes ps)

module _ (texts : List (List ℕ)) (scope : Scope) where
  abbrev pub literal : List ℕ → Code
  literal t = Text (text_place texts t)

  abbrev pub array_code : List ℕ → Code
  array_code x = Array (array_of scope x)

  abbrev pub passed_code : Name → List ℕ → Code
  passed_code p x = if p.is_array then array_code x else if is_array scope x then Unset else variable_code (variable_of scope x)

  -- an argument for a parameter: a bare name, or what has this code
  abbrev pub given_code : Name → Tree → Code → Code
  given_code p (Var x) other = passed_code p x
  given_code p t other = other

  abbrev pub target_in : Tree → Target
  target_in (Index x ts) = ElementTarget (array_of scope x)
  target_in (Var x) = NameTarget (variable_of scope x)
  target_in _ = FieldTarget

  abbrev pub replacing_code : Code → Code → Code → Code
  replacing_code ere replacement body = Let ere (Let replacement body)

  unfoldable mutual
    pub code_of : Tree → Code
    code_of (Leaf (Numeral text)) = number_code (or_nought (constant text))
    code_of (Leaf (Quoted text)) = literal (string_text text)
    code_of (Leaf (Ere text)) = host row.Matches (two record_code (literal (ere_text text)))
    code_of Length = host row.Length (one record_code)
    code_of (Var x) = variable_code (variable_of scope x)
    code_of (Index x ts) = host row.Elem (two (array_code x) (key_code ts))
    code_of (Field t) = host row.Field (one (code_of t))
    code_of (Group t) = code_of t
    code_of (tree.Call f ts) = Call (function_number scope.script f)
        (argument_codes (function_at scope.script.functions (function_number scope.script f)).parameters ts)
    code_of (Apply builtin.Sprintf ts) = Over listed.Sprintf (codes_of ts)
    code_of (Apply f ts) = applied_code f ts
    code_of (Unary p t) = prefixed p (code_of t)
    code_of (Pre s t) = keeping (kept_code t) (stepped_at s (target_in t))
    code_of (Post s t) = keeping (kept_code t) (step_after_at s (target_in t))
    code_of (Bin (Other (Assign g)) a b) = keeping (kept_code a) (assigned_at g (target_in a) (code_of b))
    code_of (Bin op a b) = combined op (code_of a) (ere_code texts (ere_for op b) (code_of b))
    code_of (Has t x) = host row.Has (two (array_code x) (code_of t))
    code_of (HasList t ts x) = host row.Has (two (array_code x) (host row.Join (two (code_of t) (key_code ts))))
    code_of (Cond c a b) = Choose sort.Value (code_of c) (code_of a) (code_of b)
    code_of tree.Get = Ask
    code_of (GetInto v) = keeping (kept_code v) (AskLine (received_at (target_in v)))
    code_of (GetFrom s) = Do AsNumber (one (host row.GetlineFile (one (code_of s))))
    code_of (GetIntoFrom v s) = keeping (kept_code v) (FileLine (code_of s) (received_at (target_in v)))

    pub codes_of : Trees → Codes
    codes_of NoTree = End
    codes_of (tree.Then t ts) = At (code_of t) (codes_of ts)

    -- subscripts: all are evaluated before the first is joined
    pub key_code : Trees → Code
    key_code NoTree = Unset
    key_code (tree.Then t NoTree) = code_of t
    key_code (tree.Then t (tree.Then u ts)) = host row.Join (two (code_of t) (key_code (tree.Then u ts)))

    -- what is kept for a place
    pub kept_code : Tree → Option Code
    kept_code (Index x ts) = Some (key_code ts)
    kept_code (Field t) = Some (Do FieldNumber (one (code_of t)))
    kept_code (Var x) = None
    kept_code t = Some zero_code

    pub argument_codes : List Name → Trees → Codes
    argument_codes ps NoTree = fresh_codes ps
    argument_codes [] (tree.Then t ts) = End
    argument_codes (p ∷ ps) (tree.Then t ts) = At (given_code p t (code_of t)) (argument_codes ps ts)

    -- plain is the operand's code elsewhere
    pub truncated_code : Tree → Code → Code
    truncated_code (Group t) plain = truncated_code t plain
    truncated_code (Bin (Other (Mul Divided)) a b) plain = Do (Inline inline.Truncated) (two (code_of a) (code_of b))
    truncated_code t plain = host row.IntOf (one plain)

    pub applied_code : Builtin → Trees → Code
    applied_code builtin.Length (tree.Then t NoTree) = host row.Length (one (code_of t))
    applied_code builtin.Length ts = host row.Length (one record_code)
    applied_code builtin.Substr (tree.Then s (tree.Then from NoTree)) = host row.SubstrFrom (two (code_of s) (code_of from))
    applied_code builtin.Substr (tree.Then s (tree.Then from (tree.Then count ts))) = host row.Substr (At (code_of s) (two (code_of from) (code_of count)))
    applied_code builtin.Index (tree.Then s (tree.Then t ts)) = host row.Index (two (code_of s) (code_of t))
    applied_code builtin.Split (tree.Then s (tree.Then (Var a) NoTree)) = host row.Split
        (At (code_of s) (At (array_code a) (At (special_code Fs) (Fixed 0 End))))
    applied_code builtin.Split (tree.Then s (tree.Then (Var a) (tree.Then t ts))) = host row.Split
        (At (code_of s) (At (array_code a) (At (ere_code texts (ere_in t) (code_of t)) (Fixed (flag_number (is_ere (ere_in t))) End))))
    applied_code builtin.Sub (tree.Then e (tree.Then r NoTree)) = replacing_code (ere_code texts (ere_in e) (code_of e)) (code_of r)
        (Let zero_code (substituted_at false FieldTarget))
    applied_code builtin.Sub (tree.Then e (tree.Then r (tree.Then t ts))) = replacing_code (ere_code texts (ere_in e) (code_of e)) (code_of r)
        (keeping (kept_code t) (substituted_at false (target_in t)))
    applied_code builtin.Gsub (tree.Then e (tree.Then r NoTree)) = replacing_code (ere_code texts (ere_in e) (code_of e)) (code_of r)
        (Let zero_code (substituted_at true FieldTarget))
    applied_code builtin.Gsub (tree.Then e (tree.Then r (tree.Then t ts))) = replacing_code (ere_code texts (ere_in e) (code_of e)) (code_of r)
        (keeping (kept_code t) (substituted_at true (target_in t)))
    applied_code builtin.Match (tree.Then s (tree.Then e ts)) = host row.Match (two (code_of s) (ere_code texts (ere_in e) (code_of e)))
    applied_code builtin.ToLower (tree.Then t ts) = host row.Lower (one (code_of t))
    applied_code builtin.ToUpper (tree.Then t ts) = host row.Upper (one (code_of t))
    applied_code builtin.Int (tree.Then t ts) = truncated_code t (code_of t)
    applied_code builtin.Close (tree.Then t ts) = Do AsNumber (one (host row.Close (one (code_of t))))
    applied_code builtin.Fflush NoTree = zero_code
    applied_code builtin.Fflush (tree.Then t ts) = Do AsNumber (one (host row.Flush (one (code_of t))))
    applied_code f ts = Unset

  -- Statements.

  abbrev pub plain_step : tree.Plain → Step
  plain_step (tree.Eval t) = Eval (code_of t)
  plain_step (tree.Put p args target) = Eval (Over (listed_of p (destination_of target)) (codes_of (with_target (operands_of args) target)))
  plain_step (tree.Delete a ts) = Eval (host row.Delete (two (array_code a) (key_code ts)))
  plain_step (tree.Clear a) = Eval (host row.Clear (one (array_code a)))

  abbrev pub maybe_step : Option tree.Plain → Step
  maybe_step None = Block NoStep
  maybe_step (Some p) = plain_step p

  abbrev pub test_code : Option Tree → Code
  test_code None = one_code
  test_code (Some t) = code_of t

  unfoldable mutual
    pub step_code : Stmt → Step
    step_code (tree.Block ss) = Block (steps_code ss)
    step_code tree.Empty = Block NoStep
    step_code (tree.Simple p) = plain_step p
    step_code (tree.If c s) = If (code_of c) (step_code s) (Block NoStep)
    step_code (tree.IfElse c s t) = If (code_of c) (step_code s) (step_code t)
    step_code (tree.While c s) = Loop true (code_of c) (step_code s) (Block NoStep)
    step_code (tree.Do s c) = Loop false (code_of c) (step_code s) (Block NoStep)
    step_code (tree.For i c p s) = Block (Then (maybe_step i) (Then (Loop true (test_code c) (step_code s) (maybe_step p)) NoStep))
    step_code (tree.ForIn k a s) = Each (array_of scope a) (store_variable_code (variable_of scope k) (moved 0)) (step_code s)
    step_code (tree.Jumping tree.Break) = Break
    step_code (tree.Jumping tree.Continue) = Continue
    step_code (tree.Jumping tree.Next) = Next
    step_code (tree.Jumping tree.NextFile) = Block (Then (Eval (host row.NextFile End)) (Then Next NoStep))
    step_code (tree.Leave tree.Exit None) = Exit
    step_code (tree.Leave tree.Exit (Some t)) = ExitWith (code_of t)
    step_code (tree.Leave tree.Return None) = Return Unset
    step_code (tree.Leave tree.Return (Some t)) = Return (code_of t)

    pub steps_code : Stmts → Steps
    steps_code NoStmt = NoStep
    steps_code (And s ss) = Then (step_code s) (steps_code ss)

  -- Items.

  -- an action where its pattern is met, which is the i-th range if it is one
  abbrev pub where_code : ℕ → Pattern → Step → Step
  where_code i (tree.One t) action = If (code_of t) action (Block NoStep)
  where_code i (tree.Between t u) action =
      Block (Then (If (IsOpen i) (Block NoStep) (If (code_of t) (Mark i true) (Block NoStep)))
      (Then (If (IsOpen i) (Block (Then (If (code_of u) (Mark i false) (Block NoStep)) (Then action NoStep))) (Block NoStep)) NoStep))

  abbrev pub items_code : ℕ → List Item → Steps
  items_code i [] = NoStep
  items_code i (tree.Always ss ∷ items) = Then (Block (steps_code ss)) (items_code i items)
  items_code i (tree.When p ss ∷ items) = Then (where_code i p (Block (steps_code ss))) (items_code (pattern_ranges p + i) items)
  items_code i (tree.Lone p ∷ items) = Then (where_code i p (Block (steps_code print_record))) (items_code (pattern_ranges p + i) items)
  items_code i (_ ∷ items) = items_code i items

  abbrev pub begin_code : List Item → Steps
  begin_code [] = NoStep
  begin_code (tree.Begin ss ∷ items) = Then (Block (steps_code ss)) (begin_code items)
  begin_code (_ ∷ items) = begin_code items

  abbrev pub end_code : List Item → Steps
  end_code [] = NoStep
  end_code (tree.End ss ∷ items) = Then (Block (steps_code ss)) (end_code items)
  end_code (_ ∷ items) = end_code items

abbrev pub kind_of : Name → Kind
kind_of p = if p.is_array then ArrayKind else Boxed

abbrev pub declared_code : Name → Declared
declared_code p = record { name = p.name; kind = kind_of p; mixed = false }

abbrev pub routine_code : List (List ℕ) → Resolved → Function → Routine
routine_code texts script f = record { name = f.name; parameters = map kind_of f.parameters; body = steps_code texts (scope_in script f) f.body }

-- as many places as a function has parameters at most

abbrev pub most_parameters : List Routine → ℕ
most_parameters [] = 0
most_parameters (r ∷ rs) = max (length r.parameters) (most_parameters rs)

-- at no place does a global lend its value
abbrev pub none_lend : ℕ → List (Option ℕ)
none_lend zero = []
none_lend (suc n) = None ∷ none_lend n

abbrev pub program_with : List (List ℕ) → Resolved → Program
program_with texts script = record {
  texts = texts;
  lenders = none_lend (most_parameters (map (routine_code texts script) script.functions));
  globals = map declared_code script.globals;
  routines = map (routine_code texts script) script.functions;
  ranges = range_count script.items;
  begin = begin_code texts (top script) script.items;
  reads = reads_records script.items;
  items = items_code texts (top script) 0 script.items;
  end = end_code texts (top script) script.items;
}

-- the mid code of a script
abbrev pub program_of : Resolved → Program
program_of script = program_with (texts_of_script script) script
