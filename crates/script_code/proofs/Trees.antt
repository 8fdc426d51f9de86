-- The code of a tree is well sorted, and uses nothing of what was kept before it.
use Rattle.std.proofs.Common.{◌≡◌, ℕ, ◌+◌, ◌^◌, Bool, true, false, T, List, [], ◌∷◌, refl, sym, true≢false}
use Rattle.std.proofs.lemmas.Bool.{and_parts}
use Rattle.std.specs.Prelude.{nat_le, unsigned_abs, map}
use Rattle.std.specs.List.{list_all}
use Rattle.awk_text.specs.Escapes.{string_text}
use Rattle.sem_primitives.specs.declared.constants.Special.TheVariants.{Fs}
use Rattle.sem_primitives.specs.declared.sorts.Sort.TheVariants as sort
use Rattle.sem_primitives.specs.declared.table.Primitive.TheVariants as row
use Rattle.sem_primitives.specs.declared.table.Listed.TheVariants as listed
use Rattle.awk_tokens.specs.declared.reserved_words.Builtin.{Builtin}
use Rattle.awk_tokens.specs.declared.reserved_words.Builtin.TheVariants as builtin
use Rattle.awk_grammar.specs.Token.{Plus, Minus, Not, Signed, Over as Divided, Set as Put, SetSum, SetProduct, SetPower, Assign, Or, And as Both, Match, Compare as Compared, Mul, Pow, Number as Numeral, Quoted, Ere}
use Rattle.awk_grammar.specs.Trees as tree
use Rattle.awk_grammar.specs.Tree.{IsSome}
use Rattle.awk_grammar.specs.Trees.{count, Tree, Leaf, Length, Var, Index, Field, Group, Apply, Unary, Pre, Post, Bin, Join, Add, Other, Has, HasList, Cond, GetInto, GetFrom, GetIntoFrom, Trees, NoTree}
use Rattle.mid_program.specs.declared.mid.Arithmetic.TheVariants as inline
use Rattle.mid_program.specs.declared.mid.Operation.{Operation}
use Rattle.mid_program.specs.declared.mid.Operation.TheVariants.{Host, Inline, AsNumber, FieldNumber}
use Rattle.sem_scripts.specs.Names.{Name, Scope, variable_of, array_of, function_number, function_at, is_array}
use Rattle.sem_scripts.specs.Steps.{constant as number_of_constant, or_nought, comparison_of, ere_text, ere_in, is_ere}
use Rattle.mid_program.specs.Texts.{text_place}
use Rattle.mid_program.specs.Mid.{Code, Do, Over, AskLine, FileLine, Text, Let, Codes, Form, a_number, form_of}
use Rattle.mid_program.specs.Sorted.{Context}
use Rattle.mid_program.specs.Translation.{host, one, two, zero_code, one_code, record_code, truth_code, special_code, sign_of, product_of, ere_code, FieldTarget, target_in, received_at, stored_at, stepped_at, step_after_at, updated_at, substituted_at, keeping, replacing_code, kind_of, code_of, codes_of, key_code, kept_code, argument_codes, truncated_code, applied_code}
use Rattle.script_code.specs.Fits.{is_scalar}
use Rattle.script_code.proofs.Good.{Good, is_within, tested_value, tested_number, one_operand, two_operands, three_operands, answer_number_good, element_good, has_good, split_good, compare_good, number_good, text_good, ask_good, special_good, variable_good, zero_good, one_good, record_good, choose_good, truth_good, untruth_good, matching_good, ere_good}
use Rattle.script_code.proofs.Ways.{OnNumbers, let_good, element_way, field_way, replacing_good}
use Rattle.script_code.proofs.Variables.{replacing_variable}
use Rattle.script_code.proofs.Operands.{Values, no_values, more_values, Handed, none_handed, all_fresh, name_handed, value_handed, call_good, over_good}
use Rattle.script_code.proofs.Places.{Agrees, AtPlace, on_inline, on_sign, on_product, on_power, stored_well, stepped_well, step_after_well, updated_well, line_well, file_line_well}
use Rattle.script_code.proofs.Sound.{Sound, AllSound, Passed, Applied}

from_T : (b : Bool) → T b → b ≡ true
from_T true t = refl
from_T false t = absurd t

module _ (c : Context) (texts : List (List ℕ)) (scope : Scope) (agrees : Agrees c texts scope) where
  abbrev code : Tree → Code
  code t = code_of texts scope t

  abbrev S : Tree → Type 0
  S t = Sound texts scope t

  -- a text of the script
  literal_good : (t : List ℕ) → list_all (is_within texts) (t ∷ []) ≡ true → (fs : List Form) → Good c fs (Text (text_place texts t))
  literal_good t h fs = text_good c fs (text_place texts t) (rw agrees.text (and_parts (is_within texts t) true h).0)

  -- the text of an ERE token stands among the texts
  ere_within : (t : Tree) → S t → list_all (is_within texts) (ere_in t) ≡ true
  ere_within (Leaf (Ere x)) s = s
  ere_within (Leaf (Numeral x)) s = refl
  ere_within (Leaf (Quoted x)) s = refl
  ere_within (Group t) s = ere_within t s
  ere_within t s = refl

  ere_or_good : (t : Tree) → S t → (e : Code) (fs : List Form) → Good c fs e → Good c fs (ere_code texts (ere_in t) e)
  ere_or_good t s e fs g = ere_good c fs texts (ere_in t) e agrees.text (ere_within t s) g

  numbers_good : (o : Operation) → OnNumbers o → (a b : Code) (fs : List Form) → Good c fs a → Good c fs b → Good c fs (Do o (two a b))
  numbers_good o n a b fs g h = two_operands c fs o sort.Number sort.Number a b n.here n.takes n.gives tested_number tested_number g h

  replaced_record : (all : Bool) (e r : Code) (fs : List Form) → Good c fs e → ((gs : List Form) → Good c gs r) → Good c fs (replacing_code texts scope e r (Let zero_code (substituted_at all FieldTarget)))
  unfolding field_way
  replaced_record all e r fs g h = let E = form_of fs e in replacing_good c (field_way c) all fs e r zero_code g (h (E ∷ fs)) (zero_good c (form_of (E ∷ fs) r ∷ E ∷ fs))

  sprintf_good : (es : Codes) (n : ℕ) (fs : List Form) → Values c fs es n → nat_le 1 n ≡ true → Good c fs (Over listed.Sprintf es)
  sprintf_good es n fs v e = record { tested = refl; fine = over_good c fs listed.Sprintf es n v e; apart = v.apart }

  mutual
    unfolding element_way field_way code_of codes_of key_code kept_code argument_codes truncated_code applied_code

    pub code_good : (t : Tree) → S t → (fs : List Form) → Good c fs (code t)
    code_good (Leaf (Numeral t)) s fs = let n = or_nought (number_of_constant t) in number_good c fs n.number (from_T (nat_le (unsigned_abs n.number) (2 ^ 53)) n.in_range)
    code_good (Leaf (Quoted t)) s fs = literal_good (string_text t) s fs
    code_good (Leaf (Ere t)) s fs = two_operands c fs (Host row.Matches) sort.Value sort.Value record_code (Text (text_place texts (ere_text t))) refl refl refl tested_value tested_value (record_good c fs) (literal_good (ere_text t) s fs)
    code_good Length s fs = one_operand c fs (Host row.Length) sort.Value record_code refl refl refl tested_value (record_good c fs)
    code_good (Var x) s fs = variable_good c fs (variable_of scope x) (agrees.scalar x s)
    code_good (Index x ts) s fs = element_good c fs (array_of scope x) (key_code texts scope ts) (agrees.array x s.0) (key_good ts s.1 s.2 fs)
    code_good (Field t) s fs = one_operand c fs (Host row.Field) sort.Number (code t) refl refl refl tested_number (code_good t s fs)
    code_good (Group t) s fs = code_good t s fs
    code_good (tree.Call f ts) s fs =
        let n = function_number scope.script f in
        let ps = (function_at scope.script.functions n).parameters in
        call_good c fs n (map kind_of ps) (argument_codes texts scope ps ts) (agrees.call f s.0) (agrees.parameters n) (arguments_good ts ps s.1 fs)
    code_good (Apply f ts) s fs = applied_good f ts s fs
    code_good (Unary Not t) s fs = untruth_good c fs (code t) (code_good t s fs)
    code_good (Unary (Signed Plus) t) s fs = one_operand c fs AsNumber sort.Number (code t) refl refl refl tested_number (code_good t s fs)
    code_good (Unary (Signed Minus) t) s fs = two_operands c fs (Inline inline.Minus) sort.Number sort.Number zero_code (code t) refl refl refl tested_number tested_number (zero_good c fs) (code_good t s fs)
    code_good (Pre o t) s fs = at_good t s fs (stepped_at o (target_in texts scope t)) (stepped_well c texts scope agrees t s fs o)
    code_good (Post o t) s fs = at_good t s fs (step_after_at o (target_in texts scope t)) (step_after_well c texts scope agrees t s fs o)
    code_good (Bin Join a b) s fs = two_operands c fs (Host row.Concat) sort.Value sort.Value (code a) (code b) refl refl refl tested_value tested_value (code_good a s.0 fs) (code_good b s.1 fs)
    code_good (Bin (Add o) a b) s fs = numbers_good (sign_of o) (on_sign o) (code a) (code b) fs (code_good a s.0 fs) (code_good b s.1 fs)
    code_good (Bin (Other (Mul p)) a b) s fs = numbers_good (product_of p) (on_product p) (code a) (code b) fs (code_good a s.0 fs) (code_good b s.1 fs)
    code_good (Bin (Other Pow) a b) s fs = numbers_good (Host row.Pow) on_power (code a) (code b) fs (code_good a s.0 fs) (code_good b s.1 fs)
    code_good (Bin (Other (Compared o)) a b) s fs = compare_good c fs (comparison_of o) (code a) (code b) (code_good a s.0 fs) (code_good b s.1 fs)
    code_good (Bin (Other (Match m)) a b) s fs =
        let e = ere_code texts (ere_in b) (code b) in
        matching_good c fs m (host row.Matches (two (code a) e)) (two_operands c fs (Host row.Matches) sort.Value sort.Value (code a) e refl refl refl tested_value tested_value (code_good a s.0 fs) (ere_or_good b s.1 (code b) fs (code_good b s.1 fs)))
    code_good (Bin (Other Both) a b) s fs = choose_good c fs sort.Number (code a) (truth_code (code b)) zero_code refl refl tested_number (code_good a s.0 fs) (truth_good c fs (code b) (code_good b s.1 fs)) (zero_good c fs)
    code_good (Bin (Other Or) a b) s fs = choose_good c fs sort.Number (code a) one_code (truth_code (code b)) refl refl tested_number (code_good a s.0 fs) (one_good c fs) (truth_good c fs (code b) (code_good b s.1 fs))
    code_good (Bin (Other (Assign Put)) a b) s fs = at_good a s.0 fs (stored_at (target_in texts scope a) 0 (code b)) (stored_well c texts scope agrees a s.0 fs (code b) (code_good b s.1))
    code_good (Bin (Other (Assign (SetSum o))) a b) s fs = at_good a s.0 fs (updated_at (sign_of o) (target_in texts scope a) (code b)) (updated_well c texts scope agrees a s.0 fs (sign_of o) (code b) (on_sign o) (code_good b s.1))
    code_good (Bin (Other (Assign (SetProduct p))) a b) s fs = at_good a s.0 fs (updated_at (product_of p) (target_in texts scope a) (code b)) (updated_well c texts scope agrees a s.0 fs (product_of p) (code b) (on_product p) (code_good b s.1))
    code_good (Bin (Other (Assign SetPower)) a b) s fs = at_good a s.0 fs (updated_at (Host row.Pow) (target_in texts scope a) (code b)) (updated_well c texts scope agrees a s.0 fs (Host row.Pow) (code b) on_power (code_good b s.1))
    code_good (Has t x) s fs = has_good c fs (array_of scope x) (code t) (agrees.array x s.1) (code_good t s.0 fs)
    code_good (HasList t ts x) s fs =
        let k = key_code texts scope ts in
        has_good c fs (array_of scope x) (host row.Join (two (code t) k)) (agrees.array x s.3)
        (two_operands c fs (Host row.Join) sort.Value sort.Value (code t) k refl refl refl tested_value tested_value (code_good t s.0 fs) (key_good ts s.1 s.2 fs))
    code_good (Cond e a b) s fs = choose_good c fs sort.Value (code e) (code a) (code b) refl refl tested_value (code_good e s.0 fs) (code_good a s.1 fs) (code_good b s.2 fs)
    code_good tree.Get s fs = ask_good c fs agrees.unlent
    code_good (GetInto v) s fs = at_good v s fs (AskLine (received_at (target_in texts scope v))) (line_well c texts scope agrees v s fs)
    code_good (GetFrom t) s fs = answer_number_good c fs row.GetlineFile (code t) refl refl refl (code_good t s fs)
    code_good (GetIntoFrom v t) s fs = at_good v s.0 fs (FileLine (code t) (received_at (target_in texts scope v))) (file_line_well c texts scope agrees v s.0 fs (code t) (code_good t s.1))

    pub codes_good : (ts : Trees) → AllSound texts scope ts → (fs : List Form) → Values c fs (codes_of texts scope ts) (count ts)
    codes_good NoTree s fs = no_values c fs
    codes_good (tree.Then t ts) s fs = more_values c fs (code t) (codes_of texts scope ts) (count ts) (code_good t s.0 fs) (codes_good ts s.1 fs)

    pub key_good : (ts : Trees) → IsSome ts → AllSound texts scope ts → (fs : List Form) → Good c fs (key_code texts scope ts)
    key_good NoTree e s fs = absurd e
    key_good (tree.Then t NoTree) e s fs = code_good t s.0 fs
    key_good (tree.Then t (tree.Then u ts)) e s fs = two_operands c fs (Host row.Join) sort.Value sort.Value (code t) (key_code texts scope (tree.Then u ts)) refl refl refl tested_value tested_value (code_good t s.0 fs) (key_good (tree.Then u ts) tt s.1 fs)

    at_good : (t : Tree) → S t → (fs : List Form) (body : Code) → AtPlace c t fs body → Good c fs (keeping (kept_code texts scope t) body)
    at_good (Var x) s fs body h = h
    at_good (Index x ts) s fs body h = let k = key_code texts scope ts in let g = key_good ts s.1 s.2 fs in let_good c fs k body g (h (form_of fs k) g.tested)
    at_good (Field t) s fs body h = let_good c fs (Do FieldNumber (one (code t))) body (one_operand c fs FieldNumber sort.Number (code t) refl refl refl tested_number (code_good t s fs)) (h a_number refl)
    at_good t s fs body h = let_good c fs zero_code body (zero_good c fs) (h a_number refl)

    -- expression, replacement, place
    replaced_good : (t : Tree) → S t → (all : Bool) (e r : Code) (fs : List Form) → Good c fs e → ((gs : List Form) → Good c gs r) → Good c fs (replacing_code texts scope e r (keeping (kept_code texts scope t) (substituted_at all (target_in texts scope t))))
    replaced_good (Var x) s all e r fs g h = replacing_variable c fs (variable_of scope x) (agrees.scalar x s) all e r g (h (form_of fs e ∷ fs))
    replaced_good (Index x ts) s all e r fs g h =
        let E = form_of fs e in
        replacing_good c (element_way c (array_of scope x) (agrees.array x s.0)) all fs e r (key_code texts scope ts) g (h (E ∷ fs)) (key_good ts s.1 s.2 (form_of (E ∷ fs) r ∷ E ∷ fs))
    replaced_good (Field t) s all e r fs g h =
        let E = form_of fs e in
        let gs = form_of (E ∷ fs) r ∷ E ∷ fs in
        replacing_good c (field_way c) all fs e r (Do FieldNumber (one (code t))) g (h (E ∷ fs)) (one_operand c gs FieldNumber sort.Number (code t) refl refl refl tested_number (code_good t s gs))
    replaced_good t s all e r fs g h = let E = form_of fs e in replacing_good c (field_way c) all fs e r zero_code g (h (E ∷ fs)) (zero_good c (form_of (E ∷ fs) r ∷ E ∷ fs))

    arguments_good : (ts : Trees) (ps : List Name) → Passed texts scope ps ts → (fs : List Form) → Handed c fs (map kind_of ps) (argument_codes texts scope ps ts)
    arguments_good NoTree ps s fs = all_fresh c fs ps
    arguments_good (tree.Then t ts) [] s fs = none_handed c fs
    arguments_good (tree.Then (Var x) ts) (p ∷ ps) s fs =
        name_handed c fs p.is_array (is_array scope x) (is_scalar scope x) (array_of scope x) (variable_of scope x) (map kind_of ps) (argument_codes texts scope ps ts) s.0 (agrees.array x) (agrees.scalar x) (arguments_good ts ps s.1 fs)
    arguments_good (tree.Then t ts) (p ∷ ps) s fs = value_handed c fs p.is_array (code t) (map kind_of ps) (argument_codes texts scope ps ts) s.0 (code_good t s.1 fs) (arguments_good ts ps s.2 fs)

    truncated_good : (t : Tree) → S t → (fs : List Form) (e : Code) → Good c fs e → Good c fs (truncated_code texts scope t e)
    truncated_good (Group t) s fs e g = truncated_good t s fs e g
    truncated_good (Bin (Other (Mul Divided)) a b) s fs e g = numbers_good (Inline inline.Truncated) (on_inline inline.Truncated) (code a) (code b) fs (code_good a s.0 fs) (code_good b s.1 fs)
    truncated_good t s fs e g = one_operand c fs (Host row.IntOf) sort.Value e refl refl refl tested_value g

    applied_good : (f : Builtin) (ts : Trees) → Applied texts scope f ts → (fs : List Form) → Good c fs (code (Apply f ts))
    applied_good builtin.Length NoTree s fs = one_operand c fs (Host row.Length) sort.Value record_code refl refl refl tested_value (record_good c fs)
    applied_good builtin.Length (tree.Then t NoTree) s fs = one_operand c fs (Host row.Length) sort.Value (code t) refl refl refl tested_value (code_good t s.1 fs)
    applied_good builtin.Length (tree.Then t (tree.Then u ts)) s fs = one_operand c fs (Host row.Length) sort.Value record_code refl refl refl tested_value (record_good c fs)
    applied_good builtin.Substr (tree.Then t (tree.Then u NoTree)) s fs = two_operands c fs (Host row.SubstrFrom) sort.Value sort.Number (code t) (code u) refl refl refl tested_value tested_number (code_good t s.1 fs) (code_good u s.2.0 fs)
    applied_good builtin.Substr (tree.Then t (tree.Then u (tree.Then v ts))) s fs =
        three_operands c fs (Host row.Substr) sort.Value sort.Number sort.Number (code t) (code u) (code v) refl refl refl tested_value tested_number tested_number (code_good t s.1 fs) (code_good u s.2.0 fs) (code_good v s.2.1.0 fs)
    applied_good builtin.Substr NoTree s fs = absurd (true≢false (sym s))
    applied_good builtin.Substr (tree.Then t NoTree) s fs = absurd (true≢false (sym s.0))
    applied_good builtin.Index (tree.Then t (tree.Then u ts)) s fs = two_operands c fs (Host row.Index) sort.Value sort.Value (code t) (code u) refl refl refl tested_value tested_value (code_good t s.1 fs) (code_good u s.2.0 fs)
    applied_good builtin.Index NoTree s fs = absurd (true≢false (sym s))
    applied_good builtin.Index (tree.Then t NoTree) s fs = absurd (true≢false (sym s.0))
    applied_good builtin.Split (tree.Then t (tree.Then (Var a) NoTree)) s fs = split_good c fs (code t) (array_of scope a) (special_code Fs) false (agrees.array a s.1) (code_good t s.0 fs) (special_good c fs Fs)
    applied_good builtin.Split (tree.Then t (tree.Then (Var a) (tree.Then u ts))) s fs =
        split_good c fs (code t) (array_of scope a) (ere_code texts (ere_in u) (code u)) (is_ere (ere_in u)) (agrees.array a s.1) (code_good t s.0 fs) (ere_or_good u s.2.0 (code u) fs (code_good u s.2.0 fs))
    applied_good builtin.Split ts s fs = absurd s
    applied_good builtin.Sub (tree.Then e (tree.Then r NoTree)) s fs = replaced_record false (ere_code texts (ere_in e) (code e)) (code r) fs (ere_or_good e s.1 (code e) fs (code_good e s.1 fs)) (code_good r s.2.0)
    applied_good builtin.Sub (tree.Then e (tree.Then r (tree.Then t ts))) s fs = replaced_good t s.2.1.0 false (ere_code texts (ere_in e) (code e)) (code r) fs (ere_or_good e s.1 (code e) fs (code_good e s.1 fs)) (code_good r s.2.0)
    applied_good builtin.Sub NoTree s fs = absurd (true≢false (sym s))
    applied_good builtin.Sub (tree.Then t NoTree) s fs = absurd (true≢false (sym s.0))
    applied_good builtin.Gsub (tree.Then e (tree.Then r NoTree)) s fs = replaced_record true (ere_code texts (ere_in e) (code e)) (code r) fs (ere_or_good e s.1 (code e) fs (code_good e s.1 fs)) (code_good r s.2.0)
    applied_good builtin.Gsub (tree.Then e (tree.Then r (tree.Then t ts))) s fs = replaced_good t s.2.1.0 true (ere_code texts (ere_in e) (code e)) (code r) fs (ere_or_good e s.1 (code e) fs (code_good e s.1 fs)) (code_good r s.2.0)
    applied_good builtin.Gsub NoTree s fs = absurd (true≢false (sym s))
    applied_good builtin.Gsub (tree.Then t NoTree) s fs = absurd (true≢false (sym s.0))
    applied_good builtin.Match (tree.Then t (tree.Then e ts)) s fs =
        two_operands c fs (Host row.Match) sort.Value sort.Value (code t) (ere_code texts (ere_in e) (code e)) refl refl refl tested_value tested_value (code_good t s.1 fs) (ere_or_good e s.2.0 (code e) fs (code_good e s.2.0 fs))
    applied_good builtin.Match NoTree s fs = absurd (true≢false (sym s))
    applied_good builtin.Match (tree.Then t NoTree) s fs = absurd (true≢false (sym s.0))
    applied_good builtin.Sprintf NoTree s fs = absurd (true≢false (sym s))
    applied_good builtin.Sprintf (tree.Then t ts) s fs = sprintf_good (codes_of texts scope (tree.Then t ts)) (count ts + 1) fs (more_values c fs (code t) (codes_of texts scope ts) (count ts) (code_good t s.1 fs) (codes_good ts s.2 fs)) s.0
    applied_good builtin.ToLower (tree.Then t ts) s fs = one_operand c fs (Host row.Lower) sort.Value (code t) refl refl refl tested_value (code_good t s.1 fs)
    applied_good builtin.ToLower NoTree s fs = absurd (true≢false (sym s))
    applied_good builtin.ToUpper (tree.Then t ts) s fs = one_operand c fs (Host row.Upper) sort.Value (code t) refl refl refl tested_value (code_good t s.1 fs)
    applied_good builtin.ToUpper NoTree s fs = absurd (true≢false (sym s))
    applied_good builtin.Int (tree.Then t ts) s fs = truncated_good t s.1 fs (code t) (code_good t s.1 fs)
    applied_good builtin.Int NoTree s fs = absurd (true≢false (sym s))
    applied_good builtin.Close (tree.Then t ts) s fs = answer_number_good c fs row.Close (code t) refl refl refl (code_good t s.1 fs)
    applied_good builtin.Close NoTree s fs = absurd (true≢false (sym s))
    applied_good builtin.Fflush NoTree s fs = zero_good c fs
    applied_good builtin.Fflush (tree.Then t ts) s fs = answer_number_good c fs row.Flush (code t) refl refl refl (code_good t s.1 fs)
