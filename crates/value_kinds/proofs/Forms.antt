-- The form of code: what a script says is a number is one in its code.
use Rattle.std.proofs.Common.{◌≡◌, ℕ, Bool, true, false, List, ◌∷◌, Option, Some, None, refl, ap, ◌∙◌}
use Rattle.std.proofs.lemmas.Bool.{and_parts}
use Rattle.sem_primitives.specs.declared.table.Primitive.TheVariants as row
use Rattle.awk_tokens.specs.declared.reserved_words.Builtin.{Builtin}
use Rattle.awk_tokens.specs.declared.reserved_words.Builtin.TheVariants as builtin
use Rattle.awk_grammar.specs.Token.{And, Assign, Compare, Differs, Ere, Match, Matches, Minus, Modulo, Mul, Not, Number as Numeral, Or, Over, Plus, Pow, Quoted, Set, SetPower, SetProduct, SetSum, Sign, Signed, Product, Times}
use Rattle.awk_grammar.specs.Tree.{second_is_var, suits, within}
use Rattle.awk_grammar.specs.Trees.{Add, Apply, Bin, Call, Cond, Field, Get, GetFrom, GetInto, GetIntoFrom, Group, Has, HasList, Index, Join, Leaf, Length, NoTree, Other, Post, Pre, Then, Tree, Trees, Unary, Var}
use Rattle.mid_program.specs.declared.mid.Operation.{Operation}
use Rattle.mid_program.specs.declared.mid.Operation.TheVariants.{Host}
use Rattle.mid_program.specs.Mid.{PrimitiveAnswer, AskLine, Code, Do, FileLine, Form, Let, a_number, answer_by, form_of}
use Rattle.sem_scripts.specs.Names.{Reserved, Scope}
use Rattle.sem_scripts.specs.Names as names
use Rattle.mid_program.specs.Sorted.{is_number}
use Rattle.sem_scripts.specs.Steps.{ere_in}
use Rattle.mid_program.specs.Translation.{ElementTarget, FieldTarget, NameTarget, Target, applied_code, code_of, ere_code, kept_code, keeping, moved, one_code, product_of, read_at, received_at, sign_of, step_after_at, step_of, stepped_at, stored_at, substituted_at, target_in, truncated_code, two, updated_at}
use Rattle.value_kinds.specs.Stores.{answers_number, gives_number}

pub clash : {A : Type 0} → false ≡ true → A
clash e = absurd cc

abbrev IsNumber : Code → Type 0
IsNumber e = (fs : List Form) → is_number (form_of fs e) ≡ true

keeping_number : (k : Option Code) (e : Code) → IsNumber e → IsNumber (keeping k e)
keeping_number None e h fs = h fs
keeping_number (Some a) e h fs = h (form_of fs a ∷ fs)

-- what is stored is the answer
pub stored_form : (fs : List Form) (t : Target) (i : ℕ) (e : Code) → form_of fs (stored_at t i e) ≡ form_of fs e
stored_form fs (ElementTarget a) i e = refl
stored_form fs (NameTarget (names.Global n)) i e = refl
stored_form fs (NameTarget (names.Parameter n)) i e = refl
stored_form fs (NameTarget (Reserved s)) i e = refl
stored_form fs FieldTarget i e = refl

stored_number : (t : Target) (i : ℕ) (e : Code) → IsNumber e → IsNumber (stored_at t i e)
stored_number t i e h fs = ap is_number (stored_form fs t i e) ∙ h fs

pub sign_number : (s : Sign) → PrimitiveAnswer (answer_by (sign_of s)) ≡ a_number
sign_number Plus = refl
sign_number Minus = refl

pub product_number : (p : Product) → PrimitiveAnswer (answer_by (product_of p)) ≡ a_number
product_number Times = refl
product_number Over = refl
product_number Modulo = refl

updated_number : (o : Operation) (t : Target) (e : Code) → PrimitiveAnswer (answer_by o) ≡ a_number → IsNumber (updated_at o t e)
updated_number o t e h fs = ap is_number (stored_form (form_of fs e ∷ fs) t 1 (Do o (two (read_at t 1) (moved 0))) ∙ h)

module _ (texts : List (List ℕ)) (scope : Scope) where
  truncated_number : (t : Tree) (plain : Code) → IsNumber (truncated_code texts scope t plain)
  unfolding truncated_code
  truncated_number (Group t) plain fs = truncated_number t plain fs
  truncated_number (Bin (Other (Mul Over)) a b) plain fs = refl
  truncated_number t plain fs = refl

  abbrev C : Tree → Code
  C t = code_of texts scope t

  abbrev T : Tree → Target
  T t = target_in texts scope t

  abbrev K : Tree → Option Code
  K t = kept_code texts scope t

  abbrev E : Tree → Code
  E t = ere_code texts (ere_in t) (C t)

  replaced_number : (all : Bool) (e r t : Tree) → IsNumber (Let (E e) (Let (C r) (keeping (K t) (substituted_at all (T t)))))
  replaced_number all e r t fs = keeping_number (K t) (substituted_at all (T t)) (λ gs. refl) (form_of (form_of fs (E e) ∷ fs) (C r) ∷ (form_of fs (E e) ∷ fs))

  -- a function with as many operands as it takes
  applied_number : (f : Builtin) (ts : Trees) → answers_number f ≡ true → suits f ts ≡ true → IsNumber (applied_code texts scope f ts)
  unfolding applied_code
  applied_number builtin.Length NoTree n s fs = refl
  applied_number builtin.Length (Then t NoTree) n s fs = refl
  applied_number builtin.Length (Then t (Then u ts)) n s fs = refl
  applied_number builtin.Index NoTree n s fs = clash s
  applied_number builtin.Index (Then t NoTree) n s fs = clash s
  applied_number builtin.Index (Then t (Then u ts)) n s fs = refl
  applied_number builtin.Split NoTree n s fs = clash s
  applied_number builtin.Split (Then t NoTree) n s fs = clash s
  applied_number builtin.Split (Then t (Then (Var a) NoTree)) n s fs = refl
  applied_number builtin.Split (Then t (Then (Var a) (Then u ts))) n s fs = refl
  applied_number builtin.Split (Then t (Then u ts)) n s fs = clash (and_parts (within 2 3 (Then t (Then u ts))) (second_is_var (Then t (Then u ts))) s).1
  applied_number builtin.Sub NoTree n s fs = clash s
  applied_number builtin.Sub (Then e NoTree) n s fs = clash s
  applied_number builtin.Sub (Then e (Then r NoTree)) n s fs = refl
  applied_number builtin.Sub (Then e (Then r (Then t ts))) n s fs = replaced_number false e r t fs
  applied_number builtin.Gsub NoTree n s fs = clash s
  applied_number builtin.Gsub (Then e NoTree) n s fs = clash s
  applied_number builtin.Gsub (Then e (Then r NoTree)) n s fs = refl
  applied_number builtin.Gsub (Then e (Then r (Then t ts))) n s fs = replaced_number true e r t fs
  applied_number builtin.Match NoTree n s fs = clash s
  applied_number builtin.Match (Then t NoTree) n s fs = clash s
  applied_number builtin.Match (Then t (Then u ts)) n s fs = refl
  applied_number builtin.Int NoTree n s fs = clash s
  applied_number builtin.Int (Then t ts) n s fs = truncated_number t (C t) fs
  applied_number builtin.Close NoTree n s fs = clash s
  applied_number builtin.Close (Then t ts) n s fs = refl
  applied_number builtin.Fflush NoTree n s fs = refl
  applied_number builtin.Fflush (Then t ts) n s fs = refl
  applied_number builtin.Substr ts n s fs = clash n
  applied_number builtin.Sprintf ts n s fs = clash n
  applied_number builtin.ToLower ts n s fs = clash n
  applied_number builtin.ToUpper ts n s fs = clash n

  -- what gives a number has a number's code
  pub number_code : (t : Tree) → gives_number t ≡ true → IsNumber (code_of texts scope t)
  unfolding code_of
  number_code (Leaf (Numeral text)) h fs = refl
  number_code (Leaf (Quoted text)) h fs = clash h
  number_code (Leaf (Ere text)) h fs = refl
  number_code Length h fs = refl
  number_code (Var x) h fs = clash h
  number_code (Index x ts) h fs = clash h
  number_code (Field t) h fs = clash h
  number_code (Group t) h fs = number_code t h fs
  number_code (Call f ts) h fs = clash h
  number_code (Apply builtin.Sprintf ts) h fs = clash h
  number_code (Apply f ts) h fs = let both = and_parts (answers_number f) (suits f ts) h in applied_number f ts both.0 both.1 fs
  number_code (Unary Not t) h fs = refl
  number_code (Unary (Signed Plus) t) h fs = refl
  number_code (Unary (Signed Minus) t) h fs = refl
  number_code (Pre s t) h fs = keeping_number (K t) (stepped_at s (T t)) (stored_number (T t) 0 (Do (step_of s) (two (read_at (T t) 0) one_code)) (λ gs. refl)) fs
  number_code (Post s t) h fs = keeping_number (K t) (step_after_at s (T t)) (λ gs. refl) fs
  number_code (Bin Join a b) h fs = clash h
  number_code (Bin (Add s) a b) h fs = ap is_number (sign_number s)
  number_code (Bin (Other (Assign Set)) a b) h fs = keeping_number (K a) (stored_at (T a) 0 (C b)) (stored_number (T a) 0 (C b) (number_code b h)) fs
  number_code (Bin (Other (Assign (SetSum s))) a b) h fs = keeping_number (K a) (updated_at (sign_of s) (T a) (C b)) (updated_number (sign_of s) (T a) (C b) (sign_number s)) fs
  number_code (Bin (Other (Assign (SetProduct p))) a b) h fs = keeping_number (K a) (updated_at (product_of p) (T a) (C b)) (updated_number (product_of p) (T a) (C b) (product_number p)) fs
  number_code (Bin (Other (Assign SetPower)) a b) h fs = keeping_number (K a) (updated_at (Host row.Pow) (T a) (C b)) (updated_number (Host row.Pow) (T a) (C b) refl) fs
  number_code (Bin (Other Or) a b) h fs = refl
  number_code (Bin (Other And) a b) h fs = refl
  number_code (Bin (Other (Match Matches)) a b) h fs = refl
  number_code (Bin (Other (Match Differs)) a b) h fs = refl
  number_code (Bin (Other (Compare c)) a b) h fs = refl
  number_code (Bin (Other (Mul p)) a b) h fs = ap is_number (product_number p)
  number_code (Bin (Other Pow) a b) h fs = refl
  number_code (Has t x) h fs = refl
  number_code (HasList t ts x) h fs = refl
  number_code (Cond c a b) h fs = clash h
  number_code Get h fs = refl
  number_code (GetInto v) h fs = keeping_number (K v) (AskLine (received_at (T v))) (λ gs. refl) fs
  number_code (GetFrom s) h fs = refl
  number_code (GetIntoFrom v s) h fs = keeping_number (K v) (FileLine (C s) (received_at (T v))) (λ gs. refl) fs
