-- Code at the places of trees.
use Rattle.std.proofs.Common.{◌≡◌, ℕ, true, false, List, ◌∷◌, length, refl}
use Rattle.std.specs.Prelude.{nat_lt, map}
use Rattle.sem_primitives.specs.declared.sorts.Sort.TheVariants as sort
use Rattle.sem_primitives.specs.declared.table.Primitive.TheVariants as row
use Rattle.awk_grammar.specs.Token as token
use Rattle.awk_grammar.specs.Token.{Sign, Plus, Minus, Product, Times, Over as Divided, Modulo}
use Rattle.awk_grammar.specs.Trees.{Tree, Var, Index}
use Rattle.mid_program.specs.declared.mid.Arithmetic.{Arithmetic}
use Rattle.mid_program.specs.declared.mid.Arithmetic.TheVariants as inline
use Rattle.mid_program.specs.declared.mid.Operation.{Operation}
use Rattle.mid_program.specs.declared.mid.Operation.TheVariants.{Host, Inline}
use Rattle.sem_scripts.specs.Names.{Scope, variable_of, array_of, function_number, function_at, is_array}
use Rattle.mid_program.specs.Mid.{Code, Do, AskLine, FileLine, Form, parameters_at}
use Rattle.mid_program.specs.Sorted.{Context, is_tested, is_array_place, has_lender}
use Rattle.mid_program.specs.Translation.{two, one_code, variable_code, sign_of, product_of, step_arithmetic, step_of, target_in, received_at, stored_at, stepped_at, step_after_at, updated_at, kind_of}
use Rattle.script_code.specs.Fits.{is_scalar, is_function}
use Rattle.script_code.proofs.Good.{Good, is_known, tested_number, two_operands, variable_good, one_good}
use Rattle.script_code.proofs.Ways.{OnNumbers, Inner, good_copies, element_way, field_way, stored_inner, stepped_copies, step_after_inner, updated_inner, line_inner, file_line_inner}
use Rattle.script_code.proofs.Variables.{stored_good, step_after_good, updated_good, line_good, file_line_good}
use Rattle.script_code.proofs.Sound.{Sound}

-- the code's names are those of the scope
pub record Agrees (c : Context) (texts : List (List ℕ)) (scope : Scope) : Type 0 where
  pub text : c.texts ≡ length texts
  pub unlent : has_lender c.lenders ≡ false
  pub scalar : (x : List ℕ) → is_scalar scope x ≡ true → is_known c (variable_of scope x) ≡ true
  pub array : (x : List ℕ) → is_array scope x ≡ true → is_array_place c (array_of scope x) ≡ true
  pub call : (f : List ℕ) → is_function scope.script f ≡ true → nat_lt (function_number scope.script f) (length c.calls) ≡ true
  pub parameters : (f : ℕ) → parameters_at c.calls f ≡ map kind_of (function_at scope.script.functions f).parameters

-- operators

pub on_inline : (a : Arithmetic) → OnNumbers (Inline a)
on_inline a = record { here = refl; takes = refl; gives = refl }

pub on_sign : (s : Sign) → OnNumbers (sign_of s)
on_sign Plus = on_inline inline.Plus
on_sign Minus = on_inline inline.Minus

pub on_product : (p : Product) → OnNumbers (product_of p)
on_product Times = on_inline inline.Times
on_product Divided = on_inline inline.Over
on_product Modulo = on_inline inline.Modulo

on_step : (s : token.Step) → OnNumbers (step_of s)
on_step s = on_inline (step_arithmetic s)

pub on_power : OnNumbers (Host row.Pow)
on_power = record { here = refl; takes = refl; gives = refl }

-- what code at a place needs, where the key or the number of the place is kept
abbrev pub AtPlace : Context → Tree → List Form → Code → Type 0
AtPlace c (Var x) fs body = Good c fs body
AtPlace c t fs body = (f : Form) → is_tested f ≡ true → Inner c (f ∷ fs) body

module _ (c : Context) (texts : List (List ℕ)) (scope : Scope) (agrees : Agrees c texts scope) where
  pub stored_well : (t : Tree) → Sound texts scope t → (fs : List Form) (e : Code) → ((gs : List Form) → Good c gs e) → AtPlace c t fs (stored_at (target_in texts scope t) 0 e)
  unfolding element_way field_way
  stored_well (Var x) s fs e g = stored_good c fs (variable_of scope x) (agrees.scalar x s) e (g fs)
  stored_well (Index x ts) s fs e g = λ f t. stored_inner c (element_way c (array_of scope x) (agrees.array x s.0)) f fs t e (good_copies c (f ∷ fs) e (g (f ∷ fs)))
  stored_well t s fs e g = λ f q. stored_inner c (field_way c) f fs q e (good_copies c (f ∷ fs) e (g (f ∷ fs)))

  pub stepped_well : (t : Tree) → Sound texts scope t → (fs : List Form) (o : token.Step) → AtPlace c t fs (stepped_at o (target_in texts scope t))
  unfolding element_way field_way
  stepped_well (Var x) s fs o =
      stored_good c fs (variable_of scope x) (agrees.scalar x s) (Do (step_of o) (two (variable_code (variable_of scope x)) (one_code)))
      (two_operands c fs (step_of o) sort.Number sort.Number (variable_code (variable_of scope x)) one_code refl refl refl tested_number tested_number (variable_good c fs (variable_of scope x) (agrees.scalar x s)) (one_good c fs))
  stepped_well (Index x ts) s fs o = λ f t. let w = element_way c (array_of scope x) (agrees.array x s.0) in stored_inner c w f fs t (Do (step_of o) (two (w.read 0) one_code)) (stepped_copies c w f fs t (step_of o) (on_step o))
  stepped_well t s fs o = λ f q. let w = field_way c in stored_inner c w f fs q (Do (step_of o) (two (w.read 0) one_code)) (stepped_copies c w f fs q (step_of o) (on_step o))

  pub step_after_well : (t : Tree) → Sound texts scope t → (fs : List Form) (o : token.Step) → AtPlace c t fs (step_after_at o (target_in texts scope t))
  unfolding element_way field_way
  step_after_well (Var x) s fs o = step_after_good c fs (variable_of scope x) (agrees.scalar x s) (step_of o) (on_step o)
  step_after_well (Index x ts) s fs o = λ f t. step_after_inner c (element_way c (array_of scope x) (agrees.array x s.0)) f fs t (step_of o) (on_step o)
  step_after_well t s fs o = λ f q. step_after_inner c (field_way c) f fs q (step_of o) (on_step o)

  pub updated_well : (t : Tree) → Sound texts scope t → (fs : List Form) (o : Operation) (right : Code) → OnNumbers o → ((gs : List Form) → Good c gs right) → AtPlace c t fs (updated_at o (target_in texts scope t) right)
  unfolding element_way field_way
  updated_well (Var x) s fs o right n g = updated_good c fs (variable_of scope x) (agrees.scalar x s) o right n (g fs)
  updated_well (Index x ts) s fs o right n g = λ f t. updated_inner c (element_way c (array_of scope x) (agrees.array x s.0)) f fs t o right n (g (f ∷ fs))
  updated_well t s fs o right n g = λ f q. updated_inner c (field_way c) f fs q o right n (g (f ∷ fs))

  pub line_well : (t : Tree) → Sound texts scope t → (fs : List Form) → AtPlace c t fs (AskLine (received_at (target_in texts scope t)))
  unfolding element_way field_way
  line_well (Var x) s fs = line_good c fs (variable_of scope x) (agrees.scalar x s) agrees.unlent
  line_well (Index x ts) s fs = λ f t. line_inner c (element_way c (array_of scope x) (agrees.array x s.0)) f fs t agrees.unlent
  line_well t s fs = λ f q. line_inner c (field_way c) f fs q agrees.unlent

  pub file_line_well : (t : Tree) → Sound texts scope t → (fs : List Form) (e : Code) → ((gs : List Form) → Good c gs e) → AtPlace c t fs (FileLine e (received_at (target_in texts scope t)))
  unfolding element_way field_way
  file_line_well (Var x) s fs e g = file_line_good c fs (variable_of scope x) (agrees.scalar x s) e (g fs)
  file_line_well (Index x ts) s fs e g = λ f t. file_line_inner c (element_way c (array_of scope x) (agrees.array x s.0)) f fs t e (g (f ∷ fs))
  file_line_well t s fs e g = λ f q. file_line_inner c (field_way c) f fs q e (g (f ∷ fs))
