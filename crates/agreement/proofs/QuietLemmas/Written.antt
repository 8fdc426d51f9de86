-- A script's expression on numbers has the code of a sum; folding and lanes leave it one.
use Rattle.std.proofs.Common.{ℕ, false, List, Option, Some, None, refl}
use Rattle.sem_primitives.specs.Numbers.{Number as AnyNumber}
use Rattle.awk_grammar.specs.Token as token
use Rattle.awk_grammar.specs.Trees.{Tree}
use Rattle.folding.specs.Folding.{folded, reduced, reduced_to, same, value_of}
use Rattle.mid_program.specs.declared.mid.Arithmetic.{Arithmetic}
use Rattle.mid_program.specs.declared.mid.Arithmetic.TheVariants as inline
use Rattle.mid_program.specs.declared.mid.Operation.TheVariants.{AsNumber, Inline}
use Rattle.mid_program.specs.Mid.{At, Code, Do, End, Eval, Kind, Parameter, Global, Slot}
use Rattle.sem_scripts.specs.Names.{Reserved, Scope, Variable, variable_of}
use Rattle.sem_scripts.specs.Names as names
use Rattle.mid_program.specs.Translation.{code_of, set_variable_code, variable_code}
use Rattle.mid_program.specs.Rewriting.{code_in, step_in}
use Rattle.value_kinds.specs.Applied.{slot_in}
use Rattle.agreement.specs.Quiet.Statements.{IsNumeric, IsSo, IsSumStep, added, assignment, group, multiplied, signed}
use Rattle.agreement.specs.Quiet.Statements as script
use Rattle.agreement.specs.Quiet.Sums.{IsSum, IsSumOperator, constant, itself, joined, name}

-- Folding: a constant, or what it was.

two_folded : {Is : Slot → Type 0} (n : Option AnyNumber) (o : Arithmetic) (a b : Code) → IsSumOperator o → IsSum Is a → IsSum Is b →
    IsSum Is (reduced_to n (Inline o) (At a (At b End)))
two_folded (Some n) o a b h p q = constant _
two_folded None o a b h p q = joined o a b h p q

one_folded : {Is : Slot → Type 0} (n : Option AnyNumber) (a : Code) → IsSum Is a → IsSum Is (reduced_to n AsNumber (At a End))
one_folded (Some n) a p = constant _
one_folded None a p = itself a p

sum_folded : {Is : Slot → Type 0} (e : Code) → IsSum Is e → IsSum Is (folded e)
sum_folded _ (constant z) = constant z
sum_folded _ (name x h) = name x h
sum_folded _ (joined o a b h p q) = two_folded (value_of (Inline o) (At (folded a) (At (folded b) End))) o (folded a) (folded b) h (sum_folded a p)
    (sum_folded b q)
sum_folded _ (itself a p) = one_folded (value_of AsNumber (At (folded a) End)) (folded a) (sum_folded a p)

module _ (Is : Slot → Type 0) (gs ps : List Kind) where
  -- names with lanes
  abbrev With : Slot → Type 0
  With x = Is (slot_in gs ps x)

  sum_with : (e : Code) → IsSum With e → IsSum Is (code_in (slot_in gs ps) Do e)
  sum_with _ (constant z) = constant z
  sum_with _ (name x h) = name (slot_in gs ps x) h
  sum_with _ (joined o a b h p q) = joined o _ _ h (sum_with a p) (sum_with b q)
  sum_with _ (itself a p) = itself _ (sum_with a p)

  variable_sum : (x : Variable) → IsSo Is gs ps x → IsSum With (variable_code x)
  variable_sum (names.Global i) h = name (Global false i) h
  variable_sum (names.Parameter i) h = name (Parameter false i) h
  variable_sum (Reserved s) h = absurd h

  set_sum : (x : Variable) → IsSo Is gs ps x → (e : Code) → IsSum Is (code_in (slot_in gs ps) Do (folded e)) →
      IsSumStep Is (step_in (slot_in gs ps) Do (step_in same reduced (Eval (set_variable_code x e))))
  set_sum (names.Global i) h e q = record {
    target = slot_in gs ps (Global false i);
    expression = code_in (slot_in gs ps) Do (folded e);
    same = refl;
    target_is = h;
    sum = q;
  }
  set_sum (names.Parameter i) h e q = record {
    target = slot_in gs ps (Parameter false i);
    expression = code_in (slot_in gs ps) Do (folded e);
    same = refl;
    target_is = h;
    sum = q;
  }
  set_sum (Reserved s) h e q = absurd h

  module _ (texts : List (List ℕ)) (scope : Scope) where
    code_sum : (t : Tree) → IsNumeric (IsSo Is gs ps) scope t → IsSum With (code_of texts scope t)
    unfolding code_of
    code_sum _ (script.constant text) = constant _
    code_sum _ (script.name x h) = variable_sum (variable_of scope x) h
    code_sum _ (group t p) = code_sum t p
    code_sum _ (signed token.Plus t p) = itself _ (code_sum t p)
    code_sum _ (signed token.Minus t p) = joined inline.Minus _ _ tt (constant _) (code_sum t p)
    code_sum _ (added token.Plus a b p q) = joined inline.Plus _ _ tt (code_sum a p) (code_sum b q)
    code_sum _ (added token.Minus a b p q) = joined inline.Minus _ _ tt (code_sum a p) (code_sum b q)
    code_sum _ (multiplied a b p q) = joined inline.Times _ _ tt (code_sum a p) (code_sum b q)

    sum_of : (t : Tree) → IsNumeric (IsSo Is gs ps) scope t → IsSum Is (code_in (slot_in gs ps) Do (folded (code_of texts scope t)))
    sum_of t p = sum_with (folded (code_of texts scope t)) (sum_folded (code_of texts scope t) (code_sum t p))

    -- THE STATEMENT
    pub assigned : (x : List ℕ) (t : Tree) → IsSo Is gs ps (variable_of scope x) → IsNumeric (IsSo Is gs ps) scope t →
        IsSumStep Is (assignment texts scope gs ps x t)
    unfolding code_of
    assigned x t h p = set_sum (variable_of scope x) h (code_of texts scope t) (sum_of t p)
