-- Rows: what names ARGV, and which words of a job are assignments.
use Rattle.std.specs.Prelude.{◌≡◌, ℕ, zero, suc, Bool, true, false, List, [], ◌∷◌, Option, None, Some, codes, refl}
use Rattle.std.proofs.Common.{arith, ap, inl, inr, subst, sym, ◌∙◌}
use Rattle.sem_primitives.specs.Assignments.{assignment_of}
use Rattle.sem_primitives.specs.Jobs.{JobForm}
use Rattle.sem_primitives.specs.Texts.{same_text}
use Rattle.sem_primitives.specs.declared.table.Primitive.TheVariants as row
use Rattle.mid_program.specs.declared.mid.Operation.TheVariants.{Host}
use Rattle.sem_scripts.specs.Names.{ArrayName, Given, Numbered}
use Rattle.mid_program.specs.Mid.{Array, At, Break, Call, Code, Declared, Do, Each, End, Get, Global, NoStep, Program, Text, Unboxed}
use Rattle.agreement.specs.Words.Naming.{names_argv, step_names}
use Rattle.agreement.specs.Words.Words.{Assigns, AssignsName}

-- a["x"] = "x", for an array a
abbrev stores : ArrayName → Code
stores a = Do (Host row.SetElem) (At (Array a) (At (Text 0) (At (Text 0) End)))

pub argv_is_named : names_argv (stores (Numbered 0)) ≡ true
argv_is_named = refl

-- ENVIRON, an array of the script, and one that is a parameter
pub others_are_not : names_argv (stores (Numbered 1)) ∷ (names_argv (stores (Numbered 2)) ∷ (names_argv (stores (Given 0)) ∷ [])) ≡ false
    ∷ (false ∷ (false ∷ []))
others_are_not = refl

-- f(ARGV), and a loop over the keys of ARGV
pub given_to_a_function : names_argv (Call 0 (At (Array (Numbered 0)) End)) ≡ true
given_to_a_function = refl

pub walked : step_names (Each (Numbered 0) (Get (Global false 0)) Break) ≡ true
walked = refl

-- a script whose names are A, B and C, and a function f
abbrev script : Program
script = record {
  texts = [];
  lenders = [];
  globals = record { name = codes "A"; kind = Unboxed; mixed = false }
      ∷ (record { name = codes "B"; kind = Unboxed; mixed = false }
      ∷ (record { name = codes "C"; kind = Unboxed; mixed = false } ∷ []));
  routines = record { name = codes "f"; parameters = []; body = NoStep } ∷ [];
  ranges = 0;
  begin = NoStep;
  reads = false;
  items = NoStep;
  end = NoStep;
}

-- the job `-v B=2` with the operands "A=1" and `file` assigns to A and to B
abbrev job : JobForm
job = record { operands = codes "A=1" ∷ (codes "file" ∷ []); assigns = (codes "B", codes "2") ∷ []; environment = [] }

pub by_operand : AssignsName script job 0
by_operand = (record { name = codes "A"; kind = Unboxed; mixed = false }, refl, inr (codes "A=1", codes "1", (zero, omega arith, refl), refl))

pub by_option : AssignsName script job 1
by_option = (record { name = codes "B"; kind = Unboxed; mixed = false }, refl, inl (zero, codes "2", refl))

pub no_assignment : assignment_of (codes "file") ≡ None
no_assignment = refl

-- but no word of it assigns to C
abbrev name_in : Option (List ℕ × List ℕ) → List ℕ
name_in None = []
name_in (Some pair) = pair.0

-- whether it is C
abbrev is_c : Option (List ℕ × List ℕ) → Bool
is_c o = same_text (name_in o) (codes "C")

abbrev name_of : Option Declared → List ℕ
name_of None = []
name_of (Some named) = named.name

not_to_c : Assigns job (codes "C") → ⊥
not_to_c (inl (zero, text, e)) = let other : false ≡ true = ap is_c e in cc
not_to_c (inl (suc n, text, e)) = cc
not_to_c (inr (operand, text, (zero, l, e), q)) = let other : false ≡ true = ap is_c (ap assignment_of e ∙ q) in cc
not_to_c (inr (operand, text, (suc zero, l, e), q)) = let other = ap assignment_of e ∙ q in cc
not_to_c (inr (operand, text, (suc (suc n), l, e), q)) = absurd (omega (arith, l))

pub by_no_word : AssignsName script job 2 → ⊥
by_no_word (named, e, word) = not_to_c (subst (Assigns job) (sym (ap name_of e)) word)
