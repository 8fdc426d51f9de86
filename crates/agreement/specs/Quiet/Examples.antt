-- Rows: the statement `n = n + 1`, where n is unboxed, where a text stands beside it, where the sum is out of range, and where n is boxed; and a parameter,
-- where n lends at its place and where nothing does.
use Rattle.std.specs.Prelude.{◌≡◌, ◌≢◌, T, nat_lt, ℕ, zero, ◌^◌, Bool, true, false, List, [], ◌∷◌, codes, map, option_map, is_some, is_none, Option, Some, None, pos, refl}
use Rattle.std.proofs.Common.{subst}
use Rattle.awk_values.specs.Faults.{fault_number}
use Rattle.awk_values.specs.declared.fault.Fault.TheVariants.{Range}
use Rattle.sem_primitives.specs.declared.constants.Destination.TheVariants as to
use Rattle.sem_primitives.specs.declared.table.Listed.TheVariants.{Print}
use Rattle.sem_primitives.specs.declared.table.Primitive.TheVariants as row
use Rattle.wasm_types.specs.Syntax.{Done, Instructions}
use Rattle.wasm_types.specs.declared.instr.Simple.TheVariants.{Br, I32Const}
use Rattle.wasm_store.specs.declared.word.Word.{Word}
use Rattle.wasm_store.specs.declared.word.Word.TheVariants.{I32, I64}
use Rattle.wasm_store.specs.Words.{zero_of}
use Rattle.wasm_model.specs.Machines.{Conf, ProgramForm}
use Rattle.mid_program.specs.declared.mid.Arithmetic.TheVariants.{Plus}
use Rattle.mid_program.specs.declared.mid.Operation.TheVariants.{Inline}
use Rattle.mid_program.specs.Mid.{At, Boxed, Code, Do, End, Eval, Get, Global, Kind, NoStep, Number, Over, Parameter, Program, Set, Steps, Then, Unboxed}
use Rattle.lower_model.specs.Emission.{all_emitted, emitted}
use Rattle.lower_model.specs.Functions.{main_bases}
use Rattle.host_imports.specs.Names.{import_number}
use Rattle.lower_model.specs.Modules.{called_imports, imports_of, module_of, renumbered}
use Rattle.lower_model.specs.Places.{local_types}
use Rattle.lower_model.specs.Small.{ask_row, emit, minus_one, text_beside}
use Rattle.lower_model.specs.Statements.{step_emitted, steps_emitted}
use Rattle.agreement.specs.Quiet.Laned.{IsLaned}
use Rattle.agreement.specs.Quiet.Quiet.{host_call_free}
use Rattle.agreement.specs.Quiet.Sums.{AtSum, IsSum, code_in, constant, joined, name}

abbrev kind_for : Bool → Kind
kind_for true = Unboxed
kind_for false = Boxed

abbrev n_plus_one : Bool → Code
n_plus_one u = Do (Inline Plus) (At (Get (Global u 0)) (At (Number (pos 1)) End))

pub n_plus_one_is_sum : IsSum (λ x. x ≡ Global true 0) (n_plus_one true)
n_plus_one_is_sum = joined Plus _ _ tt (name (Global true 0) refl) (constant (pos 1))

-- print n
abbrev printing : Bool → Steps
printing u = Then (Eval (Over (Print to.Standard) (At (Get (Global u 0)) End))) NoStep

abbrev counting : Bool → Steps
counting u = Then (Eval (Set (Global u 0) (n_plus_one u))) (printing u)

-- BEGIN { n = n + 1; print n }
abbrev script : Bool → Program
script u = record {
  texts = [];
  lenders = [];
  globals = (record { name = codes "n"; kind = kind_for u; mixed = false }) ∷ [];
  routines = [];
  ranges = 0;
  begin = counting u;
  reads = false;
  items = NoStep;
  end = NoStep;
}

abbrev machine : Bool → ProgramForm
machine u = record { whole = module_of (script u); numbers = map import_number (imports_of (script u)) }

abbrev code : Bool → Steps → Instructions
code u ss = code_in (script u) (main_bases (script u)) ss zero zero zero zero Done

-- where the statement begins; the name's handle and its number
abbrev begun : Bool → ℕ → ℕ → Conf
begun u handle number = record {
  frame = record { values = []; labels = []; locals = map zero_of (local_types (main_bases (script u))); code = code u (counting u) };
  result = None;
  callers = [];
  memory = record { bytes = []; most = 0 };
  table = [];
  globals = I32 0 ∷ (I64 0 ∷ (I32 minus_one ∷ (I32 handle ∷ (I64 number ∷ []))));
}

abbrev code_there : Option Conf → Option Instructions
code_there c = option_map (λ (d : Conf). d.frame.code) c

abbrev names_there : Option Conf → Option (List Word)
names_there c = option_map (λ (d : Conf). d.globals) c

-- 5 is not the number by which a text stands beside
abbrev IsFew : Option Word → Type 0
IsFew (Some (I64 n)) = T (nat_lt n 6)
IsFew _ = ⊥

abbrev no_mark : Some (I64 5) ≢ Some (I64 text_beside)
no_mark e = subst IsFew e tt

-- there the first law speaks of it
pub begins_sum : AtSum (script true) (begun true minus_one 5)
begins_sum = record {
  bases = main_bases (script true);
  target = Global true 0;
  expression = n_plus_one true;
  next = Eval (Over (Print to.Standard) (At (Get (Global true 0)) End));
  further = NoStep;
  iterators = zero;
  out = zero;
  breaking = zero;
  continuing = zero;
  after = Done;
  code = refl;
  target_is = (refl, no_mark);
  sum = joined Plus _ _ tt (name (Global true 0) (refl, no_mark)) (constant (pos 1));
}

-- 9 steps, none of which calls an import, to the next statement; then n is 6
pub quiet_statement : code_there (host_call_free (machine true) 9 (begun true minus_one 5)) ≡ Some (code true (printing true))
unfolding emitted all_emitted step_emitted steps_emitted
quiet_statement = refl

pub six_then : names_there (host_call_free (machine true) 9 (begun true minus_one 5)) ≡ Some (I32 0 ∷ (I64 0 ∷ (I32 minus_one ∷ (I32 minus_one ∷ (I64 6 ∷ [])))))
unfolding emitted all_emitted step_emitted steps_emitted
six_then = refl

-- a sum out of range: by the code of all cases, after 16 steps the call that keeps the fault is next
pub out_of_range : code_there (host_call_free (machine true) 16 (begun true minus_one (2 ^ 53))) ≡
    Some (renumbered (called_imports (script true)) (emit (I32Const (fault_number Range)) (ask_row row.Fail (emit (Br 2) Done))))
unfolding emitted all_emitted step_emitted steps_emitted
out_of_range = refl

-- a text beside n, of handle 7: it is copied, which calls an import
pub text_there : (is_some (host_call_free (machine true) 14 (begun true 7 text_beside)) ≡ true) × (is_none (host_call_free (machine true) 15 (begun true 7 text_beside)) ≡ true)
unfolding emitted all_emitted step_emitted steps_emitted
text_there = (refl, refl)

-- where n is boxed its value is copied, which calls an import
pub boxed_statement : (is_some (host_call_free (machine false) 3 (begun false 7 0)) ≡ true) × (is_none (host_call_free (machine false) 4 (begun false 7 0)) ≡ true)
unfolding emitted all_emitted step_emitted steps_emitted
boxed_statement = (refl, refl)

abbrev lending : Option ℕ → Program
lending lender = record (script true) { lenders = lender ∷ [] }

pub own_parameter : IsLaned (lending None) (Unboxed ∷ []) (λ i. ⊥) (Parameter true 0)
own_parameter = (refl, refl)

pub lent_parameter : IsLaned (lending (Some 0)) (Unboxed ∷ []) (λ i. ⊥) (Parameter true 0) → ⊥
lent_parameter h = let e : Some 0 ≡ None = h.1 in cc
