-- What runs take: `n` is unboxed, and no import is called where it counts.
use Rattle.std.specs.Prelude.{◌≡◌, ℕ, ◌+◌, Bool, true, false, List, [], ◌∷◌, codes, None, Some, pos, refl}
use Rattle.std.specs.Fmt.{digits}
use Rattle.awk_values.specs.declared.comparison.CompareOp.TheVariants.{Equal, Less, LessOrEqual}
use Rattle.awk_values.specs.declared.fault.Fault.TheVariants.{TextLimit}
use Rattle.world_core.specs.WorldState.{Standard, absent, puts}
use Rattle.world_core.specs.declared.world.Ending.TheVariants as outside
use Rattle.sem_primitives.specs.declared.constants.Destination.TheVariants as to
use Rattle.sem_primitives.specs.declared.table.Primitive.TheVariants.{Elem, Field, GetSpecial, SetElem, SetSpecial}
use Rattle.sem_primitives.specs.declared.table.Listed.TheVariants.{Print}
use Rattle.sem_scripts.specs.ScriptRun.{Setting, Ended, FaultedBy, setting_of}
use Rattle.mid_program.specs.declared.mid.Arithmetic.TheVariants.{Modulo, Plus, Times}
use Rattle.mid_program.specs.declared.mid.Operation.TheVariants.{AsNumber, Host, Inline}
use Rattle.sem_scripts.specs.Names.{Numbered}
use Rattle.mid_program.specs.Mid.{Kind, Boxed, Unboxed, ArrayKind, Global, Code, Do, Over, Compare, Number, Text, Array, Get, Set, Seq, Let, Bound, End, At, Fixed, Declared, Step, Eval, Block, If, Loop, Steps, NoStep, Then, Program}
use Rattle.mid_program.specs.Sorted.{sorted, all_sorted, step_sorted, steps_sorted, is_sorted}
use Rattle.lower_model.specs.Emission.{emitted, all_emitted}
use Rattle.lower_model.specs.Statements.{step_emitted, steps_emitted}
use Rattle.lower_model.specs.Machine.{Conf, go, ending_at, at, zeros}
use Rattle.lower_model.specs.Runs.{code_of, begun, host_at_start, first_globals, value_run}
use Rattle.lower_model.specs.Functions.{main_callee}
use Rattle.test_parts.specs.Counting.{imports_within, steps_within, next_boundary, imports_at}

abbrev pub plain_setting : Setting
plain_setting = setting_of (record { operands = []; assigns = []; environment = [] }) (record { rest = []; ending = outside.End }) (λ target. absent)

abbrev n_of : Bool → Code
n_of u = Get (Global u 0)

abbrev n_plus_one : Bool → Step
n_plus_one u = Eval (Set (Global u 0) (Do (Inline Plus) (At (n_of u) (At (Number (pos 1)) End))))

abbrev printed : Bool → Step
printed u = Eval (Over (Print to.Standard) (At (n_of u) End))

abbrev kind_for : Bool → Kind
kind_for true = Unboxed
kind_for false = Boxed

abbrev with_begin : Bool → Steps → Program
with_begin u ss = record {
  texts = [];
  lenders = [];
  globals = (record { name = codes "n"; kind = kind_for u; mixed = false })
      ∷ [];
  routines = [];
  ranges = 1;
  begin = ss;
  reads = false;
  items = NoStep;
  end = NoStep;
}

-- BEGIN { while (n < k) n = n + 1; print n }
abbrev counting : Bool → ℕ → Program
counting u k = with_begin u (Then (Loop true (Compare Less (n_of u) (Number (pos k))) (n_plus_one u) (Block NoStep)) (Then (printed u) NoStep))

-- BEGIN { n = n + 1; print n }
abbrev one_count : Program
one_count = with_begin true (Then (n_plus_one true) (Then (printed true) NoStep))

abbrev pub imports_of : Program → ℕ
imports_of p = imports_within (code_of p 9999) 4000 (begun p plain_setting)

abbrev pub steps_of : Program → ℕ
steps_of p = steps_within (code_of p 9999) 4000 (begun p plain_setting)

pub counted_to_ten : value_run (counting true 10) plain_setting 2000 ≡ Some (Ended 0 (puts Standard (codes "10\n")))
unfolding emitted all_emitted step_emitted steps_emitted digits
counted_to_ten = refl

-- as many imports for 10 rounds as for 20
pub imports_of_counting : imports_of (counting true 20) ≡ imports_of (counting true 10)
unfolding emitted all_emitted step_emitted steps_emitted digits
imports_of_counting = refl

-- from the boundary of `n = n + 1` to that of the next statement no import is called
pub no_import_between : imports_at (code_of one_count 9999) 200 (next_boundary (code_of one_count 9999) 200 (begun one_count plain_setting)) ≡ 0
unfolding emitted all_emitted step_emitted steps_emitted digits
no_import_between = refl

-- where a fault is kept from the start the module ends with it, and has put nothing out
abbrev faulted_at_start : Program → Conf
faulted_at_start p =
    let f = main_callee p in
    at [] [] [] (zeros f.locals) [] f.body (record {
      globals = first_globals p;
      host = record
          (host_at_start plain_setting) { fault = Some TextLimit };
      assigning = None;
    })

pub kept_from_the_start : ending_at (go (code_of (counting false 3) 9999) 1000 (faulted_at_start (counting false 3))) ≡ Some (FaultedBy TextLimit [])
unfolding emitted all_emitted step_emitted steps_emitted digits
kept_from_the_start = refl

-- 15 steps a round and no import; boxed, 44 steps and 7 imports
pub unboxed_rounds : (steps_of (counting true 10) ≡ 286) × ((steps_of (counting true 20) ≡ 436) × (imports_of (counting true 10) ≡ 7))
unfolding emitted all_emitted step_emitted steps_emitted digits
unboxed_rounds = (refl, (refl, refl))

pub boxed_rounds : (steps_of (counting false 10) ≡ 514)
    × ((steps_of (counting false 20) ≡ 954) × ((imports_of (counting false 10) ≡ 81) × (imports_of (counting false 20) ≡ 151)))
unfolding emitted all_emitted step_emitted steps_emitted digits
boxed_rounds = (refl, (refl, (refl, refl)))

-- BEGIN { NF = k; while (n < NF) n = n + 1 }
abbrev walking : ℕ → Program
walking k = with_begin true
    (Then (Eval (Do (Host SetSpecial) (Fixed 5 (At (Number (pos k)) End))))
    (Then (Loop true (Compare Less (n_of true) (Do (Host GetSpecial) (Fixed 5 End))) (n_plus_one true) (Block NoStep)) NoStep))

-- 19 steps a round, and 2 imports
pub walking_rounds : (steps_of (walking 20) ≡ steps_of (walking 10) + 190) × (imports_of (walking 20) ≡ imports_of (walking 10) + 20)
unfolding emitted all_emitted step_emitted steps_emitted digits
walking_rounds = (refl, refl)

-- BEGIN { m = k; for (i = 1; i <= m; i++) s += i; print s }: m, i and s in this order
abbrev nth : ℕ → Code
nth i = Get (Global true i)

abbrev unboxed_name : List ℕ → Declared
unboxed_name x = record { name = x; kind = Unboxed; mixed = false }

abbrev first_and_next : Steps
first_and_next =
    Then (Eval (Set (Global true 1) (Number (pos 1))))
    (Then (Loop true (Compare LessOrEqual (nth 1) (nth 0))
    (Eval (Let (nth 1) (Set (Global true 2) (Do (Inline Plus) (At (nth 2) (At (Bound true 0) End))))))
    (Eval (Let (Do AsNumber (At (nth 1) End)) (Let (Do (Inline Plus) (At (Bound false 0) (At (Number (pos 1)) End)))
    (Seq (Set (Global true 1) (Bound true 0)) (Bound true 1))))))
    NoStep)

abbrev summing : ℕ → Program
summing k = record {
  texts = [];
  lenders = [];
  globals = unboxed_name (codes "m") ∷ (unboxed_name (codes "i") ∷ (unboxed_name (codes "s") ∷ []));
  routines = [];
  ranges = 1;
  begin = Then (Eval (Set (Global true 0) (Number (pos k)))) (Then (Block first_and_next) (Then (Eval (Over (Print to.Standard) (At (nth 2) End))) NoStep));
  reads = false;
  items = NoStep;
  end = NoStep;
}

pub summed_to_ten : is_sorted (summing 10) ≡ true × value_run (summing 10) plain_setting 2000 ≡ Some (Ended 0 (puts Standard (codes "55\n")))
unfolding emitted all_emitted step_emitted steps_emitted digits sorted all_sorted step_sorted steps_sorted
summed_to_ten = (refl, refl)

-- 35 steps a round
pub summing_rounds : (steps_of (summing 10) ≡ 474) × (steps_of (summing 20) ≡ 824)
unfolding emitted all_emitted step_emitted steps_emitted digits
summing_rounds = (refl, refl)

-- BEGIN { while (n < k) { n = n + 1; c["x"]++ } }
abbrev counter : Code
counter =
    Let (Text 0) (Let (Do AsNumber (At (Do (Host Elem) (At (Array (Numbered 2)) (At (Bound false 0) End))) End))
    (Let (Do (Inline Plus) (At (Bound false 0) (At (Number (pos 1)) End)))
    (Seq (Do (Host SetElem) (At (Array (Numbered 2)) (At (Bound true 2) (At (Bound true 0) End)))) (Bound true 1))))

abbrev tallying : ℕ → Program
tallying k = record {
  texts = codes "x" ∷ [];
  lenders = [];
  globals = unboxed_name (codes "n") ∷ ((record { name = codes "c"; kind = ArrayKind; mixed = false }) ∷ []);
  routines = [];
  ranges = 1;
  begin = Then (Loop true (Compare Less (n_of true) (Number (pos k))) (Block (Then (n_plus_one true) (Then (Eval counter) NoStep))) (Block NoStep)) NoStep;
  reads = false;
  items = NoStep;
  end = NoStep;
}

-- 44 steps a round, 28 of them and all 6 imports for the counter
pub tallying_rounds : (steps_of (tallying 20) ≡ steps_of (tallying 10) + 440) × (imports_of (tallying 20) ≡ imports_of (tallying 10) + 60)
unfolding emitted all_emitted step_emitted steps_emitted digits
tallying_rounds = (refl, refl)

-- BEGIN { x = 1; while (n < k) { n = n + 1; x = x * 3 % 7 } print x }: n and x in this order
abbrev residue : Step
residue = Eval (Set (Global true 1) (Do (Inline Modulo) (At (Do (Inline Times) (At (nth 1) (At (Number (pos 3)) End))) (At (Number (pos 7)) End))))

abbrev dividing : ℕ → Program
dividing k = record {
  texts = [];
  lenders = [];
  globals = unboxed_name (codes "n") ∷ (unboxed_name (codes "x") ∷ []);
  routines = [];
  ranges = 1;
  begin = Then (Eval (Set (Global true 1) (Number (pos 1))))
      (Then (Loop true (Compare Less (n_of true) (Number (pos k))) (Block (Then (n_plus_one true) (Then residue NoStep))) (Block NoStep))
      (Then (Eval (Over (Print to.Standard) (At (nth 1) End))) NoStep));
  reads = false;
  items = NoStep;
  end = NoStep;
}

-- 3 to the power of 10 is 4 of 7
pub divided_to_ten : is_sorted (dividing 10) ≡ true × value_run (dividing 10) plain_setting 2000 ≡ Some (Ended 0 (puts Standard (codes "4\n")))
unfolding emitted all_emitted step_emitted steps_emitted digits sorted all_sorted step_sorted steps_sorted
divided_to_ten = (refl, refl)

-- 26 steps a round, 11 of them for the remainder, and no import
pub dividing_rounds : (steps_of (dividing 20) ≡ steps_of (dividing 10) + 260) × (imports_of (dividing 20) ≡ imports_of (dividing 10))
unfolding emitted all_emitted step_emitted steps_emitted digits
dividing_rounds = (refl, refl)

-- BEGIN { while (n < k) { n = n + 1; s += $1 } }: n and s in this order
abbrev field_added : Step
field_added = Eval (Let (Do (Host Field) (At (Number (pos 1)) End)) (Set (Global true 1) (Do (Inline Plus) (At (nth 1) (At (Bound true 0) End)))))

abbrev adding : ℕ → Program
adding k = record {
  texts = [];
  lenders = [];
  globals = unboxed_name (codes "n") ∷ (unboxed_name (codes "s") ∷ []);
  routines = [];
  ranges = 1;
  begin = Then (Loop true (Compare Less (n_of true) (Number (pos k))) (Block (Then (n_plus_one true) (Then field_added NoStep))) (Block NoStep)) NoStep;
  reads = false;
  items = NoStep;
  end = NoStep;
}

-- 37 steps a round, 21 of them and both imports for the sum
pub adding_rounds : is_sorted (adding 10) ≡ true × ((steps_of (adding 20) ≡ steps_of (adding 10) + 370) × (imports_of (adding 20) ≡ imports_of (adding 10) + 20))
unfolding emitted all_emitted step_emitted steps_emitted digits sorted all_sorted step_sorted steps_sorted
adding_rounds = (refl, (refl, refl))

-- BEGIN { while (n < k) { n = n + 1; if ($1 == "x") n = n + 1 } }
abbrev field_compared : Step
field_compared = If (Compare Equal (Do (Host Field) (At (Number (pos 1)) End)) (Text 0)) (n_plus_one true) (Block NoStep)

abbrev comparing : ℕ → Program
comparing k = record {
  texts = codes "x" ∷ [];
  lenders = [];
  globals = unboxed_name (codes "n") ∷ [];
  routines = [];
  ranges = 1;
  begin = Then (Loop true (Compare Less (n_of true) (Number (pos k))) (Block (Then (n_plus_one true) (Then field_compared NoStep))) (Block NoStep)) NoStep;
  reads = false;
  items = NoStep;
  end = NoStep;
}

-- 33 steps a round where the test fails: 16 of the loop and of its block, 17 of the choice, with an empty statement
pub comparing_rounds : is_sorted (comparing 10) ≡ true × ((steps_of (comparing 20) ≡ steps_of (comparing 10) + 330) × (imports_of (comparing 20) ≡ imports_of (comparing 10) + 30))
unfolding emitted all_emitted step_emitted steps_emitted digits sorted all_sorted step_sorted steps_sorted
comparing_rounds = (refl, (refl, refl))
