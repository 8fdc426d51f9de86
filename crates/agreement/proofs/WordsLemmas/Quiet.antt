-- Statements on names to which nothing assigns are on such names whatever it is that assigns less.
use Rattle.std.proofs.Common.{ℕ, true, false, List}
use Rattle.awk_grammar.specs.Trees.{Tree}
use Rattle.wasm_model.specs.Machines.{Conf}
use Rattle.host_step.specs.HostState.{HostState}
use Rattle.mid_program.specs.Mid.{Global, Kind, Parameter, Program, Slot}
use Rattle.sem_scripts.specs.Names.{Reserved, Scope, Variable}
use Rattle.sem_scripts.specs.Names as names
use Rattle.value_kinds.specs.Applied.{slot_in}
use Rattle.agreement.specs.Places.NoLeaks.{AtStatement}
use Rattle.agreement.specs.Quiet.Laned.{AtNumeric, IsLaned}
use Rattle.agreement.specs.Quiet.Statements.{IsNumeric, IsSo, added, constant, group, multiplied, name, signed}

module _ (p : Program) (kinds : List Kind) (A B : ℕ → Type 0) (less : (i : ℕ) → B i → A i) where
  pub laned_so : (x : Slot) → IsLaned p kinds A x → IsLaned p kinds B x
  laned_so (Global true i) h = (h.0, h.1, λ q. h.2 (less i q))
  laned_so (Parameter true i) h = h
  laned_so (Global false i) h = absurd h
  laned_so (Parameter false i) h = absurd h

  module _ (gs ps : List Kind) where
    pub name_so : (x : Variable) → IsSo (IsLaned p kinds A) gs ps x → IsSo (IsLaned p kinds B) gs ps x
    name_so (names.Global i) h = laned_so (slot_in gs ps (Global false i)) h
    name_so (names.Parameter i) h = laned_so (slot_in gs ps (Parameter false i)) h
    name_so (Reserved s) h = absurd h

    pub numeric_so : (scope : Scope) (t : Tree) → IsNumeric (IsSo (IsLaned p kinds A) gs ps) scope t → IsNumeric (IsSo (IsLaned p kinds B) gs ps) scope t
    numeric_so scope _ (constant text) = constant text
    numeric_so scope _ (name x h) = name x (name_so _ h)
    numeric_so scope _ (group t q) = group t (numeric_so scope t q)
    numeric_so scope _ (signed s t q) = signed s t (numeric_so scope t q)
    numeric_so scope _ (added s a b q r) = added s a b (numeric_so scope a q) (numeric_so scope b r)
    numeric_so scope _ (multiplied a b q r) = multiplied a b (numeric_so scope a q) (numeric_so scope b r)

abbrev pub at_numeric : (p : Program) (c : Conf) (s : HostState) (here : AtStatement p c s) (A B : ℕ → Type 0) → ((i : ℕ) → B i → A i) → AtNumeric p c s here A → AtNumeric p c s here B
at_numeric p c s here A B less a = record {
  bases = a.bases;
  parameters = a.parameters;
  texts = a.texts;
  scope = a.scope;
  globals_lanes = a.globals_lanes;
  parameters_lanes = a.parameters_lanes;
  target = a.target;
  expression = a.expression;
  next = a.next;
  further = a.further;
  iterators = a.iterators;
  out = a.out;
  breaking = a.breaking;
  continuing = a.continuing;
  after = a.after;
  code = a.code;
  target_is = name_so p here.at.function.kinds A B less a.globals_lanes a.parameters_lanes _ a.target_is;
  numeric = numeric_so p here.at.function.kinds A B less a.globals_lanes a.parameters_lanes a.scope a.expression a.numeric;
}
