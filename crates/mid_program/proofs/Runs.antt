-- A program and what it becomes run alike.
use Rattle.std.proofs.Common.{◌≡◌, ℕ, zero, suc, List, refl, ap, sym, ◌∙◌}
use Rattle.mid_program.specs.Mid.{Slot, Steps, Program}
use Rattle.mid_program.specs.MidMeaning.{all_stepped, routine_at, mid_called, mid_done, mid_parts}
use Rattle.sem_scripts.specs.ScriptRun.{run_with}
use Rattle.sem_scripts.specs.ScriptState.{Local, ◌>>◌, nothing}
use Rattle.mid_program.specs.Sorted.{calls_of}
use Rattle.sem_scripts.specs.Statements.{entered}
use Rattle.mid_program.specs.Rewriting.{steps_in}
use Rattle.mid_program.specs.Rewritten.{SameSlots, Rewritten}
use Rattle.mid_program.specs.SameRuns.{SameRuns}
use Rattle.mid_program.proofs.Congruence.{steps_same}

module _ (p q : Program) (r : Rewritten p q) where
  done_same : (n : ℕ) → ((f : ℕ) (locals : List Local) → mid_called p n f locals ≡ mid_called q n f locals) → (slots : Slot → Slot) → SameSlots slots → (ss zs : Steps) → steps_in slots r.operation ss ≡ zs →
      all_stepped p.texts (calls_of p) n (mid_called p n) ss ≡ all_stepped q.texts (calls_of q) n (mid_called q n) zs
  done_same n calls slots same ss zs e =
      steps_same p.texts (calls_of p) (calls_of q) r.heads n (mid_called p n) slots r.operation same (r.same_operations n (mid_called p n)) ss
      ∙ (λ i. all_stepped (r.texts i) (calls_of q) n (λ f locals. calls f locals i) (e i))

  called_same : (n f : ℕ) (locals : List Local) → mid_called p n f locals ≡ mid_called q n f locals
  unfolding mid_called
  called_same zero f locals = refl
  called_same (suc n) f locals = λ i. entered locals (done_same n (called_same n) (r.slots f) (r.same_slots f) (routine_at p.routines f).body (routine_at q.routines f).body (r.bodies f) i)

  part_same : (n : ℕ) (ss zs : Steps) → steps_in r.main_slots r.operation ss ≡ zs → mid_done p n ss ≡ mid_done q n zs
  part_same n ss zs e = λ i. done_same n (called_same n) r.main_slots r.same_main ss zs e i >> nothing

  parts_same : (n : ℕ) → mid_parts n p ≡ mid_parts n q
  parts_same n = λ i. record {
    globals = r.names i;
    functions = r.functions i;
    begin = part_same n p.begin q.begin r.begin i;
    reads = r.reads i;
    items = part_same n p.items q.items r.items i;
    end = part_same n p.end q.end r.end i;
  }

  pub runs_same : SameRuns q p
  runs_same = λ setting turns. sym (ap (run_with setting turns) (parts_same turns))
