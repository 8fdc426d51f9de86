-- Code with constants computed and names in their lanes does what the tree does.
use Rattle.std.proofs.Common.{◌≡◌, ℕ, List, Option, Some, None, refl, sym, ◌∙◌}
use Rattle.awk_grammar.specs.Trees.{Stmt, Tree}
use Rattle.folding.specs.Folding.{same, reduced}
use Rattle.folding.proofs.Folds as folded
use Rattle.folding.proofs.Reduced.{reduced_same}
use Rattle.sem_scripts.specs.Meaning.{Calls}
use Rattle.mid_program.specs.Mid.{Kind, Slot, Do, parameters_at}
use Rattle.mid_program.specs.MidMeaning.{evaluated, holds, keyed, stepped}
use Rattle.sem_scripts.specs.Names.{Scope, Variable}
use Rattle.sem_scripts.specs.Statements.{test_of, maybe_test, done_by}
use Rattle.sem_scripts.specs.Steps.{store_variable}
use Rattle.mid_program.specs.Texts.{texts_in, maybe_texts, stmt_texts}
use Rattle.mid_program.specs.Translation.{code_of, moved, store_variable_code, test_code, step_code}
use Rattle.mid_meaning.proofs.Stands.{AllStand}
use Rattle.mid_meaning.proofs.Statements as code
use Rattle.mid_meaning.proofs.Trees.{Heads}
use Rattle.mid_program.proofs.Congruence as rewritten
use Rattle.mid_program.specs.Alike.{AlikeKinds}
use Rattle.mid_program.specs.Rewriting.{code_in, step_in}
use Rattle.mid_program.specs.Rewritten.{SameSlots}
use Rattle.value_kinds.proofs.Applies.{operations_stay}
use Rattle.agreement.specs.Spots.Places.{final_code, final}

-- tests, keys and statements do the same, whatever calls do
pub record DoesSo (slots : Slot → Slot) (texts : List (List ℕ)) (parameters : List (List Kind)) (n : ℕ) (calls : Calls) (scope : Scope) : Type 0 where
  pub tests : (t : Tree) → AllStand texts (texts_in t) → holds texts parameters n calls (final_code slots (code_of texts scope t)) ≡ test_of scope n calls t
  pub keys : (x : Variable) → keyed texts parameters n calls (final_code slots (store_variable_code x (moved 0))) ≡ store_variable x
  pub statements : (s : Stmt) → AllStand texts (stmt_texts s) → stepped texts parameters n calls (final slots (step_code texts scope s)) ≡ done_by scope n calls s

pub maybe_tests : (slots : Slot → Slot) (texts : List (List ℕ)) (parameters : List (List Kind)) (n : ℕ) (calls : Calls) (scope : Scope) → DoesSo slots texts parameters n calls scope →
    (c : Option Tree) → AllStand texts (maybe_texts c) → holds texts parameters n calls (final_code slots (test_code texts scope c)) ≡ maybe_test scope n calls c
unfolding evaluated
maybe_tests slots texts parameters n calls scope so None f = refl
maybe_tests slots texts parameters n calls scope so (Some t) f = so.tests t f

module _ (slots : Slot → Slot) (same_slots : SameSlots slots) (texts : List (List ℕ)) (ps rs qs : List (List Kind))
    (folds : (f : ℕ) → AlikeKinds (parameters_at ps f) (parameters_at rs f)) (applies : (f : ℕ) → AlikeKinds (parameters_at rs f) (parameters_at qs f))
    (n : ℕ) (calls : Calls) (scope : Scope) (heads : Heads ps scope) where
  pub does_so : DoesSo slots texts qs n calls scope
  does_so = record {
    tests = λ t f.
        sym (rewritten.holds_same texts ps rs folds n calls same reduced folded.same_places (reduced_same texts rs n calls) (code_of texts scope t)
        ∙ rewritten.holds_same texts rs qs applies n calls slots Do same_slots (operations_stay texts qs n calls) (code_in same reduced (code_of texts scope t)))
        ∙ code.holds_same texts ps n calls scope heads t f;
    keys = λ x.
        sym (rewritten.keyed_same texts ps rs folds n calls same reduced folded.same_places (reduced_same texts rs n calls) (store_variable_code x (moved 0))
        ∙ rewritten.keyed_same texts rs qs applies n calls slots Do same_slots (operations_stay texts qs n calls) (code_in same reduced (store_variable_code x (moved 0))))
        ∙ code.keyed_same texts ps n calls scope heads x;
    statements = λ s f.
        sym (rewritten.step_same texts ps rs folds n calls same reduced folded.same_places (reduced_same texts rs n calls) (step_code texts scope s)
        ∙ rewritten.step_same texts rs qs applies n calls slots Do same_slots (operations_stay texts qs n calls) (step_in same reduced (step_code texts scope s)))
        ∙ code.step_same texts ps n calls scope heads s f;
  }
