-- A folded program runs as before.
use Rattle.std.proofs.Common.{◌≡◌, ℕ, zero, suc, List, [], ◌∷◌, map, refl, ap, sym, subst}
use Rattle.mid_program.specs.Mid.{Kind, Routine, Program, parameters_at}
use Rattle.mid_program.specs.MidMeaning.{routine_at, routine_name}
use Rattle.sem_scripts.specs.Names.{Name}
use Rattle.mid_program.specs.Sorted.{calls_of}
use Rattle.mid_program.specs.Alike.{AlikeKinds}
use Rattle.mid_program.specs.Rewritten.{SameSlots, Rewritten}
use Rattle.mid_program.specs.SameRuns.{SameRuns}
use Rattle.mid_program.proofs.Outcomes.{like_self}
use Rattle.mid_program.proofs.Runs.{runs_same}
use Rattle.mid_program.proofs.Seen.{alike_self}
use Rattle.folding.specs.Folding.{same, reduced, folded_steps, folded_routine, fold}
use Rattle.folding.proofs.Reduced.{reduced_same}

abbrev parameters_of : Routine → List Kind
parameters_of r = r.parameters

pub calls_kept : (rs : List Routine) → map parameters_of (map folded_routine rs) ≡ map parameters_of rs
calls_kept [] = refl
calls_kept (r ∷ rs) = ap (λ (kss : List (List Kind)). r.parameters ∷ kss) (calls_kept rs)

pub names_kept : (rs : List Routine) → map routine_name rs ≡ map routine_name (map folded_routine rs)
names_kept [] = refl
names_kept (r ∷ rs) = ap (λ (ns : List Name). routine_name r ∷ ns) (names_kept rs)

bodies_kept : (rs : List Routine) (f : ℕ) → folded_steps (routine_at rs f).body ≡ (routine_at (map folded_routine rs) f).body
bodies_kept [] f = refl
bodies_kept (r ∷ rs) zero = refl
bodies_kept (r ∷ rs) (suc f) = bodies_kept rs f

pub same_places : SameSlots same
same_places = record { reads = λ x s. like_self _ (λ a. refl) _; stores = λ x v. refl }

pub heads_alike : (p : Program) (f : ℕ) → AlikeKinds (parameters_at (calls_of p) f) (parameters_at (calls_of (fold p)) f)
heads_alike p f = subst (λ (kss : List (List Kind)). AlikeKinds (parameters_at (calls_of p) f) (parameters_at kss f)) (sym (calls_kept p.routines)) (alike_self (parameters_at (calls_of p) f))

abbrev rewritten : (p : Program) → Rewritten p (fold p)
rewritten p = record {
  operation = reduced;
  slots = λ f. same;
  main_slots = same;
  same_slots = λ f. same_places;
  same_main = same_places;
  same_operations = reduced_same p.texts (calls_of (fold p));
  texts = refl;
  heads = heads_alike p;
  names = refl;
  functions = names_kept p.routines;
  bodies = bodies_kept p.routines;
  begin = refl;
  reads = refl;
  items = refl;
  end = refl;
}

pub folds : (p : Program) → SameRuns (fold p) p
folds p = runs_same p (fold p) (rewritten p)
