-- The machine shows what a program does, if it is helped: if expressions do what they mean where calls inside them do, and if assignments and reading the main input do.
use Rattle.std.proofs.Common.{◌≡◌, ℕ, suc, ◌+◌, ◌<◌, ◌≤◌, Bool, true, false, List, [], ◌++◌, length, refl, arith}
use Rattle.std.specs.Prelude.{T, ◌&&◌}
use Rattle.std.proofs.lemmas.Bool.{and_parts}
use Rattle.sem_primitives.specs.Jobs.{fault_of_job}
use Rattle.mid_program.specs.Mid.{Kind, Program, Code}
use Rattle.mid_program.specs.MidMeaning.{routine_at}
use Rattle.sem_scripts.specs.ScriptRun.{unless}
use Rattle.sem_scripts.specs.ScriptState.{Local}
use Rattle.lower_model.specs.Noted.{noted_called}
use Rattle.lower_model.proofs.Lending.{Lends, called_lends}
use Rattle.mid_program.specs.Sorted.{IsSorted, is_sorted, are_lenders, all_differ, announced_names, routines_sorted, parts_sorted, steps_sorted, context_of, kinds_of}
use Rattle.lower_model.specs.Follows.{FollowsNoted, EmissionNotes}
use Rattle.lower_model.specs.Functions.{main_bases}
use Rattle.lower_model.specs.Machine.{Frame}
use Rattle.lower_model.specs.Places.{Bases}
use Rattle.lower_model.proofs.Observer.{Observer, watched}
use Rattle.lower_model.proofs.Relation.{globals_told, routines_told}
use Rattle.lower_model.proofs.Simulation.{ExprOk}
use Rattle.lower_model.proofs.StatementForms.{steps_work}
use Rattle.lower_model.proofs.Functions.{CallsOk, routine_work, routines_work, routine_within, calls_ok}
use Rattle.lower_model.proofs.Parts.{going_work}
use Rattle.lower_model.proofs.Records.{Reading}
use Rattle.lower_model.proofs.Mains.{Starting, ends_well, main_meant, main_ok}
use Rattle.lower_model.proofs.Announcing.{tell_work, make_work}
use Rattle.lower_model.proofs.Endings.{main_exit_work, shown}
use Rattle.lower_model.proofs.Exits.{begin_work}
use Rattle.lower_model.proofs.Beginnings.{begins, named_meant}
use Rattle.lower_model.proofs.Wholes.{whole_ok}

pub is_true : (t : Bool) → T t → t ≡ true
is_true true h = refl
is_true false h = absurd h

-- What is assumed, for every bound M from one on, and for all settings and turns: expressions do what they mean where calls inside them do; the assignments before BEGIN are made; the main
-- input is read.
pub record Helped (p : Program) : Type 1 where
  pub least : ℕ
  pub first_work : ℕ
  pub read_work : ℕ
  pub exprs : (M : ℕ) (deepest : Observer) (n : ℕ) → least ≤ M → CallsOk p deepest M n → ((f : ℕ) (os : List Local) → Lends p (noted_called deepest.notes p n f os)) → (ks : List Kind) (F : List Frame) (b : Bases) (e : Code) → ExprOk p deepest ks F b M n e
  pub starting : (M : ℕ) (deepest : Observer) (n : ℕ) → least ≤ M → Starting p deepest (main_bases p) M n first_work
  pub reading : (M : ℕ) (deepest : Observer) (n : ℕ) → least ≤ M → Reading p deepest (main_bases p) M n read_work

module _ (p : Program) (ok : IsSorted p) (h : Helped p) where
  abbrev all_inside : Bool
  all_inside = routines_sorted p p.routines && parts_sorted p (context_of p [])

  abbrev sorts : (all_differ (announced_names p) ≡ true) × (are_lenders (kinds_of p.globals) p.lenders && all_inside ≡ true)
  sorts = and_parts (all_differ (announced_names p)) (are_lenders (kinds_of p.globals) p.lenders && all_inside) (is_true (is_sorted p) ok)

  abbrev lenders : (are_lenders (kinds_of p.globals) p.lenders ≡ true) × (all_inside ≡ true)
  lenders = and_parts (are_lenders (kinds_of p.globals) p.lenders) all_inside sorts.1

  abbrev inner : (routines_sorted p p.routines ≡ true) × (parts_sorted p (context_of p []) ≡ true)
  inner = and_parts (routines_sorted p p.routines) (parts_sorted p (context_of p [])) lenders.1

  abbrev begun_sorted : (steps_sorted (context_of p []) false false p.begin ≡ true) × (steps_sorted (context_of p []) false false p.items && steps_sorted (context_of p []) false false p.end ≡ true)
  begun_sorted = and_parts (steps_sorted (context_of p []) false false p.begin) (steps_sorted (context_of p []) false false p.items && steps_sorted (context_of p []) false false p.end) inner.1

  abbrev ended_sorted : (steps_sorted (context_of p []) false false p.items ≡ true) × (steps_sorted (context_of p []) false false p.end ≡ true)
  ended_sorted = and_parts (steps_sorted (context_of p []) false false p.items) (steps_sorted (context_of p []) false false p.end) begun_sorted.1

  -- how many steps `main` takes at most, beside those that turns pay
  abbrev parts_bound : ℕ
  parts_bound = h.first_work + (((steps_work p.begin + 17) + ((going_work (main_bases p) + 12) + 3)) + (1 + (steps_work p.end + ((going_work (main_bases p) + 12) + 3))))

  abbrev names_bound : ℕ
  names_bound = tell_work (globals_told p.globals [] ++ routines_told p.routines) + make_work (kinds_of p.globals)

  abbrev main_bound : ℕ
  main_bound = (begin_work (main_bases p) + 1) + ((main_exit_work (main_bases p) + 4) + (4 + (names_bound + (parts_bound + (main_exit_work (main_bases p) + 1)))))

  -- one bound for all
  abbrev bound : ℕ
  bound = h.least + (routines_work p.routines + (main_bound + ((steps_work p.items + (going_work (main_bases p) + 11)) + (h.read_work + 30))))

  routines_few : (f : ℕ) → f < length p.routines → suc (routine_work (routine_at p.routines f)) ≤ bound
  routines_few f lt = let q = routine_within p.routines f lt in omega (arith, q)

  exprs_of_main : (deepest : Observer) (n : ℕ) (e : Code) → ExprOk p deepest [] [] (main_bases p) bound n e
  exprs_of_main deepest n e = h.exprs bound deepest n (omega arith)
      (calls_ok p deepest bound inner.0 routines_few (λ m c. h.exprs bound deepest m (omega arith) c (called_lends p lenders.0 inner.0 deepest.notes m)) n)
      (called_lends p lenders.0 inner.0 deepest.notes n) [] [] (main_bases p) e

  -- the machine shows what the program does, whatever is noted
  pub follows : FollowsNoted p
  follows = record {
    bound = bound;
    shown = λ notes s turns.
        let b = main_bases p in
        let d = watched notes s in
        let es = exprs_of_main d turns in
        let start = h.starting bound d turns (omega arith) in
        let read = h.reading bound d turns (omega arith) in
        let meant = main_meant p d b bound turns es begun_sorted.0 ended_sorted.0 ended_sorted.1 (omega arith) (omega arith) (omega arith) (omega arith) (omega arith) (omega arith) (omega arith) (omega arith) (omega arith) (omega arith) (omega arith) (omega arith) h.first_work h.read_work start read (omega arith) in
        shown p notes s bound main_bound turns (omega arith) (unless (fault_of_job s.job) (named_meant p notes s b turns sorts.0 meant) (begins p notes s b turns sorts.0))
        (whole_ok p notes s bound turns sorts.0 lenders.0 (omega arith) (parts_bound + (main_exit_work b + 1)) meant
        (λ l σ st. ends_well p d b bound turns parts_bound σ.turns _ (meant σ) refl
        (main_ok p d b bound turns es begun_sorted.0 ended_sorted.0 ended_sorted.1 (omega arith) (omega arith) (omega arith) (omega arith) (omega arith) (omega arith) (omega arith) (omega arith) (omega arith) (omega arith) (omega arith) (omega arith) h.first_work h.read_work start read (omega arith) _ l σ st)));
  }

pub emission_notes : ((p : Program) → IsSorted p → Helped p) → EmissionNotes
emission_notes helped p ok = follows p ok (helped p ok)
