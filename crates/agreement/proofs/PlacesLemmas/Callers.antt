-- Callers that wait have few operands pending: the place of the call in the code of a function says how many, and these are few.
use Rattle.std.proofs.Common.{◌≡◌, ℕ, zero, suc, ◌+◌, ◌≤◌, true, List, [], ◌∷◌, ◌++◌, length, map, get_or, slice_get, Option, Some, ap, ◌∙◌, subst, arith}
use Rattle.std.proofs.lemmas.Bool.{leb-true}
use Rattle.std.proofs.lemmas.Option.{none-some, slice_get-get_or}
use Rattle.sem_primitives.specs.declared.sorts.Sort.{Sort}
use Rattle.wasm_model.specs.Machines.{CallerForm, Conf}
use Rattle.host_step.specs.HostState.{HostState}
use Rattle.mid_program.specs.Mid.{Program, Routine}
use Rattle.lower_model.specs.Functions.{main_callee, routine_callee}
use Rattle.lower_model.specs.Machine.{Callee, answers_to}
use Rattle.lower_model.specs.Modules.{all_callees, called_imports}
use Rattle.agreement.proofs.RefinedLemmas.ImportAnswers.{some_of}
use Rattle.agreement.specs.Places.Alive.{values_waiting}
use Rattle.agreement.specs.Places.NoLeaks.{AtStatement, CallerWaits, CallersWait}
use Rattle.agreement.specs.Places.Pending.{AllFewPending, FewAlive, FewPending, values_within}
use Rattle.agreement.proofs.PlacesLemmas.Alive.{values_alive}
use Rattle.agreement.proofs.PlacesLemmas.Pending.{PartsFew, RoutinesFew, call_within, calls_fit, limit_of}
use Rattle.agreement.proofs.PlacesLemmas.Stepping.{main_few, routine_few}
use Rattle.agreement.proofs.PlacesLemmas.Waiting.{answers_same}

abbrev AllFit : List ℕ → List Callee → Type 0
AllFit [] [] = Unit {0}
AllFit (n ∷ ns) (f ∷ fs) = (calls_fit (limit_of f n) f.body ≡ true) × AllFit ns fs
AllFit _ _ = ⊥

fit_at : (ns : List ℕ) (fs : List Callee) (k : ℕ) (f : Callee) → AllFit ns fs → slice_get fs k ≡ Some f → calls_fit (limit_of f (get_or ns k 0)) f.body ≡ true
fit_at ns [] k f h e = absurd (none-some f e)
fit_at [] (g ∷ fs) k f h e = absurd h
fit_at (n ∷ ns) (g ∷ fs) zero f h e = subst (λ (z : Callee). calls_fit (limit_of z n) z.body ≡ true) (some_of g f e) h.0
fit_at (n ∷ ns) (g ∷ fs) (suc k) f h e = fit_at ns fs k f h.1 e

values_few : (limits : List ℕ) (p : Program) (rest : List (List (Option Sort))) (rs : List CallerForm) (h : CallersWait p rest rs) (few : AllFewPending limits p rest rs h) →
    values_waiting p rest rs h ≤ values_within limits p rest rs h few
values_few limits p [] rs h few = omega arith
values_few limits p (os ∷ rest) [] h few = omega arith
values_few limits p (os ∷ rest) (r ∷ rs) h few =
    let x = few.0.few in
    let y = values_few limits p rest rs h.1 few.1 in
    omega (arith, x, y)

module _ (p : Program) where
  all_fit : (ns : List ℕ) (m : ℕ) → RoutinesFew ns p.routines → PartsFew m p → AllFit (ns ++ m ∷ []) (all_callees p)
  all_fit ns m few parts = by ns p.routines few
    where
      by : (ns : List ℕ) (rs : List Routine) → RoutinesFew ns rs → AllFit (ns ++ m ∷ []) (map (routine_callee p) rs ++ main_callee p ∷ [])
      by [] [] h = (main_few p m parts, tt)
      by [] (r ∷ rs) h = absurd h
      by (n ∷ ns) [] h = absurd h
      by (n ∷ ns) (r ∷ rs) h = (routine_few p r n h.0, by ns rs h.1)

  module _ (limits : List ℕ) (fit : AllFit limits (all_callees p)) where
    caller_few : (os : List (Option Sort)) (r : CallerForm) (w : CallerWaits p os r) → FewPending limits p os r w
    caller_few os r w =
        let k = w.is_function.0 in
        let n = get_or limits k 0 in
        let there : slice_get (all_callees p) k ≡ Some w.function = slice_get-get_or (all_callees p) k w.function w.is_function.1 ∙ ap Some w.is_function.2 in
        let within : answers_to w.place ≤ suc (length w.function.kinds) + (n + n) = leb-true (answers_to w.place) (suc (length w.function.kinds) + (n + n)) (call_within (limit_of w.function n) w.function.body w.place w.called w.is_place (fit_at limits (all_callees p) k w.function fit there)) in
        let same : answers_to r.frame.code ≡ answers_to w.place = ap answers_to w.at_place ∙ answers_same (called_imports p) w.place in
        let to = w.answer_to in
        record { number = k; is_number = there; few = omega (arith, within, same, to) }

    callers_few : (rest : List (List (Option Sort))) (rs : List CallerForm) (h : CallersWait p rest rs) → AllFewPending limits p rest rs h
    callers_few [] rs h = tt
    callers_few (os ∷ rest) [] h = tt
    callers_few (os ∷ rest) (r ∷ rs) h = (caller_few os r h.0, callers_few rest rs h.1)

  -- WHERE A STATEMENT BEGINS callers have few operands pending, where the code of the program has few under each call
  pub few_alive : (ns : List ℕ) (m : ℕ) → RoutinesFew ns p.routines → PartsFew m p → (c : Conf) (s : HostState) (here : AtStatement p c s) → FewAlive (ns ++ m ∷ []) p c s here
  few_alive ns m few parts c s here =
      let fit = all_fit ns m few parts in
      let limits = ns ++ m ∷ [] in
      let v = values_alive p c s here in
      let pending = callers_few limits fit here.held.waiting c.callers here.called_by.waits in
      let w = values_few limits p here.held.waiting c.callers here.called_by.waits pending in
      record { pending = pending; few_values = omega (arith, v, w) }
