-- Where a run begins: the real machine calls `main`, and then it is where the machine over values begins.
use Rattle.std.proofs.Common.{◌≡◌, ◌≢◌, subst, ℕ, zero, suc, ◌+◌, ◌*◌, ◌<◌, pos, Bool, true, false, List, [], ◌∷◌, ◌++◌, length, map, drop, replicate, Some}
use Rattle.std.proofs.Common.{None, refl}
use Rattle.std.proofs.Common.{sym, ap, ap₂, ◌∙◌, arith}
use Rattle.std.specs.Prelude.{cond, nat_lt, slice_get}
use Rattle.std.proofs.lemmas.List.{length-map}
use Rattle.std.proofs.lemmas.Option.{none-some}
use Rattle.sem_primitives.specs.declared.sorts.Sort.{Sort}
use Rattle.sem_primitives.specs.declared.sorts.Sort.TheVariants as sort
use Rattle.wasm_types.specs.declared.types.ValType.{ValType}
use Rattle.wasm_store.specs.Words.{zero_of}
use Rattle.wasm_model.specs.Links.{IsNew, beginning, value_of}
use Rattle.wasm_model.specs.Hosts.{Meaning}
use Rattle.wasm_model.specs.Machines.{Conf, Goes, ProgramForm, Turn, turn}
use Rattle.wasm_model.specs.Runs.{IsWithin, MachineForm, OverBy, Ran, Steps, TakenAs}
use Rattle.wasm_model.specs.declared.ends.End.{End}
use Rattle.wasm_model.specs.declared.ends.End.TheVariants as ends
use Rattle.wasm_model.specs.declared.ends.RunEnd.{RunEnd}
use Rattle.wasm_model.specs.declared.ends.RunEnd.TheVariants.{Ended, NoMemory, OutOfSteps}
use Rattle.host_step.specs.HostState.{Names}
use Rattle.host_imports.specs.Imports.{host_finds}
use Rattle.host_step.specs.Starts.{first_arrays, first_names, state_in}
use Rattle.host_step.specs.Tables.{entered, look}
use Rattle.mid_program.specs.Mid.{Kind, Program}
use Rattle.sem_scripts.specs.ScriptRun.{Setting}
use Rattle.mid_program.specs.Sorted.{kinds_of}
use Rattle.lower_model.specs.Cells.{none_owned}
use Rattle.lower_model.specs.Functions.{main_callee, routine_callee, texts_of}
use Rattle.lower_model.specs.Machine.{Store, zeros}
use Rattle.lower_model.specs.Modules.{all_callees, called_imports, imports_of, memory_for, module_of, name_globals, renumbered, word_global}
use Rattle.lower_model.specs.Places.{memory_of}
use Rattle.lower_model.specs.Runs.{begun, code_of, empty_names, first_globals, host_at_start, zero_ranges}
use Rattle.agreement.proofs.TypedLemmas.Links.{main_exported}
use Rattle.agreement.proofs.TypedLemmas.Places.{there_behind}
use Rattle.agreement.specs.Refined.Owners.{OwnedOnce, there, wanted}
use Rattle.agreement.specs.Refined.Refined.{As, RestAs, entry}
use Rattle.agreement.specs.Refined.Words.{ArraysFit, WordsAs}
use Rattle.agreement.proofs.RefinedLemmas.ImportAnswers.{some_of}
use Rattle.agreement.proofs.RefinedLemmas.Carrying.{unowned_all}
use Rattle.agreement.proofs.RefinedLemmas.Links.{code_there, function_there, program, program_is, stays}
use Rattle.agreement.proofs.RefinedLemmas.Settling.{at_as}
use Rattle.agreement.proofs.RefinedLemmas.Tables.{entered_other}

-- The tables of the host: ARGV and ENVIRON, which nobody owns.

no_other : (q : ℕ) → look first_arrays (pos (suc (suc q))) ≡ None
no_other q = entered_other (entered (pos 0) 0 []) 1 1 (suc (suc q)) (λ e. omega (arith, e)) ∙ entered_other [] 0 0 (suc (suc q)) (λ e. omega (arith, e))

numbered_there : (m a : ℕ) → look first_arrays (pos m) ≡ Some a → (m ≡ a) × (a < 2)
numbered_there zero a e = let q = some_of 0 a e in (q, omega (arith, q))
numbered_there (suc zero) a e = let q = some_of 1 a e in (q, omega (arith, q))
numbered_there (suc (suc m)) a e = absurd (none-some a (sym (no_other m) ∙ e))

first_fit : ArraysFit 2 first_arrays
first_fit = record {
  argv = refl;
  environ = refl;
  known = λ m a e. (numbered_there m a e).1;
  apart = λ m n a e f. (numbered_there m a e).0 ∙ sym (numbered_there n a f).0;
}

none_wanted : (t : Sort) (q : ℕ) → wanted first_names t q ≡ 0
none_wanted sort.Value q = refl
none_wanted sort.Number q = refl
none_wanted sort.Iterator q = refl
none_wanted sort.Array zero = refl
none_wanted sort.Array (suc zero) = refl
none_wanted sort.Array (suc (suc q)) = ap (λ o. cond (nat_lt (suc (suc q)) 2) 0 (there o)) (no_other q) ∙ either_none (nat_lt (suc (suc q)) 2)
  where
    either_none : (b : Bool) → cond {A = ℕ} b 0 0 ≡ 0
    either_none true = refl
    either_none false = refl

-- Words that are 0, or that stand for nothing.

module _ (made : ℕ) (N : Names) where
  zeros_as : (ts : List ValType) → WordsAs made N (zeros ts) (map zero_of ts)
  zeros_as [] = tt
  zeros_as (t ∷ ts) = (refl, zeros_as ts)

  names_as : (ks : List Kind) → WordsAs made N (empty_names ks) (map (λ g. value_of g.init) (name_globals ks))
  names_as [] = tt
  names_as (k ∷ ks) = (refl, (refl, names_as ks))

  ranges_as : (n : ℕ) (ks : List Kind) → WordsAs made N (zero_ranges n ++ empty_names ks)
      (map (λ g. value_of g.init) (replicate n (word_global 0) ++ name_globals ks))
  ranges_as zero ks = names_as ks
  ranges_as (suc n) ks = (refl, ranges_as n ks)

zeros_unowned : (ts : List ValType) → none_owned (zeros ts) ≡ true
zeros_unowned [] = refl
zeros_unowned (t ∷ ts) = zeros_unowned ts

names_unowned : (ks : List Kind) → none_owned (empty_names ks) ≡ true
names_unowned [] = refl
names_unowned (k ∷ ks) = names_unowned ks

ranges_unowned : (n : ℕ) (ks : List Kind) → none_owned (zero_ranges n ++ empty_names ks) ≡ true
ranges_unowned zero ks = names_unowned ks
ranges_unowned (suc n) ks = ranges_unowned n ks

module _ (p : Program) where
  abbrev pub main_number : ℕ
  main_number = length (imports_of p) + length p.routines

  -- the first of all configurations, and the one in which `main` has begun
  abbrev first : Conf
  first = beginning (module_of p) main_number

  abbrev pub in_main : Conf
  in_main = record first {
    frame = record { values = []; labels = []; locals = map zero_of (main_callee p).locals; code = renumbered (called_imports p) (main_callee p).body };
    callers = entry (stays p) (called_imports p) ∷ [];
  }

  main_there : slice_get (all_callees p) (length p.routines) ≡ Some (main_callee p)
  main_there = let l = length-map p.routines (routine_callee p) in there_behind (map (routine_callee p) p.routines) (main_callee p ∷ []) 0 (length p.routines)
      (omega (arith, l))

  -- the first step calls `main`
  calls_main : turn (program p) first ≡ Goes in_main
  calls_main = function_there p (length p.routines) (main_callee p) main_there main_number _ refl

  pub begins : (a : MachineForm) → IsNew host_finds (module_of p) a → turn a.program a.conf ≡ Goes in_main
  begins a new =
      ap₂ (λ m c. turn m c) (program_is p a new) (new.conf ∙ ap (beginning (module_of p))
      (some_of new.main main_number (sym new.main_is ∙ main_exported p))) ∙ calls_main

  module _ (s : Setting) where
    abbrev G : Store
    G = record { globals = first_globals p; host = host_at_start s; assigning = None }

    -- all else than the code
    rest_as : (d : ℕ) → RestAs (stays p) (called_imports p) (code_of p d) [] (zeros (main_callee p).locals) [] G in_main
        (state_in s.job s.input s.outside)
    rest_as d = record {
      labels = tt;
      locals = zeros_as 2 first_names (main_callee p).locals;
      globals = (refl, (refl, (tt, ranges_as 2 first_names p.ranges (kinds_of p.globals))));
      callers = refl;
      result = refl;
      host = refl;
      arrays = first_fit;
      behind = drop (0 + length (memory_of (texts_of p))) (replicate ((memory_for (length (memory_of (texts_of p)))).min * 65536) 0);
      memory = refl;
    }

    once : OwnedOnce first_names [] [] (zeros (main_callee p).locals) in_main.frame.locals G.globals in_main.globals [] in_main.callers
    once t q =
        let a = unowned_all t q (zeros (main_callee p).locals) in_main.frame.locals (zeros_unowned (main_callee p).locals) in
        let b = unowned_all t q G.globals in_main.globals (ranges_unowned p.ranges (kinds_of p.globals)) in
        let n = none_wanted t q in
        omega (arith, a, b, n)

    -- THE BEGINNING: where `main` has begun over a host at its start, the machine over values begins
    pub begun_as : (d : ℕ) → As (stays p) (called_imports p) (code_of p d) (begun p s) in_main (state_in s.job s.input s.outside)
    begun_as d =
        at_as (stays p) (called_imports p) (code_of p d) [] [] (zeros (main_callee p).locals) [] G in_main (state_in s.job s.input s.outside) (rest_as d)
        (main_callee p).body [] tt (code_there p (length p.routines) (main_callee p) main_there) once

-- So a run has one step more than its run from `main` on, over whatever host.
module _ {H O : Type 0} (M : Meaning H O) (m : ProgramForm) (c c0 : Conf) (first : turn m c ≡ Goes c0) where
  pub taken_first : (h : H) (out : List O) (c1 : Conf) (h1 : H) → TakenAs M (turn m c) h c.memory out c1 h1 → (c1 ≡ c0) × (h1 ≡ h) × (out ≡ [])
  taken_first h out c1 h1 t = subst (λ (z : Turn). TakenAs M z h c.memory out c1 h1) first t

  pub steps_after : (n : ℕ) (h : H) (out : List O) (c1 : Conf) (h1 : H) → Steps M m (suc n) c h out c1 h1 → Steps M m n c0 h out c1 h1
  steps_after n h out c1 h1 s =
      let t = taken_first h s.2 s.0 s.1 s.4 in
      let e : s.3 ≡ out = sym (s.6 ∙ ap (λ z. z ++ s.3) t.2) in
      subst (λ z. Steps M m n z h out c1 h1) t.0 (subst (λ z. Steps M m n s.0 z out c1 h1) t.1 (subst (λ z. Steps M m n s.0 s.1 z c1 h1) e s.5))

  one_less : (k n : ℕ) (e : End) → IsWithin (suc k) (suc n) e → IsWithin k n e
  one_less k n (ends.Returned w) l = omega (arith, l)
  one_less k n (ends.Trapped kind) l = omega (arith, l)
  one_less k n ends.Exhausted l = omega (arith, l)
  one_less k n ends.Stuck l = omega (arith, l)

  pub run_after : (n : ℕ) (h : H) (out : List O) (r : RunEnd) (c1 : Conf) (h1 : H) → r ≢ NoMemory → Ran M m (suc n) c h out r c1 h1 → Ran M m n c0 h out r c1 h1
  run_after n h out NoMemory c1 h1 ne s = absurd (ne refl)
  run_after n h out OutOfSteps c1 h1 ne s = (steps_after n h out c1 h1 s.0, s.1)
  run_after n h out (Ended e) c1 h1 ne s = by s.0 s.1 s.6
    where
      by : (k : ℕ) → IsWithin k (suc n) e → Steps M m k c h s.4 s.2 s.3 → Ran M m n c0 h out (Ended e) c1 h1
      by zero l q = absurd (subst (λ (z : Turn). OverBy M z s.3 s.2.memory s.5 e h1) (ap (turn m) q.0 ∙ first) s.7)
      by (suc k) l q = (k, one_less k n e l, s.2, s.3, s.4, s.5, steps_after k h s.4 s.2 s.3 q, s.7, s.8)
