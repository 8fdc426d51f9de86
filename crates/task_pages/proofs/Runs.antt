-- A run is one over the host without the calls that its module does not import; and where no call that it imports puts anything out, neither does the run.
use Rattle.std.proofs.Common.{◌≡◌, ◌∙◌, ℕ, zero, suc, Bool, true, false, List, [], ◌++◌, ap₂}
use Rattle.wasm_store.specs.Memories.{MemoryForm}
use Rattle.wasm_store.specs.declared.word.Word.{Word}
use Rattle.wasm_model.specs.Hosts.{Meaning}
use Rattle.wasm_model.specs.Machines.{Asks, Conf, Ends, Goes, ProgramForm, Turn, turn}
use Rattle.wasm_model.specs.Runs.{OverBy, Ran, RefusedAs, Steps, TakenAs}
use Rattle.wasm_model.specs.declared.host.HostAnswer.{HostAnswer}
use Rattle.wasm_model.specs.declared.ends.End.{End}
use Rattle.wasm_model.specs.declared.ends.RunEnd.{RunEnd}
use Rattle.wasm_model.specs.declared.ends.RunEnd.TheVariants.{Ended, NoMemory, OutOfSteps}
use Rattle.task_pages.specs.Calls.{IsOneOf, only}
use Rattle.task_pages.proofs.Turns.{AsksOneOf, asks_one_of}

module _ {H O : Type 0} (M : Meaning H O) (m : ProgramForm) where
  abbrev Own : Meaning H O
  Own = only m.numbers M

  taken : (t : Turn) (h : H) (mem : MemoryForm) (out : List O) (c' : Conf) (h' : H) → AsksOneOf m.numbers t → TakenAs M t h mem out c' h' → TakenAs Own t h mem out c' h'
  taken (Goes c) h mem out c' h' a r = r
  taken (Ends e) h mem out c' h' a r = r
  taken (Asks i args c) h mem out c' h' a r = (r.0, (a, r.1), r.2)

  over : (t : Turn) (h : H) (mem : MemoryForm) (out : List O) (e : End) (h' : H) → AsksOneOf m.numbers t → OverBy M t h mem out e h' → OverBy Own t h mem out e h'
  over (Goes c) h mem out e h' a r = r
  over (Ends x) h mem out e h' a r = r
  over (Asks i args c) h mem out e h' a r = (r.0, r.1, r.2, (a, r.3))

  refused : (asked : Bool) (t : Turn) (h : H) (mem : MemoryForm) (out : List O) (h' : H) → AsksOneOf m.numbers t → RefusedAs M asked t h mem out h'
      → RefusedAs Own asked t h mem out h'
  refused false t h mem out h' a r = r
  refused true (Goes c) h mem out h' a r = r
  refused true (Ends e) h mem out h' a r = r
  refused true (Asks i args c) h mem out h' a r = (r.0, r.1, (a, r.2), r.3)

  steps : (n : ℕ) (c : Conf) (h : H) (out : List O) (c' : Conf) (h' : H) → Steps M m n c h out c' h' → Steps Own m n c h out c' h'
  steps zero c h out c' h' r = r
  steps (suc n) c h out c' h' r =
      (r.0, r.1, r.2, r.3, taken (turn m c) h c.memory r.2 r.0 r.1 (asks_one_of m c) r.4, steps n r.0 r.1 r.3 c' h' r.5, r.6)

  pub run_by_own : (n : ℕ) (c : Conf) (h : H) (out : List O) (e : RunEnd) (c' : Conf) (h' : H) → Ran M m n c h out e c' h' → Ran Own m n c h out e c' h'
  run_by_own n c h out OutOfSteps c' h' r = (steps n c h out c' h' r.0, r.1)
  run_by_own n c h out (Ended e) c' h' r =
      (r.0, r.1, r.2, r.3, r.4, r.5, steps r.0 c h r.4 r.2 r.3 r.6, over (turn m r.2) r.3 r.2.memory r.5 e h' (asks_one_of m r.2) r.7, r.8)
  run_by_own n c h out NoMemory c' h' r =
      (r.0, r.1, r.2, r.3, r.4, r.5, r.6, steps r.0 c h r.4 r.2 r.3 r.7, refused r.6 (turn m r.2) r.3 r.2.memory r.5 h' (asks_one_of m r.2) r.8, r.9)

  -- of a host whose calls put nothing out
  module _ (quiet : (n : ℕ) → IsOneOf n m.numbers → (h : H) (words : List Word) (mem : MemoryForm) (a : HostAnswer) (h' : H) (mem' : MemoryForm) (out : List O)
      → M h n words mem a h' mem' out → out ≡ []) where
    taken_quiet : (t : Turn) (h : H) (mem : MemoryForm) (out : List O) (c' : Conf) (h' : H) → AsksOneOf m.numbers t → TakenAs M t h mem out c' h' → out ≡ []
    taken_quiet (Goes c) h mem out c' h' a r = r.2
    taken_quiet (Ends e) h mem out c' h' a r = absurd r
    taken_quiet (Asks i args c) h mem out c' h' a r = quiet i a h args mem _ h' c'.memory out r.1

    over_quiet : (t : Turn) (h : H) (mem : MemoryForm) (out : List O) (e : End) (h' : H) → AsksOneOf m.numbers t → OverBy M t h mem out e h' → out ≡ []
    over_quiet (Goes c) h mem out e h' a r = absurd r
    over_quiet (Ends x) h mem out e h' a r = r.2
    over_quiet (Asks i args c) h mem out e h' a r = quiet i a h args mem _ h' r.1 out r.3

    refused_quiet : (asked : Bool) (t : Turn) (h : H) (mem : MemoryForm) (out : List O) (h' : H) → AsksOneOf m.numbers t → RefusedAs M asked t h mem out h' → out ≡ []
    refused_quiet false t h mem out h' a r = r.1
    refused_quiet true (Goes c) h mem out h' a r = absurd r
    refused_quiet true (Ends e) h mem out h' a r = absurd r
    refused_quiet true (Asks i args c) h mem out h' a r = quiet i a h args mem r.0 h' r.1 out r.2

    both : (out out1 out2 : List O) → out ≡ out1 ++ out2 → out1 ≡ [] → out2 ≡ [] → out ≡ []
    both out out1 out2 e p q = e ∙ ap₂ (λ (xs ys : List O). xs ++ ys) p q

    steps_quiet : (n : ℕ) (c : Conf) (h : H) (out : List O) (c' : Conf) (h' : H) → Steps M m n c h out c' h' → out ≡ []
    steps_quiet zero c h out c' h' r = r.2
    steps_quiet (suc n) c h out c' h' r =
        both out r.2 r.3 r.6 (taken_quiet (turn m c) h c.memory r.2 r.0 r.1 (asks_one_of m c) r.4) (steps_quiet n r.0 r.1 r.3 c' h' r.5)

    pub run_quiet : (n : ℕ) (c : Conf) (h : H) (out : List O) (e : RunEnd) (c' : Conf) (h' : H) → Ran M m n c h out e c' h' → out ≡ []
    run_quiet n c h out OutOfSteps c' h' r = steps_quiet n c h out c' h' r.0
    run_quiet n c h out (Ended e) c' h' r =
        both out r.4 r.5 r.8 (steps_quiet r.0 c h r.4 r.2 r.3 r.6) (over_quiet (turn m r.2) r.3 r.2.memory r.5 e h' (asks_one_of m r.2) r.7)
    run_quiet n c h out NoMemory c' h' r =
        both out r.4 r.5 r.9 (steps_quiet r.0 c h r.4 r.2 r.3 r.7) (refused_quiet r.6 (turn m r.2) r.3 r.2.memory r.5 h' (asks_one_of m r.2) r.8)
