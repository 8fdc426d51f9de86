-- The step after a look: a comparison, or a call of an import that looks.
use Rattle.std.proofs.Common.{◌≡◌, ◌⊎◌, inl, inr, ℕ, suc, Bool, nat_lt, List, [], ◌∷◌, length, take, drop, reverse, Option, Some, None, refl, sym, ap, subst, arith, if◌then◌else◌}
use Rattle.std.proofs.lemmas.Bool.{le-ltb}
use Rattle.sem_primitives.specs.declared.table.Primitive.TheVariants as row
use Rattle.awk_values.specs.declared.fault.Fault.{Fault}
use Rattle.world_core.specs.WorldState.{Action}
use Rattle.wasm_types.specs.Syntax.{Instructions}
use Rattle.wasm_store.specs.declared.word.Word.{Word}
use Rattle.wasm_model.specs.Machines.{Asks, Ends, Turn, asked, with_operands}
use Rattle.wasm_model.specs.Machines as real
use Rattle.wasm_model.specs.declared.host.HostAnswer.{HostAnswer}
use Rattle.wasm_model.specs.declared.ends.End.TheVariants as ends
use Rattle.mid_program.specs.Mid.{Kind}
use Rattle.host_step.specs.HostState.{HostState}
use Rattle.host_step.specs.HostStep.{HostStep}
use Rattle.lower_model.specs.Cells.{Cell}
use Rattle.lower_model.specs.ImportCalls.{Host, acted, look, looked_at}
use Rattle.host_imports.specs.Imports.{import_at, import_type}
use Rattle.lower_model.specs.Machine.{Code, Frame, Label, Store, ask_looking, with_answer}
use Rattle.host_imports.specs.declared.import.Import.{Import}
use Rattle.host_imports.specs.declared.import.Import.TheVariants.{OfPrimitive}
use Rattle.agreement.specs.Refined.Growing.{ArraysGrow}
use Rattle.agreement.specs.Refined.Refined.{CodeAs, NextAs, RestAs}
use Rattle.agreement.specs.Refined.Words.{WordAs, WordsAs, arrays_made, state_with}
use Rattle.agreement.proofs.RefinedLemmas.ImportTurns.{comes_as, others}
use Rattle.agreement.proofs.RefinedLemmas.ImportCalls.{Outcome}
use Rattle.agreement.proofs.RefinedLemmas.FrameSteps.{Once, stuck_as}
use Rattle.agreement.proofs.RefinedLemmas.LookingCalls.{looking}
use Rattle.agreement.proofs.RefinedLemmas.NumberedCalls.{looked_as}

abbrev look_with : (i : Import) → Cell → Host → Option Fault → Option (Option Cell × Host)
look_with i d h f = elim f [ None ↦ acted i h (looked_at i d) | Some k ↦ None ]

nothing_looked : (i : Import) (d : Cell) (h : Host) → looked_at i d ≡ None → (f : Option Fault) → look_with i d h f ≡ None
nothing_looked i d h e None = ap (λ o. acted i h o) e
nothing_looked i d h e (Some k) = refl

-- an import that looks takes one word; no other has an answer to a look
look_width : (i : Import) → (length (import_type i).params ≡ 1) ⊎ ((d : Cell) (h : Host) → look i d h ≡ None)
look_width (OfPrimitive p) = by (looking p)
  where
    by : ((p ≡ row.Dup) ⊎ (p ≡ row.IterNext)) ⊎ ((d : Cell) → looked_at (OfPrimitive p) d ≡ None) → (length (import_type (OfPrimitive p)).params ≡ 1) ⊎ ((d : Cell) (h : Host) → look (OfPrimitive p) d h ≡ None)
    by (inl (inl e)) = inl (ap (λ r. length (import_type (OfPrimitive r)).params) e)
    by (inl (inr e)) = inl (ap (λ r. length (import_type (OfPrimitive r)).params) e)
    by (inr e) = inr (λ d h. nothing_looked (OfPrimitive p) d h (e d) h.fault)
look_width i = inr (λ d h. nothing_looked i d h refl h.fault)

module _ {used : ℕ → Bool} {bs : List Bool} {u : Code} {K : List Label} {L : List Cell} {F : List Frame} {k : Instructions} {G : Store} {c : real.Conf} {s : HostState} (grow : ArraysGrow) (ks : List Kind) (rest : RestAs used bs u K L F G c s) (code-is : CodeAs used bs k c.frame.code)
    (vs : List Cell) (ws : List Word) (a : WordsAs (arrays_made G.host) s.names vs ws) (once : Once rest vs ws L c.frame.locals) (d : Cell) (w : Word) (same : WordAs (arrays_made G.host) s.names d w) (values : c.frame.values ≡ w ∷ ws) (n : ℕ) (i : Import) (at-n : import_at n ≡ Some i) where
  -- what the look comes to
  looks_to : (v : HostAnswer) (s1 : HostState) (out : List Action) → HostStep n s (w ∷ []) c.memory.bytes v s1 out → Outcome s.names G.host (others ks rest code-is vs ws a) (look i d G.host) v s1
  looks_to v s1 out h =
      looked_as u.memory rest.behind grow s.names G.host (others ks rest code-is vs ws a) rest.arrays n i at-n once d w same v s1 out
      (subst (λ (b : List ℕ). HostStep n (state_with s.names G.host) (w ∷ []) b v s1 out) rest.memory (subst (λ (z : HostState). HostStep n z (w ∷ []) c.memory.bytes v s1 out) rest.host h))

  asks : NextAs used bs u (with_answer (look i d G.host) ks vs K L F k G) c s (Asks n (w ∷ []) (with_operands c ws))
  asks = comes_as ks rest code-is vs ws a n (w ∷ []) (look i d G.host) looks_to

  -- so many operands are taken of these
  abbrev asked_with : ℕ → List Word → Turn
  asked_with j words = if nat_lt (length words) j then Ends ends.Stuck else Asks n (reverse (take j words)) (with_operands c (drop j words))

  -- the step of an import that looks; any other is stuck
  pub asked_looking_as : NextAs used bs u (ask_looking (Some i) d ks vs K L F k G) c s (asked n (import_type i) c)
  asked_looking_as = by (look_width i)
    where
      by : (length (import_type i).params ≡ 1) ⊎ ((y : Cell) (h : Host) → look i y h ≡ None) → NextAs used bs u (ask_looking (Some i) d ks vs K L F k G) c s (asked n (import_type i) c)
      by (inr e) = subst (λ o. NextAs used bs u (with_answer o ks vs K L F k G) c s (asked n (import_type i) c)) (sym (e d G.host)) (stuck_as c s (asked n (import_type i) c))
      by (inl e) =
          subst (λ j. NextAs used bs u (with_answer (look i d G.host) ks vs K L F k G) c s (asked_with j c.frame.values)) (sym e)
          (subst (λ words. NextAs used bs u (with_answer (look i d G.host) ks vs K L F k G) c s (asked_with 1 words)) (sym values)
          (subst (λ b. NextAs used bs u (with_answer (look i d G.host) ks vs K L F k G) c s (if b then Ends ends.Stuck else Asks n (w ∷ []) (with_operands c ws))) (sym (le-ltb (suc (length ws)) 1 (omega arith))) asks))
