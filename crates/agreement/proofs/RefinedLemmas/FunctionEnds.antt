-- The end of a function, with its answer, and the frame that called it.
use Rattle.std.proofs.Common.{◌≡◌, ℕ, Bool, true, false, not, ◌&&◌, List, [], ◌∷◌, Option, Some, None, refl, sym, subst, arith}
use Rattle.std.specs.Prelude.{is_some}
use Rattle.wasm_types.specs.declared.types.ValType.{ValType}
use Rattle.wasm_types.specs.declared.types.ValType.TheVariants as ty
use Rattle.wasm_store.specs.declared.word.Word.{Word}
use Rattle.wasm_model.specs.Frames.{LabelForm, with_values}
use Rattle.wasm_model.specs.Frames as form
use Rattle.wasm_model.specs.Machines.{CallerForm, Goes, ProgramForm, Turn, returned_with, to_caller, turn_by}
use Rattle.wasm_model.specs.Machines as real
use Rattle.mid_program.specs.Mid.{Kind}
use Rattle.host_step.specs.HostState.{HostState}
use Rattle.lower_model.specs.Cells.{Cell, globals_by, is_owned, none_owned}
use Rattle.lower_model.specs.Machine.{Code, Conf, Frame, Label, Over, Store, at, guarded, leave, leave_function, ending_name}
use Rattle.agreement.specs.Refined.Owners.{OwnedOnce}
use Rattle.agreement.specs.Refined.Refined.{FramesAs, LabelsAs, NextAs, RestAs, entry}
use Rattle.agreement.specs.Refined.Words.{WordAs, WordsAs, arrays_made}
use Rattle.agreement.proofs.RefinedLemmas.LentArrays.{both}
use Rattle.agreement.proofs.RefinedLemmas.Blocks.{end_as}
use Rattle.agreement.proofs.RefinedLemmas.Carrying.{unowned_all, unowned_one}
use Rattle.agreement.proofs.RefinedLemmas.FrameSteps.{Once, goes_as, stuck_as}
use Rattle.agreement.proofs.RefinedLemmas.Locals.{not_true}
use Rattle.agreement.proofs.RefinedLemmas.Settling.{at_as}

module _ {used : ℕ → Bool} {bs : List Bool} {u : Code} {K : List Label} {L : List Cell} {F : List Frame} {G : Store} {c : real.Conf} {s : HostState} (m : ProgramForm) (ks : List Kind) (rest : RestAs used bs u K L F G c s) where
  abbrev Next : Conf → Turn → Type 0
  Next p t = NextAs used bs u p c s t

  abbrev made : ℕ
  made = arrays_made G.host

  -- an answer that goes to the innermost caller, whose locals and callers own the rest with the globals
  caller_as : (v : Cell) (w : Word) (F1 : List Frame) (rs : List CallerForm) → WordAs made s.names v w → FramesAs used bs made s.names F1 rs → OwnedOnce s.names (v ∷ []) (w ∷ []) [] [] G.globals c.globals F1 rs →
      Next (leave_function u v F1 G) (to_caller c (w ∷ []) (Some w) rs)
  caller_as v w [] [] a b once = absurd b
  caller_as v w [] (r ∷ (q ∷ rs)) a b once = absurd b
  caller_as v w (f ∷ F1) [] a b once = absurd b
  caller_as v w (f ∷ F1) (r ∷ rs) a b once =
      let h = b.0 in
      goes_as c s (at f.kinds (v ∷ f.under) f.labels f.locals F1 f.rest G) (record c { frame = with_values r.frame (w ∷ r.frame.values); result = r.result; callers = rs })
      (at_as used bs u f.kinds f.labels f.locals F1 G (record c { frame = with_values r.frame (w ∷ r.frame.values); result = r.result; callers = rs }) s
      (record { labels = h.labels; locals = h.locals; globals = rest.globals; callers = b.1; result = h.result; host = rest.host; arrays = rest.arrays; behind = rest.behind; memory = rest.memory })
      f.rest (v ∷ f.under) (a, h.under) h.rest (λ t q. let o = once t q in let g = unowned_all t q f.under r.frame.values h.unowned in omega arith))
  caller_as v w [] (r ∷ []) a b once = within (not (is_owned v)) refl (globals_by (ending_name G.host.fault) u.before u.names G.globals)
    where
      after : real.Conf
      after = record c { frame = with_values (entry used bs).frame (w ∷ []); result = Some ty.I32; callers = [] }

      ended : is_owned v ≡ false → Next (Over v G) (Goes after)
      ended e =
          goes_as c s (Over v G) after
          (record { word = w; same = a; unowned = e; frame = refl; callers = refl; result = refl; globals = rest.globals; host = rest.host; arrays = rest.arrays; once = λ t q. (let o = once t q in let g = unowned_one t q v w e in omega arith) })

      within : (x : Bool) → not (is_owned v) ≡ x → (y : Bool) → Next (guarded (x && y) (Over v G)) (to_caller c (w ∷ []) (Some w) (r ∷ []))
      within false e y = stuck_as c s (to_caller c (w ∷ []) (Some w) (r ∷ []))
      within true e false = stuck_as c s (to_caller c (w ∷ []) (Some w) (r ∷ []))
      within true e true = subst (λ z. Next (Over v G) (to_caller c (w ∷ []) (Some w) (z ∷ []))) (sym b) (ended (not_true (is_owned v) e))

  returned_as : (q : Option ValType) → is_some q ≡ true → (vs : List Cell) (ws : List Word) → WordsAs made s.names vs ws → Once rest vs ws L c.frame.locals → Next (leave u ks vs [] L F G) (returned_with c q ws)
  returned_as None e vs ws a once = cc
  returned_as (Some k) e [] ws a once = stuck_as c s (returned_with c (Some k) ws)
  returned_as (Some k) e (v ∷ vs) [] a once = absurd a
  returned_as (Some k) e1 (v ∷ vs) (w ∷ ws) a once = by (none_owned vs && none_owned L) refl
    where
      by : (b : Bool) → none_owned vs && none_owned L ≡ b → Next (guarded b (leave_function u v F G)) (to_caller c (w ∷ []) (Some w) c.callers)
      by false e = stuck_as c s (to_caller c (w ∷ []) (Some w) c.callers)
      by true e =
          let h = both (none_owned vs) (none_owned L) e in
          caller_as v w F c.callers a.0 rest.callers (λ t q. let o = once t q in let x = unowned_all t q vs ws h.0 in let y = unowned_all t q L c.frame.locals h.1 in omega arith)

  -- the end of a block, or of the function
  pub leave_as : (vs : List Cell) (K1 : List Label) (rs : List LabelForm) → LabelsAs used bs made s.names K1 rs → WordsAs made s.names vs c.frame.values → Once rest vs c.frame.values L c.frame.locals → Next (leave u ks vs K1 L F G) (turn_by m c (form.at_end c.frame rs))
  leave_as vs [] [] b a once = returned_as c.result rest.result vs c.frame.values a once
  leave_as vs (l ∷ K1) (r ∷ rs) b a once = end_as m ks rest vs l r K1 rs b.0 b.1 a once
  leave_as vs [] (r ∷ rs) b a once = absurd b
  leave_as vs (l ∷ K1) [] b a once = absurd b
