-- Globals that are read and set.
use Rattle.std.proofs.Common.{◌≡◌, ℕ, Bool, true, false, ◌&&◌, nat_lt, List, [], ◌∷◌, set, length, Option, Some, None, refl, arith, slice_get, get_or, if◌then◌else◌}
use Rattle.std.proofs.lemmas.Bool.{and_parts}
use Rattle.std.proofs.lemmas.Option.{slice_get-get_or}
use Rattle.wasm_types.specs.Syntax.{Instructions}
use Rattle.wasm_types.specs.declared.instr.Simple.TheVariants as simple
use Rattle.wasm_store.specs.declared.word.Word.{Word}
use Rattle.wasm_store.specs.declared.word.Word.TheVariants.{I32}
use Rattle.wasm_model.specs.Machines.{Ends, Goes, Turn, global_set, with_operands, with_value}
use Rattle.wasm_model.specs.declared.ends.End.TheVariants as ends
use Rattle.wasm_model.specs.Machines as real
use Rattle.mid_program.specs.Mid.{Kind}
use Rattle.host_step.specs.HostState.{HostState}
use Rattle.lower_model.specs.Cells.{Cell, cell_at, has_room, left_in_global, may_come, read_global}
use Rattle.lower_model.specs.Machine.{Code, Conf, Frame, Label, Store, act, assigning_then, at, guarded, set_global}
use Rattle.agreement.specs.Refined.Owners.{OwnedOnce}
use Rattle.agreement.specs.Refined.Refined.{CodeAs, NextAs, RestAs}
use Rattle.agreement.specs.Refined.Words.{WordsAs, arrays_made}
use Rattle.agreement.proofs.RefinedLemmas.Carrying.{unowned_one}
use Rattle.agreement.proofs.RefinedLemmas.FrameSteps.{Once, goes_as, stuck_as, untyped_as}
use Rattle.agreement.proofs.RefinedLemmas.Locals.{room_is}
use Rattle.agreement.proofs.RefinedLemmas.StoredCells.{kept_as, owners_left, owners_put, read_as, shared_once, word_at, words_left, words_length, words_put}
use Rattle.agreement.proofs.RefinedLemmas.Settling.{at_as}

module _ {used : ℕ → Bool} {bs : List Bool} {u : Code} {K : List Label} {L : List Cell} {F : List Frame} {k : Instructions} {G : Store} {c : real.Conf} {s : HostState} (ks : List Kind) (rest : RestAs used bs u K L F G c s) (code-is : CodeAs used bs k c.frame.code) where
  abbrev made : ℕ
  made = arrays_made G.host

  abbrev Next : Conf → Turn → Type 0
  Next p t = NextAs used bs u p c s t

  -- other operands and other globals
  stored_as : (vs : List Cell) (ws : List Word) (cells : List Cell) (words : List Word) (name : Option ℕ) → WordsAs made s.names vs ws → WordsAs made s.names cells words → OwnedOnce s.names vs ws L c.frame.locals cells words F c.callers →
      Next (at ks vs K L F k (record G { globals = cells; assigning = name })) (Goes (record (with_operands c ws) { globals = words }))
  stored_as vs ws cells words name a b once =
      goes_as c s (at ks vs K L F k (record G { globals = cells; assigning = name })) (record (with_operands c ws) { globals = words })
      (at_as used bs u ks K L F (record G { globals = cells; assigning = name }) (record (with_operands c ws) { globals = words }) s
      (record { labels = rest.labels; locals = rest.locals; globals = b; callers = rest.callers; result = rest.result; host = rest.host; arrays = rest.arrays; behind = rest.behind; memory = rest.memory }) k vs a code-is once)

  pub global_get_as : (x : ℕ) (vs : List Cell) → WordsAs made s.names vs c.frame.values → Once rest vs c.frame.values L c.frame.locals → Next (act u (simple.GlobalGet x) ks vs K L F k G) (with_value c c.frame.values (slice_get c.globals x))
  global_get_as x vs a once = by (slice_get c.globals x) refl
    where
      d : Cell
      d = cell_at G.globals x

      by : (o : Option Word) → slice_get c.globals x ≡ o → Next (act u (simple.GlobalGet x) ks vs K L F k G) (with_value c c.frame.values o)
      by None e = untyped_as c s (act u (simple.GlobalGet x) ks vs K L F k G)
      by (Some w) e =
          let b = word_at made s.names G.globals c.globals x w rest.globals e in
          stored_as (read_global d ∷ vs) (w ∷ c.frame.values) (set G.globals x (left_in_global d)) c.globals G.assigning (read_as made s.names rest.arrays d w b, a)
          (words_left made s.names G.globals c.globals x (left_in_global d) w rest.globals e (kept_as made s.names d w b))
          (λ t q. let o = once t q in let h = owners_left made s.names t q G.globals c.globals x (left_in_global d) w rest.globals e in let g = shared_once t q d w in omega arith)

  pub global_set_as : (x : ℕ) (vs : List Cell) (ws : List Word) → WordsAs made s.names vs ws → Once rest vs ws L c.frame.locals → Next (set_global u x ks vs K L F k G) (global_set c x ws)
  global_set_as x [] ws a once = stuck_as c s (global_set c x ws)
  global_set_as x (v ∷ vs) [] a once = absurd a
  global_set_as x (v ∷ vs) (w ∷ ws) a once = within (has_room G.globals x && may) refl (nat_lt x (length c.globals))
    where
      may : Bool
      may = may_come u.before u.bare G.assigning x (cell_at G.globals x) v

      after : Conf
      after = at ks vs K L F k (record G { globals = set G.globals x v; assigning = assigning_then v G.assigning })

      goes : Turn
      goes = Goes (record (with_operands c ws) { globals = set c.globals x w })

      old : Word
      old = get_or c.globals x (I32 0)

      set-is : has_room G.globals x ≡ true → Next after goes
      set-is e =
          let h = room_is G.globals x e in
          let g = words_length made s.names G.globals c.globals rest.globals in
          stored_as vs ws (set G.globals x v) (set c.globals x w) (assigning_then v G.assigning) a.1 (words_put made s.names G.globals c.globals x v w rest.globals a.0)
          (λ t q. (let o = once t q in
          let p = owners_put made s.names t q G.globals c.globals x v old w rest.globals (slice_get-get_or c.globals x (I32 0) (let l = h.0 in omega arith)) in
          let n = unowned_one t q (cell_at G.globals x) old h.1 in
          omega arith))

      within : (b : Bool) → (has_room G.globals x && may) ≡ b → (g : Bool) → Next (guarded b after) (if g then goes else Ends ends.Stuck)
      within false e g = stuck_as c s (if g then goes else Ends ends.Stuck)
      within true e false = untyped_as c s after
      within true e true = set-is (and_parts (has_room G.globals x) may e).0
