-- Locals that are read and set.
use Rattle.std.proofs.Common.{◌≡◌, ℕ, ◌+◌, ◌<◌, Bool, true, false, not, nat_lt, List, [], ◌∷◌, set, length, Option, Some, None, refl, sym, subst, arith, slice_get, get_or, length-set, if◌then◌else◌, true≢false}
use Rattle.std.proofs.lemmas.Bool.{ltb-true}
use Rattle.std.proofs.lemmas.Option.{slice_get-get_or}
use Rattle.sem_primitives.specs.declared.sorts.Sort.{Sort}
use Rattle.wasm_types.specs.Syntax.{Instructions}
use Rattle.wasm_types.specs.declared.instr.Simple.TheVariants as simple
use Rattle.wasm_store.specs.declared.word.Word.{Word}
use Rattle.wasm_store.specs.declared.word.Word.TheVariants.{I32}
use Rattle.wasm_model.specs.Frames.{local_set, local_tee, pushed, with_values}
use Rattle.wasm_model.specs.Frames as form
use Rattle.wasm_model.specs.Machines.{Goes, ProgramForm, turn_by, with_frame}
use Rattle.wasm_model.specs.Machines as real
use Rattle.mid_program.specs.Mid.{Kind}
use Rattle.host_step.specs.HostState.{HostState}
use Rattle.lower_model.specs.Cells.{Cell, Bits, Held, IteratorOf, OwnedArray, LentArray, Gone, cell_at, has_room, is_owned, left_by}
use Rattle.lower_model.specs.Machine.{Code, Conf, Frame, Label, Look, Store, act, at, guarded, set_local, takes_look, tee_local, teed}
use Rattle.agreement.specs.Refined.Owners.{owner, owners}
use Rattle.agreement.specs.Refined.Refined.{CodeAs, NextAs, RestAs}
use Rattle.agreement.specs.Refined.Words.{WordAs, WordsAs, arrays_made}
use Rattle.agreement.proofs.RefinedLemmas.LentArrays.{both}
use Rattle.agreement.proofs.RefinedLemmas.Carrying.{unowned_one}
use Rattle.agreement.proofs.RefinedLemmas.FrameSteps.{Once, frame_as, framed, goes_as, stuck_as, untyped_as}
use Rattle.agreement.proofs.RefinedLemmas.StoredCells.{left_as, left_unowned, lent_as, owners_left, owners_put, set_there, word_at, words_left, words_length, words_put}

pub not_true : (b : Bool) → not b ≡ true → b ≡ false
not_true false e = refl
not_true true e = absurd (true≢false (sym e))

-- there is such a place, and nothing that is owned stands there
pub room_is : (L : List Cell) (x : ℕ) → has_room L x ≡ true → (x < length L) × (is_owned (cell_at L x) ≡ false)
room_is L x e = let h = both (nat_lt x (length L)) (not (is_owned (cell_at L x))) e in (ltb-true x (length L) h.0, not_true (is_owned (cell_at L x)) h.1)

module _ {used : ℕ → Bool} {bs : List Bool} {u : Code} {K : List Label} {L : List Cell} {F : List Frame} {k : Instructions} {G : Store} {c : real.Conf} {s : HostState} (m : ProgramForm) (ks : List Kind) (rest : RestAs used bs u K L F G c s) (code-is : CodeAs used bs k c.frame.code) where
  abbrev Next : Conf → form.Local → Type 0
  Next p l = NextAs used bs u p c s (turn_by m c l)

  abbrev made : ℕ
  made = arrays_made G.host

  pub local_get_as : (x : ℕ) (vs : List Cell) → WordsAs made s.names vs c.frame.values → Once rest vs c.frame.values L c.frame.locals → Next (act u (simple.LocalGet x) ks vs K L F k G) (form.simple c.frame (simple.LocalGet x))
  local_get_as x vs a once = within (nat_lt x (length L))
    where
      d : Cell
      d = cell_at L x

      by : (o : Option Word) → slice_get c.frame.locals x ≡ o → Next (at ks (d ∷ vs) K (set L x (left_by d)) F k G) (pushed c.frame c.frame.values o)
      by None e = untyped_as c s (at ks (d ∷ vs) K (set L x (left_by d)) F k G)
      by (Some w) e =
          let b = word_at made s.names L c.frame.locals x w rest.locals e in
          frame_as rest ks (d ∷ vs) K (set L x (left_by d)) k (with_values c.frame (w ∷ c.frame.values)) rest.labels (words_left made s.names L c.frame.locals x (left_by d) w rest.locals e (left_as made s.names d w b)) (b, a) code-is
          (λ t q. let o = once t q in let h = owners_left made s.names t q L c.frame.locals x (left_by d) w rest.locals e in let g = unowned_one t q (left_by d) w (left_unowned d) in omega arith)

      within : (b : Bool) → Next (guarded b (at ks (d ∷ vs) K (set L x (left_by d)) F k G)) (form.simple c.frame (simple.LocalGet x))
      within false = stuck_as c s (turn_by m c (form.simple c.frame (simple.LocalGet x)))
      within true = by (slice_get c.frame.locals x) refl

  -- what comes into a local was an operand
  module _ (x : ℕ) (v : Cell) (vs : List Cell) (w : Word) (ws : List Word) (a : WordsAs made s.names (v ∷ vs) (w ∷ ws)) (once : Once rest (v ∷ vs) (w ∷ ws) L c.frame.locals) (room : has_room L x ≡ true) where
    abbrev set_cells : List Cell
    set_cells = set L x v

    abbrev set_words : List Word
    set_words = set c.frame.locals x w

    set_fits : WordsAs made s.names set_cells set_words
    set_fits = words_put made s.names L c.frame.locals x v w rest.locals a.0

    within_words : x < length c.frame.locals
    within_words = let h = (room_is L x room).0 in let e = words_length made s.names L c.frame.locals rest.locals in omega arith

    set_once : (t : Sort) (q : ℕ) → owners t q set_cells set_words ≡ owners t q L c.frame.locals + owner t q v w
    set_once t q =
        let old = get_or c.frame.locals x (I32 0) in
        let h = owners_put made s.names t q L c.frame.locals x v old w rest.locals (slice_get-get_or c.frame.locals x (I32 0) within_words) in
        let g = unowned_one t q (cell_at L x) old (room_is L x room).1 in
        omega arith

    set_as : Next (at ks vs K set_cells F k G) (form.Goes (record c.frame { values = ws; locals = set_words }))
    set_as = frame_as rest ks vs K set_cells k (record c.frame { values = ws; locals = set_words }) rest.labels set_fits a.1 code-is (λ t q. let o = once t q in let h = set_once t q in omega arith)

    -- the operand stays, or what is lent of it
    stays_as : (d : Cell) → c.frame.values ≡ w ∷ ws → is_owned d ≡ false → WordAs made s.names d w → Next (at ks (d ∷ vs) K set_cells F k G) (form.Goes (record c.frame { locals = set_words }))
    stays_as d e free b =
        subst (λ z. Next (at ks (d ∷ vs) K set_cells F k G) (form.Goes (record c.frame { values = z; locals = set_words }))) (sym e)
        (frame_as rest ks (d ∷ vs) K set_cells k (record c.frame { values = w ∷ ws; locals = set_words }) rest.labels set_fits (b, a.1) code-is
        (λ t q. let o = once t q in let h = set_once t q in let g = unowned_one t q d w free in omega arith))

    look_as : (b : Bool) → c.frame.values ≡ w ∷ ws → Next (guarded b (Look x ks vs K set_cells F k G)) (form.Goes (record c.frame { locals = set_words }))
    look_as false e = stuck_as c s (Goes (with_frame c (record c.frame { locals = set_words })))
    look_as true e =
        goes_as c s (Look x ks vs K set_cells F k G) (with_frame c (record c.frame { locals = set_words }))
        (record {
          word = w;
          words = ws;
          there = let h = (room_is L x room).0 in let g = length-set L x v in omega arith;
          seen = set_there c.frame.locals x w within_words;
          values = e;
          run = record { operands = a.1; code-is = code-is; rest = framed rest K set_cells (record c.frame { locals = set_words }) rest.labels set_fits; once = λ t q. (let o = once t q in let h = set_once t q in omega arith) };
        })

  pub local_set_as : (x : ℕ) (vs : List Cell) (ws : List Word) → WordsAs made s.names vs ws → Once rest vs ws L c.frame.locals → Next (set_local x ks vs K L F k G) (local_set c.frame x ws)
  local_set_as x [] ws a once = stuck_as c s (turn_by m c (local_set c.frame x ws))
  local_set_as x (v ∷ vs) [] a once = absurd a
  local_set_as x (v ∷ vs) (w ∷ ws) a once = within (has_room L x) refl (nat_lt x (length c.frame.locals))
    where
      within : (b : Bool) → has_room L x ≡ b → (g : Bool) → Next (guarded b (at ks vs K (set L x v) F k G)) (if g then form.Goes (record c.frame { values = ws; locals = set c.frame.locals x w }) else form.Stuck)
      within false e g = stuck_as c s (turn_by m c (if g then form.Goes (record c.frame { values = ws; locals = set c.frame.locals x w }) else form.Stuck))
      within true e false = untyped_as c s (at ks vs K (set L x v) F k G)
      within true e true = set_as x v vs w ws a once e

  teed_as : (x : ℕ) (v : Cell) (vs : List Cell) (w : Word) (ws : List Word) → WordsAs made s.names (v ∷ vs) (w ∷ ws) → Once rest (v ∷ vs) (w ∷ ws) L c.frame.locals → has_room L x ≡ true → c.frame.values ≡ w ∷ ws →
      Next (teed v x ks vs K (set L x v) F k G) (form.Goes (record c.frame { locals = set c.frame.locals x w }))
  teed_as x (Bits v) vs w ws a once room e = stays_as x (Bits v) vs w ws a once room (Bits v) e refl a.0
  teed_as x (LentArray v) vs w ws a once room e = stays_as x (LentArray v) vs w ws a once room (LentArray v) e refl a.0
  teed_as x (OwnedArray v) vs w ws a once room e = stays_as x (OwnedArray v) vs w ws a once room (LentArray v) e refl (lent_as made s.names rest.arrays v w a.0)
  teed_as x (Held v) vs w ws a once room e = look_as x (Held v) vs w ws a once room (takes_look k) e
  teed_as x (IteratorOf v) vs w ws a once room e = look_as x (IteratorOf v) vs w ws a once room (takes_look k) e
  teed_as x Gone vs w ws a once room e = stuck_as c s (Goes (with_frame c (record c.frame { locals = set c.frame.locals x w })))

  pub local_tee_as : (x : ℕ) (vs : List Cell) (ws : List Word) → c.frame.values ≡ ws → WordsAs made s.names vs ws → Once rest vs ws L c.frame.locals → Next (tee_local x ks vs K L F k G) (local_tee c.frame x ws)
  local_tee_as x [] ws e a once = stuck_as c s (turn_by m c (local_tee c.frame x ws))
  local_tee_as x (v ∷ vs) [] e a once = absurd a
  local_tee_as x (v ∷ vs) (w ∷ ws) e a once = within (has_room L x) refl (nat_lt x (length c.frame.locals))
    where
      within : (b : Bool) → has_room L x ≡ b → (g : Bool) → Next (guarded b (teed v x ks vs K (set L x v) F k G)) (if g then form.Goes (record c.frame { locals = set c.frame.locals x w }) else form.Stuck)
      within false r g = stuck_as c s (turn_by m c (if g then form.Goes (record c.frame { locals = set c.frame.locals x w }) else form.Stuck))
      within true r false = untyped_as c s (teed v x ks vs K (set L x v) F k G)
      within true r true = teed_as x v vs w ws a once r e
