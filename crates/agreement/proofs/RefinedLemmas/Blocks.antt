-- Blocks, loops and choices begin; branches; the end of a block.
use Rattle.std.proofs.Common.{◌≡◌, ℕ, zero, suc, Bool, true, false, cond, nat_eq, List, [], ◌∷◌, ◌++◌, drop, length, Option, Some, None, refl, sym, subst, arith, if◌then◌else◌}
use Rattle.std.proofs.Math.Dec.{eqb-zero-suc, eqb-suc-suc}
use Rattle.wasm_types.specs.Syntax.{Instructions}
use Rattle.wasm_types.specs.declared.types.ValType.{ValType}
use Rattle.wasm_store.specs.declared.word.Word.{Word}
use Rattle.wasm_store.specs.declared.word.Word.TheVariants.{I32}
use Rattle.wasm_model.specs.Frames.{LabelForm, branch_at, branch_if, branch_to, chosen, entered, with_values}
use Rattle.wasm_model.specs.Frames as form
use Rattle.wasm_model.specs.Stacks.{taken}
use Rattle.wasm_model.specs.Machines.{Goes, ProgramForm, turn_by, with_frame}
use Rattle.wasm_model.specs.Machines as real
use Rattle.mid_program.specs.Mid.{Kind}
use Rattle.host_step.specs.HostState.{HostState}
use Rattle.lower_model.specs.Cells.{Cell, Bits, none_owned}
use Rattle.lower_model.specs.Machine.{Code, Conf, Frame, Label, Store, at, br, br_if, choose, guarded, label}
use Rattle.agreement.specs.Refined.Refined.{AgainAs, CodeAs, LabelAs, LabelsAs, NextAs, RestAs}
use Rattle.agreement.specs.Refined.Words.{WordsAs, arrays_made}
use Rattle.agreement.proofs.RefinedLemmas.Carrying.{unowned_all, unowned_one}
use Rattle.agreement.proofs.RefinedLemmas.FrameSteps.{Once, frame_as, stuck_as}
use Rattle.agreement.proofs.RefinedLemmas.MovedOperands.{owners_append, words_append}

module _ {used : ℕ → Bool} {bs : List Bool} {u : Code} {K : List Label} {L : List Cell} {F : List Frame} {G : Store} {c : real.Conf} {s : HostState} (m : ProgramForm) (ks : List Kind) (rest : RestAs used bs u K L F G c s) where
  abbrev Next : Conf → form.Local → Type 0
  Next p l = NextAs used bs u p c s (turn_by m c l)

  abbrev made : ℕ
  made = arrays_made G.host

  -- Branches: what lies on the operands is dropped, and owns nothing.
  module _ (free : Once rest [] [] L c.frame.locals) (ws : List Word) where
    abbrev jump_on : ℕ → List LabelForm → form.Local
    jump_on n rs = if nat_eq n (length rs) then form.Leaves (with_values c.frame ws) else branch_at (with_values c.frame ws) (drop n rs)

    branch_as : (l : Label) (r : LabelForm) (K1 : List Label) (rs : List LabelForm) → LabelAs used bs made s.names l r → LabelsAs used bs made s.names K1 rs → Next (br zero ks (l ∷ K1) L F G) (branch_at (with_values c.frame ws) (r ∷ rs))
    branch_as l r K1 rs a b = subst (λ (g : Option ValType). Next (br zero ks (l ∷ K1) L F G) (branch_to (with_values c.frame ws) r rs (taken g ws))) (sym a.gives) (by l.again r.again a.again)
      where
        by : (o q : Option Instructions) → AgainAs used bs o q → Next (elim o [ Some body ↦ at ks [] (l ∷ K1) L F body G | None ↦ at ks l.under K1 L F l.rest G ])
            (elim q [ Some body ↦ form.Goes (record c.frame { values = []; labels = r ∷ rs; code = body }) | None ↦ form.Goes (record c.frame { values = r.under; labels = rs; code = r.rest }) ])
        by (Some body) (Some code) h = frame_as rest ks [] (l ∷ K1) L body (record c.frame { values = []; labels = r ∷ rs; code = code }) (a, b) rest.locals tt h free
        by None None h =
            frame_as rest ks l.under K1 L l.rest (record c.frame { values = r.under; labels = rs; code = r.rest }) b rest.locals a.under a.rest (λ t q. let e = free t q in let g = unowned_all t q l.under r.under a.unowned in omega arith)
        by None (Some code) h = absurd h
        by (Some body) None h = absurd h

    pub jump_as : (n : ℕ) (K1 : List Label) (rs : List LabelForm) → LabelsAs used bs made s.names K1 rs → Next (br n ks K1 L F G) (jump_on n rs)
    jump_as n [] rs a = stuck_as c s (turn_by m c (jump_on n rs))
    jump_as n (l ∷ K1) [] a = absurd a
    jump_as zero (l ∷ K1) (r ∷ rs) a = subst (λ b. Next (br zero ks (l ∷ K1) L F G) (if b then form.Leaves (with_values c.frame ws) else branch_at (with_values c.frame ws) (r ∷ rs))) (sym (eqb-zero-suc (length rs))) (branch_as l r K1 rs a.0 a.1)
    jump_as (suc n) (l ∷ K1) (r ∷ rs) a = subst (λ b. Next (br n ks K1 L F G) (if b then form.Leaves (with_values c.frame ws) else branch_at (with_values c.frame ws) (drop n rs))) (sym (eqb-suc-suc n (length rs))) (jump_as n K1 rs a.1)

  -- operands that own nothing may be dropped
  pub dropped_once : (vs : List Cell) (ws : List Word) → none_owned vs ≡ true → Once rest vs ws L c.frame.locals → Once rest [] [] L c.frame.locals
  dropped_once vs ws e once t q = let o = once t q in let h = unowned_all t q vs ws e in omega arith

  pub br_as : (n : ℕ) (vs : List Cell) → Once rest vs c.frame.values L c.frame.locals → Next (guarded (none_owned vs) (br n ks K L F G)) (form.jump c.frame n)
  br_as n vs once = by (none_owned vs) refl
    where
      by : (b : Bool) → none_owned vs ≡ b → Next (guarded b (br n ks K L F G)) (form.jump c.frame n)
      by false e = stuck_as c s (turn_by m c (form.jump c.frame n))
      by true e = jump_as (dropped_once vs c.frame.values e once) c.frame.values n K c.frame.labels rest.labels

  module _ {k : Instructions} (code-is : CodeAs used bs k c.frame.code) where
    pub br_if_as : (n : ℕ) (vs : List Cell) (ws : List Word) → WordsAs made s.names vs ws → Once rest vs ws L c.frame.locals → Next (br_if n ks vs K L F k G) (branch_if c.frame n ws)
    br_if_as n (Bits (I32 x) ∷ vs) [] a once = absurd a
    br_if_as n (Bits (I32 x) ∷ vs) (w ∷ ws) a once =
        subst (λ z. Next (br_if n ks (Bits (I32 x) ∷ vs) K L F k G) (branch_if c.frame n (z ∷ ws))) (sym a.0) (within (none_owned vs) refl (nat_eq x 0))
      where
        within : (b : Bool) → none_owned vs ≡ b → (z : Bool) → Next (guarded b (cond z (at ks vs K L F k G) (br n ks K L F G))) (if z then form.Goes (with_values c.frame ws) else form.jump (with_values c.frame ws) n)
        within false e z = stuck_as c s (turn_by m c (if z then form.Goes (with_values c.frame ws) else form.jump (with_values c.frame ws) n))
        within true e true = frame_as rest ks vs K L k (with_values c.frame ws) rest.labels rest.locals a.1 code-is (λ t q. let o = once t q in let h = unowned_all t q (Bits (I32 x) ∷ vs) (w ∷ ws) e in let g = unowned_all t q vs ws e in omega arith)
        within true e false = jump_as (dropped_once (Bits (I32 x) ∷ vs) (w ∷ ws) e once) ws n K c.frame.labels rest.labels
    br_if_as n vs ws a once = stuck_as c s (turn_by m c (branch_if c.frame n ws))

    -- a block or a loop begins, over operands that own nothing
    pub entered_as : (o q : Option Instructions) (body code : Instructions) (vs : List Cell) (ws : List Word) → AgainAs used bs o q → CodeAs used bs body code → WordsAs made s.names vs ws → Once rest vs ws L c.frame.locals →
        Next (guarded (none_owned vs) (at ks [] (label vs o k ∷ K) L F body G)) (form.Goes (entered (with_values c.frame ws) q None code))
    entered_as o q body code vs ws again b a once = by (none_owned vs) refl
      where
        by : (g : Bool) → none_owned vs ≡ g → Next (guarded g (at ks [] (label vs o k ∷ K) L F body G)) (form.Goes (entered (with_values c.frame ws) q None code))
        by false e = stuck_as c s (Goes (with_frame c (entered (with_values c.frame ws) q None code)))
        by true e =
            frame_as rest ks [] (label vs o k ∷ K) L body (entered (with_values c.frame ws) q None code) (record { under = a; unowned = e; again = again; gives = refl; rest = code-is }, rest.labels) rest.locals tt b
            (dropped_once vs ws e once)

    pub choose_as : (p q rp rq : Instructions) (vs : List Cell) (ws : List Word) → CodeAs used bs p rp → CodeAs used bs q rq → WordsAs made s.names vs ws → Once rest vs ws L c.frame.locals → Next (choose p q ks vs K L F k G) (chosen c.frame None rp rq ws)
    choose_as p q rp rq (Bits (I32 x) ∷ vs) [] b d a once = absurd a
    choose_as p q rp rq (Bits (I32 x) ∷ vs) (w ∷ ws) b d a once =
        subst (λ z. Next (choose p q ks (Bits (I32 x) ∷ vs) K L F k G) (chosen c.frame None rp rq (z ∷ ws))) (sym a.0) (by (nat_eq x 0))
      where
        fewer : Once rest vs ws L c.frame.locals
        fewer t n = let o = once t n in let h = unowned_one t n (Bits (I32 x)) w refl in omega arith

        by : (z : Bool) → Next (guarded (none_owned vs) (at ks [] (label vs None k ∷ K) L F (cond z q p) G)) (form.Goes (entered (with_values c.frame ws) None None (if z then rq else rp)))
        by true = entered_as None None q rq vs ws tt d a.1 fewer
        by false = entered_as None None p rp vs ws tt b a.1 fewer
    choose_as p q rp rq vs ws b d a once = stuck_as c s (turn_by m c (chosen c.frame None rp rq ws))

  -- the end of a block
  pub end_as : (vs : List Cell) (l : Label) (r : LabelForm) (K1 : List Label) (rs : List LabelForm) → LabelAs used bs made s.names l r → LabelsAs used bs made s.names K1 rs → WordsAs made s.names vs c.frame.values → Once rest vs c.frame.values L c.frame.locals →
      Next (guarded (none_owned vs) (at ks (vs ++ l.under) K1 L F l.rest G)) (form.at_end c.frame (r ∷ rs))
  end_as vs l r K1 rs h b a once = by (none_owned vs)
    where
      by : (g : Bool) → Next (guarded g (at ks (vs ++ l.under) K1 L F l.rest G)) (form.at_end c.frame (r ∷ rs))
      by false = stuck_as c s (turn_by m c (form.at_end c.frame (r ∷ rs)))
      by true =
          frame_as rest ks (vs ++ l.under) K1 L l.rest (record c.frame { values = c.frame.values ++ r.under; labels = rs; code = r.rest }) b rest.locals (words_append made s.names vs l.under c.frame.values r.under a h.under) h.rest
          (λ t q. let o = once t q in let g = owners_append made s.names t q vs l.under c.frame.values r.under a in let e = unowned_all t q l.under r.under h.unowned in omega arith)
