-- Single instructions of a run that calls no import. A run that is nowhere stuck and never traps goes on at each of them: what an operator needs is there.
use Rattle.std.proofs.Common.{◌≡◌, ℕ, zero, suc, Bool, true, false, if◌then◌else◌, List, [], ◌∷◌, length, nat_eq, nat_lt, Option, Some, None, Result, Ok, Err, refl, sym, ap, ◌∙◌, subst}
use Rattle.std.specs.Prelude.{slice_get, slice_set}
use Rattle.std.proofs.Math.Dec.{eqb-zero-suc, eqb-suc-suc}
use Rattle.wasm_types.specs.Syntax.{Block, Done, If, Instructions, Then}
use Rattle.wasm_types.specs.declared.types.ValType.{ValType}
use Rattle.wasm_types.specs.declared.instr.Simple.TheVariants.{Binary, Br, BrIf, Compare, Convert, GlobalGet, GlobalSet, I32Const, I64Const, LocalGet, LocalSet, LocalTee, Nop, Test}
use Rattle.wasm_types.specs.declared.instr.CvtOp.{CvtOp}
use Rattle.wasm_types.specs.declared.instr.IBinOp.{IBinOp}
use Rattle.wasm_types.specs.declared.instr.IRelOp.{IRelOp}
use Rattle.wasm_types.specs.declared.instr.ITestOp.{ITestOp}
use Rattle.wasm_store.specs.declared.trap.TrapKind.{TrapKind}
use Rattle.wasm_store.specs.declared.word.Word.{Word}
use Rattle.wasm_store.specs.declared.word.Word.TheVariants.{I32, I64}
use Rattle.wasm_store.specs.Words.{binary_of, compare_of, converted, test_of}
use Rattle.wasm_model.specs.Frames.{FrameForm, LabelForm, Local, branch_at, jump, local_step, pushed, pushed_or, with_values}
use Rattle.wasm_model.specs.Frames as form
use Rattle.wasm_model.specs.Machines.{Conf, Ends, Goes, ProgramForm, Turn, turn, turn_by, with_frame, with_value}
use Rattle.wasm_model.specs.declared.ends.End.TheVariants as ends
use Rattle.lower_model.specs.Modules.{renumbered}
use Rattle.lower_model.specs.Small.{emit}
use Rattle.agreement.specs.Quiet.Quiet.{HostCallFree, host_call_free, where_it_goes}

-- a turn that is neither stuck nor a trap
abbrev pub IsSound : Turn → Type 0
IsSound (Ends ends.Stuck) = ⊥
IsSound (Ends (ends.Trapped k)) = ⊥
IsSound t = Unit {0}

-- so is each turn of the run from here, while it calls no import
pub record IsLiving (m : ProgramForm) (c : Conf) : Type 0 where
  pub it : (n : ℕ) (there : Conf) → host_call_free m n c ≡ Some there → IsSound (turn m there)

-- such a place, with nothing on the operands
abbrev pub Clear : (Conf → Type 0) → Conf → Type 0
Clear P c = (c.frame.values ≡ []) × P c

module _ (m : ProgramForm) (P : Conf → Type 0) where
  abbrev Comes : Conf → Type 0
  Comes c = HostCallFree m c (Clear P)

  -- a step on
  goes : (c d : Conf) → turn m c ≡ Goes d → IsLiving m c → (IsLiving m d → Comes d) → Comes c
  goes c d e a k =
      let q = k (record { it = λ n there h. a.it (suc n) there (ap (λ (t : Turn). where_it_goes t (host_call_free m n)) e ∙ h) }) in
      record { steps = suc q.steps; place = q.place; goes = ap (λ (t : Turn). where_it_goes t (host_call_free m q.steps)) e ∙ q.goes; holds = q.holds }

  not_stuck : (c : Conf) → turn m c ≡ Ends ends.Stuck → IsLiving m c → ⊥
  not_stuck c e a = subst IsSound e (a.it zero c refl)

  not_trapped : (c : Conf) (k : TrapKind) → turn m c ≡ Ends (ends.Trapped k) → IsLiving m c → ⊥
  not_trapped c k e a = subst IsSound e (a.it zero c refl)

  one_pushed : (c : Conf) (f : FrameForm) (vs : List Word) (o : Option Word) → turn m c ≡ turn_by m c (pushed f vs o) → IsLiving m c →
      ((w : Word) → o ≡ Some w → IsLiving m (with_frame c (with_values f (w ∷ vs))) → Comes (with_frame c (with_values f (w ∷ vs)))) → Comes c
  one_pushed c f vs None e a k = absurd (not_stuck c e a)
  one_pushed c f vs (Some w) e a k = goes c (with_frame c (with_values f (w ∷ vs))) e a (k w refl)

  result_pushed : (c : Conf) (f : FrameForm) (vs : List Word) (o : Option (Result Word TrapKind)) → turn m c ≡ turn_by m c (pushed_or f vs o) → IsLiving m c →
      ((w : Word) → IsLiving m (with_frame c (with_values f (w ∷ vs))) → Comes (with_frame c (with_values f (w ∷ vs)))) → Comes c
  result_pushed c f vs None e a k = absurd (not_stuck c e a)
  result_pushed c f vs (Some (Err t)) e a k = absurd (not_trapped c t e a)
  result_pushed c f vs (Some (Ok w)) e a k = goes c (with_frame c (with_values f (w ∷ vs))) e a (k w)

  value_pushed : (c : Conf) (f : FrameForm) (vs : List Word) (o : Option Word) → turn m c ≡ with_value (with_frame c f) vs o → IsLiving m c →
      ((w : Word) → o ≡ Some w → IsLiving m (with_frame c (with_values f (w ∷ vs))) → Comes (with_frame c (with_values f (w ∷ vs)))) → Comes c
  value_pushed c f vs None e a k = absurd (not_stuck c e a)
  value_pushed c f vs (Some w) e a k = goes c (with_frame c (with_values f (w ∷ vs))) e a (k w refl)

  -- on, if there is such a place
  goes_if : (c d : Conf) (b : Bool) → turn m c ≡ (if b then Goes d else Ends ends.Stuck) → IsLiving m c → (b ≡ true → IsLiving m d → Comes d) → Comes c
  goes_if c d true e a k = goes c d e a (k refl)
  goes_if c d false e a k = absurd (not_stuck c e a)

  frame_if : (c : Conf) (f : FrameForm) (b : Bool) → turn m c ≡ turn_by m c (if b then form.Goes f else form.Stuck) → IsLiving m c →
      (b ≡ true → IsLiving m (with_frame c f) → Comes (with_frame c f)) → Comes c
  frame_if c f true e a k = goes c (with_frame c f) e a (k refl)
  frame_if c f false e a k = absurd (not_stuck c e a)

  -- what a turn does beside has no part of the frame at work
  frame_apart : (c : Conf) (f : FrameForm) (l : Local) → turn_by m (with_frame c f) l ≡ turn_by m c l
  frame_apart c f (form.Goes g) = refl
  frame_apart c f (form.Calls n g) = refl
  frame_apart c f (form.CallsThrough n at g) = refl
  frame_apart c f (form.Works op g) = refl
  frame_apart c f (form.Leaves g) = refl
  frame_apart c f (form.Traps k) = refl
  frame_apart c f form.Stuck = refl

  -- a constant is pushed already
  settled : (c : Conf) (f : FrameForm) (w : Word) (vs : List Word) → f.values ≡ w ∷ vs → turn m c ≡ turn m (with_frame c f) → IsLiving m c →
      (IsLiving m (with_frame c f) → Comes (with_frame c f)) → Comes c
  settled c f w vs h e a k = by (k (record { it = living })).steps (k (record { it = living })) refl
    where
      living : (n : ℕ) (there : Conf) → host_call_free m n (with_frame c f) ≡ Some there → IsSound (turn m there)
      living zero there q = let s : with_frame c f ≡ there = cc in subst (λ z. IsSound (turn m z)) s (subst IsSound e (a.it zero c refl))
      living (suc n) there q = a.it (suc n) there (ap (λ (t : Turn). where_it_goes t (host_call_free m n)) e ∙ q)

      by : (n : ℕ) (q : Comes (with_frame c f)) → q.steps ≡ n → Comes c
      by zero q z =
          let s : with_frame c f ≡ q.place = let x = subst (λ j. host_call_free m j (with_frame c f) ≡ Some q.place) z q.goes in cc in
          let v = subst (λ (x : Conf). x.frame.values ≡ []) (sym s) q.holds.0 in
          let y : w ∷ vs ≡ [] = sym h ∙ v in cc
      by (suc n) q z =
          record {
            steps = suc n;
            place = q.place;
            goes = ap (λ (t : Turn). where_it_goes t (host_call_free m n)) e
                ∙ subst (λ j. host_call_free m j (with_frame c f) ≡ Some q.place) z q.goes;
            holds = q.holds;
          }

-- Places: such labels, globals, locals and operands before this code, in a call of a function.

abbrev pub at : List Bool → Conf → List LabelForm → List Word → List Word → List Word → Instructions → Conf
at bs base K gs L vs code = record base { frame = record { values = vs; labels = K; locals = L; code = renumbered bs code }; globals = gs }

-- from here the run comes there, if it lives
pub record Flows (m : ProgramForm) (P : Conf → Type 0) (bs : List Bool) (base : Conf) (K : List LabelForm) (gs L vs : List Word)
    (code : Instructions) : Type 0 where
  pub it : IsLiving m (at bs base K gs L vs code) → HostCallFree m (at bs base K gs L vs code) (Clear P)

abbrev pub block : List Bool → List Word → Instructions → LabelForm
block bs vs k = record { under = vs; again = None; gives = None; rest = renumbered bs k }

module _ {m : ProgramForm} {P : Conf → Type 0} {bs : List Bool} {base : Conf} where
  -- the end of a block
  pub ended : {K : List LabelForm} {gs L : List Word} {k : Instructions} → Flows m P bs base K gs L [] k → Flows m P bs base (block bs [] k ∷ K) gs L [] Done
  ended {K = K} {gs = gs} {L = L} {k = k} h = record { it = λ a. goes m P (at bs base (block bs [] k ∷ K) gs L [] Done) (at bs base K gs L [] k) refl a h.it }

  module _ {K : List LabelForm} {gs L vs : List Word} {k : Instructions} where
    pub arrived : Clear P (at bs base K gs L vs k) → Flows m P bs base K gs L vs k
    arrived h = record { it = λ a. record { steps = zero; place = at bs base K gs L vs k; goes = refl; holds = h } }

    pub nop : Flows m P bs base K gs L vs k → Flows m P bs base K gs L vs (emit Nop k)
    nop h = record { it = λ a. goes m P (at bs base K gs L vs (emit Nop k)) (at bs base K gs L vs k) refl a h.it }

    pub const32 : {n : ℕ} → Flows m P bs base K gs L (I32 n ∷ vs) k → Flows m P bs base K gs L vs (emit (I32Const n) k)
    const32 {n = n} h =
        let c = at bs base K gs L vs (emit (I32Const n) k) in
        let d = at bs base K gs L (I32 n ∷ vs) k in
        record { it = λ a. settled m P c d.frame (I32 n) vs refl (sym (frame_apart m P c d.frame (local_step d.frame))) a h.it }

    pub const64 : {n : ℕ} → Flows m P bs base K gs L (I64 n ∷ vs) k → Flows m P bs base K gs L vs (emit (I64Const n) k)
    const64 {n = n} h =
        let c = at bs base K gs L vs (emit (I64Const n) k) in
        let d = at bs base K gs L (I64 n ∷ vs) k in
        record { it = λ a. settled m P c d.frame (I64 n) vs refl (sym (frame_apart m P c d.frame (local_step d.frame))) a h.it }

    pub get : {x : ℕ} → ((w : Word) → slice_get L x ≡ Some w → Flows m P bs base K gs L (w ∷ vs) k) → Flows m P bs base K gs L vs (emit (LocalGet x) k)
    get {x = x} h = record {
      it = λ a. one_pushed m P (at bs base K gs L vs (emit (LocalGet x) k)) (at bs base K gs L vs k).frame vs (slice_get L x) refl a
          (λ w e. (h w e).it);
    }

    pub set : {x : ℕ} {w : Word} → (nat_lt x (length L) ≡ true → Flows m P bs base K gs (slice_set L x w) vs k) →
        Flows m P bs base K gs L (w ∷ vs) (emit (LocalSet x) k)
    set {x = x} {w = w} h =
        record {
          it = λ a. frame_if m P (at bs base K gs L (w ∷ vs) (emit (LocalSet x) k)) (at bs base K gs (slice_set L x w) vs k).frame
              (nat_lt x (length L)) refl a (λ e. (h e).it);
        }

    pub tee : {x : ℕ} {w : Word} → (nat_lt x (length L) ≡ true → Flows m P bs base K gs (slice_set L x w) (w ∷ vs) k) →
        Flows m P bs base K gs L (w ∷ vs) (emit (LocalTee x) k)
    tee {x = x} {w = w} h =
        record {
          it = λ a. frame_if m P (at bs base K gs L (w ∷ vs) (emit (LocalTee x) k)) (at bs base K gs (slice_set L x w) (w ∷ vs) k).frame
              (nat_lt x (length L)) refl a (λ e. (h e).it);
        }

    pub get_global : {x : ℕ} → ((w : Word) → slice_get gs x ≡ Some w → Flows m P bs base K gs L (w ∷ vs) k) → Flows m P bs base K gs L vs (emit (GlobalGet x) k)
    get_global {x = x} h = record {
      it = λ a. value_pushed m P (at bs base K gs L vs (emit (GlobalGet x) k)) (at bs base K gs L vs k).frame vs
          (slice_get gs x) refl a (λ w e. (h w e).it);
    }

    pub set_global : {x : ℕ} {w : Word} → Flows m P bs base K (slice_set gs x w) L vs k → Flows m P bs base K gs L (w ∷ vs) (emit (GlobalSet x) k)
    set_global {x = x} {w = w} h = record {
      it = λ a. goes_if m P (at bs base K gs L (w ∷ vs) (emit (GlobalSet x) k)) (at bs base K (slice_set gs x w) L vs k)
          (nat_lt x (length gs)) refl a (λ e. h.it);
    }

    pub test : {t : ValType} {op : ITestOp} {v : Word} → ((w : Word) → Flows m P bs base K gs L (w ∷ vs) k) →
        Flows m P bs base K gs L (v ∷ vs) (emit (Test t op) k)
    test {t = t} {op = op} {v = v} h = record {
      it = λ a. one_pushed m P (at bs base K gs L (v ∷ vs) (emit (Test t op) k))
          (at bs base K gs L (v ∷ vs) k).frame vs (test_of t op v) refl a (λ w e. (h w).it);
    }

    pub convert : {op : CvtOp} {v : Word} → ((w : Word) → Flows m P bs base K gs L (w ∷ vs) k) → Flows m P bs base K gs L (v ∷ vs) (emit (Convert op) k)
    convert {op = op} {v = v} h = record {
      it = λ a. one_pushed m P (at bs base K gs L (v ∷ vs) (emit (Convert op) k)) (at bs base K gs L (v ∷ vs) k).frame vs
          (converted op v) refl a (λ w e. (h w).it);
    }

    pub compare : {t : ValType} {op : IRelOp} {v u : Word} → ((w : Word) → compare_of t op v u ≡ Some w → Flows m P bs base K gs L (w ∷ vs) k) →
        Flows m P bs base K gs L (u ∷ (v ∷ vs)) (emit (Compare t op) k)
    compare {t = t} {op = op} {v = v} {u = u} h =
        record {
          it = λ a. one_pushed m P (at bs base K gs L (u ∷ (v ∷ vs)) (emit (Compare t op) k)) (at bs base K gs L (u ∷ (v ∷ vs)) k).frame vs
              (compare_of t op v u) refl a (λ w e. (h w e).it);
        }

    pub binary : {t : ValType} {op : IBinOp} {v u : Word} → ((w : Word) → Flows m P bs base K gs L (w ∷ vs) k) →
        Flows m P bs base K gs L (u ∷ (v ∷ vs)) (emit (Binary t op) k)
    binary {t = t} {op = op} {v = v} {u = u} h =
        record {
          it = λ a. result_pushed m P (at bs base K gs L (u ∷ (v ∷ vs)) (emit (Binary t op) k)) (at bs base K gs L (u ∷ (v ∷ vs)) k).frame vs
              (binary_of t op v u) refl a (λ w. (h w).it);
        }

    -- one of two ways
    pub branch : {p q : Instructions} {w : Word} → ((n : ℕ) → w ≡ I32 n → nat_eq n 0 ≡ false → Flows m P bs base (block bs vs k ∷ K) gs L [] p) →
        ((n : ℕ) → w ≡ I32 n → nat_eq n 0 ≡ true → Flows m P bs base (block bs vs k ∷ K) gs L [] q) →
        Flows m P bs base K gs L (w ∷ vs) (Then (If None p q) k)
    branch {p = p} {q = q} {w = I64 n} f g = record { it = λ a. absurd (not_stuck m P (at bs base K gs L (I64 n ∷ vs) (Then (If None p q) k)) refl a) }
    branch {p = p} {q = q} {w = I32 n} f g = by (nat_eq n 0) refl
      where
        inside : Instructions → Conf
        inside r = at bs base (block bs vs k ∷ K) gs L [] r

        by : (b : Bool) → nat_eq n 0 ≡ b → Flows m P bs base K gs L (I32 n ∷ vs) (Then (If None p q) k)
        by true e = record {
          it = λ a. goes m P (at bs base K gs L (I32 n ∷ vs) (Then (If None p q) k)) (inside q)
              (ap (λ z. Goes (record (inside q) { frame = record (inside q).frame { code = if z then renumbered bs q else renumbered bs p } })) e) a
              (g n refl e).it;
        }
        by false e = record {
          it = λ a. goes m P (at bs base K gs L (I32 n ∷ vs) (Then (If None p q) k)) (inside p)
              (ap (λ z. Goes (record (inside p) { frame = record (inside p).frame { code = if z then renumbered bs q else renumbered bs p } })) e) a
              (f n refl e).it;
        }

    -- into a block
    pub entered : {p : Instructions} → Flows m P bs base (block bs vs k ∷ K) gs L [] p → Flows m P bs base K gs L vs (Then (Block None p) k)
    entered {p = p} h = record { it = λ a. goes m P (at bs base K gs L vs (Then (Block None p) k)) (at bs base (block bs vs k ∷ K) gs L [] p) refl a h.it }

    -- out of two blocks
    pub left_twice : {r : LabelForm} {p : Instructions} → Flows m P bs base K gs L [] p → Flows m P bs base (r ∷ (block bs [] p ∷ K)) gs L vs (emit (Br 1) k)
    left_twice {r = r} {p = p} h = record { it = λ a. goes m P c (at bs base K gs L [] p) out a h.it }
      where
        K1 : List LabelForm
        K1 = r ∷ (block bs [] p ∷ K)

        c : Conf
        c = at bs base K1 gs L vs (emit (Br 1) k)

        behind : FrameForm
        behind = (at bs base K1 gs L vs k).frame

        out : turn m c ≡ Goes (at bs base K gs L [] p)
        out = ap (λ z. turn_by m c (if z then form.Leaves behind else branch_at behind (block bs [] p ∷ K))) (eqb-suc-suc zero (suc (length K)) ∙ eqb-zero-suc (length K))

    -- out of the innermost block, or not
    pub left_if : {p : Instructions} {w : Word} → Flows m P bs base K gs L [] p → Flows m P bs base (block bs [] p ∷ K) gs L vs k →
        Flows m P bs base (block bs [] p ∷ K) gs L (w ∷ vs) (emit (BrIf 0) k)
    left_if {p = p} {w = I64 n} f g = record { it = λ a. absurd (not_stuck m P (at bs base (block bs [] p ∷ K) gs L (I64 n ∷ vs) (emit (BrIf 0) k)) refl a) }
    left_if {p = p} {w = I32 n} f g = by (nat_eq n 0) refl
      where
        K1 : List LabelForm
        K1 = block bs [] p ∷ K

        c : Conf
        c = at bs base K1 gs L (I32 n ∷ vs) (emit (BrIf 0) k)

        behind : FrameForm
        behind = (at bs base K1 gs L vs k).frame

        by : (b : Bool) → nat_eq n 0 ≡ b → Flows m P bs base K1 gs L (I32 n ∷ vs) (emit (BrIf 0) k)
        by true e = record { it = λ a. goes m P c (at bs base K1 gs L vs k) (ap (λ z. turn_by m c (if z then form.Goes behind else jump behind 0)) e) a g.it }
        by false e = record {
          it = λ a. goes m P c (at bs base K gs L [] p)
              (ap (λ z. turn_by m c (if z then form.Goes behind else jump behind 0)) e
              ∙ ap (λ z. turn_by m c (if z then form.Leaves behind else branch_at behind K1)) (eqb-zero-suc (length K))) a f.it;
        }
