-- Small pieces of emitted code: branches, tests, answers that are kept or that stand for a fault, and what is let go.
use Rattle.std.proofs.Common.{◌≡◌, inl, inr, ℕ, ◌-◌, ◌^◌, ◌<◌, ◌≤◌, Bool, true, false, List, [], ◌∷◌, Some, None, Option, Result, Ok, refl, sym, ap, ◌∙◌, append-nil, arith}
use Rattle.std.specs.Prelude.{nat_eq, cond, suc}
use Rattle.std.specs.Int.{w32, w64, cast_signed, cast_unsigned}
use Rattle.awk_values.specs.declared.fault.Fault.{Fault}
use Rattle.awk_values.specs.declared.value.Value.{Value}
use Rattle.sem_primitives.specs.SharedState.{Shared, shared_after, gives}
use Rattle.wasm_types.specs.Syntax.{Instructions, Done}
use Rattle.wasm_types.specs.declared.types.ValType.TheVariants as ty
use Rattle.wasm_types.specs.declared.instr.Simple.TheVariants.{LocalTee, I32Const, I64Const, Compare, BrIf}
use Rattle.wasm_types.specs.declared.instr.IRelOp.TheVariants.{Eq, Ne}
use Rattle.wasm_store.specs.declared.word.Word.TheVariants.{I32, I64}
use Rattle.wasm_store.specs.Words.{flag}
use Rattle.mid_program.specs.Mid.{Kind}
use Rattle.lower_model.specs.Cells.{Cell, Bits, Held, IteratorOf, OwnedArray, LentArray, is_owned, left_by, Gone}
use Rattle.lower_model.specs.ImportCalls.{Host, call}
use Rattle.lower_model.specs.Machine.{Code, Look, Label, Frame, Store, at, br, label, with_operands, push_word, looked_compared, go}
use Rattle.lower_model.specs.Places.{Bases, number_local}
use Rattle.lower_model.specs.Small.{emit, ask, minus_one, least, text_beside, was_left, moved_out, has_handle, emit_if, let_go, number_is, kept_code, kept_value, kept_number, kept_done, answer_kept, text_or_left, text_taken}
use Rattle.host_imports.specs.declared.import.Import.{Import}
use Rattle.host_imports.specs.declared.import.Import.TheVariants.{Drop, IterFree, FreeArray}
use Rattle.lower_model.proofs.Runs.{Goes, then_goes, goes_to, by_steps}
use Rattle.lower_model.proofs.Regions.{upd_same}
use Rattle.lower_model.proofs.Locals.{Locals, Place, Hand, Number, local_of, IsPlace, has, with_at, has_with, laid, laid_at, laid_again, laid_twice}
use Rattle.lower_model.proofs.Steps.{empty, unanswered, get_moved, get_copied, set_ok, tee_ok, moved_out_ok}
use Rattle.lower_model.proofs.Calls.{called}
use Rattle.lower_model.proofs.Relation.{IsHand, IsWalk, IsYard}

-- Branches.

pub chooses : {u : Code} {ks : List Kind} {K : List Label} {L : List Cell} {F : List Frame} {c : Instructions} {G : Store} → (a b : Instructions) (m : ℕ) →
    Goes u 1 (at ks (Bits (I32 m) ∷ []) K L F (emit_if a b c) G) (at ks [] (label [] None c ∷ K) L F (cond (nat_eq m 0) b a) G)
chooses a b m = record { it = refl }

pub closes : {u : Code} {ks : List Kind} {K : List Label} {L : List Cell} {F : List Frame} {c : Instructions} {G : Store} →
    Goes u 1 (at ks [] (label [] None c ∷ K) L F Done G) (at ks [] K L F c G)
closes = record { it = refl }

-- What a local lets go.

same_shared : (s : Shared) → shared_after s (gives {A = Result (Unit {0}) Fault} s (Ok tt)) ≡ s
same_shared s = ap (λ o. record { inner = s.inner; outside = s.outside; output = o }) (append-nil s.output)

fault_or_none : {A : Type 0} → (f : Option Fault) (x y z : A) → x ≡ z → y ≡ z → elim f [ None ↦ x | Some g ↦ y ] ≡ z
fault_or_none None x y z e e1 = e
fault_or_none (Some g) x y z e e1 = e1

abbrev no_answer : Host → Option (Option Cell × Host)
no_answer o = Some (None, o)

same_host : (o : Host) → no_answer (record { shared = shared_after o.shared (gives {A = Result (Unit {0}) Fault} o.shared (Ok tt)); arguments = o.arguments; fault = o.fault }) ≡ no_answer o
same_host o = ap (λ s. no_answer (record { shared = s; arguments = o.arguments; fault = o.fault })) (same_shared o.shared)

-- what is let go by an import, also once a fault is kept
abbrev pub LetsGo : Import → Cell → Type 0
LetsGo i c = (memory : List ℕ) (o : Host) → call memory i (c ∷ []) o ≡ no_answer o

pub drops : (v : Value) → LetsGo Drop (Held v)
drops v memory o = fault_or_none o.fault _ _ _ (same_host o) (same_host o)

pub frees_iterator : (t : ℕ) → LetsGo IterFree (IteratorOf t)
frees_iterator t memory o = fault_or_none o.fault _ _ _ (same_host o) (same_host o)

pub frees_array : (a : ℕ) → LetsGo FreeArray (OwnedArray a)
frees_array a memory o = fault_or_none o.fault _ _ _ (same_host o) (same_host o)

pub drop_ok : {u : Code} {ks : List Kind} {K : List Label} {L : List Cell} {F : List Frame} {c : Instructions} {G : Store} → (v : Value) (vs : List Cell) →
    Goes u 1 (at ks (Held v ∷ vs) K L F (ask Drop c) G) (at ks vs K L F c G)
drop_ok {u = u} {G = G} v vs = called Drop (Held v ∷ []) vs G None G.host refl refl (drops v u.memory G.host)

pub free_iterator_ok : {u : Code} {ks : List Kind} {K : List Label} {L : List Cell} {F : List Frame} {c : Instructions} {G : Store} → (t : ℕ) (vs : List Cell) →
    Goes u 1 (at ks (IteratorOf t ∷ vs) K L F (ask IterFree c) G) (at ks vs K L F c G)
free_iterator_ok {u = u} {G = G} t vs = called IterFree (IteratorOf t ∷ []) vs G None G.host refl refl (frees_iterator t u.memory G.host)

pub free_array_ok : {u : Code} {ks : List Kind} {K : List Label} {L : List Cell} {F : List Frame} {c : Instructions} {G : Store} → (a : ℕ) (vs : List Cell) →
    Goes u 1 (at ks (OwnedArray a ∷ vs) K L F (ask FreeArray c) G) (at ks vs K L F c G)
free_array_ok {u = u} {G = G} a vs = called FreeArray (OwnedArray a ∷ []) vs G None G.host refl refl (frees_array a u.memory G.host)

-- a handle was read and stored again
restored : (b : Bases) (l : Locals) (p : Place) (v : Cell) → IsPlace b p → has l p ≡ v → laid b (with_at (with_at l p (left_by v)) p v) ≡ laid b l
restored b l p v q e = laid_twice b l p (left_by v) v q ∙ laid_again b l p v q e

-- what a place has is let go, if it has anything: in at most eight steps
pub record LetGo (u : Code) (ks : List Kind) (F : List Frame) (b : Bases) (i : Import) (p : Place) (K : List Label) (l : Locals) (c : Instructions) (G : Store) : Type 0 where
  pub steps : ℕ
  pub few : steps ≤ 8
  pub goes : Goes u steps (at ks [] K (laid b l) F (let_go i (local_of b p) c) G) (at ks [] K (laid b (with_at l p empty)) F c G)

module _ {u : Code} {ks : List Kind} {F : List Frame} (b : Bases) where
  -- whether a place has a handle: it stays there, and the answer is on the stack

  pub has_none : {K : List Label} {c : Instructions} {G : Store} → (l : Locals) (p : Place) → IsPlace b p → has l p ≡ empty →
      Goes u 3 (at ks [] K (laid b l) F (has_handle (local_of b p) c) G) (at ks (Bits (flag false) ∷ []) K (laid b l) F c G)
  has_none {K = K} {c = c} {G = G} l p h e =
      then_goes (get_copied b l p empty h e refl)
      (then_goes (goes_to (tee_ok b l p empty h (ap is_owned e)) (ap (λ M. at ks (empty ∷ []) K M F (emit (I32Const minus_one) (emit (Compare ty.I32 Ne) c)) G) (laid_again b l p empty h e)))
      (by_steps 1 refl))

  -- a look at what was just stored, which is compared
  looks : {K : List Label} {c : Instructions} {G : Store} → (l : Locals) (p : Place) (v : Cell) → IsPlace b p → has l p ≡ v → (f : Bool) → ((vs : List Cell) → push_word vs (looked_compared Ne v minus_one) ≡ Some (Bits (flag f) ∷ vs)) →
      Goes u 1 (Look (local_of b p) ks [] K (laid b l) F (emit (I32Const minus_one) (emit (Compare ty.I32 Ne) c)) G) (at ks (Bits (flag f) ∷ []) K (laid b l) F c G)
  looks {K = K} {c = c} {G = G} l p v h e f q = record {
    it =
        ap (λ w. with_operands (push_word [] (looked_compared Ne w minus_one)) ks K (laid b l) F c G) (laid_at b l p h ∙ e)
        ∙ ap (λ o. with_operands o ks K (laid b l) F c G) (q []);
  }

  pub has_value : {K : List Label} {c : Instructions} {G : Store} → (l : Locals) (p : Place) (v : Value) → IsPlace b p → has l p ≡ Held v →
      Goes u 3 (at ks [] K (laid b l) F (has_handle (local_of b p) c) G) (at ks (Bits (flag true) ∷ []) K (laid b l) F c G)
  has_value {K = K} {c = c} {G = G} l p v h e =
      then_goes (get_moved b l p (Held v) h e)
      (then_goes (goes_to (tee_ok b (with_at l p Gone) p (Held v) h (ap is_owned (has_with l p Gone))) (ap (λ M. Look (local_of b p) ks [] K M F (emit (I32Const minus_one) (emit (Compare ty.I32 Ne) c)) G) (restored b l p (Held v) h e)))
      (looks l p (Held v) h e true (λ vs. refl)))

  pub has_iterator : {K : List Label} {c : Instructions} {G : Store} → (l : Locals) (p : Place) (t : ℕ) → IsPlace b p → has l p ≡ IteratorOf t →
      Goes u 3 (at ks [] K (laid b l) F (has_handle (local_of b p) c) G) (at ks (Bits (flag true) ∷ []) K (laid b l) F c G)
  has_iterator {K = K} {c = c} {G = G} l p t h e =
      then_goes (get_moved b l p (IteratorOf t) h e)
      (then_goes (goes_to (tee_ok b (with_at l p Gone) p (IteratorOf t) h (ap is_owned (has_with l p Gone))) (ap (λ M. Look (local_of b p) ks [] K M F (emit (I32Const minus_one) (emit (Compare ty.I32 Ne) c)) G) (restored b l p (IteratorOf t) h e)))
      (looks l p (IteratorOf t) h e true (λ vs. refl)))

  pub has_array : {K : List Label} {c : Instructions} {G : Store} → (l : Locals) (p : Place) (a : ℕ) → IsPlace b p → has l p ≡ OwnedArray a →
      Goes u 3 (at ks [] K (laid b l) F (has_handle (local_of b p) c) G) (at ks (Bits (flag true) ∷ []) K (laid b l) F c G)
  has_array {K = K} {c = c} {G = G} l p a h e =
      then_goes (get_moved b l p (OwnedArray a) h e)
      (then_goes (goes_to (tee_ok b (with_at l p Gone) p (OwnedArray a) h (ap is_owned (has_with l p Gone))) (ap (λ M. at ks (LentArray a ∷ []) K M F (emit (I32Const minus_one) (emit (Compare ty.I32 Ne) c)) G) (restored b l p (OwnedArray a) h e)))
      (by_steps 1 refl))

  let_go_none : (i : Import) (p : Place) (K : List Label) (l : Locals) (c : Instructions) (G : Store) → IsPlace b p → has l p ≡ empty → LetGo u ks F b i p K l c G
  let_go_none i p K l c G h e = record {
    steps = 5;
    few = omega arith;
    goes = goes_to (then_goes (has_none l p h e) (then_goes (chooses (moved_out (local_of b p) (ask i Done)) Done 0) closes)) (ap (λ M. at ks [] K M F c G) (sym (laid_again b l p empty h e)));
  }

  pub let_go_hand : (p : Place) (K : List Label) (l : Locals) (c : Instructions) (G : Store) → IsPlace b p → IsHand (has l p) → LetGo u ks F b Drop p K l c G
  let_go_hand p K l c G h w = elim w [
    | inl e ↦ let_go_none Drop p K l c G h e
    | inr q ↦ record {
      steps = 8;
      few = omega arith;
      goes = then_goes (has_value l p q.0 h q.1) (then_goes (chooses (moved_out (local_of b p) (ask Drop Done)) Done 1) (then_goes (moved_out_ok b l p (Held q.0) h q.1) (then_goes (drop_ok q.0 []) closes)));
    }
  ]

  pub let_go_walk : (p : Place) (K : List Label) (l : Locals) (c : Instructions) (G : Store) → IsPlace b p → IsWalk (has l p) → LetGo u ks F b IterFree p K l c G
  let_go_walk p K l c G h w = elim w [
    | inl e ↦ let_go_none IterFree p K l c G h e
    | inr q ↦ record {
      steps = 8;
      few = omega arith;
      goes = then_goes (has_iterator l p q.0 h q.1) (then_goes (chooses (moved_out (local_of b p) (ask IterFree Done)) Done 1) (then_goes (moved_out_ok b l p (IteratorOf q.0) h q.1) (then_goes (free_iterator_ok q.0 []) closes)));
    }
  ]

  pub let_go_yard : (p : Place) (K : List Label) (l : Locals) (c : Instructions) (G : Store) → IsPlace b p → IsYard (has l p) → LetGo u ks F b FreeArray p K l c G
  let_go_yard p K l c G h w = elim w [
    | inl e ↦ let_go_none FreeArray p K l c G h e
    | inr q ↦ record {
      steps = 8;
      few = omega arith;
      goes = then_goes (has_array l p q.0 h q.1) (then_goes (chooses (moved_out (local_of b p) (ask FreeArray Done)) Done 1) (then_goes (moved_out_ok b l p (OwnedArray q.0) h q.1) (then_goes (free_array_ok q.0 []) closes)));
    }
  ]

  -- Numbers.

  -- whether a temporary's number is a given one
  pub number_is_ok : {vs : List Cell} {K : List Label} {c : Instructions} {G : Store} → (l : Locals) (t m x : ℕ) → t < b.temporaries → l.number t ≡ Bits (I64 m) →
      Goes u 2 (at ks vs K (laid b l) F (number_is (number_local b t) x c) G) (at ks (Bits (flag (nat_eq m x)) ∷ vs) K (laid b l) F c G)
  number_is_ok l t m x h e = then_goes (get_copied b l (Number t) (Bits (I64 m)) h e refl) (by_steps 1 refl)

  -- Answers.

  -- a code, which is none of a fault
  pub code_kept : {K : List Label} {c : Instructions} {G : Store} → (l : Locals) (t d m : ℕ) → t < b.temporaries → is_owned (l.number t) ≡ false → cast_unsigned w64 (cast_signed w32 m) ≡ m → nat_eq m (2 ^ 64 - 1) ≡ false →
      Goes u 4 (at ks (Bits (I32 m) ∷ []) K (laid b l) F (kept_code b true t d c) G) (at ks [] K (laid b (with_at l (Number t) (Bits (I64 m)))) F c G)
  code_kept {K = K} {c = c} {G = G} l t d m h o e ne =
      let l1 = with_at l (Number t) (Bits (I64 m)) in
      then_goes (goes_to (by_steps 1 refl) (ap (λ x. at ks (Bits (I64 x) ∷ []) K (laid b l) F (emit (LocalTee (number_local b t)) (emit (I64Const (2 ^ 64 - 1)) (emit (Compare ty.I64 Eq) (emit (BrIf d) c)))) G) e))
      (then_goes (tee_ok b l (Number t) (Bits (I64 m)) h o)
      (then_goes (goes_to (by_steps 1 refl) (ap (λ f. at ks (Bits (flag f) ∷ []) K (laid b l1) F (emit (BrIf d) c) G) ne)) (by_steps 1 refl)))

  pub code_failed : {K : List Label} {c : Instructions} {G : Store} → (l : Locals) (t d : ℕ) → t < b.temporaries → is_owned (l.number t) ≡ false →
      Goes u 4 (at ks (Bits (I32 (2 ^ 32 - 1)) ∷ []) K (laid b l) F (kept_code b true t d c) G) (br d ks K (laid b (with_at l (Number t) (Bits (I64 (2 ^ 64 - 1))))) F G)
  code_failed l t d h o = then_goes (by_steps 1 refl) (then_goes (tee_ok b l (Number t) (Bits (I64 (2 ^ 64 - 1))) h o) (by_steps 2 refl))

  pub code_stored : {K : List Label} {c : Instructions} {G : Store} → (l : Locals) (t d m : ℕ) → t < b.temporaries → is_owned (l.number t) ≡ false →
      Goes u 2 (at ks (Bits (I32 m) ∷ []) K (laid b l) F (kept_code b false t d c) G) (at ks [] K (laid b (with_at l (Number t) (Bits (I64 m)))) F c G)
  code_stored l t d m h o = then_goes (by_steps 1 refl) (set_ok b l (Number t) (Bits (I64 m)) h o)

  -- a value
  pub value_kept : {K : List Label} {c : Instructions} {G : Store} → (l : Locals) (t d : ℕ) (v : Value) → t < b.temporaries → is_owned (l.hand t) ≡ false →
      Goes u 3 (at ks (Held v ∷ []) K (laid b l) F (kept_value b true t d c) G) (at ks [] K (laid b (with_at l (Hand t) (Held v))) F c G)
  value_kept {K = K} {c = c} {G = G} l t d v h o =
      let l1 = with_at l (Hand t) (Held v) in
      then_goes (tee_ok b l (Hand t) (Held v) h o)
      (by_steps 2 (ap (λ w. go u 1 (with_operands (push_word [] (looked_compared Eq w minus_one)) ks K (laid b l1) F (emit (BrIf d) c) G)) (laid_at b l1 (Hand t) h ∙ has_with l (Hand t) (Held v))))

  pub value_failed : {K : List Label} {c : Instructions} {G : Store} → (l : Locals) (t d : ℕ) → t < b.temporaries → is_owned (l.hand t) ≡ false →
      Goes u 3 (at ks (empty ∷ []) K (laid b l) F (kept_value b true t d c) G) (br d ks K (laid b (with_at l (Hand t) empty)) F G)
  value_failed l t d h o = then_goes (tee_ok b l (Hand t) empty h o) (by_steps 2 refl)

  -- the word of a function that was left
  pub answer_failed : {K : List Label} {c : Instructions} {G : Store} → (l : Locals) (t d : ℕ) → t < b.temporaries → is_owned (l.number t) ≡ false →
      Goes u 9 (at ks (unanswered ∷ []) K (laid b l) F (answer_kept b t d c) G) (br d ks K (laid b (with_at l (Number t) unanswered)) F G)
  answer_failed l t d h o =
      let l1 = with_at l (Number t) unanswered in
      let e = upd_same l.number t unanswered in
      then_goes (then_goes (tee_ok b l (Number t) unanswered h o) (then_goes (by_steps 1 refl) (chooses (text_or_left b t d Done) Done 1)))
      (then_goes (then_goes (number_is_ok l1 t was_left text_beside h e) (chooses (text_taken b t Done) (number_is (number_local b t) was_left (emit (BrIf (suc (suc d))) Done)) 0))
      (then_goes (number_is_ok l1 t was_left was_left h e) (by_steps 1 refl)))

  -- a number, which is not the least one
  pub number_kept : {K : List Label} {c : Instructions} {G : Store} → (l : Locals) (t d m : ℕ) → t < b.temporaries → is_owned (l.number t) ≡ false → nat_eq m least ≡ false →
      Goes u 3 (at ks (Bits (I64 m) ∷ []) K (laid b l) F (kept_number b true t d c) G) (at ks [] K (laid b (with_at l (Number t) (Bits (I64 m)))) F c G)
  number_kept {K = K} {c = c} {G = G} l t d m h o ne =
      let l1 = with_at l (Number t) (Bits (I64 m)) in
      then_goes (tee_ok b l (Number t) (Bits (I64 m)) h o)
      (then_goes (goes_to (by_steps 1 refl) (ap (λ f. at ks (Bits (flag f) ∷ []) K (laid b l1) F (emit (BrIf d) c) G) ne)) (by_steps 1 refl))

  pub number_failed : {K : List Label} {c : Instructions} {G : Store} → (l : Locals) (t d : ℕ) → t < b.temporaries → is_owned (l.number t) ≡ false →
      Goes u 3 (at ks (Bits (I64 least) ∷ []) K (laid b l) F (kept_number b true t d c) G) (br d ks K (laid b (with_at l (Number t) (Bits (I64 least)))) F G)
  number_failed l t d h o = then_goes (tee_ok b l (Number t) (Bits (I64 least)) h o) (by_steps 2 refl)

  pub done_kept : {K : List Label} {L : List Cell} {c : Instructions} {G : Store} → (d : ℕ) → Goes u 2 (at ks (Bits (I32 0) ∷ []) K L F (kept_done b true d c) G) (at ks [] K L F c G)
  done_kept d = record { it = refl }

  pub done_failed : {K : List Label} {L : List Cell} {c : Instructions} {G : Store} → (d : ℕ) → Goes u 2 (at ks (empty ∷ []) K L F (kept_done b true d c) G) (br d ks K L F G)
  done_failed d = record { it = refl }

  pub done_dropped : {K : List Label} {L : List Cell} {c : Instructions} {G : Store} → (d : ℕ) → Goes u 1 (at ks (Bits (I32 0) ∷ []) K L F (kept_done b false d c) G) (at ks [] K L F c G)
  done_dropped d = record { it = refl }
