-- Operators on words, and comparisons with a handle or the number of an array.
use Rattle.std.proofs.Common.{◌≡◌, ℕ, ◌^◌, ◌<◌, Bool, true, false, not, cond, nat_le, List, [], ◌∷◌, Option, Some, None, Result, Ok, Err, refl, sym, ap, ◌∙◌, subst, arith}
use Rattle.std.proofs.lemmas.Bool.{leb-true, ne_eqb}
use Rattle.std.proofs.lemmas.Option.{none-some}
use Rattle.wasm_types.specs.Syntax.{Instructions}
use Rattle.wasm_types.specs.declared.types.ValType.{ValType}
use Rattle.wasm_types.specs.declared.types.ValType.TheVariants as ty
use Rattle.wasm_types.specs.declared.instr.Simple.{Simple}
use Rattle.wasm_types.specs.declared.instr.Simple.TheVariants as simple
use Rattle.wasm_types.specs.declared.instr.IRelOp.{IRelOp}
use Rattle.wasm_types.specs.declared.instr.IRelOp.TheVariants.{Eq, Ne}
use Rattle.wasm_types.specs.declared.instr.IBinOp.{IBinOp}
use Rattle.wasm_store.specs.declared.trap.TrapKind.{TrapKind}
use Rattle.wasm_store.specs.declared.word.Word.{Word}
use Rattle.wasm_store.specs.declared.word.Word.TheVariants.{I32, I64}
use Rattle.wasm_store.specs.Words.{binary_of, compare_of, converted, flag, test_of}
use Rattle.wasm_model.specs.Frames.{dropped, of_one, of_two, of_two_or, pushed, pushed_or, with_values}
use Rattle.wasm_model.specs.Frames as form
use Rattle.wasm_model.specs.Machines.{ProgramForm, turn_by}
use Rattle.wasm_model.specs.Machines as real
use Rattle.mid_program.specs.Mid.{Kind}
use Rattle.host_step.specs.HostState.{HostState, Names}
use Rattle.lower_model.specs.Cells.{Cell, Bits, Held, IteratorOf, OwnedArray, LentArray, Gone, is_owned}
use Rattle.lower_model.specs.Machine.{Code, Frame, Label, Store, compared, handle_compared, looked_compared, operated, push_result, push_word, with_operands}
use Rattle.agreement.specs.Refined.Refined.{CodeAs, NextAs, RestAs}
use Rattle.agreement.specs.Refined.Words.{WordAs, WordsAs, arrays_made}
use Rattle.agreement.proofs.RefinedLemmas.Carrying.{unowned_one}
use Rattle.agreement.proofs.RefinedLemmas.FrameSteps.{Once, frame_as, stuck_as}

-- where the machine over values has a word, the real machine has it too
abbrev pub Gives : Option Word → Option Word → Type 0
Gives o r = (w : Word) → o ≡ Some w → r ≡ Some w

from_there : {A : Type 0} → (b : Bool) (x w : A) → cond b (Some x) None ≡ Some w → (b ≡ true) × (Some x ≡ Some w)
from_there true x w e = (refl, e)
from_there false x w e = absurd (none-some w e)

-- a handle is no word from 2^31 on
handle_word : (op : IRelOp) (h n : ℕ) → h < 2 ^ 31 → Gives (handle_compared op n) (compare_of ty.I32 op (I32 h) (I32 n))
handle_word Eq h n l w e =
    let g = from_there (nat_le (2 ^ 31) n) (flag false) w e in
    ap (λ b. Some (flag b)) (ne_eqb h n (λ same. let k = leb-true (2 ^ 31) n g.0 in absurd (omega (arith, same, k, l)))) ∙ g.1
handle_word Ne h n l w e =
    let g = from_there (nat_le (2 ^ 31) n) (flag true) w e in
    ap (λ b. Some (flag (not b))) (ne_eqb h n (λ same. let k = leb-true (2 ^ 31) n g.0 in absurd (omega (arith, same, k, l)))) ∙ g.1
handle_word op h n l w e = absurd (none-some w e)

module _ (made : ℕ) (N : Names) where
  -- a comparison with what was looked at
  pub looked_word : (op : IRelOp) (d : Cell) (x : Word) (n : ℕ) → WordAs made N d x → Gives (looked_compared op d n) (compare_of ty.I32 op x (I32 n))
  looked_word op (Bits v) x n a w e = subst (λ z. compare_of ty.I32 op z (I32 n) ≡ Some w) (sym a) e
  looked_word op (Held v) (I32 h) n a w e = handle_word op h n a.0 w e
  looked_word op (IteratorOf v) (I32 h) n a w e = handle_word op h n a.0 w e
  looked_word op (OwnedArray v) (I32 h) n a w e = handle_word op h n a.1.0 w e
  looked_word op (LentArray v) (I32 h) n a w e = handle_word op h n a.0 w e
  looked_word op (Held v) (I64 h) n a w e = absurd a
  looked_word op (IteratorOf v) (I64 h) n a w e = absurd a
  looked_word op (OwnedArray v) (I64 h) n a w e = absurd a.1
  looked_word op (LentArray v) (I64 h) n a w e = absurd a
  looked_word op Gone x n a w e = absurd (none-some w e)

  -- a comparison of two operands; neither is owned
  compared_word : (t : ValType) (op : IRelOp) (a b : Cell) (x y : Word) → WordAs made N a x → WordAs made N b y → Gives (compared t op a b) (compare_of t op x y)
  compared_word t op (Bits v) (Bits u) x y f g w e = subst (λ z. compare_of t op z y ≡ Some w) (sym f) (subst (λ z. compare_of t op v z ≡ Some w) (sym g) e)
  compared_word ty.I32 op (LentArray v) (Bits (I32 n)) (I32 h) y f g w e = subst (λ z. compare_of ty.I32 op (I32 h) z ≡ Some w) (sym g) (handle_word op h n f.0 w e)
  compared_word ty.I32 op (LentArray v) (Bits (I32 n)) (I64 h) y f g w e = absurd f
  compared_word t op a b x y f g w e = absurd (none-some w e)

module _ {used : ℕ → Bool} {bs : List Bool} {u : Code} {K : List Label} {L : List Cell} {F : List Frame} {k : Instructions} {G : Store} {c : real.Conf} {s : HostState} (m : ProgramForm) (ks : List Kind) (rest : RestAs used bs u K L F G c s) (code-is : CodeAs used bs k c.frame.code) where
  abbrev Next : Option (List Cell) → form.Local → Type 0
  Next o l = NextAs used bs u (with_operands o ks K L F k G) c s (turn_by m c l)

  abbrev made : ℕ
  made = arrays_made G.host

  goes_with : (vs : List Cell) (ws : List Word) → WordsAs made s.names vs ws → Once rest vs ws L c.frame.locals → Next (Some vs) (form.Goes (with_values c.frame ws))
  goes_with vs ws a once = frame_as rest ks vs K L k (with_values c.frame ws) rest.labels rest.locals a code-is once

  bits_once : (v w : Word) (vs : List Cell) (ws : List Word) → Once rest vs ws L c.frame.locals → Once rest (Bits v ∷ vs) (w ∷ ws) L c.frame.locals
  bits_once v w vs ws once t q = let o = once t q in let h = unowned_one t q (Bits v) w refl in omega arith

  fewer_once : (d : Cell) (w : Word) (vs : List Cell) (ws : List Word) → is_owned d ≡ false → Once rest (d ∷ vs) (w ∷ ws) L c.frame.locals → Once rest vs ws L c.frame.locals
  fewer_once d w vs ws e once t q = let o = once t q in let h = unowned_one t q d w e in omega arith

  pub word_as : (o r : Option Word) (vs : List Cell) (ws : List Word) → Gives o r → WordsAs made s.names vs ws → Once rest vs ws L c.frame.locals → Next (push_word vs o) (pushed c.frame ws r)
  word_as None r vs ws g a once = stuck_as c s (turn_by m c (pushed c.frame ws r))
  word_as (Some w) r vs ws g a once = subst (λ z. Next (Some (Bits w ∷ vs)) (pushed c.frame ws z)) (sym (g w refl)) (goes_with (Bits w ∷ vs) (w ∷ ws) (refl, a) (bits_once w w vs ws once))

  result_as : (o : Option (Result Word TrapKind)) (vs : List Cell) (ws : List Word) → WordsAs made s.names vs ws → Once rest vs ws L c.frame.locals → Next (push_result vs o) (pushed_or c.frame ws o)
  result_as None vs ws a once = stuck_as c s (turn_by m c (pushed_or c.frame ws None))
  result_as (Some (Err x)) vs ws a once = stuck_as c s (turn_by m c (pushed_or c.frame ws (Some (Err x))))
  result_as (Some (Ok w)) vs ws a once = goes_with (Bits w ∷ vs) (w ∷ ws) (refl, a) (bits_once w w vs ws once)

  -- an operator on one word
  one_as : (g : Word → Option Word) (v : Word) (vs : List Cell) (ws : List Word) → WordsAs made s.names (Bits v ∷ vs) ws → Once rest (Bits v ∷ vs) ws L c.frame.locals → Next (push_word vs (g v)) (of_one c.frame g ws)
  one_as g v vs [] a once = absurd a
  one_as g v vs (w ∷ ws) a once = word_as (g v) (g w) vs ws (λ x e. subst (λ z. g z ≡ Some x) (sym a.0) e) a.1 (fewer_once (Bits v) w vs ws refl once)

  compared_unowned : (t : ValType) (op : IRelOp) (a b : Cell) (w : Word) → compared t op a b ≡ Some w → (is_owned a ≡ false) × (is_owned b ≡ false)
  compared_unowned t op (Bits v) (Bits x) w e = (refl, refl)
  compared_unowned ty.I32 op (LentArray v) (Bits (I32 n)) w e = (refl, refl)
  compared_unowned t op a b w e = absurd (none-some w e)

  compare_as : (t : ValType) (op : IRelOp) (b a : Cell) (vs : List Cell) (ws : List Word) → WordsAs made s.names (b ∷ (a ∷ vs)) ws → Once rest (b ∷ (a ∷ vs)) ws L c.frame.locals → Next (push_word vs (compared t op a b)) (of_two c.frame (compare_of t op) ws)
  compare_as t op b a vs [] h once = absurd h
  compare_as t op b a vs (y ∷ []) h once = absurd h.1
  compare_as t op b a vs (y ∷ (x ∷ ws)) h once = by (compared t op a b) refl
    where
      by : (o : Option Word) → compared t op a b ≡ o → Next (push_word vs o) (pushed c.frame ws (compare_of t op x y))
      by None e = stuck_as c s (turn_by m c (pushed c.frame ws (compare_of t op x y)))
      by (Some w) e =
          let free = compared_unowned t op a b w e in
          word_as (Some w) (compare_of t op x y) vs ws (λ z q. compared_word made s.names t op a b x y h.1.0 h.0 z (e ∙ q)) h.1.1 (fewer_once a x vs ws free.0 (fewer_once b y (a ∷ vs) (x ∷ ws) free.1 once))

  binary_as : (t : ValType) (op : IBinOp) (v x : Word) (vs : List Cell) (ws : List Word) → WordsAs made s.names (Bits v ∷ (Bits x ∷ vs)) ws → Once rest (Bits v ∷ (Bits x ∷ vs)) ws L c.frame.locals → Next (push_result vs (binary_of t op x v)) (of_two_or c.frame (binary_of t op) ws)
  binary_as t op v x vs [] a once = absurd a
  binary_as t op v x vs (w ∷ []) a once = absurd a.1
  binary_as t op v x vs (w ∷ (y ∷ ws)) a once =
      subst (λ z. Next (push_result vs (binary_of t op x v)) (pushed_or c.frame ws (binary_of t op y z))) (sym a.0)
      (subst (λ z. Next (push_result vs (binary_of t op x v)) (pushed_or c.frame ws (binary_of t op z v))) (sym a.1.0)
      (result_as (binary_of t op x v) vs ws a.1.1 (fewer_once (Bits x) y vs ws refl (fewer_once (Bits v) w (Bits x ∷ vs) (y ∷ ws) refl once))))

  drop_as : (v : Word) (vs : List Cell) (ws : List Word) → WordsAs made s.names (Bits v ∷ vs) ws → Once rest (Bits v ∷ vs) ws L c.frame.locals → Next (Some vs) (dropped c.frame ws)
  drop_as v vs [] a once = absurd a
  drop_as v vs (w ∷ ws) a once = goes_with vs ws a.1 (fewer_once (Bits v) w vs ws refl once)

  pub operated_as : (p : Simple) (vs : List Cell) → WordsAs made s.names vs c.frame.values → Once rest vs c.frame.values L c.frame.locals → Next (operated p vs) (form.simple c.frame p)
  operated_as (simple.Test t op) (Bits v ∷ vs) a once = one_as (test_of t op) v vs c.frame.values a once
  operated_as (simple.Convert op) (Bits v ∷ vs) a once = one_as (converted op) v vs c.frame.values a once
  operated_as (simple.Compare t op) (b ∷ (d ∷ vs)) a once = compare_as t op b d vs c.frame.values a once
  operated_as (simple.Binary t op) (Bits v ∷ (Bits x ∷ vs)) a once = binary_as t op v x vs c.frame.values a once
  operated_as simple.Drop (Bits v ∷ vs) a once = drop_as v vs c.frame.values a once
  operated_as p vs a once = stuck_as c s (turn_by m c (form.simple c.frame p))
