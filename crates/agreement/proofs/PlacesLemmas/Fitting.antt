-- How many cells a run holds. The operands of a function, its instructions that are left, and the same under each of its labels, are together at most the
-- instructions of its body: each of these gives one operand at most.
use Rattle.std.proofs.Common.{◌≡◌, ℕ, zero, suc, ◌+◌, ◌-◌, ◌≤◌, Bool, true, false, not, ◌&&◌, cond, nat_eq, nat_le, nat_lt, List, [], ◌∷◌, ◌++◌, length, take, drop, reverse, set, slice_get, Option, Some, None, Result, Ok, Err, refl, arith}
use Rattle.std.proofs.lemmas.Bool.{and_parts, ltb-true}
use Rattle.std.proofs.lemmas.List.{length-append, length-drop, length-map, length-reverse, length-set, length-take}
use Rattle.std.proofs.Math.Nat.{min-le_left}
use Rattle.wasm_types.specs.Syntax.{Instruction, Plain, Block, Loop, If, Instructions, Done, Then}
use Rattle.wasm_types.specs.declared.instr.Simple.{Simple}
use Rattle.wasm_types.specs.declared.instr.Simple.TheVariants as simple
use Rattle.wasm_types.specs.declared.types.ValType.TheVariants as ty
use Rattle.wasm_store.specs.declared.trap.TrapKind.{TrapKind}
use Rattle.wasm_store.specs.declared.word.Word.{Word}
use Rattle.wasm_store.specs.declared.word.Word.TheVariants.{I32}
use Rattle.wasm_store.specs.Words.{binary_of, converted, test_of, zero_of}
use Rattle.wasm_model.specs.Frames.{constant_of}
use Rattle.mid_program.specs.Mid.{Kind}
use Rattle.lower_model.specs.Cells.{Cell, Bits, Held, LentArray, OwnedArray, IteratorOf, Gone, cell_at, globals_by, is_owned, left_by, left_in_global, none_owned}
use Rattle.lower_model.specs.ImportCalls.{Host, call, look}
use Rattle.host_imports.specs.Imports.{import_at, import_count}
use Rattle.lower_model.specs.Machine.{Code, Callee, Conf, Run, Look, Over, Deep, Stuck, Frame, Label, Store, act, ask, ask_looking, assigning_after, assigning_then, at, br, br_if, call_number, choose, compared, enter, go, guarded, label, leave, leave_function, makes_few, onto, operated, push_result, push_word, run_looking, set_global, set_local, step, takes_look, tee_local, teed, waits, width, with_answer, with_operands, work, zeros, ending_name}
use Rattle.host_imports.specs.declared.import.Import.{Import}
use Rattle.agreement.specs.Places.Places.{IsWithin, size}

-- under labels: operands, and the instructions that come after a block
abbrev pub under : List Label → ℕ
under [] = 0
under (l ∷ K) = length l.under + (size l.rest + under K)

-- a loop begins again
abbrev pub size_again : Option Instructions → ℕ
size_again None = 0
size_again (Some b) = size b

-- an operator leaves no more operands than there were
abbrev NoMore : ℕ → Option (List Cell) → Type 0
NoMore n None = Unit {0}
NoMore n (Some vs) = length vs ≤ n

pushed_word : (vs : List Cell) (n : ℕ) (o : Option Word) → suc (length vs) ≤ n → NoMore n (push_word vs o)
pushed_word vs n None h = tt
pushed_word vs n (Some w) h = h

pushed_result : (vs : List Cell) (n : ℕ) (o : Option (Result Word TrapKind)) → suc (length vs) ≤ n → NoMore n (push_result vs o)
pushed_result vs n None h = tt
pushed_result vs n (Some (Err k)) h = tt
pushed_result vs n (Some (Ok w)) h = h

no_more : (i : Simple) (vs : List Cell) → NoMore (length vs) (operated i vs)
no_more (simple.Test k op) (Bits a ∷ vs) = pushed_word vs (suc (length vs)) (test_of k op a) (omega arith)
no_more (simple.Convert op) (Bits a ∷ vs) = pushed_word vs (suc (length vs)) (converted op a) (omega arith)
no_more (simple.Compare k op) (b ∷ (a ∷ vs)) = pushed_word vs (suc (suc (length vs))) (compared k op a b) (omega arith)
no_more (simple.Binary k op) (Bits b ∷ (Bits a ∷ vs)) = pushed_result vs (suc (suc (length vs))) (binary_of k op a b) (omega arith)
no_more simple.Drop (Bits a ∷ vs) = omega arith
no_more _ _ = tt

-- in a function of so many instructions, with so many places, where at most so many callers wait
module _ (u : Code) (instructions places globals : ℕ) (Own : List Kind → Type 0) where
  abbrev pub LabelsFit : List Label → Type 0
  LabelsFit [] = Unit {0}
  LabelsFit (l ∷ K) = (size_again l.again + under (l ∷ K) ≤ instructions) × LabelsFit K

  -- a caller gets one operand more, the answer
  pub record FrameFits (f : Frame) : Type 0 where
    pub kinds : Own f.kinds
    pub code : suc (length f.under) + (size f.rest + under f.labels) ≤ instructions
    pub labels : LabelsFit f.labels
    pub locals : length f.locals ≤ places
    pub waits : waits f.kinds f.labels f.locals f.rest ≡ true

  abbrev pub FramesFit : List Frame → Type 0
  FramesFit [] = Unit {0}
  FramesFit (f ∷ F) = FrameFits f × FramesFit F

  -- all but the operands and the code
  pub record RestFits (ks : List Kind) (K : List Label) (L : List Cell) (F : List Frame) (G : Store) : Type 0 where
    pub kinds : Own ks
    pub labels : LabelsFit K
    pub locals : length L ≤ places
    pub frames : FramesFit F
    pub depth : length F ≤ u.deepest
    pub shared : length G.globals ≤ globals

  -- n operands, and the instructions that are left
  abbrev pub CodeFits : ℕ → Instructions → List Label → Type 0
  CodeFits n c K = n + (size c + under K) ≤ instructions

  abbrev pub Fits : Conf → Type 0
  Fits (Run ks vs K L F c G) = CodeFits (length vs) c K × RestFits ks K L F G
  Fits (Look x ks vs K L F c G) = CodeFits (length vs) c K × RestFits ks K L F G
  Fits (Over v G) = (length G.globals ≤ globals) × (globals_by (ending_name G.host.fault) u.before u.names G.globals ≡ true)
  Fits (Deep G) = Unit {0}
  Fits Stuck = Unit {0}

  inside : {ks : List Kind} {l : Label} {K : List Label} {L : List Cell} {F : List Frame} {G : Store} → RestFits ks (l ∷ K) L F G → RestFits ks K L F G
  inside r = record { kinds = r.kinds; labels = r.labels.1; locals = r.locals; frames = r.frames; depth = r.depth; shared = r.shared }

  with_label : {ks : List Kind} {K : List Label} {L : List Cell} {F : List Frame} {G : Store} (l : Label) → size_again l.again + under (l ∷ K) ≤ instructions → RestFits ks K L F G → RestFits ks (l ∷ K) L F G
  with_label l h r = record { kinds = r.kinds; labels = (h, r.labels); locals = r.locals; frames = r.frames; depth = r.depth; shared = r.shared }

  with_local : {ks : List Kind} {K : List Label} {F : List Frame} {G : Store} (L : List Cell) (x : ℕ) (c : Cell) → RestFits ks K L F G → RestFits ks K (set L x c) F G
  with_local L x c r = record { kinds = r.kinds; labels = r.labels; locals = (let e = length-set L x c in let h = r.locals in omega (arith, e, h)); frames = r.frames; depth = r.depth; shared = r.shared }

  with_global : {ks : List Kind} {K : List Label} {L : List Cell} {F : List Frame} (G : Store) (x : ℕ) (c : Cell) (name : Option ℕ) → RestFits ks K L F G → RestFits ks K L F (record G { globals = set G.globals x c; assigning = name })
  with_global G x c name r = record { kinds = r.kinds; labels = r.labels; locals = r.locals; frames = r.frames; depth = r.depth; shared = (let e = length-set G.globals x c in let h = r.shared in omega (arith, e, h)) }

  with_host : {ks : List Kind} {K : List Label} {L : List Cell} {F : List Frame} {G : Store} (h : Host) → RestFits ks K L F G → RestFits ks K L F (record G { host = h })
  with_host h r = record { kinds = r.kinds; labels = r.labels; locals = r.locals; frames = r.frames; depth = r.depth; shared = r.shared }

  with_name : {ks : List Kind} {K : List Label} {L : List Cell} {F : List Frame} {G : Store} (name : Option ℕ) → RestFits ks K L F G → RestFits ks K L F (record G { assigning = name })
  with_name name r = record { kinds = r.kinds; labels = r.labels; locals = r.locals; frames = r.frames; depth = r.depth; shared = r.shared }

  guarded_fits : (b : Bool) (c : Conf) → Fits c → Fits (guarded b c)
  guarded_fits true c h = h
  guarded_fits false c h = tt

  -- behind what is checked it is known
  guarded_known : (b : Bool) (c : Conf) → (b ≡ true → Fits c) → Fits (guarded b c)
  guarded_known true c h = h refl
  guarded_known false c h = tt

  -- a constant is an operand in place of an instruction
  pub at_fits : (ks : List Kind) (vs : List Cell) (K : List Label) (L : List Cell) (F : List Frame) (c : Instructions) (G : Store) → CodeFits (length vs) c K → RestFits ks K L F G → Fits (at ks vs K L F c G)
  at_fits ks vs K L F Done G h r = (h, r)
  at_fits ks vs K L F (Then i c) G h r = by (constant_of i) (λ w. at_fits ks (Bits w ∷ vs) K L F c G (omega (arith, h)) r)
    where
      by : (o : Option Word) → ((w : Word) → Fits (at ks (Bits w ∷ vs) K L F c G)) → Fits (elim o [ Some w ↦ at ks (Bits w ∷ vs) K L F c G | None ↦ Run ks vs K L F (Then i c) G ])
      by (Some w) f = f w
      by None f = (h, r)

  br_fits : (d : ℕ) (ks : List Kind) (K : List Label) (L : List Cell) (F : List Frame) (G : Store) → RestFits ks K L F G → Fits (br d ks K L F G)
  br_fits d ks [] L F G r = tt
  br_fits zero ks (l ∷ K) L F G r = by l.again r.labels.0
    where
      by : (a : Option Instructions) → size_again a + under (l ∷ K) ≤ instructions → Fits (elim a [ Some body ↦ at ks [] (l ∷ K) L F body G | None ↦ at ks l.under K L F l.rest G ])
      by (Some body) h = at_fits ks [] (l ∷ K) L F body G (omega (arith, h)) r
      by None h = at_fits ks l.under K L F l.rest G (omega (arith, h)) (inside r)
  br_fits (suc d) ks (l ∷ K) L F G r = br_fits d ks K L F G (inside r)

  br_if_fits : (d : ℕ) (ks : List Kind) (vs : List Cell) (K : List Label) (L : List Cell) (F : List Frame) (c : Instructions) (G : Store) → CodeFits (length vs) c K → RestFits ks K L F G → Fits (br_if d ks vs K L F c G)
  br_if_fits d ks (Bits (I32 n) ∷ vs) K L F c G h r = guarded_fits (none_owned vs) _ (by (nat_eq n 0))
    where
      by : (b : Bool) → Fits (cond b (at ks vs K L F c G) (br d ks K L F G))
      by true = at_fits ks vs K L F c G (omega (arith, h)) r
      by false = br_fits d ks K L F G r
  br_if_fits d ks _ K L F c G h r = tt

  choose_fits : (a b : Instructions) (ks : List Kind) (vs : List Cell) (K : List Label) (L : List Cell) (F : List Frame) (c : Instructions) (G : Store) → CodeFits (length vs) (Then (If None a b) c) K → RestFits ks K L F G → Fits (choose a b ks vs K L F c G)
  choose_fits a b ks (Bits (I32 n) ∷ vs) K L F c G h r = guarded_fits (none_owned vs) _ (by (nat_eq n 0))
    where
      entered : RestFits ks (label vs None c ∷ K) L F G
      entered = with_label (label vs None c) (omega (arith, h)) r

      by : (z : Bool) → Fits (at ks [] (label vs None c ∷ K) L F (cond z b a) G)
      by true = at_fits ks [] (label vs None c ∷ K) L F b G (omega (arith, h)) entered
      by false = at_fits ks [] (label vs None c ∷ K) L F a G (omega (arith, h)) entered
  choose_fits a b ks _ K L F c G h r = tt

  set_local_fits : (x : ℕ) (ks : List Kind) (vs : List Cell) (K : List Label) (L : List Cell) (F : List Frame) (c : Instructions) (G : Store) → CodeFits (length vs) c K → RestFits ks K L F G → Fits (set_local x ks vs K L F c G)
  set_local_fits x ks [] K L F c G h r = tt
  set_local_fits x ks (v ∷ vs) K L F c G h r = guarded_fits _ _ (at_fits ks vs K (set L x v) F c G (omega (arith, h)) (with_local L x v r))

  teed_fits : (v : Cell) (x : ℕ) (ks : List Kind) (vs : List Cell) (K : List Label) (L : List Cell) (F : List Frame) (c : Instructions) (G : Store) → CodeFits (suc (length vs)) c K → RestFits ks K L F G → Fits (teed v x ks vs K L F c G)
  teed_fits (Bits w) x ks vs K L F c G h r = at_fits ks (Bits w ∷ vs) K L F c G h r
  teed_fits (LentArray a) x ks vs K L F c G h r = at_fits ks (LentArray a ∷ vs) K L F c G h r
  teed_fits (OwnedArray a) x ks vs K L F c G h r = at_fits ks (LentArray a ∷ vs) K L F c G h r
  teed_fits (Held v) x ks vs K L F c G h r = guarded_fits (takes_look c) _ (omega (arith, h), r)
  teed_fits (IteratorOf t) x ks vs K L F c G h r = guarded_fits (takes_look c) _ (omega (arith, h), r)
  teed_fits Gone x ks vs K L F c G h r = tt

  tee_local_fits : (x : ℕ) (ks : List Kind) (vs : List Cell) (K : List Label) (L : List Cell) (F : List Frame) (c : Instructions) (G : Store) → CodeFits (length vs) c K → RestFits ks K L F G → Fits (tee_local x ks vs K L F c G)
  tee_local_fits x ks [] K L F c G h r = tt
  tee_local_fits x ks (v ∷ vs) K L F c G h r = guarded_fits _ _ (teed_fits v x ks vs K (set L x v) F c G h (with_local L x v r))

  set_global_fits : (x : ℕ) (ks : List Kind) (vs : List Cell) (K : List Label) (L : List Cell) (F : List Frame) (c : Instructions) (G : Store) → CodeFits (length vs) c K → RestFits ks K L F G → Fits (set_global u x ks vs K L F c G)
  set_global_fits x ks [] K L F c G h r = tt
  set_global_fits x ks (v ∷ vs) K L F c G h r = guarded_fits _ _ (at_fits ks vs K L F c _ (omega (arith, h)) (with_global G x v (assigning_then v G.assigning) r))

  -- an import gives one operand at most
  onto_fits : (o : Option Cell) (vs : List Cell) (c : Instructions) (K : List Label) → CodeFits (suc (length vs)) c K → CodeFits (length (onto o vs)) c K
  onto_fits None vs c K h = omega (arith, h)
  onto_fits (Some v) vs c K h = h

  with_answer_fits : (a : Option (Option Cell × Host)) (ks : List Kind) (vs : List Cell) (K : List Label) (L : List Cell) (F : List Frame) (c : Instructions) (G : Store) → CodeFits (suc (length vs)) c K → RestFits ks K L F G → Fits (with_answer a ks vs K L F c G)
  with_answer_fits None ks vs K L F c G h r = tt
  with_answer_fits (Some a) ks vs K L F c G h r = at_fits ks (onto a.0 vs) K L F c (record G { host = a.1 }) (onto_fits a.0 vs c K h) (with_host a.1 r)

  ask_fits : (memory : List ℕ) (i : Option Import) (ks : List Kind) (vs : List Cell) (K : List Label) (L : List Cell) (F : List Frame) (c : Instructions) (G : Store) → CodeFits (suc (length vs)) c K → RestFits ks K L F G → Fits (ask memory i ks vs K L F c G)
  ask_fits memory None ks vs K L F c G h r = tt
  ask_fits memory (Some i) ks vs K L F c G h r =
      let e = length-drop (width i) vs in
      guarded_fits _ _ (with_answer_fits (call memory i (reverse (take (width i) vs)) G.host) ks (drop (width i) vs) K L F c _ (omega (arith, h, e)) (with_name (assigning_after i G) r))

  ask_looking_fits : (i : Option Import) (v : Cell) (ks : List Kind) (vs : List Cell) (K : List Label) (L : List Cell) (F : List Frame) (c : Instructions) (G : Store) → CodeFits (suc (length vs)) c K → RestFits ks K L F G → Fits (ask_looking i v ks vs K L F c G)
  ask_looking_fits None v ks vs K L F c G h r = tt
  ask_looking_fits (Some i) v ks vs K L F c G h r = with_answer_fits (look i v G.host) ks vs K L F c G h r

  -- the locals of a call: the arguments, and zeros
  locals_few : (f : Callee) (vs : List Cell) → IsWithin places instructions f → length (reverse (take (length f.kinds) vs) ++ zeros f.locals) ≤ places
  locals_few f vs w =
      let a = length-append (reverse (take (length f.kinds) vs)) (zeros f.locals) in
      let b = length-reverse (take (length f.kinds) vs) in
      let c = length-take (length f.kinds) vs in
      let d = min-le_left (length f.kinds) (length vs) in
      let e = length-map f.locals (λ t. Bits (zero_of t)) in
      let l = w.locals in
      omega (arith, a, b, c, d, e, l)

  enter_fits : (f : Option Callee) → ((g : Callee) → f ≡ Some g → Own g.kinds × IsWithin places instructions g) → (ks : List Kind) (vs : List Cell) (K : List Label) (L : List Cell) (F : List Frame) (c : Instructions) (G : Store) → CodeFits (suc (length vs)) c K → RestFits ks K L F G → Fits (enter u.deepest f ks vs K L F c G)
  enter_fits None w ks vs K L F c G h r = tt
  enter_fits (Some f) w ks vs K L F c G h r =
      guarded_known (((nat_le (length f.kinds) (length vs) && none_owned (drop (length f.kinds) vs)) && waits ks K L c) && makes_few f.kinds L) _
      (λ q. by (and_parts (nat_le (length f.kinds) (length vs) && none_owned (drop (length f.kinds) vs)) (waits ks K L c)
      (and_parts ((nat_le (length f.kinds) (length vs) && none_owned (drop (length f.kinds) vs)) && waits ks K L c) (makes_few f.kinds L) q).0).1 (nat_lt (length F) u.deepest) refl)
    where
      waiting : Frame
      waiting = record { kinds = ks; under = drop (length f.kinds) vs; labels = K; locals = L; rest = c }

      stands : waits ks K L c ≡ true → FrameFits waiting
      stands wt = record { kinds = r.kinds; code = (let e = length-drop (length f.kinds) vs in omega (arith, e, h)); labels = r.labels; locals = r.locals; waits = wt }

      by : waits ks K L c ≡ true → (b : Bool) → nat_lt (length F) u.deepest ≡ b → Fits (cond b (at f.kinds [] [] (reverse (take (length f.kinds) vs) ++ zeros f.locals) (waiting ∷ F) f.body G) (Deep G))
      by wt true e =
          let few = ltb-true (length F) u.deepest e in
          let code = (w f refl).1.code in
          at_fits f.kinds [] [] (reverse (take (length f.kinds) vs) ++ zeros f.locals) (waiting ∷ F) f.body G (omega (arith, code))
          (record { kinds = (w f refl).0; labels = tt; locals = locals_few f vs (w f refl).1; frames = (stands wt, r.frames); depth = omega (arith, few); shared = r.shared })
      by wt false e = tt

  leave_function_fits : (ks : List Kind) (v : Cell) (L : List Cell) (F : List Frame) (G : Store) → RestFits ks [] L F G → Fits (leave_function u v F G)
  leave_function_fits ks v L [] G r = by (not (is_owned v) && globals_by (ending_name G.host.fault) u.before u.names G.globals) refl
    where
      by : (b : Bool) → not (is_owned v) && globals_by (ending_name G.host.fault) u.before u.names G.globals ≡ b → Fits (guarded b (Over v G))
      by true e = (r.shared, (and_parts (not (is_owned v)) (globals_by (ending_name G.host.fault) u.before u.names G.globals) e).1)
      by false e = tt
  leave_function_fits ks v L (f ∷ F) G r =
      let d = r.depth in
      at_fits f.kinds (v ∷ f.under) f.labels f.locals F f.rest G r.frames.0.code
      (record { kinds = r.frames.0.kinds; labels = r.frames.0.labels; locals = r.frames.0.locals; frames = r.frames.1; depth = omega (arith, d); shared = r.shared })

  leave_fits : (ks : List Kind) (vs : List Cell) (K : List Label) (L : List Cell) (F : List Frame) (G : Store) → CodeFits (length vs) Done K → RestFits ks K L F G → Fits (leave u ks vs K L F G)
  leave_fits ks vs (l ∷ K) L F G h r = let e = length-append vs l.under in guarded_fits _ _ (at_fits ks (vs ++ l.under) K L F l.rest G (omega (arith, e, h)) (inside r))
  leave_fits ks [] [] L F G h r = tt
  leave_fits ks (v ∷ vs) [] L F G h r = guarded_fits _ _ (leave_function_fits ks v L F G r)

  operands_fit : (m : Option (List Cell)) (n : ℕ) (ks : List Kind) (K : List Label) (L : List Cell) (F : List Frame) (c : Instructions) (G : Store) → NoMore n m → CodeFits n c K → RestFits ks K L F G → Fits (with_operands m ks K L F c G)
  operands_fit None n ks K L F c G m h r = tt
  operands_fit (Some vs) n ks K L F c G m h r = at_fits ks vs K L F c G (omega (arith, m, h)) r

  module _ (bodies : (k : ℕ) (f : Callee) → slice_get u.callees k ≡ Some f → Own f.kinds × IsWithin places instructions f) where
    call_number_fits : (n : ℕ) (ks : List Kind) (vs : List Cell) (K : List Label) (L : List Cell) (F : List Frame) (c : Instructions) (G : Store) → CodeFits (suc (length vs)) c K → RestFits ks K L F G → Fits (call_number u n ks vs K L F c G)
    call_number_fits n ks vs K L F c G h r = by (nat_lt n import_count)
      where
        by : (b : Bool) → Fits (cond b (ask u.memory (import_at n) ks vs K L F c G) (enter u.deepest (slice_get u.callees (n - import_count)) ks vs K L F c G))
        by true = ask_fits u.memory (import_at n) ks vs K L F c G h r
        by false = enter_fits (slice_get u.callees (n - import_count)) (bodies (n - import_count)) ks vs K L F c G h r

    -- one operand more fits, in place of the instruction
    act_fits : (i : Simple) (ks : List Kind) (vs : List Cell) (K : List Label) (L : List Cell) (F : List Frame) (c : Instructions) (G : Store) → CodeFits (suc (length vs)) c K → RestFits ks K L F G → Fits (act u i ks vs K L F c G)
    act_fits simple.Nop ks vs K L F c G h r = guarded_fits _ _ (at_fits ks vs K L F c _ (omega (arith, h)) (with_host _ r))
    act_fits (simple.LocalGet x) ks vs K L F c G h r = guarded_fits _ _ (at_fits ks (cell_at L x ∷ vs) K (set L x (left_by (cell_at L x))) F c G h (with_local L x (left_by (cell_at L x)) r))
    act_fits (simple.LocalSet x) ks vs K L F c G h r = set_local_fits x ks vs K L F c G (omega (arith, h)) r
    act_fits (simple.LocalTee x) ks vs K L F c G h r = tee_local_fits x ks vs K L F c G (omega (arith, h)) r
    act_fits (simple.GlobalGet x) ks vs K L F c G h r = at_fits ks (_ ∷ vs) K L F c _ h (with_global G x (left_in_global (cell_at G.globals x)) G.assigning r)
    act_fits (simple.GlobalSet x) ks vs K L F c G h r = set_global_fits x ks vs K L F c G (omega (arith, h)) r
    act_fits (simple.Br d) ks vs K L F c G h r = guarded_fits _ _ (br_fits d ks K L F G r)
    act_fits (simple.BrIf d) ks vs K L F c G h r = br_if_fits d ks vs K L F c G (omega (arith, h)) r
    act_fits (simple.Call n) ks vs K L F c G h r = call_number_fits n ks vs K L F c G h r
    act_fits i ks vs K L F c G h r = operands_fit (operated i vs) (length vs) ks K L F c G (no_more i vs) (omega (arith, h)) r

    work_fits : (i : Instruction) (ks : List Kind) (vs : List Cell) (K : List Label) (L : List Cell) (F : List Frame) (c : Instructions) (G : Store) → CodeFits (length vs) (Then i c) K → RestFits ks K L F G → Fits (work u i ks vs K L F c G)
    work_fits (Plain i) ks vs K L F c G h r = act_fits i ks vs K L F c G (omega (arith, h)) r
    work_fits (Block None b) ks vs K L F c G h r = guarded_fits _ _ (at_fits ks [] (label vs None c ∷ K) L F b G (omega (arith, h)) (with_label (label vs None c) (omega (arith, h)) r))
    work_fits (Loop None b) ks vs K L F c G h r = guarded_fits _ _ (at_fits ks [] (label vs (Some b) c ∷ K) L F b G (omega (arith, h)) (with_label (label vs (Some b) c) (omega (arith, h)) r))
    work_fits (If None a b) ks vs K L F c G h r = choose_fits a b ks vs K L F c G h r
    work_fits _ ks vs K L F c G h r = tt

    looking_fits : (x : ℕ) (ks : List Kind) (vs : List Cell) (K : List Label) (L : List Cell) (F : List Frame) (c : Instructions) (G : Store) → CodeFits (length vs) c K → RestFits ks K L F G → Fits (run_looking u x ks vs K L F c G)
    looking_fits x ks vs K L F (Then (Plain (simple.I32Const n)) (Then (Plain (simple.Compare ty.I32 op)) c)) G h r =
        operands_fit _ (suc (length vs)) ks K L F c G (pushed_word vs (suc (length vs)) _ (omega arith)) (omega (arith, h)) r
    looking_fits x ks vs K L F (Then (Plain (simple.Call n)) c) G h r = ask_looking_fits (import_at n) (cell_at L x) ks vs K L F c G (omega (arith, h)) r
    looking_fits x ks vs K L F c G h r = tt

    step_fits : (c : Conf) → Fits c → Fits (step u c)
    step_fits (Run ks vs K L F Done G) h = leave_fits ks vs K L F G h.0 h.1
    step_fits (Run ks vs K L F (Then i c) G) h = work_fits i ks vs K L F c G h.0 h.1
    step_fits (Look x ks vs K L F c G) h = looking_fits x ks vs K L F c G h.0 h.1
    step_fits (Over v G) h = h
    step_fits (Deep G) h = tt
    step_fits Stuck h = tt

    -- EVERY PLACE of a run fits, if its first does
    pub go_fits : (n : ℕ) (c : Conf) → Fits c → Fits (go u n c)
    go_fits zero c h = h
    go_fits (suc n) c h = go_fits n (step u c) (step_fits c h)
