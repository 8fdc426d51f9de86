-- Which function is at work: its code, and that under its labels, are parts of the function's body, and so are those of callers that wait. It is the one that
-- the caller that waits has called; the first of all is `main`.
use Rattle.std.proofs.Common.{◌≡◌, ℕ, zero, suc, ◌-◌, Bool, true, false, not, ◌&&◌, cond, nat_eq, nat_lt, List, [], ◌∷◌, ◌++◌, length, take, drop, reverse, set, slice_get, Option, Some, None, refl, sym, subst, arith}
use Rattle.std.proofs.lemmas.Bool.{ltb-false}
use Rattle.wasm_types.specs.Syntax.{Instruction, Plain, Block, Loop, If, Instructions, Done, Then}
use Rattle.wasm_types.specs.declared.instr.Simple.{Simple}
use Rattle.wasm_types.specs.declared.instr.Simple.TheVariants as simple
use Rattle.wasm_types.specs.declared.types.ValType.TheVariants as ty
use Rattle.wasm_store.specs.declared.word.Word.{Word}
use Rattle.wasm_store.specs.declared.word.Word.TheVariants.{I32}
use Rattle.wasm_model.specs.Frames.{constant_of}
use Rattle.mid_program.specs.Mid.{Kind}
use Rattle.lower_model.specs.Cells.{Cell, Bits, Held, LentArray, OwnedArray, IteratorOf, Gone, cell_at, globals_by, is_owned, left_by, none_owned}
use Rattle.lower_model.specs.Emission.{function_number}
use Rattle.lower_model.specs.ImportCalls.{Host, call, look}
use Rattle.host_imports.specs.Imports.{import_at, import_count}
use Rattle.lower_model.specs.Machine.{Code, Callee, Conf, Run, Look, Over, Deep, Stuck, Frame, Label, Store, act, ask, ask_looking, at, br, br_if, call_number, choose, enter, go, guarded, label, leave, leave_function, onto, operated, run_looking, set_global, set_local, step, takes_look, tee_local, teed, width, with_answer, with_operands, work, zeros, ending_name}
use Rattle.host_imports.specs.declared.import.Import.{Import}
use Rattle.std.specs.List.{Contains}
use Rattle.std.proofs.lemmas.List.Elements.{Contains-append_left, Contains-append_right, Contains-push}
use Rattle.std.proofs.Common.{map}
use Rattle.mid_program.specs.Mid.{Program}
use Rattle.sem_scripts.specs.ScriptRun.{Setting}
use Rattle.lower_model.specs.Functions.{main_callee, routine_callee}
use Rattle.lower_model.specs.Modules.{all_callees}
use Rattle.lower_model.specs.Runs.{begun, code_of, first_globals, host_at_start}
use Rattle.agreement.proofs.PlacesLemmas.Begun.{contained}
use Rattle.agreement.specs.Places.NoLeaks.{begins_statement}
use Rattle.agreement.specs.Places.Places.{IsPart, all, further, in_block, in_loop, where_true, where_false}
use Rattle.agreement.specs.Places.Statements.{starts_in, starts_of}

module _ (u : Code) (Fun First : Callee → Type 0) where
  abbrev pub AgainPart : Instructions → Option Instructions → Type 0
  AgainPart w None = Unit {0}
  AgainPart w (Some b) = IsPart w b

  abbrev pub LabelsPart : Instructions → List Label → Type 0
  LabelsPart w [] = Unit {0}
  LabelsPart w (l ∷ K) = (AgainPart w l.again × IsPart w l.rest) × LabelsPart w K

  pub record Works (ks : List Kind) (c : Instructions) (K : List Label) : Type 0 where
    pub function : Callee
    pub is : Fun function
    pub kinds : function.kinds ≡ ks
    pub code : IsPart function.body c
    pub labels : LabelsPart function.body K

  -- what waits is behind the call of a function
  pub record Waits (ks : List Kind) (c : Instructions) (K : List Label) : Type 0 where
    pub function : Callee
    pub is : Fun function
    pub kinds : function.kinds ≡ ks
    pub called : ℕ
    pub code : IsPart function.body (Then (Plain (simple.Call (function_number called))) c)
    pub labels : LabelsPart function.body K

  -- each has called the one above it
  abbrev pub FramesWork : Callee → List Frame → Type 0
  FramesWork g [] = First g
  FramesWork g (f ∷ F) = (w : Waits f.kinds f.rest f.labels) × (slice_get u.callees w.called ≡ Some g) × FramesWork w.function F

  abbrev pub Stands : Conf → Type 0
  Stands (Run ks vs K L F c G) = (w : Works ks c K) × FramesWork w.function F
  Stands (Look x ks vs K L F c G) = (w : Works ks c K) × FramesWork w.function F
  Stands (Over v G) = Unit {0}
  Stands (Deep G) = Unit {0}
  Stands Stuck = Unit {0}

  abbrev on : {ks : List Kind} {i : Instruction} {c : Instructions} {K : List Label} → Works ks (Then i c) K → Works ks c K
  on w = record { function = w.function; is = w.is; kinds = w.kinds; code = further _ _ w.code; labels = w.labels }

  calling : {ks : List Kind} {n : ℕ} {c : Instructions} {K : List Label} → nat_lt n import_count ≡ false → Works ks (Then (Plain (simple.Call n)) c) K → Waits ks c K
  calling {n = n} {c = c} e w =
      let q : function_number (n - import_count) ≡ n = (let le = ltb-false n import_count e in omega (arith, le)) in
      record {
        function = w.function;
        is = w.is;
        kinds = w.kinds;
        called = n - import_count;
        code = subst (λ (z : ℕ). IsPart w.function.body (Then (Plain (simple.Call z)) c)) (sym q) w.code;
        labels = w.labels;
      }

  abbrev called_back : {ks : List Kind} {c : Instructions} {K : List Label} → Waits ks c K → Works ks c K
  called_back w = record { function = w.function; is = w.is; kinds = w.kinds; code = further _ _ w.code; labels = w.labels }

  abbrev out : {ks : List Kind} {c : Instructions} {l : Label} {K : List Label} → Works ks c (l ∷ K) → Works ks l.rest K
  out w = record { function = w.function; is = w.is; kinds = w.kinds; code = w.labels.0.1; labels = w.labels.1 }

  abbrev less : {ks : List Kind} {c : Instructions} {l : Label} {K : List Label} → Works ks c (l ∷ K) → Works ks c K
  less w = record { function = w.function; is = w.is; kinds = w.kinds; code = w.code; labels = w.labels.1 }

  guarded_stands : (b : Bool) (c : Conf) → Stands c → Stands (guarded b c)
  guarded_stands true c h = h
  guarded_stands false c h = tt

  pub at_stands : (ks : List Kind) (vs : List Cell) (K : List Label) (L : List Cell) (F : List Frame) (c : Instructions) (G : Store) →
      (w : Works ks c K) → FramesWork w.function F → Stands (at ks vs K L F c G)
  at_stands ks vs K L F Done G w r = (w, r)
  at_stands ks vs K L F (Then i c) G w r = by (constant_of i) (λ x. at_stands ks (Bits x ∷ vs) K L F c G (on w) r)
    where
      by : (o : Option Word) → ((x : Word) → Stands (at ks (Bits x ∷ vs) K L F c G)) → Stands (elim o [ Some x ↦ at ks (Bits x ∷ vs) K L F c G | None ↦ Run ks vs K L F (Then i c) G ])
      by (Some x) f = f x
      by None f = (w, r)

  br_stands : (d : ℕ) (ks : List Kind) (c : Instructions) (K : List Label) (L : List Cell) (F : List Frame) (G : Store) →
      (w : Works ks c K) → FramesWork w.function F → Stands (br d ks K L F G)
  br_stands d ks c [] L F G w r = tt
  br_stands zero ks c (l ∷ K) L F G w r = by l.again w.labels.0.0
    where
      by : (a : Option Instructions) → AgainPart w.function.body a → Stands (elim a [ Some body ↦ at ks [] (l ∷ K) L F body G | None ↦ at ks l.under K L F l.rest G ])
      by (Some body) h = at_stands ks [] (l ∷ K) L F body G (record { function = w.function; is = w.is; kinds = w.kinds; code = h; labels = w.labels }) r
      by None h = at_stands ks l.under K L F l.rest G (out w) r
  br_stands (suc d) ks c (l ∷ K) L F G w r = br_stands d ks c K L F G (less w) r

  br_if_stands : (d : ℕ) (ks : List Kind) (vs : List Cell) (K : List Label) (L : List Cell) (F : List Frame) (c : Instructions) (G : Store) →
      (w : Works ks c K) → FramesWork w.function F → Stands (br_if d ks vs K L F c G)
  br_if_stands d ks (Bits (I32 n) ∷ vs) K L F c G w r = guarded_stands (none_owned vs) _ (by (nat_eq n 0))
    where
      by : (b : Bool) → Stands (cond b (at ks vs K L F c G) (br d ks K L F G))
      by true = at_stands ks vs K L F c G w r
      by false = br_stands d ks c K L F G w r
  br_if_stands d ks _ K L F c G w r = tt

  choose_stands : (a b : Instructions) (ks : List Kind) (vs : List Cell) (K : List Label) (L : List Cell) (F : List Frame) (c : Instructions) (G : Store) →
      (w : Works ks (Then (If None a b) c) K) → FramesWork w.function F → Stands (choose a b ks vs K L F c G)
  choose_stands a b ks (Bits (I32 n) ∷ vs) K L F c G w r = guarded_stands (none_owned vs) _ (by (nat_eq n 0))
    where
      by : (z : Bool) → Stands (at ks [] (label vs None c ∷ K) L F (cond z b a) G)
      by true = at_stands ks [] (label vs None c ∷ K) L F b G (record { function = w.function; is = w.is; kinds = w.kinds; code = where_false _ a b c w.code; labels = ((tt, further _ _ w.code), w.labels) }) r
      by false = at_stands ks [] (label vs None c ∷ K) L F a G (record { function = w.function; is = w.is; kinds = w.kinds; code = where_true _ a b c w.code; labels = ((tt, further _ _ w.code), w.labels) }) r
  choose_stands a b ks _ K L F c G w r = tt

  set_local_stands : (x : ℕ) (ks : List Kind) (vs : List Cell) (K : List Label) (L : List Cell) (F : List Frame) (c : Instructions) (G : Store) →
      (w : Works ks c K) → FramesWork w.function F → Stands (set_local x ks vs K L F c G)
  set_local_stands x ks [] K L F c G w r = tt
  set_local_stands x ks (v ∷ vs) K L F c G w r = guarded_stands _ _ (at_stands ks vs K (set L x v) F c G w r)

  teed_stands : (v : Cell) (x : ℕ) (ks : List Kind) (vs : List Cell) (K : List Label) (L : List Cell) (F : List Frame) (c : Instructions) (G : Store) →
      (w : Works ks c K) → FramesWork w.function F → Stands (teed v x ks vs K L F c G)
  teed_stands (Bits z) x ks vs K L F c G w r = at_stands ks (Bits z ∷ vs) K L F c G w r
  teed_stands (LentArray a) x ks vs K L F c G w r = at_stands ks (LentArray a ∷ vs) K L F c G w r
  teed_stands (OwnedArray a) x ks vs K L F c G w r = at_stands ks (LentArray a ∷ vs) K L F c G w r
  teed_stands (Held v) x ks vs K L F c G w r = guarded_stands (takes_look c) _ (w, r)
  teed_stands (IteratorOf t) x ks vs K L F c G w r = guarded_stands (takes_look c) _ (w, r)
  teed_stands Gone x ks vs K L F c G w r = tt

  tee_local_stands : (x : ℕ) (ks : List Kind) (vs : List Cell) (K : List Label) (L : List Cell) (F : List Frame) (c : Instructions) (G : Store) →
      (w : Works ks c K) → FramesWork w.function F → Stands (tee_local x ks vs K L F c G)
  tee_local_stands x ks [] K L F c G w r = tt
  tee_local_stands x ks (v ∷ vs) K L F c G w r = guarded_stands _ _ (teed_stands v x ks vs K (set L x v) F c G w r)

  set_global_stands : (x : ℕ) (ks : List Kind) (vs : List Cell) (K : List Label) (L : List Cell) (F : List Frame) (c : Instructions) (G : Store) →
      (w : Works ks c K) → FramesWork w.function F → Stands (set_global u x ks vs K L F c G)
  set_global_stands x ks [] K L F c G w r = tt
  set_global_stands x ks (v ∷ vs) K L F c G w r = guarded_stands _ _ (at_stands ks vs K L F c _ w r)

  with_answer_stands : (a : Option (Option Cell × Host)) (ks : List Kind) (vs : List Cell) (K : List Label) (L : List Cell) (F : List Frame) (c : Instructions) (G : Store) →
      (w : Works ks c K) → FramesWork w.function F → Stands (with_answer a ks vs K L F c G)
  with_answer_stands None ks vs K L F c G w r = tt
  with_answer_stands (Some a) ks vs K L F c G w r = at_stands ks (onto a.0 vs) K L F c (record G { host = a.1 }) w r

  ask_stands : (memory : List ℕ) (i : Option Import) (ks : List Kind) (vs : List Cell) (K : List Label) (L : List Cell) (F : List Frame) (c : Instructions) (G : Store) →
      (w : Works ks c K) → FramesWork w.function F → Stands (ask memory i ks vs K L F c G)
  ask_stands memory None ks vs K L F c G w r = tt
  ask_stands memory (Some i) ks vs K L F c G w r = guarded_stands _ _ (with_answer_stands (call memory i (reverse (take (width i) vs)) G.host) ks (drop (width i) vs) K L F c _ w r)

  ask_looking_stands : (i : Option Import) (v : Cell) (ks : List Kind) (vs : List Cell) (K : List Label) (L : List Cell) (F : List Frame) (c : Instructions) (G : Store) →
      (w : Works ks c K) → FramesWork w.function F → Stands (ask_looking i v ks vs K L F c G)
  ask_looking_stands None v ks vs K L F c G w r = tt
  ask_looking_stands (Some i) v ks vs K L F c G w r = with_answer_stands (look i v G.host) ks vs K L F c G w r

  enter_stands : (f : Option Callee) → ((g : Callee) → f ≡ Some g → Fun g) → (ks : List Kind) (vs : List Cell) (K : List Label) (L : List Cell) (F : List Frame) (c : Instructions) (G : Store) →
      (w : Waits ks c K) → slice_get u.callees w.called ≡ f → FramesWork w.function F → Stands (enter u.deepest f ks vs K L F c G)
  enter_stands None is ks vs K L F c G w called r = tt
  enter_stands (Some f) is ks vs K L F c G w called r =
      guarded_stands _ _ (by (nat_lt (length F) u.deepest))
    where
      waiting : Frame
      waiting = record { kinds = ks; under = drop (length f.kinds) vs; labels = K; locals = L; rest = c }

      by : (b : Bool) → Stands (cond b (at f.kinds [] [] (reverse (take (length f.kinds) vs) ++ zeros f.locals) (waiting ∷ F) f.body G) (Deep G))
      by true =
          at_stands f.kinds [] [] (reverse (take (length f.kinds) vs) ++ zeros f.locals) (waiting ∷ F) f.body G (record { function = f; is = is f refl; kinds = refl; code = all; labels = tt })
          (w, called, r)
      by false = tt

  leave_function_stands : (g : Callee) (v : Cell) (F : List Frame) (G : Store) → FramesWork g F → Stands (leave_function u v F G)
  leave_function_stands g v [] G r = guarded_stands (not (is_owned v) && globals_by (ending_name G.host.fault) u.before u.names G.globals) (Over v G) tt
  leave_function_stands g v (f ∷ F) G r = at_stands f.kinds (v ∷ f.under) f.labels f.locals F f.rest G (called_back r.0) r.2

  leave_stands : (ks : List Kind) (vs : List Cell) (K : List Label) (L : List Cell) (F : List Frame) (G : Store) →
      (w : Works ks Done K) → FramesWork w.function F → Stands (leave u ks vs K L F G)
  leave_stands ks vs (l ∷ K) L F G w r = guarded_stands _ _ (at_stands ks (vs ++ l.under) K L F l.rest G (out w) r)
  leave_stands ks [] [] L F G w r = tt
  leave_stands ks (v ∷ vs) [] L F G w r = guarded_stands _ _ (leave_function_stands w.function v F G r)

  operands_stand : (m : Option (List Cell)) (ks : List Kind) (K : List Label) (L : List Cell) (F : List Frame) (c : Instructions) (G : Store) →
      (w : Works ks c K) → FramesWork w.function F → Stands (with_operands m ks K L F c G)
  operands_stand None ks K L F c G w r = tt
  operands_stand (Some vs) ks K L F c G w r = at_stands ks vs K L F c G w r

  module _ (bodies : (k : ℕ) (f : Callee) → slice_get u.callees k ≡ Some f → Fun f) where
    call_number_stands : (n : ℕ) (ks : List Kind) (vs : List Cell) (K : List Label) (L : List Cell) (F : List Frame) (c : Instructions) (G : Store) →
        (w : Works ks (Then (Plain (simple.Call n)) c) K) → FramesWork w.function F → Stands (call_number u n ks vs K L F c G)
    unfolding calling
    call_number_stands n ks vs K L F c G w r = by (nat_lt n import_count) refl
      where
        by : (b : Bool) → nat_lt n import_count ≡ b → Stands (cond b (ask u.memory (import_at n) ks vs K L F c G) (enter u.deepest (slice_get u.callees (n - import_count)) ks vs K L F c G))
        by true e = ask_stands u.memory (import_at n) ks vs K L F c G (on w) r
        by false e = enter_stands (slice_get u.callees (n - import_count)) (bodies (n - import_count)) ks vs K L F c G (calling e w) refl r

    act_stands : (i : Simple) (ks : List Kind) (vs : List Cell) (K : List Label) (L : List Cell) (F : List Frame) (c : Instructions) (G : Store) →
        (w : Works ks (Then (Plain i) c) K) → FramesWork w.function F → Stands (act u i ks vs K L F c G)
    act_stands simple.Nop ks vs K L F c G w r = guarded_stands _ _ (at_stands ks vs K L F c _ (on w) r)
    act_stands (simple.LocalGet x) ks vs K L F c G w r = guarded_stands _ _ (at_stands ks (cell_at L x ∷ vs) K (set L x (left_by (cell_at L x))) F c G (on w) r)
    act_stands (simple.LocalSet x) ks vs K L F c G w r = set_local_stands x ks vs K L F c G (on w) r
    act_stands (simple.LocalTee x) ks vs K L F c G w r = tee_local_stands x ks vs K L F c G (on w) r
    act_stands (simple.GlobalGet x) ks vs K L F c G w r = at_stands ks (_ ∷ vs) K L F c _ (on w) r
    act_stands (simple.GlobalSet x) ks vs K L F c G w r = set_global_stands x ks vs K L F c G (on w) r
    act_stands (simple.Br d) ks vs K L F c G w r = guarded_stands _ _ (br_stands d ks c K L F G (on w) r)
    act_stands (simple.BrIf d) ks vs K L F c G w r = br_if_stands d ks vs K L F c G (on w) r
    act_stands (simple.Call n) ks vs K L F c G w r = call_number_stands n ks vs K L F c G w r
    act_stands i ks vs K L F c G w r = operands_stand (operated i vs) ks K L F c G (on w) r

    work_stands : (i : Instruction) (ks : List Kind) (vs : List Cell) (K : List Label) (L : List Cell) (F : List Frame) (c : Instructions) (G : Store) →
        (w : Works ks (Then i c) K) → FramesWork w.function F → Stands (work u i ks vs K L F c G)
    work_stands (Plain i) ks vs K L F c G w r = act_stands i ks vs K L F c G w r
    work_stands (Block None b) ks vs K L F c G w r =
        guarded_stands _ _ (at_stands ks [] (label vs None c ∷ K) L F b G (record { function = w.function; is = w.is; kinds = w.kinds; code = in_block _ b c w.code; labels = ((tt, further _ _ w.code), w.labels) }) r)
    work_stands (Loop None b) ks vs K L F c G w r =
        guarded_stands _ _ (at_stands ks [] (label vs (Some b) c ∷ K) L F b G (record { function = w.function; is = w.is; kinds = w.kinds; code = in_loop _ b c w.code; labels = ((in_loop _ b c w.code, further _ _ w.code), w.labels) }) r)
    work_stands (If None a b) ks vs K L F c G w r = choose_stands a b ks vs K L F c G w r
    work_stands _ ks vs K L F c G w r = tt

    looking_stands : (x : ℕ) (ks : List Kind) (vs : List Cell) (K : List Label) (L : List Cell) (F : List Frame) (c : Instructions) (G : Store) →
        (w : Works ks c K) → FramesWork w.function F → Stands (run_looking u x ks vs K L F c G)
    looking_stands x ks vs K L F (Then (Plain (simple.I32Const n)) (Then (Plain (simple.Compare ty.I32 op)) c)) G w r = operands_stand _ ks K L F c G (on (on w)) r
    looking_stands x ks vs K L F (Then (Plain (simple.Call n)) c) G w r = ask_looking_stands (import_at n) (cell_at L x) ks vs K L F c G (on w) r
    looking_stands x ks vs K L F c G w r = tt

    step_stands : (c : Conf) → Stands c → Stands (step u c)
    step_stands (Run ks vs K L F Done G) h = leave_stands ks vs K L F G h.0 h.1
    step_stands (Run ks vs K L F (Then i c) G) h = work_stands i ks vs K L F c G h.0 h.1
    step_stands (Look x ks vs K L F c G) h = looking_stands x ks vs K L F c G h.0 h.1
    step_stands (Over v G) h = tt
    step_stands (Deep G) h = tt
    step_stands Stuck h = tt

    -- WHICH FUNCTION is at work is known at every place of a run
    pub go_stands : (n : ℕ) (c : Conf) → Stands c → Stands (go u n c)
    go_stands zero c h = h
    go_stands (suc n) c h = go_stands n (step u c) (step_stands c h)

-- A program's run.

pub stands_on : (p : Program) (s : Setting) (n : ℕ) → Stands (code_of p 9999) (Contains (all_callees p)) (λ f. f ≡ main_callee p) (go (code_of p 9999) n (begun p s))
stands_on p s n =
    let m = main_callee p in
    let u = code_of p 9999 in
    let Fun = Contains (all_callees p) in
    let First = λ (f : Callee). f ≡ m in
    go_stands u Fun First
    (λ k f e. Contains-append_left (map (routine_callee p) p.routines) (m ∷ []) f (contained (map (routine_callee p) p.routines) k f e)) n (begun p s)
    (at_stands u Fun First [] [] [] (zeros m.locals) [] m.body (record { globals = first_globals p; host = host_at_start s; assigning = None })
    (record { function = m; is = Contains-push (map (routine_callee p) p.routines) m; kinds = refl; code = all; labels = tt }) refl)

-- what begins with a `nop` in a part is a place of the whole
places_of_part : (whole c x : Instructions) → IsPart whole c → Contains (starts_in c) x → Contains (starts_in whole) x
places_of_part whole c x all h = h
places_of_part whole c x (further i k part) h = places_of_part whole (Then i k) x part (Contains-append_right (starts_of i k) (starts_in k) x h)
places_of_part whole c x (in_block r a k part) h = places_of_part whole (Then (Block r a) k) x part (Contains-append_left (starts_in a) (starts_in k) x h)
places_of_part whole c x (in_loop r a k part) h = places_of_part whole (Then (Loop r a) k) x part (Contains-append_left (starts_in a) (starts_in k) x h)
places_of_part whole c x (where_true r a b k part) h =
    places_of_part whole (Then (If r a b) k) x part (Contains-append_left (starts_in a ++ starts_in b) (starts_in k) x (Contains-append_left (starts_in a) (starts_in b) x h))
places_of_part whole c x (where_false r a b k part) h =
    places_of_part whole (Then (If r a b) k) x part (Contains-append_left (starts_in a ++ starts_in b) (starts_in k) x (Contains-append_right (starts_in a) (starts_in b) x h))

begins_itself : (c : Instructions) → begins_statement c ≡ true → Contains (starts_in c) c
begins_itself Done e = cc
begins_itself (Then (Plain simple.Nop) k) e = (zero, omega arith, refl)
begins_itself (Then i k) e = cc

pub stands_at : (whole c : Instructions) → IsPart whole c → begins_statement c ≡ true → Contains (starts_in whole) c
stands_at whole c part e = places_of_part whole c c part (begins_itself c e)
