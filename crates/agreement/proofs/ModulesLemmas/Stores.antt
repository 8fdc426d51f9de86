-- A step of the machine over values changes its store by a call, a look, or a global that is read or set, or leaves it as it is. So what these keep of a store a step keeps.
use Rattle.std.proofs.Common.{◌≡◌, ℕ, zero, suc, Bool, true, false, ◌&&◌, not, cond, nat_eq, nat_lt, ◌-◌, List, [], ◌∷◌, length, take, drop, reverse, set, slice_get, Option, Some, None, refl}
use Rattle.std.proofs.lemmas.Bool.{and_parts}
use Rattle.wasm_types.specs.Syntax.{Instruction, Plain, Block, Loop, If, Instructions, Done, Then}
use Rattle.wasm_types.specs.declared.instr.Simple.{Simple}
use Rattle.wasm_types.specs.declared.instr.Simple.TheVariants as simple
use Rattle.wasm_types.specs.declared.types.ValType.TheVariants as ty
use Rattle.wasm_store.specs.declared.word.Word.{Word}
use Rattle.wasm_store.specs.declared.word.Word.TheVariants.{I32}
use Rattle.wasm_model.specs.Frames.{constant_of}
use Rattle.mid_program.specs.Mid.{Kind}
use Rattle.lower_model.specs.Cells.{Cell, Bits, Held, LentArray, OwnedArray, IteratorOf, Gone, cell_at, globals_by, has_room, is_owned, left_in_global, may_come, none_owned}
use Rattle.lower_model.specs.ImportCalls.{Host, call, look}
use Rattle.host_imports.specs.Imports.{import_at, import_count}
use Rattle.lower_model.specs.Machine.{Code, Callee, Conf, Run, Look, Over, Deep, Stuck, Frame, Label, Store, act, all_live, ask, ask_looking, assigning_after, assigning_then, at, br, br_if, call_number, choose, enter, guarded, label, leave, leave_function, noted as noted_in, operated, run_looking, set_global, set_local, step, takes_look, tee_local, teed, width, with_answer, with_operands, work, ending_name}
use Rattle.host_imports.specs.declared.import.Import.{Import}

-- so it is of the store at this place
abbrev pub InStore : (Store → Type 0) → Conf → Type 0
InStore R (Run ks vs K L F c G) = R G
InStore R (Look x ks vs K L F c G) = R G
InStore R (Over v G) = R G
InStore R (Deep G) = R G
InStore R Stuck = Unit {0}

pub store_there : (R : Store → Type 0) (ks : List Kind) (vs : List Cell) (K : List Label) (L : List Cell) (F : List Frame) (k : Instructions) (G : Store) → R G → InStore R (at ks vs K L F k G)
store_there R ks vs K L F Done G q = q
store_there R ks vs K L F (Then i is) G q = by (constant_of i) (λ w. store_there R ks (Bits w ∷ vs) K L F is G q)
  where
    by : (c : Option Word) → ((w : Word) → InStore R (at ks (Bits w ∷ vs) K L F is G)) → InStore R (elim c [ Some w ↦ at ks (Bits w ∷ vs) K L F is G | None ↦ Run ks vs K L F (Then i is) G ])
    by (Some w) f = f w
    by None f = q

-- where each change leads from stores of one kind to stores of another
pub record Leads (u : Code) (P Q : Store → Type 0) : Type 0 where
  pub same : (G : Store) → P G → Q G
  pub noted : (code : Instructions) (G : Store) → P G → Q (noted_in u code G)
  pub called : (i : Import) (cs : List Cell) (a : Option Cell × Host) (G : Store) → call u.memory i cs G.host ≡ Some a → P G → Q (record G { host = a.1; assigning = assigning_after i G })
  pub looked : (i : Import) (c : Cell) (a : Option Cell × Host) (G : Store) → look i c G.host ≡ Some a → P G → Q (record G { host = a.1 })
  pub read : (x : ℕ) (G : Store) → P G → Q (record G { globals = set G.globals x (left_in_global (cell_at G.globals x)) })
  pub written : (x : ℕ) (v : Cell) (G : Store) → may_come u.before u.bare G.assigning x (cell_at G.globals x) v ≡ true → P G → Q (record G { globals = set G.globals x v; assigning = assigning_then v G.assigning })

module _ (u : Code) (P Q : Store → Type 0) (leads : Leads u P Q) where
  at_in : (ks : List Kind) (vs : List Cell) (K : List Label) (L : List Cell) (F : List Frame) (k : Instructions) (G : Store) → Q G → InStore Q (at ks vs K L F k G)
  at_in ks vs K L F k G q = store_there Q ks vs K L F k G q

  guarded_where : (b : Bool) (c : Conf) → (b ≡ true → InStore Q c) → InStore Q (guarded b c)
  guarded_where true c h = h refl
  guarded_where false c h = tt

  guarded_in : (b : Bool) (c : Conf) → InStore Q c → InStore Q (guarded b c)
  guarded_in b c h = guarded_where b c (λ e. h)

  br_in : (d : ℕ) (ks : List Kind) (K : List Label) (L : List Cell) (F : List Frame) (G : Store) → Q G → InStore Q (br d ks K L F G)
  br_in d ks [] L F G q = tt
  br_in zero ks (l ∷ K) L F G q = by l.again
    where
      by : (a : Option Instructions) → InStore Q (elim a [ Some body ↦ at ks [] (l ∷ K) L F body G | None ↦ at ks l.under K L F l.rest G ])
      by (Some body) = at_in ks [] (l ∷ K) L F body G q
      by None = at_in ks l.under K L F l.rest G q
  br_in (suc d) ks (l ∷ K) L F G q = br_in d ks K L F G q

  br_if_in : (d : ℕ) (ks : List Kind) (vs : List Cell) (K : List Label) (L : List Cell) (F : List Frame) (c : Instructions) (G : Store) → Q G → InStore Q (br_if d ks vs K L F c G)
  br_if_in d ks (Bits (I32 n) ∷ vs) K L F c G q = guarded_in (none_owned vs) _ (by (nat_eq n 0))
    where
      by : (b : Bool) → InStore Q (cond b (at ks vs K L F c G) (br d ks K L F G))
      by true = at_in ks vs K L F c G q
      by false = br_in d ks K L F G q
  br_if_in d ks _ K L F c G q = tt

  choose_in : (a b : Instructions) (ks : List Kind) (vs : List Cell) (K : List Label) (L : List Cell) (F : List Frame) (c : Instructions) (G : Store) → Q G → InStore Q (choose a b ks vs K L F c G)
  choose_in a b ks (Bits (I32 n) ∷ vs) K L F c G q = guarded_in (none_owned vs) _ (at_in ks [] (label vs None c ∷ K) L F (cond (nat_eq n 0) b a) G q)
  choose_in a b ks _ K L F c G q = tt

  set_local_in : (x : ℕ) (ks : List Kind) (vs : List Cell) (K : List Label) (L : List Cell) (F : List Frame) (c : Instructions) (G : Store) → Q G → InStore Q (set_local x ks vs K L F c G)
  set_local_in x ks [] K L F c G q = tt
  set_local_in x ks (v ∷ vs) K L F c G q = guarded_in _ _ (at_in ks vs K _ F c G q)

  teed_in : (v : Cell) (x : ℕ) (ks : List Kind) (vs : List Cell) (K : List Label) (L : List Cell) (F : List Frame) (c : Instructions) (G : Store) → Q G → InStore Q (teed v x ks vs K L F c G)
  teed_in (Bits w) x ks vs K L F c G q = at_in ks (Bits w ∷ vs) K L F c G q
  teed_in (LentArray a) x ks vs K L F c G q = at_in ks (LentArray a ∷ vs) K L F c G q
  teed_in (OwnedArray a) x ks vs K L F c G q = at_in ks (LentArray a ∷ vs) K L F c G q
  teed_in (Held v) x ks vs K L F c G q = guarded_in (takes_look c) _ q
  teed_in (IteratorOf t) x ks vs K L F c G q = guarded_in (takes_look c) _ q
  teed_in Gone x ks vs K L F c G q = tt

  tee_local_in : (x : ℕ) (ks : List Kind) (vs : List Cell) (K : List Label) (L : List Cell) (F : List Frame) (c : Instructions) (G : Store) → Q G → InStore Q (tee_local x ks vs K L F c G)
  tee_local_in x ks [] K L F c G q = tt
  tee_local_in x ks (v ∷ vs) K L F c G q = guarded_in _ _ (teed_in v x ks vs K _ F c G q)

  set_global_in : (x : ℕ) (ks : List Kind) (vs : List Cell) (K : List Label) (L : List Cell) (F : List Frame) (c : Instructions) (G : Store) → P G → InStore Q (set_global u x ks vs K L F c G)
  set_global_in x ks [] K L F c G p = tt
  set_global_in x ks (v ∷ vs) K L F c G p =
      let may = may_come u.before u.bare G.assigning x (cell_at G.globals x) v in
      guarded_where (has_room G.globals x && may) _ (λ e. at_in ks vs K L F c _ (leads.written x v G (and_parts (has_room G.globals x) may e).1 p))

  with_answer_in : (a : Option (Option Cell × Host)) (ks : List Kind) (vs : List Cell) (K : List Label) (L : List Cell) (F : List Frame) (c : Instructions) (G : Store) → ((z : Option Cell × Host) → a ≡ Some z → Q (record G { host = z.1 })) → InStore Q (with_answer a ks vs K L F c G)
  with_answer_in None ks vs K L F c G h = tt
  with_answer_in (Some a) ks vs K L F c G h = at_in ks _ K L F c (record G { host = a.1 }) (h a refl)

  ask_in : (i : Option Import) (ks : List Kind) (vs : List Cell) (K : List Label) (L : List Cell) (F : List Frame) (c : Instructions) (G : Store) → P G → InStore Q (ask u.memory i ks vs K L F c G)
  ask_in None ks vs K L F c G p = tt
  ask_in (Some i) ks vs K L F c G p =
      let given = reverse (take (width i) vs) in
      let o = call u.memory i given G.host in
      let named = record G { assigning = assigning_after i G } in
      guarded_in (all_live L F G.globals given) (with_answer o ks (drop (width i) vs) K L F c named) (with_answer_in o ks (drop (width i) vs) K L F c named (λ a e. leads.called i given a G e p))

  ask_looking_in : (i : Option Import) (v : Cell) (ks : List Kind) (vs : List Cell) (K : List Label) (L : List Cell) (F : List Frame) (c : Instructions) (G : Store) → P G → InStore Q (ask_looking i v ks vs K L F c G)
  ask_looking_in None v ks vs K L F c G p = tt
  ask_looking_in (Some i) v ks vs K L F c G p = with_answer_in _ ks vs K L F c G (λ a e. leads.looked i v a G e p)

  enter_in : (deepest : ℕ) (f : Option Callee) (ks : List Kind) (vs : List Cell) (K : List Label) (L : List Cell) (F : List Frame) (c : Instructions) (G : Store) → Q G → InStore Q (enter deepest f ks vs K L F c G)
  enter_in deepest None ks vs K L F c G q = tt
  enter_in deepest (Some f) ks vs K L F c G q = guarded_in _ _ (by (nat_lt (length F) deepest) _ (at_in f.kinds [] [] _ _ f.body G q))
    where
      by : (b : Bool) (x : Conf) → InStore Q x → InStore Q (cond b x (Deep G))
      by true x h = h
      by false x h = q

  leave_function_in : (v : Cell) (F : List Frame) (G : Store) → Q G → InStore Q (leave_function u v F G)
  leave_function_in v [] G q = guarded_in (not (is_owned v) && globals_by (ending_name G.host.fault) u.before u.names G.globals) (Over v G) q
  leave_function_in v (f ∷ F) G q = at_in f.kinds (v ∷ f.under) f.labels f.locals F f.rest G q

  leave_in : (ks : List Kind) (vs : List Cell) (K : List Label) (L : List Cell) (F : List Frame) (G : Store) → Q G → InStore Q (leave u ks vs K L F G)
  leave_in ks vs (l ∷ K) L F G q = guarded_in _ _ (at_in ks _ K L F l.rest G q)
  leave_in ks [] [] L F G q = tt
  leave_in ks (v ∷ vs) [] L F G q = guarded_in _ _ (leave_function_in v F G q)

  operands_in : (m : Option (List Cell)) (ks : List Kind) (K : List Label) (L : List Cell) (F : List Frame) (c : Instructions) (G : Store) → Q G → InStore Q (with_operands m ks K L F c G)
  operands_in None ks K L F c G q = tt
  operands_in (Some vs) ks K L F c G q = at_in ks vs K L F c G q

  call_number_in : (n : ℕ) (ks : List Kind) (vs : List Cell) (K : List Label) (L : List Cell) (F : List Frame) (c : Instructions) (G : Store) → P G → InStore Q (call_number u n ks vs K L F c G)
  call_number_in n ks vs K L F c G p = by (nat_lt n import_count)
    where
      by : (b : Bool) → InStore Q (cond b (ask u.memory (import_at n) ks vs K L F c G) (enter u.deepest (slice_get u.callees (n - import_count)) ks vs K L F c G))
      by true = ask_in (import_at n) ks vs K L F c G p
      by false = enter_in u.deepest _ ks vs K L F c G (leads.same G p)

  act_in : (i : Simple) (ks : List Kind) (vs : List Cell) (K : List Label) (L : List Cell) (F : List Frame) (c : Instructions) (G : Store) → P G → InStore Q (act u i ks vs K L F c G)
  act_in simple.Nop ks vs K L F c G p = guarded_in _ _ (at_in ks vs K L F c _ (leads.noted (Then (Plain simple.Nop) c) G p))
  act_in (simple.LocalGet x) ks vs K L F c G p = guarded_in _ _ (at_in ks _ K _ F c G (leads.same G p))
  act_in (simple.LocalSet x) ks vs K L F c G p = set_local_in x ks vs K L F c G (leads.same G p)
  act_in (simple.LocalTee x) ks vs K L F c G p = tee_local_in x ks vs K L F c G (leads.same G p)
  act_in (simple.GlobalGet x) ks vs K L F c G p = at_in ks _ K L F c _ (leads.read x G p)
  act_in (simple.GlobalSet x) ks vs K L F c G p = set_global_in x ks vs K L F c G p
  act_in (simple.Br d) ks vs K L F c G p = guarded_in _ _ (br_in d ks K L F G (leads.same G p))
  act_in (simple.BrIf d) ks vs K L F c G p = br_if_in d ks vs K L F c G (leads.same G p)
  act_in (simple.Call n) ks vs K L F c G p = call_number_in n ks vs K L F c G p
  act_in i ks vs K L F c G p = operands_in (operated i vs) ks K L F c G (leads.same G p)

  work_in : (i : Instruction) (ks : List Kind) (vs : List Cell) (K : List Label) (L : List Cell) (F : List Frame) (c : Instructions) (G : Store) → P G → InStore Q (work u i ks vs K L F c G)
  work_in (Plain i) ks vs K L F c G p = act_in i ks vs K L F c G p
  work_in (Block None b) ks vs K L F c G p = guarded_in _ _ (at_in ks [] _ L F b G (leads.same G p))
  work_in (Loop None b) ks vs K L F c G p = guarded_in _ _ (at_in ks [] _ L F b G (leads.same G p))
  work_in (If None a b) ks vs K L F c G p = choose_in a b ks vs K L F c G (leads.same G p)
  work_in _ ks vs K L F c G p = tt

  looking_in : (x : ℕ) (ks : List Kind) (vs : List Cell) (K : List Label) (L : List Cell) (F : List Frame) (c : Instructions) (G : Store) → P G → InStore Q (run_looking u x ks vs K L F c G)
  looking_in x ks vs K L F (Then (Plain (simple.I32Const n)) (Then (Plain (simple.Compare ty.I32 op)) c)) G p = operands_in _ ks K L F c G (leads.same G p)
  looking_in x ks vs K L F (Then (Plain (simple.Call n)) c) G p = ask_looking_in (import_at n) _ ks vs K L F c G p
  looking_in x ks vs K L F c G p = tt

  -- A STEP
  pub step_in : (c : Conf) → InStore P c → InStore Q (step u c)
  step_in (Run ks vs K L F Done G) p = leave_in ks vs K L F G (leads.same G p)
  step_in (Run ks vs K L F (Then i c) G) p = work_in i ks vs K L F c G p
  step_in (Look x ks vs K L F c G) p = looking_in x ks vs K L F c G p
  step_in (Over v G) p = leads.same G p
  step_in (Deep G) p = leads.same G p
  step_in Stuck p = tt
