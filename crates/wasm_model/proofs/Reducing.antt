-- What a step within a frame is in the specification's form.
use Rattle.std.proofs.Common.{◌≡◌, ℕ, zero, suc, List, [], ◌∷◌, length, drop, map, Option, Some, None, Result, Ok, Err, true, false, refl, sym, ap, ◌∙◌, subst, arith, nat_lt, nat_eq, slice_set, get_or, if◌then◌else◌}
use Rattle.std.proofs.lemmas.Bool.{ltb-true}
use Rattle.std.proofs.lemmas.Option.{get_or_from_slice_get, unwrap_or-slice_get}
use Rattle.std.specs.Prelude.{slice_get, unwrap_or}
use Rattle.wasm_types.specs.declared.types.ValType.{ValType}
use Rattle.wasm_types.specs.declared.instr.MemArg.{MemArg}
use Rattle.wasm_types.specs.declared.instr.Simple.{Simple}
use Rattle.wasm_types.specs.declared.instr.Simple.TheVariants.{Unreachable, Nop, Br, BrIf, Return, Call, CallIndirect, Drop, Select, LocalGet, LocalSet, LocalTee, GlobalGet, GlobalSet, Load, Store, MemorySize, MemoryGrow, I32Const, I64Const, Test, Compare, Unary, Binary, Convert}
use Rattle.wasm_types.specs.Syntax.{Instruction, Plain, BrTable, Block, Loop, If, Instructions, Done, Then}
use Rattle.wasm_types.specs.Typing.{one, Context, CodeOk, done}
use Rattle.wasm_store.specs.declared.trap.TrapKind.{TrapKind}
use Rattle.wasm_store.specs.declared.word.Word.{Word}
use Rattle.wasm_store.specs.declared.word.Word.TheVariants.{I32, I64}
use Rattle.wasm_store.specs.Words.{type_of, test_of, compare_of, unary_of, binary_of, converted}
use Rattle.wasm_model.specs.declared.access.Access.{Access}
use Rattle.wasm_model.specs.declared.access.Access.TheVariants as access
use Rattle.wasm_model.specs.Hosts.{Meaning}
use Rattle.wasm_model.specs.Stacks.{taken}
use Rattle.wasm_model.specs.Frames.{LabelForm, FrameForm, Local, local_step, settled, settled_values, settled_code, constant_of, next_at, at_end, act, simple, branch, branch_if, branch_table, jump, branch_at, branch_to, with_values, pushed, pushed_or, of_one, of_two, of_two_or, entered, chosen, called_through, dropped, selected}
use Rattle.wasm_model.specs.Frames as form
use Rattle.wasm_model.specs.Machines.{ProgramForm}
use Rattle.wasm_model.specs.Typed.{BranchOk, past, again, LabelsOk, bottom, label, FrameOk}
use Rattle.wasm_model.specs.Reductions.{Admin, Const, Does, Looped, Invoke, LabelOf, FrameOf, Trapped, Sequence, ε, ◌⨾◌, ◌⧺◌, op, arity, in_sequence, sequence, on, Blocks, Here, Within, blocks, steps_of, Rewrites, StoreForm, Reduces, Chain, none, continuation, in_labels, in_place, in_body}
use Rattle.wasm_model.specs.Reductions as core
use Rattle.wasm_model.proofs.First.{bottom_is}
use Rattle.wasm_model.proofs.Safe.{settle_ok, eq_true, eq_false}
use Rattle.wasm_model.proofs.Nesting.{on_join, on_behind, on_parts, taken_parts, settled_same, head_acts, deeper, once, join, here, within_body, trap_here, breaks_to}

-- A branch to a loop takes nothing along.
abbrev pub Fits : Option Instructions → Option ValType → Type 0
Fits None g = Unit {0}
Fits (Some b) g = g ≡ None

abbrev pub AllFit : List LabelForm → Type 0
AllFit [] = Unit {0}
AllFit (l ∷ ls) = Fits l.again l.gives × AllFit ls

fits : (C : Context) (L : List (Option ValType)) (ag : Option Instructions) (gives r b : Option ValType) → BranchOk C L ag gives r b → Fits ag gives
fits C L _ r _ _ past = tt
fits C L _ _ r _ (again hb) = refl

pub all_fit : (C : Context) (ls : List LabelForm) (L : List (Option ValType)) (end : List ValType) → LabelsOk C ls L end → AllFit ls
all_fit C _ _ end (bottom e) = tt
all_fit C (l ∷ ls) _ _ (label {L = L} {b = b} r under end o h u br i) = (fits C L l.again l.gives r b br, all_fit C ls L end o)

fit_at : (n : ℕ) (ls : List LabelForm) (t : LabelForm) (outer : List LabelForm) → AllFit ls → drop n ls ≡ t ∷ outer → Fits t.again t.gives
fit_at zero [] t outer a e = cc
fit_at (suc n) [] t outer a e = cc
fit_at zero (l ∷ ls) t outer a e = let x : l ≡ t = cc in subst (λ (y : LabelForm). Fits y.again y.gives) x a.0
fit_at (suc n) (l ∷ ls) t outer a e = fit_at n ls t outer a.1 e

get_or_past : (ns : List ℕ) (c n : ℕ) → slice_get ns c ≡ None → get_or ns c n ≡ n
get_or_past ns c n e = sym (unwrap_or-slice_get ns c n) ∙ ap (λ (o : Option ℕ). unwrap_or o n) e

-- which instruction an access is
abbrev pub Accesses : Access → Simple → Type 0
Accesses (access.GlobalGet x) p = p ≡ GlobalGet x
Accesses (access.GlobalSet x) p = p ≡ GlobalSet x
Accesses (access.Load f offset) p = (at : MemArg) × (offset ≡ at.offset) × (p ≡ Load f at)
Accesses (access.Store f offset) p = (at : MemArg) × (offset ≡ at.offset) × (p ≡ Store f at)
Accesses access.MemorySize p = p ≡ MemorySize
Accesses access.MemoryGrow p = p ≡ MemoryGrow

-- this, between operands and code
abbrev pub At : FrameForm → List Word → Sequence → Sequence
At f vs es = in_labels f.labels (on vs (es ⧺ sequence f.code))

module _ {H O : Type 0} (M : Meaning H O) (m : ProgramForm) where
  -- From these locals and this sequence, a step within a frame whose function gives such a result: a reduction that counts one step, or the
  -- place of the call or access that is reduced next.
  abbrev pub IsLocal : Option ValType → List Word → Sequence → Local → Type 0
  IsLocal r F es (form.Goes f) = (S : StoreForm H O) → Chain M m 1 S F es S f.locals (in_place f ε)
  IsLocal r F es (form.Calls n f) = (f.locals ≡ F) × (es ≡ in_place f (op (Call n) ⨾ ε))
  IsLocal r F es (form.CallsThrough n at f) = (f.locals ≡ F) × (es ≡ in_place f (Const (I32 at) ⨾ op (CallIndirect n) ⨾ ε))
  IsLocal r F es (form.Works a f) = (f.locals ≡ F) × (p : Simple) × Accesses a p × (es ≡ in_place f (op p ⨾ ε))
  IsLocal r F es (form.Leaves f) = (us : List Word) → taken r f.values ≡ Some us → (S : StoreForm H O) (G : List Word) → Chain M m 1 S G (in_body r F es) S G (on us ε)
  IsLocal r F es (form.Traps k) = (S : StoreForm H O) → Chain M m 1 S F es S F (Trapped k ⨾ ε)
  IsLocal r F es form.Stuck = Unit {0}

  module _ (r : Option ValType) (f : FrameForm) where
    one_rule : {es es' : Sequence} (vs : List Word) → Rewrites 1 es es' → (S : StoreForm H O) → Chain M m 1 S f.locals (At f vs es) S f.locals (At f vs es')
    one_rule vs x S = here M m f.labels vs (sequence f.code) (once M m (core.rule x))

    no_step : {es es' : Sequence} (vs : List Word) → Rewrites 0 es es' → (S : StoreForm H O) → Chain M m 0 S f.locals (At f vs es) S f.locals (At f vs es')
    no_step vs x S = here M m f.labels vs (sequence f.code) (once M m (core.rule x))

    traps : {es : Sequence} (vs : List Word) (k : TrapKind) → Rewrites 1 es (Trapped k ⨾ ε) → (S : StoreForm H O) → Chain M m 1 S f.locals (At f vs es) S f.locals (Trapped k ⨾ ε)
    traps vs k x S = join M m 1 0 1 (omega arith) (one_rule vs x S) (trap_here M m f.labels vs (sequence f.code) k)

    -- Operators.

    pushed_is : (vs : List Word) (es : Sequence) (o : Option Word) → ((w : Word) → o ≡ Some w → Rewrites 1 es (Const w ⨾ ε)) → IsLocal r f.locals (At f vs es) (pushed f vs o)
    pushed_is vs es None k = tt
    pushed_is vs es (Some w) k = one_rule vs (k w refl)

    pushed_or_is : (vs : List Word) (es : Sequence) (o : Option (Result Word TrapKind)) → ((w : Word) → o ≡ Some (Ok w) → Rewrites 1 es (Const w ⨾ ε)) → ((k : TrapKind) → o ≡ Some (Err k) → Rewrites 1 es (Trapped k ⨾ ε)) →
        IsLocal r f.locals (At f vs es) (pushed_or f vs o)
    pushed_or_is vs es None k j = tt
    pushed_or_is vs es (Some (Ok w)) k j = one_rule vs (k w refl)
    pushed_or_is vs es (Some (Err t)) k j = traps vs t (j t refl)

    one_is : (d : Admin) (g : Word → Option Word) → ((a w : Word) → g a ≡ Some w → Rewrites 1 (Const a ⨾ d ⨾ ε) (Const w ⨾ ε)) → (vs : List Word) → IsLocal r f.locals (At f vs (d ⨾ ε)) (of_one f g vs)
    one_is d g k [] = tt
    one_is d g k (a ∷ vs) = pushed_is vs (Const a ⨾ d ⨾ ε) (g a) (k a)

    two_is : (g : Word → Word → Option Word) (d : Admin) → ((a b w : Word) → g a b ≡ Some w → Rewrites 1 (Const a ⨾ Const b ⨾ d ⨾ ε) (Const w ⨾ ε)) → (vs : List Word) → IsLocal r f.locals (At f vs (d ⨾ ε)) (of_two f g vs)
    two_is g d k [] = tt
    two_is g d k (b ∷ []) = tt
    two_is g d k (b ∷ (a ∷ vs)) = pushed_is vs (Const a ⨾ Const b ⨾ d ⨾ ε) (g a b) (k a b)

    two_or_is : (g : Word → Word → Option (Result Word TrapKind)) (d : Admin) → ((a b w : Word) → g a b ≡ Some (Ok w) → Rewrites 1 (Const a ⨾ Const b ⨾ d ⨾ ε) (Const w ⨾ ε)) →
        ((a b : Word) (k : TrapKind) → g a b ≡ Some (Err k) → Rewrites 1 (Const a ⨾ Const b ⨾ d ⨾ ε) (Trapped k ⨾ ε)) → (vs : List Word) → IsLocal r f.locals (At f vs (d ⨾ ε)) (of_two_or f g vs)
    two_or_is g d k j [] = tt
    two_or_is g d k j (b ∷ []) = tt
    two_or_is g d k j (b ∷ (a ∷ vs)) = pushed_or_is vs (Const a ⨾ Const b ⨾ d ⨾ ε) (g a b) (k a b) (j a b)

    dropped_is : (vs : List Word) → IsLocal r f.locals (At f vs (op Drop ⨾ ε)) (dropped f vs)
    dropped_is [] = tt
    dropped_is (w ∷ vs) = one_rule vs core.drop

    selected_is : (vs : List Word) → IsLocal r f.locals (At f vs (op Select ⨾ ε)) (selected f vs)
    selected_is [] = tt
    selected_is (I64 c ∷ vs) = tt
    selected_is (I32 c ∷ []) = tt
    selected_is (I32 c ∷ (b ∷ [])) = tt
    selected_is (I32 c ∷ (b ∷ (a ∷ vs))) =
        elim (nat_eq c 0) as (λ z. nat_eq c 0 ≡ z → IsLocal r f.locals (At f (I32 c ∷ (b ∷ (a ∷ vs))) (op Select ⨾ ε)) (form.Goes (with_values f ((if z then b else a) ∷ vs)))) [
          | true ↦ λ e. one_rule vs (core.select_second (eq_true c 0 e))
          | false ↦ λ e. one_rule vs (core.select_first (eq_false c 0 e))
        ] refl

    -- Locals.

    get_is : (x : ℕ) (vs : List Word) (o : Option Word) → slice_get f.locals x ≡ o → IsLocal r f.locals (At f vs (op (LocalGet x) ⨾ ε)) (pushed f vs o)
    get_is x vs None e = tt
    get_is x vs (Some w) e = λ S. here M m f.labels vs (sequence f.code) (once M m (core.local_get e))

    set_is : (x : ℕ) (vs : List Word) → IsLocal r f.locals (At f vs (op (LocalSet x) ⨾ ε)) (form.local_set f x vs)
    set_is x [] = tt
    set_is x (w ∷ vs) =
        elim (nat_lt x (length f.locals)) as (λ z. nat_lt x (length f.locals) ≡ z → IsLocal r f.locals (At f (w ∷ vs) (op (LocalSet x) ⨾ ε)) (if z then form.Goes (record f { values = vs; locals = slice_set f.locals x w }) else form.Stuck)) [
          | true ↦ λ e S. here M m f.labels vs (sequence f.code) (once M m (core.local_set (ltb-true x (length f.locals) e)))
          | false ↦ λ e. tt
        ] refl

    tee_is : (x : ℕ) (vs : List Word) → f.values ≡ vs → IsLocal r f.locals (At f vs (op (LocalTee x) ⨾ ε)) (form.local_tee f x vs)
    tee_is x [] q = tt
    tee_is x (w ∷ vs) q =
        elim (nat_lt x (length f.locals)) as (λ z. nat_lt x (length f.locals) ≡ z → IsLocal r f.locals (At f (w ∷ vs) (op (LocalTee x) ⨾ ε)) (if z then form.Goes (record f { locals = slice_set f.locals x w }) else form.Stuck)) [
          | true ↦ λ e S. subst (λ (us : List Word). Chain M m 1 S f.locals (At f (w ∷ vs) (op (LocalTee x) ⨾ ε)) S (slice_set f.locals x w) (in_labels f.labels (on us (sequence f.code)))) (sym q)
              (join M m 0 1 1 (omega arith) (no_step vs core.tee S) (here M m f.labels (w ∷ vs) (sequence f.code) (once M m (core.local_set (ltb-true x (length f.locals) e)))))
          | false ↦ λ e. tt
        ] refl

    -- Branches.

    module _ (fit : AllFit f.labels) (es : Sequence) where
      landed_is : (us under : List Word) (ag : Option Instructions) (gives : Option ValType) (rest : Instructions) (outer : List LabelForm) → Fits ag gives → taken gives f.values ≡ Some us →
          ((S : StoreForm H O) → Chain M m (steps_of (continuation ag)) S f.locals es S f.locals (in_labels outer (on under (on us (continuation ag) ⧺ sequence rest)))) →
          IsLocal r f.locals es (branch_to f (record { under = under; again = ag; gives = gives; rest = rest }) outer (Some us))
      landed_is us under None gives rest outer fi t k =
          λ S. subst (λ (ds : Sequence). Chain M m 1 S f.locals es S f.locals (in_labels outer ds)) (ap (on under) (on_behind us ε (sequence rest)) ∙ sym (on_join us under (sequence rest))) (k S)
      landed_is (u ∷ us) under (Some b) None rest outer fi t k = cc
      landed_is us under (Some b) (Some g) rest outer fi t k = cc
      landed_is [] under (Some b) None rest outer fi t k = λ S. join M m 0 1 1 (omega arith) (k S) (here M m outer under (sequence rest) (once M m (core.rule core.loop)))

      module _ (n : ℕ) (pre : (S : StoreForm H O) → Chain M m 0 S f.locals es S f.locals (At f f.values (op (Br n) ⨾ ε))) where
        taken_is : (t : LabelForm) (outer : List LabelForm) → drop n f.labels ≡ t ∷ outer → (o : Option (List Word)) → taken t.gives f.values ≡ o → IsLocal r f.locals es (branch_to f t outer o)
        taken_is t outer d None e = tt
        taken_is t outer d (Some us) e =
            landed_is us t.under t.again t.gives t.rest outer (fit_at n f.labels t outer fit d) e
            (λ S. join M m 0 (steps_of (continuation t.again)) (steps_of (continuation t.again)) (omega arith) (pre S) (breaks_to M m n f.labels f.values us (sequence f.code) t outer d e))

        branch_is : (ds : List LabelForm) → drop n f.labels ≡ ds → IsLocal r f.locals es (branch_at f ds)
        branch_is [] d = tt
        branch_is (t ∷ outer) d = taken_is t outer d (taken t.gives f.values) refl

        -- the outermost label is the function's
        out_is : n ≡ length f.labels → IsLocal r f.locals es (form.Leaves f)
        out_is e us t S G =
            let p = taken_parts r f.values us t in
            let d = deeper f.labels 0 (Here p.0 (sequence f.code)) in
            let i : d.0 ≡ n = omega (arith, e, d.1) in
            let q : At f f.values (op (Br n) ⨾ ε) ≡ blocks d.2 (on us (op (Br d.0) ⨾ ε)) =
            ap (in_labels f.labels) (on_parts f.values us p.0 (op (Br n)) (sequence f.code) p.1) ∙ (d.3 (on us (op (Br n) ⨾ ε)) ∙ ap (λ (k : ℕ). blocks d.2 (on us (op (Br k) ⨾ ε))) (sym i)) in
            join M m 0 1 1 (omega arith) (within_body M m r G (pre S))
            (subst (λ (ds : Sequence). Chain M m 1 S G (FrameOf (arity r) f.locals (LabelOf (arity r) ε ds ⨾ ε) ⨾ ε) S G (on us ε)) (sym q)
            (join M m 1 0 1 (omega arith) (once M m (core.frame (core.rule (core.branch d.2 us p.2)))) (once M m (core.rule (core.frame_ends us p.2)))))

        jump_is : IsLocal r f.locals es (jump f n)
        jump_is =
            elim (nat_eq n (length f.labels)) as (λ z. nat_eq n (length f.labels) ≡ z → IsLocal r f.locals es (if z then form.Leaves f else branch f n)) [
              | true ↦ λ e. out_is (eq_true n (length f.labels) e)
              | false ↦ λ e. branch_is (drop n f.labels) refl
            ] refl

    return_is : IsLocal r f.locals (At f f.values (op Return ⨾ ε)) (form.Leaves f)
    return_is us t S G =
        let p = taken_parts r f.values us t in
        let d = deeper f.labels 0 (Here p.0 (sequence f.code)) in
        let q : At f f.values (op Return ⨾ ε) ≡ blocks d.2 (on us (op Return ⨾ ε)) = ap (in_labels f.labels) (on_parts f.values us p.0 (op Return) (sequence f.code) p.1) ∙ d.3 (on us (op Return ⨾ ε)) in
        subst (λ (ds : Sequence). Chain M m 1 S G (FrameOf (arity r) f.locals (LabelOf (arity r) ε ds ⨾ ε) ⨾ ε) S G (on us ε)) (sym q)
        (once M m (core.rule (core.return (Within [] (arity r) ε d.2 ε) us p.2)))

    -- the end of a block, or of the function, on which its results alone lie
    end_is : (ls : List LabelForm) → f.labels ≡ ls → (ls ≡ [] → (us : List Word) → taken r f.values ≡ Some us → f.values ≡ us) → IsLocal r f.locals (in_labels ls (on f.values ε)) (at_end f ls)
    end_is [] q k = λ us t S G.
        subst (λ (vs : List Word). Chain M m 1 S G (FrameOf (arity r) f.locals (LabelOf (arity r) ε (on vs ε) ⨾ ε) ⨾ ε) S G (on us ε)) (sym (k refl us t))
        (join M m 1 0 1 (omega arith) (once M m (core.frame (core.rule (core.label_ends us)))) (once M m (core.rule (core.frame_ends us (taken_parts r f.values us t).2))))
    end_is (l ∷ ls) q k =
        λ S. subst (λ (ds : Sequence). Chain M m 1 S f.locals (in_labels (l ∷ ls) (on f.values ε)) S f.locals (in_labels ls ds)) (ap (on l.under) (on_behind f.values ε (sequence l.rest)) ∙ sym (on_join f.values l.under (sequence l.rest)))
        (here M m ls l.under (sequence l.rest) (once M m (core.rule (core.label_ends f.values))))

  -- Instructions.
  module _ (r : Option ValType) (f : FrameForm) where
    branch_if_is : AllFit f.labels → (n : ℕ) (vs : List Word) → IsLocal r f.locals (At f vs (op (BrIf n) ⨾ ε)) (branch_if f n vs)
    branch_if_is fit n [] = tt
    branch_if_is fit n (I64 c ∷ vs) = tt
    branch_if_is fit n (I32 c ∷ vs) =
        elim (nat_eq c 0) as (λ z. nat_eq c 0 ≡ z → IsLocal r f.locals (At f (I32 c ∷ vs) (op (BrIf n) ⨾ ε)) (if z then form.Goes (with_values f vs) else jump (with_values f vs) n)) [
          | true ↦ λ e. one_rule r f vs (core.br_if_not (eq_true c 0 e))
          | false ↦ λ e. jump_is r (with_values f vs) fit (At f (I32 c ∷ vs) (op (BrIf n) ⨾ ε)) n (no_step r f vs (core.br_if (eq_false c 0 e)))
        ] refl

    table_rule : (ns : List ℕ) (n c : ℕ) (o : Option ℕ) → slice_get ns c ≡ o → Rewrites 0 (Const (I32 c) ⨾ Does (BrTable ns n) ⨾ ε) (op (Br (get_or ns c n)) ⨾ ε)
    table_rule ns n c (Some l) e = subst (λ (k : ℕ). Rewrites 0 (Const (I32 c) ⨾ Does (BrTable ns n) ⨾ ε) (op (Br k) ⨾ ε)) (sym (get_or_from_slice_get ns c l n e)) (core.br_table e)
    table_rule ns n c None e = subst (λ (k : ℕ). Rewrites 0 (Const (I32 c) ⨾ Does (BrTable ns n) ⨾ ε) (op (Br k) ⨾ ε)) (sym (get_or_past ns c n e)) (core.br_table_past e)

    branch_table_is : AllFit f.labels → (ns : List ℕ) (n : ℕ) (vs : List Word) → IsLocal r f.locals (At f vs (Does (BrTable ns n) ⨾ ε)) (branch_table f ns n vs)
    branch_table_is fit ns n [] = tt
    branch_table_is fit ns n (I64 c ∷ vs) = tt
    branch_table_is fit ns n (I32 c ∷ vs) = jump_is r (with_values f vs) fit (At f (I32 c ∷ vs) (Does (BrTable ns n) ⨾ ε)) (get_or ns c n) (no_step r f vs (table_rule ns n c (slice_get ns c) refl))

    chosen_is : (gives : Option ValType) (p q : Instructions) (vs : List Word) → IsLocal r f.locals (At f vs (Does (If gives p q) ⨾ ε)) (chosen f gives p q vs)
    chosen_is gives p q [] = tt
    chosen_is gives p q (I64 c ∷ vs) = tt
    chosen_is gives p q (I32 c ∷ vs) =
        elim (nat_eq c 0) as (λ z. nat_eq c 0 ≡ z → IsLocal r f.locals (At f (I32 c ∷ vs) (Does (If gives p q) ⨾ ε)) (form.Goes (entered (with_values f vs) None gives (if z then q else p)))) [
          | true ↦ λ e. one_rule r f vs (core.if_second (eq_true c 0 e))
          | false ↦ λ e. one_rule r f vs (core.if_first (eq_false c 0 e))
        ] refl

    through_is : (n : ℕ) (vs : List Word) → IsLocal r f.locals (At f vs (op (CallIndirect n) ⨾ ε)) (called_through f n vs)
    through_is n [] = tt
    through_is n (I64 c ∷ vs) = tt
    through_is n (I32 c ∷ vs) = (refl, refl)

    simple_is : AllFit f.labels → (p : Simple) → constant_of (Plain p) ≡ None → IsLocal r f.locals (At f f.values (op p ⨾ ε)) (simple f p)
    simple_is fit Unreachable c = traps r f f.values _ core.unreachable
    simple_is fit Nop c = one_rule r f f.values core.nop
    simple_is fit (Br n) c = jump_is r f fit (At f f.values (op (Br n) ⨾ ε)) n (λ S. none)
    simple_is fit (BrIf n) c = branch_if_is fit n f.values
    simple_is fit Return c = return_is r f
    simple_is fit (Call n) c = (refl, refl)
    simple_is fit (CallIndirect n) c = through_is n f.values
    simple_is fit Drop c = dropped_is r f f.values
    simple_is fit Select c = selected_is r f f.values
    simple_is fit (LocalGet x) c = get_is r f x f.values (slice_get f.locals x) refl
    simple_is fit (LocalSet x) c = set_is r f x f.values
    simple_is fit (LocalTee x) c = tee_is r f x f.values refl
    simple_is fit (GlobalGet x) c = (refl, GlobalGet x, refl, refl)
    simple_is fit (GlobalSet x) c = (refl, GlobalSet x, refl, refl)
    simple_is fit (Load g at) c = (refl, Load g at, (at, refl, refl), refl)
    simple_is fit (Store g at) c = (refl, Store g at, (at, refl, refl), refl)
    simple_is fit MemorySize c = (refl, MemorySize, refl, refl)
    simple_is fit MemoryGrow c = (refl, MemoryGrow, refl, refl)
    simple_is fit (I32Const n) c = cc
    simple_is fit (I64Const n) c = cc
    simple_is fit (Test k g) c = one_is r f (op (Test k g)) (test_of k g) (λ a w e. core.test e) f.values
    simple_is fit (Compare k g) c = two_is r f (compare_of k g) (op (Compare k g)) (λ a b w e. core.compare e) f.values
    simple_is fit (Unary k g) c = one_is r f (op (Unary k g)) (unary_of k g) (λ a w e. core.unary e) f.values
    simple_is fit (Binary k g) c = two_or_is r f (binary_of k g) (op (Binary k g)) (λ a b w e. core.binary e) (λ a b t e. core.binary_traps e) f.values
    simple_is fit (Convert g) c = one_is r f (op (Convert g)) (converted g) (λ a w e. core.convert e) f.values

    act_is : AllFit f.labels → (i : Instruction) → constant_of i ≡ None → IsLocal r f.locals (At f f.values (in_sequence i ⨾ ε)) (act f i)
    act_is fit (Plain p) c = plain_is fit p c (simple_is fit p c) where
      plain_is : AllFit f.labels → (p : Simple) → constant_of (Plain p) ≡ None → IsLocal r f.locals (At f f.values (op p ⨾ ε)) (simple f p) → IsLocal r f.locals (At f f.values (in_sequence (Plain p) ⨾ ε)) (simple f p)
      plain_is fit (I32Const n) c h = cc
      plain_is fit (I64Const n) c h = cc
      plain_is fit _ c h = h
    act_is fit (BrTable ns n) c = branch_table_is fit ns n f.values
    act_is fit (Block gives b) c = one_rule r f f.values core.block
    act_is fit (Loop gives b) c = one_rule r f f.values core.loop
    act_is fit (If gives p q) c = chosen_is gives p q f.values

  next_is : (C : Context) (f : FrameForm) (L : List (Option ValType)) (own end : List ValType) → LabelsOk C f.labels L end → map type_of f.values ≡ own → (code : Instructions) → CodeOk C L code own end → ((i : Instruction) (is : Instructions) → code ≡ Then i is → constant_of i ≡ None) →
      IsLocal C.result f.locals (in_labels f.labels (on f.values (sequence code))) (next_at f code)
  next_is C f L own end o v (Then i is) h a = act_is C.result (record f { code = is }) (all_fit C f.labels L end o) i (a i is refl)
  next_is C f L own _ o v Done done a = end_is C.result f f.labels refl (λ e us t. exact us t (map type_of f.values) refl (v ∙ bottom_is C f.labels L own o e)) where
    exact : (us : List Word) → taken C.result f.values ≡ Some us → (ts : List ValType) → map type_of f.values ≡ ts → ts ≡ one C.result → f.values ≡ us
    exact us t ts p q = all_of C.result f.values us t (p ∙ q) where
      all_of : (r : Option ValType) (vs us : List Word) → taken r vs ≡ Some us → map type_of vs ≡ one r → vs ≡ us
      all_of None [] [] t e = refl
      all_of None [] (u ∷ us) t e = cc
      all_of None (v ∷ vs) us t e = cc
      all_of (Some k) [] us t e = cc
      all_of (Some k) (v ∷ []) us t e = cc
      all_of (Some k) (v ∷ (w ∷ vs)) us t e = cc

  -- A step of a well-typed frame.
  pub local_is : (C : Context) (f : FrameForm) → FrameOk C f → IsLocal C.result f.locals (in_place f ε) (local_step f)
  local_is C f h =
      let s = settle_ok C h.labels h.end f.code f.values h.own h.code_ok h.values_ok in
      subst (λ (es : Sequence). IsLocal C.result f.locals es (local_step f)) (sym (ap (in_labels f.labels) (settled_same f.code f.values)))
      (next_is C (settled f) h.labels s.0 h.end h.labels_ok s.2 (settled_code f.code) s.1 (head_acts f.code))
