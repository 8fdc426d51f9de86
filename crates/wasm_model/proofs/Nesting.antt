-- Reductions one after the other, inside labels and frames.
use Rattle.std.proofs.Common.{◌≡◌, ◌≢◌, ℕ, zero, suc, ◌+◌, List, [], ◌∷◌, ◌++◌, length, drop, Option, Some, None, refl, sym, ap, ◌∙◌, subst, arith}
use Rattle.wasm_types.specs.declared.types.ValType.{ValType}
use Rattle.wasm_types.specs.declared.instr.Simple.TheVariants.{Br}
use Rattle.wasm_types.specs.Syntax.{Instruction, Plain, Instructions, Done, Then}
use Rattle.wasm_types.specs.declared.instr.Simple.TheVariants.{I32Const, I64Const}
use Rattle.wasm_store.specs.declared.word.Word.{Word}
use Rattle.wasm_store.specs.declared.trap.TrapKind.{TrapKind}
use Rattle.wasm_model.specs.Hosts.{Meaning}
use Rattle.wasm_model.specs.Stacks.{taken}
use Rattle.wasm_model.specs.Frames.{LabelForm, FrameForm, constant_of, settled_values, settled_code}
use Rattle.wasm_model.specs.Machines.{CallerForm, ProgramForm}
use Rattle.wasm_model.specs.Reductions.{Admin, Const, LabelOf, FrameOf, Trapped, Sequence, ε, ◌⨾◌, ◌⧺◌, op, arity, in_sequence, sequence, on, Evaluation, Hole, Among, Inside, filled, Blocks, Here, Within, blocks, steps_of, Rewrites, StoreForm, Reduces, Chain, none, more, continuation, in_labels, in_place, in_body, in_frames}
use Rattle.wasm_model.specs.Reductions as core

-- Values before a sequence.

pub on_join : (us vs : List Word) (es : Sequence) → on (us ++ vs) es ≡ on vs (on us es)
on_join [] vs es = refl
on_join (u ∷ us) vs es = on_join us vs (Const u ⨾ es)

pub on_behind : (vs : List Word) (es is : Sequence) → on vs es ⧺ is ≡ on vs (es ⧺ is)
on_behind [] es is = refl
on_behind (v ∷ vs) es is = on_behind vs (Const v ⨾ es) is

-- an instruction and the topmost of the values before it
pub on_parts : (vs us others : List Word) (d : Admin) (is : Sequence) → vs ≡ us ++ others → on vs (d ⨾ is) ≡ on others (on us (d ⨾ ε) ⧺ is)
on_parts vs us others d is e = ap (λ (xs : List Word). on xs (d ⨾ is)) e ∙ (on_join us others (d ⨾ is) ∙ ap (on others) (sym (on_behind us (d ⨾ ε) is)))

on_two : (vs : List Word) (a b : Admin) (es : Sequence) (k : TrapKind) → on vs (a ⨾ b ⨾ es) ≢ Trapped k ⨾ ε
on_two [] a b es k e = cc
on_two (v ∷ vs) a b es k e = on_two vs (Const v) a (b ⨾ es) k e

pub taken_parts : (r : Option ValType) (vs us : List Word) → taken r vs ≡ Some us → (others : List Word) × (vs ≡ us ++ others) × (length us ≡ arity r)
taken_parts None vs [] e = (vs, refl, refl)
taken_parts None vs (u ∷ us) e = cc
taken_parts (Some t) [] us e = cc
taken_parts (Some t) (v ∷ vs) [] e = cc
taken_parts (Some t) (v ∷ vs) (u ∷ []) e = (vs, ap (λ (x : Word). x ∷ vs) (cc), refl)
taken_parts (Some t) (v ∷ vs) (u ∷ (w ∷ us)) e = cc

-- Constants are values.

constant_in_sequence : (i : Instruction) (w : Word) → constant_of i ≡ Some w → in_sequence i ≡ Const w
constant_in_sequence (Plain (I32Const n)) w e = cc
constant_in_sequence (Plain (I64Const n)) w e = cc
constant_in_sequence _ w e = cc

settled_by : (i : Instruction) (is : Instructions) (vs : List Word) (o : Option Word) → constant_of i ≡ o → ((w : Word) → on (w ∷ vs) (sequence is) ≡ on (settled_values (w ∷ vs) is) (sequence (settled_code is))) →
    on vs (in_sequence i ⨾ sequence is) ≡ on (elim o [ Some w ↦ settled_values (w ∷ vs) is | None ↦ vs ]) (sequence (elim o [ Some w ↦ settled_code is | None ↦ Then i is ]))
settled_by i is vs None e k = refl
settled_by i is vs (Some w) e k = ap (λ (d : Admin). on vs (d ⨾ sequence is)) (constant_in_sequence i w e) ∙ k w

pub settled_same : (code : Instructions) (vs : List Word) → on vs (sequence code) ≡ on (settled_values vs code) (sequence (settled_code code))
settled_same Done vs = refl
settled_same (Then i is) vs = settled_by i is vs (constant_of i) refl (λ w. settled_same is (w ∷ vs))

head_by : (j : Instruction) (js : Instructions) (i : Instruction) (is : Instructions) (o : Option Word) → constant_of j ≡ o → (settled_code js ≡ Then i is → constant_of i ≡ None) → elim o [ Some w ↦ settled_code js | None ↦ Then j js ] ≡ Then i is → constant_of i ≡ None
head_by j js i is None q k e = let x : i ≡ j = cc in ap constant_of x ∙ q
head_by j js i is (Some w) q k e = k e

pub head_acts : (code : Instructions) (i : Instruction) (is : Instructions) → settled_code code ≡ Then i is → constant_of i ≡ None
head_acts Done i is e = cc
head_acts (Then j js) i is e = head_by j js i is (constant_of j) refl (head_acts js i is) e

-- the labels around make a block context larger
pub deeper : (ls : List LabelForm) (k : ℕ) (B : Blocks k) → (j : ℕ) × (j ≡ k + length ls) × (D : Blocks j) × ((es : Sequence) → in_labels ls (blocks B es) ≡ blocks D es)
deeper [] k B = (k, omega arith, B, λ es. refl)
deeper (l ∷ ls) k B = let d = deeper ls (suc k) (Within l.under (arity l.gives) (continuation l.again) B (sequence l.rest)) in (d.0, omega (arith, d.1), d.2, d.3)

module _ {H O : Type 0} (M : Meaning H O) (m : ProgramForm) where
  pub once : {n : ℕ} {S S' : StoreForm H O} {F F' : List Word} {es es' : Sequence} → Reduces M m n S F es S' F' es' → Chain M m n S F es S' F' es'
  once {n} r = more n 0 (omega arith) r none

  pub join : {S S1 S2 : StoreForm H O} {F F1 F2 : List Word} {es es1 es2 : Sequence} (i k n : ℕ) → n ≡ i + k → Chain M m i S F es S1 F1 es1 → Chain M m k S1 F1 es1 S2 F2 es2 → Chain M m n S F es S2 F2 es2
  join {S = S} {S2 = S2} {F = F} {F2 = F2} {es = es} {es2 = es2} _ k n e none d = let x : k ≡ n = omega (arith, e) in subst (λ (z : ℕ). Chain M m z S F es S2 F2 es2) x d
  join i k n e (more a b q r c) d = more a (b + k) (omega (arith, e, q)) r (join b k (b + k) refl c d)

  pub in_context : {n : ℕ} {S S' : StoreForm H O} {F F' : List Word} {es es' : Sequence} (E : Evaluation) → Chain M m n S F es S' F' es' → Chain M m n S F (filled E es) S' F' (filled E es')
  in_context E none = none
  in_context E (more a b q r c) = more a b q (core.context E r) (in_context E c)

  pub within_frame : {n a : ℕ} {S S' : StoreForm H O} {F F' : List Word} {es es' : Sequence} (G : List Word) → Chain M m n S F es S' F' es' → Chain M m n S G (FrameOf a F es ⨾ ε) S' G (FrameOf a F' es' ⨾ ε)
  within_frame G none = none
  within_frame G (more a b q r c) = more a b q (core.frame r) (within_frame G c)

  pub within_labels : {n : ℕ} {S S' : StoreForm H O} {F F' : List Word} {es es' : Sequence} (ls : List LabelForm) → Chain M m n S F es S' F' es' → Chain M m n S F (in_labels ls es) S' F' (in_labels ls es')
  within_labels [] c = c
  within_labels (l ∷ ls) c = within_labels ls (in_context (Among l.under (Inside (arity l.gives) (continuation l.again) Hole) (sequence l.rest)) c)

  -- between operands and code
  pub here : {n : ℕ} {S S' : StoreForm H O} {F F' : List Word} {es es' : Sequence} (ls : List LabelForm) (vs : List Word) (is : Sequence) → Chain M m n S F es S' F' es' → Chain M m n S F (in_labels ls (on vs (es ⧺ is))) S' F' (in_labels ls (on vs (es' ⧺ is)))
  here ls vs is c = within_labels ls (in_context (Among vs Hole is) c)

  -- in the body of a function's frame
  pub within_body : {n : ℕ} {S S' : StoreForm H O} {F F' : List Word} {es es' : Sequence} (r : Option ValType) (G : List Word) → Chain M m n S F es S' F' es' → Chain M m n S G (in_body r F es) S' G (in_body r F' es')
  within_body r G c = within_frame G (in_context (Inside (arity r) ε Hole) c)

  -- in the place where a frame waits
  waiting : {n : ℕ} {S S' : StoreForm H O} {es es' : Sequence} (f : FrameForm) → ((G : List Word) → Chain M m n S G es S' G es') → (G : List Word) → Chain M m n S G (in_place f es) S' G (in_place f es')
  waiting f c G = here f.labels f.values (sequence f.code) (c G)

  -- in the innermost frame, whatever its locals are
  pub within_frames : {n : ℕ} {S S' : StoreForm H O} {es es' : Sequence} (r : Option ValType) (F : List Word) (ws : List CallerForm) → ((G : List Word) → Chain M m n S G es S' G es') → Chain M m n S [] (in_frames r F ws es) S' [] (in_frames r F ws es')
  within_frames r F [] c = c []
  within_frames r F (w ∷ ws) c = within_frames w.result w.frame.locals ws (waiting w.frame (λ G. within_body r G (c F)))

  -- in a function's frame
  pub within_function : {n : ℕ} {S S' : StoreForm H O} {F F' : List Word} {es es' : Sequence} (r : Option ValType) (w : CallerForm) (ws : List CallerForm) → Chain M m n S F es S' F' es' →
      Chain M m n S [] (in_frames r F (w ∷ ws) es) S' [] (in_frames r F' (w ∷ ws) es')
  within_function r w ws c = within_frames w.result w.frame.locals ws (waiting w.frame (λ G. within_body r G c))

  -- a function's frame is left
  pub out_of_function : {n : ℕ} {S S' : StoreForm H O} {F : List Word} {es es' : Sequence} (r : Option ValType) (w : CallerForm) (ws : List CallerForm) → ((G : List Word) → Chain M m n S G (in_body r F es) S' G es') →
      Chain M m n S [] (in_frames r F (w ∷ ws) es) S' [] (in_frames w.result w.frame.locals ws (in_place w.frame es'))
  out_of_function r w ws c = within_frames w.result w.frame.locals ws (waiting w.frame c)

  -- Traps climb out.

  trap_among : {S : StoreForm H O} {F : List Word} (vs : List Word) (is : Sequence) (k : TrapKind) → Chain M m 0 S F (on vs ((Trapped k ⨾ ε) ⧺ is)) S F (Trapped k ⨾ ε)
  trap_among [] ε k = none
  trap_among [] (d ⨾ is) k = once (core.rule (core.trap_climbs (Among [] Hole (d ⨾ is)) (λ e. cc)))
  trap_among (v ∷ vs) is k = once (core.rule (core.trap_climbs (Among (v ∷ vs) Hole is) (λ e. on_two vs (Const v) (Trapped k) is k e)))

  trap_in_label : {S : StoreForm H O} {F : List Word} (n : ℕ) (c : Sequence) (k : TrapKind) → Chain M m 0 S F (LabelOf n c (Trapped k ⨾ ε) ⨾ ε) S F (Trapped k ⨾ ε)
  trap_in_label n c k = once (core.rule (core.trap_climbs (Inside n c Hole) (λ e. cc)))

  trap_in_labels : {S : StoreForm H O} {F : List Word} (ls : List LabelForm) (k : TrapKind) → Chain M m 0 S F (in_labels ls (Trapped k ⨾ ε)) S F (Trapped k ⨾ ε)
  trap_in_labels [] k = none
  trap_in_labels (l ∷ ls) k =
      join 0 0 0 (omega arith)
      (within_labels ls (join 0 0 0 (omega arith) (in_context (Among l.under Hole (sequence l.rest)) (trap_in_label (arity l.gives) (continuation l.again) k)) (trap_among l.under (sequence l.rest) k)))
      (trap_in_labels ls k)

  pub trap_here : {S : StoreForm H O} {F : List Word} (ls : List LabelForm) (vs : List Word) (is : Sequence) (k : TrapKind) → Chain M m 0 S F (in_labels ls (on vs ((Trapped k ⨾ ε) ⧺ is))) S F (Trapped k ⨾ ε)
  trap_here ls vs is k = join 0 0 0 (omega arith) (within_labels ls (trap_among vs is k)) (trap_in_labels ls k)

  trap_in_body : {S : StoreForm H O} {F : List Word} (r : Option ValType) (G : List Word) (k : TrapKind) → Chain M m 0 S G (in_body r F (Trapped k ⨾ ε)) S G (Trapped k ⨾ ε)
  trap_in_body r G k = join 0 0 0 (omega arith) (within_frame G (trap_in_label (arity r) ε k)) (once (core.rule core.trap_leaves))

  -- a trap in the innermost frame
  pub trap_out : {S : StoreForm H O} (r : Option ValType) (F : List Word) (ws : List CallerForm) (k : TrapKind) → Chain M m 0 S [] (in_frames r F ws (Trapped k ⨾ ε)) S [] (Trapped k ⨾ ε)
  trap_out r F [] k = none
  trap_out r F (w ∷ ws) k =
      join 0 0 0 (omega arith)
      (out_of_function r w ws (λ G. trap_in_body r G k))
      (join 0 0 0 (omega arith) (within_frames w.result w.frame.locals ws (λ G. trap_here w.frame.labels w.frame.values (sequence w.frame.code) k)) (trap_out w.result w.frame.locals ws k))

  -- a branch to a label behind so many others
  breaks : {S : StoreForm H O} {F : List Word} (n : ℕ) (ls : List LabelForm) (k l : ℕ) (B : Blocks k) → l ≡ k + n → (us : List Word) (t : LabelForm) (outer : List LabelForm) → drop n ls ≡ t ∷ outer → length us ≡ arity t.gives →
      Chain M m (steps_of (continuation t.again)) S F (in_labels ls (blocks B (on us (op (Br l) ⨾ ε)))) S F (in_labels outer (on t.under (on us (continuation t.again) ⧺ sequence t.rest)))
  breaks zero [] k l B e us t outer d q = cc
  breaks (suc n) [] k l B e us t outer d q = cc
  breaks {S = S} {F = F} zero (x ∷ ls) k l B e us t outer d q =
      let a : t ≡ x = cc in
      let b : outer ≡ ls = cc in
      let i : k ≡ l = omega (arith, e) in
      subst (λ (z : ℕ). Chain M m (steps_of (continuation t.again)) S F (in_labels (x ∷ ls) (blocks B (on us (op (Br z) ⨾ ε)))) S F (in_labels outer (on t.under (on us (continuation t.again) ⧺ sequence t.rest)))) i
      (subst (λ (os : List LabelForm). Chain M m (steps_of (continuation t.again)) S F (in_labels (x ∷ ls) (blocks B (on us (op (Br k) ⨾ ε)))) S F (in_labels os (on t.under (on us (continuation t.again) ⧺ sequence t.rest)))) (sym b)
      (subst (λ (y : LabelForm). Chain M m (steps_of (continuation y.again)) S F (in_labels (x ∷ ls) (blocks B (on us (op (Br k) ⨾ ε)))) S F (in_labels ls (on y.under (on us (continuation y.again) ⧺ sequence y.rest)))) (sym a)
      (here ls x.under (sequence x.rest) (once (core.rule (core.branch B us (q ∙ ap (λ (y : LabelForm). arity y.gives) a)))))))
  breaks (suc n) (x ∷ ls) k l B e us t outer d q = breaks n ls (suc k) l (Within x.under (arity x.gives) (continuation x.again) B (sequence x.rest)) (omega (arith, e)) us t outer d q

  pub breaks_to : {S : StoreForm H O} {F : List Word} (n : ℕ) (ls : List LabelForm) (vs us : List Word) (is : Sequence) (t : LabelForm) (outer : List LabelForm) → drop n ls ≡ t ∷ outer → taken t.gives vs ≡ Some us →
      Chain M m (steps_of (continuation t.again)) S F (in_labels ls (on vs (op (Br n) ⨾ is))) S F (in_labels outer (on t.under (on us (continuation t.again) ⧺ sequence t.rest)))
  breaks_to {S = S} {F = F} n ls vs us is t outer d e =
      let p = taken_parts t.gives vs us e in
      subst (λ (es : Sequence). Chain M m (steps_of (continuation t.again)) S F (in_labels ls es) S F (in_labels outer (on t.under (on us (continuation t.again) ⧺ sequence t.rest)))) (sym (on_parts vs us p.0 (op (Br n)) is p.1))
      (breaks n ls 0 n (Here p.0 is) (omega arith) us t outer d p.2)
