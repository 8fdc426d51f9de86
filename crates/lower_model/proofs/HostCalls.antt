-- Operations that the host carries out.
use Rattle.std.proofs.Common.{◌≡◌, ℕ, ◌+◌, ◌<◌, ◌≤◌, true, List, [], ◌∷◌, length, refl, ◌∙◌, subst, arith}
use Rattle.std.proofs.lemmas.Bool.{and_parts}
use Rattle.sem_primitives.specs.InTurn.{in_turn}
use Rattle.sem_primitives.specs.SharedState.{Shared, shared_after}
use Rattle.sem_primitives.specs.Sorts.{Row, InAnswer}
use Rattle.sem_primitives.specs.Table.{arguments_of, answer_of, can_fault, meaning}
use Rattle.sem_primitives.specs.declared.sorts.Argument.{Argument}
use Rattle.sem_primitives.specs.declared.sorts.Argument.TheVariants as argument
use Rattle.sem_primitives.specs.declared.sorts.Answer.{Answer}
use Rattle.sem_primitives.specs.declared.sorts.Answer.TheVariants as answer
use Rattle.sem_primitives.specs.declared.sorts.Sort.TheVariants as sort
use Rattle.sem_primitives.specs.declared.table.Primitive.{Primitive}
use Rattle.sem_primitives.specs.declared.table.Primitive.TheVariants as row
use Rattle.wasm_types.specs.Syntax.{Instructions}
use Rattle.mid_program.specs.Mid.{Kind, Program, Form, PrimitiveAnswer, Codes, End, At, Fixed, Fresh}
use Rattle.mid_program.specs.MidMeaning.{Env, row_of}
use Rattle.sem_scripts.specs.Names.{ArrayName}
use Rattle.sem_scripts.specs.ScriptState.{State, Execution, go_on, settled, call}
use Rattle.mid_program.specs.Sorted.{Held as Standing, all_sorted, held_after_all, is_operation, fit_row}
use Rattle.lower_model.specs.Emission.{all_emitted, all_converted, all_pushed}
use Rattle.lower_model.specs.Machine.{Conf, Label, Frame, at, loops_walked}
use Rattle.lower_model.specs.Places.{Bases, rooms, arrays_among}
use Rattle.lower_model.specs.Small.{ask_row, kept}
use Rattle.lower_model.proofs.Observer.{Observer}
use Rattle.lower_model.proofs.Runs.{then_goes, first, then_on, then_settled, weaker}
use Rattle.lower_model.proofs.Locals.{Locals, laid}
use Rattle.lower_model.proofs.HostLaws.{row_keeps, is_quiet}
use Rattle.lower_model.proofs.Relation.{Meant, Kept, kept_same, Same, same_then, Fit, fit_shared, Calm, SameOwn, Away}
use Rattle.lower_model.proofs.Answers.{machine, beside_state, done_by, row_called, takes_row, IsPlain, Put, kept_ok, Reached}
use Rattle.lower_model.proofs.Simulation.{works_of, extra_of, past, made_past, past_room, layout, context, all_meant, Ready, WellUsed, AllDone, CodesOk, RowAt}
use Rattle.lower_model.proofs.Arguments.{under_same, RowDone, row_ok, push_ok, conv_work, push_work}

-- what all operations have in common

pub operation_takes : (q : Primitive) → is_operation q ≡ true → takes_row q ≡ true
operation_takes row.Dup e = cc
operation_takes row.IterNext e = cc
operation_takes row.PendingName e = cc
operation_takes _ e = refl

pub operation_in_turn : (q : Primitive) (r : Row (arguments_of q)) (s : Shared) → is_operation q ≡ true → in_turn q r s ≡ true
operation_in_turn row.SubResult r s e = cc
operation_in_turn row.Line r s e = cc
operation_in_turn row.NextMain r s e = cc
operation_in_turn row.Getline r s e = cc
operation_in_turn row.GetlineVar r s e = cc
operation_in_turn row.Declare r s e = cc
operation_in_turn row.StartAssign r s e = cc
operation_in_turn row.PendingName r s e = cc
operation_in_turn row.PendingValue r s e = cc
operation_in_turn _ r s e = refl

pub operation_quiet : (q : Primitive) → is_operation q ≡ true → is_quiet q ≡ true
operation_quiet row.NextMain e = cc
operation_quiet row.Getline e = cc
operation_quiet row.GetlineVar e = cc
operation_quiet row.Declare e = cc
operation_quiet row.StartAssign e = cc
operation_quiet row.PendingValue e = cc
operation_quiet _ e = refl

pub operation_plain : (q : Primitive) → is_operation q ≡ true → IsPlain (answer_of q)
operation_plain row.Fail e = absurd cc
operation_plain row.NewArray e = absurd cc
operation_plain row.Iter e = absurd cc
operation_plain row.IterNext e = absurd cc
operation_plain row.Declare e = absurd cc
operation_plain row.StartAssign e = absurd cc
operation_plain row.PendingName e = absurd cc
operation_plain row.BeginEnd e = absurd cc
operation_plain _ e = tt

pub calm_after : (p : Program) (q : Primitive) (r : Row (arguments_of q)) (s : Shared) → is_quiet q ≡ true → Calm p s → Calm p (shared_after s (meaning q r s))
calm_after p q r s e c = let k = row_keeps q r s e in record { pending = k.pending ∙ c.pending; names = k.names ∙ c.names; few = k.few c.few }

-- a row makes no array
pub row_makes_none : (fs : List Form) (wanted : List Argument) (es : Codes) (w : ℕ) → fit_row fs wanted es ≡ true → made_past w es ≡ w
row_makes_none fs [] End w e = refl
row_makes_none fs (argument.Of s ∷ rest) (At c es) w e = row_makes_none fs rest es w (and_parts _ (fit_row fs rest es) e).1
row_makes_none fs (argument.Constant c ∷ rest) (Fixed m es) w e = row_makes_none fs rest es w (and_parts _ (fit_row fs rest es) e).1
row_makes_none fs wanted es w e = cc

pub extra_enough : (es : Codes) → conv_work es + push_work es ≤ extra_of es
extra_enough End = omega arith
extra_enough (At e es) = let r = extra_enough es in omega (arith, r)
extra_enough (Fixed m es) = extra_enough es
extra_enough (Fresh es) = let r = extra_enough es in omega (arith, r)

module _ (p : Program) (deepest : Observer) (ks : List Kind) (F : List Frame) (b : Bases) (M n : ℕ) where
  pub plain_meant : (a : Answer) (x : InAnswer a) (y : ArrayName) (σ : State) → IsPlain a → Meant p deepest ks F (PrimitiveAnswer a) x y σ
  plain_meant (answer.Of sort.Array) x y σ h = absurd h
  plain_meant _ x y σ h = tt

  -- operands stand as a row
  pub record RowReady (wanted : List Argument) (es : Codes) (fs : List Form) (env : Env fs) (ts : List ℕ) (st : ℕ → Standing) (t u w : ℕ) (k : Instructions) (K : List Label) (l : Locals) (σ : State) (r : Row wanted) (σ1 : State) (c : Conf) : Type 0 where
    pub next : Locals
    pub comes : c ≡ at ks [] K (laid b next) F k (beside_state p deepest ks F σ1)
    pub fit : Fit p deepest ks F (past t es) u w next σ1
    pub same : Same ts t w l next
    pub own : SameOwn p deepest ks F σ σ1
    pub kept : Kept fs ts (λ i. held_after_all i es (st i)) next env
    pub row : RowAt p deepest ks F b M n wanted es t next σ1 r

  pub row_then : {B : Type 0} → (wanted : List Argument) (es : Codes) → CodesOk p deepest ks F b M n es → (fs : List Form) (env : Env fs) (ts : List ℕ) (st : ℕ → Standing) (t u w d : ℕ) (k : Instructions) (K : List Label) (l : Locals) (σ : State) (w1 w' : ℕ) (P : B → State → Conf → Type 0) (f : Row wanted → Execution B) →
      fit_row fs wanted es ≡ true → all_sorted (context p deepest ks F b M n) fs es ≡ true → WellUsed p deepest ks F b M n fs (λ i. held_after_all i es (st i)) → t + rooms es ≤ b.temporaries → w + arrays_among es ≤ b.arrays → Ready p deepest ks F b M n fs env ts st t u w (loops_walked K) l σ → works_of es + conv_work es + w1 ≤ w' →
      ((r : Row wanted) (τ : State) (c : Conf) → τ.turns ≤ σ.turns → RowReady wanted es fs env ts st t u w k K l σ r τ c → Reached p deepest ks F b M w1 τ.turns c P (Away p deepest ks F b d K) (f r τ)) →
      Reached p deepest ks F b M w' σ.turns (at ks [] K (laid b l) F (all_emitted (layout p deepest ks F b M n) fs ts es t w d (all_converted (layout p deepest ks F b M n) fs wanted es t d k)) (beside_state p deepest ks F σ)) P (Away p deepest ks F b d K)
      (go_on (all_meant p deepest ks F b M n fs env es σ) (λ vs τ. go_on (settled (row_of fs wanted es vs) τ) f))
  row_then wanted es ok fs env ts st t u w d k K l σ w1 w' P f fr so us rm ar rd en next =
      let mach = machine p deepest ks F in
      let Q = Away p deepest ks F b d K in
      let k1 = all_converted (layout p deepest ks F b M n) fs wanted es t d k in
      let pr = past_room t es in
      then_on mach M (works_of es) (conv_work es + w1) w' σ.turns _ (AllDone p deepest ks F b M n es fs env ts st t u w k1 K l σ) P Q (all_meant p deepest ks F b M n fs env es σ) _ (omega (arith, en))
      (ok fs env ts st t u w d k1 K l σ so us rm ar rd)
      (λ vs τ c1 le a.
      let made = row_makes_none fs wanted es w fr in
      first mach M 0 (conv_work es + w1) (conv_work es + w1) τ.turns c1 _ P Q _ (record { it = a.comes }) (omega arith)
      (then_settled mach M (conv_work es) w1 (conv_work es + w1) _ τ (RowDone p deepest ks F b M n wanted es t (past t es) u w k K a.next) P Q (row_of fs wanted es vs) f (omega arith)
      (row_ok p deepest ks F b M n wanted es fs vs t (past t es) u w d k K a.next τ fr (omega arith) (omega (arith, pr, rm)) (subst (λ z. Fit p deepest ks F (past t es) u z a.next τ) made a.fit) a.held)
      (λ r c2 e2 a2. next r τ c2 le (record {
        next = a2.next;
        comes = a2.comes;
        fit = a2.fit;
        same = same_then ts t t w w l a.next a2.next (omega arith) (omega arith) a.same (under_same ts t w a.next a2.next a2.under);
        own = a.own;
        kept = kept_same fs ts (λ i. held_after_all i es (st i)) a.next a2.next env t rd.below a2.under.hands a2.under.numbers a.kept;
        row = a2.row;
      }))))

  -- an operation of the host, once its operands stand as a row
  pub host_asked : (q : Primitive) (es : Codes) (fs : List Form) (t u w d : ℕ) (k : Instructions) (K : List Label) (l : Locals) (σ : State) (r : Row (arguments_of q)) →
      takes_row q ≡ true → in_turn q r σ.shared ≡ true → is_quiet q ≡ true → IsPlain (answer_of q) → fit_row fs (arguments_of q) es ≡ true → length ks ≡ b.parameters → past t es ≤ b.temporaries → t < b.temporaries →
      Fit p deepest ks F (past t es) u w l σ → RowAt p deepest ks F b M n (arguments_of q) es t l σ r →
      Reached p deepest ks F b M (push_work es + 5) σ.turns (at ks [] K (laid b l) F (all_pushed (layout p deepest ks F b M n) (arguments_of q) es t (ask_row q (kept b (can_fault q) (answer_of q) t d k))) (beside_state p deepest ks F σ)) (Put p deepest ks F b t u w (PrimitiveAnswer (answer_of q)) k K l) (Away p deepest ks F b d K) (call q r σ)
  host_asked q es fs t u w d k K l σ r tk turn quiet plain fr pk lt lt1 ft ra =
      let mach = machine p deepest ks F in
      let k1 = kept b (can_fault q) (answer_of q) t d k in
      let x = push_ok p deepest ks F b M n (arguments_of q) es fs t u w [] (ask_row q k1) K l σ r fr pk lt ft ra in
      let σ1 = done_by p deepest ks F q r σ in
      let f1 = fit_shared p deepest ks F t u w x.next σ (shared_after σ.shared (meaning q r σ.shared)) (calm_after p q r σ.shared quiet ft.sound.calm) x.fit in
      first mach M (x.steps + 1) 4 (push_work es + 5) σ.turns _ _ (Put p deepest ks F b t u w (PrimitiveAnswer (answer_of q)) k K l) (Away p deepest ks F b d K) (call q r σ)
      (then_goes x.goes (row_called p deepest ks F q r x.words [] σ tk x.wide (x.live (laid b x.next)) x.decoded turn)) (omega (arith, x.few))
      (weaker mach M 4 σ.turns _ (Put p deepest ks F b t u w (PrimitiveAnswer (answer_of q)) k K x.next) (Put p deepest ks F b t u w (PrimitiveAnswer (answer_of q)) k K l) (Away p deepest ks F b d K) (Away p deepest ks F b d K) (call q r σ)
      (λ v τ c a. record { next = a.next; comes = a.comes; fit = a.fit; same = same_then [] t t w w l x.next a.next (omega arith) (omega arith) (under_same [] t w l x.next x.under) a.same; holds = a.holds }) (λ why τ c a. a)
      (kept_ok p deepest ks F b M (can_fault q) (answer_of q) (meaning q r σ.shared).answer t u w d k K x.next σ1 plain lt1 f1))
