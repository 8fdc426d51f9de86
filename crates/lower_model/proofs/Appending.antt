-- Texts that are put behind a boxed name's own: the name gives its text away, and takes the two as one. In a chain it has the text so far while the next one is
-- evaluated, where the script's state still has the former one: such code does the same whatever the name has.
use Rattle.std.proofs.Common.{◌≡◌, inl, inr, ℕ, zero, suc, ◌+◌, ◌<◌, ◌≤◌, Bool, true, false, List, [], ◌∷◌, length, None, Some, Result, Ok, Err, refl, sym, ap, ◌∙◌, subst, arith}
use Rattle.std.specs.Prelude.{◌&&◌, ◌||◌, nat_eq}
use Rattle.std.proofs.lemmas.Bool.{and_parts, eqb-true}
use Rattle.std.proofs.lemmas.List.{set-get_or, set-set, get_or-set_same, length-set, length-map}
use Rattle.awk_values.specs.declared.fault.Fault.{Fault}
use Rattle.awk_values.specs.declared.value.Value.{Value}
use Rattle.awk_values.specs.declared.value.Value.TheVariants as value
use Rattle.sem_primitives.specs.Sorts.{Row}
use Rattle.sem_primitives.specs.Table.{arguments_of, meaning}
use Rattle.sem_primitives.specs.declared.sorts.Answer.TheVariants as answer
use Rattle.sem_primitives.specs.declared.sorts.Sort.TheVariants as sort
use Rattle.sem_primitives.specs.declared.table.Primitive.TheVariants as row
use Rattle.wasm_types.specs.Syntax.{Instructions}
use Rattle.wasm_types.specs.declared.instr.Simple.TheVariants.{GlobalGet, GlobalSet}
use Rattle.mid_program.specs.declared.mid.Operation.TheVariants.{Host}
use Rattle.mid_program.specs.Mid.{Kind, Boxed, Program, Declared, Global, Code, Do, Get, Set, Codes, End, At, Eval, Form, a_value, form_of, read_form}
use Rattle.mid_program.specs.MidMeaning.{Holds, boxed, read_as, evaluated, all_evaluated, stepped}
use Rattle.mid_program.specs.Sorted.{There, calls_of, has_kind, kinds_of, fits, sorted, all_sorted}
use Rattle.sem_scripts.specs.ScriptState.{State, Stop, Faulted, OutOfTurns, TooDeep, Nexted, Exited, Returned, Outcome, Gives, Stops, Execution, go_on, ◌>>◌, give, change, settled, call, global_value, with_global}
use Rattle.sem_scripts.specs.Statements.{Flow, Normal}
use Rattle.lower_model.specs.Appends.{is_still, is_name, is_chain}
use Rattle.lower_model.specs.Cells.{Cell, Held, Gone, is_owned}
use Rattle.lower_model.specs.ImportCalls.{Acts, replied, primitive_acts}
use Rattle.host_imports.specs.declared.import.Import.TheVariants.{OfPrimitive}
use Rattle.lower_model.specs.Noted.{noted_called}
use Rattle.lower_model.specs.Machine.{Conf, Label, Frame, Store, at, onto}
use Rattle.lower_model.specs.Places.{Bases, handle_local, handle_global, room, arrays_in}
use Rattle.lower_model.specs.Small.{emit, ask_row, moved_out, kept_value}
use Rattle.lower_model.specs.Small
use Rattle.lower_model.specs.Statements.{text_appended, chain_appended}
use Rattle.lower_model.proofs.Observer.{Observer}
use Rattle.lower_model.proofs.Runs.{Goes, goes_to, goes_from, same_goes, then_goes, stays, first, within, there, faulted, weaker, then_on, then_settled, arrives_after, Arrives}
use Rattle.lower_model.proofs.Regions.{upd_same}
use Rattle.lower_model.proofs.Locals.{Locals, Hand, with_at, laid}
use Rattle.lower_model.proofs.Steps.{empty, moved_out_ok}
use Rattle.lower_model.proofs.Globals.{Hand as NameHand, has_global, with_global_at, has_global_with, placed, placed_twice}
use Rattle.lower_model.proofs.GlobalSteps.{storing, comes_back, global_moved, global_set_ok}
use Rattle.lower_model.proofs.Pieces.{value_kept, value_failed}
use Rattle.lower_model.proofs.Calls.{called}
use Rattle.lower_model.proofs.State.{cells_of, host_of, arrays_before, name_hand}
use Rattle.lower_model.proofs.Relation.{HoldsAt, Fit, fit_hand, fit_more, fit_less, fit_shared, Away}
use Rattle.lower_model.proofs.Answers.{machine, beside_state, done_by, reply, Reached}
use Rattle.lower_model.proofs.Chains.{last_sorted, chain_sorted}
use Rattle.lower_model.proofs.Converting.{Converted, converted_ok}
use Rattle.lower_model.proofs.HostCalls.{calm_after}
use Rattle.lower_model.proofs.Reading.{kind_below, kind_found}
use Rattle.lower_model.proofs.SettingNames.{boxed_written}
use Rattle.lower_model.proofs.Simulation.{work_of, room_one, context, layout, meant, Done, ExprOk, still_stands}
use Rattle.lower_model.proofs.StatementForms.{flows_on, plain_meant, Starts, ready, starts_after, StepDone}
use Rattle.lower_model.proofs.Still.{with_state, FaultAlone, EndsStill, code_still}
use Rattle.lower_model.proofs.Worn.{text_given, away_less, away_lost}
use Rattle.lower_model.proofs.Written.{fit_global}
use Rattle.mid_program.proofs.Lenders.{boxed_lends}

-- What such code means.

abbrev pub concat_row : Value → Value → Row (arguments_of row.Concat)
concat_row v w = (v, (w, tt))

-- two operands, and then their texts as one
abbrev pub joined : (f g : Form) → Outcome (Holds f) → Execution (Holds g) → Outcome Value
joined f g m n = go_on {A = Holds f} {B = Value} m (λ x τ. go_on {A = Holds g} {B = Value} (n τ) (λ y. call row.Concat (concat_row (boxed f x) (boxed g y))))

abbrev One : Form → Type 0
One g = Holds g × Unit {0}

abbrev Two : Form → Form → Type 0
Two f g = Holds f × One g

abbrev one_of : (g : Form) → Outcome (Holds g) → Outcome (One g)
one_of g o = go_on {A = Holds g} {B = One g} o (λ w. give (w, tt))

abbrev two_of : (f g : Form) → Holds f → Outcome (One g) → Outcome (Two f g)
two_of f g v o = go_on {A = One g} {B = Two f g} o (λ ws. give (v, ws))

abbrev concat_of : (f g : Form) → Outcome (Two f g) → Outcome Value
concat_of f g o = go_on {A = Two f g} {B = Value} o (λ vs. call row.Concat (concat_row (boxed f vs.0) (boxed g vs.1.0)))

second_by : (f g : Form) (v : Holds f) (o : Outcome (Holds g)) → concat_of f g (two_of f g v (one_of g o)) ≡ go_on {A = Holds g} {B = Value} o (λ w. call row.Concat (concat_row (boxed f v) (boxed g w)))
second_by f g v (Gives w υ) = refl
second_by f g v (Stops why υ) = refl

concat_by : (f g : Form) (m : Outcome (Holds f)) (n : Execution (Holds g)) → concat_of f g (go_on {A = Holds f} {B = Two f g} m (λ v τ. two_of f g v (one_of g (n τ)))) ≡ joined f g m n
concat_by f g (Gives v τ) n = second_by f g v (n τ)
concat_by f g (Stops why τ) n = refl

abbrev is_fault : Stop → Bool
is_fault (Faulted x) = true
is_fault why = false

or_false : (t : Bool) → (t || false) ≡ true → t ≡ true
or_false true h = refl
or_false false h = h

never : {X : Type 0} → false ≡ true → X
never e = cc

no_fault : {X : Type 0} (why : Stop) → FaultAlone why → is_fault why ≡ false → X
no_fault why h e = never (sym e ∙ ap is_fault h.1)

-- a name that has what it has
pub global_same : (i : ℕ) (σ : State) → with_global i (global_value i σ) σ ≡ σ
global_same i σ = ap (λ gs. record σ { globals = gs }) (set-get_or σ.globals i value.Uninit)

pub global_again : (i : ℕ) (v w : Value) (σ : State) → with_global i v (with_global i w σ) ≡ with_global i v σ
global_again i v w σ = ap (λ gs. record σ { globals = gs }) (set-set σ.globals i w v)

module _ (p : Program) (deepest : Observer) (ks : List Kind) (F : List Frame) (b : Bases) (M n : ℕ) where
  abbrev kinds : List Kind
  kinds = kinds_of p.globals

  abbrev names : ℕ
  names = length kinds

  abbrev E : (e : Code) → Execution (Holds (form_of [] e))
  E e = meant p deepest ks F b M n [] tt e

  pub concat_means : (l r : Code) (σ : State) → E (Do (Host row.Concat) (At l (At r End))) σ ≡ joined (form_of [] l) (form_of [] r) (E l σ) (E r)
  unfolding evaluated all_evaluated
  concat_means l r σ = concat_by (form_of [] l) (form_of [] r) (E l σ) (E r)

  -- where a name has given its value away
  abbrev pub given_away : ℕ → State → List Cell
  given_away i σ = placed p.ranges names (text_given p i σ)

  -- after a call that answers with a value, or meets a fault
  abbrev after_concat : ℕ → Result Value Fault → State → Store
  after_concat i (Ok z) σ = storing (given_away i σ) (host_of σ None)
  after_concat i (Err x) σ = storing (given_away i σ) (host_of σ (Some x))

  abbrev concatenated : Value → Value → State → Result Value Fault
  concatenated v w σ = (meaning row.Concat (concat_row v w) σ.shared).answer

  concat_called : (i : ℕ) (v w : Value) (σ : State) (K : List Label) (L : List Cell) (c : Instructions) →
      Goes (machine p deepest ks F) 1 (at ks (Held w ∷ (Held v ∷ [])) K L F (ask_row row.Concat c) (storing (given_away i σ) (host_of σ None)))
      (at ks (reply (answer.Of sort.Value) (concatenated v w σ) []) K L F c (after_concat i (concatenated v w σ) (done_by p deepest ks F row.Concat (concat_row v w) σ)))
  concat_called i v w σ K L c =
      goes_to (called (OfPrimitive row.Concat) (Held v ∷ (Held w ∷ [])) [] G (replied (answer.Of sort.Value) (host_of σ None) d (concatenated v w σ)).0 (replied (answer.Of sort.Value) (host_of σ None) d (concatenated v w σ)).1 refl refl refl)
      (by (concatenated v w σ))
    where
      G : Store
      G = storing (given_away i σ) (host_of σ None)

      d : Acts Value
      d = primitive_acts {A = Value} [] true (meaning row.Concat (concat_row v w) σ.shared)

      by : (z : Result Value Fault) →
          at ks (onto (replied (answer.Of sort.Value) (host_of σ None) d z).0 []) K L F c (record G { host = (replied (answer.Of sort.Value) (host_of σ None) d z).1; assigning = None })
          ≡ at ks (reply (answer.Of sort.Value) z []) K L F c (after_concat i z (done_by p deepest ks F row.Concat (concat_row v w) σ))
      by (Ok z) = refl
      by (Err x) = refl

  -- the name has a text, and nothing else is held
  pub record Appended (i u : ℕ) (k : Instructions) (K : List Label) (l : Locals) (z : Value) (σ : State) (c : Conf) : Type 0 where
    pub next : Locals
    pub comes : c ≡ at ks [] K (laid b next) F k (beside_state p deepest ks F (with_global i z σ))
    pub fit : Fit p deepest ks F 0 u 0 next (with_global i z σ)
    pub iterators : (x : ℕ) → next.iterator x ≡ l.iterator x

  module _ (i : ℕ) (hk : has_kind kinds i Boxed ≡ true) (roomy : 0 < b.temporaries) where
    li : i < names
    li = kind_below kinds i Boxed hk

    -- what the call gave goes to the name
    put_back : (z : Result Value Fault) (v : Value) (u d : ℕ) (k : Instructions) (K : List Label) (l : Locals) (σ : State) → Fit p deepest ks F 0 u 0 l (with_global i v σ) →
        Reached p deepest ks F b M 8 σ.turns (at ks (reply (answer.Of sort.Value) z []) K (laid b l) F (kept_value b true zero d (moved_out (handle_local b zero) (emit (GlobalSet (handle_global p.ranges i)) k))) (after_concat i z (with_global i v σ)))
        (Appended i u k K l) (Away p deepest ks F b d K) (settled z σ)
    put_back (Ok z) v u d k K l σ ft =
        let l1 = with_at l (Hand 0) (Held z) in
        let l2 = with_at l1 (Hand 0) empty in
        let g = cells_of kinds 0 (with_global i v σ) in
        let g1 = with_global_at p.ranges names g (NameHand i) Gone in
        let f1 = fit_hand p deepest ks F 0 1 u 0 l (with_global i v σ) (Held z) (inr (z, refl)) (omega arith) (fit_more p deepest ks F 0 u 0 l (with_global i v σ) ft) in
        let f2 = fit_less p deepest ks F 0 u 0 l2 (with_global i v σ) (upd_same l1.hand 0 empty) (fit_hand p deepest ks F 0 1 u 0 l1 (with_global i v σ) empty (inl refl) (omega arith) f1) in
        there (machine p deepest ks F) M 8 (3 + (2 + 1)) _ _ z σ (Appended i u k K l) (Away p deepest ks F b d K)
        (then_goes (value_kept b l 0 d z roomy (ap is_owned (ft.free 0 (omega arith))))
        (then_goes (moved_out_ok b l1 (Hand 0) (Held z) roomy (upd_same l.hand 0 (Held z)))
        (goes_to (global_set_ok p.ranges names g1 (NameHand i) (Held z) li (ap is_owned (has_global_with p.ranges names g (NameHand i) Gone)) (comes_back p.ranges names _ None g (NameHand i) (Held z)))
        (ap (λ m. at ks [] K (laid b l2) F k (storing m (host_of σ None))) (placed_twice p.ranges names g (NameHand i) Gone (Held z) li ∙ boxed_written p deepest ks F b M n i z (with_global i v σ) ft.sound.names hk)))))
        (omega arith)
        (record {
          next = l2;
          comes = ap (λ τ. at ks [] K (laid b l2) F k (beside_state p deepest ks F τ)) (global_again i z v σ);
          fit = subst (Fit p deepest ks F 0 u 0 l2) (global_again i z v σ) (fit_global p deepest ks F b M n i z 0 u 0 l2 (with_global i v σ) (boxed_lends kinds p.lenders i ft.sound.lend hk) f2);
          iterators = λ x. refl;
        })
    put_back (Err x) v u d k K l σ ft =
        let l1 = with_at l (Hand 0) empty in
        let f1 = fit_less p deepest ks F 0 u 0 l1 (with_global i v σ) (upd_same l.hand 0 empty) (fit_hand p deepest ks F 0 1 u 0 l (with_global i v σ) empty (inl refl) (omega arith) (fit_more p deepest ks F 0 u 0 l (with_global i v σ) ft)) in
        faulted (machine p deepest ks F) M 8 3 _ _ x σ (Appended i u k K l) (Away p deepest ks F b d K) (value_failed b l 0 d roomy (ap is_owned (ft.free 0 (omega arith)))) (omega arith) (away_lost p deepest ks F b i v x u d K l1 σ hk f1)

    -- a text stands in the first temporary, and goes behind the name's own
    put_behind : (f : Form) (y : Holds f) (v : Value) (u d : ℕ) (k : Instructions) (K : List Label) (l : Locals) (τ : State) → fits f sort.Value ≡ true → Fit p deepest ks F 1 u 0 l (with_global i v τ) → HoldsAt f 0 l y →
        Reached p deepest ks F b M 40 τ.turns (at ks [] K (laid b l) F (Small.to_value b f zero
        (emit (GlobalGet (handle_global p.ranges i)) (moved_out (handle_local b zero) (ask_row row.Concat (kept_value b true zero d (moved_out (handle_local b zero) (emit (GlobalSet (handle_global p.ranges i)) k))))))) (beside_state p deepest ks F (with_global i v τ)))
        (Appended i u k K l) (Away p deepest ks F b d K) (call row.Concat (concat_row v (boxed f y)) τ)
    put_behind f y v u d k K l τ ff ft hd =
        let mach = machine p deepest ks F in
        let P = Appended i u k K l in
        let Q = Away p deepest ks F b d K in
        let σ = with_global i v τ in
        let k3 = kept_value b true zero d (moved_out (handle_local b zero) (emit (GlobalSet (handle_global p.ranges i)) k)) in
        let k1 = emit (GlobalGet (handle_global p.ranges i)) (moved_out (handle_local b zero) (ask_row row.Concat k3)) in
        then_settled mach M 16 24 40 _ σ (Converted p deepest ks F b M 1 u 0 0 a_value k1 K l) P Q (Ok (boxed f y)) (λ w υ. call row.Concat (concat_row v w) τ) (omega arith)
        (converted_ok p deepest ks F b M f sort.Value y 1 u 0 0 d k1 K l σ ff (omega arith) roomy ft hd)
        (λ w c1 e1 a.
        let l1 = a.next in
        let l2 = with_at l1 (Hand 0) empty in
        let g = cells_of kinds 0 σ in
        let ln = length-map p.globals (λ (d : Declared). d.kind) in
        let sz = a.fit.sound.names in
        let ls = length-set τ.globals i v in
        let bound = li in
        let has : has_global p.ranges names g (NameHand i) ≡ Held v = ap (λ z. name_hand z (suc (suc (arrays_before kinds i))) (global_value i σ)) (kind_found kinds i Boxed hk) ∙ ap Held (get_or-set_same τ.globals i v value.Uninit (omega (arith, bound, ln, sz, ls))) in
        let f1 = fit_less p deepest ks F 0 u 0 l2 σ (upd_same l1.hand 0 empty) (fit_hand p deepest ks F 0 1 u 0 l1 σ empty (inl refl) (omega arith) a.fit) in
        let f2 = fit_shared p deepest ks F 0 u 0 l2 σ (done_by p deepest ks F row.Concat (concat_row v w) σ).shared (calm_after p row.Concat (concat_row v w) σ.shared refl a.fit.sound.calm) f1 in
        first mach M (1 + (2 + 1)) 8 24 τ.turns c1 _ P Q (call row.Concat (concat_row v w) τ)
        (goes_from a.comes
        (then_goes (global_moved p.ranges names g (NameHand i) (Held v) li has)
        (then_goes (moved_out_ok b l1 (Hand 0) (Held w) roomy a.holds.0)
        (concat_called i v w σ K (laid b l2) k3))))
        (omega arith)
        (weaker mach M 8 τ.turns _ (Appended i u k K l2) P Q Q (call row.Concat (concat_row v w) τ) (λ z υ c q. record { next = q.next; comes = q.comes; fit = q.fit; iterators = λ x. q.iterators x ∙ a.keeps.iterators x }) (λ why υ c q. q)
        (put_back (concatenated v w τ) v u d k K l2 (done_by p deepest ks F row.Concat (concat_row v w) τ) f2)))

    -- What code did that is still for the name: it did so with the name's text as it is.

    abbrev Text : ℕ → Code → ℕ → Instructions → Instructions
    Text j e d k = text_appended (layout p deepest ks F b M n) j e d k

    -- what comes of it, by the state of the script
    carried : {A : Type 0} (v : Value) (w l d : ℕ) (K : List Label) (c : Conf) (P : A → State → Conf → Type 0) (P1 : Value → State → Conf → Type 0) (σ : State) (r : Outcome A) (f : A → Execution Value) → EndsStill σ r →
        Arrives (machine p deepest ks F) M w l c P (Away p deepest ks F b d K) (with_state (with_global i v) r) →
        ((a : A) (τ : State) (c1 : Conf) → τ.turns ≤ l → P a (with_global i v τ) c1 → Reached p deepest ks F b M 40 τ.turns c1 P1 (Away p deepest ks F b d K) (f a τ)) →
        Reached p deepest ks F b M (w + 40) l c P1 (Away p deepest ks F b d K) (go_on r f)
    carried v w l d K c P P1 σ (Gives a τ) f h r next =
        arrives_after (machine p deepest ks F) M r.steps 40 (w + 40) l τ.turns c r.conf P1 (Away p deepest ks F b d K) (f a τ) r.goes (record { down = r.cost.down; paid = r.cost.paid; few = omega (arith, r.cost.few) }) (next a τ r.conf r.cost.down r.holds)
    carried v w l d K c P P1 σ (Stops (Faulted x) τ) f h r next =
        let q = r.cost.few in
        record { conf = r.conf; steps = r.steps; goes = r.goes; cost = record { down = r.cost.down; paid = r.cost.paid; few = omega (arith, q) }; holds = away_less p deepest ks F b i v x d K τ r.conf hk r.holds }
    carried v w l d K c P P1 σ (Stops OutOfTurns τ) f h r next = no_fault OutOfTurns h.0 refl
    carried v w l d K c P P1 σ (Stops TooDeep τ) f h r next = no_fault TooDeep h.0 refl
    carried v w l d K c P P1 σ (Stops Nexted τ) f h r next = no_fault Nexted h.0 refl
    carried v w l d K c P P1 σ (Stops Exited τ) f h r next = no_fault Exited h.0 refl
    carried v w l d K c P P1 σ (Stops (Returned y) τ) f h r next = no_fault (Returned y) h.0 refl

    -- one text more
    one_ok : (e : Code) → ExprOk p deepest ks F b M n e → is_still (Global false i) e ≡ true → fits (form_of [] e) sort.Value ≡ true → sorted (context p deepest ks F b M n) [] e ≡ true → room e ≤ b.temporaries → arrays_in e ≤ b.arrays →
        (v : Value) (u d : ℕ) (k : Instructions) (K : List Label) (l : Locals) (σ : State) → Starts p deepest ks F b M n u K l (with_global i v σ) →
        Reached p deepest ks F b M (work_of e + 40) σ.turns (at ks [] K (laid b l) F (Text i e d k) (beside_state p deepest ks F (with_global i v σ))) (Appended i u k K l) (Away p deepest ks F b d K)
        (go_on {A = Holds (form_of [] e)} {B = Value} (E e σ) (λ y. call row.Concat (concat_row v (boxed (form_of [] e) y))))
    one_ok e ok st ff so rm ar v u d k K l σ s =
        let f = form_of [] e in
        let k1 = Small.to_value b f zero (emit (GlobalGet (handle_global p.ranges i)) (moved_out (handle_local b zero) (ask_row row.Concat (kept_value b true zero d (moved_out (handle_local b zero) (emit (GlobalSet (handle_global p.ranges i)) k)))))) in
        let whole = code_still (Global false i) p.texts (calls_of p) n (noted_called deepest.notes p n) [] tt e st in
        let D = Done p deepest ks F b M n false e [] tt [] (λ j. There) zero u zero k1 K l (with_global i v σ) in
        carried v (work_of e) σ.turns d K _ D (Appended i u k K l) σ (E e σ) (λ y. call row.Concat (concat_row v (boxed f y))) (whole.ends σ)
        (subst (λ r. Arrives (machine p deepest ks F) M (work_of e) σ.turns (at ks [] K (laid b l) F (Text i e d k) (beside_state p deepest ks F (with_global i v σ))) D (Away p deepest ks F b d K) r) (whole.apart v σ)
        (ok false [] tt [] (λ j. There) zero u zero d k1 K l (with_global i v σ) so (λ j lt. absurd (omega (arith, lt))) (omega (arith, rm)) (omega (arith, ar)) (ready p deepest ks F b M n u K l (with_global i v σ) s)))
        (λ y τ c1 le h.
        let l1 = h.next in
        first (machine p deepest ks F) M 0 40 40 τ.turns c1 _ (Appended i u k K l) (Away p deepest ks F b d K) (call row.Concat (concat_row v (boxed f y)) τ) (same_goes h.comes) (omega arith)
        (weaker (machine p deepest ks F) M 40 τ.turns _ (Appended i u k K l1) (Appended i u k K l) (Away p deepest ks F b d K) (Away p deepest ks F b d K) (call row.Concat (concat_row v (boxed f y)) τ)
        (λ z υ c q. record { next = q.next; comes = q.comes; fit = q.fit; iterators = λ x. q.iterators x ∙ h.same.iterators x }) (λ why υ c q. q)
        (put_behind f y v u d k K l1 τ ff h.fit (still_stands e f zero l1 y h.stands))))

    -- A chain.

    text_fits : (l e : Code) → sorted (context p deepest ks F b M n) [] (Do (Host row.Concat) (At l (At e End))) ≡ true → fits (form_of [] e) sort.Value ≡ true
    unfolding sorted all_sorted
    text_fits l e so =
        let f = fits (form_of [] l) sort.Value && (fits (form_of [] e) sort.Value && true) in
        let s = and_parts f (all_sorted (context p deepest ks F b M n) [] (At l (At e End))) so in
        (and_parts (fits (form_of [] e) sort.Value) true (and_parts (fits (form_of [] l) sort.Value) (fits (form_of [] e) sort.Value && true) s.0).1).0

    name_got : (w : Bool) (σ : State) → E (Get (Global w i)) σ ≡ Gives (read_as w (global_value i σ)) σ
    unfolding evaluated
    name_got w σ = refl

    boxed_got : (w : Bool) (v : Value) → boxed (read_form w) (read_as w v) ≡ v
    boxed_got true v = refl
    boxed_got false v = refl

    abbrev Chained : Codes → Type 0
    Chained es =
        let c = Do (Host row.Concat) es in
        sorted (context p deepest ks F b M n) [] c ≡ true → room c ≤ b.temporaries → arrays_in c ≤ b.arrays → (u d : ℕ) (k : Instructions) (K : List Label) (l : Locals) (σ : State) → Starts p deepest ks F b M n u K l σ →
        Reached p deepest ks F b M (work_of c) σ.turns (at ks [] K (laid b l) F (chain_appended (layout p deepest ks F b M n) i c d k) (beside_state p deepest ks F σ)) (Appended i u k K l) (Away p deepest ks F b d K) (E c σ)

    module _ (exprs : (x : Code) → ExprOk p deepest ks F b M n x) where
      -- the first text goes behind what the name has
      begun : (w : Bool) (e : Code) → is_still (Global false i) e ≡ true → Chained (At (Get (Global w i)) (At e End))
      begun w e st so rm ar u d k K l σ s =
          let c = Do (Host row.Concat) (At (Get (Global w i)) (At e End)) in
          let f = form_of [] e in
          let v = global_value i σ in
          let q = last_sorted (context p deepest ks F b M n) (Get (Global w i)) e so in
          let means : E c σ ≡ go_on {A = Holds f} {B = Value} (E e σ) (λ y. call row.Concat (concat_row v (boxed f y))) =
          concat_means (Get (Global w i)) e σ
          ∙ (ap (λ m. joined (read_form w) f m (E e)) (name_got w σ)
          ∙ ap (λ z. go_on {A = Holds f} {B = Value} (E e σ) (λ y. call row.Concat (concat_row z (boxed f y)))) (boxed_got w v)) in
          let from : State → Type 0 = λ τ. Reached p deepest ks F b M (work_of e + 40) σ.turns (at ks [] K (laid b l) F (Text i e d k) (beside_state p deepest ks F τ)) (Appended i u k K l) (Away p deepest ks F b d K) (go_on {A = Holds f} {B = Value} (E e σ) (λ y. call row.Concat (concat_row v (boxed f y)))) in
          subst (λ r. Reached p deepest ks F b M (work_of c) σ.turns (at ks [] K (laid b l) F (Text i e d k) (beside_state p deepest ks F σ)) (Appended i u k K l) (Away p deepest ks F b d K) r) (sym means)
          (within (machine p deepest ks F) M (work_of e + 40) (work_of c) σ.turns _ (Appended i u k K l) (Away p deepest ks F b d K) _ (omega arith)
          (subst from (global_same i σ) (one_ok e (exprs e) st (text_fits (Get (Global w i)) e so) q.1 (omega (arith, rm)) (omega (arith, ar)) v u d k K l σ (subst (Starts p deepest ks F b M n u K l) (sym (global_same i σ)) s))))

      -- another one goes behind the text so far
      further : (es : Codes) (e : Code) → is_still (Global false i) e ≡ true → Chained es → Chained (At (Do (Host row.Concat) es) (At e End))
      further es e st ok so rm ar u d k K l σ s =
          let c0 = Do (Host row.Concat) es in
          let c = Do (Host row.Concat) (At c0 (At e End)) in
          let f = form_of [] e in
          let Q = Away p deepest ks F b d K in
          let P = Appended i u k K l in
          let k1 = Text i e d k in
          let q = last_sorted (context p deepest ks F b M n) c0 e so in
          subst (λ r. Reached p deepest ks F b M (work_of c) σ.turns (at ks [] K (laid b l) F (chain_appended (layout p deepest ks F b M n) i c0 d k1) (beside_state p deepest ks F σ)) P Q r) (sym (concat_means c0 e σ))
          (then_on (machine p deepest ks F) M (work_of c0) (work_of e + 40) (work_of c) σ.turns _ (Appended i u k1 K l) P Q (E c0 σ) _ (omega arith)
          (ok q.0 (omega (arith, rm)) (omega (arith, ar)) u d k1 K l σ s)
          (λ v τ c1 le a.
          let l1 = a.next in
          first (machine p deepest ks F) M 0 (work_of e + 40) (work_of e + 40) τ.turns c1 _ P Q _ (same_goes a.comes) (omega arith)
          (weaker (machine p deepest ks F) M (work_of e + 40) τ.turns _ (Appended i u k K l1) P Q Q _ (λ z υ c2 h. record { next = h.next; comes = h.comes; fit = h.fit; iterators = λ x. h.iterators x ∙ a.iterators x }) (λ why υ c2 h. h)
          (one_ok e (exprs e) st (text_fits c0 e so) q.1 (omega (arith, rm)) (omega (arith, ar)) v u d k K l1 τ (starts_after p deepest ks F b M n u K K l l1 σ (with_global i v τ) s refl le a.iterators a.fit)))))

      mutual
        pub chain_ok : (es : Codes) → is_chain (Global false i) (Do (Host row.Concat) es) ≡ true → Chained es
        chain_ok (At l (At e End)) h =
            let s = and_parts (is_still (Global false i) e) (is_name (Global false i) l || is_chain (Global false i) l) h in
            head_ok l e s.0 s.1
        chain_ok es h = never h

        head_ok : (l e : Code) → is_still (Global false i) e ≡ true → (is_name (Global false i) l || is_chain (Global false i) l) ≡ true → Chained (At l (At e End))
        head_ok (Get (Global w j)) e st h = subst (λ z. Chained (At (Get (Global w z)) (At e End))) (eqb-true i j (or_false (nat_eq i j) h)) (begun w e st)
        head_ok (Do (Host row.Concat) es) e st h = further es e st (chain_ok es h)
        head_ok l e st h = never h

  -- The whole statement.

  stored_by : (i : ℕ) (o : Outcome Value) → go_on {A = Value} {B = Flow} (go_on {A = Value} {B = Value} o (λ v. change (with_global i v) >> give v)) (λ v. give Normal) ≡ go_on {A = Value} {B = Flow} o (λ v τ. Gives Normal (with_global i v τ))
  stored_by i (Gives v τ) = refl
  stored_by i (Stops why τ) = refl

  statement_means : (i : ℕ) (es : Codes) (σ : State) → plain_meant p deepest ks F b M n (Eval (Set (Global false i) (Do (Host row.Concat) es))) σ ≡ go_on {A = Value} {B = Flow} (E (Do (Host row.Concat) es) σ) (λ v τ. Gives Normal (with_global i v τ))
  unfolding evaluated stepped
  statement_means i es σ = stored_by i (E (Do (Host row.Concat) es) σ)

  pub appended_ok : (i : ℕ) (c : Code) → is_chain (Global false i) c ≡ true → ((x : Code) → ExprOk p deepest ks F b M n x) → (lo : Bool) (u d bk ct : ℕ) (k : Instructions) (K : List Label) (l : Locals) (σ : State) →
      sorted (context p deepest ks F b M n) [] (Set (Global false i) c) ≡ true → room c ≤ b.temporaries → arrays_in c ≤ b.arrays → Starts p deepest ks F b M n u K l σ →
      Reached p deepest ks F b M (work_of c) σ.turns (at ks [] K (laid b l) F (chain_appended (layout p deepest ks F b M n) i c d k) (beside_state p deepest ks F σ)) (StepDone p deepest ks F b M n lo u bk ct k K l) (Away p deepest ks F b d K)
      (plain_meant p deepest ks F b M n (Eval (Set (Global false i) c)) σ)
  appended_ok i (Do (Host row.Concat) es) h exprs lo u d bk ct k K l σ so rm ar s =
      let c = Do (Host row.Concat) es in
      let q = chain_sorted (context p deepest ks F b M n) i c so in
      let P = StepDone p deepest ks F b M n lo u bk ct k K l in
      let Q = Away p deepest ks F b d K in
      let r1 = room_one c in
      subst (λ r. Reached p deepest ks F b M (work_of c) σ.turns (at ks [] K (laid b l) F (chain_appended (layout p deepest ks F b M n) i c d k) (beside_state p deepest ks F σ)) P Q r) (sym (statement_means i es σ))
      (then_on (machine p deepest ks F) M (work_of c) 0 (work_of c) σ.turns _ (Appended i u k K l) P Q (E c σ) _ (omega arith)
      (chain_ok i q.0 (omega (arith, rm, r1)) exprs es h q.1 rm ar u d k K l σ s)
      (λ v τ c1 le a.
      there (machine p deepest ks F) M 0 0 c1 c1 Normal (with_global i v τ) P Q stays (omega arith)
      (record { next = a.next; comes = a.comes; starts = starts_after p deepest ks F b M n u K K l a.next σ (with_global i v τ) s refl le a.iterators a.fit; iterators = a.iterators; flows = flows_on lo })))
  appended_ok i c h exprs lo u d bk ct k K l σ so rm ar s = never h
