-- All expressions do what they mean, if calls of functions do, and a turn pays for an assignment of the command line.
use Rattle.std.proofs.Common.{◌≡◌, ℕ, zero, suc, ◌+◌, ◌*◌, ◌≤◌, true, List, [], ◌∷◌, length, Option, refl, ap, arith, subst}
use Rattle.std.specs.Prelude.{get_or, map}
use Rattle.awk_values.specs.declared.value.Value.{Value}
use Rattle.awk_values.specs.declared.value.Value.TheVariants.{Uninit}
use Rattle.wasm_types.specs.Syntax.{Instructions}
use Rattle.mid_program.specs.Mid.{Kind, Boxed, Unboxed, ArrayKind, Program, Routine, Code, parameters_at}
use Rattle.mid_program.specs.MidMeaning.{routine_at}
use Rattle.sem_scripts.specs.ScriptState.{State, CallFrame, Local, Scalar, Stop, Faulted, OutOfTurns, TooDeep, Nexted, Exited, Returned, Outcome, Gives, Stops, Execution, go_on, spent}
use Rattle.mid_program.specs.Sorted.{has_kind, lender_at, same_kind, calls_of, kinds_of}
use Rattle.sem_scripts.specs.Statements.{Flow, returned, entered_with}
use Rattle.lower_model.specs.Cells.{Cell, Gone}
use Rattle.lower_model.specs.Functions.{layout_of, routine_bases}
use Rattle.lower_model.specs.Machine.{Notes, Conf, Label, Frame, makes_few}
use Rattle.lower_model.specs.Noted.{noted_called, steps_noted, routine_rest}
use Rattle.lower_model.specs.Places.{Bases}
use Rattle.lower_model.proofs.Observer.{Observer}
use Rattle.lower_model.proofs.Runs.{Reaches, Arrives, within}
use Rattle.lower_model.proofs.Relation.{ParamIs}
use Rattle.lower_model.proofs.Answers.{machine}
use Rattle.lower_model.proofs.Simulation.{ExprOk}
use Rattle.lower_model.proofs.Calling.{GivenTo, CameBack, LeftCall, NoReturn, CallsDo}
use Rattle.lower_model.proofs.Functions as function
use Rattle.lower_model.proofs.Functions.{CallsOk, Back, Lost}
use Rattle.lower_model.proofs.Lending.{Lends, Stays, state_at, then_lends, spend_lends}
use Rattle.lower_model.proofs.Induction.{expr_ok}

-- ---- no `return` comes out of a call

abbrev Ends : Outcome Value → Type 0
Ends (Gives v σ) = Unit {0}
Ends (Stops (Returned v) σ) = ⊥
Ends (Stops why σ) = Unit {0}

returned_ends : (own : CallFrame) (r : Outcome Flow) → Ends (returned own r)
returned_ends own (Gives flow σ) = tt
returned_ends own (Stops (Returned x) σ) = tt
returned_ends own (Stops (Faulted x) σ) = tt
returned_ends own (Stops OutOfTurns σ) = tt
returned_ends own (Stops TooDeep σ) = tt
returned_ends own (Stops Nexted σ) = tt
returned_ends own (Stops Exited σ) = tt

entered_ends : (room : ℕ) (os : List Local) (body : Execution Flow) (σ : State) → Ends (entered_with room os body σ)
entered_ends zero os body σ = tt
entered_ends (suc room) os body σ = returned_ends σ.own (body (record σ { own = record { locals = os; calls_left = room } }))

called_ends : (notes : Notes) (p : Program) (n f : ℕ) (os : List Local) (σ : State) → Ends (noted_called notes p n f os σ)
unfolding noted_called
called_ends notes p zero f os σ = tt
called_ends notes p (suc n) f os σ =
    let r = routine_at p.routines f in
    entered_ends σ.own.calls_left os (steps_noted notes (layout_of p (routine_bases r)) p.texts (calls_of p) n (noted_called notes p n) r.body zero zero zero zero (routine_rest (routine_bases r))) σ

spent_ends : (notes : Notes) (p : Program) (n f : ℕ) (os : List Local) (m : ℕ) (σ : State) → Ends (go_on (spent m σ) (λ x. noted_called notes p n f os))
spent_ends notes p n f os zero σ = tt
spent_ends notes p n f os (suc m) σ = called_ends notes p n f os (record σ { turns = m })

-- ---- kinds and parameters

same_kinds : (j k : Kind) → same_kind j k ≡ true → j ≡ k
same_kinds Boxed Boxed e = refl
same_kinds Boxed Unboxed e = absurd cc
same_kinds Boxed ArrayKind e = absurd cc
same_kinds Unboxed Boxed e = absurd cc
same_kinds Unboxed Unboxed e = refl
same_kinds Unboxed ArrayKind e = absurd cc
same_kinds ArrayKind Boxed e = absurd cc
same_kinds ArrayKind Unboxed e = absurd cc
same_kinds ArrayKind ArrayKind e = refl

parameters_of : (rs : List Routine) (f : ℕ) → parameters_at (map (λ (r : Routine). r.parameters) rs) f ≡ (routine_at rs f).parameters
parameters_of [] f = refl
parameters_of (r ∷ rs) zero = refl
parameters_of (r ∷ rs) (suc f) = parameters_of rs f

module _ (p : Program) (deepest : Observer) where
  module _ (gs : List Value) (kinds : List Kind) (Fs : List Frame) where
    as_many_cells : (lender : ℕ → Option ℕ) (ks : List Kind) (F : List Frame) (b : Bases) (M n : ℕ) (pks : List Kind) (os : List Local) (cs : List Cell) → GivenTo p deepest ks F b M n lender gs kinds Fs pks os cs → length cs ≡ length pks
    as_many_cells lender ks F b M n [] [] [] g = refl
    as_many_cells lender ks F b M n [] [] (c ∷ cs) g = elim g [ ]
    as_many_cells lender ks F b M n [] (o ∷ os) cs g = elim g [ ]
    as_many_cells lender ks F b M n (k ∷ pks) [] cs g = elim g [ ]
    as_many_cells lender ks F b M n (k ∷ pks) (o ∷ os) [] g = elim g [ ]
    as_many_cells lender ks F b M n (k ∷ pks) (o ∷ os) (c ∷ cs) g = ap suc (as_many_cells (λ x. lender (suc x)) ks F b M n pks os cs g.1)

    as_many_locals : (lender : ℕ → Option ℕ) (ks : List Kind) (F : List Frame) (b : Bases) (M n : ℕ) (pks : List Kind) (os : List Local) (cs : List Cell) → GivenTo p deepest ks F b M n lender gs kinds Fs pks os cs → length os ≡ length pks
    as_many_locals lender ks F b M n [] [] [] g = refl
    as_many_locals lender ks F b M n [] [] (c ∷ cs) g = elim g [ ]
    as_many_locals lender ks F b M n [] (o ∷ os) cs g = elim g [ ]
    as_many_locals lender ks F b M n (k ∷ pks) [] cs g = elim g [ ]
    as_many_locals lender ks F b M n (k ∷ pks) (o ∷ os) [] g = elim g [ ]
    as_many_locals lender ks F b M n (k ∷ pks) (o ∷ os) (c ∷ cs) g = ap suc (as_many_locals (λ x. lender (suc x)) ks F b M n pks os cs g.1)

    each_given : (lender : ℕ → Option ℕ) (ks : List Kind) (F : List Frame) (b : Bases) (M n : ℕ) (pks : List Kind) (os : List Local) (cs : List Cell) → GivenTo p deepest ks F b M n lender gs kinds Fs pks os cs → (i : ℕ) (k : Kind) → has_kind pks i k ≡ true →
        ParamIs p deepest kinds Fs (lender i) gs k (get_or os i (Scalar Uninit)) (get_or cs i Gone)
    each_given lender ks F b M n [] os cs g i k e = absurd cc
    each_given lender ks F b M n (j ∷ pks) [] cs g i k e = elim g [ ]
    each_given lender ks F b M n (j ∷ pks) (o ∷ os) [] g i k e = elim g [ ]
    each_given lender ks F b M n (j ∷ pks) (o ∷ os) (c ∷ cs) g zero k e = subst (λ (x : Kind). ParamIs p deepest kinds Fs (lender zero) gs x o c) (same_kinds j k e) g.0
    each_given lender ks F b M n (j ∷ pks) (o ∷ os) (c ∷ cs) g (suc i) k e = each_given (λ x. lender (suc x)) ks F b M n pks os cs g.1 i k e

  module _ (ks : List Kind) (F : List Frame) (b : Bases) (M n : ℕ) where
    given : (js pks : List Kind) (Fs : List Frame) (σ : State) (os : List Local) (cs : List Cell) → pks ≡ js → GivenTo p deepest ks F b M n (lender_at p.lenders) σ.globals pks Fs pks os cs → function.GivenTo p deepest js Fs cs os σ
    given js pks Fs σ os cs e g =
        subst (λ (x : List Kind). function.GivenTo p deepest x Fs cs os σ) e
        (record {
          wide = as_many_cells σ.globals pks Fs (lender_at p.lenders) ks F b M n pks os cs g;
          many = as_many_locals σ.globals pks Fs (lender_at p.lenders) ks F b M n pks os cs g;
          each = each_given σ.globals pks Fs (lender_at p.lenders) ks F b M n pks os cs g;
        })

    lost : (K : List Label) (L : List Cell) (k : Instructions) (why : Stop) → NoReturn p deepest ks F b M n why → (τ : State) (w l : ℕ) (c : Conf) →
        Reaches (machine p deepest ks F) M w l c τ.turns (Lost p deepest (function.waiting ks K L k) F why τ) → Reaches (machine p deepest ks F) M w l c τ.turns (LeftCall p deepest ks F b M n K L k why τ)
    lost K L k why none τ w l c r = record { conf = r.conf; steps = r.steps; goes = r.goes; cost = r.cost; holds = let q = r.holds in record { store = q.store; left = q.left; comes = q.comes; none = none; after = q.after } }

    came_back : (K : List Label) (L : List Cell) (k : Instructions) (σ : State) (w l : ℕ) (c : Conf) (r : Outcome Value) → Ends r → Stays p σ (state_at r) →
        Arrives (machine p deepest ks F) M w l c (Back p deepest (function.waiting ks K L k) F σ.own) (Lost p deepest (function.waiting ks K L k) F) r →
        Arrives (machine p deepest ks F) M w l c (CameBack p deepest ks F b M n K L k σ) (LeftCall p deepest ks F b M n K L k) r
    came_back K L k σ w l c (Gives v τ) e h a =
        record { conf = a.conf; steps = a.steps; goes = a.goes; cost = a.cost; holds = let q = a.holds in record { word = q.word; text = q.text; is = q.is; comes = q.comes; sound = q.sound; own = q.own; lent = h } }
    came_back K L k σ w l c (Stops (Returned v) τ) e h a = absurd e
    came_back K L k σ w l c (Stops OutOfTurns τ) e h a = a
    came_back K L k σ w l c (Stops (Faulted x) τ) e h a = lost K L k (Faulted x) tt τ w l c a
    came_back K L k σ w l c (Stops TooDeep τ) e h a = lost K L k TooDeep tt τ w l c a
    came_back K L k σ w l c (Stops Nexted τ) e h a = lost K L k Nexted tt τ w l c a
    came_back K L k σ w l c (Stops Exited τ) e h a = lost K L k Exited tt τ w l c a

    calls_do : CallsOk p deepest M n → ((f : ℕ) (os : List Local) → Lends p (noted_called deepest.notes p n f os)) → CallsDo p deepest ks F b M n
    calls_do calls lends f own words K L rest σ lt wt mf g s le =
        within (machine p deepest ks F) M 0 20 σ.turns _ (CameBack p deepest ks F b M n K L rest σ) (LeftCall p deepest ks F b M n K L rest) (go_on (spent σ.turns σ) (λ x. noted_called deepest.notes p n f own)) (omega arith)
        (came_back K L rest σ 0 σ.turns _ (go_on (spent σ.turns σ) (λ x. noted_called deepest.notes p n f own)) (spent_ends deepest.notes p n f own σ.turns σ) ((then_lends p (spend_lends p) (λ u. lends f own)).at σ)
        (calls f lt ks F K L rest words own σ wt (subst (λ (x : List Kind). makes_few x L ≡ true) (parameters_of p.routines f) mf) (given (routine_at p.routines f).parameters (parameters_at (calls_of p) f) (function.waiting ks K L rest ∷ F) σ own words (parameters_of p.routines f) g) s le))

pub exprs_do : (p : Program) (M : ℕ) (deepest : Observer) (n : ℕ) → 40 + 4 * length (kinds_of p.globals) ≤ M → CallsOk p deepest M n → ((f : ℕ) (os : List Local) → Lends p (noted_called deepest.notes p n f os)) → (ks : List Kind) (F : List Frame) (b : Bases) (e : Code) → ExprOk p deepest ks F b M n e
exprs_do p M deepest n paid calls lends ks F b e = expr_ok p deepest ks F b M n (record { paid = paid; calls = calls_do p deepest ks F b M n calls lends; lends = lends }) e
