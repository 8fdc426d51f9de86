-- The simulation of expressions: what emitted code does beside what mid code means. An expression's code comes to the code after it with the answer in its temporary, where the script gives one;
-- where the script stops, the function is left; where turns run out, the machine is at work.
use Rattle.std.proofs.Common.{◌≡◌, ◌∙◌, ℕ, suc, ◌+◌, ◌<◌, ◌≤◌, Bool, true, false, List, [], ◌∷◌, length, arith}
use Rattle.sem_primitives.specs.declared.sorts.Argument.{Argument}
use Rattle.sem_primitives.specs.declared.sorts.Argument.TheVariants as argument
use Rattle.sem_primitives.specs.declared.sorts.Answer.TheVariants as answer
use Rattle.sem_primitives.specs.declared.sorts.Sort.TheVariants as sort
use Rattle.sem_primitives.specs.Constants.{constant_at}
use Rattle.sem_primitives.specs.Sorts.{Row}
use Rattle.std.specs.Prelude.{Some}
use Rattle.wasm_types.specs.Syntax.{Instructions}
use Rattle.mid_program.specs.declared.mid.Arithmetic.{Arithmetic}
use Rattle.mid_program.specs.declared.mid.Arithmetic.TheVariants.{Times}
use Rattle.mid_program.specs.declared.mid.Operation.TheVariants.{Host, Inline, AsNumber, FieldNumber}
use Rattle.mid_program.specs.Mid.{Kind, Program, Form, PrimitiveAnswer, Code, Do, Over, Compare, Call, Ask, AskLine, FileLine, Replace, Number, Text, Unset, Get, Set, Array, IsOpen, Choose, Seq, Let, Bound, Codes, End, At, Fixed, Fresh, form_of, form_at}
use Rattle.mid_program.specs.MidMeaning.{Holds, Env, Values, evaluated, all_evaluated}
use Rattle.sem_scripts.specs.Names.{ArrayName}
use Rattle.sem_scripts.specs.ScriptState.{State, Execution}
use Rattle.mid_program.specs.Sorted.{Held as Standing, Context, context_of, calls_of, sorted, all_sorted, held_after, held_after_all, is_well_used}
use Rattle.lower_model.specs.Cells.{IteratorOf, OwnedArray}
use Rattle.lower_model.specs.Emission.{Layout, array_meant, emitted, all_emitted}
use Rattle.lower_model.specs.Functions.{layout_of}
use Rattle.lower_model.specs.Machine.{Conf, Label, Frame, at, loops_walked}
use Rattle.lower_model.specs.Noted.{noted_called}
use Rattle.lower_model.specs.Places.{Bases, calculated_room, room, rooms, arrays_in, arrays_among}
use Rattle.lower_model.proofs.Observer.{Observer}
use Rattle.lower_model.proofs.Locals.{Locals, laid}
use Rattle.lower_model.proofs.Steps.{empty}
use Rattle.lower_model.proofs.Relation.{HoldsAt, Meant, Kept, Below, Same, Fit, SameOwn, Away}
use Rattle.lower_model.proofs.Answers.{beside_state, Reached}

-- What becomes of operands once they are there.
abbrev pub extra_of : Codes → ℕ
extra_of End = 0
extra_of (At e es) = 30 + extra_of es
extra_of (Fixed m es) = extra_of es
extra_of (Fresh es) = 30 + extra_of es

-- How many steps code takes at most, beside those that turns pay.
abbrev mutual
  pub work_of : Code → ℕ
  work_of (Do o es) = 60 + (works_of es + extra_of es)
  work_of (Over l es) = 60 + (works_of es + extra_of es)
  work_of (Compare c a b) = 80 + (work_of a + work_of b)
  work_of (Call f es) = 60 + (works_of es + extra_of es)
  work_of Ask = 60
  work_of (AskLine s) = 80 + work_of s
  work_of (FileLine e s) = 80 + (work_of e + work_of s)
  work_of (Replace all es s) = 80 + (works_of es + (extra_of es + work_of s))
  work_of (Number z) = 1
  work_of (Text i) = 2
  work_of Unset = 1
  work_of (Get x) = 18
  work_of (Set x e) = 40 + work_of e
  work_of (Array a) = 0
  work_of (IsOpen i) = 3
  work_of (Choose s c a b) = 80 + (work_of c + (work_of a + work_of b))
  work_of (Seq a b) = 20 + (work_of a + work_of b)
  work_of (Let a b) = 20 + (work_of a + work_of b)
  work_of (Bound m i) = 20

  pub works_of : Codes → ℕ
  works_of End = 0
  works_of (At e es) = work_of e + works_of es
  works_of (Fixed m es) = works_of es
  works_of (Fresh es) = 2 + works_of es

-- the temporary behind operands, and the array behind those that are made
abbrev pub past : ℕ → Codes → ℕ
past t End = t
past t (At e es) = past (suc t) es
past t (Fixed m es) = past t es
past t (Fresh es) = past t es

abbrev pub made_past : ℕ → Codes → ℕ
made_past w End = w
made_past w (At e es) = made_past w es
made_past w (Fixed m es) = made_past w es
made_past w (Fresh es) = made_past (suc w) es

pub past_from : (t : ℕ) (es : Codes) → t ≤ past t es
past_from t End = omega arith
past_from t (At e es) = let r = past_from (suc t) es in omega (arith, r)
past_from t (Fixed m es) = past_from t es
past_from t (Fresh es) = past_from t es

pub made_from : (w : ℕ) (es : Codes) → w ≤ made_past w es
made_from w End = omega arith
made_from w (At e es) = made_from w es
made_from w (Fixed m es) = made_from w es
made_from w (Fresh es) = let r = made_from (suc w) es in omega (arith, r)

pub past_room : (t : ℕ) (es : Codes) → past t es ≤ t + rooms es
past_room t End = omega arith
past_room t (At e es) = let r = past_room (suc t) es in omega (arith, r)
past_room t (Fixed m es) = past_room t es
past_room t (Fresh es) = past_room t es

-- an operator has two temporaries
pub operator_room : (o : Arithmetic) → 2 ≤ calculated_room o
operator_room Times = omega arith
operator_room o = omega arith

-- each expression has a temporary of its own
pub room_one : (e : Code) → 1 ≤ room e
room_one (Do (Inline a) es) = let q = operator_room a in omega (arith, q)
room_one (Do (Host q) es) = omega arith
room_one (Do AsNumber es) = omega arith
room_one (Do FieldNumber es) = omega arith
room_one (Over l es) = omega arith
room_one (Compare c a b) = omega arith
room_one (Call f es) = omega arith
room_one Ask = omega arith
room_one (AskLine s) = omega arith
room_one (FileLine e s) = omega arith
room_one (Replace all es s) = omega arith
room_one (Number z) = omega arith
room_one (Text i) = omega arith
room_one Unset = omega arith
room_one (Get x) = omega arith
room_one (Set x e) = room_one e
room_one (Array a) = omega arith
room_one (IsOpen i) = omega arith
room_one (Choose s c a b) = let r = room_one c in omega (arith, r)
room_one (Seq a b) = let r = room_one a in omega (arith, r)
room_one (Let a b) = let r = room_one a in omega (arith, r)
room_one (Bound m i) = omega arith

-- whether no answer is left: an assignment that is evaluated for what it does alone moves its value, and so it is where something comes last, or was kept
abbrev pub gives_away : Code → Bool → Bool
gives_away (Set x e) v = v
gives_away (Seq a c) v = v
gives_away (Let a c) v = v
gives_away (Bound m i) v = v
gives_away e v = false

-- what is kept is no array
abbrev pub NoArray : Form → Type 0
NoArray (PrimitiveAnswer (answer.Of sort.Array)) = ⊥
NoArray f = Unit {0}

abbrev pub StandsAt : Bool → (f : Form) → ℕ → Locals → Holds f → Type 0
StandsAt true f t l x = l.hand t ≡ empty
StandsAt false f t l x = HoldsAt f t l x

pub still_stands : (e : Code) (f : Form) (t : ℕ) (l : Locals) (x : Holds f) → StandsAt (gives_away e false) f t l x → HoldsAt f t l x
still_stands (Set y e) f t l x q = q
still_stands (Seq a c) f t l x q = q
still_stands (Let a c) f t l x q = q
still_stands (Bound m i) f t l x q = q
still_stands _ f t l x q = q

module _ (p : Program) (deepest : Observer) (ks : List Kind) (F : List Frame) (b : Bases) (M n : ℕ) where
  abbrev pub context : Context
  context = context_of p ks

  abbrev pub layout : Layout
  layout = layout_of p b

  pub plain_stands : (f : Form) (x : Holds f) (a : ArrayName) (σ : State) → NoArray f → Meant p deepest ks F f x a σ
  plain_stands (PrimitiveAnswer (answer.Of sort.Array)) x a σ h = absurd h
  plain_stands f x a σ h = tt

  -- what code means, with n more calls inside one another
  abbrev pub meant : (fs : List Form) → Env fs → (e : Code) → Execution (Holds (form_of fs e))
  meant fs env e = evaluated p.texts (calls_of p) n (noted_called deepest.notes p n) fs env e

  abbrev pub all_meant : (fs : List Form) → Env fs → (es : Codes) → Execution (Values fs es)
  all_meant fs env es = all_evaluated p.texts (calls_of p) n (noted_called deepest.notes p n) fs env es

  -- u loops over keys are walked, m among the labels, and each has its iterator
  pub record Walking (m u : ℕ) (l : Locals) : Type 0 where
    pub loops : m ≡ u
    pub few : u ≤ b.iterators
    pub each : (x : ℕ) → x < u → (t : ℕ) × (l.iterator x ≡ IteratorOf t)

  pub walking_same : (m u : ℕ) (l l1 : Locals) → ((x : ℕ) → l1.iterator x ≡ l.iterator x) → Walking m u l → Walking m u l1
  walking_same m u l l1 same w = record { loops = w.loops; few = w.few; each = λ x lt. let q = w.each x lt in (q.0, same x ∙ q.1) }

  -- before code: what is kept, and how it will be used; places enough; turns within the bound; no array is made for a call that is still to come
  pub record Ready (fs : List Form) (env : Env fs) (ts : List ℕ) (st : ℕ → Standing) (t u w m : ℕ) (l : Locals) (σ : State) : Type 0 where
    pub below : Below t ts
    pub kept : Kept fs ts st l env
    pub fit : Fit p deepest ks F t u w l σ
    pub turns : σ.turns ≤ n
    pub parameters : length ks ≡ b.parameters
    pub plain : (i : ℕ) → NoArray (form_at fs i)
    pub walking : Walking m u l
    pub none : w ≡ 0

  abbrev pub WellUsed : List Form → (ℕ → Standing) → Type 0
  WellUsed fs st = (i : ℕ) → i < length fs → is_well_used (st i) ≡ true

  -- after code
  pub record Done (v : Bool) (e : Code) (fs : List Form) (env : Env fs) (ts : List ℕ) (st : ℕ → Standing) (t u w : ℕ) (k : Instructions) (K : List Label) (l : Locals) (σ : State) (x : Holds (form_of fs e)) (σ1 : State) (c : Conf) : Type 0 where
    pub next : Locals
    pub comes : c ≡ at ks [] K (laid b next) F k (beside_state p deepest ks F σ1)
    pub fit : Fit p deepest ks F (suc t) u w next σ1
    pub same : Same ts t w l next
    pub own : SameOwn p deepest ks F σ σ1
    pub kept : Kept fs ts (λ i. held_after i e (st i)) next env
    pub stands : StandsAt (gives_away e v) (form_of fs e) t next x
    pub meant : Meant p deepest ks F (form_of fs e) x (array_meant e) σ1

  -- code does what it means
  abbrev pub ExprOk : Code → Type 0
  ExprOk e = (v : Bool) (fs : List Form) (env : Env fs) (ts : List ℕ) (st : ℕ → Standing) (t u w d : ℕ) (k : Instructions) (K : List Label) (l : Locals) (σ : State) →
      sorted context fs e ≡ true → WellUsed fs (λ i. held_after i e (st i)) → t + room e ≤ b.temporaries → w + arrays_in e ≤ b.arrays → Ready fs env ts st t u w (loops_walked K) l σ →
      Reached p deepest ks F b M (work_of e) σ.turns (at ks [] K (laid b l) F (emitted layout v fs ts e t w d k) (beside_state p deepest ks F σ)) (Done v e fs env ts st t u w k K l σ) (Away p deepest ks F b d K) (meant fs env e σ)

  -- Operands: each in the next temporary; an array that is made for a call is in its local.
  abbrev pub AllHeld : (fs : List Form) → (es : Codes) → (t w : ℕ) → Locals → State → Values fs es → Type 0
  AllHeld fs End t w l σ vs = Unit {0}
  AllHeld fs (At e es) t w l σ vs = HoldsAt (form_of fs e) t l vs.0 × Meant p deepest ks F (form_of fs e) vs.0 (array_meant e) σ × AllHeld fs es (suc t) w l σ vs.1
  AllHeld fs (Fixed m es) t w l σ vs = AllHeld fs es t w l σ vs
  AllHeld fs (Fresh es) t w l σ vs = (l.array w ≡ OwnedArray vs.0) × AllHeld fs es t (suc w) l σ vs.1

  pub record AllDone (es : Codes) (fs : List Form) (env : Env fs) (ts : List ℕ) (st : ℕ → Standing) (t u w : ℕ) (k : Instructions) (K : List Label) (l : Locals) (σ : State) (vs : Values fs es) (σ1 : State) (c : Conf) : Type 0 where
    pub next : Locals
    pub comes : c ≡ at ks [] K (laid b next) F k (beside_state p deepest ks F σ1)
    pub fit : Fit p deepest ks F (past t es) u (made_past w es) next σ1
    pub same : Same ts t w l next
    pub own : SameOwn p deepest ks F σ σ1
    pub kept : Kept fs ts (λ i. held_after_all i es (st i)) next env
    pub held : AllHeld fs es t w next σ1 vs

  abbrev pub CodesOk : Codes → Type 0
  CodesOk es = (fs : List Form) (env : Env fs) (ts : List ℕ) (st : ℕ → Standing) (t u w d : ℕ) (k : Instructions) (K : List Label) (l : Locals) (σ : State) →
      all_sorted context fs es ≡ true → WellUsed fs (λ i. held_after_all i es (st i)) → t + rooms es ≤ b.temporaries → w + arrays_among es ≤ b.arrays → Ready fs env ts st t u w (loops_walked K) l σ →
      Reached p deepest ks F b M (works_of es) σ.turns (at ks [] K (laid b l) F (all_emitted layout fs ts es t w d k) (beside_state p deepest ks F σ)) (AllDone es fs env ts st t u w k K l σ) (Away p deepest ks F b d K) (all_meant fs env es σ)

  -- they stand there as a row of arguments
  abbrev pub RowAt : (wanted : List Argument) → Codes → ℕ → Locals → State → Row wanted → Type 0
  RowAt [] End t l σ r = Unit {0}
  RowAt (argument.Of s ∷ rest) (At e es) t l σ r = HoldsAt (PrimitiveAnswer (answer.Of s)) t l r.0 × Meant p deepest ks F (PrimitiveAnswer (answer.Of s)) r.0 (array_meant e) σ × RowAt rest es (suc t) l σ r.1
  RowAt (argument.Constant c ∷ rest) (Fixed m es) t l σ r = (constant_at c m ≡ Some r.0) × RowAt rest es t l σ r.1
  RowAt wanted es t l σ r = ⊥
