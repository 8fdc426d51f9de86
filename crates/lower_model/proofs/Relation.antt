-- What a function's locals hold beside a script's state: parameters, temporaries in use and free ones, iterators, arrays of calls; what stands in a temporary, by its form;
-- what is kept; how a function is left.
use Rattle.std.proofs.Common.{◌≡◌, ◌≢◌, ◌⊎◌, inl, inr, ℕ, zero, suc, ◌+◌, ◌<◌, ◌≤◌, true, false, List, [], ◌∷◌, length, Option, None, refl, sym, ap, ◌∙◌, arith, subst}
use Rattle.std.specs.Prelude.{get_or}
use Rattle.std.proofs.lemmas.Bool.{cases_eq}
use Rattle.awk_values.specs.declared.value.Value.{Value as AnyValue}
use Rattle.awk_values.specs.declared.value.Value.TheVariants.{Uninit}
use Rattle.sem_primitives.specs.ConstantNumbers.{flag_number}
use Rattle.sem_primitives.specs.Numbers.{number_word}
use Rattle.sem_primitives.specs.SharedState.{Shared}
use Rattle.sem_primitives.specs.declared.constants.NameKind.{NameKind}
use Rattle.sem_primitives.specs.declared.constants.NameKind.TheVariants as name_kind
use Rattle.sem_primitives.specs.declared.sorts.Answer.TheVariants as answer
use Rattle.sem_primitives.specs.declared.sorts.Sort.TheVariants as sort
use Rattle.wasm_store.specs.declared.word.Word.TheVariants.{I32, I64}
use Rattle.mid_program.specs.Mid.{Kind, Boxed, Unboxed, ArrayKind, Program, Declared, Routine, Form, PrimitiveAnswer, NumberOrText, OptionalNumber}
use Rattle.mid_program.specs.MidMeaning.{Holds, Env}
use Rattle.sem_scripts.specs.Names.{ArrayName, Numbered, Given}
use Rattle.sem_scripts.specs.ScriptState.{State, CallFrame, Stop, TooDeep, Nexted, Exited, Returned, Local, Scalar, value_in_local, array_in_local, local_array}
use Rattle.mid_program.specs.Sorted.{Held as Standing, There, Moved, Misused, has_kind, lender_at, are_lenders, calls_of, kinds_of, arrays_among, context_of, is_array_place}
use Rattle.lower_model.specs.Cells.{Cell, Bits, Held, IteratorOf, OwnedArray, LentArray, is_owned}
use Rattle.host_imports.specs.Codes.{input_code, stream_code}
use Rattle.lower_model.specs.Machine.{Conf, Deep, Label, Frame, Store, br, owner_waits}
use Rattle.lower_model.specs.Places.{Bases}
use Rattle.lower_model.proofs.HostLaws.{Few}
use Rattle.lower_model.proofs.Observer.{Observer}
use Rattle.lower_model.proofs.Regions.{upd_other, upd_all}
use Rattle.lower_model.proofs.Locals.{Locals, Hand, Number as NumberAt, Array, with_at, laid}
use Rattle.lower_model.proofs.Steps.{empty, unanswered}
use Rattle.lower_model.proofs.State.{BareIs, BareParameter, LentStays, parameter_stays, parameter_unowned, AnswerIs, perhaps, answering, StoreLeft}

-- A local for a handle has one or -1, so do those for iterators and for arrays of calls.

abbrev pub IsHand : Cell → Type 0
IsHand c = (c ≡ empty) ⊎ ((v : AnyValue) × (c ≡ Held v))

abbrev pub IsWalk : Cell → Type 0
IsWalk c = (c ≡ empty) ⊎ ((t : ℕ) × (c ≡ IteratorOf t))

abbrev pub IsYard : Cell → Type 0
IsYard c = (c ≡ empty) ⊎ ((a : ℕ) × (c ≡ OwnedArray a))

-- What stands in a temporary, by its form.

abbrev pub hand_of : (f : Form) → Holds f → Cell
hand_of (PrimitiveAnswer (answer.Of sort.Value)) x = Held x
hand_of _ x = empty

abbrev pub WordIs : (f : Form) → Holds f → Cell → Type 0
WordIs (PrimitiveAnswer (answer.Of sort.Number)) x c = c ≡ Bits (I64 (number_word x))
WordIs (PrimitiveAnswer answer.Truth) x c = c ≡ Bits (I64 (flag_number x))
WordIs (PrimitiveAnswer answer.Input) x c = c ≡ Bits (I64 (input_code x))
WordIs (PrimitiveAnswer answer.Stream) x c = c ≡ Bits (I64 (stream_code x))
WordIs OptionalNumber x c = c ≡ Bits (I64 (perhaps x))
WordIs f x c = Unit {0}

-- a handle and a word are what there is
abbrev pub HoldsBy : (f : Form) → Holds f → Cell → Cell → Type 0
HoldsBy NumberOrText x c d = (m : ℕ) × (d ≡ Bits (I64 m)) × BareIs x m c
HoldsBy f x c d = (c ≡ hand_of f x) × WordIs f x d

abbrev pub HoldsAt : (f : Form) → ℕ → Locals → Holds f → Type 0
HoldsAt f t l x = HoldsBy f x (l.hand t) (l.number t)

pub holds_same : (f : Form) (t : ℕ) (l l1 : Locals) (x : Holds f) → l1.hand t ≡ l.hand t → l1.number t ≡ l.number t → HoldsAt f t l x → HoldsAt f t l1 x
holds_same f t l l1 x e e1 q = subst (λ c. HoldsBy f x c (l1.number t)) (sym e) (subst (λ d. HoldsBy f x (l.hand t) d) (sym e1) q)

-- the number of an array of this name
abbrev pub array_at : ArrayName → State → ℕ
array_at (Numbered i) σ = i
array_at (Given i) σ = local_array i σ

-- What is kept: in temporaries, the last one first. What was moved away need not be there.

-- a handle may have been moved away, or not; where there is none, none comes
abbrev pub LeftBy : Form → Cell → Type 0
LeftBy (PrimitiveAnswer (answer.Of sort.Value)) c = Unit {0}
LeftBy NumberOrText c = Unit {0}
LeftBy f c = c ≡ empty

pub hand_left : (f : Form) (t : ℕ) (l : Locals) (x : Holds f) → HoldsAt f t l x → LeftBy f (l.hand t)
hand_left (PrimitiveAnswer (answer.Of sort.Value)) t l x q = tt
hand_left NumberOrText t l x q = tt
hand_left _ t l x q = q.0

abbrev pub KeptAs : Standing → (f : Form) → ℕ → Locals → Holds f → Type 0
KeptAs There f t l x = HoldsAt f t l x
KeptAs Moved f t l x = LeftBy f (l.hand t)
KeptAs Misused f t l x = LeftBy f (l.hand t)

abbrev pub Kept : (fs : List Form) → List ℕ → (ℕ → Standing) → Locals → Env fs → Type 0
Kept [] [] st l env = Unit {0}
Kept [] (s ∷ ts) st l env = ⊥
Kept (f ∷ fs) [] st l env = ⊥
Kept (f ∷ fs) (s ∷ ts) st l env = KeptAs (st zero) f s l env.0 × Kept fs ts (λ i. st (suc i)) l env.1

-- each stands below the one before it
abbrev pub Below : ℕ → List ℕ → Type 0
Below t [] = Unit {0}
Below t (s ∷ ts) = (s < t) × Below s ts

abbrev pub Outside : ℕ → List ℕ → Type 0
Outside x [] = Unit {0}
Outside x (s ∷ ts) = (x ≢ s) × Outside x ts

pub outside_below : (t x : ℕ) (ts : List ℕ) → Below t ts → t ≤ x → Outside x ts
outside_below t x [] h le = tt
outside_below t x (s ∷ ts) h le = ((λ e. omega (arith, e, h.0, le)), outside_below s x ts h.1 (omega (arith, h.0, le)))

pub below_more : (t t1 : ℕ) (ts : List ℕ) → t ≤ t1 → Below t ts → Below t1 ts
below_more t t1 [] le h = tt
below_more t t1 (s ∷ ts) le h = (omega (arith, h.0, le), h.1)

-- the locals that code for an expression leaves alone, where those in ts may be moved away
pub record Same (ts : List ℕ) (t w : ℕ) (l l1 : Locals) : Type 0 where
  pub hands : (x : ℕ) → x < t → Outside x ts → l1.hand x ≡ l.hand x
  pub numbers : (x : ℕ) → x < t → l1.number x ≡ l.number x
  pub iterators : (x : ℕ) → l1.iterator x ≡ l.iterator x
  pub arrays : (x : ℕ) → x < w → l1.array x ≡ l.array x

pub same_self : (ts : List ℕ) (t w : ℕ) (l : Locals) → Same ts t w l l
same_self ts t w l = record { hands = λ x h o. refl; numbers = λ x h. refl; iterators = λ x. refl; arrays = λ x h. refl }

pub same_then : (ts : List ℕ) (t t1 w w1 : ℕ) (l l1 l2 : Locals) → t ≤ t1 → w ≤ w1 → Same ts t w l l1 → Same ts t1 w1 l1 l2 → Same ts t w l l2
same_then ts t t1 w w1 l l1 l2 le lw a c = record {
  hands = λ x h o. c.hands x (omega (arith, h, le)) o ∙ a.hands x h o;
  numbers = λ x h. c.numbers x (omega (arith, h, le)) ∙ a.numbers x h;
  iterators = λ x. c.iterators x ∙ a.iterators x;
  arrays = λ x h. c.arrays x (omega (arith, h, lw)) ∙ a.arrays x h;
}

pub same_hand : (ts : List ℕ) (t w x : ℕ) (l : Locals) (c : Cell) → t ≤ x → Same ts t w l (with_at l (Hand x) c)
same_hand ts t w x l c le = record { hands = λ y h o. upd_other l.hand x y c (λ e. omega (arith, e, h, le)); numbers = λ y h. refl; iterators = λ y. refl; arrays = λ y h. refl }

pub same_number : (ts : List ℕ) (t w x : ℕ) (l : Locals) (c : Cell) → t ≤ x → Same ts t w l (with_at l (NumberAt x) c)
same_number ts t w x l c le = record { hands = λ y h o. refl; numbers = λ y h. upd_other l.number x y c (λ e. omega (arith, e, h, le)); iterators = λ y. refl; arrays = λ y h. refl }

-- what is kept is kept while its temporaries are left alone
pub kept_same : (fs : List Form) (ts : List ℕ) (st : ℕ → Standing) (l l1 : Locals) (env : Env fs) (t : ℕ) → Below t ts → ((x : ℕ) → x < t → l1.hand x ≡ l.hand x) → ((x : ℕ) → x < t → l1.number x ≡ l.number x) → Kept fs ts st l env → Kept fs ts st l1 env
kept_same [] [] st l l1 env t bl h n k = tt
kept_same [] (s ∷ ts) st l l1 env t bl h n k = k
kept_same (f ∷ fs) [] st l l1 env t bl h n k = k
kept_same (f ∷ fs) (s ∷ ts) st l l1 env t bl h n k =
    (one (st zero) k.0, kept_same fs ts (λ i. st (suc i)) l l1 env.1 s bl.1 (λ x lt. h x (omega (arith, lt, bl.0))) (λ x lt. n x (omega (arith, lt, bl.0))) k.1)
  where
    one : (m : Standing) → KeptAs m f s l env.0 → KeptAs m f s l1 env.0
    one There q = holds_same f s l l1 env.0 (h s bl.0) (n s bl.0) q
    one Moved q = subst (LeftBy f) (sym (h s bl.0)) q
    one Misused q = subst (LeftBy f) (sym (h s bl.0)) q

-- of a name that is announced: its kind for the command line
abbrev pub kind_told : Kind → NameKind
kind_told Boxed = name_kind.Scalar
kind_told Unboxed = name_kind.Scalar
kind_told ArrayKind = name_kind.ArrayOrFunction

abbrev pub globals_told : List Declared → List (List ℕ × NameKind) → List (List ℕ × NameKind)
globals_told [] rest = rest
globals_told (d ∷ ds) rest = (d.name, kind_told d.kind) ∷ globals_told ds rest

abbrev pub routines_told : List Routine → List (List ℕ × NameKind)
routines_told [] = []
routines_told (r ∷ rs) = (r.name, name_kind.ArrayOrFunction) ∷ routines_told rs

-- no assignment is pending, the names are the program's, and there are as many fields as there may be
pub record Calm (p : Program) (sh : Shared) : Type 0 where
  pub pending : sh.inner.pending ≡ None
  pub names : sh.inner.names ≡ globals_told p.globals (routines_told p.routines)
  pub few : Few sh.inner

abbrev pub left_to : Stop → Conf → Conf → Conf
left_to TooDeep away deep = deep
left_to _ away deep = away

-- In a function with parameters of kinds ks, where F wait.
module _ (p : Program) (deepest : Observer) (ks : List Kind) (F : List Frame) where
  -- an array of the program, or one that a caller owns
  abbrev pub Lives : ℕ → Type 0
  Lives a = (a < suc (suc (arrays_among p.globals))) ⊎ (owner_waits a F ≡ true)

  abbrev pub IsArray : ℕ → Cell → Type 0
  IsArray a c = ((a < 2) × (c ≡ Bits (I32 a))) ⊎ ((c ≡ LentArray a) × Lives a)

  -- an array has no temporary: its name says where it is
  abbrev pub Meant : (f : Form) → Holds f → ArrayName → State → Type 0
  Meant (PrimitiveAnswer (answer.Of sort.Array)) x a σ = (array_at a σ ≡ x) × (is_array_place (context_of p ks) a ≡ true)
  Meant f x a σ = Unit {0}

  -- what a parameter has, by what lends at its place
  abbrev pub ParamIs : Option ℕ → (globals : List AnyValue) → Kind → Local → Cell → Type 0
  ParamIs lender globals Boxed o c = c ≡ Held (value_in_local o)
  ParamIs lender globals Unboxed o c = BareParameter lender globals (value_in_local o) c
  ParamIs lender globals ArrayKind o c = IsArray (array_in_local o) c

  pub param_stays : (lender : Option ℕ) (σ σ1 : State) (k : Kind) (o : Local) (c : Cell) → LentStays lender σ σ1 → ParamIs lender σ.globals k o c → ParamIs lender σ1.globals k o c
  param_stays lender σ σ1 Boxed o c h q = q
  param_stays lender σ σ1 Unboxed o c h q = parameter_stays lender σ σ1 (value_in_local o) c h q
  param_stays lender σ σ1 ArrayKind o c h q = q

  abbrev pub ParamLoose : Kind → Cell → Type 0
  ParamLoose Boxed c = (v : AnyValue) × (c ≡ Held v)
  ParamLoose Unboxed c = is_owned c ≡ false
  ParamLoose ArrayKind c = is_owned c ≡ false

  -- what the exit of a function finds
  pub record Loose (l : Locals) : Type 0 where
    pub params : (i : ℕ) (k : Kind) → has_kind ks i k ≡ true → ParamLoose k (l.param i)
    pub hands : (x : ℕ) → IsHand (l.hand x)
    pub numbers : (x : ℕ) → is_owned (l.number x) ≡ false
    pub walks : (x : ℕ) → IsWalk (l.iterator x)
    pub yards : (x : ℕ) → IsYard (l.array x)

  -- of the state, whatever the locals hold
  pub record Sound (σ : State) : Type 0 where
    pub room : length F + σ.own.calls_left ≡ deepest.callers
    pub names : length σ.globals ≡ length p.globals
    pub calm : Calm p σ.shared
    pub lend : are_lenders (kinds_of p.globals) p.lenders ≡ true

  -- temporaries from t on are free, u iterators and w arrays of calls are in use
  pub record Fit (t u w : ℕ) (l : Locals) (σ : State) : Type 0 where
    pub params : (i : ℕ) (k : Kind) → has_kind ks i k ≡ true → ParamIs (lender_at p.lenders i) σ.globals k (get_or σ.own.locals i (Scalar Uninit)) (l.param i)
    pub size : length σ.own.locals ≡ length ks
    pub answer : l.answer ≡ unanswered
    pub hands : (x : ℕ) → IsHand (l.hand x)
    pub numbers : (x : ℕ) → is_owned (l.number x) ≡ false
    pub free : (x : ℕ) → t ≤ x → l.hand x ≡ empty
    pub walks : (x : ℕ) → IsWalk (l.iterator x)
    pub still : (x : ℕ) → u ≤ x → l.iterator x ≡ empty
    pub yards : (x : ℕ) → IsYard (l.array x)
    pub spare : (x : ℕ) → w ≤ x → l.array x ≡ empty
    pub sound : Sound σ

  array_loose : (a : ℕ) (c : Cell) → IsArray a c → is_owned c ≡ false
  array_loose a c h = elim h [ inl q ↦ ap is_owned q.1 | inr q ↦ ap is_owned q.0 ]

  pub param_loose : (lender : Option ℕ) (gs : List AnyValue) (k : Kind) (o : Local) (c : Cell) → ParamIs lender gs k o c → ParamLoose k c
  param_loose lender gs Boxed o c h = (value_in_local o, h)
  param_loose lender gs Unboxed o c h = parameter_unowned lender gs (value_in_local o) c h
  param_loose lender gs ArrayKind o c h = array_loose (array_in_local o) c h

  pub fit_loose : (t u w : ℕ) (l : Locals) (σ : State) → Fit t u w l σ → Loose l
  fit_loose t u w l σ f = record { params = λ i k h. param_loose (lender_at p.lenders i) σ.globals k (get_or σ.own.locals i (Scalar Uninit)) (l.param i) (f.params i k h); hands = f.hands; numbers = f.numbers; walks = f.walks; yards = f.yards }

  -- Changes.

  pub fit_hand : (x t u w : ℕ) (l : Locals) (σ : State) (c : Cell) → IsHand c → x < t → Fit t u w l σ → Fit t u w (with_at l (Hand x) c) σ
  fit_hand x t u w l σ c h lt f = record {
    params = f.params;
    size = f.size;
    answer = f.answer;
    hands = upd_all (λ y. IsHand) l.hand x c h (λ y ne. f.hands y);
    numbers = f.numbers;
    free = λ y le. upd_other l.hand x y c (λ e. omega (arith, e, lt, le)) ∙ f.free y le;
    walks = f.walks;
    still = f.still;
    yards = f.yards;
    spare = f.spare;
    sound = f.sound;
  }

  pub fit_number : (x t u w : ℕ) (l : Locals) (σ : State) (c : Cell) → is_owned c ≡ false → Fit t u w l σ → Fit t u w (with_at l (NumberAt x) c) σ
  fit_number x t u w l σ c h f = record {
    params = f.params;
    size = f.size;
    answer = f.answer;
    hands = f.hands;
    numbers = upd_all (λ y d. is_owned d ≡ false) l.number x c h (λ y ne. f.numbers y);
    free = f.free;
    walks = f.walks;
    still = f.still;
    yards = f.yards;
    spare = f.spare;
    sound = f.sound;
  }

  pub fit_array : (x t u w : ℕ) (l : Locals) (σ : State) (c : Cell) → IsYard c → x < w → Fit t u w l σ → Fit t u w (with_at l (Array x) c) σ
  fit_array x t u w l σ c h lt f = record {
    params = f.params;
    size = f.size;
    answer = f.answer;
    hands = f.hands;
    numbers = f.numbers;
    free = f.free;
    walks = f.walks;
    still = f.still;
    yards = upd_all (λ y. IsYard) l.array x c h (λ y ne. f.yards y);
    spare = λ y le. upd_other l.array x y c (λ e. omega (arith, e, lt, le)) ∙ f.spare y le;
    sound = f.sound;
  }

  pub fit_more : (t u w : ℕ) (l : Locals) (σ : State) → Fit t u w l σ → Fit (suc t) u w l σ
  fit_more t u w l σ f = record { params = f.params; size = f.size; answer = f.answer; hands = f.hands; numbers = f.numbers; free = λ x h. f.free x (omega (arith, h)); walks = f.walks; still = f.still; yards = f.yards; spare = f.spare; sound = f.sound }

  pub fit_less : (t u w : ℕ) (l : Locals) (σ : State) → l.hand t ≡ empty → Fit (suc t) u w l σ → Fit t u w l σ
  fit_less t u w l σ e f = record {
    params = f.params;
    size = f.size;
    answer = f.answer;
    hands = f.hands;
    numbers = f.numbers;
    free = λ x h. elim (cases_eq x t) [ inl q ↦ ap l.hand q ∙ e | inr ne ↦ f.free x (omega (arith, h, ne)) ];
    walks = f.walks;
    still = f.still;
    yards = f.yards;
    spare = f.spare;
    sound = f.sound;
  }

  -- the host did something
  pub fit_shared : (t u w : ℕ) (l : Locals) (σ : State) (sh : Shared) → Calm p sh → Fit t u w l σ → Fit t u w l (record σ { shared = sh })
  fit_shared t u w l σ sh h f = record {
    params = f.params;
    size = f.size;
    answer = f.answer;
    hands = f.hands;
    numbers = f.numbers;
    free = f.free;
    walks = f.walks;
    still = f.still;
    yards = f.yards;
    spare = f.spare;
    sound = record { room = f.sound.room; names = f.sound.names; calm = h; lend = f.sound.lend };
  }

  pub fit_turns : (t u w : ℕ) (l : Locals) (σ : State) (m : ℕ) → Fit t u w l σ → Fit t u w l (record σ { turns = m })
  fit_turns t u w l σ m f = record {
    params = f.params;
    size = f.size;
    answer = f.answer;
    hands = f.hands;
    numbers = f.numbers;
    free = f.free;
    walks = f.walks;
    still = f.still;
    yards = f.yards;
    spare = f.spare;
    sound = record { room = f.sound.room; names = f.sound.names; calm = f.sound.calm; lend = f.sound.lend };
  }

  -- the globals that lend have what they had
  abbrev pub SameLent : State → State → Type 0
  SameLent σ σ1 = (i : ℕ) → LentStays (lender_at p.lenders i) σ σ1

  -- another state, whose own is the same, in which the globals that lend have what they had
  pub fit_state : (t u w : ℕ) (l : Locals) (σ σ1 : State) → σ1.own ≡ σ.own → SameLent σ σ1 → Sound σ1 → Fit t u w l σ → Fit t u w l σ1
  fit_state t u w l σ σ1 e same s f = record {
    params = λ i k h. param_stays (lender_at p.lenders i) σ σ1 k (get_or σ1.own.locals i (Scalar Uninit)) (l.param i) (same i)
        (subst (λ (o : CallFrame). ParamIs (lender_at p.lenders i) σ.globals k (get_or o.locals i (Scalar Uninit)) (l.param i)) (sym e) (f.params i k h));
    size = ap (λ (o : CallFrame). length o.locals) e ∙ f.size;
    answer = f.answer;
    hands = f.hands;
    numbers = f.numbers;
    free = f.free;
    walks = f.walks;
    still = f.still;
    yards = f.yards;
    spare = f.spare;
    sound = s;
  }

  -- arrays that are parameters stay what they are
  abbrev pub SameOwn : State → State → Type 0
  SameOwn σ σ1 = (i : ℕ) → has_kind ks i ArrayKind ≡ true → local_array i σ1 ≡ local_array i σ

  -- what a stop leaves that a caller, or what comes after a part, goes on with
  abbrev pub StopSound : Stop → State → Type 0
  StopSound Nexted σ = Sound σ
  StopSound Exited σ = Sound σ
  StopSound (Returned v) σ = Sound σ
  StopSound why σ = Unit {0}

  -- where no function is called, `next` and `exit` leave no more than iterators
  abbrev pub HoldsNone : Locals → Type 0
  HoldsNone l = calls_of p ≡ [] → ((x : ℕ) → l.hand x ≡ empty) × ((x : ℕ) → l.array x ≡ empty)

  abbrev pub StopLeaves : Stop → Locals → State → Type 0
  StopLeaves Nexted l σ = Sound σ × HoldsNone l
  StopLeaves Exited l σ = Sound σ × HoldsNone l
  StopLeaves why l σ = StopSound why σ

  pub fit_holds_none : (u : ℕ) (l : Locals) (σ : State) → Fit zero u zero l σ → HoldsNone l
  fit_holds_none u l σ f e = (λ x. f.free x (omega arith), λ x. f.spare x (omega arith))

  module _ (b : Bases) where
    -- a function is left: whatever is held is in locals that its exit looks at
    pub record WasLeft (d : ℕ) (K : List Label) (why : Stop) (σ : State) (c : Conf) : Type 0 where
      pub next : Locals
      pub store : Store
      pub left : StoreLeft p.ranges (kinds_of p.globals) why σ store
      pub comes : c ≡ left_to why (br d ks K (laid b next) F store) (Deep store)
      pub loose : Loose next
      pub answer : next.answer ≡ unanswered
      pub after : StopLeaves why next σ

    -- a function returns: it holds iterators alone, and its exit is one label further out
    pub record Returns (d : ℕ) (K : List Label) (v : AnyValue) (σ : State) (c : Conf) : Type 0 where
      pub next : Locals
      pub word : ℕ
      pub text : Cell
      pub is : AnswerIs v word text
      pub comes : c ≡ br (suc d) ks K (laid b next) F (answering p.ranges (kinds_of p.globals) text σ)
      pub loose : Loose next
      pub hands : (x : ℕ) → next.hand x ≡ empty
      pub arrays : (x : ℕ) → next.array x ≡ empty
      pub answer : next.answer ≡ Bits (I64 word)
      pub after : Sound σ

    abbrev pub Away : (d : ℕ) (K : List Label) (why : Stop) (σ : State) (c : Conf) → Type 0
    Away d K (Returned v) σ c = Returns d K v σ c
    Away d K why σ c = WasLeft d K why σ c

    -- out of a block
    pub away_out : (d : ℕ) (x : Label) (K : List Label) (why : Stop) (σ : State) (c : Conf) → Away (suc d) (x ∷ K) why σ c → Away d K why σ c
    away_out d x K (Returned v) σ c a = record {
      next = a.next;
      word = a.word;
      text = a.text;
      is = a.is;
      comes = a.comes;
      loose = a.loose;
      hands = a.hands;
      arrays = a.arrays;
      answer = a.answer;
      after = a.after;
    }
    away_out d x K why σ c a = record { next = a.next; store = a.store; left = a.left; comes = a.comes; loose = a.loose; answer = a.answer; after = a.after }
