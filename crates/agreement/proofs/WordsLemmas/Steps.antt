-- A step of the machine over values, where its code gives ARGV's number to no row that changes arrays: so it is again, and ARGV's elements are what they were.
use Rattle.std.proofs.Common.{◌≡◌, ◌⊎◌, inl, inr, ℕ, zero, suc, ◌-◌, Bool, true, false, not, ◌&&◌, ◌||◌, cond, nat_eq, nat_lt, ◌+◌, List, [], ◌∷◌, ◌++◌, length, take, drop, reverse, set, slice_get, Option, Some, None, Result, Ok, Err, refl, sym, ap, ◌∙◌, subst, arith}
use Rattle.std.proofs.lemmas.Bool.{and_parts, cases_eq, eqb-true, ltb-false}
use Rattle.std.proofs.lemmas.Option.{slice_get_past}
use Rattle.std.proofs.lemmas.Grind.{reverse_onto}
use Rattle.std.proofs.lemmas.List.{get_or-set_other, length-reverse}
use Rattle.awk_values.specs.declared.fault.Fault.{Fault}
use Rattle.sem_primitives.specs.SharedState.{Pairs}
use Rattle.sem_primitives.specs.declared.constants.NameKind.{NameKind}
use Rattle.sem_primitives.specs.declared.table.Primitive.TheVariants as row
use Rattle.wasm_types.specs.Syntax.{Instruction, Plain, Block, Loop, If, Instructions, Done, Then}
use Rattle.wasm_types.specs.declared.instr.CvtOp.{CvtOp}
use Rattle.wasm_types.specs.declared.instr.CvtOp.TheVariants as convert
use Rattle.wasm_types.specs.declared.instr.IBinOp.{IBinOp}
use Rattle.wasm_types.specs.declared.instr.IRelOp.{IRelOp}
use Rattle.wasm_types.specs.declared.instr.ITestOp.{ITestOp}
use Rattle.wasm_types.specs.declared.instr.Simple.{Simple}
use Rattle.wasm_types.specs.declared.instr.Simple.TheVariants as simple
use Rattle.wasm_types.specs.declared.types.ValType.{ValType}
use Rattle.wasm_types.specs.declared.types.ValType.TheVariants as ty
use Rattle.wasm_store.specs.declared.trap.TrapKind.{TrapKind}
use Rattle.wasm_store.specs.declared.word.Word.{Word}
use Rattle.wasm_store.specs.declared.word.Word.TheVariants.{I32, I64}
use Rattle.wasm_store.specs.Words.{binary_of, converted, given_by, test_of}
use Rattle.mid_program.specs.Mid.{Kind}
use Rattle.lower_model.specs.Cells.{Cell, Bits, Held, LentArray, OwnedArray, IteratorOf, Gone, cell_at, globals_by, has_room, is_owned, left_by, left_in_global, none_owned, read_global}
use Rattle.lower_model.specs.ImportCalls.{Host, call, look}
use Rattle.host_imports.specs.Imports.{import_at, import_count, imports}
use Rattle.lower_model.specs.Machine.{Code, Callee, Conf, Run, Look, Over, Deep, Stuck, Frame, Label, Store, act, all_live, ask, ask_looking, assigning_after, at, br, br_if, call_number, choose, compared, ending_name, enter, guarded, label, leave, leave_function, onto, operated, push_result, push_word, run_looking, set_global, set_local, step, takes_look, tee_local, teed, width, with_answer, with_operands, work, zeros}
use Rattle.host_imports.specs.declared.import.Import.{Import}
use Rattle.host_imports.specs.declared.import.Import.TheVariants.{OfPrimitive}
use Rattle.agreement.proofs.WordsLemmas.Calls.{InHost, Matches, call_fits, drop_match, look_fits, popped_match, taken_other}
use Rattle.agreement.proofs.WordsLemmas.Names.{is_telling, looked_kept, names_kept}
use Rattle.agreement.proofs.WordsLemmas.Tags.{Spares, Tags, all_other, asked, asks_well, called, calls_well, entered, enters_well, first_of, is_long, is_name, is_other, is_set, makes_long, popped, spares}

-- Cells of a list, each of which is another.

abbrev pub AllOther : List Cell → Type 0
AllOther L = (x : ℕ) → is_other (cell_at L x) ≡ true

set_there : (L : List Cell) (x : ℕ) (v : Cell) → is_other v ≡ true → is_other (cell_at (set L x v) x) ≡ true
set_there [] x v o = refl
set_there (c ∷ L) zero v o = o
set_there (c ∷ L) (suc x) v o = set_there L x v o

-- a cell that is set; those that are so (`P`) are others, and then the one that was set
set_others : (P Q : ℕ → Type 0) (L : List Cell) (x : ℕ) (v : Cell) → (P x → is_other v ≡ true) → ((y : ℕ) → P y → (y ≡ x → ⊥) → Q y) → ((y : ℕ) → Q y → is_other (cell_at L y) ≡ true) → (y : ℕ) → P y → is_other (cell_at (set L x v) y) ≡ true
set_others P Q L x v o f all y p = by (cases_eq y x)
  where
    by : (y ≡ x) ⊎ (y ≡ x → ⊥) → is_other (cell_at (set L x v) y) ≡ true
    by (inl e) = subst (λ z. is_other (cell_at (set L x v) z) ≡ true) (sym e) (set_there L x v (o (subst P e p)))
    by (inr ne) = ap is_other (get_or-set_other L x y v Gone ne) ∙ all y (f y p ne)

abbrev Whatever : ℕ → Type 0
Whatever y = Unit {0}

pub all_set : (L : List Cell) (x : ℕ) (v : Cell) → is_other v ≡ true → AllOther L → AllOther (set L x v)
all_set L x v o all y = set_others Whatever Whatever L x v (λ p. o) (λ z p ne. tt) (λ z q. all z) y tt

left_other : (c : Cell) → is_other c ≡ true → is_other (left_by c) ≡ true
left_other (Bits w) o = o
left_other (Held v) o = refl
left_other (IteratorOf t) o = refl
left_other (OwnedArray a) o = refl
left_other (LentArray a) o = o
left_other Gone o = refl

read_other : (c : Cell) → is_other c ≡ true → is_other (read_global c) ≡ true
read_other (Bits w) o = o
read_other (Held v) o = o
read_other (IteratorOf t) o = o
read_other (OwnedArray a) o = o
read_other (LentArray a) o = o
read_other Gone o = o

left_there : (c : Cell) → is_other c ≡ true → is_other (left_in_global c) ≡ true
left_there (Bits w) o = o
left_there (Held v) o = refl
left_there (IteratorOf t) o = refl
left_there (OwnedArray a) o = o
left_there (LentArray a) o = o
left_there Gone o = refl

-- Arguments of a function.

abbrev EachOther : List Cell → Type 0
EachOther [] = Unit {0}
EachOther (c ∷ cs) = (is_other c ≡ true) × EachOther cs

each_append : (vs us : List Cell) → EachOther vs → EachOther us → EachOther (vs ++ us)
each_append [] us a b = b
each_append (v ∷ vs) us a b = (a.0, each_append vs us a.1 b)

each_reverse : (vs : List Cell) → EachOther vs → EachOther (reverse vs)
each_reverse [] a = tt
each_reverse (v ∷ vs) a = subst EachOther (sym (reverse_onto vs v [])) (each_append (reverse vs) (v ∷ []) (each_reverse vs a.1) (a.0, tt))

each_taken : (n : ℕ) (A : Tags) (vs : List Cell) → all_other n A ≡ true → Matches A vs → EachOther (take n vs)
each_taken zero A vs e m = tt
each_taken (suc n) [] vs e m = cc
each_taken (suc n) (a ∷ A) [] e m = absurd m
each_taken (suc n) (a ∷ A) (c ∷ vs) e m = let q = and_parts a (all_other n A) e in (m.0 q.0, each_taken n A vs q.1 m.1)

taken_length : (n : ℕ) (A : Tags) (vs : List Cell) → all_other n A ≡ true → Matches A vs → length (take n vs) ≡ n
taken_length zero A vs e m = refl
taken_length (suc n) [] vs e m = cc
taken_length (suc n) (a ∷ A) [] e m = absurd m
taken_length (suc n) (a ∷ A) (c ∷ vs) e m = ap suc (taken_length n A vs (and_parts a (all_other n A) e).1 m.1)

-- behind the arguments stand cells of which some are others
behind_arguments : (P : ℕ → Type 0) (args zs : List Cell) → EachOther args → ((x y : ℕ) → y ≡ length args + x → P y → is_other (cell_at zs x) ≡ true) → (y : ℕ) → P y → is_other (cell_at (args ++ zs) y) ≡ true
behind_arguments P [] zs a f y p = f y y (omega arith) p
behind_arguments P (c ∷ args) zs a f zero p = a.0
behind_arguments P (c ∷ args) zs a f (suc y) p = behind_arguments (λ z. P (suc z)) args zs a.1 (λ x z e q. f x (suc z) (omega (arith, e)) q) y p

-- Operators on words.

abbrev MatchesIf : Tags → Option (List Cell) → Type 0
MatchesIf A None = Unit {0}
MatchesIf A (Some vs) = Matches A vs

word_pushed : (A : Tags) (vs : List Cell) (o : Option Word) → Matches A vs → MatchesIf (false ∷ A) (push_word vs o)
word_pushed A vs None m = tt
word_pushed A vs (Some w) m = ((λ q. cc), m)

tested : (k : ValType) (op : ITestOp) (A : Tags) (vs : List Cell) → Matches A vs → MatchesIf (false ∷ popped A) (operated (simple.Test k op) vs)
tested k op A [] m = tt
tested k op A (Bits a ∷ vs) m = word_pushed (popped A) vs (test_of k op a) (popped_match A (Bits a) vs m)
tested k op A (Held v ∷ vs) m = tt
tested k op A (IteratorOf t ∷ vs) m = tt
tested k op A (OwnedArray a ∷ vs) m = tt
tested k op A (LentArray a ∷ vs) m = tt
tested k op A (Gone ∷ vs) m = tt

compared_two : (k : ValType) (op : IRelOp) (A : Tags) (vs : List Cell) → Matches A vs → MatchesIf (false ∷ popped (popped A)) (operated (simple.Compare k op) vs)
compared_two k op A [] m = tt
compared_two k op A (b ∷ []) m = tt
compared_two k op A (b ∷ (a ∷ vs)) m = word_pushed (popped (popped A)) vs (compared k op a b) (popped_match (popped A) a vs (popped_match A b (a ∷ vs) m))

abbrev LongIf : Bool → Option (Result Word TrapKind) → Type 0
LongIf l None = Unit {0}
LongIf l (Some (Err k)) = Unit {0}
LongIf l (Some (Ok w)) = l ≡ true → is_other (Bits w) ≡ true

binary_long : (k : ValType) (op : IBinOp) (a b : Word) → LongIf (is_long k) (binary_of k op a b)
binary_long ty.I32 op (I32 a) (I32 b) = by (binary_of ty.I32 op (I32 a) (I32 b))
  where
    by : (o : Option (Result Word TrapKind)) → LongIf false o
    by None = tt
    by (Some (Err k)) = tt
    by (Some (Ok w)) = λ q. cc
binary_long ty.I64 op (I64 a) (I64 b) = by _
  where
    by : (r : Result ℕ TrapKind) → LongIf true (Some (given_by I64 r))
    by (Ok n) = λ q. refl
    by (Err k) = tt
binary_long ty.I32 op (I64 a) b = tt
binary_long ty.I32 op (I32 a) (I64 b) = tt
binary_long ty.I64 op (I32 a) b = tt
binary_long ty.I64 op (I64 a) (I32 b) = tt

result_pushed : (l : Bool) (A : Tags) (vs : List Cell) (o : Option (Result Word TrapKind)) → LongIf l o → Matches A vs → MatchesIf (l ∷ A) (push_result vs o)
result_pushed l A vs None h m = tt
result_pushed l A vs (Some (Err k)) h m = tt
result_pushed l A vs (Some (Ok w)) h m = (h, m)

operated_two : (k : ValType) (op : IBinOp) (A : Tags) (vs : List Cell) → Matches A vs → MatchesIf (is_long k ∷ popped (popped A)) (operated (simple.Binary k op) vs)
operated_two k op A [] m = tt
operated_two k op A (Bits b ∷ (Bits a ∷ vs)) m = result_pushed (is_long k) (popped (popped A)) vs (binary_of k op a b) (binary_long k op a b) (popped_match (popped A) (Bits a) vs (popped_match A (Bits b) (Bits a ∷ vs) m))
operated_two k op A (Bits b ∷ []) m = tt
operated_two k op A (Bits b ∷ (Held v ∷ vs)) m = tt
operated_two k op A (Bits b ∷ (IteratorOf t ∷ vs)) m = tt
operated_two k op A (Bits b ∷ (OwnedArray a ∷ vs)) m = tt
operated_two k op A (Bits b ∷ (LentArray a ∷ vs)) m = tt
operated_two k op A (Bits b ∷ (Gone ∷ vs)) m = tt
operated_two k op A (Held v ∷ vs) m = tt
operated_two k op A (IteratorOf t ∷ vs) m = tt
operated_two k op A (OwnedArray a ∷ vs) m = tt
operated_two k op A (LentArray a ∷ vs) m = tt
operated_two k op A (Gone ∷ vs) m = tt

abbrev WordIf : Bool → Option Word → Type 0
WordIf l None = Unit {0}
WordIf l (Some w) = l ≡ true → is_other (Bits w) ≡ true

converted_long : (op : CvtOp) (w : Word) → WordIf (makes_long op) (converted op w)
converted_long convert.I64ExtendI32S (I32 n) = λ q. refl
converted_long convert.I64ExtendI32S (I64 n) = tt
converted_long convert.I64ExtendI32U (I32 n) = λ q. refl
converted_long convert.I64ExtendI32U (I64 n) = tt
converted_long op w = by (converted op w)
  where
    by : (o : Option Word) → WordIf false o
    by None = tt
    by (Some z) = λ q. cc

converted_pushed : (l : Bool) (A : Tags) (vs : List Cell) (o : Option Word) → WordIf l o → Matches A vs → MatchesIf (l ∷ A) (push_word vs o)
converted_pushed l A vs None h m = tt
converted_pushed l A vs (Some w) h m = (h, m)

converted_one : (op : CvtOp) (A : Tags) (vs : List Cell) → Matches A vs → MatchesIf (makes_long op ∷ popped A) (operated (simple.Convert op) vs)
converted_one op A [] m = tt
converted_one op A (Bits a ∷ vs) m = converted_pushed (makes_long op) (popped A) vs (converted op a) (converted_long op a) (popped_match A (Bits a) vs m)
converted_one op A (Held v ∷ vs) m = tt
converted_one op A (IteratorOf t ∷ vs) m = tt
converted_one op A (OwnedArray a ∷ vs) m = tt
converted_one op A (LentArray a ∷ vs) m = tt
converted_one op A (Gone ∷ vs) m = tt

dropped_one : (A : Tags) (vs : List Cell) → Matches A vs → MatchesIf (popped A) (operated simple.Drop vs)
dropped_one A [] m = tt
dropped_one A (Bits a ∷ vs) m = popped_match A (Bits a) vs m
dropped_one A (Held v ∷ vs) m = tt
dropped_one A (IteratorOf t ∷ vs) m = tt
dropped_one A (OwnedArray a ∷ vs) m = tt
dropped_one A (LentArray a ∷ vs) m = tt
dropped_one A (Gone ∷ vs) m = tt

nothing : (f : Option Fault) (a : Option Cell × Host) → elim f [ None ↦ None | Some x ↦ None ] ≡ Some a → ⊥
nothing None a q = cc
nothing (Some x) a q = cc

-- an import that such code asks announces no name
quiet_so : {tells : Bool} (i : Import) (A : Tags) → tells ≡ false → spares tells i A ≡ true → is_telling i ≡ false
quiet_so (OfPrimitive row.Declare) A t w = sym w ∙ t
quiet_so _ A t w = refl

first_other : (A : Tags) (v : Cell) (vs : List Cell) → Matches A (v ∷ vs) → first_of A ≡ true → is_other v ≡ true
first_other [] v vs m e = cc
first_other (a ∷ A) v vs m e = m.0 e

module _ (tells : Bool) (u : Code) (argv : Pairs) (names : List (List ℕ × NameKind)) (sizes : ℕ → Option ℕ) where
  abbrev pub S : Bool → Instructions → Tags → Type 0
  S e c A = Spares tells u.before sizes e c A

  -- What is so of each place: the code that is left, that under the labels, and that of callers.

  abbrev pub ending : List Label → Bool → Bool
  ending [] e = e
  ending (l ∷ K) e = false

  abbrev AgainSpares : Option Instructions → Type 0
  AgainSpares None = Unit {0}
  AgainSpares (Some body) = S false body []

  abbrev pub LabelsSpare : Bool → List Label → Type 0
  LabelsSpare e [] = Unit {0}
  LabelsSpare e (l ∷ K) = (AgainSpares l.again × S (ending K e) l.rest []) × LabelsSpare e K

  pub record Waits (e : Bool) (f : Frame) : Type 0 where
    pub tags : Tags
    pub under : Matches tags f.under
    pub code : S (ending f.labels e) f.rest (true ∷ tags)
    pub labels : LabelsSpare e f.labels
    pub locals : AllOther f.locals

  -- a function whose caller waits answers nothing that might be ARGV's number
  abbrev pub FramesSpare : Bool → List Frame → Type 0
  FramesSpare e [] = Unit {0}
  FramesSpare e (f ∷ F) = (e ≡ true) × (d : Bool) × Waits d f × FramesSpare d F

  abbrev GlobalsOther : List Cell → Type 0
  GlobalsOther gs = (x : ℕ) → is_name u.before x ≡ true → is_other (cell_at gs x) ≡ true

  -- where code announces no name, the host has these
  abbrev Keeps : Host → Type 0
  Keeps h = InHost argv h × (tells ≡ false → h.shared.inner.names ≡ names)

  abbrev pub InStore : Store → Type 0
  InStore G = GlobalsOther G.globals × Keeps G.host

  -- locals that the code does not set first
  abbrev pub Opens : List Cell → Instructions → Type 0
  Opens L c = (x : ℕ) → is_set c x ≡ false → is_other (cell_at L x) ≡ true

  pub record Works (vs : List Cell) (K : List Label) (L : List Cell) (F : List Frame) (c : Instructions) (G : Store) : Type 0 where
    pub ends : Bool
    pub tags : Tags
    pub stack : Matches tags vs
    pub code : S (ending K ends) c tags
    pub labels : LabelsSpare ends K
    pub locals : Opens L c
    pub frames : FramesSpare ends F
    pub store : InStore G

  -- what is looked at lies on top
  pub record Looks (vs : List Cell) (K : List Label) (L : List Cell) (F : List Frame) (c : Instructions) (G : Store) : Type 0 where
    pub ends : Bool
    pub tags : Tags
    pub stack : Matches tags vs
    pub code : S (ending K ends) c (true ∷ tags)
    pub labels : LabelsSpare ends K
    pub locals : AllOther L
    pub frames : FramesSpare ends F
    pub store : InStore G

  abbrev pub Good : Conf → Type 0
  Good (Run ks vs K L F c G) = Works vs K L F c G
  Good (Look x ks vs K L F c G) = Looks vs K L F c G
  Good (Over v G) = InStore G
  Good (Deep G) = InStore G
  Good Stuck = Unit {0}

  pub at_good : (e : Bool) (A : Tags) (ks : List Kind) (vs : List Cell) (K : List Label) (L : List Cell) (F : List Frame) (c : Instructions) (G : Store) →
      Matches A vs → S (ending K e) c A → LabelsSpare e K → Opens L c → FramesSpare e F → InStore G → Good (at ks vs K L F c G)
  at_good e A ks vs K L F Done G m s k l r g = record { ends = e; tags = A; stack = m; code = s; labels = k; locals = l; frames = r; store = g }
  at_good e A ks vs K L F (Then (Plain (simple.I32Const n)) c) G m s k l r g = at_good e (not (nat_eq n 0) ∷ A) ks (Bits (I32 n) ∷ vs) K L F c G ((λ q. q), m) s k l r g
  at_good e A ks vs K L F (Then (Plain (simple.I64Const n)) c) G m s k l r g = at_good e (true ∷ A) ks (Bits (I64 n) ∷ vs) K L F c G ((λ q. refl), m) s k l r g
  at_good e A ks vs K L F (Then i c) G m s k l r g = record { ends = e; tags = A; stack = m; code = s; labels = k; locals = l; frames = r; store = g }

  guarded_good : (b : Bool) (c : Conf) → Good c → Good (guarded b c)
  guarded_good true c h = h
  guarded_good false c h = tt

  module _ (e : Bool) (ks : List Kind) where
    br_good : (d : ℕ) (K : List Label) (L : List Cell) (F : List Frame) (G : Store) → LabelsSpare e K → AllOther L → FramesSpare e F → InStore G → Good (br d ks K L F G)
    br_good d [] L F G k l r g = tt
    br_good zero (b ∷ K) L F G k l r g = by b.again k.0.0
      where
        by : (a : Option Instructions) → AgainSpares a → Good (elim a [ Some body ↦ at ks [] (b ∷ K) L F body G | None ↦ at ks b.under K L F b.rest G ])
        by (Some body) h = at_good e [] ks [] (b ∷ K) L F body G tt h k (λ x q. l x) r g
        by None h = at_good e [] ks b.under K L F b.rest G tt k.0.1 k.1 (λ x q. l x) r g
    br_good (suc d) (b ∷ K) L F G k l r g = br_good d K L F G k.1 l r g

    br_if_good : (d : ℕ) (A : Tags) (vs : List Cell) (K : List Label) (L : List Cell) (F : List Frame) (c : Instructions) (G : Store) →
        Matches A vs → S (ending K e) c (popped A) → LabelsSpare e K → AllOther L → FramesSpare e F → InStore G → Good (br_if d ks vs K L F c G)
    br_if_good d A (Bits (I32 n) ∷ vs) K L F c G m s k l r g = guarded_good (none_owned vs) _ (by (nat_eq n 0))
      where
        by : (b : Bool) → Good (cond b (at ks vs K L F c G) (br d ks K L F G))
        by true = at_good e (popped A) ks vs K L F c G (popped_match A (Bits (I32 n)) vs m) s k (λ x q. l x) r g
        by false = br_good d K L F G k l r g
    br_if_good d A _ K L F c G m s k l r g = tt

    choose_good : (a b : Instructions) (vs : List Cell) (K : List Label) (L : List Cell) (F : List Frame) (c : Instructions) (G : Store) →
        S false a [] × (S false b [] × S (ending K e) c []) → LabelsSpare e K → AllOther L → FramesSpare e F → InStore G → Good (choose a b ks vs K L F c G)
    choose_good a b (Bits (I32 n) ∷ vs) K L F c G s k l r g = guarded_good (none_owned vs) _ (by (nat_eq n 0))
      where
        by : (z : Bool) → Good (at ks [] (label vs None c ∷ K) L F (cond z b a) G)
        by true = at_good e [] ks [] (label vs None c ∷ K) L F b G tt s.1.0 ((tt, s.1.1), k) (λ x q. l x) r g
        by false = at_good e [] ks [] (label vs None c ∷ K) L F a G tt s.0 ((tt, s.1.1), k) (λ x q. l x) r g
    choose_good a b _ K L F c G s k l r g = tt

    set_local_good : (x : ℕ) (A : Tags) (vs : List Cell) (K : List Label) (L : List Cell) (F : List Frame) (c : Instructions) (G : Store) →
        Matches A vs → S (ending K e) (Then (Plain (simple.LocalSet x)) c) A → LabelsSpare e K → Opens L (Then (Plain (simple.LocalSet x)) c) → FramesSpare e F → InStore G → Good (set_local x ks vs K L F c G)
    set_local_good x A [] K L F c G m s k l r g = tt
    set_local_good x [] (v ∷ vs) K L F c G m s k l r g = absurd s
    set_local_good x (false ∷ A) (v ∷ vs) K L F c G m s k l r g = absurd s
    set_local_good x (true ∷ A) (v ∷ vs) K L F c G m s k l r g =
        guarded_good (has_room L x) _ (at_good e A ks vs K (set L x v) F c G m.1 s k
        (set_others (λ y. is_set c y ≡ false) (λ y. (nat_eq y x || is_set c y) ≡ false) L x v (λ p. m.0 refl) apart l) r g)
      where
        apart : (y : ℕ) → is_set c y ≡ false → (y ≡ x → ⊥) → (nat_eq y x || is_set c y) ≡ false
        apart y p ne = by (nat_eq y x) refl
          where
            by : (b : Bool) → nat_eq y x ≡ b → (b || is_set c y) ≡ false
            by true q = absurd (ne (eqb-true y x q))
            by false q = p

    teed_good : (v : Cell) (x : ℕ) (A : Tags) (vs : List Cell) (K : List Label) (L : List Cell) (F : List Frame) (c : Instructions) (G : Store) →
        is_other v ≡ true → Matches A vs → S (ending K e) c (true ∷ A) → LabelsSpare e K → AllOther L → FramesSpare e F → InStore G → Good (teed v x ks vs K L F c G)
    teed_good (Bits w) x A vs K L F c G o m s k l r g = at_good e (true ∷ A) ks (Bits w ∷ vs) K L F c G ((λ q. o), m) s k (λ x q. l x) r g
    teed_good (LentArray a) x A vs K L F c G o m s k l r g = at_good e (true ∷ A) ks (LentArray a ∷ vs) K L F c G ((λ q. o), m) s k (λ x q. l x) r g
    teed_good (OwnedArray a) x A vs K L F c G o m s k l r g = at_good e (true ∷ A) ks (LentArray a ∷ vs) K L F c G ((λ q. o), m) s k (λ x q. l x) r g
    teed_good (Held v) x A vs K L F c G o m s k l r g = guarded_good (takes_look c) _ (record { ends = e; tags = A; stack = m; code = s; labels = k; locals = l; frames = r; store = g })
    teed_good (IteratorOf t) x A vs K L F c G o m s k l r g = guarded_good (takes_look c) _ (record { ends = e; tags = A; stack = m; code = s; labels = k; locals = l; frames = r; store = g })
    teed_good Gone x A vs K L F c G o m s k l r g = tt

    tee_local_good : (x : ℕ) (A : Tags) (vs : List Cell) (K : List Label) (L : List Cell) (F : List Frame) (c : Instructions) (G : Store) →
        Matches A vs → S (ending K e) (Then (Plain (simple.LocalTee x)) c) A → LabelsSpare e K → AllOther L → FramesSpare e F → InStore G → Good (tee_local x ks vs K L F c G)
    tee_local_good x A [] K L F c G m s k l r g = tt
    tee_local_good x [] (v ∷ vs) K L F c G m s k l r g = absurd s
    tee_local_good x (false ∷ A) (v ∷ vs) K L F c G m s k l r g = absurd s
    tee_local_good x (true ∷ A) (v ∷ vs) K L F c G m s k l r g = guarded_good _ _ (teed_good v x A vs K (set L x v) F c G (m.0 refl) m.1 s k (all_set L x v (m.0 refl) l) r g)

    set_global_good : (x : ℕ) (A : Tags) (vs : List Cell) (K : List Label) (L : List Cell) (F : List Frame) (c : Instructions) (G : Store) →
        Matches A vs → (first_of A || not (is_name u.before x)) ≡ true → S (ending K e) c (popped A) → LabelsSpare e K → AllOther L → FramesSpare e F → InStore G → Good (set_global u x ks vs K L F c G)
    set_global_good x A [] K L F c G m f s k l r g = tt
    set_global_good x A (v ∷ vs) K L F c G m f s k l r g =
        guarded_good _ _ (at_good e (popped A) ks vs K L F c _ (popped_match A v vs m) s k (λ x q. l x) r
        (set_others (λ y. is_name u.before y ≡ true) (λ y. is_name u.before y ≡ true) G.globals x v (λ p. first_other A v vs m (tagged (first_of A) (is_name u.before x) p f)) (λ y p ne. p) g.0, g.1))
      where
        tagged : (a b : Bool) → b ≡ true → (a || not b) ≡ true → a ≡ true
        tagged true b p h = refl
        tagged false true p h = cc
        tagged false false p h = cc

    answer_good : (B : Tags) (o : Option (Option Cell × Host)) (vs : List Cell) (K : List Label) (L : List Cell) (F : List Frame) (c : Instructions) (G : Store) →
        ((a : Option Cell × Host) → o ≡ Some a → Matches B (onto a.0 vs) × Keeps a.1) → S (ending K e) c B → LabelsSpare e K → AllOther L → FramesSpare e F → InStore G → Good (with_answer o ks vs K L F c G)
    answer_good B None vs K L F c G f s k l r g = tt
    answer_good B (Some a) vs K L F c G f s k l r g = let h = f a refl in at_good e B ks (onto a.0 vs) K L F c (record G { host = a.1 }) h.0 s k (λ x q. l x) r (g.0, h.1)

    ask_good : (i : Option Import) (A : Tags) (vs : List Cell) (K : List Label) (L : List Cell) (F : List Frame) (c : Instructions) (G : Store) →
        Matches A vs → asks_well tells i A ≡ true → S (ending K e) c (asked i A) → LabelsSpare e K → AllOther L → FramesSpare e F → InStore G → Good (ask u.memory i ks vs K L F c G)
    ask_good None A vs K L F c G m w s k l r g = tt
    ask_good (Some i) A vs K L F c G m w s k l r g =
        let given = reverse (take (width i) vs) in
        let named = record G { assigning = assigning_after i G } in
        guarded_good (all_live L F G.globals given) _ (answer_good (asked (Some i) A) (call u.memory i given G.host) (drop (width i) vs) K L F c named
        (λ a q. let h = call_fits argv G.host g.1.0 (drop (width i) A) (drop (width i) vs) (drop_match (width i) A vs m) u.memory i given a (taken_other tells argv u.memory i A vs m w) q in
        (h.stack, (h.kept, λ t. names_kept G.host u.memory i given a q (quiet_so i A t w) ∙ g.1.1 t))) s k l r g)

    -- only what looks is asked so, and it takes one cell
    looking_good : (i : Option Import) (v : Cell) (A : Tags) (vs : List Cell) (K : List Label) (L : List Cell) (F : List Frame) (c : Instructions) (G : Store) →
        Matches A vs → S (ending K e) c (asked i (true ∷ A)) → LabelsSpare e K → AllOther L → FramesSpare e F → InStore G → Good (ask_looking i v ks vs K L F c G)
    looking_good None v A vs K L F c G m s k l r g = tt
    looking_good (Some (OfPrimitive row.Dup)) v A vs K L F c G m s k l r g =
        answer_good (true ∷ A) (look (OfPrimitive row.Dup) v G.host) vs K L F c G (λ a q. let h = look_fits argv G.host g.1.0 A vs m (OfPrimitive row.Dup) v a q in (h.stack, (h.kept, λ t. looked_kept G.host (OfPrimitive row.Dup) v a q refl ∙ g.1.1 t))) s k l r g
    looking_good (Some (OfPrimitive row.IterNext)) v A vs K L F c G m s k l r g =
        answer_good (true ∷ A) (look (OfPrimitive row.IterNext) v G.host) vs K L F c G (λ a q. let h = look_fits argv G.host g.1.0 A vs m (OfPrimitive row.IterNext) v a q in (h.stack, (h.kept, λ t. looked_kept G.host (OfPrimitive row.IterNext) v a q refl ∙ g.1.1 t))) s k l r g
    looking_good (Some (OfPrimitive p)) v A vs K L F c G m s k l r g = answer_good (asked (Some (OfPrimitive p)) (true ∷ A)) (look (OfPrimitive p) v G.host) vs K L F c G (λ a q. absurd (nothing G.host.fault a q)) s k l r g
    looking_good (Some i) v A vs K L F c G m s k l r g = answer_good (asked (Some i) (true ∷ A)) (look i v G.host) vs K L F c G (λ a q. absurd (nothing G.host.fault a q)) s k l r g

    enter_good : (n : Option ℕ) (f : Option Callee) → ((h : Callee) → f ≡ Some h → (n ≡ Some (length h.kinds)) × (S true h.body [] × ((x : ℕ) → is_set h.body (length h.kinds + x) ≡ false → is_other (cell_at (zeros h.locals) x) ≡ true))) →
        (A : Tags) (vs : List Cell) (K : List Label) (L : List Cell) (F : List Frame) (c : Instructions) (G : Store) →
        Matches A vs → enters_well n A ≡ true → S (ending K e) c (entered n A) → LabelsSpare e K → AllOther L → FramesSpare e F → InStore G → Good (enter u.deepest f ks vs K L F c G)
    enter_good n None is A vs K L F c G m w s k l r g = tt
    enter_good n (Some f) is A vs K L F c G m w s k l r g = guarded_good _ _ (by (nat_lt (length F) u.deepest))
      where
        j : ℕ
        j = length f.kinds

        well : all_other j A ≡ true
        well = subst (λ o. enters_well o A ≡ true) (is f refl).0 w

        args : List Cell
        args = reverse (take j vs)

        long : length args ≡ j
        long = length-reverse (take j vs) ∙ taken_length j A vs well m

        waiting : Frame
        waiting = record { kinds = ks; under = drop j vs; labels = K; locals = L; rest = c }

        by : (b : Bool) → Good (cond b (at f.kinds [] [] (args ++ zeros f.locals) (waiting ∷ F) f.body G) (Deep G))
        by true =
            at_good true [] f.kinds [] [] (args ++ zeros f.locals) (waiting ∷ F) f.body G tt (is f refl).1.0 tt
            (behind_arguments (λ y. is_set f.body y ≡ false) args (zeros f.locals) (each_reverse (take j vs) (each_taken j A vs well m)) (λ x z q p. (is f refl).1.1 x (subst (λ v. is_set f.body v ≡ false) (q ∙ ap (λ v. v + x) long) p)))
            (refl, e, record { tags = drop j A; under = drop_match j A vs m; code = subst (λ o. S (ending K e) c (entered o A)) (is f refl).0 s; labels = k; locals = l }, r) g
        by false = g

    leave_function_good : (A : Tags) (v : Cell) (vs : List Cell) (F : List Frame) (G : Store) → Matches A (v ∷ vs) → S e Done A → FramesSpare e F → InStore G → Good (leave_function u v F G)
    leave_function_good A v vs [] G m s r g = guarded_good (not (is_owned v) && globals_by (ending_name G.host.fault) u.before u.names G.globals) (Over v G) g
    leave_function_good A v vs (f ∷ F) G m s r g =
        at_good r.1 (true ∷ r.2.tags) f.kinds (v ∷ f.under) f.labels f.locals F f.rest G
        ((λ q. first_other A v vs m (subst (λ z. S z Done A) r.0 s)), r.2.under) r.2.code r.2.labels (λ x q. r.2.locals x) r.3 g

    leave_good : (A : Tags) (vs : List Cell) (K : List Label) (L : List Cell) (F : List Frame) (G : Store) → Matches A vs → S (ending K e) Done A → LabelsSpare e K → AllOther L → FramesSpare e F → InStore G → Good (leave u ks vs K L F G)
    leave_good A vs (b ∷ K) L F G m s k l r g = guarded_good _ _ (at_good e [] ks (vs ++ b.under) K L F b.rest G tt k.0.1 k.1 (λ x q. l x) r g)
    leave_good A [] [] L F G m s k l r g = tt
    leave_good A (v ∷ vs) [] L F G m s k l r g = guarded_good _ _ (leave_function_good A v vs F G m s r g)

    operands_good : (B : Tags) (o : Option (List Cell)) (K : List Label) (L : List Cell) (F : List Frame) (c : Instructions) (G : Store) → MatchesIf B o → S (ending K e) c B → LabelsSpare e K → AllOther L → FramesSpare e F → InStore G → Good (with_operands o ks K L F c G)
    operands_good B None K L F c G m s k l r g = tt
    operands_good B (Some vs) K L F c G m s k l r g = at_good e B ks vs K L F c G m s k (λ x q. l x) r g

  -- a function of the module, from its beginning on
  abbrev pub BodySpares : Callee → Type 0
  BodySpares f = S true f.body [] × ((x : ℕ) → is_set f.body (length f.kinds + x) ≡ false → is_other (cell_at (zeros f.locals) x) ≡ true)

  module _ (bodies : (k : ℕ) (f : Callee) → slice_get u.callees k ≡ Some f → (sizes k ≡ Some (length f.kinds)) × BodySpares f) where
    call_good : (e : Bool) (n : ℕ) (A : Tags) (ks : List Kind) (vs : List Cell) (K : List Label) (L : List Cell) (F : List Frame) (c : Instructions) (G : Store) →
        Matches A vs → calls_well tells u.before sizes n A ≡ true → S (ending K e) c (called tells u.before sizes n A) → LabelsSpare e K → AllOther L → FramesSpare e F → InStore G → Good (call_number u n ks vs K L F c G)
    call_good e n A ks vs K L F c G m w s k l r g = by (nat_lt n import_count) w s
      where
        by : (b : Bool) → cond b (asks_well tells (import_at n) A) (enters_well (sizes (n - import_count)) A) ≡ true → S (ending K e) c (cond b (asked (import_at n) A) (entered (sizes (n - import_count)) A)) →
            Good (cond b (ask u.memory (import_at n) ks vs K L F c G) (enter u.deepest (slice_get u.callees (n - import_count)) ks vs K L F c G))
        by true w s = ask_good e ks (import_at n) A vs K L F c G m w s k l r g
        by false w s = enter_good e ks (sizes (n - import_count)) (slice_get u.callees (n - import_count)) (bodies (n - import_count)) A vs K L F c G m w s k l r g

    act_good : (e : Bool) (i : Simple) (A : Tags) (ks : List Kind) (vs : List Cell) (K : List Label) (L : List Cell) (F : List Frame) (c : Instructions) (G : Store) →
        Matches A vs → S (ending K e) (Then (Plain i) c) A → LabelsSpare e K → Opens L (Then (Plain i) c) → FramesSpare e F → InStore G → Good (act u i ks vs K L F c G)
    act_good e simple.Nop A ks vs K L F c G m s k l r g = guarded_good _ _ (at_good e A ks vs K L F c _ m s k (λ x q. l x refl) r g)
    act_good e (simple.LocalGet x) A ks vs K L F c G m s k l r g =
        guarded_good _ _ (at_good e (true ∷ A) ks (cell_at L x ∷ vs) K (set L x (left_by (cell_at L x))) F c G ((λ q. l x refl), m) s k (λ y q. all_set L x (left_by (cell_at L x)) (left_other (cell_at L x) (l x refl)) (λ z. l z refl) y) r g)
    act_good e (simple.LocalSet x) A ks vs K L F c G m s k l r g = set_local_good e ks x A vs K L F c G m s k l r g
    act_good e (simple.LocalTee x) A ks vs K L F c G m s k l r g = tee_local_good e ks x A vs K L F c G m s k (λ z. l z refl) r g
    act_good e (simple.GlobalGet x) A ks vs K L F c G m s k l r g =
        at_good e (s.0 ∷ A) ks (read_global (cell_at G.globals x) ∷ vs) K L F c _ ((λ q. read_other (cell_at G.globals x) (g.0 x (s.1 q))), m) s.2 k (λ z q. l z refl) r
        (set_others (λ y. is_name u.before y ≡ true) (λ y. is_name u.before y ≡ true) G.globals x (left_in_global (cell_at G.globals x)) (λ q. left_there (cell_at G.globals x) (g.0 x q)) (λ y p ne. p) g.0, g.1)
    act_good e (simple.GlobalSet x) A ks vs K L F c G m s k l r g = set_global_good e ks x A vs K L F c G m s.0 s.1 k (λ z. l z refl) r g
    act_good e (simple.Br d) A ks vs K L F c G m s k l r g = guarded_good _ _ (br_good e ks d K L F G k (λ z. l z refl) r g)
    act_good e (simple.BrIf d) A ks vs K L F c G m s k l r g = br_if_good e ks d A vs K L F c G m s k (λ z. l z refl) r g
    act_good e (simple.Call n) A ks vs K L F c G m s k l r g = call_good e n A ks vs K L F c G m s.0 s.1 k (λ z. l z refl) r g
    act_good e (simple.Test j op) A ks vs K L F c G m s k l r g = operands_good e ks (false ∷ popped A) (operated (simple.Test j op) vs) K L F c G (tested j op A vs m) s k (λ z. l z refl) r g
    act_good e (simple.Compare j op) A ks vs K L F c G m s k l r g = operands_good e ks (false ∷ popped (popped A)) (operated (simple.Compare j op) vs) K L F c G (compared_two j op A vs m) s k (λ z. l z refl) r g
    act_good e (simple.Binary j op) A ks vs K L F c G m s k l r g = operands_good e ks (is_long j ∷ popped (popped A)) (operated (simple.Binary j op) vs) K L F c G (operated_two j op A vs m) s k (λ z. l z refl) r g
    act_good e (simple.Convert op) A ks vs K L F c G m s k l r g = operands_good e ks (makes_long op ∷ popped A) (operated (simple.Convert op) vs) K L F c G (converted_one op A vs m) s k (λ z. l z refl) r g
    act_good e simple.Drop A ks vs K L F c G m s k l r g = operands_good e ks (popped A) (operated simple.Drop vs) K L F c G (dropped_one A vs m) s k (λ z. l z refl) r g
    act_good e (simple.I32Const n) A ks vs K L F c G m s k l r g = tt
    act_good e (simple.I64Const n) A ks vs K L F c G m s k l r g = tt
    act_good e i A ks vs K L F c G m s k l r g = tt

    work_good : (e : Bool) (i : Instruction) (A : Tags) (ks : List Kind) (vs : List Cell) (K : List Label) (L : List Cell) (F : List Frame) (c : Instructions) (G : Store) →
        Matches A vs → S (ending K e) (Then i c) A → LabelsSpare e K → Opens L (Then i c) → FramesSpare e F → InStore G → Good (work u i ks vs K L F c G)
    work_good e (Plain i) A ks vs K L F c G m s k l r g = act_good e i A ks vs K L F c G m s k l r g
    work_good e (Block None b) A ks vs K L F c G m s k l r g = guarded_good _ _ (at_good e [] ks [] (label vs None c ∷ K) L F b G tt s.0 ((tt, s.1), k) (λ x q. l x refl) r g)
    work_good e (Loop None b) A ks vs K L F c G m s k l r g = guarded_good _ _ (at_good e [] ks [] (label vs (Some b) c ∷ K) L F b G tt s.0 ((s.0, s.1), k) (λ x q. l x refl) r g)
    work_good e (If None a b) A ks vs K L F c G m s k l r g = choose_good e ks a b vs K L F c G s k (λ x. l x refl) r g
    work_good e _ A ks vs K L F c G m s k l r g = tt

    step_looking : (x : ℕ) (ks : List Kind) (vs : List Cell) (K : List Label) (L : List Cell) (F : List Frame) (c : Instructions) (G : Store) → Looks vs K L F c G → Good (run_looking u x ks vs K L F c G)
    step_looking x ks vs K L F (Then (Plain (simple.I32Const n)) (Then (Plain (simple.Compare ty.I32 op)) c)) G h =
        operands_good h.ends ks (false ∷ h.tags) _ K L F c G (word_pushed h.tags vs _ h.stack) h.code h.labels h.locals h.frames h.store
    step_looking x ks vs K L F (Then (Plain (simple.Call n)) c) G h = by (nat_lt n import_count) refl h.code.1
      where
        by : (b : Bool) → nat_lt n import_count ≡ b → S (ending K h.ends) c (cond b (asked (import_at n) (true ∷ h.tags)) (entered (sizes (n - import_count)) (true ∷ h.tags))) → Good (ask_looking (import_at n) (cell_at L x) ks vs K L F c G)
        by true q s = looking_good h.ends ks (import_at n) (cell_at L x) h.tags vs K L F c G h.stack s h.labels h.locals h.frames h.store
        by false q s = subst (λ o. Good (ask_looking o (cell_at L x) ks vs K L F c G)) (sym (slice_get_past imports n (ltb-false n import_count q))) tt
    step_looking x ks vs K L F c G h = tt

    -- ONE STEP
    pub step_good : (c : Conf) → Good c → Good (step u c)
    step_good (Run ks vs K L F Done G) h = leave_good h.ends ks h.tags vs K L F G h.stack h.code h.labels (λ x. h.locals x refl) h.frames h.store
    step_good (Run ks vs K L F (Then i c) G) h = work_good h.ends i h.tags ks vs K L F c G h.stack h.code h.labels h.locals h.frames h.store
    step_good (Look x ks vs K L F c G) h = step_looking x ks vs K L F c G h
    step_good (Over v G) h = h
    step_good (Deep G) h = h
    step_good Stuck h = tt
