-- How many operands are pending under a call: the value of a call goes to a temporary, and those before it are pending. In mid code, and in the code that is emitted for it.
use Rattle.std.proofs.Common.{◌≡◌, ℕ, zero, suc, ◌+◌, ◌≤◌, Bool, true, false, ◌&&◌, cond, nat_le, nat_lt, List, [], ◌∷◌, length, ap, sym, ◌∙◌, arith}
use Rattle.std.proofs.lemmas.Bool.{and_parts, le-ltb}
use Rattle.wasm_types.specs.Syntax.{Instruction, Plain, BrTable, Block, Loop, If, Instructions, Done, Then}
use Rattle.wasm_types.specs.declared.instr.Simple.{Simple}
use Rattle.wasm_types.specs.declared.instr.Simple.TheVariants.{Call as CallOf}
use Rattle.mid_program.specs.Mid as mid
use Rattle.mid_program.specs.Mid.{Code, Do, Over, Compare, Call, Ask, AskLine, FileLine, Replace, Number, Text, Unset, Get, Set, Array, IsOpen, Choose, Seq, Let, Bound, Codes, End, At, Fixed, Fresh, Step, Eval, Each, Break, Continue, Next, Exit, ExitWith, Return, Mark, Steps, NoStep, Program, Routine}
use Rattle.lower_model.specs.Emission.{function_number}
use Rattle.host_imports.specs.Imports.{import_count}
use Rattle.lower_model.specs.Machine.{Callee, answers_to, freed_next}
use Rattle.agreement.specs.Places.Places.{IsPart, all, further, in_block, in_loop, where_true, where_false}

-- Mid code whose value goes to temporary t: so it is of each call in it, by its temporary, its function and what it is given.
module _ (G : (t f : ℕ) → Codes → Type 0) where
  abbrev mutual
    pub Meets : ℕ → Code → Type 0
    Meets t (Do o es) = AllMeet t es
    Meets t (Over l es) = AllMeet t es
    Meets t (Compare c a b) = Meets t a × Meets (suc t) b
    Meets t (Call f es) = G t f es × AllMeet t es
    Meets t Ask = Unit {0}
    Meets t (AskLine s) = Meets (suc (suc t)) s
    Meets t (FileLine e s) = Meets t e × Meets (suc (suc t)) s
    Meets t (Replace every es s) = AllMeet t es × Meets (suc (suc t)) s
    Meets t (Number z) = Unit {0}
    Meets t (Text i) = Unit {0}
    Meets t Unset = Unit {0}
    Meets t (Get x) = Unit {0}
    Meets t (Set x e) = Meets t e
    Meets t (Array a) = Unit {0}
    Meets t (IsOpen i) = Unit {0}
    Meets t (Choose s c a b) = Meets t c × (Meets t a × Meets t b)
    Meets t (Seq a b) = Meets t a × Meets t b
    Meets t (Let a b) = Meets t a × Meets (suc t) b
    Meets t (Bound z i) = Unit {0}

    pub AllMeet : ℕ → Codes → Type 0
    AllMeet t End = Unit {0}
    AllMeet t (At e es) = Meets t e × AllMeet (suc t) es
    AllMeet t (Fixed n es) = AllMeet t es
    AllMeet t (Fresh es) = AllMeet t es

  abbrev mutual
    pub StepMeets : Step → Type 0
    StepMeets (Eval e) = Meets zero e
    StepMeets (mid.Block ss) = StepsMeet ss
    StepMeets (mid.If e a b) = Meets zero e × (StepMeets a × StepMeets b)
    StepMeets (mid.Loop first e a b) = Meets zero e × (StepMeets a × StepMeets b)
    StepMeets (Each a e s) = Meets 1 e × StepMeets s
    StepMeets Break = Unit {0}
    StepMeets Continue = Unit {0}
    StepMeets Next = Unit {0}
    StepMeets Exit = Unit {0}
    StepMeets (ExitWith e) = Meets zero e
    StepMeets (Return e) = Meets zero e
    StepMeets (Mark i b) = Unit {0}

    pub StepsMeet : Steps → Type 0
    StepsMeet NoStep = Unit {0}
    StepsMeet (mid.Then s ss) = StepMeets s × StepsMeet ss

  -- the parts of `main`
  abbrev pub PartsMeet : Program → Type 0
  PartsMeet p = StepsMeet p.begin × (StepsMeet p.items × StepsMeet p.end)

-- each call stands at a temporary up to the m-th
abbrev pub UpTo : (m t f : ℕ) → Codes → Type 0
UpTo m t f es = t ≤ m

abbrev pub Few : ℕ → ℕ → Code → Type 0
Few m = Meets (UpTo m)

abbrev pub AllFew : ℕ → ℕ → Codes → Type 0
AllFew m = AllMeet (UpTo m)

abbrev pub StepFew : ℕ → Step → Type 0
StepFew m = StepMeets (UpTo m)

abbrev pub StepsFew : ℕ → Steps → Type 0
StepsFew m = StepsMeet (UpTo m)

abbrev pub PartsFew : ℕ → Program → Type 0
PartsFew m = PartsMeet (UpTo m)

-- so in each function of a program, by limits in their order
abbrev pub RoutinesFew : List ℕ → List Routine → Type 0
RoutinesFew [] [] = Unit {0}
RoutinesFew (n ∷ ns) (r ∷ rs) = StepsFew n r.body × RoutinesFew ns rs
RoutinesFew _ _ = ⊥

-- Emitted code: which calls it may have, if that is asked, by the number of the function, the local that the answer goes to, and how many arrays are freed
-- right after it.
pub record Limit : Type 0 where
  pub asked : Bool
  pub allowed : (function answers freed : ℕ) → Bool

-- the local that the value of a call goes to, in a function with so many parameters, has this number at most
abbrev pub last_local : (parameters most : ℕ) → ℕ
last_local parameters most = suc parameters + (most + most)

abbrev pub limit_of : Callee → ℕ → Limit
limit_of f most = record { asked = true; allowed = λ n a z. nat_le a (last_local (length f.kinds) most) }

module _ (l : Limit) where
  abbrev pub simple_fits : Simple → Instructions → Bool
  simple_fits (CallOf n) k = cond (nat_lt n import_count) true (l.allowed n (answers_to k) (freed_next k))
  simple_fits i k = true

  abbrev mutual
    pub calls_fit : Instructions → Bool
    calls_fit Done = true
    calls_fit (Then i k) = call_fits i k && calls_fit k

    pub call_fits : Instruction → Instructions → Bool
    call_fits (Plain i) k = simple_fits i k
    call_fits (BrTable ds d) k = true
    call_fits (Block r a) k = calls_fit a
    call_fits (Loop r a) k = calls_fit a
    call_fits (If r a c) k = calls_fit a && calls_fit c

  -- so in each part
  part_fits : (whole c : Instructions) → IsPart whole c → calls_fit whole ≡ true → calls_fit c ≡ true
  part_fits whole c all e = e
  part_fits whole c (further i k part) e = (and_parts (call_fits i k) (calls_fit k) (part_fits whole (Then i k) part e)).1
  part_fits whole c (in_block r a k part) e = (and_parts (calls_fit a) (calls_fit k) (part_fits whole (Then (Block r a) k) part e)).0
  part_fits whole c (in_loop r a k part) e = (and_parts (calls_fit a) (calls_fit k) (part_fits whole (Then (Loop r a) k) part e)).0
  part_fits whole c (where_true r a b k part) e =
      (and_parts (calls_fit a) (calls_fit b) (and_parts (calls_fit a && calls_fit b) (calls_fit k) (part_fits whole (Then (If r a b) k) part e)).0).0
  part_fits whole c (where_false r a b k part) e =
      (and_parts (calls_fit a) (calls_fit b) (and_parts (calls_fit a && calls_fit b) (calls_fit k) (part_fits whole (Then (If r a b) k) part e)).0).1

  -- A CALL of a function in code is one that it may have
  pub call_within : (whole c : Instructions) (f : ℕ) → IsPart whole (Then (Plain (CallOf (function_number f))) c) → calls_fit whole ≡ true
      → l.allowed (function_number f) (answers_to c) (freed_next c) ≡ true
  call_within whole c f part e =
      let call = CallOf (function_number f) in
      let high : nat_lt (function_number f) import_count ≡ false = le-ltb (function_number f) import_count (omega arith) in
      let fits = (and_parts (simple_fits call c) (calls_fit c) (part_fits whole (Then (Plain call) c) part e)).0 in
      ap (λ b. cond b true (l.allowed (function_number f) (answers_to c) (freed_next c))) (sym high) ∙ fits
