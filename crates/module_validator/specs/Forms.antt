-- What the algorithm knows of a stack of types: its topmost entries, each a type or any, and whether anything may lie below them.
use Rattle.std.specs.Prelude.{◌≡◌, ◌↔◌, List, [], ◌∷◌, ◌++◌, Option, Some, None, Bool, true, false, IsSomeAnd, Result, ⊤, MatchResult}
use Rattle.wasm_types.specs.declared.types.ValType.{ValType}
use Rattle.wasm_types.specs.declared.types.ValType.TheVariants.{I32, I64}
use Rattle.module_validator.specs.declared.stack.Refusal.{Refusal}
use Rattle.module_validator.specs.declared.stack.Refusal.TheVariants.{Untyped, NoMemory}
use Rattle.wasm_types.specs.Typing.{Effect, Fixed, Leaves, Drops, Selects, Types}

-- topmost entry first (None: any type); true: code that is not reached, anything may lie below
abbrev pub Form : Type 0
Form = List (Option ValType) × Bool

abbrev pub Matches : Option ValType → ValType → Type 0
Matches None k = Unit {0}
Matches (Some j) k = k ≡ j

abbrev pub Below : Bool → List ValType → Type 0
Below true ks = Unit {0}
Below false ks = ks ≡ []

-- a stack that the algorithm's knowledge allows
abbrev pub FitsBoth : List (Option ValType) → Bool → List ValType → Type 0
FitsBoth [] o ks = Below o ks
FitsBoth (e ∷ es) o [] = ⊥
FitsBoth (e ∷ es) o (k ∷ ks) = Matches e k × FitsBoth es o ks

abbrev pub Fits : Form → List ValType → Type 0
Fits s ks = FitsBoth s.0 s.1 ks

abbrev pub next : {A B : Type 0} → Option A → (A → Option B) → Option B
next None f = None
next (Some x) f = f x

abbrev pub given : {A B : Type 0} → Option A → (A → B) → Option B
given None f = None
given (Some x) f = Some (f x)

abbrev pub same_kind : ValType → ValType → Bool
same_kind I32 I32 = true
same_kind I32 I64 = false
same_kind I64 I32 = false
same_kind I64 I64 = true

abbrev pub if_same : Bool → Form → Option Form
if_same true s = Some s
if_same false s = None

abbrev pub pop_both : ValType → List (Option ValType) → Bool → Option Form
pop_both k [] true = Some ([], true)
pop_both k [] false = None
pop_both k (None ∷ es) o = Some (es, o)
pop_both k (Some j ∷ es) o = if_same (same_kind j k) (es, o)

-- takes an operand of this type
abbrev pub pop : ValType → Form → Option Form
pop k s = pop_both k s.0 s.1

abbrev pub any_both : List (Option ValType) → Bool → Option (Option ValType × Form)
any_both [] true = Some (None, ([], true))
any_both [] false = None
any_both (e ∷ es) o = Some (e, (es, o))

-- takes an operand of any type
abbrev pub pop_any : Form → Option (Option ValType × Form)
pop_any s = any_both s.0 s.1

abbrev pub push : Option ValType → Form → Form
push e s = (e ∷ s.0, s.1)

abbrev pub push_one : Option ValType → Form → Form
push_one None s = s
push_one (Some k) s = push (Some k) s

abbrev pub pops : List ValType → Form → Option Form
pops [] s = Some s
pops (k ∷ ks) s = next (pop k s) (λ t. pops ks t)

-- the second operand of a selection, and its result
abbrev pub select_by : Option ValType → Form → Option Form
select_by (Some k) s = given (pop k s) (push (Some k))
select_by None s = given (pop_any s) (λ x. push x.0 x.1)

abbrev pub selects : Form → Option Form
selects s = next (pop I32 s) (λ t. next (pop_any t) (λ x. select_by x.0 x.1))

-- what the algorithm knows behind an instruction with such an effect
abbrev pub after : Effect → Form → Option Form
after (Fixed ts g) s = given (pops ts s) (push_one g)
after (Leaves ts) s = given (pops ts s) (λ t. ([], true))
after Drops s = given (pop_any s) (λ x. x.1)
after Selects s = selects s

-- an instruction of such an effect on a whole stack
abbrev pub Moves : Effect → List ValType → List ValType → Type 0
Moves e ks ms = (ps : List ValType) × (rs : List ValType) × (under : List ValType) × Types e ps rs × (ks ≡ ps ++ under) × (ms ≡ rs ++ under)

abbrev pub AfterIsExact : Type 0
AfterIsExact = (e : Effect) (s : Form) (ms : List ValType) → ((ks : List ValType) × Fits s ks × Moves e ks ms) ↔ IsSomeAnd (after e s) (λ t. Fits t ms)

-- a call that changes the stack as said, or refuses because that cannot be
abbrev pub IsNone : {A : Type 0} → Refusal → Option A → Type 0
IsNone Untyped r = r ≡ None
IsNone NoMemory r = Unit {0}

abbrev pub Sees : Result ⊤ Refusal → Form → Option Form → Type 0
Sees r s wanted = MatchResult r (λ _. wanted ≡ Some s) (λ e. IsNone e wanted)

abbrev pub SeesAny : Result (Option ValType) Refusal → Form → Option (Option ValType × Form) → Type 0
SeesAny r s wanted = MatchResult r (λ k. wanted ≡ Some (k, s)) (λ e. IsNone e wanted)

abbrev pub Refutes : Refusal → Type 0 → Type 0
Refutes Untyped P = P → ⊥
Refutes NoMemory P = Unit {0}

-- a call that decides, or has no memory
abbrev pub Judges : Result ⊤ Refusal → Type 0 → Type 0
Judges r P = MatchResult r (λ _. P) (λ e. Refutes e P)
