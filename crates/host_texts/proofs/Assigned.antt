-- Assignments are made one after another.
use Rattle.std.proofs.Common.{◌≡◌, ℕ, Bool, true, false, List, Option, Some, None, Ok, Err, Result, sym, ap, subst, ◌∙◌}
use Rattle.awk_text.specs.Escapes.{unescaped}
use Rattle.awk_values.specs.declared.fault.Fault.{Fault}
use Rattle.awk_values.specs.declared.fault.Fault.TheVariants.{BadAssignment}
use Rattle.awk_values.specs.declared.fault.Stop.{Stop}
use Rattle.awk_values.specs.declared.fault.Stop.TheVariants as stops
use Rattle.sem_primitives.specs.Assignments.{assigned, assigned_by, made_here as here, named, takes_none}
use Rattle.sem_primitives.specs.Constants.{specials}
use Rattle.sem_primitives.specs.MainInput.{start_by, start_from}
use Rattle.sem_primitives.specs.SharedState.{Inner, ◌>>=◌}
use Rattle.sem_primitives.specs.declared.constants.Special.{Special}
use Rattle.sem_primitives.specs.declared.answers.AssignAnswer.{AssignAnswer}
use Rattle.sem_primitives.specs.declared.answers.AssignAnswer.TheVariants.{NoneLeft, Pending}
use Rattle.host_bytes.specs.Outcomes.{IsStopOf}
use Rattle.host_texts.specs.States.{with_texts}
use Rattle.host_texts.specs.declared.texts.Texts.{Texts}
use Rattle.host_texts.specs.NameForms.{Takes, left_of, with_all}
use Rattle.host_texts.specs.declared.names.Names.{Names}

abbrev pub Pair : Type 0
Pair = List ℕ × List ℕ

-- what is left comes to
abbrev pub rest_by : Texts → Names → Inner → Result (Inner × AssignAnswer) Fault
rest_by t n inner = start_from (left_of n) (with_all t n inner)

-- the next one, once it is taken
abbrev next_by : Texts → Names → Pair → Inner → Result (Inner × AssignAnswer) Fault
next_by t n pair inner = assigned pair.0 pair.1 (with_all t n inner) >>= λ x. start_by (start_from (left_of n)) x

pub taken : (t : Texts) (old new : Names) (pair : Pair) (inner : Inner) → Takes old (Some pair) new → rest_by t old inner ≡ next_by t new pair inner
taken t old new pair inner (left, same) =
    ap (λ (pairs : List Pair). start_from pairs (with_all t old inner)) left
    ∙ ap (λ (i : Inner). assigned pair.0 pair.1 i >>= λ x. start_by (start_from (left_of new)) x) (sym (same (with_texts t inner)))

-- none is left
pub none_left : (t : Texts) (old new : Names) (inner : Inner) → Takes old None new → rest_by t old inner ≡ Ok (with_all t new inner, NoneLeft)
none_left t old new inner (left, same) =
    ap (λ (pairs : List Pair). start_from pairs (with_all t old inner)) left
    ∙ ap (λ (pairs : List Pair). Ok (record (with_all t old inner) { assigns = pairs }, NoneLeft)) (sym left)
    ∙ ap (λ (n : Names). Ok (with_all t n inner, NoneLeft)) (sym same)

-- it was made here, and the others are left
pub made_here : (t u : Texts) (n m : Names) (pair : Pair) (inner : Inner) → assigned pair.0 pair.1 (with_all t n inner) ≡ Ok (with_all u m inner, false) → left_of m ≡ left_of n
    → next_by t n pair inner ≡ rest_by u m inner
made_here t u n m pair inner made left =
    ap (λ (r : Result (Inner × Bool) Fault). r >>= λ x. start_by (start_from (left_of n)) x) made ∙ ap (λ (pairs : List Pair). start_from pairs (with_all u m inner)) (sym left)

-- the script is to make it
pub made_there : (t u : Texts) (n m : Names) (pair : Pair) (inner : Inner) → assigned pair.0 pair.1 (with_all t n inner) ≡ Ok (with_all u m inner, true)
    → next_by t n pair inner ≡ Ok (with_all u m inner, Pending)
made_there t u n m pair inner made = ap (λ (r : Result (Inner × Bool) Fault). r >>= λ x. start_by (start_from (left_of n)) x) made

stop_then : {A B : Type 0} (r : Result A Fault) (f : A → Result B Fault) (stop : Stop) → IsStopOf r stop → IsStopOf (r >>= f) stop
stop_then r f (stops.Fault fault) is = ap (λ s. s >>= f) is
stop_then r f stops.NoMemory is = tt

pub not_made : (t : Texts) (n : Names) (pair : Pair) (inner : Inner) (stop : Stop) → IsStopOf (assigned pair.0 pair.1 (with_all t n inner)) stop → IsStopOf (next_by t n pair inner) stop
not_made t n pair inner stop is = stop_then (assigned pair.0 pair.1 (with_all t n inner)) (λ x. start_by (start_from (left_of n)) x) stop is

-- One assignment.

pub stop_made : (r : Result Inner Fault) (stop : Stop) → IsStopOf r stop → IsStopOf (here r) stop
stop_made r (stops.Fault fault) is = ap here is
stop_made r stops.NoMemory is = tt

abbrev by_name : Bool → Result (Inner × Bool) Fault → Result (Inner × Bool) Fault
by_name takes made = elim takes [ true ↦ Err BadAssignment | false ↦ made ]

pub assigned_is : (name text value : List ℕ) (special : Option Special) → takes_none name ≡ false → special ≡ named name specials → value ≡ unescaped text → (inner : Inner)
    → assigned name text inner ≡ assigned_by special name value inner
assigned_is name text value special takes is same inner =
    ap (λ (b : Bool). by_name b (assigned_by (named name specials) name (unescaped text) inner)) takes
    ∙ ap (λ (s : Option Special). assigned_by s name (unescaped text) inner) (sym is)
    ∙ ap (λ (v : List ℕ). assigned_by special name v inner) (sym same)

pub made_by : (t u : Texts) (n m : Names) (name text read said : List ℕ) (b c : Bool) (inner : Inner) → read ≡ name → said ≡ text → b ≡ c → assigned read said (with_all t n inner) ≡ Ok (with_all u m inner, b)
    → assigned name text (with_all t n inner) ≡ Ok (with_all u m inner, c)
made_by t u n m name text read said b c inner same_name same_text told made =
    ap (λ (x : List ℕ). assigned x text (with_all t n inner)) (sym same_name)
    ∙ ap (λ (x : List ℕ). assigned read x (with_all t n inner)) (sym same_text)
    ∙ made
    ∙ ap (λ (x : Bool). Ok (with_all u m inner, x)) told

pub stop_read : (name text read said : List ℕ) (inner : Inner) (stop : Stop) → read ≡ name → said ≡ text → IsStopOf (assigned read said inner) stop → IsStopOf (assigned name text inner) stop
stop_read name text read said inner stop same_name same_text is =
    subst (λ (x : List ℕ). IsStopOf (assigned x text inner) stop) same_name (subst (λ (x : List ℕ). IsStopOf (assigned read x inner) stop) same_text is)
