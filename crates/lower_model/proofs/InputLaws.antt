-- What rows of the main input, and assignments of the command line, leave: the names as they are; what is pending is of a scalar name to which a word assigns, and a text of the input; they put nothing out.
use Rattle.std.proofs.Common.{◌≡◌, ◌⊎◌, inl, inr, ℕ, zero, suc, Bool, true, false, List, [], ◌∷◌, Some, None, Option, Result, Ok, Err, refl, sym, ap, subst, ◌∙◌}
use Rattle.std.specs.Prelude.{ℤ, ◌-◌, ◌+◌, ◌^◌, pos, decimal, get_or, is_some, length}
use Rattle.awk_text.specs.Escapes.{unescaped}
use Rattle.awk_values.specs.Operators.{sum}
use Rattle.awk_values.specs.Values.{number_of_value, text_of_value}
use Rattle.awk_values.specs.declared.fault.Fault.{Fault}
use Rattle.awk_values.specs.declared.fault.Fault.TheVariants.{BadAssignment, TooManyStreams}
use Rattle.awk_values.specs.declared.value.Value.{Value}
use Rattle.awk_values.specs.declared.value.Value.TheVariants.{StrNum, Num, Text}
use Rattle.world_core.specs.WorldState.{Outside, Source, Named}
use Rattle.sem_primitives.specs.Constants.{specials}
use Rattle.sem_primitives.specs.SharedState.{Inner, Pairs, Shared, MainReader, Standard, File, Operands, NoFile, SomeFile, NoneLeft, ◌>>=◌, settles, special_of, with_special}
use Rattle.sem_primitives.specs.ArrayMeaning.{element}
use Rattle.sem_primitives.specs.Assignments.{assignment_of, assigned, assigned_by, assigned_global, made_here, declared, named, takes_none}
use Rattle.sem_primitives.specs.FieldMeaning.{set_special, with_record}
use Rattle.ere_syntax.specs.Tree.{Tree}
use Rattle.sem_primitives.specs.Numbers.{Number}
use Rattle.sem_primitives.specs.Texts.{limited, counted}
use Rattle.sem_primitives.specs.Eres.{expression_of}
use Rattle.sem_primitives.specs.TextMeaning.{substitute_row, substituted_by, replaced, places_of}
use Rattle.sem_primitives.specs.OutputMeaning.{has_room}
use Rattle.sem_primitives.specs.Records.{Got, Record, AtEnd, Broken}
use Rattle.sem_primitives.specs.Finds.{observed, seen}
use Rattle.sem_primitives.specs.InputMeaning.{got_file, read_file, opened_file, open_or_read, reader_named, with_reader, counted_by, counted_record, as_record, as_line, next_of, getline_of, getline_by}
use Rattle.sem_primitives.specs.Rows.{getline_line_file_row, next_main_row, getline_row, getline_line_row}
use Rattle.sem_primitives.specs.MainInput.{got_main, read_main, opened, made, file_or_assignment, taken, over, follows, reached, reach, reach_by, next_operand, go_on, main_input, start_by, start_from}
use Rattle.sem_primitives.specs.InputParts.{Main, Taken, Over, Pending, NotOpened, Failed, reader_source, leaves, stops_reading, begins_reading, with_operands, file_named, reader_of, operand_text, text_or_none, passes_operand, is_below, next_record, source_of}
use Rattle.sem_primitives.specs.declared.answers.InputAnswer.{InputAnswer}
use Rattle.sem_primitives.specs.declared.answers.InputAnswer.TheVariants as input
use Rattle.sem_primitives.specs.declared.answers.AssignAnswer.{AssignAnswer}
use Rattle.sem_primitives.specs.declared.answers.AssignAnswer.TheVariants as assign
use Rattle.sem_primitives.specs.declared.constants.NameKind.{NameKind}
use Rattle.sem_primitives.specs.declared.constants.NameKind.TheVariants.{Scalar, ArrayOrFunction}
use Rattle.sem_primitives.specs.declared.constants.Special.{Special}
use Rattle.sem_primitives.specs.declared.constants.Special.TheVariants.{Nr, Fnr}
use Rattle.lower_model.proofs.HostLaws.{Few, Keeps, Still, Good, GoodBy, kept_by, special_good, keeps_same}
use Rattle.lower_model.proofs.HostLaws

-- an assignment that the script is to make
pub record IsPending (j : Inner) : Type 0 where
  pub number : ℕ
  pub name : List ℕ
  pub text : List ℕ
  pub told : declared 0 name j.names ≡ Some (number, Scalar)
  pub there : j.pending ≡ Some (number, StrNum text)

-- an element of ARGV assigns to the name of this number
abbrev pub IsNamed : Inner → ℕ → Type 0
IsNamed i number = (n : ℕ) × (name : List ℕ) × (text : List ℕ) × (assignment_of (operand_text n i) ≡ Some (name, text)) × (declared 0 name i.names ≡ Some (number, Scalar))

abbrev pub AfterAssigned : List ℕ → Inner → Inner → Bool → Type 0
AfterAssigned name i j true = (j.names ≡ i.names) × (p : IsPending j) × (j.assigns ≡ i.assigns) × (declared 0 name i.names ≡ Some (p.number, Scalar)) × (Few i → Few j)
AfterAssigned name i j false = Still i j

abbrev pub AfterMain : Inner → Inner → Main → Type 0
AfterMain i j Pending = (j.names ≡ i.names) × (p : IsPending j) × (j.assigns ≡ i.assigns) × IsNamed i p.number × (Few i → Few j)
AfterMain i j _ = Still i j

abbrev pub GoodMain : Inner → Result (Inner × Main) Fault → Type 0
GoodMain i (Ok x) = AfterMain i x.0 x.1
GoodMain i (Err f) = Unit {0}

abbrev GoodAssigned : List ℕ → Inner → Result (Inner × Bool) Fault → Type 0
GoodAssigned name i (Ok x) = AfterAssigned name i x.0 x.1
GoodAssigned name i (Err f) = Unit {0}

keeps_then : (i j k : Inner) → Keeps i j → Keeps j k → Keeps i k
keeps_then i j k a c = record { pending = c.pending ∙ a.pending; names = c.names ∙ a.names; assigns = c.assigns ∙ a.assigns; few = λ x. c.few (a.few x) }

still_then : (i j k : Inner) → Still i j → Still j k → Still i k
still_then i j k a c = record { keeps = keeps_then i j k a.keeps c.keeps; arrays = c.arrays ∙ a.arrays }

-- ARGV is what it was
named_then : (i j : Inner) (number : ℕ) → Still i j → IsNamed j number → IsNamed i number
named_then i j number a h = (
  h.0,
  h.1,
  h.2,
  ap (λ (arrays : List Pairs). assignment_of (text_or_none (element (decimal h.0) (get_or arrays 0 [])))) (sym a.arrays) ∙ h.3,
  ap (declared 0 h.1) (sym a.keeps.names) ∙ h.4,
)

main_then : (i j k : Inner) (m : Main) → Still i j → AfterMain j k m → AfterMain i k m
main_then i j k Pending a c = (c.0 ∙ a.keeps.names, c.1, c.2 ∙ a.keeps.assigns, named_then i j c.1.number a c.3, λ x. c.4 (a.keeps.few x))
main_then i j k (Taken t) a c = still_then i j k a c
main_then i j k Over a c = still_then i j k a c
main_then i j k NotOpened a c = still_then i j k a c
main_then i j k Failed a c = still_then i j k a c

later : (i j : Inner) (r : Result (Inner × Main) Fault) → Still i j → GoodMain j r → GoodMain i r
later i j (Ok x) a c = main_then i j x.0 x.1 a c
later i j (Err f) a c = tt

made_good : (name : List ℕ) (i : Inner) (r : Result Inner Fault) → GoodBy Still (λ j. j) i r → GoodAssigned name i (made_here r)
made_good name i (Ok j) h = h
made_good name i (Err f) h = tt

still_same : (i : Inner) → Still i i
still_same i = record { keeps = keeps_same i; arrays = refl }

global_good : (name text : List ℕ) (i : Inner) (o : Option (ℕ × NameKind)) → declared 0 name i.names ≡ o → GoodAssigned name i (assigned_global o text i)
global_good name text i None e = still_same i
global_good name text i (Some (n, Scalar)) e = (refl, record { number = n; name = name; text = text; told = e; there = refl }, refl, e, λ x. x)
global_good name text i (Some (n, ArrayOrFunction)) e = tt

by_good : (o : Option Special) (name text : List ℕ) (i : Inner) → GoodAssigned name i (assigned_by o name text i)
by_good (Some s) name text i = made_good name i (set_special s (StrNum text) i) (special_good s (StrNum text) i)
by_good None name text i = global_good name text i (declared 0 name i.names) refl

pub assigned_good : (name text : List ℕ) (i : Inner) → GoodAssigned name i (assigned name text i)
assigned_good name text i = by (takes_none name)
  where
    by : (t : Bool) → GoodAssigned name i (elim t [ true ↦ Err BadAssignment | false ↦ assigned_by (named name specials) name (unescaped text) i ])
    by true = tt
    by false = by_good (named name specials) name (unescaped text) i

-- the main input alone, or a special variable, is another
leaves_keeps : (reader : MainReader) (left : Source) (i : Inner) → Still i (leaves reader left i)
leaves_keeps Standard left i = record { keeps = record { pending = refl; names = refl; assigns = refl; few = λ h. h }; arrays = refl }
leaves_keeps (File s) left i = record { keeps = record { pending = refl; names = refl; assigns = refl; few = λ h. h }; arrays = refl }

-- where the rest of the input is good
module _ (on : Inner → Result (Inner × Main) Fault) (good : (i : Inner) → GoodMain i (on i)) where
  got_good : (reader : MainReader) (i : Inner) (g : Got) (left : Source) → GoodMain i (got_main on reader i (g, left))
  got_good reader i (Record text) left = leaves_keeps reader left i
  got_good reader i AtEnd left = let k = leaves_keeps reader left i in later i (stops_reading (leaves reader left i)) (on (stops_reading (leaves reader left i))) (record { keeps = record { pending = k.keeps.pending; names = k.keeps.names; assigns = k.keeps.assigns; few = k.keeps.few }; arrays = k.arrays }) (good (stops_reading (leaves reader left i)))
  got_good reader i Broken left = leaves_keeps reader left i

  read_good : (reader : MainReader) (i : Inner) → GoodMain i (read_main on reader i)
  read_good reader i = by (next_record i (reader_source reader i))
    where
      by : (r : Result (Got × Source) Fault) → GoodMain i (r >>= λ got. got_main on reader i got)
      by (Ok x) = got_good reader i x.0 x.1
      by (Err f) = tt

  opened_good : (name : List ℕ) (r : Option MainReader) (i : Inner) → GoodMain i (opened on name r i)
  opened_good name None i = still_same i
  opened_good name (Some reader) i = later i (begins_reading name reader i) (read_main on reader (begins_reading name reader i)) (record { keeps = record { pending = refl; names = refl; assigns = refl; few = λ h. h }; arrays = refl }) (read_good reader (begins_reading name reader i))

  -- the n-th operand is one
  assigned_then : (n : ℕ) (name text : List ℕ) (i : Inner) → assignment_of (operand_text n i) ≡ Some (name, text) → (r : Result (Inner × Bool) Fault) → GoodAssigned name i r → GoodMain i (r >>= λ x. made on x)
  assigned_then n name text i e (Ok (j, true)) h = (h.0, h.1, h.2, (n, name, text, e, h.3), h.4)
  assigned_then n name text i e (Ok (j, false)) h = later i j (on j) h (good j)
  assigned_then n name text i e (Err f) h = tt

  operand_good : (o : Outside) (n : ℕ) (text : List ℕ) (a : Option (List ℕ × List ℕ)) (i : Inner) → assignment_of (operand_text n i) ≡ a → GoodMain i (file_or_assignment on o text a i)
  operand_good o n text (Some pair) i e = assigned_then n pair.0 pair.1 i e (assigned pair.0 pair.1 i) (assigned_good pair.0 pair.1 i)
  operand_good o n text None i e =
      later i (file_named i) (opened on text (reader_of (seen i o) text) (file_named i))
      (record { keeps = record { pending = refl; names = refl; assigns = refl; few = λ h. h }; arrays = refl }) (opened_good text (reader_of (seen i o) text) (file_named i))

  taken_good : (o : Outside) (n : ℕ) (text : List ℕ) (i : Inner) → operand_text n i ≡ text → GoodMain i (taken on o text i)
  taken_good o n [] i e = good i
  taken_good o n (c ∷ cs) i e = operand_good o n (c ∷ cs) (assignment_of (c ∷ cs)) i (ap assignment_of e)

over_good : (i : Inner) → GoodMain i (over i)
over_good i = record { keeps = record { pending = refl; names = refl; assigns = refl; few = λ h. h }; arrays = refl }

follows_good : (ops : Operands) (i : Inner) → GoodMain i (follows ops i)
follows_good NoFile i =
    let j = begins_reading [] Standard (with_operands NoneLeft i) in
    later i j (read_main over Standard j) (record { keeps = record { pending = refl; names = refl; assigns = refl; few = λ h. h }; arrays = refl }) (read_good over over_good Standard j)
follows_good SomeFile i = over_good i
follows_good NoneLeft i = over_good i

reached_good : (on : Inner → Result (Inner × Main) Fault) → ((i : Inner) → GoodMain i (on i)) → (o : Outside) (i : Inner) (argc : ℤ) → GoodMain i (reached on o i argc)
reached_good on good o i argc = by (is_below i.main.next argc)
  where
    by : (t : Bool) → GoodMain i (elim t [ true ↦ taken on o (operand_text i.main.next i) (passes_operand i) | false ↦ follows i.main.operands i ])
    by true = later i (passes_operand i) (taken on o (operand_text i.main.next i) (passes_operand i)) (record { keeps = record { pending = refl; names = refl; assigns = refl; few = λ h. h }; arrays = refl }) (taken_good on good o i.main.next (operand_text i.main.next i) (passes_operand i) refl)
    by false = follows_good i.main.operands i

argc_good : (i : Inner) (go : ℤ → Result (Inner × Main) Fault) → ((z : ℤ) → GoodMain i (go z)) → (r : Result ℤ Fault) → GoodMain i (r >>= go)
argc_good i go h (Ok z) = h z
argc_good i go h (Err f) = tt

reach_good : (n : ℕ) (o : Outside) (i : Inner) → GoodMain i (reach n o i)
reach_good zero o i = argc_good i (λ argc. follows i.main.operands i) (λ z. follows_good i.main.operands i) _
reach_good (suc n) o i = argc_good i (reached (reach n o) o i) (λ z. reached_good (reach n o) (reach_good n o) o i z) _

next_good : (ops : Operands) (o : Outside) (i : Inner) → GoodMain i (reach_by ops o i)
next_good NoneLeft o i = over_good i
next_good NoFile o i = reach_good (2 ^ 20 + 1 - i.main.next) o i
next_good SomeFile o i = reach_good (2 ^ 20 + 1 - i.main.next) o i

go_good : (t : Bool) (r : Option MainReader) (o : Outside) (i : Inner) → GoodMain i (go_on t r (next_operand o) i)
go_good true r o i = still_same i
go_good false None o i = next_good i.main.operands o i
go_good false (Some reader) o i = read_good (next_operand o) (λ j. next_good j.main.operands o j) reader i

-- what the main input gives, and what it leaves
pub main_good : (o : Outside) (i : Inner) → GoodMain i (main_input o i)
main_good o i = go_good i.main.ended i.main.reading o i

-- The assignments before BEGIN.

-- the names of these assignments
abbrev pub IsAmong : List (List ℕ × List ℕ) → List ℕ → Type 0
IsAmong [] name = ⊥
IsAmong (pair ∷ rest) name = (pair.0 ≡ name) ⊎ IsAmong rest name

-- one of these assigns to the name of this number
abbrev pub IsNamedAmong : List (List ℕ × List ℕ) → Inner → ℕ → Type 0
IsNamedAmong pairs i number = (name : List ℕ) × IsAmong pairs name × (declared 0 name i.names ≡ Some (number, Scalar))

abbrev AreAmong : List (List ℕ × List ℕ) → List (List ℕ × List ℕ) → Type 0
AreAmong pairs all = (name : List ℕ) → IsAmong pairs name → IsAmong all name

-- some of the assignments are left
abbrev pub AfterStart : List (List ℕ × List ℕ) → Inner → Inner → AssignAnswer → Type 0
AfterStart pairs i j assign.Pending = (j.names ≡ i.names) × (p : IsPending j) × AreAmong j.assigns pairs × IsNamedAmong pairs i p.number × (Few i → Few j)
AfterStart pairs i j assign.NoneLeft = (j.pending ≡ i.pending) × (j.names ≡ i.names) × (j.assigns ≡ []) × (Few i → Few j)

abbrev pub GoodStart : List (List ℕ × List ℕ) → Inner → Result (Inner × AssignAnswer) Fault → Type 0
GoodStart pairs i (Ok x) = AfterStart pairs i x.0 x.1
GoodStart pairs i (Err f) = Unit {0}

-- behind the first of them, where the state has the same names, and as much is pending
start_later : (pair : List ℕ × List ℕ) (rest : List (List ℕ × List ℕ)) (i j : Inner) (r : Result (Inner × AssignAnswer) Fault) → j.pending ≡ i.pending → j.names ≡ i.names → (Few i → Few j) → GoodStart rest j r → GoodStart (pair ∷ rest) i r
start_later pair rest i j (Ok (k, assign.Pending)) a b f c = (c.0 ∙ b, c.1, (λ name h. inr (c.2 name h)), (c.3.0, inr c.3.1, ap (declared 0 c.3.0) (sym b) ∙ c.3.2), λ x. c.4 (f x))
start_later pair rest i j (Ok (k, assign.NoneLeft)) a b f c = (c.0 ∙ a, c.1 ∙ b, c.2, λ x. c.3 (f x))
start_later pair rest i j (Err g) a b f c = tt

start_then : (pair : List ℕ × List ℕ) (rest : List (List ℕ × List ℕ)) (i : Inner) → i.assigns ≡ rest → ((k : Inner) → GoodStart rest k (start_from rest k)) → (r : Result (Inner × Bool) Fault) → GoodAssigned pair.0 i r → GoodStart (pair ∷ rest) i (r >>= λ x. start_by (start_from rest) x)
start_then pair rest i e good (Ok (k, true)) h = (h.0, h.1, (λ name q. inr (subst (λ ps. IsAmong ps name) (h.2 ∙ e) q)), (pair.0, inl refl, h.3), h.4)
start_then pair rest i e good (Ok (k, false)) h = start_later pair rest i k (start_from rest k) h.keeps.pending h.keeps.names h.keeps.few (good k)
start_then pair rest i e good (Err f) h = tt

pub start_good : (pairs : List (List ℕ × List ℕ)) (i : Inner) → GoodStart pairs i (start_from pairs i)
start_good [] i = (refl, refl, refl, λ x. x)
start_good (pair ∷ rest) i = let j = record i { assigns = rest } in start_then pair rest j refl (start_good rest) (assigned pair.0 pair.1 j) (assigned_good pair.0 pair.1 j)

-- A record, or a line for a variable.

abbrev pub AfterInput : Inner → Inner → InputAnswer → Type 0
AfterInput i j input.Pending = (j.names ≡ i.names) × (p : IsPending j) × (j.assigns ≡ i.assigns) × IsNamed i p.number × (Few i → Few j)
AfterInput i j _ = Keeps i j

abbrev pub GoodInput : Inner → Result (Inner × InputAnswer) Fault → Type 0
GoodInput i (Ok x) = AfterInput i x.0 x.1
GoodInput i (Err f) = Unit {0}

counted_good : (s : Special) (i j : Inner) → Keeps i j → Good (λ k. k) i (counted_by s j)
counted_good s i j h = by (number_of_value (special_of j s))
  where
    on : (m : Result ℤ Fault) → Good (λ k. k) i (m >>= λ m. Ok (with_special s (Num m) j))
    on (Ok m) = record { pending = h.pending; names = h.names; assigns = h.assigns; few = h.few }
    on (Err f) = tt

    by : (r : Result ℤ Fault) → Good (λ k. k) i (r >>= λ n. sum n (pos 1) >>= λ m. Ok (with_special s (Num m) j))
    by (Ok n) = on (sum n (pos 1))
    by (Err f) = tt

record_good : (i : Inner) → Good (λ k. k) i (counted_record i)
record_good i = by (counted_by Nr i) (counted_good Nr i i (keeps_same i))
  where
    by : (r : Result Inner Fault) → Good (λ k. k) i r → Good (λ k. k) i (r >>= λ j. counted_by Fnr j)
    by (Ok j) h = counted_good Fnr i j h
    by (Err f) h = tt

module _ (keep : List ℕ → Inner → Result (Inner × InputAnswer) Fault) (good : (text : List ℕ) (i j : Inner) → Keeps i j → GoodInput i (keep text j)) where
  counted_kept : (i j : Inner) (text : List ℕ) → Keeps i j → (r : Result Inner Fault) → Good (λ k. k) j r → GoodInput i (r >>= λ k. keep text k)
  counted_kept i j text h (Ok k) g = good text i k (keeps_then i j k h g)
  counted_kept i j text h (Err f) g = tt

  got_line : (i j : Inner) (m : Main) → AfterMain i j m → GoodInput i (getline_of keep (j, m))
  got_line i j (Taken text) h = counted_kept i j text h.keeps (counted_record j) (record_good j)
  got_line i j Over h = h.keeps
  got_line i j Pending h = h
  got_line i j NotOpened h = h.keeps
  got_line i j Failed h = h.keeps

  got_main_line : (i : Inner) (r : Result (Inner × Main) Fault) → GoodMain i r → GoodInput i (r >>= λ x. getline_of keep x)
  got_main_line i (Ok x) h = got_line i x.0 x.1 h
  got_main_line i (Err f) h = tt

  pub getline_good : (t : Bool) (o : Outside) (i : Inner) → GoodInput i (getline_by t keep o i)
  getline_good true o i = keeps_same i
  getline_good false o i = got_main_line i (main_input o i) (main_good o i)

record_input : (text : List ℕ) (i j : Inner) → Keeps i j → GoodInput i (as_record text j)
record_input text i j h = by (with_record text j) (kept_by j (with_record text j) (HostLaws.record_good text j))
  where
    by : (r : Result Inner Fault) → Good (λ k. k) j r → GoodInput i (r >>= λ k. Ok (k, input.Read))
    by (Ok k) g = keeps_then i j k h g
    by (Err f) g = tt

line_input : (text : List ℕ) (i j : Inner) → Keeps i j → GoodInput i (as_line text j)
line_input text i j h = record { pending = h.pending; names = h.names; assigns = h.assigns; few = h.few }

pub getline_row_good : (o : Outside) (i : Inner) → GoodInput i (getline_row o i)
getline_row_good o i = getline_good as_record record_input i.in_end o i

pub getline_line_row_good : (o : Outside) (i : Inner) → GoodInput i (getline_line_row o i)
getline_line_row_good o i = getline_good as_line line_input i.in_end o i

next_good_of : (i j : Inner) (m : Main) → AfterMain i j m → GoodInput i (next_of (j, m))
next_good_of i j (Taken text) h = counted_kept as_record record_input i j text h.keeps (counted_record j) (record_good j)
next_good_of i j Over h = h.keeps
next_good_of i j Pending h = h
next_good_of i j NotOpened h = tt
next_good_of i j Failed h = tt

pub next_main_row_good : (o : Outside) (i : Inner) → GoodInput i (next_main_row o i)
next_main_row_good o i = by (main_input o i) (main_good o i)
  where
    by : (r : Result (Inner × Main) Fault) → GoodMain i r → GoodInput i (r >>= λ x. next_of x)
    by (Ok x) h = next_good_of i x.0 x.1 h
    by (Err f) h = tt

-- What was read for a variable is there, and so is the text of a substitution.

abbrev pub LineAt : Inner → InputAnswer → Type 0
LineAt j input.Read = is_some j.line ≡ true
LineAt j _ = Unit {0}

abbrev pub LineThere : Result (Inner × InputAnswer) Fault → Type 0
LineThere (Ok x) = LineAt x.0 x.1
LineThere (Err f) = Unit {0}

line_got : (i : Inner) (g : Got) → LineThere (got_file as_line i g)
line_got i (Record text) = refl
line_got i AtEnd = tt
line_got i Broken = tt

line_read : (name : List ℕ) (source : Source) (i : Inner) → LineThere (read_file as_line name source i)
line_read name source i = by (next_record i source)
  where
    by : (r : Result (Got × Source) Fault) → LineThere (r >>= λ got. got_file as_line (observed (record i { readers = with_reader name got.1 i.readers })) got.0)
    by (Ok x) = line_got (observed (record i { readers = with_reader name x.1 i.readers })) x.0
    by (Err f) = tt

line_opened : (name : List ℕ) (s : Option Source) (i : Inner) → LineThere (opened_file as_line name s i)
line_opened name None i = tt
line_opened name (Some s) i = line_read name s i

line_named : (name : List ℕ) (o : Outside) (s : Option Source) (i : Inner) → LineThere (open_or_read as_line name o s i)
line_named name o (Some s) i = line_read name s i
line_named name o None i = by (has_room i)
  where
    by : (t : Bool) → LineThere (elim t [ true ↦ opened_file as_line name (source_of (seen i o (Named name))) (observed i) | false ↦ Err TooManyStreams ])
    by true = line_opened name (source_of (seen i o (Named name))) (observed i)
    by false = tt

pub file_line_there : (name : Value) (o : Outside) (i : Inner) → LineThere (getline_line_file_row name o i)
file_line_there name o i = line_named (text_of_value name) o (reader_named (text_of_value name) i.readers) i

line_counted : (text : List ℕ) (r : Result Inner Fault) → LineThere (r >>= λ k. as_line text k)
line_counted text (Ok k) = refl
line_counted text (Err f) = tt

line_of : (i : Inner) (m : Main) → LineThere (getline_of as_line (i, m))
line_of i (Taken text) = line_counted text (counted_record i)
line_of i Over = tt
line_of i Pending = tt
line_of i NotOpened = tt
line_of i Failed = tt

line_main : (r : Result (Inner × Main) Fault) → LineThere (r >>= λ x. getline_of as_line x)
line_main (Ok x) = line_of x.0 x.1
line_main (Err f) = tt

line_unless : (t : Bool) (o : Outside) (i : Inner) → LineThere (getline_by t as_line o i)
line_unless true o i = tt
line_unless false o i = line_main (main_input o i)

pub line_there : (o : Outside) (i : Inner) → LineThere (getline_line_row o i)
line_there o i = line_unless i.in_end o i

abbrev pub TextThere : Result (Inner × Number) Fault → Type 0
TextThere (Ok x) = is_some x.0.substituted ≡ true
TextThere (Err f) = Unit {0}

text_by : (ps : List (ℕ × ℕ)) (by text : List ℕ) (i : Inner) → TextThere (substituted_by ps by text i)
text_by ps by text i = on (limited (replaced text by 0 ps))
  where
    on : (r : Result (List ℕ) Fault) → TextThere (r >>= λ new. Ok (record i { substituted = Some (Text new) }, counted (length ps)))
    on (Ok new) = refl
    on (Err f) = tt

pub text_there : (ere by target : Value) (all : Bool) (i : Inner) → TextThere (substitute_row ere by target all i)
text_there ere by target all i = on (expression_of (text_of_value ere))
  where
    on : (r : Result Tree Fault) → TextThere (r >>= λ t. substituted_by (places_of t (text_of_value target) all) (text_of_value by) (text_of_value target) i)
    on (Ok t) = text_by (places_of t (text_of_value target) all) (text_of_value by) (text_of_value target) i
    on (Err f) = tt

-- these rows put nothing out
pub settles_quietly : {A : Type 0} → (s : Shared) (r : Result (Inner × A) Fault) → (settles s r).added ≡ []
settles_quietly s (Ok x) = refl
settles_quietly s (Err f) = refl
