-- The machine's store beside a script's state.
use Rattle.std.proofs.Common.{◌≡◌, ◌⊎◌, inl, inr, ℕ, zero, suc, ◌^◌, false, List, [], ◌∷◌, length, Some, None, Option, refl, sym, ap, ◌∙◌, arith, w64, unsigned_abs, true, ℤ}
use Rattle.std.specs.Prelude.{get_or, nat_eq, ◌-◌}
use Rattle.std.specs.Int.{cast_signed}
use Rattle.std.proofs.lemmas.Bool.{ne_eqb}
use Rattle.std.proofs.lemmas.Int.{to_z-of_z}
use Rattle.awk_values.specs.declared.fault.Fault.{Fault}
use Rattle.awk_values.specs.declared.value.Value.{Value}
use Rattle.awk_values.specs.declared.value.Value.TheVariants as value
use Rattle.sem_primitives.specs.ConstantNumbers.{flag_number}
use Rattle.sem_primitives.specs.Numbers.{Number, number_of, number_word}
use Rattle.sem_primitives.proofs.Words.{word_no_fault, small, fits, number_again}
use Rattle.wasm_store.specs.declared.word.Word.TheVariants.{I32, I64}
use Rattle.mid_program.specs.Mid.{Slot, Global, Parameter, Kind, Boxed, Unboxed, ArrayKind}
use Rattle.mid_program.specs.Sorted.{lender_at}
use Rattle.sem_scripts.specs.ScriptState.{State, Stop, Faulted, OutOfTurns, TooDeep, Nexted, Exited, Returned, global_value, local_value, with_global, with_local}
use Rattle.lower_model.specs.Quick.{Holder, OfName, OfParameter}
use Rattle.lower_model.specs.Cells.{Cell, Bits, Held, OwnedArray, Gone, is_owned}
use Rattle.lower_model.specs.ImportCalls.{Host}
use Rattle.lower_model.specs.Machine.{Store}
use Rattle.lower_model.specs.Small.{least, text_beside}
use Rattle.lower_model.specs.Statements.{way_none, way_next, way_exit}
use Rattle.lower_model.proofs.Globals.{Globals, Text, placed, with_global_at}
use Rattle.lower_model.proofs.Steps.{empty}

-- What an unboxed name has: its number's word, and the text beside it. A number out of range would stand beside too; there is none.

abbrev pub word_or_beside : Option Number → ℕ
word_or_beside (Some n) = number_word n
word_or_beside None = text_beside

abbrev pub bare : Value → ℕ
bare value.Uninit = least
bare (value.Num z) = word_or_beside (number_of z)
bare (value.Text s) = text_beside
bare (value.StrNum s) = text_beside

abbrev pub unless_number : Value → Option Number → Cell
unless_number v (Some n) = empty
unless_number v None = Held v

abbrev pub beside : Value → Cell
beside value.Uninit = empty
beside (value.Num z) = unless_number (value.Num z) (number_of z)
beside (value.Text s) = Held (value.Text s)
beside (value.StrNum s) = Held (value.StrNum s)

-- What a word and a handle beside it stand for: a value that the handle has, nothing yet, or a number.
pub data BareIs (v : Value) (m : ℕ) (c : Cell) : Type 0 where
  IsBeside : m ≡ text_beside → c ≡ Held v → BareIs v m c
  IsNone : v ≡ value.Uninit → m ≡ least → c ≡ empty → BareIs v m c
  IsNumber : (x : Number) → v ≡ value.Num x.number → m ≡ number_word x → c ≡ empty → BareIs v m c

-- what an unboxed name has
abbrev pub BareOf : Value → Type 0
BareOf v = BareIs v (bare v) (beside v)

-- what the word of a function's answer stands for, where this is in the global for a text that is returned
pub data AnswerIs (v : Value) (m : ℕ) (text : Cell) : Type 0 where
  TextWaits : m ≡ text_beside → text ≡ Held v → AnswerIs v m text
  Nothing : v ≡ value.Uninit → m ≡ least → text ≡ Gone → AnswerIs v m text
  ANumber : (x : Number) → v ≡ value.Num x.number → m ≡ number_word x → text ≡ Gone → AnswerIs v m text

-- The word of an unboxed parameter: its number's, or that it has nothing; where a global lends at its place it may have nothing in place of what that has.

abbrev pub ParameterWord : Option ℕ → (globals : List Value) → Value → ℕ → Type 0
ParameterWord None globals v m = (m ≡ bare v) × (beside v ≡ empty)
ParameterWord (Some g) globals v m = ((x : Number) × (v ≡ value.Num x.number) × (m ≡ number_word x)) ⊎ ((m ≡ least) × (v ≡ get_or globals g value.Uninit))

abbrev pub BareParameter : Option ℕ → (globals : List Value) → Value → Cell → Type 0
BareParameter o globals v c = (m : ℕ) × (c ≡ Bits (I64 m)) × ParameterWord o globals v m

-- what lends still has what it had
abbrev pub LentStays : Option ℕ → State → State → Type 0
LentStays o σ σ1 = (g : ℕ) → o ≡ Some g → global_value g σ1 ≡ global_value g σ

pub parameter_stays : (o : Option ℕ) (σ σ1 : State) (v : Value) (c : Cell) → LentStays o σ σ1 → BareParameter o σ.globals v c → BareParameter o σ1.globals v c
parameter_stays None σ σ1 v c h q = q
parameter_stays (Some g) σ σ1 v c h q = (q.0, q.1, elim q.2 [ inl n ↦ inl n | inr n ↦ inr (n.0, n.1 ∙ sym (h g refl)) ])

pub parameter_unowned : (o : Option ℕ) (gs : List Value) (v : Value) (c : Cell) → BareParameter o gs v c → is_owned c ≡ false
parameter_unowned o gs v c q = ap is_owned q.1

abbrev pub perhaps : Option Number → ℕ
perhaps (Some n) = number_word n
perhaps None = least

-- a number's word is none of the two that stand for something else
pub word_not_least : (n : Number) → nat_eq (number_word n) least ≡ false
word_not_least n = ne_eqb (number_word n) least (word_no_fault n)

pub word_not_beside : (n : Number) → nat_eq (number_word n) text_beside ≡ false
word_not_beside n = ne_eqb (number_word n) text_beside (λ e.
    let z : unsigned_abs n.number ≡ 2 ^ 63 - 1 = ap unsigned_abs (sym (to_z-of_z w64 n.number (fits n.number (small n))) ∙ ap (cast_signed w64) e) in
    absurd (omega (arith, z, small n)))

pub bare_number : (n : Number) → bare (value.Num n.number) ≡ number_word n
bare_number n = ap word_or_beside (number_again n)

pub beside_number : (n : Number) → beside (value.Num n.number) ≡ empty
beside_number n = ap (unless_number (value.Num n.number)) (number_again n)

-- a number, whatever lends
pub number_taken : (o : Option ℕ) (gs : List Value) (n : Number) → BareParameter o gs (value.Num n.number) (Bits (I64 (number_word n)))
number_taken None gs n = (number_word n, refl, (sym (bare_number n), beside_number n))
number_taken (Some g) gs n = (number_word n, refl, inl (n, refl, refl))

-- it is what the value tells, or nothing
pub parameter_word : (o : Option ℕ) (gs : List Value) (v : Value) (m : ℕ) → ParameterWord o gs v m → (m ≡ bare v) ⊎ (m ≡ least)
parameter_word None gs v m q = inl q.0
parameter_word (Some g) gs v m (inl q) = inl (q.2 ∙ sym (ap bare q.1 ∙ bare_number q.0))
parameter_word (Some g) gs v m (inr q) = inr q.0

-- What a slot's state is once it has another value.

abbrev pub stored_in : Slot → Value → State → State
stored_in (Global boxed i) v = with_global i v
stored_in (Parameter boxed i) v = with_local i v

-- What a holder has, and where it stands.

abbrev pub holder_slot : Holder → Slot
holder_slot (OfName i) = Global true i
holder_slot (OfParameter i) = Parameter true i

abbrev pub holder_value : Holder → State → Value
holder_value (OfName i) σ = global_value i σ
holder_value (OfParameter i) σ = local_value i σ

-- Names.

abbrev pub kind_here : List Kind → ℕ → Kind
kind_here kinds i = get_or kinds i Boxed

-- how many arrays stand before a name
abbrev pub arrays_before : List Kind → ℕ → ℕ
arrays_before [] i = zero
arrays_before (k ∷ ks) zero = zero
arrays_before (ArrayKind ∷ ks) (suc i) = suc (arrays_before ks i)
arrays_before (Boxed ∷ ks) (suc i) = arrays_before ks i
arrays_before (Unboxed ∷ ks) (suc i) = arrays_before ks i

abbrev pub name_hand : Kind → (array : ℕ) → Value → Cell
name_hand Boxed a v = Held v
name_hand Unboxed a v = beside v
name_hand ArrayKind a v = OwnedArray a

abbrev pub name_word : Kind → Value → ℕ
name_word Unboxed v = bare v
name_word Boxed v = least
name_word ArrayKind v = least

abbrev pub cells_of : List Kind → (way : ℕ) → State → Globals
cells_of kinds way σ = record {
  way = Bits (I32 way);
  status = Bits (I64 (number_word σ.status));
  text = Gone;
  range = λ i. Bits (I32 (flag_number (σ.ranges i)));
  hand = λ i. name_hand (kind_here kinds i) (suc (suc (arrays_before kinds i))) (global_value i σ);
  number = λ i. Bits (I64 (name_word (kind_here kinds i) (global_value i σ)));
}

abbrev pub host_of : State → Option Fault → Host
host_of σ fault = record { shared = σ.shared; arguments = []; fault = fault }

-- Once a fault is kept: a boxed name gives its text away for a call that fails, and has nothing then; where several texts are put behind it, it has some of
-- them already. All else is beside the script's state.

abbrev pub HandWorn : Kind → (was now : Cell) → Type 0
HandWorn Boxed was now = (now ≡ Gone) ⊎ ((v : Value) × (now ≡ Held v))
HandWorn Unboxed was now = now ≡ was
HandWorn ArrayKind was now = now ≡ was

pub record Worn (kinds : List Kind) (was now : Globals) : Type 0 where
  pub way : now.way ≡ was.way
  pub status : now.status ≡ was.status
  pub text : now.text ≡ was.text
  pub range : (i : ℕ) → now.range i ≡ was.range i
  pub hand : (i : ℕ) → HandWorn (kind_here kinds i) (was.hand i) (now.hand i)
  pub number : (i : ℕ) → now.number i ≡ was.number i

hand_worn_self : (k : Kind) (a : ℕ) (v : Value) → HandWorn k (name_hand k a v) (name_hand k a v)
hand_worn_self Boxed a v = inr (v, refl)
hand_worn_self Unboxed a v = refl
hand_worn_self ArrayKind a v = refl

pub worn_self : (kinds : List Kind) (way : ℕ) (σ : State) → Worn kinds (cells_of kinds way σ) (cells_of kinds way σ)
worn_self kinds way σ = record {
  way = refl;
  status = refl;
  text = refl;
  range = λ i. refl;
  hand = λ i. hand_worn_self (kind_here kinds i) (suc (suc (arrays_before kinds i))) (global_value i σ);
  number = λ i. refl;
}

module _ (ranges : ℕ) (kinds : List Kind) where
  abbrev pub store_with : (way : ℕ) → Option Fault → State → Store
  store_with way fault σ = record { globals = placed ranges (length kinds) (cells_of kinds way σ); host = host_of σ fault; assigning = None }

  -- where an answer is given
  abbrev pub answering : Cell → State → Store
  answering text σ = record { globals = placed ranges (length kinds) (with_global_at ranges (length kinds) (cells_of kinds way_none σ) Text text); host = host_of σ None; assigning = None }

  -- between two parts of code
  abbrev pub store : State → Store
  store σ = store_with way_none None σ

  -- where a function is being left
  abbrev pub gone : Stop → State → Store
  gone (Faulted f) σ = store_with way_none (Some f) σ
  gone Nexted σ = store_with way_next None σ
  gone Exited σ = store_with way_exit None σ
  gone (Returned v) σ = store σ
  gone OutOfTurns σ = store σ
  gone TooDeep σ = store σ

  -- a store in which a fault is kept, beside these globals
  pub record KeptBeside (was : Globals) (host : Host) (s : Store) : Type 0 where
    pub globals : Globals
    pub worn : Worn kinds was globals
    pub is : s ≡ record { globals = placed ranges (length kinds) globals; host = host; assigning = None }

  -- what a function that is left leaves
  abbrev pub StoreLeft : Stop → State → Store → Type 0
  StoreLeft (Faulted f) σ s = KeptBeside (cells_of kinds way_none σ) (host_of σ (Some f)) s
  StoreLeft why σ s = s ≡ gone why σ

  pub faulted_left : (way : ℕ) (f : Fault) (σ : State) → KeptBeside (cells_of kinds way σ) (host_of σ (Some f)) (store_with way (Some f) σ)
  faulted_left way f σ = record { globals = cells_of kinds way σ; worn = worn_self kinds way σ; is = refl }
