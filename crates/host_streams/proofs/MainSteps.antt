-- What the definition gives of the main input, step by step.
use Rattle.std.specs.List.{prefix_len, take_while}
use Rattle.std.proofs.lemmas.Bool.{eqb-true, false≢true, leb-true, leb-false}
use Rattle.std.proofs.lemmas.List.{drop-drop, take_all}
use Rattle.awk_values.specs.Values.{number_of_value}
use Rattle.std.proofs.Common.{◌≡◌, ◌≢◌, ℤ, ℕ, zero, suc, ◌+◌, ◌-◌, ◌^◌, ◌<◌, ◌≤◌, ◌==◌, ◌&&◌, nat_le, List, [], ◌∷◌, length, length-take, take, drop, Option, Some, None, Result, Ok, Err, cond, if◌then◌else◌, Bool, true, false, refl, sym, ap, ◌∙◌, arith, subst, inl, inr}
use Rattle.awk_values.specs.declared.fault.Fault.{Fault}
use Rattle.awk_values.specs.declared.fault.Fault.TheVariants.{ReadFailed, TextLimit}
use Rattle.awk_values.specs.declared.fault.Stop.{Stop}
use Rattle.awk_values.specs.declared.fault.Stop.TheVariants.{Fault as IsFault, NoMemory}
use Rattle.world_core.specs.WorldState.{Outside, Source, State}
use Rattle.sem_primitives.specs.Assignments.{assigned, assignment_of, behind_name, begins_name, continues_name, is_name}
use Rattle.sem_primitives.specs.FieldMeaning.{special_text}
use Rattle.sem_primitives.specs.Finds.{finds_after, observed, seen}
use Rattle.sem_primitives.specs.MainInput.{main_input, go_on, got_main, next_operand, over, reach, follows, made, reached, taken, file_or_assignment, opened}
use Rattle.sem_primitives.specs.InputParts.{Main, Taken, leaves, stops_reading, is_below, operand_text, file_named, reader_of, record_by, Failed as ReadingFailed, Over, NotOpened}
use Rattle.sem_primitives.specs.Records.{Got, Record, AtEnd, Broken, record_separator, first_record}
use Rattle.sem_primitives.specs.SharedState.{Inner, MainInput, MainReader, Standard, File, Operands, NoFile, SomeFile, NoneLeft, ◌>>=◌}
use Rattle.sem_primitives.specs.Texts.{is_empty}
use Rattle.sem_primitives.specs.declared.constants.Special.TheVariants.{Argc, Rs}
use Rattle.host_streams.specs.declared.main_input.Found.{Found}
use Rattle.host_streams.specs.declared.main_input.Found.TheVariants as found
use Rattle.host_streams.specs.declared.main_input.MainInput.{MainInput as Mains}
use Rattle.host_streams.specs.declared.main_input.MainNext.{MainNext}
use Rattle.host_streams.specs.declared.main_input.Reading.{Reading}
use Rattle.host_streams.specs.declared.main_input.Reading.TheVariants as reading
use Rattle.host_streams.specs.declared.main_input.MainNext.TheVariants as main
use Rattle.host_streams.specs.declared.reader.FileNext.{FileNext}
use Rattle.host_streams.specs.declared.reader.FileNext.TheVariants as file
use Rattle.host_streams.specs.declared.reader.Phase.{Phase}
use Rattle.host_streams.specs.declared.reader.Phase.TheVariants.{Broken as IsBroken, Ended, Open}
use Rattle.host_streams.specs.Readers.{OnlyLimit, left}
use Rattle.host_streams.proofs.Held.{is_broken}
use Rattle.host_streams.specs.Mains.{FaultIs, GivenIs, IsOfNumber, MainCounts, MainPhase, NameLen, PhaseBy, ReadsMain, StepEnds, begins, begun, has_operand, idle, is_equals, kept_in, left_main, main_of, main_source, operands_of, passed, reading_of, rest_of, with_file, with_main}

-- The reader at hand.

source_is : (outside : Outside) (m : MainInput) (inner : Inner) (rs : Option ℕ) (reader : MainReader) → record_separator (special_text Rs inner) ≡ rs →
    go_on false (Some reader) (next_operand outside) (with_main m (kept_in inner)) ≡ (first_record rs (main_source reader m) >>= λ got. got_main (next_operand outside) reader (with_main m (kept_in inner)) got)
source_is outside m inner rs Standard asked = ap (λ q. first_record q m.standard >>= λ got. got_main (next_operand outside) Standard (with_main m (kept_in inner)) got) asked
source_is outside m inner rs (File source) asked = ap (λ q. first_record q source >>= λ got. got_main (next_operand outside) (File source) (with_main m (kept_in inner)) got) asked

given_read : (outside : Outside) (m : MainInput) (inner : Inner) (rs : Option ℕ) (reader : MainReader) → m.ended ≡ false → m.reading ≡ Some reader → record_separator (special_text Rs inner) ≡ rs →
    main_input outside (with_main m (kept_in inner)) ≡ (first_record rs (main_source reader m) >>= λ got. got_main (next_operand outside) reader (with_main m (kept_in inner)) got)
given_read outside m inner rs reader live busy asked =
    ap (λ b. go_on b m.reading (next_operand outside) (with_main m (kept_in inner))) live ∙ ap (λ r. go_on false r (next_operand outside) (with_main m (kept_in inner))) busy ∙ source_is outside m inner rs reader asked

leaves_is : (reader : MainReader) (later : Source) (m : MainInput) (inner : Inner) → leaves reader later (with_main m (kept_in inner)) ≡ with_main (left_main reader later m) (kept_in inner)
leaves_is Standard later m inner = refl
leaves_is (File source) later m inner = refl

left_ended : (reader : MainReader) (later : Source) (m : MainInput) → (left_main reader later m).ended ≡ m.ended
left_ended Standard later m = refl
left_ended (File source) later m = refl

-- a record, the end of the reader, a failure, and what is refused
module _ (outside : Outside) (m : MainInput) (inner : Inner) (rs : Option ℕ) (live : m.ended ≡ false) (asked : record_separator (special_text Rs inner) ≡ rs) where
  pub reads_record : (text : List ℕ) (n : MainInput) → ReadsMain rs m (Ok (file.Record text)) n → GivenIs (main_input outside (with_main m (kept_in inner))) (Ok (Some (main.Record text))) outside (with_main m (kept_in inner)) (with_main n (kept_in inner))
  reads_record text n h =
      given_read outside m inner rs h.reader live h.reading asked ∙ ap (λ r. r >>= λ got. got_main (next_operand outside) h.reader (with_main m (kept_in inner)) got) h.answers
      ∙ ap (λ i. Ok (i, Taken text)) (leaves_is h.reader h.later m inner) ∙ ap (λ x. Ok (with_main x (kept_in inner), Taken text)) (sym h.leaves)

  pub reads_end : (n p : MainInput) → ReadsMain rs m (Ok file.End) n → p ≡ idle n → GivenIs (main_input outside (with_main m (kept_in inner))) (Ok None) outside (with_main m (kept_in inner)) (with_main p (kept_in inner))
  reads_end n p h e =
      given_read outside m inner rs h.reader live h.reading asked ∙ ap (λ r. r >>= λ got. got_main (next_operand outside) h.reader (with_main m (kept_in inner)) got) h.answers
      ∙ ap (λ i. next_operand outside (stops_reading i)) (leaves_is h.reader h.later m inner) ∙ ap (λ x. next_operand outside (with_main (idle x) (kept_in inner))) (sym h.leaves)
      ∙ sym (ap (λ b. go_on b None (next_operand outside) (with_main (idle n) (kept_in inner))) (ap (λ (x : MainInput). x.ended) h.leaves ∙ left_ended h.reader h.later m ∙ live))
      ∙ ap (λ x. main_input outside (with_main x (kept_in inner))) (sym e)

  pub reads_failure : (n : MainInput) → ReadsMain rs m (Ok file.Failed) n → GivenIs (main_input outside (with_main m (kept_in inner))) (Err (IsFault ReadFailed)) outside (with_main m (kept_in inner)) (with_main n (kept_in inner))
  reads_failure n h =
      given_read outside m inner rs h.reader live h.reading asked ∙ ap (λ r. r >>= λ got. got_main (next_operand outside) h.reader (with_main m (kept_in inner)) got) h.answers
      ∙ ap (λ i. Ok (i, ReadingFailed)) (leaves_is h.reader h.later m inner) ∙ ap (λ x. Ok (with_main x (kept_in inner), ReadingFailed)) (sym h.leaves)

  same_main : (reader : MainReader) (n : MainInput) (later : Source) → m.reading ≡ Some reader → later ≡ main_source reader m → n ≡ left_main reader later m → n ≡ m
  same_main Standard n later busy e l = l ∙ ap (λ s. record m { standard = s; reading = Some Standard }) e ∙ ap (λ r. record m { reading = r }) (sym busy)
  same_main (File source) n later busy e l = l ∙ ap (λ s. record m { reading = Some (File s) }) e ∙ ap (λ r. record m { reading = r }) (sym busy)

  pub reads_refused : (stop : Stop) (n : MainInput) → OnlyLimit {A = FileNext} (Err stop) → ReadsMain rs m (Err stop) n → GivenIs (main_input outside (with_main m (kept_in inner))) (Err stop) outside (with_main m (kept_in inner)) (with_main n (kept_in inner))
  reads_refused (IsFault fault) n limit h =
      let given : main_input outside (with_main m (kept_in inner)) ≡ Err fault = given_read outside m inner rs h.reader live h.reading asked ∙ ap (λ r. r >>= λ got. got_main (next_operand outside) h.reader (with_main m (kept_in inner)) got) h.answers.0 in
      limit_given fault limit given (ap (λ x. main_input outside (with_main x (kept_in inner))) (same_main h.reader n h.later h.reading h.answers.1 h.leaves) ∙ given)
    where
      limit_given : (f : Fault) → f ≡ TextLimit → main_input outside (with_main m (kept_in inner)) ≡ Err f → main_input outside (with_main n (kept_in inner)) ≡ Err f → FaultIs (main_input outside (with_main m (kept_in inner))) f outside (with_main n (kept_in inner))
      limit_given f e a b =
          subst (λ (x : Fault). FaultIs (main_input outside (with_main m (kept_in inner))) x outside (with_main n (kept_in inner))) (sym e) (a ∙ ap (λ x. Err x) e, b ∙ ap (λ x. Err x) e)
  reads_refused NoMemory n limit h = ap (λ x. main_input outside (with_main x (kept_in inner))) (sym (same_main h.reader n h.later h.reading h.answers h.leaves))

-- An operand, or what follows the operands: no file is read.

same_on : (outside : Outside) (inner : Inner) (reader : MainReader) (s : Source) (n : ℕ) (r : Result (Got × Source) Fault) →
    (r >>= λ got. got_main (rest_of (record { standard = s; next = n; operands = SomeFile; reading = None; ended = false }) outside) reader (with_main (record { standard = s; next = n; operands = SomeFile; reading = Some reader; ended = false }) inner) got)
    ≡ (r >>= λ got. got_main (next_operand outside) reader (with_main (record { standard = s; next = n; operands = SomeFile; reading = Some reader; ended = false }) inner) got)
same_on outside inner reader s n (Err fault) = refl
same_on outside inner reader s n (Ok (Record text, later)) = refl
same_on outside inner Standard s n (Ok (AtEnd, later)) = refl
same_on outside inner (File source) s n (Ok (AtEnd, later)) = refl
same_on outside inner reader s n (Ok (Broken, later)) = refl

same_over : (outside : Outside) (inner : Inner) (s : Source) (n : ℕ) (r : Result (Got × Source) Fault) →
    (r >>= λ got. got_main over Standard (with_main (record { standard = s; next = n; operands = NoneLeft; reading = Some Standard; ended = false }) inner) got)
    ≡ (r >>= λ got. got_main (next_operand outside) Standard (with_main (record { standard = s; next = n; operands = NoneLeft; reading = Some Standard; ended = false }) inner) got)
same_over outside inner s n (Err fault) = refl
same_over outside inner s n (Ok (Record text, later)) = refl
same_over outside inner s n (Ok (AtEnd, later)) = refl
same_over outside inner s n (Ok (Broken, later)) = refl

pub follow_at : (outside : Outside) (inner : Inner) (s : Source) (n : ℕ) (r : Option MainReader) →
    follows NoFile (with_main (record { standard = s; next = n; operands = NoFile; reading = r; ended = false }) inner)
    ≡ main_input outside (begun [] (with_main (record { standard = s; next = n; operands = NoneLeft; reading = Some Standard; ended = false }) inner))
follow_at outside inner s n r = same_over outside (begun [] inner) s n (record_by inner.finds (record_separator (special_text Rs (begun [] inner))) s)

pub follow_over : (f : Found) → f ≢ found.NoFile → (inner : Inner) (m : MainInput) → follows (operands_of f) (with_main m inner) ≡ Ok (with_main (record m { ended = true }) inner, Over)
follow_over found.NoFile other inner m = absurd (other refl)
follow_over found.SomeFile other inner m = refl
follow_over found.NoneLeft other inner m = refl

taken_opens : (on : Inner → Result (Inner × Main) Fault) (outside : Outside) (text : List ℕ) (inner : Inner) → text ≢ [] → assignment_of text ≡ None →
    taken on outside text inner ≡ opened on text (reader_of (seen inner outside) text) (file_named inner)
taken_opens on outside [] inner plain none = absurd (plain refl)
taken_opens on outside (c ∷ cs) inner plain none = ap (λ a. file_or_assignment on outside (c ∷ cs) a inner) none

open_at : (outside : Outside) (inner : Inner) (s : Source) (n : ℕ) (o : Operands) (r : Option MainReader) (text : List ℕ) (reader : MainReader) →
    opened (rest_of (record { standard = s; next = n; operands = o; reading = r; ended = false }) outside) text (Some reader) (file_named (with_main (record { standard = s; next = n; operands = o; reading = r; ended = false }) inner))
    ≡ main_input outside (begun text (with_main (record { standard = s; next = n; operands = SomeFile; reading = Some reader; ended = false }) (observed inner)))
open_at outside inner s n o r text Standard =
    same_on outside (begun text (observed inner)) Standard s n (record_by (finds_after inner.finds) (record_separator (special_text Rs (begun text inner))) s)
open_at outside inner s n o r text (File source) =
    same_on outside (begun text (observed inner)) (File source) s n (record_by (finds_after inner.finds) (record_separator (special_text Rs (begun text inner))) source)

-- a file is opened, or does not open
pub opens_at : (outside : Outside) (inner : Inner) (s : Source) (n : ℕ) (o : Operands) (r : Option MainReader) (text : List ℕ) (reader : MainReader) → text ≢ [] → assignment_of text ≡ None → reader_of (seen inner outside) text ≡ Some reader →
    taken (rest_of (record { standard = s; next = n; operands = o; reading = r; ended = false }) outside) outside text (with_main (record { standard = s; next = n; operands = o; reading = r; ended = false }) inner)
    ≡ main_input outside (begun text (with_main (record { standard = s; next = n; operands = SomeFile; reading = Some reader; ended = false }) (observed inner)))
opens_at outside inner s n o r text reader plain none is =
    let m : MainInput = record { standard = s; next = n; operands = o; reading = r; ended = false } in
    taken_opens (rest_of m outside) outside text (with_main m inner) plain none
    ∙ ap (λ x. opened (rest_of m outside) text x (file_named (with_main m inner))) is ∙ open_at outside inner s n o r text reader

pub opens_not : (outside : Outside) (inner : Inner) (m : MainInput) (text : List ℕ) → text ≢ [] → assignment_of text ≡ None → reader_of (seen inner outside) text ≡ None →
    taken (rest_of m outside) outside text (with_main m inner) ≡ Ok (with_main (with_file m) (observed inner), NotOpened)
opens_not outside inner m text plain none is =
    taken_opens (rest_of m outside) outside text (with_main m inner) plain none ∙ ap (λ x. opened (rest_of m outside) text x (file_named (with_main m inner))) is

-- An assignment.

again : (p : ℕ → Bool) (xs : List ℕ) → prefix_len p (take_while p xs) ≡ prefix_len p xs
again p [] = refl
again p (x ∷ xs) = by (p x) refl (again p xs)
  where
    by : (b : Bool) → p x ≡ b → prefix_len p (take_while p xs) ≡ prefix_len p xs → prefix_len p (take (cond b (1 + prefix_len p xs) 0) (x ∷ xs)) ≡ cond b (1 + prefix_len p xs) 0
    by true is e =
        ap (λ n. prefix_len p (take n (x ∷ xs))) (let h : 1 + prefix_len p xs ≡ suc (prefix_len p xs) = omega arith in h)
        ∙ ap (λ c. cond c (1 + prefix_len p (take_while p xs)) 0) is ∙ ap (λ n. 1 + n) e
    by false is e = refl

taken_again : (p : ℕ → Bool) (xs : List ℕ) → take_while p (take_while p xs) ≡ take_while p xs
taken_again p xs = ap (λ n. take n (take_while p xs)) (again p xs) ∙ take_all (prefix_len p xs) (take_while p xs) (omega (arith, length-take (prefix_len p xs) xs))

drop_all : (xs : List ℕ) → drop (length xs) xs ≡ []
drop_all [] = refl
drop_all (x ∷ xs) = drop_all xs

and_true : (b : Bool) → b && true ≡ b
and_true true = refl
and_true false = refl

name_by : (c : ℕ) (ys : List ℕ) → take_while continues_name ys ≡ ys → is_name (c ∷ ys) ≡ begins_name c
name_by c ys e = ap (λ zs. begins_name c && is_empty (drop (length zs) ys)) e ∙ ap (λ zs. begins_name c && is_empty zs) (drop_all ys) ∙ and_true (begins_name c)

name_begins : (text : List ℕ) → is_name (take_while continues_name text) ≡ begins (take_while continues_name text)
name_begins [] = refl
name_begins (c ∷ cs) = by (continues_name c)
  where
    by : (b : Bool) → is_name (take (cond b (1 + prefix_len continues_name cs) 0) (c ∷ cs)) ≡ begins (take (cond b (1 + prefix_len continues_name cs) 0) (c ∷ cs))
    by true =
        let h : 1 + prefix_len continues_name cs ≡ suc (prefix_len continues_name cs) = omega arith in
        ap (λ n. is_name (take n (c ∷ cs))) h ∙ name_by c (take_while continues_name cs) (taken_again continues_name cs) ∙ ap (λ n. begins (take n (c ∷ cs))) (sym h)
    by false = refl

behind_is : (name rest : List ℕ) (c : Bool) → is_name name ≡ c → (b : Bool) → (is_equals rest && c) ≡ b → behind_name name rest ≡ cond b (Some (name, drop 1 rest)) None
behind_is name [] c e b f = ap (λ x. cond x (Some (name, [])) None) f
behind_is name (d ∷ ds) c e b f = ap (λ x. if (d == 61) && x then Some (name, ds) else None) e ∙ ap (λ x. if x then Some (name, ds) else None) f

-- what the first bytes and the byte after them tell
assignment_is : (text : List ℕ) (n : ℕ) (b : Bool) → n ≡ prefix_len continues_name text → n ≤ length text → b ≡ (is_equals (drop n text) && begins (take n text)) → assignment_of text ≡ cond b (Some (take n text, drop (n + 1) text)) None
assignment_is text n b e within f =
    let w : take n text ≡ take_while continues_name text = ap (λ k. take k text) e in
    let l : length (take_while continues_name text) ≡ n = ap length (sym w) ∙ (let h : length (take n text) ≡ n = omega (arith, length-take n text) in h) in
    ap (λ k. behind_name (take_while continues_name text) (drop k text)) l ∙ ap (λ name. behind_name name (drop n text)) (sym w)
    ∙ behind_is (take n text) (drop n text) (begins (take n text)) (ap is_name w ∙ name_begins text ∙ ap begins (sym w)) b (sym f)
    ∙ ap (λ rest. cond b (Some (take n text, rest)) None) (drop-drop 1 n text)

equals_within : (n : ℕ) (text : List ℕ) → is_equals (drop n text) ≡ true → n + 1 ≤ length text
equals_within zero [] e = cc
equals_within zero (x ∷ xs) e = omega arith
equals_within (suc n) [] e = cc
equals_within (suc n) (x ∷ xs) e = let h : n + 1 ≤ length xs = equals_within n xs e in omega arith

pub name_there : (text : List ℕ) (n : ℕ) → n ≡ prefix_len continues_name text → n ≤ length text → is_equals (drop n text) ≡ true → begins (take n text) ≡ true → NameLen text (Some n)
name_there text n e within f g = (equals_within n text f, assignment_is text n true e within (sym (ap (λ b. b && begins (take n text)) f ∙ g)))

pub name_unequal : (text : List ℕ) (n : ℕ) → n ≡ prefix_len continues_name text → n ≤ length text → is_equals (drop n text) ≡ false → NameLen text None
name_unequal text n e within f = assignment_is text n false e within (sym (ap (λ b. b && begins (take n text)) f))

pub name_unbegun : (text : List ℕ) (n : ℕ) → n ≡ prefix_len continues_name text → n ≤ length text → is_equals (drop n text) ≡ true → begins (take n text) ≡ false → NameLen text None
name_unbegun text n e within f g = assignment_is text n false e within (sym (ap (λ b. b && begins (take n text)) f ∙ g))

-- an operand that is skipped, and one that is an assignment
pub skips_at : (outside : Outside) (inner : Inner) (s : Source) (n : ℕ) (f : Found) → f ≢ found.NoneLeft → (text : List ℕ) → text ≡ [] →
    taken (rest_of (record { standard = s; next = n; operands = operands_of f; reading = None; ended = false }) outside) outside text (with_main (record { standard = s; next = n; operands = operands_of f; reading = None; ended = false }) inner)
    ≡ main_input outside (with_main (record { standard = s; next = n; operands = operands_of f; reading = None; ended = false }) inner)
skips_at outside inner s n f some text e =
    ap (λ t. taken (rest_of (record { standard = s; next = n; operands = operands_of f; reading = None; ended = false }) outside) outside t (with_main (record { standard = s; next = n; operands = operands_of f; reading = None; ended = false }) inner)) e ∙ by f some
  where
    by : (g : Found) → g ≢ found.NoneLeft → reach (2 ^ 20 + 1 - n) outside (with_main (record { standard = s; next = n; operands = operands_of g; reading = None; ended = false }) inner)
        ≡ main_input outside (with_main (record { standard = s; next = n; operands = operands_of g; reading = None; ended = false }) inner)
    by found.NoFile h = refl
    by found.SomeFile h = refl
    by found.NoneLeft h = absurd (h refl)

pub assigns_at : (on : Inner → Result (Inner × Main) Fault) (outside : Outside) (text name value : List ℕ) (inner : Inner) → assignment_of text ≡ Some (name, value) →
    taken on outside text inner ≡ (assigned name value inner >>= λ x. made on x)
assigns_at on outside [] name value inner e = cc
assigns_at on outside (c ∷ cs) name value inner e = ap (λ a. file_or_assignment on outside (c ∷ cs) a inner) e

and_left : (a b : Bool) → (a && b) ≡ true → a ≡ true
and_left true b e = refl
and_left false b e = cc

and_right : (a b : Bool) → (a && b) ≡ true → b ≡ true
and_right true b e = e
and_right false b e = cc

-- Whether one is to be reached.

module _ (outside : Outside) (inner : Inner) (s : Source) (n : ℕ) (f : Found) (some : f ≢ found.NoneLeft) where
  abbrev pub at : MainInput
  at = record { standard = s; next = n; operands = operands_of f; reading = None; ended = false }

  reached_by : main_input outside (with_main at inner) ≡ reach (2 ^ 20 + 1 - n) outside (with_main at inner)
  reached_by = by f some
    where
      by : (g : Found) → g ≢ found.NoneLeft → main_input outside (with_main (record { standard = s; next = n; operands = operands_of g; reading = None; ended = false }) inner)
          ≡ reach (2 ^ 20 + 1 - n) outside (with_main (record { standard = s; next = n; operands = operands_of g; reading = None; ended = false }) inner)
      by found.NoFile h = refl
      by found.SomeFile h = refl
      by found.NoneLeft h = absurd (h refl)

  pub reach_fault : (fault : Fault) → number_of_value (inner.specials Argc) ≡ Err fault → main_input outside (with_main at inner) ≡ Err fault
  reach_fault fault e = reached_by ∙ by (2 ^ 20 + 1 - n)
    where
      by : (k : ℕ) → reach k outside (with_main at inner) ≡ Err fault
      by zero = ap (λ z. z >>= λ argc. follows (operands_of f) (with_main at inner)) e
      by (suc k) = ap (λ z. z >>= reached (reach k outside) outside (with_main at inner)) e

  pub reach_end : (count : ℤ) → number_of_value (inner.specials Argc) ≡ Ok count → is_below n count ≡ false → main_input outside (with_main at inner) ≡ follows (operands_of f) (with_main at inner)
  reach_end count e below = reached_by ∙ by (2 ^ 20 + 1 - n)
    where
      by : (k : ℕ) → reach k outside (with_main at inner) ≡ follows (operands_of f) (with_main at inner)
      by zero = ap (λ z. z >>= λ argc. follows (operands_of f) (with_main at inner)) e
      by (suc k) = ap (λ z. z >>= reached (reach k outside) outside (with_main at inner)) e ∙ ap (λ b. elim b [ true ↦ taken (reach k outside) outside (operand_text n (with_main at inner)) (with_main (passed at) inner) | false ↦ follows (operands_of f) (with_main at inner) ]) below

  pub reach_past : (count : ℤ) → number_of_value (inner.specials Argc) ≡ Ok count → 2 ^ 20 < n → main_input outside (with_main at inner) ≡ follows (operands_of f) (with_main at inner)
  reach_past count e past =
      reached_by ∙ ap (λ k. reach k outside (with_main at inner)) (let h : 2 ^ 20 + 1 - n ≡ 0 = omega arith in h) ∙ ap (λ z. z >>= λ argc. follows (operands_of f) (with_main at inner)) e

  pub reach_one : (count : ℤ) (text : List ℕ) → number_of_value (inner.specials Argc) ≡ Ok count → is_below n count ≡ true → n ≤ 2 ^ 20 → operand_text n inner ≡ text →
      main_input outside (with_main at inner) ≡ taken (rest_of (passed at) outside) outside text (with_main (passed at) inner)
  reach_one count text e below most is =
      reached_by ∙ ap (λ k. reach k outside (with_main at inner)) (let h : 2 ^ 20 + 1 - n ≡ suc (2 ^ 20 + 1 - (n + 1)) = omega arith in h)
      ∙ ap (λ z. z >>= reached (rest_of (passed at) outside) outside (with_main at inner)) e
      ∙ ap (λ b. elim b [ true ↦ taken (rest_of (passed at) outside) outside (operand_text n (with_main at inner)) (with_main (passed at) inner) | false ↦ follows (operands_of f) (with_main at inner) ]) below
      ∙ ap (λ t. taken (rest_of (passed at) outside) outside t (with_main (passed at) inner)) is

-- The same of the main input at hand, where nothing is read.

abbrev pub resting : Source → ℕ → Found → MainInput
resting s n f = record { standard = s; next = n; operands = operands_of f; reading = None; ended = false }

pub rests : (m : Mains) (state : State) → m.reading ≡ reading.Nothing → m.ended ≡ false → main_of m state ≡ resting (left m.standard (state.readers m.standard.id)) m.next m.found
rests m state nothing live =
    ap (λ r. record { standard = left m.standard (state.readers m.standard.id); next = m.next; operands = operands_of m.found; reading = reading_of r state; ended = m.ended }) nothing
    ∙ ap (λ b. record { standard = left m.standard (state.readers m.standard.id); next = m.next; operands = operands_of m.found; reading = None; ended = b }) live

pub no_bytes : (xs copy text : List ℕ) (b : Bool) → xs ≡ copy → copy ≡ text → b ≡ (length xs == 0) → b ≡ true → text ≡ []
no_bytes [] copy text b d e is held = sym (d ∙ e)
no_bytes (x ∷ xs) copy text b d e is held = (let none : length (x ∷ xs) ≡ 0 = eqb-true (length (x ∷ xs)) 0 (sym is ∙ held) in absurd (omega (arith, none)))

-- an empty operand is skipped
pub skip_given : (old : Mains) (state : State) (text : List ℕ) (inner : Inner) → old.reading ≡ reading.Nothing → old.ended ≡ false → old.found ≢ found.NoneLeft → text ≡ [] →
    taken (rest_of (passed (main_of old state)) state.outside) state.outside text (with_main (passed (main_of old state)) (kept_in inner)) ≡ main_input state.outside (with_main (passed (main_of old state)) (kept_in inner))
skip_given old state text inner nothing live some none =
    let s : Source = left old.standard (state.readers old.standard.id) in
    let at : passed (main_of old state) ≡ resting s (old.next + 1) old.found = ap passed (rests old state nothing live) in
    ap (λ (m : MainInput). taken (rest_of m state.outside) state.outside text (with_main m (kept_in inner))) at
    ∙ skips_at state.outside (kept_in inner) s (old.next + 1) old.found some text none
    ∙ ap (λ (m : MainInput). main_input state.outside (with_main m (kept_in inner))) (sym at)

abbrev reader_in : Reading → State → MainReader
reader_in reading.Nothing state = Standard
reader_in reading.Standard state = Standard
reader_in (reading.File r) state = File (left r (state.readers r.id))

is_in : (r : Reading) (state : State) → r ≢ reading.Nothing → reading_of r state ≡ Some (reader_in r state)
is_in reading.Nothing state busy = absurd (busy refl)
is_in reading.Standard state busy = refl
is_in (reading.File r) state busy = refl

-- an operand names a file, which is opened, or does not open
module _ (old : Mains) (reads : Reading) (before after : State) (name : List ℕ) (inner : Inner) (live : old.ended ≡ false) (plain : name ≢ []) (none : assignment_of name ≡ None)
    (is : reader_of before.outside name ≡ reading_of reads after) (same : after.readers old.standard.id ≡ before.readers old.standard.id) where
  file_is : main_of (record old { next = old.next + 1; found = found.SomeFile; reading = reads }) after
      ≡ record { standard = left old.standard (before.readers old.standard.id); next = old.next + 1; operands = SomeFile; reading = reading_of reads after; ended = false }
  file_is =
      ap (λ (x : Source). record { standard = left old.standard x; next = old.next + 1; operands = SomeFile; reading = reading_of reads after; ended = old.ended }) same
      ∙ ap (λ (b : Bool). record { standard = left old.standard (before.readers old.standard.id); next = old.next + 1; operands = SomeFile; reading = reading_of reads after; ended = b }) live

  passed_is : passed (main_of old before)
      ≡ record { standard = left old.standard (before.readers old.standard.id); next = old.next + 1; operands = operands_of old.found; reading = reading_of old.reading before; ended = false }
  passed_is = ap (λ (b : Bool). record { standard = left old.standard (before.readers old.standard.id); next = old.next + 1; operands = operands_of old.found; reading = reading_of old.reading before; ended = b }) live

  pub open_given : reads ≢ reading.Nothing →
      taken (rest_of (passed (main_of old before)) before.outside) before.outside name (with_main (passed (main_of old before)) (kept_in inner))
      ≡ main_input before.outside (begun name (with_main (main_of (record old { next = old.next + 1; found = found.SomeFile; reading = reads }) after) (kept_in inner)))
  open_given busy =
      ap (λ (m : MainInput). taken (rest_of m before.outside) before.outside name (with_main m (kept_in inner))) passed_is
      ∙ opens_at before.outside (kept_in inner) (left old.standard (before.readers old.standard.id)) (old.next + 1) (operands_of old.found) (reading_of old.reading before) name (reader_in reads after) plain none (is ∙ is_in reads after busy)
      ∙ ap (λ (r : Option MainReader). main_input before.outside (begun name (with_main (record { standard = left old.standard (before.readers old.standard.id); next = old.next + 1; operands = SomeFile; reading = r; ended = false }) (kept_in inner))))
      (sym (is_in reads after busy))
      ∙ ap (λ (m : MainInput). main_input before.outside (begun name (with_main m (kept_in inner)))) (sym file_is)

  pub unopened_given : old.reading ≡ reading.Nothing → reads ≡ reading.Nothing →
      taken (rest_of (passed (main_of old before)) before.outside) before.outside name (with_main (passed (main_of old before)) (kept_in inner))
      ≡ Ok (with_main (main_of (record old { next = old.next + 1; found = found.SomeFile; reading = reads }) after) (kept_in inner), NotOpened)
  unopened_given idle nothing =
      opens_not before.outside (kept_in inner) (passed (main_of old before)) name plain none (is ∙ ap (λ (r : Reading). reading_of r after) nothing)
      ∙ ap (λ (m : MainInput). Ok (with_main (with_file m) (kept_in inner), NotOpened)) passed_is
      ∙ ap (λ (r : Option MainReader). Ok (with_main (record { standard = left old.standard (before.readers old.standard.id); next = old.next + 1; operands = SomeFile; reading = r; ended = false }) (kept_in inner), NotOpened))
      (ap (λ (r : Reading). reading_of r before) idle ∙ sym (ap (λ (r : Reading). reading_of r after) nothing))
      ∙ ap (λ (m : MainInput). Ok (with_main m (kept_in inner), NotOpened)) (sym file_is)

module _ (outside : Outside) (inner : Inner) (m : MainInput) (s : Source) (n : ℕ) (f : Found) (is : m ≡ resting s n f) where
  pub none_left : f ≡ found.NoneLeft → main_input outside (with_main m inner) ≡ follows m.operands (with_main m inner)
  none_left e =
      let at : m ≡ resting s n found.NoneLeft = is ∙ ap (resting s n) e in
      ap (λ (x : MainInput). main_input outside (with_main x inner)) at ∙ sym (ap (λ (x : MainInput). follows x.operands (with_main x inner)) at)

  no_number : f ≢ found.NoneLeft → (fault : Fault) → number_of_value (inner.specials Argc) ≡ Err fault → main_input outside (with_main m inner) ≡ Err fault
  no_number some fault e = ap (λ (x : MainInput). main_input outside (with_main x inner)) is ∙ reach_fault outside inner s n f some fault e

  past_by : f ≢ found.NoneLeft → (count : ℤ) → number_of_value (inner.specials Argc) ≡ Ok count → (b : Bool) → nat_le n (2 ^ 20) ≡ b → (b && is_below n count) ≡ false →
      main_input outside (with_main (resting s n f) inner) ≡ follows (operands_of f) (with_main (resting s n f) inner)
  past_by some count e true few below = reach_end outside inner s n f some count e below
  past_by some count e false many below = reach_past outside inner s n f some count e (leb-false n (2 ^ 20) many)

  none_more : f ≢ found.NoneLeft → (count : ℤ) → number_of_value (inner.specials Argc) ≡ Ok count → (nat_le n (2 ^ 20) && is_below n count) ≡ false →
      main_input outside (with_main m inner) ≡ follows m.operands (with_main m inner)
  none_more some count e below =
      ap (λ (x : MainInput). main_input outside (with_main x inner)) is ∙ past_by some count e (nat_le n (2 ^ 20)) refl below ∙ sym (ap (λ (x : MainInput). follows x.operands (with_main x inner)) is)

  one_more : f ≢ found.NoneLeft → (count : ℤ) (text : List ℕ) → number_of_value (inner.specials Argc) ≡ Ok count → (nat_le n (2 ^ 20) && is_below n count) ≡ true → operand_text n inner ≡ text →
      main_input outside (with_main m inner) ≡ taken (rest_of (passed m) outside) outside text (with_main (passed m) inner)
  one_more some count text e has texts =
      ap (λ (x : MainInput). main_input outside (with_main x inner)) is
      ∙ reach_one outside inner s n f some count text e (and_right (nat_le n (2 ^ 20)) (is_below n count) has) (leb-true n (2 ^ 20) (and_left (nat_le n (2 ^ 20)) (is_below n count) has)) texts
      ∙ sym (ap (λ (x : MainInput). taken (rest_of (passed x) outside) outside text (with_main (passed x) inner)) is)

-- as the number of ARGC tells
abbrev pub bool_of : Result Bool Fault → Bool
bool_of (Ok b) = b
bool_of (Err fault) = false

abbrev pub fault_or : Fault → Result Bool Fault → Fault
fault_or other (Ok b) = other
fault_or other (Err fault) = fault

module _ (outside : Outside) (inner : Inner) (m : MainInput) (s : Source) (n : ℕ) (f : Found) (is : m ≡ resting s n f) (some : f ≢ found.NoneLeft) where
  pub has_one : (z : Result ℤ Fault) (text : List ℕ) → number_of_value (inner.specials Argc) ≡ z → has_operand n z ≡ Ok true → operand_text n inner ≡ text →
      main_input outside (with_main m inner) ≡ taken (rest_of (passed m) outside) outside text (with_main (passed m) inner)
  has_one (Ok count) text e has texts = one_more outside inner m s n f is some count text e (ap bool_of has) texts
  has_one (Err fault) text e has texts = cc

  pub has_none : (z : Result ℤ Fault) → number_of_value (inner.specials Argc) ≡ z → has_operand n z ≡ Ok false → main_input outside (with_main m inner) ≡ follows m.operands (with_main m inner)
  has_none (Ok count) e has = none_more outside inner m s n f is some count e (ap bool_of has)
  has_none (Err fault) e has = cc

  pub has_fault : (z : Result ℤ Fault) (fault : Fault) → number_of_value (inner.specials Argc) ≡ z → has_operand n z ≡ Err fault → main_input outside (with_main m inner) ≡ Err fault
  has_fault (Ok count) fault e has = cc
  has_fault (Err other) fault e has = no_number outside inner m s n f is some fault (e ∙ ap (λ f. Err f) (ap (fault_or other) has))

-- what is to be given may be given later
pub given_later : (given later : Result (Inner × Main) Fault) (r : Result (Option MainNext) Stop) (outside : Outside) (old new : Inner) → given ≡ later → GivenIs later r outside old new → GivenIs given r outside old new
given_later given later r outside old new e h = subst (λ (x : Result (Inner × Main) Fault). GivenIs x r outside old new) (sym e) h

pub given_after : (r : Result (Option MainNext) Stop) (outside : Outside) (first old new : Inner) → main_input outside first ≡ main_input outside old → GivenIs (main_input outside old) r outside old new → GivenIs (main_input outside first) r outside first new
given_after (Ok None) outside first old new e h = e ∙ h
given_after (Ok (Some (main.Record text))) outside first old new e h = e ∙ h
given_after (Ok (Some (main.Assign name text))) outside first old new e h = e ∙ h
given_after (Ok (Some (main.Opened name))) outside first old new e h = e ∙ h
given_after (Ok (Some main.End)) outside first old new e h = e ∙ h
given_after (Err (IsFault fault)) outside first old new e h = subst (λ (x : Result (Inner × Main) Fault). FaultIs x fault outside new) (sym e) h
given_after (Err NoMemory) outside first old new e h = e ∙ h

-- What is counted, and what is told of a failed read.

pub number_counts : (A : Type 0) (fault : Fault) (n : ℕ) → IsOfNumber fault → MainCounts {A = A} Open (Err (IsFault fault)) n n
number_counts A fault n (inl e) = subst (λ f. MainCounts {A = A} Open (Err (IsFault f)) n n) (sym e) (inr (inl refl), refl)
number_counts A fault n (inr e) = subst (λ f. MainCounts {A = A} Open (Err (IsFault f)) n n) (sym e) (inr (inr refl), refl)

pub number_phase : (A : Type 0) (fault : Fault) (q : Phase) → IsOfNumber fault → q ≢ IsBroken → MainPhase {A = A} Open (Err (IsFault fault)) q
number_phase A fault q (inl e) live = subst (λ f. MainPhase {A = A} Open (Err (IsFault f)) q) (sym e) ((λ is. cc is), live)
number_phase A fault q (inr e) live = subst (λ f. MainPhase {A = A} Open (Err (IsFault f)) q) (sym e) ((λ is. cc is), live)

is_whole : (p : Phase) → p ≢ IsBroken → is_broken p ≡ false
is_whole Open live = refl
is_whole Ended live = refl
is_whole IsBroken live = absurd (live refl)

pub same_break : (p q : Phase) → PhaseBy false p q → is_broken q ≡ is_broken p
same_break p q h = is_whole q h.1 ∙ sym (is_whole p h.0)

pub phase_since : (b : Bool) (p q r : Phase) → is_broken q ≡ is_broken p → PhaseBy b q r → PhaseBy b p r
phase_since true p q r same h = h
phase_since false p q r same h = ((λ e. false≢true (sym (is_whole q h.0) ∙ same ∙ ap is_broken e)), h.1)

-- A step that gave nothing.

pub none_since : {o : Option MainNext} {was is : Bool} → o ≡ None → StepEnds was (Ok o) is → (was ≡ false) × (is ≡ false)
none_since {o} {was} {is} e h = subst (λ x. StepEnds was (Ok x) is) e h

pub told_since : {o : Option MainNext} {outside later : Outside} {first : Result (Inner × Main) Fault} (old new : Inner) → o ≡ None → later ≡ outside → first ≡ main_input outside old → GivenIs (main_input later old) (Ok o) later old new →
    first ≡ main_input outside new
told_since {o} {outside} {later} {first} old new e same before h =
    before ∙ ap (λ out. main_input out old) (sym same) ∙ subst (λ x. GivenIs (main_input later old) (Ok x) later old new) e h ∙ ap (λ out. main_input out new) same

-- ARGC is no number
pub number_given : (given : Result (Inner × Main) Fault) (fault : Fault) (outside : Outside) (new : Inner) → IsOfNumber fault → given ≡ Err fault → main_input outside new ≡ Err fault → FaultIs given fault outside new
number_given given fault outside new (inl e) a b = subst (λ (x : Fault). FaultIs given x outside new) (sym e) (a ∙ ap (λ x. Err x) e, b ∙ ap (λ x. Err x) e)
number_given given fault outside new (inr e) a b = subst (λ (x : Fault). FaultIs given x outside new) (sym e) (a ∙ ap (λ x. Err x) e, b ∙ ap (λ x. Err x) e)
