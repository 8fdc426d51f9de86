-- What rows of the table leave as it is: the assignment that is pending, those that are still to be made, and the names that are announced.
use Rattle.std.proofs.Common.{◌≡◌, ◌≤◌, ◌+◌, ◌++◌, ℕ, zero, suc, ◌^◌, Bool, true, false, List, [], ◌∷◌, length, Some, None, Option, Result, Ok, Err, arith, refl, ◌∙◌}
use Rattle.std.proofs.lemmas.Bool.{leb-true}
use Rattle.std.proofs.lemmas.List.{length-append, length-map, length-replicate, length-set}
use Rattle.std.specs.Prelude.{◌-◌, ℤ, if◌then◌else◌, map, nat_le, negsuc, pos, replicate, slice_set, take}
use Rattle.awk_values.specs.Values.{number_of_value, text_of_value}
use Rattle.awk_values.specs.declared.fault.Fault.{Fault}
use Rattle.awk_values.specs.declared.fault.Fault.TheVariants.{FieldNumber, TooManyStreams}
use Rattle.awk_values.specs.declared.value.Value.{Value}
use Rattle.awk_values.specs.declared.value.Value.TheVariants.{StrNum, Text, Uninit}
use Rattle.world_core.specs.WorldState.{Outside, Source, Named}
use Rattle.sem_primitives.specs.SharedState.{Inner, MainReader, Standard, File, Shared, ◌>>=◌, settles}
use Rattle.ere_syntax.specs.Tree.{Tree}
use Rattle.sem_primitives.specs.Numbers.{Number}
use Rattle.sem_primitives.specs.Sorts.{Row}
use Rattle.sem_primitives.specs.Texts.{limited, counted}
use Rattle.sem_primitives.specs.Fields.{fields_of, Separator, pieces_of}
use Rattle.sem_primitives.specs.Records.{Got, Record, AtEnd, Broken}
use Rattle.sem_primitives.specs.FieldMeaning.{with_record, with_fields, with_field, field_number, set_special, done, special_text, joined, at_least, resized}
use Rattle.sem_primitives.specs.Rows.{set_special_row, set_field_row}
use Rattle.sem_primitives.specs.ArrayMeaning.{found, visited, with_array, numbered}
use Rattle.sem_primitives.specs.TextMeaning.{match_row, match_start, with_match, substitute_row, substituted_by, replaced, places_of, split_row, splits_at}
use Rattle.sem_primitives.specs.FirstMatch.{first_match}
use Rattle.sem_primitives.specs.Eres.{expression_of}
use Rattle.sem_primitives.specs.Finds.{observed, observed_by, seen}
use Rattle.sem_primitives.specs.InputMeaning.{as_record, as_line, got_file, read_file, opened_file, open_or_read, getline_file_by, gives_up, reader_named}
use Rattle.sem_primitives.specs.InputParts.{next_record, source_of}
use Rattle.sem_primitives.specs.OutputMeaning.{kept_open, opened_if, written_by, put_text, printf_by, has_room, is_writing, formatted_values, operands_of, file_name, printed}
use Rattle.sem_primitives.specs.Table.{arguments_of, meaning, listed_meaning}
use Rattle.sem_primitives.specs.declared.answers.InputAnswer.{InputAnswer}
use Rattle.sem_primitives.specs.declared.constants.Destination.{Destination}
use Rattle.sem_primitives.specs.declared.constants.Destination.TheVariants as destination
use Rattle.sem_primitives.specs.declared.constants.Special.{Special}
use Rattle.sem_primitives.specs.declared.constants.Special.TheVariants.{Nf, Fs, Rs, Ofs}
use Rattle.sem_primitives.specs.declared.table.Primitive.{Primitive}
use Rattle.sem_primitives.specs.declared.table.Primitive.TheVariants as row
use Rattle.sem_primitives.specs.declared.table.Listed.{Listed}
use Rattle.sem_primitives.specs.declared.table.Listed.TheVariants as listed

-- a record has at most 1,048,576 fields
abbrev pub Few : Inner → Type 0
Few i = length i.fields ≤ 2 ^ 20

pub record Keeps (i j : Inner) : Type 0 where
  pub pending : j.pending ≡ i.pending
  pub names : j.names ≡ i.names
  pub assigns : j.assigns ≡ i.assigns
  pub few : Few i → Few j

-- arrays too
pub record Still (i j : Inner) : Type 0 where
  pub keeps : Keeps i j
  pub arrays : j.arrays ≡ i.arrays

pub keeps_same : (i : Inner) → Keeps i i
keeps_same i = record { pending = refl; names = refl; assigns = refl; few = λ h. h }

-- where there is an answer, its state keeps them
abbrev pub GoodBy : (Inner → Inner → Type 0) → {B : Type 0} → (B → Inner) → Inner → Result B Fault → Type 0
GoodBy R g i (Ok x) = R i (g x)
GoodBy R g i (Err f) = Unit {0}

abbrev pub Good : {B : Type 0} → (B → Inner) → Inner → Result B Fault → Type 0
Good g i r = GoodBy Keeps g i r

pub kept_by : (i : Inner) (r : Result Inner Fault) → GoodBy Still (λ j. j) i r → Good (λ j. j) i r
kept_by i (Ok j) h = h.keeps
kept_by i (Err f) h = tt

bound : (R : Inner → Inner → Type 0) → {A B : Type 0} → (g : B → Inner) (i : Inner) (r : Result A Fault) (f : A → Result B Fault) → ((a : A) → GoodBy R g i (f a)) → GoodBy R g i (r >>= f)
bound R g i (Ok a) f h = h a
bound R g i (Err e) f h = tt

-- after something that keeps them
bound_on : {A B : Type 0} → (g : B → Inner) (g1 : A → Inner) (i : Inner) (r : Result A Fault) (f : A → Result B Fault) → Good g1 i r → ((a : A) → Keeps i (g1 a) → Good g i (f a)) → Good g i (r >>= f)
bound_on g g1 i (Ok a) f r h = h a r
bound_on g g1 i (Err e) f r h = tt

-- where what comes first says how it did
bound_is : (R : Inner → Inner → Type 0) → {A B : Type 0} → (g : B → Inner) (i : Inner) (r : Result A Fault) (f : A → Result B Fault) → ((a : A) → r ≡ Ok a → GoodBy R g i (f a)) → GoodBy R g i (r >>= f)
bound_is R g i (Ok a) f h = h a refl
bound_is R g i (Err e) f h = tt

settled_keeps : {A : Type 0} → (s : Shared) (r : Result (Inner × A) Fault) → Good (λ x. x.0) s.inner r → Keeps s.inner (settles s r).inner
settled_keeps s (Ok x) h = h
settled_keeps s (Err f) h = keeps_same s.inner

-- How many fields there are.

number_few : (m n : ℕ) → field_number (pos m) ≡ Ok n → (n ≡ m) × (m ≤ 2 ^ 20)
number_few m n e = by (nat_le m (2 ^ 20)) refl e
  where
    by : (t : Bool) → nat_le m (2 ^ 20) ≡ t → (if t then Ok m else Err FieldNumber) ≡ Ok n → (n ≡ m) × (m ≤ 2 ^ 20)
    by true h q = (cc, leb-true m (2 ^ 20) h)
    by false h q = cc

count_few : (z : ℤ) (n : ℕ) → field_number z ≡ Ok n → n ≤ 2 ^ 20
count_few (pos m) n e = let q = number_few m n e in let same = q.0 in let few = q.1 in omega (arith, same, few)
count_few (negsuc m) n e = cc

map_few : (texts : List (List ℕ)) → length texts ≤ 2 ^ 20 → length (map StrNum texts) ≤ 2 ^ 20
map_few texts le = let s = length-map texts StrNum in omega (arith, s, le)

taken_few : (n : ℕ) (vs : List Value) → (length (take n vs) ≤ n) × (length (take n vs) ≤ length vs)
taken_few zero vs = (omega arith, omega arith)
taken_few (suc n) [] = (omega arith, omega arith)
taken_few (suc n) (v ∷ vs) = let q = taken_few n vs in let a = q.0 in let c = q.1 in (omega (arith, a), omega (arith, c))

resized_few : (n : ℕ) (vs : List Value) → n ≤ 2 ^ 20 → length (resized n vs) ≤ 2 ^ 20
resized_few n vs le =
    let more = replicate (n - length vs) Uninit in
    let a : length (resized n vs) ≡ length (take n vs) + length more = length-append (take n vs) more in
    let c : length more ≡ n - length vs = length-replicate (n - length vs) Uninit in
    let q = taken_few n vs in
    let q0 = q.0 in
    let q1 = q.1 in
    omega (arith, a, c, q0, q1, le)

set_few : (n k : ℕ) (v : Value) (vs : List Value) → n ≤ 2 ^ 20 → length vs ≤ 2 ^ 20 → length (slice_set (at_least n vs) k v) ≤ 2 ^ 20
set_few n k v vs le few =
    let more = replicate (n - length vs) Uninit in
    let s : length (slice_set (at_least n vs) k v) ≡ length (vs ++ more) = length-set (at_least n vs) k v in
    let a : length (vs ++ more) ≡ length vs + length more = length-append vs more in
    let c : length more ≡ n - length vs = length-replicate (n - length vs) Uninit in
    omega (arith, s, a, c, le, few)

pub record_good : (text : List ℕ) (i : Inner) → GoodBy Still (λ j. j) i (with_record text i)
record_good text i =
    bound Still (λ j. j) i (fields_of (special_text Fs i) (special_text Rs i) text) (λ texts. field_number (pos (length texts)) >>= λ n. Ok (record i { whole = StrNum text; fields = map StrNum texts }))
    (λ texts. bound_is Still (λ j. j) i (field_number (pos (length texts))) (λ n. Ok (record i { whole = StrNum text; fields = map StrNum texts }))
    (λ n e. record { keeps = record { pending = refl; names = refl; assigns = refl; few = λ h. map_few texts (number_few (length texts) n e).1 }; arrays = refl }))

fields_good : (values : List Value) (i : Inner) → (Few i → length values ≤ 2 ^ 20) → GoodBy Still (λ j. j) i (with_fields values i)
fields_good values i few = bound Still (λ j. j) i (limited (joined (special_text Ofs i) values)) (λ text. Ok (record i { whole = StrNum text; fields = values })) (λ text. record { keeps = record { pending = refl; names = refl; assigns = refl; few = few }; arrays = refl })

field_good : (k : ℕ) (v : Value) (i : Inner) → k ≤ 2 ^ 20 → GoodBy Still (λ j. j) i (with_field k v i)
field_good zero v i le = record_good (text_of_value v) i
field_good (suc k) v i le = fields_good (slice_set (at_least (suc k) i.fields) k v) i (set_few (suc k) k v i.fields le)

done_good : (i : Inner) (r : Result Inner Fault) → Good (λ j. j) i r → Good (λ x. x.0) i (done r)
done_good i (Ok j) h = h
done_good i (Err f) h = tt

pub special_good : (s : Special) (v : Value) (i : Inner) → GoodBy Still (λ j. j) i (set_special s v i)
special_good Nf v i = bound Still (λ j. j) i (number_of_value v) _ (λ z. bound_is Still (λ j. j) i (field_number z) _ (λ n e. fields_good (resized n i.fields) i (λ few. resized_few n i.fields (count_few z n e))))
special_good _ v i = record { keeps = record { pending = refl; names = refl; assigns = refl; few = λ h. h }; arrays = refl }

match_good : (v ere : Value) (i : Inner) → Good (λ x. x.0) i (match_row v ere i)
match_good v ere i =
    let f : Tree → Result (Inner × Number) Fault = λ t. Ok (with_match (first_match t (text_of_value v) 0) i, counted (match_start (first_match t (text_of_value v) 0))) in
    bound Keeps (λ x. x.0) i (expression_of (text_of_value ere)) f (λ t. record { pending = refl; names = refl; assigns = refl; few = λ h. h })

substituted_good : (ps : List (ℕ × ℕ)) (by text : List ℕ) (i : Inner) → Good (λ x. x.0) i (substituted_by ps by text i)
substituted_good ps by text i =
    let f : List ℕ → Result (Inner × Number) Fault = λ new. Ok (record i { substituted = Some (Text new) }, counted (length ps)) in
    bound Keeps (λ x. x.0) i (limited (replaced text by 0 ps)) f (λ new. record { pending = refl; names = refl; assigns = refl; few = λ h. h })

substitute_good : (ere by target : Value) (all : Bool) (i : Inner) → Good (λ x. x.0) i (substitute_row ere by target all i)
substitute_good ere by target all i =
    bound Keeps (λ x. x.0) i (expression_of (text_of_value ere)) (λ t. substituted_by (places_of t (text_of_value target) all) (text_of_value by) (text_of_value target) i)
    (λ t. substituted_good (places_of t (text_of_value target) all) (text_of_value by) (text_of_value target) i)

split_good : (v : Value) (a : ℕ) (separator : Value) (is_ere : Bool) (i : Inner) → Good (λ x. x.0) i (split_row v a separator is_ere i)
split_good v a separator is_ere i =
    let f : Separator → Result (Inner × Number) Fault = λ s. Ok (with_array a (numbered 1 (pieces_of s false (text_of_value v))) i, counted (length (pieces_of s false (text_of_value v)))) in
    bound Keeps (λ x. x.0) i (splits_at is_ere (text_of_value separator)) f (λ s. record { pending = refl; names = refl; assigns = refl; few = λ h. h })

found_keeps : (a : ℕ) (key : List ℕ) (i : Inner) (o : Option Value) → Keeps i (found a key i o).0
found_keeps a key i (Some v) = keeps_same i
found_keeps a key i None = record { pending = refl; names = refl; assigns = refl; few = λ h. h }

visited_keeps : (t : ℕ) (i : Inner) (rest : List (List ℕ)) → Keeps i (visited t i rest).0
visited_keeps t i [] = keeps_same i
visited_keeps t i (key ∷ rest) = record { pending = refl; names = refl; assigns = refl; few = λ h. h }

given_up_keeps : (o : Option MainReader) (i : Inner) → Keeps i (gives_up o i)
given_up_keeps None i = keeps_same i
given_up_keeps (Some Standard) i = record { pending = refl; names = refl; assigns = refl; few = λ h. h }
given_up_keeps (Some (File source)) i = record { pending = refl; names = refl; assigns = refl; few = λ h. h }

-- something was looked at
looked_keeps : (i : Inner) → Keeps i (observed i)
looked_keeps i = record { pending = refl; names = refl; assigns = refl; few = λ h. h }

looked_by_keeps : (r : Result (Unit {0}) Fault) (i : Inner) → Keeps i (observed_by r i)
looked_by_keeps r i = record { pending = refl; names = refl; assigns = refl; few = λ h. h }

-- Reading a file by its name.

as_record_good : (text : List ℕ) (i j : Inner) → Keeps i j → Good (λ x. x.0) i (as_record text j)
as_record_good text i j h = bound_on (λ x. x.0) (λ k. k) i (with_record text j) _ (after_record (with_record text j) (kept_by j (with_record text j) (record_good text j))) (λ k q. q)
  where
    after_record : (r : Result Inner Fault) → Good (λ k. k) j r → Good (λ k. k) i r
    after_record (Ok k) q = record { pending = q.pending ∙ h.pending; names = q.names ∙ h.names; assigns = q.assigns ∙ h.assigns; few = λ x. q.few (h.few x) }
    after_record (Err f) q = tt

as_line_good : (text : List ℕ) (i j : Inner) → Keeps i j → Good (λ x. x.0) i (as_line text j)
as_line_good text i j h = record { pending = h.pending; names = h.names; assigns = h.assigns; few = h.few }

module _ (keep : List ℕ → Inner → Result (Inner × InputAnswer) Fault) (good : (text : List ℕ) (i j : Inner) → Keeps i j → Good (λ x. x.0) i (keep text j)) where
  got_good : (i j : Inner) (g : Got) → Keeps i j → Good (λ x. x.0) i (got_file keep j g)
  got_good i j (Record text) h = good text i j h
  got_good i j AtEnd h = h
  got_good i j Broken h = h

  read_good : (name : List ℕ) (source : Source) (i j : Inner) → Keeps i j → Good (λ x. x.0) i (read_file keep name source j)
  read_good name source i j h = bound Keeps (λ x. x.0) i (next_record j source) _
      (λ got. got_good i _ got.0 (record { pending = h.pending; names = h.names; assigns = h.assigns; few = h.few }))

  opened_good : (name : List ℕ) (s : Option Source) (i j : Inner) → Keeps i j → Good (λ x. x.0) i (opened_file keep name s j)
  opened_good name None i j h = h
  opened_good name (Some s) i j h = read_good name s i j h

  open_good : (name : List ℕ) (o : Outside) (s : Option Source) (i : Inner) → Good (λ x. x.0) i (open_or_read keep name o s i)
  open_good name o (Some s) i = read_good name s i i (keeps_same i)
  open_good name o None i = by (has_room i)
    where
      by : (r : Bool) → Good (λ x. x.0) i (elim r [ true ↦ opened_file keep name (source_of (seen i o (Named name))) (observed i) | false ↦ Err TooManyStreams ])
      by true = opened_good name (source_of (seen i o (Named name))) i (observed i) (looked_keeps i)
      by false = tt

-- Writing.

open_keeps : (name : List ℕ) (i : Inner) (r : Result (Unit {0}) Fault) → Keeps i (kept_open name (observed_by r i) r)
open_keeps name i (Ok x) = record { pending = refl; names = refl; assigns = refl; few = λ h. h }
open_keeps name i (Err f) = looked_by_keeps (Err f) i

opened_keeps : (room opens : Bool) (name : List ℕ) (append : Bool) (text : List ℕ) (s : Shared) → Keeps s.inner (opened_if room opens name append text s).inner
opened_keeps false opens name append text s = keeps_same s.inner
opened_keeps true false name append text s = keeps_same s.inner
opened_keeps true true name append text s = open_keeps name s.inner _

written_keeps : (is : Bool) (name : List ℕ) (append : Bool) (text : List ℕ) (s : Shared) → Keeps s.inner (written_by is name append text s).inner
written_keeps true name append text s = looked_by_keeps _ s.inner
written_keeps false name append text s = opened_keeps (has_room s.inner) _ name append text s

put_keeps : (to : Destination) (name text : List ℕ) (s : Shared) → Keeps s.inner (put_text to name text s).inner
put_keeps destination.Standard name text s = looked_by_keeps _ s.inner
put_keeps destination.Emptied name text s = written_keeps (is_writing name s.inner.writers) name false text s
put_keeps destination.Appended name text s = written_keeps (is_writing name s.inner.writers) name true text s

printf_keeps : (r : Result (List ℕ) Fault) (to : Destination) (name : List ℕ) (s : Shared) → Keeps s.inner (printf_by r to name s).inner
printf_keeps (Ok text) to name s = put_keeps to name text s
printf_keeps (Err f) to name s = keeps_same s.inner

pub listed_keeps : (l : Listed) (values : List Value) (s : Shared) → Keeps s.inner (listed_meaning l values s).inner
listed_keeps listed.Sprintf values s = keeps_same s.inner
listed_keeps (listed.Print to) values s = put_keeps to (file_name to values) (printed s.inner (operands_of to values)) s
listed_keeps (listed.Printf to) values s = printf_keeps (formatted_values (operands_of to values)) to (file_name to values) s

-- the rows that read the main input, and those of names and assignments, do not
abbrev pub is_quiet : Primitive → Bool
is_quiet row.NextMain = false
is_quiet row.Getline = false
is_quiet row.GetlineVar = false
is_quiet row.Declare = false
is_quiet row.StartAssign = false
is_quiet row.PendingValue = false
is_quiet _ = true

pub row_keeps : (q : Primitive) (r : Row (arguments_of q)) (s : Shared) → is_quiet q ≡ true → Keeps s.inner (meaning q r s).inner
row_keeps row.SetSpecial r s e = settled_keeps s (set_special_row r.0 r.1.0 s.inner) (done_good s.inner (set_special r.0 r.1.0 s.inner) (kept_by s.inner (set_special r.0 r.1.0 s.inner) (special_good r.0 r.1.0 s.inner)))
row_keeps row.SetField r s e = settled_keeps s (set_field_row r.0 r.1.0 s.inner) (bound_is Keeps (λ x. x.0) s.inner (field_number r.0.number) _ (λ k f. done_good s.inner (with_field k r.1.0 s.inner) (kept_by s.inner (with_field k r.1.0 s.inner) (field_good k r.1.0 s.inner (count_few r.0.number k f)))))
row_keeps row.Elem r s e = found_keeps r.0 (text_of_value r.1.0) s.inner _
row_keeps row.IterNext r s e = visited_keeps r.0 s.inner _
row_keeps row.NewArray r s e = record { pending = refl; names = refl; assigns = refl; few = λ h. h }
row_keeps row.SetElem r s e = record { pending = refl; names = refl; assigns = refl; few = λ h. h }
row_keeps row.Delete r s e = record { pending = refl; names = refl; assigns = refl; few = λ h. h }
row_keeps row.Iter r s e = record { pending = refl; names = refl; assigns = refl; few = λ h. h }
row_keeps row.SubResult r s e = record { pending = refl; names = refl; assigns = refl; few = λ h. h }
row_keeps row.Line r s e = record { pending = refl; names = refl; assigns = refl; few = λ h. h }
row_keeps row.BeginEnd r s e = record { pending = refl; names = refl; assigns = refl; few = λ h. h }
row_keeps row.Close r s e = record { pending = refl; names = refl; assigns = refl; few = λ h. h }
row_keeps row.NextFile r s e = given_up_keeps s.inner.main.reading s.inner
row_keeps row.Clear r s e = record { pending = refl; names = refl; assigns = refl; few = λ h. h }
row_keeps row.Match r s e = settled_keeps s (match_row r.0 r.1.0 s.inner) (match_good r.0 r.1.0 s.inner)
row_keeps row.Sub r s e = settled_keeps s (substitute_row r.0 r.1.0 r.1.1.0 r.1.1.1.0 s.inner) (substitute_good r.0 r.1.0 r.1.1.0 r.1.1.1.0 s.inner)
row_keeps row.Split r s e = settled_keeps s (split_row r.0 r.1.0 r.1.1.0 r.1.1.1.0 s.inner) (split_good r.0 r.1.0 r.1.1.0 r.1.1.1.0 s.inner)
row_keeps row.GetlineFile r s e = settled_keeps s (getline_file_by as_record r.0 s.outside s.inner) (open_good as_record as_record_good (text_of_value r.0) s.outside (reader_named (text_of_value r.0) s.inner.readers) s.inner)
row_keeps row.GetlineVarFile r s e = settled_keeps s (getline_file_by as_line r.0 s.outside s.inner) (open_good as_line as_line_good (text_of_value r.0) s.outside (reader_named (text_of_value r.0) s.inner.readers) s.inner)
row_keeps row.NextMain r s e = cc
row_keeps row.Getline r s e = cc
row_keeps row.GetlineVar r s e = cc
row_keeps row.Declare r s e = cc
row_keeps row.StartAssign r s e = cc
row_keeps row.PendingValue r s e = cc
row_keeps _ r s e = keeps_same s.inner
