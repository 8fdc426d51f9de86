-- What a row leaves of a fact on the arrays: rows that are given no array leave them as they are, and `new_array` puts an empty one behind them.
use Rattle.std.proofs.Common.{◌≡◌, ℕ, zero, suc, Bool, true, false, List, [], ◌∷◌, Some, None, Option, Result, Ok, Err, refl}
use Rattle.std.specs.Prelude.{ℤ, ◌-◌, ◌+◌, ◌^◌, ◌++◌, length, map, pos, slice_set}
use Rattle.awk_text.specs.Escapes.{unescaped}
use Rattle.awk_values.specs.Operators.{sum}
use Rattle.awk_values.specs.Values.{number_of_value, text_of_value}
use Rattle.awk_values.specs.declared.fault.Fault.{Fault}
use Rattle.awk_values.specs.declared.fault.Fault.TheVariants.{BadAssignment, TooManyStreams}
use Rattle.awk_values.specs.declared.value.Value.{Value}
use Rattle.awk_values.specs.declared.value.Value.TheVariants.{Num, StrNum, Text, Uninit}
use Rattle.ere_syntax.specs.Tree.{Tree}
use Rattle.world_core.specs.WorldState.{Outside, Source, Named}
use Rattle.sem_primitives.specs.ArrayMeaning.{array, found, numbered, stored, visited, with_array}
use Rattle.sem_primitives.specs.Assignments.{assigned, assigned_by, assigned_global, assignment_of, declared, made_here, named, takes_none}
use Rattle.sem_primitives.specs.Constants.{specials}
use Rattle.sem_primitives.specs.FieldMeaning.{at_least, done, field_number, joined, resized, set_special, special_text, with_field}
use Rattle.sem_primitives.specs.Rows.{set_field_row, set_special_row, getline_file_row, getline_line_file_row, getline_line_row, getline_row, next_main_row}
use Rattle.sem_primitives.specs.FieldMeaning.{with_fields, with_record}
use Rattle.sem_primitives.specs.Fields.{Separator, fields_of, pieces_of}
use Rattle.sem_primitives.specs.FirstMatch.{first_match}
use Rattle.sem_primitives.specs.Eres.{expression_of}
use Rattle.sem_primitives.specs.Finds.{observed, observed_by, seen}
use Rattle.sem_primitives.specs.InputMeaning.{as_line, as_record, counted_by, counted_record}
use Rattle.sem_primitives.specs.InputParts.{Main, Taken, Over, Pending, NotOpened, Failed, begins_reading, file_named, is_below, leaves, next_record, operand_text, passes_operand, reader_of, reader_source, source_of, stops_reading, with_operands}
use Rattle.sem_primitives.specs.MainInput.{file_or_assignment, follows, go_on, got_main, made, main_input, next_operand, opened, over, reach, reach_by, reached, start_assign_row, read_main, start_by, start_from, taken}
use Rattle.sem_primitives.specs.InputMeaning.{getline_by, getline_of, got_file}
use Rattle.sem_primitives.specs.InputMeaning.{gives_up}
use Rattle.sem_primitives.specs.InputMeaning.{next_of, open_or_read, opened_file}
use Rattle.sem_primitives.specs.InputMeaning.{read_file}
use Rattle.sem_primitives.specs.InputMeaning.{reader_named}
use Rattle.sem_primitives.specs.InputMeaning.{with_reader}
use Rattle.sem_primitives.specs.Numbers.{Number}
use Rattle.sem_primitives.specs.OutputMeaning.{file_name, formatted_values, has_room, is_writing, kept_open, opened_if, operands_of, printed, printf_by, put_text}
use Rattle.sem_primitives.specs.OutputMeaning.{written_by}
use Rattle.sem_primitives.specs.Records.{Got, Record, AtEnd, Broken}
use Rattle.sem_primitives.specs.SharedState.{Inner, Pairs, MainReader, Standard, File, Operands, NoFile, SomeFile, NoneLeft, Shared, ◌>>=◌, settles, special_of}
use Rattle.sem_primitives.specs.SharedState.{with_special}
use Rattle.sem_primitives.specs.Sorts.{Row}
use Rattle.sem_primitives.specs.Table.{arguments_of, listed_meaning, meaning}
use Rattle.sem_primitives.specs.declared.table.Primitive.{Primitive}
use Rattle.sem_primitives.specs.declared.table.Primitive.TheVariants as row
use Rattle.sem_primitives.specs.TextMeaning.{match_row, match_start, places_of, replaced, split_row, splits_at, substitute_row, substituted_by, with_match}
use Rattle.sem_primitives.specs.Texts.{counted, limited}
use Rattle.sem_primitives.specs.declared.answers.AssignAnswer.{AssignAnswer}
use Rattle.sem_primitives.specs.declared.answers.InputAnswer.{InputAnswer}
use Rattle.sem_primitives.specs.declared.answers.InputAnswer.TheVariants as input
use Rattle.sem_primitives.specs.declared.constants.Destination.{Destination}
use Rattle.sem_primitives.specs.declared.constants.Destination.TheVariants as destination
use Rattle.sem_primitives.specs.declared.constants.NameKind.{NameKind}
use Rattle.sem_primitives.specs.declared.constants.NameKind.TheVariants.{Scalar, ArrayOrFunction}
use Rattle.sem_primitives.specs.declared.constants.Special.{Special}
use Rattle.sem_primitives.specs.declared.constants.Special.TheVariants.{Argc, Fnr, Fs, Nf, Nr, Ofs, Rs}
use Rattle.sem_primitives.specs.declared.table.Listed.{Listed}
use Rattle.sem_primitives.specs.declared.table.Listed.TheVariants as listed

-- the array that a row may change, by the arguments that it is given
abbrev pub array_changed : (p : Primitive) → Row (arguments_of p) → Option ℕ
array_changed row.Elem r = Some r.0
array_changed row.SetElem r = Some r.0
array_changed row.Delete r = Some r.0
array_changed row.Clear r = Some r.0
array_changed row.Split r = Some r.1.0
array_changed p r = None

module _ (P : List Pairs → Type 0) where
  abbrev pub Has : Inner → Type 0
  Has i = P i.arrays

  -- whatever one array becomes
  abbrev pub Spared : ℕ → Inner → Type 0
  Spared a i = (ps : Pairs) → P (slice_set i.arrays a ps)

  -- where there is an answer, its state has as many
  abbrev pub Good : {B : Type 0} → (B → Inner) → Result B Fault → Type 0
  Good g (Ok x) = Has (g x)
  Good g (Err f) = Unit {0}

  abbrev pub GoodRow : {A : Type 0} → Result (Inner × A) Fault → Type 0
  GoodRow r = Good (λ x. x.0) r

  abbrev pub GoodState : Result Inner Fault → Type 0
  GoodState r = Good (λ i. i) r

  bound : {A B : Type 0} → (g : B → Inner) (r : Result A Fault) (f : A → Result B Fault) → ((a : A) → Good g (f a)) → Good g (r >>= f)
  bound g (Ok a) f h = h a
  bound g (Err e) f h = tt

  -- after something that has as many
  bound_on : {A B : Type 0} → (g : B → Inner) (g1 : A → Inner) (r : Result A Fault) (f : A → Result B Fault) → Good g1 r →
      ((a : A) → Has (g1 a) → Good g (f a)) → Good g (r >>= f)
  bound_on g g1 (Ok a) f r h = h a r
  bound_on g g1 (Err e) f r h = tt

  settled : {A : Type 0} → (s : Shared) (r : Result (Inner × A) Fault) → Has s.inner → GoodRow r → Has (settles s r).inner
  settled s (Ok x) e h = h
  settled s (Err f) e h = e

  -- Fields, special variables, arrays, texts.

  record_good : (text : List ℕ) (i : Inner) → Has i → GoodState (with_record text i)
  record_good text i e =
      let set : List (List ℕ) → Inner = λ texts. record i { whole = StrNum text; fields = map StrNum texts } in
      bound (λ j. j) (fields_of (special_text Fs i) (special_text Rs i) text) (λ texts. field_number (pos (length texts)) >>= λ k. Ok (set texts))
      (λ texts. bound (λ j. j) (field_number (pos (length texts))) (λ k. Ok (set texts)) (λ k. e))

  fields_good : (values : List Value) (i : Inner) → Has i → GoodState (with_fields values i)
  fields_good values i e = bound (λ j. j) (limited (joined (special_text Ofs i) values)) (λ text. Ok (record i { whole = StrNum text; fields = values }))
      (λ text. e)

  field_good : (k : ℕ) (v : Value) (i : Inner) → Has i → GoodState (with_field k v i)
  field_good zero v i e = record_good (text_of_value v) i e
  field_good (suc k) v i e = fields_good (slice_set (at_least (suc k) i.fields) k v) i e

  special_good : (s : Special) (v : Value) (i : Inner) → Has i → GoodState (set_special s v i)
  special_good Nf v i e =
      bound (λ j. j) (number_of_value v) (λ z. field_number z >>= λ k. with_fields (resized k i.fields) i)
      (λ z. bound (λ j. j) (field_number z) (λ k. with_fields (resized k i.fields) i) (λ k. fields_good (resized k i.fields) i e))
  special_good _ v i e = e

  done_good : (r : Result Inner Fault) → GoodState r → GoodRow (done r)
  done_good (Ok j) h = h
  done_good (Err f) h = tt

  set_special_good : (s : Special) (v : Value) (i : Inner) → Has i → GoodRow (set_special_row s v i)
  set_special_good s v i e = done_good (set_special s v i) (special_good s v i e)

  set_field_good : (k : Number) (v : Value) (i : Inner) → Has i → GoodRow (set_field_row k v i)
  set_field_good k v i e = bound (λ x. x.0) (field_number k.number) (λ m. done (with_field m v i)) (λ m. done_good (with_field m v i) (field_good m v i e))

  found_good : (a : ℕ) (key : List ℕ) (i : Inner) (o : Option Value) → Spared a i → Has i → Has (found a key i o).0
  found_good a key i (Some v) f e = e
  found_good a key i None f e = f (stored key Uninit (array a i))

  visited_good : (t : ℕ) (i : Inner) (rest : List (List ℕ)) → Has i → Has (visited t i rest).0
  visited_good t i [] e = e
  visited_good t i (key ∷ rest) e = e

  match_good : (v ere : Value) (i : Inner) → Has i → GoodRow (match_row v ere i)
  match_good v ere i e =
      let m : Tree → Option (ℕ × ℕ) = λ t. first_match t (text_of_value v) 0 in
      bound (λ x. x.0) (expression_of (text_of_value ere)) (λ t. Ok (with_match (m t) i, counted (match_start (m t)))) (λ t. e)

  substituted_good : (ps : List (ℕ × ℕ)) (by text : List ℕ) (i : Inner) → Has i → GoodRow (substituted_by ps by text i)
  substituted_good ps by text i e = bound (λ x. x.0) (limited (replaced text by 0 ps))
      (λ new. Ok (record i { substituted = Some (Text new) }, counted (length ps))) (λ new. e)

  substitute_good : (ere by target : Value) (all : Bool) (i : Inner) → Has i → GoodRow (substitute_row ere by target all i)
  substitute_good ere by target all i e =
      bound (λ x. x.0) (expression_of (text_of_value ere)) (λ t. substituted_by (places_of t (text_of_value target) all) (text_of_value by)
      (text_of_value target) i)
      (λ t. substituted_good (places_of t (text_of_value target) all) (text_of_value by) (text_of_value target) i e)

  split_good : (v : Value) (a : ℕ) (separator : Value) (is_ere : Bool) (i : Inner) → Spared a i → GoodRow (split_row v a separator is_ere i)
  split_good v a separator is_ere i f =
      let pieces : Separator → List (List ℕ) = λ s. pieces_of s false (text_of_value v) in
      bound (λ x. x.0) (splits_at is_ere (text_of_value separator)) (λ s. Ok (with_array a (numbered 1 (pieces s)) i, counted (length (pieces s))))
      (λ s. f (numbered 1 (pieces s)))

  -- Assignments of the command line.

  made_good : (r : Result Inner Fault) → GoodState r → GoodRow (made_here r)
  made_good (Ok j) h = h
  made_good (Err f) h = tt

  global_good : (o : Option (ℕ × NameKind)) (text : List ℕ) (i : Inner) → Has i → GoodRow (assigned_global o text i)
  global_good None text i e = e
  global_good (Some (k, Scalar)) text i e = e
  global_good (Some (k, ArrayOrFunction)) text i e = tt

  assigned_good_by : (o : Option Special) (name text : List ℕ) (i : Inner) → Has i → GoodRow (assigned_by o name text i)
  assigned_good_by (Some s) name text i e = made_good (set_special s (StrNum text) i) (special_good s (StrNum text) i e)
  assigned_good_by None name text i e = global_good (declared 0 name i.names) text i e

  assigned_good : (name text : List ℕ) (i : Inner) → Has i → GoodRow (assigned name text i)
  assigned_good name text i e = on (takes_none name)
    where
      on : (t : Bool) → GoodRow (elim t [ true ↦ Err BadAssignment | false ↦ assigned_by (named name specials) name (unescaped text) i ])
      on true = tt
      on false = assigned_good_by (named name specials) name (unescaped text) i e

  start_by_good : (on : Inner → Result (Inner × AssignAnswer) Fault) → ((j : Inner) → Has j → GoodRow (on j)) → (x : Inner × Bool) → Has x.0 →
      GoodRow (start_by on x)
  start_by_good on good (j, true) e = e
  start_by_good on good (j, false) e = good j e

  start_good : (pairs : List (List ℕ × List ℕ)) (i : Inner) → Has i → GoodRow (start_from pairs i)
  start_good [] i e = e
  start_good (pair ∷ rest) i e =
      bound_on (λ x. x.0) (λ x. x.0) (assigned pair.0 pair.1 (record i { assigns = rest })) (λ x. start_by (start_from rest) x)
      (assigned_good pair.0 pair.1 (record i { assigns = rest }) e) (λ x h. start_by_good (start_from rest) (start_good rest) x h)

  -- The main input.

  leaves_good : (reader : MainReader) (left : Source) (i : Inner) → Has i → Has (leaves reader left i)
  leaves_good Standard left i e = e
  leaves_good (File s) left i e = e

  given_up_good : (o : Option MainReader) (i : Inner) → Has i → Has (gives_up o i)
  given_up_good None i e = e
  given_up_good (Some Standard) i e = e
  given_up_good (Some (File source)) i e = e

  -- where the rest of the input is good
  module _ (on : Inner → Result (Inner × Main) Fault) (good : (i : Inner) → Has i → GoodRow (on i)) where
    got_main_good : (reader : MainReader) (i : Inner) (got : Got × Source) → Has i → GoodRow (got_main on reader i got)
    got_main_good reader i (Record text, left) e = leaves_good reader left i e
    got_main_good reader i (AtEnd, left) e = good (stops_reading (leaves reader left i)) (leaves_good reader left i e)
    got_main_good reader i (Broken, left) e = leaves_good reader left i e

    read_main_good : (reader : MainReader) (i : Inner) → Has i → GoodRow (read_main on reader i)
    read_main_good reader i e = bound (λ x. x.0) (next_record i (reader_source reader i)) (λ got. got_main on reader i got)
        (λ got. got_main_good reader i got e)

    opened_good : (name : List ℕ) (r : Option MainReader) (i : Inner) → Has i → GoodRow (opened on name r i)
    opened_good name None i e = e
    opened_good name (Some reader) i e = read_main_good reader (begins_reading name reader i) e

    made_then : (x : Inner × Bool) → Has x.0 → GoodRow (made on x)
    made_then (j, true) e = e
    made_then (j, false) e = good j e

    operand_good : (o : Outside) (text : List ℕ) (a : Option (List ℕ × List ℕ)) (i : Inner) → Has i → GoodRow (file_or_assignment on o text a i)
    operand_good o text (Some pair) i e = bound_on (λ x. x.0) (λ x. x.0) (assigned pair.0 pair.1 i) (λ x. made on x) (assigned_good pair.0 pair.1 i e) made_then
    operand_good o text None i e = opened_good text (reader_of (seen i o) text) (file_named i) e

    taken_good : (o : Outside) (text : List ℕ) (i : Inner) → Has i → GoodRow (taken on o text i)
    taken_good o [] i e = good i e
    taken_good o (c ∷ cs) i e = operand_good o (c ∷ cs) (assignment_of (c ∷ cs)) i e

  follows_good : (ops : Operands) (i : Inner) → Has i → GoodRow (follows ops i)
  follows_good NoFile i e = read_main_good over (λ j h. h) Standard (begins_reading [] Standard (with_operands NoneLeft i)) e
  follows_good SomeFile i e = e
  follows_good NoneLeft i e = e

  reached_good : (on : Inner → Result (Inner × Main) Fault) → ((i : Inner) → Has i → GoodRow (on i)) → (o : Outside) (i : Inner) (argc : ℤ) → Has i →
      GoodRow (reached on o i argc)
  reached_good on good o i argc e = by (is_below i.main.next argc)
    where
      by : (t : Bool) → GoodRow (elim t [ true ↦ taken on o (operand_text i.main.next i) (passes_operand i) | false ↦ follows i.main.operands i ])
      by true = taken_good on good o (operand_text i.main.next i) (passes_operand i) e
      by false = follows_good i.main.operands i e

  reach_good : (k : ℕ) (o : Outside) (i : Inner) → Has i → GoodRow (reach k o i)
  reach_good zero o i e = bound (λ x. x.0) (number_of_value (special_of i Argc)) (λ argc. follows i.main.operands i) (λ argc. follows_good i.main.operands i e)
  reach_good (suc k) o i e =
      bound (λ x. x.0) (number_of_value (special_of i Argc)) (reached (reach k o) o i) (λ argc. reached_good (reach k o) (reach_good k o) o i argc e)

  next_good : (ops : Operands) (o : Outside) (i : Inner) → Has i → GoodRow (reach_by ops o i)
  next_good NoneLeft o i e = e
  next_good NoFile o i e = reach_good (2 ^ 20 + 1 - i.main.next) o i e
  next_good SomeFile o i e = reach_good (2 ^ 20 + 1 - i.main.next) o i e

  main_good_by : (t : Bool) (r : Option MainReader) (o : Outside) (i : Inner) → Has i → GoodRow (go_on t r (next_operand o) i)
  main_good_by true r o i e = e
  main_good_by false None o i e = next_good i.main.operands o i e
  main_good_by false (Some reader) o i e = read_main_good (next_operand o) (λ j h. next_good j.main.operands o j h) reader i e

  main_good : (o : Outside) (i : Inner) → Has i → GoodRow (main_input o i)
  main_good o i e = main_good_by i.main.ended i.main.reading o i e

  -- A record, or a line for a variable.

  count_good : (s : Special) (i : Inner) → Has i → GoodState (counted_by s i)
  count_good s i e =
      bound (λ j. j) (number_of_value (special_of i s)) (λ z. sum z (pos 1) >>= λ m. Ok (with_special s (Num m) i))
      (λ z. bound (λ j. j) (sum z (pos 1)) (λ m. Ok (with_special s (Num m) i)) (λ m. e))

  counted_good : (i : Inner) → Has i → GoodState (counted_record i)
  counted_good i e = bound_on (λ j. j) (λ j. j) (counted_by Nr i) (λ j. counted_by Fnr j) (count_good Nr i e) (λ j h. count_good Fnr j h)

  as_record_good : (text : List ℕ) (i : Inner) → Has i → GoodRow (as_record text i)
  as_record_good text i e = bound_on (λ x. x.0) (λ j. j) (with_record text i) (λ j. Ok (j, input.Read)) (record_good text i e) (λ j h. h)

  as_line_good : (text : List ℕ) (i : Inner) → Has i → GoodRow (as_line text i)
  as_line_good text i e = e

  kept_good : (keep : List ℕ → Inner → Result (Inner × InputAnswer) Fault) → ((text : List ℕ) (i : Inner) → Has i → GoodRow (keep text i)) →
      (text : List ℕ) (i : Inner) → Has i →
      GoodRow (counted_record i >>= λ j. keep text j)
  kept_good keep good text i e = bound_on (λ x. x.0) (λ j. j) (counted_record i) (λ j. keep text j) (counted_good i e) (λ j h. good text j h)

  next_of_good : (x : Inner × Main) → Has x.0 → GoodRow (next_of x)
  next_of_good (i, Taken text) e = kept_good as_record as_record_good text i e
  next_of_good (i, Over) e = e
  next_of_good (i, Pending) e = e
  next_of_good (i, NotOpened) e = tt
  next_of_good (i, Failed) e = tt

  next_main_good : (o : Outside) (i : Inner) → Has i → GoodRow (next_main_row o i)
  next_main_good o i e = bound_on (λ x. x.0) (λ x. x.0) (main_input o i) (λ x. next_of x) (main_good o i e) next_of_good

  module _ (keep : List ℕ → Inner → Result (Inner × InputAnswer) Fault) (good : (text : List ℕ) (i : Inner) → Has i → GoodRow (keep text i)) where
    getline_of_good : (x : Inner × Main) → Has x.0 → GoodRow (getline_of keep x)
    getline_of_good (i, Taken text) e = kept_good keep good text i e
    getline_of_good (i, Over) e = e
    getline_of_good (i, Pending) e = e
    getline_of_good (i, NotOpened) e = e
    getline_of_good (i, Failed) e = e

    getline_good_by : (t : Bool) (o : Outside) (i : Inner) → Has i → GoodRow (getline_by t keep o i)
    getline_good_by true o i e = e
    getline_good_by false o i e = bound_on (λ x. x.0) (λ x. x.0) (main_input o i) (λ x. getline_of keep x) (main_good o i e) getline_of_good

    -- a file by its name
    got_file_good : (i : Inner) (g : Got) → Has i → GoodRow (got_file keep i g)
    got_file_good i (Record text) e = good text i e
    got_file_good i AtEnd e = e
    got_file_good i Broken e = e

    read_file_good : (name : List ℕ) (source : Source) (i : Inner) → Has i → GoodRow (read_file keep name source i)
    read_file_good name source i e =
        bound (λ x. x.0) (next_record i source) (λ got. got_file keep (observed (record i { readers = with_reader name got.1 i.readers })) got.0)
        (λ got. got_file_good (observed (record i { readers = with_reader name got.1 i.readers })) got.0 e)

    opened_file_good : (name : List ℕ) (s : Option Source) (i : Inner) → Has i → GoodRow (opened_file keep name s i)
    opened_file_good name None i e = e
    opened_file_good name (Some s) i e = read_file_good name s i e

    open_good : (name : List ℕ) (o : Outside) (s : Option Source) (i : Inner) → Has i → GoodRow (open_or_read keep name o s i)
    open_good name o (Some s) i e = read_file_good name s i e
    open_good name o None i e = by (has_room i)
      where
        by : (r : Bool) → GoodRow (elim r [ true ↦ opened_file keep name (source_of (seen i o (Named name))) (observed i) | false ↦ Err TooManyStreams ])
        by true = opened_file_good name (source_of (seen i o (Named name))) (observed i) e
        by false = tt

  getline_good : (o : Outside) (i : Inner) → Has i → GoodRow (getline_row o i)
  getline_good o i e = getline_good_by as_record as_record_good i.in_end o i e

  getline_line_good : (o : Outside) (i : Inner) → Has i → GoodRow (getline_line_row o i)
  getline_line_good o i e = getline_good_by as_line as_line_good i.in_end o i e

  getline_file_good : (name : Value) (o : Outside) (i : Inner) → Has i → GoodRow (getline_file_row name o i)
  getline_file_good name o i e = open_good as_record as_record_good (text_of_value name) o (reader_named (text_of_value name) i.readers) i e

  getline_line_file_good : (name : Value) (o : Outside) (i : Inner) → Has i → GoodRow (getline_line_file_row name o i)
  getline_line_file_good name o i e = open_good as_line as_line_good (text_of_value name) o (reader_named (text_of_value name) i.readers) i e

  -- Printing.

  open_kept : (name : List ℕ) (i : Inner) (r : Result (Unit {0}) Fault) → Has i → Has (kept_open name i r)
  open_kept name i (Ok x) e = e
  open_kept name i (Err f) e = e

  opened_kept : (room opens : Bool) (name : List ℕ) (append : Bool) (text : List ℕ) (s : Shared) → Has s.inner →
      Has (opened_if room opens name append text s).inner
  opened_kept false opens name append text s e = e
  opened_kept true false name append text s e = e
  opened_kept true true name append text s e = open_kept name (observed_by {A = Unit {0}} _ s.inner) _ e

  written_kept : (is : Bool) (name : List ℕ) (append : Bool) (text : List ℕ) (s : Shared) → Has s.inner → Has (written_by is name append text s).inner
  written_kept true name append text s e = e
  written_kept false name append text s e = opened_kept (has_room s.inner) _ name append text s e

  put_kept : (to : Destination) (name text : List ℕ) (s : Shared) → Has s.inner → Has (put_text to name text s).inner
  put_kept destination.Standard name text s e = e
  put_kept destination.Emptied name text s e = written_kept (is_writing name s.inner.writers) name false text s e
  put_kept destination.Appended name text s e = written_kept (is_writing name s.inner.writers) name true text s e

  printf_kept : (r : Result (List ℕ) Fault) (to : Destination) (name : List ℕ) (s : Shared) → Has s.inner → Has (printf_by r to name s).inner
  printf_kept (Ok text) to name s e = put_kept to name text s e
  printf_kept (Err f) to name s e = e

  pub listed_kept : (l : Listed) (values : List Value) (s : Shared) → Has s.inner → Has (listed_meaning l values s).inner
  listed_kept listed.Sprintf values s e = e
  listed_kept (listed.Print to) values s e = put_kept to (file_name to values) (printed s.inner (operands_of to values)) s e
  listed_kept (listed.Printf to) values s e = printf_kept (formatted_values (operands_of to values)) to (file_name to values) s e

  -- ALL ROWS. An array that a row may change is one whose change does no harm; and an empty array more does none.

  abbrev pub SparedIf : Option ℕ → Inner → Type 0
  SparedIf None i = Unit {0}
  SparedIf (Some a) i = Spared a i

  pub row_kept : (p : Primitive) (r : Row (arguments_of p)) (s : Shared) → (p ≡ row.NewArray → (arrays : List Pairs) → P arrays → P (arrays ++ [] ∷ [])) → SparedIf (array_changed p r) s.inner → Has s.inner → Has (meaning p r s).inner
  row_kept row.NewArray r s more f e = more refl s.inner.arrays e
  row_kept row.SetSpecial r s more f e = settled s (set_special_row r.0 r.1.0 s.inner) e (set_special_good r.0 r.1.0 s.inner e)
  row_kept row.SetField r s more f e = settled s (set_field_row r.0 r.1.0 s.inner) e (set_field_good r.0 r.1.0 s.inner e)
  row_kept row.Elem r s more f e = found_good r.0 (text_of_value r.1.0) s.inner _ f e
  row_kept row.SetElem r s more f e = f _
  row_kept row.Delete r s more f e = f _
  row_kept row.Clear r s more f e = f []
  row_kept row.NextFile r s more f e = given_up_good s.inner.main.reading s.inner e
  row_kept row.IterNext r s more f e = visited_good r.0 s.inner _ e
  row_kept row.Match r s more f e = settled s (match_row r.0 r.1.0 s.inner) e (match_good r.0 r.1.0 s.inner e)
  row_kept row.Sub r s more f e = settled s (substitute_row r.0 r.1.0 r.1.1.0 r.1.1.1.0 s.inner) e (substitute_good r.0 r.1.0 r.1.1.0 r.1.1.1.0 s.inner e)
  row_kept row.Split r s more f e = settled s (split_row r.0 r.1.0 r.1.1.0 r.1.1.1.0 s.inner) e (split_good r.0 r.1.0 r.1.1.0 r.1.1.1.0 s.inner f)
  row_kept row.NextMain r s more f e = settled s (next_main_row s.outside s.inner) e (next_main_good s.outside s.inner e)
  row_kept row.Getline r s more f e = settled s (getline_row s.outside s.inner) e (getline_good s.outside s.inner e)
  row_kept row.GetlineVar r s more f e = settled s (getline_line_row s.outside s.inner) e (getline_line_good s.outside s.inner e)
  row_kept row.GetlineFile r s more f e = settled s (getline_file_row r.0 s.outside s.inner) e (getline_file_good r.0 s.outside s.inner e)
  row_kept row.GetlineVarFile r s more f e = settled s (getline_line_file_row r.0 s.outside s.inner) e (getline_line_file_good r.0 s.outside s.inner e)
  row_kept row.StartAssign r s more f e = settled s (start_assign_row s.inner) e (start_good s.inner.assigns s.inner e)
  row_kept _ r s more f e = e
