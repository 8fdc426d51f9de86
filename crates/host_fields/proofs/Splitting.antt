-- A record that is split, from its parts to the state.
use Rattle.std.proofs.Common.{◌≡◌, ℕ, suc, ◌^◌, ◌<◌, ◌≤◌, Bool, false, List, [], ◌∷◌, map, length, Result, Ok, Err, refl, sym, ap, subst, ◌∙◌, arith, le-leb, pos}
use Rattle.std.specs.Prelude.{◌&&◌, ◌==◌, ◌||◌, not, nat_le, if◌then◌else◌}
use Rattle.std.specs.List.{filter}
use Rattle.std.proofs.lemmas.Bool.Decides.{nat_tests}
use Rattle.std.proofs.lemmas.List.{length-map}
use Rattle.std.proofs.lemmas.List.Filters.{length-filter_both}
use Rattle.awk_values.specs.declared.fault.Fault.{Fault}
use Rattle.awk_values.specs.declared.fault.Fault.TheVariants.{FieldNumber}
use Rattle.awk_values.specs.declared.value.Value.TheVariants.{StrNum}
use Rattle.sem_primitives.specs.Texts.{is_empty}
use Rattle.sem_primitives.specs.SharedState.{Inner, ◌>>=◌}
use Rattle.sem_primitives.specs.Fields.{Separator, fields_of, is_blank, parted, pieces_of, separator_of}
use Rattle.sem_primitives.specs.FieldMeaning.{field_number, special_text, with_record}
use Rattle.sem_primitives.specs.declared.constants.Special.TheVariants.{Fs, Rs}
use Rattle.host_format.specs.Spans.{span_text}
use Rattle.host_format.specs.declared.span.Span.{Span}
use Rattle.host_fields.specs.Held.{field_at, with_held}
use Rattle.host_format.specs.Separators.{separator_by}
use Rattle.host_format.specs.declared.sep.Plain.{Plain}
use Rattle.host_format.specs.declared.sep.Plain.TheVariants.{Blanks, Byte}
use Rattle.host_fields.specs.Splits.{AreFields}
use Rattle.host_fields.proofs.Counting.{parted_length}

pub number_within : (n : ℕ) → n ≤ 2 ^ 20 → field_number (pos n) ≡ Ok n
number_within n h = ap (λ b. if b then Ok n else Err FieldNumber) (le-leb n (2 ^ 20) h)

past_most : (n : ℕ) → 2 ^ 20 < n → nat_le n (2 ^ 20) ≡ false
past_most n h = grind (arith, nat_tests)

number_past : (n : ℕ) → 2 ^ 20 < n → field_number (pos n) ≡ Err FieldNumber
number_past n h = ap (λ b. if b then Ok n else Err FieldNumber) (past_most n h)

pub fields_are : (text : List ℕ) (spans : List Span) → map StrNum (map (span_text text) spans) ≡ map (field_at text) spans
fields_are text [] = refl
fields_are text (span ∷ spans) = ap (λ vs. field_at text span ∷ vs) (fields_are text spans)

-- a record whose texts are these
abbrev with_texts : List ℕ → Inner → List (List ℕ) → Result Inner Fault
with_texts text inner texts = field_number (pos (length texts)) >>= λ n. Ok (record inner { whole = StrNum text; fields = map StrNum texts })

-- the state knows the same FS and RS
record_of : (inner : Inner) (fs rs text : List ℕ) → special_text Fs inner ≡ fs → special_text Rs inner ≡ rs → with_record text inner ≡ (fields_of fs rs text >>= with_texts text inner)
record_of inner fs rs text p q =
    ap (λ f. fields_of f (special_text Rs inner) text >>= with_texts text inner) p ∙ ap (λ r. fields_of fs r text >>= with_texts text inner) q

abbrev SaysNewlines : Bool → (fs rs : List ℕ) → Type 0
SaysNewlines newlines fs rs = newlines ≡ (is_empty rs && not (is_empty fs))

texts_of : (fs rs text : List ℕ) (newlines : Bool) (s : Separator) → SaysNewlines newlines fs rs → separator_of fs ≡ Ok s → fields_of fs rs text ≡ Ok (pieces_of s newlines text)
texts_of fs rs text newlines s same e =
    ap (λ r. r >>= λ separator. Ok (pieces_of separator (is_empty rs && not (is_empty fs)) text)) e ∙ ap (λ b. Ok (pieces_of s b text)) (sym same)

split_texts : (inner : Inner) (fs rs text : List ℕ) (newlines : Bool) (spans : List Span) → SaysNewlines newlines fs rs → special_text Fs inner ≡ fs → special_text Rs inner ≡ rs → AreFields fs newlines text spans → with_record text inner ≡ with_texts text inner (map (span_text text) spans)
split_texts inner fs rs text newlines spans same p q are =
    record_of inner fs rs text p q
    ∙ ap (λ r. r >>= with_texts text inner) (texts_of fs rs text newlines are.0 same are.1)
    ∙ ap (with_texts text inner) (sym are.2.texts)

pub split_is : (inner : Inner) (fs rs text : List ℕ) (newlines : Bool) (spans : List Span) → SaysNewlines newlines fs rs → special_text Fs inner ≡ fs → special_text Rs inner ≡ rs → AreFields fs newlines text spans → length spans ≤ 2 ^ 20 → with_record text inner ≡ Ok (with_held (record { whole = StrNum text; fields = map (field_at text) spans }) inner)
split_is inner fs rs text newlines spans same p q are few =
    split_texts inner fs rs text newlines spans same p q are
    ∙ ap (λ r. r >>= λ n. Ok (record inner { whole = StrNum text; fields = map StrNum (map (span_text text) spans) }))
    (number_within (length (map (span_text text) spans)) (subst (λ n. n ≤ 2 ^ 20) (sym (length-map spans (span_text text))) few))
    ∙ ap (λ vs. Ok (with_held (record { whole = StrNum text; fields = vs }) inner)) (fields_are text spans)

pub split_past : (inner : Inner) (fs rs text : List ℕ) (newlines : Bool) (spans : List Span) → SaysNewlines newlines fs rs → special_text Fs inner ≡ fs → special_text Rs inner ≡ rs → AreFields fs newlines text spans → 2 ^ 20 < length spans → with_record text inner ≡ Err FieldNumber
split_past inner fs rs text newlines spans same p q are many =
    split_texts inner fs rs text newlines spans same p q are
    ∙ ap (λ r. r >>= λ n. Ok (record inner { whole = StrNum text; fields = map StrNum (map (span_text text) spans) }))
    (number_past (length (map (span_text text) spans)) (subst (λ n. 2 ^ 20 < n) (sym (length-map spans (span_text text))) many))

-- A record that is to be split later.

kept_few : {X : Type 0} (test : X → Bool) (xs : List X) → length (filter test xs) ≤ length xs
kept_few test xs = omega (arith, length-filter_both test (λ x. not (test x)) (λ x. refl) xs)

parted_few : (test : ℕ → Bool) (text : List ℕ) → length (parted test text) ≤ suc (length text)
parted_few test text = omega (arith, parted_length test text, kept_few test text)

-- a text has at most one piece more than bytes
pieces_few : (by : Plain) (newlines : Bool) (text : List ℕ) → length (pieces_of (separator_by by) newlines text) ≤ suc (length text)
pieces_few by newlines [] = omega arith
pieces_few Blanks newlines (c ∷ cs) =
    omega (arith, parted_few is_blank (c ∷ cs), kept_few (λ piece. not (is_empty piece)) (parted is_blank (c ∷ cs)))
pieces_few (Byte b) newlines (c ∷ cs) = parted_few (λ d. (d == b) || (newlines && (d == 10))) (c ∷ cs)

pub later_is : (inner : Inner) (fs rs text : List ℕ) (newlines : Bool) (by : Plain) → SaysNewlines newlines fs rs → special_text Fs inner ≡ fs → special_text Rs inner ≡ rs → separator_of fs ≡ Ok (separator_by by) → length text < 2 ^ 20 → with_record text inner ≡ Ok (with_held (record { whole = StrNum text; fields = map StrNum (pieces_of (separator_by by) newlines text) }) inner)
later_is inner fs rs text newlines by same p q means short =
    let texts = pieces_of (separator_by by) newlines text in
    record_of inner fs rs text p q
    ∙ ap (λ r. r >>= with_texts text inner) (texts_of fs rs text newlines (separator_by by) same means)
    ∙ ap (λ r. r >>= λ n. Ok (record inner { whole = StrNum text; fields = map StrNum texts }))
    (number_within (length texts) (omega (arith, short, pieces_few by newlines text)))
