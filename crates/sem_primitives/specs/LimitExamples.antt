-- The limit of 67,108,864 bytes, of texts of that length and of one byte more.
use Rattle.std.specs.Prelude.{◌≡◌, ℕ, ◌+◌, ◌^◌, ◌||◌, not, nat_le, false, if◌then◌else◌, List, [], ◌∷◌, ◌++◌, codes, length, Some, None, Ok, Err, pos, refl}
use Rattle.std.proofs.Common.{ap}
use Rattle.awk_values.specs.declared.fault.Fault.TheVariants.{FieldNumber, TextLimit}
use Rattle.awk_values.specs.declared.value.Value.{Value}
use Rattle.awk_values.specs.declared.value.Value.TheVariants as value
use Rattle.world_core.specs.declared.world.Ending.TheVariants.{End, Fails}
use Rattle.sem_primitives.specs.SharedState.{Inner, ◌>>=◌}
use Rattle.sem_primitives.specs.FieldMeaning.{joined, special_text, with_fields, field_number}
use Rattle.sem_primitives.specs.Formats.{sized}
use Rattle.sem_primitives.specs.Records.{Record, of_cut, of_rest}
use Rattle.sem_primitives.specs.declared.constants.Special.TheVariants.{Argc, Ofs, Subsep}
use Rattle.sem_primitives.specs.Rows.{join_row}
use Rattle.sem_primitives.specs.Jobs.{fault_of_job}
use Rattle.sem_primitives.specs.SharedState.{Shared, SomeFile}
use Rattle.sem_primitives.specs.TextMeaning.{replaced, substituted_by}
use Rattle.sem_primitives.specs.Texts.{counted}
use Rattle.sem_primitives.specs.ExampleStates.{after_call, answered, at_start}
use Rattle.sem_primitives.specs.declared.table.Primitive.TheVariants.{NextMain, SetSpecial}
use Rattle.sem_primitives.specs.declared.answers.InputAnswer.TheVariants as input
use Rattle.std.specs.Fmt.{digits}
use Rattle.awk_values.specs.Values.{text_of_value}

pub rebuilt_past_limit : (values : List Value) (inner : Inner) → length (joined (special_text Ofs inner) values) ≡ 67108865 →
    with_fields values inner ≡ Err TextLimit
rebuilt_past_limit values inner long =
    ap (λ n. (if nat_le n (2 ^ 26) then Ok (joined (special_text Ofs inner) values) else Err TextLimit) >>=
    λ text. Ok (record inner { whole = value.StrNum text; fields = values })) long

pub formatted_at_limit : (before : ℕ) (text : List ℕ) → before + length text ≡ 67108864 → sized before text ≡ Ok (before + length text)
formatted_at_limit before text long = ap (λ n. if nat_le n (2 ^ 26) then Ok (before + length text) else Err TextLimit) long

pub formatted_past_limit : (before : ℕ) (text : List ℕ) → before + length text ≡ 67108865 → sized before text ≡ Err TextLimit
formatted_past_limit before text long = ap (λ n. if nat_le n (2 ^ 26) then Ok (before + length text) else Err TextLimit) long

-- newlines that are skipped count
pub record_at_limit : (skipped : ℕ) (text rest body : List ℕ) → skipped + length text ≡ 67108864 →
    of_cut None End skipped body (Some (text, rest)) ≡ Ok (Record text, record { rest = rest; ending = End })
record_at_limit skipped text rest body long = ap (λ n. if nat_le n (2 ^ 26) then Ok (Record text, record { rest = rest; ending = End }) else Err TextLimit) long

pub record_past_limit : (skipped : ℕ) (text rest body : List ℕ) → skipped + length text ≡ 67108865 →
    of_cut None End skipped body (Some (text, rest)) ≡ Err TextLimit
record_past_limit skipped text rest body long =
    ap (λ n. if nat_le n (2 ^ 26) then Ok (Record text, record { rest = rest; ending = End }) else Err TextLimit) long

-- also of bytes that would be a record, before the failure behind them is met
pub unfinished_past_limit : (body : List ℕ) → 0 + length body ≡ 67108865 → of_cut (Some 10) Fails 0 body None ≡ Err TextLimit
unfinished_past_limit body long = ap (λ n. if nat_le n (2 ^ 26) then Ok (of_rest Fails body) else Err TextLimit) long

pub fields_at_limit : field_number (pos 1048576) ≡ Ok 1048576
fields_at_limit = refl

pub fields_past_limit : field_number (pos 1048577) ≡ Err FieldNumber
fields_past_limit = refl

pub key_past_limit : (left right : Value) (inner : Inner) → length (text_of_value left ++ (special_text Subsep inner ++ text_of_value right)) ≡ 67108865 →
    join_row left right inner ≡ Err TextLimit
key_past_limit left right inner long =
    ap (λ n. if nat_le n (2 ^ 26) then Ok (value.Text (text_of_value left ++ (special_text Subsep inner ++ text_of_value right))) else Err TextLimit) long

pub replaced_past_limit : (ps : List (ℕ × ℕ)) (by text : List ℕ) (inner : Inner) → length (replaced text by 0 ps) ≡ 67108865 →
    substituted_by ps by text inner ≡ Err TextLimit
replaced_past_limit ps by text inner long =
    ap (λ n. (if nat_le n (2 ^ 26) then Ok (replaced text by 0 ps) else Err TextLimit) >>=
    λ new. Ok (record inner { substituted = Some (value.Text new) }, counted (length ps))) long

-- a text of the job past the limit, in each of its lists

pub long_operand : (text : List ℕ) → length text ≡ 67108865 →
    fault_of_job (record { operands = codes "f" ∷ text ∷ []; assigns = []; environment = [] }) ≡ Some TextLimit
long_operand text long = ap (λ n. if (false || (not (nat_le n (2 ^ 26)) || false)) || (false || false) then Some TextLimit else None) long

pub long_assignment : (text : List ℕ) → length text ≡ 67108865 →
    fault_of_job (record { operands = []; assigns = (codes "v", text) ∷ []; environment = [] }) ≡ Some TextLimit
long_assignment text long = ap (λ n. if false || (((false || not (nat_le n (2 ^ 26))) || false) || false) then Some TextLimit else None) long

pub long_environment : (text : List ℕ) → length text ≡ 67108865 →
    fault_of_job (record { operands = []; assigns = []; environment = (text, []) ∷ [] }) ≡ Some TextLimit
long_environment text long = ap (λ n. if false || (false || ((not (nat_le n (2 ^ 26)) || false) || false)) then Some TextLimit else None) long

-- the last operand that is reached has the number 1,048,576, whatever ARGC says

abbrev pub far : ℕ → Shared
far next = after_call SetSpecial (Argc, (value.Num (pos (2 ^ 30)), tt))
    (record at_start {
      inner = record at_start.inner {
        arrays = ((codes "1048577", value.Text (codes "v=1")) ∷ []) ∷ ([] ∷ []);
        main = record at_start.inner.main { next = next; operands = SomeFile };
      };
    })

pub none_past_the_last : answered NextMain tt (far 1048577) ≡ Ok input.End
unfolding digits
none_past_the_last = refl
