-- What the getters of clap give, read off the rows of what is found.
use Rattle.std.proofs.Common.{◌≡◌, ◌∙◌, ℕ, ◌^◌, ◌-◌, ◌<◌, List, [], Option, None, Some, option_map, Bool, true, false, ap, codes, refl}
use Rattle.std.specs.Prelude.{unwrap_or}
use Rattle.std.specs.Str.Parse.{IsNumeral, digits_value, without_leading_plus}
use Rattle.clap.specs.declared.parser.matches.ArgMatches.{ArgMatches}
use Rattle.clap.specs.Words.{Text, first_value, found_of, matched_of, one_of, one_text, raw_values, rows_of}
use Rattle.clap.proofs.WalkLemmas.{first_value-rows, one_text-rows, raw_values-rows}
use Rattle.command_line.specs.Request.{IsFlag, IsNumber, word_at, words_at}

pub listed : (m : ArgMatches) (id : Text) (o : Option (List Text)) → o ≡ option_map raw_values (matched_of (found_of m) id) → unwrap_or o [] ≡ words_at id (rows_of (found_of m))
listed m id o given = ap (λ found. unwrap_or found []) (given ∙ raw_values-rows (found_of m) id)

pub first_word : (m : ArgMatches) (id : Text) (o : Option Text) → o ≡ first_value (found_of m) id → unwrap_or o [] ≡ word_at id (rows_of (found_of m))
first_word m id o given = ap (λ found. unwrap_or found []) (given ∙ first_value-rows (found_of m) id)

-- the text writes a number of 64 bits
abbrev Fits : Text → Type 0
Fits t = IsNumeral 10 (without_leading_plus t) × (digits_value 10 (without_leading_plus t) < 2 ^ 64)

reads : (o : Option Text) (n : ℕ) → (o ≡ None → Some n ≡ None) → ((t : Text) → o ≡ Some t → Fits t × (n ≡ digits_value 10 (without_leading_plus t))) → IsNumber o n
reads None n some given = let none : Some n ≡ None = some refl in cc
reads (Some t) n some given = λ numeral fits. (given t refl).1

refuses : (o : Option Text) → ((t : Text) → o ≡ Some t → Fits t → ⊥) → IsNumber o (2 ^ 64 - 1)
refuses None given = refl
refuses (Some t) given = λ numeral fits. absurd (given t refl (numeral, fits))

pub read_number : (m : ArgMatches) (id : Text) (n : ℕ) → (one_text (found_of m) id ≡ None → Some n ≡ None)
    → ((t : Text) → one_text (found_of m) id ≡ Some t → Fits t × (n ≡ digits_value 10 (without_leading_plus t))) → IsNumber (one_of id (rows_of (found_of m))) n
read_number m id n none value = let rows = one_text-rows (found_of m) id in reads _ n (λ e. none (rows ∙ e)) (λ t e. value t (rows ∙ e))

pub no_number : (m : ArgMatches) (id : Text) → ((t : Text) → one_text (found_of m) id ≡ Some t → Fits t → ⊥) → IsNumber (one_of id (rows_of (found_of m))) (2 ^ 64 - 1)
no_number m id value = let rows = one_text-rows (found_of m) id in refuses _ (λ t e. value t (rows ∙ e))

given : (o : Option Text) (b : Bool) → (o ≡ None → b ≡ false) → (o ≡ Some (codes "true") → b ≡ true) → (o ≡ Some (codes "false") → b ≡ false) → IsFlag o b
given None b none set unset = none refl
given (Some t) b none set unset = (λ e. set (ap (λ (text : Text). Some text) e), λ e. unset (ap (λ (text : Text). Some text) e))

pub read_flag : (m : ArgMatches) (id : Text) (b : Bool) → (one_text (found_of m) id ≡ None → b ≡ false) → (one_text (found_of m) id ≡ Some (codes "true") → b ≡ true)
    → (one_text (found_of m) id ≡ Some (codes "false") → b ≡ false) → IsFlag (one_of id (rows_of (found_of m))) b
read_flag m id b none set unset = let rows = one_text-rows (found_of m) id in given _ b (λ e. none (rows ∙ e)) (λ e. set (rows ∙ e)) (λ e. unset (rows ∙ e))
