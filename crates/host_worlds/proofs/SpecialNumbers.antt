-- Special variables by their numbers.
use Rattle.std.proofs.Common.{◌≡◌, ◌≢◌, ◌<◌, ◌==◌, ◌⊎◌, inl, inr, ℤ, pos, List, length, get_or, set, cond, Result, Ok, Err, lit<, refl, sym, ap, ◌∙◌, eq-eqb, get_or-set_other, get_or-set_same}
use Rattle.std.proofs.lemmas.Bool.{cases_eq, ne_eqb}
use Rattle.std.proofs.Math.Path.{fun_ext}
use Rattle.awk_values.specs.Operators.{sum}
use Rattle.awk_values.specs.Values.{number_of_value}
use Rattle.awk_values.specs.declared.fault.Fault.{Fault}
use Rattle.awk_values.specs.declared.value.Value.{Value}
use Rattle.awk_values.specs.declared.value.Value.TheVariants.{Num, Uninit}
use Rattle.sem_primitives.specs.ConstantNumbers.{special_number}
use Rattle.sem_primitives.specs.InputMeaning.{counted_by}
use Rattle.sem_primitives.specs.SharedState.{Inner, ◌>>=◌, special_of, with_special}
use Rattle.sem_primitives.specs.declared.constants.Special.{Special}
use Rattle.sem_primitives.specs.declared.constants.Special.TheVariants.{Argc, Convfmt, Filename, Fnr, Fs, Nf, Nr, Ofmt, Ofs, Ors, Rlength, Rs, Rstart, Subsep}
use Rattle.host_texts.specs.States.{specials_of}
use Rattle.host_worlds.specs.Counts.{next_count}

pub number_within : (s : Special) → special_number s < 14
number_within Argc = lit< tt
number_within Convfmt = lit< tt
number_within Filename = lit< tt
number_within Fnr = lit< tt
number_within Fs = lit< tt
number_within Nf = lit< tt
number_within Nr = lit< tt
number_within Ofmt = lit< tt
number_within Ofs = lit< tt
number_within Ors = lit< tt
number_within Rlength = lit< tt
number_within Rs = lit< tt
number_within Rstart = lit< tt
number_within Subsep = lit< tt

-- The value of one is another.

pub special_put : (values : List Value) (s : Special) (v : Value) → special_number s < length values
    → specials_of (set values (special_number s) v) ≡ (λ t. cond (special_number s == special_number t) v (specials_of values t))
special_put values s v within = fun_ext (λ t. by t (cases_eq (special_number s) (special_number t)))
  where
    by : (t : Special) → (special_number s ≡ special_number t) ⊎ (special_number s ≢ special_number t) → get_or (set values (special_number s) v) (special_number t) Uninit ≡ cond (special_number s == special_number t) v (get_or values (special_number t) Uninit)
    by t (inl same) =
        ap (λ k. get_or (set values (special_number s) v) k Uninit) (sym same) ∙ get_or-set_same values (special_number s) v Uninit within
        ∙ ap (λ b. cond b v (get_or values (special_number t) Uninit)) (sym (eq-eqb (special_number s) (special_number t) same))
    by t (inr other) =
        get_or-set_other values (special_number s) (special_number t) v Uninit (λ e. other (sym e))
        ∙ ap (λ b. cond b v (get_or values (special_number t) Uninit)) (sym (ne_eqb (special_number s) (special_number t) other))

-- A count.

plain : (s : Special) (inner : Inner) → s ≢ Nf → special_of inner s ≡ inner.specials s
plain Argc inner other = refl
plain Convfmt inner other = refl
plain Filename inner other = refl
plain Fnr inner other = refl
plain Fs inner other = refl
plain Nf inner other = absurd (other refl)
plain Nr inner other = refl
plain Ofmt inner other = refl
plain Ofs inner other = refl
plain Ors inner other = refl
plain Rlength inner other = refl
plain Rs inner other = refl
plain Rstart inner other = refl
plain Subsep inner other = refl

one_step : (s : Special) (inner : Inner) (r : Result ℤ Fault) (v : Value) → (r >>= λ n. Ok (Num n)) ≡ Ok v → (r >>= λ j. Ok (with_special s (Num j) inner)) ≡ Ok (with_special s v inner)
one_step s inner (Ok n) v e = let same : Num n ≡ v = cc in ap (λ x. Ok (with_special s x inner)) same
one_step s inner (Err fault) v e = cc

two_steps : (s : Special) (inner : Inner) (r : Result ℤ Fault) (v : Value) → ((r >>= λ n. sum n (pos 1)) >>= λ n. Ok (Num n)) ≡ Ok v → (r >>= λ k. sum k (pos 1) >>= λ j. Ok (with_special s (Num j) inner)) ≡ Ok (with_special s v inner)
two_steps s inner (Ok n) v e = one_step s inner (sum n (pos 1)) v e
two_steps s inner (Err fault) v e = cc

pub counts : (s : Special) (inner new : Inner) (v w : Value) → s ≢ Nf → v ≡ inner.specials s → next_count v ≡ Ok w → new ≡ with_special s w inner → counted_by s inner ≡ Ok new
counts s inner new v w other held is set =
    ap (λ x. number_of_value x >>= λ k. sum k (pos 1) >>= λ j. Ok (with_special s (Num j) inner)) (plain s inner other ∙ sym held) ∙ two_steps s inner (number_of_value v) w is ∙ ap (λ i. Ok i) (sym set)

-- No count.

one_fails : (s : Special) (inner : Inner) (r : Result ℤ Fault) (fault : Fault) → (r >>= λ n. Ok (Num n)) ≡ Err fault → (r >>= λ j. Ok (with_special s (Num j) inner)) ≡ Err fault
one_fails s inner (Ok n) fault e = cc
one_fails s inner (Err first) fault e = let same : first ≡ fault = cc in ap (λ f. Err f) same

two_fail : (s : Special) (inner : Inner) (r : Result ℤ Fault) (fault : Fault) → ((r >>= λ n. sum n (pos 1)) >>= λ n. Ok (Num n)) ≡ Err fault → (r >>= λ k. sum k (pos 1) >>= λ j. Ok (with_special s (Num j) inner)) ≡ Err fault
two_fail s inner (Ok n) fault e = one_fails s inner (sum n (pos 1)) fault e
two_fail s inner (Err first) fault e = let same : first ≡ fault = cc in ap (λ f. Err f) same

pub miscounts : (s : Special) (inner : Inner) (fault : Fault) → s ≢ Nf → next_count (inner.specials s) ≡ Err fault → counted_by s inner ≡ Err fault
miscounts s inner fault other is =
    ap (λ x. number_of_value x >>= λ k. sum k (pos 1) >>= λ j. Ok (with_special s (Num j) inner)) (plain s inner other) ∙ two_fail s inner (number_of_value (inner.specials s)) fault is
