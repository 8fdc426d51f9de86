-- The tables of special variables.
use Rattle.std.proofs.Common.{◌≡◌, ℕ, Bool, true, false, ◌||◌, List, [], ◌∷◌, Some, None, refl, ap, ◌∙◌}
use Rattle.std.specs.Prelude.{map, not, codes, if◌then◌else◌, is_some, slice_get}
use Rattle.awk_tokens.specs.Words.{reserved_word_of}
use Rattle.awk_grammar.specs.Kinds.{has_name, same_name, special_arrays, special_scalars}
use Rattle.sem_primitives.specs.declared.constants.Special.{Special}
use Rattle.sem_primitives.specs.declared.constants.Special.TheVariants.{Argc, Convfmt, Filename, Fnr, Fs, Nf, Nr, Ofmt, Ofs, Ors, Rlength, Rs, Rstart, Subsep}
use Rattle.sem_primitives.specs.Constants.{specials}
use Rattle.sem_primitives.specs.ConstantNumbers.{special_number}
use Rattle.sem_primitives.specs.Assignments.{is_name, named, special_name, takes_none}
use Rattle.sem_scripts.specs.Names.{is_special_array, special_array, special_in, special_named}
use Rattle.agreement.proofs.TwinsLemmas.Words.{same_turned}

pub each : (s : Special) → slice_get specials (special_number s) ≡ Some s
each Argc = refl
each Convfmt = refl
each Filename = refl
each Fnr = refl
each Fs = refl
each Nf = refl
each Nr = refl
each Ofmt = refl
each Ofs = refl
each Ors = refl
each Rlength = refl
each Rs = refl
each Rstart = refl
each Subsep = refl

pub scalars : special_scalars ≡ map special_name specials
unfolding special_scalars
scalars = refl

abbrev entries : List Special → List (List ℕ × Special)
entries ss = map (λ s. (special_name s, s)) ss

found : (ss : List Special) (name : List ℕ) → special_in (entries ss) name ≡ named name ss
found [] name = refl
found (s ∷ ss) name =
    ap (λ b. if b then Some s else special_in (entries ss) name) (same_turned (special_name s) name) ∙
    ap (λ o. if same_name name (special_name s) then Some s else o) (found ss name)

pub named_is : (name : List ℕ) → special_named name ≡ named name specials
named_is name = found specials name

array_by : (a b : Bool) → is_special_array (if a then Some 0 else if b then Some 1 else None) ≡ (a || (b || false))
array_by true b = refl
array_by false true = refl
array_by false false = refl

pub arrays : (name : List ℕ) → is_special_array (special_array name) ≡ has_name special_arrays name
unfolding special_arrays
arrays name =
    array_by (same_name (codes "ARGV") name) (same_name (codes "ENVIRON") name) ∙
    (ap (λ a. a || (same_name (codes "ENVIRON") name || false)) (same_turned (codes "ARGV") name) ∙
    ap (λ b. same_name name (codes "ARGV") || (b || false)) (same_turned (codes "ENVIRON") name))

or_nothing : (b : Bool) → b ≡ (b || false)
or_nothing true = refl
or_nothing false = refl

pub assigned : (name : List ℕ) → takes_none name ≡ (not (is_name name) || (is_some (reserved_word_of name) || has_name special_arrays name))
unfolding special_arrays
assigned name =
    ap (λ b. not (is_name name) || (is_some (reserved_word_of name) || (same_name name (codes "ARGV") || b))) (or_nothing (same_name name (codes "ENVIRON")))
