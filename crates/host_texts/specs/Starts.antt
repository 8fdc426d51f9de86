-- The texts of special variables before a script runs.
use Rattle.std.specs.Prelude.{ℕ, List, [], ◌∷◌, codes, slice_set}
use Rattle.awk_values.specs.declared.value.Value.{Value}
use Rattle.awk_values.specs.declared.value.Value.TheVariants.{Text}
use Rattle.sem_primitives.specs.ConstantNumbers.{special_number}
use Rattle.sem_primitives.specs.declared.constants.Special.{Special}
use Rattle.sem_primitives.specs.declared.constants.Special.TheVariants.{Convfmt, Fs, Ofmt, Ofs, Ors, Rs, Subsep}

abbrev pub with_text : Special → List ℕ → List Value → List Value
with_text s text values = slice_set values (special_number s) (Text text)

abbrev pub with_formats : List Value → List Value
with_formats values = with_text Ofmt (codes "%.6g") (with_text Convfmt (codes "%.6g") values)

abbrev pub with_blanks : List Value → List Value
with_blanks values = with_text Ofs (codes " ") (with_text Fs (codes " ") values)

-- what ends records, and what parts a key
abbrev pub with_ends : List Value → List Value
with_ends values = with_text Subsep (28 ∷ []) (with_text Rs (10 ∷ []) (with_text Ors (10 ∷ []) values))
