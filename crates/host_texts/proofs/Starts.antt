-- The special variables before a script runs.
use Rattle.std.proofs.Common.{◌≡◌, ◌+◌, ℕ, ℤ, pos, neg_ℤ, List, [], ◌∷◌, refl, ap}
use Rattle.awk_values.specs.declared.value.Value.{Value}
use Rattle.awk_values.specs.declared.value.Value.TheVariants.{Num, Uninit}
use Rattle.sem_primitives.specs.SharedState.{specials_at_start}
use Rattle.sem_primitives.specs.declared.constants.Special.{Special}
use Rattle.sem_primitives.specs.declared.constants.Special.TheVariants.{Argc, Convfmt, Filename, Fnr, Fs, Nf, Nr, Ofmt, Ofs, Ors, Rlength, Rs, Rstart, Subsep}
use Rattle.host_texts.specs.Starts.{with_blanks, with_ends, with_formats}
use Rattle.host_texts.specs.States.{specials_of}

abbrev numbers : ℤ → List Value
numbers n =
    Num n ∷ Uninit ∷ Uninit ∷ Num (pos 0) ∷ Uninit ∷ Num (pos 0) ∷ Num (pos 0) ∷ Uninit ∷ Uninit ∷ Uninit ∷ Num (neg_ℤ (pos 1)) ∷ Uninit ∷ Num (pos 0) ∷ Uninit ∷ []

pub started : (n : ℤ) (operands : ℕ) → n ≡ pos (operands + 1) → (s : Special)
    → specials_of (with_ends (with_blanks (with_formats (numbers n)))) s ≡ specials_at_start operands s
started n operands e Argc = ap Num e
started n operands e Convfmt = refl
started n operands e Filename = refl
started n operands e Fnr = refl
started n operands e Fs = refl
started n operands e Nf = refl
started n operands e Nr = refl
started n operands e Ofmt = refl
started n operands e Ofs = refl
started n operands e Ors = refl
started n operands e Rlength = refl
started n operands e Rs = refl
started n operands e Rstart = refl
started n operands e Subsep = refl
