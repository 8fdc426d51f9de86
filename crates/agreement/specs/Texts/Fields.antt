-- The fields of a text as relations.
use Rattle.std.specs.Prelude.{◌≡◌, ◌⊎◌, ℕ, ◌+◌, ◌<◌, Bool, true, false, List, [], ◌∷◌, ◌++◌, length, slice_get, Some}
use Rattle.ere_syntax.specs.Tree.{Tree}
use Rattle.ere_syntax.specs.Matches.{Matches}
use Rattle.agreement.specs.Texts.Leftmost.{IsLeftmost, IsNone}
use Rattle.sem_primitives.specs.Fields.{Separator, Blanks, Nothing, Byte, Expression, is_blank}

-- Blanks separate, and none stands in a field, so none at its ends.

abbrev pub AllBlank : List ℕ → Type 0
AllBlank [] = Unit {0}
AllBlank (c ∷ cs) = (is_blank c ≡ true) × AllBlank cs

abbrev pub NoneBlank : List ℕ → Type 0
NoneBlank [] = Unit {0}
NoneBlank (c ∷ cs) = (is_blank c ≡ false) × NoneBlank cs

-- a field ends before this: at the end, or before a blank
abbrev pub EndsField : List ℕ → Type 0
EndsField [] = Unit {0}
EndsField (c ∷ cs) = is_blank c ≡ true

pub data AreWords : List ℕ → List (List ℕ) → Type 0 where
  no_word : {blanks : List ℕ} → AllBlank blanks → AreWords blanks []
  word : {c : ℕ} {cs rest : List ℕ} {fields : List (List ℕ)} (blanks : List ℕ) →
      AllBlank blanks → NoneBlank (c ∷ cs) → EndsField rest → AreWords rest fields → AreWords (blanks ++ ((c ∷ cs) ++ rest)) ((c ∷ cs) ∷ fields)

-- Each byte is a field.
pub data AreBytes : List ℕ → List (List ℕ) → Type 0 where
  no_byte : AreBytes [] []
  one_byte : {c : ℕ} {cs : List ℕ} {fields : List (List ℕ)} → AreBytes cs fields → AreBytes (c ∷ cs) ((c ∷ []) ∷ fields)

-- A byte separates, or the matches of an expression that are not empty. In paragraph mode a newline separates as well.

abbrev pub IsByte : ℕ → List ℕ → ℕ → ℕ → Type 0
IsByte b text i j = (slice_get text i ≡ Some b) × (j ≡ i + 1)

abbrev pub IsFullMatch : Tree → List ℕ → ℕ → ℕ → Type 0
IsFullMatch t text i j = Matches t text i j × (i < j)

-- what separates, or a newline
abbrev pub Separates : (ℕ → ℕ → Type 0) → Bool → List ℕ → ℕ → ℕ → Type 0
Separates Is newlines text i j = Is i j ⊎ ((newlines ≡ true) × IsByte 10 text i j)

-- the rest of a text, from a place of the whole on: fields and separators in turn, each separator the leftmost after the one before, and
-- the longest there
pub data AreParted (Is : ℕ → ℕ → Type 0) : ℕ → List ℕ → List (List ℕ) → Type 0 where
  last_field : {at : ℕ} {field : List ℕ} → IsNone Is at → AreParted Is at field (field ∷ [])
  one_field : {at start end : ℕ} {field rest : List ℕ} {fields : List (List ℕ)} (separator : List ℕ) →
      start ≡ at + length field → end ≡ start + length separator → IsLeftmost Is at start end → AreParted Is end rest fields →
      AreParted Is at (field ++ (separator ++ rest)) (field ∷ fields)

-- an empty text has no fields
abbrev pub AreFields : Separator → Bool → List ℕ → List (List ℕ) → Type 0
AreFields separator newlines [] fields = fields ≡ []
AreFields Blanks newlines (c ∷ cs) fields = AreWords (c ∷ cs) fields
AreFields Nothing newlines (c ∷ cs) fields = AreBytes (c ∷ cs) fields
AreFields (Byte b) newlines (c ∷ cs) fields = AreParted (Separates (IsByte b (c ∷ cs)) newlines (c ∷ cs)) 0 (c ∷ cs) fields
AreFields (Expression t) newlines (c ∷ cs) fields = AreParted (Separates (IsFullMatch t (c ∷ cs)) newlines (c ∷ cs)) 0 (c ∷ cs) fields
