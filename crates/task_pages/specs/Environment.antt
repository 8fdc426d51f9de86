-- The environment: what an entry is, and the order of its pairs.
use Rattle.std.specs.Prelude.{◌≡◌, ℕ, ◌==◌, ◌&&◌, not, List, [], ◌∷◌, ◌++◌, map, length, Option, Some, None, option_to_list, if◌then◌else◌}
use Rattle.std.specs.List.{after_first, before_first, list_any}
use Rattle.std.specs.List.Sorted.{IsPermutation, IsSortedByKey}
use Rattle.std.specs.Ordering.{nat_cmp}
use Rattle.std.specs.Cmp.Lexicographic.{slice_cmp}
use Rattle.std.specs.Str.{IsUtf8}
use Rattle.host_texts.specs.NameForms.{pair_of}
use Rattle.host_texts.specs.declared.names.NamedText.{NamedText}
use Rattle.task_pages.specs.Jobs.{is_equals}

-- a name before the first `=`, and a text after it
abbrev pub named_pair : List ℕ → Option (List ℕ × List ℕ)
named_pair entry = if list_any is_equals entry && not (length (before_first is_equals entry) == 0)
    then Some (before_first is_equals entry, after_first is_equals entry) else None

-- the pair that an entry is; none of an entry that is not UTF-8
abbrev pub IsPairIn : List ℕ → Option (List ℕ × List ℕ) → Type 0
IsPairIn entry (Some pair) = IsUtf8 entry × (named_pair entry ≡ Some pair)
IsPairIn entry None = IsUtf8 entry → named_pair entry ≡ None

-- the pairs that these entries are, in their order
abbrev pub ArePairsIn : List (List ℕ) → List (List ℕ × List ℕ) → Type 0
ArePairsIn [] pairs = pairs ≡ []
ArePairsIn (entry ∷ entries) pairs =
    (found : Option (List ℕ × List ℕ)) × (rest : List (List ℕ × List ℕ)) × IsPairIn entry found × (pairs ≡ option_to_list found ++ rest) × ArePairsIn entries rest

-- the pairs of these entries, all of them and no others, in some order
pub record IsEnvironmentOf (entries : List (List ℕ)) (texts : List NamedText) : Type 0 where
  pub pairs : List NamedText
  pub are : ArePairsIn entries (map pair_of pairs)
  pub all : IsPermutation pairs texts

-- in the order of the bytes of their names
abbrev pub IsSortedByName : List NamedText → Type 0
IsSortedByName texts = IsSortedByKey (λ text. (pair_of text).0) (slice_cmp nat_cmp) texts
