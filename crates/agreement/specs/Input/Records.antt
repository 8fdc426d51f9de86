-- The first record of a source, by what its bytes are made of (POSIX.1-2017 awk, "Variables and Special Variables", RS).
use Rattle.std.specs.Prelude.{◌≡◌, ◌≢◌, ◌⊎◌, ℕ, ◌+◌, ◌<◌, ◌≤◌, List, [], ◌∷◌, ◌++◌, length, Option, Some, None, Result, Ok, Err}
use Rattle.awk_text.specs.Bytes.{newline}
use Rattle.awk_values.specs.declared.fault.Fault.{Fault}
use Rattle.awk_values.specs.declared.fault.Fault.TheVariants.{TextLimit}
use Rattle.world_core.specs.declared.world.Ending.{Ending}
use Rattle.world_core.specs.declared.world.Ending.TheVariants.{End, Fails}
use Rattle.world_core.specs.WorldState.{Source}
use Rattle.sem_primitives.specs.Limits.{most_text}
use Rattle.sem_primitives.specs.Records.{Got, Record, AtEnd, Broken}

-- a byte ends a record, or the two newlines of an empty line
abbrev pub separator : Option ℕ → List ℕ
separator (Some b) = b ∷ []
separator None = newline ∷ newline ∷ []

abbrev pub AllNewlines : List ℕ → Type 0
AllNewlines [] = Unit {0}
AllNewlines (c ∷ cs) = (c ≡ newline) × AllNewlines cs

abbrev pub BeginsOtherwise : List ℕ → Type 0
BeginsOtherwise [] = Unit {0}
BeginsOtherwise (c ∷ cs) = c ≢ newline

-- if empty lines separate, all newlines before a record are skipped; else nothing is
abbrev pub AreSkipped : Option ℕ → (front rest : List ℕ) → Type 0
AreSkipped (Some b) front rest = front ≡ []
AreSkipped None front rest = AllNewlines front × BeginsOtherwise rest

-- no separator begins within the first n bytes
abbrev pub NoneBefore : Option ℕ → ℕ → List ℕ → Type 0
NoneBefore rs n bytes = (front rest : List ℕ) → bytes ≡ front ++ (separator rs ++ rest) → n ≤ length front

abbrev pub NoneIn : Option ℕ → List ℕ → Type 0
NoneIn rs bytes = (front rest : List ℕ) → bytes ≡ front ++ (separator rs ++ rest) → ⊥

-- the text of bytes that no separator follows: if empty lines separate, without the newline at their end
abbrev pub IsLast : Option ℕ → (bytes text : List ℕ) → Type 0
IsLast (Some b) bytes text = bytes ≡ text
IsLast None bytes text = (bytes ≡ text ++ (newline ∷ [])) ⊎ ((bytes ≡ text) × ((front : List ℕ) → bytes ≡ front ++ (newline ∷ []) → ⊥))

-- the last text is a record unless it is empty; before a read that fails it is none
abbrev pub got_last : Ending → List ℕ → Got
got_last Fails text = Broken
got_last End [] = AtEnd
got_last End (c ∷ cs) = Record (c ∷ cs)

-- The bytes are newlines that are skipped, the record, its separator, and the rest. The record has no separator within. Without a separator the
-- record is the last one. What is skipped and the record have at most as many bytes as a text.
pub data GivesFirst (rs : Option ℕ) : Source → Result (Got × Source) Fault → Type 0 where
  separated : (front text rest : List ℕ) {ending : Ending} → AreSkipped rs front (text ++ (separator rs ++ rest))
      → NoneBefore rs (length text) (text ++ (separator rs ++ rest)) → length front + length text ≤ most_text
      → GivesFirst rs (record { rest = front ++ (text ++ (separator rs ++ rest)); ending = ending }) (Ok (Record text, record { rest = rest; ending = ending }))
  too_long : (front text rest : List ℕ) {ending : Ending} → AreSkipped rs front (text ++ (separator rs ++ rest))
      → NoneBefore rs (length text) (text ++ (separator rs ++ rest)) → most_text < length front + length text
      → GivesFirst rs (record { rest = front ++ (text ++ (separator rs ++ rest)); ending = ending }) (Err TextLimit)
  last : (front bytes text : List ℕ) {ending : Ending} → AreSkipped rs front bytes → NoneIn rs bytes → IsLast rs bytes text
      → length front + length text ≤ most_text
      → GivesFirst rs (record { rest = front ++ bytes; ending = ending }) (Ok (got_last ending text, record { rest = []; ending = ending }))
  last_too_long : (front bytes text : List ℕ) {ending : Ending} → AreSkipped rs front bytes → NoneIn rs bytes → IsLast rs bytes text
      → most_text < length front + length text
      → GivesFirst rs (record { rest = front ++ bytes; ending = ending }) (Err TextLimit)
