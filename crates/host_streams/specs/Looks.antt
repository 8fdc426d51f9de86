-- What the bytes that were read so far tell of the first record, whatever follows them.
use Rattle.std.specs.Prelude.{◌≡◌, ℕ, suc, ◌+◌, ◌==◌, ◌≤◌, List, [], ◌∷◌, ◌++◌, length, take, drop, cond, Option, Some, None, Ok, Err, slice_range}
use Rattle.awk_values.specs.declared.fault.Fault.TheVariants.{TextLimit}
use Rattle.world_core.specs.declared.world.Ending.{Ending}
use Rattle.sem_primitives.specs.Limits.{most_text}
use Rattle.sem_primitives.specs.Records.{first_record, of_rest, cut, width, skipped}
use Rattle.sem_primitives.specs.Records.{Record as IsRecord}
use Rattle.host_streams.specs.declared.look.Known.{Known}
use Rattle.host_streams.specs.declared.look.Look.{Look}
use Rattle.host_streams.specs.declared.look.Look.TheVariants.{Record, Long, More}

-- some bytes before what a cutting gives
abbrev pub before : List ℕ → Option (List ℕ × List ℕ) → Option (List ℕ × List ℕ)
before ys None = None
before ys (Some p) = Some (ys ++ p.0, p.1)

-- no separator begins in the first n bytes
abbrev pub HasNoneBefore : Option ℕ → ℕ → List ℕ → Type 0
HasNoneBefore rs n bytes = cut rs bytes ≡ before (take n bytes) (cut rs (drop n bytes))

-- how many bytes begin no separator whatever follows, where there is none yet: a last newline may begin an empty line
abbrev pub all_but_one : List ℕ → ℕ
all_but_one [] = 0
all_but_one (x ∷ []) = 0
all_but_one (x ∷ y ∷ rest) = suc (all_but_one (y ∷ rest))

abbrev pub searched : Option ℕ → List ℕ → ℕ
searched (Some b) bytes = length bytes
searched None bytes = all_but_one bytes

-- what is known holds whatever follows; as long as nothing was searched, more newlines may be skipped
pub record IsScanned (rs : Option ℕ) (bytes : List ℕ) (known : Known) : Type 0 where
  pub within : known.skipped + known.searched ≤ length bytes
  pub skips : (more : List ℕ) → skipped rs (bytes ++ more) ≡ known.skipped + cond (known.searched == 0) (skipped rs (drop known.skipped bytes ++ more)) 0
  pub none : (more : List ℕ) → cut rs (drop known.skipped bytes ++ more)
      ≡ before (take known.searched (drop known.skipped bytes)) (cut rs (drop known.searched (drop known.skipped bytes) ++ more))

-- whatever follows, the record is there
pub record IsThere (rs : Option ℕ) (bytes : List ℕ) (from to next : ℕ) : Type 0 where
  pub order : from ≤ to
  pub within : to ≤ length bytes
  pub next_within : next ≤ length bytes
  pub found : (more : List ℕ) (ending : Ending) → first_record rs (record { rest = bytes ++ more; ending = ending })
      ≡ Ok (IsRecord (slice_range bytes from to), record { rest = drop next bytes ++ more; ending = ending })

-- whatever follows, it is too long
abbrev pub IsLong : Option ℕ → List ℕ → Type 0
IsLong rs bytes = (more : List ℕ) (ending : Ending) → first_record rs (record { rest = bytes ++ more; ending = ending }) ≡ Err TextLimit

-- nothing is found yet; this is the record where nothing follows
pub record IsOpen (rs : Option ℕ) (bytes : List ℕ) (from to : ℕ) (k : Known) : Type 0 where
  pub order : from ≤ to
  pub within : to ≤ length bytes
  pub short : length bytes ≤ most_text + 1
  pub rest : (ending : Ending) → first_record rs (record { rest = bytes; ending = ending }) ≡ Ok (of_rest ending (slice_range bytes from to))
  pub known : IsScanned rs bytes k

abbrev pub Looks : Option ℕ → List ℕ → Look → Type 0
Looks rs bytes (Record from to next) = IsThere rs bytes from to next
Looks rs bytes Long = IsLong rs bytes
Looks rs bytes (More from to n) = IsOpen rs bytes from to (record { skipped = from; searched = n })

-- the place of the first separator
abbrev pub FindsCut : Option ℕ → List ℕ → Option ℕ → Type 0
FindsCut rs bytes None = cut rs bytes ≡ None
FindsCut rs bytes (Some k) = (k + width rs ≤ length bytes) × (cut rs bytes ≡ Some (take k bytes, drop (k + width rs) bytes))
