-- Rows: the threads of a place, with their starts numbered by age; and where a byte leads from a row.
use Rattle.std.specs.Prelude.{◌≡◌, ℕ, zero, suc, ◌+◌, ◌-◌, ◌*◌, ◌<◌, ◌≤◌, ◌⊎◌, Bool, true, false, List, [], ◌∷◌, length, slice_get, nat_eq, nat_le, nat_lt, if◌then◌else◌, Option, Some, None}
use Rattle.std.proofs.Common.{get_or}
use Rattle.ere_match.specs.declared.node.Filter.{Filter}
use Rattle.ere_match.specs.declared.node.Node.{Node}
use Rattle.ere_match.specs.declared.node.Node.TheVariants as nodes
use Rattle.ere_match.specs.declared.row.Row.{Row}
use Rattle.ere_match.specs.declared.row.Move.{Move}
use Rattle.ere_match.specs.declared.row.Moves.{Moves}
use Rattle.ere_match.specs.declared.row.Table.{Table}
use Rattle.ere_match.specs.Runs.{filter_set}
use Rattle.ere_match.specs.Threads.{AreThreads, Holds, IsAccepted, IsBest, IsClosedFrom, IsClosure, IsSeeded, IsStepped}

abbrev pub SpecMove : Type 0
SpecMove = Move

abbrev pub SpecMoves : Type 0
SpecMoves = Moves

abbrev pub SpecTable : Type 0
SpecTable = Table

abbrev pub SpecRow : Type 0
SpecRow = Row

abbrev pub columns : Bool → Moves → List (Option Move)
columns false m = m.seeking
columns true m = m.found

-- the numbers of a row's threads
abbrev pub numbers : List ℕ → List (Option ℕ)
numbers [] = []
numbers (zero ∷ xs) = None ∷ numbers xs
numbers (suc n ∷ xs) = Some n ∷ numbers xs

-- the threads with the start of each number in its place
abbrev pub spread : (ℕ → ℕ) → List (Option ℕ) → List (Option ℕ)
spread f [] = []
spread f (None ∷ xs) = None ∷ spread f xs
spread f (Some n ∷ xs) = Some (f n) ∷ spread f xs

-- the threads up to a number
abbrev pub cut : ℕ → List (Option ℕ) → List (Option ℕ)
cut limit [] = []
cut limit (None ∷ xs) = None ∷ cut limit xs
cut limit (Some n ∷ xs) = (if nat_le n limit then Some n else None) ∷ cut limit xs

abbrev pub threads_of : Row → List (Option ℕ)
threads_of row = numbers row.ranks.items

pub record IsIncreasing (n : ℕ) (f : ℕ → ℕ) : Type 0 where
  pub up : (a b : ℕ) → a < b → b < n → f a < f b

pub record IsEmpty (set : List (Option ℕ)) : Type 0 where
  pub none : (id s : ℕ) → Holds set id s → ⊥

-- a row says what it is to say of its threads
pub record IsRow (all : List Node) (row : Row) : Type 0 where
  pub len : length row.ranks.items ≡ length all
  pub few : (id s : ℕ) → Holds (threads_of row) id s → s < row.count
  pub closed : IsClosedFrom all row.first false 0 (threads_of row)
  pub inside : IsAccepted all (threads_of row) (length all) row.inside
  pub ending : List (Option ℕ)
  pub is_ending : IsClosure all row.first true (threads_of row) ending
  pub at_end : IsAccepted all ending (length all) row.at_end

-- a new thread with the next number begins, unless a match has been found
abbrev pub Begins : Bool → ℕ → ℕ → List (Option ℕ) → List (Option ℕ) → Type 0
Begins false entry count old new = IsSeeded entry count old new
Begins true entry count old new = new ≡ old

-- the row of the threads that have taken a byte, of which there were so many numbers; f leads from its numbers to the numbers before
pub record IsMade (all : List Node) (entry : ℕ) (found first : Bool) (count : ℕ) (stepped : List (Option ℕ)) (row : Row) (f : ℕ → ℕ) : Type 0 where
  pub begun : List (Option ℕ)
  pub begins : Begins found entry count stepped begun
  pub closes : IsClosure all first false begun (spread f (threads_of row))
  pub increasing : IsIncreasing row.count f
  pub known : (k : ℕ) → k < row.count → f k ≤ count
  pub is_first : row.first ≡ first

-- the last number that is of use: none behind one that is accepted, once a match is found
abbrev pub last_number : Option ℕ → ℕ → ℕ
last_number None count = count
last_number (Some k) count = k

abbrev pub limit_of : Bool → Row → ℕ
limit_of false row = row.count
limit_of true row = last_number row.inside row.count

-- the byte leads from one row to the other
pub record IsMoved (all : List Node) (entry byte : ℕ) (found : Bool) (old new : Row) (f : ℕ → ℕ) : Type 0 where
  pub stepped : List (Option ℕ)
  pub steps : IsStepped all byte (length all) (cut (limit_of found old) (threads_of old)) stepped
  pub made : IsMade all entry found false old.count stepped new f

-- the number before the move of number k after it
abbrev pub source : List ℕ → Move → ℕ → ℕ
source sources m k = get_or sources (m.start + k) 0

-- the move leads to this one of the rows
pub record IsMove (rows : List Row) (sources : List ℕ) (m : Move) (row : Row) : Type 0 where
  pub is : slice_get rows m.to ≡ Some row
  pub room : m.start + row.count ≤ length sources
  pub fewer : m.kept ≤ row.count
  pub same : (k : ℕ) → k < m.kept → source sources m k ≡ k

-- the move leads to the row with which a search begins
pub record IsBegin (all : List Node) (entry : ℕ) (first : Bool) (rows : List Row) (sources : List ℕ) (m : Move) : Type 0 where
  pub row : Row
  pub is : IsMove rows sources m row
  pub stepped : List (Option ℕ)
  pub len : length stepped ≡ length all
  pub empty : IsEmpty stepped
  pub made : IsMade all entry false first 0 stepped row (source sources m)

-- the move leads from a row by the byte
pub record IsStep (all : List Node) (entry byte : ℕ) (found : Bool) (old : Row) (rows : List Row) (sources : List ℕ) (m : Move) : Type 0 where
  pub row : Row
  pub is : IsMove rows sources m row
  pub moved : IsMoved all entry byte found old row (source sources m)

-- bytes of one class are told apart by no node
abbrev pub AreClasses : List Node → List ℕ → Type 0
AreClasses all classes = (b c : ℕ) → b < 256 → c < 256 → get_or classes b 0 ≡ get_or classes c 0 → (id to : ℕ) (f : Filter) → slice_get all id
    ≡ Some (nodes.Take f to) → slice_get (filter_set f) b ≡ Some true → slice_get (filter_set f) c ≡ Some true

-- the same for the nodes below n
abbrev pub ClassesTo : ℕ → List Node → List ℕ → Type 0
ClassesTo n all classes = (b c : ℕ) → b < 256 → c < 256 → get_or classes b 0 ≡ get_or classes c 0 → (id to : ℕ) (f : Filter) → id < n
    → slice_get all id ≡ Some (nodes.Take f to) → slice_get (filter_set f) b ≡ Some true → slice_get (filter_set f) c ≡ Some true

abbrev pub column_at : Bool → Option Moves → ℕ → Option Move
column_at found None c = None
column_at found (Some m) c = get_or (columns found m) c None

abbrev pub begin_at : Bool → Table → Option Move
begin_at true t = t.at_first
begin_at false t = t.elsewhere

pub record IsKnownRow (all : List Node) (starts : List ℕ) (row : Row) : Type 0 where
  pub is : IsRow all row
  pub room : row.count < length starts

-- a column that is filled says where each byte of the class leads
pub record IsColumn (all : List Node) (entry : ℕ) (classes : List ℕ) (rows : List Row) (sources : List ℕ) (found : Bool) (r c : ℕ) (m : Move) : Type 0 where
  pub row : Row
  pub is : slice_get rows r ≡ Some row
  pub leads : (byte : ℕ) → byte < 256 → get_or classes byte 0 ≡ c → IsStep all entry byte found row rows sources m

-- what is in the table is right
pub record IsTable (all : List Node) (entry : ℕ) (classes : List ℕ) (t : Table) : Type 0 where
  pub set_len : length t.set.items ≡ length all
  pub next_len : length t.next.items ≡ length all
  pub wide : length t.rows.items ≤ length t.moves.items
  pub rows : (r : ℕ) (row : Row) → slice_get t.rows.items r ≡ Some row → IsKnownRow all t.starts.items row
  pub moves : (found : Bool) (r c : ℕ) (m : Move) → column_at found (slice_get t.moves.items r) c ≡ Some m
      → IsColumn all entry classes t.rows.items t.sources.items found r c m
  pub begins : (first : Bool) (m : Move) → begin_at first t ≡ Some m → IsBegin all entry first t.rows.items t.sources.items m

-- the rows of before are there still, and others are right
pub record AddsRows (all : List Node) (starts : List ℕ) (old new : List Row) : Type 0 where
  pub kept : (r : ℕ) (row : Row) → slice_get old r ≡ Some row → slice_get new r ≡ Some row
  pub only : (r : ℕ) (row : Row) → slice_get new r ≡ Some row → (slice_get old r ≡ Some row) ⊎ IsKnownRow all starts row

-- there are no columns but those of before
pub record AddsNoMoves (old new : List Moves) : Type 0 where
  pub longer : length old ≤ length new
  pub only : (found : Bool) (r c : ℕ) (m : Move) → column_at found (slice_get new r) c ≡ Some m → column_at found (slice_get old r) c ≡ Some m

-- the starts before a move, with that of a new thread behind them
abbrev pub with_new : (ℕ → ℕ) → ℕ → ℕ → ℕ → ℕ
with_new f n at k = if nat_eq k n then at else f k

-- ---- how a row is made

-- the thread of a rank, if its number is not behind the limit
abbrev pub numbered : ℕ → ℕ → Option ℕ
numbered limit zero = None
numbered limit (suc n) = if nat_le n limit then Some n else None

-- the start of a thread of a rank
abbrev pub start_of_rank : List ℕ → ℕ → Option ℕ
start_of_rank starts zero = None
start_of_rank starts (suc n) = Some (get_or starts n 0)

-- what was there is there still
pub record IsSame (old new : List ℕ) : Type 0 where
  pub longer : length old ≤ length new
  pub at : (k : ℕ) → k < length old → get_or new k 0 ≡ get_or old k 0

-- the rank of a number in use, and where the sources have the number
pub record HasRank (start number : ℕ) (used sources : List ℕ) (count : ℕ) : Type 0 where
  pub rank : ℕ
  pub is : get_or used number 0 ≡ suc rank
  pub small : rank < count
  pub back : get_or sources (start + rank) 0 ≡ number

-- the numbers in use stand behind the sources in order, and have their ranks
pub record IsRanked (start : ℕ) (used ranked sources : List ℕ) (count : ℕ) : Type 0 where
  pub len : length ranked ≡ length used
  pub sum : length sources ≡ start + count
  pub few : count ≤ length used
  pub increasing : IsIncreasing count (λ k. get_or sources (start + k) 0)
  pub below : (k : ℕ) → k < count → get_or sources (start + k) 0 < length used
  pub ranks : (s : ℕ) → s < length used → get_or used s 0 ≡ 1 → HasRank start s ranked sources count

-- the same for the numbers below n
pub record IsRankedTo (n : ℕ) (base used ranked sources : List ℕ) (count : ℕ) : Type 0 where
  pub same : IsSame base sources
  pub len : length ranked ≡ length used
  pub sum : length sources ≡ length base + count
  pub few : count ≤ n
  pub increasing : IsIncreasing count (λ k. get_or sources (length base + k) 0)
  pub below : (k : ℕ) → k < count → get_or sources (length base + k) 0 < n
  pub ranks : (s : ℕ) → s < n → get_or used s 0 ≡ 1 → HasRank (length base) s ranked sources count
  pub rest : (s : ℕ) → n ≤ s → get_or ranked s 0 ≡ get_or used s 0

abbrev pub rank_of : List ℕ → Option ℕ → ℕ
rank_of used None = 0
rank_of used (Some s) = get_or used s 0

pub record AreRanked (used : List ℕ) (set : List (Option ℕ)) (ranks : List ℕ) : Type 0 where
  pub len : length ranks ≡ length set
  pub at : (k : ℕ) → k < length set → get_or ranks k 0 ≡ rank_of used (get_or set k None)

-- a class, and whether the set has a byte of it, as one number
abbrev pub key_of : ℕ → Bool → ℕ
key_of class taken = if taken then class * 2 + 1 else class * 2

-- the classes of the bytes below n are numbered by their keys
pub record IsRefinedTo (n : ℕ) (set : List Bool) (old new : List ℕ) (seen : List (Option ℕ)) (count : ℕ) : Type 0 where
  pub few : count ≤ n
  pub small : (k c : ℕ) → get_or seen k None ≡ Some c → c < count
  pub single : (j k c : ℕ) → get_or seen j None ≡ Some c → get_or seen k None ≡ Some c → j ≡ k
  pub known : (b : ℕ) → b < n → get_or seen (key_of (get_or old b 0) (get_or set b false)) None ≡ Some (get_or new b 0)

-- the ranks of threads whose numbers were below the bound; the sources from start on lead back to these
pub record IsNumbered (start bound : ℕ) (set : List (Option ℕ)) (sources ranks : List ℕ) (count : ℕ) : Type 0 where
  pub len : length ranks ≡ length set
  pub sum : length sources ≡ start + count
  pub most : count ≤ bound
  pub few : (id s : ℕ) → Holds (numbers ranks) id s → s < count
  pub spreads : spread (λ k. get_or sources (start + k) 0) (numbers ranks) ≡ set
  pub increasing : IsIncreasing count (λ k. get_or sources (start + k) 0)
  pub below : (k : ℕ) → k < count → get_or sources (start + k) 0 < bound

-- one class has bytes that were in one class, and that the set has all or none of
pub record IsRefined (set : List Bool) (old new : List ℕ) : Type 0 where
  pub finer : (b c : ℕ) → b < 256 → c < 256 → get_or new b 0 ≡ get_or new c 0 → get_or old b 0 ≡ get_or old c 0
  pub apart : (b c : ℕ) → b < 256 → c < 256 → get_or new b 0 ≡ get_or new c 0 → get_or set b false ≡ get_or set c false

-- a row with these ranks
pub record FoundRow (rows : List Row) (ranks : List ℕ) (count : ℕ) (first : Bool) (place : ℕ) : Type 0 where
  pub row : Row
  pub is : slice_get rows place ≡ Some row
  pub same_ranks : row.ranks.items ≡ ranks
  pub same_count : row.count ≡ count
  pub same_first : row.first ≡ first

-- a table stays one, with what it has
pub record IsKnownTable (all : List Node) (entry : ℕ) (classes : List ℕ) (old new : Table) : Type 0 where
  pub table : IsTable all entry classes new
  pub rows : (r : ℕ) (row : Row) → slice_get old.rows.items r ≡ Some row → slice_get new.rows.items r ≡ Some row

-- a move to a row of these threads, whose numbers were below the bound
pub record IsPlaced (first : Bool) (bound : ℕ) (set : List (Option ℕ)) (t : Table) (m : Move) : Type 0 where
  pub row : Row
  pub is : IsMove t.rows.items t.sources.items m row
  pub threads : spread (source t.sources.items m) (threads_of row) ≡ set
  pub increasing : IsIncreasing row.count (source t.sources.items m)
  pub known : (k : ℕ) → k < row.count → source t.sources.items m k < bound
  pub is_first : row.first ≡ first

-- threads with a new one among them, led on as far as they go
pub record SetSettled (all : List Node) (entry : ℕ) (found first : Bool) (count : ℕ) (old new : List (Option ℕ)) : Type 0 where
  pub begun : List (Option ℕ)
  pub begins : Begins found entry count old begun
  pub closes : IsClosure all first false begun new

pub record IsMadeMove (all : List Node) (entry : ℕ) (found first : Bool) (count : ℕ) (stepped : List (Option ℕ)) (t : Table) (m : Move) : Type 0 where
  pub row : Row
  pub is : IsMove t.rows.items t.sources.items m row
  pub made : IsMade all entry found first count stepped row (source t.sources.items m)

-- ---- how a search goes from row to row

pub record IsStepOf (all : List Node) (entry byte : ℕ) (found : Bool) (old : Table) (state : ℕ) (new : Table) (m : Move) : Type 0 where
  pub before : Row
  pub is : slice_get old.rows.items state ≡ Some before
  pub step : IsStep all entry byte found before new.rows.items new.sources.items m

abbrev pub IsShifted : List ℕ → List ℕ → ℕ → ℕ → ℕ → (ℕ → ℕ) → Type 0
IsShifted old new count at fewer f = (k : ℕ) → k < fewer → get_or new k 0 ≡ with_new (λ n. get_or old n 0) count at (f k)

-- the search is at this row, whose threads have their starts in the table
pub record HasMoved (all : List Node) (entry byte : ℕ) (found : Bool) (at : ℕ) (old : Table) (state : ℕ) (new : Table) (to : ℕ) : Type 0 where
  pub before : Row
  pub was : slice_get old.rows.items state ≡ Some before
  pub row : Row
  pub is : slice_get new.rows.items to ≡ Some row
  pub f : ℕ → ℕ
  pub moved : IsMoved all entry byte found before row f
  pub shifted : IsShifted old.starts.items new.starts.items before.count at row.count f

pub record HasBegun (all : List Node) (entry from : ℕ) (new : Table) (to : ℕ) : Type 0 where
  pub row : Row
  pub is : slice_get new.rows.items to ≡ Some row
  pub f : ℕ → ℕ
  pub stepped : List (Option ℕ)
  pub len : length stepped ≡ length all
  pub empty : IsEmpty stepped
  pub made : IsMade all entry false (nat_eq from 0) 0 stepped row f
  pub starts : (k : ℕ) → k < row.count → get_or new.starts.items k 0 ≡ from

-- the threads of a row were led on by the byte
pub record HasLed (all : List Node) (byte : ℕ) (found : Bool) (rows : List Row) (state : ℕ) (next : List (Option ℕ)) (count : ℕ) : Type 0 where
  pub row : Row
  pub is : slice_get rows state ≡ Some row
  pub counts : row.count ≡ count
  pub steps : IsStepped all byte (length all) (cut (limit_of found row) (threads_of row)) next

-- a move can be taken from a row of so many numbers
pub record CanEnter (t : Table) (count : ℕ) (m : Move) : Type 0 where
  pub row : Row
  pub is : IsMove t.rows.items t.sources.items m row
  pub small : count < length t.starts.items
  pub room : row.count < length t.starts.items
  pub increasing : IsIncreasing row.count (source t.sources.items m)
  pub known : (k : ℕ) → k < row.count → source t.sources.items m k ≤ count

-- it was taken
pub record HasEntered (old : Table) (count : ℕ) (m : Move) (at : ℕ) (new : Table) (to : ℕ) : Type 0 where
  pub goes : to ≡ m.to
  pub rows : new.rows ≡ old.rows
  pub shifted : (row : Row) → slice_get old.rows.items m.to ≡ Some row
      → IsShifted old.starts.items new.starts.items count at row.count (source old.sources.items m)

abbrev pub started_with : (ℕ → ℕ) → Option ℕ → Option ℕ
started_with f None = None
started_with f (Some k) = Some (f k)

abbrev pub started : List ℕ → Option ℕ → Option ℕ
started starts o = started_with (λ k. get_or starts k 0) o

-- the search is at place i, at this row: its threads are those of the runs from the starts so far
pub record IsSearchingAt (all : List Node) (text : List ℕ) (entry from i : ℕ) (best : Option (ℕ × ℕ)) (starts : List ℕ) (row : Row) : Type 0 where
  pub known : IsRow all row
  pub is_first : row.first ≡ nat_eq i 0
  pub increasing : IsIncreasing row.count (λ k. get_or starts k 0)
  pub near : (k : ℕ) → k < row.count → get_or starts k 0 ≤ i
  pub threads : AreThreads all text entry from i (i + 1) (spread (λ k. get_or starts k 0) (threads_of row)) best
  pub is_best : IsBest all text entry from i best

pub record IsSearching (all : List Node) (text : List ℕ) (entry from i state : ℕ) (best : Option (ℕ × ℕ)) (t : Table) : Type 0 where
  pub row : Row
  pub is : slice_get t.rows.items state ≡ Some row
  pub room : row.count < length t.starts.items
  pub at : IsSearchingAt all text entry from i best t.starts.items row

-- all threads of the row begin at this place
pub record IsIdle (t : Table) (state at : ℕ) : Type 0 where
  pub row : Row
  pub is : slice_get t.rows.items state ≡ Some row
  pub one : row.count ≡ 1
  pub here : get_or t.starts.items 0 0 ≡ at

-- while no match has been found, the byte leads from the row, which accepts nothing inside a text, to itself
pub record IsLoop (t : Table) (classes : List ℕ) (state byte : ℕ) (m : Move) : Type 0 where
  pub row : Row
  pub is : slice_get t.rows.items state ≡ Some row
  pub none : row.inside ≡ None
  pub goes : m.to ≡ state
  pub filled : column_at false (slice_get t.moves.items state) (get_or classes byte 0) ≡ Some m

-- so many rows were made for fewer than ten bytes each
abbrev pub is_soon : Option ℕ → ℕ → ℕ → Bool
is_soon None at rows = false
is_soon (Some before) at rows = nat_lt (at - before) (rows * 10)

-- ---- behind a match

-- the row's threads begin at this place or before it
abbrev pub AreEarly : Row → List ℕ → ℕ → Type 0
AreEarly row starts start = (id k : ℕ) → Holds (threads_of row) id k → get_or starts k 0 ≤ start

-- those that go on do, where a row accepts this number or none: a later start than the accepted one is given up
abbrev pub IsLatest : Row → List ℕ → Option ℕ → ℕ → Type 0
IsLatest row starts None start = AreEarly row starts start
IsLatest row starts (Some k) start = start ≡ get_or starts k 0
