-- Crowds: rows whose threads' starts are not told apart.
use Rattle.std.specs.Prelude.{◌≡◌, ℕ, ◌<◌, ◌≤◌, Bool, false, List, length, slice_get, nat_eq, Option, Some}
use Rattle.std.proofs.Common.{get_or}
use Rattle.ere_match.specs.declared.crowd.Crowd.{Crowd}
use Rattle.ere_match.specs.declared.node.Node.{Node}
use Rattle.ere_match.specs.declared.row.Move.{Move}
use Rattle.ere_match.specs.declared.row.Row.{Row}
use Rattle.ere_match.specs.Runs.{Runs}
use Rattle.ere_match.specs.Threads.{IsStepped, SetRuns}
use Rattle.ere_match.specs.Rows.{IsMade, IsTable, column_at, cut, threads_of}

-- the byte leads from a row to this one, where one more thread begins; all threads have number 0
pub record IsLeap (all : List Node) (entry byte : ℕ) (old : Row) (rows : List Row) (to : ℕ) : Type 0 where
  pub row : Row
  pub is : slice_get rows to ≡ Some row
  pub stepped : List (Option ℕ)
  pub steps : IsStepped all byte (length all) (cut old.count (threads_of old)) stepped
  pub f : ℕ → ℕ
  pub made : IsMade all entry false false 0 stepped row f

-- a column that is filled says where each byte of the class leads
pub record IsLeapColumn (all : List Node) (entry : ℕ) (classes : List ℕ) (rows : List Row) (r c to : ℕ) : Type 0 where
  pub row : Row
  pub is : slice_get rows r ≡ Some row
  pub leads : (byte : ℕ) → byte < 256 → get_or classes byte 0 ≡ c → IsLeap all entry byte row rows to

pub record IsCrowd (all : List Node) (entry : ℕ) (classes : List ℕ) (crowd : Crowd) : Type 0 where
  pub table : IsTable all entry classes crowd.table
  pub wide : length crowd.table.rows.items ≤ length crowd.leaps.items
  pub leaps : (r c : ℕ) (m : Move) → column_at false (slice_get crowd.leaps.items r) c ≡ Some m → IsLeapColumn all entry classes crowd.table.rows.items r c m.to

pub record HasLeapt (all : List Node) (entry byte : ℕ) (old : Crowd) (state : ℕ) (new : Crowd) (to : ℕ) : Type 0 where
  pub before : Row
  pub was : slice_get old.table.rows.items state ≡ Some before
  pub leap : IsLeap all entry byte before new.table.rows.items to

-- the row of a place at which a first thread begins
pub record HasGathered (all : List Node) (entry : ℕ) (first : Bool) (crowd : Crowd) (to : ℕ) : Type 0 where
  pub row : Row
  pub is : slice_get crowd.table.rows.items to ≡ Some row
  pub stepped : List (Option ℕ)
  pub len : length stepped ≡ length all
  pub f : ℕ → ℕ
  pub made : IsMade all entry false first 0 stepped row f

-- at place i the row has threads of the runs from all starts since from
pub record IsCrowded (all : List Node) (text : List ℕ) (entry from i state : ℕ) (crowd : Crowd) : Type 0 where
  pub row : Row
  pub is : slice_get crowd.table.rows.items state ≡ Some row
  pub single : row.count ≤ 1
  pub is_first : row.first ≡ nat_eq i 0
  pub on : (t j m : ℕ) → from ≤ t → t ≤ i → i ≤ j → Runs all text j m entry t → (s : ℕ) × SetRuns all text j i (threads_of row) s
