-- What reading a text answers.
use Rattle.std.specs.Prelude.{◌≡◌, ℕ, ◌≤◌, List, length, Some, Result, Ok, Err}
use Rattle.ere_syntax.specs.Tree.{Tree, IsWithinLimits}
use Rattle.ere_syntax.specs.Scan.{IsEreOf}
use Rattle.ere_syntax.specs.EreOf.{ere_of}
use Rattle.ere_syntax.specs.View.{view}
use Rattle.ere_syntax.specs.declared.tree.Ere.{Ere}
use Rattle.ere_syntax.specs.declared.fault.EreFault.{EreFault}
use Rattle.ere_syntax.specs.declared.fault.EreFault.TheVariants.{BadEre, EreTooLarge, NoMemory}

-- the text has this tree, which keeps the limits
pub record IsTreeOf (text : List ℕ) (t : Tree) : Type 0 where
  pub tree : IsEreOf text t
  pub within : IsWithinLimits t

-- the cause of a refusal: there is no tree, or there is one and it passes the limits
abbrev pub IsRefused : List ℕ → EreFault → Type 0
IsRefused text (BadEre place) = (place ≤ length text) × ((t : Tree) → IsEreOf text t → ⊥)
IsRefused text EreTooLarge = (t : Tree) × IsEreOf text t × (IsWithinLimits t → ⊥)
IsRefused text NoMemory = Unit {0}

-- the same by the reading function, of a text that has a tree
pub record IsBuilt (text : List ℕ) (e : Ere) : Type 0 where
  pub tree : ere_of text ≡ Some (view e)
  pub within : IsWithinLimits (view e)

abbrev pub BuildAnswer : List ℕ → Result Ere EreFault → Type 0
BuildAnswer text (Ok e) = IsBuilt text e
BuildAnswer text (Err EreTooLarge) = (t : Tree) → ere_of text ≡ Some t → IsWithinLimits t → ⊥
BuildAnswer text (Err NoMemory) = Unit {0}
BuildAnswer text (Err (BadEre place)) = ⊥
