-- The bytes with which matches begin.
use Rattle.std.specs.Prelude.{◌≡◌, ◌<◌, ℕ, Bool, true, false, List, slice_get, Option, Some}
use Rattle.std.proofs.Common.{get_or}
use Rattle.memchr.specs.Find.{is_byte, is_byte2, is_byte3}
use Rattle.ere_match.specs.declared.lead.Lead.{Lead}
use Rattle.ere_match.specs.declared.lead.Lead.TheVariants as leads
use Rattle.ere_match.specs.declared.node.Node.{Node}
use Rattle.ere_match.specs.declared.node.Node.TheVariants as nodes
use Rattle.ere_match.specs.Runs.{Runs, filter_set}

-- whether a byte is one of them
abbrev pub lead_has : Lead → ℕ → Bool
lead_has leads.Nothing byte = false
lead_has (leads.One a) byte = is_byte a byte
lead_has (leads.Two a b) byte = is_byte2 a b byte
lead_has (leads.Three a b c) byte = is_byte3 a b c byte
lead_has (leads.More marks) byte = get_or marks byte false
lead_has leads.Any byte = true

abbrev pub are_told : Lead → Bool
are_told leads.Any = false
are_told lead = true

-- one of them stands wherever a run begins at the entry
abbrev pub IsLead : List Node → ℕ → Lead → Type 0
IsLead all entry lead = (text : List ℕ) (i j m byte : ℕ) → Runs all text j m entry i → slice_get text i ≡ Some byte → byte < 256 → lead_has lead byte ≡ true

pub record IsWider (old new : Lead) : Type 0 where
  pub has : (byte : ℕ) → lead_has old byte ≡ true → lead_has new byte ≡ true
  pub any : old ≡ leads.Any → new ≡ leads.Any

-- the bytes that a node takes are among them, and an accepting node takes none
abbrev pub IsLedNode : Lead → Option Node → Type 0
IsLedNode lead (Some (nodes.Take f to)) = (byte : ℕ) → byte < 256 → slice_get (filter_set f) byte ≡ Some true → lead_has lead byte ≡ true
IsLedNode lead (Some nodes.Accept) = lead ≡ leads.Any
IsLedNode lead other = Unit {0}
