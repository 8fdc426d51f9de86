-- Which names a fence lets through.
use Rattle.std.specs.Prelude.{ℕ, List, [], ◌∷◌, Bool, true, false, ◌&&◌, ◌||◌, not, map, Option, None, Some, option_map}
use Rattle.world_os.specs.StreamNames.{is_errors, is_input, is_output}
use Rattle.world_os.specs.Named.{is_one_of}
use Rattle.world_os.specs.declared.fence.FileFence.{FileFence}
use Rattle.world_os.specs.declared.fenced_names.Names.{Names}

-- a fence that lets no name through
abbrev pub no_name : List ℕ → Bool
no_name name = false

-- The fence of a command line: no files; reading only; the names that are operands, where no others may be read; the names that are listed for reading and for
-- writing; and whether names mean the program's own streams.
pub record FenceForm : Type 0 where
  pub no_files : Bool
  pub read_only : Bool
  pub operands : Option (List (List ℕ))
  pub may_read : List (List ℕ)
  pub may_write : List (List ℕ)
  pub streams : Bool

abbrev pub is_empty : List (List ℕ) → Bool
is_empty [] = true
is_empty (n ∷ names) = false

abbrev pub is_absent : Option (List (List ℕ)) → Bool
is_absent None = true
is_absent (Some names) = false

-- an unlisted name is open for reading: it is an operand, where operands alone may be read; else no name is listed
abbrev pub is_open : Option (List (List ℕ)) → List (List ℕ) → List ℕ → Bool
is_open None listed name = is_empty listed
is_open (Some operands) listed name = is_one_of operands name

-- a name may be opened for reading: it means the standard input, or it is listed, or files are allowed and it is open unlisted
abbrev pub lets_read : FenceForm → List ℕ → Bool
lets_read fence name = (fence.streams && is_input name)
    || is_one_of fence.may_read name
    || (not fence.no_files && is_open fence.operands fence.may_read name)

-- a name may be opened for writing: it means the standard output or error, or it is listed, or no name is listed and nothing is kept out
abbrev pub lets_write : FenceForm → List ℕ → Bool
lets_write fence name = (fence.streams && (is_output name || is_errors name))
    || is_one_of fence.may_write name
    || (not fence.no_files && (not fence.read_only && (is_absent fence.operands && is_empty fence.may_write)))

-- The rest leads from the code's values to these.

abbrev pub list_of : Names → List (List ℕ)
list_of names = map (λ n. n.now) names.listed.now

abbrev pub form_of : FileFence → FenceForm
form_of fence = record {
  no_files = fence.no_files;
  read_only = fence.read_only;
  operands = option_map list_of fence.operands;
  may_read = list_of fence.may_read;
  may_write = list_of fence.may_write;
  streams = fence.streams;
}
