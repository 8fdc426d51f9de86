-- What is read by a reader that remembers its first fault.
use Rattle.std.specs.Prelude.{◌≡◌, ℕ, List, Option, Some, None, Result, Ok, Err}
use Rattle.std.specs.Borrow.{Bor}
use Rattle.module_decoder.specs.declared.fault.DecodeFault.{DecodeFault}
use Rattle.module_decoder.specs.declared.reader.Reader.{Reader}
use Rattle.module_decoder.specs.declared.fault.DecodeFault.TheVariants.{NoMemory}
use Rattle.module_decoder.specs.declared.basics.Span.{Span}
use Rattle.std.specs.declared.alloc.AllocError.{AllocError}
use Rattle.wasm_types.specs.declared.opcodes.Lead.{Lead}
use Rattle.wasm_types.specs.declared.opcodes.Lead.TheVariants as lead
use Rattle.module_decoder.specs.declared.body.Opener.{Opener}
use Rattle.module_decoder.specs.declared.body.Opener.TheVariants as opener
use Rattle.module_decoder.specs.Readers.{Fails, Read, tagged_at}

-- the first fault, or what is left of what is to be read
abbrev pub Stands : {Z : Type 0} → Option DecodeFault → Result Z DecodeFault → Result Z DecodeFault → Type 0
Stands None left all = all ≡ left
Stands (Some e) left all = Fails e all

-- the same after what was read before, of which a fault stays
abbrev pub StandsAfter : {Z : Type 0} → Option DecodeFault → Option DecodeFault → Result Z DecodeFault → Result Z DecodeFault → Type 0
StandsAfter None now left all = Stands now left all
StandsAfter (Some e) now left all = now ≡ Some e

-- between the two the code read all but what is left
pub record Reads {Z : Type 0} (before after : Reader) (left all : Result Z DecodeFault) : Type 0 where
  pub span : after.span ≡ before.span
  pub stands : StandsAfter before.fault after.fault left all

-- the reader has this fault, or one from before
abbrev pub RecordsFault : DecodeFault → Option DecodeFault → Option DecodeFault → Type 0
RecordsFault fault None now = now ≡ Some fault
RecordsFault fault (Some e) now = now ≡ Some e

-- the reader goes on after what was read, or has its fault
abbrev pub Took : {T : Type 0} → Option DecodeFault → Option DecodeFault → Result (T × Bor (List ℕ)) DecodeFault → T → List ℕ → Type 0
Took None now (Ok x) value rest = (now ≡ None) × (value ≡ x.0) × (rest ≡ x.1.now)
Took None now (Err fault) value rest = now ≡ Some fault
Took (Some e) now read value rest = now ≡ Some e

-- the value was made, or memory ran out
abbrev pub Made : {T : Type 0} → Option DecodeFault → Option DecodeFault → Result T AllocError → T → Type 0
Made None now (Ok x) value = (now ≡ None) × (value ≡ x)
Made None now (Err fault) value = now ≡ Some NoMemory
Made (Some e) now made value = now ≡ Some e

-- there is no fault, or that of a part
abbrev pub Checked : Option DecodeFault → Option DecodeFault → Result Unit DecodeFault → Type 0
Checked None now (Ok u) = now ≡ None
Checked None now (Err fault) = now ≡ Some fault
Checked (Some e) now part = now ≡ Some e

-- the byte that begins a part
abbrev pub tag_at : ℕ → Span → List ℕ → Read Unit
tag_at k c = tagged_at c k (λ rest. Ok (tt, rest))

-- what a byte begins that holds instructions of its own
abbrev pub opener_by : Lead → Option Opener
opener_by lead.Block = Some opener.Block
opener_by lead.Loop = Some opener.Loop
opener_by lead.If = Some opener.If
opener_by l = None
