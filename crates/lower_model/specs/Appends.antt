-- Texts that are put behind the own one of a boxed name of the program: `s = s e`, `s = s e f` and so on. Where what is put there neither reads nor writes the name,
-- and calls no function, the name gives its text away for each of them, so that nobody else holds it and the host can write behind it.
use Rattle.std.specs.Prelude.{ℕ, Bool, true, false, not, ◌&&◌, ◌||◌, nat_eq, Option, Some, None}
use Rattle.sem_primitives.specs.declared.table.Primitive.TheVariants as row
use Rattle.mid_program.specs.declared.mid.Operation.TheVariants.{Host}
use Rattle.mid_program.specs.Mid.{Slot, Global, Parameter, Code, Do, Over, Compare, Number, Text, Get, Set, Array, IsOpen, Choose, Seq, Codes, End, At, Fixed}
use Rattle.sem_scripts.specs.Names.{ArrayName, Given}

abbrev pub same_slot : Slot → Slot → Bool
same_slot (Global unboxed name) (Global other number) = nat_eq name number
same_slot (Parameter unboxed place) (Parameter other number) = nat_eq place number
same_slot slot other = false

-- a parameter that is an array is no scalar
abbrev pub is_array_of : Slot → ArrayName → Bool
is_array_of (Parameter unboxed place) (Given parameter) = nat_eq place parameter
is_array_of slot array = false

-- Code that neither reads nor writes a name, calls no function and keeps nothing: whatever the name has, it does the same, and it stops by faults alone.
abbrev mutual
  pub is_still : Slot → Code → Bool
  is_still slot (Do operation operands) = are_still slot operands
  is_still slot (Over what operands) = are_still slot operands
  is_still slot (Compare op left right) = is_still slot left && is_still slot right
  is_still slot (Number number) = true
  is_still slot (Text text) = true
  is_still slot (Get other) = not (same_slot slot other)
  is_still slot (Array array) = not (is_array_of slot array)
  is_still slot (IsOpen item) = true
  is_still slot (Choose wanted test so otherwise) = is_still slot test && (is_still slot so && is_still slot otherwise)
  is_still slot (Seq first second) = is_still slot first && is_still slot second
  is_still slot code = false

  pub are_still : Slot → Codes → Bool
  are_still slot End = true
  are_still slot (At code operands) = is_still slot code && are_still slot operands
  are_still slot (Fixed number operands) = are_still slot operands
  are_still slot operands = false

abbrev pub is_name : Slot → Code → Bool
is_name slot (Get other) = same_slot slot other
is_name slot code = false

-- the name's text, with others behind it
abbrev pub is_chain : Slot → Code → Bool
is_chain slot (Do (Host row.Concat) (At left (At right End))) = is_still slot right && (is_name slot left || is_chain slot left)
is_chain slot code = false

-- a boxed name of the program, and the texts that it takes
pub record Append : Type 0 where
  pub target : ℕ
  pub chain : Code

abbrev pub append_of : ℕ → Code → Bool → Option Append
append_of name code true = Some (record { target = name; chain = code })
append_of name code false = None

abbrev pub append_in : Code → Option Append
append_in (Set (Global false name) code) = append_of name code (is_chain (Global false name) code)
append_in code = None
