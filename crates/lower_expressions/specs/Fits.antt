-- Which code can be emitted: no place and no label is past its field.
use Rattle.std.specs.Prelude.{◌≡◌, ℕ, suc, ◌+◌, ◌≤◌, ◌<◌, if◌then◌else◌, is_some, Option, Some, List, [], ◌∷◌, length}
use Rattle.sem_scripts.specs.Names.{ArrayName, Numbered, Given}
use Rattle.mid_program.specs.Mid.{Kind, ArrayKind, Slot, Global, Parameter, Code, Do, Over, Compare, Call, Ask, AskLine, FileLine, Replace, Number, Text, Unset, Get, Set, Array, IsOpen, Choose, Seq, Let, Bound, Codes, End, At, Fixed, Fresh, parameters_at}
use Rattle.mid_program.specs.Sorted.{lender_at}
use Rattle.lower_pieces.specs.Bounds.{most_places, most_labels}
use Rattle.lower_model.specs.Emission.{Layout, Immediate, FieldOf, TextOf, NumberOf, array_meant}
use Rattle.lower_model.specs.Places.{made_in}
use Rattle.lower_model.specs.Quick.{addition_in}

-- two more temporaries and two more labels are there
abbrev pub Within : (temporary arrays exit : ℕ) → Type 0
Within temporary arrays exit = (suc (suc temporary) ≤ most_places) × ((arrays ≤ most_places) × (suc (suc exit) ≤ most_labels))

abbrev pub SlotFits : Slot → Type 0
SlotFits (Global bare name) = name ≤ most_places
SlotFits (Parameter bare place) = place ≤ most_places

-- the names that lend, by the places of parameters
abbrev pub LendersFit : List (Option ℕ) → Type 0
LendersFit lenders = (place name : ℕ) → lender_at lenders place ≡ Some name → name ≤ most_places

abbrev pub ArrayFits : ArrayName → Type 0
ArrayFits (Numbered number) = Unit {0}
ArrayFits (Given parameter) = parameter ≤ most_places

-- the text of an immediate operand is there
abbrev pub ImmediateFits : Layout → Immediate → Type 0
ImmediateFits layout (FieldOf number) = Unit {0}
ImmediateFits layout (TextOf text) = text < length layout.texts
ImmediateFits layout (NumberOf number) = Unit {0}

-- operands that are arrays
abbrev pub ArraysFit : Codes → Type 0
ArraysFit End = Unit {0}
ArraysFit (At code operands) = ArrayFits (array_meant code) × ArraysFit operands
ArraysFit (Fixed number operands) = ArraysFit operands
ArraysFit (Fresh operands) = ArraysFit operands

-- operands that are all code
abbrev pub AllCode : Codes → Type 0
AllCode End = Unit {0}
AllCode (At code operands) = AllCode operands
AllCode (Fixed number operands) = ⊥
AllCode (Fresh operands) = ⊥

-- an operand for each parameter, none of them a constant, and an array that is made only for one that is an array
abbrev pub IsGiven : List Kind → Codes → Type 0
IsGiven [] End = Unit {0}
IsGiven (kind ∷ kinds) (At code operands) = IsGiven kinds operands
IsGiven (ArrayKind ∷ kinds) (Fresh operands) = IsGiven kinds operands
IsGiven _ _ = ⊥

-- code that is emitted for a temporary, with so many arrays of calls in use and so many labels around it
abbrev mutual
  pub Fits : (layout : Layout) → Code → (temporary arrays exit : ℕ) → Type 0
  Fits layout (Do operation operands) temporary arrays exit =
      AllFit layout operands temporary arrays (if is_some (addition_in operation operands) then suc exit else exit)
  Fits layout (Over what operands) temporary arrays exit = AllCode operands × AllFit layout operands temporary arrays exit
  Fits layout (Compare op left right) temporary arrays exit =
      Within temporary arrays exit × (Fits layout left temporary arrays exit × Fits layout right (suc temporary) arrays exit)
  Fits layout (Call function operands) temporary arrays exit =
      IsGiven (parameters_at layout.calls function) operands
      × ((function ≤ most_places) × ((arrays + made_in operands ≤ most_places) × AllFit layout operands temporary arrays exit))
  Fits layout Ask temporary arrays exit = Within temporary arrays exit
  Fits layout (AskLine store) temporary arrays exit = Within temporary arrays exit × Fits layout store (suc (suc temporary)) arrays (suc exit)
  Fits layout (FileLine file store) temporary arrays exit =
      Within temporary arrays exit × (Fits layout file temporary arrays exit × Fits layout store (suc (suc temporary)) arrays (suc exit))
  Fits layout (Replace all operands store) temporary arrays exit =
      Within temporary arrays exit × (AllFit layout operands temporary arrays exit × Fits layout store (suc (suc temporary)) arrays (suc exit))
  Fits layout (Number number) temporary arrays exit = Within temporary arrays exit
  Fits layout (Text text) temporary arrays exit = Within temporary arrays exit × (text < length layout.texts)
  Fits layout Unset temporary arrays exit = Within temporary arrays exit
  Fits layout (Get slot) temporary arrays exit = Within temporary arrays exit × SlotFits slot
  Fits layout (Set slot value) temporary arrays exit = Within temporary arrays exit × (SlotFits slot × Fits layout value temporary arrays exit)
  Fits layout (Array array) temporary arrays exit = ArrayFits array
  Fits layout (IsOpen item) temporary arrays exit = Within temporary arrays exit × (item ≤ most_places)
  Fits layout (Choose wanted test so otherwise) temporary arrays exit =
      Within temporary arrays exit
      × (Fits layout test temporary arrays exit × (Fits layout so temporary arrays (suc exit) × Fits layout otherwise temporary arrays (suc exit)))
  Fits layout (Seq first second) temporary arrays exit =
      Within temporary arrays exit × (Fits layout first temporary arrays exit × Fits layout second temporary arrays exit)
  Fits layout (Let value rest) temporary arrays exit =
      Within temporary arrays exit × (Fits layout value temporary arrays exit × Fits layout rest (suc temporary) arrays exit)
  Fits layout (Bound moves place) temporary arrays exit = Within temporary arrays exit

  -- operands one after the other
  pub AllFit : (layout : Layout) → Codes → (temporary arrays exit : ℕ) → Type 0
  AllFit layout End temporary arrays exit = Within temporary arrays exit
  AllFit layout (At code operands) temporary arrays exit =
      Within temporary arrays exit × (Fits layout code temporary arrays exit × AllFit layout operands (suc temporary) arrays exit)
  AllFit layout (Fixed number operands) temporary arrays exit = AllFit layout operands temporary arrays exit
  AllFit layout (Fresh operands) temporary arrays exit = Within temporary arrays exit × AllFit layout operands temporary (suc arrays) exit
