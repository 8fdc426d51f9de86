-- What the lanes of the code stand for.
use Rattle.std.specs.Prelude.{List, [], ◌∷◌, map}
use Rattle.std.specs.Global.{Vec}
use Rattle.mid_program.specs.Mid as plain
use Rattle.mid_program.specs.View.{view_kind}
use Rattle.mid_program.specs.declared.program.Kind.{Kind}
use Rattle.value_kinds.specs.Applied.{slot_in}
use Rattle.value_kinds.specs.Lanes as lanes
use Rattle.value_kinds.specs.Walks as walks
use Rattle.value_kinds.specs.declared.form.Form.{Form}
use Rattle.value_kinds.specs.declared.form.Form.TheVariants as form
use Rattle.value_kinds.specs.declared.kept.Kept.{Kept}
use Rattle.value_kinds.specs.declared.kept.Kept.TheVariants.{Nothing, Last'}
use Rattle.value_kinds.specs.declared.names.Lanes.{Lanes}
use Rattle.value_kinds.specs.declared.names.Names.{Names}
use Rattle.value_kinds.specs.declared.scan.Scan.{Scan}
use Rattle.value_kinds.specs.declared.walk.Walk.{Walk}

abbrev pub view_kinds : Vec Kind → List plain.Kind
view_kinds ks = map view_kind ks.items

abbrev pub view_lanes : Lanes → lanes.Lanes
view_lanes l = record {
  numbers = map view_kind l.numbers.items;
  globals = map view_kind l.globals.items;
  parameters = map view_kinds l.parameters.items;
  lenders = l.lenders.items;
}

-- what becomes of the names in a piece of code
abbrev pub slots : Names → plain.Slot → plain.Slot
slots n = slot_in (map view_kind n.globals.now) (map view_kind n.parameters.now)

abbrev pub view_form : Form → plain.Form
view_form (form.PrimitiveAnswer a) = plain.PrimitiveAnswer a
view_form form.NumberOrText = plain.NumberOrText
view_form form.OptionalNumber = plain.OptionalNumber

abbrev pub view_kept : Kept → List plain.Form
view_kept Nothing = []
view_kept (Last' form p before) = view_form form ∷ view_kept before

abbrev pub view_scan : Scan → lanes.Scan
view_scan s = record { free = map view_kind s.free.items; asked = s.asked; wishes = s.wishes.items; numbered = s.numbered.items }

abbrev pub view_walk : Walk → walks.Walk
view_walk w = record { numbers = view_lanes w.numbers; lanes = view_lanes w.lanes; scan = view_scan w.scan; function = w.function }
