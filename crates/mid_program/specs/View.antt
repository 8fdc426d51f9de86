-- The plain program that a script's code stands for.
use Rattle.std.specs.Prelude.{ℕ, List, map}
use Rattle.std.specs.Global.{Vec}
use Rattle.mid_program.specs.Mid as plain
use Rattle.mid_program.specs.declared.program.Kind.{Kind}
use Rattle.mid_program.specs.declared.program.Kind.TheVariants.{Boxed, Unboxed, Array}
use Rattle.mid_program.specs.declared.program.Declared.{Declared}
use Rattle.mid_program.specs.declared.program.Routine.{Routine}
use Rattle.mid_program.specs.declared.program.Mid.{Mid}
pub use Rattle.mid_program.specs.ViewCode.{view, views, view_maybe, view_step, view_steps}

abbrev pub view_kind : Kind → plain.Kind
view_kind Boxed = plain.Boxed
view_kind Unboxed = plain.Unboxed
view_kind Array = plain.ArrayKind

abbrev pub view_declared : Declared → plain.Declared
view_declared d = record { name = d.name.items; kind = view_kind d.kind; mixed = d.mixed }

abbrev pub view_routine : Routine → plain.Routine
view_routine r = record { name = r.name.items; parameters = map view_kind r.parameters.items; body = view_steps r.body.items }

abbrev pub view_texts : List (Vec ℕ) → List (List ℕ)
view_texts texts = map (λ t. t.items) texts

abbrev pub view_mid : Mid → plain.Program
view_mid m = record {
  texts = view_texts m.texts.keys;
  lenders = m.lenders.items;
  globals = map view_declared m.globals.items;
  routines = map view_routine m.routines.items;
  ranges = m.ranges;
  begin = view_steps m.begin.items;
  reads = m.reads;
  items = view_steps m.items.items;
  end = view_steps m.end.items;
}
