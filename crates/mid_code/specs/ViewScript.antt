-- The plain program that a script's code stands for, with its texts.
use Rattle.std.specs.Prelude.{ℕ, List, map}
use Rattle.mid_program.specs.Mid.{Program}
use Rattle.mid_program.specs.Translation.{most_parameters, none_lend}
use Rattle.mid_program.specs.View.{view_declared, view_routine, view_steps}
use Rattle.mid_code.specs.declared.translate.ScriptCode.{ScriptCode}

abbrev pub view_script_code : List (List ℕ) → ScriptCode → Program
view_script_code texts c = record {
  texts = texts;
  lenders = none_lend (most_parameters (map view_routine c.routines.items));
  globals = map view_declared c.globals.items;
  routines = map view_routine c.routines.items;
  ranges = c.actions.ranges;
  begin = view_steps c.actions.begin.items;
  reads = c.reads;
  items = view_steps c.actions.each.items;
  end = view_steps c.actions.end.items;
}
