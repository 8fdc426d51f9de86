use Rattle.std.proofs.Common.{Some, ap, sym, ◌∙◌}
use Rattle.std.specs.Option.{option_map}
use Rattle.std.proofs.lemmas.Option.{slice_get-map}
use Rattle.awk_resolve.specs.ViewNames.{view_variable, view_variables}
use Rattle.awk_resolve.proofs.Names.{insert_is, key_sound, same_is}
use Rattle.awk_resolve.proofs.scopes.Variables.number_of.Goals as goal

pub returns-in-Ok-clause-added : goal.returns-in-Ok-clause-added
returns-in-Ok-clause-added c = record { adds = λ fine. (fine, ap view_variables c.in-Ok.ensures.keys ∙ insert_is c.args.self.now.found.keys c.args.variable) }

pub returns-in-Ok-clause-number : goal.returns-in-Ok-clause-number
returns-in-Ok-clause-number c = record {
  number = λ fine.
      let s = c.in-Ok.ensures.stored in
      slice_get-map view_variable c.insert_full.new.self.keys c.in-Ok.number ∙ ap (option_map view_variable) s.1 ∙ ap Some (sym (key_sound (view_variable c.args.variable) (view_variable s.0) (sym (same_is c.args.variable s.0) ∙ s.2)));
}
