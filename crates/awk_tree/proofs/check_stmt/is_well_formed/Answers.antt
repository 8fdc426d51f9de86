use Rattle.std.proofs.Common.{ap, ◌∙◌}
use Rattle.awk_grammar.specs.WellFormed.{is_script}
use Rattle.awk_grammar.specs.ViewStmt.{view_items, view_script}
use Rattle.awk_grammar.proofs.Fine.{script_is}
use Rattle.awk_tree.proofs.check_stmt.is_well_formed.Goals as goal

pub returns : goal.returns
returns c = script_is c.are_items.result (view_script c.args.script.now) (c.are_items.ensures ∙ ap (λ is. is_script (view_items is)) c.deref.ensures.value)
