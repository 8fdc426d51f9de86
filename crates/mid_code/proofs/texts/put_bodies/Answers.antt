use Rattle.std.proofs.Common.{◌+◌, ◌++◌, drop, ap, sym, ◌∙◌}
use Rattle.awk_grammar.specs.Trees.{Stmts}
use Rattle.awk_resolve.specs.ViewFunctions.{view_functions}
use Rattle.sem_scripts.specs.Kinds.{with_bodies}
use Rattle.mid_program.specs.Texts.{functions_texts, stmts_texts}
use Rattle.mid_code.specs.ViewNames.{view_bodies}
use Rattle.mid_code.proofs.BodyParts.{texts_at}
use Rattle.mid_code.proofs.TextTables.{leads_first, leads_next}
use Rattle.mid_code.proofs.texts.put_bodies.Goals as goal

pub loop-i-init : goal.loop-i-init
loop-i-init c = leads_first c.args.texts.now _

pub loop-i-preserved : goal.loop-i-preserved
loop-i-preserved c =
    let i = c.loop-i.i in
    let rest = functions_texts (with_bodies (view_functions (drop (i + 1) c.args.functions.now)) (view_bodies (drop (i + 1) c.args.bodies.now))) in
    leads_next _ (texts_at c.args.functions.now c.args.bodies.now i c.loop-i-test.true ∙ ap (λ (ss : Stmts). stmts_texts ss ++ rest) (sym c.body_at.ensures)) c.loop-i.invariant c.put_stmts.ensures
