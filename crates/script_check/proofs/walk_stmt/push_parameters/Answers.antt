use Rattle.script_check.specs.declared.uses.Deed.TheVariants.{Takes}
use Rattle.std.proofs.Common.{ℕ, Some, List, [], ◌∷◌, ap, arith}
use Rattle.std.proofs.lemmas.List.{drop_all}
use Rattle.std.specs.Global.{Vec}
use Rattle.awk_grammar.specs.ViewStmt.{view_names}
use Rattle.script_check.specs.Uses.{does, parameter_uses}
use Rattle.latched.proofs.LatchedLemmas.{adding_all, adding_first, adding_next, adds_as}
use Rattle.script_check.specs.View.{view_use}
use Rattle.awk_resolve.proofs.Names.{drop_at}
use Rattle.script_check.proofs.walk_stmt.push_parameters.Goals as goal

pub loop-name-init : goal.loop-name-init
loop-name-init c = adding_first view_use c.args.out.now _

pub loop-name-preserved : goal.loop-name-preserved
loop-name-preserved c =
    adding_next view_use _ (ap (λ (us : List (Vec ℕ)). parameter_uses c.args.function.now (view_names us)) (drop_at c.args.parameters.now c.loop-name.name-index c.name-item.result c.loop-name-test.true c.name-item.is))
    c.loop-name.invariant (adds_as view_use _ _ (ap (λ (x : List ℕ). does (Some c.args.function.now) Takes x ∷ []) c.deref.ensures.value) c.put.ensures)

pub returns : goal.returns
returns c =
    adding_all view_use _ (ap (λ (us : List (Vec ℕ)). parameter_uses c.args.function.now (view_names us)) (drop_all c.loop-name.name-index c.args.parameters.now (omega arith))) c.loop-name.invariant
