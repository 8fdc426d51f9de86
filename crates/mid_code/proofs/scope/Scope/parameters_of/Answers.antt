use Rattle.std.proofs.Common.{◌<◌, ◌≤◌, List, get_or, length, ap, subst, ◌∙◌}
use Rattle.awk_grammar.specs.ViewStmt.{view_script}
use Rattle.awk_resolve.specs.ViewKinds.{view_name_kinds}
use Rattle.awk_resolve.specs.declared.function_names.FunctionNames.{FunctionNames}
use Rattle.sem_scripts.specs.Kinds.{bodies}
use Rattle.mid_code.specs.ViewScope.{scope_of}
use Rattle.mid_code.proofs.NameTables.{parameters_is, parameters_past}
use Rattle.mid_code.proofs.scope.Scope.parameters_of.Goals as goal

pub returns-in-Some : goal.returns-in-Some
unfolding scope_of
returns-in-Some c =
    let r = c.args.self.now.names.now.resolved.now in
    let d = c.in-Some.found.now in
    let e = c.deref.ensures.value in
    let lt = subst (λ (fs : List FunctionNames). c.args.function < length fs) e c.in-Some.ensures.lookup.3.0 in
    ap view_name_kinds c.deref-in-Some.ensures.value
    ∙ ap (λ (f : FunctionNames). view_name_kinds f.parameters.items) (c.in-Some.ensures.lookup.1 ∙ ap (λ (fs : List FunctionNames). get_or fs c.args.function d) e)
    ∙ parameters_is r.functions.items (bodies (view_script r.script.now)) c.args.function d lt

pub returns-in-None : goal.returns-in-None
unfolding scope_of
returns-in-None c =
    let r = c.args.self.now.names.now.resolved.now in
    parameters_past r.functions.items (bodies (view_script r.script.now)) c.args.function
    (subst (λ (fs : List FunctionNames). length fs ≤ c.args.function) c.deref.ensures.value c.in-None.ensures.lookup.3)
