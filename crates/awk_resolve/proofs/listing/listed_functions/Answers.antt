use Rattle.std.proofs.Common.{◌≡◌, List, Result, Ok, Err, map, ap}
use Rattle.std.proofs.lemmas.List.{drop_all}
use Rattle.std.specs.Result.{IfOk}
use Rattle.awk_grammar.specs.ViewStmt.{view_names}
use Rattle.awk_grammar.specs.Kinds.{Function, Name, named, head_keys, functions_by}
use Rattle.latched.proofs.LatchedLemmas.{adds_one, leads_all, leads_first, leads_next}
use Rattle.awk_resolve.specs.Marked.{is_marked_in}
use Rattle.awk_resolve.specs.ViewFunctions.{view_function}
use Rattle.awk_resolve.specs.ViewKinds.{view_name_kinds}
use Rattle.awk_resolve.specs.ViewNames.{view_heads, view_variables}
use Rattle.awk_resolve.specs.declared.function_names.FunctionNames.{FunctionNames}
use Rattle.awk_resolve.specs.declared.scopes.Head.{Head}
use Rattle.awk_resolve.proofs.Names.{drop_at}
use Rattle.awk_resolve.proofs.listing.listed_functions.Goals as goal

function_is : {E : Type 0} (r : Result FunctionNames E) (h : Head) (ps : List Name) → IfOk r (λ x. x.name ≡ h.name) → IfOk r (λ x. view_name_kinds x.parameters.items ≡ ps) → IfOk r (λ x. view_function x ≡ record { name = h.name.now; parameters = ps })
function_is (Ok x) h ps e f = λ i. record { name = (e i).now; parameters = f i }
function_is (Err x) h ps e f = tt

pub loop-head-init : goal.loop-head-init
loop-head-init c = leads_first view_function c.new-all.result _ (ap (map view_function) c.new-all.ensures.items)

pub loop-head-preserved : goal.loop-head-preserved
loop-head-preserved c =
    let kinds = c.args.kinds.now in
    let arrays = is_marked_in (view_variables kinds.variables.keys) kinds.arrays.items in
    let h = c.head-item.result in
    let ps = map (named arrays) (head_keys h.name.now (view_names h.parameters.now)) in
    let form : Function = record { name = h.name.now; parameters = ps } in
    leads_next view_function _ (ap (λ (us : List Head). functions_by arrays (view_heads us)) (drop_at c.args.heads.now c.loop-head.head-index h c.loop-head-test.true c.head-item.is)) c.loop-head.invariant
    (adds_one view_function c.function_names.result form c.push_made.ensures.added (function_is c.function_names.result h ps c.function_names.ensures.name c.function_names.ensures.parameters))

pub returns : goal.returns
returns c =
    let kinds = c.args.kinds.now in
    let arrays = is_marked_in (view_variables kinds.variables.keys) kinds.arrays.items in
    leads_all view_function {b = c.loop-head.all} _ c.into_vec.result (ap (λ (us : List Head). functions_by arrays (view_heads us)) (drop_all c.loop-head.head-index c.args.heads.now c.loop-head-test.false)) c.loop-head.invariant c.into_vec.ensures.all
