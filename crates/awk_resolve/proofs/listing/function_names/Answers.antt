use Rattle.std.proofs.Common.{ℕ, List, Ok, map, ap, ◌∙◌}
use Rattle.std.proofs.lemmas.List.{drop_all}
use Rattle.std.specs.Global.{Vec}
use Rattle.awk_grammar.specs.ViewStmt.{view_names}
use Rattle.awk_grammar.specs.Kinds.{Inside, named, head_keys}
use Rattle.latched.proofs.LatchedLemmas.{adds_one, leads_all, leads_first, leads_next}
use Rattle.awk_resolve.specs.Marked.{is_marked_in}
use Rattle.awk_resolve.specs.ViewNames.{view_variables}
use Rattle.awk_resolve.specs.ViewKinds.{view_name}
use Rattle.awk_resolve.specs.declared.function_names.NameKind.{NameKind}
use Rattle.awk_resolve.proofs.Names.{drop_at}
use Rattle.awk_resolve.proofs.listing.function_names.Goals as goal

pub loop-parameter-init : goal.loop-parameter-init
loop-parameter-init c = leads_first view_name c.new-all.result _ (ap (map view_name) c.new-all.ensures.items)

pub loop-parameter-preserved : goal.loop-parameter-preserved
loop-parameter-preserved c =
    let kinds = c.args.kinds.now in
    let arrays = is_marked_in (view_variables kinds.variables.keys) kinds.arrays.items in
    let f = c.args.head.name.now in
    let ps = c.args.head.parameters.now in
    let x = c.parameter-item.result in
    let same = c.as_slice-name.ensures.value in
    let is = c.is_array-is_array.ensures ∙ ap (λ (u : List ℕ). arrays (Inside f u)) same in
    let item : NameKind = record { name = c.as_slice-name.result; is_array = c.is_array-is_array.result } in
    leads_next view_name _ (ap (λ (us : List (Vec ℕ)). map (named arrays) (head_keys f (view_names us))) (drop_at ps c.loop-parameter.parameter-index x c.loop-parameter-test.true c.parameter-item.is)) c.loop-parameter.invariant
    (adds_one view_name (Ok item) (named arrays (Inside f x.items)) c.push.ensures.added (λ j. record { name = same j; is_array = is j }))

pub returns-clause-parameters : goal.returns-clause-parameters
returns-clause-parameters c =
    let kinds = c.args.kinds.now in
    let arrays = is_marked_in (view_variables kinds.variables.keys) kinds.arrays.items in
    let f = c.args.head.name.now in
    let ps = c.args.head.parameters.now in
    leads_all view_name {b = c.loop-parameter.all} _ (Ok c.in_ok-parameters.parameters) (ap (λ (us : List (Vec ℕ)). map (named arrays) (head_keys f (view_names us))) (drop_all c.loop-parameter.parameter-index ps c.loop-parameter-test.false)) c.loop-parameter.invariant c.in_ok-parameters.ensures.all
