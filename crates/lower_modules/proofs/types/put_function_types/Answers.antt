use Rattle.std.proofs.Common.{List, map, drop, ap}
use Rattle.std.proofs.lemmas.List.{drop_all}
use Rattle.awk_resolve.proofs.Names.{drop_at}
use Rattle.wasm_types.specs.Syntax.{Signature}
use Rattle.wasm_types.specs.View.{signature_of}
use Rattle.lower_model.specs.Modules.{callee_type}
use Rattle.latched.proofs.LatchedLemmas.{adding_all, adding_first, adding_next, adds_one}
use Rattle.lower_modules.specs.View.{view_function}
use Rattle.lower_modules.specs.declared.function.Function.{Function}
use Rattle.lower_modules.proofs.types.put_function_types.Goals as goal

abbrev types_of : List Function → List Signature
types_of fs = map callee_type (map view_function fs)

pub loop-function-init : goal.loop-function-init
loop-function-init c = adding_first signature_of c.args.all.now (types_of c.args.functions.now)

pub loop-function-preserved : goal.loop-function-preserved
loop-function-preserved c =
    let fs = c.args.functions.now in
    let i = c.loop-function.function-index in
    let f = c.function-item.result in
    adding_next signature_of (types_of (drop i fs)) (ap types_of (drop_at fs i f c.loop-function-test.true c.function-item.is)) c.loop-function.invariant
    (adds_one signature_of c.function_type.result (callee_type (view_function f)) c.push_made.ensures.added c.function_type.ensures)

pub returns : goal.returns
returns c =
    let fs = c.args.functions.now in
    let i = c.loop-function.function-index in
    adding_all signature_of (types_of (drop i fs)) (ap types_of (drop_all i fs c.loop-function-test.false)) c.loop-function.invariant
