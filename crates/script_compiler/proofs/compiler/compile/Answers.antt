use Rattle.std.proofs.lemmas.Result.{err_from_is_err_and}
use Rattle.mid_program.specs.View.{view_mid}
use Rattle.script_compiler.proofs.Compiling.{compiled, no_bytes, texts_small}
use Rattle.script_compiler.proofs.Limits.{few}
use Rattle.script_compiler.proofs.compiler.compile.Goals as goal

pub returns-clause-compiled : goal.returns-clause-compiled
returns-clause-compiled c =
    let p = view_mid c.in_ok-mid.mid in
    let t = c.in_ok-mid.ensures.coded in
    let m = c.in_ok-bytes.ensures.ok in
    let sorted = t.said.sorted in
    let parameters = few t.tokens p t.said (c.few_parameters.ensures t.said.script t.said.sound.names) in
    let typed = (c.typed.ensures p sorted).0 (texts_small p c.in_ok-bytes.bytes.items m parameters) in
    compiled c.args.script.now c.in_ok-bytes.bytes.items p t m (c.modules_agree.ensures p sorted) typed
    _ (c.links.ensures.main p) (c.links.ensures.segments p)
    (c.modules_run.ensures.spelled p sorted c.in_ok-bytes.bytes.items m parameters)
    (record { functions = c.statements_have_places.ensures.routines p; main = c.statements_have_places.ensures.main p })
    (record { statement = c.nothing_kept.ensures.statement p sorted; returned = c.nothing_kept.ensures.returned p sorted })
    c.statements_of_scripts_are_quiet.ensures c.scripts_are_quiet_by_the_job.ensures c.statements_are_passed.ensures c.names_of_numbers_are_unboxed.ensures

pub returns-in_err-bytes-clause-refused : goal.returns-in_err-bytes-clause-refused
returns-in_err-bytes-clause-refused c =
    let p = err_from_is_err_and c.from_residual-in_err-bytes.result c.from_residual-in_err-bytes.ensures.1 in
    rw (p.1, p.2) (no_bytes c.code_has_bytes.ensures c.args.script.now (view_mid c.in_ok-mid.mid) c.in_err-bytes.field-0.0 c.in_ok-mid.ensures.coded c.in_err-bytes.ensures.err)
