use Rattle.std.proofs.Common.{◌≡◌, length, ap, sym, ◌∙◌, arith}
use Rattle.awk_grammar.specs.ViewStmt.{view_script}
use Rattle.awk_resolve.specs.ViewFunctions.{view_functions}
use Rattle.sem_scripts.specs.Kinds.{bodies, with_bodies}
use Rattle.sem_scripts.specs.Names.{functions_length, or_past}
use Rattle.mid_code.proofs.NameTables.{function_from_is, function_in_bodies, functions_length_bodies}
use Rattle.mid_code.proofs.names.Names.function.Goals as goal

pub returns-in-Some : goal.returns-in-Some
returns-in-Some c =
    let r = c.args.self.now.resolved.now in
    let fs = view_functions r.functions.items in
    let bs = bodies (view_script r.script.now) in
    let x = c.args.name.now in
    sym (ap (or_past (functions_length (with_bodies fs bs))) (function_in_bodies fs bs x ∙ sym (function_from_is fs x) ∙ sym (c.args.self.now.functions_found x) ∙ sym c.in-Some.ensures.value))

pub returns-in-None : goal.returns-in-None
returns-in-None c =
    let r = c.args.self.now.resolved.now in
    let fs = view_functions r.functions.items in
    let bs = bodies (view_script r.script.now) in
    let x = c.args.name.now in
    let n : c.len.result ≡ length r.functions.items = omega arith in
    n ∙ sym (functions_length_bodies r.functions.items bs)
    ∙ sym (ap (or_past (functions_length (with_bodies fs bs))) (function_in_bodies fs bs x ∙ sym (function_from_is fs x) ∙ sym (c.args.self.now.functions_found x) ∙ sym c.in-None.ensures.value))
