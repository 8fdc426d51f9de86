use Rattle.std.proofs.Common.{rules, arith, ◌++◌, ◌∷◌, [], ◌≡◌, Option, subst}
use Rattle.wasm_types.specs.View.{view_import, view_module}
use Rattle.wasm_model.specs.Links.{number_for}
use Rattle.host_imports.specs.Imports.{host_finds}
use Rattle.host_imports.specs.declared.import.Import.{Import}
use Rattle.task_pages.specs.Calls.{IsImportOf}
use Rattle.task_pages.proofs.Listing.{first_missing, one_more_at, all_taken}
use Rattle.task_pages.proofs.checks.imports_among.Goals as goal

pub returns-in_default : goal.returns-in_default
returns-in_default c =
    first_missing (λ x. number_for host_finds (view_module c.args.whole.now) (view_import x)) c.args.wanted.now c.loop-index.index c.loop-index.found.items
    c.index-wanted-index.result c.loop-index-test.true c.index-wanted-index.is c.loop-index.invariant
    (subst (λ (o : Option Import). IsImportOf o (number_for host_finds (view_module c.args.whole.now) (view_import c.index-wanted-index.result))) c.in_default.is c.import_for.ensures)

pub loop-index-preserved : goal.loop-index-preserved
loop-index-preserved c =
    let pushed : c.push.new.self.items ≡ c.loop-index.found.items ++ c.in-Some.it ∷ [] = search rules in
    one_more_at (λ x. number_for host_finds (view_module c.args.whole.now) (view_import x)) c.args.wanted.now c.loop-index.index c.loop-index.found.items
    c.push.new.self.items c.index-wanted-index.result c.in-Some.it c.loop-index-test.true c.index-wanted-index.is c.loop-index.invariant
    (subst (λ (o : Option Import). IsImportOf o (number_for host_finds (view_module c.args.whole.now) (view_import c.index-wanted-index.result))) c.in-Some.is c.import_for.ensures)
    pushed

pub returns : goal.returns
returns c =
    all_taken (λ x. number_for host_finds (view_module c.args.whole.now) (view_import x)) c.args.wanted.now c.loop-index.index c.loop-index.found.items
    c.loop-index.invariant (omega (arith, c.loop-index-test.false))
