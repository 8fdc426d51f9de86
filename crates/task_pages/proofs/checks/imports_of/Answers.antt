use Rattle.std.proofs.Common.{sym, subst}
use Rattle.wasm_types.specs.declared.module.Module.{Module}
use Rattle.wasm_types.specs.View.{view_module}
use Rattle.task_pages.specs.Calls.{IsTyped}
use Rattle.task_pages.proofs.Silent.{asked_imports, listed_imports, silent_imports, unlisted_imports}
use Rattle.task_pages.proofs.checks.imports_of.Goals as goal

pub returns-clause-listed : goal.returns-clause-listed
returns-clause-listed c =
    listed_imports c.args.bytes.now c.get-whole.result.now c.deref.result.now
    (subst (λ (m : Module). IsTyped c.args.bytes.now (view_module m)) (sym c.get-whole.ensures.same) c.in_ok-valid.ensures.ok)
    c.deref.ensures.value c.imports_among.result c.imports_among.ensures

pub returns-clause-asked : goal.returns-clause-asked
returns-clause-asked c =
    asked_imports c.args.bytes.now c.get-whole.result.now c.deref.result.now
    (subst (λ (m : Module). IsTyped c.args.bytes.now (view_module m)) (sym c.get-whole.ensures.same) c.in_ok-valid.ensures.ok)
    c.deref.ensures.value c.imports_among.result c.imports_among.ensures

pub returns-clause-silent : goal.returns-clause-silent
returns-clause-silent c =
    silent_imports c.args.bytes.now c.get-whole.result.now c.deref.result.now
    (subst (λ (m : Module). IsTyped c.args.bytes.now (view_module m)) (sym c.get-whole.ensures.same) c.in_ok-valid.ensures.ok)
    c.deref.ensures.value c.imports_among.result c.imports_among.ensures

pub returns-clause-err : goal.returns-clause-err
returns-clause-err c =
    unlisted_imports c.args.bytes.now c.get-whole.result.now c.deref.result.now
    (subst (λ (m : Module). IsTyped c.args.bytes.now (view_module m)) (sym c.get-whole.ensures.same) c.in_ok-valid.ensures.ok)
    c.deref.ensures.value c.imports_among.result c.imports_among.ensures
