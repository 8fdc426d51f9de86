use Rattle.std.proofs.Common.{inl, refl}
use Rattle.task_pages.proofs.import_page.imports_to.Goals as goal

pub returns-in_ok-write_imports-in-Ok-clause-ok : goal.returns-in_ok-write_imports-in-Ok-clause-ok
returns-in_ok-write_imports-in-Ok-clause-ok g c = inl (refl, (c.in-Ok.imports.items, c.in-Ok.ensures.ok.0))
