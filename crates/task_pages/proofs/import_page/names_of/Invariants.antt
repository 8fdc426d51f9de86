use Rattle.std.proofs.Common.{◌≡◌, ◌++◌, drop}
use Rattle.std.specs.Prelude.{string_bytes}
use Rattle.task_pages.specs.Printed.{names_text}
use Rattle.task_pages.proofs.import_page.names_of.Given as goal

abbrev pub invariant-loop-import : goal.invariant-loop-import
invariant-loop-import l = string_bytes l.text ++ names_text (drop l.import-index l.imports) ≡ names_text l.imports
