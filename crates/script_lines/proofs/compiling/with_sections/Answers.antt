use Rattle.std.proofs.Common.{List, subst, sym, ℕ}
use Rattle.wasm_types.specs.ModuleGrammar.{IsModule}
use Rattle.script_lines.proofs.SectionsLemmas.{of_ok}
use Rattle.script_lines.proofs.compiling.with_sections.Goals as goal

pub returns-clause-found : goal.returns-clause-found
returns-clause-found c =
    of_ok c.with_lines.result (λ all found m read. found m (subst (λ (bs : List ℕ). IsModule bs m) (sym c.deref-2.ensures.value) (c.in_ok-named.ensures.same m read))) c.with_lines.ensures.found
