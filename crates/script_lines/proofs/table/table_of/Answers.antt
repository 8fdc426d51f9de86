use Rattle.std.proofs.Common.{◌≡◌, map, subst}
use Rattle.awk_grammar.specs.ViewStmt.{view_script}
use Rattle.awk_parse.specs.Parsing.{IsParsed}
use Rattle.awk_tokens.specs.Views.{spelled}
use Rattle.script_places.specs.Lines.{form_of}
use Rattle.script_lines.specs.Lined.{table_of}
use Rattle.script_lines.proofs.SectionsLemmas.{of_ok}
use Rattle.script_lines.proofs.table.table_of.Goals as goal

pub returns : goal.returns
returns c =
    let tree = view_script c.in-Ok-parse.tree in
    of_ok c.rows_of.result (λ table same. (
      map spelled c.in-Ok.tokens.items,
      tree,
      c.in-Ok.ensures.found,
      subst (λ ts. IsParsed (map spelled ts) tree) c.deref.ensures.value c.in-Ok-parse.ensures.parsed,
      subst (λ ts. map form_of table.items ≡ table_of (map spelled ts) tree) c.deref-2.ensures.value same,
    )) c.rows_of.ensures
