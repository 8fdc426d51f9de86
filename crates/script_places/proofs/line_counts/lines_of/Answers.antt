use Rattle.std.proofs.Common.{◌∙◌, List, map, subst}
use Rattle.awk_grammar.specs.ViewStmt.{view_script}
use Rattle.awk_parse.specs.Parsing.{IsParsed}
use Rattle.awk_tokens.specs.Views.{spelled}
use Rattle.run_report.specs.declared.counts.PlaceCount.{PlaceCount}
use Rattle.script_places.specs.Passes.{AreFirsts}
use Rattle.script_places.proofs.Answered.{of_ok}
use Rattle.script_places.proofs.line_counts.lines_of.Goals as goal

pub returns : goal.returns
returns c = λ moments tallied.
    let tree = view_script c.in-Ok-parse.tree in
    let places = c.deref-3.ensures.value ∙ c.in_ok-places.ensures moments tallied in
    of_ok c.firsts_of.result (λ lines are. (
      map spelled c.in-Ok.tokens.items,
      tree,
      c.in-Ok.ensures.found,
      subst (λ ts. IsParsed (map spelled ts) tree) c.deref.ensures.value c.in-Ok-parse.ensures.parsed,
      subst (λ (ps : List PlaceCount). AreFirsts (map spelled c.in-Ok.tokens.items) ps lines.items) places (subst (λ ts. AreFirsts (map spelled ts) c.deref-3.result.now lines.items) c.deref-2.ensures.value are),
    )) c.firsts_of.ensures
