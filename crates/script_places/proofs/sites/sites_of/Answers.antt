use Rattle.std.proofs.Common.{map, subst}
use Rattle.awk_grammar.specs.ViewStmt.{view_script}
use Rattle.awk_parse.specs.Parsing.{IsParsed}
use Rattle.awk_tokens.specs.Views.{spelled}
use Rattle.script_places.specs.Sites.{AreSites}
use Rattle.script_places.proofs.Answered.{of_ok}
use Rattle.script_places.proofs.sites.sites_of.Goals as goal

pub returns-clause-sites : goal.returns-clause-sites
returns-clause-sites c =
    let m = c.args.machine.now in
    let tree = view_script c.in-Ok-parse.tree in
    of_ok c.sites_in.result (λ sites are. (
      map spelled c.in-Ok.tokens.items,
      tree,
      c.in-Ok.ensures.found,
      subst (λ ts. IsParsed (map spelled ts) tree) c.deref.ensures.value c.in-Ok-parse.ensures.parsed,
      subst (λ ts. AreSites (map spelled ts) tree m.program m.conf sites.items) c.deref-2.ensures.value are,
    )) c.sites_in.ensures.sites
