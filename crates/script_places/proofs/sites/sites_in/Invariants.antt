use Rattle.std.proofs.Common.{◌≡◌, length, map}
use Rattle.awk_grammar.specs.ViewStmt.{view_script}
use Rattle.awk_tokens.specs.Views.{spelled}
use Rattle.script_places.specs.Sites.{AreSites}
use Rattle.script_places.proofs.sites.sites_in.Given as goal

abbrev pub invariant-loop-number : goal.invariant-loop-number
invariant-loop-number l =
    AreSites (map spelled l.tokens) (view_script l.tree) l.machine.program l.machine.conf l.sites.items × (length l.sites.items ≡ l.number)
