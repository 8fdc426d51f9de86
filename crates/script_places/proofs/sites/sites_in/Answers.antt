use Rattle.std.proofs.Common.{◌∷◌, [], ap, length, length-append, map, subst, sym, arith}
use Rattle.awk_grammar.specs.ViewStmt.{view_script}
use Rattle.awk_tokens.specs.Views.{spelled}
use Rattle.wasm_machine.specs.Places.{StandsAt, frame_at}
use Rattle.script_places.specs.Sites.{AreSites}
use Rattle.script_places.proofs.SiteLemmas.{no_sites, with_site}
use Rattle.script_places.proofs.sites.sites_in.Goals as goal

pub loop-number-init : goal.loop-number-init
loop-number-init c =
    let m = c.args.machine.now in (
      subst (AreSites (map spelled c.args.tokens.now) (view_script c.args.tree.now) m.program m.conf) (sym c.new-sites.ensures.items)
          (no_sites (map spelled c.args.tokens.now) (view_script c.args.tree.now) m.program m.conf),
      ap length c.new-sites.ensures.items,
    )

pub loop-number-preserved : goal.loop-number-preserved
loop-number-preserved c =
    let m = c.args.machine.now in
    let tokens = map spelled c.args.tokens.now in
    let tree = view_script c.args.tree.now in
    let inv = c.loop-number.invariant in
    let old = c.loop-number.sites.items in
    let site = c.in_ok-site.site in
    let items = c.in_ok-push.ensures.items in
    let place = c.in-Some.place in
    let stands = subst (λ n. StandsAt m.program.whole place (frame_at m.conf n)) (sym inv.1) c.in-Some.ensures.stands in
    let size = length-append old (site ∷ []) in
    let more = ap length items in (
      subst (AreSites tokens tree m.program m.conf) (sym items) (with_site tokens tree m.program m.conf old site place inv.0 stands c.in_ok-site.ensures),
      (let before = inv.1 in omega (arith, more, size, before)),
    )
