use Rattle.std.proofs.Common.{◌∷◌, [], ap, length, length-append, map, subst, sym, arith}
use Rattle.script_places.specs.Lines.{form_of}
use Rattle.wasm_machine.specs.Places.{StandsAt, frame_at}
use Rattle.run_modules.specs.ModuleSeen.{AreLineSites}
use Rattle.run_modules.proofs.LineSites.{no_line_sites, with_line_site}
use Rattle.run_modules.proofs.module_sights.line_sites.Goals as goal

pub loop-number-init : goal.loop-number-init
loop-number-init c =
    let m = c.args.machine.now in (
      subst (AreLineSites (map form_of c.args.table.now) m.program m.conf) (sym c.new-sites.ensures.items) (no_line_sites (map form_of c.args.table.now) m.program m.conf),
      ap length c.new-sites.ensures.items,
    )

pub loop-number-preserved : goal.loop-number-preserved
loop-number-preserved c =
    let m = c.args.machine.now in
    let table = map form_of c.args.table.now in
    let inv = c.loop-number.invariant in
    let old = c.loop-number.sites.items in
    let site = c.in_ok-site.site in
    let items = c.in_ok-push.ensures.items in
    let place = c.in-Some.place in
    let stands = subst (λ n. StandsAt m.program.whole place (frame_at m.conf n)) (sym inv.1) c.in-Some.ensures.stands in
    let size = length-append old (site ∷ []) in
    let more = ap length items in (
      subst (AreLineSites table m.program m.conf) (sym items) (with_line_site table m.program m.conf old site place inv.0 stands c.in_ok-site.ensures),
      (let before = inv.1 in omega (arith, more, size, before)),
    )
