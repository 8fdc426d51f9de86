use Rattle.std.proofs.Common.{List, map, subst, sym, take}
use Rattle.std.proofs.lemmas.List.{take_more}
use Rattle.awk_tokens.specs.Views.{spelled}
use Rattle.run_report.specs.declared.counts.PlaceCount.{PlaceCount}
use Rattle.script_places.specs.Passes.{AreFirsts}
use Rattle.script_places.proofs.line_counts.firsts_of.Goals as goal

pub loop-place-preserved : goal.loop-place-preserved
loop-place-preserved c =
    let tokens = map spelled c.args.tokens.now in
    let places = c.args.places.now in
    let at = c.loop-place.place-index in
    subst (λ (ps : List PlaceCount). AreFirsts tokens ps c.add.new.lines.items) (sym (take_more places at _ c.loop-place-test.true)) (c.in_ok-add.ensures (take at places) c.loop-place.invariant)
