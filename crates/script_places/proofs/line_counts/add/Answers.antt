use Rattle.std.proofs.Common.{map, sym}
use Rattle.std.proofs.lemmas.Result.{on_ok_weaker}
use Rattle.awk_tokens.specs.Views.{spelled}
use Rattle.script_places.proofs.Firsts.{added, unplaced}
use Rattle.script_places.proofs.line_counts.add.Goals as goal

pub returns-in-Some : goal.returns-in-Some
returns-in-Some c =
    let tokens = map spelled c.args.tokens.now in
    on_ok_weaker c.add_place.result (λ h places are. added tokens places c.args.lines.now.items c.add_place.new.lines.items c.args.place c.in-Some.line (sym c.in-Some.ensures) h are) c.add_place.ensures

pub returns-in-None : goal.returns-in-None
returns-in-None c = λ places are.
    let tokens = map spelled c.args.tokens.now in
    unplaced tokens places c.args.lines.now.items c.args.place (sym c.in-None.ensures) are
