use Rattle.std.proofs.Common.{ap}
use Rattle.awk_grammar.specs.Reading.{expr_at}
use Rattle.awk_parse.specs.Seen.{seen}
use Rattle.awk_parse.specs.Bodies.{Keyed, keyed_by, keyed_at, counted_at}
use Rattle.awk_parse.specs.Parsed.{is_read}
use Rattle.awk_parse.proofs.ParsedLemmas.{stays, then, goes_on, goes_as}
use Rattle.awk_parse.proofs.head.keyed.Goals as goal

pub returns-in_default : goal.returns-in_default
returns-in_default c =
    let expr = expr_at c.args.limit in
    let ts = seen c.args.source.now.rest.now in
    goes_as ts _ (keyed_at expr) (counted_at expr) (ap (keyed_by expr ts) c.in_default.ensures) c.counted.ensures

pub returns : goal.returns
returns c =
    let expr = expr_at c.args.limit in
    let ts = seen c.args.source.now.rest.now in
    let key = c.in-Some.key.now in
    let array = c.in-Some.array.now in
    goes_on ts (seen c.in-Some.rest.now) _ (keyed_at expr) (is_read (Keyed key array)) c.go_on.ensures (ap (keyed_by expr ts) c.in-Some.ensures)
    (then (λ k. is_read (Keyed k.0 array) k.1) c.copied-key.ensures (then (λ a. is_read (Keyed c.copied-key.result.items a.0) a.1) c.copied-array.ensures (stays _ _)))
