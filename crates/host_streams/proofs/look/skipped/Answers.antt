use Rattle.std.proofs.Common.{◌∙◌, ◌+◌, ap}
use Rattle.host_streams.proofs.Finding.{rest_is, known_none, known_skips, known_skips_more}
use Rattle.host_streams.proofs.look.skipped.Goals as goal

pub returns-then-known-gt0-clause-value : goal.returns-then-known-gt0-clause-value
returns-then-known-gt0-clause-value c = known_skips c.args.rs c.args.bytes.now c.args.known c.requires.known c.if-known-gt0.true

pub returns-then-known-gt0-clause-none : goal.returns-then-known-gt0-clause-none
returns-then-known-gt0-clause-none c = known_none c.args.rs c.args.bytes.now c.args.known c.requires.known

pub returns-clause-value : goal.returns-clause-value
returns-clause-value c =
    let value = rw (rest_is c.args.known.skipped c.args.bytes.now) at c.skipped_of.ensures.value in
    ap (λ n. c.args.known.skipped + n) value ∙ known_skips_more c.args.rs c.args.bytes.now c.args.known c.requires.known c.if-known-gt0.false
