use Rattle.std.proofs.Common.{rules, ap₂}
use Rattle.std.specs.Prelude.{◌&&◌, Bool}
use Rattle.awk_text.proofs.Magnitude.{nonzero_read}
use Rattle.awk_text.proofs.Nonzero.{nonzero_meant}
use Rattle.awk_text.proofs.ReadingFacts.{some_digits}
use Rattle.awk_text.proofs.number.is_nonzero.Goals as goal

pub are_zeros-requires : goal.are_zeros-requires
are_zeros-requires c = (some_digits c.args.text.now _ c.in-Some.ensures).0

pub are_zeros-requires-in-Some : goal.are_zeros-requires-in-Some
are_zeros-requires-in-Some c = (some_digits c.args.text.now _ c.in-Some.ensures).1

pub returns-in-None-clause-meaning : goal.returns-in-None-clause-meaning
returns-in-None-clause-meaning c = nonzero_meant c.args.text.now _ (search rules)

pub returns-in-Some-clause-value : goal.returns-in-Some-clause-value
returns-in-Some-clause-value c = nonzero_read c.args.text.now _ _ _ c.in-Some.ensures (ap₂ (λ (a b : Bool). a && b) c.are_zeros.ensures c.are_zeros-in-Some.ensures)

pub returns-in-Some-clause-meaning : goal.returns-in-Some-clause-meaning
returns-in-Some-clause-meaning c = nonzero_meant c.args.text.now _ (returns-in-Some-clause-value c)
