use Rattle.awk_text.proofs.ReadingFacts.{some_digits}
use Rattle.awk_text.proofs.number.numeric_otherwise.Goals as goal

pub whole_number-requires-clause-whole : goal.whole_number-requires-clause-whole
whole_number-requires-clause-whole c = (some_digits c.args.text.now _ c.in_ok-numeral.ensures).0

pub whole_number-requires-clause-fraction : goal.whole_number-requires-clause-fraction
whole_number-requires-clause-fraction c = (some_digits c.args.text.now _ c.in_ok-numeral.ensures).1
