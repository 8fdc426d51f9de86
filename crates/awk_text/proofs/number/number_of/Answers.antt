use Rattle.std.proofs.Common.{rules}
use Rattle.awk_text.proofs.ReadingFacts.{some_digits}
use Rattle.awk_text.proofs.Meaning.{number_meant}
use Rattle.awk_text.proofs.Plain.{digits_number}
use Rattle.awk_text.proofs.number.number_of.Goals as goal

pub whole_number-requires-clause-whole : goal.whole_number-requires-clause-whole
whole_number-requires-clause-whole c = (some_digits c.args.text.now _ c.in-Some-read_numeral.ensures).0

pub whole_number-requires-clause-fraction : goal.whole_number-requires-clause-fraction
whole_number-requires-clause-fraction c = (some_digits c.args.text.now _ c.in-Some-read_numeral.ensures).1

pub returns-in-None-clause-meaning : goal.returns-in-None-clause-meaning
returns-in-None-clause-meaning c = number_meant c.args.text.now _ (search rules)

pub returns-in-Some-read_numeral-clause-meaning : goal.returns-in-Some-read_numeral-clause-meaning
returns-in-Some-read_numeral-clause-meaning c = number_meant c.args.text.now _ (search rules)

pub returns-in-Some-clause-meaning : goal.returns-in-Some-clause-meaning
returns-in-Some-clause-meaning c = number_meant c.args.text.now _ (search (rules, digits_number))
