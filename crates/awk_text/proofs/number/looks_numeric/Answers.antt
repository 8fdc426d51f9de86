use Rattle.std.proofs.Common.{rules}
use Rattle.awk_text.proofs.Meaning.{looks_meant}
use Rattle.awk_text.proofs.Plain.{digits_look}
use Rattle.awk_text.proofs.number.looks_numeric.Goals as goal

pub returns-in-None-clause-meaning : goal.returns-in-None-clause-meaning
returns-in-None-clause-meaning c = looks_meant c.args.text.now _ (search rules)

pub returns-in-Some-clause-meaning : goal.returns-in-Some-clause-meaning
returns-in-Some-clause-meaning c = looks_meant c.args.text.now _ (search rules)

pub returns-then-is_some-clause-meaning : goal.returns-then-is_some-clause-meaning
returns-then-is_some-clause-meaning c = looks_meant c.args.text.now _ (search (rules, digits_look))
