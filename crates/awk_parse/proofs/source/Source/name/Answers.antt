use Rattle.awk_grammar.specs.Reading.{name_at}
use Rattle.awk_parse.specs.Seen.{seen}
use Rattle.awk_parse.specs.Parsed.{is_read}
use Rattle.awk_parse.proofs.ParsedLemmas.{fails_here, goes_on}
use Rattle.awk_parse.proofs.source.Source.name.Goals as goal

pub returns-in_default : goal.returns-in_default
returns-in_default c = fails_here _ _ _ _ _ name_at c.refuse.ensures (rw c.stopped.ensures c.in_default.ensures)

pub returns : goal.returns
returns c = goes_on _ (seen c.in-Some.rest.now) _ name_at (is_read c.in-Some.text.now) c.go_on.ensures c.in-Some.ensures c.copied.ensures
