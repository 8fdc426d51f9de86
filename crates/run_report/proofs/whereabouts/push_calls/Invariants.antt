use Rattle.std.proofs.Common.{◌≡◌, ◌++◌, drop}
use Rattle.run_report.specs.WhereTexts.{calls_text}
use Rattle.run_report.proofs.whereabouts.push_calls.Given as goal

abbrev pub invariant-loop-site : goal.invariant-loop-site
invariant-loop-site l = l.text.items ++ calls_text (drop l.site-index l.calls) ≡ l.initial.text.items ++ calls_text l.calls
