use Rattle.command_line.proofs.SpellingLemmas.{found, lost, other}
use Rattle.command_line.proofs.spelling.attached.Goals as goal
use Rattle.command_line.proofs.spelling.attached.Goals.{in_default-via-in-Some+else-starts_with, in_default-via-in_default}

pub returns-in-Some : goal.returns-in-Some
returns-in-Some c = found c.args.option.now c.args.word.now c.in-Some.text.now c.in-Some.ensures.cases _ c.if-starts_with.true c.starts_with.ensures.cases

pub returns-in_default : goal.returns-in_default
returns-in_default c = elim c.in_default.branch [
  | in_default-via-in-Some+else-starts_with w ↦ lost c.args.option.now c.args.word.now w.in-Some.text.now w.in-Some.ensures.cases _ w.if-starts_with.false w.starts_with.ensures.cases
  | in_default-via-in_default w ↦ other c.args.option.now c.args.word.now w.in_default.ensures.cases
]
