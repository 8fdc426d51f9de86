use Rattle.std.proofs.Common.{◌≡◌, drop, false}
use Rattle.command_line.specs.Request.{texts}
use Rattle.command_line.specs.Line.{text_apart}
use Rattle.command_line.proofs.has_text_apart.Given as goal

abbrev pub invariant-loop-word : goal.invariant-loop-word
invariant-loop-word l = text_apart l.waits (texts (drop l.word-index l.words)) ≡ text_apart false (texts l.words)
