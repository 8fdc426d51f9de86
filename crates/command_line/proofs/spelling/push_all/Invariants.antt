use Rattle.std.proofs.Common.{◌≡◌, ◌++◌, drop}
use Rattle.std.specs.Prelude.{if◌then◌else◌}
use Rattle.command_line.specs.Request.{texts}
use Rattle.command_line.specs.Spelling.{spelled}
use Rattle.command_line.proofs.spelling.push_all.Given as goal

abbrev pub invariant-loop-word : goal.invariant-loop-word
invariant-loop-word l =
    let left = texts (drop l.word-index l.words) in
    texts l.line.items ++ (if l.ended then left else spelled left) ≡ texts l.initial.line.items ++ spelled (texts l.words)
