use Rattle.std.proofs.Common.{map}
use Rattle.awk_tokens.specs.Views.{spelled}
use Rattle.mid_program.specs.View.{view_mid}
use Rattle.script_code.proofs.Codes.{coded, if_ok}
use Rattle.script_code.proofs.code.code_of_tokens.Goals as goal

pub returns-clause-ok : goal.returns-clause-ok
returns-clause-ok c =
    let plain = c.in_ok-mid.ensures.ok in
    if_ok c.unboxed.result
    (λ mid h. coded (map spelled c.args.tokens.now) (view_mid c.in_ok-mid.mid) (view_mid mid) plain
    (c.parsed_scripts_are_placed.ensures.code (map spelled c.args.tokens.now) plain.script plain.sound.parsed plain.sound.names) h)
    c.unboxed.ensures.ok
