use Rattle.std.proofs.Common.{string_bytes}
use Rattle.module_decoder.proofs.Steps.{made_is, name_is, name_bad}
use Rattle.module_decoder.proofs.reader.Reader.name.Goals as goal

pub returns-in-Ok : goal.returns-in-Ok
returns-in-Ok c =
    name_is (string_bytes c.made.result) c.in-Ok.ensures.cases.1 c.counted-text.ensures (made_is string_bytes c.from_str.result c.made.ensures.span c.made.ensures.rest c.made.ensures.made (rw c.in-Ok.ensures.cases.0 at c.from_str.ensures.ok))

pub returns-in-Err : goal.returns-in-Err
returns-in-Err c = name_bad c.in-Err.ensures.cases.0 c.counted-text.ensures c.fail.ensures.span (rw c.malformed.ensures at c.fail.ensures.fault)
