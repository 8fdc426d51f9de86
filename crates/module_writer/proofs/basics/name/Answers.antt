use Rattle.std.proofs.lemmas.Str.{is_utf8-from_IsUtf8}
use Rattle.module_writer.proofs.basics.name.Goals as goal

pub returns : goal.returns
returns c = rw (is_utf8-from_IsUtf8 c.args.name.now c.utf8.name, ← c.as_bytes.ensures.value) c.counted.ensures
