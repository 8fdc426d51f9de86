use Rattle.module_writer.proofs.Typed.{bytes_or_limit}
use Rattle.module_writer.proofs.limits.typed_modules_have_bytes.Goals as goal

pub returns : goal.returns
returns c = bytes_or_limit
