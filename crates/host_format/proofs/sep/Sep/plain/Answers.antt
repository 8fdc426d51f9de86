use Rattle.std.proofs.Common.{get_or, refl}
use Rattle.sem_primitives.specs.Fields.{Byte}
use Rattle.host_format.proofs.Refusals.{byte_separates, long_text}
use Rattle.host_format.proofs.sep.Sep.plain.Goals as goal

pub returns-else-byte-eq32-clause-some : goal.returns-else-byte-eq32-clause-some
returns-else-byte-eq32-clause-some c = byte_separates c.args.text.now c.in-len1.len_at_least c.in-len1.len_below c.if-byte-eq32.false

pub returns-else-byte-eq32-clause-sep : goal.returns-else-byte-eq32-clause-sep
returns-else-byte-eq32-clause-sep c = (Byte (get_or c.args.text.now 0 0), refl)

pub returns-in_default-clause-none : goal.returns-in_default-clause-none
returns-in_default-clause-none c = long_text c.args.text.now c.in_default.len_at_least
