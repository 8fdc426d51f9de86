use Rattle.std.proofs.Common.{◌≡◌, ◌++◌, take}
use Rattle.host_bytes.proofs.growing.append.Given as goal

abbrev pub invariant-loop-byte : goal.invariant-loop-byte
invariant-loop-byte l = l.to.items ≡ l.fn.to.items ++ take l.byte-index l.bytes
