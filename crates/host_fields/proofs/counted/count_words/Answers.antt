use Rattle.std.proofs.Common.{arith}
use Rattle.host_fields.proofs.Counting.{words_end}
use Rattle.host_fields.proofs.counted.count_words.Goals as goal

pub returns : goal.returns
returns c = λ newlines. words_end c.loop-byte.count c.args.text.now c.loop-byte.byte-index c.loop-byte.is_inside newlines (omega arith) c.loop-byte.invariant.words
