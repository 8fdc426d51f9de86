use Rattle.std.proofs.Common.{false}
use Rattle.std.proofs.lemmas.List.{get_or-replicate}
use Rattle.ere_syntax.proofs.tree.ByteSet.empty.Goals as goal

pub returns : goal.returns
returns c = λ k h. get_or-replicate 256 k false false h
