use Rattle.std.proofs.Common.{pos, arith}
use Rattle.lower_model.specs.Emission.{name_read}
use Rattle.lower_pieces.proofs.Appended.{◌⨟◌, same}
use Rattle.lower_expressions.specs.View.{view_layout}
use Rattle.lower_expressions.proofs.SourceLemmas.{all_of}
use Rattle.lower_expressions.proofs.sources.all_unsure.Goals as goal

pub returns : goal.returns
returns c = λ k.
    c.emit_all-2.ensures k ⨟ c.joined.ensures _ ⨟ (rw c.name_read.ensures at c.emit_all.ensures) _
    ⨟ same (all_of (name_read (view_layout c.args.layout.now)) c.args.names.now _ (pos c.args.shift) c.args.width k (omega arith))
