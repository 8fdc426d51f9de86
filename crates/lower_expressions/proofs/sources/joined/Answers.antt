use Rattle.std.proofs.Common.{List, pos, map, sym, arith}
use Rattle.std.proofs.lemmas.List.{at_drop_all}
use Rattle.lower_model.specs.Quick.{joined}
use Rattle.lower_model.specs.Emission.{name_read}
use Rattle.lower_pieces.proofs.Appended.{◌⨟◌, same}
use Rattle.lower_expressions.specs.View.{view_layout}
use Rattle.lower_quick.specs.View.{view_holder}
use Rattle.lower_quick.specs.declared.source.Holder.{Holder}
use Rattle.lower_quick.specs.declared.source.Holder.TheVariants.{Name}
use Rattle.lower_expressions.proofs.SourceLemmas.{joined_step, names_left}
use Rattle.lower_expressions.proofs.sources.joined.Goals as goal

pub loop-name-preserved : goal.loop-name-preserved
loop-name-preserved c = record {
  fit = (names_left c.args.names.now c.loop-name.name-index (Name 0) (omega arith) c.loop-name.invariant.fit).1;
  emits = λ k. (rw c.name_read.ensures at c.emit_all.ensures) _
      ⨟ same (joined_step (name_read (view_layout c.args.layout.now)) c.args.names.now c.loop-name.name-index _ (pos c.args.shift) k (omega arith)) ⨟ c.loop-name.invariant.emits k;
}

pub returns : goal.returns
returns c = λ k.
    same (sym (at_drop_all (λ (is : List Holder). joined (name_read (view_layout c.args.layout.now)) (map view_holder is) (pos c.args.shift) k) c.args.names.now c.loop-name.name-index c.loop-name-test.false))
    ⨟ c.loop-name.invariant.emits k
