use Rattle.std.proofs.Common.{◌+◌, sym, ap, ◌∙◌}
use Rattle.ere_syntax.specs.declared.tree.ByteSet.{ByteSet}
use Rattle.ere_syntax.proofs.Lexes.{IsInserted, inserted, left_out}
use Rattle.ere_syntax.proofs.bracket.insert.Goals as goal
use Rattle.ere_syntax.proofs.bracket.insert.Goals.{then-contains, else-contains}

pub loop-byte-preserved : goal.loop-byte-preserved
loop-byte-preserved c =
    let s = c.loop-byte in
    let a : IsInserted c.args.set.now.has c.args.item s.byte s.set.has = record { len = s.invariant.len; done = s.invariant.done; rest = s.invariant.rest } in
    let b : IsInserted c.args.set.now.has c.args.item (s.byte + 1) c.if-contains.set.has = elim c.if-contains.branch [
      | then-contains w ↦ inserted c.args.set.now.has s.set.has c.if-contains.set.has c.args.item s.byte c.loop-byte-test.true (sym c.contains.ensures ∙ w.if-contains.true) (ap (λ (x : ByteSet). x.has) w.set-is) a
      | else-contains w ↦ left_out c.args.set.now.has s.set.has c.if-contains.set.has c.args.item s.byte (sym c.contains.ensures ∙ w.if-contains.false) (ap (λ (x : ByteSet). x.has) w.set-is) a
    ] in
    record { len = b.len; done = b.done; rest = b.rest }
