use Rattle.std.proofs.Common.{ap, refl, Some}
use Rattle.ere_match.specs.Rows.{begin_at}
use Rattle.ere_match.proofs.Tables.{first_put, put_false, put_true}
use Rattle.ere_match.proofs.advance.keep_first.Goals as goal

pub returns-then-first-clause-table : goal.returns-then-first-clause-table
returns-then-first-clause-table c = λ all entry classes b t.
    (let new = record c.args.table.now { at_first = Some c.args.to } in
    first_put all entry classes c.args.first c.args.to c.args.table.now new t.set_len t.next_len refl refl refl refl (ap (λ k. begin_at k new) c.if-first.true) (put_true c.args.table.now new refl c.args.first c.if-first.true) b t)

pub returns-else-first-clause-table : goal.returns-else-first-clause-table
returns-else-first-clause-table c = λ all entry classes b t.
    (let new = record c.args.table.now { elsewhere = Some c.args.to } in
    first_put all entry classes c.args.first c.args.to c.args.table.now new t.set_len t.next_len refl refl refl refl (ap (λ k. begin_at k new) c.if-first.false) (put_false c.args.table.now new refl c.args.first c.if-first.false) b t)
