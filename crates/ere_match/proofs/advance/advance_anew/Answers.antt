use Rattle.std.proofs.Common.{arith, refl}
use Rattle.std.proofs.Math.Logic.{∥∥₁_elim, ∥∥₁_map, ∥∥₁_map₂, ∥∥₁_prop}
use Rattle.ere_match.proofs.Tables.{enter_step, has_moved, item_is}
use Rattle.ere_match.proofs.advance.advance_anew.Goals as goal

pub enter-requires : goal.enter-requires
enter-requires c = ∥∥₁_elim c.requires.table ∥∥₁_prop (λ t.
    (let read = (t.rows c.args.state c.index.result.now (item_is c.args.table.now.rows.items c.args.state c.index.result.now c.requires.state c.index.ensures)).room in
    ∥∥₁_map₂ c.compute.ensures.table c.in_ok-to.ensures.step (λ h s.
    enter_step c.args.nodes.now c.args.entry c.args.byte c.args.state c.index.result.now.count c.args.classes.now c.args.found c.args.table.now c.compute.new.table c.in_ok-to.to c.index.result.now c.index.ensures refl (omega (arith, read, c.compute.ensures.starts.longer)) h s)))

pub returns-clause-moved : goal.returns-clause-moved
returns-clause-moved c = ∥∥₁_map₂ c.requires.table c.in_ok-to.ensures.step (λ t s.
    (let read = (t.rows c.args.state c.index.result.now (item_is c.args.table.now.rows.items c.args.state c.index.result.now c.requires.state c.index.ensures)).room in
    has_moved c.args.nodes.now c.args.entry c.args.byte c.args.state c.index.result.now.count c.args.at c.enter.result c.args.found c.args.table.now c.compute.new.table c.enter.new.table c.in_ok-to.to c.index.result.now c.index.ensures refl (λ k less. c.compute.ensures.starts.at k (omega (arith, less, read))) s c.enter.ensures.entered))

pub returns-clause-table : goal.returns-clause-table
returns-clause-table c = ∥∥₁_map c.compute.ensures.table (λ t. c.enter.ensures.table c.args.nodes.now c.args.entry c.args.classes.now t)
