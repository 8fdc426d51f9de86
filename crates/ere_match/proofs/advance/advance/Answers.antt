use Rattle.std.proofs.Common.{rules, arith, refl, ap, sym, ◌∙◌, get_or}
use Rattle.std.proofs.Props.{props}
use Rattle.std.proofs.Math.Logic.{∥∥₁_elim, ∥∥₁_map}
use Rattle.ere_match.proofs.Tables.{column_read, enter_step, has_moved, item_is}
use Rattle.ere_match.proofs.advance.advance.Goals as goal

pub index-requires-2 : goal.index-requires-2
index-requires-2 c = ∥∥₁_elim c.requires.table (search props) (λ t. omega (arith, t.wide, c.requires.state))

pub enter-requires : goal.enter-requires
enter-requires c = ∥∥₁_map c.requires.table (λ t.
    enter_step c.args.nodes.now c.args.entry c.args.byte c.args.state c.index.result.now.count c.args.classes.now c.args.found c.args.table.now c.args.table.now c.in-Some.to c.index.result.now c.index.ensures refl
    (t.rows c.args.state c.index.result.now (item_is c.args.table.now.rows.items c.args.state c.index.result.now c.requires.state c.index.ensures)).room t
    (column_read c.args.nodes.now c.args.entry c.args.byte c.args.state (get_or c.args.classes.now c.from.result 0) c.args.classes.now c.args.found c.index-2.result.now c.in-Some.to c.args.table.now t (search rules) (ap (λ i. get_or c.args.classes.now i 0) c.from.ensures)
    (item_is c.args.table.now.moves.items c.args.state c.index-2.result.now (omega (arith, t.wide, c.requires.state)) c.index-2.ensures) (sym c.at.ensures ∙ c.in-Some.is)))

pub returns-in-Some-clause-moved : goal.returns-in-Some-clause-moved
returns-in-Some-clause-moved c = ∥∥₁_map c.requires.table (λ t.
    has_moved c.args.nodes.now c.args.entry c.args.byte c.args.state c.index.result.now.count c.args.at c.enter.result c.args.found c.args.table.now c.args.table.now c.enter.new.table c.in-Some.to c.index.result.now c.index.ensures refl (λ k less. refl)
    (column_read c.args.nodes.now c.args.entry c.args.byte c.args.state (get_or c.args.classes.now c.from.result 0) c.args.classes.now c.args.found c.index-2.result.now c.in-Some.to c.args.table.now t (search rules) (ap (λ i. get_or c.args.classes.now i 0) c.from.ensures)
    (item_is c.args.table.now.moves.items c.args.state c.index-2.result.now (omega (arith, t.wide, c.requires.state)) c.index-2.ensures) (sym c.at.ensures ∙ c.in-Some.is)) c.enter.ensures.entered)

pub returns-in-Some-clause-table : goal.returns-in-Some-clause-table
returns-in-Some-clause-table c = ∥∥₁_map c.requires.table (λ t. c.enter.ensures.table c.args.nodes.now c.args.entry c.args.classes.now t)
