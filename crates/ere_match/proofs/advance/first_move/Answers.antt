use Rattle.std.proofs.Common.{sym, ◌∙◌}
use Rattle.std.proofs.Props.{props}
use Rattle.std.proofs.Math.Logic.{∥∥₁_elim, ∥∥₁_map}
use Rattle.ere_match.proofs.Tables.{begin_as, begin_of}
use Rattle.ere_match.proofs.advance.first_move.Goals as goal

pub returns-in-Some-clause-begin : goal.returns-in-Some-clause-begin
returns-in-Some-clause-begin c = ∥∥₁_map c.requires.table (λ t. t.begins c.args.first c.in-Some.to (sym c.known_first.ensures ∙ c.in-Some.is))

pub make-requires-clause-set_len : goal.make-requires-clause-set_len
make-requires-clause-set_len c = ∥∥₁_elim c.requires.table (search props) (λ t. (c.no_threads.ensures.table c.args.nodes.now c.args.entry c.args.classes.now (c.make_room.ensures.table c.args.nodes.now c.args.entry c.args.classes.now t)).set_len)

pub make-requires-clause-next_len : goal.make-requires-clause-next_len
make-requires-clause-next_len c = ∥∥₁_elim c.requires.table (search props) (λ t. (c.no_threads.ensures.table c.args.nodes.now c.args.entry c.args.classes.now (c.make_room.ensures.table c.args.nodes.now c.args.entry c.args.classes.now t)).next_len)

pub returns-in_err-to-clause-table : goal.returns-in_err-to-clause-table
returns-in_err-to-clause-table c = ∥∥₁_map c.requires.table (λ t. (c.make.ensures.table c.args.classes.now (c.no_threads.ensures.table c.args.nodes.now c.args.entry c.args.classes.now (c.make_room.ensures.table c.args.nodes.now c.args.entry c.args.classes.now t))).table)

pub returns-clause-begin : goal.returns-clause-begin
returns-clause-begin c = ∥∥₁_map c.requires.table (λ t.
    (let h = c.no_threads.ensures.table c.args.nodes.now c.args.entry c.args.classes.now (c.make_room.ensures.table c.args.nodes.now c.args.entry c.args.classes.now t) in
    begin_as c.args.nodes.now c.args.entry c.args.first c.make.new.table c.keep_first.new.table c.in_ok-to.to c.keep_first.ensures.rows c.keep_first.ensures.sources (begin_of c.args.nodes.now c.args.entry c.args.first c.no_threads.new.table.next.items c.make.new.table c.in_ok-to.to h.next_len c.no_threads.ensures.empty c.in_ok-to.ensures.made)))

pub returns-clause-table : goal.returns-clause-table
returns-clause-table c = ∥∥₁_map c.requires.table (λ t.
    (let h = c.no_threads.ensures.table c.args.nodes.now c.args.entry c.args.classes.now (c.make_room.ensures.table c.args.nodes.now c.args.entry c.args.classes.now t) in
    let k = c.make.ensures.table c.args.classes.now h in
    c.keep_first.ensures.table c.args.nodes.now c.args.entry c.args.classes.now (begin_of c.args.nodes.now c.args.entry c.args.first c.no_threads.new.table.next.items c.make.new.table c.in_ok-to.to h.next_len c.no_threads.ensures.empty c.in_ok-to.ensures.made) k.table))
