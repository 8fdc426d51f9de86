use Rattle.std.proofs.Common.{nat_eq}
use Rattle.std.proofs.Math.Logic.{∥∥₁_map, ∥∥₁_map₂}
use Rattle.ere_match.proofs.Tables.{enter_begin, has_begun}
use Rattle.ere_match.proofs.advance.begin.Goals as goal

pub enter-requires : goal.enter-requires
enter-requires c = ∥∥₁_map₂ c.first_move.ensures.table c.in_ok-to.ensures.begin (λ t b. enter_begin c.args.nodes.now c.args.entry c.args.classes.now (nat_eq c.args.from 0) c.first_move.new.table c.in_ok-to.to t b)

pub returns-clause-begun : goal.returns-clause-begun
returns-clause-begun c = ∥∥₁_map c.in_ok-to.ensures.begin (λ b. has_begun c.args.nodes.now c.args.entry c.args.from c.enter.result c.first_move.new.table c.enter.new.table c.in_ok-to.to b c.enter.ensures.entered)

pub returns-clause-table : goal.returns-clause-table
returns-clause-table c = ∥∥₁_map c.first_move.ensures.table (λ t. c.enter.ensures.table c.args.nodes.now c.args.entry c.args.classes.now t)
