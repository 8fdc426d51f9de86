use Rattle.std.proofs.Common.{◌≡◌, ◌+◌, suc, arith}
use Rattle.lower_pieces.proofs.Appended.{◌⨟◌}
use Rattle.wasm_types.specs.Syntax.{Done}
use Rattle.lowering.proofs.records.record_turn.Goals as goal

pub returns : goal.returns
returns c = λ k.
    let inner : c.args.exit + 2 ≡ suc (suc c.args.exit) = omega arith in
    c.assignment_made.ensures k ⨟ c.when.ensures _ ((rw inner at c.record_way.ensures) Done _ (c.new-way.ensures _)) _ ⨟ c.record_asked.ensures _
