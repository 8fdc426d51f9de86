use Rattle.lower_pieces.proofs.Appended.{◌⨟◌}
use Rattle.lower_expressions.proofs.immediates.immediately_compared.Goals as goal

pub returns-clause-emits : goal.returns-clause-emits
returns-clause-emits c =
    let put = rw c.handle-local.ensures at (rw c.comparison_number.ensures at c.emit_all.ensures) in
    λ k. c.kept_code.ensures k ⨟ c.ask_row.ensures _ ⨟ c.immediate_pushed.ensures _ ⨟ put _ ⨟ c.to_value.ensures _
