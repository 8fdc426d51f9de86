use Rattle.wasm_types.specs.View.{view_module}
use Rattle.test_parts.proofs.Again.{given_again}
use Rattle.test_parts.proofs.round_trip.decode_written.Goals as goal

pub returns-clause-again : goal.returns-clause-again
returns-clause-again c = given_again (view_module c.args.m.now) c.decode.result (c.decode.ensures.only (view_module c.args.m.now) (rw c.deref.ensures.value c.in_ok-bytes.ensures.spelled))
