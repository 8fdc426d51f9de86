use Rattle.std.proofs.Common.{rules}
use Rattle.awk_parse.proofs.Peeks.{keys_no_key, keys_no_in, keys_no_array, keys_no_close, keys_found}
use Rattle.awk_parse.proofs.statement_peek.keys.Goals as goal

pub returns-in_err-key : goal.returns-in_err-key
returns-in_err-key c = search (rules, keys_no_key _ c.in_err-key.ensures)

pub returns-in_err-others : goal.returns-in_err-others
returns-in_err-others c = search (rules, keys_no_in _ _ c.in_ok-key.ensures c.in_err-others.ensures.must)

pub returns-in_err-array : goal.returns-in_err-array
returns-in_err-array c = search (rules, keys_no_array _ _ _ c.in_ok-key.ensures c.in_ok-others.ensures.must c.in_err-array.ensures)

pub returns-in_err-rest : goal.returns-in_err-rest
returns-in_err-rest c = search (rules, keys_no_close _ _ _ _ c.in_ok-key.ensures c.in_ok-others.ensures.must c.in_ok-array.ensures c.in_err-rest.ensures.must)

pub returns : goal.returns
returns c = keys_found _ _ _ _ _ c.in_ok-key.ensures c.in_ok-others.ensures.must c.in_ok-array.ensures c.in_ok-rest.ensures.must
