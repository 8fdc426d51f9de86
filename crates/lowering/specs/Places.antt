-- Where statements within others are emitted.
use Rattle.std.specs.Prelude.{zero, suc, ◌≤◌}
use Rattle.lowering.specs.declared.around.Around.{Around}

-- `break` and `continue` stay within the function
abbrev pub OwnLabels : Around → Type 0
OwnLabels at = (at.break_to ≤ at.exit) × (at.continue_to ≤ at.exit)

-- in one of two ways
abbrev pub in_branch : Around → Around
in_branch at = record { iterators = at.iterators; exit = suc at.exit; break_to = suc at.break_to; continue_to = suc at.continue_to }

-- in the body of a loop: a `block` in a `loop` in a `block`
abbrev pub in_body : Around → Around
in_body at = record { iterators = at.iterators; exit = suc (suc (suc at.exit)); break_to = 2; continue_to = zero }

-- after the body
abbrev pub in_last : Around → Around
in_last at = record { iterators = at.iterators; exit = suc (suc at.exit); break_to = 1; continue_to = zero }

-- in the body of a loop over keys, which has an iterator of its own
abbrev pub in_keys : Around → Around
in_keys at = record { iterators = suc at.iterators; exit = suc (suc (suc at.exit)); break_to = 2; continue_to = zero }
