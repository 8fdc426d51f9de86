use Rattle.std.proofs.Common.{refl, None, false}
use Rattle.host_worlds.proofs.Apart.{begins_new, holds_new}
use Rattle.host_worlds.proofs.input.Input.new.Goals as goal

pub returns-clause-held : goal.returns-clause-held
returns-clause-held c = λ kinds. holds_new _ kinds (c.new.ensures.held kinds) (c.new-2.ensures.held kinds) c.new-2.ensures.none

pub returns-clause-begins : goal.returns-clause-begins
returns-clause-begins c = λ state inner.
    begins_new (record { main = c.new.result; files = c.new-2.result; names = c.args.names; line = None; in_end = false }) state inner (c.new.ensures.begins state) c.new-2.ensures.none refl refl

pub returns-clause-none : goal.returns-clause-none
returns-clause-none c = c.new-2.ensures.none.1
