use Rattle.std.proofs.Common.{sym}
use Rattle.host_streams.proofs.Skipped.{skipped_found}
use Rattle.host_worlds.specs.States.{Over, over_world, with_tables}
use Rattle.host_worlds.proofs.Apart.{holds_next, tables_next, writers_stay}
use Rattle.host_worlds.proofs.SkipCalls.{given_as, skip_called, skip_trapped}
use Rattle.host_streams.proofs.Given.{none_still}
use Rattle.host_worlds.proofs.input_calls.next_file.Goals as goal

pub returns-in-Err-clause-called : goal.returns-in-Err-clause-called
returns-in-Err-clause-called g c = λ f memory texts none.
    skip_trapped g.W.World.is_modelled (over_world texts c.args.input.now (g.W.World.state c.args.world.now) f) c.args.words.now memory c.in-Err.kind none (sym c.in-Err.ensures)

pub returns-clause-held : goal.returns-clause-held
returns-clause-held g c =
    holds_next c.args.input.now c.skip.new.self (g.W.World.kinds c.args.world.now) (g.W.World.kinds c.skip.new.world) c.requires.held c.skip.ensures.held c.skip.ensures.spares

pub returns-clause-goes : goal.returns-clause-goes
returns-clause-goes g c = λ tells.
    writers_stay c.args.input.now.main.reading (g.W.World.kinds c.args.world.now) (g.W.World.state c.args.world.now) (g.W.World.state c.skip.new.world) (c.skip.ensures.places tells) c.args.input.now.files.writers.items
    c.requires.held.files.1 c.requires.held.apart.1 (c.requires.goes tells)

pub returns-clause-called : goal.returns-clause-called
returns-clause-called g c = λ f memory texts none.
    let old = g.W.World.state c.args.world.now in
    let new = g.W.World.state c.skip.new.world in
    skip_called texts c.args.input.now c.skip.new.self old new g.W.World.is_modelled f memory none
    (λ tells inner. given_as (with_tables texts c.args.input.now (Over old) inner) _ _ (c.skip.ensures.told tells (with_tables texts c.args.input.now (Over old) inner))
    (tables_next texts c.args.input.now c.skip.new.self (g.W.World.kinds c.args.world.now) old new inner c.requires.held (c.skip.ensures.places tells)))
    c.skip.ensures.outside
    (λ inner. skipped_found c.args.input.now.main c.skip.new.self inner c.skip.ensures.nothing c.skip.ensures.ended c.skip.ensures.next
    c.skip.ensures.found c.skip.ensures.standard)
    c.args.words.now (sym c.in_default.ensures)

pub returns-in-Err-clause-gives : goal.returns-in-Err-clause-gives
returns-in-Err-clause-gives g c = none_still g.W.World.did c.args.world.now
